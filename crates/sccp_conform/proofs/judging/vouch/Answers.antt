use Rattle.sccp_conform.proofs.judging.vouch.Goals as goal

pub returns : goal.returns
returns c = λ plan events j judged watched.
    let all = c.counted_truly.ensures.all plan events j.lines j.left watched in
    record {
      judged = judged;
      watched = watched;
      unanswered = record {
        waits = λ k w at. c.unanswered_truly.ensures.waits plan events j.lines j.left.waiting k w judged at;
        given = λ k w gives. c.unanswered_truly.ensures.given plan events j.lines j.left.waiting k w judged gives;
      };
      counted = record {
        relays_are = all.0;
        events_are = all.1;
        unexplained_are = all.2;
        counts = λ node t at. c.counted_truly.ensures.each plan events j.lines j.left node t watched at;
        sum = λ node t at few. c.counted_truly.ensures.sum plan events j.lines j.left node t watched at few;
        targets = λ node relay t there at. c.counted_truly.ensures.targets plan events j.lines j.left node relay t watched there at;
        least = λ node t parts at are. c.markings_are_least.ensures.least plan events j.lines j.left node t parts watched at are;
        reached = λ node t at. c.markings_are_least.ensures.reached plan events j.lines j.left node t watched at;
      };
    }
