use Rattle.relay_watch.proofs.judging.addressed.Goals as goal

pub returns-clause-said : goal.returns-clause-said
returns-clause-said c = record {
  found = c.in_ok-found.found;
  search = c.in_ok-found.ensures;
  why = c.in_ok-verdict.ensures.why;
  verdict_is = c.in_ok-verdict.ensures.is;
  says_why = c.in_ok-verdict.ensures.says;
  place_is = c.place_of-place.ensures;
  begins_is = c.in_ok-new.ensures.value;
  other_is = c.is_management.ensures;
}
