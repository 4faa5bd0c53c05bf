use Rattle.std.proofs.Common.{arith}
use Rattle.sccp_work.proofs.ReadingLemmas.{more_read}
use Rattle.sccp_work.proofs.reading.read_whole.Goals as goal

pub returns : goal.returns
returns g c =
    let p = c.loop-which.invariant.0 in
    record {
      reads = record {
        gives = more_read _ c.loop-which.octets.items _ _ c.args.limit p.present p.split (omega (arith, c.loop-which.octets.ok.0));
        same = p.same;
        soundness = p.soundness;
        later = p.later;
        failed = λ e. cc;
        spared = λ h _. p.spared h;
        no_writing = λ e. cc;
        no_answer = λ s e. cc;
      };
      other = c.loop-which.invariant.1;
    }
