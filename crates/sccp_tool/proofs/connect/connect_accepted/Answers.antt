use Rattle.std.proofs.Common.{◌≡◌, ℕ, List, [], Option, Some, None, refl, sym, ap, arith, append-nil}
use Rattle.std.specs.Io.KnownBytes.{append_known}
use Rattle.std.proofs.lemmas.Result.{err_from_is_err_and}
use Rattle.sccp_tool.proofs.connect.connect_accepted.Goals as goal

nothing_more : (known : Option (List ℕ)) → known ≡ append_known known []
nothing_more None = refl
nothing_more (Some xs) = ap Some (sym (append-nil xs))

pub returns-in_err-text-clause-text : goal.returns-in_err-text-clause-text
returns-in_err-text-clause-text g c =
    let p = err_from_is_err_and c.from_residual.result c.from_residual.ensures.1 in
    rw (p.1, p.2) (record {
      front = [];
      begins = refl;
      appends = nothing_more (g.K.Sink.taken c.args.out.now);
      later = omega arith;
      whole = tt;
      failed = λ e. cc;
      no_reading = λ e. cc;
      no_answer = λ s e. cc;
    })
