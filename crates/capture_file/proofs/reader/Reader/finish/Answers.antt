use Rattle.std.proofs.Common.{◌≡◌, ◌==◌, [], true, length, vec_len, sym, ◌∙◌, ap, arith}
use Rattle.capture_file.specs.Packets.{only}
use Rattle.capture_file.specs.Told.{ending}
use Rattle.capture_file.specs.Standings.{ahead}
use Rattle.capture_file.specs.Views.{at_of}
use Rattle.capture_file.proofs.ReaderLemmas.{ahead-at_end, ahead-fault, ahead-ends, told-end}
use Rattle.capture_file.proofs.reader.Reader.finish.Goals as goal

pub returns-then-self-clause-file : goal.returns-then-self-clause-file
returns-then-self-clause-file c =
    let e : only c.self.inside.fault ≡ ahead c.args.self.now true [] =
    rw (← c.self.view_is) (sym (ahead-at_end c.self.inside.fault _ true [] c.if-self.true)) in
    λ b read. told-end c.args.self.now b c.self.inside.fault read e

pub returns-then-is_some-clause-file : goal.returns-then-is_some-clause-file
returns-then-is_some-clause-file c =
    let e : only c.self.inside.fault ≡ ahead c.args.self.now true [] =
    rw (← c.self.view_is) (sym (ahead-fault c.self.inside.fault _ true [] c.if-is_some.ensures)) in
    λ b read. told-end c.args.self.now b c.self.inside.fault read e

pub returns-clause-exact : goal.returns-clause-exact
returns-clause-exact c =
    let e : ahead c.args.self.now true []
    ≡ ending true (at_of c.self.inside.expected c.self.inside.section) c.self.inside.place c.self.inside.kept.items =
    rw (← c.self.view_is) (ahead-ends c.self.inside.fault _ c.if-self.false c.if-is_some.ensures c.self.invariant.unfinished) in
    let size : vec_len c.self.inside.kept ≡ length c.self.inside.kept.items = omega (arith, c.self.inside.kept.ok.0) in
    let empty : c.is_empty.result ≡ (length c.self.inside.kept.items == 0) = c.is_empty.ensures ∙ ap (λ n. n == 0) size in
    c.ending-self-inside.ensures c.self.inside.kept.items empty ∙ sym e

pub returns-clause-file : goal.returns-clause-file
returns-clause-file c =
    let e : ahead c.args.self.now true []
    ≡ ending true (at_of c.self.inside.expected c.self.inside.section) c.self.inside.place c.self.inside.kept.items =
    rw (← c.self.view_is) (ahead-ends c.self.inside.fault _ c.if-self.false c.if-is_some.ensures c.self.invariant.unfinished) in
    let size : vec_len c.self.inside.kept ≡ length c.self.inside.kept.items = omega (arith, c.self.inside.kept.ok.0) in
    let empty : c.is_empty.result ≡ (length c.self.inside.kept.items == 0) = c.is_empty.ensures ∙ ap (λ n. n == 0) size in
    λ b read. told-end c.args.self.now b c.ending-self-inside.result read (c.ending-self-inside.ensures c.self.inside.kept.items empty
    ∙ sym e)
