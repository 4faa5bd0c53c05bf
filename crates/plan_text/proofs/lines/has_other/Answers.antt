use Rattle.std.proofs.Common.{◌≡◌, true, false, ◌∷◌, ◌∙◌, arith, string_bytes}
use Rattle.std.proofs.lemmas.Grind.{common_steps}
use Rattle.toml.specs.View.{members_view}
use Rattle.toml.proofs.Views.{Entry}
use Rattle.plan_text.specs.Shape.{has_other}
use Rattle.plan_text.proofs.Keys.{texts, is_one, other_here, other_later}
use Rattle.plan_text.proofs.lines.has_other.Goals as goal

pub returns-then-not-is_one_of : goal.returns-then-not-is_one_of
returns-then-not-is_one_of c =
    let e : Entry = (c.in-Some.key.now, c.in-Some.field-0-1.now) in
    let iter : c.loop-key.key-iterator ≡ e ∷ c.next.new.self = grind (arith, common_steps) in
    let none : is_one (string_bytes e.0) c.args.words.now ≡ false = grind (arith, common_steps) in
    let here : true ≡ has_other (texts c.args.words.now) (members_view c.loop-key.key-iterator) =
    rw iter (other_here c.args.words.now e.0 e.1 c.next.new.self none) in
    here ∙ c.loop-key.invariant.2

pub loop-key-preserved : goal.loop-key-preserved
loop-key-preserved c =
    let e : Entry = (c.in-Some.key.now, c.in-Some.field-0-1.now) in
    let iter : c.loop-key.key-iterator ≡ e ∷ c.next.new.self = grind (arith, common_steps) in
    let one : is_one (string_bytes e.0) c.args.words.now ≡ true = grind (arith, common_steps) in
    let later : has_other (texts c.args.words.now) (members_view c.next.new.self)
    ≡ has_other (texts c.args.words.now) (members_view c.loop-key.key-iterator) =
    rw iter (other_later c.args.words.now e.0 e.1 c.next.new.self one) in
    (tt, tt, later ∙ c.loop-key.invariant.2)
