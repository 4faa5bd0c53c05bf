-- The test for the same selector passes exactly if the two are one.
use Rattle.std.specs.Prelude.{◌≡◌, true, ◌&&◌, ◌==◌, refl}
use Rattle.std.proofs.lemmas.Bool.{and_parts, and_from, eq-eqb, eqb-true}
use Rattle.sccp_base.specs.Selector.{Numbers, same_selector}

pub same_selector-≡ : (a b : Numbers) → same_selector a b ≡ true → a ≡ b
same_selector-≡ a b h =
    let k = and_parts (a.kind == b.kind && a.translation == b.translation && a.plan == b.plan) (a.nature == b.nature) h in
    let l = and_parts (a.kind == b.kind && a.translation == b.translation) (a.plan == b.plan) k.0 in
    let m = and_parts (a.kind == b.kind) (a.translation == b.translation) l.0 in
    let kinds : a.kind ≡ b.kind = eqb-true a.kind b.kind m.0 in
    let translations : a.translation ≡ b.translation = eqb-true a.translation b.translation m.1 in
    let plans : a.plan ≡ b.plan = eqb-true a.plan b.plan l.1 in
    let natures : a.nature ≡ b.nature = eqb-true a.nature b.nature k.1 in
    λ i. record { kind = kinds i; translation = translations i; plan = plans i; nature = natures i }

pub same_selector-own : (s : Numbers) → same_selector s s ≡ true
same_selector-own s =
    and_from (s.kind == s.kind && s.translation == s.translation && s.plan == s.plan) (s.nature == s.nature)
    (and_from (s.kind == s.kind && s.translation == s.translation) (s.plan == s.plan)
    (and_from (s.kind == s.kind) (s.translation == s.translation) (eq-eqb s.kind s.kind refl) (eq-eqb s.translation s.translation refl))
    (eq-eqb s.plan s.plan refl))
    (eq-eqb s.nature s.nature refl)
