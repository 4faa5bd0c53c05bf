-- The text of marks gives the marks.
use Rattle.std.specs.Prelude.{ℕ, List, [], ◌∷◌, ◌++◌, codes, decimal}
use Rattle.std.specs.List.{All, flat_map}
use Rattle.std.proofs.Common.{◌≡◌, refl, sym, ◌∙◌, ap, arith, append_assoc}
use Rattle.std.proofs.lemmas.List.{append_cancel_left}
use Rattle.std.proofs.lemmas.List.Elements.{All-head, All-tail}
use Rattle.sccp_base.specs.declared.mark.Mark.{Mark}
use Rattle.sccp_base.specs.declared.mark.Mark.TheVariants.{PointCode, Sccp, Subsystem}
use Rattle.sccp_base.specs.Marks.{IsMark}
use Rattle.sccp_report.specs.Values.{point_code_text}
use Rattle.sccp_report.specs.Hops.{destination_text, mark_text, next_mark_text, marks_text}
use Rattle.sccp_report.proofs.Parted.{Stops, IsDecimal, first_same, rest_same, number_parted, point_code_parted, glued, no_slash, no_comma}
use Rattle.sccp_report.proofs.Parted.{no_blank}

destination_more : (pc ssn : ℕ) (r : List ℕ) → destination_text pc ssn ++ r ≡ point_code_text pc ++ 47 ∷ (decimal ssn ++ r)
unfolding destination_text
destination_more pc ssn r = glued (point_code_text pc) 47 (decimal ssn) r

-- a mark's text up to what follows it
mark_parted : (m n : Mark) (r s : List ℕ) → IsMark m → IsMark n → Stops IsDecimal r → Stops IsDecimal s
    → mark_text m ++ r ≡ mark_text n ++ s → (m ≡ n) × (r ≡ s)
unfolding mark_text
mark_parted (PointCode a) (PointCode b) r s ha hb er es e =
    let p = point_code_parted a b r s (omega (arith, ha)) (omega (arith, hb)) er es (append_cancel_left (codes "point:") _ _ e) in
    (ap PointCode p.0, p.1)
mark_parted (PointCode a) (Sccp b) r s ha hb er es e = absurd (omega (arith, first_same 112 115 _ _ e))
mark_parted (PointCode a) (Subsystem b t) r s ha hb er es e = absurd (omega (arith, first_same 112 115 _ _ e))
mark_parted (Sccp a) (PointCode b) r s ha hb er es e = absurd (omega (arith, first_same 115 112 _ _ e))
mark_parted (Sccp a) (Sccp b) r s ha hb er es e =
    let p = point_code_parted a b r s (omega (arith, ha)) (omega (arith, hb)) er es (append_cancel_left (codes "sccp:") _ _ e) in
    (ap Sccp p.0, p.1)
mark_parted (Sccp a) (Subsystem b t) r s ha hb er es e = absurd (omega (arith, first_same 99 117 _ _ (rest_same 115 115 _ _ e)))
mark_parted (Subsystem a t) (PointCode b) r s ha hb er es e = absurd (omega (arith, first_same 115 112 _ _ e))
mark_parted (Subsystem a t) (Sccp b) r s ha hb er es e = absurd (omega (arith, first_same 117 99 _ _ (rest_same 115 115 _ _ e)))
mark_parted (Subsystem a t) (Subsystem b u) r s ha hb er es e =
    let whole = sym (destination_more a t r) ∙ append_cancel_left (codes "subsystem:") _ _ e ∙ destination_more b u s in
    let p = point_code_parted a b (47 ∷ (decimal t ++ r)) (47 ∷ (decimal u ++ s)) (omega (arith, ha.0))
    (omega (arith, hb.0)) no_slash no_slash whole in
    let q = number_parted t u r s (omega (arith, ha.1)) (omega (arith, hb.1)) er es (rest_same 47 47 _ _ p.1) in
    ((λ i. Subsystem (p.0 i) (q.0 i)), q.1)

-- the marks after the first one, and a blank after them
next_more : (m : Mark) (ms : List Mark) (r : List ℕ) → flat_map next_mark_text (m ∷ ms) ++ r ≡ 44
    ∷ (mark_text m ++ (flat_map next_mark_text ms ++ r))
unfolding next_mark_text
next_more m ms r = append_assoc (44 ∷ mark_text m) (flat_map next_mark_text ms) r

next_stops : (ms : List Mark) (q : List ℕ) → Stops IsDecimal (flat_map next_mark_text ms ++ 32 ∷ q)
unfolding next_mark_text
next_stops [] q = no_blank
next_stops (m ∷ ms) q = no_comma

next_marks_parted : (ms ns : List Mark) (q t : List ℕ) → All IsMark ms → All IsMark ns
    → flat_map next_mark_text ms ++ 32 ∷ q ≡ flat_map next_mark_text ns ++ 32 ∷ t → (ms ≡ ns) × (q ≡ t)
next_marks_parted [] [] q t hm hn e = (refl, rest_same 32 32 q t e)
next_marks_parted [] (n ∷ ns) q t hm hn e = absurd (omega (arith, first_same 32 44 _ _ (e ∙ next_more n ns (32 ∷ t))))
next_marks_parted (m ∷ ms) [] q t hm hn e = absurd (omega (arith, first_same 44 32 _ _ (sym (next_more m ms (32 ∷ q)) ∙ e)))
next_marks_parted (m ∷ ms) (n ∷ ns) q t hm hn e =
    let whole = rest_same 44 44 _ _ (sym (next_more m ms (32 ∷ q)) ∙ e ∙ next_more n ns (32 ∷ t)) in
    let first = mark_parted m n _ _ (All-head IsMark m ms hm) (All-head IsMark n ns hn) (next_stops ms q) (next_stops ns t) whole in
    let more = next_marks_parted ms ns q t (All-tail IsMark m ms hm) (All-tail IsMark n ns hn) first.1 in
    ((λ i. first.0 i ∷ more.0 i), more.1)

-- no mark's text begins as `none`
not_none : (m : Mark) (x y : List ℕ) → mark_text m ++ x ≡ 110 ∷ y → ⊥
unfolding mark_text
not_none (PointCode a) x y e = omega (arith, first_same 112 110 _ _ e)
not_none (Sccp a) x y e = omega (arith, first_same 115 110 _ _ e)
not_none (Subsystem a s) x y e = omega (arith, first_same 115 110 _ _ e)

pub marks_parted : (ms ns : List Mark) (q t : List ℕ) → All IsMark ms → All IsMark ns → marks_text ms ++ 32 ∷ q ≡ marks_text ns ++ 32 ∷ t
    → (ms ≡ ns) × (q ≡ t)
unfolding marks_text
marks_parted [] [] q t hm hn e = (refl, rest_same 32 32 q t (append_cancel_left (codes "none") _ _ e))
marks_parted [] (n ∷ ns) q t hm hn e = absurd (not_none n _ _ (sym (append_assoc (mark_text n) _ _) ∙ sym e))
marks_parted (m ∷ ms) [] q t hm hn e = absurd (not_none m _ _ (sym (append_assoc (mark_text m) _ _) ∙ e))
marks_parted (m ∷ ms) (n ∷ ns) q t hm hn e =
    let whole = sym (append_assoc (mark_text m) (flat_map next_mark_text ms) (32 ∷ q)) ∙ e
    ∙ append_assoc (mark_text n) (flat_map next_mark_text ns) (32 ∷ t) in
    let first = mark_parted m n _ _ (All-head IsMark m ms hm) (All-head IsMark n ns hn) (next_stops ms q) (next_stops ns t) whole in
    let more = next_marks_parted ms ns q t (All-tail IsMark m ms hm) (All-tail IsMark n ns hn) first.1 in
    ((λ i. first.0 i ∷ more.0 i), more.1)
