-- The lines of a route, one hop after another.
use Rattle.std.proofs.Common.{◌≡◌, ℕ, ◌+◌, ◌<◌, List, ◌∷◌, ◌++◌, length, drop, get_or, sym, ◌∙◌, ap, append_assoc}
use Rattle.std.proofs.lemmas.List.{drop_more}
use Rattle.sccp_base.specs.declared.mark.Mark.{Mark}
use Rattle.plan_model.specs.declared.hop.Hop.{Hop}
use Rattle.plan_model.specs.Network.{Network}
use Rattle.sccp_report.specs.Hops.{hop_line, hops_text}

-- one hop more
pub hops_text_next : (plan : Network) (hops : List Hop) (markings : List (List Mark)) (i : ℕ) (hop : Hop) (marking : List Mark)
    (text whole : List ℕ) → i < length hops → i < length markings
    → hop ≡ get_or hops i hop → marking ≡ get_or markings i marking → text ++ hops_text plan (drop i hops) (drop i markings) ≡ whole
    → (text ++ hop_line plan hop marking) ++ hops_text plan (drop (i + 1) hops) (drop (i + 1) markings) ≡ whole
hops_text_next plan hops markings i hop marking text whole h k at held so_far =
    let here : drop i hops ≡ hop ∷ drop (i + 1) hops = drop_more hops i hop h ∙ ap (λ x. x ∷ drop (i + 1) hops) (sym at) in
    let under : drop i markings ≡ marking ∷ drop (i + 1) markings = drop_more markings i marking k
    ∙ ap (λ x. x ∷ drop (i + 1) markings) (sym held) in
    append_assoc text (hop_line plan hop marking) (hops_text plan (drop (i + 1) hops) (drop (i + 1) markings))
    ∙ sym (ap (λ hs. text ++ hops_text plan hs (marking ∷ drop (i + 1) markings)) here)
    ∙ sym (ap (λ ms. text ++ hops_text plan (drop i hops) ms) under)
    ∙ so_far
