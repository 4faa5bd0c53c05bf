-- One chunk after another.
use Rattle.std.proofs.Common.{◌≡◌, ℕ, zero, suc, ◌+◌, ◌-◌, ◌<◌, false, eqb, List, [], ◌∷◌, ◌++◌, map, take, drop, Ok, Err}
use Rattle.std.proofs.Common.{refl, sym, ◌∙◌, ap, append_assoc, arith}
use Rattle.std.proofs.lemmas.Bool.{ne_eqb}
use Rattle.std.proofs.lemmas.List.{append-nil, map-append}
use Rattle.packet_layers.specs.declared.flow.Flow.{Flow}
use Rattle.packet_layers.specs.declared.found.Found.{Found}
use Rattle.packet_layers.specs.declared.chunk_fault.ChunkFault.{ChunkFault}
use Rattle.packet_layers.specs.Values.{Carried, BadChunk, found_as}
use Rattle.packet_layers.specs.Numbers.{up_to_four}
use Rattle.packet_layers.specs.Layers.{chunk_of, chunk_size, chunk_then, chunks_from}

at_end : (most i : ℕ) (flow : Flow) (b : List ℕ) → chunks_from most i flow 0 b ≡ []
unfolding chunks_from
at_end zero i flow b = refl
at_end (suc most) i flow b = refl

next : (most i : ℕ) (flow : Flow) (whole : ℕ) (b : List ℕ) → 0 < most → 0 < whole
    → chunks_from most i flow whole b
    ≡ chunk_then (λ used. chunks_from (most - 1) (i + 1) flow (whole - used) (drop used b)) i flow b (chunk_size b)
unfolding chunks_from
next zero i flow whole b some left = absurd (omega arith)
next (suc most) i flow whole b some left =
    let e : suc most - 1 ≡ most = omega arith in let t : eqb whole 0 ≡ false = ne_eqb whole 0 (λ z. omega arith) in rw (e, t) refl

pushed : (list now : List Found) (f : Found) (c : Carried) (rest : List Carried) → now ≡ list ++ f ∷ [] → found_as f ≡ c
    → map found_as now ++ rest ≡ map found_as list ++ (c ∷ rest)
pushed list now f c rest e same =
    ap (λ (l : List Found). map found_as l ++ rest) e ∙ ap (λ (l : List Carried). l ++ rest) (map-append found_as list (f ∷ []))
    ∙ append_assoc (map found_as list) (found_as f ∷ []) rest ∙ ap (λ (x : Carried). map found_as list ++ (x ∷ rest)) same

-- ---- the loop, whose answer is `total`

pub is_done : (list : List Found) (most i : ℕ) (flow : Flow) (whole : ℕ) (b : List ℕ) (total : List Carried)
    → map found_as list ++ chunks_from most i flow whole b ≡ total → whole ≡ 0 → map found_as list ≡ total
is_done list most i flow whole b total e none =
    sym (append-nil (map found_as list)) ∙ ap (λ (l : List Carried). map found_as list ++ l) (sym (at_end most i flow b))
    ∙ ap (λ (n : ℕ). map found_as list ++ chunks_from most i flow n b) (sym none) ∙ e

pub is_full : (list : List Found) (most i : ℕ) (flow : Flow) (whole : ℕ) (b : List ℕ) (total : List Carried)
    → map found_as list ++ chunks_from most i flow whole b ≡ total → most ≡ 0 → map found_as list ≡ total
unfolding chunks_from
is_full list most i flow whole b total e none =
    sym (append-nil (map found_as list)) ∙ ap (λ (n : ℕ). map found_as list ++ chunks_from n i flow whole b) (sym none) ∙ e

pub is_bad : (list now : List Found) (f : Found) (most i : ℕ) (flow : Flow) (whole : ℕ) (b : List ℕ) (fault : ChunkFault)
    (total : List Carried) → map found_as list ++ chunks_from most i flow whole b ≡ total → 0 < most → 0 < whole
    → Err fault ≡ chunk_size b → now ≡ list ++ f ∷ [] → found_as f ≡ BadChunk i fault → map found_as now ≡ total
is_bad list now f most i flow whole b fault total e some left size push same =
    let one : chunks_from most i flow whole b ≡ BadChunk i fault ∷ [] = next most i flow whole b some left ∙ rw (← size) refl in
    sym (append-nil (map found_as now)) ∙ pushed list now f (BadChunk i fault) [] push same
    ∙ ap (λ (l : List Carried). map found_as list ++ l) (sym one) ∙ e

pub goes_on : (list now : List Found) (f : Found) (most left_most i : ℕ) (flow : Flow) (whole left size used : ℕ) (b rest : List ℕ)
    (total : List Carried) → map found_as list ++ chunks_from most i flow whole b ≡ total → most ≡ left_most + 1 → 0 < whole
    → Ok size ≡ chunk_size b → now ≡ list ++ f ∷ [] → found_as f ≡ chunk_of i flow (take size b)
    → used ≡ up_to_four size → left ≡ whole - used → rest ≡ drop used b
    → map found_as now ++ chunks_from left_most (i + 1) flow left rest ≡ total
goes_on list now f most left_most i flow whole left size used b rest total e count some ok push same used_is left_is rest_is =
    let less : most - 1 ≡ left_most = omega arith in
    let after = chunks_from left_most (i + 1) flow left rest in
    let one : chunks_from most i flow whole b ≡ chunk_of i flow (take size b) ∷ after =
    next most i flow whole b (omega arith) some ∙ rw (← ok, less, left_is, rest_is, used_is) refl in
    pushed list now f (chunk_of i flow (take size b)) after push same ∙ ap (λ (l : List Carried). map found_as list ++ l) (sym one) ∙ e
