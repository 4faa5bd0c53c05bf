-- What a batch gives.
use Rattle.std.proofs.Common.{◌≡◌, ◌<◌, ◌+◌, ℕ, List, [], ◌∷◌, map, length, drop, Err, sym, ◌∙◌, ap, subst}
use Rattle.std.proofs.lemmas.List.{drop_more}
use Rattle.std.specs.Prelude.{get_or}
use Rattle.trace_text.specs.declared.line.Numbered.{Numbered}
use Rattle.sccp_work.specs.Ending.{Works}
use Rattle.sccp_work.specs.Moment.{Moment}
use Rattle.sccp_work.specs.Numbers.{AreNumbers}
use Rattle.sccp_replay.specs.Replay.{Standing, Settled, batch_of, told_at, settle, batch_work}
use Rattle.sccp_replay.specs.Replayers.{settled_in}
use Rattle.sccp_replay.specs.Replaying.{SettlesTo, BatchGives, BatchStops}
use Rattle.sccp_work.specs.Work.{Work, serve}
use Rattle.sccp_replay.specs.declared.settled as code
use Rattle.sccp_work.specs.declared.stop.Stop.TheVariants.{Memory}
use Rattle.sccp_replay.proofs.SettleSteps.{batch_settled}
use Rattle.sccp_work.proofs.WorkLemmas.{Works-memory}

-- memory was wanting
pub settled_memory : (at : Standing) (lines : List Numbered) (at' : Standing) (ss : List Settled) (left : List Numbered)
    (first now : Moment) → SettlesTo at lines at' ss left first now → BatchStops at lines (Err Memory) first now
unfolding settle batch_work
settled_memory at lines at' ss left first now all = λ next.
    let serves : Standing → List Settled
    → Work = λ a t. serve (batch_of at a t) (λ ns. next (record a { states = (told_at a t ns).states }) (told_at a t ns).text) in
    all serves (Err Memory) now (Works-memory (settle at' ss left serves) now)

-- the messages were routed under lawful numbers, and their text was made
pub batch_told : (at at' at'' : Standing) (lines : List Numbered) (settled : List code.Settled.Settled) (numbers text : List ℕ)
    (first now : Moment) → SettlesTo at lines at' (map settled_in settled) [] first now
    → AreNumbers (batch_of at at' (map settled_in settled)) numbers
    → text ≡ (told_at at' (map settled_in settled) numbers).text
    → at'' ≡ record at' { states = (told_at at' (map settled_in settled) numbers).states }
    → BatchGives at lines at'' text first now
batch_told at at' at'' lines settled numbers text first now settles are told is =
    let ss : List Settled = map settled_in settled in
    let given = batch_settled at lines at' ss numbers first now settles are in
    λ next result after h.
    given next result after (subst (λ t. Works (next (record at' { states = (told_at at' ss numbers).states }) t) result now after) told
    (subst (λ a. Works (next a text) result now after) is h))

-- the element at a place is before those that follow it
pub dropped : {A : Type 0} (xs : List A) (i : ℕ) (x : A) → i < length xs → x ≡ get_or xs i x → drop i xs ≡ x ∷ drop (i + 1) xs
dropped xs i x lt is = drop_more xs i x lt ∙ ap (λ y. y ∷ drop (i + 1) xs) (sym is)
