-- What an offer adds to the history.
use Rattle.std.proofs.Common.{◌≡◌, ℕ, List, [], ◌∷◌, ◌++◌, Option, Some, None, Ok, Err, refl, sym, subst, append-nil}
use Rattle.std.specs.Prelude.{false, ⊤}
use Rattle.std.specs.Bool.{MatchBool}
use Rattle.sccp_message.specs.declared.message.Message.{Message}
use Rattle.couple_chain.specs.declared.happening.Happening.{Happening}
use Rattle.couple_chain.specs.declared.happening.Happening.TheVariants.{Offers}
use Rattle.couple_chain.specs.declared.offer_fault.OfferFault.{OfferFault}
use Rattle.chain_world.specs.Offering.{as_read, answer_by, is_memory}
use Rattle.chain_call.specs.Steps.{offer_by}

-- an offer that is accepted adds itself to the history, as the definition says
pub accepted : (o : Option OfferFault) (from to : ℕ) (message : Message) (history : List Happening) → answer_by o ≡ Ok tt
    → history ++ Offers from to (as_read message) ∷ [] ≡ history ++ offer_by o from to message
accepted None from to message history h = refl
accepted (Some fault) from to message history h = cc

-- an offer that is refused adds nothing to it
pub refused : (o : Option OfferFault) (fault : OfferFault) (from to : ℕ) (message : Message) (history : List Happening)
    → MatchBool (is_memory fault) ⊤ (answer_by o ≡ Err fault) → is_memory fault ≡ false
    → history ≡ history ++ offer_by o from to message
refused o fault from to message history h other = by o (subst (λ b. MatchBool b ⊤ (answer_by o ≡ Err fault)) other h) where
  by : (p : Option OfferFault) → answer_by p ≡ Err fault → history ≡ history ++ offer_by p from to message
  by None e = cc
  by (Some f) e = sym (append-nil history)
