-- What a relay sends can be written. Data and parameters of at most 255 octets, and a called address of at most 21, fit their
-- lengths, and all pointers fit one octet.
use Rattle.std.proofs.Common.{◌≡◌, ℕ, suc, ◌+◌, ◌-◌, ◌≤◌, Bool, true, cond, List, [], ◌∷◌, length, Option, Some, None, refl, ap, arith}
use Rattle.std.specs.Prelude.{nat_le, option_map}
use Rattle.std.specs.Option.{option_or}
use Rattle.std.proofs.lemmas.Bool.{le-leb}
use Rattle.sccp_address.specs.declared.address.Address.{Address}
use Rattle.sccp_address.specs.Written.{written}
use Rattle.sccp_layout.specs.declared.parts.JoinFault.TheVariants.{TooLong, PointerTooFar}
use Rattle.sccp_layout.specs.Joining.{are_short}
use Rattle.sccp_layout.specs.Parameter.{Parameter}
use Rattle.sccp_message.specs.declared.message.Message.TheVariants as messages
use Rattle.sccp_message.specs.Written.{Writable}

pub confirm_fits : (dlr slr class : ℕ) (params : List Parameter) → are_short params ≡ true → Writable (messages.Cc dlr slr class params)
confirm_fits dlr slr class [] short = refl
confirm_fits dlr slr class (p ∷ params) short = rw short refl

pub refusal_fits : (dlr cause : ℕ) (params : List Parameter) → are_short params ≡ true → Writable (messages.Cref dlr cause params)
refusal_fits dlr cause [] short = refl
refusal_fits dlr cause (p ∷ params) short = rw short refl

pub release_fits : (dlr slr cause : ℕ) (params : List Parameter) → are_short params ≡ true → Writable (messages.Rlsd dlr slr cause params)
release_fits dlr slr cause [] short = refl
release_fits dlr slr cause (p ∷ params) short = rw short refl

pub data_fits : (dlr : ℕ) (more : Bool) (payload : List ℕ) → length payload ≤ 255 → Writable (messages.Dt1 dlr more payload)
data_fits dlr more payload short = rw (le-leb (length payload) 255 short) refl

pub request_fits : (slr class : ℕ) (called : Address) (params : List Parameter) → length (written called) ≤ 21 → are_short params ≡ true
    → Writable (messages.Cr slr class called params)
request_fits slr class called [] room short = rw (le-leb (length (written called)) 255 (omega (arith, room))) refl
request_fits slr class called (p ∷ params) room short =
    let far : nat_le ((7 + suc (length (written called))) - 6) 255 ≡ true = le-leb ((7 + suc (length (written called))) - 6) 255
    (omega (arith, room)) in
    rw (le-leb (length (written called)) 255 (omega (arith, room)), short)
    (ap (λ (b : Bool). option_or (option_map TooLong (cond {A = Option ℕ} true None (Some 1)))
    (option_map PointerTooFar (cond {A = Option ℕ} b None (Some 1)))) far)
