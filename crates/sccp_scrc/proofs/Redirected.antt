-- what a message with another called address keeps
use Rattle.std.specs.Prelude.{⊤, ◌≡◌, ℕ, ◌≤◌, false, length, Option, Some, None, is_none, option_map, unwrap_or, refl, if◌then◌else◌, Ok}
use Rattle.std.specs.Prelude.{Err}
use Rattle.std.specs.Bool.{MatchBool}
use Rattle.std.proofs.Common.{sym, ap, subst}
use Rattle.sccp_address.specs.declared.address.Address.{Address}
use Rattle.sccp_address.specs.Written.{written, IsAddress}
use Rattle.sccp_layout.specs.declared.parts.JoinFault.{JoinFault}
use Rattle.sccp_message.specs.declared.encode_fault.EncodeFault.{EncodeFault}
use Rattle.sccp_message.specs.Encoding.{is_memory}
use Rattle.sccp_message.specs.declared.message.Message.{Message}
use Rattle.sccp_message.specs.declared.message.Message.TheVariants.{Udt, Udts, Xudt, Xudts, Ludt, Ludts}
use Rattle.sccp_message.specs.Reading.{reading}
use Rattle.sccp_message.specs.Written.{message_octets, Writable, Sound, IsMessage}
use Rattle.sccp_message.specs.Unitdata.{called_of, hops_of}
use Rattle.sccp_message.proofs.Writing.{written_reads}
use Rattle.sccp_message.proofs.Laws.{message_again}
use Rattle.sccp_scrc.specs.Unitdata.{redirected, write_fault, octets_of, Room}

pub Sound-redirected : (x : Address) (f : ℕ → ℕ) (m : Message) → Sound m → Sound (redirected x f m)
Sound-redirected x f (Udt c a b d) h = h
Sound-redirected x f (Udts c a b d) h = h
Sound-redirected x f (Xudt c j a b d p) h = h
Sound-redirected x f (Xudts c j a b d p) h = h
Sound-redirected x f (Ludt c j a b d p) h = h
Sound-redirected x f (Ludts c j a b d p) h = h
Sound-redirected x f m h = h

pub IsMessage-redirected : (x : Address) (f : ℕ → ℕ) (m : Message) → IsAddress x → IsMessage m → IsMessage (redirected x f m)
IsMessage-redirected x f (Udt c a b d) k h = record { addresses = (k, h.addresses.1); named = h.named; sevens_fit = h.sevens_fit }
IsMessage-redirected x f (Udts c a b d) k h = record { addresses = (k, h.addresses.1); named = h.named; sevens_fit = h.sevens_fit }
IsMessage-redirected x f (Xudt c j a b d p) k h = record { addresses = (k, h.addresses.1); named = h.named; sevens_fit = h.sevens_fit }
IsMessage-redirected x f (Xudts c j a b d p) k h = record { addresses = (k, h.addresses.1); named = h.named; sevens_fit = h.sevens_fit }
IsMessage-redirected x f (Ludt c j a b d p) k h = record { addresses = (k, h.addresses.1); named = h.named; sevens_fit = h.sevens_fit }
IsMessage-redirected x f (Ludts c j a b d p) k h = record { addresses = (k, h.addresses.1); named = h.named; sevens_fit = h.sevens_fit }
IsMessage-redirected x f m k h = h

-- lengths and pointers are those with any hop counter
pub Writable-redirected : (x : Address) (f : ℕ → ℕ) (m : Message) → length (written x) ≤ 21 → Room m → Writable (redirected x f m)
Writable-redirected x f (Udt c a b d) le h = h x le
Writable-redirected x f (Udts c a b d) le h = h x le
Writable-redirected x f (Xudt c j a b d p) le h = h x le
Writable-redirected x f (Xudts c j a b d p) le h = h x le
Writable-redirected x f (Ludt c j a b d p) le h = h x le
Writable-redirected x f (Ludts c j a b d p) le h = h x le
Writable-redirected x f m le h = h x le

pub Room-redirected : (x : Address) (f : ℕ → ℕ) (m : Message) → Room m → Room (redirected x f m)
Room-redirected x f (Udt c a b d) h = λ y le. h y le
Room-redirected x f (Udts c a b d) h = λ y le. h y le
Room-redirected x f (Xudt c j a b d p) h = λ y le. h y le
Room-redirected x f (Xudts c j a b d p) h = λ y le. h y le
Room-redirected x f (Ludt c j a b d p) h = λ y le. h y le
Room-redirected x f (Ludts c j a b d p) h = λ y le. h y le
Room-redirected x f m h = h

pub called-redirected : (x y : Address) (f : ℕ → ℕ) (m : Message) → called_of m ≡ Some y → called_of (redirected x f m) ≡ Some x
called-redirected x y f (Udt c a b d) e = refl
called-redirected x y f (Udts c a b d) e = refl
called-redirected x y f (Xudt c j a b d p) e = refl
called-redirected x y f (Xudts c j a b d p) e = refl
called-redirected x y f (Ludt c j a b d p) e = refl
called-redirected x y f (Ludts c j a b d p) e = refl
called-redirected x y f m e = absurd cc

pub hops-redirected : (x : Address) (f : ℕ → ℕ) (m : Message) → hops_of (redirected x f m) ≡ option_map f (hops_of m)
hops-redirected x f (Udt c a b d) = refl
hops-redirected x f (Udts c a b d) = refl
hops-redirected x f (Xudt c j a b d p) = refl
hops-redirected x f (Xudts c j a b d p) = refl
hops-redirected x f (Ludt c j a b d p) = refl
hops-redirected x f (Ludts c j a b d p) = refl
hops-redirected x f m = refl

-- changed twice
pub redirected-twice : (x y : Address) (n k : ℕ) (f : ℕ → ℕ) (m : Message) → f n ≡ k
    → redirected x f (redirected y (λ h. n) m) ≡ redirected x (λ h. k) m
redirected-twice x y n k f (Udt c a b d) e = refl
redirected-twice x y n k f (Udts c a b d) e = refl
redirected-twice x y n k f (Xudt c j a b d p) e = ap (λ i. Xudt c i x b d p) e
redirected-twice x y n k f (Xudts c j a b d p) e = ap (λ i. Xudts c i x b d p) e
redirected-twice x y n k f (Ludt c j a b d p) e = ap (λ i. Ludt c i x b d p) e
redirected-twice x y n k f (Ludts c j a b d p) e = ap (λ i. Ludts c i x b d p) e
redirected-twice x y n k f m e = refl

-- its own called address and hop counter
abbrev pub own_hops : Option ℕ → ℕ
own_hops None = 0
own_hops (Some n) = n

pub redirected-own : (x : Address) (m : Message) → called_of m ≡ Some x → m ≡ redirected x (λ h. own_hops (hops_of m)) m
redirected-own x (Udt c a b d) e = let same : a ≡ x = cc in ap (λ y. Udt c y b d) same
redirected-own x (Udts c a b d) e = let same : a ≡ x = cc in ap (λ y. Udts c y b d) same
redirected-own x (Xudt c j a b d p) e = let same : a ≡ x = cc in ap (λ y. Xudt c j y b d p) same
redirected-own x (Xudts c j a b d p) e = let same : a ≡ x = cc in ap (λ y. Xudts c j y b d p) same
redirected-own x (Ludt c j a b d p) e = let same : a ≡ x = cc in ap (λ y. Ludt c j y b d p) same
redirected-own x (Ludts c j a b d p) e = let same : a ≡ x = cc in ap (λ y. Ludts c j y b d p) same
redirected-own x m e = absurd cc

-- what is written is read again
pub reads_again : (m : Message) → IsMessage m → Sound m → reading (message_octets m) ≡ Ok m
reads_again m h sound = message_again (message_octets m) m (written_reads m h sound)

pub octets_written : (m : Message) → Writable m → octets_of m ≡ Some (message_octets m)
octets_written m h = rw h refl

-- what cannot be written has no octets
pub unwritten : (m : Message) → (Writable m → ⊥) → octets_of m ≡ None
unwritten m never = by_fault (write_fault m) never
  where
    by_fault : (o : Option JoinFault) → (o ≡ None → ⊥) → (if is_none o then Some (message_octets m) else None) ≡ None
    by_fault None never = absurd (never refl)
    by_fault (Some f) never = refl

-- a fault other than want of memory says that a message cannot be written
pub unwritten_for : (m : Message) (f : EncodeFault) → is_memory f ≡ false
    → (Writable m → MatchBool (is_memory f) ⊤ (Ok (message_octets m) ≡ Err f)) → octets_of m ≡ None
unwritten_for m f is only = unwritten m (λ w. apart (subst (λ b. MatchBool b ⊤ (Ok (message_octets m) ≡ Err f)) is (only w)))
  where
    apart : Ok (message_octets m) ≡ Err f → ⊥
    apart e = cc

-- the called address of a message is an address
pub called_kept : (x : Address) (m : Message) → called_of m ≡ Some x → IsMessage m → IsAddress x
called_kept x (Udt c a b d) e h = let same : a ≡ x = cc in subst IsAddress same h.addresses.0
called_kept x (Udts c a b d) e h = let same : a ≡ x = cc in subst IsAddress same h.addresses.0
called_kept x (Xudt c j a b d p) e h = let same : a ≡ x = cc in subst IsAddress same h.addresses.0
called_kept x (Xudts c j a b d p) e h = let same : a ≡ x = cc in subst IsAddress same h.addresses.0
called_kept x (Ludt c j a b d p) e h = let same : a ≡ x = cc in subst IsAddress same h.addresses.0
called_kept x (Ludts c j a b d p) e h = let same : a ≡ x = cc in subst IsAddress same h.addresses.0
called_kept x m e h = absurd cc

-- the hop counter as a number; 0 if there is none
pub redirected_counted : (x : Address) (f : ℕ → ℕ) (m : Message) → redirected x (λ n. f (unwrap_or (hops_of m) 0)) m ≡ redirected x f m
redirected_counted x f (Udt c a b d) = refl
redirected_counted x f (Udts c a b d) = refl
redirected_counted x f (Xudt c j a b d p) = refl
redirected_counted x f (Xudts c j a b d p) = refl
redirected_counted x f (Ludt c j a b d p) = refl
redirected_counted x f (Ludts c j a b d p) = refl
redirected_counted x f m = refl

-- the other types have no called address, and stay
pub redirected_none : (x : Address) (f : ℕ → ℕ) (m : Message) → called_of m ≡ None → redirected x f m ≡ m
redirected_none x f (Udt c a b d) e = absurd cc
redirected_none x f (Udts c a b d) e = absurd cc
redirected_none x f (Xudt c j a b d p) e = absurd cc
redirected_none x f (Xudts c j a b d p) e = absurd cc
redirected_none x f (Ludt c j a b d p) e = absurd cc
redirected_none x f (Ludts c j a b d p) e = absurd cc
redirected_none x f m e = refl

-- there and back
pub redirected_back : (x y : Address) (f : ℕ → ℕ) (m : Message) → called_of m ≡ Some x
    → redirected x (λ n. unwrap_or (hops_of m) 0) (redirected y f m) ≡ m
redirected_back x y f (Udt c a b d) e = let same : a ≡ x = cc in ap (λ z. Udt c z b d) (sym same)
redirected_back x y f (Udts c a b d) e = let same : a ≡ x = cc in ap (λ z. Udts c z b d) (sym same)
redirected_back x y f (Xudt c j a b d p) e = let same : a ≡ x = cc in ap (λ z. Xudt c j z b d p) (sym same)
redirected_back x y f (Xudts c j a b d p) e = let same : a ≡ x = cc in ap (λ z. Xudts c j z b d p) (sym same)
redirected_back x y f (Ludt c j a b d p) e = let same : a ≡ x = cc in ap (λ z. Ludt c j z b d p) (sym same)
redirected_back x y f (Ludts c j a b d p) e = let same : a ≡ x = cc in ap (λ z. Ludts c j z b d p) (sym same)
redirected_back x y f m e = absurd cc
