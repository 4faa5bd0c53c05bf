-- What is made from parts has their code, addresses and parameters. So what is read is sound, and its fields are in range.
use Rattle.std.proofs.Common.{◌≡◌, ℕ, suc, ◌+◌, ◌-◌, ◌<◌, Bool, true, false, cond, leb, eqb, ◌&&◌, List, [], ◌∷◌, length, drop, Option}
use Rattle.std.proofs.Common.{Some, None, Result, Ok, Err, refl, sym, ap, subst, ◌∙◌, arith, inl, inr, ◌⊎◌}
use Rattle.std.specs.Prelude.{IfOk, slice_range, slice_get, unwrap_or}
use Rattle.std.specs.List.{AllByRecursion}
use Rattle.std.specs.Option.{option_map_or}
use Rattle.std.proofs.lemmas.Bool.{cases_lt, eqb-true}
use Rattle.std.proofs.lemmas.Option.{slice_get_past}
use Rattle.sccp_base.specs.Bits.{bits}
use Rattle.sccp_address.specs.declared.address.Address.{Address}
use Rattle.sccp_address.specs.Written.{IsAddress}
use Rattle.sccp_address.proofs.Kept.{AreOctets, octets_take, octets_drop, address_kept}
use Rattle.sccp_layout.specs.declared.shape.Layout.{Layout}
use Rattle.sccp_layout.specs.declared.parts.Parts.{Parts}
use Rattle.sccp_layout.specs.Parameter.{Parameter}
use Rattle.sccp_layout.specs.Table.{Row, row}
use Rattle.sccp_layout.specs.Places.{width, number_at, part, place}
use Rattle.sccp_layout.specs.Parts.{ParamsAre, HasParts}
use Rattle.sccp_message.specs.declared.message.Message.{Message}
use Rattle.sccp_message.specs.declared.fault.DecodeFault.{DecodeFault}
use Rattle.sccp_message.specs.Fields.{octet, first_unread}
use Rattle.sccp_message.specs.Messages.{without_address, with_called, with_both, of_code, message_of}
use Rattle.sccp_message.specs.Reading.{part_of}
use Rattle.sccp_message.specs.Reads.{Reads}
use Rattle.sccp_message.specs.Written.{content, sevens, Sound, AreSevens, AreNamed, IsMessage}

-- A line for each type.

-- The parameters are those of the parts, or none in a type that has no optional part.
record Made (code : ℕ) (addresses : List Address) (params : List Parameter) (m : Message) : Type 0 where
  code_is : (content m).code ≡ code
  addresses_are : (content m).addresses ≡ addresses
  params_are : ((content m).params ≡ params) ⊎ ((content m).params ≡ [])
  sevens_fit : AreSevens (sevens m)

abbrev pub made : Message → Option Message
made m = Some m

made_is : (m n : Message) → made m ≡ made n → m ≡ n
made_is m n e = cc

abbrev AreMade : List (ℕ × Message) → List Address → List Parameter → Type 0
AreMade lines addresses params = AllByRecursion (λ (line : ℕ × Message). Made line.0 addresses params line.1) lines

seven : (o : ℕ) → bits o 2 8 < 128
seven o = omega arith

without : (f payload : List ℕ) (params : List Parameter) → AreMade (without_address f payload params) [] params
without f payload params = (
  record { code_is = refl; addresses_are = refl; params_are = inl refl; sevens_fit = tt },
  (
    record { code_is = refl; addresses_are = refl; params_are = inl refl; sevens_fit = tt },
    (
      record { code_is = refl; addresses_are = refl; params_are = inl refl; sevens_fit = tt },
      (
        record { code_is = refl; addresses_are = refl; params_are = inr refl; sevens_fit = tt },
        (
          record { code_is = refl; addresses_are = refl; params_are = inr refl; sevens_fit = tt },
          (
            record {
              code_is = refl;
              addresses_are = refl;
              params_are = inr refl;
              sevens_fit = (
                seven
                    (octet f 3),
                (seven (octet f 4), tt),
              );
            },
            (
              record { code_is = refl; addresses_are = refl; params_are = inr refl; sevens_fit = (seven (octet f 3), tt) },
              (
                record { code_is = refl; addresses_are = refl; params_are = inr refl; sevens_fit = tt },
                (
                  record { code_is = refl; addresses_are = refl; params_are = inr refl; sevens_fit = tt },
                  (
                    record { code_is = refl; addresses_are = refl; params_are = inr refl; sevens_fit = tt },
                    (
                      record { code_is = refl; addresses_are = refl; params_are = inr refl; sevens_fit = tt },
                      (
                        record { code_is = refl; addresses_are = refl; params_are = inr refl; sevens_fit = tt },
                        (
                          record {
                            code_is = refl;
                            addresses_are = refl;
                            params_are = inr refl;
                            sevens_fit = (
                              seven
                                  (octet f 7),
                              (seven (octet f 8), tt),
                            );
                          },
                          tt,
                        ),
                      ),
                    ),
                  ),
                ),
              ),
            ),
          ),
        ),
      ),
    ),
  ),
)

one : (f : List ℕ) (called : Address) (params : List Parameter) → AreMade (with_called f called params) (called ∷ []) params
one f called params = (
  record { code_is = refl; addresses_are = refl; params_are = inl refl; sevens_fit = tt },
  tt,
)

both : (f : List ℕ) (called calling : Address) (payload : List ℕ) (params : List Parameter)
    → AreMade (with_both f called calling payload params) (called ∷ calling ∷ []) params
both f called calling payload params = (
  record { code_is = refl; addresses_are = refl; params_are = inr refl; sevens_fit = tt },
  (
    record { code_is = refl; addresses_are = refl; params_are = inr refl; sevens_fit = tt },
    (
      record { code_is = refl; addresses_are = refl; params_are = inl refl; sevens_fit = tt },
      (
        record { code_is = refl; addresses_are = refl; params_are = inl refl; sevens_fit = tt },
        (
          record { code_is = refl; addresses_are = refl; params_are = inl refl; sevens_fit = tt },
          (
            record { code_is = refl; addresses_are = refl; params_are = inl refl; sevens_fit = tt },
            tt,
          ),
        ),
      ),
    ),
  ),
)

-- In a list of messages by their codes, a line is the first one of its code, or it is among the others.
pub made_here : (b : Bool) (x : Message) (others : Option Message) (m : Message) → cond b (made x) others ≡ made m
    → ((b ≡ true) × (x ≡ m)) ⊎ (others ≡ made m)
made_here true x others m e = inl (refl, made_is x m e)
made_here false x others m e = inr e

of_lines : (code : ℕ) (lines : List (ℕ × Message)) (addresses : List Address) (params : List Parameter) (m : Message)
    → AreMade lines addresses params → of_code code lines ≡ made m → Made code addresses params m
of_lines code [] addresses params m all e = absurd cc
of_lines code (line ∷ lines) addresses params m all e =
    elim (made_here (eqb code line.0) line.1 (of_code code lines) m e) [
      | inl w ↦ subst (Made code addresses params) w.1 (subst (λ (n : ℕ). Made n addresses params line.1) (sym (eqb-true _ _ w.0)) all.0)
      | inr w ↦ of_lines code lines addresses params m all.1 w
    ]

of_parts : (code : ℕ) (f : List ℕ) (addresses : List Address) (payload : List ℕ) (params : List Parameter) (m : Message)
    → message_of code f addresses payload params ≡ made m → Made code addresses params m
of_parts code f [] payload params m e = of_lines code (without_address f payload params) [] params m (without f payload params) e
of_parts code f (called ∷ []) payload params m e = of_lines code (with_called f called params) (called ∷ []) params m
    (one f called params) e
of_parts code f (called ∷ calling ∷ []) payload params m e = of_lines code (with_both f called calling payload params)
    (called ∷ calling ∷ []) params m (both f called calling payload params) e
of_parts code f (called ∷ calling ∷ other ∷ others) payload params m e = absurd cc

-- What is read is sound.

unread_none : (names : List ℕ) → first_unread names [] ≡ None
unread_none [] = refl
unread_none (name ∷ names) = unread_none names

sound_of : (code : ℕ) (params : List Parameter) (m : Message) → (content m).code ≡ code
    → ((content m).params ≡ params) ⊎ ((content m).params ≡ []) → first_unread (option_map_or (λ r. r.known) (row code) []) params ≡ None
    → Sound m
sound_of code params m is (inl same) none = rw (is, same) none
sound_of code params m is (inr empty) none = rw empty (unread_none (option_map_or (λ r. r.known) (row (content m).code) []))

pub reads_sound : (b : List ℕ) (m : Message) → Reads b m → Sound m
reads_sound b m h =
    let made_of = of_parts h.parts.code h.parts.fixed h.addresses _ h.parts.params m h.fields in
    let known : first_unread (option_map_or (λ r. r.known) (row h.parts.code) []) h.parts.params ≡ None =
    ap (λ (o : Option Row). first_unread (option_map_or (λ r. r.known) o []) h.parts.params) h.of_type ∙ h.sound in
    sound_of h.parts.code h.parts.params m made_of.code_is made_of.params_are known

pub answer_sound : (b : List ℕ) (r : Result Message DecodeFault) → IfOk r (λ m. Reads b m) → IfOk r (λ m. Sound m)
answer_sound b (Ok m) h = reads_sound b m h
answer_sound b (Err e) h = tt

-- Octets of parts are octets.

abbrev OrNone : Option (List ℕ) → Type 0
OrNone o = AreOctets (unwrap_or o [])

in_range : (c : Bool) (x : List ℕ) → AreOctets x → OrNone (cond c (Some x) None)
in_range true x h = h
in_range false x h = tt

octets_part : (l : Layout) (b : List ℕ) (i : ℕ) → AreOctets b → OrNone (part l b i)
octets_part l b i h =
    let two : Bool = l.long && eqb i 2 in
    let start : ℕ = place l b i + width two in
    let end : ℕ = start + number_at two b (place l b i) in
    in_range (leb end (length b)) (slice_range b start end) (octets_take (end - start) (drop start b) (octets_drop start b h))

octets_of : (b : List ℕ) (p : Parts) (i : ℕ) → AreOctets b → HasParts b p → AreOctets (part_of p.variable i)
octets_of b p i h has =
    elim (cases_lt i has.layout.variable) [
      | inl lt ↦ subst OrNone (has.variable i lt).1 (octets_part has.layout b i h)
      | inr le ↦ subst OrNone (sym (slice_get_past p.variable i (omega (arith, has.count)))) tt
    ]

named_of : (l : Layout) (b : List ℕ) (params : List Parameter) → ParamsAre l b params → AreNamed params
named_of l b params (inl w) = subst AreNamed (sym w.1) tt
named_of l b params (inr w) = w.2.named

-- The fields of what is read are in their ranges.

named_again : (m : Message) (params : List Parameter) → ((content m).params ≡ params) ⊎ ((content m).params ≡ []) → AreNamed params
    → AreNamed (content m).params
named_again m params (inl same) named = rw same named
named_again m params (inr empty) named = rw empty tt

all_of : (xs : List Address) → ((i : ℕ) → i < length xs → (a : Address) × (slice_get xs i ≡ Some a) × IsAddress a)
    → AllByRecursion IsAddress xs
all_of [] each = tt
all_of (x ∷ xs) each =
    let first = each 0 (omega arith) in
    (subst IsAddress (let e = first.1 in cc) first.2, all_of xs (λ i lt. each (suc i) (omega arith)))

pub reads_named : (b : List ℕ) (m : Message) → Reads b m → AreNamed (content m).params
reads_named b m h =
    let made_of = of_parts h.parts.code h.parts.fixed h.addresses _ h.parts.params m h.fields in
    named_again m h.parts.params made_of.params_are (named_of h.has_parts.layout b h.parts.params h.has_parts.params)

pub reads_kept : (b : List ℕ) (m : Message) → AreOctets b → Reads b m → IsMessage m
reads_kept b m octets h =
    let made_of = of_parts h.parts.code h.parts.fixed h.addresses _ h.parts.params m h.fields in
    let addresses : AllByRecursion IsAddress h.addresses = all_of h.addresses (λ i lt.
    let x = h.each i (omega (arith, h.count)) in
    (x.0, x.1, address_kept (part_of h.parts.variable i) x.0 (octets_of b h.parts i octets h.has_parts) x.2)) in
    record {
      addresses = rw made_of.addresses_are addresses;
      named = reads_named b m h;
      sevens_fit = made_of.sevens_fit;
    }

pub answer_kept : (b : List ℕ) (r : Result Message DecodeFault) → AreOctets b → IfOk r (λ m. Reads b m) → IfOk r (λ m. IsMessage m)
answer_kept b (Ok m) octets h = reads_kept b m octets h
answer_kept b (Err e) octets h = tt
