-- What a DATA message carries is among its octets.
use Rattle.std.proofs.Common.{◌≡◌, ℕ, ◌+◌, ◌-◌, ◌<◌, ◌≤◌, Bool, true, false, cond, eqb, leb, ltb, List, [], ◌∷◌, ◌++◌, length, drop, get_or}
use Rattle.std.proofs.Common.{Option, Some, None, Ok, refl, sym, ◌∙◌, ap, subst, append_assoc, length-drop, arith, inl, inr, ◌⊎◌}
use Rattle.std.specs.Prelude.{option_map, option_and_then, find, slice_index, ◌==◌}
use Rattle.std.proofs.lemmas.Bool.{ltb-true, ltb-false, leb-true}
use Rattle.std.proofs.lemmas.List.{get_or-drop, get_or_append_left, get_or_past}
use Rattle.std.specs.Int.{w16, to_be_bytes}
use Rattle.hex.specs.Hex.{IsBytes}
use Rattle.m3ua_data.proofs.Found.{found}
use Rattle.m3ua_data.specs.Carried.{Payload, payload_of, carried_of}
use Rattle.m3ua_data.specs.DataIs.{own_length, Stands, StandFrom, DataIs}
use Rattle.m3ua_data.specs.Fields.{first, protocol_data}
use Rattle.m3ua_data.specs.Numbers.{number_4, up_to_four}
use Rattle.m3ua_data.specs.Reading.{reading}
use Rattle.m3ua_data.specs.declared.tagged.Tagged.{Tagged}

-- octets that are among those of a text, and fewer by at least this number
pub record IsIn (b octets : List ℕ) (fewer : ℕ) : Type 0 where
  pub short : length octets + fewer ≤ length b
  pub bytes : IsBytes octets

bytes-drop : (n : ℕ) (b : List ℕ) → IsBytes b → IsBytes (drop n b)
bytes-drop n b h = λ i. subst (λ (x : ℕ). x < 256) (sym (get_or-drop n b i 0)) (h (n + i))

-- a front of octets
bytes-front : (front back : List ℕ) → IsBytes (front ++ back) → IsBytes front
bytes-front front back h = λ i. by i (ltb i (length front)) refl where
  by : (i : ℕ) (b : Bool) → ltb i (length front) ≡ b → get_or front i 0 < 256
  by i true e = subst (λ (x : ℕ). x < 256) (get_or_append_left front back 0 i (ltb-true i (length front) e)) (h i)
  by i false e = subst (λ (x : ℕ). x < 256) (sym (get_or_past front i 0 (ltb-false i (length front) e))) (omega arith)

-- the contents of a parameter at the front
contents_in : (room : ℕ) (octets : List ℕ) (p : Tagged) → IsBytes octets → Stands room octets p → IsBytes p.octets
contents_in room octets p h s =
    bytes-front p.octets s.behind
    (subst IsBytes (ap (drop 4) (s.parts ∙ append_assoc (to_be_bytes w16 p.tag ++ to_be_bytes w16 (own_length p)) p.octets s.behind))
    (bytes-drop 4 octets h))

some_is : {x y : List ℕ} → Some x ≡ Some y → x ≡ y
some_is e = cc

none_is : {y : List ℕ} → None ≡ Some y → ⊥
none_is e = cc

-- the contents of the first parameter of a tag
first_in : (b : List ℕ) (end place tag : ℕ) (ps : List Tagged) (octets : List ℕ) → IsBytes b → end ≤ length b → 8 ≤ place
    → StandFrom b end place ps → first tag ps ≡ Some octets
    → IsIn b octets 12
first_in b end place tag [] octets bytes le from stand e = absurd (none_is e)
first_in b end place tag (p ∷ ps) octets bytes le from stand e =
    by (eqb p.tag tag) e (λ f. first_in b end (up_to_four (place + own_length p)) tag ps octets bytes le (omega arith) stand.1 f) where
      here : IsIn b p.octets 12
      here = record {
        short = omega (arith, stand.0.inside);
        bytes = contents_in (end - place) (drop place b) p
            (bytes-drop place b bytes) stand.0;
      }

      by : (is : Bool) → option_map (λ p. p.octets) (cond is (Some p) (find (λ p. p.tag == tag) ps)) ≡ Some octets
          → (first tag ps ≡ Some octets → IsIn b octets 12) → IsIn b octets 12
      by true f later = subst (λ o. IsIn b o 12) (some_is f) here
      by false f later = later f

size_in : (b : List ℕ) (size : ℕ) → (length b ≡ size) ⊎ (length b ≡ up_to_four size) → size ≤ length b
size_in b size (inl e) = omega arith
size_in b size (inr e) = omega arith

pub record IsCarried (b : List ℕ) (p : Payload) : Type 0 where
  pub payload : IsIn b p.payload 24
  pub service : p.service < 256

payload_is : {p q : Payload} → Some p ≡ Some q → p ≡ q
payload_is e = cc

no_payload : {q : Payload} → None ≡ Some q → ⊥
no_payload e = cc

from_contents : (b octets : List ℕ) (p : Payload) → IsIn b octets 12 → payload_of octets ≡ Some p → IsCarried b p
from_contents b octets p h e = by (leb 12 (length octets)) refl e where
  whole : Payload
  whole = record { origin = number_4 octets 0; destination = number_4 octets 4; service = slice_index octets 8; payload = drop 12 octets }

  by : (fits : Bool) → leb 12 (length octets) ≡ fits → cond fits (Some whole) None ≡ Some p → IsCarried b p
  by true is f =
      let le : 12 ≤ length octets = leb-true 12 (length octets) is in
      subst (IsCarried b) (payload_is f) (record {
        payload = record { short = omega (arith, length-drop 12 octets, h.short); bytes = bytes-drop 12 octets h.bytes };
        service = h.bytes 8;
      })
  by false is f = absurd (no_payload f)

-- what is carried by octets that read
pub carried_in : (b : List ℕ) (ps : List Tagged) (p : Payload) → IsBytes b → reading b ≡ Ok ps → carried_of ps ≡ Some p → IsCarried b p
carried_in b ps p bytes reads e = by (first protocol_data ps) refl e where
  d : DataIs b ps
  d = found b ps bytes reads

  by : (o : Option (List ℕ)) → first protocol_data ps ≡ o → option_and_then payload_of o ≡ Some p → IsCarried b p
  by None is f = absurd (no_payload f)
  by (Some octets) is f = from_contents b octets p (first_in b d.size 8 protocol_data ps octets bytes (size_in b d.size d.whole)
      (omega arith) d.stand is) f
