-- What is written for a message: when it can be written, which octets it has, and that these say which message it is.
use Rattle.std.proofs.Common.{◌≡◌, ℕ, Bool, true, false, eqb, List, [], ◌∷◌, length, Option, Some, None, Result, Ok, Err, refl, sym, ap}
use Rattle.std.proofs.Common.{subst, ◌∙◌, inl, inr, arith}
use Rattle.std.specs.Prelude.{IfOk, IsSome, IsTrue, option_map, ◌||◌, ◌&&◌}
use Rattle.std.proofs.lemmas.Bool.{and_parts, eqb-true}
use Rattle.std.proofs.lemmas.Slice.Eq.{bytes_eq-Decides}
use Rattle.sccp_base.specs.Answers.{unless}
use Rattle.sccp_layout.specs.declared.shape.Layout.{Layout}
use Rattle.sccp_layout.specs.declared.parts.Parts.{Parts}
use Rattle.sccp_layout.specs.declared.parts.JoinFault.{JoinFault}
use Rattle.sccp_layout.specs.declared.parts.JoinFault.TheVariants as joins
use Rattle.sccp_layout.specs.Table.{Row, row, layout_of}
use Rattle.sccp_layout.specs.Parameter.{Parameter}
use Rattle.sccp_layout.specs.Parts.{ParamsAre, HasParts, FitsLayout}
use Rattle.sccp_layout.specs.Joining.{Gives as JoinGives, joined, join_fault, joining}
use Rattle.sccp_message.specs.declared.message.Message.{Message}
use Rattle.sccp_message.specs.declared.fault.DecodeFault.{DecodeFault}
use Rattle.sccp_message.specs.declared.encode_fault.EncodeFault.{EncodeFault}
use Rattle.sccp_message.specs.Reading.{reading}
use Rattle.sccp_message.specs.Reads.{Reads}
use Rattle.sccp_message.specs.Written.{Content, content, sevens, parts_with, parts_from, message_octets, Sound, AreAddresses, AreNamed}
use Rattle.sccp_message.specs.Written.{AreSevens, IsMessage, Writable, Canonical}
use Rattle.sccp_message.specs.Encoding.{Gives, as_join, encoding_by, encoding, fits_type, fits, is_written, is_written_of, canonical}
use Rattle.sccp_message.proofs.Laws.{message_takes, message_again}
use Rattle.sccp_message.proofs.Writing.{typed, written_reads}

encoding_at : (m : Message) → encoding m ≡ as_join (joining (typed m).type.layout (parts_from m))
encoding_at m = rw (typed m).of_type refl

pub octets_at : (m : Message) → message_octets m ≡ joined (typed m).type.layout (parts_from m)
octets_at m = rw (typed m).of_type refl

-- what join answers for parts is what encode answers for them
gives_joining : (r whole : Result (List ℕ) JoinFault) → JoinGives (λ octets. octets) r whole
    → Gives (λ octets. octets) (as_join r) (as_join whole)
gives_joining (Ok octets) whole h = ap as_join h
gives_joining (Err (joins.TooLong part)) whole h = ap as_join h
gives_joining (Err (joins.PointerTooFar i)) whole h = ap as_join h
gives_joining (Err joins.OutOfMemory) whole h = tt

gives_by : (o : Option Row) (p : Parts) (r : Result (List ℕ) JoinFault) → IsSome o
    → ((l : Layout) → option_map (λ line. line.layout) o ≡ Some l → JoinGives (λ octets. octets) r (joining l p))
    → Gives (λ octets. octets) (as_join r) (encoding_by o p)
gives_by None p r some exact = absurd cc
gives_by (Some line) p r some exact = gives_joining r (joining line.layout p) (exact line.layout refl)

some_by : (o : Option Row) (l : Layout) → option_map (λ line. line.layout) o ≡ Some l → IsSome o
some_by None l e = absurd cc
some_by (Some line) l e = refl

pub gives_from : (p : Parts) (r : Result (List ℕ) JoinFault) → FitsLayout p
    → ((l : Layout) → layout_of p.code ≡ Some l → JoinGives (λ octets. octets) r (joining l p))
    → Gives (λ octets. octets) (as_join r) (encoding_by (row p.code) p)
gives_from p r h exact = gives_by (row p.code) p r (some_by (row p.code) h.layout h.of_type) exact

-- What a message is made of fits its type.

none_of : (params : List Parameter) → eqb (length params) 0 ≡ true → params ≡ []
none_of [] t = refl
none_of (p ∷ ps) t = absurd (omega (arith, eqb-true (length (p ∷ ps)) 0 t))

none_unless : (optional : Bool) (params : List Parameter) → (optional || eqb (length params) 0) ≡ true → optional ≡ false → params ≡ []
none_unless true params t no_list = absurd cc
none_unless false params t no_list = none_of params t

fits_by : (c : Content) (r : Row) → row c.code ≡ Some r → fits_type (Some r) c ≡ true → FitsLayout (parts_with c)
fits_by c r e test =
    let fixed = eqb (length c.fixed) r.layout.fixed in
    let variable = eqb (length (parts_with c).variable) r.layout.variable in
    let params = r.layout.optional || eqb (length c.params) 0 in
    let both = and_parts (fixed && variable) params test in
    let front = and_parts fixed variable both.0 in
    record {
      layout = r.layout;
      of_type = rw e refl;
      fits = record {
        fixed = eqb-true _ _ front.0;
        variable = eqb-true _ _ front.1;
        params = none_unless r.layout.optional c.params
            both.1;
      };
    }

fits_at : (c : Content) (o : Option Row) → row c.code ≡ o → fits_type o c ≡ true → FitsLayout (parts_with c)
fits_at c None e test = absurd cc
fits_at c (Some r) e test = fits_by c r e test

pub fits_parts : (c : Content) → fits c ≡ true → FitsLayout (parts_with c)
fits_parts c test = fits_at c (row c.code) refl test

-- the names of parameters that are in a message are not 0
pub are_named : (r : Result (List ℕ) JoinFault) (p : Parts) → IfOk r (λ octets. HasParts octets p) → IfOk r (λ _. AreNamed p.params)
are_named (Ok octets) p has = named has.layout octets p.params has.params
  where
    named : (l : Layout) (b : List ℕ) (params : List Parameter) → ParamsAre l b params → AreNamed params
    named l b params (inl none) = subst AreNamed (sym none.1) tt
    named l b params (inr listed) = listed.2.named
are_named (Err e) p has = tt

unless_ok : (o : Option JoinFault) (x octets : List ℕ) → as_join (unless o (Ok x)) ≡ Ok octets → (o ≡ None) × (x ≡ octets)
unless_ok None x octets e = (refl, cc)
unless_ok (Some (joins.TooLong part)) x octets e = absurd cc
unless_ok (Some (joins.PointerTooFar i)) x octets e = absurd cc
unless_ok (Some joins.OutOfMemory) x octets e = absurd cc

encoding_ok : (m : Message) (octets : List ℕ) → encoding m ≡ Ok octets → Writable m × (octets ≡ message_octets m)
encoding_ok m octets e =
    let t = typed m in
    let w = unless_ok (join_fault t.type.layout (parts_from m)) (joined t.type.layout (parts_from m)) octets (sym (encoding_at m) ∙ e) in
    (rw t.of_type w.0, sym w.1 ∙ sym (octets_at m))

abbrev ok : List ℕ → Result (List ℕ) EncodeFault
ok octets = Ok octets

encoding_of : (m : Message) → Writable m → encoding m ≡ Ok (message_octets m)
encoding_of m writable =
    let t = typed m in
    let none : join_fault t.type.layout (parts_from m) ≡ None = rw t.of_type at writable in
    encoding_at m ∙ ap (λ (o : Option JoinFault). as_join (unless o (Ok (joined t.type.layout (parts_from m))))) none
    ∙ ap ok (sym (octets_at m))

-- What encode answers.

pub answer_found : (m : Message) (r : Result (List ℕ) EncodeFault) → Gives (λ octets. octets) r (encoding m)
    → IfOk r (λ octets. octets ≡ message_octets m)
answer_found m (Ok octets) h = (encoding_ok m octets h).1
answer_found m (Err e) h = tt

pub answer_writable : (m : Message) (r : Result (List ℕ) EncodeFault) → Gives (λ octets. octets) r (encoding m) → IfOk r (λ _. Writable m)
answer_writable m (Ok octets) h = (encoding_ok m octets h).0
answer_writable m (Err e) h = tt

pub answer_only : (m : Message) (r : Result (List ℕ) EncodeFault) → Gives (λ octets. octets) r (encoding m) → Writable m
    → Gives (λ octets. octets) r (Ok (message_octets m))
answer_only m r h writable = subst (λ f. Gives (λ octets. octets) r f) (encoding_of m writable) h

pub answer_again : (m : Message) (r : Result (List ℕ) EncodeFault) → Gives (λ octets. octets) r (encoding m)
    → IfOk r (λ _. AreNamed (content m).params) → AreSevens (sevens m)
    → AreAddresses (content m).addresses → Sound m → IfOk r (λ octets. Reads octets m)
answer_again m (Ok octets) h named sevens_fit addresses sound =
    subst (λ (b : List ℕ). Reads b m) (sym (answer_found m (Ok octets) h))
    (written_reads m (record { addresses = addresses; named = named; sevens_fit = sevens_fit }) sound)
answer_again m (Err e) h named sevens_fit addresses sound = tt

-- Canonical octets.

written_takes : (b : List ℕ) (m : Message) (w : Result (List ℕ) EncodeFault) → reading b ≡ Ok m → encoding m ≡ w → is_written b w ≡ true
    → Canonical b
written_takes b m (Ok octets) reads writes test =
    let same = encoding_ok m octets writes in
    record { message = m; reads = message_takes b m reads; writable = same.0; same = sym ((bytes_eq-Decides octets b).0 test) ∙ same.1 }
written_takes b m (Err e) reads writes test = absurd cc

read_takes : (b : List ℕ) (r : Result Message DecodeFault) → reading b ≡ r → is_written_of b r ≡ true → Canonical b
read_takes b (Ok m) reads test = written_takes b m (encoding m) reads refl test
read_takes b (Err e) reads test = absurd cc

canonical_takes : (b : List ℕ) → canonical b ≡ true → Canonical b
canonical_takes b test = read_takes b (reading b) refl test

canonical_again : (b : List ℕ) → Canonical b → canonical b ≡ true
canonical_again b h = ap (is_written_of b) (message_again b h.message h.reads) ∙ ap (is_written b) (encoding_of h.message h.writable)
    ∙ (bytes_eq-Decides (message_octets h.message) b).1 (sym h.same)

pub answer_yes : {E : Type 0} (b : List ℕ) (r : Result Bool E) → IfOk r (λ is. is ≡ canonical b) → IfOk r (λ is. IsTrue is → Canonical b)
answer_yes b (Ok is) h = λ yes. canonical_takes b (sym h ∙ yes)
answer_yes b (Err e) h = tt

pub answer_no : {E : Type 0} (b : List ℕ) (r : Result Bool E) → IfOk r (λ is. is ≡ canonical b) → IfOk r (λ is. Canonical b → IsTrue is)
answer_no b (Ok is) h = λ c. h ∙ canonical_again b c
answer_no b (Err e) h = tt

-- Octets say which message they are.

abbrev read : Message → Result Message DecodeFault
read m = Ok m

read_is : (m n : Message) → read m ≡ read n → m ≡ n
read_is m n e = cc

pub written_again : (m : Message) → IsMessage m → Sound m → reading (message_octets m) ≡ Ok m
written_again m is sound = message_again (message_octets m) m (written_reads m is sound)

pub equal_again : (m n : Message) → IsMessage m → Sound m → IsMessage n → Sound n → message_octets m ≡ message_octets n → m ≡ n
equal_again m n is_m sound_m is_n sound_n same = read_is m n (sym (written_again m is_m sound_m) ∙ ap reading same
    ∙ written_again n is_n sound_n)
