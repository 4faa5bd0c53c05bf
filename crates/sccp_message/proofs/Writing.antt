-- What is written for a message is read as that message.
use Rattle.std.proofs.Common.{◌≡◌, ℕ, zero, suc, ◌+◌, ◌*◌, ◌/◌, ◌%◌, ◌<◌, Bool, true, false, List, [], ◌∷◌, ◌++◌, length, Option, Some}
use Rattle.std.proofs.Common.{None, refl, ap, ◌∙◌, arith}
use Rattle.std.specs.Prelude.{map, slice_get, unwrap_or}
use Rattle.std.specs.List.{AllByRecursion}
use Rattle.std.specs.Option.{option_to_list}
use Rattle.std.proofs.lemmas.List.{length-append, length-map}
use Rattle.sccp_base.specs.Bits.{bit}
use Rattle.sccp_address.specs.declared.address.Address.{Address}
use Rattle.sccp_address.specs.Addresses.{AddressIs}
use Rattle.sccp_address.specs.Written.{flag, written, IsAddress}
use Rattle.sccp_address.proofs.Writing.{written_is}
use Rattle.sccp_layout.specs.Table.{Row, row}
use Rattle.sccp_layout.specs.Parts.{Fits, FitsLayout}
use Rattle.sccp_layout.proofs.Joined.{joined_has_parts}
use Rattle.sccp_message.specs.declared.message.Message.{Message}
use Rattle.sccp_message.specs.declared.message.Message.TheVariants as messages
use Rattle.sccp_message.specs.Messages.{message_of}
use Rattle.sccp_message.specs.Reads.{Reads}
use Rattle.sccp_message.specs.Written.{content, sevens, parts_from, message_octets, Sound, AreSevens, IsMessage}

pub reference_again : (n : ℕ) → n % 256 + 256 * (n / 256 % 256) + 65536 * (n / 65536) ≡ n
reference_again n = omega arith

flag_again : (b : Bool) → bit (flag b) 1 ≡ b
flag_again true = refl
flag_again false = refl

seven_again : (n : ℕ) → n < 128 → 2 * n / 2 % 128 ≡ n
seven_again n lt = omega arith

seven_flag : (n : ℕ) (b : Bool) → n < 128 → ((2 * n + flag b) / 2 % 128 ≡ n) × (bit (2 * n + flag b) 1 ≡ b)
seven_flag n true lt = (omega arith, (let e : (2 * n + 1) / 1 % 2 ≡ 1 = omega arith in rw e refl))
seven_flag n false lt = (omega arith, (let e : (2 * n + 0) / 1 % 2 ≡ 0 = omega arith in rw e refl))

-- a message is of a type, and its content gives it back
pub record Typed (m : Message) : Type 0 where
  pub type : Row
  pub of_type : row (content m).code ≡ Some type
  pub fixed : length (content m).fixed ≡ type.layout.fixed
  pub addresses : length (content m).addresses ≡ type.addresses
  pub variable : type.addresses + length (option_to_list (content m).payload) ≡ type.layout.variable
  pub params : type.layout.optional ≡ false → (content m).params ≡ []
  pub again : AreSevens (sevens m) → message_of (content m).code (content m).fixed (content m).addresses (unwrap_or (content m).payload [])
      (content m).params ≡ Some m

pub typed : (m : Message) → Typed m
typed (messages.Cr slr class called params) =
    record {
      type = _;
      of_type = refl;
      fixed = refl;
      addresses = refl;
      variable = refl;
      params = λ e. absurd cc;
      again = λ h. rw
          (reference_again slr) refl;
    }
typed (messages.Cc dlr slr class params) =
    record {
      type = _;
      of_type = refl;
      fixed = refl;
      addresses = refl;
      variable = refl;
      params = λ e. absurd cc;
      again = λ h. rw
          (reference_again dlr, reference_again slr) refl;
    }
typed (messages.Cref dlr cause params) =
    record {
      type = _;
      of_type = refl;
      fixed = refl;
      addresses = refl;
      variable = refl;
      params = λ e. absurd cc;
      again = λ h. rw
          (reference_again dlr) refl;
    }
typed (messages.Rlsd dlr slr cause params) =
    record {
      type = _;
      of_type = refl;
      fixed = refl;
      addresses = refl;
      variable = refl;
      params = λ e. absurd cc;
      again = λ h. rw
          (reference_again dlr, reference_again slr) refl;
    }
typed (messages.Rlc dlr slr) =
    record {
      type = _;
      of_type = refl;
      fixed = refl;
      addresses = refl;
      variable = refl;
      params = λ e. refl;
      again = λ h. rw
          (reference_again dlr, reference_again slr) refl;
    }
typed (messages.Dt1 dlr more payload) =
    record {
      type = _;
      of_type = refl;
      fixed = refl;
      addresses = refl;
      variable = refl;
      params = λ e. refl;
      again = λ h. rw
          (reference_again dlr, flag_again more) refl;
    }
typed (messages.Dt2 dlr send receive more payload) = record {
  type = _;
  of_type = refl;
  fixed = refl;
  addresses = refl;
  variable = refl;
  params = λ e. refl;
  again = λ h. let s = seven_again send h.0 in let r = seven_flag receive more h.1.0 in rw (reference_again dlr, s, r.0, r.1) refl;
}
typed (messages.Ak dlr receive credit) =
    record {
      type = _;
      of_type = refl;
      fixed = refl;
      addresses = refl;
      variable = refl;
      params = λ e. refl;
      again = λ h. rw
          (reference_again dlr, seven_again receive h.0) refl;
    }
typed (messages.Udt class called calling payload) = record
    { type = _; of_type = refl; fixed = refl; addresses = refl; variable = refl; params = λ e. refl; again = λ h. refl }
typed (messages.Udts cause called calling payload) = record
    { type = _; of_type = refl; fixed = refl; addresses = refl; variable = refl; params = λ e. refl; again = λ h. refl }
typed (messages.Ed dlr payload) =
    record {
      type = _;
      of_type = refl;
      fixed = refl;
      addresses = refl;
      variable = refl;
      params = λ e. refl;
      again = λ h. rw
          (reference_again dlr) refl;
    }
typed (messages.Ea dlr) =
    record {
      type = _;
      of_type = refl;
      fixed = refl;
      addresses = refl;
      variable = refl;
      params = λ e. refl;
      again = λ h. rw
          (reference_again dlr) refl;
    }
typed (messages.Rsr dlr slr cause) =
    record {
      type = _;
      of_type = refl;
      fixed = refl;
      addresses = refl;
      variable = refl;
      params = λ e. refl;
      again = λ h. rw
          (reference_again dlr, reference_again slr) refl;
    }
typed (messages.Rsc dlr slr) =
    record {
      type = _;
      of_type = refl;
      fixed = refl;
      addresses = refl;
      variable = refl;
      params = λ e. refl;
      again = λ h. rw
          (reference_again dlr, reference_again slr) refl;
    }
typed (messages.Err dlr cause) =
    record {
      type = _;
      of_type = refl;
      fixed = refl;
      addresses = refl;
      variable = refl;
      params = λ e. refl;
      again = λ h. rw
          (reference_again dlr) refl;
    }
typed (messages.It dlr slr class send receive more credit) =
    record {
      type = _;
      of_type = refl;
      fixed = refl;
      addresses = refl;
      variable = refl;
      params = λ e. refl;
      again = λ h. let s = seven_again send h.0 in let r =
          seven_flag receive more h.1.0 in rw (reference_again dlr, reference_again slr, s, r.0, r.1) refl;
    }
typed (messages.Xudt first hops called calling payload params) =
    record { type = _; of_type = refl; fixed = refl; addresses = refl; variable = refl; params = λ e. absurd cc; again = λ h. refl }
typed (messages.Xudts first hops called calling payload params) =
    record { type = _; of_type = refl; fixed = refl; addresses = refl; variable = refl; params = λ e. absurd cc; again = λ h. refl }
typed (messages.Ludt first hops called calling payload params) =
    record { type = _; of_type = refl; fixed = refl; addresses = refl; variable = refl; params = λ e. absurd cc; again = λ h. refl }
typed (messages.Ludts first hops called calling payload params) =
    record { type = _; of_type = refl; fixed = refl; addresses = refl; variable = refl; params = λ e. absurd cc; again = λ h. refl }

-- the addresses as they are written, and then the data
address_at : (xs : List Address) (rest : List (List ℕ)) (i : ℕ) → AllByRecursion IsAddress xs → i < length xs
    → (a : Address) × (slice_get xs i ≡ Some a) × AddressIs (unwrap_or (slice_get (map written xs ++ rest) i) []) a
address_at [] rest i h lt = absurd (omega arith)
address_at (a ∷ xs) rest zero h lt = (a, refl, written_is a h.0)
address_at (a ∷ xs) rest (suc i) h lt = address_at xs rest i h.1 (omega arith)

data_at : (xs : List Address) (payload : Option (List ℕ)) (n : ℕ) → length xs ≡ n
    → unwrap_or (slice_get (map written xs ++ option_to_list payload) n) [] ≡ unwrap_or payload []
data_at [] payload zero e = first payload
  where
    first : (o : Option (List ℕ)) → unwrap_or (slice_get (option_to_list o) 0) [] ≡ unwrap_or o []
    first None = refl
    first (Some x) = refl
data_at [] payload (suc n) e = absurd (omega arith)
data_at (a ∷ xs) payload zero e = absurd (omega arith)
data_at (a ∷ xs) payload (suc n) e = data_at xs payload n (omega arith)

-- the parts of a message fit the layout of its type
pub fits_of : (m : Message) (t : Typed m) → Fits t.type.layout (parts_from m)
fits_of m t = record {
  fixed = t.fixed;
  variable = length-append (map written (content m).addresses) (option_to_list (content m).payload)
      ∙ omega (arith, length-map (content m).addresses written, t.addresses, t.variable);
  params = t.params;
}

pub fits_layout : (m : Message) → FitsLayout (parts_from m)
fits_layout m =
    let t = typed m in
    record { layout = t.type.layout; of_type = rw t.of_type refl; fits = fits_of m t }

pub written_reads : (m : Message) → IsMessage m → Sound m → Reads (message_octets m) m
written_reads m h sound =
    let t = typed m in
    let c = content m in
    let p = parts_from m in
    let has = joined_has_parts t.type.layout p (rw t.of_type refl) (fits_of m t) h.named in
    rw t.of_type (record {
      parts = p;
      has_parts = has;
      type = t.type;
      of_type = t.of_type;
      addresses = c.addresses;
      count = t.addresses;
      each = λ i lt. address_at c.addresses (option_to_list c.payload) i h.addresses (omega (arith, t.addresses));
      fields = ap (λ (x : List ℕ). message_of c.code c.fixed c.addresses x c.params)
          (data_at c.addresses c.payload t.type.addresses t.addresses) ∙ t.again h.sevens_fit;
      sound = rw t.of_type at sound;
    })
