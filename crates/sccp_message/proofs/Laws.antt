-- What is read as a message is one, and octets that are a message are read as it.
use Rattle.std.proofs.Common.{◌≡◌, ℕ, List, Option, Some, None, Result, Ok, Err, refl, sym, ap, ◌∙◌, zero-add}
use Rattle.std.specs.Prelude.{IfOk}
use Rattle.std.specs.Option.{ok_or}
use Rattle.std.specs.List.{range_with_len}
use Rattle.std.proofs.lemmas.List.FromFn.{length-range_with_len}
use Rattle.sccp_base.specs.Answers.{◌>>=◌, all_ok}
use Rattle.sccp_base.proofs.AllOk.{bind_ok, length-all_ok, all_ok_at, all_ok_from}
use Rattle.sccp_address.specs.declared.fault.AddressFault.{AddressFault}
use Rattle.sccp_address.specs.Reading.{address_of}
use Rattle.sccp_address.proofs.Laws.{address_takes, address_again}
use Rattle.sccp_layout.specs.declared.parts.Parts.{Parts}
use Rattle.sccp_layout.specs.declared.parts.SplitFault.{SplitFault}
use Rattle.sccp_layout.specs.declared.parts.SplitFault.TheVariants as split
use Rattle.sccp_layout.specs.Parameter.{Parameter}
use Rattle.sccp_layout.specs.Table.{Row, row}
use Rattle.sccp_layout.specs.Splitting.{parts_of}
use Rattle.sccp_layout.specs.Parts.{HasParts}
use Rattle.sccp_layout.proofs.Laws.{parts_take, parts_again}
use Rattle.sccp_message.specs.declared.message.Message.{Message}
use Rattle.sccp_message.specs.declared.fault.DecodeFault.{DecodeFault}
use Rattle.sccp_message.specs.declared.fault.DecodeFault.TheVariants as faults
use Rattle.sccp_message.specs.Fields.{first_unread}
use Rattle.sccp_message.specs.Messages.{message_of}
use Rattle.sccp_message.specs.Reading.{Gives, as_split, as_address, part_of, address_in, unread, fields_in, message_by, message_if}
use Rattle.sccp_message.specs.Reading.{message_in, reading}
use Rattle.sccp_message.specs.Reads.{Reads}

split_ok : {X : Type 0} (r : Result X SplitFault) (x : X) → as_split r ≡ Ok x → r ≡ Ok x
split_ok (Ok y) x e = cc
split_ok (Err f) x e = absurd cc

address_ok : {X : Type 0} (i : ℕ) (r : Result X AddressFault) (x : X) → as_address i r ≡ Ok x → r ≡ Ok x
address_ok i (Ok y) x e = cc
address_ok i (Err f) x e = absurd cc

some_ok : {X : Type 0} (o : Option X) (f : DecodeFault) (x : X) → ok_or o f ≡ Ok x → o ≡ Some x
some_ok (Some y) f x e = cc
some_ok None f x e = absurd cc

unread_ok : (o : Option ℕ) (params ps : List Parameter) → unread o params ≡ Ok ps → (o ≡ None) × (params ≡ ps)
unread_ok None params ps e = (refl, cc)
unread_ok (Some name) params ps e = absurd cc

by_takes : (b : List ℕ) (p : Parts) (r : Row) (m : Message) → HasParts b p → row p.code ≡ Some r → message_by r p ≡ Ok m → Reads b m
by_takes b p r m has of_type e =
    let a = bind_ok (all_ok (address_in p.variable) (range_with_len 0 r.addresses))
    (λ addresses. fields_in r.known p.params >>= λ params. ok_or
    (message_of p.code p.fixed addresses (part_of p.variable r.addresses) params) (faults.Split split.UnknownType)) m e in
    let f = bind_ok (fields_in r.known p.params) (λ params. ok_or (message_of p.code p.fixed a.0 (part_of p.variable r.addresses) params)
    (faults.Split split.UnknownType)) m a.2 in
    let u = unread_ok (first_unread r.known p.params) p.params f.0 f.1 in
    let made : message_of p.code p.fixed a.0 (part_of p.variable r.addresses) p.params ≡ Some m =
    ap (message_of p.code p.fixed a.0 (part_of p.variable r.addresses)) u.1
    ∙ some_ok (message_of p.code p.fixed a.0 (part_of p.variable r.addresses) f.0) (faults.Split split.UnknownType) m f.2 in
    record {
      parts = p;
      has_parts = has;
      type = r;
      of_type = of_type;
      addresses = a.0;
      count = length-all_ok (address_in p.variable) (range_with_len 0 r.addresses) a.0 a.1 ∙ length-range_with_len 0 r.addresses;
      each = λ i lt.
          let t = all_ok_at (address_in p.variable) 0 r.addresses a.0 a.1 i lt in
          let here : address_in p.variable i ≡ Ok t.0 = ap (address_in p.variable) (sym (zero-add i)) ∙ t.2 in
          (t.0, t.1, address_takes (part_of p.variable i) t.0 (address_ok i (address_of (part_of p.variable i)) t.0 here));
      fields = made;
      sound = u.0;
    }

if_row : (o : Option Row) (p : Parts) (m : Message) → message_if o p ≡ Ok m → (r : Row) × (o ≡ Some r) × (message_by r p ≡ Ok m)
if_row None p m e = absurd cc
if_row (Some r) p m e = (r, refl, e)

pub message_takes : (b : List ℕ) (m : Message) → reading b ≡ Ok m → Reads b m
unfolding message_in
message_takes b m e =
    let p = bind_ok (as_split (parts_of b)) message_in m e in
    let r = if_row (row p.0.code) p.0 m p.2 in
    by_takes b p.0 r.0 m (parts_take b p.0 (split_ok (parts_of b) p.0 p.1)) r.1 r.2

pub message_again : (b : List ℕ) (m : Message) → Reads b m → reading b ≡ Ok m
unfolding message_in
message_again b m h =
    let p = h.parts in
    let r = h.type in
    let addresses : all_ok (address_in p.variable) (range_with_len 0 r.addresses) ≡ Ok h.addresses =
    all_ok_from (address_in p.variable) 0 r.addresses h.addresses h.count (λ i lt.
    let x = h.each i lt in
    (x.0, x.1, ap (address_in p.variable) (zero-add i) ∙ ap (as_address i) (address_again (part_of p.variable i) x.0 x.2))) in
    let fields : fields_in r.known p.params ≡ Ok p.params = ap (λ (o : Option ℕ). unread o p.params) h.sound in
    rw (parts_again b p h.has_parts, h.of_type, addresses, fields, h.fields) refl

pub is_found : (b : List ℕ) (r : Result Message DecodeFault) → Gives (λ m. m) r (reading b) → IfOk r (λ m. Reads b m)
is_found b (Ok m) given = message_takes b m given
is_found b (Err e) given = tt
