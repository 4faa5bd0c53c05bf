-- An offered message is the one that its octets read as.
use Rattle.std.specs.Prelude.{ℕ, ◌≡◌, ◌⊎◌, Bool, false, not, ◌&&◌, if◌then◌else◌, List, [], Option, Some, None, is_some, is_none, unwrap_or}
use Rattle.std.specs.Prelude.{option_and_then, Result, Ok, Err, refl}
use Rattle.std.specs.List.{range_with_len}
use Rattle.std.specs.Option.{option_map_or, ok_or}
use Rattle.std.proofs.Common.{sym, ◌∙◌, ap, ⊎_elim, inl, inr}
use Rattle.sccp_base.specs.Answers.{◌>>=◌, all_ok}
use Rattle.sccp_base.proofs.AllOk.{bind_ok}
use Rattle.sccp_layout.specs.declared.parts.JoinFault.{JoinFault}
use Rattle.sccp_layout.specs.declared.parts.Parts.{Parts}
use Rattle.sccp_layout.specs.declared.parts.SplitFault.{SplitFault}
use Rattle.sccp_layout.specs.declared.parts.SplitFault.TheVariants as split
use Rattle.sccp_layout.specs.Parameter.{Parameter}
use Rattle.sccp_layout.specs.Splitting.{parts_of}
use Rattle.sccp_layout.specs.Table.{Row}
use Rattle.sccp_layout.proofs.Joined.{parts_of-joined}
use Rattle.sccp_message.specs.declared.message.Message.{Message}
use Rattle.sccp_message.specs.declared.fault.DecodeFault.{DecodeFault}
use Rattle.sccp_message.specs.declared.fault.DecodeFault.TheVariants as faults
use Rattle.sccp_message.specs.Fields.{first_unread}
use Rattle.sccp_message.specs.Messages.{message_of}
use Rattle.sccp_message.specs.Reading.{as_split, part_of, address_in, unread, fields_in, message_if, message_in, reading}
use Rattle.sccp_message.specs.Written.{content, message_octets, parts_from, Sound, IsMessage}
use Rattle.sccp_message.specs.Unitdata.{called_of}
use Rattle.sccp_message.proofs.Octets.{octets_at}
use Rattle.sccp_message.proofs.Writing.{typed, fits_of}
use Rattle.sccp_scrc.specs.Unitdata.{write_fault}
use Rattle.sccp_scrc.proofs.Redirected.{reads_again, octets_written}
use Rattle.couple_chain.specs.World as chains
use Rattle.couple_chain.specs.World.{Network, World, is_node, name_of, uses_again, fault_by, is_writable, offer_fault}
use Rattle.chain_world.specs.Offering.{if_read, read_again, as_read, fault_of, fault_of_read}

none_unread : (o : Option ℕ) (params ps : List Parameter) → unread o params ≡ Ok ps → o ≡ None
none_unread None params ps e = refl
none_unread (Some name) params ps e = absurd cc

-- if the octets of a message read, its known parameters read
sound_by : (m n : Message) → IsMessage m → reading (message_octets m) ≡ Ok n → Sound m
unfolding message_in
sound_by m n h e =
    let t = typed m in
    let p : Parts = parts_from m in
    let r : Row = t.type in
    let parts : parts_of (message_octets m) ≡ Ok p = ap parts_of (octets_at m)
    ∙ parts_of-joined r.layout p (rw t.of_type refl) (fits_of m t) h.named in
    let whole : message_if (Some r) p ≡ Ok n = sym (ap (λ o. message_if o p) t.of_type)
    ∙ (sym (ap (λ (x : Result Parts SplitFault). as_split x >>= message_in) parts) ∙ e) in
    let a = bind_ok (all_ok (address_in p.variable) (range_with_len 0 r.addresses))
    (λ addresses. fields_in r.known p.params >>= λ params. ok_or
    (message_of p.code p.fixed addresses (part_of p.variable r.addresses) params) (faults.Split split.UnknownType)) n whole in
    let f = bind_ok (fields_in r.known p.params) (λ params. ok_or (message_of p.code p.fixed a.0 (part_of p.variable r.addresses) params)
    (faults.Split split.UnknownType)) n a.2 in
    ap (λ (o : Option Row). first_unread (option_map_or (λ x. x.known) o []) (content m).params) t.of_type
    ∙ none_unread (first_unread r.known p.params) p.params f.0 f.1

fault_cases : (o : Option JoinFault) → (o ≡ None) ⊎ ((f : JoinFault) × (o ≡ Some f))
fault_cases None = inl refl
fault_cases (Some f) = inr (f, refl)

read_cases : (o : Option Message) → (o ≡ None) ⊎ ((n : Message) × (o ≡ Some n))
read_cases None = inl refl
read_cases (Some n) = inr (n, refl)

number_cases : (o : Option ℕ) → (o ≡ None) ⊎ ((n : ℕ) × (o ≡ Some n))
number_cases None = inl refl
number_cases (Some n) = inr (n, refl)

result_is : (r : Result Message DecodeFault) (n : Message) → if_read r ≡ Some n → r ≡ Ok n
result_is (Ok m) n e = let f : m ≡ n = cc in ap (λ (x : Message). Ok x) f
result_is (Err f) n e = absurd (let z : None ≡ Some n = e in cc)

-- a message that can be written reads again as its octets do
read_written : (m : Message) → write_fault m ≡ None → read_again m ≡ if_read (reading (message_octets m))
read_written m none = ap (option_and_then (λ octets. if_read (reading octets))) (octets_written m none)

read_unwritten : (m : Message) (f : JoinFault) → write_fault m ≡ Some f → read_again m ≡ None
read_unwritten m f some = ap (λ (o : Option JoinFault). option_and_then (λ octets. if_read (reading octets))
    (if is_none o then Some (message_octets m) else None)) some

itself : (m n : Message) → IsMessage m → read_again m ≡ Some n → n ≡ m
itself m n h e =
    ⊎_elim
    (λ (none : write_fault m ≡ None).
    let read : reading (message_octets m) ≡ Ok n = result_is (reading (message_octets m)) n (sym (read_written m none) ∙ e) in
    let same : Ok n ≡ Ok m = sym read ∙ reads_again m h (sound_by m n h read) in
    cc)
    (λ (some : (f : JoinFault) × (write_fault m ≡ Some f)). absurd (let z : None ≡ Some n = sym (read_unwritten m some.0 some.1) ∙ e in cc))
    (fault_cases (write_fault m))

not_writable : (m : Message) → IsMessage m → read_again m ≡ None → is_writable m ≡ false
not_writable m h e =
    ⊎_elim
    (λ (none : write_fault m ≡ None).
    ⊎_elim
    (λ (sound : chains.unread m ≡ None).
    absurd (let z : Some m ≡ None = sym (ap if_read (reads_again m h sound)) ∙ sym (read_written m none) ∙ e in cc))
    (λ (some : (k : ℕ) × (chains.unread m ≡ Some k)). ap (λ (o : Option JoinFault). is_none o && is_none (chains.unread m)) none
    ∙ ap (λ (o : Option ℕ). is_none o) some.1)
    (number_cases (chains.unread m)))
    (λ (some : (f : JoinFault) × (write_fault m ≡ Some f)). ap (λ (o : Option JoinFault). is_none o && is_none (chains.unread m)) some.1)
    (fault_cases (write_fault m))

-- a message whose fields have values that reading can give reads again as itself
pub same_message : (m : Message) → IsMessage m → as_read m ≡ m
same_message m h =
    ⊎_elim
    (λ (none : read_again m ≡ None). ap (λ (o : Option Message). unwrap_or o m) none)
    (λ (some : (n : Message) × (read_again m ≡ Some n)). ap (λ (o : Option Message). unwrap_or o m) some.1 ∙ itself m some.0 h some.1)
    (read_cases (read_again m))

-- its fault is the first test that it fails itself
pub same_fault : (network : Network) (w : World) (from to : ℕ) (m : Message) → IsMessage m
    → fault_of network w from to m ≡ offer_fault network w from to m
same_fault network w from to m h =
    ⊎_elim
    (λ (none : read_again m ≡ None).
    ap (fault_of_read network w from to m) none
    ∙ ap (λ (b : Bool). fault_by (is_node network from) (not (is_node network to)) (is_some (called_of m))
    (uses_again network w from (name_of m)) (not b)) (sym (not_writable m h none)))
    (λ (some : (n : Message) × (read_again m ≡ Some n)). ap (fault_of_read network w from to m) some.1
    ∙ ap (offer_fault network w from to) (itself m some.0 h some.1))
    (read_cases (read_again m))
