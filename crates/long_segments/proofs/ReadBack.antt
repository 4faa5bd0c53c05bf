-- The octets of segments read as those segments again.
use Rattle.std.specs.Prelude.{◌≡◌, ◌≢◌, ℕ, ◌==◌, nat_lt, ◌<◌, ◌≤◌, Bool, true, false, cond, not, List, [], ◌∷◌, map, filter, find, Option}
use Rattle.std.specs.Prelude.{Some, None, option_map, Result, Ok, Err, IfOk, refl}
use Rattle.std.specs.List.{AllByRecursion}
use Rattle.std.proofs.Common.{sym, ◌∙◌, ap, arith}
use Rattle.std.proofs.lemmas.Bool.Decides.{Decides-eqb}
use Rattle.std.proofs.lemmas.Bool.{eqb-false, ltb-false}
use Rattle.sccp_base.specs.Answers.{all_ok}
use Rattle.sccp_base.proofs.AllOk.{guard_ok}
use Rattle.sccp_address.proofs.Kept.{AreOctets}
use Rattle.sccp_address.specs.declared.address.Address.{Address}
use Rattle.sccp_layout.specs.Parameter.{Parameter}
use Rattle.sccp_layout.specs.Table.{segmentation, importance}
use Rattle.sccp_message.specs.declared.message.Message.{Message}
use Rattle.sccp_message.specs.declared.message.Message.TheVariants.{Ludt}
use Rattle.sccp_message.specs.declared.encode_fault.EncodeFault.{EncodeFault}
use Rattle.sccp_message.specs.Encoding.{encoding}
use Rattle.sccp_message.specs.Fields.{param, reads_if}
use Rattle.sccp_message.specs.Reading.{reading}
use Rattle.sccp_message.specs.Reads.{Reads}
use Rattle.sccp_message.specs.Written.{AreNamed, IsMessage, Sound, message_octets}
use Rattle.sccp_message.proofs.Laws.{message_takes}
use Rattle.sccp_message.proofs.Made.{reads_kept, reads_sound}
use Rattle.sccp_message.proofs.Octets.{written_again}
use Rattle.sccp_segment.specs.declared.segment.Segment.{Segment}
use Rattle.sccp_segment.specs.Cutting.{piece_count}
use Rattle.long_segments.specs.declared.long_fault.LongFault.{LongFault}
use Rattle.long_segments.specs.declared.long_fault.LongFault.TheVariants as faults
use Rattle.long_segments.specs.Sending.{Gives, cut, is_one_segment, segment_message, sending, sending_message, sending_read, sent_on}
use Rattle.long_segments.specs.Sending.{written_all, written_if}
use Rattle.long_segments.specs.Carried.{CarryData}
use Rattle.long_segments.proofs.Again.{carries, pool_answers}
use Rattle.long_segments.proofs.Shorter.{others, passed}

-- ---- a segment is a sound message

-- the importance is that of the long message
importance_by : (p : Parameter) (ps : List Parameter) (b : Bool)
    → find (λ q. q.name == importance) (filter (λ q. not (q.name == segmentation)) ps) ≡ find (λ q. q.name == importance) ps
    → (p.name == segmentation) ≡ b
    → find (λ q. q.name == importance) (filter (λ q. not (q.name == segmentation)) (p ∷ ps)) ≡ find (λ q. q.name == importance) (p ∷ ps)
importance_by p ps true rest e =
    let other : (p.name == importance) ≡ false = ap (λ n. n == importance) ((Decides-eqb p.name segmentation).0 e) in
    rw (e, other) rest
importance_by p ps false rest e = rw e (ap (λ (o : Option Parameter). cond (p.name == importance) (Some p) o) rest)

same_importance : (params : List Parameter) → find (λ p. p.name == importance) (others params) ≡ find (λ p. p.name == importance) params
unfolding others
same_importance [] = refl
same_importance (p ∷ ps) = importance_by p ps (p.name == segmentation) (same_importance ps) refl

sound_segment : (class hops : ℕ) (called calling : Address) (payload : List ℕ) (params : List Parameter) (s : Segment)
    → Sound (Ludt class hops called calling payload params) → Sound (segment_message class hops called calling params s)
unfolding others
sound_segment class hops called calling payload params s sound =
    let reads : reads_if importance (param params importance) ≡ true = (passed _ _ _ (passed _ _ _ sound).1).0 in
    ap (λ (o : Option Parameter). cond (reads_if importance (option_map (λ p. p.octets) o)) None (Some importance)) (same_importance params)
    ∙ ap (λ b. cond b None (Some importance)) reads

named_by : (p : Parameter) (ps : List Parameter) (b : Bool) → p.name ≢ 0 → AreNamed (filter (λ q. not (q.name == segmentation)) ps)
    → (p.name == segmentation) ≡ b → AreNamed (filter (λ q. not (q.name == segmentation)) (p ∷ ps))
named_by p ps true named rest e = rw e rest
named_by p ps false named rest e = rw e (named, rest)

named_others : (params : List Parameter) → AreNamed params → AreNamed (others params)
unfolding others
named_others [] named = tt
named_others (p ∷ ps) named = named_by p ps (p.name == segmentation) named.0 (named_others ps named.1) refl

is_segment : (class hops : ℕ) (called calling : Address) (payload : List ℕ) (params : List Parameter) (s : Segment)
    → IsMessage (Ludt class hops called calling payload params) → IsMessage (segment_message class hops called calling params s)
unfolding others
is_segment class hops called calling payload params s is =
    record {
      addresses = is.addresses;
      named = (λ e. absurd (omega (arith, e)), named_others params is.named);
      sevens_fit = tt;
    }

-- ---- the octets of messages read again

abbrev ReadAgain : List Message → Type 0
ReadAgain messages = AllByRecursion (λ m. reading (message_octets m) ≡ Ok m) messages

read_back : (messages : List Message) → ReadAgain messages → all_ok reading (map message_octets messages) ≡ Ok messages
read_back [] h = refl
read_back (m ∷ ms) h = rw (h.0, read_back ms h.1) refl

segments_read : (class hops : ℕ) (called calling : Address) (payload : List ℕ) (params : List Parameter) (list : List Segment)
    → IsMessage (Ludt class hops called calling payload params) → Sound (Ludt class hops called calling payload params)
    → ReadAgain (map (segment_message class hops called calling params) list)
segments_read class hops called calling payload params [] is sound = tt
segments_read class hops called calling payload params (s ∷ list) is sound = (
  written_again (segment_message class hops called calling params s) (is_segment class hops called calling payload params s is)
      (sound_segment class hops called calling payload params s sound),
  segments_read class hops called calling payload params list is sound,
)

-- ---- what is sent

abbrev given : List (List ℕ) → Result (List (List ℕ)) LongFault
given list = Ok list

given_is : (xs ys : List (List ℕ)) → given xs ≡ given ys → xs ≡ ys
given_is xs ys e = cc

octets_are : (messages : List Message) (list : List (List ℕ)) → written_all messages ≡ Ok list → list ≡ map message_octets messages
octets_are [] list e = sym (given_is [] list e)
octets_are (m ∷ ms) list e = by_first (encoding m) e
  where
    by_first : (r : Result (List ℕ) EncodeFault) → written_if r (m ∷ ms) ≡ Ok list → list ≡ map message_octets (m ∷ ms)
    by_first (Ok octets) h = sym (given_is (map message_octets (m ∷ ms)) list h)
    by_first (Err f) h = absurd cc

-- the octets that a long message is sent on as carry its data
pub sent_carries : (class hops : ℕ) (called calling : Address) (payload : List ℕ) (params : List Parameter) (size reference : ℕ)
    (list : List (List ℕ)) → IsMessage (Ludt class hops called calling payload params)
    → Sound (Ludt class hops called calling payload params)
    → sending_message (Ludt class hops called calling payload params) size reference ≡ Ok list → CarryData list payload
sent_carries class hops called calling payload params size reference list is sound e =
    let messages : List Message = sent_on (Ludt class hops called calling payload params) size reference in
    let one = guard_ok (not (is_one_segment (param params segmentation))) faults.AlreadySegment _ list e in
    let some = guard_ok (size == 0) faults.ZeroSize _ list one.1 in
    let few = guard_ok (nat_lt 16 (piece_count payload size)) faults.TooMany _ list some.1 in
    let positive : 0 < size = omega (arith, eqb-false size 0 some.0) in
    let fits : piece_count payload size ≤ 16 = ltb-false 16 (piece_count payload size) few.0 in
    let octets : list ≡ map message_octets messages = octets_are messages list few.1 in
    record {
      messages = messages;
      read = ap (all_ok reading) octets
          ∙ read_back messages (segments_read class hops called calling payload params (cut class payload params size reference) is sound);
      whole = carries class hops called calling payload params size reference positive fits;
      pool = λ arrivals. pool_answers arrivals class hops called calling payload params size reference positive fits;
    }

-- so do those that are answered for octets
pub answer_carries : (b : List ℕ) (size reference : ℕ) (r : Result (List (List ℕ)) LongFault) → AreOctets b
    → Gives (λ list. list) r (sending b size reference)
    → IfOk r (λ list. (class hops : ℕ) (called calling : Address) (payload : List ℕ) (params : List Parameter)
    → reading b ≡ Ok (Ludt class hops called calling payload params) → CarryData list payload)
answer_carries b size reference (Ok list) octets is = λ class hops called calling payload params reads.
    let m : Message = Ludt class hops called calling payload params in
    let read : Reads b m = message_takes b m reads in
    sent_carries class hops called calling payload params size reference list (reads_kept b m octets read) (reads_sound b m read)
    (sym (ap (λ r. sending_read r size reference) reads) ∙ is)
answer_carries b size reference (Err fault) octets is = tt
