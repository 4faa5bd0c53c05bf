-- What is printed of octets that leave a relay, if they are a long message.
use Rattle.std.specs.Prelude.{◌≡◌, ◌⊎◌, ◌<◌, ℕ, ◌==◌, nat_lt, Bool, true, false, cond, not, List, [], ◌∷◌, Option, Some, None}
use Rattle.std.specs.Prelude.{Result, Ok, Err, refl}
use Rattle.std.specs.Io.KnownBytes.{append_known}
use Rattle.std.specs.List.{flat_map, position}
use Rattle.std.proofs.Common.{inl, inr, sym, ◌∙◌, ap, subst, arith}
use Rattle.std.proofs.lemmas.Bool.{ne_eqb}
use Rattle.long_segments.specs.Carried.{CarryData}
use Rattle.long_segments.proofs.ReadBack.{sent_carries}
use Rattle.long_segments.specs.Sending.{is_one_segment, sending, sending_message, sending_read, sent_on, written_all, written_if}
use Rattle.long_segments.specs.declared.long_fault.LongFault.{LongFault}
use Rattle.long_segments.specs.declared.long_fault.LongFault.TheVariants.{NotLong, AlreadySegment, ZeroSize, TooMany, NotWritable}
use Rattle.long_segments.specs.declared.long_fault.LongFault.TheVariants.{OutOfMemory}
use Rattle.plan_model.specs.Network.{Network, IsPlan, has_name}
use Rattle.sccp_address.specs.declared.address.Address.{Address}
use Rattle.sccp_io.specs.Files.{Contents}
use Rattle.sccp_layout.specs.Parameter.{Parameter}
use Rattle.sccp_layout.specs.Table.{segmentation}
use Rattle.sccp_message.specs.Encoding.{encoding}
use Rattle.sccp_message.specs.Fields.{param}
use Rattle.sccp_message.specs.Reading.{reading}
use Rattle.sccp_message.specs.Written.{IsMessage, Sound}
use Rattle.sccp_message.specs.declared.encode_fault.EncodeFault.{EncodeFault}
use Rattle.sccp_message.specs.declared.fault.DecodeFault.{DecodeFault}
use Rattle.sccp_message.specs.declared.message.Message.{Message}
use Rattle.sccp_message.specs.declared.message.Message.TheVariants.{Ludt}
use Rattle.sccp_scrc.proofs.Redirected.{reads_again}
use Rattle.sccp_scrc.specs.Arriving.{arrival}
use Rattle.sccp_scrc.specs.declared.arrival.Arrival.{Arrival}
use Rattle.sccp_scrc.specs.declared.arrival.Arrival.TheVariants.{Relayed, Ended, Local, Returned, Connection, Management, Undecodable}
use Rattle.sccp_segment.specs.Cutting.{piece_count}
use Rattle.sccp_tool.proofs.LeavingLemmas.{IsWritten, LeaveWritten, leave_written}
use Rattle.plan_model.proofs.Sound.{AreLimits}
use Rattle.sccp_tool.proofs.ReadPlans.{is_plan}
use Rattle.sccp_tool.proofs.TaskWords.{IsGiven}
use Rattle.sccp_tool.specs.SendOn.{arrival_lines, cut_lines, leaving_lines, lines_at, send_on_text, send_on_work, to_line, uncut_lines}
use Rattle.sccp_tool.specs.SendOn.{IsNotSplit, SendOnTells, TellsLeaving, TellsSegments}
use Rattle.sccp_tool.specs.declared.send_on.Incoming.{Incoming}
use Rattle.sccp_work.proofs.AcceptingLemmas.{Ends-answered}
use Rattle.sccp_work.proofs.PlanLemmas.{PlanEnds, long, bad, good, Ends-with_plan}
use Rattle.sccp_work.specs.PlanFile.{PlanFile}
use Rattle.sccp_work.specs.Work.{answered, Ends}
use Rattle.sccp_work.specs.declared.status.Status.{Status}
use Rattle.sccp_work.specs.declared.status.Status.TheVariants.{Done, BadPlan, TooLong}

-- ---- the faults of a long message

-- this fault has a line
abbrev HasLine : LongFault → Type 0
HasLine AlreadySegment = Unit {0}
HasLine TooMany = Unit {0}
HasLine (NotWritable fault) = Unit {0}
HasLine NotLong = ⊥
HasLine ZeroSize = ⊥
HasLine OutOfMemory = ⊥

abbrev FaultHasLine : Result (List (List ℕ)) LongFault → Type 0
FaultHasLine (Ok list) = Unit {0}
FaultHasLine (Err fault) = HasLine fault

unwritten : (messages : List Message) → FaultHasLine (written_all messages)
unwritten [] = tt
unwritten (m ∷ ms) = by (encoding m) where
  by : (r : Result (List ℕ) EncodeFault) → FaultHasLine (written_if r (m ∷ ms))
  by (Ok octets) = tt
  by (Err fault) = tt

tested : (already none many : Bool) (r : Result (List (List ℕ)) LongFault) → none ≡ false → FaultHasLine r
    → FaultHasLine (cond already (Err AlreadySegment) (cond none (Err ZeroSize) (cond many (Err TooMany) r)))
tested true none many r some has = tt
tested false true many r some has = cc
tested false false true r some has = tt
tested false false false r some has = has

has_line : (class hops : ℕ) (called calling : Address) (payload : List ℕ) (params : List Parameter) (size : ℕ) → 0 < size
    → FaultHasLine (sending_message (Ludt class hops called calling payload params) size 1)
has_line class hops called calling payload params size some =
    tested (not (is_one_segment (param params segmentation))) (size == 0) (nat_lt 16 (piece_count payload size)) _
    (ne_eqb size 0 (λ e. omega (arith, some, e))) (unwritten (sent_on (Ludt class hops called calling payload params) size 1))

line_of : (pc : ℕ) (octets : List ℕ) (fault : LongFault) → HasLine fault → IsNotSplit (uncut_lines pc octets fault)
unfolding uncut_lines
line_of pc octets AlreadySegment has = inl refl
line_of pc octets TooMany has = inr (inl refl)
line_of pc octets (NotWritable fault) has = inr (inr refl)
line_of pc octets NotLong has = absurd has
line_of pc octets ZeroSize has = absurd has
line_of pc octets OutOfMemory has = absurd has

-- ---- octets that leave

same_message : (m n : Message) (r : Result Message DecodeFault) → r ≡ Ok m → r ≡ Ok n → m ≡ n
same_message m n r p q = cc

-- what is printed is this
abbrev CutTells : ℕ → List ℕ → List ℕ → Result (List (List ℕ)) LongFault → Type 0
CutTells pc octets payload r =
    IsNotSplit (cut_lines pc octets r) ⊎ ((list : List (List ℕ)) × (cut_lines pc octets r ≡ flat_map (to_line pc) list)
    × CarryData list payload)

cut_tells : (pc : ℕ) (octets payload : List ℕ) (r : Result (List (List ℕ)) LongFault) → FaultHasLine r
    → ((list : List (List ℕ)) → r ≡ Ok list → CarryData list payload) → CutTells pc octets payload r
cut_tells pc octets payload (Ok list) has carry = inr (list, refl, carry list refl)
cut_tells pc octets payload (Err fault) has carry = inl (line_of pc octets fault has)

segments_told : (size pc : ℕ) (octets : List ℕ) → 0 < size → IsWritten octets → TellsSegments pc octets (leaving_lines size pc octets)
segments_told size pc octets some w class hops called calling payload params is =
    let again : reading octets ≡ Ok w.message = ap reading w.same ∙ reads_again w.message w.again.message w.again.sound in
    let same : w.message ≡ Ludt class hops called calling payload params =
    same_message w.message (Ludt class hops called calling payload params) (reading octets) again is in
    let read : sending octets size 1 ≡ sending_message (Ludt class hops called calling payload params) size 1 =
    ap (λ r. sending_read r size 1) is in
    subst (CutTells pc octets payload) (sym read)
    (cut_tells pc octets payload (sending_message (Ludt class hops called calling payload params) size 1)
    (has_line class hops called calling payload params size some)
    (λ list e. sent_carries class hops called calling payload params size 1 list (subst IsMessage same w.again.message)
    (subst Sound same w.again.sound) e))

arrival_told : (size : ℕ) (a : Arrival) → 0 < size → LeaveWritten a → TellsLeaving a (arrival_lines size a)
unfolding arrival_lines
arrival_told size (Relayed pc octets) some w = segments_told size pc octets some w
arrival_told size (Ended pc ssn octets) some w = segments_told size pc octets some w
arrival_told size (Local ssn m) some w = tt
arrival_told size (Returned cause marks service) some w = tt
arrival_told size (Connection m) some w = tt
arrival_told size (Management m) some w = tt
arrival_told size (Undecodable fault) some w = tt

node_told : (plan : Network) (i : Incoming) (node : ℕ) (o : Option ℕ) → IsPlan plan → IsGiven i → o ≡ Some node
    → TellsLeaving (arrival plan node [] i.origin i.octets) (lines_at plan i o)
node_told plan i node None is given at = absurd cc
node_told plan i node (Some place) is given at =
    let same : place ≡ node = cc in
    subst (λ n. TellsLeaving (arrival plan n [] i.origin i.octets) (lines_at plan i (Some place))) same
    (arrival_told i.size (arrival plan place [] i.origin i.octets) given.some
    (leave_written plan place [] i.origin i.octets is given.octets))

-- ---- what the command prints

abbrev IsText : Incoming → List ℕ → Network → Status → Type 0
IsText i text plan s = (s ≡ Done) × (text ≡ send_on_text plan i)

text_ends : (contents : Option Contents) (file : PlanFile) (i : Incoming) (s : Status) (text : List ℕ)
    → Ends contents (send_on_work file i) s text → PlanEnds contents file (IsText i text) s
text_ends contents file i s text h = Ends-with_plan (IsText i text) contents file (λ plan. answered (Done, send_on_text plan i)) s text
    (λ plan e. Ends-answered contents Done (send_on_text plan i) s text e) h

on_plan : (contents : Option Contents) (file : PlanFile) (i : Incoming) (s : Status) (text : List ℕ) (taken taken' : Option (List ℕ))
    → AreLimits file.limits → IsGiven i → taken' ≡ append_known taken text → PlanEnds contents file (IsText i text) s
    → SendOnTells contents file i s taken taken'
on_plan contents file i TooLong text taken taken' fit given is (long h) done = cc
on_plan contents file i BadPlan text taken taken' fit given is (bad h) done = cc
on_plan contents file i s text taken taken' fit given is (good h) done = (
  h.0,
  h.1,
  h.2,
  (
    h.3.0,
    h.3.1,
    (
      text,
      is,
      λ node at. subst (TellsLeaving (arrival h.3.0 node [] i.origin i.octets)) (sym h.3.2.1)
          (node_told h.3.0 i node (position (has_name i.node) h.3.0.nodes)
          (is_plan file.limits h.0 h.3.0 fit h.3.1) given at),
    ),
  ),
)

pub send_on_tells : (contents : Option Contents) (file : PlanFile) (i : Incoming) (s : Status) (text : List ℕ)
    (taken taken' : Option (List ℕ)) → AreLimits file.limits → IsGiven i → taken' ≡ append_known taken text
    → Ends contents (send_on_work file i) s text
    → SendOnTells contents file i s taken taken'
send_on_tells contents file i s text taken taken' fit given is ends =
    on_plan contents file i s text taken taken' fit given is (text_ends contents file i s text ends)
