-- Packets whose lines are printed at once.
use Rattle.std.proofs.Common.{◌≡◌, ℕ, suc, ◌+◌, ◌<◌, ◌≤◌, List, [], ◌∷◌, ◌++◌, length, map, drop, get_or, Option, Result, Ok, Err, IfOk}
use Rattle.std.proofs.Common.{refl, sym, ◌∙◌}
use Rattle.std.proofs.Common.{ap, subst, append_assoc, append-nil, arith, drop-cons}
use Rattle.std.proofs.Math.ListN.{drop_of_length-le}
use Rattle.plan_model.specs.Network.{Network}
use Rattle.capture_file.specs.Packets.{Captured}
use Rattle.capture_file.specs.Views.{captured}
use Rattle.capture_file.specs.declared.file_fault.FileFault.{FileFault}
use Rattle.capture_file.specs.declared.held.Held.{Held}
use Rattle.capture_trace.specs.Traced.{Standing, ending_of, taken}
use Rattle.capture_trace.specs.Words.{text_of_lines}
use Rattle.capture_trace.specs.declared.ending.Ending.{Ending}
use Rattle.capture_trace.specs.declared.ending.Ending.TheVariants.{Whole, Cut, Damaged}
use Rattle.sccp_capture.specs.Printing.{after_packets, closing_of, end_work, packets_work, status_of, text_of_packets}
use Rattle.sccp_capture.specs.Steps.{PrintsPackets}
use Rattle.sccp_work.specs.Ending.{IsCut, Works}
use Rattle.sccp_work.specs.Moment.{Moment}
use Rattle.sccp_work.specs.Work.{Work, print, answered}
use Rattle.sccp_work.specs.Writing.{Writes}
use Rattle.sccp_work.specs.declared.status.Status.{Status}
use Rattle.sccp_work.specs.declared.stop.Stop.{Stop}
use Rattle.sccp_work.specs.declared.stop.Stop.TheVariants.{Memory}
use Rattle.sccp_work.proofs.RefineLemmas.{Refines, Refines-trans, Refines-read_on, Refines-print, Refines-nothing, Refines-twice}
use Rattle.sccp_work.proofs.RefineLemmas.{Works-refines}
use Rattle.sccp_work.proofs.WorkLemmas.{Kept, Works-answered, Works-memory, Works-read_on, printed}

-- ---- the text of packets

-- What is there, and what is left to be put, is what was there before and all. So is what is kept.
pub record Goes (plan : Network) (text : List ℕ) (s : Standing) (left : List Captured) (before : List ℕ) (s0 : Standing)
    (all : List Captured) : Type 0 where
  pub now : after_packets plan left s ≡ after_packets plan all s0
  pub text_is : text ++ text_of_packets plan left s ≡ before ++ text_of_packets plan all s0

turn : (plan : Network) (packet : Captured) (left : List Captured) (text before : List ℕ) (s s0 : Standing) (all : List Captured)
    → Goes plan text s (packet ∷ left) before s0 all
    → Goes plan (text ++ text_of_lines (taken plan s packet).lines) (taken plan s packet).now left before s0 all
unfolding after_packets text_of_packets
turn plan packet left text before s s0 all h = record {
  now = h.now;
  text_is = append_assoc text (text_of_lines (taken plan s packet).lines) (text_of_packets plan left (taken plan s packet).now)
      ∙ h.text_is;
}

-- the same, as the code has it
pub turned : (plan : Network) (xs : List Held) (i : ℕ) (x : Held) (text new before : List ℕ) (s s' s0 : Standing) (all : List Captured)
    → i < length xs → x ≡ get_or xs i x → Goes plan text s (map captured (drop i xs)) before s0 all → s' ≡ (taken plan s (captured x)).now
    → new ≡ text ++ text_of_lines (taken plan s (captured x)).lines → Goes plan new s' (map captured (drop (i + 1) xs)) before s0 all
turned plan xs i x text new before s s' s0 all lt at h is spelt =
    let here : drop i xs ≡ x ∷ drop (suc i) xs = drop-cons xs i x lt ∙ ap (λ y. y ∷ drop (suc i) xs) (sym at) in
    let next : suc i ≡ i + 1 = omega arith in
    rw (is, spelt)
    (subst (λ k. Goes plan (text ++ text_of_lines (taken plan s (captured x)).lines) (taken plan s (captured x)).now
    (map captured (drop k xs)) before s0 all) next
    (turn plan (captured x) (map captured (drop (suc i) xs)) text before s s0 all
    (subst (λ ys. Goes plan text s (map captured ys) before s0 all) here h)))

nothing : (plan : Network) (text before : List ℕ) (s s0 : Standing) (all : List Captured) → Goes plan text s [] before s0 all
    → (s ≡ after_packets plan all s0) × (text ≡ before ++ text_of_packets plan all s0)
unfolding after_packets text_of_packets
nothing plan text before s s0 all h = (h.now, sym (append-nil text) ∙ h.text_is)

-- nothing is left
pub done : (plan : Network) (xs : List Held) (i : ℕ) (text before : List ℕ) (s s0 : Standing) (all : List Captured) → length xs ≤ i
    → Goes plan text s (map captured (drop i xs)) before s0 all
    → (s ≡ after_packets plan all s0) × (text ≡ before ++ text_of_packets plan all s0)
done plan xs i text before s s0 all le h =
    nothing plan text before s s0 all
    (subst (λ (ys : List Held). Goes plan text s (map captured ys) before s0 all) (drop_of_length-le xs le) h)

-- ---- the work

-- the lines of packets are printed at once
as_one : (plan : Network) (fault : Option FileFault) (packets more : List Captured) (s : Standing)
    → Refines (print (text_of_packets plan packets s) (packets_work plan fault more (after_packets plan packets s)))
    (packets_work plan fault (packets ++ more) s)
unfolding text_of_packets after_packets packets_work
as_one plan fault [] more s = Refines-nothing (packets_work plan fault more s)
as_one plan fault (packet ∷ packets) more s =
    let s' : Standing = (taken plan s packet).now in
    let t : List ℕ = text_of_lines (taken plan s packet).lines in
    let u : List ℕ = text_of_packets plan packets s' in
    let w : Work = packets_work plan fault more (after_packets plan packets s') in
    let v : Work = packets_work plan fault (packets ++ more) s' in
    Refines-trans (print (t ++ u) w) (print t (print u w)) (packets_work plan fault (packet ∷ packets ++ more) s) (Refines-twice t u w)
    (Refines-trans (print t (print u w)) (print t v) (packets_work plan fault (packet ∷ packets ++ more) s)
    (Refines-print t (print u w) v (as_one plan fault packets more s')) (Refines-read_on (print t v)))

pub prints : (plan : Network) (packets : List Captured) (s s' : Standing) (text : List ℕ) (r : Result (Unit {0}) Stop) (b m : Moment)
    → text ≡ text_of_packets plan packets s → s' ≡ after_packets plan packets s
    → Writes text r b.taken m.taken b.write_faults m.write_faults → Kept b m → PrintsPackets plan packets s r s' b m
prints plan packets s s' text (Ok done) b m spelt is writes k = λ fault more result after h.
    let t : List ℕ = text_of_packets plan packets s in
    let w : Work = packets_work plan fault more (after_packets plan packets s) in
    Works-refines (print t w) (packets_work plan fault (packets ++ more) s) result b after (as_one plan fault packets more s)
    (printed t w (Ok done) b m
    (subst (λ l. Writes {T = Unit {0}} l (Ok done) b.taken m.taken b.write_faults m.write_faults) spelt writes) k result after
    (subst (λ z. Works (packets_work plan fault more z) result m after) is h))
prints plan packets s s' text (Err stop) b m spelt is writes k = λ fault more.
    let t : List ℕ = text_of_packets plan packets s in
    let w : Work = packets_work plan fault more (after_packets plan packets s) in
    Works-refines (print t w) (packets_work plan fault (packets ++ more) s) (Err stop) b m (as_one plan fault packets more s)
    (printed t w (Err stop) b m
    (subst (λ l. Writes {T = Unit {0}} l (Err stop) b.taken m.taken b.write_faults m.write_faults) spelt writes) k)

-- memory was wanting before anything was printed
pub prints_nothing : (plan : Network) (packets : List Captured) (s s' : Standing) (m : Moment)
    → PrintsPackets {T = Unit {0}} plan packets s (Err Memory) s' m m
prints_nothing plan packets s s' m = λ fault more. Works-memory (packets_work plan fault (packets ++ more) s) m

-- ---- the end

own : (e : Ending) → IsCut (status_of e) → ⊥
own Whole cut = cut
own Cut cut = cut
own Damaged cut = cut

pub ends : (fault : Option FileFault) (s : Standing) (text : List ℕ) (e : Ending) (r : Result Status Stop) (b m : Moment)
    → text ≡ (closing_of fault s).1 → e ≡ ending_of fault → Writes text r b.taken m.taken b.write_faults m.write_faults
    → IfOk r (λ status. status ≡ status_of e) → Kept b m → Works (end_work fault s) r b m
ends fault s text e r b m spelt is writes answer k =
    Works-read_on (answered (closing_of fault s)) r b b m
    (record { contents = refl; sound = refl; read_faults = omega arith; taken = refl; write_faults = refl }) (λ sound. refl)
    (Works-answered (closing_of fault s) r b m (own (ending_of fault))
    (subst (λ l. Writes l r b.taken m.taken b.write_faults m.write_faults) spelt writes)
    (subst (λ d. IfOk r (λ status. status ≡ status_of d)) is answer) k.contents k.sound k.read_faults)

pub ends_unprinted : (fault : Option FileFault) (s : Standing) (m : Moment) → Works (end_work fault s) (Err Memory) m m
ends_unprinted fault s m = Works-memory (end_work fault s) m
