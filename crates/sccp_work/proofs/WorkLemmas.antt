-- How a work is done piece by piece.
use Rattle.std.proofs.Common.{◌≡◌, ◌≤◌, ℕ, List, [], ◌++◌, Option, Some, None, false, Result, Ok, Err, IsTrue, IfOk, IfSome, refl, sym, ◌∙◌}
use Rattle.std.proofs.Common.{ap, subst, append-nil, arith, inl, inr}
use Rattle.std.specs.Prelude.{is_none, IsErrOf, OnOk}
use Rattle.std.specs.Io.{StartsWith}
use Rattle.std.specs.Io.KnownBytes.{append_known}
use Rattle.sccp_io.specs.Faults.{Rose}
use Rattle.sccp_io.specs.Files.{Contents, Reads, lacks}
use Rattle.sccp_work.specs.Ending.{Goes, IsCut, IsSpared, Stops, Works, Answers, Outcome, Closes, answer_of, early}
use Rattle.sccp_work.specs.Moment.{Moment}
use Rattle.sccp_work.specs.Numbers.{Batch, AreNumbers}
use Rattle.sccp_work.specs.Texts.{read_fault}
use Rattle.sccp_work.specs.Writing.{Writes}
use Rattle.sccp_work.specs.Questions.{Question, Reply, IsTrueOf}
use Rattle.sccp_work.specs.Work.{Work, finish, print, read, read_on, ask, serve, answered, Ends, ComesToReading}
use Rattle.sccp_work.specs.Work.{BeginsWith, HasFiles}
use Rattle.sccp_work.specs.declared.status.Status.{Status}
use Rattle.sccp_work.specs.declared.status.Status.TheVariants.{NoMemory, ReadFault, WriteFault}
use Rattle.sccp_work.specs.declared.stop.Stop.{Stop}
use Rattle.sccp_work.specs.declared.stop.Stop.TheVariants.{Answered, Read, Write, Memory}
use Rattle.sccp_work.proofs.RoseLemmas.{Rose-before}
use Rattle.sccp_work.proofs.WritingLemmas.{append_known-nil, append_known-append}

-- ---- moments

pub Goes-none : (m : Moment) → Goes m m []
Goes-none m = record {
  contents = refl;
  sound = refl;
  read_faults = omega arith;
  write_faults = omega arith;
  taken = append_known-nil m.taken;
}

pub Goes-append : (b m a : Moment) (s t : List ℕ) → Goes b m s → Goes m a t → Goes b a (s ++ t)
Goes-append b m a s t p q = record {
  contents = q.contents ∙ p.contents;
  sound = q.sound ∙ p.sound;
  read_faults = omega (arith, p.read_faults, q.read_faults);
  write_faults = omega (arith, p.write_faults, q.write_faults);
  taken = q.taken ∙ ap (λ k. append_known k t) p.taken ∙ append_known-append b.taken s t;
}

-- the files moved, and the sink stayed
pub record Moved (b m : Moment) : Type 0 where
  pub contents : m.contents ≡ b.contents
  pub sound : m.sound ≡ b.sound
  pub read_faults : b.read_faults ≤ m.read_faults
  pub taken : m.taken ≡ b.taken
  pub write_faults : m.write_faults ≡ b.write_faults

Goes-moved : (b m : Moment) → Moved b m → Goes b m []
Goes-moved b m p = record {
  contents = p.contents;
  sound = p.sound;
  read_faults = p.read_faults;
  write_faults = omega (arith, p.write_faults);
  taken = p.taken ∙ append_known-nil b.taken;
}

-- ---- what is written begins with nothing

pub BeginsWith-nil : (contents : Option Contents) (work : Work) → BeginsWith contents work []
BeginsWith-nil contents (finish s) = refl
BeginsWith-nil contents (print t w) = inl refl
BeginsWith-nil contents (read name f) = inl refl
BeginsWith-nil contents (ask question f) = inl refl
BeginsWith-nil contents (read_on w) = BeginsWith-nil contents w
BeginsWith-nil contents (serve batch f) = inl refl

-- want of memory before any work

pub Works-memory : (work : Work) (m : Moment) → Works work (Err Memory) m m
Works-memory work m = record {
  text = [];
  goes = Goes-none m;
  stops = BeginsWith-nil m.contents work;
  spared = λ h. spares m.contents;
} where
  spares : (k : Option Contents) → IfSome k (λ c. HasFiles c work → m.read_faults ≡ m.read_faults)
  spares None = tt
  spares (Some c) = λ h. refl

-- ---- a last text

stops_answered : (a : Status × List ℕ) (result : Result Status Stop) (b m : Moment) (front : List ℕ) → StartsWith a.1 front
    → OnOk result (front ≡ a.1) → IfOk result (λ s. s ≡ a.0) → (IsCut a.0 → ⊥)
    → (IsErrOf result Write → Rose b.write_faults m.write_faults) → (IsErrOf result Read → ⊥)
    → ((s : Status) → IsErrOf result (Answered s) → ⊥) → Stops (answered a) result front b m
stops_answered a (Ok s) b m front begins whole is own failed no_reading no_answer =
    ((λ cut. own (subst IsCut is cut)), ([], whole ∙ sym (append-nil a.1), (is, refl)))
stops_answered a (Err (Answered s)) b m front begins whole is own failed no_reading no_answer = absurd (no_answer s refl)
stops_answered a (Err Read) b m front begins whole is own failed no_reading no_answer = absurd (no_reading refl)
stops_answered a (Err Write) b m front begins whole is own failed no_reading no_answer = (failed refl, inl begins)
stops_answered a (Err Memory) b m front begins whole is own failed no_reading no_answer = inl begins

pub Works-answered : (a : Status × List ℕ) (result : Result Status Stop) (b m : Moment) → (IsCut a.0 → ⊥)
    → Writes a.1 result b.taken m.taken b.write_faults m.write_faults → IfOk result (λ s. s ≡ a.0)
    → m.contents ≡ b.contents → m.sound ≡ b.sound → m.read_faults ≡ b.read_faults → Works (answered a) result b m
Works-answered a result b m own writes is contents sound read_faults = record {
  text = writes.front;
  goes = record {
    contents = contents;
    sound = sound;
    read_faults = omega
        (arith, read_faults);
    write_faults = writes.later;
    taken = writes.appends;
  };
  stops = stops_answered a result b m writes.front writes.begins writes.whole is own writes.failed writes.no_reading writes.no_answer;
  spared = λ h. spares b.contents;
} where
  spares : (k : Option Contents) → IfSome k (λ c. HasFiles c (answered a) → m.read_faults ≡ b.read_faults)
  spares None = tt
  spares (Some c) = λ h. read_faults

-- the command ends early with it
pub Works-early : (work : Work) (result : Result Status Stop) (b a : Moment) → Works work result b a → Works work (Err (early result)) b a
Works-early work (Ok s) b a w = record { text = w.text; goes = w.goes; stops = w.stops; spared = w.spared }
Works-early work (Err stop) b a w = w

-- ---- a file is read

stops_read : (name : List ℕ) (f : List ℕ → Work) (octets : List ℕ) (result : Result Status Stop) (text : List ℕ) (b m a : Moment)
    → Moved b m → Reads b.contents name octets
    → Stops (f octets) result text m a → Stops (read name f) result text b a
stops_read name f octets (Ok s) text b m a p reads e = (e.0, (octets, reads, subst (λ c. Ends c (f octets) s text) p.contents e.1))
stops_read name f octets (Err (Answered s)) text b m a p reads e =
    (e.0, (octets, reads, subst (λ c. Ends c (f octets) s text) p.contents e.1))
stops_read name f octets (Err Read) text b m a p reads e = (
  Rose-before b.read_faults m.read_faults a.read_faults p.read_faults e.0,
  inr
      (octets, reads, subst (λ c. ComesToReading c (f octets) text) p.contents e.1),
)
stops_read name f octets (Err Write) text b m a p reads e = (
  Rose-before b.write_faults m.write_faults a.write_faults (omega (arith, p.write_faults)) e.0,
  inr
      (octets, reads, subst (λ c. BeginsWith c (f octets) text) p.contents e.1),
)
stops_read name f octets (Err Memory) text b m a p reads e = inr (octets, reads, subst (λ c. BeginsWith c (f octets) text) p.contents e)

pub same_octets : (o : Option (List ℕ)) (xs ys : List ℕ) → o ≡ Some xs → o ≡ Some ys → xs ≡ ys
same_octets o xs ys p q = cc

there : (o : Option (List ℕ)) (xs : List ℕ) → o ≡ Some xs → is_none o ≡ false
there None xs e = cc
there (Some ys) xs e = refl

-- sound files that have the file do not fail at it, nor after it
spared_read : (name : List ℕ) (f : List ℕ → Work) (octets : List ℕ) (b m a : Moment) → Moved b m
    → (IsTrue b.sound → lacks b.contents name ≡ false → m.read_faults ≡ b.read_faults)
    → Reads b.contents name octets → IsSpared (f octets) m a → IsSpared (read name f) b a
spared_read name f octets b m a p spared reads rest = λ h. at b.contents refl h where
  at : (k : Option Contents) → b.contents ≡ k → IsTrue b.sound → IfSome k (λ c. HasFiles c (read name f) → a.read_faults ≡ b.read_faults)
  at None e h = tt
  at (Some c) e h = λ has.
      let here : c name ≡ Some octets = subst (λ k. Reads k name octets) e reads in
      let same : has.0 ≡ octets = same_octets (c name) has.0 octets has.1 here in
      let present : lacks b.contents name ≡ false = subst (λ k. lacks k name ≡ false) (sym e) (there (c name) octets here) in
      let more : IfSome m.contents (λ d. HasFiles d (f octets) → a.read_faults ≡ m.read_faults) = rest (p.sound ∙ h) in
      let more' : IfSome (Some c) (λ d. HasFiles d (f octets) → a.read_faults ≡ m.read_faults) =
      subst (λ k. IfSome k (λ d. HasFiles d (f octets) → a.read_faults ≡ m.read_faults)) (p.contents ∙ e) more in
      more' (subst (λ o. HasFiles c (f o)) same has.2) ∙ spared h present

pub Works-read : (name : List ℕ) (f : List ℕ → Work) (octets : List ℕ) (result : Result Status Stop) (b m a : Moment) → Moved b m
    → (IsTrue b.sound → lacks b.contents name ≡ false → m.read_faults ≡ b.read_faults)
    → Reads b.contents name octets → Works (f octets) result m a → Works (read name f) result b a
Works-read name f octets result b m a p spared reads w = record {
  text = w.text;
  goes = Goes-append b m a [] w.text (Goes-moved b m p) w.goes;
  stops = stops_read name f octets result w.text b m a p reads w.stops;
  spared = spared_read name f octets b m a p spared reads w.spared;
}

-- the reading failed, or memory ran out at it
pub Works-reading : (name : List ℕ) (f : List ℕ → Work) (stop : Stop) (b m : Moment) → Moved b m
    → (IsTrue b.sound → lacks b.contents name ≡ false → m.read_faults ≡ b.read_faults)
    → (stop ≡ Read → Rose b.read_faults m.read_faults) → (stop ≡ Write → ⊥) → ((s : Status) → stop ≡ Answered s → ⊥)
    → Works (read name f) (Err stop) b m
Works-reading name f stop b m p spared failed no_writing no_answer = record {
  text = [];
  goes = Goes-moved b m p;
  stops = stopped stop failed no_writing no_answer;
  spared = λ h. at b.contents refl h;
} where
  stopped : (s : Stop) → (s ≡ Read → Rose b.read_faults m.read_faults) → (s ≡ Write → ⊥) → ((t : Status) → s ≡ Answered t → ⊥)
      → Stops (read name f) (Err s) [] b m
  stopped (Answered t) failed never own = absurd (own t refl)
  stopped Read failed never own = (failed refl, inl refl)
  stopped Write failed never own = absurd (never refl)
  stopped Memory failed never own = inl refl

  at : (k : Option Contents) → b.contents ≡ k → IsTrue b.sound → IfSome k (λ c. HasFiles c (read name f) → m.read_faults ≡ b.read_faults)
  at None e h = tt
  at (Some c) e h = λ has. spared h (subst (λ k. lacks k name ≡ false) (sym e) (there (c name) has.0 has.1))

-- ---- a question

pub Works-ask : (question : Question) (f : Reply question → Work) (reply : Reply question) (result : Result Status Stop) (b a : Moment)
    → IsTrueOf question reply → Works (f reply) result b a → Works (ask question f) result b a
Works-ask question f reply result b a true_of w = record {
  text = w.text;
  goes = w.goes;
  stops = stops_ask result w.stops;
  spared = λ h. at b.contents (w.spared h);
} where
  stops_ask : (r : Result Status Stop) → Stops (f reply) r w.text b a → Stops (ask question f) r w.text b a
  stops_ask (Ok s) e = (e.0, (reply, true_of, e.1))
  stops_ask (Err (Answered s)) e = (e.0, (reply, true_of, e.1))
  stops_ask (Err Read) e = (e.0, (reply, true_of, e.1))
  stops_ask (Err Write) e = (e.0, inr (reply, true_of, e.1))
  stops_ask (Err Memory) e = inr (reply, true_of, e)

  at : (k : Option Contents) → IfSome k (λ c. HasFiles c (f reply) → a.read_faults ≡ b.read_faults)
      → IfSome k (λ c. HasFiles c (ask question f) → a.read_faults ≡ b.read_faults)
  at None h = tt
  at (Some c) h = λ has. h (has reply true_of)

-- ---- an open file is read on

stops_read_on : (w : Work) (result : Result Status Stop) (text : List ℕ) (b m a : Moment) → Moved b m → Stops w result text m a
    → Stops (read_on w) result text b a
stops_read_on w (Ok s) text b m a p e = (e.0, subst (λ c. Ends c w s text) p.contents e.1)
stops_read_on w (Err (Answered s)) text b m a p e = (e.0, subst (λ c. Ends c w s text) p.contents e.1)
stops_read_on w (Err Read) text b m a p e = (
  Rose-before b.read_faults m.read_faults a.read_faults p.read_faults e.0,
  inr
      (subst (λ c. ComesToReading c w text) p.contents e.1),
)
stops_read_on w (Err Write) text b m a p e = (
  Rose-before b.write_faults m.write_faults a.write_faults
      (omega (arith, p.write_faults)) e.0,
  subst (λ c. BeginsWith c w text) p.contents e.1,
)
stops_read_on w (Err Memory) text b m a p e = subst (λ c. BeginsWith c w text) p.contents e

-- a piece was taken, and the work goes on
pub Works-read_on : (w : Work) (result : Result Status Stop) (b m a : Moment) → Moved b m → (IsTrue b.sound → m.read_faults ≡ b.read_faults)
    → Works w result m a → Works (read_on w) result b a
Works-read_on w result b m a p spared h = record {
  text = h.text;
  goes = Goes-append b m a [] h.text (Goes-moved b m p) h.goes;
  stops = stops_read_on w result h.text b m a p h.stops;
  spared = λ sound. at b.contents refl sound;
} where
  at : (k : Option Contents) → b.contents ≡ k → IsTrue b.sound → IfSome k (λ c. HasFiles c (read_on w) → a.read_faults ≡ b.read_faults)
  at None e sound = tt
  at (Some c) e sound = λ has.
      let more : IfSome m.contents (λ d. HasFiles d w → a.read_faults ≡ m.read_faults) = h.spared (p.sound ∙ sound) in
      let more' : IfSome (Some c) (λ d. HasFiles d w → a.read_faults ≡ m.read_faults) =
      subst (λ k. IfSome k (λ d. HasFiles d w → a.read_faults ≡ m.read_faults)) (p.contents ∙ e) more in
      more' has ∙ spared sound

-- the file that is open failed, or memory ran out at it; a sound file does not fail there
pub Works-read_on-stopped : (w : Work) (stop : Stop) (b m : Moment) → Moved b m → (IsTrue b.sound → m.read_faults ≡ b.read_faults)
    → (stop ≡ Read → Rose b.read_faults m.read_faults) → (stop ≡ Write → ⊥)
    → ((s : Status) → stop ≡ Answered s → ⊥) → Works (read_on w) (Err stop) b m
Works-read_on-stopped w stop b m p spared failed no_writing no_answer = record {
  text = [];
  goes = Goes-moved b m p;
  stops = stopped stop failed no_writing no_answer;
  spared = λ sound. at b.contents sound;
} where
  stopped : (s : Stop) → (s ≡ Read → Rose b.read_faults m.read_faults) → (s ≡ Write → ⊥) → ((t : Status) → s ≡ Answered t → ⊥)
      → Stops (read_on w) (Err s) [] b m
  stopped (Answered t) failed never own = absurd (own t refl)
  stopped Read failed never own = (failed refl, inl refl)
  stopped Write failed never own = absurd (never refl)
  stopped Memory failed never own = BeginsWith-nil b.contents w

  at : (k : Option Contents) → IsTrue b.sound → IfSome k (λ c. HasFiles c (read_on w) → m.read_faults ≡ b.read_faults)
  at None sound = tt
  at (Some c) sound = λ has. spared sound

-- a piece of an open file was taken, and the work is as before
pub Works-moved : (w : Work) (result : Result Status Stop) (b m a : Moment) → Moved b m → (IsTrue b.sound → m.read_faults ≡ b.read_faults)
    → Works w result m a → Works w result b a
Works-moved w result b m a p spared h = record {
  text = h.text;
  goes = Goes-append b m a [] h.text (Goes-moved b m p) h.goes;
  stops = moved result h.stops;
  spared = λ sound. at b.contents refl sound;
} where
  moved : (r : Result Status Stop) → Stops w r h.text m a → Stops w r h.text b a
  moved (Ok s) e = (e.0, subst (λ c. Ends c w s h.text) p.contents e.1)
  moved (Err (Answered s)) e = (e.0, subst (λ c. Ends c w s h.text) p.contents e.1)
  moved (Err Read) e = (
    Rose-before b.read_faults m.read_faults a.read_faults p.read_faults e.0,
    subst
        (λ c. ComesToReading c w h.text) p.contents e.1,
  )
  moved (Err Write) e = (
    Rose-before b.write_faults m.write_faults a.write_faults (omega (arith, p.write_faults)) e.0,
    subst
        (λ c. BeginsWith c w h.text) p.contents e.1,
  )
  moved (Err Memory) e = subst (λ c. BeginsWith c w h.text) p.contents e

  at : (k : Option Contents) → b.contents ≡ k → IsTrue b.sound → IfSome k (λ c. HasFiles c w → a.read_faults ≡ b.read_faults)
  at None e sound = tt
  at (Some c) e sound = λ has.
      let more : IfSome m.contents (λ d. HasFiles d w → a.read_faults ≡ m.read_faults) = h.spared (p.sound ∙ sound) in
      let more' : IfSome (Some c) (λ d. HasFiles d w → a.read_faults ≡ m.read_faults) =
      subst (λ k. IfSome k (λ d. HasFiles d w → a.read_faults ≡ m.read_faults)) (p.contents ∙ e) more in
      more' has ∙ spared sound

-- an open file failed before anything more was written, and so the work reaches a reading
pub Works-failed : (w : Work) (stop : Stop) (b m : Moment) → Moved b m → (IsTrue b.sound → m.read_faults ≡ b.read_faults)
    → ComesToReading b.contents w [] → (stop ≡ Read → Rose b.read_faults m.read_faults) → (stop ≡ Write → ⊥)
    → ((s : Status) → stop ≡ Answered s → ⊥) → Works w (Err stop) b m
Works-failed w stop b m p spared comes failed no_writing no_answer = record {
  text = [];
  goes = Goes-moved b m p;
  stops = stopped stop failed no_writing no_answer;
  spared = λ sound. at b.contents sound;
} where
  stopped : (s : Stop) → (s ≡ Read → Rose b.read_faults m.read_faults) → (s ≡ Write → ⊥) → ((t : Status) → s ≡ Answered t → ⊥)
      → Stops w (Err s) [] b m
  stopped (Answered t) failed never own = absurd (own t refl)
  stopped Read failed never own = (failed refl, comes)
  stopped Write failed never own = absurd (never refl)
  stopped Memory failed never own = BeginsWith-nil b.contents w

  at : (k : Option Contents) → IsTrue b.sound → IfSome k (λ c. HasFiles c w → m.read_faults ≡ b.read_faults)
  at None sound = tt
  at (Some c) sound = λ has. spared sound

-- ---- the numbers of a batch

pub Works-serve : (batch : Batch) (f : List ℕ → Work) (numbers : List ℕ) (result : Result Status Stop) (b a : Moment)
    → AreNumbers batch numbers → Works (f numbers) result b a → Works (serve batch f) result b a
Works-serve batch f numbers result b a are w = record {
  text = w.text;
  goes = w.goes;
  stops = stops_serve result w.stops;
  spared = λ h. at b.contents (w.spared h);
} where
  stops_serve : (r : Result Status Stop) → Stops (f numbers) r w.text b a → Stops (serve batch f) r w.text b a
  stops_serve (Ok s) e = (e.0, (numbers, are, e.1))
  stops_serve (Err (Answered s)) e = (e.0, (numbers, are, e.1))
  stops_serve (Err Read) e = (e.0, (numbers, are, e.1))
  stops_serve (Err Write) e = (e.0, inr (numbers, are, e.1))
  stops_serve (Err Memory) e = inr (numbers, are, e)

  at : (k : Option Contents) → IfSome k (λ c. HasFiles c (f numbers) → a.read_faults ≡ b.read_faults)
      → IfSome k (λ c. HasFiles c (serve batch f) → a.read_faults ≡ b.read_faults)
  at None h = tt
  at (Some c) h = λ has. h (has numbers are)

-- ---- a text is written, and the work goes on

stops_print : (t : List ℕ) (w : Work) (result : Result Status Stop) (text : List ℕ) (b m a : Moment) → Goes b m t → Stops w result text m a
    → Stops (print t w) result (t ++ text) b a
stops_print t w (Ok s) text b m a p e = (e.0, (text, refl, subst (λ c. Ends c w s text) p.contents e.1))
stops_print t w (Err (Answered s)) text b m a p e = (e.0, (text, refl, subst (λ c. Ends c w s text) p.contents e.1))
stops_print t w (Err Read) text b m a p e = (
  Rose-before b.read_faults m.read_faults a.read_faults p.read_faults e.0,
  (
    text,
    refl,
    subst
        (λ c. ComesToReading c w text) p.contents e.1,
  ),
)
stops_print t w (Err Write) text b m a p e = (
  Rose-before b.write_faults m.write_faults a.write_faults p.write_faults e.0,
  inr
      (text, refl, subst (λ c. BeginsWith c w text) p.contents e.1),
)
stops_print t w (Err Memory) text b m a p e = inr (text, refl, subst (λ c. BeginsWith c w text) p.contents e)

Works-print : (t : List ℕ) (w : Work) (result : Result Status Stop) (b m a : Moment) → Goes b m t → m.read_faults ≡ b.read_faults
    → Works w result m a → Works (print t w) result b a
Works-print t w result b m a p same h = record {
  text = t ++ h.text;
  goes = Goes-append b m a t h.text p h.goes;
  stops = stops_print t w result h.text b m a p h.stops;
  spared = λ sound. at b.contents refl sound;
} where
  at : (k : Option Contents) → b.contents ≡ k → IsTrue b.sound → IfSome k (λ c. HasFiles c (print t w) → a.read_faults ≡ b.read_faults)
  at None e sound = tt
  at (Some c) e sound = λ has.
      let more : IfSome m.contents (λ d. HasFiles d w → a.read_faults ≡ m.read_faults) = h.spared (p.sound ∙ sound) in
      let more' : IfSome (Some c) (λ d. HasFiles d w → a.read_faults ≡ m.read_faults) =
      subst (λ k. IfSome k (λ d. HasFiles d w → a.read_faults ≡ m.read_faults)) (p.contents ∙ e) more in
      more' has ∙ same

-- the sink failed at a text, or memory was wanting
Works-print-stopped : (t : List ℕ) (w : Work) (front : List ℕ) (stop : Stop) (b m : Moment) → StartsWith t front → Goes b m front
    → m.read_faults ≡ b.read_faults → (stop ≡ Write → Rose b.write_faults m.write_faults)
    → (stop ≡ Read → ⊥) → ((s : Status) → stop ≡ Answered s → ⊥) → Works (print t w) (Err stop) b m
Works-print-stopped t w front stop b m starts p kept failed no_reading no_answer = record {
  text = front;
  goes = p;
  stops = stopped stop failed no_reading no_answer;
  spared = λ sound. at b.contents;
} where
  stopped : (s : Stop) → (s ≡ Write → Rose b.write_faults m.write_faults) → (s ≡ Read → ⊥) → ((t : Status) → s ≡ Answered t → ⊥)
      → Stops (print t w) (Err s) front b m
  stopped (Answered t) failed never own = absurd (own t refl)
  stopped Read failed never own = absurd (never refl)
  stopped Write failed never own = (failed refl, inl starts)
  stopped Memory failed never own = inl starts

  at : (k : Option Contents) → IfSome k (λ c. HasFiles c (print t w) → m.read_faults ≡ b.read_faults)
  at None = tt
  at (Some c) = λ has. kept

-- the files stay while a text is written
pub record Kept (b m : Moment) : Type 0 where
  pub contents : m.contents ≡ b.contents
  pub sound : m.sound ≡ b.sound
  pub read_faults : m.read_faults ≡ b.read_faults

abbrev pub Printed : List ℕ → Work → Result (Unit {0}) Stop → Moment → Moment → Type 0
Printed t w (Ok done) b m = (result : Result Status Stop) (after : Moment) → Works w result m after → Works (print t w) result b after
Printed t w (Err stop) b m = Works (print t w) (Err stop) b m

pub printed : (t : List ℕ) (w : Work) (r : Result (Unit {0}) Stop) (b m : Moment) → Writes t r b.taken m.taken b.write_faults m.write_faults
    → Kept b m → Printed t w r b m
printed t w (Ok done) b m writes k = λ result after h.
    Works-print t w result b m after
    (record {
      contents = k.contents;
      sound = k.sound;
      read_faults = omega
          (arith, k.read_faults);
      write_faults = writes.later;
      taken = writes.appends ∙ ap (append_known b.taken) writes.whole;
    })
    k.read_faults h
printed t w (Err stop) b m writes k =
    Works-print-stopped t w writes.front stop b m writes.begins
    (record {
      contents = k.contents;
      sound = k.sound;
      read_faults = omega
          (arith, k.read_faults);
      write_faults = writes.later;
      taken = writes.appends;
    })
    k.read_faults (λ e. writes.failed (ap Err e)) (λ e. writes.no_reading (ap Err e)) (λ s e. writes.no_answer s (ap Err e))

-- ---- the end of the call

own_answers : (work : Work) (s : Status) (text : List ℕ) (b a : Moment) → (IsCut s → ⊥) → Ends b.contents work s text
    → Answers work s text b a
own_answers work WriteFault text b a own e = absurd (own tt)
own_answers work NoMemory text b a own e = absurd (own tt)
own_answers work ReadFault text b a own e = absurd (own tt)
own_answers work s text b a own e = e

-- nothing is written at the end
plain : (work : Work) (result : Result Status Stop) (answer : Status) (b m a : Moment) → answer ≡ answer_of result
    → (w : Works work result b m) → Answers work (answer_of result) w.text b a
    → a.contents ≡ m.contents → a.sound ≡ m.sound → a.read_faults ≡ m.read_faults → a.taken ≡ m.taken → a.write_faults ≡ m.write_faults
    → Outcome work answer b a
plain work result answer b m a is w answers contents sound read_faults taken write_faults = record {
  text = w.text;
  goes = record {
    contents = contents ∙ w.goes.contents;
    sound = sound ∙ w.goes.sound;
    read_faults = omega (arith, w.goes.read_faults, read_faults);
    write_faults = omega (arith, w.goes.write_faults, write_faults);
    taken = taken ∙ w.goes.taken;
  };
  answers = subst (λ s. Answers work s w.text b a) (sym is) answers;
  spared = λ h. at b.contents (w.spared h);
} where
  at : (k : Option Contents) → IfSome k (λ c. HasFiles c work → m.read_faults ≡ b.read_faults)
      → IfSome k (λ c. HasFiles c work → a.read_faults ≡ b.read_faults)
  at None h = tt
  at (Some c) h = λ has. read_faults ∙ h has

-- the line on the fault is written
told : (work : Work) (written : List ℕ) (b m a : Moment) → Rose b.read_faults a.read_faults → ComesToReading b.contents work written
    → (last : Result Status Stop) → (wr : Writes read_fault last m.taken a.taken m.write_faults a.write_faults)
    → IfOk last (λ s. s ≡ ReadFault) → b.write_faults ≤ m.write_faults → Answers work (answer_of last) (written ++ wr.front) b a
told work written b m a rose comes (Ok s) wr is later =
    subst (λ s. Answers work s (written ++ wr.front) b a) (sym is) (rose, (written, comes, ap (λ l. written ++ l) wr.whole))
told work written b m a rose comes (Err (Answered s)) wr is later = absurd (wr.no_answer s refl)
told work written b m a rose comes (Err Read) wr is later = absurd (wr.no_reading refl)
told work written b m a rose comes (Err Write) wr is later = (
  Rose-before b.write_faults m.write_faults a.write_faults later (wr.failed refl),
  inr
      (rose, (written, wr.front, comes, wr.begins, refl)),
)
told work written b m a rose comes (Err Memory) wr is later = inr (rose, (written, wr.front, comes, wr.begins, refl))

pub Outcome-closed : (work : Work) (result : Result Status Stop) (answer : Status) (b m a : Moment) → Works work result b m
    → Closes result answer m.taken a.taken m.write_faults a.write_faults
    → a.contents ≡ m.contents → a.sound ≡ m.sound → a.read_faults ≡ m.read_faults → Outcome work answer b a
Outcome-closed work (Ok s) answer b m a w closes contents sound read_faults =
    plain work (Ok s) answer b m a closes.0 w
    (own_answers work s w.text b a w.stops.0 w.stops.1) contents sound read_faults closes.1 closes.2
Outcome-closed work (Err (Answered s)) answer b m a w closes contents sound read_faults =
    plain work (Err (Answered s)) answer b m a closes.0 w
    (own_answers work s w.text b a w.stops.0 w.stops.1) contents sound read_faults closes.1 closes.2
Outcome-closed work (Err Write) answer b m a w closes contents sound read_faults =
    plain work (Err Write) answer b m a closes.0 w (
      subst (λ n. Rose b.write_faults n)
          (sym closes.2) w.stops.0,
      inl w.stops.1,
    ) contents sound read_faults closes.1 closes.2
Outcome-closed work (Err Memory) answer b m a w closes contents sound read_faults =
    plain work (Err Memory) answer b m a closes.0 w (inl w.stops) contents sound read_faults closes.1 closes.2
Outcome-closed work (Err Read) answer b m a w (last, wr, is, ans) contents sound read_faults = record {
  text = w.text ++ wr.front;
  goes = Goes-append b m a w.text wr.front w.goes (record {
    contents = contents;
    sound = sound;
    read_faults = omega (arith, read_faults);
    write_faults = wr.later;
    taken = wr.appends;
  });
  answers = subst (λ s. Answers work s (w.text ++ wr.front) b a) (sym ans)
      (told work w.text b m a (subst (λ n. Rose b.read_faults n) (sym read_faults) w.stops.0) w.stops.1 last wr is w.goes.write_faults);
  spared = λ h. at b.contents (w.spared h);
} where
  at : (k : Option Contents) → IfSome k (λ c. HasFiles c work → m.read_faults ≡ b.read_faults)
      → IfSome k (λ c. HasFiles c work → a.read_faults ≡ b.read_faults)
  at None h = tt
  at (Some c) h = λ has. read_faults ∙ h has
