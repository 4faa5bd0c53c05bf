-- The steps of the loops over a file.
use Rattle.std.proofs.Common.{◌≡◌, ◌≤◌, ◌<◌, ◌+◌, ℕ, List, [], ◌++◌, length, take, Bool, true, false, not, ◌&&◌, cond, ltb, Option}
use Rattle.std.proofs.Common.{Result, Ok, Err, refl, sym, ◌∙◌, ap, subst, append_assoc, append-nil, inl, arith, length-append}
use Rattle.std.proofs.lemmas.Bool.{le-ltb, lt-ltb}
use Rattle.plan_model.specs.Limits.{standard}
use Rattle.plan_model.specs.Network.{Network}
use Rattle.sccp_conform.specs.Reports.{file_work, heard_work, octets_work, work_on}
use Rattle.sccp_conform.specs.Steps.{left_work}
use Rattle.sccp_io.specs.Files.{TakesNext, BeginsFile}
use Rattle.sccp_io.specs.declared.fault.IoFault.{IoFault}
use Rattle.sccp_report.specs.Limits.{too_long_line}
use Rattle.sccp_work.specs.Ending.{Works}
use Rattle.sccp_work.specs.Moment.{Moment}
use Rattle.sccp_work.specs.Pieces.{EndsAs, GoesOn}
use Rattle.sccp_work.specs.Reading.{reading_stop}
use Rattle.sccp_work.specs.Work.{Work, answered, read_on}
use Rattle.sccp_work.specs.declared.status.Status.{Status}
use Rattle.sccp_work.specs.declared.status.Status.TheVariants.{TooLong}
use Rattle.sccp_work.specs.declared.stop.Stop.{Stop}
use Rattle.sccp_work.proofs.PieceLemmas.{Untouched, begun, take_fails, piece_taken, end_found, may_come}
use Rattle.sccp_work.proofs.WorkLemmas.{Works-read_on}
use Rattle.watch_items.proofs.FrontLemmas.{same_front}
use Rattle.watch_items.specs.Captures.{Heard, State, after_items, ahead, heard}
use Rattle.watch_items.specs.Files.{if_read}
use Rattle.watch_items.specs.Front.{is_capture}
use Rattle.watch_items.specs.Items.{items_of}
use Rattle.watch_items.specs.declared.item.Item.{Item}

-- ---- work that is read on

-- nothing moved
stays : (w : Work) (result : Result Status Stop) (b a : Moment) → Works w result b a → Works (read_on w) result b a
stays w result b a h =
    Works-read_on w result b b a (record { contents = refl; sound = refl; read_faults = omega arith; taken = refl; write_faults = refl })
    (λ sound. refl) h

-- ---- a capture

abbrev pub next_of : Network → (List ℕ → Heard) → List ℕ → Work
next_of plan whole rest = left_work plan (whole rest)

-- a piece could not be taken
pub capture_fails : (work : Work) (plan : Network) (whole : List ℕ → Heard) (fault : IoFault) (stop : Stop) (buffer : List ℕ)
    (left left' : Option (List ℕ)) (first b m : Moment) → GoesOn work (next_of plan whole) left first b
    → TakesNext buffer (Err fault) b.sound left left' b.read_faults m.read_faults → Untouched b m → stop ≡ reading_stop fault
    → Works work (Err stop) first m
capture_fails work plan whole fault stop buffer left left' first b m all takes u is =
    take_fails work (next_of plan whole) fault stop buffer left left' first b m all (λ rest. inl refl) takes u is

-- a piece was taken
pub capture_taken : (work : Work) (plan : Network) (whole : List ℕ → Heard) (n : ℕ) (buffer piece : List ℕ)
    (left left' : Option (List ℕ)) (first b m : Moment) → GoesOn work (next_of plan whole) left first b
    → TakesNext buffer (Ok n) b.sound left left' b.read_faults m.read_faults → piece ≡ take n buffer → Untouched b m
    → GoesOn work (next_of plan (λ rest. whole (piece ++ rest))) left' first m
capture_taken work plan whole n buffer piece left left' first b m all takes is u =
    piece_taken work (next_of plan whole) (next_of plan (λ rest. whole (piece ++ rest))) n buffer piece left left' first b m all takes is
    (λ rest. refl) u

-- the end of the file was found
pub capture_ends : (work : Work) (plan : Network) (whole : List ℕ → Heard) (n : ℕ) (buffer : List ℕ) (left left' : Option (List ℕ))
    (first b m : Moment) → GoesOn work (next_of plan whole) left first b
    → TakesNext buffer (Ok n) b.sound left left' b.read_faults m.read_faults → n ≡ 0 → Untouched b m
    → EndsAs work (next_of plan whole []) first m
capture_ends work plan whole n buffer left left' first b m all takes none u =
    end_found work (next_of plan whole) n buffer left left' first b m all takes none u

-- what cannot be read was found
pub capture_stops : (work : Work) (plan : Network) (whole : List ℕ → Heard) (items : List Item) (reading : State) (left : Option (List ℕ))
    (first m : Moment) → GoesOn work (next_of plan whole) left first m
    → ((rest : List ℕ) → whole rest ≡ after_items items (ahead reading rest))
    → ((rest : List ℕ) → ahead reading rest ≡ ahead reading []) → EndsAs work (next_of plan whole []) first m
capture_stops work plan whole items reading left first m all goes_on same = λ result after h.
    let may = may_come left in
    let there : whole may.0 ≡ whole [] = goes_on may.0 ∙ ap (after_items items) (same may.0) ∙ sym (goes_on []) in
    all may.0 may.1 result after (subst (λ x. Works (left_work plan x) result m after) (sym there) h)

-- it is known that the file is a capture
pub is_that : (plan : Network) (octets : List ℕ) → is_capture octets ≡ true → octets_work plan octets ≡ heard_work plan (heard octets)
is_that plan octets is = by (is_capture octets) is where
  by : (b : Bool) → b ≡ true
      → cond (not b && ltb standard.octets (length octets)) (answered (TooLong, too_long_line standard))
      (work_on plan (cond b (Ok (heard octets)) (if_read (items_of octets)))) ≡ heard_work plan (heard octets)
  by true e = refl
  by false e = cc

pub capture_begins : (work : Work) (plan : Network) (octets : List ℕ) (left : Option (List ℕ)) (first m : Moment)
    → is_capture octets ≡ true → 4 ≤ length octets → GoesOn work (λ rest. read_on (octets_work plan (octets ++ rest))) left first m
    → GoesOn work (next_of plan (λ rest. heard (octets ++ rest))) left first m
capture_begins work plan octets left first m is long all = λ rest may result after h.
    all rest may result after (subst (λ w. Works (read_on w) result m after)
    (sym (is_that plan (octets ++ rest) (same_front octets rest long ∙ is))) h)

-- all was read, and its report was printed
pub capture_printed : (work : Work) (plan : Network) (h : Heard) (result : Result Status Stop) (first m a : Moment)
    → EndsAs work (left_work plan h) first m → Works (heard_work plan h) result m a → Works work result first a
capture_printed work plan h result first m a ends done = ends result a (stays (heard_work plan h) result m a done)

-- ---- any file

abbrev pub rest_of : Network → List ℕ → List ℕ → Work
rest_of plan octets rest = read_on (octets_work plan (octets ++ rest))

pub file_begun : (plan : Network) (name : List ℕ) (left left' : Option (List ℕ)) (b m : Moment)
    → BeginsFile {T = Unit {0}} name (Ok tt) b.contents b.sound left left' b.read_faults m.read_faults → Untouched b m
    → GoesOn (file_work plan name) (rest_of plan []) left' b m
file_begun plan name left left' b m begins u = begun name (λ octets. read_on (octets_work plan octets)) left left' b m begins u

pub file_fails : (work : Work) (plan : Network) (octets : List ℕ) (fault : IoFault) (stop : Stop) (buffer : List ℕ)
    (left left' : Option (List ℕ)) (first b m : Moment) → GoesOn work (rest_of plan octets) left first b
    → TakesNext buffer (Err fault) b.sound left left' b.read_faults m.read_faults → Untouched b m → stop ≡ reading_stop fault
    → Works work (Err stop) first m
file_fails work plan octets fault stop buffer left left' first b m all takes u is =
    take_fails work (rest_of plan octets) fault stop buffer left left' first b m all (λ rest. inl refl) takes u is

pub file_taken : (work : Work) (plan : Network) (octets more : List ℕ) (n : ℕ) (buffer piece : List ℕ) (left left' : Option (List ℕ))
    (first b m : Moment) → GoesOn work (rest_of plan octets) left first b
    → TakesNext buffer (Ok n) b.sound left left' b.read_faults m.read_faults → piece ≡ take n buffer → more ≡ octets ++ piece
    → Untouched b m → GoesOn work (rest_of plan more) left' first m
file_taken work plan octets more n buffer piece left left' first b m all takes is longer u =
    piece_taken work (rest_of plan octets) (rest_of plan more) n buffer piece left left' first b m all takes is
    (λ rest. ap (λ xs. read_on (octets_work plan xs)) (sym (append_assoc octets piece rest) ∙ ap (λ xs. xs ++ rest) (sym longer))) u

-- a text
pub is_text : (plan : Network) (octets : List ℕ) → is_capture octets ≡ false → length octets ≤ standard.octets
    → octets_work plan octets ≡ work_on plan (if_read (items_of octets))
is_text plan octets is few = by (is_capture octets) (ltb standard.octets (length octets)) is (not_over few) where
  by : (b c : Bool) → b ≡ false → c ≡ false → cond (not b && c) (answered (TooLong, too_long_line standard))
      (work_on plan (cond b (Ok (heard octets)) (if_read (items_of octets)))) ≡ work_on plan (if_read (items_of octets))
  by b c e f = rw (e, f) refl

  not_over : length octets ≤ standard.octets → ltb standard.octets (length octets) ≡ false
  not_over le = le-ltb standard.octets (length octets) le

pub text_printed : (work : Work) (plan : Network) (octets : List ℕ) (n : ℕ) (buffer : List ℕ) (left left' : Option (List ℕ))
    (result : Result Status Stop) (first b m a : Moment) → GoesOn work (rest_of plan octets) left first b
    → TakesNext buffer (Ok n) b.sound left left' b.read_faults m.read_faults → n ≡ 0 → Untouched b m
    → is_capture octets ≡ false → length octets ≤ standard.octets
    → Works (work_on plan (if_read (items_of octets))) result m a → Works work result first a
text_printed work plan octets n buffer left left' result first b m a all takes none u is few h =
    end_found work (rest_of plan octets) n buffer left left' first b m all takes none u result a
    (stays (octets_work plan (octets ++ [])) result m a
    (subst (λ w. Works w result m a) (sym (ap (octets_work plan) (append-nil octets) ∙ is_text plan octets is few)) h))

-- a text that is too long, whatever follows
pub is_too_long : (plan : Network) (octets rest : List ℕ) → is_capture octets ≡ false → standard.octets < length octets
    → octets_work plan (octets ++ rest) ≡ answered (TooLong, too_long_line standard)
is_too_long plan octets rest is long =
    by (is_capture (octets ++ rest)) (ltb standard.octets (length (octets ++ rest))) (same_front octets rest (omega (arith, long)) ∙ is)
    (over (length-append octets rest)) where
      by : (b c : Bool) → b ≡ false → c ≡ true → cond (not b && c) (answered (TooLong, too_long_line standard))
          (work_on plan (cond b (Ok (heard (octets ++ rest))) (if_read (items_of (octets ++ rest)))))
          ≡ answered (TooLong, too_long_line standard)
      by b c e f = rw (e, f) refl

      over : length (octets ++ rest) ≡ length octets + length rest → ltb standard.octets (length (octets ++ rest)) ≡ true
      over e = lt-ltb standard.octets (length (octets ++ rest)) (omega (arith, e, long))

pub long_printed : (work : Work) (plan : Network) (octets : List ℕ) (left : Option (List ℕ)) (result : Result Status Stop)
    (first m a : Moment) → GoesOn work (rest_of plan octets) left first m → is_capture octets ≡ false → standard.octets < length octets
    → Works (answered (TooLong, too_long_line standard)) result m a → Works work result first a
long_printed work plan octets left result first m a all is long h =
    let may = may_come left in
    all may.0 may.1 result a (stays (octets_work plan (octets ++ may.0)) result m a
    (subst (λ w. Works w result m a) (sym (is_too_long plan octets may.0 is long)) h))
