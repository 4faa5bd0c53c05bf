-- What the words of a command give, so far as what its text says rests on it.
use Rattle.std.specs.Prelude.{◌≡◌, ◌<◌, ◌≤◌, ℕ, ◌%◌, ◌==◌, ◌&&◌, nat_le, nat_lt, Bool, true, false, cond, codes, List, [], ◌∷◌, length}
use Rattle.std.specs.Prelude.{Option, Some, None}
use Rattle.std.specs.Prelude.{refl, option_and_then, option_map}
use Rattle.std.specs.List.{AllByRecursion}
use Rattle.std.specs.Str.{bytes_eq}
use Rattle.std.proofs.Common.{subst, arith}
use Rattle.std.proofs.lemmas.Bool.{and_parts, eq-eqb, eqb-false, leb-true, ltb-true}
use Rattle.std.proofs.lemmas.Option.{option_and_then_some}
use Rattle.plan_margin.specs.declared.loss_kinds.LossKinds.{LossKinds}
use Rattle.plan_margin.specs.declared.loss_kinds.LossKinds.TheVariants.{Points, PointsAndSubsystems}
use Rattle.plan_model.proofs.Sound.{AreLimits}
use Rattle.plan_model.specs.Limits.{standard, wide}
use Rattle.plan_model.specs.declared.limits.Limits.{Limits}
use Rattle.sccp_address.specs.Written.{IsTitle}
use Rattle.sccp_address.specs.declared.address.Title.TheVariants.{Global}
use Rattle.sccp_base.specs.DigitText.{digits_of}
use Rattle.sccp_base.specs.Names.{name_of}
use Rattle.sccp_base.specs.Selector.{Numbers, IsSelector}
use Rattle.sccp_base.specs.Text.{decimal_of, point_code_of, selector_of}
use Rattle.sccp_replay.specs.Workers.{workers_in}
use Rattle.sccp_tool.proofs.TitleWords.{are_digits, are_octets, is_below, is_ok, is_selector, let_through}
use Rattle.sccp_tool.specs.Capture.{capture_words, capture_of}
use Rattle.sccp_tool.specs.Change.{change_words, change_of}
use Rattle.sccp_tool.specs.Commands.{command_of, further_plan_command_of, plan_command_of, task_of, wide_of}
use Rattle.sccp_tool.specs.Conform.{conform_words, conform_of}
use Rattle.sccp_tool.specs.Connect.{connect_words, connect_of, calling_of, is_unsaid, said}
use Rattle.sccp_tool.specs.Covers.{covers_words}
use Rattle.sccp_tool.specs.Cuts.{cuts_words}
use Rattle.sccp_tool.specs.Import.{import_words, import_of}
use Rattle.sccp_tool.specs.Load.{load_words, load_of, number_to}
use Rattle.sccp_tool.specs.Margin.{margin_words, margin_with, margin_of_kinds}
use Rattle.sccp_plans.specs.Margin.{limit_in}
use Rattle.sccp_tool.specs.Order.{order_words, order_of}
use Rattle.sccp_tool.specs.Replay.{replay_words, replay_of}
use Rattle.sccp_tool.specs.Route.{route_words, route_of}
use Rattle.sccp_tool.specs.SendOn.{send_on_words, send_on_of, incoming_of, size_of}
use Rattle.sccp_tool.specs.Show.{show_words}
use Rattle.sccp_tool.specs.ShowHex.{show_hex_words}
use Rattle.sccp_plans.specs.Starts.{digits_word, ssn_of, start_of, title_digits}
use Rattle.sccp_tool.specs.Task.{Task, ShowHex, Show, Verify, Route, Replay, Load, Cuts, Import, Change, Connect, SendOn, Covers, Unused}
use Rattle.sccp_tool.specs.Task.{Margin, Capture, Order, Conform}
use Rattle.sccp_tool.specs.Unused.{unused_words}
use Rattle.sccp_tool.specs.Verify.{verify_words}
use Rattle.sccp_tool.specs.declared.connect.Calling.{Calling}
use Rattle.sccp_tool.specs.declared.send_on.Incoming.{Incoming}
use Rattle.sccp_plans.specs.declared.start.Start.{Start}
use Rattle.sccp_work.specs.PlanFile.{plan_file}
use Rattle.trace_text.specs.Forms.{file_name}
use Rattle.trace_text.specs.Hex.{hex_word}

-- the title that is called is one that a message can have, and its subsystem number has one octet
pub record IsCalled (calling : Calling) : Type 0 where
  pub title : IsTitle (Global calling.start.selector calling.start.digits)
  pub ssn : calling.start.ssn < 256

-- a segment may have some data, and the octets are below 256
pub record IsGiven (i : Incoming) : Type 0 where
  pub some : 0 < i.size
  pub octets : AllByRecursion (λ o. o < 256) i.octets

abbrev pub IsOfWords : Option Task → Type 0
IsOfWords (Some (Connect file calling)) = IsCalled calling
IsOfWords (Some (SendOn file incoming)) = AreLimits file.limits × IsGiven incoming
IsOfWords (Some (Load number size workers)) = size ≤ 100000
IsOfWords task = Unit {0}

-- ---- a task of parts

by_test : (b : Bool) (x y : Option Task) → IsOfWords x → IsOfWords y → IsOfWords (cond b x y)
by_test true x y p q = p
by_test false x y p q = q

mapped : {A : Type 0} (f : A → Task) (o : Option A) → ((a : A) → o ≡ Some a → IsOfWords (Some (f a))) → IsOfWords (option_map f o)
mapped f None p = tt
mapped f (Some a) p = p a refl

chosen : {A : Type 0} (f : A → Option Task) (o : Option A) → ((a : A) → o ≡ Some a → IsOfWords (f a)) → IsOfWords (option_and_then f o)
chosen f None p = tt
chosen f (Some a) p = p a refl

-- ---- connect

-- a title, and no more: whether kind 2 can say how many digits it has is not part of this
record IsStart (start : Start) : Type 0 where
  pub selector : IsSelector start.selector
  pub few : length start.digits ≤ 32
  pub each : AllByRecursion (λ d. d < 16) start.digits
  pub ssn : start.ssn < 256

start_is : (name : List ℕ) (s : Numbers) (n : ℕ) (d word digits ssn : List ℕ) (start : Start) → selector_of word ≡ Some s
    → ssn_of ssn ≡ Some n
    → title_digits digits ≡ Some d → Some (record { node = name; selector = s; ssn = n; digits = d }) ≡ Some start → IsStart start
start_is name s n d word digits ssn start selected numbered spelled e =
    let read = are_digits (digits_word digits) d (is_ok (digits_of (digits_word digits)) d spelled) in
    let made : IsStart (record { node = name; selector = s; ssn = n; digits = d }) = record {
      selector = is_selector word s selected;
      few = read.0;
      each = read.1;
      ssn = is_below 256 (decimal_of 10 ssn) n numbered;
    } in
    subst IsStart (let_through true (record { node = name; selector = s; ssn = n; digits = d }) start e).1 made

start_given : (node selector ssn digits : List ℕ) (start : Start) → start_of node selector ssn digits ≡ Some start → IsStart start
unfolding start_of
start_given node selector ssn digits start e = option_and_then_some by_name (name_of node) start e
    (λ name named f. option_and_then_some (by_selector name) (selector_of selector) start f
    (λ s selected g. option_and_then_some (by_ssn name s) (ssn_of ssn) start g
    (λ n numbered h. option_and_then_some (by_digits name s n) (title_digits digits) start h
    (λ d spelled i. start_is name s n d selector digits ssn start selected numbered spelled i))))
  where
    by_digits : List ℕ → Numbers → ℕ → List ℕ → Option Start
    by_digits name s n d = Some (record { node = name; selector = s; ssn = n; digits = d })

    by_ssn : List ℕ → Numbers → ℕ → Option Start
    by_ssn name s n = option_and_then (by_digits name s n) (title_digits digits)

    by_selector : List ℕ → Numbers → Option Start
    by_selector name s = option_and_then (by_ssn name s) (ssn_of ssn)

    by_name : List ℕ → Option Start
    by_name name = option_and_then (by_selector name) (selector_of selector)

even_of : (kind count : ℕ) → ((kind == 2) && (count % 2 == 1)) ≡ false → kind ≡ 2 → count % 2 ≡ 0
even_of kind count both is = by (count % 2 == 1) refl (subst (λ b. (b && (count % 2 == 1)) ≡ false) (eq-eqb kind 2 is) both) where
  by : (odd : Bool) → (count % 2 == 1) ≡ odd → odd ≡ false → count % 2 ≡ 0
  by true e f = absurd cc
  by false e f = let d = eqb-false (count % 2) 1 e in omega (arith, d)

said_is : (title start : Start) → IsStart title → said title ≡ Some start → IsTitle (Global start.selector start.digits) × (start.ssn < 256)
said_is title start is e = by (is_unsaid title) refl e where
  by : (unsaid : Bool) → is_unsaid title ≡ unsaid → cond unsaid None (Some title) ≡ Some start
      → IsTitle (Global start.selector start.digits) × (start.ssn < 256)
  by true u f = absurd cc
  by false u f = subst (λ (t : Start). IsTitle (Global t.selector t.digits) × (t.ssn < 256)) (let_through true title start f).1
      ((is.selector, is.few, is.each, even_of title.selector.kind (length title.digits) u), is.ssn)

calling_given : (node from selector ssn digits octets : List ℕ) (calling : Calling)
    → calling_of node from selector ssn digits octets ≡ Some calling → IsCalled calling
unfolding calling_of
calling_given node from selector ssn digits octets calling e = option_and_then_some by_title (start_of node selector ssn digits) calling e
    (λ title is f. option_and_then_some by_start (said title) calling f
    (λ start says g. option_and_then_some (by_point start) (point_code_of from) calling g
    (λ pc at h. called start pc (hex_word octets) h (said_is title start (start_given node selector ssn digits title is) says))))
  where
    joined : Start → ℕ → List ℕ → Calling
    joined start pc b = record { start = start; from = pc; octets = b }

    by_point : Start → ℕ → Option Calling
    by_point start pc = option_map (joined start pc) (hex_word octets)

    by_start : Start → Option Calling
    by_start start = option_and_then (by_point start) (point_code_of from)

    by_title : Start → Option Calling
    by_title title = option_and_then by_start (said title)

    called : (start : Start) (pc : ℕ) (o : Option (List ℕ)) → option_map (joined start pc) o ≡ Some calling
        → IsTitle (Global start.selector start.digits) × (start.ssn < 256) → IsCalled calling
    called start pc None h has = absurd cc
    called start pc (Some b) h has =
        subst IsCalled (let_through true (joined start pc b) calling h).1 (record { title = has.0; ssn = has.1 })

connect_given : (limits : Limits) (words : List (List ℕ)) → IsOfWords (connect_words limits words)
unfolding connect_words connect_of
connect_given limits (plan ∷ node ∷ from ∷ selector ∷ ssn ∷ digits ∷ octets ∷ []) =
    chosen (λ name. option_map (Connect (plan_file name limits)) (calling_of node from selector ssn digits octets)) (file_name plan)
    (λ name e. mapped (Connect (plan_file name limits)) (calling_of node from selector ssn digits octets)
    (λ calling made. calling_given node from selector ssn digits octets calling made))
connect_given limits words = tt

-- ---- send-on

size_given : (word : List ℕ) (n : ℕ) → size_of word ≡ Some n → 0 < n
size_given word n e = option_and_then_some (λ k. cond (nat_lt 0 k && nat_lt k 256) (Some k) None) (decimal_of 10 word) n e (λ k is f.
    let p = let_through (nat_lt 0 k && nat_lt k 256) k n f in
    subst (λ m. 0 < m) p.1 (ltb-true 0 k (and_parts (nat_lt 0 k) (nat_lt k 256) p.0).0))

incoming_given : (node origin size digits : List ℕ) (i : Incoming) → incoming_of node origin size digits ≡ Some i → IsGiven i
unfolding incoming_of
incoming_given node origin size digits i e = option_and_then_some by_name (name_of node) i e
    (λ name named f. option_and_then_some (by_point name) (point_code_of origin) i f
    (λ pc at g. option_and_then_some (by_size name pc) (size_of size) i g
    (λ n sized h. option_and_then_some (by_octets name pc n) (hex_word digits) i h
    (λ b read k. subst IsGiven (let_through true (joined name pc n b) i k).1
    (record { some = size_given size n sized; octets = are_octets digits b read })))))
  where
    joined : List ℕ → ℕ → ℕ → List ℕ → Incoming
    joined name pc n b = record { node = name; origin = pc; size = n; octets = b }

    by_octets : List ℕ → ℕ → ℕ → List ℕ → Option Incoming
    by_octets name pc n b = Some (joined name pc n b)

    by_size : List ℕ → ℕ → ℕ → Option Incoming
    by_size name pc n = option_and_then (by_octets name pc n) (hex_word digits)

    by_point : List ℕ → ℕ → Option Incoming
    by_point name pc = option_and_then (by_size name pc) (size_of size)

    by_name : List ℕ → Option Incoming
    by_name name = option_and_then (by_point name) (point_code_of origin)

send_on_given : (limits : Limits) (words : List (List ℕ)) → AreLimits limits → IsOfWords (send_on_words limits words)
unfolding send_on_words send_on_of
send_on_given limits (plan ∷ node ∷ origin ∷ size ∷ digits ∷ []) fit =
    chosen (λ name. option_map (SendOn (plan_file name limits)) (incoming_of node origin size digits)) (file_name plan)
    (λ name e. mapped (SendOn (plan_file name limits)) (incoming_of node origin size digits)
    (λ i made. (fit, incoming_given node origin size digits i made)))
send_on_given limits words fit = tt

-- ---- the other commands

show_hex_given : (words : List (List ℕ)) → IsOfWords (show_hex_words words)
unfolding show_hex_words
show_hex_given (digits ∷ []) = mapped ShowHex (hex_word digits) (λ b e. tt)
show_hex_given words = tt

show_given : (words : List (List ℕ)) → IsOfWords (show_words words)
unfolding show_words
show_given (name ∷ []) = mapped Show (file_name name) (λ n e. tt)
show_given words = tt

cuts_given : (words : List (List ℕ)) → IsOfWords (cuts_words words)
unfolding cuts_words
cuts_given (digits ∷ []) = mapped Cuts (hex_word digits) (λ b e. tt)
cuts_given words = tt

few_given : (word : List ℕ) (s : ℕ) → number_to 100000 word ≡ Some s → s ≤ 100000
few_given word s e = option_and_then_some (λ n. cond (nat_le n 100000) (Some n) None) (decimal_of 10 word) s e (λ n is f.
    let p = let_through (nat_le n 100000) n s f in
    subst (λ k. k ≤ 100000) p.1 (leb-true n 100000 p.0))

load_given : (words : List (List ℕ)) → IsOfWords (load_words words)
unfolding load_words load_of
load_given (number ∷ size ∷ workers ∷ []) = chosen _ (number_to 4294967295 number)
    (λ n is. chosen _ (number_to 100000 size) (λ s sized. mapped (λ w. Load n s w) (workers_in workers)
    (λ w e. few_given size s sized)))
load_given words = tt

verify_given : (limits : Limits) (words : List (List ℕ)) → IsOfWords (verify_words limits words)
unfolding verify_words
verify_given limits (name ∷ []) = mapped (λ n. Verify (plan_file n limits)) (file_name name) (λ n e. tt)
verify_given limits words = tt

covers_given : (limits : Limits) (words : List (List ℕ)) → IsOfWords (covers_words limits words)
unfolding covers_words
covers_given limits (name ∷ []) = mapped (λ n. Covers (plan_file n limits)) (file_name name) (λ n e. tt)
covers_given limits words = tt

unused_given : (limits : Limits) (words : List (List ℕ)) → IsOfWords (unused_words limits words)
unfolding unused_words
unused_given limits (name ∷ []) = mapped (λ n. Unused (plan_file n limits)) (file_name name) (λ n e. tt)
unused_given limits words = tt

with_given : (limits : Limits) (kinds : LossKinds) (name losses : List ℕ) → IsOfWords (margin_with limits kinds name losses)
unfolding margin_with
with_given limits kinds name losses = chosen _ (file_name name)
    (λ n is. mapped (λ l. Margin (plan_file n limits) l) (limit_in kinds losses) (λ l e. tt))

margin_given : (limits : Limits) (words : List (List ℕ)) → IsOfWords (margin_words limits words)
unfolding margin_words margin_of_kinds
margin_given limits [] = tt
margin_given limits (name ∷ []) = tt
margin_given limits (name ∷ losses ∷ []) = with_given limits Points name losses
margin_given limits (name ∷ losses ∷ kinds ∷ []) =
    by_test (bytes_eq kinds (codes "subsystems")) (margin_with limits PointsAndSubsystems name losses) None
    (with_given limits PointsAndSubsystems name losses) tt
margin_given limits (name ∷ losses ∷ kinds ∷ more ∷ words) = tt

change_given : (limits : Limits) (words : List (List ℕ)) → IsOfWords (change_words limits words)
unfolding change_words change_of
change_given limits (old ∷ new ∷ []) = chosen _ (file_name old)
    (λ o is. mapped (λ n. Change (plan_file o limits) (plan_file n limits)) (file_name new) (λ n e. tt))
change_given limits words = tt

order_given : (limits : Limits) (words : List (List ℕ)) → IsOfWords (order_words limits words)
unfolding order_words order_of
order_given limits (old ∷ new ∷ []) = chosen _ (file_name old)
    (λ o is. mapped (λ n. Order (plan_file o limits) (plan_file n limits)) (file_name new) (λ n e. tt))
order_given limits words = tt

route_given : (limits : Limits) (words : List (List ℕ)) → IsOfWords (route_words limits words)
unfolding route_words route_of
route_given limits (plan ∷ node ∷ selector ∷ ssn ∷ digits ∷ []) =
    chosen _ (file_name plan) (λ n is. mapped (Route (plan_file n limits)) (start_of node selector ssn digits) (λ s e. tt))
route_given limits words = tt

replay_given : (limits : Limits) (words : List (List ℕ)) → IsOfWords (replay_words limits words)
unfolding replay_words replay_of
replay_given limits (plan ∷ trace ∷ workers ∷ []) = chosen _ (file_name plan) (λ p is. chosen _ (file_name trace)
    (λ t there. mapped (λ n. Replay (plan_file p limits) t n) (workers_in workers) (λ n e. tt)))
replay_given limits words = tt

import_given : (limits : Limits) (words : List (List ℕ)) → IsOfWords (import_words limits words)
unfolding import_words import_of
import_given limits (plan ∷ file ∷ []) = chosen _ (file_name plan)
    (λ p is. mapped (Import (plan_file p limits)) (file_name file) (λ f e. tt))
import_given limits words = tt

capture_given : (limits : Limits) (words : List (List ℕ)) → IsOfWords (capture_words limits words)
unfolding capture_words capture_of
capture_given limits (plan ∷ file ∷ []) = chosen _ (file_name plan)
    (λ p is. mapped (Capture (plan_file p limits)) (file_name file) (λ f e. tt))
capture_given limits words = tt

conform_given : (limits : Limits) (words : List (List ℕ)) → IsOfWords (conform_words limits words)
unfolding conform_words conform_of
conform_given limits (plan ∷ file ∷ []) = chosen _ (file_name plan)
    (λ p is. mapped (Conform (plan_file p limits)) (file_name file) (λ f e. tt))
conform_given limits words = tt

-- ---- the commands by their names

standard_fits : AreLimits standard
standard_fits = record { nodes = omega arith; rows = omega arith; covers = omega arith }

wide_fits : AreLimits wide
wide_fits = record { nodes = omega arith; rows = omega arith; covers = omega arith }

further_given : (limits : Limits) (name : List ℕ) (words : List (List ℕ)) → AreLimits limits
    → IsOfWords (further_plan_command_of limits name words)
unfolding further_plan_command_of
further_given limits name words fit =
    by_test (bytes_eq name (codes "replay")) _ _ (replay_given limits words)
    (by_test (bytes_eq name (codes "import")) _ _ (import_given limits words)
    (by_test (bytes_eq name (codes "capture")) _ _ (capture_given limits words)
    (by_test (bytes_eq name (codes "conform")) _ _ (conform_given limits words)
    (by_test (bytes_eq name (codes "connect")) _ _ (connect_given limits words)
    (by_test (bytes_eq name (codes "send-on")) _ None (send_on_given limits words fit) tt)))))

plan_given : (limits : Limits) (name : List ℕ) (words : List (List ℕ)) → AreLimits limits → IsOfWords (plan_command_of limits name words)
unfolding plan_command_of
plan_given limits name words fit =
    by_test (bytes_eq name (codes "verify")) _ _ (verify_given limits words)
    (by_test (bytes_eq name (codes "covers")) _ _ (covers_given limits words)
    (by_test (bytes_eq name (codes "unused")) _ _ (unused_given limits words)
    (by_test (bytes_eq name (codes "margin")) _ _ (margin_given limits words)
    (by_test (bytes_eq name (codes "change")) _ _ (change_given limits words)
    (by_test (bytes_eq name (codes "order")) _ _ (order_given limits words)
    (by_test (bytes_eq name (codes "route")) _ _ (route_given limits words) (further_given limits name words fit)))))))

command_given : (name : List ℕ) (words : List (List ℕ)) → IsOfWords (command_of name words)
unfolding command_of
command_given name words =
    by_test (bytes_eq name (codes "show-hex")) _ _ (show_hex_given words)
    (by_test (bytes_eq name (codes "show")) _ _ (show_given words)
    (by_test (bytes_eq name (codes "load")) _ _ (load_given words)
    (by_test (bytes_eq name (codes "cuts")) _ _ (cuts_given words) (plan_given standard name words standard_fits))))

wide_given : (words : List (List ℕ)) → IsOfWords (wide_of words)
wide_given [] = tt
wide_given (name ∷ words) = plan_given wide name words wide_fits

-- the task of any words
pub of_words : (words : List (List ℕ)) → IsOfWords (task_of words)
of_words [] = tt
of_words (name ∷ words) = by_test (bytes_eq name (codes "wide")) (wide_of words) (command_of name words) (wide_given words)
    (command_given name words)
