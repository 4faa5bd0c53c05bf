-- What is read from a text is a plan.
use Rattle.std.specs.Prelude.{◌≡◌, ◌≢◌, ◌<◌, ◌≤◌, ℕ, zero, suc, ℤ, pos, negsuc, ◌+◌, ◌==◌, ◌&&◌, nat_le, Bool, true, false, cond, codes}
use Rattle.std.specs.Prelude.{List, [], ◌∷◌, length, take, Option, Some, None, Result, Ok, Err, IfSome, refl, option_map, option_and_then}
use Rattle.std.specs.List.{All, AllByRecursion, AllPairs, list_any, position}
use Rattle.std.specs.Option.{ok_or, option_or, option_to_list}
use Rattle.std.specs.Result.{result_ok}
use Rattle.std.proofs.Common.{sym, ◌∙◌, ap, subst, arith, get_or, zero-add, length-take-le}
use Rattle.std.proofs.lemmas.Bool.{and_parts, eq-eqb, false≢true, leb-true}
use Rattle.std.proofs.lemmas.List.{get_or-take}
use Rattle.std.proofs.lemmas.List.Elements.{All-cons, All-head, All-nil, All-tail}
use Rattle.std.proofs.lemmas.Option.{option_and_then_some}
use Rattle.plan_model.proofs.Sound.{AreLimits, faultless_plan}
use Rattle.plan_model.specs.Faults.{HasFewDigits, HasNumbers, first_bad_cover, first_in_nodes, first_limit, first_repeated_node}
use Rattle.plan_model.specs.Faults.{first_unknown_cover, is_unknown, no_cover, plan_fault_within, relays_to}
use Rattle.plan_model.specs.Network.{Network, IsNode, IsPlan, IsSubsystem, NamesSubsystems, network_within, rows_in_all}
use Rattle.plan_model.specs.declared.cover.Cover.{Cover}
use Rattle.plan_model.specs.declared.key.Key.TheVariants.{Name, Point, Subsystems, Concerned, Node as NodeKey, Selector, Ssn, Prefix, Least}
use Rattle.plan_model.specs.declared.key.Key.TheVariants.{Most, First, Backup, Targets}
use Rattle.plan_model.specs.declared.limits.Limits.{Limits}
use Rattle.plan_model.specs.declared.node.Node.{Node}
use Rattle.plan_model.specs.declared.place.Place.{Place}
use Rattle.plan_model.specs.declared.place.Place.TheVariants.{Node as AtNode, Row as AtRow, Cover as AtCover}
use Rattle.plan_model.specs.declared.plan_fault.PlanFault.{PlanFault}
use Rattle.plan_model.specs.declared.plan_fault.PlanFault.TheVariants.{WrongShape, BadValue, Repeated, UnknownNode, RelayToSelf}
use Rattle.plan_model.specs.declared.plan_fault.PlanFault.TheVariants.{Limit, BadCover}
use Rattle.plan_rules.proofs.FirstOf.{first_of-None, map-None, option_or-None}
use Rattle.plan_rules.proofs.NewKinds.{kinds_from_even}
use Rattle.plan_rules.proofs.Repeats.{same_titles-own}
use Rattle.plan_rules.specs.FirstOf.{first_of}
use Rattle.plan_rules.specs.Rule.{Rule, rule}
use Rattle.plan_rules.specs.Tables.{AreDistinct, IsRule, IsTable, first_repeat, makes_odd, repeat_at, rule_fault, same_titles}
use Rattle.plan_rules.specs.Tables.{strips_too_long}
use Rattle.plan_rules.specs.Tables.{tabled}
use Rattle.plan_rules.specs.Target.{IsTarget, ssn_of}
use Rattle.plan_rules.specs.declared.rule_fault.RuleFault.{RuleFault}
use Rattle.plan_rules.specs.declared.rule_fault.RuleFault.TheVariants.{Twice, StripTooLong, KindTwo}
use Rattle.plan_rules.specs.declared.target.Target.{Target}
use Rattle.plan_rules.specs.declared.target.Target.TheVariants.{Relay, Final}
use Rattle.plan_text.specs.Covers.{allowed_at, cover_of, covers_of, node_place, number_at}
use Rattle.plan_text.specs.Counts.{too_many}
use Rattle.plan_text.specs.Document.{elements_at, has_key, integer_if_there, text_at, text_if_there}
use Rattle.plan_text.specs.Drafts.{Drafted, IsDraft, concerned_of, draft_of, drafted, drafts_of, point_at, repeats, subsystem_at}
use Rattle.plan_text.specs.Drafts.{subsystem_of}
use Rattle.plan_text.specs.Drafts.{subsystems_of, unlike}
use Rattle.plan_text.specs.Drafts as drafting
use Rattle.plan_text.specs.EachOk.{each_ok}
use Rattle.plan_text.specs.PlanText.{document_of, finished, limited, plan_within, planned, resolved, shaped, valued, version_of}
use Rattle.plan_text.specs.Rows.{backup_of_row, first_of_row, listed_target, listed_targets, row_by, row_of, rows_of, two_targets}
use Rattle.plan_text.specs.Rows.{with_targets}
use Rattle.plan_text.specs.Shape.{shape_fault}
use Rattle.plan_text.specs.Tabled.{node_of, nodes_of, with_table}
use Rattle.plan_text.specs.Targets.{final_of, optional, point_of, relay_of, selector_given, strip_at, subsystem_given, target_of}
use Rattle.plan_text.specs.Tests.{first_repeated_draft, first_to_self, first_unknown}
use Rattle.plan_text.specs.Words.{digits_up_to, within}
use Rattle.plan_text.specs.declared.version.Version.{Version}
use Rattle.sccp_base.proofs.AllOk.{bind_ok}
use Rattle.sccp_base.proofs.Among.{Among-get_or, list_any-none, position-None}
use Rattle.sccp_base.specs.Answers.{◌>>=◌, unless}
use Rattle.sccp_base.specs.DigitText.{digits_of}
use Rattle.sccp_base.specs.Names.{name_of}
use Rattle.sccp_base.specs.Selector.{Numbers, IsSelector}
use Rattle.sccp_base.specs.Text.{point_code_of, selector_of}
use Rattle.sccp_tool.proofs.TitleWords.{are_digits, is_ok, is_selector, let_through}
use Rattle.toml.specs.Data.{Data, Members, as_integer, get, table}

-- ---- steps that did not fail

abbrev some : {A : Type 0} → A → Option A
some x = Some x

some_is : {A : Type 0} (x y : A) → some x ≡ some y → x ≡ y
some_is x y e = cc

abbrev ok : {A E : Type 0} → A → Result A E
ok x = Ok x

ok_is : {A E : Type 0} (x y : A) → ok {E = E} x ≡ ok y → x ≡ y
ok_is x y e = cc

unless_ok : {A E : Type 0} (o : Option E) (r : Result A E) (x : A) → unless o r ≡ Ok x → (o ≡ None) × (r ≡ Ok x)
unless_ok (Some fault) r x e = absurd cc
unless_ok None r x e = (refl, e)

got : {A E : Type 0} (o : Option A) (fault : E) (x : A) → ok_or o fault ≡ Ok x → o ≡ Some x
got {E = E} (Some y) fault x e = ap Some (ok_is {E = E} y x e)
got None fault x e = absurd cc

-- ---- each of several

each_is : {A B E : Type 0} (read : ℕ → A → Result B E) (Q : A → Type 0) (P : B → Type 0)
    → ((i : ℕ) (a : A) (b : B) → Q a → read i a ≡ Ok b → P b) → (i : ℕ) (xs : List A) (ys : List B) → All Q xs
    → each_ok read i xs ≡ Ok ys → All P ys
each_is {E = E} read Q P one i [] ys all e = subst (All P) (ok_is {E = E} [] ys e) (All-nil P)
each_is {E = E} read Q P one i (x ∷ xs) ys all e =
    let h = bind_ok (read i x) (λ y. each_ok read (i + 1) xs >>= λ others. Ok (y ∷ others)) ys e in
    let t = bind_ok (each_ok read (i + 1) xs) (λ others. Ok (h.0 ∷ others)) ys h.2 in
    subst (All P) (ok_is {E = E} (h.0 ∷ t.0) ys t.2)
    (All-cons P h.0 t.0 (one i x h.0 (All-head Q x xs all) h.1) (each_is read Q P one (i + 1) xs t.0 (All-tail Q x xs all) t.1))

abbrev IsAny : {A : Type 0} → A → Type 0
IsAny x = Unit {0}

each : {A B E : Type 0} (read : ℕ → A → Result B E) (P : B → Type 0) → ((i : ℕ) (a : A) (b : B) → read i a ≡ Ok b → P b)
    → (i : ℕ) (xs : List A) (ys : List B) → each_ok read i xs ≡ Ok ys → All P ys
each read P one i xs ys e = each_is read IsAny P (λ i a b any h. one i a b h) i xs ys (λ k d lt. tt) e

each_length : {A B E : Type 0} (read : ℕ → A → Result B E) (i : ℕ) (xs : List A) (ys : List B) → each_ok read i xs ≡ Ok ys
    → length ys ≡ length xs
each_length {E = E} read i [] ys e = ap length (sym (ok_is {E = E} [] ys e))
each_length {E = E} read i (x ∷ xs) ys e =
    let h = bind_ok (read i x) (λ y. each_ok read (i + 1) xs >>= λ others. Ok (y ∷ others)) ys e in
    let t = bind_ok (each_ok read (i + 1) xs) (λ others. Ok (h.0 ∷ others)) ys h.2 in
    ap length (sym (ok_is {E = E} (h.0 ∷ t.0) ys t.2)) ∙ ap suc (each_length read (i + 1) xs t.0 t.1)

-- ---- values

to_all : {A : Type 0} (P : A → Type 0) (xs : List A) → AllByRecursion P xs → All P xs
to_all P [] h = All-nil P
to_all P (x ∷ xs) h = All-cons P x xs h.0 (to_all P xs h.1)

within_is : (least most : ℕ) (z : ℤ) (n : ℕ) → within least most z ≡ Some n → (least ≤ n) × (n ≤ most)
unfolding within
within_is least most (pos m) n e =
    let p = let_through (nat_le least m && nat_le m most) m n e in
    let q = and_parts (nat_le least m) (nat_le m most) p.0 in
    subst (λ k. (least ≤ k) × (k ≤ most)) p.1 (leb-true least m q.0, leb-true m most q.1)
within_is least most (negsuc m) n e = absurd cc

digits_are : (most : ℕ) (text digits : List ℕ) → digits_up_to most text ≡ Some digits
    → (length digits ≤ most) × All (λ d. d < 16) digits
unfolding digits_up_to
digits_are most text digits e = option_and_then_some (λ ds. cond (nat_le (length ds) most) (Some ds) None)
    (result_ok (digits_of text)) digits e
    (λ ds is f.
    let p = let_through (nat_le (length ds) most) ds digits f in
    let d = are_digits text ds (is_ok (digits_of text) ds is) in
    subst (λ (x : List ℕ). (length x ≤ most) × All (λ d. d < 16) x) p.1 (leb-true (length ds) most p.0, to_all (λ d. d < 16) ds d.1))

optional_is : {A B : Type 0} (read : A → Option B) (P : B → Type 0) → ((a : A) (b : B) → read a ≡ Some b → P b) → (o : Option A)
    (v : Option B) → optional read o ≡ Some v → IfSome v P
optional_is read P one None v e = subst (λ w. IfSome w P) (some_is None v e) tt
optional_is {B = B} read P one (Some a) v e = by (read a) refl e where
  by : (o : Option B) → read a ≡ o → option_map some o ≡ Some v → IfSome v P
  by (Some b) is f = subst (λ w. IfSome w P) (some_is (Some b) v f) (one a b is)
  by None is f = absurd cc

is_subsystem : (d : Data) (v : Option ℕ) → subsystem_given d ≡ Some v → IfSome v IsSubsystem
unfolding subsystem_given
is_subsystem d v e = optional_is (within 2 255) IsSubsystem (λ z n f. within_is 2 255 z n f) (integer_if_there (codes "ssn") d) v e

is_given : (d : Data) (v : Option Numbers) → selector_given d ≡ Some v → IfSome v IsSelector
unfolding selector_given
is_given d v e = optional_is selector_of IsSelector is_selector (text_if_there (codes "selector") d) v e

-- ---- targets and rows

record IsSound (t : Target) : Type 0 where
  pub target : IsTarget t
  pub ssn : IfSome (ssn_of t) IsSubsystem

is_relay : (nodes : List Data) (d : Data) (t : Target) → relay_of nodes d ≡ Some t → IsSound t
unfolding relay_of
is_relay nodes d t e = option_and_then_some by_name (name_of (text_at (codes "relay") d)) t e
    (λ name named f. option_and_then_some (by_strip name) (strip_at d) t f
    (λ strip stripped g. option_and_then_some (by_put name strip) (digits_up_to 15 (text_at (codes "put") d)) t g
    (λ put puts h. option_and_then_some (by_selector name strip put) (selector_given d) t h
    (λ s selects i. option_and_then_some (by_ssn name strip put s) (subsystem_given d) t i
    (λ ssn numbers j.
    let digits = digits_are 15 (text_at (codes "put") d) put puts in
    subst IsSound (some_is (Relay (point_of nodes name) strip put s ssn) t j) (record {
      target = record { put = digits.0; halves = digits.1; selector = is_given d s selects };
      ssn = is_subsystem d ssn numbers;
    }))))))
  where
    by_ssn : List ℕ → ℕ → List ℕ → Option Numbers → Option ℕ → Option Target
    by_ssn name strip put s ssn = Some (Relay (point_of nodes name) strip put s ssn)

    by_selector : List ℕ → ℕ → List ℕ → Option Numbers → Option Target
    by_selector name strip put s = option_and_then (by_ssn name strip put s) (subsystem_given d)

    by_put : List ℕ → ℕ → List ℕ → Option Target
    by_put name strip put = option_and_then (by_selector name strip put) (selector_given d)

    by_strip : List ℕ → ℕ → Option Target
    by_strip name strip = option_and_then (by_put name strip) (digits_up_to 15 (text_at (codes "put") d))

    by_name : List ℕ → Option Target
    by_name name = option_and_then (by_strip name) (strip_at d)

is_final : (d : Data) (t : Target) → final_of d ≡ Some t → IsSound t
unfolding final_of
is_final d t e = option_and_then_some (λ pc. option_and_then (λ ssn. some (Final pc ssn)) (subsystem_given d))
    (point_code_of (text_at (codes "final") d)) t e
    (λ pc at f. option_and_then_some (λ ssn. some (Final pc ssn)) (subsystem_given d) t f
    (λ ssn numbers g. subst IsSound (some_is (Final pc ssn) t g) (record {
      target = record { put = omega arith; halves = All-nil (λ d. d < 16); selector = tt };
      ssn = is_subsystem d ssn numbers;
    })))

is_target : (nodes : List Data) (d : Data) (t : Target) → target_of nodes d ≡ Some t → IsSound t
unfolding target_of
is_target nodes d t e = by (has_key (codes "relay") d) e where
  by : (relays : Bool) → cond relays (relay_of nodes d) (final_of d) ≡ Some t → IsSound t
  by true f = is_relay nodes d t f
  by false f = is_final d t f

-- one to eight sound targets
record AreTargets (ts : List Target) : Type 0 where
  pub some : 1 ≤ length ts
  pub few : length ts ≤ 8
  pub each : All IsSound ts

are_two : (nodes : List Data) (i j : ℕ) (d : Data) (ts : List Target) → two_targets nodes i j d ≡ Ok ts → AreTargets ts
unfolding two_targets first_of_row backup_of_row
are_two nodes i j d ts e =
    let f = bind_ok (ok_or (option_and_then (target_of nodes) (get (codes "first") d)) (BadValue (AtRow i j First)))
    (λ first. ok_or (optional (target_of nodes) (get (codes "backup") d)) (BadValue (AtRow i j Backup))
    >>= λ backup. Ok (first ∷ option_to_list backup)) ts e in
    let b = bind_ok (ok_or (optional (target_of nodes) (get (codes "backup") d)) (BadValue (AtRow i j Backup)))
    (λ backup. Ok (f.0 ∷ option_to_list backup)) ts f.2 in
    let first : IsSound f.0 = option_and_then_some (target_of nodes) (get (codes "first") d) f.0
    (got (option_and_then (target_of nodes) (get (codes "first") d)) (BadValue (AtRow i j First)) f.0 f.1)
    (λ x there is. is_target nodes x f.0 is) in
    let backup : IfSome b.0 IsSound = optional_is (target_of nodes) IsSound (is_target nodes) (get (codes "backup") d) b.0
    (got (optional (target_of nodes) (get (codes "backup") d)) (BadValue (AtRow i j Backup)) b.0 b.1) in
    subst AreTargets (ok_is {E = PlanFault} (f.0 ∷ option_to_list b.0) ts b.2) (both f.0 b.0 first backup)
  where
    both : (t : Target) (o : Option Target) → IsSound t → IfSome o IsSound → AreTargets (t ∷ option_to_list o)
    both t None is also = record { some = omega arith; few = omega arith; each = All-cons IsSound t [] is (All-nil IsSound) }
    both t (Some u) is also = record {
      some = omega arith;
      few = omega arith;
      each = All-cons IsSound t (u ∷ []) is (All-cons IsSound u [] also (All-nil IsSound));
    }

are_listed : (nodes : List Data) (place : Place) (elements : List Data) (ts : List Target) → listed_targets nodes place elements ≡ Ok ts
    → AreTargets ts
unfolding listed_targets
are_listed nodes place elements ts e = by (nat_le 1 (length elements)) (nat_le (length elements) 8) refl refl e where
  listed : 1 ≤ length elements → length elements ≤ 8 → each_ok (listed_target nodes place) 0 elements ≡ Ok ts → AreTargets ts
  listed one eight f =
      let same = each_length (listed_target nodes place) 0 elements ts f in
      record {
        some = omega (arith, same, one);
        few = omega (arith, same, eight);
        each = each (listed_target nodes place) IsSound (λ k d t g. is_target nodes d t (got (target_of nodes d) (BadValue place) t g)) 0
            elements ts f;
      }

  by : (one eight : Bool) → nat_le 1 (length elements) ≡ one → nat_le (length elements) 8 ≡ eight
      → cond (one && eight) (each_ok (listed_target nodes place) 0 elements) (Err (BadValue place)) ≡ Ok ts → AreTargets ts
  by true true p q f = listed (leb-true 1 (length elements) p) (leb-true (length elements) 8 q) f
  by true false p q f = absurd cc
  by false eight p q f = absurd cc

record IsSoundRow (r : Rule) : Type 0 where
  pub rule : IsRule r
  pub names : NamesSubsystems r

row_with : (d : Data) (selector : Numbers) (ssn : Option ℕ) (prefix : List ℕ) (targets : Result (List Target) PlanFault) (r : Rule)
    → IsSelector selector → IfSome ssn IsSubsystem → length prefix ≤ 15
    → ((ts : List Target) → targets ≡ Ok ts → AreTargets ts) → with_targets selector ssn prefix targets ≡ Ok r → IsSoundRow r
row_with d selector ssn prefix targets r selects numbers short read e =
    let t = bind_ok targets (λ ts. Ok (rule selector ssn prefix ts)) r e in
    let are = read t.0 t.1 in
    subst IsSoundRow (ok_is {E = PlanFault} (rule selector ssn prefix t.0) r t.2) (record {
      rule = record {
        selector = selects;
        short = record { some = are.some; few = are.few; prefix = short; puts = λ k d lt. (are.each k d lt).target.put };
        targets = λ k d lt. (are.each k d lt).target;
      };
      names = record { own = numbers; targets = λ k d lt. (are.each k d lt).ssn };
    })

is_row : (nodes : List Data) (i j : ℕ) (d : Data) (r : Rule) → row_of nodes i j d ≡ Ok r → IsSoundRow r
unfolding row_of
is_row nodes i j d r e =
    let s = bind_ok (ok_or (selector_of (text_at (codes "selector") d)) (BadValue (AtRow i j Selector))) by_selector r e in
    let p = bind_ok (ok_or (digits_up_to 15 (text_at (codes "prefix") d)) (BadValue (AtRow i j Prefix))) (by_prefix s.0) r s.2 in
    let n = bind_ok (ok_or (subsystem_given d) (BadValue (AtRow i j Ssn))) (λ ssn. row_by nodes i j d s.0 ssn p.0) r p.2 in
    let selects : IsSelector s.0 = is_selector (text_at (codes "selector") d) s.0
    (got (selector_of (text_at (codes "selector") d)) (BadValue (AtRow i j Selector)) s.0 s.1) in
    let short = (digits_are 15 (text_at (codes "prefix") d) p.0
    (got (digits_up_to 15 (text_at (codes "prefix") d)) (BadValue (AtRow i j Prefix)) p.0 p.1)).0 in
    let numbers : IfSome n.0 IsSubsystem = is_subsystem d n.0 (got (subsystem_given d) (BadValue (AtRow i j Ssn)) n.0 n.1) in
    by s.0 n.0 p.0 selects numbers short (has_key (codes "targets") d) n.2
  where
    by_prefix : Numbers → List ℕ → Result Rule PlanFault
    by_prefix selector prefix =
        ok_or (subsystem_given d) (BadValue (AtRow i j Ssn)) >>= λ ssn. row_by nodes i j d selector ssn prefix

    by_selector : Numbers → Result Rule PlanFault
    by_selector selector =
        ok_or (digits_up_to 15 (text_at (codes "prefix") d)) (BadValue (AtRow i j Prefix)) >>= λ prefix. by_prefix selector prefix

    by : (selector : Numbers) (ssn : Option ℕ) (prefix : List ℕ) → IsSelector selector → IfSome ssn IsSubsystem → length prefix ≤ 15
        → (listed : Bool) → cond listed
        (with_targets selector ssn prefix (listed_targets nodes (AtRow i j Targets) (elements_at (codes "targets") d)))
        (with_targets selector ssn prefix (two_targets nodes i j d)) ≡ Ok r → IsSoundRow r
    by selector ssn prefix selects numbers short true f =
        row_with d selector ssn prefix (listed_targets nodes (AtRow i j Targets) (elements_at (codes "targets") d)) r selects numbers short
        (are_listed nodes (AtRow i j Targets) (elements_at (codes "targets") d)) f
    by selector ssn prefix selects numbers short false f =
        row_with d selector ssn prefix (two_targets nodes i j d) r selects numbers short (are_two nodes i j d) f

-- ---- nodes

unlike_are : (numbers : List ℕ) → repeats numbers ≡ false → AllPairs (λ a b. a ≢ b) numbers
unfolding repeats
unlike_are numbers none i j d lt inside same =
    let here : drafting.repeat_at numbers j (get_or numbers j d) ≡ None =
    rw zero-add at (first_of-None (drafting.repeat_at numbers) 0 numbers
    (is_none (first_of (drafting.repeat_at numbers) 0 numbers) none) j d inside)
    in
    let nowhere : list_any (λ earlier. earlier == get_or numbers j d) (take j numbers) ≡ false =
    not_there (list_any (λ earlier. earlier == get_or numbers j d) (take j numbers)) here in
    let shorter : length (take j numbers) ≡ j = length-take-le j numbers (omega (arith, inside)) in
    let is : get_or (take j numbers) i d ≡ get_or numbers i d = get_or-take j numbers i d lt in
    false≢true (sym (list_any-none (λ earlier. earlier == get_or numbers j d) (get_or (take j numbers) i d) (take j numbers) nowhere
    (Among-get_or (take j numbers) i d (omega (arith, shorter, lt))))
    ∙ eq-eqb (get_or (take j numbers) i d) (get_or numbers j d) (is ∙ same))
  where
    is_none : (o : Option ℕ) → Rattle.std.specs.Prelude.is_some o ≡ false → o ≡ None
    is_none None e = refl
    is_none (Some n) e = absurd cc

    not_there : (b : Bool) → cond b (some j) None ≡ None → b ≡ false
    not_there true e = absurd cc
    not_there false e = refl

unlike_is : (place : Place) (read : Result (List ℕ) PlanFault) (numbers : List ℕ) → (read >>= unlike place) ≡ Ok numbers
    → (read ≡ Ok numbers) × AllPairs (λ a b. a ≢ b) numbers
unlike_is place read numbers e =
    let r = bind_ok read (unlike place) numbers e in
    by r.0 r.1 (repeats r.0) refl r.2
  where
    by : (ns : List ℕ) → read ≡ Ok ns → (again : Bool) → repeats ns ≡ again → cond again (Err (BadValue place)) (Ok ns) ≡ Ok numbers
        → (read ≡ Ok numbers) × AllPairs (λ a b. a ≢ b) numbers
    by ns is true p f = absurd cc
    by ns is false p f =
        let same : ns ≡ numbers = ok_is {E = PlanFault} ns numbers f in
        (is ∙ ap Ok same, subst (AllPairs (λ a b. a ≢ b)) same (unlike_are ns p))

subsystems_are : (place : Place) (elements : List Data) (numbers : List ℕ) → subsystems_of place elements ≡ Ok numbers
    → All IsSubsystem numbers × AllPairs (λ a b. a ≢ b) numbers
unfolding subsystems_of subsystem_of
subsystems_are place elements numbers e =
    let u = unlike_is place (each_ok (subsystem_at place) 0 elements) numbers e in (
      each (subsystem_at place) IsSubsystem (λ k d n f. option_and_then_some (within 2 255) (as_integer d) n
          (got (option_and_then (within 2 255) (as_integer d)) (BadValue place) n f)
          (λ z there is. within_is 2 255 z n is)) 0 elements numbers u.0,
      u.1,
    )

concerned_are : (place : Place) (elements : List Data) (numbers : List ℕ) → concerned_of place elements ≡ Ok numbers
    → AllPairs (λ a b. a ≢ b) numbers
unfolding concerned_of
concerned_are place elements numbers e = (unlike_is place (each_ok (point_at place) 0 elements) numbers e).1

record IsSoundDraft (d : Drafted) : Type 0 where
  pub draft : IsDraft d
  pub rules : All IsRule d.rows

is_draft : (nodes : List Data) (i : ℕ) (d : Data) (x : Drafted) → draft_of nodes i d ≡ Ok x → IsSoundDraft x
unfolding draft_of
is_draft nodes i d x e =
    let n = bind_ok (ok_or (name_of (text_at (codes "name") d)) (BadValue (AtNode i Name))) by_name x e in
    let p = bind_ok (ok_or (point_code_of (text_at (codes "point") d)) (BadValue (AtNode i Point))) (by_point n.0) x n.2 in
    let s = bind_ok (subsystems_of (AtNode i Subsystems) (elements_at (codes "subsystems") d)) (by_subsystems n.0 p.0) x p.2 in
    let c = bind_ok (concerned_of (AtNode i Concerned) (elements_at (codes "concerned") d)) (by_concerned n.0 p.0 s.0) x s.2 in
    let r = bind_ok (rows_of nodes i (elements_at (codes "row") d)) (λ rows. Ok (drafted n.0 p.0 s.0 c.0 rows)) x c.2 in
    let subsystems = subsystems_are (AtNode i Subsystems) (elements_at (codes "subsystems") d) s.0 s.1 in
    let concerned = concerned_are (AtNode i Concerned) (elements_at (codes "concerned") d) c.0 c.1 in
    let rows : All IsSoundRow r.0 = each (row_of nodes i) IsSoundRow (is_row nodes i) 0 (elements_at (codes "row") d) r.0 r.1 in
    subst IsSoundDraft (ok_is {E = PlanFault} (drafted n.0 p.0 s.0 c.0 r.0) x r.2) (record {
      draft = record {
        subsystems = subsystems.0;
        each_subsystem = subsystems.1;
        each_concerned = concerned;
        named = λ k d lt. (rows k d lt).names;
      };
      rules = λ k d lt. (rows k d lt).rule;
    })
  where
    by_concerned : List ℕ → ℕ → List ℕ → List ℕ → Result Drafted PlanFault
    by_concerned name pc subsystems concerned =
        rows_of nodes i (elements_at (codes "row") d) >>= λ rows. Ok (drafted name pc subsystems concerned rows)

    by_subsystems : List ℕ → ℕ → List ℕ → Result Drafted PlanFault
    by_subsystems name pc subsystems =
        concerned_of (AtNode i Concerned) (elements_at (codes "concerned") d) >>= by_concerned name pc subsystems

    by_point : List ℕ → ℕ → Result Drafted PlanFault
    by_point name pc = subsystems_of (AtNode i Subsystems) (elements_at (codes "subsystems") d) >>= by_subsystems name pc

    by_name : List ℕ → Result Drafted PlanFault
    by_name name = ok_or (point_code_of (text_at (codes "point") d)) (BadValue (AtNode i Point)) >>= by_point name

are_distinct : (rows : List Rule) → first_repeat rows ≡ None → AreDistinct rows
are_distinct rows none i j d lt inside same =
    let r : Rule = get_or rows j d in
    let here : repeat_at rows j r ≡ None = rw zero-add at (first_of-None (repeat_at rows) 0 rows none j d inside) in
    let nowhere : position (λ earlier. same_titles earlier r) (take j rows) ≡ None =
    map-None (λ k. (k, j)) (position (λ earlier. same_titles earlier r) (take j rows)) here in
    let shorter : length (take j rows) ≡ j = length-take-le j rows (omega (arith, inside)) in
    let is : get_or (take j rows) i d ≡ get_or rows i d = get_or-take j rows i d lt in
    false≢true (sym (position-None (λ earlier. same_titles earlier r) (get_or (take j rows) i d) (take j rows) nowhere
    (Among-get_or (take j rows) i d (omega (arith, shorter, lt))))
    ∙ ap (λ earlier. same_titles earlier r) is ∙ same_titles-own (get_or rows i d) r same)

table_of : (rows : List Rule) → rule_fault rows ≡ None → All IsRule rows → IsTable rows
table_of rows none rules =
    let a = option_or-None (option_map (λ p. Twice p.0 p.1) (first_repeat rows))
    (option_or (option_map StripTooLong (position strips_too_long rows)) (option_map KindTwo (position makes_odd rows))) none in
    let b = option_or-None (option_map StripTooLong (position strips_too_long rows)) (option_map KindTwo (position makes_odd rows)) a.1 in
    let even : position makes_odd rows ≡ None = map-None KindTwo (position makes_odd rows) b.1 in
    record {
      distinct = are_distinct rows (map-None (λ p. Twice p.0 p.1) (first_repeat rows) a.0);
      strips = map-None StripTooLong (position strips_too_long rows) b.0;
      even = even;
      rules = rules;
      kinds = kinds_from_even rows even;
    }

tabled_is : (rows t : List Rule) → tabled rows ≡ Ok t → (rule_fault rows ≡ None) × (rows ≡ t)
tabled_is rows t e = by (rule_fault rows) refl where
  by : (o : Option RuleFault) → rule_fault rows ≡ o → (rule_fault rows ≡ None) × (rows ≡ t)
  by None is =
      let all : tabled rows ≡ Ok rows = rw is refl in
      (is, ok_is {E = RuleFault} rows t (sym all ∙ e))
  by (Some fault) is =
      let none : tabled rows ≡ Err fault = rw is refl in
      absurd (let both : Err fault ≡ Ok t = sym none ∙ e in cc)

record IsSoundNode (n : Node) : Type 0 where
  pub node : IsNode n
  pub table : IsTable n.table

is_node : (i : ℕ) (d : Drafted) (n : Node) → IsSoundDraft d → node_of i d ≡ Ok n → IsSoundNode n
unfolding node_of
is_node i d n sound e = by (tabled d.rows) refl e where
  by : (r : Result (List Rule) RuleFault) → tabled d.rows ≡ r → with_table i d r ≡ Ok n → IsSoundNode n
  by (Ok rows) is f =
      let t = tabled_is d.rows rows is in
      subst IsSoundNode (ok_is {E = PlanFault}
      (record { name = d.name; pc = d.pc; subsystems = d.subsystems; concerned = d.concerned; table = rows }) n f)
      (record {
        node = record {
          subsystems = sound.draft.subsystems;
          each_subsystem = sound.draft.each_subsystem;
          each_concerned = sound.draft.each_concerned;
          named = subst (All NamesSubsystems) t.1 sound.draft.named;
        };
        table = subst IsTable t.1 (table_of d.rows t.0 sound.rules);
      })
  by (Err fault) is f = absurd cc

-- ---- covers

record IsSoundCover (c : Cover) : Type 0 where
  pub numbers : HasNumbers c
  pub digits : HasFewDigits c

number_is : (most : ℕ) (key : List ℕ) (d : Data) (n : ℕ) → number_at most key d ≡ Some n → n ≤ most
unfolding number_at
number_is most key d n e = option_and_then_some (within 0 most) (integer_if_there key d) n e (λ z there f. (within_is 0 most z n f).1)

is_cover : (nodes : List Data) (i : ℕ) (d : Data) (c : Cover) → cover_of nodes i d ≡ Ok c → IsSoundCover c
unfolding cover_of
is_cover nodes i d c e =
    let n = bind_ok (ok_or (name_of (text_at (codes "node") d)) (BadValue (AtCover i NodeKey))) by_node c e in
    let s = bind_ok (ok_or (selector_of (text_at (codes "selector") d)) (BadValue (AtCover i Selector))) (by_selector n.0) c n.2 in
    let k = bind_ok (ok_or (number_at 255 (codes "ssn") d) (BadValue (AtCover i Ssn))) (by_ssn n.0 s.0) c s.2 in
    let p = bind_ok (ok_or (digits_up_to 32 (text_at (codes "prefix") d)) (BadValue (AtCover i Prefix))) (by_prefix n.0 s.0 k.0) c k.2 in
    let l = bind_ok (ok_or (number_at 32 (codes "least") d) (BadValue (AtCover i Least))) (by_least n.0 s.0 k.0 p.0) c p.2 in
    let m = bind_ok (ok_or (number_at 32 (codes "most") d) (BadValue (AtCover i Most))) (by_most n.0 s.0 k.0 p.0 l.0) c l.2 in
    let a = bind_ok (each_ok (allowed_at i) 0 (elements_at (codes "allowed") d))
    (λ allowed. Ok (made n.0 s.0 k.0 p.0 l.0 m.0 allowed)) c m.2 in
    let selects : IsSelector s.0 = is_selector (text_at (codes "selector") d) s.0
    (got (selector_of (text_at (codes "selector") d)) (BadValue (AtCover i Selector)) s.0 s.1) in
    let ssn = number_is 255 (codes "ssn") d k.0 (got (number_at 255 (codes "ssn") d) (BadValue (AtCover i Ssn)) k.0 k.1) in
    let least = number_is 32 (codes "least") d l.0 (got (number_at 32 (codes "least") d) (BadValue (AtCover i Least)) l.0 l.1) in
    let most = number_is 32 (codes "most") d m.0 (got (number_at 32 (codes "most") d) (BadValue (AtCover i Most)) m.0 m.1) in
    subst IsSoundCover (ok_is {E = PlanFault} (made n.0 s.0 k.0 p.0 l.0 m.0 a.0) c a.2) (record {
      numbers = record { selector = selects; ssn = omega (arith, ssn) };
      digits = record { least = least; most = most };
    })
  where
    made : List ℕ → Numbers → ℕ → List ℕ → ℕ → ℕ → List (ℕ × ℕ) → Cover
    made node selector ssn prefix least most allowed = record {
      node = node_place nodes node;
      selector = selector;
      ssn = ssn;
      prefix = prefix;
      least = least;
      most = most;
      allowed = allowed;
    }

    by_most : List ℕ → Numbers → ℕ → List ℕ → ℕ → ℕ → Result Cover PlanFault
    by_most node selector ssn prefix least most =
        each_ok (allowed_at i) 0 (elements_at (codes "allowed") d) >>= λ allowed. Ok (made node selector ssn prefix least most allowed)

    by_least : List ℕ → Numbers → ℕ → List ℕ → ℕ → Result Cover PlanFault
    by_least node selector ssn prefix least =
        ok_or (number_at 32 (codes "most") d) (BadValue (AtCover i Most)) >>= by_most node selector ssn prefix least

    by_prefix : List ℕ → Numbers → ℕ → List ℕ → Result Cover PlanFault
    by_prefix node selector ssn prefix =
        ok_or (number_at 32 (codes "least") d) (BadValue (AtCover i Least)) >>= by_least node selector ssn prefix

    by_ssn : List ℕ → Numbers → ℕ → Result Cover PlanFault
    by_ssn node selector ssn =
        ok_or (digits_up_to 32 (text_at (codes "prefix") d)) (BadValue (AtCover i Prefix)) >>= by_prefix node selector ssn

    by_selector : List ℕ → Numbers → Result Cover PlanFault
    by_selector node selector = ok_or (number_at 255 (codes "ssn") d) (BadValue (AtCover i Ssn)) >>= by_ssn node selector

    by_node : List ℕ → Result Cover PlanFault
    by_node node = ok_or (selector_of (text_at (codes "selector") d)) (BadValue (AtCover i Selector)) >>= by_selector node

-- ---- the whole text

some_cover : (covers : List Cover) → no_cover covers ≡ None → 0 < length covers
some_cover [] e = absurd cc
some_cover (cover ∷ covers) e = omega arith

is_finished : (limits : Limits) (nodes : List Node) (covers : List Cover) (plan : Network) → AreLimits limits → All IsSoundNode nodes
    → All IsSoundCover covers → finished limits nodes covers ≡ Ok plan → IsPlan plan
unfolding finished
is_finished limits nodes covers plan fit sound also e =
    let f = unless_ok (plan_fault_within limits nodes covers) (Ok (network_within limits nodes covers)) plan e in
    let unknown : Option Place = option_or (first_in_nodes (λ node. is_unknown nodes) nodes) (first_unknown_cover (length nodes) covers) in
    let a = option_or-None (option_map Limit (first_limit limits (length nodes) (rows_in_all nodes) (length covers))) _ f.0 in
    let b = option_or-None (option_map Repeated (first_repeated_node nodes)) _ a.1 in
    let c = option_or-None (option_map UnknownNode unknown) _ b.1 in
    let d = option_or-None (option_map RelayToSelf (first_in_nodes (λ node. relays_to node.pc) nodes)) _ c.1 in
    let g = option_or-None (no_cover covers) (option_map BadCover (first_bad_cover covers)) d.1 in
    subst IsPlan (ok_is {E = PlanFault} (network_within limits nodes covers) plan f.1)
    (faultless_plan limits nodes covers fit
    (map-None Limit (first_limit limits (length nodes) (rows_in_all nodes) (length covers)) a.0)
    (map-None Repeated (first_repeated_node nodes) b.0) (map-None UnknownNode unknown c.0)
    (map-None RelayToSelf (first_in_nodes (λ node. relays_to node.pc) nodes) d.0)
    (some_cover covers g.0) (map-None BadCover (first_bad_cover covers) g.1)
    (λ k d lt. (sound k d lt).node) (λ k d lt. (also k d lt).digits) (λ k d lt. (sound k d lt).table) (λ k d lt. (also k d lt).numbers))

is_resolved : (limits : Limits) (version : Version) (nodes covers : List Data) (drafts : List Drafted) (read : List Cover) (plan : Network)
    → AreLimits limits → All IsSoundDraft drafts → All IsSoundCover read → resolved limits version nodes covers drafts read ≡ Ok plan
    → IsPlan plan
unfolding resolved
is_resolved limits version nodes covers drafts read plan fit sound also e =
    let a = unless_ok (option_map Repeated (first_repeated_draft drafts)) _ plan e in
    let b = unless_ok (option_map UnknownNode (first_unknown nodes covers)) _ plan a.1 in
    let c = unless_ok (option_map RelayToSelf (first_to_self version drafts))
    (nodes_of drafts >>= λ built. finished limits built read) plan b.1 in
    let d = bind_ok (nodes_of drafts) (λ built. finished limits built read) plan c.1 in
    is_finished limits d.0 read plan fit (each_is node_of IsSoundDraft IsSoundNode is_node 0 drafts d.0 sound d.1) also d.2

is_valued : (limits : Limits) (document : Data) (nodes covers : List Data) (plan : Network) → AreLimits limits
    → valued limits document nodes covers ≡ Ok plan → IsPlan plan
unfolding valued
is_valued limits document nodes covers plan fit e =
    let v = bind_ok (version_of document) by_version plan e in
    let d = bind_ok (drafts_of nodes) (by_drafts v.0) plan v.2 in
    let c = bind_ok (covers_of nodes covers) (λ read. resolved limits v.0 nodes covers d.0 read) plan d.2 in
    is_resolved limits v.0 nodes covers d.0 c.0 plan fit (each (draft_of nodes) IsSoundDraft (is_draft nodes) 0 nodes d.0 d.1)
    (each (cover_of nodes) IsSoundCover (is_cover nodes) 0 covers c.0 c.1) c.2
  where
    by_drafts : Version → List Drafted → Result Network PlanFault
    by_drafts version drafts = covers_of nodes covers >>= λ read. resolved limits version nodes covers drafts read

    by_version : Version → Result Network PlanFault
    by_version version = drafts_of nodes >>= by_drafts version

is_shaped : (limits : Limits) (members : Members) (plan : Network) → AreLimits limits → shaped limits members ≡ Ok plan → IsPlan plan
unfolding shaped limited
is_shaped limits members plan fit e =
    let nodes : List Data = elements_at (codes "node") (table members) in
    let covers : List Data = elements_at (codes "cover") (table members) in
    let a = unless_ok (option_map WrongShape (shape_fault members)) (limited limits (table members) nodes covers) plan e in
    let b = unless_ok (option_map Limit (too_many limits nodes covers)) (valued limits (table members) nodes covers) plan a.1 in
    is_valued limits (table members) nodes covers plan fit b.1

-- what is read from a text under limits of these sizes is a plan
pub is_plan : (limits : Limits) (text : List ℕ) (plan : Network) → AreLimits limits → plan_within limits text ≡ Ok plan → IsPlan plan
unfolding plan_within
is_plan limits text plan fit e = by (document_of text) e where
  by : (o : Option Members) → planned limits o ≡ Ok plan → IsPlan plan
  by (Some members) f = is_shaped limits members plan fit f
  by None f = absurd cc
