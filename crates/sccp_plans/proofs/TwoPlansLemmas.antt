-- What a command on two plans ends with.
use Rattle.std.proofs.Common.{◌≡◌, ◌⊎◌, ℕ, List, Option, Some, Bool, true, false, Result, IfOk, refl, sym, ◌∙◌, subst, inl, inr}
use Rattle.std.specs.Prelude.{if◌then◌else◌}
use Rattle.std.specs.Io.KnownBytes.{append_known}
use Rattle.std.proofs.lemmas.Bool.{false≢true}
use Rattle.plan_model.proofs.SameNodes.{same_nodes_told}
use Rattle.plan_model.specs.Network.{Network}
use Rattle.plan_model.specs.SameNodes.{SameNodes, same_nodes}
use Rattle.sccp_io.specs.Files.{Contents}
use Rattle.sccp_plans.specs.Texts.{other_nodes}
use Rattle.sccp_plans.specs.TwoPlans.{old_word, new_word, with_both, asked_of_both, IsGiven, TellsBoth, BothTell, HavePlans}
use Rattle.sccp_plans.specs.TwoPlans.{BothCause, BothSure}
use Rattle.sccp_work.specs.AcceptedPlan.{with_accepted, IsSurelySafe, TellsPlan}
use Rattle.sccp_work.specs.Ending.{IsCut, Works}
use Rattle.sccp_work.specs.Limit.{IsThere, HasLongFile}
use Rattle.sccp_work.specs.Moment.{Moment}
use Rattle.sccp_work.specs.PlanFile.{PlanFile}
use Rattle.sccp_work.specs.Plans.{HasPlan, HasBadPlan}
use Rattle.sccp_work.specs.Questions.{Question, Reply, IsTrueOf}
use Rattle.sccp_work.specs.Verdict.{IsSafe, IsBad, IsWide, IsOnVerdict}
use Rattle.sccp_work.specs.Work.{Work, ask, answered, Ends, HasFiles}
use Rattle.sccp_work.specs.Writing.{Writes}
use Rattle.sccp_work.specs.declared.status.Status.{Status}
use Rattle.sccp_work.specs.declared.status.Status.TheVariants.{Done, Refused, Usage, BadPlan, TooWide, TooLong, OtherNodes}
use Rattle.sccp_work.specs.declared.stop.Stop.{Stop}
use Rattle.sccp_work.proofs.AcceptedPlanLemmas.{VerdictEnds, refused, wide, accepted, FileTells, Ends-with_accepted, file_of, goes_on}
use Rattle.sccp_work.proofs.AcceptedPlanLemmas.{goes_on_or_wide, refused_or_wide, with_accepted_files, on_file, tells_plan}
use Rattle.sccp_work.proofs.AcceptingLemmas.{Ends-answered}
use Rattle.sccp_work.proofs.PlanLemmas.{PlanEnds, long, bad, good, if_long, if_bad, at_plan}
use Rattle.sccp_work.proofs.WorkLemmas.{Works-answered, Works-ask}

-- ---- two plans are asked something

apart : (old new : Network) → (SameNodes old new → ⊥) → same_nodes old new ≡ false
apart old new other = sym (same_nodes_told old new old.nodes new.nodes false refl refl (λ t. absurd (false≢true t), λ e. absurd (other e)))

alike : (old new : Network) → SameNodes old new → same_nodes old new ≡ true
alike old new same = sym (same_nodes_told old new old.nodes new.nodes true refl refl (λ t. same, λ e. refl))

module _ (question : Question) (status_of : Reply question → Status) (text_of : Reply question → List ℕ) where
  -- what follows the test of the nodes
  abbrev asked_or_other : Bool → Work
  asked_or_other b = if b then ask question (λ reply. answered (status_of reply, text_of reply)) else answered (OtherNodes, other_nodes)

  -- the answer on two plans is printed
  pub Works-given : (old new : Network) (status : Status) (line text : List ℕ) (result : Result Status Stop) (b a : Moment)
      → ((reply : Reply question) → IsCut (status_of reply) → ⊥)
      → ((reply : Reply question) → IsTrueOf question reply → SameNodes old new)
      → IsGiven question status_of text_of old new status text → line ≡ text
      → Writes line result b.taken a.taken b.write_faults a.write_faults → IfOk result (λ s. s ≡ status) → a.contents ≡ b.contents
      → a.sound ≡ b.sound → a.read_faults ≡ b.read_faults → Works (asked_of_both question status_of text_of old new) result b a
  Works-given old new status line text result b a whole_reply same (inl other) spelt writes is contents sound read_faults =
      let whole = subst (λ t. Writes t result b.taken a.taken b.write_faults a.write_faults) (spelt ∙ other.2) writes in
      let answer = subst (λ t. IfOk result (λ s. s ≡ t)) other.1 is in
      subst (λ v. Works (asked_or_other v) result b a) (sym (apart old new other.0))
      (Works-answered (OtherNodes, other_nodes) result b a (λ cut. cut) whole answer contents sound read_faults)
  Works-given old new status line text result b a whole_reply same (inr told) spelt writes is contents sound read_faults =
      let reply = told.0 in
      let whole = subst (λ t. Writes t result b.taken a.taken b.write_faults a.write_faults) (spelt ∙ told.3) writes in
      let answer = subst (λ t. IfOk result (λ s. s ≡ t)) told.2 is in
      subst (λ v. Works (asked_or_other v) result b a) (sym (alike old new (same reply told.1)))
      (Works-ask question (λ r. answered (status_of r, text_of r)) reply result b a told.1
      (Works-answered (status_of reply, text_of reply) result b a (whole_reply reply) whole answer contents sound read_faults))

  -- the nodes differ, or a true reply gives the answer and its text
  pub Ends-given : (contents : Option Contents) (old new : Network) (s : Status) (text : List ℕ)
      → Ends contents (asked_of_both question status_of text_of old new) s text
      → ((SameNodes old new → ⊥) × (s ≡ OtherNodes) × (text ≡ other_nodes))
      ⊎ ((reply : Reply question) × IsTrueOf question reply × (s ≡ status_of reply) × (text ≡ text_of reply))
  Ends-given contents old new s text h = by (same_nodes old new) refl h
    where
      by : (b : Bool) → same_nodes old new ≡ b → Ends contents (asked_or_other b) s text
          → ((SameNodes old new → ⊥) × (s ≡ OtherNodes) × (text ≡ other_nodes))
          ⊎ ((reply : Reply question) × IsTrueOf question reply × (s ≡ status_of reply) × (text ≡ text_of reply))
      by true e k =
          let t = Ends-answered contents (status_of k.0) (text_of k.0) s text k.2 in inr (k.0, k.1, t.0, t.1)
      by false e k =
          let t = Ends-answered contents OtherNodes other_nodes s text k in
          inl (λ same. false≢true (sym e ∙ alike old new same), t.0, t.1)

  pub given_files : (c : Contents) (old new : Network) → HasFiles c (asked_of_both question status_of text_of old new)
  given_files c old new = by (same_nodes old new)
    where
      by : (b : Bool) → HasFiles c (asked_or_other b)
      by true = λ reply is. tt
      by false = tt

-- ---- how the command ends

-- two safe plans have other nodes, or one of three facts gives the answer
pub data BothEnd (Goes Fails Open : Network → Network → Type 0) (old new : Network) (s : Status) : Type 0 where
  differ : (SameNodes old new → ⊥) → s ≡ OtherNodes → BothEnd Goes Fails Open old new s
  goes : SameNodes old new → Goes old new → s ≡ Done → BothEnd Goes Fails Open old new s
  fails : SameNodes old new → Fails old new → s ≡ Refused → BothEnd Goes Fails Open old new s
  unsure : SameNodes old new → Open old new → s ≡ TooWide → BothEnd Goes Fails Open old new s

module _ (next : Network → Network → Work) (Told : Network → Network → Status → List ℕ → Type 0)
    (ends : (contents : Option Contents) (p q : Network) (s : Status) (text : List ℕ) → Ends contents (next p q) s text → Told p q s text)
    (Goes Fails Open : Network → Network → Type 0)
    (says : (p q : Network) (s : Status) (text : List ℕ) → Told p q s text → BothEnd Goes Fails Open p q s)
  where
    -- after an accepted old plan
    abbrev NewTells : Option Contents → PlanFile → Network → Status → List ℕ → Type 0
    NewTells contents new p s rest = FileTells contents new new_word (λ q. Told p q) rest s

    abbrev Ahead : Option Contents → PlanFile → Network → Status → Type 0
    Ahead contents new p s = PlanEnds contents new (λ q t. VerdictEnds q (BothEnd Goes Fails Open p q) t) s

    abbrev CommandEnds : Option Contents → PlanFile → PlanFile → Status → Type 0
    CommandEnds contents old new s = PlanEnds contents old (λ p t. VerdictEnds p (Ahead contents new p) t) s

    both_told : (contents : Option Contents) (old new : PlanFile) (s : Status) (text : List ℕ)
        → Ends contents (with_both old new next) s text → FileTells contents old old_word (NewTells contents new) text s
    both_told contents old new s text h =
        Ends-with_accepted contents old old_word (λ p. with_accepted new_word new (λ q. next p q)) (NewTells contents new) s text
        (λ p rest e. Ends-with_accepted contents new new_word (λ q. next p q) (λ q. Told p q) s rest
        (λ q last k. ends contents p q s last k) e) h

    both_end : (contents : Option Contents) (old new : PlanFile) (s : Status) (text : List ℕ)
        → Ends contents (with_both old new next) s text
        → CommandEnds contents old new s
    both_end contents old new s text h =
        file_of contents old old_word (NewTells contents new) (Ahead contents new) text s
        (λ p rest more. file_of contents new new_word (λ q. Told p q) (BothEnd Goes Fails Open p) rest s
        (λ q last k. says p q s last k) more)
        (both_told contents old new s text h)

    -- ---- what each answer says of the plans

    only_both : (contents : Option Contents) (old new : PlanFile) (p q : Network) (s : Status)
        → ((holds : Network → Network → Type 0) → holds p q → HavePlans contents old new IsSafe holds) → BothEnd Goes Fails Open p q s
        → BothCause Goes Fails Open contents old new s
    only_both contents old new p q s here (differ others is) =
        subst (BothCause Goes Fails Open contents old new) (sym is) (here (λ p q. SameNodes p q → ⊥) others)
    only_both contents old new p q s here (goes same k is) =
        subst (BothCause Goes Fails Open contents old new) (sym is) (here (λ p q. SameNodes p q × Goes p q) (same, k))
    only_both contents old new p q s here (fails same k is) =
        subst (BothCause Goes Fails Open contents old new) (sym is) (inr (here (λ p q. SameNodes p q × Fails p q) (same, k)))
    only_both contents old new p q s here (unsure same k is) =
        subst (BothCause Goes Fails Open contents old new) (sym is) (inr (here (λ p q. SameNodes p q × Open p q) (same, k)))

    only_new : (contents : Option Contents) (old new : PlanFile) (p : Network) (s : Status)
        → ((P : Network → Type 0) → P p → HasPlan contents old P) → IsSafe p → Ahead contents new p s
        → BothCause Goes Fails Open contents old new s
    only_new contents old new p TooLong here safe (long h) = inr (here (λ p. IsSafe p × HasLongFile contents new) (safe, h))
    only_new contents old new p BadPlan here safe (bad h) = inr (here (λ p. IsSafe p × HasBadPlan contents new) (safe, h))
    only_new contents old new p s here safe (good h) = by s h.3.2
      where
        in_new : (P : Network → Type 0) → P h.3.0 → HasPlan contents new P
        in_new P k = (h.0, h.1, h.2, (h.3.0, h.3.1, k))

        by : (t : Status) → VerdictEnds h.3.0 (BothEnd Goes Fails Open p h.3.0) t → BothCause Goes Fails Open contents old new t
        by Refused (refused k) = inl (inr (here (λ p. IsSafe p × HasPlan contents new IsBad) (safe, in_new IsBad k)))
        by TooWide (wide k) = inl (inr (here (λ p. IsSafe p × HasPlan contents new IsWide) (safe, in_new IsWide k)))
        by t (accepted also k) = only_both contents old new p h.3.0 t
            (λ holds e. here (λ p. IsSafe p × HasPlan contents new (λ q. IsSafe q × holds p q))
            (safe, in_new (λ q. IsSafe q × holds p q) (also, e))) k

    only_old : (contents : Option Contents) (old new : PlanFile) (s : Status) → CommandEnds contents old new s
        → BothCause Goes Fails Open contents old new s
    only_old contents old new TooLong (long h) = inl h
    only_old contents old new BadPlan (bad h) = inl h
    only_old contents old new s (good h) = by s h.3.2
      where
        in_old : (P : Network → Type 0) → P h.3.0 → HasPlan contents old P
        in_old P k = (h.0, h.1, h.2, (h.3.0, h.3.1, k))

        by : (t : Status) → VerdictEnds h.3.0 (Ahead contents new h.3.0) t → BothCause Goes Fails Open contents old new t
        by Refused (refused k) = inl (inl (in_old IsBad k))
        by TooWide (wide k) = inl (inl (in_old IsWide k))
        by t (accepted safe k) = only_new contents old new h.3.0 t in_old safe k

    pub both_only : (contents : Option Contents) (old new : PlanFile) (s : Status) (text : List ℕ)
        → Ends contents (with_both old new next) s text → BothCause Goes Fails Open contents old new s
    both_only contents old new s text h = only_old contents old new s (both_end contents old new s text h)

    -- the usage line is no answer
    pub both_usage : (contents : Option Contents) (old new : PlanFile) (text : List ℕ)
        → Ends contents (with_both old new next) Usage text → ⊥
    both_usage contents old new text h = both_only contents old new Usage text h

    -- ---- what each answer follows from

    abbrev OnOld : Contents → PlanFile → Network → Status → Type 0
    OnOld c new p s = VerdictEnds p (Ahead (Some c) new p) s

    abbrev OnNew : Network → Network → Status → Type 0
    OnNew p q s = VerdictEnds q (BothEnd Goes Fails Open p q) s

    other_if : (p q : Network) (s : Status) → (SameNodes p q → ⊥) → BothEnd Goes Fails Open p q s → s ≡ OtherNodes
    other_if p q s others (differ h is) = is
    other_if p q s others (goes same k is) = absurd (others same)
    other_if p q s others (fails same k is) = absurd (others same)
    other_if p q s others (unsure same k is) = absurd (others same)

    -- what two plans that are surely safe end with
    past_both : (c : Contents) (old new : PlanFile) (holds : Network → Network → Type 0) (s : Status)
        → (has : HavePlans (Some c) old new IsSurelySafe holds) → CommandEnds (Some c) old new s
        → (p : Network) × (q : Network) × holds p q × BothEnd Goes Fails Open p q s
    past_both c old new holds s has h =
        let p = has.3.0 in
        let on_old : OnOld c new p s = at_plan c old (OnOld c new) (λ p. IsSurelySafe p
        × HasPlan (Some c) new (λ q. IsSurelySafe q × holds p q)) s h has in
        let ahead : Ahead (Some c) new p s = goes_on p (Ahead (Some c) new p) s has.3.2.0 on_old in
        let further = has.3.2.1 in
        let q = further.3.0 in
        let on_new : OnNew p q s = at_plan c new (OnNew p) (λ q. IsSurelySafe q × holds p q) s ahead further in
        (p, q, further.3.2.1, goes_on q (BothEnd Goes Fails Open p q) s further.3.2.0 on_new)

    -- what follows an old plan that is surely safe
    past_old : (c : Contents) (old new : PlanFile) (P : Network → Type 0) (s : Status)
        → (has : HasPlan (Some c) old (λ p. IsSurelySafe p × P p))
        → CommandEnds (Some c) old new s → (p : Network) × P p × Ahead (Some c) new p s
    past_old c old new P s has h = (
      has.3.0,
      has.3.2.1,
      goes_on has.3.0 (Ahead (Some c) new has.3.0) s has.3.2.0
          (at_plan c old (OnOld c new) (λ p. IsSurelySafe p × P p) s h has),
    )

    -- no two plans have both of these facts
    abbrev Excludes : Type 0
    Excludes = (p q : Network) → Goes p q → Fails p q → ⊥

    done_if : Excludes → (p q : Network) (s : Status) → SameNodes p q → Goes p q → (Open p q → ⊥) → BothEnd Goes Fails Open p q s → s ≡ Done
    done_if not_both p q s same holds closed (differ others is) = absurd (others same)
    done_if not_both p q s same holds closed (goes also k is) = is
    done_if not_both p q s same holds closed (fails also k is) = absurd (not_both p q holds k)
    done_if not_both p q s same holds closed (unsure also k is) = absurd (closed k)

    always : Excludes → (c : Contents) (old new : PlanFile) (t s : Status) → BothSure Goes Open (Some c) old new t
        → CommandEnds (Some c) old new s → s ≡ t
    always not_both c old new Done s has h =
        let m = past_both c old new (λ p q. SameNodes p q × Goes p q × (Open p q → ⊥)) s has h in
        done_if not_both m.0 m.1 s m.2.0 m.2.1 m.2.2 m.3
    always not_both c old new OtherNodes s has h =
        let m = past_both c old new (λ p q. SameNodes p q → ⊥) s has h in
        other_if m.0 m.1 s m.2 m.3
    always not_both c old new BadPlan s (inl has) h = if_bad c old (OnOld c new) s h has
    always not_both c old new BadPlan s (inr has) h =
        let m = past_old c old new (λ p. HasBadPlan (Some c) new) s has h in
        if_bad c new (OnNew m.0) s m.2 m.1
    always not_both c old new TooLong s (inl has) h = if_long c old (OnOld c new) s h has
    always not_both c old new TooLong s (inr has) h =
        let m = past_old c old new (λ p. HasLongFile (Some c) new) s has h in
        if_long c new (OnNew m.0) s m.2 m.1
    always not_both c old new t s has h = absurd has

    pub both_always : Excludes → (c : Contents) (old new : PlanFile) (t s : Status) (text : List ℕ)
        → BothSure Goes Open (Some c) old new t → Ends (Some c) (with_both old new next) s text → s ≡ t
    both_always not_both c old new t s text has h = always not_both c old new t s has (both_end (Some c) old new s text h)

    refused_if : Excludes → (p q : Network) (s : Status) → SameNodes p q → Fails p q → BothEnd Goes Fails Open p q s
        → (s ≡ Refused) ⊎ (s ≡ TooWide)
    refused_if not_both p q s same fact (differ others is) = absurd (others same)
    refused_if not_both p q s same fact (goes also k is) = absurd (not_both p q k fact)
    refused_if not_both p q s same fact (fails also k is) = inl is
    refused_if not_both p q s same fact (unsure also k is) = inr is

    refused_for : Excludes → (c : Contents) (old new : PlanFile) (s : Status) → BothCause Goes Fails Open (Some c) old new Refused
        → CommandEnds (Some c) old new s → (s ≡ Refused) ⊎ (s ≡ TooWide)
    refused_for not_both c old new s (inl (inl has)) h = refused_or_wide has.3.0 (Ahead (Some c) new has.3.0) s has.3.2
        (at_plan c old (OnOld c new) IsBad s h has)
    refused_for not_both c old new s (inl (inr has)) h = by (goes_on_or_wide p (Ahead (Some c) new p) s has.3.2.0
        (at_plan c old (OnOld c new) (λ p. IsSafe p × HasPlan (Some c) new IsBad) s h has))
      where
        p : Network
        p = has.3.0

        by : Ahead (Some c) new p s ⊎ (s ≡ TooWide) → (s ≡ Refused) ⊎ (s ≡ TooWide)
        by (inl ahead) = refused_or_wide has.3.2.1.3.0 (BothEnd Goes Fails Open p has.3.2.1.3.0) s has.3.2.1.3.2
            (at_plan c new (OnNew p) IsBad s ahead has.3.2.1)
        by (inr is) = inr is
    refused_for not_both c old new s (inr has) h = by (goes_on_or_wide p (Ahead (Some c) new p) s has.3.2.0
        (at_plan c old (OnOld c new) (λ p. IsSafe p × HasPlan (Some c) new (λ q. IsSafe q × (SameNodes p q × Fails p q))) s h has))
      where
        p : Network
        p = has.3.0

        further : HasPlan (Some c) new (λ q. IsSafe q × (SameNodes p q × Fails p q))
        further = has.3.2.1

        q : Network
        q = further.3.0

        on : BothEnd Goes Fails Open p q s ⊎ (s ≡ TooWide) → (s ≡ Refused) ⊎ (s ≡ TooWide)
        on (inl m) = refused_if not_both p q s further.3.2.1.0 further.3.2.1.1 m
        on (inr is) = inr is

        by : Ahead (Some c) new p s ⊎ (s ≡ TooWide) → (s ≡ Refused) ⊎ (s ≡ TooWide)
        by (inl ahead) = on (goes_on_or_wide q (BothEnd Goes Fails Open p q) s further.3.2.0
            (at_plan c new (OnNew p) (λ q. IsSafe q × (SameNodes p q × Fails p q)) s ahead further))
        by (inr is) = inr is

    pub both_refused : Excludes → (c : Contents) (old new : PlanFile) (s : Status) (text : List ℕ)
        → BothCause Goes Fails Open (Some c) old new Refused → Ends (Some c) (with_both old new next) s text
        → (s ≡ Refused) ⊎ (s ≡ TooWide)
    both_refused not_both c old new s text cause h = refused_for not_both c old new s cause (both_end (Some c) old new s text h)

    -- ---- the text and the files

    tells : (c : Contents) (old new : PlanFile) (s : Status) (text : List ℕ) → IsOnVerdict s → Ends (Some c) (with_both old new next) s text
        → TellsBoth Told (Some c) old new s text
    tells c old new s text given h =
        let f = on_file (Some c) old (λ p t. TellsPlan old_word p (NewTells (Some c) new p) t text) s given
        (both_told (Some c) old new s text h) in (
          f.0,
          f.1,
          f.2,
          (
            f.3.0,
            f.3.1,
            tells_plan old_word f.3.0 (NewTells (Some c) new f.3.0)
                (λ t rest. HasPlan (Some c) new (λ q. TellsPlan new_word q (Told f.3.0 q) t rest)) s text
                (λ rest more. on_file (Some c) new (λ q t. TellsPlan new_word q (Told f.3.0 q) t rest) s given more) f.3.2,
          ),
        )

    pub both_tell : (c : Contents) (old new : PlanFile) (s : Status) (text : List ℕ) (taken taken' : Option (List ℕ))
        → taken' ≡ append_known taken text → (IsOnVerdict s → Ends (Some c) (with_both old new next) s text)
        → BothTell Told (Some c) old new s taken taken'
    both_tell c old new s text taken taken' is h = λ given. (text, is, tells c old new s text given (h given))

pub both_files : (c : Contents) (old new : PlanFile) (next : Network → Network → Work) → ((p q : Network) → HasFiles c (next p q))
    → IsThere c old.name → IsThere c new.name → HasFiles c (with_both old new next)
both_files c old new next go old_there new_there =
    with_accepted_files c old_word old (λ p. with_accepted new_word new (λ q. next p q))
    (λ p. with_accepted_files c new_word new (λ q. next p q) (go p) new_there) old_there
