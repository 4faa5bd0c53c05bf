-- Whichever judgement on messages is taken, the same of them are unexplained.
use Rattle.std.proofs.Common.{◌≡◌, ℕ, zero, suc, ◌<◌, ◌≤◌, Bool, true, false, cond, ltb, ◌||◌, List, [], ◌∷◌, map, take, Option, Some, None}
use Rattle.std.proofs.Common.{Result, Ok, Err, refl, sym, ◌∙◌, ap, subst, arith}
use Rattle.std.specs.Prelude.{slice_get}
use Rattle.std.specs.List.{All, list_any}
use Rattle.std.specs.Option.{option_and_then}
use Rattle.std.proofs.lemmas.Bool.{ltb-true, ltb-false}
use Rattle.std.proofs.lemmas.List.Elements.{All-head}
use Rattle.sccp_address.specs.declared.address.Address.{Address}
use Rattle.sccp_base.proofs.Among.{All-among, Among-slice_get}
use Rattle.sccp_base.specs.declared.mark.Mark.{Mark}
use Rattle.sccp_message.specs.Reading.{reading}
use Rattle.sccp_message.specs.Unitdata.{called_of}
use Rattle.sccp_message.specs.declared.fault.DecodeFault.{DecodeFault}
use Rattle.sccp_message.specs.declared.message.Message.{Message}
use Rattle.plan_model.specs.Network.{Network}
use Rattle.relay_ways.specs.Alike.{calling_of}
use Rattle.relay_ways.specs.Conditions.{meets, IsPossible}
use Rattle.relay_ways.specs.Explained.{SendsLike}
use Rattle.relay_ways.specs.declared.explanation.Explanation.{Explanation}
use Rattle.relay_watch.specs.Arrivals.{source, is_management, begins, joined, kept}
use Rattle.relay_watch.specs.Differing.{differs}
use Rattle.relay_watch.specs.Judging.{IsFound, IsFoundBy, IsFoundAt, IsJudged, place_of}
use Rattle.relay_watch.specs.Kept.{is_unexplained}
use Rattle.relay_watch.specs.Reasons.{IsNoReason, IsReason, IsFirst, IsSearched, SendsUnder}
use Rattle.relay_watch.specs.Runs.{AreJudged}
use Rattle.relay_watch.specs.Verdicts.{own_ssn, if_own, by_called, by_source, of_sent, without_reason, verdict_of, said_by}
use Rattle.relay_watch.specs.declared.event.Event.{Event}
use Rattle.relay_watch.specs.declared.found.Found.{Found}
use Rattle.relay_watch.specs.declared.line.Line.{Line}
use Rattle.relay_watch.specs.declared.verdict.Verdict.TheVariants.{Management}
use Rattle.relay_watch.specs.declared.waiting.Waiting.{Waiting}
use Rattle.relay_watch.specs.declared.why.Why.{Why}

-- ---- an arrival that is a reason is not none

or_true : (a b : Bool) → a ≡ true → (a || b) ≡ true
or_true true b e = refl
or_true false b e = cc

-- it is sent under some marking
sends_under_some : (plan : Network) (node origin : ℕ) (b : List ℕ) (to : ℕ) (sent : Message) (ways : List Explanation)
    → SendsUnder plan node origin b to sent ways → (marking : List Mark) × SendsLike plan node origin b to sent marking
sends_under_some plan node origin b to sent [] u = absurd (omega (arith, u.some))
sends_under_some plan node origin b to sent (w ∷ ws) u =
    let p = All-head IsPossible w.condition (map (λ x. x.condition) ws) u.conditions.possible in (
      p.0,
      (u.conditions.exact p.0).0
          (or_true (meets p.0 w.condition) (list_any (meets p.0) (map (λ (x : Explanation). x.condition) ws)) p.2),
    )

not_both : (plan : Network) (node to : ℕ) (sent : Message) (w : Waiting) (ways : List Explanation) → IsReason plan node to sent w ways
    → IsNoReason plan node to sent w → ⊥
not_both plan node to sent w ways r none =
    let s = sends_under_some plan node w.origin w.octets to sent ways r.under in
    none r.here s.0 s.1

not_among : (plan : Network) (node to : ℕ) (sent : Message) (xs : List Waiting) (i : ℕ) (w : Waiting) (ways : List Explanation)
    → IsReason plan node to sent w ways → All (IsNoReason plan node to sent) xs → slice_get xs i ≡ Some w → ⊥
not_among plan node to sent xs i w ways r none at =
    not_both plan node to sent w ways r (All-among (IsNoReason plan node to sent) w xs none (Among-slice_get xs i w at))

-- ---- the search finds one place

pub in_front : {X : Type 0} (xs : List X) (i n : ℕ) → i < n → slice_get (take n xs) i ≡ slice_get xs i
in_front xs i zero lt = absurd (omega arith)
in_front [] i (suc n) lt = refl
in_front (x ∷ xs) zero (suc n) lt = refl
in_front (x ∷ xs) (suc i) (suc n) lt = in_front xs i n (omega arith)

-- the place of one is not before that of another
not_before : (plan : Network) (waiting : List Waiting) (node to : ℕ) (sent : Message) (f g : Found) → IsFirst plan waiting node to sent f
    → IsFirst plan waiting node to sent g → f.place < g.place → ⊥
not_before plan waiting node to sent f g a b lt =
    not_among plan node to sent (take g.place waiting) f.place a.arrival f.ways a.reason b.first
    (in_front waiting f.place g.place lt ∙ a.at)

one_place : (plan : Network) (waiting : List Waiting) (node to : ℕ) (sent : Message) (f g : Found) → IsFirst plan waiting node to sent f
    → IsFirst plan waiting node to sent g → f.place ≡ g.place
one_place plan waiting node to sent f g a b = by (ltb f.place g.place) (ltb g.place f.place) refl refl where
  by : (l m : Bool) → ltb f.place g.place ≡ l → ltb g.place f.place ≡ m → f.place ≡ g.place
  by true m d e = absurd (not_before plan waiting node to sent f g a b (ltb-true f.place g.place d))
  by false true d e = absurd (not_before plan waiting node to sent g f b a (ltb-true g.place f.place e))
  by false false d e =
      let p : g.place ≤ f.place = ltb-false f.place g.place d in
      let q : f.place ≤ g.place = ltb-false g.place f.place e in
      omega (arith, p, q)

searched : (plan : Network) (waiting : List Waiting) (node to : ℕ) (sent : Message) (x y : Option Found)
    → IsSearched plan waiting node to sent x → IsSearched plan waiting node to sent y → place_of x ≡ place_of y
searched plan waiting node to sent None None a b = refl
searched plan waiting node to sent None (Some g) a b =
    absurd (not_among plan node to sent waiting g.place b.arrival g.ways b.reason a b.at)
searched plan waiting node to sent (Some f) None a b =
    absurd (not_among plan node to sent waiting f.place a.arrival f.ways a.reason b a.at)
searched plan waiting node to sent (Some f) (Some g) a b = ap Some (one_place plan waiting node to sent f g a b)

none_found : (x y : Option Found) → x ≡ None → y ≡ None → place_of x ≡ place_of y
none_found x y a b = ap place_of (a ∙ sym b)

found : (plan : Network) (waiting : List Waiting) (e : Event) (x y : Option Found) (r : Result Message DecodeFault)
    → IsFound plan waiting e x r → IsFound plan waiting e y r → place_of x ≡ place_of y
found plan waiting e x y (Err fault) a b = none_found x y a b
found plan waiting e x y (Ok m) a b = by_address (called_of m) a b where
  by_node : (node : Option ℕ) → IsFoundAt plan waiting e m x node → IsFoundAt plan waiting e m y node → place_of x ≡ place_of y
  by_node None c d = none_found x y c d
  by_node (Some node) c d = searched plan waiting node e.destination m x y c d

  by_address : (a : Option Address) → IsFoundBy plan waiting e m x a → IsFoundBy plan waiting e m y a → place_of x ≡ place_of y
  by_address None c d = none_found x y c d
  by_address (Some address) c d = by_node (source plan e) c d

-- ---- the verdicts are of one kind

-- whether a message is unexplained depends on whether anything was found
by_own : (o : Option ℕ) (v w : Why) → is_unexplained (if_own o v) ≡ is_unexplained (if_own o w)
by_own None v w = refl
by_own (Some ssn) v w = refl

unexplained_without : (plan : Network) (node : ℕ) (m : Message) (a : Address) (v w : Why)
    → is_unexplained (without_reason plan node m a v) ≡ is_unexplained (without_reason plan node m a w)
unexplained_without plan node m a v w = by (is_management a) where
  own : Option ℕ
  own = option_and_then (own_ssn plan node) (calling_of m)

  by : (b : Bool) → is_unexplained (cond b (Management (said_by m)) (if_own own v))
      ≡ is_unexplained (cond b (Management (said_by m)) (if_own own w))
  by true = refl
  by false = by_own own v w

unexplained_sent : (plan : Network) (node : ℕ) (m : Message) (a : Address) (x y : Option Found) (v w : Why) → place_of x ≡ place_of y
    → is_unexplained (of_sent plan node m a x v) ≡ is_unexplained (of_sent plan node m a y w)
unexplained_sent plan node m a None None v w e = unexplained_without plan node m a v w
unexplained_sent plan node m a None (Some g) v w e = cc
unexplained_sent plan node m a (Some f) None v w e = cc
unexplained_sent plan node m a (Some f) (Some g) v w e = refl

same_kind : (plan : Network) (e : Event) (x y : Option Found) (v w : Why) (r : Result Message DecodeFault) → place_of x ≡ place_of y
    → is_unexplained (verdict_of plan e x v r) ≡ is_unexplained (verdict_of plan e y w r)
same_kind plan e x y v w (Err fault) same = refl
same_kind plan e x y v w (Ok m) same = by_address (called_of m) where
  by_node : (a : Address) (node : Option ℕ) → is_unexplained (by_source plan e m a x v node)
      ≡ is_unexplained (by_source plan e m a y w node)
  by_node a None = refl
  by_node a (Some node) = unexplained_sent plan node m a x y v w same

  by_address : (a : Option Address) → is_unexplained (by_called plan e m x v a) ≡ is_unexplained (by_called plan e m y w a)
  by_address None = refl
  by_address (Some a) = by_node a (source plan e)

-- ---- one message, and all of them

record Agree (line other : Line) (new next : List Waiting) : Type 0 where
  kind : is_unexplained line.verdict ≡ is_unexplained other.verdict
  left : new ≡ next

agree : (plan : Network) (old : List Waiting) (e : Event) (line other : Line) (new next : List Waiting) → IsJudged plan old e line new
    → IsJudged plan old e other next → Agree line other new next
agree plan old e line other new next a b =
    let same : place_of a.found ≡ place_of b.found = found plan old e a.found b.found (reading e.octets) a.search b.search in
    record {
      kind = ap is_unexplained a.verdict_is ∙ same_kind plan e a.found b.found a.why b.why (reading e.octets) same
          ∙ ap is_unexplained (sym b.verdict_is);
      left = a.left ∙ ap (λ p. kept (joined old p (begins plan e (reading e.octets)))) same ∙ sym b.left;
    }

pub same_differ : (plan : Network) (old : List Waiting) (events : List Event) (lines others : List Line) (left rest : List Waiting)
    → AreJudged plan old events lines left → AreJudged plan old events others rest → differs lines ≡ differs others
same_differ plan old [] [] [] left rest a b = refl
same_differ plan old [] [] (other ∷ others) left rest a b = absurd b
same_differ plan old [] (line ∷ lines) others left rest a b = absurd a
same_differ plan old (e ∷ events) [] others left rest a b = absurd a
same_differ plan old (e ∷ events) (line ∷ lines) [] left rest a b = absurd b
same_differ plan old (e ∷ events) (line ∷ lines) (other ∷ others) left rest a b =
    let both : Agree line other a.0 b.0 = agree plan old e line other a.0 b.0 a.1 b.1 in
    let more : differs lines ≡ differs others =
    same_differ plan b.0 events lines others left rest (subst (λ w. AreJudged plan w events lines left) both.left a.2) b.2 in
    ap (λ d. d || differs lines) both.kind ∙ ap (λ d. is_unexplained other.verdict || d) more
