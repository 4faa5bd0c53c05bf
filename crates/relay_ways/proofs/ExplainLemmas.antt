-- Of the ways of octets, those that send a message like a given one have the conditions under which the node does.
use Rattle.std.proofs.Common.{◌≡◌, ℕ, ◌+◌, ◌<◌, zero, suc, Bool, true, false, List, [], ◌∷◌, ◌++◌, length, take, map, Option, Some, None}
use Rattle.std.proofs.Common.{refl, sym, ◌∙◌, ap, subst, get_or, ◌⊎◌, inl, inr, ⊎_elim, ◌↔◌, ◌||◌, arith}
use Rattle.std.specs.Prelude.{◌≤◌, IsTrue, IsSome, IsSomeAnd, Result, Ok, Err}
use Rattle.std.specs.List.{All, AllByRecursion, list_any}
use Rattle.std.proofs.Math.Seq.{take-suc}
use Rattle.std.proofs.lemmas.List.{map-append, take_more}
use Rattle.std.proofs.lemmas.List.Elements.{All-append, All-from_recursion, All-map, All-nil, recursion_from_All}
use Rattle.sccp_base.specs.declared.mark.Mark.{Mark}
use Rattle.sccp_base.proofs.Among.{Among, All-among}
use Rattle.sccp_message.specs.declared.message.Message.{Message}
use Rattle.sccp_message.specs.declared.fault.DecodeFault.{DecodeFault}
use Rattle.sccp_message.specs.Reading.{reading}
use Rattle.plan_model.specs.Network.{Network}
use Rattle.relay_ways.specs.Alike.{IsAlike}
use Rattle.relay_ways.specs.Conditions.{meets, IsPossible}
use Rattle.relay_ways.specs.Explained.{IsSendingOf, SendsLike, AreConditions, AreThose, AreShortest, Keeps, Tells, IsHandled, AddsTold}
use Rattle.relay_ways.specs.Sends.{sends}
use Rattle.relay_ways.specs.Settled.{settled}
use Rattle.relay_ways.specs.Ways.{AreWays, ways}
use Rattle.relay_ways.specs.declared.way.Sending.{Sending}
use Rattle.relay_ways.specs.Handling.{Handles, HasCondition}
use Rattle.relay_ways.specs.declared.condition.Condition.{Condition}
use Rattle.relay_ways.specs.declared.explanation.Explanation.{Explanation}
use Rattle.relay_ways.specs.declared.way.Way.{Way}
use Rattle.relay_ways.proofs.Adding.{one_more}
use Rattle.relay_ways.proofs.SameMet.{settled_met}

same_value : (m n : Message) (r : Result Message DecodeFault) → r ≡ Ok m → r ≡ Ok n → m ≡ n
same_value m n r e f = cc

no_value : (m : Message) (fault : DecodeFault) (r : Result Message DecodeFault) → r ≡ Ok m → r ≡ Err fault → ⊥
no_value m fault r e f = cc

-- what is sent is read in one way only
pub sending_of : (to : ℕ) (sent m : Message) (s : Sending) (r : Bool) → s.to ≡ to → reading s.octets ≡ Ok m → IsTrue r ↔ IsAlike to m sent
    → IsTrue r ↔ IsSendingOf to sent s
sending_of to sent m s r there reads alike = (
  λ t. (there, (m, reads, alike.0 t)),
  λ is.
      alike.1 (subst (λ (x : Message). IsAlike to x sent) (same_value is.1.0 m (reading s.octets) is.1.1 reads) is.1.2),
)

pub sending_none : (to : ℕ) (sent : Message) (s : Sending) (fault : DecodeFault) → reading s.octets ≡ Err fault
    → IsTrue false ↔ IsSendingOf to sent s
sending_none to sent s fault reads = (λ t. absurd cc, λ is. absurd (no_value is.1.0 fault (reading s.octets) is.1.1 reads))

take_past : (xs : List Way) (i : ℕ) → length xs ≤ i → take i xs ≡ xs
take_past [] zero e = refl
take_past [] (suc i) e = refl
take_past (x ∷ xs) zero e = absurd (omega (arith, e))
take_past (x ∷ xs) (suc i) e = ap (λ ys. x ∷ ys) (take_past xs i (omega (arith, e)))

-- the first of the ways is one of those, or it is not
abbrev IsOne : ℕ → Message → Way → List Way → List Way → Type 0
IsOne to sent w ws those = (others : List Way) × IsSendingOf to sent w.sending × (those ≡ w ∷ others) × AreThose to sent ws others

abbrev IsNone : ℕ → Message → Way → List Way → List Way → Type 0
IsNone to sent w ws those = (IsSendingOf to sent w.sending → ⊥) × AreThose to sent ws those

-- each of those is one of the ways, and sends such a message
those_each : (to : ℕ) (sent : Message) (found those : List Way) → AreThose to sent found those → (w : Way) → Among w those
    → Among w found × IsSendingOf to sent w.sending
those_each to sent [] those are w at = absurd (subst (λ (xs : List Way). Among w xs) are at)
those_each to sent (v ∷ vs) those are w at =
    ⊎_elim
    (λ (h : IsOne to sent v vs those).
    ⊎_elim (λ (e : v ≡ w). (inl e, subst (λ (x : Way). IsSendingOf to sent x.sending) e h.1))
    (λ (r : Among w h.0). let k = those_each to sent vs h.0 h.3 w r in (inr k.0, k.1))
    (subst (λ (xs : List Way). Among w xs) h.2 at))
    (λ (h : IsNone to sent v vs those). let k = those_each to sent vs those h.1 w at in (inr k.0, k.1))
    are

-- each of the ways that does is one of those
those_all : (to : ℕ) (sent : Message) (found those : List Way) → AreThose to sent found those → (w : Way) → Among w found
    → IsSendingOf to sent w.sending → Among w those
those_all to sent [] those are w at is = absurd at
those_all to sent (v ∷ vs) those are w at is =
    ⊎_elim
    (λ (h : IsOne to sent v vs those).
    subst (λ (xs : List Way). Among w xs) (sym h.2)
    (⊎_elim (λ (e : v ≡ w). inl e) (λ (r : Among w vs). inr (those_all to sent vs h.0 h.3 w r is)) at))
    (λ (h : IsNone to sent v vs those).
    ⊎_elim (λ (e : v ≡ w). absurd (h.0 (subst (λ (x : Way). IsSendingOf to sent x.sending) (sym e) is)))
    (λ (r : Among w vs). those_all to sent vs those h.1 w r is) at)
    are

-- one more way at the end
those_last : (to : ℕ) (sent : Message) (found those new : List Way) (w : Way) → AreThose to sent found those → Keeps to sent those w new
    → AreThose to sent (found ++ w ∷ []) new
those_last to sent [] those new w are keeps =
    ⊎_elim
    (λ (k : IsSendingOf to sent w.sending × (new ≡ those ++ w ∷ [])). inl ([], k.0, k.1 ∙ ap (λ xs. xs ++ w ∷ []) are, refl))
    (λ (k : (IsSendingOf to sent w.sending → ⊥) × (new ≡ those)). inr (k.0, k.1 ∙ are))
    keeps
those_last to sent (v ∷ vs) those new w are keeps =
    ⊎_elim
    (λ (h : IsOne to sent v vs those).
    ⊎_elim
    (λ (k : IsSendingOf to sent w.sending × (new ≡ those ++ w ∷ [])).
    inl (h.0 ++ w ∷ [], h.1, k.1 ∙ ap (λ xs. xs ++ w ∷ []) h.2, those_last to sent vs h.0 (h.0 ++ w ∷ []) w h.3 (inl (k.0, refl))))
    (λ (k : (IsSendingOf to sent w.sending → ⊥) × (new ≡ those)).
    inl (h.0, h.1, k.1 ∙ h.2, those_last to sent vs h.0 h.0 w h.3 (inr (k.0, refl))))
    keeps)
    (λ (h : IsNone to sent v vs those). inr (h.0, those_last to sent vs those new w h.1 keeps))
    are

pub those_more : (to : ℕ) (sent : Message) (found those new : List Way) (i : ℕ) (w : Way) → i < length found → w ≡ get_or found i w
    → AreThose to sent (take i found) those → Keeps to sent those w new → AreThose to sent (take (i + 1) found) new
those_more to sent found those new i w inside is are keeps =
    subst (λ (xs : List Way). AreThose to sent xs new)
    (sym (ap (λ n. take n found) (one_more i) ∙ take-suc found i w inside ∙ ap (λ v. take i found ++ v ∷ []) (sym is)))
    (those_last to sent (take i found) those new w are keeps)

-- after the last way
pub those_whole : (to : ℕ) (sent : Message) (found items those : List Way) (i : ℕ) → length items ≤ i → items ≡ found
    → AreThose to sent (take i items) those → AreThose to sent found those
those_whole to sent found items those i all same are =
    subst (λ (xs : List Way). AreThose to sent xs those) (take_past items i all ∙ same) are

-- there is one list of those
those_one : (to : ℕ) (sent : Message) (found xs ys : List Way) → AreThose to sent found xs → AreThose to sent found ys → xs ≡ ys
those_one to sent [] xs ys a b = a ∙ sym b
those_one to sent (v ∷ vs) xs ys a b =
    ⊎_elim
    (λ (h : IsOne to sent v vs xs).
    ⊎_elim (λ (k : IsOne to sent v vs ys). h.2 ∙ ap (λ zs. v ∷ zs) (those_one to sent vs h.0 k.0 h.3 k.3) ∙ sym k.2)
    (λ (k : IsNone to sent v vs ys). absurd (k.0 h.1)) b)
    (λ (h : IsNone to sent v vs xs).
    ⊎_elim (λ (k : IsOne to sent v vs ys). absurd (h.0 k.1))
    (λ (k : IsNone to sent v vs ys). those_one to sent vs xs ys h.1 k.1) b)
    a

pub shortest_one : (to : ℕ) (sent : Message) (found : List Way) (a b : List Condition) → AreShortest to sent found a
    → AreShortest to sent found b → a ≡ b
shortest_one to sent found a b x y =
    x.shortest ∙ ap (map (λ w. settled w.condition)) (those_one to sent found x.those y.those x.are y.are) ∙ sym y.shortest

any_among : (M : List Mark) (found : List Way) → list_any (λ w. meets M w.condition) found ≡ true
    → (w : Way) × Among w found × (meets M w.condition ≡ true)
any_among M [] e = absurd cc
any_among M (w ∷ ws) e = by (meets M w.condition) refl e (λ h. any_among M ws h) where
  by : (b : Bool) → meets M w.condition ≡ b → (b || list_any (λ w. meets M w.condition) ws) ≡ true
      → (list_any (λ w. meets M w.condition) ws ≡ true → (v : Way) × Among v ws × (meets M v.condition ≡ true))
      → (v : Way) × Among v (w ∷ ws) × (meets M v.condition ≡ true)
  by true f h rest = (w, inl refl, f)
  by false f h rest = let r = rest h in (r.0, inr r.1, r.2)

any_mapped : (M : List Mark) (found : List Way)
    → list_any (meets M) (map (λ w. w.condition) found) ≡ list_any (λ w. meets M w.condition) found
any_mapped M [] = refl
any_mapped M (w ∷ ws) = ap (λ b. meets M w.condition || b) (any_mapped M ws)

any_from : (M : List Mark) (w : Way) (found : List Way) → Among w found → meets M w.condition ≡ true
    → list_any (λ w. meets M w.condition) found ≡ true
any_from M w [] at e = absurd at
any_from M w (v ∷ vs) at e =
    ⊎_elim (λ (f : v ≡ w). rw (subst (λ (x : Way). meets M x.condition ≡ true) (sym f) e) refl)
    (λ (rest : Among w vs). later (meets M v.condition) (list_any (λ w. meets M w.condition) vs) (any_from M w vs rest e)) at
  where
    later : (a b : Bool) → b ≡ true → (a || b) ≡ true
    later true b f = refl
    later false b f = f

each_among : {X : Type 0} (P : X → Type 0) (xs : List X) → ((x : X) → Among x xs → P x) → AllByRecursion P xs
each_among P [] f = tt
each_among P (x ∷ xs) f = (f x (inl refl), each_among P xs (λ y at. f y (inr at)))

-- what is sent under a marking
sends_like : (plan : Network) (node origin : ℕ) (b : List ℕ) (to : ℕ) (sent : Message) (found kept : List Way) (M : List Mark)
    → AreWays plan node origin b found → AreThose to sent found kept
    → list_any (meets M) (map (λ w. w.condition) kept) ≡ true → SendsLike plan node origin b to sent M
sends_like plan node origin b to sent found kept M are keep any =
    let w = any_among M kept (sym (any_mapped M kept) ∙ any) in
    let k = those_each to sent found kept keep w.0 w.1 in
    let says : sends plan node M origin b ≡ Some w.0.sending =
    All-among (λ (v : Way). meets M v.condition ≡ true → sends plan node M origin b ≡ Some v.sending) w.0 found (are.each M) k.0 w.2 in
    subst (λ (o : Option Sending). IsSomeAnd o (IsSendingOf to sent)) (sym says) k.1

like_met : (plan : Network) (node origin : ℕ) (b : List ℕ) (to : ℕ) (sent : Message) (found kept : List Way) (M : List Mark)
    → AreWays plan node origin b found → AreThose to sent found kept
    → SendsLike plan node origin b to sent M → list_any (meets M) (map (λ w. w.condition) kept) ≡ true
like_met plan node origin b to sent found kept M are keep like = by (sends plan node M origin b) refl like where
  by : (o : Option Sending) → sends plan node M origin b ≡ o → IsSomeAnd o (IsSendingOf to sent)
      → list_any (meets M) (map (λ w. w.condition) kept) ≡ true
  by None e is = absurd is
  by (Some s) e is =
      let w = any_among M found (are.all M (subst (λ (o : Option Sending). IsSome o) (sym e) refl)) in
      let says : sends plan node M origin b ≡ Some w.0.sending =
      All-among (λ (v : Way). meets M v.condition ≡ true → sends plan node M origin b ≡ Some v.sending) w.0 found (are.each M) w.1 w.2 in
      let same : s ≡ w.0.sending = let f : Some s ≡ Some w.0.sending = sym e ∙ says in cc in
      any_mapped M kept
      ∙ any_from M w.0 kept (those_all to sent found kept keep w.0 w.1 (subst (λ (x : Sending). IsSendingOf to sent x) same is)) w.2

pub conditions_are : (plan : Network) (node origin : ℕ) (b : List ℕ) (to : ℕ) (sent : Message) (found kept : List Way)
    → AreWays plan node origin b found → All (λ w. IsPossible w.condition) found → AreThose to sent found kept
    → AreConditions plan node origin b to sent (map (λ w. w.condition) kept)
conditions_are plan node origin b to sent found kept are possible keep = record {
  exact = λ M. (sends_like plan node origin b to sent found kept M are keep, like_met plan node origin b to sent found kept M are keep);
  possible = All-map IsPossible (λ (w : Way). w.condition) kept
      (All-from_recursion (λ (w : Way). IsPossible w.condition) kept
      (each_among (λ (w : Way). IsPossible w.condition) kept
      (λ w at. All-among (λ (v : Way). IsPossible v.condition) w found possible (those_each to sent found kept keep w at).0)));
}

-- each of those that are kept has the condition of one of the ways

has_among : (w : Way) (found : List Way) → Among w found → HasCondition w.condition found
has_among w [] at = absurd at
has_among w (v ∷ vs) at =
    ⊎_elim (λ (e : v ≡ w). inl (ap (λ (x : Way). x.condition) e)) (λ (r : Among w vs). inr (has_among w vs r)) at

pub those_among : (to : ℕ) (sent : Message) (found those : List Way) → AreThose to sent found those
    → All (λ w. HasCondition w.condition found) those
those_among to sent found those are =
    All-from_recursion (λ (w : Way). HasCondition w.condition found) those
    (each_among (λ (w : Way). HasCondition w.condition found) those
    (λ w at. has_among w found (those_each to sent found those are w at).0))

-- the shortest forms of conditions are met by the same markings

settled_any : (M : List Mark) (those : List Way)
    → list_any (meets M) (map (λ w. settled w.condition) those) ≡ list_any (meets M) (map (λ w. w.condition) those)
settled_any M [] = refl
settled_any M (w ∷ ws) =
    ap (λ b. b || list_any (meets M) (map (λ w. settled w.condition) ws)) (settled_met M w.condition)
    ∙ ap (λ b. meets M w.condition || b) (settled_any M ws)

settled_possible : (those : List Way) → AllByRecursion IsPossible (map (λ w. w.condition) those)
    → AllByRecursion IsPossible (map (λ w. settled w.condition) those)
settled_possible [] can = tt
settled_possible (w ∷ ws) can = ((can.0.0, can.0.1, settled_met can.0.0 w.condition ∙ can.0.2), settled_possible ws can.1)

pub settled_conditions : (plan : Network) (node origin : ℕ) (b : List ℕ) (to : ℕ) (sent : Message) (those : List Way) (cs : List Condition)
    → AreConditions plan node origin b to sent (map (λ w. w.condition) those) → cs ≡ map (λ w. settled w.condition) those
    → AreConditions plan node origin b to sent cs
settled_conditions plan node origin b to sent those cs are shortest =
    subst (λ (xs : List Condition). AreConditions plan node origin b to sent xs) (sym shortest)
    (record {
      exact = λ M. (λ h. (are.exact M).0 (sym (settled_any M those) ∙ h), λ like. settled_any M those ∙ (are.exact M).1 like);
      possible = All-from_recursion IsPossible (map (λ w. settled w.condition) those)
          (settled_possible those (recursion_from_All IsPossible (map (λ w. w.condition) those) are.possible));
    })

-- What is given of ways, one after the other.
pub record AreTold (plan : Network) (node origin : ℕ) (b : List ℕ) (those : List Way) (found : List Explanation) : Type 0 where
  pub shortest : map (λ x. x.condition) found ≡ map (λ w. settled w.condition) those
  pub handled : All (IsHandled plan node origin b) found

pub nothing_told : (plan : Network) (node origin : ℕ) (b : List ℕ) → AreTold plan node origin b [] []
nothing_told plan node origin b = record { shortest = refl; handled = All-nil (IsHandled plan node origin b) }

told_one : (plan : Network) (node origin : ℕ) (b : List ℕ) (those : List Way) (found : List Explanation) (w : Way) (x : Explanation)
    → HasCondition w.condition (ways plan node origin b) → Tells plan node origin b w x
    → AreTold plan node origin b those found → AreTold plan node origin b (those ++ w ∷ []) (found ++ x ∷ [])
told_one plan node origin b those found w x has tells are = record {
  shortest =
      map-append (λ (y : Explanation). y.condition) found (x ∷ [])
      ∙ ap (λ cs. cs ++ x.condition ∷ []) are.shortest
      ∙ ap (λ c. map (λ (v : Way). settled v.condition) those ++ c ∷ []) tells.shortest
      ∙ sym (map-append (λ (v : Way). settled v.condition) those (w ∷ []));
  handled = All-append (IsHandled plan node origin b) found (x ∷ []) are.handled
      (All-from_recursion (IsHandled plan node origin b) (x ∷ []) (tells.handled has, tt));
}

pub told_more : (plan : Network) (node origin : ℕ) (b : List ℕ) (those : List Way) (found new : List Explanation) (i : ℕ) (w : Way)
    → i < length those → w ≡ get_or those i w → All (λ w. HasCondition w.condition (ways plan node origin b)) those
    → AddsTold plan node origin b w found new → AreTold plan node origin b (take i those) found
    → AreTold plan node origin b (take (i + 1) those) new
told_more plan node origin b those found new i w inside is has adds are =
    let x : Explanation = adds.explanation in
    subst (λ (ys : List Explanation). AreTold plan node origin b (take (i + 1) those) ys) (sym adds.added)
    (subst (λ (ws : List Way). AreTold plan node origin b ws (found ++ x ∷ []))
    (sym (take_more those i w inside ∙ ap (λ (v : Way). take i those ++ v ∷ []) (sym is)))
    (told_one plan node origin b (take i those) found w x
    (subst (λ (v : Way). HasCondition v.condition (ways plan node origin b)) (sym is) (has i w inside)) adds.tells are))

pub told_all : (plan : Network) (node origin : ℕ) (b : List ℕ) (those items : List Way) (found : List Explanation) (i : ℕ)
    → length items ≤ i
    → items ≡ those → AreTold plan node origin b (take i items) found → AreTold plan node origin b those found
told_all plan node origin b those items found i past same told =
    subst (λ (ws : List Way). AreTold plan node origin b ws found) (take_past items i past ∙ same) told

pub tells_way : (plan : Network) (node origin : ℕ) (b : List ℕ) (w : Way) (x : Explanation) → x.condition ≡ settled w.condition
    → (HasCondition w.condition (ways plan node origin b) → (M : List Mark) → meets M w.condition ≡ true
    → Handles plan node M origin b x.handling) → Tells plan node origin b w x
tells_way plan node origin b w x shortest handles = record {
  shortest = shortest;
  handled = λ has M met. handles has M (sym (ap (meets M) shortest ∙ settled_met M w.condition) ∙ met);
}
