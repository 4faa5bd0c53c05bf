-- The nearest of some arrivals: none passes more tests, and no earlier one as many.
use Rattle.std.proofs.Common.{◌≡◌, ℕ, suc, ◌<◌, ◌≤◌, Bool, true, false, List, [], ◌∷◌, take, map, Option, Some, None, refl, sym, ◌∙◌, ap}
use Rattle.std.proofs.Common.{subst, ◌⊎◌, inl, inr, ⊎_elim, arith}
use Rattle.std.specs.Prelude.{◌==◌, ◌&&◌, nat_eq, nat_lt, if◌then◌else◌, slice_get}
use Rattle.std.specs.Cmp.Lexicographic.{pointwise, nat_list_eq_equiv}
use Rattle.std.specs.List.{All, filter}
use Rattle.std.proofs.lemmas.Bool.{and_parts, eqb-true, eq-eqb, false≢true, ltb-false, ltb-true}
use Rattle.std.proofs.lemmas.List.Elements.{All-nil, All-cons}
use Rattle.sccp_message.specs.declared.message.Message.{Message}
use Rattle.plan_model.specs.Network.{Network}
use Rattle.relay_ways.specs.WhyNot.{rank}
use Rattle.relay_watch.specs.Arrivals.{data_of}
use Rattle.relay_watch.specs.WhyRuns.{Shares, failed, IsNearest}
use Rattle.relay_watch.specs.Whys.{has_data, near_of, nearer, nearest_of, nearest}
use Rattle.relay_watch.specs.declared.near.Near.{Near}
use Rattle.relay_watch.specs.declared.waiting.Waiting.{Waiting}

-- ---- the test for the data

has_shared : (node : ℕ) (sent : Message) (w : Waiting) → Shares node sent w → has_data node sent w ≡ true
has_shared node sent w shares =
    ap (λ b. b && pointwise nat_eq w.payload (data_of sent)) (eq-eqb w.node node shares.0)
    ∙ subst (λ (d : List ℕ). pointwise nat_eq w.payload d ≡ true) shares.1 (nat_list_eq_equiv.refl w.payload)

same_octets : (xs ys : List ℕ) → pointwise nat_eq xs ys ≡ true → xs ≡ ys
same_octets [] [] e = refl
same_octets [] (y ∷ ys) e = absurd (false≢true e)
same_octets (x ∷ xs) [] e = absurd (false≢true e)
same_octets (x ∷ xs) (y ∷ ys) e =
    let k = and_parts (x == y) (pointwise nat_eq xs ys) e in
    ap (λ z. z ∷ xs) (eqb-true x y k.0) ∙ ap (λ zs. y ∷ zs) (same_octets xs ys k.1)

shared_has : (node : ℕ) (sent : Message) (w : Waiting) → has_data node sent w ≡ true → Shares node sent w
shared_has node sent w has =
    let k = and_parts (w.node == node) (pointwise nat_eq w.payload (data_of sent)) has in
    (eqb-true w.node node k.0, same_octets w.payload (data_of sent) k.1)

-- ---- the nearest of those that have the data

-- how many tests the message passes
abbrev Passed : Network → ℕ → ℕ → Message → Waiting → ℕ
Passed plan node to sent w = rank (failed plan node to sent w)

abbrev AtMost : Network → ℕ → ℕ → Message → ℕ → List Waiting → Type 0
AtMost plan node to sent n ws = All (λ w. Shares node sent w → Passed plan node to sent w ≤ n) ws

abbrev Below : Network → ℕ → ℕ → Message → ℕ → List Waiting → Type 0
Below plan node to sent n ws = All (λ w. Shares node sent w → Passed plan node to sent w < n) ws

-- one of the arrivals is the nearest
record IsOneOf (plan : Network) (node to : ℕ) (sent : Message) (best : Option Near) (ws : List Waiting) (n : Near) : Type 0 where
  place : ℕ
  arrival : Waiting
  at : slice_get ws place ≡ Some arrival
  shares : Shares node sent arrival
  is : near_of plan node to sent arrival ≡ n
  first : Below plan node to sent (rank n.reason) (take place ws)
  over : (b : Near) → best ≡ Some b → rank b.reason < rank n.reason

-- what is found after the best so far
record IsFrom (plan : Network) (node to : ℕ) (sent : Message) (best : Option Near) (ws : List Waiting) (n : Near) : Type 0 where
  most : AtMost plan node to sent (rank n.reason) ws
  from : (best ≡ Some n) ⊎ IsOneOf plan node to sent best ws n

-- the best so far is not passed
no_less : (plan : Network) (node to : ℕ) (sent : Message) (best : Option Near) (ws : List Waiting) (n : Near)
    → IsFrom plan node to sent best ws n → (b : Near) → best ≡ Some b → rank b.reason ≤ rank n.reason
no_less plan node to sent best ws n f b is =
    ⊎_elim (λ (e : best ≡ Some n). same b n (sym is ∙ e))
    (λ (o : IsOneOf plan node to sent best ws n). let lt = o.over b is in omega (arith, lt)) f.from
  where
    same : (x y : Near) → Some x ≡ Some y → rank x.reason ≤ rank y.reason
    same x y e = let k : x ≡ y = cc in subst (λ (z : Near). rank x.reason ≤ rank z.reason) k (omega arith)

some_is : (a b : Near) → Some a ≡ Some b → a ≡ b
some_is a b e = cc

nothing_is : (n : Near) → None ≡ Some n → ⊥
nothing_is n e = cc

-- one arrival in front that has not the data
passed_over : (plan : Network) (node to : ℕ) (sent : Message) (best : Option Near) (w : Waiting) (ws : List Waiting) (n : Near)
    → (Shares node sent w → ⊥) → IsFrom plan node to sent best ws n → IsFrom plan node to sent best (w ∷ ws) n
passed_over plan node to sent best w ws n other f = record {
  most = All-cons (λ v. Shares node sent v → Passed plan node to sent v ≤ rank n.reason) w ws (λ s. absurd (other s)) f.most;
  from = ⊎_elim (λ (e : best ≡ Some n). inl e)
      (λ (o : IsOneOf plan node to sent best ws n). inr (record {
        place = suc o.place;
        arrival = o.arrival;
        at = o.at;
        shares = o.shares;
        is = o.is;
        first = All-cons (λ v. Shares node sent v → Passed plan node to sent v < rank n.reason) w (take o.place ws)
            (λ s. absurd (other s)) o.first;
        over = o.over;
      })) f.from;
}

-- one in front that has it, and is taken as the best so far
taken_first : (plan : Network) (node to : ℕ) (sent : Message) (best : Option Near) (w : Waiting) (ws : List Waiting) (n : Near)
    → Shares node sent w → ((b : Near) → best ≡ Some b → rank b.reason < Passed plan node to sent w)
    → IsFrom plan node to sent (Some (near_of plan node to sent w)) ws n → IsFrom plan node to sent best (w ∷ ws) n
taken_first plan node to sent best w ws n shares above f =
    let le : Passed plan node to sent w ≤ rank n.reason =
    no_less plan node to sent (Some (near_of plan node to sent w)) ws n f (near_of plan node to sent w) refl in
    record {
      most = All-cons (λ v. Shares node sent v → Passed plan node to sent v ≤ rank n.reason) w ws (λ s. le) f.most;
      from = ⊎_elim
          (λ (e : Some (near_of plan node to sent w) ≡ Some n). inr (record {
            place = 0;
            arrival = w;
            at = refl;
            shares = shares;
            is = some_is (near_of plan node to sent w) n e;
            first = All-nil (λ v. Shares node sent v → Passed plan node to sent v < rank n.reason);
            over = λ b is. let lt = above b is in omega (arith, lt, le);
          }))
          (λ (o : IsOneOf plan node to sent (Some (near_of plan node to sent w)) ws n). inr (record {
            place = suc o.place;
            arrival = o.arrival;
            at = o.at;
            shares = o.shares;
            is = o.is;
            first = All-cons (λ v. Shares node sent v → Passed plan node to sent v < rank n.reason) w (take o.place ws)
                (λ s. o.over (near_of plan node to sent w) refl) o.first;
            over = λ b is. let lt = above b is in omega (arith, lt, le);
          })) f.from;
    }

-- one in front that has it, and is no nearer than the best so far
left_first : (plan : Network) (node to : ℕ) (sent : Message) (b : Near) (w : Waiting) (ws : List Waiting) (n : Near)
    → Passed plan node to sent w ≤ rank b.reason → IsFrom plan node to sent (Some b) ws n → IsFrom plan node to sent (Some b) (w ∷ ws) n
left_first plan node to sent b w ws n below f =
    let le = no_less plan node to sent (Some b) ws n f b refl in
    record {
      most = All-cons (λ v. Shares node sent v → Passed plan node to sent v ≤ rank n.reason) w ws (λ s. omega (arith, below, le)) f.most;
      from = ⊎_elim (λ (e : Some b ≡ Some n). inl e)
          (λ (o : IsOneOf plan node to sent (Some b) ws n). let lt = o.over b refl in
          inr (record {
            place = suc o.place;
            arrival = o.arrival;
            at = o.at;
            shares = o.shares;
            is = o.is;
            first = All-cons (λ v. Shares node sent v → Passed plan node to sent v < rank n.reason) w (take o.place ws)
                (λ s. omega (arith, below, lt)) o.first;
            over = o.over;
          })) f.from;
    }

found_from : (plan : Network) (node to : ℕ) (sent : Message) (best : Option Near) (ws : List Waiting) (n : Near)
    → nearest_of best (map (near_of plan node to sent) (filter (has_data node sent) ws)) ≡ Some n
    → IsFrom plan node to sent best ws n
found_from plan node to sent best [] n e =
    record { most = All-nil (λ w. Shares node sent w → Passed plan node to sent w ≤ rank n.reason); from = inl e }
found_from plan node to sent best (w ∷ ws) n e =
    by (λ (o : Option Near) k. found_from plan node to sent o ws n k) (has_data node sent w) refl e
  where
    More : Type 0
    More = (o : Option Near) → nearest_of o (map (near_of plan node to sent) (filter (has_data node sent) ws)) ≡ Some n
        → IsFrom plan node to sent o ws n

    by_best : More → (o : Option Near) → has_data node sent w ≡ true
        → nearest_of (nearer o (near_of plan node to sent w)) (map (near_of plan node to sent) (filter (has_data node sent) ws)) ≡ Some n
        → IsFrom plan node to sent o (w ∷ ws) n
    by_best more None has k =
        taken_first plan node to sent None w ws n (shared_has node sent w has) (λ b is. absurd (nothing_is b is))
        (more (Some (near_of plan node to sent w)) k)
    by_best more (Some b) has k = by_rank (nat_lt (rank b.reason) (Passed plan node to sent w)) refl k where
      by_rank : (c : Bool) → nat_lt (rank b.reason) (Passed plan node to sent w) ≡ c
          → nearest_of (if c then Some (near_of plan node to sent w) else Some b)
          (map (near_of plan node to sent) (filter (has_data node sent) ws)) ≡ Some n
          → IsFrom plan node to sent (Some b) (w ∷ ws) n
      by_rank true lt m =
          taken_first plan node to sent (Some b) w ws n (shared_has node sent w has)
          (λ x is. subst (λ (z : Near). rank z.reason < Passed plan node to sent w) (some_is b x is)
          (ltb-true (rank b.reason) (Passed plan node to sent w) lt))
          (more (Some (near_of plan node to sent w)) m)
      by_rank false lt m =
          left_first plan node to sent b w ws n (ltb-false (rank b.reason) (Passed plan node to sent w) lt)
          (more (Some b) m)

    by : More → (b : Bool) → has_data node sent w ≡ b
        → nearest_of best (map (near_of plan node to sent) (if b then w ∷ filter (has_data node sent) ws
        else filter (has_data node sent) ws))
        ≡ Some n → IsFrom plan node to sent best (w ∷ ws) n
    by more true has k = by_best more best has k
    by more false has k =
        passed_over plan node to sent best w ws n (λ s. false≢true (sym has ∙ has_shared node sent w s)) (more best k)

pub is_nearest : (plan : Network) (ws : List Waiting) (node to : ℕ) (sent : Message) (n : Near) → nearest plan ws node to sent ≡ Some n
    → IsNearest plan ws node to sent n.number n.reason
unfolding nearest
is_nearest plan ws node to sent n e =
    let f = found_from plan node to sent None ws n e in
    ⊎_elim (λ (k : None ≡ Some n). absurd (nothing_is n k))
    (λ (o : IsOneOf plan node to sent None ws n). record {
      place = o.place;
      arrival = o.arrival;
      at = o.at;
      numbered = ap (λ (x : Near). x.number) o.is;
      shares = o.shares;
      reason_is = sym (ap (λ (x : Near). x.reason) o.is);
      most = f.most;
      first = o.first;
    }) f.from

-- ---- no arrival has the data

stays_some : (ns : List Near) (b : Near) → nearest_of (Some b) ns ≡ None → ⊥
stays_some [] b e = cc
stays_some (n ∷ ns) b e = by (stays_some ns n) (stays_some ns b) (nat_lt (rank b.reason) (rank n.reason)) e where
  by : (nearest_of (Some n) ns ≡ None → ⊥) → (nearest_of (Some b) ns ≡ None → ⊥) → (c : Bool)
      → nearest_of (if c then Some n else Some b) ns ≡ None → ⊥
  by first second true k = first k
  by first second false k = second k

none_from : (plan : Network) (node to : ℕ) (sent : Message) (ws : List Waiting)
    → nearest_of None (map (near_of plan node to sent) (filter (has_data node sent) ws)) ≡ None → All (λ w. Shares node sent w → ⊥) ws
none_from plan node to sent [] e = All-nil (λ w. Shares node sent w → ⊥)
none_from plan node to sent (w ∷ ws) e = by (none_from plan node to sent ws) (has_data node sent w) refl e where
  by : (nearest_of None (map (near_of plan node to sent) (filter (has_data node sent) ws)) ≡ None → All (λ v. Shares node sent v → ⊥) ws)
      → (b : Bool) → has_data node sent w ≡ b
      → nearest_of None (map (near_of plan node to sent) (if b then w ∷ filter (has_data node sent) ws else filter (has_data node sent) ws))
      ≡ None → All (λ v. Shares node sent v → ⊥) (w ∷ ws)
  by more true has k = absurd (stays_some (map (near_of plan node to sent) (filter (has_data node sent) ws))
      (near_of plan node to sent w) k)
  by more false has k =
      All-cons (λ v. Shares node sent v → ⊥) w ws (λ s. false≢true (sym has ∙ has_shared node sent w s)) (more k)

pub none_near : (plan : Network) (ws : List Waiting) (node to : ℕ) (sent : Message) → nearest plan ws node to sent ≡ None
    → All (λ w. Shares node sent w → ⊥) ws
unfolding nearest
none_near plan ws node to sent e = none_from plan node to sent ws e
