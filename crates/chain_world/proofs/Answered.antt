-- Messages that are put on links, and taken back.
use Rattle.std.specs.Prelude.{ℕ, ◌≡◌, ◌==◌, Bool, true, false, cond, ◌&&◌, List, [], ◌∷◌, ◌++◌, map, Some, None, refl}
use Rattle.std.specs.List.{cons_option}
use Rattle.std.proofs.Common.{sym, ◌∙◌, ap, subst, append_assoc}
use Rattle.std.proofs.lemmas.Bool.{eqb-true}
use Rattle.std.proofs.lemmas.List.{append-nil}
use Rattle.sccp_manage.specs.declared.sent.Sent.{Sent}
use Rattle.chain_world.specs.Links.{with_at}
use Rattle.chain_world.specs.Answering.{with_octets, octets_to}
use Rattle.chain_world.proofs.Stored.{same_way, put_back}

-- if nothing is sent, the links stay as they were
pub sent_none : (from : ℕ) (l : ℕ → ℕ → List (List ℕ)) (a b : ℕ) → with_octets from [] l a b ≡ l a b
sent_none from l a b = elim (a == from) as (λ c. cond c (l a b ++ []) (l a b) ≡ l a b) [ true ↦ append-nil (l a b) | false ↦ refl ]

-- if one message is sent, one link has it after what it had, and the others stay
pub sent_one : (from : ℕ) (x : Sent) (l : ℕ → ℕ → List (List ℕ)) (a b : ℕ)
    → with_octets from (x ∷ []) l a b ≡ with_at from x.to (l from x.to ++ x.octets ∷ []) l a b
sent_one from x l a b =
    elim (a == from) as (λ c. (a == from) ≡ c → cond c (l a b ++ octets_to b (x ∷ [])) (l a b)
    ≡ cond (c && (b == x.to)) (l from x.to ++ x.octets ∷ []) (l a b)) [
      | true ↦ λ e.
          ap (λ (c : Bool). l a b ++ cons_option (cond c (Some x.octets) None) []) (same_way x.to b)
          ∙ elim (b == x.to) as (λ c. (b == x.to) ≡ c → l a b ++ cons_option (cond c (Some x.octets) None) []
          ≡ cond c (l from x.to ++ x.octets ∷ []) (l a b)) [
            | true ↦ λ f. ap (λ (n : ℕ). l n b ++ x.octets ∷ []) (eqb-true a from e)
                ∙ ap (λ (n : ℕ). l from n ++ x.octets ∷ []) (eqb-true b x.to f)
            | false ↦ λ f. append-nil (l a b)
          ] refl
      | false ↦ λ e. refl
    ] refl

both_to : (b : ℕ) (x y : Sent) → octets_to b (x ∷ y ∷ []) ≡ octets_to b (x ∷ []) ++ octets_to b (y ∷ [])
both_to b x y =
    elim (x.to == b) as (λ c. cons_option (cond c (Some x.octets) None) (octets_to b (y ∷ []))
    ≡ cons_option (cond c (Some x.octets) None) [] ++ octets_to b (y ∷ [])) [ true ↦ refl | false ↦ refl ]

-- sending two messages is sending the first one and then the second
pub sent_two : (from : ℕ) (x y : Sent) (l : ℕ → ℕ → List (List ℕ)) (a b : ℕ)
    → with_octets from (x ∷ y ∷ []) l a b ≡ with_octets from (y ∷ []) (with_octets from (x ∷ []) l) a b
sent_two from x y l a b =
    elim (a == from) as (λ c. cond c (l a b ++ octets_to b (x ∷ y ∷ [])) (l a b)
    ≡ cond c (cond c (l a b ++ octets_to b (x ∷ [])) (l a b) ++ octets_to b (y ∷ [])) (cond c (l a b ++ octets_to b (x ∷ [])) (l a b))) [
      | true ↦ ap (λ (m : List (List ℕ)). l a b ++ m) (both_to b x y)
          ∙ sym (append_assoc (l a b) (octets_to b (x ∷ [])) (octets_to b (y ∷ [])))
      | false ↦ refl
    ]

-- what one link got, for links that are the same
one_put : (from to : ℕ) (os : List ℕ) (old mid new : ℕ → ℕ → List (List ℕ)) → ((a b : ℕ) → mid a b ≡ old a b)
    → ((a b : ℕ) → new a b ≡ with_at from to (mid from to ++ os ∷ []) mid a b) → (a b : ℕ)
    → new a b ≡ with_at from to (old from to ++ os ∷ []) old a b
one_put from to os old mid new same put a b =
    put a b
    ∙ ap (λ (m : List (List ℕ)). cond ((a == from) && (b == to)) (m ++ os ∷ []) (mid a b)) (same from to)
    ∙ ap (λ (m : List (List ℕ)). cond ((a == from) && (b == to)) (old from to ++ os ∷ []) m) (same a b)

-- a link that got the one message that is sent has what was sent
pub put_first : (from : ℕ) (x : Sent) (old new : ℕ → ℕ → List (List ℕ))
    → ((a b : ℕ) → new a b ≡ with_at from x.to (old from x.to ++ x.octets ∷ []) old a b) → (a b : ℕ)
    → new a b ≡ with_octets from (x ∷ []) old a b
put_first from x old new put a b = put a b ∙ sym (sent_one from x old a b)

-- links that got the first message and then the second have what was sent
pub put_second : (from : ℕ) (x y : Sent) (old mid new : ℕ → ℕ → List (List ℕ))
    → ((a b : ℕ) → mid a b ≡ with_at from x.to (old from x.to ++ x.octets ∷ []) old a b) →
    ((a b : ℕ) → new a b ≡ with_at from y.to (mid from y.to ++ y.octets ∷ []) mid a b) → (a b : ℕ)
    → new a b ≡ with_octets from (x ∷ y ∷ []) old a b
put_second from x y old mid new first second a b =
    second a b
    ∙ sym (sent_one from y mid a b)
    ∙ over from (y ∷ []) mid (with_octets from (x ∷ []) old) (put_first from x old mid first) a b
    ∙ sym (sent_two from x y old a b)
  where
    over : (from : ℕ) (sent : List Sent) (l k : ℕ → ℕ → List (List ℕ)) → ((a b : ℕ) → l a b ≡ k a b) → (a b : ℕ)
        → with_octets from sent l a b ≡ with_octets from sent k a b
    over from sent l k e a b = ap (λ (m : List (List ℕ)). cond (a == from) (m ++ octets_to b sent) m) (e a b)

-- two messages that are taken back, the last one first
take_two : (from : ℕ) (x y : Sent) (old mid new newer : ℕ → ℕ → List (List ℕ))
    → ((a b : ℕ) → mid a b ≡ with_octets from (x ∷ y ∷ []) old a b) →
    ((ms : List (List ℕ)) (m : List ℕ) → mid from y.to ≡ ms ++ m ∷ [] → (a b : ℕ) → new a b ≡ with_at from y.to ms mid a b) →
    ((ms : List (List ℕ)) (m : List ℕ) → new from x.to ≡ ms ++ m ∷ [] → (a b : ℕ) → newer a b ≡ with_at from x.to ms new a b) → (a b : ℕ)
    → newer a b ≡ old a b
take_two from x y old mid new newer added back again =
    put_back from x.to old new newer x.octets
    (λ a b. put_back from y.to (with_octets from (x ∷ []) old) mid new y.octets (λ a b. added a b ∙ sent_two from x y old a b
    ∙ sent_one from y (with_octets from (x ∷ []) old) a b) back a b ∙ sent_one from x old a b)
    again

-- ---- by the points that they went to

some_none : {A : Type 0} (x : A) (xs : List A) → [] ≡ x ∷ xs → ⊥
some_none x xs h = cc

-- links on which nothing was put are as before
pub take_none_back : (from : ℕ) (sent : List Sent) (old new : ℕ → ℕ → List (List ℕ)) → [] ≡ map (λ (s : Sent). s.to) sent
    → ((a b : ℕ) → new a b ≡ with_octets from sent old a b) → (a b : ℕ) → new a b ≡ old a b
take_none_back from [] old new e put a b = put a b ∙ sent_none from old a b
take_none_back from (x ∷ xs) old new e put a b = absurd (some_none x.to (map (λ (s : Sent). s.to) xs) e)

-- a message that was put on its link and is taken back leaves the links as they were
pub take_one_back : (from to : ℕ) (sent : List Sent) (old mid new : ℕ → ℕ → List (List ℕ)) → to ∷ [] ≡ map (λ (s : Sent). s.to) sent
    → ((a b : ℕ) → mid a b ≡ with_octets from sent old a b) →
    ((ms : List (List ℕ)) (m : List ℕ) → mid from to ≡ ms ++ m ∷ [] → (a b : ℕ) → new a b ≡ with_at from to ms mid a b) → (a b : ℕ)
    → new a b ≡ old a b
take_one_back from to [] old mid new e put back a b = absurd (some_none to [] (sym e))
take_one_back from to (x ∷ []) old mid new e put back a b =
    let is : to ≡ x.to = cc in
    put_back from x.to old mid new x.octets (λ a b. put a b ∙ sent_one from x old a b) (subst (λ (n : ℕ). (ms : List (List ℕ)) (m : List ℕ)
    → mid from n ≡ ms ++ m ∷ [] → (a b : ℕ) → new a b ≡ with_at from n ms mid a b) is back) a b
take_one_back from to (x ∷ y ∷ zs) old mid new e put back a b =
    absurd (let f : [] ≡ y.to ∷ map (λ (s : Sent). s.to) zs = cc in some_none y.to (map (λ (s : Sent). s.to) zs) f)

-- two messages that were put on their links and are taken back, the last one first, leave the links as they were
pub take_two_back : (from near far : ℕ) (sent : List Sent) (old mid new newer : ℕ → ℕ → List (List ℕ))
    → near ∷ far ∷ [] ≡ map (λ (s : Sent). s.to) sent → ((a b : ℕ) → mid a b ≡ with_octets from sent old a b) →
    ((ms : List (List ℕ)) (m : List ℕ) → mid from far ≡ ms ++ m ∷ [] → (a b : ℕ) → new a b ≡ with_at from far ms mid a b) →
    ((ms : List (List ℕ)) (m : List ℕ) → new from near ≡ ms ++ m ∷ [] → (a b : ℕ) → newer a b ≡ with_at from near ms new a b) → (a b : ℕ)
    → newer a b ≡ old a b
take_two_back from near far [] old mid new newer e put back again a b = absurd (some_none near (far ∷ []) (sym e))
take_two_back from near far (x ∷ []) old mid new newer e put back again a b = absurd (let f : [] ≡ far ∷ [] = cc in some_none far [] f)
take_two_back from near far (x ∷ y ∷ []) old mid new newer e put back again a b =
    let n : near ≡ x.to = cc in
    let f : far ≡ y.to = cc in
    take_two from x y old mid new newer put
    (subst (λ (n : ℕ). (ms : List (List ℕ)) (m : List ℕ) → mid from n ≡ ms ++ m ∷ [] → (a b : ℕ)
    → new a b ≡ with_at from n ms mid a b) f back)
    (subst (λ (n : ℕ). (ms : List (List ℕ)) (m : List ℕ) → new from n ≡ ms ++ m ∷ [] → (a b : ℕ)
    → newer a b ≡ with_at from n ms new a b) n again) a b
take_two_back from near far (x ∷ y ∷ z ∷ zs) old mid new newer e put back again a b =
    absurd (let f : [] ≡ z.to ∷ map (λ (s : Sent). s.to) zs = cc in some_none z.to (map (λ (s : Sent). s.to) zs) f)
