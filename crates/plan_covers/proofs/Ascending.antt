-- lists that are made in ascending order, an item for each key that is to be listed
use Rattle.std.specs.Prelude.{◌≡◌, ◌⊎◌, List, [], ◌∷◌, ◌++◌, get_or}
use Rattle.std.specs.List.{All, Any, AllPairs}
use Rattle.std.proofs.Common.{sym, ◌∙◌, subst, ⊎_elim, arith, length-append}
use Rattle.std.proofs.lemmas.List.{get_or_append_left}
use Rattle.std.proofs.lemmas.List.Elements.{All-nil, All-push, All-weaker}
use Rattle.std.proofs.lemmas.List.Quantifiers.{Any-push, all_pairs_push}

-- The list so far. Each item is right; each key before the present one that is to be listed has an item; the keys ascend.
pub record SoFar {X K : Type 0} (key : X → K) (Less : K → K → Type 0) (Is : X → Type 0) (Has Before : K
    → Type 0) (xs : List X) : Type 0 where
  pub each : All Is xs
  pub every : (k : K) → Before k → Has k → Any (λ x. key x ≡ k) xs
  pub ascending : AllPairs (λ a b. Less (key a) (key b)) xs
  pub before : All (λ x. Before (key x)) xs

pub none_yet : {X K : Type 0} (key : X → K) (Less : K → K → Type 0) (Is : X → Type 0) (Has Before : K → Type 0)
    → ((k : K) → Before k → Has k → ⊥) → SoFar key Less Is Has Before []
none_yet key Less Is Has Before none =
    record {
      each = All-nil Is;
      every = λ k b h. absurd (none k b h);
      ascending = λ i j d lt in'. absurd (omega (arith, in'));
      before = All-nil (λ x. Before (key x));
    }

any_left : {X : Type 0} (P : X → Type 0) (xs ys zs : List X) → ys ≡ xs ++ zs → Any P xs → Any P ys
any_left P xs ys zs e h =
    subst (Any P) (sym e)
    (h.0, h.1, omega (arith, h.2, length-append xs zs), get_or_append_left xs zs h.1 h.0 h.2 ∙ h.3, h.4)

-- the present key is to be listed
pub one_more : {X K : Type 0} (key : X → K) (Less : K → K → Type 0) (Is : X → Type 0) (Has Before After : K
    → Type 0) (xs ys : List X) (x : X)
    → ys ≡ xs ++ x ∷ [] → Is x → ((k : K) → Before k → Less k (key x)) → ((k : K) → After k → Before k ⊎ (key x ≡ k))
    → ((k : K) → Before k → After k) → After (key x) → SoFar key Less Is Has Before xs → SoFar key Less Is Has After ys
one_more key Less Is Has Before After xs ys x e is less splits on here h =
    record {
      each = subst (All Is) (sym e) (All-push Is xs x h.each is);
      every = λ k after has. ⊎_elim
          (λ (b : Before k). any_left (λ x. key x ≡ k) xs ys (x ∷ []) e (h.every k b has))
          (λ (same : key x ≡ k). subst (Any (λ x. key x ≡ k)) (sym e) (Any-push (λ x. key x ≡ k) xs x same))
          (splits k after);
      ascending = subst (AllPairs (λ a b. Less (key a) (key b))) (sym e) (all_pairs_push (λ a b. Less (key a) (key b)) xs x h.ascending
          (λ i d lt. less (key (get_or xs i d)) (h.before i d lt)));
      before = subst (All (λ x. After (key x))) (sym e) (All-push (λ x. After (key x)) xs x
          (All-weaker (λ x. Before (key x)) (λ x. After (key x)) (λ x. on (key x)) xs h.before) here);
    }

-- the present key, or several keys, are not to be listed
pub no_more : {X K : Type 0} (key : X → K) (Less : K → K → Type 0) (Is : X → Type 0) (Has Before After : K → Type 0) (xs : List X)
    → ((k : K) → After k → Has k → Before k) → ((k : K) → Before k → After k) → SoFar key Less Is Has Before xs
    → SoFar key Less Is Has After xs
no_more key Less Is Has Before After xs back on h =
    record {
      each = h.each;
      every = λ k after has. h.every k (back k after has) has;
      ascending = h.ascending;
      before = All-weaker (λ x. Before (key x)) (λ x. After (key x)) (λ x. on (key x)) xs h.before;
    }
