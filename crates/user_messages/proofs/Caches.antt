-- The cache of keys is changed as the list of keys is.
use Rattle.std.specs.Prelude.{◌≡◌, suc, ◌-◌, ◌≤◌, true, false, cond, not, List, [], ◌∷◌, length, take, filter, Option}
use Rattle.std.specs.Prelude.{Some, None, refl}
use Rattle.std.specs.List.{AllByRecursion, IsDistinct}
use Rattle.std.specs.Option.{option_map_or}
use Rattle.std.specs.Map.{keys_of, lookup_entry, remove_entry}
use Rattle.std.proofs.Common.{sym, ap, subst, ◌∙◌, arith}
use Rattle.std.proofs.lemmas.Bool.{cond-true}
use Rattle.std.proofs.lemmas.List.{take_all, take-map}
use Rattle.std.proofs.lemmas.Map.Entries.{length-keys_of}
use Rattle.lru.specs.LruCache.{LruCache, IsValid, put_entries}
use Rattle.user_messages.specs.declared.key.Key.{Key}
use Rattle.user_messages.specs.Chunks.{same_key}
use Rattle.user_messages.specs.Gathering.{remembered}
use Rattle.user_messages.proofs.Keys.{key_is}

-- none of these keys is that one
abbrev Lacks : Key → List Key → Type 0
Lacks key ks = AllByRecursion (λ k. same_key key k ≡ false) ks

all_others : (key : Key) (ks : List Key) → Lacks key ks → filter (λ k. not (same_key key k)) ks ≡ ks
all_others key [] h = refl
all_others key (k ∷ ks) h =
    cond-true (not (same_key key k)) (k ∷ filter (λ j. not (same_key key j)) ks) (filter (λ j. not (same_key key j)) ks) (ap not h.0)
    ∙ ap (λ l. k ∷ l) (all_others key ks h.1)

module _ {X : Type 0} (key : Key) where
  lacking : (es : List (Key × X)) → lookup_entry (same_key key) es ≡ None → Lacks key (keys_of es)
  lacking [] h = tt
  lacking (e ∷ es) h =
      elim (same_key key e.0) as (λ b. same_key key e.0 ≡ b → cond b (Some e) (lookup_entry (same_key key) es) ≡ None
      → Lacks key (keys_of (e ∷ es))) [
        | true ↦ λ t n. absurd (cc)
        | false ↦ λ t n. (t, lacking es n)
      ] refl h

  found : (es : List (Key × X)) (e : Key × X) → lookup_entry (same_key key) es ≡ Some e
      → (e.0 ≡ key) × (suc (length (remove_entry (same_key key) es)) ≡ length es)
  found [] e h = absurd (cc)
  found (f ∷ es) e h =
      elim (same_key key f.0) as (λ b. same_key key f.0 ≡ b → cond b (Some f) (lookup_entry (same_key key) es) ≡ Some e
      → (e.0 ≡ key) × (suc (length (cond b es (f ∷ remove_entry (same_key key) es))) ≡ suc (length es))) [
        | true ↦ λ t s. let same : f ≡ e = cc in (sym (ap (λ (g : Key × X). g.0) same) ∙ sym (key_is key f.0 t), refl)
        | false ↦ λ t s. let rest = found es e s in (rest.0, ap suc rest.1)
      ] refl h

  without : (es : List (Key × X)) → IsDistinct same_key (keys_of es)
      → keys_of (remove_entry (same_key key) es) ≡ filter (λ k. not (same_key key k)) (keys_of es)
  unfolding IsDistinct
  without [] d = refl
  without (e ∷ es) d =
      elim (same_key key e.0) as (λ b. same_key key e.0 ≡ b → keys_of (cond b es (e ∷ remove_entry (same_key key) es))
      ≡ cond (not b) (e.0 ∷ filter (λ k. not (same_key key k)) (keys_of es)) (filter (λ k. not (same_key key k)) (keys_of es))) [
        | true ↦ λ t. sym (all_others key (keys_of es) (subst (λ k. Lacks k (keys_of es)) (sym (key_is key e.0 t)) d.0))
        | false ↦ λ t. ap (λ ks. e.0 ∷ ks) (without es d.1)
      ] refl

  pub put_keys : (c : LruCache Key X) (x : X) → c.cap ≡ 65536 → IsValid same_key c
      → keys_of (put_entries same_key c key x) ≡ remembered key (keys_of c.entries)
  put_keys c x cap valid = by_found (lookup_entry (same_key key) c.entries) refl
    where
      by_found : (o : Option (Key × X)) → lookup_entry (same_key key) c.entries ≡ o
          → keys_of (option_map_or (λ e. (e.0, x) ∷ remove_entry (same_key key) c.entries) o ((key, x) ∷ take (c.cap - 1) c.entries))
          ≡ remembered key (keys_of c.entries)
      by_found None h =
          ap (λ n. key ∷ keys_of (take (n - 1) c.entries)) cap
          ∙ ap (λ ks. key ∷ ks) (sym (take-map (λ (e : Key × X). e.0) 65535 c.entries))
          ∙ ap (λ ks. key ∷ take 65535 ks) (sym (all_others key (keys_of c.entries) (lacking c.entries h)))
      by_found (Some e) h =
          let f = found c.entries e h in
          ap (λ k. k ∷ keys_of (remove_entry (same_key key) c.entries)) f.0
          ∙ ap (λ ks. key ∷ ks) (sym (take_all 65535 (keys_of (remove_entry (same_key key) c.entries))
          (omega (arith, length-keys_of (remove_entry (same_key key) c.entries), f.1, valid.1, cap))))
          ∙ ap (λ ks. key ∷ take 65535 ks) (without c.entries valid.0)

pub few_keys : {X : Type 0} (c : LruCache Key X) → c.cap ≡ 65536 → IsValid same_key c → length (keys_of c.entries) ≤ 65536
few_keys c cap valid = omega (arith, length-keys_of c.entries, valid.1, cap)
