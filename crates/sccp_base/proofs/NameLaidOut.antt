-- How a name is laid out octet by octet.
use Rattle.std.proofs.Common.{◌≡◌, ℕ, suc, ◌+◌, ◌-◌, ◌<◌, ◌≤◌, List, [], ◌∷◌, ◌++◌, length, get_or, take, replicate, refl, sym}
use Rattle.std.proofs.Common.{append_assoc, arith, length-append, set}
use Rattle.std.proofs.lemmas.List.{length-replicate, set-append_right, length-take, take_more, take_at, drop_at, take_all}
use Rattle.sccp_base.specs.Names.{IsName, IsNameLaidOut}

-- one more octet in 16 places
set_padded : (xs : List ℕ) (n x : ℕ) → length xs ≡ n → n < 16
    → set (xs ++ replicate (16 - n) 0) n x ≡ (xs ++ x ∷ []) ++ replicate (16 - (n + 1)) 0
set_padded xs n x e lt =
    let more : 16 - n ≡ suc (16 - (n + 1)) = omega arith in
    let none : n - n ≡ 0 = omega arith in
    let le : n ≤ n = omega arith in
    rw (more, set-append_right xs (0 ∷ replicate (16 - (n + 1)) 0) n n x e le, none)
    (sym (append_assoc xs (x ∷ []) (replicate (16 - (n + 1)) 0)))

pub one_more : (octets text : List ℕ) (n x : ℕ) → octets ≡ take n text ++ replicate (16 - n) 0 → n < length text → length text ≤ 16
    → x ≡ get_or text n 0 → set octets n x ≡ take (n + 1) text ++ replicate (16 - (n + 1)) 0
one_more octets text n x filled lt most e =
    let len : length (take n text) ≡ n = omega (arith, length-take n text) in
    rw (filled, set_padded (take n text) n x len (omega arith), e, take_more text n 0 lt) refl

pub laid_out : (octets text : List ℕ) (n : ℕ) → IsName text → length text ≡ n → octets ≡ take n text ++ replicate (16 - n) 0
    → IsNameLaidOut (record { octets = octets; len = n })
laid_out octets text n name e filled =
    let all : take n text ≡ text = take_all n text (omega arith) in
    let here : octets ≡ text ++ replicate (16 - n) 0 = rw all at filled in
    record {
      name = rw (here, take_at text (replicate (16 - n) 0) n e) name;
      limit = omega (arith, name.most);
      whole = rw here (omega (arith, length-append text (replicate (16 - n) 0), length-replicate {A = ℕ} (16 - n) 0, name.most));
      behind = rw (here, drop_at text (replicate (16 - n) 0) n e) refl;
    }
