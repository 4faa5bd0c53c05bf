-- What is reported of a file that arrives in pieces.
use Rattle.std.proofs.Common.{◌≡◌, ◌<◌, ◌≤◌, ◌+◌, ℕ, List, [], ◌++◌, length, take, drop, false, Option, Some, None, refl, sym, ◌∙◌, ap}
use Rattle.std.proofs.Common.{append_assoc, arith, length-append}
use Rattle.std.proofs.lemmas.List.{append-nil, length-take, length-drop, take_all, take-take, drop-take, take-append-drop, drop-drop}
use Rattle.std.proofs.lemmas.List.{drop_all, take-append-le, drop-append-le}
use Rattle.capture_file.specs.Packets.{Captured, with_front}
use Rattle.capture_file.specs.Units.{At, Takes, Needs, Fails, unit}
use Rattle.capture_file.specs.Steps.{step_at}
use Rattle.capture_file.specs.Told.{told_of}
use Rattle.std.specs.Prelude.{IfNone}
use Rattle.capture_file.specs.Standings.{GoesOn, Ends, TakesPiece, IsStanding, midway, left}
use Rattle.capture_file.specs.declared.file_fault.FileFault.{FileFault}
use Rattle.capture_file.proofs.UnitLemmas.{unit-nothing}
use Rattle.capture_file.proofs.ToldLemmas.{with_front-twice, told-needs, told-fails-more}
use Rattle.capture_file.proofs.StepLemmas.{step-takes, step-needs, step-fails}

-- a unit more was read
pub going-read : (front : List Captured) (at : At) (place : ℕ) (b : List ℕ) (packets now : List Captured) (at' : At) (place' : ℕ)
    (b' : List ℕ)
    (read : List Captured) (used : ℕ) (after now_at : At) (m : ℕ)
    → GoesOn front at place b packets at' place' b' → step_at at' place' b' ≡ Takes read used after → length b' ≤ used + m
    → now ≡ packets ++ read → now_at ≡ after
    → GoesOn front at place b now now_at (place' + used) (take m (drop used b'))
going-read front at place b packets now at' place' b' read used after now_at m going e all is is_at = λ whole more.
    let told = told_of whole after (place' + used) (drop used b' ++ more) in
    going whole more ∙ ap (with_front packets) (step-takes whole at' place' b' more read used after e)
    ∙ with_front-twice packets read told
    ∙ ap (λ l. with_front l told) (sym is)
    ∙ ap (λ l. with_front now (told_of whole after (place' + used) (l ++ more)))
    (sym (take_all m (drop used b') (omega (arith, length-drop used b'))))
    ∙ ap (λ a. with_front now (told_of whole a (place' + used) (take m (drop used b') ++ more))) (sym is_at)

pub room-read : (b : List ℕ) (m used place most : ℕ) → used ≤ length b → place + length b < most
    → place + used + length (take m (drop used b)) < most
room-read b m used place most le room = omega (arith, length-take m (drop used b), length-drop used b)

-- ---- octets that are moved from the piece to what is kept

pub take-two : (n m : ℕ) (xs : List ℕ) → take n xs ++ take m (drop n xs) ≡ take (n + m) xs
take-two n m xs =
    ap (λ l. l ++ take m (drop n xs)) (sym (take-take n (n + m) xs (omega arith)))
    ∙ ap (λ l. take n (take (n + m) xs) ++ l) (sym (drop-take n m xs))
    ∙ take-append-drop n (take (n + m) xs)

pub moved-more : (taken m count : ℕ) (kept now rest before : List ℕ) → now ≡ kept ++ take count rest → taken ≤ length kept
    → length rest ≤ count + m → drop taken kept ++ rest ≡ before → drop taken now ++ take m (drop count rest) ≡ before
moved-more taken m count kept now rest before e le all same =
    ap (λ l. drop taken l ++ take m (drop count rest)) e
    ∙ ap (λ l. l ++ take m (drop count rest)) (drop-append-le taken kept (take count rest) le)
    ∙ append_assoc (drop taken kept) (take count rest) (take m (drop count rest))
    ∙ ap (λ l. drop taken kept ++ l) (take-two count m rest ∙ take_all (count + m) rest all)
    ∙ same

pub front-more : (first kept now more : List ℕ) → now ≡ kept ++ more → take (length first) kept ≡ first → take (length first) now ≡ first
front-more first kept now more e front =
    let within : length first ≤ length kept = omega (arith, length-take (length first) kept, ap length front) in
    ap (take (length first)) e ∙ take-append-le (length first) kept more within ∙ front

pub longer : (kept now more : List ℕ) (n : ℕ) → now ≡ kept ++ more → n ≤ length kept → n ≤ length now
longer kept now more n e le = omega (arith, ap length e, length-append kept more)

-- ---- the end of a piece

pub goes-same : (front : List Captured) (at : At) (place : ℕ) (b : List ℕ) (packets : List Captured) (at' : At) (place' : ℕ) (b' c : List ℕ)
    → GoesOn front at place b packets at' place' b' → c ≡ b' → GoesOn front at place b packets at' place' c
goes-same front at place b packets at' place' b' c going same = λ whole more.
    going whole more ∙ ap (λ l. with_front packets (told_of whole at' place' (l ++ more))) (sym same)

pub takes-needs : (at : At) (place : ℕ) (kept piece : List ℕ) (packets : List Captured) (at' : At) (place' : ℕ) (b now : List ℕ)
    → GoesOn [] at place (kept ++ piece) packets at' place' b → step_at at' place' b ≡ Needs → now ≡ b
    → TakesPiece at place kept piece packets (midway at' place' now None)
takes-needs at place kept piece packets at' place' b now going e is = record {
  told = λ whole more. ap (told_of whole at place) (sym (append_assoc kept piece more)) ∙ going whole more
      ∙ ap (λ l. with_front packets (told_of whole at' place' (l ++ more))) (sym is);
  settled = ap (told_of false at' place') (append-nil now ∙ is) ∙ told-needs false at' place' b (step-needs at' place' b e);
}

pub takes-fails : (at : At) (place : ℕ) (kept piece : List ℕ) (packets : List Captured) (at' : At) (place' : ℕ) (b rest now : List ℕ)
    (fault : FileFault)
    → GoesOn [] at place (kept ++ piece) packets at' place' (b ++ rest) → step_at at' place' b ≡ Fails fault
    → TakesPiece at place kept piece packets (midway at' place' now (Some fault))
takes-fails at place kept piece packets at' place' b rest now fault going e = record {
  told = λ whole more. ap (told_of whole at place) (sym (append_assoc kept piece more)) ∙ going whole more
      ∙ ap (λ l. with_front packets (told_of whole at' place' l)) (append_assoc b rest more)
      ∙ ap (with_front packets) (told-fails-more whole at' place' b (rest ++ more) fault (step-fails at' place' b fault e));
  settled = refl;
}

pub takes-ends : (at : At) (place : ℕ) (kept piece : List ℕ) (packets : List Captured) (at' : At) (place' : ℕ) (b now : List ℕ)
    (fault : Option FileFault)
    → GoesOn [] at place (kept ++ piece) packets at' place' b → Ends fault at' place' b → now ≡ left fault b
    → TakesPiece at place kept piece packets (midway at' place' now fault)
takes-ends at place kept piece packets at' place' b now None going ends is =
    takes-needs at place kept piece packets at' place' b now going ends is
takes-ends at place kept piece packets at' place' b now (Some fault) going ends is =
    takes-fails at place kept piece packets at' place' b [] now fault
    (goes-same [] at place (kept ++ piece) packets at' place' b (b ++ []) going (append-nil b)) ends

pub stands-nothing : (at : At) (place : ℕ) (now : List ℕ) (fault : FileFault) → now ≡ [] → IsStanding (midway at place now (Some fault))
stands-nothing at place now fault is = record {
  short = omega (arith, ap length is);
  unfinished = ap (unit at place) is ∙ unit-nothing at place;
}

pub stands-ends : (at : At) (place : ℕ) (b now : List ℕ) (fault : Option FileFault) → Ends fault at place b
    → IfNone fault (length b ≤ 262172) → now ≡ left fault b → IsStanding (midway at place now fault)
stands-ends at place b now None ends short is = record {
  short = omega (arith, ap length is, short);
  unfinished = ap (unit at place) is ∙ step-needs at place b ends;
}
stands-ends at place b now (Some fault) ends short is = stands-nothing at place now fault is

pub goes-further : (at : At) (place : ℕ) (b : List ℕ) (packets : List Captured) (at' : At) (place' taken : ℕ) (kept rest : List ℕ)
    (now : List Captured) (at'' : At) (place'' : ℕ) (b'' : List ℕ)
    → GoesOn [] at place b packets at' place' (drop taken kept ++ rest) → length kept ≤ taken
    → GoesOn packets at' place' rest now at'' place'' b'' → GoesOn [] at place b now at'' place'' b''
goes-further at place b packets at' place' taken kept rest now at'' place'' b'' going all further = λ whole more.
    going whole more ∙ ap (λ l. with_front packets (told_of whole at' place' (l ++ rest ++ more))) (drop_all taken kept all)
    ∙ further whole more

-- ---- a unit of what is kept

pub going-joined : (front : List Captured) (at : At) (place : ℕ) (b : List ℕ) (packets now : List Captured) (at' : At) (place' : ℕ)
    (before kept rest c : List ℕ) (taken : ℕ) (read : List Captured) (used : ℕ) (after now_at : At)
    → GoesOn front at place b packets at' place' before → drop taken kept ++ rest ≡ before → step_at at' place' c ≡ Takes read used after
    → c ≡ drop taken kept → now ≡ packets ++ read → now_at ≡ after
    → GoesOn front at place b now now_at (place' + used) (drop (taken + used) kept ++ rest)
going-joined front at place b packets now at' place' before kept rest c taken read used after now_at going same e here is is_at =
    λ whole more.
    let told = told_of whole after (place' + used) (drop used (drop taken kept) ++ (rest ++ more)) in
    going whole more ∙ ap (λ l. with_front packets (told_of whole at' place' (l ++ more))) (sym same)
    ∙ ap (λ l. with_front packets (told_of whole at' place' l)) (append_assoc (drop taken kept) rest more)
    ∙ ap (with_front packets)
    (step-takes whole at' place' (drop taken kept) (rest ++ more) read used after (ap (step_at at' place') (sym here) ∙ e))
    ∙ with_front-twice packets read told
    ∙ ap (λ l. with_front l told) (sym is)
    ∙ ap (λ l. with_front now (told_of whole after (place' + used) l))
    (sym (append_assoc (drop used (drop taken kept)) rest more) ∙ ap (λ l. l ++ rest ++ more) (drop-drop used taken kept))
    ∙ ap (λ a. with_front now (told_of whole a (place' + used) (drop (taken + used) kept ++ rest ++ more))) (sym is_at)

-- the step at what is kept
pub kept-needs : (at : At) (place : ℕ) (c kept : List ℕ) → c ≡ kept → Needs ≡ step_at at place c → step_at at place kept ≡ Needs
kept-needs at place c kept here e = ap (step_at at place) (sym here) ∙ sym e

pub stands-unfinished : (at : At) (place : ℕ) (c kept now : List ℕ) (asked : ℕ) → c ≡ kept → Needs ≡ step_at at place c
    → (length c < asked) × (asked ≤ 262172) → now ≡ kept → IsStanding (midway at place now None)
stands-unfinished at place c kept now asked here e le is = record {
  short = omega (arith, ap length is, ap length here, le.0, le.1);
  unfinished = ap (unit at place) is ∙ step-needs at place kept (kept-needs at place c kept here e);
}

pub kept-fails : (at : At) (place : ℕ) (c kept : List ℕ) (fault : FileFault) → c ≡ kept → Fails fault ≡ step_at at place c
    → step_at at place kept ≡ Fails fault
kept-fails at place c kept fault here e = ap (step_at at place) (sym here) ∙ sym e

pub front-twice : (first kept now : List ℕ) → take (length kept) now ≡ kept → take (length first) kept ≡ first
    → take (length first) now ≡ first
front-twice first kept now second front =
    let within : length first ≤ length kept = omega (arith, length-take (length first) kept, ap length front) in
    sym (take-take (length first) (length kept) now within) ∙ ap (take (length first)) second ∙ front

pub room-joined : (before kept rest c : List ℕ) (taken used place most : ℕ) → place + length before < most
    → drop taken kept ++ rest ≡ before
    → c ≡ drop taken kept → used ≤ length c → place + used + length (drop (taken + used) kept ++ rest) < most
room-joined before kept rest c taken used place most room same here le =
    omega (
      arith,
      ap length same,
      ap length here,
      length-append (drop taken kept) rest,
      length-append (drop (taken + used) kept) rest,
      length-drop taken kept,
      length-drop (taken + used) kept,
    )

pub taken-joined : (kept c : List ℕ) (taken used : ℕ) → taken ≤ length kept → c ≡ drop taken kept → used ≤ length c
    → taken + used ≤ length kept
taken-joined kept c taken used within here le = omega (arith, ap length here, length-drop taken kept)
