-- The batch that has begun, as lines join it.
use Rattle.std.proofs.Common.{◌≡◌, ◌+◌, ◌<◌, ◌≤◌, ℕ, List, [], ◌∷◌, ◌++◌, length, false, Result, Ok, Err, sym, ap, arith, length-append}
use Rattle.std.specs.List.{All}
use Rattle.std.specs.Prelude.{OnOk}
use Rattle.std.proofs.lemmas.List.Elements.{All-nil, All-push, All-same}
use Rattle.plan_model.specs.Network.{Network}
use Rattle.sccp_report.specs.Roles.{StandsIn, role_of}
use Rattle.sccp_replay.specs.Gathering.{HasTaken, IsBegun, IsJoined, MayBeDone, MayTake, joining_role, lines_in}
use Rattle.sccp_replay.specs.Progress.{IsCounted}
use Rattle.sccp_replay.specs.Replay.{Standing, is_full}
use Rattle.sccp_replay.specs.declared.joined.Joined.{Joined}
use Rattle.sccp_replay.specs.declared.progress.Progress.{Progress}
use Rattle.sccp_work.specs.declared.stop.Stop.{Stop}

-- without a line
empty_begun : (plan : Network) (batch : List Joined) → batch ≡ [] → IsBegun plan batch
empty_begun plan batch none = record {
  few = ap (λ b. is_full (lines_in b)) none;
  joined = All-same (IsJoined plan) batch [] none (All-nil (IsJoined plan));
}

-- before the first line
pub none_counted : (at : Standing) (p : Progress) → at.later ≡ [] → p.batch ≡ [] → IsCounted at p
none_counted at p no_plan none =
    let plans : length at.later ≡ 0 = ap length no_plan in
    let lines : length p.batch ≡ 0 = ap length none in
    record { begun = empty_begun at.first p.batch none; few = omega (arith, plans, lines) }

-- ---- one more line

-- it adds nothing
pub none_taken : (at : Standing) (batch : List Joined) → MayTake 1 at batch → HasTaken 1 at batch at batch
none_taken at batch may = record { begun = may.begun; few = omega arith }

-- the batch before it may be done
pub may_be_done : (at : Standing) (batch : List Joined) → MayTake 1 at batch → MayBeDone at batch
may_be_done at batch may = let few = may.few in record { joined = may.begun.joined; few = omega (arith, few) }

-- the batch before it is done, and none has begun
pub alone_begun : (at at' : Standing) (batch batch' : List Joined) (r : Result (Unit {0}) Stop) → OnOk r (batch' ≡ [])
    → OnOk r (length at'.later ≤ length at.later + length batch)
    → OnOk r (HasTaken 1 at batch at' batch')
alone_begun at at' batch batch' (Ok done) none few =
    let lines : length batch' ≡ 0 = ap length none in
    record { begun = empty_begun at'.first batch' none; few = omega (arith, few, lines) }
alone_begun at at' batch batch' (Err stop) none few = tt

-- it joins the batch
more : (batch whole : List Joined) (one : Joined) → whole ≡ batch ++ one ∷ [] → length whole ≡ length batch + 1
more batch whole one is = let e : length whole ≡ length (batch ++ one ∷ []) =
    ap length is in omega (arith, e, length-append batch (one ∷ []))

all_joined : (plan : Network) (batch whole : List Joined) (one : Joined) → whole ≡ batch ++ one ∷ [] → All (IsJoined plan) batch
    → joining_role one.joining ≡ role_of plan one.line.line → StandsIn plan (joining_role one.joining) → All (IsJoined plan) whole
all_joined plan batch whole one is joined role stands =
    All-same (IsJoined plan) whole (batch ++ one ∷ []) is (All-push (IsJoined plan) batch one joined (role, stands))

pub more_joined : (at : Standing) (batch whole : List Joined) (one : Joined) → whole ≡ batch ++ one ∷ [] → MayTake 1 at batch
    → joining_role one.joining ≡ role_of at.first one.line.line → StandsIn at.first (joining_role one.joining) → MayBeDone at whole
more_joined at batch whole one is may role stands =
    let few = may.few in
    record {
      joined = all_joined at.first batch whole one is may.begun.joined role stands;
      few = omega
          (arith, few, more batch whole one is);
    }

pub more_begun : (at : Standing) (batch whole : List Joined) (one : Joined) → whole ≡ batch ++ one ∷ [] → MayTake 1 at batch
    → joining_role one.joining ≡ role_of at.first one.line.line → StandsIn at.first (joining_role one.joining)
    → false ≡ is_full (lines_in whole) → HasTaken 1 at batch at whole
more_begun at batch whole one is may role stands few = record {
  begun = record { few = sym few; joined = all_joined at.first batch whole one is may.begun.joined role stands };
  few = omega (arith, more batch whole one is);
}

-- and is full with it
pub full_begun : (at at' : Standing) (batch whole batch' : List Joined) (one : Joined) (r : Result (Unit {0}) Stop)
    → whole ≡ batch ++ one ∷ [] → OnOk r (batch' ≡ [])
    → OnOk r (length at'.later ≤ length at.later + length whole) → OnOk r (HasTaken 1 at batch at' batch')
full_begun at at' batch whole batch' one (Ok done) is none few =
    let lines : length batch' ≡ 0 = ap length none in
    record { begun = empty_begun at'.first batch' none; few = omega (arith, few, lines, more batch whole one is) }
full_begun at at' batch whole batch' one (Err stop) is none few = tt

-- ---- more lines

pub begun_taken : (lines : ℕ) (at : Standing) (batch : List Joined) → MayTake lines at batch → HasTaken 0 at batch at batch
begun_taken lines at batch may = record { begun = may.begun; few = omega arith }

pub may_go_on : (lines taken : ℕ) (at at' : Standing) (batch batch' : List Joined) → MayTake lines at batch
    → HasTaken taken at batch at' batch' → taken < lines → MayTake 1 at' batch'
may_go_on lines taken at at' batch batch' may has lt =
    let few = may.few in
    let so_far = has.few in
    record { begun = has.begun; few = omega (arith, few, so_far, lt) }

pub more_taken : (taken : ℕ) (at at' at'' : Standing) (batch batch' batch'' : List Joined) → HasTaken taken at batch at' batch'
    → HasTaken 1 at' batch' at'' batch'' → HasTaken (taken + 1) at batch at'' batch''
more_taken taken at at' at'' batch batch' batch'' has one =
    let so_far = has.few in
    let now = one.few in
    record { begun = one.begun; few = omega (arith, so_far, now) }

pub may_take : (lines : ℕ) (at : Standing) (p : Progress) → IsCounted at p → p.count + lines ≤ 1000000 → MayTake lines at p.batch
may_take lines at p is le = let few = is.few in record { begun = is.begun; few = omega (arith, few, le) }

pub counted : (lines : ℕ) (at at' : Standing) (p p' : Progress) → IsCounted at p → HasTaken lines at p.batch at' p'.batch
    → p'.count ≡ p.count + lines → IsCounted at' p'
counted lines at at' p p' is has e =
    let few = is.few in
    let so_far = has.few in
    record { begun = has.begun; few = omega (arith, few, so_far, e) }

pub counted_done : (at : Standing) (p : Progress) → IsCounted at p → p.count ≤ 1000000 → MayBeDone at p.batch
counted_done at p is le = let few = is.few in record { joined = is.begun.joined; few = omega (arith, few, le) }
