-- what the targets so far make of a class
use Rattle.std.specs.Prelude.{ℕ, ◌≡◌, ◌+◌, ◌<◌, ◌≤◌, List, [], ◌∷◌, ◌++◌, length, IsSomeAnd, slice_get}
use Rattle.std.specs.List.{All, Contains}
use Rattle.std.proofs.Common.{subst, ⊎_elim, arith}
use Rattle.std.proofs.lemmas.Bool.{cases_lt}
use Rattle.std.proofs.lemmas.Option.{slice_get_within}
use Rattle.std.proofs.lemmas.List.Elements.{All-push, Contains-append_left, Contains-push}
use Rattle.plan_model.specs.Network.{Network}
use Rattle.plan_classes.specs.declared.leads.Image.{Image}
use Rattle.plan_classes.specs.Titles.{Titles}
use Rattle.plan_classes.specs.Classes.{class_targets, Reaches, image_at, HasImage}
use Rattle.plan_classes.proofs.Taking.{one_image}
use Rattle.plan_check.specs.Checks.{LeadsTo}
use Rattle.plan_check.proofs.Soundness.{some_of}

-- the images of this number of targets
pub record AreImages (plan : Network) (c : Titles) (count : ℕ) (images : List Image) : Type 0 where
  pub each : All (LeadsTo plan c) images
  pub every : (place : ℕ) (image : Image) → place < count → Reaches plan c place → HasImage plan c place image → Contains images image

-- a target that leads somewhere is one of the class's
inside : (plan : Network) (c : Titles) (place : ℕ) (image : Image) → HasImage plan c place image → place < length (class_targets plan c)
inside plan c place image h =
    let node = some_of (slice_get plan.nodes c.node) (λ node. IsSomeAnd (slice_get (class_targets plan c) place)
    (λ t. image ≡ image_at plan node c t)) h in
    let target = some_of (slice_get (class_targets plan c) place) (λ t. image ≡ image_at plan node.0 c t) node.2 in
    slice_get_within (class_targets plan c) place target.0 target.1

pub images_pushed : (plan : Network) (c : Titles) (count : ℕ) (images : List Image) (new : List Image) (image : Image)
    → new ≡ images ++ image ∷ [] → AreImages plan c count images → Reaches plan c count → HasImage plan c count image
    → AreImages plan c (count + 1) new
images_pushed plan c count images new image is h reached has = rw is (record {
  each = All-push (LeadsTo plan c) images image h.each (count, reached, has);
  every = λ place other lt there leads. ⊎_elim
      (λ (before : place < count). Contains-append_left images (image ∷ []) other (h.every place other before there leads))
      (λ (past : count ≤ place).
      let same : place ≡ count = omega (arith, lt, past) in
      let one : image ≡ other = one_image plan c count image other has (subst (λ (n : ℕ). HasImage plan c n other) same leads) in
      subst (Contains (images ++ image ∷ [])) one (Contains-push images image))
      (cases_lt place count);
})

pub images_kept : (plan : Network) (c : Titles) (count : ℕ) (images : List Image) → AreImages plan c count images
    → (Reaches plan c count → ⊥) → AreImages plan c (count + 1) images
images_kept plan c count images h unreached = record {
  each = h.each;
  every = λ place other lt there leads. ⊎_elim
      (λ (before : place < count). h.every place other before there leads)
      (λ (past : count ≤ place).
      let same : place ≡ count = omega (arith, lt, past) in
      absurd (unreached (subst (Reaches plan c) same there)))
      (cases_lt place count);
}

pub images_whole : (plan : Network) (c : Titles) (count : ℕ) (images : List Image) → length (class_targets plan c) ≤ count
    → AreImages plan c count images → (image : Image) → LeadsTo plan c image → Contains images image
images_whole plan c count images all h image led = h.every led.0 image (omega (arith, all, inside plan c led.0 image led.2)) led.1 led.2
