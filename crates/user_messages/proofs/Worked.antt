-- Worked captures, computed on the definitions.
use Rattle.std.specs.Prelude.{◌≡◌, ℕ, Bool, true, false, List, [], ◌∷◌, None, refl}
use Rattle.user_messages.specs.declared.given.Given.TheVariants.{Whole, Repeated, Waits}
use Rattle.user_messages.specs.Chunks.{goes_on}
use Rattle.user_messages.specs.Gathering.{Received, nothing, took, first_copy, run_of, up_to, after}
use Rattle.user_messages.specs.Captures.{all_given}

-- a chunk of M3UA between two ports 2905, of stream 0
chunk : ℕ → ℕ → ℕ → Bool → Bool → List ℕ → Received
chunk place tag tsn begins ends payload = record {
  place = record { packet = place; chunk = 1 };
  chunk = record {
    flow = record { source = 2905; destination = 2905; tag = tag };
    tsn = tsn;
    stream = 0;
    sequence = 0;
    protocol = 3;
    unordered = false;
    begins = begins;
    ends = ends;
    payload = payload;
  };
}

first : ℕ → Received
unfolding chunk
first place = chunk place 287454020 4294967295 true false (97 ∷ 98 ∷ [])

middle : ℕ → Received
unfolding chunk
middle place = chunk place 287454020 0 false false (99 ∷ 100 ∷ [])

last : ℕ → Received
unfolding chunk
last place = chunk place 287454020 1 false true (101 ∷ 102 ∷ [])

-- three chunks in order, over the end of the numbers
in_order : all_given nothing (first 1 ∷ middle 2 ∷ last 3 ∷ [])
    ≡ Waits None ∷ Waits None ∷ Whole (97 ∷ 98 ∷ 99 ∷ 100 ∷ 101 ∷ 102 ∷ []) ∷ []
unfolding all_given took first_copy run_of up_to after goes_on chunk first middle last
in_order = refl

-- the last first, the middle one last, and repeats before and after the message is whole
out_of_order : all_given nothing (last 1 ∷ first 2 ∷ first 3 ∷ middle 4 ∷ middle 5 ∷ [])
    ≡ Waits None ∷ Waits None ∷ Repeated ∷ Whole (97 ∷ 98 ∷ 99 ∷ 100 ∷ 101 ∷ 102 ∷ []) ∷ Repeated ∷ []
unfolding all_given took first_copy run_of up_to after goes_on chunk first middle last
out_of_order = refl

-- a message of one chunk comes twice: in an association, and without one
in_association : all_given nothing (chunk 1 287454020 7 true true (120 ∷ []) ∷ chunk 2 287454020 7 true true (120 ∷ []) ∷ [])
    ≡ Whole (120 ∷ []) ∷ Repeated ∷ []
unfolding all_given took first_copy run_of up_to after goes_on chunk
in_association = refl

without_association : all_given nothing (chunk 1 0 7 true true (120 ∷ []) ∷ chunk 2 0 7 true true (120 ∷ []) ∷ [])
    ≡ Whole (120 ∷ []) ∷ Whole (120 ∷ []) ∷ []
unfolding all_given took first_copy run_of up_to after goes_on chunk
without_association = refl
