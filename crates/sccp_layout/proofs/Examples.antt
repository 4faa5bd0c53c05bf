-- Parts of worked messages, found and written by the definitions.
use Rattle.std.specs.Prelude.{◌≡◌, ℕ, true, false, List, [], ◌∷◌, replicate, Ok, Err, refl}
use Rattle.sccp_layout.specs.declared.shape.Layout.{Layout}
use Rattle.sccp_layout.specs.declared.parts.Parts.{Parts}
use Rattle.sccp_layout.specs.declared.parts.SplitFault.TheVariants as split
use Rattle.sccp_layout.specs.declared.parts.JoinFault.TheVariants.{TooLong, PointerTooFar}
use Rattle.sccp_layout.specs.Parameter.{Parameter, parameter}
use Rattle.sccp_layout.specs.Splitting.{parts_by, parts_of}
use Rattle.sccp_layout.specs.Joining.{joining}

-- RLC, and RLC without its last octet
release_complete : parts_of (0x05 ∷ 0x11 ∷ 0x00 ∷ 0x00 ∷ 0x01 ∷ 0x00 ∷ 0x00 ∷ [])
    ≡ Ok (record { code = 5; fixed = 0x11 ∷ 0x00 ∷ 0x00 ∷ 0x01 ∷ 0x00 ∷ 0x00 ∷ []; variable = []; params = [] })
unfolding parts_by
release_complete = refl

cut_off : parts_of (0x05 ∷ 0x11 ∷ 0x00 ∷ 0x00 ∷ 0x01 ∷ 0x00 ∷ []) ≡ Err split.Short
unfolding parts_by
cut_off = refl

abbrev dt1 : Layout
dt1 = record { fixed = 4; variable = 1; optional = false; long = false }

-- data of 255 octets, and of one more
abbrev data_form : ℕ → Parts
data_form count = record { code = 6; fixed = 0 ∷ 0 ∷ 1 ∷ 0 ∷ []; variable = replicate count 0 ∷ []; params = [] }

longest : joining dt1 (data_form 255) ≡ Ok (6 ∷ 0 ∷ 0 ∷ 1 ∷ 0 ∷ 1 ∷ 255 ∷ replicate 255 0)
longest = refl

too_long : joining dt1 (data_form 256) ≡ Err (TooLong 0)
too_long = refl

abbrev xudt : Layout
xudt = record { fixed = 2; variable = 3; optional = true; long = false }

-- a called address of `called` octets, a calling one of 4, data of 230 octets, and optional parameters
abbrev extended : ℕ → List Parameter → Parts
extended called params = record {
  code = 17;
  fixed = 0 ∷ 15 ∷ [];
  variable = replicate called 0 ∷ replicate 4 0 ∷ replicate 230 0
      ∷ [];
  params = params;
}

-- The pointer to the optional part would be 257; without parameters it is 0. A parameter that is too long is reported first.
too_far : joining xudt (extended 19 (parameter 0x12 (3 ∷ []) ∷ [])) ≡ Err (PointerTooFar 3)
too_far = refl

too_long_before_too_far : joining xudt (extended 19 (parameter 0x12 (replicate 256 0) ∷ [])) ≡ Err (TooLong 3)
too_long_before_too_far = refl
