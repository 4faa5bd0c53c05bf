-- The first file of a name, and the file at a place.
use Rattle.std.proofs.Common.{◌≡◌, ◌<◌, ℕ, suc, List, [], ◌∷◌, Some, length, true, cond, get_or, drop, sym, ◌∙◌, ap}
use Rattle.std.proofs.Math.Seq.{drop-cons}
use Rattle.std.proofs.lemmas.Option.{slice_get-get_or, slice_get-map}
use Rattle.std.specs.Option.{option_map_or, option_map}
use Rattle.std.specs.Prelude.{String, string_bytes, Vec}
use Rattle.std.specs.Str.{bytes_eq}
use Rattle.std.specs.declared.alloc.Global.{Global}
use Rattle.sccp_io.specs.Memory.{File, file_named, file_at, files_in}

-- the octets of the file at a place
pub file_at-in : (files : List (String Global × Vec ℕ Global)) (place : ℕ) (file : String Global × Vec ℕ Global) → place < length files
    → file ≡ get_or files place file → file_at (files_in files) place ≡ file.1.items
file_at-in files place file within is =
    ap (λ f. option_map_or (λ (g : File). g.1) f [])
    (slice_get-map (λ (g : String Global × Vec ℕ Global). (string_bytes g.0, g.1.items)) files place
    ∙ ap (option_map (λ (g : String Global × Vec ℕ Global). (string_bytes g.0, g.1.items))) (slice_get-get_or files place file within
    ∙ ap Some (sym is)))

head_named : (file : File) (files : List File) (name : List ℕ) → bytes_eq file.0 name ≡ true → file_named (file ∷ files) name ≡ Some file.1
head_named file files name same = ap (λ b. cond b (Some file.1) (file_named files name)) same

-- the file at that place is the first one from there on that has the name
pub named_from : (files : List (String Global × Vec ℕ Global)) (place : ℕ) (name : List ℕ) (file : String Global × Vec ℕ Global)
    → place < length files
    → file ≡ get_or files place file → bytes_eq (string_bytes file.0) name ≡ true
    → file_named (files_in (drop place files)) name ≡ Some (file_at (files_in files) place)
named_from files place name file within is same =
    ap (λ fs. file_named (files_in fs) name) (drop-cons files place file within ∙ ap (λ f. f ∷ drop (suc place) files) (sym is))
    ∙ head_named (string_bytes file.0, file.1.items) (files_in (drop (suc place) files)) name same
    ∙ ap Some (sym (file_at-in files place file within is))
