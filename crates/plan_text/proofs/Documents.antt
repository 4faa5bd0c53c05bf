-- the document of a text
use Rattle.std.specs.Prelude.{ℕ, ◌≡◌, List, None, refl}
use Rattle.std.specs.Str.{IsUtf8, is_utf8}
use Rattle.std.proofs.Common.{inl, inr}
use Rattle.std.proofs.lemmas.Bool.{cases_Bool}
use Rattle.std.proofs.lemmas.Str.{IsUtf8-from_is_utf8, is_utf8-from_IsUtf8}
use Rattle.toml.specs.Parse.{parse_document}
use Rattle.plan_text.specs.PlanText.{document_of}

-- a text that is not UTF-8 has no document
pub no_document : (text : List ℕ) → ¬ (IsUtf8 text) → document_of text ≡ None
unfolding document_of
no_document text not =
    elim (cases_Bool (is_utf8 text)) [
      | inl h ↦ absurd (not (IsUtf8-from_is_utf8 text h))
      | inr h ↦ rw h refl
    ]

pub parsed : (text : List ℕ) → IsUtf8 text → document_of text ≡ parse_document text
unfolding document_of
parsed text h = rw (is_utf8-from_IsUtf8 text h) refl
