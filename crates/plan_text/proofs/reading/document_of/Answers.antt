use Rattle.std.proofs.Common.{sym, ap, ◌∙◌, refl, inr}
use Rattle.toml.specs.Parse.{parse_document}
use Rattle.plan_text.proofs.Documents.{no_document, parsed}
use Rattle.plan_text.proofs.reading.document_of.Goals as goal

pub returns-in_default-clause-refused : goal.returns-in_default-clause-refused
returns-in_default-clause-refused c = inr (refl, no_document c.args.text.now c.in_default.ensures.cases.0)

pub returns-in-Ok-table_from_str-clause-read : goal.returns-in-Ok-table_from_str-clause-read
returns-in-Ok-table_from_str-clause-read c =
    let text = c.in-Ok.ensures.cases in
    parsed c.args.text.now text.1 ∙ ap parse_document (sym text.0) ∙ c.in-Ok-table_from_str.ensures.ok
