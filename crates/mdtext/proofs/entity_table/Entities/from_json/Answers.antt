use Rattle.std.proofs.Common.{◌≡◌, None, ap, false}
use Rattle.std.proofs.lemmas.Bool.{false_from_ne_true}
use Rattle.std.proofs.lemmas.Str.{IsUtf8-from_is_utf8}
use Rattle.std.specs.Bool.{if◌then◌else◌}
use Rattle.std.specs.Option.{option_and_then}
use Rattle.std.specs.Str.{is_utf8}
use Rattle.serde_json.specs.Find.{as_object}
use Rattle.serde_json.specs.Read.{read}
use Rattle.mdtext.specs.EntityFile.{of_object, table_of}
use Rattle.mdtext.proofs.entity_table.Entities.from_json.Goals as goal

pub returns-in-Err-clause-err : goal.returns-in-Err-clause-err
returns-in-Err-clause-err c =
    let bytes = c.args.bytes.now in
    let no_text : is_utf8 bytes ≡ false = false_from_ne_true (is_utf8 bytes) (λ text. c.in-Err.ensures.cases.0 (IsUtf8-from_is_utf8 bytes text)) in
    λ other. ap (λ b. table_of (of_object (if b then option_and_then as_object (read bytes) else None))) no_text
