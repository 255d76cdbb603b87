use Rattle.std.proofs.Common.{◌≡◌, ◌∙◌, Err, ap, sym}
use Rattle.std.proofs.lemmas.Result.{IfErr-weaker, IfOk-weaker}
use Rattle.std.proofs.lemmas.Str.{is_utf8-from_IsUtf8}
use Rattle.mdtext.specs.EntityFile.{file_names, of_object, or_fault}
use Rattle.mdtext.specs.MemberTexts.{gathered, given_table}
use Rattle.mdtext.specs.declared.entity_file.TableFault.TheVariants.{BadEntry}
use Rattle.mdtext.proofs.TokenReading.{file_is}
use Rattle.mdtext.proofs.entity_reading.read_table.Goals as goal

told : (c : goal.After-drop-scratch-3) → file_names c.args.text.now ≡ or_fault BadEntry (given_table (gathered c.in_ok-members.members))
told c =
    let found = c.in_ok-members.ensures.ok in
    file_is c.args.text.now c.in_ok-reader.reader (is_utf8-from_IsUtf8 c.args.text.now c.utf8.text) c.in_ok-reader.ensures.ok ∙ ap of_object found.1 ∙ ap (or_fault BadEntry) found.2

pub returns-clause-ok : goal.returns-clause-ok
returns-clause-ok c = IfOk-weaker c.into_table.result _ _ (λ texts is. told c ∙ ap (or_fault BadEntry) is) c.into_table.ensures.ok

pub returns-clause-err : goal.returns-clause-err
returns-clause-err c = IfErr-weaker c.into_table.result _ _ (λ fault bad other. told c ∙ ap (or_fault BadEntry) (bad other).1 ∙ ap Err (sym (bad other).0)) c.into_table.ensures.err
