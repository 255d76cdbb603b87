use Rattle.std.proofs.Common.{sym, ap, ◌∙◌, string_bytes}
use Rattle.std.proofs.lemmas.Str.{utf8_lossy-IsUtf8, IsUtf8-string_bytes}
use Rattle.std.specs.Str.Lossy.{utf8_lossy}
use Rattle.mdtool.proofs.converting.lossy_text.Goals as goal

-- what is text is read as it is
pub returns-in-Ok : goal.returns-in-Ok
returns-in-Ok c =
    sym (utf8_lossy-IsUtf8 (string_bytes c.in-Ok.text) (IsUtf8-string_bytes c.in-Ok.text)) ∙ ap (λ v. utf8_lossy v.items) c.in-Ok.ensures.ok
