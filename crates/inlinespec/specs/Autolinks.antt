-- Autolinks (CommonMark 6.5): entity and numeric character references (CommonMark 2.5) are replaced in the text and the destination of one; backslash
-- escapes (CommonMark 2.4) do not work in them.
use Rattle.std.specs.Prelude.{ℕ, ◌+◌, ◌-◌, Bool, true, false, List, [], take, drop, ◌++◌, codes}
use Rattle.mdtext.specs.EntityTable.{EntityTable}
use Rattle.mdscan.specs.declared.autolinks.Auto.{Auto}
use Rattle.inlinespec.specs.InlineEvents.{LinkTo, written, within}
use Rattle.inlinespec.specs.Lexemes.{Lexeme, leaf}
use Rattle.inlinespec.specs.LabelMap.{LinkTarget}
use Rattle.inlinespec.specs.CharacterReferences.{without_references}

-- what stands between `<` and `>`
abbrev pub autolink_text : EntityTable → List ℕ → ℕ → Auto → List ℕ
autolink_text entities text at auto = without_references entities 0 (take (auto.end - at - 2) (drop (at + 1) text))

-- A mail address leads to `mailto:` and the address.
abbrev pub scheme_before : (mail : Bool) → List ℕ
scheme_before true = codes "mailto:"
scheme_before false = []

abbrev pub autolink_target : Auto → List ℕ → LinkTarget
autolink_target auto shown = record { url = scheme_before auto.mail ++ shown; title = [] }

abbrev pub autolink_lexeme : EntityTable → List ℕ → ℕ → Auto → Lexeme
autolink_lexeme entities text at auto =
    let shown = autolink_text entities text at auto in
    leaf (auto.end - at) (within (LinkTo (autolink_target auto shown)) (written shown))
