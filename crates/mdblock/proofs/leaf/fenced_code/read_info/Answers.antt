use Rattle.std.proofs.Common.{not, ◌++◌, ap, ◌∙◌}
use Rattle.std.specs.List.{prefix_len}
use Rattle.mdtext.specs.Unescaped.{unescaped}
use Rattle.mdleaf.specs.CodeLanguage.{behind_word, ends_language}
use Rattle.mdblock.proofs.LeafTexts.{word_ends, language_is, meta_is}
use Rattle.mdblock.proofs.leaf.fenced_code.read_info.Goals as goal

pub truncate-requires : goal.truncate-requires
truncate-requires c =
    let b = word_ends _ c.word_length-end.result (c.word_length-end.ensures ∙ ap (prefix_len (λ b. not (ends_language b))) c.as_bytes.ensures.value) in
    λ _. (b.0, λ _. b.1)

pub returns-clause-lang : goal.returns-clause-lang
returns-clause-lang c =
    let info = c.args.info.now in
    let whole = c.in_ok-unescape.ensures.ok ∙ ap (λ t. t ++ unescaped c.entities.result.now info) c.new-lang.ensures.bytes ∙ ap (λ e. unescaped e info) c.entities.ensures in
    language_is _ info _ _ c.word_length-end.result whole (c.word_length-end.ensures ∙ ap (prefix_len (λ b. not (ends_language b))) c.as_bytes.ensures.value) c.truncate.ensures.bytes

pub returns-clause-meta : goal.returns-clause-meta
returns-clause-meta c =
    let info = c.args.info.now in
    let whole = c.in_ok-unescape.ensures.ok ∙ ap (λ t. t ++ unescaped c.entities.result.now info) c.new-lang.ensures.bytes ∙ ap (λ e. unescaped e info) c.entities.ensures in
    meta_is _ info _ _ whole (c.in_ok-meta.ensures.ok ∙ c.behind_word.ensures ∙ ap behind_word c.deref.ensures)
