use Rattle.std.proofs.Common.{◌≡◌, ◌+◌, ◌-◌, [], ◌∷◌, take, drop, refl, ap, sym, ◌∙◌, arith}
use Rattle.std.specs.List.{slice_range}
use Rattle.mdtext.proofs.Meanings.{punct_bounds}
use Rattle.inlinespec.specs.InlineEvents.{HardBreak, written}
use Rattle.inlinespec.specs.Lexemes.{leaf}
use Rattle.inlinespec.proofs.EscapesBreaks.{escaped_there, hard_there, bare_there, last_there}
use Rattle.mdinline.proofs.FoundLeaves.{found_is}
use Rattle.mdinline.proofs.Marks.{after_next}
use Rattle.mdinline.proofs.backslash_escapes.escape.Goals as goal

pub returns-then-is_ascii_punctuation-clause-end : goal.returns-then-is_ascii_punctuation-clause-end
returns-then-is_ascii_punctuation-clause-end c =
    let b = punct_bounds _ (sym c.if-is_ascii_punctuation.ensures.value) in
    after_next c.args.text.now c.as_bytes-bytes.result.now c.args.at _ c.as_bytes-bytes.ensures.value c.utf8.text c.if-next-bytes.false b.1 c.leaf_of-then-is_ascii_punctuation.ensures.end

pub returns-then-next-bytes-clause-value : goal.returns-then-next-bytes-clause-value
returns-then-next-bytes-clause-value c = λ first entities.
    last_there c.args.text.now c.as_bytes-bytes.result.now c.args.at c.as_bytes-bytes.ensures.value c.requires.inside c.if-next-bytes.true

pub returns-then-byte-eq10-clause-value : goal.returns-then-byte-eq10-clause-value
returns-then-byte-eq10-clause-value c = λ first entities.
    found_is entities c.args.text.now c.args.at c.past_break.result c.leaf_of.result _ (HardBreak ∷ []) c.leaf_of.ensures.end c.leaf_of.ensures.token refl
    ∙ sym (hard_there c.args.text.now c.as_bytes-bytes.result.now c.args.at c.past_break.result c.as_bytes-bytes.ensures.value first c.if-next-bytes.false c.if-byte-eq10.true c.past_break.ensures.value)

pub returns-then-is_ascii_punctuation-clause-value : goal.returns-then-is_ascii_punctuation-clause-value
returns-then-is_ascii_punctuation-clause-value c = λ first entities.
    let next = c.args.at + 1 in
    let part = written (slice_range c.args.text.now next (next + 1)) in
    found_is entities c.args.text.now c.args.at (next + 1) c.leaf_of-then-is_ascii_punctuation.result c.byte_token.result part c.leaf_of-then-is_ascii_punctuation.ensures.end
    c.leaf_of-then-is_ascii_punctuation.ensures.token
    (c.byte_token.ensures.value entities ∙ ap (λ k. written (take k (drop next c.args.text.now))) (let size : 1 ≡ next + 1 - next = omega arith in size))
    ∙ ap (λ k. leaf k part) (let size : next + 1 - c.args.at ≡ 2 = omega arith in size)
    ∙ sym (escaped_there c.args.text.now c.as_bytes-bytes.result.now c.args.at c.as_bytes-bytes.ensures.value first c.if-next-bytes.false (sym c.if-is_ascii_punctuation.ensures.value))

pub returns-clause-value : goal.returns-clause-value
returns-clause-value c = λ first entities.
    bare_there c.args.text.now c.as_bytes-bytes.result.now c.args.at c.as_bytes-bytes.ensures.value first c.if-next-bytes.false (sym c.if-is_ascii_punctuation.ensures.value) c.if-byte-eq10.false
