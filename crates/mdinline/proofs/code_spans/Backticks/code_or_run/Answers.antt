use Rattle.std.proofs.Common.{◌≤◌, ◌<◌, [], ◌∷◌, length, refl, ap, subst, sym, ◌∙◌, arith}
use Rattle.std.specs.List.{slice_range}
use Rattle.std.specs.Prelude.{slice_index}
use Rattle.mdscan.specs.Spans.{IsEndAfter, part}
use Rattle.mdinline.specs.held.BacktickTable.{KnowsStrings}
use Rattle.inlinespec.specs.CodeSpans.{as_one_line, code_content, unpadded}
use Rattle.inlinespec.specs.InlineEvents.{CodeSpan, written}
use Rattle.inlinespec.proofs.CodeContents.{content_is}
use Rattle.inlinespec.proofs.CodeLexemes.{some_ticks, closed_behind, found_code, missed_code}
use Rattle.mdinline.specs.held.Ticks.{AreTicksFrom}
use Rattle.mdinline.proofs.CodeTokens.{at_mark, content_span, ticks_token}
use Rattle.mdinline.proofs.FoundLeaves.{found_is, token_kept}
use Rattle.mdinline.proofs.Marks.{behind_next, past_code, same_place}
use Rattle.mdinline.proofs.code_spans.Backticks.code_or_run.Goals as goal

pub returns-in-Some-clause-end : goal.returns-in-Some-clause-end
returns-in-Some-clause-end c =
    past_code c.args.text.now c.as_bytes-bytes.result.now c.args.at c.past_marks-start.result c.in-Some.run' _ c.as_bytes-bytes.ensures.value c.utf8.text c.past_marks-start.ensures.end (rw c.in-Some.is at c.in_ok-run.ensures.place) c.leaf_of.ensures.end

pub returns-in-None-clause-end : goal.returns-in-None-clause-end
returns-in-None-clause-end c =
    subst (λ end. IsEndAfter c.args.text.now c.args.at end) (sym c.leaf_of-in-None.ensures.end)
    (behind_next c.args.text.now c.as_bytes-bytes.result.now c.args.at c.args.at c.past_marks-start.result c.as_bytes-bytes.ensures.value c.utf8.text (same_place c.args.at) c.past_marks-start.ensures.end)

pub returns-in-None-clause-token : goal.returns-in-None-clause-token
returns-in-None-clause-token c = λ first.
    token_kept c.args.text.now c.leaf_of-in-None.result _ c.leaf_of-in-None.ensures.token
    (ticks_token c.args.text.now c.as_bytes-bytes.result.now c.args.at c.past_marks-start.result c.as_bytes-bytes.ensures.value c.utf8.text c.requires.inside first
    c.past_marks-start.ensures.end c.past_marks-start.ensures.value)

pub returns-in-Some-clause-token : goal.returns-in-Some-clause-token
returns-in-Some-clause-token c = λ first.
    let text = c.args.text.now in
    let line = c.as_bytes-bytes.result.now in
    let start = c.past_marks-start.result in
    let run = c.in-Some.run' in
    let same = c.as_bytes-bytes.ensures.value in
    let place : AreTicksFrom line start run = rw c.in-Some.is at c.in_ok-run.ensures.place in
    let ends = place.ends in
    let later = ends.later in
    let within = subst (λ t. run.end ≤ length t) same ends.within in
    let behind = behind_next text line c.args.at c.args.at start same c.utf8.text (same_place c.args.at) c.past_marks-start.ensures.end in
    let mark = subst (λ t. slice_index t run.start < 128) same place.opens in
    let close = c.without_padding-content.ensures in
    token_kept text c.leaf_of.result _ c.leaf_of.ensures.token
    (content_span text line start run.start c.without_padding-content.result same c.utf8.text (omega (arith, later, within)) behind.whole (at_mark text run.start (omega (arith, later, within)) mark)
    close.from close.ordered close.to close.starts close.ends)

pub returns-in-Some-clause-value : goal.returns-in-Some-clause-value
returns-in-Some-clause-value c = λ first holds entities.
    let text = c.args.text.now in
    let line = c.as_bytes-bytes.result.now in
    let at = c.args.at in
    let start = c.past_marks-start.result in
    let run = c.in-Some.run' in
    let same = c.as_bytes-bytes.ensures.value in
    let is = c.past_marks-start.ensures.value in
    let held = subst (λ t. KnowsStrings t c.args.self.now) (sym same) holds in
    let found = rw c.in-Some.is at (c.in_ok-run.ensures.value (some_ticks text line at start same c.requires.inside first is) (closed_behind text line at start same c.requires.inside first is) held) in
    let place : AreTicksFrom line start run = rw c.in-Some.is at c.in_ok-run.ensures.place in
    let ends = place.ends in
    let later = ends.later in
    let within = subst (λ t. run.end ≤ length t) same ends.within in
    found_is entities text at run.end c.leaf_of.result _ (CodeSpan (code_content (slice_range text start run.start)) ∷ []) c.leaf_of.ensures.end c.leaf_of.ensures.token
    (ap (λ s. CodeSpan (as_one_line s) ∷ []) (ap (λ t. part t c.without_padding-content.result) (sym same) ∙ c.without_padding-content.ensures.value ∙ ap (λ t. unpadded (slice_range t start run.start)) same)
    ∙ ap (λ s. CodeSpan s ∷ []) (sym (content_is (slice_range text start run.start))))
    ∙ sym (found_code text line at start same c.requires.inside first is run.start run.end found place.from_there (omega (arith, later, within)) (rw c.in-Some.is at c.in_ok-run.ensures.size))

pub returns-in-None-clause-value : goal.returns-in-None-clause-value
returns-in-None-clause-value c = λ first holds entities.
    let text = c.args.text.now in
    let line = c.as_bytes-bytes.result.now in
    let at = c.args.at in
    let start = c.past_marks-start.result in
    let same = c.as_bytes-bytes.ensures.value in
    let is = c.past_marks-start.ensures.value in
    let held = subst (λ t. KnowsStrings t c.args.self.now) (sym same) holds in
    let none = rw c.in-None.is at (c.in_ok-run.ensures.value (some_ticks text line at start same c.requires.inside first is) (closed_behind text line at start same c.requires.inside first is) held) in
    found_is entities text at start c.leaf_of-in-None.result _ (written (slice_range text at start)) c.leaf_of-in-None.ensures.end c.leaf_of-in-None.ensures.token refl
    ∙ sym (missed_code text line at start same c.requires.inside first is none)
