use Rattle.std.proofs.Common.{◌++◌, ◌∷◌, [], ap, ◌∙◌, arith, string_bytes, rules}
use Rattle.std.proofs.lemmas.Result.{on_ok_weaker}
use Rattle.std.proofs.lemmas.Str.Pattern.{split_parts}
use Rattle.mdtext.specs.HtmlEscapes.{escaped}
use Rattle.inlinespec.specs.CodeSpans.{as_one_line}
use Rattle.mdhtml.proofs.InlineWriterSteps.{line_written, last_written}
use Rattle.mdhtml.proofs.code_spans.write_as_one_line.Goals as goal

pub loop-line-preserved : goal.loop-line-preserved
loop-line-preserved c =
    let parts = rw c.in-Some.is at (split_parts 10 c.loop-line.rest.now _ c.split_once.ensures.cases (omega arith)) in
    let space = c.in_ok-push_str.ensures.bytes ∙ ap (λ t. t ++ 32 ∷ []) c.in_ok-escape_text.ensures.ok in
    record {
      text = search rules;
      written = ap (λ t. t ++ escaped (as_one_line c.in-Some.after.now)) space
          ∙ line_written (string_bytes c.loop-line.out) c.in-Some.line.now c.in-Some.after.now c.loop-line.rest.now _ parts.1 parts.0 c.loop-line.invariant.written;
    }

pub returns : goal.returns
returns c =
    let none = rw c.in_default.is at (split_parts 10 c.loop-line.rest.now _ c.split_once.ensures.cases (omega arith)) in
    on_ok_weaker c.escape_text-2.result (λ e. e ∙ last_written (string_bytes c.loop-line.out) c.loop-line.rest.now _ none c.loop-line.invariant.written) c.escape_text-2.ensures.ok
