use Rattle.std.proofs.Common.{◌++◌, ◌∷◌, [], ap, ◌∙◌, arith, string_bytes, rules}
use Rattle.std.proofs.lemmas.Str.Pattern.{split_parts}
use Rattle.inlinespec.specs.CodeSpans.{as_one_line}
use Rattle.inlinespec.proofs.CodeContents.{write_last, write_line}
use Rattle.mdinline.proofs.trees.code_of.Goals as goal

pub loop-line-preserved : goal.loop-line-preserved
loop-line-preserved c =
    let parts = rw c.in-Some.is at (split_parts 10 c.loop-line.rest.now _ c.split_once.ensures.cases (omega arith)) in
    let line = c.in_ok-push_str.ensures.bytes in
    let space = c.in_ok-push_str-2.ensures.bytes ∙ ap (λ t. t ++ 32 ∷ []) line in
    record {
      text = search rules;
      written = ap (λ t. t ++ as_one_line c.in-Some.after.now) space
          ∙ write_line (string_bytes c.loop-line.code) c.in-Some.line.now c.in-Some.after.now c.loop-line.rest.now (as_one_line c.args.content.now) parts.1 parts.0 c.loop-line.invariant.written;
    }

pub returns : goal.returns
returns c =
    let none = rw c.in_default.is at (split_parts 10 c.loop-line.rest.now _ c.split_once.ensures.cases (omega arith)) in
    c.in_ok-push_str-3.ensures.bytes ∙ write_last (string_bytes c.loop-line.code) c.loop-line.rest.now (as_one_line c.args.content.now) none c.loop-line.invariant.written
