use Rattle.memchr.specs.Find.{IsFirstByte, is_byte}
use Rattle.std.proofs.Common.{None, subst, ◌++◌, ◌∷◌, [], ap, ◌∙◌, arith, string_bytes}
use Rattle.std.proofs.lemmas.Str.Pattern.{split_parts}
use Rattle.mdleaf.specs.Tables.{cell_text}
use Rattle.mdleaf.proofs.CellTexts.{after_bar, not_found, write_bar, write_rest}
use Rattle.mdleaf.proofs.tables.cell_text.Goals as goal

pub returns-in-None : goal.returns-in-None
returns-in-None c =
    let none = subst (IsFirstByte (is_byte 124) c.as_bytes.result.now) c.in-None.is c.memchr.ensures in
    c.in_ok-from_str.ensures.ok ∙ not_found c.args.cell.now (subst (λ t. IsFirstByte (is_byte 124) t None) c.as_bytes.ensures.value none)

pub loop-before-preserved : goal.loop-before-preserved
loop-before-preserved c =
    let parts = rw c.in-Some.is at (split_parts 124 c.loop-before.rest.now _ c.split_once.ensures.cases (omega arith)) in
    let front = c.in_ok-push_str.ensures.bytes ∙ ap (λ t. string_bytes c.loop-before.text ++ t) c.before_bar.ensures in
    let written = c.in_ok-push.ensures.bytes ∙ ap (λ t. string_bytes c.push_str.new.self ++ t) (c.in_ok-push.ensures.ascii (omega arith)) ∙ ap (λ t. t ++ 124 ∷ []) front in
    record {
      text = after_bar c.loop-before.rest.now c.in-Some.before.now c.in-Some.after.now parts.0 c.loop-before.invariant.text;
      so_far = ap (λ t. t ++ cell_text c.in-Some.after.now) written ∙ write_bar (cell_text c.args.cell.now) c.loop-before.rest.now c.in-Some.before.now c.in-Some.after.now (string_bytes c.loop-before.text) parts.0 parts.1 c.loop-before.invariant.so_far;
    }

pub returns : goal.returns
returns c =
    let none = rw c.in_default-split_once.is at (split_parts 124 c.loop-before.rest.now _ c.split_once.ensures.cases (omega arith)) in
    c.in_ok-push_str-2.ensures.bytes ∙ write_rest (cell_text c.args.cell.now) c.loop-before.rest.now (string_bytes c.loop-before.text) none c.loop-before.invariant.so_far
