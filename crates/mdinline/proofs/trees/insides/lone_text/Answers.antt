use Rattle.std.proofs.Common.{◌==◌, ◌++◌, List, sym, ap, ◌∙◌, subst, string_bytes}
use Rattle.mdinline.specs.declared.inlines.Inline.{Inline}
use Rattle.mdinline.specs.held.OpenRows.{IsTextRow}
use Rattle.mdinline.proofs.JoinedRows.{no_text_row}
use Rattle.mdinline.proofs.ReadHolding.{no_items}
use Rattle.mdinline.proofs.trees.insides.lone_text.Goals as goal

pub returns-then-is_empty-clause-inside : goal.returns-then-is_empty-clause-inside
returns-then-is_empty-clause-inside c =
    let s = c.args.text.now in
    let empty = c.is_empty.ensures ∙ ap (λ n. n == 0) s.bytes.ok.0 in
    subst (λ (is : List Inline). IsTextRow (string_bytes s) is) (sym c.new.ensures.items) (no_text_row (string_bytes s) (no_items (string_bytes s) c.is_empty.result empty c.if-is_empty.true))

pub returns-clause-inside : goal.returns-clause-inside
returns-clause-inside c =
    let put = c.in_ok-push_text.ensures.row in
    subst (λ (is : List Inline). IsTextRow (string_bytes c.args.text.now) is) (sym (put.row_is ∙ ap (λ (is : List Inline). is ++ put.tail) c.in_ok-inside.ensures.items)) put.text
