use Rattle.std.proofs.Common.{◌==◌, [], ◌∷◌, sym, ap, ◌∙◌, append-nil, string_bytes}
use Rattle.mdinline.specs.declared.inlines.Inline.TheBlock as made
use Rattle.mdinline.proofs.JoinedRows.{no_text_row, some_text, text_row}
use Rattle.mdinline.proofs.ReadHolding.{no_items}
use Rattle.mdinline.proofs.trees.insides.push_text.Goals as goal

pub returns-then-is_empty-clause-row : goal.returns-then-is_empty-clause-row
returns-then-is_empty-clause-row c =
    let s = c.args.text.now in
    let empty = c.is_empty.ensures ∙ ap (λ n. n == 0) s.bytes.ok.0 in
    record {
      tail = [];
      row_is = sym (append-nil c.args.row.now.items);
      text = no_text_row (string_bytes s) (no_items (string_bytes s) c.is_empty.result empty c.if-is_empty.true);
    }

pub returns-clause-row : goal.returns-clause-row
returns-clause-row c =
    let s = c.args.text.now in
    let t = c.in_ok-copy.copy in
    let same = c.in_ok-copy.ensures.ok ∙ c.deref.ensures in
    let empty = c.is_empty.ensures ∙ ap (λ n. n == 0) s.bytes.ok.0 in
    record {
      tail = made.Text t ∷ [];
      row_is = c.in_ok-push.ensures.items;
      text = text_row t (string_bytes s) same (some_text (string_bytes s) (string_bytes t) c.is_empty.result same empty c.if-is_empty.false);
    }
