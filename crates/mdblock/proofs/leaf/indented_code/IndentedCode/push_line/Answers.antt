use Rattle.std.proofs.Common.{◌++◌, ap, sym, ◌∙◌, string_bytes}
use Rattle.blockspec.specs.LeafContents.{code_text}
use Rattle.mdblock.proofs.LeafTexts.{body_next, end_is_none}
use Rattle.mdblock.proofs.leaf.indented_code.IndentedCode.push_line.Goals as goal

pub returns : goal.returns
returns c = λ lines h.
    let blank = sym c.is_blank-blank.ensures ∙ c.if-blank.false in
    let row = c.in_ok-push_to.ensures ∙ ap (λ l. string_bytes c.args.self.now.blanks ++ l.line.text) c.take_columns.ensures in
    let all = c.in_ok-push_str-2.ensures.bytes ∙ ap (λ t. string_bytes c.args.self.now.body ++ t) c.as_str.ensures.value in
    record {
      body = body_next lines c.args.line.now _ _ _ _ _ blank h.body h.blanks row c.in_ok-push_str.ensures.bytes all;
      blanks = c.clear.ensures.bytes ∙ ap (code_text 4) (sym (end_is_none lines c.args.line.now blank));
    }
