use Rattle.std.proofs.Common.{ap, sym, ◌∙◌, ◌++◌, string_bytes, fold, arith}
use Rattle.std.proofs.lemmas.Bool.{eqb-true}
use Rattle.std.proofs.lemmas.Bool.Decides.{nat_tests}
use Rattle.mdtext.specs.Labels.{add_word, space_between}
use Rattle.mdtext.proofs.LabelWords.{no_word, word_is_all}
use Rattle.mdtext.proofs.labels.push_word.Goals as goal

pub returns-then-is_empty : goal.returns-then-is_empty
returns-then-is_empty c = sym (ap (fold add_word (string_bytes c.args.text.now)) (no_word c.args.word.now (eqb-true _ _ (sym c.is_empty.ensures ∙ c.if-is_empty.true))))

pub returns : goal.returns
returns c =
    let some = word_is_all c.args.word.now c.requires (grind (arith, nat_tests, c.is_empty.ensures, c.if-is_empty.false)) in
    c.in_ok-push_str-2.ensures.bytes ∙ ap (λ l. l ++ c.args.word.now) (c.in_ok-push_str.ensures.bytes ∙ ap (λ g. string_bytes c.args.text.now ++ g) (c.space_between.ensures ∙ ap space_between c.as_str.ensures.value))
    ∙ sym (ap (fold add_word (string_bytes c.args.text.now)) some)
