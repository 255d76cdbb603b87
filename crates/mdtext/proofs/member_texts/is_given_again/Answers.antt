use Rattle.std.proofs.Common.{◌≡◌, ◌+◌, ◌∙◌, ap, ap₂, sym, get_or}
use Rattle.std.proofs.lemmas.Bool.Decides.{not_from_Decides}
use Rattle.std.proofs.lemmas.List.{get_or_default}
use Rattle.std.proofs.lemmas.Slice.Eq.{bytes_eq-Decides}
use Rattle.std.specs.Str.{bytes_eq}
use Rattle.mdtext.specs.MemberTexts.{name_in}
use Rattle.mdtext.specs.declared.named_texts.Span.{Span}
use Rattle.mdtext.proofs.member_texts.is_given_again.Goals as goal

-- what the test answers, whatever stands in for a span that is not there
compared : (c : goal.After-eq) (d : Span) → c.eq.result ≡ bytes_eq (name_in c.args.bytes.now (get_or c.args.spans.now c.args.at d)) (name_in c.args.bytes.now (get_or c.args.spans.now (c.args.at + 1) d))
compared c d =
    let bytes = c.args.bytes.now in
    let spans = c.args.spans.now in
    c.eq.ensures
    ∙ ap₂ bytes_eq (c.name_in.ensures ∙ ap (name_in bytes) (get_or_default spans c.args.at _ d c.requires)) (c.name_in-then-at-spans.ensures ∙ ap (name_in bytes) (get_or_default spans (c.args.at + 1) _ d c.if-at-spans.true))

pub returns-then-at-spans-clause-again : goal.returns-then-at-spans-clause-again
returns-then-at-spans-clause-again c = λ same. (c.if-at-spans.true, λ d. (bytes_eq-Decides _ _).0 (sym (compared c d) ∙ same))

pub returns-then-at-spans-clause-last : goal.returns-then-at-spans-clause-last
returns-then-at-spans-clause-last c = λ other more d. not_from_Decides _ (bytes_eq-Decides _ _) (sym (compared c d) ∙ other)
