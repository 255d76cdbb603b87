use Rattle.std.proofs.Common.{◌≡◌, true, not, eqb, get_or, subst, arith}
use Rattle.std.proofs.lemmas.Bool.Decides.{nat_tests}
use Rattle.inlinespec.proofs.EscapesBreaks.{no_break_there}
use Rattle.mdinline.proofs.line_breaks.are_spaces_alone.Goals as goal

pub returns-then-feed-bytes : goal.returns-then-feed-bytes
returns-then-feed-bytes c = λ h.
    no_break_there c.args.text.now c.as_bytes-bytes.result.now c.args.at c.past_spaces-feed.result c.as_bytes-bytes.ensures.value c.past_spaces-feed.ensures.value
    (λ inside mark. omega (arith, inside, c.if-feed-bytes.true))

pub returns : goal.returns
returns c = λ h.
    no_break_there c.args.text.now c.as_bytes-bytes.result.now c.args.at c.past_spaces-feed.result c.as_bytes-bytes.ensures.value c.past_spaces-feed.ensures.value
    (λ inside mark. (let feed : eqb (get_or c.as_bytes-bytes.result.now c.past_spaces-feed.result 0) 10 ≡ true = grind (arith, nat_tests, mark) in let none : not true ≡ true = subst (λ t. not t ≡ true) feed h in cc))
