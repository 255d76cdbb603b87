use Rattle.std.proofs.Common.{All, sym, subst, ◌≡◌, ◌+◌, ◌++◌}
use Rattle.std.proofs.lemmas.Result.{IfOk-weaker}
use Rattle.std.proofs.lemmas.List.Elements.{All-weaker}
use Rattle.mdpair.specs.Matches.{stack, left_of}
use Rattle.mdpair.specs.OpenersBottom.{IsBottomUpTo}
use Rattle.mdpair.proofs.BottomKept.{missed_here, pushed_bottoms}
use Rattle.mdpair.proofs.emphasis.pass.Goals as goal

pub close-requires-clause-bottom : goal.close-requires-clause-bottom
close-requires-clause-bottom c =
    c.bottom_for.ensures c.args.place (stack c.args.passed.now.items)
    (subst (All (IsBottomUpTo c.args.place (stack c.args.passed.now.items))) (sym c.deref.ensures.value) c.requires.bottoms)

pub returns-clause-bottoms : goal.returns-clause-bottoms
returns-clause-bottoms c =
    let closed = stack c.close.new.passed.items in
    let before = All-weaker (IsBottomUpTo c.args.place (stack c.args.passed.now.items)) (IsBottomUpTo c.args.place closed)
    (λ b s. (s.0, c.in_ok-left.ensures.bottoms b.place b.closer s.1)) c.args.bottoms.now.items c.requires.bottoms in
    let kept = c.in_ok-keep_bottom.ensures c.args.place closed (λ some. missed_here c.args.place c.args.run closed (c.in_ok-left.ensures.done some)) before in
    IfOk-weaker c.push_left-2.result (λ _. stack c.push_left-2.new.passed.items ≡ left_of c.args.place c.in_ok-left.left c.args.run ++ closed)
    (λ _. All (IsBottomUpTo (c.args.place + 1) (stack c.push_left-2.new.passed.items)) c.keep_bottom.new.bottoms.items)
    (λ _ e. pushed_bottoms c.args.place c.in_ok-left.left c.args.run closed (stack c.push_left-2.new.passed.items) c.keep_bottom.new.bottoms.items e kept)
    c.push_left-2.ensures
