use Rattle.std.proofs.Common.{arith, ◌++◌, ◌-◌, ap, ◌∙◌, subst, sym, take, All}
use Rattle.std.proofs.lemmas.List.Elements.{All-push}
use Rattle.std.specs.List.{AllByRecursion}
use Rattle.mdpair.specs.OpenersBottom.{IsBottom, Descends}
use Rattle.mdpair.proofs.BottomKept.{left_of_descends, nearest_descends, nearest_bottom, kept as kept_bottom}
use Rattle.mdpair.specs.Matches.{stack, left_of, IsLeft, IsClear, IsBelow, IsOrdered}
use Rattle.mdpair.proofs.Sweep.{found_item, nearest_is_below, left_of_below, nearest_has_left, nearest_clear, left_of_clear, nearest_admissible, match_rewrites}
use Rattle.mdpair.proofs.Widths.{opener_whole, closer_whole, pushed_left}
use Rattle.mdpair.proofs.emphasis.close.Goals as goal

pub opener-requires-clause-bottom : goal.opener-requires-clause-bottom
opener-requires-clause-bottom c =
    subst (λ s. IsBottom c.args.bottom c.args.closer.run (stack s)) (sym c.as_slice.ensures.value) (c.loop-left.invariant.bottoms c.args.bottom c.args.closer.run c.requires.bottom)

pub width-width-requires-clause-opener : goal.width-width-requires-clause-opener
width-width-requires-clause-opener c =
    let found = found_item c.args.closer.run _ _ _ _ c.as_slice.ensures.value c.index.ensures (c.in-Some.ensures.1 c.index.result.now) in
    (nearest_has_left _ _ _ _ found c.loop-left.invariant.each).0

pub width-width-requires-clause-fits : goal.width-width-requires-clause-fits
width-width-requires-clause-fits c =
    nearest_admissible _ (stack c.loop-left.passed.items) _ _ (found_item c.args.closer.run _ _ _ _ c.as_slice.ensures.value c.index.ensures (c.in-Some.ensures.1 c.index.result.now))

pub loop-left-preserved : goal.loop-left-preserved
loop-left-preserved c =
    let open_run = c.index.result.now in
    let items = c.loop-left.passed.items in
    let found = found_item c.args.closer.run _ _ _ _ c.as_slice.ensures.value c.index.ensures (c.in-Some.ensures.1 open_run) in
    let kept = c.in_ok-push_left.ensures ∙ ap (λ xs. left_of open_run.place (open_run.left - c.width-width.result) open_run.run ++ stack xs) c.truncate.ensures.items in
    let fits = nearest_admissible c.args.closer.run (stack items) open_run (stack (take c.in-Some.at items)) found in
    let clear = nearest_clear _ _ _ _ found c.loop-left.invariant.clear in
    let low = nearest_is_below _ _ _ _ _ found c.loop-left.invariant.low in
    record {
      rewrites = λ start rest h. match_rewrites start rest c.loop-left.matches.items c.push.new.self.items (stack items) (stack c.push_left.new.passed.items) (stack (take c.in-Some.at items)) open_run
          c.args.closer.place c.loop-left.left c.width-width.result c.args.closer.run c.loop-left.invariant.clear c.requires.closes c.loop-left-test.true found c.width-width.ensures.value
          c.in_ok-push.ensures.items kept (c.loop-left.invariant.rewrites start rest h);
      clear = subst IsClear (sym kept) (left_of_clear _ open_run _ clear);
      left = λ t some. absurd (omega (arith, closer_whole c.args.closer.run open_run.left c.loop-left.left (λ t. c.loop-left.invariant.left t c.loop-left-test.true) t, c.width-width.ensures.value));
      each = subst (AllByRecursion IsLeft) (sym kept) (pushed_left _ _ _ _ (λ t some. absurd (omega (arith, opener_whole open_run c.args.closer.run c.loop-left.left fits (nearest_has_left _ _ _ _ found c.loop-left.invariant.each).0 t, c.width-width.ensures.value))) (nearest_has_left _ _ _ _ found c.loop-left.invariant.each).1);
      low = subst (AllByRecursion (IsBelow c.args.closer.place)) (sym kept) (left_of_below _ _ _ _ _ low.0 low.1);
      falls = subst Descends (sym kept) (left_of_descends (open_run.left - c.width-width.result) open_run.run open_run (stack (take c.in-Some.at items)) (nearest_descends c.args.closer.run (stack items) open_run (stack (take c.in-Some.at items)) found c.loop-left.invariant.falls));
      bottoms = λ b d h. subst (IsBottom b d) (sym kept) (kept_bottom b c.width-width.result d open_run (stack (take c.in-Some.at items)) (nearest_bottom b d c.args.closer.run (stack items) open_run (stack (take c.in-Some.at items)) found (c.loop-left.invariant.bottoms b d h)));
      ordered = λ k lt h. subst (All (IsOrdered k)) (sym c.in_ok-push.ensures.items) (All-push (IsOrdered k) _ _ (c.loop-left.invariant.ordered k lt h) (low.0, lt, c.width-width.ensures.some));
    }
