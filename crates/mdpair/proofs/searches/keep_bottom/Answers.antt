use Rattle.std.proofs.Common.{All, sym, subst}
use Rattle.std.proofs.lemmas.List.Elements.{All-set, All-push}
use Rattle.mdpair.specs.OpenersBottom.{IsBottomUpTo}
use Rattle.mdpair.proofs.BottomKept.{some_left}
use Rattle.mdpair.proofs.searches.keep_bottom.Goals as goal

pub returns-in-Some : goal.returns-in-Some
returns-in-Some c =
    λ k passed h all. All-set (IsBottomUpTo k passed) c.args.bottoms.now.items c.in-Some.i (record { place = c.args.place; closer = c.args.closer }) (h (some_left _ c.if-left-eq0.false)) all

pub returns : goal.returns
returns c =
    λ k passed h all. subst (All (IsBottomUpTo k passed)) (sym c.in_ok-push.ensures.items)
    (All-push (IsBottomUpTo k passed) c.args.bottoms.now.items (record { place = c.args.place; closer = c.args.closer }) all (h (some_left _ c.if-left-eq0.false)))
