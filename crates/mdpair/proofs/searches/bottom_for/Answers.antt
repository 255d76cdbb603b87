use Rattle.mdpair.proofs.BottomKept.{bottom_same}
use Rattle.mdpair.proofs.searches.bottom_for.Goals as goal

pub returns-then-is_same_kind : goal.returns-then-is_same_kind
returns-then-is_same_kind c =
    λ k passed h. bottom_same _ _ _ passed (c.is_same_kind.ensures c.if-is_same_kind.true) (h c.loop-bottom.bottom-index _ c.loop-bottom-test.true).1
