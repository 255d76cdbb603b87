-- A line that is lazy or blank has neither the marker nor the indentation of any open container.
use Rattle.std.proofs.Common.{◌≡◌, Bool, true, false, not, ◌&&◌, refl, ◌∙◌, ap}
use Rattle.std.specs.Prelude.{nat_le}
use Rattle.blockspec.specs.BlockLine.{BlockLine, indentation, rest}
use Rattle.blockspec.specs.BlankLines.{is_blank_line}
use Rattle.blockspec.specs.ContainerLines.{matches}
use Rattle.mdscan.specs.BlockQuote.{is_quote_marker}
use Rattle.mdblock.specs.held.Continuations.{ContinuesList}
use Rattle.mdblock.specs.held.LevelSteps.{EntersItem, IsInside}
use Rattle.mdblock.specs.held.LinesAdded.{IsUnfollowed}
use Rattle.mdblock.specs.declared.container.list_items.Entry.{Entry}
use Rattle.mdblock.specs.declared.container.list_items.Entry.TheVariants as entry
use Rattle.mdblock.specs.declared.container.lists.OpenList.{OpenList}
use Rattle.mdblock.specs.declared.gathering.Gathering.{Gathering}
use Rattle.mdblock.specs.declared.open_blocks.Continuation.{Continuation}
use Rattle.mdblock.specs.declared.open_blocks.Continuation.TheVariants as continuation
use Rattle.mdblock.specs.declared.open_blocks.Level.{Level}
use Rattle.mdblock.specs.declared.open_blocks.OpenBlock.{OpenBlock}
use Rattle.mdblock.specs.declared.open_blocks.OpenBlock as open_block
use Rattle.mdblock.proofs.LevelBlanks.{blank_unquoted, columns_blank}

second_false : (a c d : Bool) → (a && false && c && d) ≡ false
second_false true c d = refl
second_false false c d = refl

third_false : (a b d : Bool) → (a && b && false && d) ≡ false
third_false true true d = refl
third_false true false d = refl
third_false false b d = refl

pub unfollowed_lazy : (held : OpenBlock) (l : BlockLine) → l.lazy ≡ true → IsUnfollowed held l
unfolding matches
unfollowed_lazy open_block.Shut l lazy = tt
unfollowed_lazy (open_block.Leaf held) l lazy = tt
unfollowed_lazy (open_block.Quote' p over last in_item begun blank spaced) l lazy = ap (λ z. not z && nat_le (indentation l) 3 && is_quote_marker (rest l)) lazy
unfollowed_lazy (open_block.List' p over last in_item begun blank spaced list) l lazy =
    ap (λ z. list.item_open && not z && not (is_blank_line l) && nat_le list.needed (indentation l)) lazy
    ∙ second_false list.item_open (not (is_blank_line l)) (nat_le list.needed (indentation l))

unfollowed_blank : (held : OpenBlock) (l : BlockLine) → is_blank_line l ≡ true → IsUnfollowed held l
unfollowed_blank open_block.Shut l b = tt
unfollowed_blank (open_block.Leaf held) l b = tt
unfollowed_blank (open_block.Quote' p over last in_item begun blank spaced) l b = blank_unquoted l b
unfollowed_blank (open_block.List' p over last in_item begun blank spaced list) l b =
    ap (λ z. list.item_open && not l.lazy && not z && nat_le list.needed (indentation l)) b ∙ third_false list.item_open (not l.lazy) (nat_le list.needed (indentation l))

-- what a line is that is read inside an item
pub unfollowed_inside : (held : OpenBlock) (c : Continuation) (inner mid_inner : Level) (list mid_list : OpenList) (gap : Bool) (before mid : Gathering) (l il : BlockLine) (made : Entry) → IsInside c → ContinuesList l c →
    EntersItem c inner list gap before l mid_inner mid_list mid il made → made ≡ entry.Goes → IsUnfollowed held il
unfollowed_inside held continuation.Matched inner mid_inner list mid_list gap before mid l il made w blank enters goes = unfollowed_blank held il (ap is_blank_line enters.2 ∙ columns_blank l list.needed ∙ blank)
unfollowed_inside held (continuation.Underlines level) inner mid_inner list mid_list gap before mid l il made w none enters goes = absurd none
unfollowed_inside held continuation.Delimits inner mid_inner list mid_list gap before mid l il made w none enters goes = absurd none
unfollowed_inside held continuation.Lazy inner mid_inner list mid_list gap before mid l il made w step enters goes = unfollowed_lazy held il (ap (λ (z : BlockLine). z.lazy) enters.2)
unfollowed_inside held continuation.Between inner mid_inner list mid_list gap before mid l il made w step enters goes = absurd (let x : ⊥ = let is = enters.1 in cc in x)
unfollowed_inside held (continuation.Next marker) inner mid_inner list mid_list gap before mid l il made w step enters goes = absurd (let x : ⊥ = let is = enters.1 in cc in x)
unfollowed_inside held (continuation.Outside opening) inner mid_inner list mid_list gap before mid l il made w step enters goes = absurd w
