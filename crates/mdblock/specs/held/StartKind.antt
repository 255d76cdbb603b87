-- The block that an opening of a line begins.
use Rattle.std.specs.Prelude.{Bool, true, false, not, nat_lt, Option, None, Some, unwrap_or}
use Rattle.std.specs.Option.{option_map}
use Rattle.mdscan.specs.Spans.{part}
use Rattle.blockspec.specs.BlockLine.{BlockLine, indentation, rest}
use Rattle.blockspec.specs.BlockKinds.{Mode, Free, Inside, Lazy, Quote, Kind, Paragraph, AtxHeading, ThematicBreak, FencedCode, IndentedCode, HtmlBlock, Holds}
use Rattle.blockspec.specs.ListItems.{item_of}
use Rattle.mdblock.specs.declared.block_starts.Mode as m
use Rattle.mdblock.specs.declared.block_starts.Mode.TheVariants as mv
use Rattle.mdblock.specs.declared.block_starts.BlockStart.{BlockStart}
use Rattle.mdblock.specs.declared.block_starts.BlockStart.TheVariants as o

abbrev pub mode_view : m.Mode → Mode
mode_view mv.Free = Free
mode_view mv.Inside = Inside
mode_view mv.Lazy = Lazy

abbrev pub kind_of_start : BlockLine → BlockStart → Kind
kind_of_start l o.Quote = Holds Quote
kind_of_start l (o.Heading heading) = AtxHeading heading.level (part (rest l) heading.content)
kind_of_start l (o.Fence fence) = FencedCode (indentation l) fence.mark fence.length (part (rest l) fence.info) false
kind_of_start l (o.Html kind) = HtmlBlock kind
kind_of_start l o.Break = ThematicBreak
kind_of_start l (o.Item marker) = Holds (item_of l marker)
kind_of_start l o.Code = IndentedCode

-- a line without an opening begins a paragraph
abbrev pub opened_kind : BlockLine → Option BlockStart → Kind
opened_kind l opening = unwrap_or (option_map (kind_of_start l) opening) Paragraph

-- what is found where no paragraph is open, but may not interrupt one that a container around does not match (CommonMark 5.1)
abbrev pub stays_lazy : Option Kind → Bool
stays_lazy None = true
stays_lazy (Some (HtmlBlock kind)) = not (nat_lt kind 7)
stays_lazy (Some IndentedCode) = true
stays_lazy (Some kind) = false
