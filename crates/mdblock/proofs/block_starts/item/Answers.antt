use Rattle.std.proofs.Common.{ap, sym, ◌∙◌}
use Rattle.mdscan.specs.ListMarker.{marker}
use Rattle.mdblock.proofs.Markers.{list_mark}
use Rattle.mdblock.proofs.block_starts.item.Goals as goal

pub returns-then-may_begin_item-clause-parts : goal.returns-then-may_begin_item-clause-parts
returns-then-may_begin_item-clause-parts c = list_mark _ c.in-Some.marker (sym (c.list_marker.ensures.marker ∙ ap marker c.text.ensures) ∙ c.in-Some.is)
