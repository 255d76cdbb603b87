use Rattle.std.proofs.Common.{map}
use Rattle.mdblock.specs.FoundLists.{found_unit}
use Rattle.mdsource.specs.UnitTexts.{trees_in}
use Rattle.mdview.proofs.KeptTexts.{kept_read}
use Rattle.mdview.proofs.inlines.UnitTextReader.read_whole.Goals as goal

pub read_found-requires-clause-kept : goal.read_found-requires-clause-kept
read_found-requires-clause-kept g c =
    let kept = c.kept_readings-kept.ensures in
    kept_read _ c.args.held.now.items (trees_in (map found_unit c.args.found.items)) c.requires.held c.requires.rendered c.args.kept c.kept_readings-kept.result c.requires.kept kept.at kept.readings kept.unit
