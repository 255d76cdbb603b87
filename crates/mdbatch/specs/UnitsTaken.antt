-- What one who takes the units of a text has made of them: they are gathered, or written at once.
use Rattle.std.specs.Prelude.{◌≡◌, List, [], string_bytes}
use Rattle.std.proofs.Common.{refl, ◌∙◌}
use Rattle.blockspec.specs.UnitTree.{FoundUnit}
use Rattle.mdbatch.specs.GatheredUnits.{Gathers, setting_of}
use Rattle.mdbatch.specs.TextLabels.{target_on_page}
use Rattle.mdbatch.specs.UnitsAtOnce.{AddsUnits}
use Rattle.mdbatch.specs.declared.at_once.UnitsAtOnce.{UnitsAtOnce}
use Rattle.mdbatch.specs.declared.gathered.UnitGatherer.{UnitGatherer}

abbrev pub AreGathered : UnitGatherer → List FoundUnit → Type 0
AreGathered a all = Gathers (setting_of a.writer) all a.gathered

-- both read texts in the same setting
abbrev pub GatherAlike : UnitGatherer → UnitGatherer → Type 0
GatherAlike a b = setting_of b.writer ≡ setting_of a.writer

pub gather_alike : (a : UnitGatherer) → GatherAlike a a
gather_alike a = refl

pub gather_all_alike : (a b c : UnitGatherer) → GatherAlike a b → GatherAlike b c → GatherAlike a c
gather_all_alike a b c f g = g ∙ f

abbrev pub AreWritten : UnitsAtOnce → List FoundUnit → Type 0
AreWritten a all = AddsUnits (setting_of a.writer) (target_on_page a.labels.now) all [] (string_bytes a.html)

-- both write in the same setting, where labels lead alike
pub record WriteAlike (a b : UnitsAtOnce) : Type 0 where
  pub setting : setting_of b.writer ≡ setting_of a.writer
  pub labels : target_on_page b.labels.now ≡ target_on_page a.labels.now

pub write_alike : (a : UnitsAtOnce) → WriteAlike a a
write_alike a = record { setting = refl; labels = refl }

pub write_all_alike : (a b c : UnitsAtOnce) → WriteAlike a b → WriteAlike b c → WriteAlike a c
write_all_alike a b c f g = record { setting = g.setting ∙ f.setting; labels = g.labels ∙ f.labels }
