-- Where labels lead, now and after an edit.
use Rattle.std.specs.Prelude.{◌≡◌, ℕ, true, List, [], ◌∷◌, Option, Some, None, flat_map, is_some, option_map, option_and_then}
use Rattle.std.specs.BTreeMap.{is_at}
use Rattle.std.specs.Cmp.Lexicographic.{slice_cmp}
use Rattle.std.specs.Map.{lookup}
use Rattle.std.specs.Option.{option_or}
use Rattle.std.specs.Ordering.{nat_cmp}
use Rattle.blockspec.specs.UnitTree.{UnitTree}
use Rattle.inlinespec.specs.LabelMap.{LabelMap, LinkTarget, target_of}
use Rattle.mdleaf.specs.DefinedLinks.{LinkDefinition}
use Rattle.mdtext.specs.declared.labels.Target.{Target}
use Rattle.mdsource.specs.Changes.{leads_elsewhere}
use Rattle.mdsource.specs.LabelTable.{table_of}
use Rattle.mdsource.specs.Preludes.{HeldPrelude, target_beside}
use Rattle.mdview.specs.declared.held.labels.HeldLabels.{HeldLabels}
use Rattle.mdview.specs.declared.labels.changes.LabelsAfter.{LabelsAfter}
use Rattle.mdview.specs.declared.labels.changes.LabelChanges.{LabelChanges}

-- what stands at a label in a map
abbrev pub at : {A : Type 0} → List ℕ → List (List ℕ × A) → Option A
at label entries = lookup (is_at (slice_cmp nat_cmp label)) entries

-- the target of a label; one that has room only leads nowhere
abbrev pub target_held : HeldLabels → List ℕ → Option LinkTarget
target_held held label = option_and_then (option_map target_of) (at label held.targets.entries)

-- where a label leads of which an edit says this, and that led so before
abbrev pub changed : Option (Option Target) → Option LinkTarget → Option LinkTarget
changed None before = before
changed (Some target) before = option_map target_of target

-- the target of a label after an edit: where the edit changes it, what it says
abbrev pub target_after : LabelsAfter → List ℕ → Option LinkTarget
target_after after label = changed (at label after.changes.now.targets.entries) (target_held after.held.now label)

-- a label with its target in front of other labels; one that has room only leads nowhere
abbrev pub leads : List ℕ → Option Target → LabelMap → LabelMap
leads label None later = later
leads label (Some target) later = (label, target_of target) ∷ later

-- the labels that lead somewhere, each with its target
abbrev pub leading : List (List ℕ × Option Target) → LabelMap
leading [] = []
leading (entry ∷ entries) = leads entry.0 entry.1 (leading entries)

-- ---- where labels lead by the units and the prelude

-- all definitions of these units, in order
abbrev pub definitions_by : List UnitTree → List LinkDefinition
definitions_by units = flat_map (λ (u : UnitTree). u.definitions) units

-- where a label leads by these units and this prelude: the first definition of it in a unit, else the prelude's
abbrev pub led_by : List UnitTree → HeldPrelude → List ℕ → Option LinkTarget
led_by units prelude label = option_or (table_of (definitions_by units) label) (target_beside prelude label)

-- the labels that are held lead where these units and this prelude say
abbrev pub Leads : HeldLabels → List UnitTree → HeldPrelude → Type 0
Leads labels units prelude = (label : List ℕ) → target_held labels label ≡ led_by units prelude label

-- where a label leads after these changes
abbrev pub led_after : HeldLabels → LabelChanges → List ℕ → Option LinkTarget
led_after labels changes label = changed (at label changes.targets.entries) (target_held labels label)

-- after the changes the labels lead where these units and this prelude say
abbrev pub LeadsAfter : HeldLabels → List UnitTree → HeldPrelude → LabelChanges → Type 0
LeadsAfter labels units prelude changes = (label : List ℕ) → led_after labels changes label ≡ led_by units prelude label

-- exactly the labels are changed that lead elsewhere after it
abbrev pub IsElsewhere : HeldLabels → LabelChanges → Type 0
IsElsewhere labels changes = (label : List ℕ) → is_some (at label changes.targets.entries) ≡ leads_elsewhere (target_held labels) (led_after labels changes) label

-- each label that is changed has room
abbrev pub HasRoom : HeldLabels → LabelChanges → Type 0
HasRoom labels changes = (label : List ℕ) → is_some (at label changes.targets.entries) ≡ true → is_some (at label labels.targets.entries) ≡ true
