-- What is told of the labels that an edit or a new prelude touches, while it is found where they lead.
use Rattle.std.specs.Prelude.{◌≡◌, ℕ, List, [], ◌∷◌, Option, Some, None, if◌then◌else◌, map, option_map}
use Rattle.std.specs.Option.{option_or}
use Rattle.std.specs.Str.{bytes_eq}
use Rattle.blockspec.specs.UnitTree.{UnitTree}
use Rattle.inlinespec.specs.LabelMap.{LinkTarget, target_of}
use Rattle.mdleaf.specs.DefinedLinks.{LinkDefinition}
use Rattle.mdtext.specs.declared.labels.Target.{Target}
use Rattle.mdsource.specs.Changes.{is_same_target}
use Rattle.mdsource.specs.LabelTable.{target_defined}
use Rattle.mdview.specs.LabelTargets.{at, definitions_by, target_held}
use Rattle.mdsource.specs.Preludes.{HeldPrelude, target_beside}
use Rattle.mdview.specs.declared.held.labels.HeldLabels.{HeldLabels}
use Rattle.mdview.specs.declared.labels.touched.TouchedLabels.{TouchedLabels}

-- the labels of definitions
abbrev pub labels_in : List LinkDefinition → List (List ℕ)
labels_in definitions = map (λ (d : LinkDefinition). d.label) definitions

-- the labels that units define
abbrev pub labels_by : List UnitTree → List (List ℕ)
labels_by units = labels_in (definitions_by units)

-- what a map tells of a label: nothing, or that it leads nowhere, or where
abbrev pub told_in : List (List ℕ × Option Target) → List ℕ → Option (Option LinkTarget)
told_in entries label = option_map (option_map target_of) (at label entries)

-- what is told of a label: nothing where it is not touched, and else where it leads by the units that were seen
abbrev pub told : TouchedLabels → List ℕ → Option (Option LinkTarget)
told touched label = told_in touched.targets.entries label

-- what is told of a label after these were touched; one that is touched for the first time leads nowhere
abbrev pub touched_by : List (List ℕ) → List ℕ → Option (Option LinkTarget) → Option (Option LinkTarget)
touched_by [] label before = before
touched_by (one ∷ labels) label before = touched_by labels label (if bytes_eq one label then option_or before (Some None) else before)

-- where a label leads that leads so by the definitions before this one
abbrev pub first_led : LinkDefinition → List ℕ → Option LinkTarget → Option LinkTarget
first_led definition label before = option_or before (if bytes_eq definition.label label then Some (target_defined definition) else None)

-- what is told of a label after these definitions were seen: the first of a label that is touched counts
abbrev pub told_by : List LinkDefinition → List ℕ → Option (Option LinkTarget) → Option (Option LinkTarget)
told_by [] label before = before
told_by (definition ∷ definitions) label before = told_by definitions label (option_map (first_led definition label) before)

-- these labels were touched
abbrev pub Touches : List (List ℕ) → TouchedLabels → TouchedLabels → Type 0
Touches labels old new = (label : List ℕ) → told new label ≡ touched_by labels label (told old label)

-- these definitions were seen
abbrev pub Sees : List LinkDefinition → TouchedLabels → TouchedLabels → Type 0
Sees definitions old new = (label : List ℕ) → told new label ≡ told_by definitions label (told old label)

-- what is said of a label of which it is told in the end that it leads so, and which led so before: where it leads, where that is elsewhere
abbrev pub elsewhere : Option (Option LinkTarget) → (before : Option LinkTarget) → Option (Option LinkTarget)
elsewhere None before = None
elsewhere (Some led) before = if is_same_target before led then None else Some led

abbrev pub elsewhere_in : List (List ℕ × Option Target) → HeldLabels → List ℕ → Option (Option LinkTarget)
elsewhere_in entries held label = elsewhere (told_in entries label) (target_held held label)

-- the same where a label that no unit defines leads where the prelude says
abbrev pub said : Option (Option LinkTarget) → (before beside : Option LinkTarget) → Option (Option LinkTarget)
said target before beside = elsewhere (option_map (λ led. option_or led beside) target) before

abbrev pub said_in : List (List ℕ × Option Target) → HeldLabels → HeldPrelude → List ℕ → Option (Option LinkTarget)
said_in entries held prelude label = said (told_in entries label) (target_held held label) (target_beside prelude label)
