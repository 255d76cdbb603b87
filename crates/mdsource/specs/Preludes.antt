-- What is held of a prelude, and how its reading ends.
use Rattle.std.specs.Prelude.{◌≡◌, ℕ, List, [], Option, Some, None}
use Rattle.mdtext.specs.EntityTable.{EntityTable}
use Rattle.blockspec.specs.BlockUnits.{units}
use Rattle.inlinespec.specs.LabelMap.{LabelMap, LinkTarget, target_in}
use Rattle.mdsource.specs.LabelTable.{with_units}
use Rattle.mdsource.specs.declared.fault.EditFault.{EditFault}
use Rattle.mdsource.specs.declared.fault.EditFault.TheVariants.{OutOfRange, BreakInLine, TooManyLines, TooLarge, NestedTooDeep, InlineTooDeep, NoMemory, NotDefinitions}
use Rattle.mdsource.specs.SourceLimits.{due_of_prelude}

-- the lines of a prelude, and where the labels lead that these define
pub record HeldPrelude : Type 0 where
  pub lines : List (List ℕ)
  pub labels : LabelMap

-- the target of a label by the prelude alone
abbrev pub target_beside : HeldPrelude → List ℕ → Option LinkTarget
target_beside prelude label = target_in prelude.labels label

-- what each refusal of a prelude's lines says; there is no other
abbrev pub RefusesPrelude : EditFault → List (List ℕ) → Type 0
RefusesPrelude (BreakInLine index) new = due_of_prelude new ≡ Some (BreakInLine index)
RefusesPrelude TooManyLines new = due_of_prelude new ≡ Some TooManyLines
RefusesPrelude TooLarge new = due_of_prelude new ≡ Some TooLarge
RefusesPrelude (NotDefinitions line) new = due_of_prelude new ≡ None
RefusesPrelude NoMemory new = due_of_prelude new ≡ None
RefusesPrelude (OutOfRange lines) new = ⊥
RefusesPrelude (NestedTooDeep line) new = ⊥
RefusesPrelude (InlineTooDeep line) new = ⊥

-- a fault of the reading of a prelude's lines
abbrev pub OfDefinitions : EditFault → Type 0
OfDefinitions (NotDefinitions line) = Unit {0}
OfDefinitions NoMemory = Unit {0}
OfDefinitions (OutOfRange lines) = ⊥
OfDefinitions (BreakInLine index) = ⊥
OfDefinitions TooManyLines = ⊥
OfDefinitions TooLarge = ⊥
OfDefinitions (NestedTooDeep line) = ⊥
OfDefinitions (InlineTooDeep line) = ⊥

-- a prelude's lines are more than definitions
abbrev pub IsUndefining : EditFault → Type 0
IsUndefining (NotDefinitions line) = Unit {0}
IsUndefining NoMemory = ⊥
IsUndefining (BreakInLine index) = ⊥
IsUndefining TooManyLines = ⊥
IsUndefining TooLarge = ⊥
IsUndefining (OutOfRange lines) = ⊥
IsUndefining (NestedTooDeep line) = ⊥
IsUndefining (InlineTooDeep line) = ⊥

-- where a prelude's lines are refused as more than definitions, they are so from this line on
abbrev pub IsUndefiningAt : Option ℕ → EditFault → Type 0
IsUndefiningAt first (NotDefinitions line) = first ≡ Some line
IsUndefiningAt first NoMemory = Unit {0}
IsUndefiningAt first (OutOfRange lines) = Unit {0}
IsUndefiningAt first (BreakInLine index) = Unit {0}
IsUndefiningAt first TooManyLines = Unit {0}
IsUndefiningAt first TooLarge = Unit {0}
IsUndefiningAt first (NestedTooDeep line) = Unit {0}
IsUndefiningAt first (InlineTooDeep line) = Unit {0}

-- the labels of a prelude lead where its lines define, as these entities read them
abbrev pub IsDefinedBy : EntityTable → HeldPrelude → Type 0
IsDefinedBy entities prelude = prelude.labels ≡ with_units [] (units entities prelude.lines)
