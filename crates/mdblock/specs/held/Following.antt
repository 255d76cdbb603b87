-- How what is held by a reader that begins at a later item of an old list stands for the lines that it has read and for those before it.
use Rattle.std.specs.Prelude.{◌≡◌, ◌<◌, ◌≤◌, ◌+◌, ℕ, List, [], ◌∷◌, ◌++◌, length, IfSome, Option, Some, None}
use Rattle.std.specs.Option.{option_map}
use Rattle.mdtext.specs.EntityTable.{EntityTable}
use Rattle.blockspec.specs.Nesting.{first_too_deep}
use Rattle.mdblock.specs.FoundLists.{FoundList, StandsForUnit}
use Rattle.mdblock.specs.Fronted.{ListBase, base_mark, lines_staying}
use Rattle.mdblock.specs.Spliced.{mark_at}
use Rattle.mdblock.specs.held.ReaderState.{ReaderState, UnitSoFar}
use Rattle.mdblock.specs.held.Reads.{Reads, handed}

-- what is held, with so many lines more before it
abbrev pub moved_held : ℕ → UnitSoFar → UnitSoFar
moved_held n held = record {
  level = held.level;
  definitions = held.definitions;
  texts = held.texts;
  begin = option_map (λ at. n + at) held.begin;
  marks = held.marks;
  joined = held.joined;
}

-- the same reader, where so many lines more were read before
abbrev pub moved_reading : ℕ → ReaderState → ReaderState
moved_reading n r = record { entities = r.entities; limit = r.limit; fed = n + r.fed; held = option_map (moved_held n) r.held }

-- what was read, and the old list that it goes on in, whose items before one of its later items stay; none where it was read from the first line on
pub record ItemReading : Type 0 where
  pub base : Option ListBase
  pub reading : ReaderState

-- how many lines were read or stay
abbrev pub fed_in : ItemReading → ℕ
fed_in r = lines_staying r.base + r.reading.fed

-- A line was read behind the one that reading began with.
abbrev pub IsPast : ItemReading → Type 0
IsPast r = IfSome r.base (λ b. 2 ≤ r.reading.fed)

-- The old list stands for the lines zs, for l, which begins its later item, and for others; a reader has read l and the lines behind it, and the list goes on.
pub record IsInside (limit : ℕ) (entities : EntityTable) (b : ListBase) (reading : ReaderState) (lines : List (List ℕ)) : Type 0 where
  pub zs : List (List ℕ)
  pub l : List ℕ
  pub own : List (List ℕ)
  pub ys : List (List ℕ)
  pub is : lines ≡ zs ++ l ∷ own
  pub within : b.join < length b.list.marks
  pub stands : StandsForUnit entities b.list (zs ++ l ∷ ys)
  pub line : (base_mark b).line ≡ length zs
  pub shallow : first_too_deep limit lines ≡ None
  pub reads : Reads limit entities reading (l ∷ own)
  pub none : handed entities (l ∷ own) ≡ []

-- These are the lines that it has read, and those before them of the items that stay, with no fault.
unfoldable pub Follows : (limit : ℕ) → EntityTable → ItemReading → (lines : List (List ℕ)) → Type 0
Follows limit entities r lines = follows limit entities r.base r.reading lines
  where
    follows : (limit : ℕ) → EntityTable → Option ListBase → ReaderState → List (List ℕ) → Type 0
    follows limit entities None reading lines = Reads limit entities reading lines
    follows limit entities (Some b) reading lines = IsInside limit entities b reading lines

-- It has read some lines and one more, and in that one the later item k of an old list begins, which stands for its lines.
abbrev pub MeetsIn : (limit : ℕ) → EntityTable → (front : ItemReading) → (old : FoundList) → (k : ℕ) → (xs : List (List ℕ)) → (l : List ℕ)
    → (zs ys : List (List ℕ)) → Type 0
MeetsIn limit entities front old k xs l zs ys =
    Follows limit entities front (xs ++ l ∷ []) × StandsForUnit entities old (zs ++ l ∷ ys) × ((mark_at old.marks k).line ≡ length zs)
