-- A list that is not put together yet, and what is told of it.
use Rattle.std.specs.Prelude.{ℕ, ◌≡◌, ◌<◌, List, [], ◌∷◌, ◌++◌, Option, Some, None, drop, option_map, refl}
use Rattle.std.specs.Coded.{Coded, code_by, coded×, coded_option, coded_ℕ}
use Rattle.mdtext.specs.EntityTable.{EntityTable}
use Rattle.blockspec.specs.BlockUnits.{units}
use Rattle.mdblock.specs.FoundLists.{AreJoinsOf, FoundList, StandsForUnit, found_unit, list_code}
use Rattle.mdblock.specs.Fronted.{ListBase, base_code, behind_base, texts_staying}
use Rattle.mdblock.specs.Insets.{ListInset}
use Rattle.mdblock.specs.Spliced.{MeetsAt, mark_at, spliced_list}
use Rattle.mdblock.specs.held.Following.{ItemReading, MeetsIn}
use Rattle.mdblock.specs.held.ReaderState.{ReaderState}
use Rattle.mdblock.specs.held.Reads.{handed, open_begin}

-- the items that were read, in front of them those of a base, if there is one, and an old list with the number of the later item from which on its own items follow
pub record ListSeam : Type 0 where
  pub base : Option ListBase
  pub part : FoundList
  pub old : FoundList
  pub join : ℕ

-- all items in front
abbrev pub seam_front : ListSeam → FoundList
seam_front s = behind_base s.base s.part

-- what both are together
abbrev pub seam_list : ListSeam → FoundList
seam_list s = spliced_list (seam_front s) s.old s.join

abbrev pub seam_code : Coded ListSeam
seam_code =
    code_by (Option ListBase × (FoundList × (FoundList × ℕ))) (coded× (coded_option base_code) (coded× list_code (coded× list_code coded_ℕ)))
    (λ s. (s.base, (s.part, (s.old, s.join)))) (λ p. record { base = p.0; part = p.1.0; old = p.1.1.0; join = p.1.1.1 }) (λ _. refl)

-- The base is the old list, from an item on that stands before the join: what it has in front stays where it is.
abbrev pub IsOwnBase : Option ListBase → (old : FoundList) → (join : ℕ) → Type 0
IsOwnBase None old join = Unit {0}
IsOwnBase (Some b) old join = (b.list.unit ≡ old.unit) × (b.list.marks ≡ old.marks) × (b.join < join)

-- what takes the place of the old list's items then
abbrev pub seam_inset : ListSeam → ListInset
seam_inset s = record { stay = option_map (λ (b : ListBase). b.join) s.base; before = texts_staying s.base; part = s.part; join = s.join }

-- A list is the last unit of some lines, of one more, and of those that stand behind it in an old list, whose item k + 1 begins in that line.
pub record SplicedAt (entities : EntityTable) (list old : FoundList) (k : ℕ) (xs : List (List ℕ)) (l : List ℕ) (ys : List (List ℕ)) : Type 0 where
  pub begin : open_begin entities (xs ++ l ∷ []) ≡ Some list.begin
  pub units : units entities (xs ++ l ∷ ys) ≡ handed entities (xs ++ l ∷ []) ++ found_unit list ∷ []
  pub joins : AreJoinsOf entities (xs ++ l ∷ ys) list
  pub stands : StandsForUnit entities list (drop list.begin (xs ++ l ∷ ys))
  pub kept : List (List ℕ)
  pub texts : list.unit.texts ≡ kept ++ drop (mark_at old.marks k).texts old.unit.texts

-- The same of a reader that begins at a later item.
abbrev pub IsSplicedIn : ItemReading → (old : FoundList) → (k : ℕ) → (list : FoundList) → Type 0
IsSplicedIn reader old k list = (limit : ℕ) (entities : EntityTable) (xs : List (List ℕ)) (l : List ℕ) (zs ys : List (List ℕ))
    → MeetsIn limit entities reader old k xs l zs ys → SplicedAt entities list old k xs l ys

-- A list is what a reader would hold if it had read the lines of an old list behind the one in which its item k + 1 begins.
abbrev pub IsSpliced : ReaderState → (old : FoundList) → (k : ℕ) → (list : FoundList) → Type 0
IsSpliced reader old k list = (limit : ℕ) (entities : EntityTable) (xs : List (List ℕ)) (l : List ℕ) (zs ys : List (List ℕ))
    → MeetsAt limit entities reader old k xs l zs ys → SplicedAt entities list old k xs l ys
