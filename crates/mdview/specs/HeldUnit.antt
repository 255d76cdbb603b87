-- Units whose inline texts were read, and their HTML.
use Rattle.std.specs.Prelude.{◌≡◌, ℕ, Bool, ◌+◌, ◌-◌, ◌^◌, min, List, [], Option, IfSome, false, length, sum_by, take, refl}
use Rattle.std.specs.Coded.{Coded, code_by, coded×, coded_ℕ, coded_bool, coded_list, coded_option}
use Rattle.blockspec.specs.UnitTree.{UnitTree, unit_code}
use Rattle.blockspec.specs.ItemMarks.{ItemMark}
use Rattle.mdblock.specs.FoundLists.{mark_code}
use Rattle.inlinespec.specs.ParsedText.{ParsedText, parsed_code}
use Rattle.htmlspec.specs.declared.options.Options.{Options}
use Rattle.htmlspec.specs.BlockHtml.{blocks_html, texts_html}
use Rattle.htmlspec.specs.ListEnds.{unit_ends}
use Rattle.blockspec.specs.BlockTree.{Blocks}
use Rattle.mdwalk.specs.TreeEdges.{TreeEdge, blocks_edges}

-- How many lines a unit has, the unit, and what each of its texts reads as; where it is a list its later items, and whether a gap parts two blocks of its last one.
pub record ReadUnit : Type 0 where
  pub lines : ℕ
  pub unit : UnitTree
  pub readings : List ParsedText
  pub items : List ItemMark
  pub parted : Bool

-- a unit that is held, with its piece, and of a long list, where it was made again, with where its items end there
pub record HeldUnit : Type 0 where
  pub read : ReadUnit
  pub piece : List ℕ
  pub ends : Option (List ℕ)

-- a piece, with the same
pub record WrittenPiece : Type 0 where
  pub html : List ℕ
  pub ends : Option (List ℕ)

abbrev pub written_piece_code : Coded WrittenPiece
written_piece_code =
    code_by (List ℕ × Option (List ℕ)) (coded× (coded_list coded_ℕ) (coded_option (coded_list coded_ℕ)))
    (λ p. (p.html, p.ends)) (λ p. record { html = p.0; ends = p.1 }) (λ _. refl)

abbrev pub read_unit_code : Coded ReadUnit
read_unit_code =
    code_by (ℕ × (UnitTree × (List ParsedText × (List ItemMark × Bool)))) (coded× coded_ℕ (coded× unit_code (coded× (coded_list parsed_code) (coded× (coded_list mark_code) coded_bool))))
    (λ u. (u.lines, (u.unit, (u.readings, (u.items, u.parted)))))
    (λ p. record { lines = p.0; unit = p.1.0; readings = p.1.1.0; items = p.1.1.1.0; parted = p.1.1.1.1 }) (λ _. refl)

abbrev pub held_unit_code : Coded HeldUnit
held_unit_code =
    code_by (ReadUnit × (List ℕ × Option (List ℕ))) (coded× read_unit_code (coded× (coded_list coded_ℕ) (coded_option (coded_list coded_ℕ))))
    (λ u. (u.read, (u.piece, u.ends))) (λ p. record { read = p.0; piece = p.1.0; ends = p.1.1 }) (λ _. refl)

-- the HTML of a unit whose texts read so: that of its blocks with the trees of the texts
abbrev pub html_of : Options → UnitTree → List ParsedText → List ℕ
html_of options unit readings = blocks_html options (texts_html options readings) false unit.blocks []

-- a unit's piece
abbrev pub unit_piece : Options → ReadUnit → List ℕ
unit_piece options u = html_of options u.unit u.readings

abbrev pub read_of : HeldUnit → ReadUnit
read_of u = u.read

abbrev pub piece_of : HeldUnit → List ℕ
piece_of u = u.piece

-- its blocks, and what its texts read as
abbrev pub shown_in : HeldUnit → UnitTree × List ParsedText
shown_in u = (u.read.unit, u.read.readings)

-- the items of such blocks end there in their HTML, if that is told
abbrev pub AreEnds : Options → List ParsedText → Blocks → Option (List ℕ) → Type 0
AreEnds options readings blocks ends = IfSome ends (λ ns. ns ≡ unit_ends options (texts_html options readings) blocks)

-- what is held as the piece of a unit is its HTML, and its items end where it says
abbrev pub IsRendered : Options → HeldUnit → Type 0
IsRendered options u = (u.piece ≡ unit_piece options u.read) × AreEnds options u.read.readings u.read.unit.blocks u.ends

-- the edges of a walk over a unit whose texts read so
abbrev pub unit_edges : UnitTree × List ParsedText → List TreeEdge
unit_edges u = blocks_edges u.1 u.0.blocks

-- how many inline texts a unit has
abbrev pub texts_in : UnitTree → ℕ
texts_in unit = length unit.texts

abbrev pub unit_in : HeldUnit → UnitTree
unit_in u = u.read.unit

-- how many inline texts the units have
abbrev pub texts_of : List ReadUnit → ℕ
texts_of units = sum_by (λ (u : ReadUnit). texts_in u.unit) units

-- how many the first units have
abbrev pub texts_before : ℕ → List HeldUnit → ℕ
texts_before n units = sum_by (λ (u : HeldUnit). texts_in u.read.unit) (take n units)

-- the first line of a unit where so many lines stand before the first one: those of the units before it are added, up to the greatest
-- number
abbrev pub first_line : ℕ → List ReadUnit → ℕ → ℕ
first_line head units number = min (head + sum_by (λ (u : ReadUnit). u.lines) (take number units)) (2 ^ 64 - 1)
