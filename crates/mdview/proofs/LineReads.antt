-- What is known of a line that an edit reads: where it stands, what the reader makes of it, and what the cursor over the units that are held says.
use Rattle.std.proofs.Common.{◌≡◌, ℕ, ◌-◌, ◌<◌, ◌≤◌, Bool, true, false, ◌&&◌, List, [], ◌∷◌, ◌++◌, Option, None, inl, inr, ap, length, map, take, drop, get_or}
use Rattle.std.specs.Prelude.{Contains}
use Rattle.std.specs.Option.{option_map, option_to_list}
use Rattle.mdtext.specs.EntityTable.{EntityTable}
use Rattle.blockspec.specs.BlockUnits.{begins, units}
use Rattle.blockspec.specs.Nesting.{first_too_deep}
use Rattle.mdblock.specs.FoundLists.{FoundList, found_unit}
use Rattle.mdblock.specs.held.Following.{Follows, ItemReading}
use Rattle.mdblock.specs.held.Reads.{handed, open_begin}
use Rattle.mdchunks.specs.Sequences.{Sequence}
use Rattle.mdsource.specs.Stretch.{from_line, is_meeting, meeting_line, units_before}
use Rattle.mdsource.specs.UnitTiles.{IsAhead}
use Rattle.mdview.specs.HeldBlocks.{HoldsUnits, is_at, line_before, lines_in, old_lines, places_of}
use Rattle.mdview.specs.HeldItems.{IsCounted}
use Rattle.mdview.specs.HeldUnit.{HeldUnit, read_of}
use Rattle.mdview.specs.NewText.{lines_of}
use Rattle.mdview.specs.declared.blocks.held_places.UnitStart.{UnitStart}
use Rattle.mdview.specs.declared.source.new_text.NewText.{NewText}
use Rattle.mdview.proofs.ReadStretches.{is_edit}
use Rattle.mdview.proofs.Reparses.{ReadAbove, begin_told, met_all, met_told, units_pushed, unmet_told}

-- the lines that were read, and this one
abbrev pub up_to_line : EntityTable → NewText → ℕ → List (List ℕ)
up_to_line e text line = drop (from_line (places_of e text)) (take line (lines_of text)) ++ get_or (lines_of text) line [] ∷ []

-- It stands in the text, behind where reading begins, and the cursor over these units stands in front of it.
pub record AtLine (e : EntityTable) (text : NewText) (from first : ℕ) (held : List HeldUnit) (next : UnitStart) (line : ℕ) : Type 0 where
  pub from_is : from ≡ from_line (places_of e text)
  pub first_is : first ≡ units_before (places_of e text)
  pub below : line < length (lines_of text)
  pub order : from_line (places_of e text) ≤ line
  pub ahead : IsAhead (map lines_in held) (places_of e text).old_begins next.unit next.line (line_before (places_of e text) line)

-- The reader takes it, and what was found has the unit that ends there.
pub record LineRead (text : NewText) (before reader : ItemReading) (found_before found : List FoundList) (unit : Option FoundList) (line : ℕ) : Type 0 where
  pub reads : (limit : ℕ) (e : EntityTable) (ls : List (List ℕ)) → Follows limit e before ls → Follows limit e reader (ls ++ get_or (lines_of text) line [] ∷ [])
  pub hands : (limit : ℕ) (e : EntityTable) (ls : List (List ℕ)) → Follows limit e before ls
      → handed e (ls ++ get_or (lines_of text) line [] ∷ []) ≡ handed e ls ++ option_to_list (option_map found_unit unit)
  pub pushed : found ≡ found_before ++ option_to_list unit

-- The cursor, which stands over the units that are held, went on in front of it.
pub record CursorAt (e : EntityTable) (text : NewText) (head : ℕ) (held units : Sequence HeldUnit) (next : UnitStart) (line : ℕ) : Type 0 where
  pub same : units ≡ held
  pub ahead : IsAhead (map lines_in units.items) (places_of e text).old_begins next.unit next.line (line_before (places_of e text) line)
  pub counted : IsCounted head units.items next
  pub holds : HoldsUnits e (old_lines text) head (map read_of units.items)

module _ (limit : ℕ) (e : EntityTable) (text : NewText) (from first : ℕ) (held : List HeldUnit) (next : UnitStart) (line : ℕ) (a : AtLine e text from first held next line) where
  -- the reader tells whether a unit begins there
  abbrev pub begins_there : Bool
  begins_there = is_at (line - from) (open_begin e (up_to_line e text line))

  told : (begins_there ≡ true → Contains (begins e (lines_of text)) line) × (begins_there ≡ false → Contains (begins e (lines_of text)) line → ⊥)
  told =
      begin_told limit e (old_lines text) (lines_of text) (places_of e text) (is_edit e text) line [] a.order a.below begins_there
      (ap (λ n. is_at (line - n) (open_begin e (up_to_line e text line))) a.from_is)

  -- one begins there in both texts: there reading ends
  pub met_there : first_too_deep limit (old_lines text) ≡ None → (before reader : ItemReading) (found_before found : List FoundList) (unit : Option FoundList) → LineRead text before reader found_before found unit line
      → ReadAbove limit e (lines_of text) (places_of e text) before (map found_unit found_before) line → true ≡ (begins_there && is_meeting (places_of e text) line)
      → (is_meeting (places_of e text) line ≡ true) × (meeting_line (places_of e text) ≡ line)
      × (map found_unit found ≡ units e (drop (from_line (places_of e text)) (take line (lines_of text)))) × (first_too_deep limit (lines_of text) ≡ None)
  met_there fits before reader found_before found unit l above met =
      let both = met_told begins_there (is_meeting (places_of e text) line) met in
      let all = met_all limit e (old_lines text) (lines_of text) (places_of e text) (is_edit e text) fits before reader (map found_unit found_before) (map found_unit found) (option_map found_unit unit) line []
      a.order a.below l.reads l.hands (units_pushed found_before found unit l.pushed) (told.0 both.0) both.1 above in
      (both.1, all.0, all.1, all.2)

  -- none does
  pub unmet_there : false ≡ (begins_there && is_meeting (places_of e text) line) → Contains (begins e (lines_of text)) line → is_meeting (places_of e text) line ≡ false
  unmet_there unmet there = elim (unmet_told begins_there (is_meeting (places_of e text) line) unmet) [ inl h ↦ absurd (told.1 h there) | inr h ↦ h ]

-- The lines were read to the end of the text: no unit begins in both texts.
pub record AtEnd (limit : ℕ) (e : EntityTable) (text : NewText) (from first : ℕ) (reader : ItemReading) (found : List FoundList) (line : ℕ) : Type 0 where
  pub from_is : from ≡ from_line (places_of e text)
  pub first_is : first ≡ units_before (places_of e text)
  pub last : line ≡ length (lines_of text)
  pub above : ReadAbove limit e (lines_of text) (places_of e text) reader (map found_unit found) (length (lines_of text))
  pub meet : meeting_line (places_of e text) ≡ length (lines_of text)
