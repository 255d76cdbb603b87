-- What is held is the view of the text with its prelude.
use Rattle.std.proofs.Common.{◌≡◌, ℕ, List, [], ◌∷◌, map, refl, ap, ◌∙◌}
use Rattle.std.specs.List.{All}
use Rattle.blockspec.specs.BlockUnits.{units as text_units}
use Rattle.blockspec.specs.UnitTree.{FoundUnit, UnitTree}
use Rattle.inlinespec.specs.LinkTails.{Table}
use Rattle.inlinespec.specs.ParsedText.{ParsedText}
use Rattle.mdsource.specs.LabelTable.{table}
use Rattle.mdsource.specs.Setting.{Setting}
use Rattle.mdsource.specs.View.{ViewedUnit, view, viewed}
use Rattle.mdsource.specs.UnitTexts.{readings_under, trees_in}
use Rattle.mdview.specs.declared.held.labels.HeldLabels.{HeldLabels}
use Rattle.mdview.specs.HeldBlocks.{HoldsUnits}
use Rattle.mdview.specs.HeldTexts.{HoldsTexts}
use Rattle.mdview.specs.ReadUnits.{IsReadUnder}
use Rattle.mdview.specs.HeldUnit.{HeldUnit, IsRendered, html_of, piece_of, read_of, shown_in, unit_in}
use Rattle.mdview.specs.Document.{shown_of}
use Rattle.mdview.specs.LabelTargets.{target_held}
use Rattle.mdsource.specs.Preludes.{HeldPrelude}
use Rattle.mdview.proofs.EditTexts.{all_read_under, trees_are}
use Rattle.mdview.proofs.HeldReadings.{led_by_held}
use Rattle.mdview.proofs.MemberChanges.{all_first, all_rest}

-- the pieces of units that were read under these labels
pieces_under : (setting : Setting) (labels : Table) (held : List HeldUnit) → All (IsRendered setting.options) held → All (IsReadUnder setting.entities labels) held
    → map piece_of held ≡ map (λ (t : UnitTree). html_of setting.options t (readings_under setting.entities labels t)) (map unit_in held)
pieces_under setting labels [] rendered read = refl
pieces_under setting labels (u ∷ held) rendered read =
    ap (λ p. p ∷ map piece_of held) ((all_first (IsRendered setting.options) u held rendered).0 ∙ ap (html_of setting.options u.read.unit) (all_first (IsReadUnder setting.entities labels) u held read))
    ∙ ap (λ ps. html_of setting.options u.read.unit (readings_under setting.entities labels u.read.unit) ∷ ps)
    (pieces_under setting labels held (all_rest (IsRendered setting.options) u held rendered) (all_rest (IsReadUnder setting.entities labels) u held read))

pieces_viewed : (setting : Setting) (labels : Table) (found : List FoundUnit)
    → map (λ (t : UnitTree). html_of setting.options t (readings_under setting.entities labels t)) (trees_in found) ≡ map (λ (v : ViewedUnit). v.piece) (map (viewed setting labels) found)
pieces_viewed setting labels [] = refl
pieces_viewed setting labels (one ∷ found) = ap (λ ps. html_of setting.options one.unit (readings_under setting.entities labels one.unit) ∷ ps) (pieces_viewed setting labels found)

-- each text was read under the labels of the text with its prelude
pub all_viewed : (setting : Setting) (lines : List (List ℕ)) (head : ℕ) (prelude : HeldPrelude) (labels : HeldLabels) (held : List HeldUnit) → HoldsUnits setting.entities lines head (map read_of held)
    → HoldsTexts setting lines prelude labels held → All (IsReadUnder setting.entities (table setting.entities (record { lines = lines; prelude = prelude.lines }))) held
all_viewed setting lines head prelude labels held blocks texts =
    all_read_under setting.entities (target_held labels) (table setting.entities (record { lines = lines; prelude = prelude.lines }))
    (λ label. texts.led label ∙ led_by_held setting.entities lines head prelude held blocks texts.defined label) held texts.read

-- The pieces are those of the view.
pub pieces_are_viewed : (setting : Setting) (lines : List (List ℕ)) (head : ℕ) (prelude : HeldPrelude) (labels : HeldLabels) (held : List HeldUnit) → HoldsUnits setting.entities lines head (map read_of held)
    → HoldsTexts setting lines prelude labels held → All (IsRendered setting.options) held
    → map piece_of held ≡ map (λ (v : ViewedUnit). v.piece) (view setting (record { lines = lines; prelude = prelude.lines }))
pieces_are_viewed setting lines head prelude labels held blocks texts rendered =
    pieces_under setting (table setting.entities (record { lines = lines; prelude = prelude.lines })) held rendered (all_viewed setting lines head prelude labels held blocks texts)
    ∙ ap (map (λ (t : UnitTree). html_of setting.options t (readings_under setting.entities (table setting.entities (record { lines = lines; prelude = prelude.lines })) t))) (trees_are setting.entities lines head held blocks)
    ∙ pieces_viewed setting (table setting.entities (record { lines = lines; prelude = prelude.lines })) (text_units setting.entities lines)

-- the blocks of units that were read under these labels, and their readings
abbrev tree_shown : Setting → Table → UnitTree → UnitTree × List ParsedText
tree_shown setting labels t = (t, readings_under setting.entities labels t)

abbrev shown_so : UnitTree → List ParsedText → UnitTree × List ParsedText
shown_so unit readings = (unit, readings)

shown_under : (setting : Setting) (labels : Table) (held : List HeldUnit) → All (IsReadUnder setting.entities labels) held → map shown_in held ≡ map (tree_shown setting labels) (map unit_in held)
shown_under setting labels [] read = refl
shown_under setting labels (u ∷ held) read =
    ap (λ r. shown_so u.read.unit r ∷ map shown_in held) (all_first (IsReadUnder setting.entities labels) u held read)
    ∙ ap (λ us. tree_shown setting labels u.read.unit ∷ us) (shown_under setting labels held (all_rest (IsReadUnder setting.entities labels) u held read))

shown_viewed : (setting : Setting) (labels : Table) (found : List FoundUnit)
    → map (tree_shown setting labels) (trees_in found) ≡ map shown_of (map (viewed setting labels) found)
shown_viewed setting labels [] = refl
shown_viewed setting labels (one ∷ found) = ap (λ us. tree_shown setting labels one.unit ∷ us) (shown_viewed setting labels found)

-- The blocks and the readings are those of the view.
pub readings_are_viewed : (setting : Setting) (lines : List (List ℕ)) (head : ℕ) (prelude : HeldPrelude) (labels : HeldLabels) (held : List HeldUnit) → HoldsUnits setting.entities lines head (map read_of held)
    → HoldsTexts setting lines prelude labels held → map shown_in held ≡ map shown_of (view setting (record { lines = lines; prelude = prelude.lines }))
readings_are_viewed setting lines head prelude labels held blocks texts =
    shown_under setting (table setting.entities (record { lines = lines; prelude = prelude.lines })) held (all_viewed setting lines head prelude labels held blocks texts)
    ∙ ap (map (tree_shown setting (table setting.entities (record { lines = lines; prelude = prelude.lines })))) (trees_are setting.entities lines head held blocks)
    ∙ shown_viewed setting (table setting.entities (record { lines = lines; prelude = prelude.lines })) (text_units setting.entities lines)
