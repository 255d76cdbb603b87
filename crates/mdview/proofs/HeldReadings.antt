-- What is held of labels and texts, where nothing is held, where room is made for labels, behind an edit, and behind a new prelude.
use Rattle.std.proofs.Common.{◌≡◌, ℕ, ◌+◌, ◌-◌, ◌^◌, ◌<◌, ◌≤◌, List, [], ◌++◌, None, length, map, take, option_map, sym, ◌∙◌, ap, arith}
use Rattle.std.specs.Prelude.{sum_by}
use Rattle.std.specs.List.{All}
use Rattle.mdtext.specs.EntityTable.{EntityTable}
use Rattle.blockspec.specs.BlockUnits.{units as text_units}
use Rattle.blockspec.specs.Nesting.{first_too_deep}
use Rattle.inlinespec.specs.LinkTails.{Table}
use Rattle.mdsource.specs.LabelTable.{table, with_units}
use Rattle.mdsource.specs.Refusals.{inline_refusal, inline_too_deep, nesting_refusal}
use Rattle.mdsource.specs.Setting.{Setting, Source}
use Rattle.mdsource.specs.UnitTexts.{asking_units, deep_found, deep_from}
use Rattle.mdsource.specs.UnitTiles.{tile_of}
use Rattle.mdsource.proofs.Cuts.{no_units}
use Rattle.mdsource.proofs.DeepUnits.{deep_of_text, refused_for_spans}
use Rattle.mdsource.proofs.ReadingsUnder.{deep_found_under}
use Rattle.std.proofs.lemmas.List.{take_all}
use Rattle.mdview.specs.declared.held.labels.HeldLabels.{HeldLabels}
use Rattle.mdview.specs.declared.labels.changes.LabelChanges.{LabelChanges}
use Rattle.mdview.specs.declared.inlines.concerned_texts.Again.{Again}
use Rattle.mdview.specs.HeldBlocks.{HoldsUnits, held_tile, lines_in}
use Rattle.mdview.specs.HeldTexts.{HoldsTexts, IsReread, asking_in_parts, between, number_again}
use Rattle.mdview.specs.ReadUnits.{IsReadUnder, IsShallow}
use Rattle.mdview.specs.HeldUnit.{HeldUnit, read_of, unit_in}
use Rattle.mdview.specs.LabelTargets.{at, changed, led_after, led_by, target_held}
use Rattle.mdview.specs.Lists.{replaced}
use Rattle.mdsource.specs.Preludes.{HeldPrelude, IsDefinedBy}
use Rattle.mdview.specs.Update.{all_renewed}
use Rattle.mdview.proofs.CommittedTexts.{committed_read}
use Rattle.mdview.proofs.EditTexts.{all_read_under, units_shallow, led_by_text, lines_are, nested_in_none, none_deep_before, tiles_are, trees_are}

-- nothing is held
pub holds_no_texts : (setting : Setting) (prelude : HeldPrelude) (labels : HeldLabels) → prelude ≡ record { lines = []; labels = [] } → ((label : List ℕ) → target_held labels label ≡ None)
    → HoldsTexts setting [] prelude labels []
holds_no_texts setting prelude labels empty none = record {
  led = λ label. none label ∙ ap (λ p. led_by [] p label) (sym empty);
  defined = ap (λ (p : HeldPrelude). p.labels) empty ∙ sym (ap (with_units []) (ap (λ (p : HeldPrelude). text_units setting.entities p.lines) empty ∙ no_units setting.entities));
  read = λ k d small. absurd (omega (arith, small));
  spans = refused_for_spans setting (record { lines = []; prelude = prelude.lines })
      ∙ ap (λ us. option_map inline_too_deep (deep_found setting.options.max_spans setting.entities (table setting.entities (record { lines = []; prelude = prelude.lines })) us)) (no_units setting.entities);
}

-- labels that lead alike
pub holds_relabelled : (setting : Setting) (lines : List (List ℕ)) (prelude : HeldPrelude) (old new : HeldLabels) (held : List HeldUnit) → ((label : List ℕ) → target_held new label ≡ target_held old label)
    → HoldsTexts setting lines prelude old held → HoldsTexts setting lines prelude new held
holds_relabelled setting lines prelude old new held same w = record {
  led = λ label. same label ∙ w.led label;
  defined = w.defined;
  read = all_read_under setting.entities (target_held old) (target_held new) (λ label. sym (same label)) held w.read;
  spans = w.spans;
}

-- the labels of the text
pub led_by_held : (e : EntityTable) (lines : List (List ℕ)) (head : ℕ) (prelude : HeldPrelude) (held : List HeldUnit) → HoldsUnits e lines head (map read_of held) → IsDefinedBy e prelude → (label : List ℕ)
    → led_by (map unit_in held) prelude label ≡ table e (record { lines = lines; prelude = prelude.lines }) label
led_by_held e lines head prelude held w defined label = ap (λ us. led_by us prelude label) (trees_are e lines head held w) ∙ led_by_text e lines prelude defined label

-- behind an edit
pub holds_texts_behind : (setting : Setting) (old new : List (List ℕ)) (was head : ℕ) (prelude : HeldPrelude) (labels room led : HeldLabels) (changes : LabelChanges) (held add : List HeldUnit) (again : List Again) (first next : ℕ)
    → HoldsUnits setting.entities old was (map read_of held) → HoldsTexts setting old prelude labels held
    → HoldsUnits setting.entities new head (map read_of (replaced (all_renewed held again) first (next - first) add)) → first ≤ next → next ≤ length held
    → ((label : List ℕ) → target_held room label ≡ target_held labels label) → ((label : List ℕ) → target_held led label ≡ led_after room changes label)
    → ((label : List ℕ) → led_after labels changes label ≡ table setting.entities (record { lines = new; prelude = prelude.lines }) label)
    → All (IsReadUnder setting.entities (table setting.entities (record { lines = new; prelude = prelude.lines }))) add
    → All (IsReread setting.entities (table setting.entities (record { lines = new; prelude = prelude.lines })) (map unit_in held)) again
    → map number_again again ≡ asking_in_parts setting.entities (table setting.entities (record { lines = old; prelude = prelude.lines })) (table setting.entities (record { lines = new; prelude = prelude.lines })) held first next
    → first_too_deep setting.options.max_containers new ≡ None → nesting_refusal setting (record { lines = new; prelude = prelude.lines }) ≡ None
    → HoldsTexts setting new prelude led (replaced (all_renewed held again) first (next - first) add)
holds_texts_behind setting old new was head prelude labels room led changes held add again first next blocks texts behind order within same commits leads news reread numbers fits accepted = record {
  led = λ label. lead label ∙ sym (led_by_held e new head prelude now behind texts.defined label);
  defined = texts.defined;
  read = all_read_under e after (target_held led) (λ label. sym (lead label)) now
      (committed_read e before after held again first next (all_read_under e (target_held labels) before (λ label. texts.led label ∙ led_by_held e old was prelude held blocks texts.defined label) held texts.read) reread numbers add news order within);
  spans = sym (nested_in_none setting (record { lines = new; prelude = prelude.lines }) fits) ∙ accepted;
}
  where
    e : EntityTable
    e = setting.entities

    before : Table
    before = table setting.entities (record { lines = old; prelude = prelude.lines })

    after : Table
    after = table setting.entities (record { lines = new; prelude = prelude.lines })

    now : List HeldUnit
    now = replaced (all_renewed held again) first (next - first) add

    lead : (label : List ℕ) → target_held led label ≡ table setting.entities (record { lines = new; prelude = prelude.lines }) label
    lead label = commits label ∙ ap (changed (at label changes.targets.entries)) (same label) ∙ leads label

-- behind a new prelude
prelude_parts : (e : EntityTable) (before after : Table) (held : List HeldUnit) → asking_in_parts e before after held 0 0 ≡ asking_units e before after 0 (map unit_in held)
prelude_parts e before after held =
    let none : 0 - 0 ≡ 0 = omega arith in
    let all : length held - 0 ≡ length held = omega arith in
    ap (λ n. asking_units e before after 0 (map unit_in (take n held)) ++ asking_units e before after 0 (map unit_in (between 0 (length held) held))) none
    ∙ ap (λ n. asking_units e before after 0 (map unit_in (take n held))) all
    ∙ ap (λ us. asking_units e before after 0 (map unit_in us)) (take_all (length held) held (omega arith))

-- where spans lie too deep in the text beside a prelude, by the units that are held
pub spans_by_units : (setting : Setting) (lines : List (List ℕ)) (head : ℕ) (prelude : HeldPrelude) (held : List HeldUnit) → HoldsUnits setting.entities lines head (map read_of held) → IsDefinedBy setting.entities prelude
    → inline_refusal setting (record { lines = lines; prelude = prelude.lines })
    ≡ option_map inline_too_deep (deep_from setting.options.max_spans setting.entities (led_by (map unit_in held) prelude) head (map held_tile held))
spans_by_units setting lines head prelude held blocks defined =
    refused_for_spans setting source ∙ ap (option_map inline_too_deep)
    (deep_found_under setting.options.max_spans e (table e source) after (λ label. sym (led_by_held e lines head prelude held blocks defined label)) (text_units e lines)
    ∙ deep_of_text setting.options.max_spans e after lines
    ∙ ap (λ n. deep_from setting.options.max_spans e after n (map tile_of (text_units e lines))) (sym blocks.before)
    ∙ ap (deep_from setting.options.max_spans e after head) (sym (tiles_are e lines head held blocks)))
  where
    e : EntityTable
    e = setting.entities

    source : Source
    source = record { lines = lines; prelude = prelude.lines }

    after : Table
    after = led_by (map unit_in held) prelude

pub holds_texts_still : (setting : Setting) (lines : List (List ℕ)) (head : ℕ) (old new : HeldPrelude) (labels room led : HeldLabels) (changes : LabelChanges) (held : List HeldUnit) (again : List Again)
    → HoldsUnits setting.entities lines head (map read_of held) → HoldsTexts setting lines old labels held
    → HoldsUnits setting.entities lines head (map read_of (replaced (all_renewed held again) 0 (0 - 0) [])) → IsDefinedBy setting.entities new
    → ((label : List ℕ) → target_held room label ≡ target_held labels label) → ((label : List ℕ) → target_held led label ≡ led_after room changes label)
    → ((label : List ℕ) → led_after labels changes label ≡ led_by (map unit_in held) new label)
    → All (IsReread setting.entities (led_by (map unit_in held) new) (map unit_in held)) again
    → map number_again again ≡ asking_units setting.entities (target_held labels) (led_by (map unit_in held) new) 0 (map unit_in held)
    → deep_from setting.options.max_spans setting.entities (led_by (map unit_in held) new) head (map held_tile held) ≡ None
    → HoldsTexts setting lines new led (replaced (all_renewed held again) 0 (0 - 0) [])
holds_texts_still setting lines head old new labels room led changes held again blocks texts behind defined same commits leads reread numbers shallow = record {
  led = λ label. lead label ∙ led_by_held e lines head new held blocks defined label ∙ sym (led_by_held e lines head new now behind defined label);
  defined = defined;
  read = all_read_under e after (target_held led) (λ label. sym (lead label)) now
      (committed_read e (target_held labels) after held again 0 0 texts.read reread (numbers ∙ sym (prelude_parts e (target_held labels) after held)) [] (λ k d small. absurd (omega (arith, small))) (omega arith) (omega arith));
  spans = spans_by_units setting lines head new held blocks defined ∙ ap (option_map inline_too_deep) shallow;
}
  where
    e : EntityTable
    e = setting.entities

    after : Table
    after = led_by (map unit_in held) new

    now : List HeldUnit
    now = replaced (all_renewed held again) 0 (0 - 0) []

    lead : (label : List ℕ) → target_held led label ≡ led_by (map unit_in held) new label
    lead label = commits label ∙ ap (changed (at label changes.targets.entries)) (same label) ∙ leads label

-- what a new prelude asks of what is held
pub shallow_still : (setting : Setting) (lines : List (List ℕ)) (head : ℕ) (prelude : HeldPrelude) (labels : HeldLabels) (held : List HeldUnit) → HoldsUnits setting.entities lines head (map read_of held)
    → HoldsTexts setting lines prelude labels held → All (IsShallow setting.options.max_spans setting.entities (target_held labels)) held
shallow_still setting lines head prelude labels held blocks texts =
    units_shallow setting.entities lines head held blocks setting.options.max_spans (target_held labels)
    (deep_found_under setting.options.max_spans setting.entities (target_held labels) (table setting.entities (record { lines = lines; prelude = prelude.lines }))
    (λ label. texts.led label ∙ led_by_held setting.entities lines head prelude held blocks texts.defined label) (text_units setting.entities lines)
    ∙ none_deep_before setting (record { lines = lines; prelude = prelude.lines }) texts.spans)

pub near_still : (e : EntityTable) (lines : List (List ℕ)) (head : ℕ) (held : List HeldUnit) → HoldsUnits e lines head (map read_of held) → length lines ≤ 1000000 → head + sum_by lines_in held < 2 ^ 64
near_still e lines head held blocks few = let all = lines_are e lines head held blocks in omega (arith, all, few)
