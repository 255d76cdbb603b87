-- What a new prelude leaves and answers, from what was read again.
use Rattle.std.proofs.Common.{◌≡◌, ℕ, ◌+◌, ◌-◌, ◌^◌, ◌<◌, List, [], None, arith, length, map, min, nat_lt, option_map, refl, sym, subst, ◌∙◌, ap, false}
use Rattle.std.specs.Prelude.{if◌then◌else◌}
use Rattle.std.specs.List.{All}
use Rattle.std.specs.Option.{option_or}
use Rattle.std.proofs.lemmas.Bool.Decides.{nat_tests}
use Rattle.std.proofs.lemmas.List.{length-map}
use Rattle.std.proofs.lemmas.Simd.{map-map}
use Rattle.mdtext.specs.EntityTable.{EntityTable}
use Rattle.mdtext.specs.Lines.{without_nul}
use Rattle.blockspec.specs.BlockUnits.{units as text_units}
use Rattle.htmlspec.specs.declared.options.Options.{Options}
use Rattle.mdsource.specs.Calls.{set_prelude}
use Rattle.mdsource.specs.ChangedPieces.{ChangedPieces}
use Rattle.mdsource.specs.Changes.{asking_from, patch_of, texts_due, texts_read}
use Rattle.mdsource.specs.LabelTable.{table}
use Rattle.mdsource.specs.Patch.{Brings}
use Rattle.mdsource.specs.Refusals.{inline_refusal, inline_too_deep, not_definitions, prelude_refusal, undefining_line}
use Rattle.mdsource.specs.Setting.{Setting, Source}
use Rattle.mdsource.specs.View.{view}
use Rattle.mdsource.specs.UnitTexts.{asking_texts, asking_units, deep_from}
use Rattle.mdsource.proofs.AskingUnits.{asking_all, asking_renumbered, texts_all}
use Rattle.mdsource.proofs.ReadingsUnder.{asking_texts_under, asking_units_under}
use Rattle.mdsource.specs.declared.fault.EditFault.{EditFault}
use Rattle.mdview.specs.declared.held.labels.HeldLabels.{HeldLabels}
use Rattle.mdview.specs.declared.inlines.concerned_texts.Again.{Again}
use Rattle.mdview.specs.declared.update.Update.{Update}
use Rattle.mdview.specs.Document.{pieces_of, readings_of}
use Rattle.mdview.specs.HeldBlocks.{HoldsUnits, held_tile}
use Rattle.mdview.specs.HeldTexts.{HoldsTexts, IsRefusedBy, IsReread, number_again}
use Rattle.mdsource.specs.TextFaults.{IsTextFault}
use Rattle.mdview.specs.HeldUnit.{HeldUnit, IsRendered, piece_of, read_of, shown_in, unit_in}
use Rattle.mdview.specs.LabelTargets.{led_after, led_by, target_held}
use Rattle.mdview.specs.Lists.{replaced}
use Rattle.mdsource.specs.Preludes.{HeldPrelude, IsDefinedBy}
use Rattle.mdview.specs.Update.{IsFitFor, IsPatchOf, all_renewed, count_brought, number_after, units_brought}
use Rattle.mdview.proofs.Committed.{brought_count, committed_brings, committed_rendered}
use Rattle.mdview.proofs.EditTexts.{texts_refused, trees_are}
use Rattle.mdview.proofs.HeldReadings.{holds_texts_still, led_by_held, spans_by_units}
use Rattle.mdview.proofs.HeldTiles.{holds_still}
use Rattle.mdview.proofs.HeldViews.{pieces_are_viewed, readings_are_viewed}
use Rattle.mdview.proofs.Outcomes.{same_patch}

-- ---- why the lines of a prelude are refused

-- ---- what it leaves

-- what is known of units that are read again for a new prelude
pub record IsRenewalOf (setting : Setting) (labels : HeldLabels) (prelude : HeldPrelude) (head : ℕ) (held : List HeldUnit) (r : Update) : Type 0 where
  pub none : (r.first ≡ 0) × (r.next ≡ 0) × (units_brought held r ≡ [])
  pub led : (label : List ℕ) → led_after labels r.changes label ≡ led_by (map unit_in held) prelude label
  pub reread : All (IsReread setting.entities (led_by (map unit_in held) prelude) (map unit_in held)) r.again.items
  pub numbers : map number_again r.again.items ≡ asking_units setting.entities (target_held labels) (led_by (map unit_in held) prelude) 0 (map unit_in held)
  pub shallow : deep_from setting.options.max_spans setting.entities (led_by (map unit_in held) prelude) head (map held_tile held) ≡ None
  pub fit : IsFitFor setting.options held r

module _ (e : EntityTable) (options : Options) (lines : List (List ℕ)) (old new : HeldPrelude) (head : ℕ) (labels : HeldLabels) (units : List HeldUnit)
    (blocks : HoldsUnits e lines head (map read_of units)) (texts : HoldsTexts (record { entities = e; options = options }) lines old labels units) (defined : IsDefinedBy e new) where
  abbrev setting : Setting
  setting = record { entities = e; options = options }

  abbrev before : Source
  before = record { lines = lines; prelude = old.lines }

  abbrev behind : Source
  behind = record { lines = lines; prelude = new.lines }

  led_before : (label : List ℕ) → target_held labels label ≡ table e (record { lines = lines; prelude = old.lines }) label
  led_before label = texts.led label ∙ led_by_held e lines head old units blocks texts.defined label

  led_behind : (label : List ℕ) → led_by (map unit_in units) new label ≡ table e (record { lines = lines; prelude = new.lines }) label
  led_behind label = led_by_held e lines head new units blocks defined label

  -- the first text that is too deep
  pub renewal_refused : (fault : EditFault) → undefining_line setting new.lines ≡ None
      → IsTextFault (deep_from options.max_spans e (led_by (map unit_in units) new) head (map held_tile units)) fault → IsRefusedBy (prelude_refusal setting behind) fault
  renewal_refused fault none h =
      texts_refused (prelude_refusal setting behind) (deep_from options.max_spans e (led_by (map unit_in units) new) head (map held_tile units))
      (ap (λ o. option_or (option_map not_definitions o) (inline_refusal setting behind)) none ∙ spans_by_units setting lines head new units blocks defined) fault h

  pub renewal_stands : undefining_line setting new.lines ≡ None → deep_from options.max_spans e (led_by (map unit_in units) new) head (map held_tile units) ≡ None → prelude_refusal setting behind ≡ None
  renewal_stands none shallow =
      ap (λ o. option_or (option_map not_definitions o) (inline_refusal setting behind)) none ∙ spans_by_units setting lines head new units blocks defined ∙ ap (option_map inline_too_deep) shallow

  -- how many texts are read
  pub texts_of_prelude : (added : List (List ℕ)) → new.lines ≡ map without_nul added
      → asking_texts e (target_held labels) (led_by (map unit_in units) new) (map unit_in units) ≡ texts_read setting (record { lines = lines; prelude = old.lines }) (set_prelude added)
  texts_of_prelude added is =
      asking_texts_under e (target_held labels) (led_by (map unit_in units) new) (table e before) (table e behind) led_before led_behind (map unit_in units)
      ∙ ap (asking_texts e (table e before) (table e behind)) (trees_are e lines head units blocks)
      ∙ sym (texts_all setting (table e before) (table e behind) (text_units e lines))
      ∙ ap (λ ps. texts_due (table e before) (table e (record { lines = lines; prelude = ps })) 0 0 0 (view setting (record { lines = lines; prelude = ps }))) is

  module _ (r : Update) (rendered : All (IsRendered options) units) (w : IsRenewalOf setting labels new head units r) where
    abbrev come : List HeldUnit
    come = all_renewed units r.again.items

    count_none : count_brought r ≡ 0
    count_none = sym (brought_count options units r w.fit) ∙ ap (λ us. length us) w.none.2

    blocks_come : HoldsUnits e lines head (map read_of come)
    blocks_come = holds_still e lines head units r.again.items blocks

    texts_come : (room led : HeldLabels) → ((label : List ℕ) → target_held room label ≡ target_held labels label) → ((label : List ℕ) → target_held led label ≡ led_after room r.changes label)
        → HoldsTexts setting lines new led come
    texts_come room led same commits =
        holds_texts_still setting lines head old new labels room led r.changes units r.again.items blocks texts blocks_come defined same commits w.led w.reread w.numbers w.shallow

    module _ (next : List HeldUnit) (next_is : next ≡ replaced (all_renewed units r.again.items) r.first (r.next - r.first) (units_brought units r)) where
      all_come : next ≡ all_renewed units r.again.items
      all_come = next_is ∙ (rw (w.none.2, w.none.0, w.none.1) refl)

      pub renewed_blocks : HoldsUnits e lines head (map read_of next)
      renewed_blocks = subst (λ us. HoldsUnits e lines head (map read_of us)) (sym all_come) blocks_come

      pub renewed_texts : (room led : HeldLabels) → ((label : List ℕ) → target_held room label ≡ target_held labels label) → ((label : List ℕ) → target_held led label ≡ led_after room r.changes label)
          → HoldsTexts setting lines new led next
      renewed_texts room led same commits = subst (λ us. HoldsTexts setting lines new led us) (sym all_come) (texts_come room led same commits)

      pub renewed_rendered : All (IsRendered options) next
      renewed_rendered = subst (All (IsRendered options)) (sym next_is) (committed_rendered options units r w.fit rendered)

      module _ (patch : ChangedPieces) (room led : HeldLabels) (same : (label : List ℕ) → target_held room label ≡ target_held labels label)
          (commits : (label : List ℕ) → target_held led label ≡ led_after room r.changes label) (of_update : IsPatchOf r patch) (small : length units < 2 ^ 64) where
        both : length units + count_brought r < 2 ^ 64
        both = omega (arith, count_none, small)

        pub pieces_renewed : Brings patch (pieces_of (record { entities = e; options = options; lines = lines; prelude = old.lines })) (pieces_of (record { entities = e; options = options; lines = lines; prelude = new.lines }))
        pieces_renewed =
            subst (λ ps. Brings patch ps (pieces_of (record { entities = e; options = options; lines = lines; prelude = new.lines }))) (pieces_are_viewed setting lines head old labels units blocks texts rendered)
            (subst (Brings patch (map piece_of units)) (ap (map piece_of) (sym next_is) ∙ pieces_are_viewed setting lines head new led next renewed_blocks (renewed_texts room led same commits) renewed_rendered)
            (committed_brings piece_of options units r patch w.fit of_update both))

        pub readings_renewed : Brings patch (readings_of (record { entities = e; options = options; lines = lines; prelude = old.lines })) (readings_of (record { entities = e; options = options; lines = lines; prelude = new.lines }))
        readings_renewed =
            subst (λ ps. Brings patch ps (readings_of (record { entities = e; options = options; lines = lines; prelude = new.lines }))) (readings_are_viewed setting lines head old labels units blocks texts)
            (subst (Brings patch (map shown_in units)) (ap (map shown_in) (sym next_is) ∙ readings_are_viewed setting lines head new led next renewed_blocks (renewed_texts room led same commits))
            (committed_brings shown_in options units r patch w.fit of_update both))

    -- ---- what it answers

    again_are : length units < 2 ^ 64 → map (λ (one : Again). number_after r one.unit) r.again.items ≡ asking_from (table e before) (table e behind) 0 0 0 (view setting behind)
    again_are small =
        sym (map-map (number_after r) number_again r.again.items)
        ∙ ap (map (number_after r)) w.numbers
        ∙ asking_renumbered e (target_held labels) (led_by (map unit_in units) new) (number_after r) 0 0 (map unit_in units) stays
        ∙ asking_units_under e (target_held labels) (led_by (map unit_in units) new) (table e before) (table e behind) led_before led_behind 0 (map unit_in units)
        ∙ ap (asking_units e (table e before) (table e behind) 0) (trees_are e lines head units blocks)
        ∙ sym (asking_all setting (table e before) (table e behind) (text_units e lines))
      where
        stays : (k : ℕ) → k < length (map unit_in units) → number_after r (0 + k) ≡ 0 + k
        stays k below =
            let many = length-map units unit_in in
            let none = count_none in
            let first = w.none.0 in
            let next = w.none.1 in
            let test : nat_lt (0 + k) r.next ≡ false = grind (arith, nat_tests, next) in
            let value : min (0 + k - r.next + r.first + count_brought r) (2 ^ 64 - 1) ≡ 0 + k = omega (arith, small, below, many, none, first, next) in
            ap (λ t. if t then 0 + k else min (0 + k - r.next + r.first + count_brought r) (2 ^ 64 - 1)) test ∙ value

    pub renewal_patch : (patch : ChangedPieces) → IsPatchOf r patch → length units < 2 ^ 64 → (added : List (List ℕ)) → new.lines ≡ map without_nul added
        → patch ≡ patch_of setting (record { lines = lines; prelude = old.lines }) (set_prelude added)
    renewal_patch patch of_update small added is =
        let due = patch_of setting (record { lines = lines; prelude = old.lines }) (set_prelude added) in
        let gone : r.next - r.first ≡ 0 = let a = w.none.0 in let b = w.none.1 in omega (arith, a, b) in
        same_patch patch due (of_update.first ∙ w.none.0) (of_update.removed ∙ gone) (of_update.added ∙ count_none)
        (of_update.again ∙ again_are small ∙ ap (λ ps. asking_from (table e before) (table e (record { lines = lines; prelude = ps })) 0 0 0 (view setting (record { lines = lines; prelude = ps }))) is)
