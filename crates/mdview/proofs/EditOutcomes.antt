-- What an accepted edit leaves and answers, from what was read and what was put in the place of what was held.
use Rattle.std.proofs.Common.{◌≡◌, ℕ, ◌+◌, ◌-◌, ◌^◌, ◌<◌, List, ◌++◌, None, String, Global, arith, drop, length, map, min, nat_lt, string_bytes, take, sym, subst, ◌∙◌, ap, true, false}
use Rattle.std.specs.Prelude.{if◌then◌else◌}
use Rattle.std.specs.List.{All, take-map, drop-map}
use Rattle.std.proofs.lemmas.Bool.Decides.{nat_tests}
use Rattle.std.proofs.lemmas.List.{length-drop, length-map, length-take-le, map-append, take_all}
use Rattle.std.proofs.lemmas.Simd.{map-map}
use Rattle.mdtext.specs.EntityTable.{EntityTable}
use Rattle.mdtext.specs.Lines.{without_nul}
use Rattle.blockspec.specs.BlockUnits.{units as text_units}
use Rattle.blockspec.specs.Nesting.{first_too_deep}
use Rattle.inlinespec.specs.LinkTails.{Table}
use Rattle.htmlspec.specs.declared.options.Options.{Options}
use Rattle.mdsource.specs.Calls.{edit, put}
use Rattle.mdsource.specs.ChangedPieces.{ChangedPieces}
use Rattle.mdsource.specs.Changes.{asking_from, patch_of, places}
use Rattle.mdsource.specs.LabelTable.{table}
use Rattle.mdsource.specs.Patch.{Brings}
use Rattle.mdsource.specs.Refusals.{nesting_refusal}
use Rattle.mdsource.specs.Setting.{Setting}
use Rattle.mdsource.specs.Spliced.{IsSpliced}
use Rattle.mdsource.specs.Stretch.{Places, units_added, units_before, units_removed}
use Rattle.mdsource.specs.View.{view}
use Rattle.blockspec.specs.Joins.{joins}
use Rattle.mdsource.specs.SoonTexts.{texts_of_read, texts_soon, units_read}
use Rattle.mdsource.specs.Stops.{lines_soon, lines_to_stop}
use Rattle.mdsource.specs.UnitTexts.{asking_units, trees_in}
use Rattle.mdsource.proofs.AskingUnits.{asking_renumbered, asking_spliced}
use Rattle.mdsource.proofs.Counts.{spliced}
use Rattle.mdview.specs.declared.held.labels.HeldLabels.{HeldLabels}
use Rattle.mdview.specs.declared.source.new_text.NewText.{NewText}
use Rattle.mdview.specs.declared.inlines.concerned_texts.Again.{Again}
use Rattle.mdview.specs.declared.update.Update.{Update}
use Rattle.mdview.specs.Document.{Document, pieces_of, readings_of, setting_of, source_of}
use Rattle.mdview.specs.HeldBlocks.{HoldsUnits, IsReplacing, old_lines, places_of}
use Rattle.mdview.specs.HeldTexts.{HoldsTexts, IsReread, asking_in_parts, between, number_again}
use Rattle.mdview.specs.ReadUnits.{IsReadUnder}
use Rattle.mdview.specs.HeldUnit.{HeldUnit, IsRendered, piece_of, read_of, shown_in, unit_in}
use Rattle.mdview.specs.LabelTargets.{led_after, target_held}
use Rattle.mdview.specs.Lists.{replaced}
use Rattle.mdview.specs.NewText.{lines_of}
use Rattle.mdsource.specs.Preludes.{HeldPrelude}
use Rattle.mdview.specs.StopLines.{stops_of}
use Rattle.mdview.specs.Update.{IsFitFor, IsPatchOf, all_renewed, count_brought, number_after, units_brought}
use Rattle.mdview.proofs.Committed.{committed_brings, committed_rendered}
use Rattle.mdview.proofs.EditPlaces.{patch_numbers, same_places}
use Rattle.mdview.proofs.EditTexts.{trees_are}
use Rattle.mdview.proofs.HeldReadings.{holds_texts_behind}
use Rattle.mdview.proofs.HeldTiles.{holds_behind}
use Rattle.mdview.proofs.HeldViews.{pieces_are_viewed, readings_are_viewed}
use Rattle.mdview.proofs.Outcomes.{same_patch}
use Rattle.mdview.proofs.ReadStretches.{is_edit}

-- ---- the text that an edit would leave

-- this is the text before the edit and behind it
pub record IsTextOf (held : Document) (at del : ℕ) (add : List (List ℕ)) (text : NewText) : Type 0 where
  pub before : old_lines text ≡ held.lines
  pub behind : lines_of text ≡ (put (source_of held) (edit at del add)).lines
  pub same : places_of held.entities text ≡ places (setting_of held) (source_of held) (edit at del add)

pub text_of_edit : (held : Document) (at del : ℕ) (add : List (List ℕ)) (text : NewText) (lines seen come shown : List (String Global)) → map string_bytes lines ≡ held.lines → seen ≡ lines → shown ≡ come
    → map string_bytes come ≡ map without_nul add → lines_of text ≡ replaced (map string_bytes seen) at del (map string_bytes shown) → old_lines text ≡ map string_bytes seen
    → text.at ≡ at → text.gone ≡ del → length text.added.now ≡ length shown → IsTextOf held at del add text
text_of_edit held at del add text lines seen come shown is seen_is shown_is clean new old a d c = record {
  before = before;
  behind = behind;
  same = same_places (setting_of held) (source_of held) text at del add before behind a d many;
}
  where
    before : old_lines text ≡ held.lines
    before = old ∙ ap (map string_bytes) seen_is ∙ is

    behind : lines_of text ≡ (put (source_of held) (edit at del add)).lines
    behind =
        new ∙ ap (λ xs. replaced (map string_bytes xs) at del (map string_bytes shown)) seen_is
        ∙ ap (λ xs. replaced (map string_bytes lines) at del (map string_bytes xs)) shown_is
        ∙ ap (λ xs. replaced xs at del (map string_bytes come)) is
        ∙ ap (λ xs. replaced held.lines at del xs) clean

    many : length text.added.now ≡ length add
    many = c ∙ ap (λ xs. length xs) shown_is ∙ sym (length-map come string_bytes) ∙ ap (λ xs. length xs) clean ∙ length-map add without_nul

-- how many lines and texts are read, in the words of the call
pub lines_of_call : (held : Document) (at del : ℕ) (add : List (List ℕ)) (text : NewText) → IsTextOf held at del add text
    → lines_to_stop (stops_of held.entities text) ≡ lines_soon (setting_of held) (source_of held) (edit at del add)
lines_of_call held at del add text w =
    ap (λ p. stop p (old_lines text) (lines_of text)) w.same
    ∙ ap (λ ls. stop (places (setting_of held) (source_of held) (edit at del add)) ls (lines_of text)) w.before
    ∙ ap (stop (places (setting_of held) (source_of held) (edit at del add)) held.lines) w.behind
  where
    stop : Places → (old new : List (List ℕ)) → ℕ
    stop p old new = lines_to_stop (record { places = p; old_joins = joins held.entities old; new_joins = joins held.entities new })

pub texts_of_call : (held : Document) (at del : ℕ) (add : List (List ℕ)) (text : NewText) → IsTextOf held at del add text
    → texts_of_read (setting_of held) (record { lines = old_lines text; prelude = held.prelude }) (record { lines = lines_of text; prelude = held.prelude })
    (units_read held.entities (lines_of text) (stops_of held.entities text)) ≡ texts_soon (setting_of held) (source_of held) (edit at del add)
texts_of_call held at del add text w =
    ap (λ p. read p (old_lines text) (lines_of text)) w.same
    ∙ ap (λ ls. read (places (setting_of held) (source_of held) (edit at del add)) ls (lines_of text)) w.before
    ∙ ap (read (places (setting_of held) (source_of held) (edit at del add)) held.lines) w.behind
  where
    read : Places → (old new : List (List ℕ)) → ℕ
    read p old new =
        texts_of_read (setting_of held) (record { lines = old; prelude = held.prelude }) (record { lines = new; prelude = held.prelude })
        (units_read held.entities new (record { places = p; old_joins = joins held.entities old; new_joins = joins held.entities new }))

-- ---- what was read

-- what is known of an edit of units that are held, from one text to another
pub record IsUpdateOf (setting : Setting) (prelude : List (List ℕ)) (labels : HeldLabels) (held : List HeldUnit) (old new : List (List ℕ)) (text : NewText) (r : Update) : Type 0 where
  pub replacing : IsReplacing setting.entities held text r
  pub led : (label : List ℕ) → led_after labels r.changes label ≡ table setting.entities (record { lines = new; prelude = prelude }) label
  pub read : All (IsReadUnder setting.entities (table setting.entities (record { lines = new; prelude = prelude }))) (units_brought held r)
  pub reread : All (IsReread setting.entities (table setting.entities (record { lines = new; prelude = prelude })) (map unit_in held)) r.again.items
  pub numbers : map number_again r.again.items
      ≡ asking_in_parts setting.entities (table setting.entities (record { lines = old; prelude = prelude })) (table setting.entities (record { lines = new; prelude = prelude })) held r.first r.next
  pub fit : IsFitFor setting.options held r
  pub fits : first_too_deep setting.options.max_containers new ≡ None
  pub accepted : nesting_refusal setting (record { lines = new; prelude = prelude }) ≡ None

-- the same of the units and texts that these are
pub update_of_call : (held : Document) (at del : ℕ) (add : List (List ℕ)) (text : NewText) (labels : HeldLabels) (seen units : List HeldUnit) (r : Update) → seen ≡ units → IsTextOf held at del add text
    → IsUpdateOf (setting_of held) held.prelude labels seen (old_lines text) (lines_of text) text r
    → IsUpdateOf (setting_of held) held.prelude labels units held.lines (put (source_of held) (edit at del add)).lines text r
update_of_call held at del add text labels seen units r same is w =
    subst (λ us. IsUpdateOf (setting_of held) held.prelude labels us held.lines (put (source_of held) (edit at del add)).lines text r) same
    (subst (λ ls. IsUpdateOf (setting_of held) held.prelude labels seen ls (put (source_of held) (edit at del add)).lines text r) is.before
    (subst (λ ls. IsUpdateOf (setting_of held) held.prelude labels seen (old_lines text) ls text r) is.behind w))

-- ---- what it leaves

module _ (e : EntityTable) (options : Options) (lines : List (List ℕ)) (prelude : HeldPrelude) (head : ℕ) (labels : HeldLabels) (units : List HeldUnit) (at del : ℕ) (add : List (List ℕ)) (text : NewText) (r : Update)
    (blocks : HoldsUnits e lines head (map read_of units)) (texts : HoldsTexts (record { entities = e; options = options }) lines prelude labels units) (rendered : All (IsRendered options) units)
    (is : IsTextOf (record { entities = e; options = options; lines = lines; prelude = prelude.lines }) at del add text)
    (w : IsUpdateOf (record { entities = e; options = options }) prelude.lines labels units lines (put (record { lines = lines; prelude = prelude.lines }) (edit at del add)).lines text r) where
  abbrev setting : Setting
  setting = record { entities = e; options = options }

  abbrev held : Document
  held = record { entities = e; options = options; lines = lines; prelude = prelude.lines }

  abbrev new : List (List ℕ)
  new = (put (record { lines = lines; prelude = prelude.lines }) (edit at del add)).lines

  abbrev left : Document
  left = record { entities = e; options = options; lines = new; prelude = prelude.lines }

  abbrev come : List HeldUnit
  come = replaced (all_renewed units r.again.items) r.first (r.next - r.first) (units_brought units r)

  blocks_come : HoldsUnits e new r.head (map read_of come)
  blocks_come =
      let p = places_of e text in
      let before = subst (λ ls. HoldsUnits e ls head (map read_of units)) (sym is.before) blocks in
      subst (λ ls. HoldsUnits e ls r.head (map read_of come)) is.behind
      (holds_behind e (old_lines text) (lines_of text) p (is_edit e text) head r.head r.first r.next units (units_brought units r) r.again.items
      before w.fit.order w.replacing.first w.replacing.next w.replacing.head w.replacing.units w.replacing.stands)

  texts_come : (room led : HeldLabels) → ((label : List ℕ) → target_held room label ≡ target_held labels label) → ((label : List ℕ) → target_held led label ≡ led_after room r.changes label)
      → HoldsTexts setting new prelude led come
  texts_come room led same commits =
      holds_texts_behind setting lines new head r.head prelude labels room led r.changes units (units_brought units r) r.again.items r.first r.next blocks texts blocks_come w.fit.order w.fit.within same commits
      w.led w.read w.reread w.numbers w.fits w.accepted

  rendered_come : All (IsRendered options) come
  rendered_come = committed_rendered options units r w.fit rendered

  -- the units that are held then
  module _ (next : List HeldUnit) (next_is : next ≡ come) where
    pub next_blocks : HoldsUnits e new r.head (map read_of next)
    next_blocks = subst (λ us. HoldsUnits e new r.head (map read_of us)) (sym next_is) blocks_come

    pub next_texts : (room led : HeldLabels) → ((label : List ℕ) → target_held room label ≡ target_held labels label) → ((label : List ℕ) → target_held led label ≡ led_after room r.changes label)
        → HoldsTexts setting new prelude led next
    next_texts room led same commits = subst (λ us. HoldsTexts setting new prelude led us) (sym next_is) (texts_come room led same commits)

    pub next_rendered : All (IsRendered options) next
    next_rendered = subst (All (IsRendered options)) (sym next_is) rendered_come

    -- the patch takes the old pieces to the new ones, and what it does not bring was read as it is
    module _ (patch : ChangedPieces) (room led : HeldLabels) (same : (label : List ℕ) → target_held room label ≡ target_held labels label)
        (commits : (label : List ℕ) → target_held led label ≡ led_after room r.changes label) (of_update : IsPatchOf r patch) (small : length units + count_brought r < 2 ^ 64) where
      pub pieces_brought : Brings patch (pieces_of held) (pieces_of left)
      pieces_brought =
          subst (λ ps. Brings patch ps (pieces_of left)) (pieces_are_viewed setting lines head prelude labels units blocks texts rendered)
          (subst (Brings patch (map piece_of units)) (ap (map piece_of) (sym next_is) ∙ pieces_are_viewed setting new r.head prelude led next next_blocks (next_texts room led same commits) next_rendered)
          (committed_brings piece_of options units r patch w.fit of_update small))

      pub readings_brought : Brings patch (readings_of held) (readings_of left)
      readings_brought =
          subst (λ ps. Brings patch ps (readings_of left)) (readings_are_viewed setting lines head prelude labels units blocks texts)
          (subst (Brings patch (map shown_in units)) (ap (map shown_in) (sym next_is) ∙ readings_are_viewed setting new r.head prelude led next next_blocks (next_texts room led same commits))
          (committed_brings shown_in options units r patch w.fit of_update small))

  -- ---- what it answers

  abbrev old_table : Table
  old_table = table e (record { lines = lines; prelude = prelude.lines })

  abbrev new_table : Table
  new_table = table e (record { lines = new; prelude = prelude.lines })

  front_units : map unit_in (between 0 r.first units) ≡ take r.first (trees_in (text_units e lines))
  front_units =
      let all : r.first - 0 ≡ r.first = omega arith in
      ap (λ n. map unit_in (take n units)) all ∙ sym (take-map unit_in r.first units) ∙ ap (take r.first) (trees_are e lines head units blocks)

  back_units : map unit_in (between r.next (length units) units) ≡ drop r.next (trees_in (text_units e lines))
  back_units =
      ap (map unit_in) (take_all (length units - r.next) (drop r.next units) (let many = length-drop r.next units in omega (arith, many)))
      ∙ sym (drop-map unit_in r.next units) ∙ ap (drop r.next) (trees_are e lines head units blocks)

  many_trees : length (trees_in (text_units e lines)) ≡ length units
  many_trees = sym (ap (λ us. length us) (trees_are e lines head units blocks)) ∙ length-map units unit_in

  renumbered : length units + count_brought r < 2 ^ 64
      → map (number_after r) (asking_units e old_table new_table 0 (take r.first (trees_in (text_units e lines))) ++ asking_units e old_table new_table r.next (drop r.next (trees_in (text_units e lines))))
      ≡ asking_units e old_table new_table 0 (take r.first (trees_in (text_units e lines)))
      ++ asking_units e old_table new_table (r.first + count_brought r) (drop r.next (trees_in (text_units e lines)))
  renumbered small =
      map-append (number_after r) (asking_units e old_table new_table 0 (take r.first (trees_in (text_units e lines)))) (asking_units e old_table new_table r.next (drop r.next (trees_in (text_units e lines))))
      ∙ ap (λ l. l ++ map (number_after r) (asking_units e old_table new_table r.next (drop r.next (trees_in (text_units e lines)))))
      (asking_renumbered e old_table new_table (number_after r) 0 0 (take r.first (trees_in (text_units e lines))) stays)
      ∙ ap (λ l. asking_units e old_table new_table 0 (take r.first (trees_in (text_units e lines))) ++ l)
      (asking_renumbered e old_table new_table (number_after r) r.next (r.first + count_brought r) (drop r.next (trees_in (text_units e lines))) moves)
    where
      stays : (k : ℕ) → k < length (take r.first (trees_in (text_units e lines))) → number_after r (0 + k) ≡ 0 + k
      stays k below =
          let order = w.fit.order in
          let within = w.fit.within in
          let long = length-take-le r.first (trees_in (text_units e lines)) (omega (arith, within, order, many_trees)) in
          let test : nat_lt (0 + k) r.next ≡ true = grind (arith, nat_tests, below, long, order) in
          ap (λ t. if t then 0 + k else min (0 + k - r.next + r.first + count_brought r) (2 ^ 64 - 1)) test

      moves : (k : ℕ) → k < length (drop r.next (trees_in (text_units e lines))) → number_after r (r.next + k) ≡ (r.first + count_brought r) + k
      moves k below =
          let order = w.fit.order in
          let within = w.fit.within in
          let long = length-drop r.next (trees_in (text_units e lines)) in
          let test : nat_lt (r.next + k) r.next ≡ false = grind (arith, nat_tests) in
          let value : min (r.next + k - r.next + r.first + count_brought r) (2 ^ 64 - 1) ≡ (r.first + count_brought r) + k = omega (arith, small, below, long, order, within, many_trees) in
          ap (λ t. if t then r.next + k else min (r.next + k - r.next + r.first + count_brought r) (2 ^ 64 - 1)) test ∙ value

  abbrev p : Places
  p = places setting (record { lines = lines; prelude = prelude.lines }) (edit at del add)

  spliced_here : IsSpliced e lines new p
  spliced_here =
      subst (λ q. IsSpliced e lines new q) is.same
      (subst (λ ls. IsSpliced e lines ls (places_of e text)) is.behind
      (subst (λ ls. IsSpliced e ls (lines_of text) (places_of e text)) is.before (spliced e (old_lines text) (lines_of text) (places_of e text) (is_edit e text))))

  numbers_mapped : (again : List Again) → map (number_after r) (map number_again again) ≡ map (λ (one : Again). number_after r one.unit) again
  numbers_mapped again = map-map (number_after r) number_again again

  again_are : length units + count_brought r < 2 ^ 64 → r.first ≡ units_before p → count_brought r ≡ units_added p
      → map (λ (one : Again). number_after r one.unit) r.again.items ≡ asking_from old_table new_table (units_before p) (units_added p) 0 (view setting (record { lines = new; prelude = prelude.lines }))
  again_are small first_is added_is =
      let next_is : r.next ≡ units_before p + units_removed p = w.replacing.next ∙ ap (λ q. units_before q + units_removed q) is.same in
      let trees = trees_in (text_units e lines) in
      sym (numbers_mapped r.again.items)
      ∙ ap (map (number_after r)) (w.numbers ∙ ap (λ ts. asking_units e old_table new_table 0 ts ++ asking_units e old_table new_table r.next (map unit_in (between r.next (length units) units))) front_units
      ∙ ap (λ ts. asking_units e old_table new_table 0 (take r.first trees) ++ asking_units e old_table new_table r.next ts) back_units)
      ∙ renumbered small
      ∙ ap (λ n. asking_units e old_table new_table 0 (take n trees) ++ asking_units e old_table new_table (n + count_brought r) (drop r.next trees)) first_is
      ∙ ap (λ n. asking_units e old_table new_table 0 (take (units_before p) trees) ++ asking_units e old_table new_table (units_before p + n) (drop r.next trees)) added_is
      ∙ ap (λ n. asking_units e old_table new_table 0 (take (units_before p) trees) ++ asking_units e old_table new_table (units_before p + units_added p) (drop n trees)) next_is
      ∙ sym (asking_spliced setting old_table new_table lines new p spliced_here)

  pub patch_is : (patch : ChangedPieces) → IsPatchOf r patch → length units + count_brought r < 2 ^ 64
      → patch ≡ patch_of setting (record { lines = lines; prelude = prelude.lines }) (edit at del add)
  patch_is patch of_update small =
      let due = patch_of setting (record { lines = lines; prelude = prelude.lines }) (edit at del add) in
      let numbers = patch_numbers setting (record { lines = lines; prelude = prelude.lines }) text at del add units r patch is.same w.replacing w.fit of_update in
      same_patch patch due numbers.0 numbers.1 numbers.2
      (of_update.again ∙ again_are small (sym of_update.first ∙ numbers.0) (sym of_update.added ∙ numbers.2))
