-- Units that are written as they are found, and those that wait.
use Rattle.std.proofs.Common.{◌≡◌, ℕ, List, [], ◌∷◌, ◌++◌, Option, None, Some, false, true, string_bytes, refl, ap, sym, ◌∙◌, append_assoc, append-nil, arith, subst, length-append}
use Rattle.std.specs.Prelude.{is_some}
use Rattle.std.proofs.lemmas.Grind.{common_steps}
use Rattle.htmlspec.specs.BlockHtml.{ends_line}
use Rattle.blockspec.specs.UnitTree.{FoundUnit}
use Rattle.inlinespec.specs.LabelMap.{LabelMap}
use Rattle.inlinespec.specs.LinkTails.{Table}
use Rattle.htmlspec.specs.WrittenUnits.{is_deep_unit}
use Rattle.mdinline.specs.declared.faults.InlineFault.{InlineFault}
use Rattle.mdinline.specs.declared.faults.InlineFault.TheVariants as inline
use Rattle.mdsource.specs.LabelTable.{with_units}
use Rattle.mdsource.specs.Setting.{Setting}
use Rattle.mdblock.specs.FoundLists.{found_unit}
use Rattle.mdsource.specs.declared.fault.EditFault.{EditFault}
use Rattle.mdsource.specs.declared.fault.EditFault.TheVariants.{OutOfRange, BreakInLine, TooManyLines, TooLarge, NestedTooDeep, InlineTooDeep, NoMemory, NotDefinitions}
use Rattle.mdbatch.specs.declared.gathered.Gathered.{Gathered}
use Rattle.mdbatch.specs.declared.gathered.Waiting.{Waiting}
use Rattle.mdsource.specs.Preludes.{HeldPrelude}
use Rattle.mdbatch.specs.TextLabels.{page_table, target_by}
use Rattle.mdbatch.specs.BatchHtml.{WritesUnits, deep_line}
use Rattle.mdsource.specs.TextFaults.{IsTextFault, text_fault_in}
use Rattle.mdbatch.specs.GatheredUnits.{Gathers, IsCut, IsWoven, IsWrittenTo}
use Rattle.mdbatch.proofs.PageTargets.{leads_on_page}
use Rattle.mdbatch.proofs.UnitsWritten.{deep_behind, deep_in_front, deep_under, moved_behind, none_written, one_deep, written_behind, written_under}

-- a unit is written behind the others
pub woven_more : (setting : Setting) (waiting : List Waiting) (all : List FoundUnit) (found : FoundUnit) (old new : List ℕ)
    → ((labels : Table) → WritesUnits setting labels (found ∷ []) old new) → IsWoven setting all waiting old → IsWoven setting (all ++ found ∷ []) waiting new
woven_more setting [] all found old new last woven = λ labels. written_behind setting labels all (found ∷ []) [] old new (woven labels) (last labels)
woven_more setting (waits ∷ waiting) all found old new last (front, rest, order, written, woven) = (
  front,
  rest ++ found ∷ [],
  ap (λ l. l ++ found ∷ []) order ∙ append_assoc front (found_unit waits.found ∷ rest) (found ∷ []),
  written,
  woven_more setting waiting rest found old new last woven,
)

-- a unit waits behind the others
pub woven_kept : (setting : Setting) (waiting : List Waiting) (all : List FoundUnit) (last : Waiting) (html new : List ℕ) → string_bytes last.before ≡ html → new ≡ []
    → IsWoven setting all waiting html → IsWoven setting (all ++ found_unit last.found ∷ []) (waiting ++ last ∷ []) new
woven_kept setting [] all last html new same none woven = (all, [], refl, rw same woven, rw none (λ labels. none_written setting labels []))
woven_kept setting (waits ∷ waiting) all last html new same none (front, rest, order, written, woven) = (
  front,
  rest ++ found_unit last.found ∷ [],
  ap (λ l. l ++ found_unit last.found ∷ []) order ∙ append_assoc front (found_unit waits.found ∷ rest) (found_unit last.found ∷ []),
  written,
  woven_kept setting waiting rest last html new same none woven,
)

-- a unit too deep stands behind those that are written or wait, and any others behind it
pub cut_more : (setting : Setting) (all : List FoundUnit) (more : FoundUnit) (waiting : List Waiting) (line : ℕ) → IsCut setting all waiting line
    → IsCut setting (all ++ more ∷ []) waiting line
cut_more setting all more waiting line cut = record {
  front = cut.front;
  deep = cut.deep;
  rest = cut.rest ++ more ∷ [];
  order = ap (λ l. l ++ more ∷ []) cut.order ∙ append_assoc cut.front (cut.deep ∷ cut.rest) (more ∷ []);
  is_deep = cut.is_deep;
  html = cut.html;
  woven = cut.woven;
}

module _ (setting : Setting) (labels : Table) where
  -- the first of those that wait is written, with what stands before it
  pub next_written : (all : List FoundUnit) (waits : Waiting) (waiting : List Waiting) (html old mid before new : List ℕ) → before ≡ mid ++ string_bytes waits.before
      → WritesUnits setting labels (found_unit waits.found ∷ []) before new → IsWrittenTo setting labels all (waits ∷ waiting) html old mid
      → IsWrittenTo setting labels all waiting html old new
  next_written all waits waiting html old mid before new behind last (done, todo, order, written, (front, rest, parts, writes, woven)) = (
    (done ++ front) ++ found_unit waits.found ∷ [],
    rest,
    order ∙ ap (λ l. done ++ l) parts ∙ sym (append_assoc done front (found_unit waits.found ∷ rest)) ∙ sym (append_assoc (done ++ front) (found_unit waits.found ∷ []) rest),
    written_behind setting labels (done ++ front) (found_unit waits.found ∷ []) old before new
        (written_behind setting labels done front old mid before written (moved_behind setting labels front (string_bytes waits.before) mid before behind (writes labels))) last,
    woven,
  )

  -- or it is the first that is too deep
  pub next_deep : (all : List FoundUnit) (waits : Waiting) (waiting : List Waiting) (html old mid : List ℕ) (line : ℕ) → deep_line setting labels (found_unit waits.found ∷ []) ≡ Some line
      → IsWrittenTo setting labels all (waits ∷ waiting) html old mid → deep_line setting labels all ≡ Some line
  next_deep all waits waiting html old mid line deep (done, todo, order, written, (front, rest, parts, writes, woven)) =
      ap (deep_line setting labels) (order ∙ ap (λ l. done ++ l) parts)
      ∙ deep_behind setting labels done (front ++ found_unit waits.found ∷ rest) line written.within
      (deep_behind setting labels front (found_unit waits.found ∷ rest) line (writes labels).within (deep_in_front setting labels (found_unit waits.found ∷ []) rest line deep))

  -- behind those that waited stands what was written behind the last of them
  pub all_written_to : (all : List FoundUnit) (html mid new : List ℕ) → new ≡ mid ++ html → IsWrittenTo setting labels all [] html [] mid → WritesUnits setting labels all [] new
  all_written_to all html mid new behind (done, rest, order, written, woven) =
      rw order (written_behind setting labels done rest [] mid new written (moved_behind setting labels rest html mid new behind (woven labels)))

  -- where all before the one too deep are written, it is the first
  pub cut_is_deep : (all : List FoundUnit) (waiting : List Waiting) (line : ℕ) (cut : IsCut setting all waiting line) (mid : List ℕ)
      → IsWrittenTo setting labels cut.front [] cut.html [] mid → deep_line setting labels all ≡ Some line
  cut_is_deep all waiting line cut mid written =
      ap (deep_line setting labels) cut.order
      ∙ deep_behind setting labels cut.front (cut.deep ∷ cut.rest) line (all_written_to cut.front cut.html mid (mid ++ cut.html) refl written).within
      (deep_in_front setting labels (cut.deep ∷ []) cut.rest line (cut.is_deep labels))

  -- and a fault of those before it is one of all
  pub cut_fault : (all : List FoundUnit) (waiting : List Waiting) (line : ℕ) (cut : IsCut setting all waiting line) (fault : EditFault)
      → IsTextFault (deep_line setting labels cut.front) fault → IsTextFault (deep_line setting labels all) fault
  cut_fault all waiting line cut (InlineTooDeep begin) h = ap (deep_line setting labels) cut.order ∙ deep_in_front setting labels cut.front (cut.deep ∷ cut.rest) begin h
  cut_fault all waiting line cut NoMemory h = tt
  cut_fault all waiting line cut (NestedTooDeep begin) h = absurd h
  cut_fault all waiting line cut TooManyLines h = absurd h
  cut_fault all waiting line cut TooLarge h = absurd h
  cut_fault all waiting line cut (OutOfRange lines) h = absurd h
  cut_fault all waiting line cut (BreakInLine index) h = absurd h
  cut_fault all waiting line cut (NotDefinitions begin) h = absurd h

-- a unit that waited is too deep, and none before it is
pub unit_fault : (setting : Setting) (labels : Table) (all : List FoundUnit) (waits : Waiting) (waiting : List Waiting) (html old mid : List ℕ) (fault : InlineFault)
    → (fault ≡ inline.TooDeep → is_deep_unit setting.options setting.entities labels waits.found.unit ≡ true) → IsWrittenTo setting labels all (waits ∷ waiting) html old mid
    → IsTextFault (deep_line setting labels all) (text_fault_in fault waits.found.begin)
unit_fault setting labels all waits waiting html old mid inline.TooDeep deep written =
    next_deep setting labels all waits waiting html old mid waits.found.begin (one_deep setting labels (found_unit waits.found) (deep refl)) written
unit_fault setting labels all waits waiting html old mid inline.NoMemory deep written = tt

-- ---- under the labels of the whole text

module _ (own : LabelMap) (prelude : HeldPrelude) (s setting : Setting) (all : List FoundUnit) (same : s ≡ setting) (is_own : own ≡ with_units [] all) where
  leads : (label : List ℕ) → target_by own prelude label ≡ page_table all prelude label
  leads label = leads_on_page all own prelude label is_own

  pub page_written : (html old mid new : List ℕ) → old ≡ [] → new ≡ mid ++ html → IsWrittenTo s (target_by own prelude) all [] html old mid
      → WritesUnits setting (page_table all prelude) all [] new
  page_written html old mid new none behind written =
      let begun = subst (λ (s : Setting). IsWrittenTo s (target_by own prelude) all [] html [] mid) same (subst (λ old. IsWrittenTo s (target_by own prelude) all [] html old mid) none written) in
      written_under setting (target_by own prelude) (page_table all prelude) all [] new leads (all_written_to setting (target_by own prelude) all html mid new behind begun)

  fault_led : (fault : EditFault) → IsTextFault (deep_line setting (target_by own prelude) all) fault → IsTextFault (deep_line setting (page_table all prelude) all) fault
  fault_led fault h = subst (λ deep. IsTextFault deep fault) (deep_under setting (target_by own prelude) (page_table all prelude) all leads) h

  pub waiting_fault : (gathered : Gathered) (fault : EditFault) → Gathers setting all gathered
      → ((front : List FoundUnit) (html : List ℕ) → IsWoven s front gathered.waiting.items html → IsTextFault (deep_line s (target_by own prelude) front) fault)
      → IsTextFault (deep_line setting (page_table all prelude) all) fault
  waiting_fault gathered fault gathers faults = fault_led fault (by gathered.too_deep refl)
    where
      of_front : (front : List FoundUnit) (html : List ℕ) → IsWoven setting front gathered.waiting.items html → IsTextFault (deep_line setting (target_by own prelude) front) fault
      of_front front html woven =
          subst (λ (s : Setting). IsTextFault (deep_line s (target_by own prelude) front) fault) same
          (faults front html (subst (λ (s : Setting). IsWoven s front gathered.waiting.items html) (sym same) woven))

      by : (o : Option ℕ) → gathered.too_deep ≡ o → IsTextFault (deep_line setting (target_by own prelude) all) fault
      by None is = of_front all (string_bytes gathered.html) (gathers.woven is)
      by (Some line) is =
          let cut = gathers.cut line is in
          cut_fault setting (target_by own prelude) all gathered.waiting.items line cut fault (of_front cut.front cut.html cut.woven)

  pub cut_on_page : (waiting : List Waiting) (line : ℕ) (old mid : List ℕ) → old ≡ [] → IsCut setting all waiting line
      → ((front : List FoundUnit) (html : List ℕ) → IsWoven s front waiting html → IsWrittenTo s (target_by own prelude) front [] html old mid)
      → deep_line setting (page_table all prelude) all ≡ Some line
  cut_on_page waiting line old mid none cut writes =
      let written = writes cut.front cut.html (subst (λ (s : Setting). IsWoven s cut.front waiting cut.html) (sym same) cut.woven) in
      let begun = subst (λ (s : Setting). IsWrittenTo s (target_by own prelude) cut.front [] cut.html [] mid) same
      (subst (λ old. IsWrittenTo s (target_by own prelude) cut.front [] cut.html old mid) none written) in
      sym (deep_under setting (target_by own prelude) (page_table all prelude) all leads) ∙ cut_is_deep setting (target_by own prelude) all waiting line cut mid begun

-- Two texts that are empty or end with LF make one.
pub lines_joined : (xs ys : List ℕ) → ends_line xs ≡ true → ends_line ys ≡ true → ends_line (xs ++ ys) ≡ true
lines_joined xs [] h k = subst (λ l. ends_line l ≡ true) (sym (append-nil xs)) h
lines_joined xs (y ∷ ys) h k = grind (arith, common_steps, length-append)

pub not_none : {A : Type 0} (o : Option ℕ) → is_some o ≡ true → o ≡ None → A
not_none None h e = cc
not_none (Some n) h e = cc

pub is_none : (o : Option ℕ) → is_some o ≡ false → o ≡ None
is_none None h = refl
is_none (Some n) h = cc

pub never_some : (o : Option ℕ) → ((n : ℕ) → o ≡ Some n → ⊥) → o ≡ None
never_some None never = refl
never_some (Some n) never = absurd (never n refl)

pub not_both : {A : Type 0} (o : Option ℕ) (n : ℕ) → o ≡ None → o ≡ Some n → A
not_both None n none some = cc
not_both (Some m) n none some = cc
