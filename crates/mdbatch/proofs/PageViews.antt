-- A page beside a prelude is the view of its text with that prelude, where these entities define the prelude.
use Rattle.std.proofs.Common.{◌≡◌, ℕ, List, [], Option, Some, None, Result, Ok, Err, String, map, find, option_map, refl, ap, sym, ◌∙◌}
use Rattle.std.specs.Global.{Global}
use Rattle.std.specs.List.{concat}
use Rattle.std.specs.Option.{option_or}
use Rattle.mdtext.specs.EntityTable.{EntityTable}
use Rattle.mdleaf.specs.DefinedLinks.{LinkDefinition}
use Rattle.blockspec.specs.BlockUnits.{definitions_of, units}
use Rattle.blockspec.specs.LinkDefinitions.{first_definition}
use Rattle.blockspec.specs.Nesting.{first_too_deep}
use Rattle.blockspec.proofs.DocumentLaws.{first_of_both}
use Rattle.inlinespec.specs.LabelMap.{target_in}
use Rattle.mdsource.specs.LabelTable.{table, table_of, target_defined}
use Rattle.mdsource.specs.Refusals.{nested_too_deep, inline_too_deep, inline_refusal, is_too_deep, nesting_refusal, refusal as due_refusal}
use Rattle.mdsource.specs.Setting.{Setting}
use Rattle.mdsource.specs.View.{ViewedUnit, view, viewed}
use Rattle.mdsource.proofs.Cuts.{no_units}
use Rattle.mdsource.proofs.LabelsLead.{units_lead}
use Rattle.mdsource.specs.declared.fault.EditFault.{EditFault}
use Rattle.mdsource.specs.declared.fault.EditFault.TheVariants.{OutOfRange, BreakInLine, TooManyLines, TooLarge, NestedTooDeep, InlineTooDeep, NoMemory, NotDefinitions}
use Rattle.mdsource.specs.SourceLimits.{refusal}
use Rattle.mdsource.specs.FaultReasons.{reason_of}
use Rattle.mdsource.specs.Preludes.{HeldPrelude, IsDefinedBy}
use Rattle.mdsource.proofs.DueReasons.{size_reason}
use Rattle.mdbatch.specs.BatchHtml.{TextHtml, begin_in, deep_on_page, piece_in}
use Rattle.mdbatch.specs.TextLabels.{page_table}
use Rattle.mdbatch.specs.ViewHtml.{ViewHtml}
use Rattle.mdbatch.proofs.UnitsWritten.{viewed_under}

-- ---- where labels lead

page_both : (a b : Option LinkDefinition) → option_or (option_map target_defined a) (option_map target_defined b) ≡ option_map target_defined (option_or a b)
page_both None b = refl
page_both (Some d) b = refl

-- Labels lead on the page as they do in the text with its prelude.
pub page_leads : (e : EntityTable) (lines : List (List ℕ)) (prelude : HeldPrelude) → IsDefinedBy e prelude → (label : List ℕ)
    → page_table (units e lines) prelude label ≡ table e (record { lines = lines; prelude = prelude.lines }) label
page_leads e lines prelude defined label =
    let own = definitions_of (units e lines) in
    let beside = definitions_of (units e prelude.lines) in
    ap (λ labels. option_or (table_of own label) (target_in labels label)) defined
    ∙ ap (option_or (table_of own label)) (units_lead (units e prelude.lines) [] label)
    ∙ page_both (first_definition own label) (first_definition beside label)
    ∙ ap (option_map target_defined) (sym (first_of_both own beside label))

-- ---- what is read under them

page_line : (one : Option ViewedUnit) → option_map inline_too_deep (option_map begin_in one) ≡ option_map (λ (one : ViewedUnit). inline_too_deep one.begin) one
page_line None = refl
page_line (Some one) = refl

-- no text is too deep where there is none
pub page_no_text : (setting : Setting) (prelude : List (List ℕ)) → inline_refusal setting (record { lines = []; prelude = prelude }) ≡ None
page_no_text setting prelude =
    ap (λ us. option_map (λ (one : ViewedUnit). inline_too_deep one.begin) (find (is_too_deep setting.options.max_spans)
    (map (viewed setting (table setting.entities (record { lines = []; prelude = prelude }))) us))) (no_units setting.entities)

module _ (setting : Setting) (lines : List (List ℕ)) (prelude : HeldPrelude) (defined : IsDefinedBy setting.entities prelude) where
  page_view : map (viewed setting (page_table (units setting.entities lines) prelude)) (units setting.entities lines) ≡ view setting (record { lines = lines; prelude = prelude.lines })
  page_view =
      viewed_under setting (page_table (units setting.entities lines) prelude) (table setting.entities (record { lines = lines; prelude = prelude.lines }))
      (units setting.entities lines) (page_leads setting.entities lines prelude defined)

  page_deep : option_map inline_too_deep (deep_on_page setting prelude lines) ≡ inline_refusal setting (record { lines = lines; prelude = prelude.lines })
  page_deep =
      ap (λ us. option_map inline_too_deep (option_map begin_in (find (is_too_deep setting.options.max_spans) us))) page_view
      ∙ page_line (find (is_too_deep setting.options.max_spans) (view setting (record { lines = lines; prelude = prelude.lines })))

  page_nested : (nested : Option ℕ) → first_too_deep setting.options.max_containers lines ≡ nested
      → nesting_refusal setting (record { lines = lines; prelude = prelude.lines }) ≡ option_or (option_map nested_too_deep nested) (inline_refusal setting (record { lines = lines; prelude = prelude.lines }))
  page_nested nested is = ap (λ n. option_or (option_map nested_too_deep n) (inline_refusal setting (record { lines = lines; prelude = prelude.lines }))) is

  page_spans : (deep : Option ℕ) → deep_on_page setting prelude lines ≡ deep → inline_refusal setting (record { lines = lines; prelude = prelude.lines }) ≡ option_map inline_too_deep deep
  page_spans deep is = sym page_deep ∙ ap (option_map inline_too_deep) is

  page_sized : (size : Option EditFault) → refusal lines ≡ size
      → due_refusal setting (record { lines = lines; prelude = prelude.lines }) ≡ option_or (option_map reason_of size) (nesting_refusal setting (record { lines = lines; prelude = prelude.lines }))
  page_sized size is = ap (λ s. option_or s (nesting_refusal setting (record { lines = lines; prelude = prelude.lines }))) (sym (size_reason lines) ∙ ap (option_map reason_of) is)

  -- What is said of a page is said of the view.
  pub page_viewed : (result : Result (String Global) EditFault) → TextHtml result setting prelude lines → ViewHtml result setting (record { lines = lines; prelude = prelude.lines })
  page_viewed (Ok html) (size, nested, is) =
      (page_sized None size ∙ page_nested None nested ∙ page_spans None is.within, is.written ∙ ap (λ us. concat (map piece_in us)) page_view)
  page_viewed (Err TooManyLines) size = page_sized (Some TooManyLines) size
  page_viewed (Err TooLarge) size = page_sized (Some TooLarge) size
  page_viewed (Err (NestedTooDeep line)) (size, nested) = page_sized None size ∙ page_nested (Some line) nested
  page_viewed (Err (InlineTooDeep line)) (size, nested, deep) = page_sized None size ∙ page_nested None nested ∙ page_spans (Some line) deep
  page_viewed (Err NoMemory) size = sym (size_reason lines) ∙ ap (option_map reason_of) size
  page_viewed (Err (OutOfRange count)) h = absurd h
  page_viewed (Err (BreakInLine index)) h = absurd h
  page_viewed (Err (NotDefinitions line)) h = absurd h
