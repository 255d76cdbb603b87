-- Why a prelude that is read alone is refused, in the words of the view.
use Rattle.std.proofs.Common.{◌≡◌, ℕ, List, map, Option, Some, None, Err, option_map, refl, ap, sym, ◌∙◌}
use Rattle.std.specs.Option.{option_or}
use Rattle.mdtext.specs.Lines.{without_nul}
use Rattle.mdsource.specs.Calls.{set_prelude, due_by_reading}
use Rattle.mdsource.specs.Refusals.{Refusal, not_definitions, undefining_line}
use Rattle.mdsource.specs.Setting.{Setting}
use Rattle.mdsource.specs.declared.fault.EditFault.{EditFault}
use Rattle.mdsource.specs.declared.fault.EditFault.TheVariants.{OutOfRange, BreakInLine, TooManyLines, TooLarge, NestedTooDeep, InlineTooDeep, NotDefinitions}
use Rattle.mdsource.specs.declared.fault.EditFault.TheVariants.{NoMemory as EditNoMemory}
use Rattle.mdview.specs.Document.{nothing}
use Rattle.mdsource.specs.SourceLimits.{due_of_prelude}
use Rattle.mdsource.specs.FaultReasons.{reason_of}
use Rattle.mdsource.specs.Preludes.{HeldPrelude, IsDefinedBy, IsUndefiningAt, RefusesPrelude}
use Rattle.mdsource.proofs.DueReasons.{prelude_reason}
use Rattle.mdbatch.proofs.PageViews.{page_no_text}
use Rattle.mdtool.specs.Convert.{IsPreludeOf, PreludeRead, prelude_due}
use Rattle.mdtool.specs.ToolRefusals.{refusal_of}

-- ---- by what they are

page_or_none : (o : Option Refusal) → option_or o None ≡ o
page_or_none None = refl
page_or_none (Some reason) = refl

module _ (setting : Setting) (lines : List (List ℕ)) where
  -- beside no text
  page_by_reading : due_by_reading setting nothing (set_prelude lines) ≡ option_map not_definitions (undefining_line setting (map without_nul lines))
  page_by_reading =
      ap (option_or (option_map not_definitions (undefining_line setting (map without_nul lines)))) (page_no_text setting (map without_nul lines))
      ∙ page_or_none (option_map not_definitions (undefining_line setting (map without_nul lines)))

  page_due_at_once : (due : Option EditFault) → due_of_prelude lines ≡ due
      → prelude_due setting lines ≡ option_or (option_map reason_of due) (option_map not_definitions (undefining_line setting (map without_nul lines)))
  page_due_at_once due is =
      ap (λ o. option_or o (due_by_reading setting nothing (set_prelude lines))) (sym (prelude_reason nothing lines) ∙ ap (option_map reason_of) is)
      ∙ ap (option_or (option_map reason_of due)) page_by_reading

  pub page_prelude_of : (held : HeldPrelude) → due_of_prelude lines ≡ None → held.lines ≡ map without_nul lines → IsDefinedBy setting.entities held
      → undefining_line setting (map without_nul lines) ≡ None → IsPreludeOf setting lines held
  page_prelude_of held due read defined none = record {
    stands = page_due_at_once None due ∙ ap (option_map not_definitions) none;
    lines = read;
    defined = defined;
  }

  pub page_prelude_refused : (fault : EditFault) → RefusesPrelude fault lines → IsUndefiningAt (undefining_line setting (map without_nul lines)) fault
      → PreludeRead (Err (refusal_of fault)) setting lines
  page_prelude_refused (BreakInLine index) why at = page_due_at_once (Some (BreakInLine index)) why
  page_prelude_refused TooManyLines why at = page_due_at_once (Some TooManyLines) why
  page_prelude_refused TooLarge why at = page_due_at_once (Some TooLarge) why
  page_prelude_refused (NotDefinitions line) why at = page_due_at_once None why ∙ ap (option_map not_definitions) at
  page_prelude_refused EditNoMemory why at = tt
  page_prelude_refused (OutOfRange count) why at = absurd why
  page_prelude_refused (NestedTooDeep line) why at = absurd why
  page_prelude_refused (InlineTooDeep line) why at = absurd why
