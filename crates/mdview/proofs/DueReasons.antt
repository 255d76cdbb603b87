-- Why a call is refused whatever the memory, as the code tells it, is why the definition refuses it.
use Rattle.std.proofs.Common.{◌≡◌, ℕ, ◌-◌, ◌||◌, Bool, true, false, length, Option, Some, None, cond, nat_lt, option_map, refl, ap, sym, ◌∙◌}
use Rattle.std.specs.Option.{option_or}
use Rattle.mdsource.specs.Calls.{Call, edit, set_prelude, due_at_once, line_ending_from}
use Rattle.mdsource.specs.Calls.{put as source_put}
use Rattle.mdsource.specs.Refusals.{Refusal, break_in_line, out_of_range, size_refusal}
use Rattle.mdsource.specs.Setting.{Source}
use Rattle.mdsource.specs.declared.fault.EditFault.{EditFault}
use Rattle.mdsource.specs.declared.fault.EditFault.TheVariants.{OutOfRange}
use Rattle.mdsource.specs.FaultReasons.{reason_of}
use Rattle.mdsource.specs.SourceLimits.{due_of_text, first_with_ending}
use Rattle.mdsource.proofs.DueReasons.{prelude_reason, same_ending, text_reason}
use Rattle.mdview.specs.Edit.{due, put}

past_reason : (t : Bool) (lines : ℕ) (rest : Option EditFault) (later : Option Refusal) → option_map reason_of rest ≡ later
    → option_map reason_of (cond t (Some (OutOfRange lines)) rest) ≡ option_or (cond t (Some (out_of_range lines)) None) later
past_reason true lines rest later h = refl
past_reason false lines rest later h = h

-- any call
pub due_reason : (source : Source) (call : Call) → option_map reason_of (due source.lines call) ≡ due_at_once source call
due_reason source (edit at del add) =
    past_reason (nat_lt (length source.lines) at || nat_lt (length source.lines - at) del) (length source.lines)
    (due_of_text (first_with_ending 0 add) (put source.lines (edit at del add)))
    (option_or (option_map break_in_line (line_ending_from 0 add)) (size_refusal (source_put source (edit at del add)).lines))
    (text_reason (first_with_ending 0 add) (put source.lines (edit at del add))
    ∙ ap (λ first. option_or (option_map break_in_line first) (size_refusal (put source.lines (edit at del add)))) (same_ending 0 add))
due_reason source (set_prelude lines) = prelude_reason source lines

pub is_due : (source : Source) (call : Call) (fault : EditFault) → due source.lines call ≡ Some fault → due_at_once source call ≡ Some (reason_of fault)
is_due source call fault h = sym (due_reason source call) ∙ ap (option_map reason_of) h

pub none_due : (source : Source) (call : Call) → due source.lines call ≡ None → due_at_once source call ≡ None
none_due source call h = sym (due_reason source call) ∙ ap (option_map reason_of) h
