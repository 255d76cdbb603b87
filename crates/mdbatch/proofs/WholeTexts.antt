-- What a whole text gives, whether U+0000 stands in it or not.
use Rattle.std.proofs.Common.{◌≡◌, ℕ, List, Option, Result, Ok, Err, None, String}
use Rattle.std.specs.Global.{Global}
use Rattle.std.specs.Prelude.{IfErr, IfOk, OnOk, string_bytes}
use Rattle.blockspec.specs.Nesting.{first_too_deep}
use Rattle.mdsource.specs.Setting.{Setting}
use Rattle.mdsource.specs.declared.fault.EditFault.{EditFault}
use Rattle.mdsource.specs.declared.fault.EditFault.TheVariants.{OutOfRange, BreakInLine, TooManyLines, TooLarge, NestedTooDeep, InlineTooDeep, NoMemory, NotDefinitions}
use Rattle.mdsource.specs.SourceLimits.{refusal}
use Rattle.mdsource.specs.Preludes.{HeldPrelude}
use Rattle.mdbatch.specs.BatchHtml.{IsFaultOf, IsReadFault, TextHtml, WritesPage, deep_on_page}
use Rattle.mdsource.specs.TextFaults.{IsTextFault}

-- where no refusal of lines or bytes is due, what the reading of the lines gives is the answer
pub text_html : (result : Result (String Global) EditFault) (setting : Setting) (prelude : HeldPrelude) (lines : List (List ℕ)) → refusal lines ≡ None
    → IfOk result (λ html. WritesPage setting prelude lines (string_bytes html)) → OnOk result (first_too_deep setting.options.max_containers lines ≡ None)
    → IfErr result (IsFaultOf (first_too_deep setting.options.max_containers lines) (deep_on_page setting prelude lines)) → TextHtml result setting prelude lines
text_html (Ok html) setting prelude lines none is within fault = (none, within, is)
text_html (Err (NestedTooDeep line)) setting prelude lines none is within fault = (none, fault)
text_html (Err (InlineTooDeep line)) setting prelude lines none is within fault = (none, fault.0, fault.1)
text_html (Err NoMemory) setting prelude lines none is within fault = none
text_html (Err TooManyLines) setting prelude lines none is within fault = absurd fault
text_html (Err TooLarge) setting prelude lines none is within fault = absurd fault
text_html (Err (OutOfRange count)) setting prelude lines none is within fault = absurd fault
text_html (Err (BreakInLine index)) setting prelude lines none is within fault = absurd fault
text_html (Err (NotDefinitions line)) setting prelude lines none is within fault = absurd fault

pub of_reading : (nested deep : Option ℕ) (fault : EditFault) → IsReadFault nested fault → IsFaultOf nested deep fault
of_reading nested deep (NestedTooDeep line) h = h
of_reading nested deep NoMemory h = tt
of_reading nested deep (InlineTooDeep line) h = absurd h
of_reading nested deep TooManyLines h = absurd h
of_reading nested deep TooLarge h = absurd h
of_reading nested deep (OutOfRange lines) h = absurd h
of_reading nested deep (BreakInLine index) h = absurd h
of_reading nested deep (NotDefinitions line) h = absurd h

pub of_texts : (nested deep : Option ℕ) (fault : EditFault) → nested ≡ None → IsTextFault deep fault → IsFaultOf nested deep fault
of_texts nested deep (InlineTooDeep line) none h = (none, h)
of_texts nested deep NoMemory none h = tt
of_texts nested deep (NestedTooDeep line) none h = absurd h
of_texts nested deep TooManyLines none h = absurd h
of_texts nested deep TooLarge none h = absurd h
of_texts nested deep (OutOfRange lines) none h = absurd h
of_texts nested deep (BreakInLine index) none h = absurd h
of_texts nested deep (NotDefinitions line) none h = absurd h
