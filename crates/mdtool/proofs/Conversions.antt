-- The ends of a conversion, from those of its steps.
use Rattle.std.proofs.Common.{◌≡◌, ℕ, List, [], Option, Some, None, Result, Ok, Err, String, string_bytes, refl, ap, sym, ◌∙◌, subst, inl, inr}
use Rattle.std.specs.Global.{Global}
use Rattle.std.specs.Result.{IsErrAnd}
use Rattle.std.proofs.lemmas.Result.{err_from_is_err_and}
use Rattle.mdsource.specs.Refusals.{refusal}
use Rattle.mdsource.specs.Setting.{Setting}
use Rattle.mdtext.specs.Lines.{text_lines}
use Rattle.mdsource.specs.declared.fault.EditFault.{EditFault}
use Rattle.mdsource.specs.declared.fault.EditFault.TheVariants.{OutOfRange, BreakInLine, TooManyLines, TooLarge, NestedTooDeep, InlineTooDeep, NotDefinitions}
use Rattle.mdsource.specs.declared.fault.EditFault.TheVariants.{NoMemory as EditNoMemory}
use Rattle.mdsource.specs.FaultReasons.{reason_of}
use Rattle.mdsource.specs.Preludes.{HeldPrelude, IsDefinedBy}
use Rattle.mdbatch.specs.ViewHtml.{ViewHtml}
use Rattle.mdtool.specs.declared.fault.ToolFault.{ToolFault}
use Rattle.mdtool.specs.declared.fault.ToolFault.TheVariants.{Read, NoMemory}
use Rattle.mdtool.specs.Convert.{Conversion, HasHtml, IsPreludeOf, PreludeRead, Reads, TextRead, WholeHtml, prelude_due, with_prelude}
use Rattle.mdtool.specs.Drained.{TakesSome}
use Rattle.mdtool.specs.Steps.{Steps}
use Rattle.mdtool.specs.ToolRefusals.{IsRefusal, refusal_of}
use Rattle.mdtool.proofs.Devices.{takes_nothing}
use Rattle.mdtool.proofs.OnlyRefuses.{NoDeviceFailed, handed_on}

-- ---- the HTML of a text

-- what is said of a text beside what is held is said of it with the prelude's lines
page_given : (r : Result (String Global) EditFault) (setting : Setting) (given lines : List (List ℕ)) (held : HeldPrelude) → IsPreludeOf setting given held
    → (IsDefinedBy setting.entities held → ViewHtml r setting (record { lines = lines; prelude = held.lines })) → ViewHtml r setting (with_prelude given lines)
page_given r setting given lines held is viewed = subst (λ prelude. ViewHtml r setting (record { lines = lines; prelude = prelude })) is.lines (viewed is.defined)

pub page_html : (html : String Global) (setting : Setting) (given lines : List (List ℕ)) (held : HeldPrelude) → IsPreludeOf setting given held
    → (IsDefinedBy setting.entities held → ViewHtml (Ok html) setting (record { lines = lines; prelude = held.lines })) → WholeHtml (Ok html) setting (with_prelude given lines)
page_html html setting given lines held is viewed =
    let h : ViewHtml (Ok html) setting (with_prelude given lines) = page_given (Ok html) setting given lines held is viewed in
    record { stands = h.0; html_is = h.1 }

page_fault : (fault : EditFault) (setting : Setting) (given lines : List (List ℕ)) → ViewHtml (Err fault) setting (with_prelude given lines)
    → WholeHtml (Err (refusal_of fault)) setting (with_prelude given lines)
page_fault TooManyLines setting given lines h = h
page_fault TooLarge setting given lines h = h
page_fault (NestedTooDeep line) setting given lines h = h
page_fault (InlineTooDeep line) setting given lines h = h
page_fault EditNoMemory setting given lines h = tt
page_fault (OutOfRange count) setting given lines h = absurd h
page_fault (BreakInLine index) setting given lines h = absurd h
page_fault (NotDefinitions line) setting given lines h = absurd h

pub page_refused : (fault : EditFault) (tool : ToolFault) (setting : Setting) (given lines : List (List ℕ)) (held : HeldPrelude) → tool ≡ refusal_of fault → IsPreludeOf setting given held
    → (IsDefinedBy setting.entities held → ViewHtml (Err fault) setting (record { lines = lines; prelude = held.lines })) → WholeHtml (Err tool) setting (with_prelude given lines)
page_refused fault tool setting given lines held same is viewed =
    subst (λ tool. WholeHtml (Err tool) setting (with_prelude given lines)) (sym same) (page_fault fault setting given lines (page_given (Err fault) setting given lines held is viewed))

-- ---- the ends

module _ (setting : Setting) (given : List (List ℕ)) (left left' written : Option (List ℕ)) where
  -- the text was not read whole
  pub page_unread : {T : Type 0} (U : Type 0) (fault : ToolFault) (ok : T → Type 0) → prelude_due setting given ≡ None
      → Steps {T = T} (Err fault) ok (TakesSome left left') (TakesSome left left') → Conversion {T = U} (Err fault) setting given left left' written written
  page_unread U Read ok stands end = (refl, stands, end)
  page_unread U NoMemory ok stands end = (refl, end)
  page_unread U _ ok stands end = absurd end

  -- it was, and has no HTML
  pub page_no_html : {U : Type 0} (answer : Result U ToolFault) (fault : ToolFault) (text shown : List ℕ) → IsErrAnd answer (λ f. f ≡ fault)
      → shown ≡ text → prelude_due setting given ≡ None → TextRead left text left' → WholeHtml (Err fault) setting (with_prelude given (text_lines shown))
      → Conversion answer setting given left left' written written
  page_no_html answer fault text shown failed same stands (bytes, takes, is) end =
      handed_on (λ (html : String Global). HasHtml setting (with_prelude given (text_lines shown)) (string_bytes html))
      (λ why. refusal setting (with_prelude given (text_lines shown)) ≡ Some (reason_of why))
      (λ r. Conversion r setting given left left' written written)
      (λ why refused. (refl, inr (record { lines = text_lines shown; read = (bytes, takes, ap text_lines (same ∙ is)); prelude_stands = stands; why = refused })))
      (refl, (bytes, takes.0)) answer fault failed end

-- it has
pub page_reads : (setting : Setting) (given : List (List ℕ)) (left left' : Option (List ℕ)) (text shown html : List ℕ)
    → shown ≡ text → prelude_due setting given ≡ None → TextRead left text left' → HasHtml setting (with_prelude given (text_lines shown)) html
    → Reads setting given left left' html
page_reads setting given left left' text shown html same stands (bytes, takes, is) has =
    record { lines = text_lines shown; read = (bytes, takes, ap text_lines (same ∙ is)); prelude_stands = stands; has = has }

-- the prelude was refused, or memory was for it; no device failed then
pub page_ends_first : {U : Type 0} (answer : Result U ToolFault) (fault : ToolFault) (setting : Setting) (given : List (List ℕ)) (left written : Option (List ℕ)) (feed out : ℕ)
    → IsErrAnd answer (λ f. f ≡ fault) → PreludeRead (Err fault) setting given → Conversion answer setting given left left written written × NoDeviceFailed answer feed out
page_ends_first answer fault setting given left written feed out failed end =
    handed_on (λ (held : HeldPrelude). IsPreludeOf setting given held) (λ why. prelude_due setting given ≡ Some (reason_of why))
    (λ r. Conversion r setting given left left written written × NoDeviceFailed r feed out)
    (λ why refused. ((refl, inl (record { why = refused; unread = refl })), (refl, refl))) ((refl, ([], takes_nothing left)), (refl, refl))
    answer fault failed end

-- and none where the text was
refusal_stays : (U : Type 0) (fault : EditFault) (feed out : ℕ) → NoDeviceFailed {U = U} (Err (refusal_of fault)) feed out
refusal_stays U EditNoMemory feed out = (refl, refl)
refusal_stays U _ feed out = (refl, refl)

pub page_refusal_stays : {U : Type 0} (answer : Result U ToolFault) (tool : ToolFault) (feed out : ℕ) → IsErrAnd answer (λ f. f ≡ tool) → IsRefusal tool
    → NoDeviceFailed answer feed out
page_refusal_stays {U} answer tool feed out failed (fault, is) =
    let p = err_from_is_err_and answer failed in
    rw (p.1, p.2, is) (refusal_stays U fault feed out)
