-- What each end of a conversion says: a text that is all bytes of a feed, beside the lines of a prelude.
use Rattle.std.specs.Prelude.{◌≡◌, ◌⊎◌, ℕ, List, Option, Some, None, Result, Ok, Err, String, map, string_bytes}
use Rattle.std.specs.Global.{Global}
use Rattle.std.specs.Str.Lossy.{utf8_lossy}
use Rattle.mdtext.specs.Lines.{text_lines, without_nul}
use Rattle.mdsource.specs.Calls.{set_prelude, due}
use Rattle.mdsource.specs.Refusals.{Refusal, refusal}
use Rattle.mdsource.specs.Setting.{Setting, Source}
use Rattle.mdsource.specs.declared.fault.EditFault.{EditFault}
use Rattle.mdview.specs.Document.{nothing}
use Rattle.mdsource.specs.FaultReasons.{reason_of}
use Rattle.mdsource.specs.Preludes.{HeldPrelude, IsDefinedBy}
use Rattle.mdbatch.specs.ViewHtml.{view_html}
use Rattle.mdtool.specs.declared.fault.ToolFault.{ToolFault}
use Rattle.mdtool.specs.declared.fault.ToolFault.TheVariants.{Read, Write, Refused, BadCommand, Truncated, Table, NoMemory}
use Rattle.mdtool.specs.Bytes.{Gains, GainsFront}
use Rattle.mdtool.specs.Drained.{TakesAll, TakesSome}
use Rattle.mdtool.specs.ToolRefusals.{OnlyRefuses}

-- the text of all bytes that were left; bytes that are no UTF-8 are read as U+FFFD
abbrev pub TextRead : Option (List ℕ) → List ℕ → Option (List ℕ) → Type 0
TextRead left text left' = (bytes : List ℕ) × TakesAll left bytes left' × (text ≡ utf8_lossy bytes)

-- the lines of all bytes that were left
abbrev pub LinesRead : Option (List ℕ) → List (List ℕ) → Option (List ℕ) → Type 0
LinesRead left lines left' = (bytes : List ℕ) × TakesAll left bytes left' × (lines ≡ text_lines (utf8_lossy bytes))

-- why these lines are refused as a prelude, if they are
abbrev pub prelude_due : Setting → (prelude : List (List ℕ)) → Option Refusal
prelude_due setting prelude = due setting nothing (set_prelude prelude)

-- a text of these lines with these lines as its prelude, in which U+FFFD stands for each U+0000 (CommonMark 2.3)
abbrev pub with_prelude : (prelude lines : List (List ℕ)) → Source
with_prelude prelude lines = record { lines = lines; prelude = map without_nul prelude }

-- these lines are not refused as a prelude, and this is held of them
pub record IsPreludeOf (setting : Setting) (prelude : List (List ℕ)) (held : HeldPrelude) : Type 0 where
  pub stands : prelude_due setting prelude ≡ None
  pub lines : held.lines ≡ map without_nul prelude
  pub defined : IsDefinedBy setting.entities held

-- what each end of the reading of a prelude says; there is no other
abbrev pub PreludeRead : Result HeldPrelude ToolFault → Setting → (prelude : List (List ℕ)) → Type 0
PreludeRead read setting prelude = OnlyRefuses read (λ held. IsPreludeOf setting prelude held) (λ fault. prelude_due setting prelude ≡ Some (reason_of fault))

-- the text is not refused, and this is its HTML
pub record HasHtml (setting : Setting) (source : Source) (html : List ℕ) : Type 0 where
  pub stands : refusal setting source ≡ None
  pub html_is : html ≡ view_html setting source

-- what each end of the reading of a whole text says; there is no other
abbrev pub WholeHtml : Result (String Global) ToolFault → Setting → Source → Type 0
WholeHtml read setting source = OnlyRefuses read (λ html. HasHtml setting source (string_bytes html)) (λ fault. refusal setting source ≡ Some (reason_of fault))

-- All bytes were read; neither the prelude nor the text that they make is refused, and this is its HTML.
pub record Reads (setting : Setting) (prelude : List (List ℕ)) (left left' : Option (List ℕ)) (html : List ℕ) : Type 0 where
  pub lines : List (List ℕ)
  pub read : LinesRead left lines left'
  pub prelude_stands : prelude_due setting prelude ≡ None
  pub has : HasHtml setting (with_prelude prelude lines) html

-- The prelude is refused for this, and no byte was read.
pub record RefusesFirst (setting : Setting) (prelude : List (List ℕ)) (left left' : Option (List ℕ)) (fault : EditFault) : Type 0 where
  pub why : prelude_due setting prelude ≡ Some (reason_of fault)
  pub unread : left' ≡ left

-- All bytes were read; the prelude is not refused, and the text that they make is refused for this.
pub record RefusesText (setting : Setting) (prelude : List (List ℕ)) (left left' : Option (List ℕ)) (fault : EditFault) : Type 0 where
  pub lines : List (List ℕ)
  pub read : LinesRead left lines left'
  pub prelude_stands : prelude_due setting prelude ≡ None
  pub why : refusal setting (with_prelude prelude lines) ≡ Some (reason_of fault)

-- What each end says; there is no other. At `Ok` the HTML of the text was written, and where writing failed a beginning of it. At any other end nothing was
-- written: the prelude is refused, or the text; or the feed failed, which is the answer only where the prelude is not refused; or memory was refused.
abbrev pub Conversion : {T : Type 0} → Result T ToolFault → Setting → (prelude : List (List ℕ)) → (left left' written written' : Option (List ℕ)) → Type 0
Conversion (Ok answer) setting prelude left left' written written' =
    (html : List ℕ) × Reads setting prelude left left' html × Gains written html written'
Conversion (Err Write) setting prelude left left' written written' =
    (html : List ℕ) × Reads setting prelude left left' html × GainsFront written html written'
Conversion (Err (Refused fault)) setting prelude left left' written written' =
    (written' ≡ written) × (RefusesFirst setting prelude left left' fault ⊎ RefusesText setting prelude left left' fault)
Conversion (Err Read) setting prelude left left' written written' =
    (written' ≡ written) × (prelude_due setting prelude ≡ None) × TakesSome left left'
Conversion (Err NoMemory) setting prelude left left' written written' = (written' ≡ written) × TakesSome left left'
Conversion (Err (BadCommand line)) setting prelude left left' written written' = ⊥
Conversion (Err (Truncated line)) setting prelude left left' written written' = ⊥
Conversion (Err (Table fault)) setting prelude left left' written written' = ⊥
