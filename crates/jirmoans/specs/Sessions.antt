-- What each call of a session does.
use Rattle.std.specs.Prelude.{◌≡◌, ℕ, ◌⊎◌, ◌∷◌, ◌++◌, List, [], Option, Some, None, Result, Ok, Err, String, IfOk, false, length, slice_get, string_bytes}
use Rattle.std.specs.Global.{Global}
use Rattle.std.specs.Str.{IsUtf8}
use Rattle.std.specs.Vec.{vec_ptr}
use Rattle.std.specs.declared.vec.Vec.{Vec}
use Rattle.mdtext.specs.EntityFile.{file_table}
use Rattle.mdtext.specs.EntityTable.{EntityTable, builtin_table}
use Rattle.mdtext.specs.Lines.{split_lines, text_lines}
use Rattle.mdtext.specs.declared.entity_file.TableFault.{TableFault}
use Rattle.mdtext.specs.declared.entity_file.TableFault.TheVariants.{NoMemory as TableNoMemory}
use Rattle.htmlspec.specs.declared.options.Options.{Options}
use Rattle.mdsource.specs.declared.fault.EditFault.{EditFault}
use Rattle.mdsource.specs.declared.fault.EditFault.TheVariants.{NoMemory}
use Rattle.blockspec.specs.BlockUnits.{begins}
use Rattle.mdview.specs.Document.{empty, pieces_of, readings_of}
use Rattle.mdview.specs.Edit.{call_of}
use Rattle.mdview.specs.Outcome.{answer_of, is_starved, outcome_of}
use Rattle.mdsource.specs.Outcome.{accepted}
use Rattle.mdsource.specs.Calls.{Call, set_prelude}
use Rattle.mdsource.specs.ChangedPieces.{ChangedPieces}
use Rattle.mdsource.specs.Patch.{Brings}
use Rattle.mdbatch.specs.ViewHtml.{ViewHtml}
use Rattle.jirmoans.specs.declared.faults.Refusal.{Refusal}
use Rattle.jirmoans.specs.declared.faults.Refusal.TheVariants.{Edit, Table, NotUtf8, NoSuchUnit, NotOpen, AlreadyOpen, UnknownBreaks, LimitTooLarge}
use Rattle.jirmoans.specs.declared.session.Session.{Session}
use Rattle.jirmoans.specs.declared.settings.Settings.{Settings}
use Rattle.jirmoans.specs.declared.shown.Changes.{Changes}
use Rattle.jirmoans.specs.declared.shown.Text.{Text}
use Rattle.jirmoans.specs.Refusals.{IsCutAt}
use Rattle.jirmoans.specs.Settings.{options_of}

-- the entities of a file, or the usual ones where there are no bytes
abbrev pub table_of : List ℕ → Result EntityTable TableFault
table_of [] = Ok builtin_table
table_of (byte ∷ bytes) = file_table (byte ∷ bytes)

-- a session begins with the empty text
pub record Begins (session : Session) (settings : Settings) (entities : List ℕ) : Type 0 where
  pub options : Options
  pub table : EntityTable
  pub read : options_of settings ≡ Ok options
  pub known : table_of entities ≡ Ok table
  pub preview : session.preview ≡ empty (record table { double_tilde = settings.double_tilde }) options

-- how a session is opened; there is no other end
abbrev pub Opens : Result Session Refusal → Settings → List ℕ → Type 0
Opens (Ok session) settings entities = Begins session settings entities
Opens (Err UnknownBreaks) settings entities = options_of settings ≡ Err UnknownBreaks
Opens (Err LimitTooLarge) settings entities = options_of settings ≡ Err LimitTooLarge
Opens (Err (Table fault)) settings entities = (options : Options) × (options_of settings ≡ Ok options) × ((fault ≡ TableNoMemory) ⊎
    (table_of entities ≡ Err fault))
Opens (Err (Edit fault)) settings entities = ⊥
Opens (Err (NotUtf8 valid)) settings entities = ⊥
Opens (Err (NoSuchUnit units)) settings entities = ⊥
Opens (Err NotOpen) settings entities = ⊥
Opens (Err AlreadyOpen) settings entities = ⊥

-- C is shown the patch; the numbers of the pieces that were made again lie in the session
pub record ShowsPatch (patch : ChangedPieces) (changes : Changes) (again : Vec ℕ Global) : Type 0 where
  pub first : changes.first ≡ patch.first
  pub removed : changes.removed ≡ patch.removed
  pub added : changes.added ≡ patch.added
  pub numbers : again.items ≡ patch.again
  pub at : changes.again ≡ vec_ptr again
  pub count : changes.again_len ≡ length patch.again

-- A call of the preview was accepted, as the preview says: the patch takes the old pieces to the new ones, and the units that it does not bring read as
-- they did. The text that C was shown lies where it lay.
pub record Accepts (call : Call) (old : Session) (changes : Changes) (new : Session) : Type 0 where
  pub patch : ChangedPieces
  pub outcome : (accepted patch, new.preview) ≡ outcome_of false old.preview call
  pub pieces : Brings patch (pieces_of old.preview) (pieces_of new.preview)
  pub units : Brings patch (readings_of old.preview) (readings_of new.preview)
  pub shown : ShowsPatch patch changes new.again
  pub text : new.text ≡ old.text

-- it was refused for want of memory, or as the preview says
abbrev pub Refuses : Call → Session → EditFault → Type 0
Refuses call old fault = (fault ≡ NoMemory) ⊎ ((answer_of (Err fault), old.preview) ≡ outcome_of (is_starved {T = ChangedPieces} (Err fault)) old.preview call)

-- A call of the preview with the lines of a text. After each refusal all is as it was; there is no other end.
abbrev pub ChangesBy : (List (List ℕ) → Call) → List ℕ → Session → Result Changes Refusal → Session → Type 0
ChangesBy call text old (Ok changes) new = IsUtf8 text × Accepts (call (split_lines text)) old changes new
ChangesBy call text old (Err (Edit fault)) new = IsUtf8 text × (new ≡ old) × Refuses (call (split_lines text)) old fault
ChangesBy call text old (Err (NotUtf8 valid)) new = IsCutAt text valid × (new ≡ old)
ChangesBy call text old (Err (Table fault)) new = ⊥
ChangesBy call text old (Err (NoSuchUnit units)) new = ⊥
ChangesBy call text old (Err NotOpen) new = ⊥
ChangesBy call text old (Err AlreadyOpen) new = ⊥
ChangesBy call text old (Err UnknownBreaks) new = ⊥
ChangesBy call text old (Err LimitTooLarge) new = ⊥

abbrev pub Edits : ℕ → ℕ → List ℕ → Session → Result Changes Refusal → Session → Type 0
Edits at del = ChangesBy (call_of at del)

-- with a prelude the lines stay, and no unit comes or goes
pub record KeepsUnits (changes : Changes) (old new : Session) : Type 0 where
  pub first : changes.first ≡ 0
  pub removed : changes.removed ≡ 0
  pub added : changes.added ≡ 0
  pub lines : new.preview.lines ≡ old.preview.lines

abbrev pub SetsPrelude : List ℕ → Session → Result Changes Refusal → Session → Type 0
SetsPrelude text old ended new = ChangesBy set_prelude text old ended new × IfOk ended (λ changes. KeepsUnits changes old new)

-- all but the text that is shown is as it was
abbrev pub Keeps : Session → Session → Type 0
Keeps old new = (new.preview ≡ old.preview) × (new.again ≡ old.again)

-- these bytes lie in the session, a NUL behind them, where C is told
pub record Shows (bytes : List ℕ) (text : Text) (old new : Session) : Type 0 where
  pub kept : Keeps old new
  pub held : new.text.items ≡ bytes ++ 0 ∷ []
  pub at : text.at ≡ vec_ptr new.text
  pub count : text.len ≡ length bytes

-- the piece of a unit
pub record ShowsUnit (unit : ℕ) (text : Text) (old new : Session) : Type 0 where
  pub piece : List ℕ
  pub is : slice_get (pieces_of old.preview) unit ≡ Some piece
  pub shown : Shows piece text old new

abbrev pub ShowsPiece : ℕ → Session → Result Text Refusal → Session → Type 0
ShowsPiece unit old (Ok text) new = ShowsUnit unit text old new
ShowsPiece unit old (Err (NoSuchUnit units)) new = (slice_get (pieces_of old.preview) unit ≡ None) × (units ≡ length (pieces_of old.preview)) × (new ≡ old)
ShowsPiece unit old (Err (Edit fault)) new = (fault ≡ NoMemory) × Keeps old new
ShowsPiece unit old (Err (NotUtf8 valid)) new = ⊥
ShowsPiece unit old (Err (Table fault)) new = ⊥
ShowsPiece unit old (Err NotOpen) new = ⊥
ShowsPiece unit old (Err AlreadyOpen) new = ⊥
ShowsPiece unit old (Err UnknownBreaks) new = ⊥
ShowsPiece unit old (Err LimitTooLarge) new = ⊥

-- what a whole text ends with that is read with the session's entities and options, beside the lines of its prelude
abbrev pub HtmlBeside : List ℕ → Result (String Global) EditFault → Session → Type 0
HtmlBeside source ended old =
    ViewHtml ended (record { entities = old.preview.entities; options = old.preview.options }) (record { lines = text_lines source; prelude = old.preview.prelude })

-- C is shown the HTML of such a text
pub record ShowsWhole (source : List ℕ) (text : Text) (old new : Session) : Type 0 where
  pub html : String Global
  pub is : HtmlBeside source (Ok html) old
  pub shown : Shows (string_bytes html) text old new

abbrev pub ShowsHtml : List ℕ → Session → Result Text Refusal → Session → Type 0
ShowsHtml source old (Ok text) new = IsUtf8 source × ShowsWhole source text old new
ShowsHtml source old (Err (Edit fault)) new = IsUtf8 source × HtmlBeside source (Err fault) old × (new ≡ old)
ShowsHtml source old (Err (NotUtf8 valid)) new = IsCutAt source valid × (new ≡ old)
ShowsHtml source old (Err (Table fault)) new = ⊥
ShowsHtml source old (Err (NoSuchUnit units)) new = ⊥
ShowsHtml source old (Err NotOpen) new = ⊥
ShowsHtml source old (Err AlreadyOpen) new = ⊥
ShowsHtml source old (Err UnknownBreaks) new = ⊥
ShowsHtml source old (Err LimitTooLarge) new = ⊥

-- the first line of a unit, if there is such a unit
abbrev pub unit_begin : Session → ℕ → Option ℕ
unit_begin held unit = slice_get (begins held.preview.entities held.preview.lines) unit

abbrev pub BeginsAt : ℕ → Session → Result ℕ Refusal → Session → Type 0
BeginsAt unit old (Ok line) new = (unit_begin old unit ≡ Some line) × (new ≡ old)
BeginsAt unit old (Err (NoSuchUnit units)) new = (unit_begin old unit ≡ None) × (units ≡ length (pieces_of old.preview)) × (new ≡ old)
BeginsAt unit old (Err (Edit fault)) new = ⊥
BeginsAt unit old (Err (NotUtf8 valid)) new = ⊥
BeginsAt unit old (Err (Table fault)) new = ⊥
BeginsAt unit old (Err NotOpen) new = ⊥
BeginsAt unit old (Err AlreadyOpen) new = ⊥
BeginsAt unit old (Err UnknownBreaks) new = ⊥
BeginsAt unit old (Err LimitTooLarge) new = ⊥
