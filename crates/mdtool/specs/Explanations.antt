-- What a stop is explained by: the second line that `--explain` asks for.
use Rattle.std.specs.Prelude.{ℕ, ◌+◌, ◌-◌, ◌^◌, List, [], ◌∷◌, ◌++◌, Option, Some, None, codes, decimal, if◌then◌else◌, min, string_bytes, String}
use Rattle.std.specs.Global.{Global}
use Rattle.htmlspec.specs.declared.options.Options.{Options}
use Rattle.mdtext.specs.declared.entity_file.TableFault.{TableFault}
use Rattle.mdtext.specs.declared.entity_file.TableFault.TheVariants.{NotJson, BadEntry}
use Rattle.mdtext.specs.declared.entity_file.TableFault.TheVariants.{NoMemory as TableNoMemory}
use Rattle.mdsource.specs.declared.fault.EditFault.{EditFault}
use Rattle.mdsource.specs.declared.fault.EditFault.TheVariants.{OutOfRange, BreakInLine, TooManyLines, TooLarge, NestedTooDeep, InlineTooDeep, NotDefinitions}
use Rattle.mdsource.specs.declared.fault.EditFault.TheVariants.{NoMemory as EditNoMemory}
use Rattle.mdtool.specs.declared.fault.Stop.{Stop}
use Rattle.mdtool.specs.declared.fault.Stop.TheVariants.{Words as ByWords, NotOpened, Tool}
use Rattle.mdtool.specs.declared.fault.ToolFault.{ToolFault}
use Rattle.mdtool.specs.declared.fault.ToolFault.TheVariants.{Read, Write, Refused, BadCommand, Truncated, Table}
use Rattle.mdtool.specs.declared.fault.ToolFault.TheVariants.{NoMemory as ToolNoMemory}
use Rattle.mdtool.specs.declared.halt.Cause.{Cause}
use Rattle.mdtool.specs.declared.halt.Cause.TheVariants.{Missing, Locked, Folder, NoFolder, Circle, Waits, Other}
use Rattle.mdtool.specs.declared.halt.Halt.{Halt}
use Rattle.mdtool.specs.declared.halt.Source.{Source}
use Rattle.mdtool.specs.declared.halt.Source.TheVariants.{Entities, Prelude, Text}
use Rattle.mdwords.specs.declared.tool_words.Words.{Words}

abbrev pub name_or : Option (String Global) → List ℕ → List ℕ
name_or None other = other
name_or (Some name) other = string_bytes name

-- the name of the text or the script
abbrev pub text_name : Words → List ℕ
text_name words = name_or words.file (codes "standard input")

-- the name of what was being read
abbrev pub source_name : Words → Source → List ℕ
source_name words Entities = name_or words.entities (text_name words)
source_name words Prelude = name_or words.prelude (text_name words)
source_name words Text = text_name words

-- where the stop is: what was being read, or what was being written
abbrev pub place_of : Words → Source → Stop → List ℕ
place_of words source (Tool Write) = codes "standard output"
place_of words source (Tool Read) = source_name words source
place_of words source (Tool (Refused fault)) = source_name words source
place_of words source (Tool (BadCommand line)) = source_name words source
place_of words source (Tool (Truncated line)) = source_name words source
place_of words source (Tool (Table fault)) = source_name words source
place_of words source (Tool ToolNoMemory) = source_name words source
place_of words source (NotOpened name) = source_name words source
place_of words source (ByWords fault) = source_name words source

abbrev pub cause_text : Cause → List ℕ
cause_text Missing = codes "there is no such file"
cause_text Locked = codes "you may not read it"
cause_text Folder = codes "it is a folder, and not a file"
cause_text NoFolder = codes "its path leads through a file that is no folder"
cause_text Circle = codes "its links lead in a circle"
cause_text Waits = codes "it has nothing yet, and does not wait"
cause_text Other = codes "the system says no more"

-- a line that is counted from 0, and what is wrong with it
abbrev pub in_line : ℕ → List ℕ → List ℕ
in_line line text = codes "line " ++ (decimal (min (line + 1) (2 ^ 64 - 1)) ++ (codes ": " ++ text))

abbrev pub refusal_told : Options → EditFault → List ℕ
refusal_told options (NestedTooDeep line) = in_line line (codes "more than " ++ decimal options.max_containers ++ codes " block quotes and list items in one another; see --max-containers")
refusal_told options (InlineTooDeep line) = in_line line (codes "the block that begins here has more than " ++ decimal options.max_spans ++ codes " spans in one another; see --max-spans")
refusal_told options (NotDefinitions line) = in_line line (codes "the block that begins here is more than link reference definitions; leave nothing else in the file")
refusal_told options TooManyLines = codes "more than 1000000 lines; cut it into several texts"
refusal_told options TooLarge = codes "more than 16777216 bytes; cut it into several texts"
refusal_told options (OutOfRange lines) = codes "it is refused"
refusal_told options (BreakInLine index) = codes "it is refused"
refusal_told options EditNoMemory = codes "the system gives no more memory; cut it into several texts"

abbrev pub table_told : TableFault → List ℕ
table_told NotJson = codes "it is no JSON text, or no object; HTML's entities.json has the form"
table_told BadEntry = codes "a name that ends with ; is not letters and digits behind &, or it has no text characters"
table_told TableNoMemory = codes "the system gives no more memory; cut it into several texts"

abbrev pub fault_told : Options → Cause → ToolFault → List ℕ
fault_told options cause Read = codes "it can't be read: " ++ cause_text cause
fault_told options cause Write = codes "it takes no more, and what was written is not whole"
fault_told options cause (Refused fault) = refusal_told options fault
fault_told options cause (BadCommand line) = codes "line " ++ decimal line ++ codes ": this is no command; a command is html, edit AT DEL ADD or prelude ADD"
fault_told options cause (Truncated line) = codes "line " ++ decimal line ++ codes ": fewer lines follow than this command asks for; its last number counts them"
fault_told options cause (Table fault) = table_told fault
fault_told options cause ToolNoMemory = codes "the system gives no more memory; cut it into several texts"

-- what is wrong, and what to do
abbrev pub told : Options → Cause → Stop → List ℕ
told options cause (Tool fault) = fault_told options cause fault
told options cause (NotOpened name) = codes "it can't be opened: " ++ cause_text cause
told options cause (ByWords fault) = codes "see --help"

-- the second line
abbrev pub explanation : Words → Halt → List ℕ
explanation words halt = place_of words halt.source halt.stop ++ (codes ": " ++ (told words.options halt.cause halt.stop ++ 10 ∷ []))

-- the second line where it is asked for
abbrev pub asked_explanation : Words → Halt → List ℕ
asked_explanation words halt = if words.explains then explanation words halt else []
