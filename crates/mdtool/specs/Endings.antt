-- What a program says when it stops, and its status.
use Rattle.std.specs.Prelude.{◌≡◌, ℕ, List, [], ◌∷◌, ◌++◌, Result, Ok, Err, codes, decimal, string_bytes}
use Rattle.mdsource.specs.declared.fault.EditFault.{EditFault}
use Rattle.mdsource.specs.declared.fault.EditFault.TheVariants.{NoMemory as EditNoMemory}
use Rattle.mdtext.specs.declared.entity_file.TableFault.TheVariants.{NotJson, BadEntry}
use Rattle.mdtext.specs.declared.entity_file.TableFault.TheVariants.{NoMemory as TableNoMemory}
use Rattle.mdtool.specs.declared.fault.ToolFault.{ToolFault}
use Rattle.mdtool.specs.declared.fault.ToolFault.TheVariants.{Read, Write, Refused, BadCommand, Truncated, Table}
use Rattle.mdtool.specs.declared.fault.ToolFault.TheVariants.{NoMemory as ToolNoMemory}
use Rattle.mdwords.specs.declared.word_faults.WordFault.{WordFault}
use Rattle.mdwords.specs.declared.word_faults.WordFault.TheVariants.{Help, Version, NotUnderstood}
use Rattle.mdwords.specs.declared.word_faults.WordFault.TheVariants.{NoMemory as WordNoMemory}
use Rattle.mdwords.specs.ToolWords.{version}
use Rattle.mdtool.specs.declared.fault.Stop.{Stop}
use Rattle.mdtool.specs.declared.fault.Stop.TheVariants.{Words, NotOpened, Tool}
use Rattle.mdtool.specs.declared.halt.Halt.{Halt}
use Rattle.mdtool.specs.RefusalText.{fault_text}

abbrev pub no_memory : List ℕ
no_memory = codes "no memory"

-- want of memory is no refusal of the text or the prelude
abbrev pub refusal_reason_of : EditFault → List ℕ
refusal_reason_of EditNoMemory = no_memory
refusal_reason_of fault = fault_text fault

abbrev pub tool_reason_of : ToolFault → List ℕ
tool_reason_of Read = codes "read failed"
tool_reason_of Write = codes "write failed"
tool_reason_of (Refused fault) = refusal_reason_of fault
tool_reason_of (BadCommand line) = codes "bad command in line " ++ decimal line
tool_reason_of (Truncated line) = codes "script ends inside the edit of line " ++ decimal line
tool_reason_of (Table NotJson) = codes "entity file is not JSON"
tool_reason_of (Table BadEntry) = codes "bad entry in entity file"
tool_reason_of (Table TableNoMemory) = no_memory
tool_reason_of ToolNoMemory = no_memory

abbrev pub words_reason_of : WordFault → List ℕ
words_reason_of (Help text) = string_bytes text
words_reason_of Version = version
words_reason_of NotUnderstood = codes "words not understood"
words_reason_of WordNoMemory = no_memory

abbrev pub reason_of : Stop → List ℕ
reason_of (Words fault) = words_reason_of fault
reason_of (NotOpened name) = codes "cannot open " ++ string_bytes name
reason_of (Tool fault) = tool_reason_of fault

-- the line on standard error
abbrev pub line_of : List ℕ → Stop → List ℕ
line_of program stop = program ++ codes ": " ++ reason_of stop ++ 10 ∷ []

-- the program's name and its version
abbrev pub version_line : List ℕ → List ℕ
version_line program = program ++ (32 ∷ (version ++ 10 ∷ []))

-- the line, or the help or the version that was asked for
abbrev pub text_of : List ℕ → Stop → List ℕ
text_of program (Words (Help text)) = string_bytes text
text_of program (Words Version) = version_line program
text_of program (Words NotUnderstood) = line_of program (Words NotUnderstood)
text_of program (Words WordNoMemory) = line_of program (Words WordNoMemory)
text_of program (NotOpened name) = line_of program (NotOpened name)
text_of program (Tool fault) = line_of program (Tool fault)

abbrev pub tool_status_of : ToolFault → ℕ
tool_status_of (BadCommand line) = 2
tool_status_of (Truncated line) = 2
tool_status_of Read = 1
tool_status_of Write = 1
tool_status_of (Refused fault) = 1
tool_status_of (Table fault) = 1
tool_status_of ToolNoMemory = 1

-- 2 where the words or the script are wrong, 1 where the program could not go on
abbrev pub status_of : Stop → ℕ
status_of (Words (Help text)) = 0
status_of (Words Version) = 0
status_of (Words NotUnderstood) = 2
status_of (Words WordNoMemory) = 1
status_of (NotOpened name) = 1
status_of (Tool fault) = tool_status_of fault

-- the status of a program that came to its end or stopped so
abbrev pub end_status : {T : Type 0} → Result T Halt → ℕ
end_status (Ok done) = 0
end_status (Err halt) = status_of halt.stop

-- an engine came to its end, or stopped, and so did the program
abbrev pub EndsBy : {S T : Type 0} → Result S ToolFault → Result T Halt → Type 0
EndsBy (Ok answer) (Ok done) = Unit {0}
EndsBy (Ok answer) (Err halt) = ⊥
EndsBy (Err fault) (Ok done) = ⊥
EndsBy (Err fault) (Err halt) = halt.stop ≡ Tool fault

-- a file of this name was not opened, or there was no memory to say so
abbrev pub IsNotOpened : List ℕ → Stop → Type 0
IsNotOpened name (NotOpened other) = string_bytes other ≡ name
IsNotOpened name (Tool ToolNoMemory) = Unit {0}
IsNotOpened name (Tool Read) = ⊥
IsNotOpened name (Tool Write) = ⊥
IsNotOpened name (Tool (Refused fault)) = ⊥
IsNotOpened name (Tool (BadCommand line)) = ⊥
IsNotOpened name (Tool (Truncated line)) = ⊥
IsNotOpened name (Tool (Table fault)) = ⊥
IsNotOpened name (Words fault) = ⊥
