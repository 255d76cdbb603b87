-- The names and the texts of faults, and how C is handed one.
use Rattle.std.specs.Prelude.{ℕ, ◌+◌, List, ◌∷◌, ◌++◌, codes, drop, length, if◌then◌else◌, ◌==◌, nat_lt}

-- the name of a fault, by its number
abbrev pub name_of : ℕ → List ℕ
name_of code =
    if code == 0 then codes "Ok" else
    if code == 1 then codes "OutOfRange" else
    if code == 2 then codes "BreakInLine" else
    if code == 3 then codes "TooManyLines" else
    if code == 4 then codes "TooLarge" else
    if code == 5 then codes "NestedTooDeep" else
    if code == 6 then codes "InlineTooDeep" else
    if code == 7 then codes "NoMemory" else
    if code == 8 then codes "NotDefinitions" else
    if code == 9 then codes "NotUtf8" else
    if code == 10 then codes "NoSuchUnit" else
    if code == 11 then codes "NotOpen" else
    if code == 12 then codes "AlreadyOpen" else
    if code == 13 then codes "UnknownBreaks" else
    if code == 14 then codes "LimitTooLarge" else
    if code == 15 then codes "NotJson" else
    if code == 16 then codes "BadEntry" else
    codes "Unknown"

-- what it says
abbrev pub text_of : ℕ → List ℕ
text_of code =
    if code == 0 then codes "all went well" else
    if code == 1 then codes "the edit reaches past the text" else
    if code == 2 then codes "an added line holds a line ending" else
    if code == 3 then codes "the text is refused: it has more than 1,000,000 lines" else
    if code == 4 then codes "the text is refused: it has more than 16,777,216 bytes" else
    if code == 5 then codes "the text is refused: a container lies in too many others" else
    if code == 6 then codes "the text is refused: a span lies in too many others" else
    if code == 7 then codes "no memory" else
    if code == 8 then codes "the prelude is refused: a block is no definition" else
    if code == 9 then codes "the bytes are not UTF-8" else
    if code == 10 then codes "the text has no such unit" else
    if code == 11 then codes "no preview is open" else
    if code == 12 then codes "a preview is open already" else
    if code == 13 then codes "there is no such way to write line breaks" else
    if code == 14 then codes "a limit is greater than 256" else
    if code == 15 then codes "the entity file is not JSON" else
    if code == 16 then codes "bad entry in entity file" else
    codes "there is no such fault"

-- what stands in the room after a text with a NUL behind it was copied there, where there is room for both
abbrev pub copied : List ℕ → List ℕ → List ℕ
copied text room = if nat_lt (length text) (length room) then text ++ 0 ∷ drop (length text + 1) room else room
