-- Indented code blocks (CommonMark 4.4).
use Rattle.std.specs.Prelude.{List, length, Option, Some, None, if◌then◌else◌, ◌-◌, take}
use Rattle.std.specs.List.{suffix_len}
use Rattle.blockspec.specs.BlockLine.{BlockLine}
use Rattle.blockspec.specs.BlankLines.{is_blank_line}
use Rattle.blockspec.specs.BlockKinds.{Mode, Kind, IndentedCode, is_free}

-- It can't interrupt a paragraph.
abbrev pub start_far : Mode → Option Kind
start_far mode = if is_free mode then Some IndentedCode else None

-- lines without the blank ones at their end
abbrev pub without_end_blank_lines : List BlockLine → List BlockLine
without_end_blank_lines ls = take (length ls - suffix_len is_blank_line ls) ls
