use Rattle.std.proofs.Common.{◌≡◌, map, drop}
use Rattle.std.specs.List.{list_all}
use Rattle.mdwords.specs.ToolWords.{is_extension}
use Rattle.mdwords.proofs.tool_words.require_extensions.Given as goal

abbrev pub invariant-loop-name : goal.invariant-loop-name
invariant-loop-name l = list_all is_extension (map (λ name. name.now) (drop l.name-index l.names)) ≡ list_all is_extension (map (λ name. name.now) l.names)
