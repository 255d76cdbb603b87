-- The words of each program are simple ones, and none has a rule on another.
use Rattle.std.proofs.Common.{◌≡◌, Bool, true, false, refl}
use Rattle.std.specs.Prelude.{if◌then◌else◌}
use Rattle.clap.specs.Words.{App, Text, is_simple, is_simple_and_free, new_app, with_rule}
use Rattle.clap.specs.Faults.{is_free_app}
use Rattle.clap.specs.Simple.{built}
use Rattle.clap.proofs.WalkLemmas.{both}
use Rattle.mdwords.specs.ToolWords.{file_rule, has_lines, tool_app, with_done_anyway, with_lines, with_names, with_reading, with_version, with_writing}

pub tool_is_free : (name : Text) → is_simple_and_free (tool_app name) ≡ true
tool_is_free name = by (has_lines name)
  where
    before : App
    before = with_reading (with_names (with_writing (new_app name)))

    by : (b : Bool) → is_simple_and_free (with_version (with_rule (with_done_anyway (if b then with_lines before else before)) file_rule)) ≡ true
    by true = refl
    by false = refl

pub tool_is_simple : (name : Text) → is_simple (tool_app name) ≡ true
tool_is_simple name = (both (is_simple (tool_app name)) (is_free_app (built (tool_app name))) (tool_is_free name)).0
