-- Why lines are no text or no prelude, as the code tells it, is why the definition refuses them.
use Rattle.std.proofs.Common.{◌≡◌, ℕ, ◌+◌, Bool, true, false, List, [], ◌∷◌, length, map, Option, Some, None, cond, nat_lt, option_map, refl, ap, ◌∙◌}
use Rattle.std.specs.Option.{option_or}
use Rattle.mdtext.specs.Lines.{without_nul}
use Rattle.mdsource.specs.Calls.{set_prelude, due_at_once, line_ending_from}
use Rattle.mdsource.specs.Refusals.{break_in_line, size_refusal, too_large, too_many_lines}
use Rattle.mdsource.specs.Setting.{Source}
use Rattle.mdsource.specs.declared.fault.EditFault.TheVariants.{TooManyLines, TooLarge}
use Rattle.mdsource.specs.SourceLimits.{due_of_prelude, due_of_text, first_with_ending, has_line_ending, refusal, size_of}
use Rattle.mdsource.specs.FaultReasons.{reason_of}

size_choice : (many large : Bool) → option_map reason_of (cond many (Some TooManyLines) (cond large (Some TooLarge) None)) ≡ cond many (Some too_many_lines) (cond large (Some too_large) None)
size_choice true large = refl
size_choice false true = refl
size_choice false false = refl

-- lines that are no text
pub size_reason : (lines : List (List ℕ)) → option_map reason_of (refusal lines) ≡ size_refusal lines
size_reason lines = size_choice (nat_lt 1000000 (length lines)) (nat_lt 16777216 (size_of lines))

pub same_ending : (i : ℕ) (lines : List (List ℕ)) → first_with_ending i lines ≡ line_ending_from i lines
same_ending i [] = refl
same_ending i (line ∷ lines) = ap (cond (has_line_ending line) (Some i)) (same_ending (i + 1) lines)

pub text_reason : (first : Option ℕ) (lines : List (List ℕ)) → option_map reason_of (due_of_text first lines) ≡ option_or (option_map break_in_line first) (size_refusal lines)
text_reason (Some index) lines = refl
text_reason None lines = size_reason lines

-- a prelude, beside any text
pub prelude_reason : (source : Source) (lines : List (List ℕ)) → option_map reason_of (due_of_prelude lines) ≡ due_at_once source (set_prelude lines)
prelude_reason source lines =
    text_reason (first_with_ending 0 lines) (map without_nul lines)
    ∙ ap (λ first. option_or (option_map break_in_line first) (size_refusal (map without_nul lines))) (same_ending 0 lines)
