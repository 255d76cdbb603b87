-- Block quote marker (CommonMark 5.1): the character `>`. The column after it is the caller's affair.
use Rattle.std.specs.Prelude.{ℕ, Bool, List}
use Rattle.mdscan.specs.Blanks.{begins_with}

unfoldable pub is_quote_marker : List ℕ → Bool
is_quote_marker line = begins_with 62 line
