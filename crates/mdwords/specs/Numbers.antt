-- The numbers of words.
use Rattle.std.specs.Prelude.{ℕ, ◌+◌, ◌-◌, ◌*◌, List, Option, Some, None, if◌then◌else◌, ◌==◌, ◌&&◌, not, nat_lt, length, fold}
use Rattle.std.specs.List.{list_all}
use Rattle.std.specs.Char.{is_ascii_digit}

-- the number that a word of 1 to 9 digits is
unfoldable pub number : List ℕ → Option ℕ
number word =
    if not (length word == 0) && nat_lt (length word) 10 && list_all is_ascii_digit word then Some (fold (λ n digit. n * 10 + (digit - 48)) 0 word) else None
