-- Backtick strings of a text (CommonMark 6.1).
use Rattle.std.specs.Prelude.{◌≡◌, ◌+◌, ◌-◌, ◌<◌, ◌≤◌, ℕ, List, drop, slice_index}
use Rattle.inlinespec.specs.CodeSpans.{backticks}

-- a backtick string begins at a place
pub record BeginsString (text : List ℕ) (at : ℕ) : Type 0 where
  pub there : slice_index text at ≡ 96
  pub fresh : 0 < at → slice_index text (at - 1) ≡ 96 → ⊥

-- the first backtick string from a place on, where the place is not inside one
pub record IsNextString (text : List ℕ) (from start end : ℕ) : Type 0 where
  pub later : from ≤ start
  pub none_before : (j : ℕ) → from ≤ j → j < start → slice_index text j ≡ 96 → ⊥
  pub there : slice_index text start ≡ 96
  pub whole : end ≡ start + backticks (drop start text)
