-- The tables by which stops are found in blocks.
use Rattle.std.specs.Prelude.{ℕ, ◌/◌, bit_and, slice_index}
use Rattle.mdinline.specs.declared.stops.TheConstants.{ROWS, STOPS}

-- the rows in which a byte with these lower bits is a stop
abbrev pub low_of : ℕ → ℕ
low_of x = slice_index STOPS (bit_and x 15)

-- the row of a byte
abbrev pub high_of : ℕ → ℕ
high_of x = slice_index ROWS (x / 16)
