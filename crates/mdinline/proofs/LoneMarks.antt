-- Quotation marks and `>`, which are text whatever stands around them.
use Rattle.std.proofs.Common.{eqb-true, ◌≡◌, ℕ, ◌+◌, ◌<◌, Bool, true, false, ◌||◌, List, length, drop, get_or, refl, arith}
use Rattle.std.specs.Prelude.{◌==◌, slice_index}
use Rattle.std.specs.Str.{IsUtf8}
use Rattle.std.proofs.lemmas.Bool.Decides.{nat_tests}
use Rattle.mdtext.specs.EntityTable.{EntityTable}
use Rattle.mdscan.specs.Spans.{IsEndAfter}
use Rattle.inlinespec.specs.Lexemes.{as_written}
use Rattle.inlinespec.specs.Lexing.{lex}
use Rattle.mdinline.proofs.Marks.{behind}
use Rattle.mdinline.proofs.SignItems.{at_greater, at_quotation}

pub small_mark : (b : ℕ) → (b == 34 || b == 62) ≡ true → b < 128
small_mark b h = grind (arith, nat_tests, h)

pub mark_end : (text : List ℕ) (at : ℕ) → IsUtf8 text → at < length text → slice_index text at < 128 → IsEndAfter text at (at + 1)
mark_end text at u inside mark = record {
  later = omega arith;
  within = omega (arith, inside);
  whole = behind text text at refl u inside mark;
}

pub mark_there : (entities : EntityTable) (text : List ℕ) (at : ℕ) → (get_or text at 0 == 34 || get_or text at 0 == 62) ≡ true → lex entities text at ≡ as_written 1 (drop at text)
mark_there entities text at h = by (get_or text at 0 == 34) refl
  where
    by : (t : Bool) → (get_or text at 0 == 34) ≡ t → lex entities text at ≡ as_written 1 (drop at text)
    by true e = at_quotation entities text at (eqb-true (get_or text at 0) 34 e)
    by false e = at_greater entities text at (let greater : get_or text at 0 ≡ 62 = grind (arith, nat_tests, h, e) in greater)
