-- How many spans are open among events that come in two parts.
use Rattle.std.proofs.Common.{◌≡◌, ℕ, zero, suc, max, List, [], ◌∷◌, ◌++◌, refl, arith}
use Rattle.inlinespec.specs.InlineEvents.{Event, Byte, CodeSpan, RawHtml, SoftBreak, HardBreak, Enter, Leave, written}
use Rattle.inlinespec.specs.SpanEnds.{most_open, open_after}

pub open_more : (n : ℕ) (es fs : List Event) → open_after n (es ++ fs) ≡ open_after (open_after n es) fs
open_more n [] fs = refl
open_more n (Byte b ∷ es) fs = open_more n es fs
open_more n (CodeSpan s ∷ es) fs = open_more n es fs
open_more n (RawHtml s ∷ es) fs = open_more n es fs
open_more n (SoftBreak ∷ es) fs = open_more n es fs
open_more n (HardBreak ∷ es) fs = open_more n es fs
open_more n (Enter span ∷ es) fs = open_more (suc n) es fs
open_more zero (Leave ∷ es) fs = open_more zero es fs
open_more (suc n) (Leave ∷ es) fs = open_more n es fs

pub most_more : (n : ℕ) (es fs : List Event) → most_open n (es ++ fs) ≡ max (most_open n es) (most_open (open_after n es) fs)
most_more n [] fs = omega arith
most_more n (Byte b ∷ es) fs = most_more n es fs
most_more n (CodeSpan s ∷ es) fs = most_more n es fs
most_more n (RawHtml s ∷ es) fs = most_more n es fs
most_more n (SoftBreak ∷ es) fs = most_more n es fs
most_more n (HardBreak ∷ es) fs = most_more n es fs
most_more n (Enter span ∷ es) fs = let rest = most_more (suc n) es fs in omega arith
most_more zero (Leave ∷ es) fs = most_more zero es fs
most_more (suc n) (Leave ∷ es) fs = most_more n es fs

pub bytes_open : (n : ℕ) (bs : List ℕ) → open_after n (written bs) ≡ n
bytes_open n [] = refl
bytes_open n (b ∷ bs) = bytes_open n bs
