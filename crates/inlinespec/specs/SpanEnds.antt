-- Where spans begin and end among events, and how many are open (CommonMark 6).
use Rattle.std.specs.Prelude.{◌≡◌, ℕ, zero, suc, max, List, [], ◌∷◌}
use Rattle.inlinespec.specs.InlineEvents.{Event, Enter, Leave}

-- These events end so many spans that began before them, and each span that begins among them; they end nothing else.
abbrev pub EndSpans : ℕ → List Event → Type 0
EndSpans n [] = n ≡ 0
EndSpans n (Enter span ∷ es) = EndSpans (suc n) es
EndSpans (suc n) (Leave ∷ es) = EndSpans n es
EndSpans zero (Leave ∷ es) = ⊥
EndSpans n (e ∷ es) = EndSpans n es

-- how many spans are open behind these events, where so many are open before them
abbrev pub open_after : ℕ → List Event → ℕ
open_after n [] = n
open_after n (Enter span ∷ es) = open_after (suc n) es
open_after zero (Leave ∷ es) = open_after zero es
open_after (suc n) (Leave ∷ es) = open_after n es
open_after n (e ∷ es) = open_after n es

-- how many spans are open at once, at most, where a span begins among these events
abbrev pub most_open : ℕ → List Event → ℕ
most_open n [] = 0
most_open n (Enter span ∷ es) = max (suc n) (most_open (suc n) es)
most_open zero (Leave ∷ es) = most_open zero es
most_open (suc n) (Leave ∷ es) = most_open n es
most_open n (e ∷ es) = most_open n es
