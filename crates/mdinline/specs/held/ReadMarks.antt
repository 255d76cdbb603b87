-- Pieces of a text as what can be seen of them: events, and delimiter runs that are not paired (CommonMark 6.2).
use Rattle.std.specs.Prelude.{◌≡◌, false, ℕ, zero, suc, ◌+◌, List, [], ◌∷◌, ◌++◌, map}
use Rattle.mdpair.specs.declared.emphasis.Match.{Match}
use Rattle.mdpair.specs.declared.delimiter_runs.DelimiterRun.{DelimiterRun}
use Rattle.inlinespec.specs.InlineEvents.{Event}
use Rattle.inlinespec.specs.Pieces.{Piece, Made, Run, Opening, bracket_text}
use Rattle.inlinespec.specs.Emphasis.{run_events}

pub data Mark : Type 0 where
  One : Event → Mark
  Pending : DelimiterRun → Mark

abbrev pub ones : List Event → List Mark
ones es = map (λ e. One e) es

abbrev pub marks : List Piece → List Mark
marks [] = []
marks (Made has_link es ∷ ps) = ones es ++ marks ps
marks (Run r ∷ ps) = Pending r ∷ marks ps
marks (Opening image begin ∷ ps) = ones (bracket_text image) ++ marks ps

-- of pieces that are read backwards, in the text's order
abbrev pub marks_back : List Piece → List Mark
marks_back [] = []
marks_back (p ∷ ps) = marks_back ps ++ marks (p ∷ [])

-- the places of the runs among pieces, the first of which stands at a place
abbrev pub places_of : List Piece → ℕ → List ℕ
places_of [] at = []
places_of (Run r ∷ ps) at = at ∷ places_of ps (at + 1)
places_of (Made has_link es ∷ ps) at = places_of ps (at + 1)
places_of (Opening image begin ∷ ps) at = places_of ps (at + 1)

-- pieces with others in place of their runs from the nth on
abbrev pub marked : List Piece → ℕ → List Piece → List Piece
marked [] n qs = []
marked (Made has_link es ∷ ps) n qs = Made has_link es ∷ marked ps n qs
marked (Opening image begin ∷ ps) n qs = Opening image begin ∷ marked ps n qs
marked (Run r ∷ ps) (suc n) qs = Run r ∷ marked ps n qs
marked (Run r ∷ ps) zero [] = Run r ∷ marked ps zero []
marked (Run r ∷ ps) zero (q ∷ qs) = q ∷ marked ps zero qs

-- these pieces are the events of these runs, of which the first is the nth
abbrev pub AreEventsOf : ℕ → List Match → List DelimiterRun → List Piece → Type 0
AreEventsOf n ts [] [] = Unit {0}
AreEventsOf n ts (r ∷ rs) (q ∷ qs) = (q ≡ Made false (run_events n ts r)) × AreEventsOf (n + 1) ts rs qs
AreEventsOf n ts _ _ = ⊥
