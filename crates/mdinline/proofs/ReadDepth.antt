-- How many spans lie in one another in a text, by the events of its reading.
use Rattle.std.proofs.Common.{◌≡◌, ◌<◌, ◌≤◌, ℕ, true, false, List, subst, sym}
use Rattle.mdtext.specs.EntityTable.{EntityTable}
use Rattle.inlinespec.specs.InlineEvents.{Event}
use Rattle.inlinespec.specs.LinkTails.{Table}
use Rattle.inlinespec.specs.Nesting.{nest}
use Rattle.inlinespec.specs.SpanEnds.{most_open}
use Rattle.inlinespec.specs.TextReading.{reading}
use Rattle.inlinespec.specs.TextTree.{events_of, inl}
use Rattle.inlinespec.proofs.DeepestSpans.{as_deep}
use Rattle.inlinespec.proofs.ReadingBalanced.{reading_paired}
use Rattle.mdinline.specs.declared.limits.LimitedSink.{LimitedSink}
use Rattle.mdinline.specs.held.LimitedSinks.{TakesWithin}

text_deep : (entities : EntityTable) (table : Table) (text : List ℕ) → nest (inl entities table text) ≡ most_open 0 (events_of (reading entities table text))
unfolding inl
text_deep entities table text = as_deep (events_of (reading entities table text)) (reading_paired entities table text)

module _ {S : Type 0} (takes : S → List Event → S → Type 0) (entities : EntityTable) (table : Table) (text : List ℕ) (start new : LimitedSink S)
    (nothing : start.depth ≡ 0) (taken : TakesWithin takes start (events_of (reading entities table text)) new) where
  most : nest (inl entities table text) ≡ most_open start.depth (events_of (reading entities table text))
  most = subst (λ n. nest (inl entities table text) ≡ most_open n (events_of (reading entities table text))) (sym nothing) (text_deep entities table text)

  pub read_within : new.is_too_deep ≡ false → (nest (inl entities table text) ≤ start.limit) × takes start.sink (events_of (reading entities table text)) new.sink
  read_within fits = let all = taken.fits fits in (subst (λ n. n ≤ start.limit) (sym most) all.within, all.taken)

  pub read_too_deep : start.is_too_deep ≡ false → new.is_too_deep ≡ true → start.limit < nest (inl entities table text)
  read_too_deep fits deep = subst (λ n. start.limit < n) (sym most) (taken.too_deep fits deep)
