-- A tree that is built from left to right, as the events so far (CommonMark 6).
use Rattle.std.specs.Prelude.{◌≡◌, ℕ, zero, suc, List, [], ◌∷◌, ◌++◌, length, reverse, string_bytes}
use Rattle.inlinespec.specs.InlineEvents.{Event, Enter, Leave, written}
use Rattle.inlinespec.specs.SpanEnds.{open_after}
use Rattle.mdinline.specs.held.OpenRows.{AreOpenRows, innermost, row_events, spread}
use Rattle.mdinline.specs.declared.trees.TreeBuilder.{TreeBuilder}

-- the events so far
abbrev pub built : TreeBuilder → List Event
built b = spread (reverse b.frames.items) b.row.items ++ row_events (innermost (reverse b.frames.items) b.row.items) ++ written (string_bytes b.text)

-- Where so many spans are open, no more end among these events than are open.
abbrev pub IsOpenFor : ℕ → List Event → Type 0
IsOpenFor n [] = Unit {0}
IsOpenFor n (Enter span ∷ es) = IsOpenFor (suc n) es
IsOpenFor zero (Leave ∷ es) = ⊥
IsOpenFor (suc n) (Leave ∷ es) = IsOpenFor n es
IsOpenFor n (e ∷ es) = IsOpenFor n es

-- What is built so far has its texts joined.
abbrev pub IsJoined : TreeBuilder → Type 0
IsJoined b = AreOpenRows (reverse b.frames.items) b.row.items

pub record IsFurther (es : List Event) (old new : TreeBuilder) : Type 0 where
  pub events : built new ≡ built old ++ es
  pub spans : length new.frames.items ≡ open_after (length old.frames.items) es
  pub joined : IsJoined old → IsJoined new

-- a tree after these events, where no more spans end than are open
abbrev pub TreeTakes : TreeBuilder → List Event → TreeBuilder → Type 0
TreeTakes old es new = IsOpenFor (length old.frames.items) es → IsFurther es old new
