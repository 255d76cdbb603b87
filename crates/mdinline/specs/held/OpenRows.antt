-- The rows of the spans that are open, which lie in one row, that of the innermost last. The frames are told from the innermost on.
use Rattle.std.specs.Prelude.{◌≡◌, ◌<◌, ◌≤◌, ℕ, false, List, [], ◌∷◌, ◌++◌, drop, length, map, take}
use Rattle.std.specs.Coded.{×_prop, Unit-prop, le_prop}
use Rattle.inlinespec.specs.InlineEvents.{InlineSpan, LinkTo, ImageOf, Event, Enter, inline_events, tree_events, written}
use Rattle.inlinespec.specs.InlineTree as tree
use Rattle.inlinespec.specs.InlineTree.{Inlines, inline, inlines_of, text}
use Rattle.inlinespec.specs.JoinedTexts.{AreJoined, IsApart, IsJoinedInside, begins_with_text}
use Rattle.inlinespec.specs.LabelMap.{target_of}
use Rattle.mdinline.specs.TreeView.{inline_view, inlines_view}
use Rattle.mdinline.specs.SpanKinds.{span_of}
use Rattle.mdinline.specs.declared.inlines.Inline.{Inline}
use Rattle.mdinline.specs.declared.trees.Frame.{Frame}
use Rattle.mdinline.specs.declared.trees.OpenSpan.{OpenSpan}
use Rattle.mdinline.specs.declared.trees.OpenSpan.TheVariants.{Kind, Link, Image}

abbrev pub open_span : OpenSpan → InlineSpan
open_span (Kind kind) = span_of kind
open_span (Link target) = LinkTo (target_of target)
open_span (Image target) = ImageOf (target_of target)

-- the events of an inline
abbrev pub made_events : Inline → List Event
made_events i = inline_events (inline_view i)

abbrev pub row_events : List Inline → List Event
row_events is = tree_events (inlines_view is)

-- No span begins before the one around it, and the innermost begins within a row of this length.
abbrev pub AreNested : List Frame → ℕ → Type 0
AreNested [] n = Unit {0}
AreNested (f ∷ fs) n = (f.begin ≤ n) × AreNested fs f.begin

pub nested_prop : (fs : List Frame) (n : ℕ) → IsProp (AreNested fs n)
nested_prop [] n = Unit-prop
nested_prop (f ∷ fs) n = ×_prop le_prop (nested_prop fs f.begin)

-- what stands in the innermost open span
abbrev pub innermost : List Frame → List Inline → List Inline
innermost [] row = row
innermost (f ∷ fs) row = drop f.begin row

-- the events before that
abbrev pub spread : List Frame → List Inline → List Event
spread [] row = []
spread (f ∷ fs) row = spread fs (take f.begin row) ++ row_events (innermost fs (take f.begin row)) ++ Enter (open_span f.span) ∷ []

-- in the rows before the spans that are open texts are joined
abbrev pub AreOuterJoined : List Frame → List Inline → Type 0
AreOuterJoined [] row = Unit {0}
AreOuterJoined (f ∷ fs) row = AreJoined (inlines_view (innermost fs (take f.begin row))) × AreOuterJoined fs (take f.begin row)

-- An inline that is no text, and in which texts are joined: a text may stand on either side of it.
pub record IsNoText (i : tree.Inline) : Type 0 where
  pub apart : (after : Inlines) → IsApart i after
  pub front : (after : Inlines) → begins_with_text (inline i after) ≡ false
  pub inside : IsJoinedInside i

-- a row in which texts are joined, also with a text behind it
pub record IsOpenRow (is : List Inline) : Type 0 where
  pub joined : AreJoined (inlines_view is)
  pub with_text : (s : List ℕ) → 0 < length s → AreJoined (inlines_of (map inline_view is ++ text s ∷ []))

-- what a text is in a row, none where it is empty: it may stand behind any row that is open
pub record IsTextRow (s : List ℕ) (ts : List Inline) : Type 0 where
  pub events : row_events ts ≡ written s
  pub joined : (is : List Inline) → IsOpenRow is → AreJoined (inlines_view (is ++ ts))

-- the second is the first with this text behind it
pub record EndsWithText (row : List Inline) (s : List ℕ) (next : List Inline) : Type 0 where
  pub tail : List Inline
  pub row_is : next ≡ row ++ tail
  pub text : IsTextRow s tail

-- all rows have their texts joined
pub record AreJoinedRows (fs : List Frame) (row : List Inline) : Type 0 where
  pub before : AreOuterJoined fs row
  pub last : AreJoined (inlines_view (innermost fs row))

-- the same, also with a text behind the innermost
pub record AreOpenRows (fs : List Frame) (row : List Inline) : Type 0 where
  pub before : AreOuterJoined fs row
  pub last : IsOpenRow (innermost fs row)
