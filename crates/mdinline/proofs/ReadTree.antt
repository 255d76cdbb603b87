-- The tree that is built of a text.
use Rattle.std.proofs.Common.{◌≡◌, ℕ, zero, suc, List, [], ◌∷◌, ◌++◌, length, refl, ap, sym, subst, ◌∙◌, arith}
use Rattle.mdtext.specs.EntityTable.{EntityTable}
use Rattle.inlinespec.specs.InlineEvents.{Event, Byte, CodeSpan, RawHtml, SoftBreak, HardBreak, Enter, Leave, tree_of}
use Rattle.inlinespec.specs.LinkTails.{Table}
use Rattle.inlinespec.specs.SpanEnds.{EndSpans, open_after}
use Rattle.inlinespec.specs.TextReading.{reading}
use Rattle.inlinespec.specs.TextTree.{events_of, inl}
use Rattle.inlinespec.proofs.ReadingBalanced.{reading_paired}
use Rattle.mdinline.specs.declared.trees.Frame.{Frame}
use Rattle.mdinline.specs.declared.trees.TreeBuilder.{TreeBuilder}
use Rattle.mdinline.specs.held.TreeBuilding.{IsJoined, IsOpenFor, TreeTakes, built}

-- where all spans end, none ends that is not open, and none is left open
pairs_fit : (n : ℕ) (es : List Event) → EndSpans n es → IsOpenFor n es × (open_after n es ≡ 0)
pairs_fit n [] h = (tt, h)
pairs_fit n (Byte b ∷ es) h = pairs_fit n es h
pairs_fit n (CodeSpan s ∷ es) h = pairs_fit n es h
pairs_fit n (RawHtml s ∷ es) h = pairs_fit n es h
pairs_fit n (SoftBreak ∷ es) h = pairs_fit n es h
pairs_fit n (HardBreak ∷ es) h = pairs_fit n es h
pairs_fit n (Enter span ∷ es) h = pairs_fit (suc n) es h
pairs_fit zero (Leave ∷ es) h = absurd h
pairs_fit (suc n) (Leave ∷ es) h = pairs_fit n es h

none_open : (frames : List Frame) → length frames ≡ 0 → frames ≡ []
none_open [] h = refl
none_open (f ∷ frames) h = absurd (omega arith)

pub record IsTreeOf (entities : EntityTable) (table : Table) (text : List ℕ) (b : TreeBuilder) : Type 0 where
  pub closed : b.frames.items ≡ []
  pub joined : IsJoined b
  pub tree : tree_of (built b) ≡ inl entities table text

-- what took the events of a text, from nothing on, is its tree
pub tree_read : (entities : EntityTable) (table : Table) (text : List ℕ) (old new : TreeBuilder) → built old ≡ [] → old.frames.items ≡ [] → IsJoined old →
    TreeTakes old (events_of (reading entities table text)) new → IsTreeOf entities table text new
unfolding inl
tree_read entities table text old new nothing none joined takes =
    let es = events_of (reading entities table text) in
    let fit = pairs_fit 0 es (reading_paired entities table text) in
    let start : 0 ≡ length old.frames.items = ap length (sym none) in
    let further = takes (subst (λ n. IsOpenFor n es) start fit.0) in
    record {
      closed = none_open new.frames.items (further.spans ∙ ap (λ n. open_after n es) (sym start) ∙ fit.1);
      joined = further.joined joined;
      tree = ap tree_of (further.events ∙ ap (λ front. front ++ es) nothing);
    }
