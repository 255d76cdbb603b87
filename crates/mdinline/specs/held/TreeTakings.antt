-- A tree takes events one after the other.
use Rattle.std.proofs.Common.{◌≡◌, ℕ, zero, suc, ◌+◌, List, [], ◌∷◌, ◌++◌, length, refl, sym, ap, ◌∙◌, subst, arith, append_assoc, append-nil, Vec, Global}
use Rattle.inlinespec.specs.InlineEvents.{Event, InlineSpan, Byte, CodeSpan, RawHtml, SoftBreak, HardBreak, Enter, Leave}
use Rattle.inlinespec.specs.SpanEnds.{open_after}
use Rattle.mdinline.specs.held.OpenSpans.{open_more}
use Rattle.mdinline.specs.held.TreeBuilding.{IsJoined, IsOpenFor, TreeTakes, built}
use Rattle.mdinline.specs.declared.trees.Frame.{Frame}
use Rattle.mdinline.specs.declared.trees.TreeBuilder.{TreeBuilder}

pub tree_takes_none : (a : TreeBuilder) → TreeTakes a [] a
tree_takes_none a = λ h. record { events = sym (append-nil (built a)); spans = refl; joined = λ j. j }

fits : (n : ℕ) (es fs : List Event) → IsOpenFor n (es ++ fs) → IsOpenFor n es × IsOpenFor (open_after n es) fs
fits n [] fs h = (tt, h)
fits n (Byte b ∷ es) fs h = fits n es fs h
fits n (CodeSpan s ∷ es) fs h = fits n es fs h
fits n (RawHtml s ∷ es) fs h = fits n es fs h
fits n (SoftBreak ∷ es) fs h = fits n es fs h
fits n (HardBreak ∷ es) fs h = fits n es fs h
fits n (Enter span ∷ es) fs h = fits (suc n) es fs h
fits zero (Leave ∷ es) fs h = absurd h
fits (suc n) (Leave ∷ es) fs h = fits n es fs h

pub tree_takes_more : (a b c : TreeBuilder) (es fs : List Event) → TreeTakes a es b → TreeTakes b fs c → TreeTakes a (es ++ fs) c
tree_takes_more a b c es fs h k = λ fit.
    let n = length a.frames.items in
    let parts = fits n es fs fit in
    let one = h parts.0 in
    let two = k (subst (λ m. IsOpenFor m fs) (sym one.spans) parts.1) in
    record {
      events = two.events ∙ ap (λ xs. xs ++ fs) one.events ∙ append_assoc (built a) es fs;
      spans = two.spans ∙ ap (λ m. open_after m fs) one.spans ∙ sym (open_more n es fs);
      joined = λ j. two.joined (one.joined j);
    }

-- events that open and end nothing
pub takes_leaf : (a b : TreeBuilder) (es : List Event) → built b ≡ built a ++ es → b.frames ≡ a.frames → open_after (length a.frames.items) es ≡ length a.frames.items → (IsJoined a → IsJoined b) → TreeTakes a es b
takes_leaf a b es events frames same joined = λ fit. record { events = events; spans = ap (λ (v : Vec Frame Global). length v.items) frames ∙ sym same; joined = joined }

pub takes_enter : (a b : TreeBuilder) (span : InlineSpan) → built b ≡ built a ++ Enter span ∷ [] → length b.frames.items ≡ length a.frames.items + 1 → (IsJoined a → IsJoined b) → TreeTakes a (Enter span ∷ []) b
takes_enter a b span events spans joined = λ fit.
    record { events = events; spans = spans ∙ (let e : length a.frames.items + 1 ≡ suc (length a.frames.items) = omega arith in e); joined = joined }

pub takes_leave : (a b : TreeBuilder) → built b ≡ built a ++ Leave ∷ [] → length a.frames.items ≡ length b.frames.items + 1 → (IsJoined a → IsJoined b) → TreeTakes a (Leave ∷ []) b
takes_leave a b events spans joined = λ fit. record {
  events = events;
  joined = joined;
  spans = sym (ap (λ n. open_after n (Leave ∷ [])) (spans ∙ (let e : length b.frames.items + 1 ≡ suc (length b.frames.items) = omega arith in e)));
}

-- where no span is open, none ends
pub takes_nothing : (a b : TreeBuilder) → length a.frames.items ≡ 0 → TreeTakes a (Leave ∷ []) b
takes_nothing a b none = λ fit. absurd (subst (λ n. IsOpenFor n (Leave ∷ [])) none fit)
