-- What is held of the unused openers, as they are put on and taken.
use Rattle.std.proofs.Common.{false, not, subst, ◌≡◌, ℕ, Bool, true, nat_le, min, ◌||◌, List, [], ◌∷◌, ◌++◌, length, length-append, get_or, map, Some, None, refl, ap, sym, ◌∙◌, arith}
use Rattle.std.proofs.lemmas.List.{map-append, length-map, append_cancel_right}
use Rattle.std.proofs.Math.Seq.{get_or-append_seam}
use Rattle.inlinespec.specs.InlineEvents.{Event, within}
use Rattle.inlinespec.specs.LabelMap.{LinkTarget}
use Rattle.inlinespec.specs.Pieces.{Piece, Made, Opening}
use Rattle.inlinespec.specs.Emphasis.{settled}
use Rattle.inlinespec.specs.Links.{Opened, nearest_opener, holds_link, linked}
use Rattle.inlinespec.specs.TextReading.{spent}
use Rattle.inlinespec.specs.Images.{span_to}
use Rattle.mdinline.specs.held.UnusedOpeners.{openers, before_link, shown, AreOpenersOf, IsTaken}
use Rattle.mdinline.specs.declared.bracket_stack.Opening as held
use Rattle.mdinline.specs.declared.bracket_stack.BracketStack.{BracketStack}
use Rattle.mdinline.proofs.NearestOpeners.{IsNearest, has_nearest, nothing_spent, alive, no_nearest, nearest, over_image}

-- one more
pub put_on : (ps : List Piece) (old new : BracketStack) (o : held.Opening) → new.unused.items ≡ old.unused.items ++ o ∷ [] → new.before_link ≡ old.before_link →
    AreOpenersOf ps old → AreOpenersOf (Opening o.is_image o.begin ∷ ps) new
put_on ps old new o e same h = record {
  all = ap (map shown) e ∙ map-append shown old.unused.items (o ∷ []) ∙ ap (λ xs. xs ++ shown o ∷ []) h.all;
  links = same ∙ h.links;
}

-- all stand before a link that is made
pub link_made : (ps : List Piece) (es : List Event) (old new : BracketStack) → new.unused.items ≡ old.unused.items → new.before_link ≡ length old.unused.items →
    AreOpenersOf ps old → AreOpenersOf (Made true es ∷ ps) new
link_made ps es old new e is h = record {
  all = ap (map shown) e ∙ h.all;
  links = is ∙ sym (length-map old.unused.items shown) ∙ ap (λ xs. length xs) h.all;
}

last_of : (xs ys : List (Bool × ℕ)) (x y : Bool × ℕ) → xs ++ x ∷ [] ≡ ys ++ y ∷ [] → (xs ≡ ys) × (x ≡ y)
last_of xs ys x y e =
    let long : length (xs ++ x ∷ []) ≡ length (ys ++ y ∷ []) = ap (λ l. length l) e in
    let same : length xs ≡ length ys = omega (arith, long, length-append xs (x ∷ []), length-append ys (y ∷ [])) in
    let equal : x ≡ y = sym (get_or-append_seam xs x [] x) ∙ ap (λ l. get_or l (length xs) x) e ∙ ap (λ n. get_or (ys ++ y ∷ []) n x) same ∙ get_or-append_seam ys y [] x in
    (append_cancel_right xs ys (x ∷ []) (e ∙ ap (λ z. ys ++ z ∷ []) (sym equal)), equal)

-- the nearest one is taken, and its bracket is text or makes a link
module _ (ps : List Piece) (old new : BracketStack) (o : held.Opening) (live : Bool) (e : old.unused.items ≡ new.unused.items ++ o ∷ [])
    (is : live ≡ (o.is_image || nat_le old.before_link (length new.unused.items))) (few : new.before_link ≡ min old.before_link (length new.unused.items)) (h : AreOpenersOf ps old) where
  ends : openers ps ≡ map shown new.unused.items ++ shown o ∷ []
  ends = sym h.all ∙ ap (map shown) e ∙ map-append shown new.unused.items (o ∷ [])

  abbrev found : (q : Opened) × (nearest_opener ps ≡ Some q) × IsNearest ps [] q
  found = has_nearest ps (map shown new.unused.items) (shown o) ends

  abbrev q : Opened
  q = found.0

  both : (map shown new.unused.items ≡ openers q.below) × (shown o ≡ (q.image, q.begin))
  both = last_of (map shown new.unused.items) (openers q.below) (shown o) (q.image, q.begin) (sym ends ∙ found.2.last)

  long : length new.unused.items ≡ length (openers q.below)
  long = sym (length-map new.unused.items shown) ∙ ap (λ xs. length xs) both.0

  pub taken : (q : Opened) × IsTaken ps (o, live) q
  taken = (
    q,
    record {
      nearest = found.1;
      image = ap (λ (p : Bool × ℕ). p.0) both.1;
      begin = ap (λ (p : Bool × ℕ). p.1) both.1;
      live = is ∙ ap (λ b. b || nat_le old.before_link (length new.unused.items)) (ap (λ (p : Bool × ℕ). p.0) both.1)
          ∙ ap (λ n. q.image || nat_le n (length new.unused.items)) h.links ∙ ap (λ n. q.image || nat_le (before_link ps) n) long ∙ sym (alive ps q found.2);
    },
  )

  pub left : AreOpenersOf (spent ps) new
  left = record {
    all = both.0 ∙ sym found.2.rest;
    links = few ∙ ap (λ n. min n (length new.unused.items)) h.links ∙ ap (λ n. min (before_link ps) n) long ∙ found.2.left;
  }

no_items : (xs : List held.Opening) → length xs ≡ 0 → xs ≡ []
no_items [] e = refl
no_items (x ∷ xs) e = absurd (omega (arith, e))

-- where none is held, none is unused
module _ (ps : List Piece) (old new : BracketStack) (e : length old.unused.items ≡ 0) (f : length new.unused.items ≡ 0) (same : new.before_link ≡ old.before_link) (h : AreOpenersOf ps old) where
  all_used : openers ps ≡ []
  all_used = sym h.all ∙ ap (map shown) (no_items old.unused.items e)

  pub none_unused : nearest_opener ps ≡ None
  none_unused = no_nearest ps all_used

  pub none_left : AreOpenersOf (spent ps) new
  none_left = record {
    all = ap (map shown) (no_items new.unused.items f) ∙ sym (ap openers (nothing_spent ps all_used) ∙ all_used);
    links = same ∙ h.links ∙ ap before_link (sym (nothing_spent ps all_used));
  }

-- an image keeps what stands before the links in it; before a link stand all that are left
module _ (ps : List Piece) (o : Opened) (es : List Event) (openings : BracketStack) (e : nearest_opener ps ≡ Some o) where
  same_openers : (b : Bool) → openers (Made b es ∷ o.below) ≡ openers o.below
  same_openers true = refl
  same_openers false = refl

  image_over : AreOpenersOf (spent ps) openings → AreOpenersOf (Made (holds_link o.inside) es ∷ o.below) openings
  image_over h = record {
    all = h.all ∙ (nearest ps o e).rest ∙ sym (same_openers (holds_link o.inside));
    links = h.links ∙ over_image ps o es (nearest ps o e);
  }

  link_over : AreOpenersOf (Made true [] ∷ spent ps) openings → AreOpenersOf (Made true es ∷ o.below) openings
  link_over h = record {
    all = h.all ∙ (nearest ps o e).rest;
    links = h.links ∙ ap (λ xs. length xs) (nearest ps o e).rest;
  }

-- what is held after a link or an image was made
module _ (ps : List Piece) (bracket : held.Opening) (o : Opened) (t : LinkTarget) (openings : BracketStack) (taken : IsTaken ps (bracket, true) o) where
  made_of : Bool → List Piece
  made_of image = Made (not image || holds_link o.inside) (within (span_to image t) (settled o.inside)) ∷ o.below

  is_made : (image : Bool) → bracket.is_image ≡ image → linked t ps (nearest_opener ps) ≡ made_of image
  unfolding made_of
  is_made image e = ap (linked t ps) taken.nearest ∙ ap (λ b. Made (not b || holds_link o.inside) (within (span_to b t) (settled o.inside)) ∷ o.below) (sym taken.image ∙ e)

  pub image_made : bracket.is_image ≡ true → AreOpenersOf (spent ps) openings → AreOpenersOf (linked t ps (nearest_opener ps)) openings
  unfolding made_of
  image_made e h = subst (λ qs. AreOpenersOf qs openings) (sym (is_made true e)) (image_over ps o (within (span_to true t) (settled o.inside)) openings taken.nearest h)

  pub link_made_of : bracket.is_image ≡ false → AreOpenersOf (Made true [] ∷ spent ps) openings → AreOpenersOf (linked t ps (nearest_opener ps)) openings
  unfolding made_of
  link_made_of e h = subst (λ qs. AreOpenersOf qs openings) (sym (is_made false e)) (link_over ps o (within (span_to false t) (settled o.inside)) openings taken.nearest h)
