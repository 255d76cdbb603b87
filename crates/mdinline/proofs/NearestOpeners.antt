-- The nearest unused opener, and whether a link stands behind it.
use Rattle.std.proofs.Common.{◌≡◌, ℕ, ◌+◌, ◌<◌, ◌≤◌, Bool, true, false, not, nat_le, min, ◌||◌, List, [], ◌∷◌, ◌++◌, length, length-append, Option, Some, None, refl, ap, sym, ◌∙◌, subst, arith}
use Rattle.std.proofs.lemmas.Bool.Decides.{nat_tests}
use Rattle.inlinespec.specs.InlineEvents.{Event}
use Rattle.inlinespec.specs.Pieces.{Piece, Made, Run, Opening}
use Rattle.inlinespec.specs.Links.{Opened, opened_with, nearest_opener, holds_link, is_live}
use Rattle.inlinespec.specs.TextReading.{spent}
use Rattle.mdinline.specs.held.UnusedOpeners.{openers, before_link}

-- openers before a link are no more than all
within : (ps : List Piece) → before_link ps ≤ length (openers ps)
within [] = omega arith
within (Made true es ∷ ps) = omega arith
within (Made false es ∷ ps) = within ps
within (Run r ∷ ps) = within ps
within (Opening image begin ∷ ps) = omega (arith, within ps, length-append (openers ps) ((image, begin) ∷ []))

-- what the nearest opener is, by the openers: which one it is, and how many stand before a link where it is dead or alive
pub record IsNearest (ps inside : List Piece) (o : Opened) : Type 0 where
  pub last : openers ps ≡ openers o.below ++ (o.image, o.begin) ∷ []
  pub dead : holds_link o.inside ≡ (holds_link inside || not (nat_le (before_link ps) (length (openers o.below))))
  pub left : min (before_link ps) (length (openers o.below)) ≡ before_link (spent ps)
  pub rest : openers (spent ps) ≡ openers o.below
  pub under : before_link ps ≤ length (openers o.below) → before_link ps ≡ before_link o.below

abbrev pub IsOpenedBy : List Piece → List Piece → Option Opened → Type 0
IsOpenedBy ps inside None = openers ps ≡ []
IsOpenedBy ps inside (Some o) = IsNearest ps inside o

less : (m n : ℕ) → m ≤ n → nat_le m n ≡ true
less m n le = grind (arith, nat_tests, le)

more : (m n : ℕ) → n < m → nat_le m n ≡ false
more m n lt = grind (arith, nat_tests, lt)

or_false : (a : Bool) → a ≡ (a || false)
or_false true = refl
or_false false = refl

or_true : (a : Bool) → true ≡ (a || true)
or_true true = refl
or_true false = refl

at_opener : (image : Bool) (begin : ℕ) (below inside : List Piece) →
    IsNearest (Opening image begin ∷ below) inside (record { image = image; begin = begin; inside = inside; below = below })
at_opener image begin below inside =
    let le = within below in
    record {
      last = refl;
      dead = or_false (holds_link inside) ∙ ap (λ b. holds_link inside || not b) (sym (less (before_link below) (length (openers below)) le));
      left = (let e : min (before_link below) (length (openers below)) ≡ before_link below = omega (arith, le) in e);
      rest = refl;
      under = λ _. refl;
    }

-- a piece that is no opener moves to the inside
module _ (p : Piece) (below inside : List Piece) where
  past_plain : (o : Opened) → openers (p ∷ below) ≡ openers below → before_link (p ∷ below) ≡ before_link below → holds_link (p ∷ inside) ≡ holds_link inside →
      before_link (spent (p ∷ below)) ≡ before_link (spent below) → openers (spent (p ∷ below)) ≡ openers (spent below) → IsNearest below (p ∷ inside) o → IsNearest (p ∷ below) inside o
  past_plain o same links inner after kept h = record {
    last = same ∙ h.last;
    dead = h.dead ∙ ap (λ b. b || not (nat_le (before_link below) (length (openers o.below)))) inner ∙ ap (λ n. holds_link inside || not (nat_le n (length (openers o.below)))) (sym links);
    left = ap (λ n. min n (length (openers o.below))) links ∙ h.left ∙ sym after;
    rest = kept ∙ h.rest;
    under = λ few. links ∙ h.under (subst (λ n. n ≤ length (openers o.below)) links few);
  }

past_link : (es : List Event) (below inside : List Piece) (o : Opened) → IsNearest below (Made true es ∷ inside) o → IsNearest (Made true es ∷ below) inside o
past_link es below inside o h =
    let long : length (openers below) ≡ length (openers o.below) + 1 = ap (λ xs. length xs) h.last ∙ length-append (openers o.below) ((o.image, o.begin) ∷ []) in
    let kept : length (openers (spent below)) ≡ length (openers o.below) = ap (λ xs. length xs) h.rest in
    record {
      last = h.last;
      dead = h.dead ∙ or_true (holds_link inside) ∙ ap (λ b. holds_link inside || not b) (sym (more (length (openers below)) (length (openers o.below)) (omega (arith, long))));
      left = (let e : min (length (openers below)) (length (openers o.below)) ≡ length (openers (spent below)) = omega (arith, long, kept) in e);
      rest = h.rest;
      under = λ few. absurd (omega (arith, long, few));
    }

moved : (p : Piece) (below inside : List Piece) (r : Option Opened) → ((o : Opened) → IsNearest below (p ∷ inside) o → IsNearest (p ∷ below) inside o) → openers (p ∷ below) ≡ openers below →
    IsOpenedBy below (p ∷ inside) r → IsOpenedBy (p ∷ below) inside r
moved p below inside None step same h = same ∙ h
moved p below inside (Some o) step same h = step o h

opened : (ps inside : List Piece) → IsOpenedBy ps inside (opened_with inside ps)
opened [] inside = refl
opened (Opening image begin ∷ below) inside = at_opener image begin below inside
opened (Made true es ∷ below) inside = moved (Made true es) below inside (opened_with (Made true es ∷ inside) below) (past_link es below inside) refl (opened below (Made true es ∷ inside))
opened (Made false es ∷ below) inside =
    moved (Made false es) below inside (opened_with (Made false es ∷ inside) below) (λ o. past_plain (Made false es) below inside o refl refl refl refl refl) refl (opened below (Made false es ∷ inside))
opened (Run r ∷ below) inside =
    moved (Run r) below inside (opened_with (Run r ∷ inside) below) (λ o. past_plain (Run r) below inside o refl refl refl refl refl) refl (opened below (Run r ∷ inside))

-- the nearest opener of pieces
pub nearest : (ps : List Piece) (o : Opened) → nearest_opener ps ≡ Some o → IsNearest ps [] o
nearest ps o e = subst (IsOpenedBy ps []) e (opened ps [])

pub without_opener : (ps : List Piece) → nearest_opener ps ≡ None → openers ps ≡ []
without_opener ps e = subst (IsOpenedBy ps []) e (opened ps [])

-- if there are openers, there is a nearest one
pub has_nearest : (ps : List Piece) (front : List (Bool × ℕ)) (x : Bool × ℕ) → openers ps ≡ front ++ x ∷ [] →
    (o : Opened) × (nearest_opener ps ≡ Some o) × IsNearest ps [] o
has_nearest ps front x e = by (nearest_opener ps) refl
  where
    by : (r : Option Opened) → nearest_opener ps ≡ r → (o : Opened) × (nearest_opener ps ≡ Some o) × IsNearest ps [] o
    by None is = (let none : length (openers ps) ≡ 0 = ap (λ xs. length xs) (without_opener ps is) in let some : length (openers ps) ≡ length front + 1 = ap (λ xs. length xs) e ∙ length-append front (x ∷ []) in absurd (omega (arith, none, some)))
    by (Some o) is = (o, is, nearest ps o is)

-- without one there is none
pub no_nearest : (ps : List Piece) → openers ps ≡ [] → nearest_opener ps ≡ None
no_nearest ps e = by (nearest_opener ps) refl
  where
    by : (r : Option Opened) → nearest_opener ps ≡ r → r ≡ None
    by None is = refl
    by (Some o) is = (let last = (nearest ps o is).last in let some : length (openers ps) ≡ length (openers o.below) + 1 = ap (λ xs. length xs) last ∙ length-append (openers o.below) ((o.image, o.begin) ∷ []) in let none : length (openers ps) ≡ 0 = ap (λ xs. length xs) e in absurd (omega (arith, none, some)))

-- and nothing is spent
pub nothing_spent : (ps : List Piece) → openers ps ≡ [] → spent ps ≡ ps
nothing_spent [] e = refl
nothing_spent (Made h es ∷ ps) e = ap (λ qs. Made h es ∷ qs) (nothing_spent ps (made_has h es ps e))
  where
    made_has : (h : Bool) (es : List Event) (ps : List Piece) → openers (Made h es ∷ ps) ≡ [] → openers ps ≡ []
    made_has true es ps e = e
    made_has false es ps e = e
nothing_spent (Run r ∷ ps) e = ap (λ qs. Run r ∷ qs) (nothing_spent ps e)
nothing_spent (Opening image begin ∷ ps) e = (let some : length (openers ps ++ (image, begin) ∷ []) ≡ 0 = ap (λ xs. length xs) e in absurd (omega (arith, some, length-append (openers ps) ((image, begin) ∷ []))))

-- whether the nearest one is alive
pub alive : (ps : List Piece) (o : Opened) → IsNearest ps [] o → is_live o ≡ (o.image || nat_le (before_link ps) (length (openers o.below)))
alive ps o h = ap (λ b. o.image || not b) h.dead ∙ by (nat_le (before_link ps) (length (openers o.below)))
  where
    by : (t : Bool) → (o.image || not (false || not t)) ≡ (o.image || t)
    by true = refl
    by false = refl

-- an image in which a link lies, or none
pub over_image : (ps : List Piece) (o : Opened) (es : List Event) → IsNearest ps [] o → before_link (spent ps) ≡ before_link (Made (holds_link o.inside) es ∷ o.below)
over_image ps o es h = by (nat_le (before_link ps) (length (openers o.below))) refl
  where
    by : (t : Bool) → nat_le (before_link ps) (length (openers o.below)) ≡ t → before_link (spent ps) ≡ before_link (Made (holds_link o.inside) es ∷ o.below)
    by true e =
        let few : before_link ps ≤ length (openers o.below) = grind (arith, nat_tests, e) in
        let same = h.under few in
        let left = h.left in
        (let f : before_link (spent ps) ≡ before_link o.below = omega (arith, few, same, left) in f)
        ∙ ap (λ b. before_link (Made b es ∷ o.below)) (sym (h.dead ∙ ap (λ b. false || not b) e))
    by false e =
        let many : length (openers o.below) < before_link ps = grind (arith, nat_tests, e) in
        let left = h.left in
        (let f : before_link (spent ps) ≡ length (openers o.below) = omega (arith, many, left) in f)
        ∙ ap (λ b. before_link (Made b es ∷ o.below)) (sym (h.dead ∙ ap (λ b. false || not b) e))
