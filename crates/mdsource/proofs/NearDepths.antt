-- The first line of a container too many of an edited text, where reading stops inside a list: the lines that were read tell it.
use Rattle.std.proofs.Common.{◌≡◌, ℕ, suc, ◌+◌, ◌<◌, inl, inr, true, List, [], ◌∷◌, ◌++◌, length, map, take, drop, get_or, Option, Some, None, refl, sym, ◌∙◌, ap, subst, arith}
use Rattle.std.specs.Prelude.{Contains}
use Rattle.std.specs.Option.{option_or}
use Rattle.std.proofs.lemmas.List.{length-take-le, take-append-drop, take-take, take_all, take_more}
use Rattle.std.proofs.lemmas.List.Elements.{All-contains}
use Rattle.std.proofs.Math.Seq.{drop-cons}
use Rattle.mdtext.specs.EntityTable.{EntityTable}
use Rattle.blockspec.specs.BlockLine.{document_line}
use Rattle.blockspec.specs.Meetings.{joins_list}
use Rattle.blockspec.specs.Nesting.{first_too_deep}
use Rattle.blockspec.proofs.NestingLaws.{moved_on}
use Rattle.blockspec.specs.Joins.{joins}
use Rattle.blockspec.proofs.JoinLines.{document_joins_only}
use Rattle.mdsource.specs.Stretch.{Places, from_line, old_line}
use Rattle.mdsource.proofs.Depths.{deep_cut, neither}
use Rattle.mdsource.proofs.Splices.{IsEdit, from_above, from_cut}
use Rattle.mdsource.proofs.StretchEnds.{fits_before}
use Rattle.mdsource.specs.Stops.{Stops, near_line}
use Rattle.mdsource.proofs.JoinDepths.{document_deep_inside}
use Rattle.mdsource.proofs.NearLines.{IsStop, NearBehind, near_behind, same_from}
use Rattle.mdsource.proofs.PartedLists.{joins_within}

or_none : (o : Option ℕ) → option_or o None ≡ o
or_none None = refl
or_none (Some n) = refl

-- ---- a text in two parts where a list may be parted

record AtJoin (lines : List (List ℕ)) (n : ℕ) : Type 0 where
  front : List (List ℕ)
  line : List ℕ
  later : List (List ℕ)
  whole : lines ≡ front ++ line ∷ later
  size : length front ≡ n
  fronts : take n lines ≡ front
  behinds : drop n lines ≡ line ∷ later
  next : take (n + 1) lines ≡ front ++ line ∷ []
  joined : joins_list (map document_line front) (document_line line) ≡ true

at_join : (e : EntityTable) (lines : List (List ℕ)) (n : ℕ) → Contains (joins e lines) n → AtJoin lines n
at_join e lines n w =
    let small = All-contains (λ j. j < length lines) (joins e lines) n (joins_within e lines) w in
    let size = length-take-le n lines (omega (arith, small)) in
    let one : suc n ≡ n + 1 = omega arith in
    let rest : drop n lines ≡ get_or lines n [] ∷ drop (n + 1) lines = drop-cons lines n [] small ∙ ap (λ k. get_or lines n [] ∷ drop k lines) one in
    let whole : lines ≡ take n lines ++ get_or lines n [] ∷ drop (n + 1) lines = sym (take-append-drop n lines) ∙ ap (λ z. take n lines ++ z) rest in
    record {
      front = take n lines;
      line = get_or lines n [];
      later = drop (n + 1) lines;
      whole = whole;
      size = size;
      fronts = refl;
      behinds = rest;
      next = take_more lines n [] small;
      joined = document_joins_only e (take n lines) (get_or lines n []) (drop (n + 1) lines)
          (subst (λ z. Contains (joins e z) (length (take n lines))) whole (subst (λ k. Contains (joins e lines) k) (sym size) w));
    }

-- The first line too deep is that of the lines before it, or else that of the lines from it on, so many lines further on.
pub deep_parted : (e : EntityTable) (limit : ℕ) (lines : List (List ℕ)) (n : ℕ) → Contains (joins e lines) n →
    first_too_deep limit lines ≡ option_or (first_too_deep limit (take n lines)) (moved_on n (first_too_deep limit (drop n lines)))
deep_parted e limit lines n w =
    let a = at_join e lines n w in
    ap (first_too_deep limit) a.whole
    ∙ document_deep_inside limit a.front a.line a.later a.joined
    ∙ ap (λ k. option_or (first_too_deep limit a.front) (moved_on k (first_too_deep limit (a.line ∷ a.later)))) a.size
    ∙ ap (λ z. option_or (first_too_deep limit z) (moved_on n (first_too_deep limit (a.line ∷ a.later)))) (sym a.fronts)
    ∙ ap (λ z. option_or (first_too_deep limit (take n lines)) (moved_on n (first_too_deep limit z))) (sym a.behinds)

-- Where no line from there on is too deep, the lines up to that one tell the first of all.
deep_up_to : (e : EntityTable) (limit : ℕ) (lines : List (List ℕ)) (n : ℕ) → Contains (joins e lines) n → first_too_deep limit (drop n lines) ≡ None →
    first_too_deep limit lines ≡ first_too_deep limit (take (n + 1) lines)
deep_up_to e limit lines n w none =
    let a = at_join e lines n w in
    let one : first_too_deep limit (a.line ∷ []) ≡ None = fits_before limit (a.line ∷ []) a.later (ap (first_too_deep limit) (sym a.behinds) ∙ none) in
    let front : first_too_deep limit (take (n + 1) lines) ≡ first_too_deep limit a.front =
    ap (first_too_deep limit) a.next
    ∙ document_deep_inside limit a.front a.line [] a.joined
    ∙ ap (λ z. option_or (first_too_deep limit a.front) (moved_on (length a.front) z)) one
    ∙ or_none (first_too_deep limit a.front) in
    deep_parted e limit lines n w
    ∙ ap (λ z. option_or (first_too_deep limit (take n lines)) (moved_on n z)) none
    ∙ or_none (first_too_deep limit (take n lines))
    ∙ ap (first_too_deep limit) a.fronts
    ∙ sym front

-- ---- an edit

-- Of any text with the same lines in front of the edit, the lines from where reading begins tell the first line too deep.
deep_from : (e : EntityTable) (limit : ℕ) (old new : List (List ℕ)) (p : Places) → IsEdit e old new p → first_too_deep limit old ≡ None → (text : List (List ℕ)) → take p.at text ≡ take p.at old →
    first_too_deep limit text ≡ moved_on (from_line p) (first_too_deep limit (drop (from_line p) text))
deep_from e limit old new p w fits text same =
    let from = from_line p in
    let above = from_above e old new p w in
    let short : take from text ≡ take from old = sym (take-take from p.at text above) ∙ ap (take from) same ∙ take-take from p.at old above in
    let front = (neither (first_too_deep limit (take from old)) from (first_too_deep limit (drop from old)) (sym (deep_cut e limit old from (from_cut e old new p w old refl)) ∙ fits)).0 in
    deep_cut e limit text from (from_cut e old new p w text same)
    ∙ ap (λ z. option_or z (moved_on from (first_too_deep limit (drop from text)))) (ap (first_too_deep limit) short ∙ front)

up_to_near : (e : EntityTable) (limit : ℕ) (old new : List (List ℕ)) (s : Stops) → IsStop e old new s → first_too_deep limit old ≡ None →
    (first_too_deep limit new ≡ first_too_deep limit (take (near_line s + 1) new)) × (take s.places.at (take (near_line s + 1) new) ≡ take s.places.at old)
up_to_near e limit old new s w fits = by (near_behind e old new s w)
  where
    p : Places
    p = s.places

    by : NearBehind e old new s → (first_too_deep limit new ≡ first_too_deep limit (take (near_line s + 1) new)) × (take p.at (take (near_line s + 1) new) ≡ take p.at old)
    by (inl h) =
        let all : take (near_line s + 1) new ≡ new = take_all (near_line s + 1) new (omega (arith, h)) in
        (ap (first_too_deep limit) (sym all), ap (take p.at) all ∙ w.edit_there.front)
    by (inr h) =
        let m = old_line p (near_line s) in
        let behind = h.0 in
        let was = (neither (first_too_deep limit (take m old)) m (first_too_deep limit (drop m old)) (sym (deep_parted e limit old m h.2) ∙ fits)).1 in
        let none : first_too_deep limit (drop (near_line s) new) ≡ None = ap (first_too_deep limit) (same_from e old new p w.edit_there (near_line s) behind) ∙ was in
        (deep_up_to e limit new (near_line s) h.1 none, take-take p.at (near_line s + 1) new (omega (arith, behind)) ∙ w.edit_there.front)

-- Where no line of the old text is too deep, the first of the new one is that of the lines from where reading begins up to the one at which it may stop inside a list, with that one.
pub near_deep : (e : EntityTable) (limit : ℕ) (old new : List (List ℕ)) (s : Stops) → IsStop e old new s → first_too_deep limit old ≡ None →
    first_too_deep limit new ≡ moved_on (from_line s.places) (first_too_deep limit (drop (from_line s.places) (take (near_line s + 1) new)))
near_deep e limit old new s w fits =
    let both = up_to_near e limit old new s w fits in
    both.0 ∙ deep_from e limit old new s.places w.edit_there fits (take (near_line s + 1) new) both.1
