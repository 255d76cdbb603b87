-- The inline texts of a list that goes on in another one: those of the items in front, and those of the items that both have.
use Rattle.std.proofs.Common.{true, ◌≡◌, ℕ, suc, ◌-◌, ◌<◌, ◌≤◌, List, [], ◌∷◌, ◌++◌, length, map, take, drop, refl, sym, ◌∙◌, ap, subst, arith}
use Rattle.std.proofs.lemmas.List.{length-append, map-append, take-append-drop}
use Rattle.std.proofs.lemmas.Option.{unwrap_or-slice_get}
use Rattle.std.proofs.Math.Seq.{drop-append_seam, drop-cons}
use Rattle.mdtext.specs.EntityTable.{EntityTable}
use Rattle.blockspec.specs.BlockLine.{BlockLine, document_line}
use Rattle.blockspec.specs.BlockUnits.{found_units, groups, units}
use Rattle.blockspec.specs.Lists.{Group, nodes_of}
use Rattle.blockspec.specs.Meetings.{joins_list}
use Rattle.blockspec.specs.NodeTree.{texts_in}
use Rattle.blockspec.specs.UnitBegin.{shift_found, units_of}
use Rattle.blockspec.specs.UnitTree.{FoundUnit}
use Rattle.blockspec.proofs.BeginLaws.{begins_in}
use Rattle.blockspec.proofs.DocumentLaws.{document_units, map_length}
use Rattle.blockspec.proofs.UnitReaderLaws.{IsOne}
use Rattle.blockspec.specs.ItemMarks.{ItemMark, list_marks}
use Rattle.blockspec.proofs.MarkedLines.{MarkedAt, marked_at}
use Rattle.blockspec.proofs.UnitsMeet.{DocumentMeets, document_meets_inside}
use Rattle.mdblock.specs.FoundLists.{FoundList, StandsForUnit, found_unit}
use Rattle.mdblock.specs.Spliced.{mark_at, no_mark}

-- ---- lists of units

last_same : (us vs : List FoundUnit) (u v : FoundUnit) → us ++ u ∷ [] ≡ vs ++ v ∷ [] → (us ≡ vs) × (u ≡ v)
last_same [] [] u v h = (refl, cc)
last_same [] (w ∷ vs) u v h =
    let size = ap (λ z. length z) h in
    let both = length-append vs (v ∷ []) in
    absurd (omega (arith, size, both))
last_same (t ∷ us) [] u v h =
    let size = ap (λ z. length z) h in
    let both = length-append us (u ∷ []) in
    absurd (omega (arith, size, both))
last_same (t ∷ us) (w ∷ vs) u v h =
    let first : t ≡ w = cc in
    let rest : us ++ u ∷ [] ≡ vs ++ v ∷ [] = cc in
    let both = last_same us vs u v rest in
    (ap (λ z. z ∷ us) first ∙ ap (λ z. w ∷ z) both.0, both.1)

-- a list of one member in two parts with one between
one_between : (us : List FoundUnit) (u v : FoundUnit) (vs : List FoundUnit) → us ++ u ∷ vs ≡ v ∷ [] → (us ≡ []) × (u ≡ v) × (vs ≡ [])
one_between [] u v [] h = (refl, cc, refl)
one_between [] u v (w ∷ vs) h = absurd (let size = ap (λ z. length z) h in omega (arith, size))
one_between (t ∷ us) u v vs h = let size = ap (λ z. length z) h in let both = length-append us (u ∷ vs) in absurd (omega (arith, size, both))

none_moved : (n : ℕ) (vs : List FoundUnit) → map (shift_found n) vs ≡ [] → vs ≡ []
none_moved n [] h = refl
none_moved n (v ∷ vs) h = absurd (let size = ap (λ z. length z) h in omega (arith, size))

-- ---- what stands in front of an item

-- the texts of the one unit of some lines are all that they give
one_gives : (gs : List Group) (n : ℕ) (v : FoundUnit) → found_units gs n ≡ v ∷ [] → v.unit.texts ≡ texts_in (nodes_of gs)
unfolding found_units nodes_of
one_gives [] n v h = absurd (let size = ap (λ z. length z) h in omega (arith, size))
one_gives (g ∷ []) n v h = ap (λ us. flat_texts us) (sym h)
  where
    flat_texts : List FoundUnit → List (List ℕ)
    flat_texts [] = []
    flat_texts (u ∷ us) = u.unit.texts
one_gives (g ∷ g' ∷ gs) n v h = absurd (let size = ap (λ z. length z) h in omega (arith, size))

mark_taken : (marks : List ItemMark) (k : ℕ) → k < length marks → marks ≡ take k marks ++ mark_at marks k ∷ drop (suc k) marks
mark_taken marks k below =
    sym (take-append-drop k marks)
    ∙ ap (λ z. take k marks ++ z) (drop-cons marks k no_mark below ∙ ap (λ z. z ∷ drop (suc k) marks) (sym (unwrap_or-slice_get marks k no_mark)))

-- A list that is parted before an item: the lines in front of it give one unit, with as many texts as the item's mark says.
pub record PartsAt (e : EntityTable) (f : FoundList) (k : ℕ) (zs : List (List ℕ)) (l : List ℕ) (ys : List (List ℕ)) : Type 0 where
  pub last : FoundUnit
  pub head : FoundUnit
  pub front : units e zs ≡ last ∷ []
  pub behind : units e (l ∷ ys) ≡ head ∷ []
  pub texts : f.unit.texts ≡ last.unit.texts ++ head.unit.texts
  pub before : (mark_at f.marks k).texts ≡ length last.unit.texts

pub parts_at : (e : EntityTable) (f : FoundList) (k : ℕ) (zs : List (List ℕ)) (l : List ℕ) (ys : List (List ℕ)) → StandsForUnit e f (zs ++ l ∷ ys) → k < length f.marks → (mark_at f.marks k).line ≡ length zs
    → PartsAt e f k zs l ys
unfolding StandsForUnit
parts_at e f k zs l ys stands below line = parted
  where
    xs : List BlockLine
    xs = map document_line zs

    is : map document_line (zs ++ l ∷ ys) ≡ xs ++ document_line l ∷ map document_line ys
    is = map-append document_line zs (l ∷ ys)

    u : FoundUnit
    u = record { begin = 0; lines = f.lines; unit = f.unit }

    at : MarkedAt e xs (document_line l) (map document_line ys) (take k f.marks) (mark_at f.marks k)
    at =
        marked_at e xs (document_line l) (map document_line ys) (take k f.marks) (mark_at f.marks k) (drop (suc k) f.marks)
        (subst (λ z. IsOne (begins_in (units_of e z))) is (subst (λ us. IsOne (begins_in us)) (sym stands.0 ∙ document_units e (zs ++ l ∷ ys)) refl))
        (ap (list_marks e) (sym is) ∙ sym stands.1 ∙ mark_taken f.marks k below)
        (line ∙ sym (map_length document_line zs))

    meets : DocumentMeets e zs l ys
    meets = document_meets_inside e zs l ys at.joins

    one : (meets.us ≡ []) × (meets.whole ≡ u) × (map (shift_found (length zs)) meets.vs ≡ [])
    one = one_between meets.us meets.whole u (map (shift_found (length zs)) meets.vs) (sym meets.both ∙ stands.0)

    front : units e zs ≡ meets.last ∷ []
    front = meets.before ∙ ap (λ us. us ++ meets.last ∷ []) one.0

    parted : PartsAt e f k zs l ys
    parted = record {
      last = meets.last;
      head = meets.head;
      front = front;
      behind = meets.alone ∙ ap (λ vs. meets.head ∷ vs) (none_moved (length zs) meets.vs one.2);
      texts = ap (λ (v : FoundUnit). v.unit.texts) (sym one.1) ∙ meets.texts;
      before = ap (λ (m : ItemMark). m.texts) (sym at.is) ∙ ap (λ z. length z) (sym (one_gives (groups e xs) (length zs) meets.last front));
    }

-- ---- both lists

pub record TextsJoined (e : EntityTable) (xs : List (List ℕ)) (handed_out : List FoundUnit) (list : FoundList) (f : FoundList) (k : ℕ) : Type 0 where
  pub last : FoundUnit
  pub head : FoundUnit
  pub front : units e xs ≡ handed_out ++ last ∷ []
  pub at : length list.unit.texts - (length f.unit.texts - (mark_at f.marks k).texts) ≡ length last.unit.texts
  pub mine : list.unit.texts ≡ last.unit.texts ++ head.unit.texts
  pub from : (mark_at f.marks k).texts ≤ length f.unit.texts
  pub kept : drop (length last.unit.texts) list.unit.texts ≡ drop (mark_at f.marks k).texts f.unit.texts

pub texts_joined : (e : EntityTable) (xs : List (List ℕ)) (l : List ℕ) (zs ys : List (List ℕ)) (handed_out : List FoundUnit) (list f : FoundList) (k : ℕ)
    → joins_list (map document_line xs) (document_line l) ≡ true → units e (xs ++ l ∷ ys) ≡ handed_out ++ found_unit list ∷ []
    → StandsForUnit e f (zs ++ l ∷ ys) → k < length f.marks → (mark_at f.marks k).line ≡ length zs → TextsJoined e xs handed_out list f k
texts_joined e xs l zs ys handed_out list f k joined all stands below line =
    let old = parts_at e f k zs l ys stands below line in
    let new = document_meets_inside e xs l ys joined in
    let alone : (new.head ≡ old.head) × (new.vs ≡ []) = by new.head new.vs old.head (sym new.alone ∙ old.behind) in
    let none : map (shift_found (length xs)) new.vs ≡ [] = ap (map (shift_found (length xs))) alone.1 in
    let both = last_same new.us handed_out new.whole (found_unit list) (ap (λ vs. new.us ++ new.whole ∷ vs) (sym none) ∙ sym new.both ∙ all) in
    let mine : list.unit.texts ≡ new.last.unit.texts ++ old.head.unit.texts =
    ap (λ (v : FoundUnit). v.unit.texts) (sym both.1) ∙ new.texts ∙ ap (λ (v : FoundUnit). new.last.unit.texts ++ v.unit.texts) alone.0 in
    let size = ap (λ z. length z) mine ∙ length-append new.last.unit.texts old.head.unit.texts in
    let olds = ap (λ z. length z) old.texts ∙ length-append old.last.unit.texts old.head.unit.texts in
    let before = old.before in
    record {
      last = new.last;
      head = old.head;
      front = new.before ∙ ap (λ us. us ++ new.last ∷ []) both.0;
      at = omega (arith, size, olds, before);
      mine = mine;
      from = omega (arith, olds, before);
      kept = ap (drop (length new.last.unit.texts)) mine ∙ drop-append_seam new.last.unit.texts old.head.unit.texts
          ∙ sym (ap (λ n. drop n f.unit.texts) before ∙ ap (drop (length old.last.unit.texts)) old.texts ∙ drop-append_seam old.last.unit.texts old.head.unit.texts);
    }
  where
    by : (h : FoundUnit) (vs : List FoundUnit) (o : FoundUnit) → h ∷ vs ≡ o ∷ [] → (h ≡ o) × (vs ≡ [])
    by h [] o is = (cc, refl)
    by h (v ∷ vs) o is = absurd (let size = ap (λ z. length z) is in omega (arith, size))
