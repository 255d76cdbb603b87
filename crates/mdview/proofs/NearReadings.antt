-- Where the reading of an edit stops inside a list: the held list goes on behind what was read.
use Rattle.std.proofs.Common.{◌≡◌, ℕ, ◌+◌, ◌-◌, ◌<◌, ◌≤◌, List, [], ◌∷◌, ◌++◌, None, length, map, take, drop, get_or, ap, ◌∙◌, sym, subst, arith, true}
use Rattle.std.specs.Prelude.{sum_by}
use Rattle.std.proofs.lemmas.List.Sums.{sum_by-append, sum_by-cons}
use Rattle.mdtext.specs.EntityTable.{EntityTable}
use Rattle.blockspec.specs.BlockLine.{document_line}
use Rattle.blockspec.specs.BlockUnits.{units}
use Rattle.blockspec.specs.Meetings.{joins_list}
use Rattle.blockspec.specs.Nesting.{first_too_deep}
use Rattle.blockspec.specs.UnitTree.{FoundUnit}
use Rattle.blockspec.proofs.NestingLaws.{moved_on}
use Rattle.mdblock.specs.FoundLists.{FoundList, StandsForUnit, found_unit}
use Rattle.mdblock.specs.held.Following.{Follows, ItemReading, MeetsIn}
use Rattle.mdblock.specs.held.Reads.{handed}
use Rattle.mdsource.specs.StoppedInside.{HoldsLine, IsStoppedIn}
use Rattle.mdsource.specs.Stops.{Stops, near_line}
use Rattle.mdsource.specs.UnitItems.{own_lines}
use Rattle.mdsource.proofs.NearDepths.{near_deep}
use Rattle.mdsource.proofs.NearLines.{IsStop}
use Rattle.mdsource.proofs.NearStretch.{joins_told, line_more, near_above, near_there}
use Rattle.mdsource.proofs.StoppedLists.{stopped_in}
use Rattle.mdsource.specs.Stretch.{Places, from_line, meeting_line, old_line, units_before, units_removed}
use Rattle.mdview.specs.HeldItems.{IsSpliced}
use Rattle.mdview.specs.HeldUnit.{texts_in}
use Rattle.mdblock.specs.Spliced.{mark_at}
use Rattle.mdview.proofs.FollowedLines.{gi_none_deep}
use Rattle.mdview.proofs.JoinedTexts.{texts_joined}

last_line : (xs : List (List ℕ)) (a b : List ℕ) → xs ++ a ∷ [] ≡ xs ++ b ∷ [] → a ≡ b
last_line [] a b h = cc
last_line (x ∷ xs) a b h = let rest : xs ++ a ∷ [] ≡ xs ++ b ∷ [] = cc in last_line xs a b rest

-- A unit that is held has the line of the old text, and its item k begins in it.
pub record HoldsItem (e : EntityTable) (old : List (List ℕ)) (line : ℕ) (before : List FoundUnit) (one : FoundUnit) (back : List FoundUnit) (f : FoundList) (k : ℕ) : Type 0 where
  pub holds : HoldsLine e old before one back line
  pub lines : f.lines ≡ one.lines
  pub stands : StandsForUnit e f (own_lines old one)
  pub within : k < length f.marks
  pub item : one.begin + (mark_at f.marks k).line ≡ line

-- What is read then.
pub record ReadInside (limit : ℕ) (e : EntityTable) (new : List (List ℕ)) (s : Stops) (before found : List FoundUnit) (f : FoundList) (k : ℕ) (list : FoundList) : Type 0 where
  pub next : length before + 1 ≡ units_before s.places + units_removed s.places
  pub meet : near_line s + (f.lines - (mark_at f.marks k).line) ≡ meeting_line s.places
  pub found_is : found ++ found_unit list ∷ [] ≡ units e (drop (from_line s.places) (take (meeting_line s.places) new))
  pub stands : StandsForUnit e list (drop list.begin (drop (from_line s.places) (take (meeting_line s.places) new)))
  pub fits : first_too_deep limit new ≡ None
  pub texts : sum_by (λ (one : FoundUnit). texts_in one.unit) found + (length list.unit.texts - (length f.unit.texts - (mark_at f.marks k).texts))
      ≡ sum_by (λ (one : FoundUnit). texts_in one.unit) (units e (drop (from_line s.places) (take (near_line s) new)))
  pub from : (mark_at f.marks k).texts ≤ length f.unit.texts
  pub kept : drop (length list.unit.texts - (length f.unit.texts - (mark_at f.marks k).texts)) list.unit.texts ≡ drop (mark_at f.marks k).texts f.unit.texts

module _ (limit : ℕ) (e : EntityTable) (old new : List (List ℕ)) (s : Stops) (w : IsStop e old new s) (small : near_line s < meeting_line s.places) (inside : meeting_line s.places ≤ length new)
    (before : List FoundUnit) (one : FoundUnit) (back : List FoundUnit) (f : FoundList) (k : ℕ) (h : HoldsItem e old (old_line s.places (near_line s)) before one back f k) where
  abbrev pub p : Places
  p = s.places

  abbrev pub near : ℕ
  near = near_line s

  abbrev pub mark : ℕ
  mark = (mark_at f.marks k).line

  abbrev pub stopped : IsStoppedIn e old new s before one
  stopped = stopped_in e old new s w small before one back h.holds

  abbrev pub xs : List (List ℕ)
  xs = drop (from_line p) (take near new)

  abbrev pub l : List ℕ
  l = stopped.line

  abbrev pub ys : List (List ℕ)
  ys = stopped.later

  abbrev pub own : List (List ℕ)
  own = own_lines old one

  abbrev pub zs : List (List ℕ)
  zs = take (old_line p near - one.begin) own

  below : near < length new
  below = omega (arith, small, inside)

  place : old_line p near - one.begin ≡ mark
  place = let item = h.item in omega (arith, item)

  olds : own ≡ zs ++ l ∷ ys
  olds = stopped.old_lines

  short : mark < f.lines
  short = let high = h.holds.high in let item = h.item in let lines = h.lines in omega (arith, high, item, lines)

  size : length zs ≡ mark
  size = stopped.old_front ∙ place

  news : xs ++ l ∷ ys ≡ drop (from_line p) (take (meeting_line p) new)
  news = sym stopped.stretch

  more : drop (from_line p) (take (near + 1) new) ≡ xs ++ l ∷ []
  more = stopped.read

  same : get_or new near [] ≡ l
  same = last_line xs (get_or new near []) l (sym (line_more new (from_line p) near [] (near_above e old new s w) below) ∙ more)

  meets : (reader : ItemReading) → Follows limit e reader (drop (from_line p) (take (near + 1) new)) → MeetsIn limit e reader f k xs l zs ys
  meets reader reads = (subst (Follows limit e reader) more reads, subst (StandsForUnit e f) olds h.stands, sym size)

  -- what holds where the item begins in the last line that was read
  pub met_inside : (reader : ItemReading) → Follows limit e reader (drop (from_line p) (take (near + 1) new)) → (P : Type 0)
      → ((limit : ℕ) (e : EntityTable) (xs : List (List ℕ)) (l : List ℕ) (zs ys : List (List ℕ)) → MeetsIn limit e reader f k xs l zs ys → P) → P
  met_inside reader reads P told = told limit e xs l zs ys (meets reader reads)

  joined : joins_list (map document_line xs) (document_line l) ≡ true
  joined = ap (λ d. joins_list (map document_line xs) (document_line d)) (sym same) ∙ (joins_told e old new p w.edit_there near [] (near_above e old new s w) below).0 (near_there e old new s w below).0

  pub read_inside : first_too_deep limit old ≡ None → (reader : ItemReading) (found : List FoundUnit) (list : FoundList)
      → Follows limit e reader (drop (from_line p) (take (near + 1) new)) → found ≡ handed e (drop (from_line p) (take (near + 1) new)) → IsSpliced reader f k list
      → p.at + p.come ≤ near → ReadInside limit e new s before found f k list
  read_inside fits reader found list reads is spliced behind =
      let r = spliced limit e xs l zs ys (meets reader reads) in
      let first = is ∙ ap (handed e) more in
      let all : units e (xs ++ l ∷ ys) ≡ found ++ found_unit list ∷ [] = r.1 ∙ ap (λ z. z ++ found_unit list ∷ []) (sym first) in
      let t = texts_joined e xs l zs ys found list f k joined all (subst (StandsForUnit e f) olds h.stands) h.within (sym size) in
      let ends = stopped.ends in
      let item = h.item in
      let lines = h.lines in
      let at = t.at in
      let sums = sum_by-append (λ (one : FoundUnit). texts_in one.unit) found (t.last ∷ []) in
      record {
        next = stopped.number;
        meet = omega (arith, ends, item, lines, behind, small, short);
        found_is = sym all ∙ ap (units e) news;
        stands = subst (λ ls. StandsForUnit e list (drop list.begin ls)) news r.2;
        fits = near_deep e limit old new s w fits ∙ ap (moved_on (from_line p)) (gi_none_deep limit e reader (drop (from_line p) (take (near + 1) new)) reads);
        texts =
            let front = ap (sum_by (λ (one : FoundUnit). texts_in one.unit)) t.front in
            let last = sum_by-cons (λ (one : FoundUnit). texts_in one.unit) t.last [] in
            omega (arith, at, sums, front, last);
        from = t.from;
        kept = ap (λ n. drop n list.unit.texts) at ∙ t.kept;
      }
