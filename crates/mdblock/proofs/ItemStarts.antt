-- A reader begins at a later item of an old list: its first line, and so many lines before it.
use Rattle.std.proofs.Common.{◌≡◌, ℕ, ◌+◌, ◌≤◌, ◌<◌, List, [], ◌∷◌, ◌++◌, length, map, Option, Some, None, refl, sym, ◌∙◌, ap, subst, append_assoc, arith}
use Rattle.std.proofs.Math.Nat.{min-eq_left}
use Rattle.std.specs.Option.{option_map}
use Rattle.std.specs.Prelude.{IfSome, min}
use Rattle.mdtext.specs.EntityTable.{EntityTable}
use Rattle.blockspec.specs.BlockLine.{document_line}
use Rattle.blockspec.specs.Nesting.{first_too_deep}
use Rattle.blockspec.specs.UnitReader.{lines_held}
use Rattle.blockspec.specs.UnitTree.{FoundUnit}
use Rattle.blockspec.proofs.BeginLaws.{begins_in}
use Rattle.blockspec.proofs.HandedLaws.{front_lines, lines_before_held}
use Rattle.blockspec.proofs.NestingLaws.{moved_on}
use Rattle.blockspec.specs.UnitBegin.{units_of}
use Rattle.mdblock.specs.FoundLists.{StandsForUnit}
use Rattle.mdblock.specs.Fronted.{ListBase, base_mark}
use Rattle.mdblock.specs.held.Following.{IsInside}
use Rattle.mdblock.specs.held.ReaderState.{ReaderState, UnitSoFar, held_begin}
use Rattle.mdblock.specs.held.Reads.{HoldsUnit, Reads, handed, open_begin}
use Rattle.mdblock.proofs.HeldMarks.{begun_at, lines_mapped, open_is}
use Rattle.mdblock.proofs.InsideLists.{AtItem, at_item, first_inside}
use Rattle.mdblock.proofs.SplicedMarks.{most}
use Rattle.mdblock.proofs.ItemLines.{at_deep, at_first}

-- ---- where it begins

abbrev pub MayBegin : (limit : ℕ) → EntityTable → ListBase → (l : List ℕ) → (zs ys : List (List ℕ)) → Type 0
MayBegin limit e b l zs ys = (b.join < length b.list.marks) × StandsForUnit e b.list (zs ++ l ∷ ys) × ((base_mark b).line ≡ length zs) × (first_too_deep limit (zs ++ l ∷ ys) ≡ None)

at_begin : (limit : ℕ) (e : EntityTable) (b : ListBase) (l : List ℕ) (zs ys : List (List ℕ)) → MayBegin limit e b l zs ys → AtItem e b zs l
at_begin limit e b l zs ys w = at_item e b zs l ys w.0 w.1 w.2

at_next : (limit : ℕ) (zs : List (List ℕ)) (l : List ℕ) (ys : List (List ℕ)) → first_too_deep limit (zs ++ l ∷ ys) ≡ None → first_too_deep limit (zs ++ l ∷ []) ≡ None
at_next limit zs l ys shallow = at_first limit (zs ++ l ∷ []) ys (ap (first_too_deep limit) (append_assoc zs (l ∷ []) ys) ∙ shallow)

pub inside_first : (limit : ℕ) (e : EntityTable) (b : ListBase) (r : ReaderState) (l : List ℕ) (zs ys : List (List ℕ)) → Reads limit e r (l ∷ []) → MayBegin limit e b l zs ys → IsInside limit e b r (zs ++ l ∷ [])
inside_first limit e b r l zs ys reads w = record {
  zs = zs;
  l = l;
  own = [];
  ys = ys;
  is = refl;
  within = w.0;
  stands = w.1;
  line = w.2;
  shallow = at_next limit zs l ys w.3;
  reads = reads;
  none = (first_inside e b zs l (at_begin limit e b l zs ys w)).2;
}

-- its line hands out nothing
pub first_none : (limit : ℕ) (e : EntityTable) (b : ListBase) (l : List ℕ) (zs ys : List (List ℕ)) (us : List FoundUnit) (u : FoundUnit) → handed e (l ∷ []) ≡ us ++ u ∷ [] → MayBegin limit e b l zs ys → ⊥
first_none limit e b l zs ys us u hands w = go us (sym hands ∙ (first_inside e b zs l (at_begin limit e b l zs ys w)).2)
  where
    go : (us : List FoundUnit) → us ++ u ∷ [] ≡ [] → ⊥
    go [] e = let x : ⊥ = cc in x
    go (v ∷ us) e = let x : ⊥ = cc in x

-- and is not too deep
pub first_fits : (limit : ℕ) (e : EntityTable) (b : ListBase) (l : List ℕ) (zs ys : List (List ℕ)) (n : ℕ) → first_too_deep limit (l ∷ []) ≡ Some n → MayBegin limit e b l zs ys → ⊥
first_fits limit e b l zs ys n deep w =
    let none : None ≡ moved_on (length zs) (first_too_deep limit (l ∷ [])) =
    sym (at_next limit zs l ys w.3) ∙ at_deep limit e b zs l [] (l ∷ ys) (at_begin limit e b l zs ys w) w.3 in
    let same : None ≡ Some (length zs + n) = none ∙ ap (moved_on (length zs)) deep in
    let x : ⊥ = cc in
    x

-- it is one of the list's
pub lies_in : (e : EntityTable) (b : ListBase) (l : List ℕ) (zs ys : List (List ℕ)) → b.join < length b.list.marks → StandsForUnit e b.list (zs ++ l ∷ ys) → (base_mark b).line ≡ length zs → (base_mark b).line < b.list.lines
lies_in e b l zs ys small stands line =
    let within = (at_item e b zs l ys small stands line).front.within in
    let mapped = lines_mapped zs in
    omega (arith, within, mapped, line)

-- what has read lines holds something
pub holds_some : (limit : ℕ) (e : EntityTable) (r : ReaderState) (ls : List (List ℕ)) → Reads limit e r ls → r.held ≡ None → ⊥
unfolding Reads
holds_some limit e r ls w none = subst (λ z. HoldsUnit e z ls) none w.4

-- ---- so many lines further

pub begin_small : (e : EntityTable) (ls : List (List ℕ)) → IfSome (open_begin e ls) (λ at. at ≤ length ls)
begin_small e ls =
    let xs = map document_line ls in
    let k = front_lines [] xs in
    let size = lines_before_held [] xs in
    let mapped = lines_mapped ls in
    let within : k ≤ length ls = omega (arith, size, mapped) in
    subst (λ z. IfSome z (λ at. at ≤ length ls)) (sym (open_is e ls)) (begun_at k (begins_in (units_of e (lines_held [] xs))) (λ at. at ≤ length ls) within)

at_further : (n size : ℕ) (begin : Option ℕ) → n + size ≤ most → IfSome begin (λ at. at ≤ size) → option_map (λ at. min (n + at) most) begin ≡ option_map (λ at. n + at) begin
at_further n size None room within = refl
at_further n size (Some at) room within = let small : n + at ≤ most = omega (arith, room, within) in ap (λ z. Some z) (min-eq_left small)

pub further_begin : (limit : ℕ) (e : EntityTable) (r : ReaderState) (ls : List (List ℕ)) (n : ℕ) → n + r.fed ≤ most → Reads limit e r ls →
    option_map (λ at. min (n + at) most) (held_begin r.held) ≡ option_map (λ at. n + at) (held_begin r.held)
unfolding Reads
further_begin limit e r ls n room w = go r.held w.4
  where
    fits : n + length ls ≤ most
    fits = let fed = w.2 in omega (arith, room, fed)

    go : (held : Option UnitSoFar) → HoldsUnit e held ls → option_map (λ at. min (n + at) most) (held_begin held) ≡ option_map (λ at. n + at) (held_begin held)
    go None v = absurd v
    go (Some held) v = at_further n (length ls) held.begin fits (subst (λ z. IfSome z (λ at. at ≤ length ls)) (sym v.0) (begin_small e ls))
