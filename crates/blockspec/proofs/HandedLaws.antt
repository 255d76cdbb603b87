-- The units before the one that is held, line by line: what a reader has handed out.
use Rattle.std.proofs.Common.{◌≡◌, ℕ, suc, ◌+◌, Bool, true, false, List, [], ◌∷◌, ◌++◌, length, map, Some, None, refl, sym, ◌∙◌, ap, subst, append_assoc, arith}
use Rattle.std.proofs.lemmas.List.{map-append, append-nil}
use Rattle.std.specs.Prelude.{if◌then◌else◌}
use Rattle.mdtext.specs.EntityTable.{EntityTable}
use Rattle.blockspec.specs.BlockLine.{BlockLine, without_last}
use Rattle.blockspec.specs.LineSummary.{Summary, no_summary, line_added, summary_of, begins_after}
use Rattle.blockspec.specs.Nesting.{deep_within}
use Rattle.blockspec.specs.SummaryDepth.{sinks}
use Rattle.blockspec.specs.UnitBegin.{begins_unit, units_of, shift_found}
use Rattle.blockspec.specs.UnitReader.{read_behind, unit_fault, lines_held, summary_held}
use Rattle.blockspec.specs.UnitTree.{FoundUnit}
use Rattle.blockspec.proofs.BeginLaws.{begins_in, begins_next, units_first, begun_visible}
use Rattle.blockspec.proofs.DocumentLaws.{units_meet}
use Rattle.blockspec.proofs.LimitLaws.{for_next_line, one_longer}
use Rattle.blockspec.proofs.OpenLeafLaws.{drops_last}
use Rattle.blockspec.proofs.UnitReaderLaws.{shift_twice, shift_none, IsOne, one_from, none_begin, fault_first, holds_summary}

-- the units before the one that is held, and how many lines they have
unfoldable pub front_units : EntityTable → List BlockLine → List BlockLine → List FoundUnit
front_units e xs [] = []
front_units e xs (l ∷ ls) =
    if begins_unit xs l then units_of e xs ++ map (shift_found (length xs)) (front_units e (l ∷ []) ls) else front_units e (xs ++ l ∷ []) ls

unfoldable pub front_lines : List BlockLine → List BlockLine → ℕ
front_lines xs [] = 0
front_lines xs (l ∷ ls) = if begins_unit xs l then length xs + front_lines (l ∷ []) ls else front_lines (xs ++ l ∷ []) ls

-- ---- these and what is held are all

pub front_and_held : (e : EntityTable) (xs ls : List BlockLine) →
    units_of e (xs ++ ls) ≡ front_units e xs ls ++ map (shift_found (front_lines xs ls)) (units_of e (lines_held xs ls))
unfolding lines_held front_units front_lines
front_and_held e xs [] = ap (units_of e) (append-nil xs) ∙ sym (shift_none (units_of e xs))
front_and_held e xs (l ∷ ls) = go (begins_unit xs l) refl (front_and_held e (l ∷ []) ls) (front_and_held e (xs ++ l ∷ []) ls)
  where
    n : ℕ
    n = length xs

    go : (b : Bool) → begins_unit xs l ≡ b →
        units_of e (l ∷ ls) ≡ front_units e (l ∷ []) ls ++ map (shift_found (front_lines (l ∷ []) ls)) (units_of e (lines_held (l ∷ []) ls)) →
        units_of e ((xs ++ l ∷ []) ++ ls) ≡ front_units e (xs ++ l ∷ []) ls ++ map (shift_found (front_lines (xs ++ l ∷ []) ls)) (units_of e (lines_held (xs ++ l ∷ []) ls)) →
        units_of e (xs ++ l ∷ ls)
        ≡ (if b then units_of e xs ++ map (shift_found n) (front_units e (l ∷ []) ls) else front_units e (xs ++ l ∷ []) ls)
        ++ map (shift_found (if b then n + front_lines (l ∷ []) ls else front_lines (xs ++ l ∷ []) ls)) (units_of e (if b then lines_held (l ∷ []) ls else lines_held (xs ++ l ∷ []) ls))
    go true b new old =
        let F = front_units e (l ∷ []) ls in
        let k = front_lines (l ∷ []) ls in
        let U = units_of e (lines_held (l ∷ []) ls) in
        units_meet e xs l ls b
        ∙ ap (λ z. units_of e xs ++ map (shift_found n) z) new
        ∙ ap (λ z. units_of e xs ++ z) (map-append (shift_found n) F (map (shift_found k) U))
        ∙ ap (λ z. units_of e xs ++ (map (shift_found n) F ++ z)) (shift_twice n k U)
        ∙ sym (append_assoc (units_of e xs) (map (shift_found n) F) (map (shift_found (n + k)) U))
    go false b new old = ap (units_of e) (sym (for_next_line xs l ls)) ∙ old

pub lines_before_held : (xs ls : List BlockLine) → front_lines xs ls + length (lines_held xs ls) ≡ length xs + length ls
unfolding lines_held front_lines
lines_before_held xs [] = let e : 0 + length xs ≡ length xs + 0 = omega arith in e
lines_before_held xs (l ∷ ls) = go (begins_unit xs l) (lines_before_held (l ∷ []) ls) (lines_before_held (xs ++ l ∷ []) ls)
  where
    go : (b : Bool) → front_lines (l ∷ []) ls + length (lines_held (l ∷ []) ls) ≡ 1 + length ls →
        front_lines (xs ++ l ∷ []) ls + length (lines_held (xs ++ l ∷ []) ls) ≡ length (xs ++ l ∷ []) + length ls →
        (if b then length xs + front_lines (l ∷ []) ls else front_lines (xs ++ l ∷ []) ls) + length (if b then lines_held (l ∷ []) ls else lines_held (xs ++ l ∷ []) ls)
        ≡ length xs + suc (length ls)
    go true new old = omega (arith, new)
    go false new old = let p = one_longer xs l in omega (arith, old, p)

-- ---- one line more

pub held_next : (xs ls : List BlockLine) (l : BlockLine) →
    lines_held xs (ls ++ l ∷ []) ≡ (if begins_unit (lines_held xs ls) l then l ∷ [] else lines_held xs ls ++ l ∷ [])
unfolding lines_held
held_next xs [] l = refl
held_next xs (x ∷ ls) l = go (begins_unit xs x) (held_next (x ∷ []) ls l) (held_next (xs ++ x ∷ []) ls l)
  where
    go : (b : Bool) →
        lines_held (x ∷ []) (ls ++ l ∷ []) ≡ (if begins_unit (lines_held (x ∷ []) ls) l then l ∷ [] else lines_held (x ∷ []) ls ++ l ∷ []) →
        lines_held (xs ++ x ∷ []) (ls ++ l ∷ []) ≡ (if begins_unit (lines_held (xs ++ x ∷ []) ls) l then l ∷ [] else lines_held (xs ++ x ∷ []) ls ++ l ∷ []) →
        (if b then lines_held (x ∷ []) (ls ++ l ∷ []) else lines_held (xs ++ x ∷ []) (ls ++ l ∷ []))
        ≡ (if begins_unit (if b then lines_held (x ∷ []) ls else lines_held (xs ++ x ∷ []) ls) l then l ∷ []
        else (if b then lines_held (x ∷ []) ls else lines_held (xs ++ x ∷ []) ls) ++ l ∷ [])
    go true new old = new
    go false new old = old

pub lines_next : (xs ls : List BlockLine) (l : BlockLine) →
    front_lines xs (ls ++ l ∷ []) ≡ (if begins_unit (lines_held xs ls) l then length xs + length ls else front_lines xs ls)
unfolding lines_held front_lines
lines_next xs [] l = go (begins_unit xs l)
  where
    go : (b : Bool) → (if b then length xs + 0 else 0) ≡ (if b then length xs + 0 else 0)
    go b = refl
lines_next xs (x ∷ ls) l = go (begins_unit xs x) (lines_next (x ∷ []) ls l) (lines_next (xs ++ x ∷ []) ls l)
  where
    both : (b : Bool) (h : List BlockLine) (m k : ℕ) → (if b then m else k) ≡ (if b then m else k)
    both b h m k = refl

    moved : (n m k : ℕ) (b : Bool) → n + (if b then m else k) ≡ (if b then n + m else n + k)
    moved n m k true = refl
    moved n m k false = refl

    go : (b : Bool) →
        front_lines (x ∷ []) (ls ++ l ∷ []) ≡ (if begins_unit (lines_held (x ∷ []) ls) l then 1 + length ls else front_lines (x ∷ []) ls) →
        front_lines (xs ++ x ∷ []) (ls ++ l ∷ []) ≡ (if begins_unit (lines_held (xs ++ x ∷ []) ls) l then length (xs ++ x ∷ []) + length ls else front_lines (xs ++ x ∷ []) ls) →
        (if b then length xs + front_lines (x ∷ []) (ls ++ l ∷ []) else front_lines (xs ++ x ∷ []) (ls ++ l ∷ []))
        ≡ (if begins_unit (if b then lines_held (x ∷ []) ls else lines_held (xs ++ x ∷ []) ls) l then length xs + suc (length ls)
        else (if b then length xs + front_lines (x ∷ []) ls else front_lines (xs ++ x ∷ []) ls))
    go true new old =
        let one : length xs + (1 + length ls) ≡ length xs + suc (length ls) = omega arith in
        ap (λ z. length xs + z) new
        ∙ moved (length xs) (1 + length ls) (front_lines (x ∷ []) ls) (begins_unit (lines_held (x ∷ []) ls) l)
        ∙ ap (λ z. if begins_unit (lines_held (x ∷ []) ls) l then z else length xs + front_lines (x ∷ []) ls) one
    go false new old =
        let one : length (xs ++ x ∷ []) + length ls ≡ length xs + suc (length ls) = let p = one_longer xs x in omega (arith, p) in
        old ∙ ap (λ z. if begins_unit (lines_held (xs ++ x ∷ []) ls) l then z else front_lines (xs ++ x ∷ []) ls) one

pub front_next : (e : EntityTable) (xs ls : List BlockLine) (l : BlockLine) →
    front_units e xs (ls ++ l ∷ []) ≡ (if begins_unit (lines_held xs ls) l then units_of e (xs ++ ls) else front_units e xs ls)
unfolding lines_held front_units
front_next e xs [] l = go (begins_unit xs l)
  where
    go : (b : Bool) → (if b then units_of e xs ++ [] else []) ≡ (if b then units_of e (xs ++ []) else [])
    go true = append-nil (units_of e xs) ∙ ap (units_of e) (sym (append-nil xs))
    go false = refl
front_next e xs (x ∷ ls) l = go (begins_unit xs x) refl (front_next e (x ∷ []) ls l) (front_next e (xs ++ x ∷ []) ls l)
  where
    n : ℕ
    n = length xs

    split : (c : Bool) → begins_unit xs x ≡ true →
        units_of e xs ++ map (shift_found n) (if c then units_of e (x ∷ ls) else front_units e (x ∷ []) ls)
        ≡ (if c then units_of e (xs ++ x ∷ ls) else units_of e xs ++ map (shift_found n) (front_units e (x ∷ []) ls))
    split true b = sym (units_meet e xs x ls b)
    split false b = refl

    go : (b : Bool) → begins_unit xs x ≡ b →
        front_units e (x ∷ []) (ls ++ l ∷ []) ≡ (if begins_unit (lines_held (x ∷ []) ls) l then units_of e (x ∷ ls) else front_units e (x ∷ []) ls) →
        front_units e (xs ++ x ∷ []) (ls ++ l ∷ []) ≡ (if begins_unit (lines_held (xs ++ x ∷ []) ls) l then units_of e ((xs ++ x ∷ []) ++ ls) else front_units e (xs ++ x ∷ []) ls) →
        (if b then units_of e xs ++ map (shift_found n) (front_units e (x ∷ []) (ls ++ l ∷ [])) else front_units e (xs ++ x ∷ []) (ls ++ l ∷ []))
        ≡ (if begins_unit (if b then lines_held (x ∷ []) ls else lines_held (xs ++ x ∷ []) ls) l then units_of e (xs ++ x ∷ ls)
        else (if b then units_of e xs ++ map (shift_found n) (front_units e (x ∷ []) ls) else front_units e (xs ++ x ∷ []) ls))
    go true b new old = ap (λ z. units_of e xs ++ map (shift_found n) z) new ∙ split (begins_unit (lines_held (x ∷ []) ls) l) b
    go false b new old = old ∙ ap (λ z. if begins_unit (lines_held (xs ++ x ∷ []) ls) l then z else front_units e (xs ++ x ∷ []) ls) (ap (units_of e) (for_next_line xs x ls))

-- ---- at most one unit is held, and one where units stand before it

abbrev pub IsFirst : List ℕ → Type 0
IsFirst [] = ⊥
IsFirst (n ∷ ns) = Unit {0}

pub begun_first : (e : EntityTable) (xs : List BlockLine) (l : BlockLine) → begins_unit xs l ≡ true → IsFirst (begins_in (units_of e (l ∷ [])))
begun_first e xs l b = let f = units_first e l [] (begun_visible xs l b) in subst IsFirst (sym f.is) tt

full_from : (e : EntityTable) (xs ls : List BlockLine) → IsFirst (begins_in (units_of e xs)) → IsFirst (begins_in (units_of e (lines_held xs ls)))
unfolding lines_held
full_from e xs [] w = w
full_from e xs (l ∷ ls) w = go (begins_unit xs l) refl (λ v. full_from e (l ∷ []) ls v) (λ v. full_from e (xs ++ l ∷ []) ls v)
  where
    more : (b : Bool) (ns : List ℕ) → IsFirst ns → IsFirst (if b then ns ++ length xs ∷ [] else ns)
    more b [] w = absurd w
    more true (n ∷ ns) w = tt
    more false (n ∷ ns) w = tt

    go : (b : Bool) → begins_unit xs l ≡ b → (IsFirst (begins_in (units_of e (l ∷ []))) → IsFirst (begins_in (units_of e (lines_held (l ∷ []) ls)))) →
        (IsFirst (begins_in (units_of e (xs ++ l ∷ []))) → IsFirst (begins_in (units_of e (lines_held (xs ++ l ∷ []) ls)))) →
        IsFirst (begins_in (units_of e (if b then lines_held (l ∷ []) ls else lines_held (xs ++ l ∷ []) ls)))
    go true b new old = new (begun_first e xs l b)
    go false b new old = old (subst IsFirst (sym (begins_next e xs l)) (more (begins_unit xs l) (begins_in (units_of e xs)) w))

abbrev pub IsBehind : (front us : List FoundUnit) → Type 0
IsBehind [] us = Unit {0}
IsBehind (u ∷ front) us = IsFirst (begins_in us)

pub held_behind : (e : EntityTable) (xs ls : List BlockLine) → IsBehind (front_units e xs ls) (units_of e (lines_held xs ls))
unfolding lines_held front_units
held_behind e xs [] = tt
held_behind e xs (l ∷ ls) = go (begins_unit xs l) refl (held_behind e (xs ++ l ∷ []) ls)
  where
    full : (front us : List FoundUnit) → IsFirst (begins_in us) → IsBehind front us
    full [] us w = tt
    full (u ∷ front) us w = w

    go : (b : Bool) → begins_unit xs l ≡ b → IsBehind (front_units e (xs ++ l ∷ []) ls) (units_of e (lines_held (xs ++ l ∷ []) ls)) →
        IsBehind (if b then units_of e xs ++ map (shift_found (length xs)) (front_units e (l ∷ []) ls) else front_units e (xs ++ l ∷ []) ls)
        (units_of e (if b then lines_held (l ∷ []) ls else lines_held (xs ++ l ∷ []) ls))
    go true b old = full _ (units_of e (lines_held (l ∷ []) ls)) (full_from e (l ∷ []) ls (begun_first e xs l b))
    go false b old = old

pub held_one : (e : EntityTable) (ls : List BlockLine) → IsOne (begins_in (units_of e (lines_held [] ls)))
held_one e ls = one_from e [] ls (subst IsOne (sym (none_begin e)) tt)

last_dropped : (front us : List FoundUnit) (k : ℕ) → IsOne (begins_in us) → IsBehind front us → without_last (front ++ map (shift_found k) us) ≡ front
last_dropped [] [] k one behind = refl
last_dropped (u ∷ front) [] k one behind = absurd behind
last_dropped front (v ∷ []) k one behind = drops_last front (shift_found k v)
last_dropped front (v ∷ w ∷ us) k one behind = absurd one

-- The units before the one that is held are all but the last.
pub front_is : (e : EntityTable) (ls : List BlockLine) → without_last (units_of e ls) ≡ front_units e [] ls
front_is e ls =
    ap without_last (front_and_held e [] ls)
    ∙ last_dropped (front_units e [] ls) (units_of e (lines_held [] ls)) (front_lines [] ls) (held_one e ls) (held_behind e [] ls)

-- ---- the first line too deep

-- where none of the lines before is refused, the next one is if it sinks
fault_next : (e : EntityTable) (limit fed : ℕ) (s : Summary) (ls : List BlockLine) (l : BlockLine) → unit_fault e limit fed s ls ≡ None →
    unit_fault e limit fed s (ls ++ l ∷ []) ≡ (if sinks limit (summary_held e limit s ls) l then Some (fed + length ls) else None)
unfolding unit_fault summary_held
fault_next e limit fed s [] l w = let n : fed ≡ fed + 0 = omega arith in ap (λ z. if sinks limit s l then Some z else None) n
fault_next e limit fed s (x ∷ ls) l w =
    go (sinks limit s x) w (λ v. fault_next e limit (suc fed) (line_added e (suc limit) (read_behind (begins_after s x) s) x) ls l v)
  where
    s' : Summary
    s' = line_added e (suc limit) (read_behind (begins_after s x) s) x

    go : (b : Bool) → (if b then Some fed else unit_fault e limit (suc fed) s' ls) ≡ None →
        (unit_fault e limit (suc fed) s' ls ≡ None →
        unit_fault e limit (suc fed) s' (ls ++ l ∷ []) ≡ (if sinks limit (summary_held e limit s' ls) l then Some (suc fed + length ls) else None)) →
        (if b then Some fed else unit_fault e limit (suc fed) s' (ls ++ l ∷ [])) ≡ (if sinks limit (summary_held e limit s' ls) l then Some (fed + suc (length ls)) else None)
    go true w f = absurd (let x : ⊥ = cc in x)
    go false w f =
        let n : suc fed + length ls ≡ fed + suc (length ls) = omega arith in
        f w ∙ ap (λ z. if sinks limit (summary_held e limit s' ls) l then Some z else None) n

-- Behind lines with no container too many a line is refused exactly if it begins one behind the lines that are held.
pub deep_behind_held : (e : EntityTable) (limit : ℕ) (ls : List BlockLine) (l : BlockLine) → deep_within limit ls ≡ None →
    deep_within limit (ls ++ l ∷ []) ≡ (if sinks limit (summary_of e (lines_held [] ls)) l then Some (length ls) else None)
deep_behind_held e limit ls l w =
    let n : 0 + length ls ≡ length ls = omega arith in
    sym (fault_first e limit (ls ++ l ∷ []))
    ∙ fault_next e limit 0 no_summary ls l (fault_first e limit ls ∙ w)
    ∙ ap (λ z. if sinks limit z l then Some (0 + length ls) else None) (holds_summary e limit ls w)
    ∙ ap (λ z. if sinks limit (summary_of e (lines_held [] ls)) l then Some z else None) n

summary_next : (e : EntityTable) (limit : ℕ) (s : Summary) (ls : List BlockLine) (l : BlockLine) →
    summary_held e limit s (ls ++ l ∷ []) ≡ line_added e (suc limit) (read_behind (begins_after (summary_held e limit s ls) l) (summary_held e limit s ls)) l
unfolding summary_held
summary_next e limit s [] l = refl
summary_next e limit s (x ∷ ls) l = summary_next e limit (line_added e (suc limit) (read_behind (begins_after s x) s) x) ls l

-- The summary that is held goes on by itself.
pub held_summary_next : (e : EntityTable) (limit : ℕ) (ls : List BlockLine) (l : BlockLine) → deep_within limit ls ≡ None → deep_within limit (ls ++ l ∷ []) ≡ None →
    summary_of e (lines_held [] (ls ++ l ∷ []))
    ≡ line_added e (suc limit) (read_behind (begins_after (summary_of e (lines_held [] ls)) l) (summary_of e (lines_held [] ls))) l
held_summary_next e limit ls l w v =
    sym (holds_summary e limit (ls ++ l ∷ []) v)
    ∙ summary_next e limit no_summary ls l
    ∙ ap (λ z. line_added e (suc limit) (read_behind (begins_after z l) z) l) (holds_summary e limit ls w)
