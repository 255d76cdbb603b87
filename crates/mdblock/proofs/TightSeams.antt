-- Whether a list that goes on with the later items of another is tight.
use Rattle.std.proofs.Common.{◌≡◌, Bool, true, false, not, ◌||◌, ◌&&◌, List, [], ◌∷◌, ◌++◌, length, drop, map, ℕ, ◌+◌, ◌-◌, refl, sym, ◌∙◌, ap}
use Rattle.std.proofs.lemmas.List.Folds.{list_any-append}
use Rattle.std.specs.List.{list_any}
use Rattle.blockspec.specs.ItemMarks.{ItemMark}
use Rattle.mdblock.specs.Spliced.{mark_at, mark_further, spliced_marks, tight_list}

abbrev is_loose : ItemMark → Bool
is_loose mark = mark.loose

-- a mark that moves makes its list loose as before
loose_moved : (from to : ItemMark) (marks : List ItemMark) → list_any is_loose (map (mark_further from to) marks) ≡ list_any is_loose marks
loose_moved from to [] = refl
loose_moved from to (mark ∷ marks) = ap (λ z. mark.loose || z) (loose_moved from to marks)

both_tight : (p a b : Bool) → not (p || (a || b)) ≡ (not (p || a) && not (false || b))
both_tight true a b = refl
both_tight false true b = refl
both_tight false false b = refl

pub tight_both : (parted : Bool) (front marks : List ItemMark) (from to : ItemMark) → tight_list parted (front ++ map (mark_further from to) marks) ≡ (tight_list parted front && tight_list false marks)
tight_both parted front marks from to =
    ap (λ z. not (parted || z)) (list_any-append is_loose front (map (mark_further from to) marks) ∙ ap (λ z. list_any is_loose front || z) (loose_moved from to marks))
    ∙ both_tight parted (list_any is_loose front) (list_any is_loose marks)

tight_together : (parted : Bool) (front old : List ItemMark) (k : ℕ) → tight_list parted (spliced_marks front old k) ≡ (tight_list parted front && tight_list false (drop (k + 1) old))
tight_together parted front old k = tight_both parted front (drop (k + 1) old) (mark_at old k) (mark_at front (length front - 1))

pub tight_then : (parted : Bool) (front old : List ItemMark) (k : ℕ) → tight_list parted front ≡ true → tight_list false (drop (k + 1) old) ≡ tight_list parted (spliced_marks front old k)
tight_then parted front old k first = sym (tight_together parted front old k ∙ ap (λ z. z && tight_list false (drop (k + 1) old)) first)
