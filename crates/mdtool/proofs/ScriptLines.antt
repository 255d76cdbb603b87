-- The lines of a script, cut off its front.
use Rattle.std.proofs.Common.{◌≡◌, ℕ, ◌+◌, ◌<◌, Bool, true, false, eqb, List, [], ◌∷◌, ◌++◌, take, drop, length, get_or, suc, refl, ap, sym, ◌∙◌, arith, add-one, drop-cons}
use Rattle.std.specs.Prelude.{◌||◌}
use Rattle.std.proofs.lemmas.List.{take-append-drop}
use Rattle.mdtool.specs.Commands.{whole_lines, last_line, has_break, script_lines}

pub or_false : (x y : Bool) → (x || y) ≡ false → (x ≡ false) × (y ≡ false)
or_false true y e = absurd (cc)
or_false false y e = (refl, e)

or_true : (x : Bool) → (x || true) ≡ true
or_true true = refl
or_true false = refl

pub whole_none : (bytes : List ℕ) → has_break bytes ≡ false → whole_lines bytes ≡ []
unfolding whole_lines
whole_none [] e = refl
whole_none (b ∷ bs) e = let p = or_false (eqb b 10) (has_break bs) e in rw (p.0, whole_none bs p.1) refl

last_none : (bytes : List ℕ) → has_break bytes ≡ false → last_line bytes ≡ bytes
unfolding last_line
last_none [] e = refl
last_none (b ∷ bs) e = rw e refl

whole_cut : (line rest : List ℕ) → has_break line ≡ false → whole_lines (line ++ 10 ∷ rest) ≡ line ∷ whole_lines rest
unfolding whole_lines
whole_cut [] rest e = refl
whole_cut (b ∷ line) rest e = let p = or_false (eqb b 10) (has_break line) e in rw (p.0, whole_cut line rest p.1) refl

break_there : (line rest : List ℕ) → has_break (line ++ 10 ∷ rest) ≡ true
break_there [] rest = refl
break_there (b ∷ line) rest = rw (break_there line rest) (or_true (eqb b 10))

last_cut : (line rest : List ℕ) → last_line (line ++ 10 ∷ rest) ≡ last_line rest
unfolding last_line
last_cut [] rest = refl
last_cut (b ∷ line) rest = rw (break_there (b ∷ line) rest) (last_cut line rest)

pub lines_cut : (ended : Bool) (line rest : List ℕ) → has_break line ≡ false → script_lines ended (line ++ 10 ∷ rest) ≡ line ∷ script_lines ended rest
lines_cut ended line rest e = rw (whole_cut line rest e, last_cut line rest) refl

pub lines_lone : (line : List ℕ) → has_break line ≡ false → 0 < length line → script_lines true line ≡ line ∷ []
lines_lone [] e some = absurd (omega arith)
lines_lone (b ∷ bs) e some = rw (whole_none (b ∷ bs) e, last_none (b ∷ bs) e) refl

pub lines_done : script_lines true [] ≡ []
unfolding whole_lines last_line
lines_done = refl

pub lines_open : (bytes : List ℕ) → has_break bytes ≡ false → script_lines false bytes ≡ []
lines_open bytes e = rw (whole_none bytes e) refl

-- bytes cut at an LF
pub cut_at : (bytes : List ℕ) (at : ℕ) → at < length bytes → get_or bytes at 0 ≡ 10 → bytes ≡ take at bytes ++ 10 ∷ drop (at + 1) bytes
cut_at bytes at below is =
    let rest : drop at bytes ≡ 10 ∷ drop (at + 1) bytes = rw add-one (drop-cons bytes at 0 below ∙ ap (λ b. b ∷ drop (suc at) bytes) is) in
    sym (take-append-drop at bytes) ∙ ap (λ xs. take at bytes ++ xs) rest
