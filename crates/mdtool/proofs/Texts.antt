-- The lines of an edit, read one by one.
use Rattle.std.proofs.Common.{◌≡◌, ℕ, ◌<◌, Bool, false, List, [], ◌∷◌, ◌++◌, take, length, Option, Err, refl, ap, sym, ◌∙◌, subst, append-nil, arith}
use Rattle.mdtool.specs.declared.fault.ToolFault.{ToolFault}
use Rattle.mdtool.specs.declared.fault.ToolFault.TheVariants.{Read, NoMemory}
use Rattle.mdtool.specs.Pending.{Pending, Reads, Draws, HasLine, IsOver, Uses, used}
use Rattle.mdtool.specs.Steps.{FewLines, NextTexts, Steps}
use Rattle.mdtool.proofs.Readings.{reads_on, reads_line, draws_of}

-- bytes that were taken and gave no line
reads_also : (a b c : Option (List ℕ)) (o p n : Pending) (x : List (List ℕ)) → Reads a o x b p → Reads b p [] c n → Reads a o x c n
reads_also a b c o p n x first second = let P : List (List ℕ) → Type 0 = λ ls. Reads a o ls c n in subst P (append-nil x) (reads_on a b c o p n x [] first second)

-- a line that was found is used
pub reads_used : (a b c : Option (List ℕ)) (o p n : Pending) (x : List (List ℕ)) (len : ℕ) → Reads a o x b p → Reads b p [] c n → HasLine len n
    → Reads a o (x ++ take len n.bytes ∷ []) c (used len n)
reads_used a b c o p n x len first second has =
    reads_on a c c o n (used len n) x (take len n.bytes ∷ []) (reads_also a b c o p n x first second) (reads_line c n (used len n) len has refl refl (omega arith))

-- a line that was found is used, and whole lines behind it
pub lines_more : (a b c : Option (List ℕ)) (o p m q n : Pending) (lines more_lines all more : List (List ℕ)) (len : ℕ)
    → Reads a o lines b p → Reads b p [] c m → HasLine len m → q ≡ used len m → more_lines ≡ lines ++ take len m.bytes ∷ [] → all ≡ more_lines ++ more → Uses q more n
    → Reads a o all c n
lines_more a b c o p m q n lines more_lines all more len read found has q_is line_is all_is uses =
    let P : Pending → Type 0 = λ r. Reads a o (lines ++ take len m.bytes ∷ []) c r in
    let one : Reads a o (lines ++ take len m.bytes ∷ []) c q = subst P (sym q_is) (reads_used a b c o p m lines len read found has) in
    let lines_are : all ≡ (lines ++ take len m.bytes ∷ []) ++ more = all_is ∙ ap (λ ls. ls ++ more) line_is in
    let Q : List (List ℕ) → Type 0 = λ ls. Reads a o ls c n in
    subst Q (sym lines_are) (reads_on a c c o q n (lines ++ take len m.bytes ∷ []) more one (uses.reads c))

pub few_lines : (a b c : Option (List ℕ)) (o p n : Pending) (ended : Bool) (wanted : ℕ) (lines : List (List ℕ))
    → Reads a o lines b p → Reads b p [] c n → IsOver ended n → length lines < wanted → FewLines a o c n ended wanted
few_lines a b c o p n ended wanted lines read found over few = record {
  lines = lines;
  reads = reads_also a b c o p n lines read found;
  few = few;
  over = over;
}

pub lines_draw : (a b c : Option (List ℕ)) (o p n : Pending) (lines : List (List ℕ)) → Reads a o lines b p → Reads b p [] c n → Draws a o.is_ended c
lines_draw a b c o p n lines read found = draws_of a c o n lines (reads_also a b c o p n lines read found)

-- the step that fails where a line is read
pub texts_fail : {T : Type 0} (fault : ToolFault) (ok : T → Type 0) (read memory : Type 0) (number count : ℕ) (a : Option (List ℕ)) (o : Pending) (c : Option (List ℕ)) (n : Pending)
    → (read → FewLines a o c n false count) → (memory → Draws a o.is_ended c) → Steps {T = T} (Err fault) ok read memory → NextTexts (Err fault) number count a o c n
texts_fail Read ok read memory number count a o c n f g h = f h
texts_fail NoMemory ok read memory number count a o c n f g h = g h
texts_fail _ ok read memory number count a o c n f g h = absurd h
