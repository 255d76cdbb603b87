-- Whole lines at the front of what is pending.
use Rattle.std.proofs.Common.{◌≡◌, ℕ, ◌<◌, ◌≤◌, ◌+◌, List, [], ◌∷◌, ◌++◌, Option, false, length, take, drop, get_or, refl, ap, sym, ◌∙◌, subst, arith, inl, length-append, length-drop}
use Rattle.std.proofs.Math.ListN.{get_or-append}
use Rattle.std.proofs.lemmas.List.{take-append-le, drop-append-le, take-append-drop}
use Rattle.std.specs.List.{list_any}
use Rattle.mdtool.specs.Commands.{has_break, capped}
use Rattle.mdtool.specs.LineLengths.{AreLengths, cut}
use Rattle.mdtool.specs.Pending.{Pending, Reads, HasLine, Uses, used}
use Rattle.mdtool.proofs.Devices.{takes_nothing}
use Rattle.mdtool.proofs.Readings.{reads_on, reads_line}
use Rattle.mdtool.proofs.ScriptLines.{or_false}

-- the first of them is a line that can be used
has_first : (len : ℕ) (front rest : List ℕ) (p : Pending) → p.bytes ≡ front ++ rest → len < length front → get_or front len 0 ≡ 10 → has_break (take len front) ≡ false → HasLine len p
has_first len front rest p bytes below ends plain = record {
  unbroken = rw (bytes, take-append-le len front rest (omega (arith, below))) plain;
  ends = inl (omega (arith, below, ap length bytes, length-append front rest), ap (λ bs. get_or bs len 0) bytes ∙ get_or-append front rest 0 len below ∙ ends);
}

-- these lines are used, and what stands behind them is pending then
reads_whole : (lens front rest : List ℕ) (p n : Pending) → AreLengths lens front → list_any has_break (cut lens front) ≡ false → p.bytes ≡ front ++ rest
    → n.bytes ≡ rest → n.is_ended ≡ p.is_ended → capped n.lines ≡ capped (p.lines + length lens) → (left : Option (List ℕ)) → Reads left p (cut lens front) left n
reads_whole [] front rest p n none plain bytes n_bytes n_ended n_lines left =
    record {
      taken = [];
      takes = takes_nothing left;
      reads = λ future ended may. rw (bytes, none, n_bytes) refl;
      count = n_lines;
      stays = λ e. (refl, n_ended ∙ e);
      at_end = λ h e. h (sym n_ended ∙ e);
    }
reads_whole (len ∷ lens) front rest p n are plain bytes n_bytes n_ended n_lines left =
    let has = has_first len front rest p bytes are.0 are.1 (or_false _ _ plain).0 in
    let behind : drop (len + 1) p.bytes ≡ drop (len + 1) front ++ rest = ap (drop (len + 1)) bytes ∙ drop-append-le (len + 1) front rest (omega (arith, are.0)) in
    let line : take len p.bytes ≡ take len front = ap (take len) bytes ∙ take-append-le len front rest (omega (arith, are.0)) in
    let first : Reads left p (take len front ∷ []) left (used len p) =
    let P : List ℕ → Type 0 = λ l. Reads left p (l ∷ []) left (used len p) in subst P line (reads_line left p (used len p) len has refl refl (omega arith)) in
    reads_on left left left p (used len p) n (take len front ∷ []) (cut lens (drop (len + 1) front)) first
    (reads_whole lens (drop (len + 1) front) rest (used len p) n are.2 (or_false _ _ plain).1 behind n_bytes n_ended (omega (arith, n_lines)) left)

pub uses_whole : (lens : List ℕ) (end : ℕ) (p n : Pending) → end ≤ length p.bytes → AreLengths lens (take end p.bytes) → list_any has_break (cut lens (take end p.bytes)) ≡ false
    → n.bytes ≡ drop end p.bytes → n.is_ended ≡ p.is_ended → capped n.lines ≡ capped (p.lines + length lens) → Uses p (cut lens (take end p.bytes)) n
uses_whole lens end p n within are plain n_bytes n_ended n_lines = record {
  reads = reads_whole lens (take end p.bytes) (drop end p.bytes) p n are plain (sym (take-append-drop end p.bytes)) n_bytes n_ended n_lines;
  shorter = omega (arith, ap length n_bytes, length-drop end p.bytes);
}
