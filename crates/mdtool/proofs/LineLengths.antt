-- Lines that stand one behind the other with an LF behind each, and others behind them.
use Rattle.std.proofs.Common.{◌≡◌, ℕ, ◌<◌, ◌+◌, false, List, [], ◌∷◌, ◌++◌, length, map, take, drop, get_or, refl, suc, ap, sym, ◌∙◌, subst, arith, add-one, length-append, drop-cons}
use Rattle.std.proofs.Math.ListN.{get_or-append}
use Rattle.std.proofs.Math.Seq.{take-add, take-append_seam, get_or-append_seam}
use Rattle.std.proofs.lemmas.List.{drop_all, length-take-le, take-take, take-append-le, drop-append-le, get_or-take, get_or-drop, length-drop}
use Rattle.std.proofs.lemmas.Str.{IsUtf8-take, IsUtf8-drop, IsCharBoundary-before_ascii, IsCharBoundary-after_ascii, utf8_lossy-IsUtf8}
use Rattle.std.specs.Str.{IsUtf8, IsCharBoundary}
use Rattle.std.specs.Str.Lossy.{utf8_lossy}
use Rattle.std.specs.List.{list_any}
use Rattle.mdtool.specs.Commands.{has_break}
use Rattle.mdtool.specs.LineLengths.{AreLengths, cut}
use Rattle.mdtool.proofs.ScriptLines.{or_false}

pub lengths_append : (lens bytes more_lens more : List ℕ) → AreLengths lens bytes → AreLengths more_lens more → AreLengths (lens ++ more_lens) (bytes ++ more)
lengths_append [] bytes more_lens more none are = rw none are
lengths_append (len ∷ lens) bytes more_lens more first are = (
  omega (arith, first.0, length-append bytes more),
  get_or-append bytes more 0 len first.0 ∙ first.1,
  subst (AreLengths (lens ++ more_lens)) (sym (drop-append-le (len + 1) bytes more (omega (arith, first.0)))) (lengths_append lens (drop (len + 1) bytes) more_lens more first.2 are),
)

pub cut_append : (lens bytes more_lens more : List ℕ) → AreLengths lens bytes → cut (lens ++ more_lens) (bytes ++ more) ≡ cut lens bytes ++ cut more_lens more
cut_append [] bytes more_lens more none = rw none refl
cut_append (len ∷ lens) bytes more_lens more first =
    rw (take-append-le len bytes more (omega (arith, first.0)), drop-append-le (len + 1) bytes more (omega (arith, first.0)))
    (ap (λ ls. take len bytes ∷ ls) (cut_append lens (drop (len + 1) bytes) more_lens more first.2))

-- one line
pub lengths_one : (line : List ℕ) → AreLengths (length line ∷ []) (line ++ 10 ∷ [])
lengths_one line = (
  omega (arith, length-append line (10 ∷ [])),
  get_or-append_seam line 10 [] 0,
  drop_all (length line + 1) (line ++ 10 ∷ []) (omega (arith, length-append line (10 ∷ []))),
)

pub cut_one : (line : List ℕ) → cut (length line ∷ []) (line ++ 10 ∷ []) ≡ line ∷ []
cut_one line = ap (λ l. l ∷ []) (take-append_seam line (10 ∷ []))

pub length_cut : (lens bytes : List ℕ) → length (cut lens bytes) ≡ length lens
length_cut [] bytes = refl
length_cut (len ∷ lens) bytes = ap suc (length_cut lens (drop (len + 1) bytes))

-- where all bytes are UTF-8, each line is
pub texts_are_cut : (lens bytes : List ℕ) → AreLengths lens bytes → IsUtf8 bytes → map utf8_lossy (cut lens bytes) ≡ cut lens bytes
texts_are_cut [] bytes none utf8 = refl
texts_are_cut (len ∷ lens) bytes are utf8 =
    let below : get_or bytes len 0 < 128 = omega (arith, are.1) in
    let line : utf8_lossy (take len bytes) ≡ take len bytes = utf8_lossy-IsUtf8 (take len bytes) (IsUtf8-take bytes len utf8 (IsCharBoundary-before_ascii bytes len are.0 below)) in
    let rest : IsUtf8 (drop (len + 1) bytes) = IsUtf8-drop bytes (len + 1) utf8 (IsCharBoundary-after_ascii bytes len utf8 are.0 below) in
    rw (line, texts_are_cut lens (drop (len + 1) bytes) are.2 rest) refl

-- the line of a number, and those behind it
pub next_length : (lens rest : List ℕ) (i : ℕ) → i < length lens → AreLengths (drop i lens) rest → AreLengths (get_or lens i 0 ∷ drop (i + 1) lens) rest
next_length lens rest i below are =
    let next : drop i lens ≡ get_or lens i 0 ∷ drop (i + 1) lens = rw add-one (drop-cons lens i 0 below) in
    subst (λ ls. AreLengths ls rest) next are

-- one whole line more, behind the first `end` bytes
one_whole : (rest : List ℕ) (len : ℕ) → len < length rest → get_or rest len 0 ≡ 10 → AreLengths (len ∷ []) (take (len + 1) rest)
one_whole rest len below ends = (
  omega (arith, below, length-take-le (len + 1) rest (omega (arith, below))),
  get_or-take (len + 1) rest len 0 (omega arith) ∙ ends,
  drop_all (len + 1) (take (len + 1) rest) (omega (arith, length-take-le (len + 1) rest (omega (arith, below)))),
)

pub lengths_whole : (lens bytes : List ℕ) (end len : ℕ) → AreLengths lens (take end bytes) → len < length (drop end bytes) → get_or (drop end bytes) len 0 ≡ 10
    → AreLengths (lens ++ len ∷ []) (take (end + (len + 1)) bytes)
lengths_whole lens bytes end len are below ends =
    subst (AreLengths (lens ++ len ∷ [])) (sym (take-add end (len + 1) bytes)) (lengths_append lens (take end bytes) (len ∷ []) (take (len + 1) (drop end bytes)) are (one_whole (drop end bytes) len below ends))

pub cut_whole : (lens bytes : List ℕ) (end len : ℕ) → AreLengths lens (take end bytes) → cut (lens ++ len ∷ []) (take (end + (len + 1)) bytes) ≡ cut lens (take end bytes) ++ take len (drop end bytes) ∷ []
cut_whole lens bytes end len are =
    ap (cut (lens ++ len ∷ [])) (take-add end (len + 1) bytes)
    ∙ cut_append lens (take end bytes) (len ∷ []) (take (len + 1) (drop end bytes)) are
    ∙ ap (λ line. cut lens (take end bytes) ++ line ∷ []) (take-take len (len + 1) (drop end bytes) (omega arith))

-- a line without an LF behind others without one
pub none_more : (lines : List (List ℕ)) (line : List ℕ) → list_any has_break lines ≡ false → has_break line ≡ false → list_any has_break (lines ++ line ∷ []) ≡ false
none_more [] line none plain = rw plain refl
none_more (first ∷ lines) line none plain =
    let p = or_false (has_break first) (list_any has_break lines) none in rw (p.0, none_more lines line p.1 plain) refl

-- a line ends where a character does, and what stands behind its LF begins with one
pub line_ends : (rest : List ℕ) (len : ℕ) → len < length rest → get_or rest len 0 ≡ 10 → IsCharBoundary rest len
line_ends rest len below ends = IsCharBoundary-before_ascii rest len below (omega (arith, ends))

pub rest_begins : (rest end : List ℕ) (len : ℕ) → IsUtf8 rest → len < length rest → get_or rest len 0 ≡ 10 → end ≡ drop len rest → IsCharBoundary end 1
rest_begins rest end len utf8 below ends is =
    let text : IsUtf8 end = subst IsUtf8 (sym is) (IsUtf8-drop rest len utf8 (line_ends rest len below ends)) in
    let front : len + 0 ≡ len = omega arith in
    let first : get_or end 0 0 ≡ 10 = ap (λ bs. get_or bs 0 0) is ∙ get_or-drop len rest 0 0 ∙ ap (λ n. get_or rest n 0) front ∙ ends in
    IsCharBoundary-after_ascii end 0 text (omega (arith, below, ap length is, length-drop len rest)) (omega (arith, first))
