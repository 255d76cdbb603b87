-- One part of a text after the other, as the definition reads it.
use Rattle.std.proofs.Common.{◌≡◌, ℕ, zero, suc, ◌+◌, ◌-◌, ◌<◌, ◌≤◌, Bool, true, false, ◌&&◌, if◌then◌else◌, eqb, List, [], ◌∷◌, ◌++◌, length, length-drop, take, drop, drop-cons, get_or, replicate, Option, Some, None, add-one, refl, ap, sym, ◌∙◌, subst, arith, append_assoc, append-nil}
use Rattle.std.specs.Option.{option_and_then}
use Rattle.std.specs.Prelude.{slice_get, slice_index}
use Rattle.std.proofs.lemmas.List.Sums.{prefix_len_passes}
use Rattle.std.proofs.lemmas.Bool.Decides.{nat_tests}
use Rattle.mdtext.specs.EntityTable.{EntityTable}
use Rattle.mdpair.specs.declared.delimiter_runs.DelimiterChar.{DelimiterChar}
use Rattle.mdpair.specs.declared.delimiter_runs.DelimiterRun.{DelimiterRun}
use Rattle.mdpair.specs.Neighbours.{byte_of, delimiter_of, run_at, run_of}
use Rattle.inlinespec.specs.InlineEvents.{Event, Byte, written}
use Rattle.inlinespec.specs.Lexemes.{Lexeme, Delimiters, as_written, leaf}
use Rattle.inlinespec.specs.Lexing.{DelimiterMark, lex, lexeme_by, sign_of}
use Rattle.inlinespec.specs.DelimiterRuns.{delimiters_at, run_lexeme}
use Rattle.inlinespec.specs.Strikethrough.{is_lone_tilde, kept_run}
use Rattle.inlinespec.specs.LinkTails.{Table}
use Rattle.inlinespec.specs.Pieces.{Piece, Made, Run, Opening}
use Rattle.inlinespec.specs.TextReading.{Item, after_deed, asks_of, item_at, item_by, items_from, pieces_after, reading}
use Rattle.mdinline.specs.held.ReadMarks.{marks_back, ones}
use Rattle.mdinline.specs.held.ReadSteps.{AreLeaves, LeadsTo, rest_from}
use Rattle.mdinline.proofs.ReadMarks.{back_append, ones_append}
use Rattle.mdinline.proofs.RunTokens.{run_size}

pub byte_at : (text : List ℕ) (at : ℕ) → at < length text → drop at text ≡ slice_index text at ∷ drop (at + 1) text
byte_at text at h = rw (add-one, drop-cons text at 0) refl

module _ (entities : EntityTable) (table : Table) (text : List ℕ) where
  skipped : (skip at : ℕ) (ps : List Piece) → at + skip ≤ length text → items_from entities table text at skip ps (drop at text) ≡ rest_from entities table text (at + skip) ps
  unfolding items_from
  skipped zero at ps le = ap (λ k. items_from entities table text k 0 ps (drop k text)) (let e : at ≡ at + 0 = omega arith in e)
  skipped (suc skip) at ps le =
      ap (items_from entities table text at (suc skip) ps) (byte_at text at (omega (arith, le))) ∙ skipped skip (at + 1) ps (omega (arith, le))
      ∙ ap (λ k. rest_from entities table text k ps) (let e : at + 1 + skip ≡ at + suc skip = omega arith in e)

  first_item : (at end : ℕ) (ps : List Piece) (x : Item) → at < length text → x ≡ item_at entities table text at ps → end ≡ at + x.size → at < end → end ≤ length text →
      rest_from entities table text at ps ≡ x ∷ rest_from entities table text end (after_deed x.deed ps)
  unfolding items_from
  first_item at end ps x lt is e later within =
      ap (items_from entities table text at 0 ps) (byte_at text at lt)
      ∙ ap (λ (y : Item). y ∷ items_from entities table text (at + 1) (y.size - 1) (after_deed y.deed ps) (drop (at + 1) text)) (sym is)
      ∙ ap (λ xs. x ∷ xs) (skipped (x.size - 1) (at + 1) (after_deed x.deed ps) (omega (arith, e, later, within)))
      ∙ ap (λ k. x ∷ rest_from entities table text k (after_deed x.deed ps)) (let z : at + 1 + (x.size - 1) ≡ end = omega (arith, e, later) in z)

  pub leads_by : (at end : ℕ) (ps : List Piece) (x : Item) → at < length text → x ≡ item_at entities table text at ps → end ≡ at + x.size → at < end → end ≤ length text →
      LeadsTo entities table text at ps x.asks end (after_deed x.deed ps)
  unfolding pieces_after asks_of
  leads_by at end ps x lt is e later within =
      let all = first_item at end ps x lt is e later within in
      record { pieces = ap (λ xs. pieces_after xs ps) all; asks = ap asks_of all }

  pub leads_nowhere : (at : ℕ) (ps : List Piece) → LeadsTo entities table text at ps [] at ps
  leads_nowhere at ps = record { pieces = refl; asks = refl }

  pub leads_more : (at mid end : ℕ) (ps qs rs : List Piece) (ls ms : List (List ℕ)) → LeadsTo entities table text at ps ls mid qs → LeadsTo entities table text mid qs ms end rs → LeadsTo entities table text at ps (ls ++ ms) end rs
  leads_more at mid end ps qs rs ls ms h k = record {
    pieces = h.pieces ∙ k.pieces;
    asks = h.asks ∙ ap (λ xs. ls ++ xs) k.asks ∙ sym (append_assoc ls ms (asks_of (rest_from entities table text end rs)));
  }

  -- where a text has ended

  pub all_read : (at : ℕ) (ps : List Piece) → length text ≤ at → rest_from entities table text at ps ≡ []
  unfolding items_from
  all_read at ps le = ap (items_from entities table text at 0 ps) (past at text le)
    where
      past : {X : Type 0} (n : ℕ) (xs : List X) → length xs ≤ n → drop n xs ≡ []
      past zero [] le = refl
      past (suc n) [] le = refl
      past zero (x ∷ xs) le = absurd (omega (arith, le))
      past (suc n) (x ∷ xs) le = past n xs (omega (arith, le))

  -- a lexeme

  pub leads_lexeme : (at end : ℕ) (ps : List Piece) (l : Lexeme) → at < length text → lex entities text at ≡ l → end ≡ at + (item_by entities table text at ps l.size l.kind).size → at < end → end ≤ length text →
      LeadsTo entities table text at ps (item_by entities table text at ps l.size l.kind).asks end (after_deed (item_by entities table text at ps l.size l.kind).deed ps)
  unfolding item_at
  leads_lexeme at end ps l lt is e later within =
      leads_by at end ps (item_by entities table text at ps l.size l.kind) lt (ap (λ (m : Lexeme). item_by entities table text at ps m.size m.kind) (sym is)) e later within

  -- a leaf, or a text of many of them

  pub record LeadsPast (at : ℕ) (ps : List Piece) (end : ℕ) (es : List Event) : Type 0 where
    pub made : List Piece
    pub plain : AreLeaves made
    pub same : ones es ≡ marks_back made
    pub leads : LeadsTo entities table text at ps [] end (made ++ ps)

  pub leads_leaf : (at end : ℕ) (ps : List Piece) (es : List Event) → at < length text → lex entities text at ≡ leaf (end - at) es → at < end → end ≤ length text → LeadsPast at ps end es
  leads_leaf at end ps es lt is later within = record {
    made = Made false es ∷ [];
    plain = tt;
    same = sym (append-nil (ones es));
    leads = leads_lexeme at end ps (leaf (end - at) es) lt is (omega (arith, later)) later within;
  }

  taken_next : (n at : ℕ) → at + 1 + n ≤ length text → take 1 (drop at text) ++ take n (drop (at + 1) text) ≡ take (suc n) (drop at text)
  taken_next n at le = rw (byte_at text at (omega (arith, le))) refl

  both_leaves : (ps qs : List Piece) → AreLeaves ps → AreLeaves qs → AreLeaves (ps ++ qs)
  both_leaves [] qs h k = k
  both_leaves (Made false es ∷ ps) qs h k = both_leaves ps qs h k
  both_leaves (Made true es ∷ ps) qs h k = absurd h
  both_leaves (Run r ∷ ps) qs h k = absurd h
  both_leaves (Opening i b ∷ ps) qs h k = absurd h

  pub leads_text : (n at : ℕ) (ps : List Piece) → at + n ≤ length text → ((i : ℕ) → at ≤ i → i < at + n → lex entities text i ≡ as_written 1 (drop i text)) → LeadsPast at ps (at + n) (written (take n (drop at text)))
  leads_text zero at ps le each = record {
    made = [];
    plain = tt;
    same = refl;
    leads = subst (λ k. LeadsTo entities table text at ps [] k ps) (let e : at ≡ at + 0 = omega arith in e) (leads_nowhere at ps);
  }
  leads_text (suc n) at ps le each =
      let here = as_written 1 (drop at text) in
      let es = written (take 1 (drop at text)) in
      let first = leads_lexeme at (at + 1) ps here (omega (arith, le)) (each at (omega arith) (omega arith)) refl (omega arith) (omega (arith, le)) in
      let rest = leads_text n (at + 1) (Made false es ∷ ps) (omega (arith, le)) (λ i from lt. each i (omega (arith, from)) (omega (arith, lt))) in
      let there : at + 1 + n ≡ at + suc n = omega arith in
      let more : List Event = written (take n (drop (at + 1) text)) in
      record {
        made = rest.made ++ Made false es ∷ [];
        plain = both_leaves rest.made (Made false es ∷ []) rest.plain tt;
        same = ap (λ xs. ones (written xs)) (sym (taken_next n at (omega (arith, le)))) ∙ ap ones (written_both (take 1 (drop at text)) (take n (drop (at + 1) text)))
            ∙ ones_append es more ∙ ap (λ ms. ms ++ ones more) (sym (append-nil (ones es))) ∙ ap (λ ms. (ones es ++ []) ++ ms) rest.same ∙ sym (back_append rest.made (Made false es ∷ []));
        leads = subst (λ qs. LeadsTo entities table text at ps [] (at + suc n) qs) (sym (append_assoc rest.made (Made false es ∷ []) ps))
            (subst (λ k. LeadsTo entities table text at ps [] k (rest.made ++ Made false es ∷ ps)) there
            (leads_more at (at + 1) (at + 1 + n) ps (Made false es ∷ ps) (rest.made ++ Made false es ∷ ps) [] [] first rest.leads));
      }
    where
      written_both : (xs ys : List ℕ) → written (xs ++ ys) ≡ written xs ++ written ys
      written_both [] ys = refl
      written_both (x ∷ xs) ys = ap (λ es. Byte x ∷ es) (written_both xs ys)

-- a run

by_mark : (b : ℕ) (d : DelimiterChar) → delimiter_of b ≡ Some d → sign_of b ≡ DelimiterMark
by_mark b d h = by (eqb b 42) (eqb b 95) (eqb b 126) refl refl refl h
  where
    by : (s t u : Bool) → eqb b 42 ≡ s → eqb b 95 ≡ t → eqb b 126 ≡ u → delimiter_of b ≡ Some d → sign_of b ≡ DelimiterMark
    by true t u e f g h = (let is : b ≡ 42 = grind (arith, nat_tests, e) in ap sign_of is)
    by false true u e f g h = (let is : b ≡ 95 = grind (arith, nat_tests, f) in ap sign_of is)
    by false false true e f g h = (let is : b ≡ 126 = grind (arith, nat_tests, g) in ap sign_of is)
    by false false false e f g h = (let none : delimiter_of b ≡ None = rw (e, f, g) refl in cc)

run_sign : (text : List ℕ) (at : ℕ) (r : DelimiterRun) → run_at text at ≡ Some r → sign_of (slice_index text at) ≡ DelimiterMark
unfolding run_at
run_sign text at r h = of_some (option_and_then delimiter_of (slice_get text at)) refl h
  where
    byte_there : (xs : List ℕ) (i : ℕ) (d : DelimiterChar) → option_and_then delimiter_of (slice_get xs i) ≡ Some d → delimiter_of (slice_index xs i) ≡ Some d
    byte_there [] i d e = cc
    byte_there (x ∷ xs) zero d e = e
    byte_there (x ∷ xs) (suc i) d e = byte_there xs i d e

    of_some : (o : Option DelimiterChar) → option_and_then delimiter_of (slice_get text at) ≡ o → run_of text at o ≡ Some r → sign_of (slice_index text at) ≡ DelimiterMark
    of_some None e f = cc
    of_some (Some d) e f = by_mark (slice_index text at) d (byte_there text at d e)

pub run_kept : (entities : EntityTable) (text : List ℕ) (at : ℕ) (r : DelimiterRun) → delimiters_at entities text at ≡ Some r → run_at text at ≡ Some r
run_kept entities text at r h = by (run_at text at) h
  where
    whole : (run : DelimiterRun) (t : Bool) → (if t then None else Some run) ≡ Some r → Some run ≡ Some r
    whole run true h = cc
    whole run false h = h

    by : (o : Option DelimiterRun) → kept_run entities o ≡ Some r → o ≡ Some r
    by None h = h
    by (Some run) h = whole run (is_lone_tilde run.delimiter run.length && entities.double_tilde) h

pub at_run : (entities : EntityTable) (text : List ℕ) (at : ℕ) (r : DelimiterRun) → delimiters_at entities text at ≡ Some r → lex entities text at ≡ record { size = r.length; kind = Delimiters r }
unfolding lex
at_run entities text at r h = ap (lexeme_by entities text at (drop at text)) (run_sign text at r (run_kept entities text at r h)) ∙ ap (run_lexeme (drop at text)) h

-- its characters
pub run_text : (text : List ℕ) (at : ℕ) (r : DelimiterRun) → Some r ≡ run_at text at → at + r.length ≤ length text → take r.length (drop at text) ≡ replicate r.length (byte_of r.delimiter)
run_text text at r e within = all r.length (drop at text) (omega (arith, within, length-drop at text)) (λ i lt.
    (let passes : eqb (get_or (drop at text) i 0) (byte_of r.delimiter) ≡ true = prefix_len_passes (λ b. eqb b (byte_of r.delimiter)) (drop at text) i 0 (omega (arith, lt, run_size text at r e)) in
    grind (arith, nat_tests, passes)))
  where
    all : (n : ℕ) (xs : List ℕ) → n ≤ length xs → ((i : ℕ) → i < n → get_or xs i 0 ≡ byte_of r.delimiter) → take n xs ≡ replicate n (byte_of r.delimiter)
    all zero xs le each = refl
    all (suc n) [] le each = absurd (omega (arith, le))
    all (suc n) (x ∷ xs) le each = ap (λ y. y ∷ take n xs) (each 0 (omega arith)) ∙ ap (λ ys. byte_of r.delimiter ∷ ys) (all n xs (omega (arith, le)) (λ i lt. each (suc i) (omega (arith, lt))))

-- at the end of a text nothing is left to be read
pub ends_in : (entities : EntityTable) (table : Table) (text : List ℕ) (at : ℕ) (looked : List (List ℕ)) (ps : List Piece) → length text ≤ at → LeadsTo entities table text 0 [] looked at ps →
    (pieces_after (reading entities table text) [] ≡ ps) × (asks_of (reading entities table text) ≡ looked)
unfolding pieces_after asks_of
ends_in entities table text at looked ps le h =
    let none = all_read entities table text at ps le in
    (h.pieces ∙ ap (λ xs. pieces_after xs ps) none, h.asks ∙ ap (λ xs. looked ++ asks_of xs) none ∙ append-nil looked)
