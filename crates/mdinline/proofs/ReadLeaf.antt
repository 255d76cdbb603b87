-- A leaf that was found is what the definition reads there, and where the reading stands.
use Rattle.std.proofs.Common.{◌≡◌, ℕ, ◌+◌, ◌-◌, ◌<◌, ◌≤◌, List, [], ◌∷◌, length, take, drop, ap, sym, subst, arith}
use Rattle.std.proofs.Math.Logic.{◌⊎◌, inl, inr}
use Rattle.std.proofs.Math.Nat.{eq-or-lt_of_le}
use Rattle.mdtext.specs.EntityTable.{EntityTable}
use Rattle.mdscan.specs.Spans.{IsEndAfter}
use Rattle.mdpair.specs.declared.delimiter_runs.DelimiterRun.{DelimiterRun}
use Rattle.inlinespec.specs.InlineEvents.{Event, written}
use Rattle.inlinespec.specs.Lexemes.{Kind, Leaf, Delimiters, OpenBracket, CloseBracket, Lexeme, as_written, leaf}
use Rattle.inlinespec.specs.Lexing.{lex}
use Rattle.inlinespec.specs.LinkTails.{Table}
use Rattle.inlinespec.specs.Pieces.{Piece, Run}
use Rattle.mdinline.specs.declared.bracket_stack.BracketStack.{BracketStack}
use Rattle.mdinline.specs.declared.scanner.Found.{Found}
use Rattle.mdinline.specs.declared.scanner.Scanner.{Scanner}
use Rattle.mdinline.specs.held.KnownText.{IsLeafAt, IsPlainAt, KnowsText}
use Rattle.mdinline.specs.held.LeafEvents.{leaf_events}
use Rattle.mdinline.specs.held.UnusedOpeners.{AreOpenersOf}
use Rattle.mdinline.proofs.LongTagEnds.{known_later}
use Rattle.mdinline.proofs.ReadSteps.{LeadsPast, leads_leaf, leads_text}

kind_events : Kind → List Event
kind_events (Leaf es) = es
kind_events (Delimiters r) = []
kind_events (OpenBracket image) = []
kind_events CloseBracket = []

same_events : (n m : ℕ) (es fs : List Event) → leaf n es ≡ leaf m fs → es ≡ fs
unfolding kind_events
same_events n m es fs e = ap (λ (l : Lexeme). kind_events l.kind) e

plain_each : (entities : EntityTable) (text : List ℕ) (at : ℕ) (found : Found) → IsPlainAt entities text at found → (i : ℕ) → (at ≡ i) ⊎ (at < i) → i < found.end → lex entities text i ≡ as_written 1 (drop i text)
plain_each entities text at found plain i (inl e) under = subst (λ k. lex entities text k ≡ as_written 1 (drop k text)) e plain.first
plain_each entities text at found plain i (inr more) under = plain.rest entities i (omega (arith, more)) under

pub leaf_leads : (entities : EntityTable) (table : Table) (text : List ℕ) (at : ℕ) (ps : List Piece) (found : Found) → at < length text → IsEndAfter text at found.end → IsLeafAt entities text at found →
    LeadsPast entities table text at ps found.end (leaf_events entities text found.token)
leaf_leads entities table text at ps found lt end (inl e) =
    let later = end.later in
    let within = end.within in
    leads_leaf entities table text at found.end ps (leaf_events entities text found.token) lt (sym e) (omega (arith, later)) (omega (arith, within))
leaf_leads entities table text at ps found lt end (inr plain) =
    let later = end.later in
    let within = end.within in
    let n = found.end - at in
    let there : at + n ≡ found.end = omega (arith, later) in
    let each : (i : ℕ) → at ≤ i → i < at + n → lex entities text i ≡ as_written 1 (drop i text) =
    λ i from under. plain_each entities text at found plain i (eq-or-lt_of_le from) (omega (arith, under, there)) in
    let all = leads_text entities table text n at ps (omega (arith, there, within)) each in
    let is : written (take n (drop at text)) ≡ leaf_events entities text found.token = sym (same_events n n (leaf_events entities text found.token) (written (take n (drop at text))) plain.whole) in
    subst (λ k. LeadsPast entities table text at ps k (leaf_events entities text found.token)) there
    (subst (λ es. LeadsPast entities table text at ps (at + n) es) is all)

-- what is kept of the whole text is true from a later place on
pub knows_later : (text : List ℕ) (at later : ℕ) (scanner : Scanner) → at ≤ later → KnowsText text at scanner → KnowsText text later scanner
knows_later text at later scanner le h = record { strings = h.strings; ends = known_later text at later scanner.endless_tags le h.ends }

-- a run is no bracket
pub run_unused : (ps : List Piece) (openings : BracketStack) (r : DelimiterRun) → AreOpenersOf ps openings → AreOpenersOf (Run r ∷ ps) openings
run_unused ps openings r h = record { all = h.all; links = h.links }
