use Rattle.std.proofs.Common.{◌≡◌, ℕ, ◌+◌, ◌-◌, ◌<◌, List, [], ◌∷◌, ◌++◌, length, false, None, get_or, slice_index, refl, sym, subst, ◌∙◌, arith}
use Rattle.std.proofs.Math.Logic.{inl, inr}
use Rattle.mdtext.specs.EntityTable.{EntityTable}
use Rattle.mdscan.specs.Spans.{IsEndAfter}
use Rattle.inlinespec.specs.InlineEvents.{Event}
use Rattle.inlinespec.specs.Lexemes.{Lexeme, Delimiters}
use Rattle.inlinespec.specs.DelimiterRuns.{delimiters_at}
use Rattle.inlinespec.specs.Lexing.{lex}
use Rattle.inlinespec.specs.LinkTails.{Table}
use Rattle.inlinespec.specs.Pieces.{Piece, Run}
use Rattle.inlinespec.specs.TextReading.{after_deed, item_by}
use Rattle.mdinline.specs.declared.readers.TextReader.{TextReader}
use Rattle.mdinline.specs.declared.scanner.Found.{Found}
use Rattle.mdinline.specs.declared.tokens.Token.TheVariants as kept
use Rattle.mdinline.specs.held.KnownText.{IsLeafAt, IsPlainAt, KnowsText}
use Rattle.mdinline.specs.held.LeafEvents.{leaf_events}
use Rattle.mdinline.specs.held.PlainText.{is_bracket}
use Rattle.mdinline.specs.held.PutLeaves.{PutsLeaf}
use Rattle.mdinline.specs.held.ReadSteps.{LeadsTo}
use Rattle.mdinline.specs.held.ReadTo.{IsReadTo}
use Rattle.mdinline.specs.held.Recognised.{bracket_of, kind_of, lexeme_of}
use Rattle.mdinline.specs.held.UnusedOpeners.{AreOpenersOf}
use Rattle.mdinline.proofs.Marks.{behind_next, same_place}
use Rattle.mdinline.proofs.ReadHolding.{leaves_unused}
use Rattle.mdinline.proofs.ReadLeaf.{knows_later, leaf_leads, run_unused}
use Rattle.mdinline.proofs.ReadSteps.{at_run, leads_lexeme, run_kept}
use Rattle.mdinline.proofs.SignItems.{at_feed}
use Rattle.mdinline.proofs.readers.TextReader.step.Goals as goal

pub bracket-requires-clause-bracket : goal.bracket-requires-clause-bracket
bracket-requires-clause-bracket g c =
    behind_next c.args.text.now c.as_bytes-bytes.result.now c.args.at c.args.at c.in-Some-bracket_at.bracket.end c.as_bytes-bytes.ensures.value c.utf8.text (same_place c.args.at) c.in-Some-bracket_at.ensures.end

pub bracket-requires-clause-mark : goal.bracket-requires-clause-mark
bracket-requires-clause-mark g c = subst (λ t. slice_index t c.args.at < 128) c.as_bytes-bytes.ensures.value c.in-Some-bracket_at.ensures.mark

pub run-requires-clause-run : goal.run-requires-clause-run
run-requires-clause-run g c = sym (run_kept c.args.self.now.entities.now c.args.text.now c.args.at c.in-Some.run' (sym c.in-Some.ensures.value))

pub plain_end-end-requires-clause-first : goal.plain_end-end-requires-clause-first
plain_end-end-requires-clause-first g c = c.begins_text.ensures.first c.if-begins_text.true

pub soft_break_end-end-requires-clause-feed : goal.soft_break_end-end-requires-clause-feed
soft_break_end-end-requires-clause-feed g c = subst (λ t. get_or t c.args.at 0 ≡ 10) c.as_bytes-bytes.ensures.value c.if-bytes-at-eq10.true

-- a leaf that is put behind what is held
leaf_reads : (entities : EntityTable) (table : Table) (text : List ℕ) (at : ℕ) (found : Found) (es : List Event) (old new : TextReader)
    (Asks : List (List ℕ) → Type 0) →
    at < length text → IsEndAfter text at found.end → (KnowsText text at old.scanner → IsLeafAt entities text at found) →
    (KnowsText text at old.scanner → KnowsText text at new.scanner) →
    new.entities ≡ old.entities → new.pending.openings ≡ old.pending.openings →
    PutsLeaf entities text (leaf_events entities text found.token) es old.pending new.pending → Asks [] →
    (handed : List Event) (ps : List Piece) → IsReadTo entities text at handed old ps →
    (looked : List (List ℕ)) × (next : List Piece) × LeadsTo entities table text at ps looked found.end next × Asks looked
    × IsReadTo entities text found.end (handed ++ es) new next
leaf_reads entities table text at found es old new Asks inside end leaf knows same openings puts asks handed ps h =
    let led = leaf_leads entities table text at ps found inside end (leaf h.knows) in
    let later = end.later in (
      [],
      led.made ++ ps,
      led.leads,
      asks,
      record {
        entities_same = rw same h.entities_same;
        knows = knows_later text at found.end new.scanner (omega (arith, later)) (knows h.knows);
        unused = subst (AreOpenersOf (led.made ++ ps)) (sym openings) (leaves_unused led.made ps old.pending.openings led.plain h.unused);
        pieces = puts handed ps led.made led.plain led.same h.pieces;
      },
    )

pub returns-then-begins_text-clause-reads : goal.returns-then-begins_text-clause-reads
returns-then-begins_text-clause-reads g c =
    let entities = c.args.self.now.entities.now in
    let text = c.args.text.now in
    let at = c.args.at in
    let end = c.plain_end-end.result in
    let now = c.in_ok-put_text.ensures in
    let found : Found = record { token = kept.Plain (record { start = at; end = end }); end = end } in
    let plain : IsPlainAt entities text at found = record { first = c.begins_text.ensures.value c.if-begins_text.true entities; rest = c.plain_end-end.ensures.rest; whole = refl } in (
      now.takes.0,
      now.takes.1,
      leaf_reads entities (g.L.Labels.target c.args.labels.now) text at found now.takes.0 c.args.self.now c.put_text.new.self
          (λ looked. g.A.AsksLabels.asks c.args.asked.now looked c.args.asked.now)
          c.requires.inside c.plain_end-end.ensures.end (λ _. inr plain) (subst (KnowsText text at) (sym now.stays.scanner)) now.stays.entities now.stays.openings now.takes.2
          (g.met.A.AsksLabels.asks_none c.args.asked.now),
    )

pub returns-then-begins_mark-clause-reads : goal.returns-then-begins_mark-clause-reads
returns-then-begins_mark-clause-reads g c =
    let entities = c.args.self.now.entities.now in
    let text = c.args.text.now in
    let at = c.args.at in
    let end = at + 1 in
    let now = c.in_ok-put_mark.ensures in
    let found : Found = record { token = kept.Text (record { start = at; end = end }); end = end } in
    let plain : IsPlainAt entities text at found = record { first = c.begins_mark.ensures.value c.if-begins_mark.true entities; rest = λ e i low high. absurd (omega (arith, low, high)); whole = refl } in (
      now.takes.0,
      now.takes.1,
      leaf_reads entities (g.L.Labels.target c.args.labels.now) text at found now.takes.0 c.args.self.now c.put_mark.new.self
          (λ looked. g.A.AsksLabels.asks c.args.asked.now looked c.args.asked.now)
          c.requires.inside (c.begins_mark.ensures.end c.if-begins_mark.true) (λ _. inr plain) (subst (KnowsText text at) (sym now.stays.scanner)) now.stays.entities
          now.stays.openings now.takes.2 (g.met.A.AsksLabels.asks_none c.args.asked.now),
    )

pub returns-then-bytes-at-eq10-clause-tokens : goal.returns-then-bytes-at-eq10-clause-tokens
returns-then-bytes-at-eq10-clause-tokens g c = c.in_ok-put_break.ensures.tokens c.args.text.now c.requires.tokens

pub returns-then-bytes-at-eq10-clause-reads : goal.returns-then-bytes-at-eq10-clause-reads
returns-then-bytes-at-eq10-clause-reads g c =
    let entities = c.args.self.now.entities.now in
    let text = c.args.text.now in
    let at = c.args.at in
    let now = c.in_ok-put_break.ensures in
    let found : Found = record { token = kept.SoftBreak; end = c.soft_break_end-end.result } in
    let feed = subst (λ t. get_or t at 0 ≡ 10) c.as_bytes-bytes.ensures.value c.if-bytes-at-eq10.true in
    let here : lexeme_of entities text at found ≡ lex entities text at = sym (at_feed entities text at feed ∙ c.soft_break_end-end.ensures.value) in (
      now.takes.0,
      now.takes.1,
      leaf_reads entities (g.L.Labels.target c.args.labels.now) text at found now.takes.0 c.args.self.now c.put_break.new.self
          (λ looked. g.A.AsksLabels.asks c.args.asked.now looked c.args.asked.now)
          c.requires.inside c.soft_break_end-end.ensures.end (λ _. inl here) (subst (KnowsText text at) (sym now.stays.scanner)) now.stays.entities now.stays.openings
          (now.takes.2 text) (g.met.A.AsksLabels.asks_none c.args.asked.now),
    )

pub returns-in-Some-clause-reads : goal.returns-in-Some-clause-reads
returns-in-Some-clause-reads g c =
    let entities = c.args.self.now.entities.now in
    let table = g.L.Labels.target c.args.labels.now in
    let text = c.args.text.now in
    let at = c.args.at in
    let run = c.in-Some.run' in
    let now = c.in_ok-run.ensures in
    let took = now.takes in
    let some = c.in-Some.ensures.some in
    let l : Lexeme = record { size = run.length; kind = Delimiters run } in (
      took.0,
      took.1,
      λ handed ps h. (
        [],
        Run run ∷ ps,
        leads_lexeme entities table text at (at + run.length) ps l c.requires.inside (at_run entities text at run (sym c.in-Some.ensures.value)) refl (omega (arith, some)) c.in-Some.ensures.within,
        g.met.A.AsksLabels.asks_none c.args.asked.now,
        record {
          entities_same = rw now.stays.entities refl;
          knows = subst (KnowsText text (at + run.length)) (sym now.stays.scanner) (knows_later text at (at + run.length) c.args.self.now.scanner (omega arith) h.knows);
          unused = subst (AreOpenersOf (Run run ∷ ps)) (sym now.stays.openings) (run_unused ps c.args.self.now.pending.openings run h.unused);
          pieces = took.2 handed ps h.pieces;
        },
      ),
    )

pub returns-in-Some-bracket_at-clause-reads : goal.returns-in-Some-bracket_at-clause-reads
returns-in-Some-bracket_at-clause-reads g c =
    let entities = c.args.self.now.entities.now in
    let table = g.L.Labels.target c.args.labels.now in
    let text = c.args.text.now in
    let at = c.args.at in
    let bracket = c.in-Some-bracket_at.bracket in
    let now = c.in_ok-end.ensures in
    let took = now.takes in
    let end = c.in_ok-end.end in
    let later = now.end.later in
    let lexed : lex entities text at ≡ bracket_of at bracket = subst (λ t. lex entities t at ≡ bracket_of at bracket) c.as_bytes-bytes.ensures.value (c.in-Some-bracket_at.ensures.value entities) in (
      took.0,
      took.1,
      λ handed ps h. (
        (item_by entities table text at ps (bracket.end - at) (kind_of bracket.kind)).asks,
        after_deed (item_by entities table text at ps (bracket.end - at) (kind_of bracket.kind)).deed ps,
        leads_lexeme entities table text at end ps (bracket_of at bracket) c.requires.inside lexed (now.size ps h.unused entities) (omega (arith, later)) now.end.within,
        now.asks ps h.unused entities,
        record {
          entities_same = rw now.entities refl;
          knows = subst (KnowsText text end) (sym now.scanner) (knows_later text at end c.args.self.now.scanner (omega (arith, later)) h.knows);
          unused = now.openers ps h.unused entities;
          pieces = took.2 handed ps h.unused h.pieces;
        },
      ),
    )

pub returns-clause-reads : goal.returns-clause-reads
returns-clause-reads g c =
    let entities = c.args.self.now.entities.now in
    let text = c.args.text.now in
    let at = c.args.at in
    let found = c.in_ok-found.found in
    let leaf = c.in_ok-found.ensures in
    let now = c.in_ok-put.ensures in
    let no_run : delimiters_at entities text at ≡ None = sym c.in_default.ensures.value in
    let no_bracket : is_bracket (lex entities text at).kind ≡ false = subst (λ t. is_bracket (lex entities t at).kind ≡ false) c.as_bytes-bytes.ensures.value (c.in_default-bracket_at.ensures.value entities) in (
      now.takes.0,
      now.takes.1,
      leaf_reads entities (g.L.Labels.target c.args.labels.now) text at found now.takes.0 c.args.self.now c.put.new.self
          (λ looked. g.A.AsksLabels.asks c.args.asked.now looked c.args.asked.now)
          c.requires.inside leaf.end (leaf.value no_run no_bracket) (λ known. subst (KnowsText text at) (sym now.stays.scanner) (leaf.knows known)) now.stays.entities
          now.stays.openings (now.takes.2 leaf.leaf) (g.met.A.AsksLabels.asks_none c.args.asked.now),
    )
