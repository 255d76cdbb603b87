use Rattle.std.proofs.Common.{◌≡◌, ℕ, refl, All, [], ◌++◌, List, reverse, ap, sym, subst, ◌∙◌}
use Rattle.std.proofs.lemmas.Str.{IsCharBoundary-start}
use Rattle.std.proofs.lemmas.List.Elements.{All-nil}
use Rattle.mdtext.specs.EntityTable.{EntityTable}
use Rattle.inlinespec.specs.Pieces.{Piece}
use Rattle.inlinespec.specs.Emphasis.{settled}
use Rattle.inlinespec.specs.TextReading.{reading}
use Rattle.inlinespec.specs.TextTree.{events_of}
use Rattle.mdinline.specs.held.Brackets.{AreBracketsOf, IsBehindBracket}
use Rattle.mdinline.specs.held.LeafEvents.{IsTokenOf}
use Rattle.mdinline.specs.held.ReadPending.{HoldsPieces}
use Rattle.mdinline.specs.held.ReadSteps.{LeadsTo}
use Rattle.mdinline.specs.held.ReadTo.{IsReadTo}
use Rattle.mdinline.proofs.ReadSteps.{ends_in, leads_more, leads_nowhere}
use Rattle.mdinline.proofs.readers.TextReader.read_all.Goals as goal

pub loop-at-init : goal.loop-at-init
loop-at-init g c =
    let entities = c.args.self.now.entities.now in
    let table = g.L.Labels.target c.args.labels.now in
    let text = c.args.text.now in
    record {
      entities = c.begin.ensures.entities;
      whole = IsCharBoundary-start _ c.utf8.text;
      brackets = subst (λ openings. AreBracketsOf c.args.text.now 0 openings) (sym c.begin.ensures.unused) (All-nil (λ opening. IsBehindBracket c.args.text.now 0 opening.begin));
      tokens = subst (λ tokens. All (IsTokenOf c.args.text.now) tokens) (sym c.begin.ensures.tokens) (All-nil (IsTokenOf c.args.text.now));
      reads = ([], [], [], g.met.S.InlineSink.takes_none c.args.sink.now, leads_nowhere entities table text 0 [], g.met.A.AsksLabels.asks_none c.args.asked.now, c.begin.ensures.reads text);
    }

pub loop-at-preserved : goal.loop-at-preserved
loop-at-preserved g c =
    let entities = c.args.self.now.entities.now in
    let table = g.L.Labels.target c.args.labels.now in
    let text = c.args.text.now in
    let before = c.loop-at.invariant.reads in
    let here = before.6 in
    let now = c.in_ok-at.ensures.reads in
    let own : IsReadTo c.loop-at.self.entities.now text c.loop-at.at before.0 c.loop-at.self before.2 = record {
      entities_same = refl;
      knows = here.knows;
      unused = here.unused;
      pieces = subst (λ (e : EntityTable). HoldsPieces e text before.0 c.loop-at.self.pending before.2) (sym here.entities_same) here.pieces;
    } in
    let next = subst (λ (e : EntityTable). (looked : List (List ℕ)) × (qs : List Piece) × LeadsTo e table text c.loop-at.at before.2 looked c.in_ok-at.at qs
    × g.A.AsksLabels.asks c.loop-at.asked looked c.step.new.asked × IsReadTo e text c.in_ok-at.at (before.0 ++ now.0) c.step.new.self qs) here.entities_same (now.2 before.0 before.2 own) in
    record {
      entities = c.in_ok-at.ensures.entities ∙ c.loop-at.invariant.entities;
      whole = c.in_ok-at.ensures.end.whole;
      brackets = c.in_ok-at.ensures.brackets;
      tokens = c.in_ok-at.ensures.tokens;
      reads = (
        before.0 ++ now.0,
        before.1 ++ next.0,
        next.1,
        g.met.S.InlineSink.takes_more c.args.sink.now c.loop-at.sink c.step.new.sink before.0 now.0 before.3 now.1,
        leads_more entities table text 0 c.loop-at.at c.in_ok-at.at [] before.2 next.1 before.1 next.0 before.4 next.2,
        g.met.A.AsksLabels.asks_more c.args.asked.now c.loop-at.asked c.step.new.asked before.1 next.0 before.5 next.3,
        next.4,
      );
    }

pub returns-clause-takes : goal.returns-clause-takes
returns-clause-takes g c =
    let entities = c.args.self.now.entities.now in
    let table = g.L.Labels.target c.args.labels.now in
    let text = c.args.text.now in
    let before = c.loop-at.invariant.reads in
    let here = before.6 in
    let end = ends_in entities table text c.loop-at.at before.1 before.2 c.loop-at-test.false before.4 in
    let now = c.in_ok-end.ensures.takes in
    let held = subst (λ (e : EntityTable). HoldsPieces e text before.0 c.loop-at.self.pending before.2) (sym here.entities_same) here.pieces in
    let all : before.0 ++ now.0 ≡ events_of (reading entities table text) = sym (ap (λ ps. settled (reverse ps)) end.0 ∙ now.2 before.0 before.2 held) in
    subst (λ fs. g.S.InlineSink.takes c.args.sink.now fs c.end.new.sink) all
    (g.met.S.InlineSink.takes_more c.args.sink.now c.loop-at.sink c.end.new.sink before.0 now.0 before.3 now.1)

pub returns-clause-asks : goal.returns-clause-asks
returns-clause-asks g c =
    let entities = c.args.self.now.entities.now in
    let table = g.L.Labels.target c.args.labels.now in
    let text = c.args.text.now in
    let before = c.loop-at.invariant.reads in
    let end = ends_in entities table text c.loop-at.at before.1 before.2 c.loop-at-test.false before.4 in
    subst (λ looked. g.A.AsksLabels.asks c.args.asked.now looked c.loop-at.asked) (sym end.1) before.5
