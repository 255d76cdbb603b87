use Rattle.std.proofs.Common.{◌<◌, ◌^◌, ◌∙◌, All, Vec, Global, length, arith, rules, ap, sym, subst, refl}
use Rattle.mdinline.specs.declared.tokens.Begun.{Begun}
use Rattle.mdinline.specs.declared.tokens.PairedRun.{PairedRun}
use Rattle.mdinline.specs.held.ReadMarks.{marked}
use Rattle.mdinline.specs.held.ReadPending.{HasSpansOf, IsSpanned, shown_by, shown_pieces}
use Rattle.mdinline.proofs.ReadPaired.{all_made, few_places, mark_run, none_made}
use Rattle.mdinline.proofs.pending.Pending.mark_from.Goals as goal

pub loop-i-init : goal.loop-i-init
loop-i-init c = record {
  same = record { openings = refl; runs = refl; places = refl; paired = refl; pairing = refl; begun = refl };
  tokens = λ text h. h;
  value = λ entities text h. none_made entities text c.args.from c.args.self.now h;
  spans = λ k h. h;
}

pub loop-i-preserved : goal.loop-i-preserved
loop-i-preserved c =
    let before = c.loop-i.invariant in
    let now = c.mark.ensures in
    let was = before.same in
    let i = c.loop-i.i in
    let below = c.loop-i-test.true in
    let all = c.len-i-end.ensures ∙ c.args.self.now.paired.ok.0 in
    let inside : i < length c.args.self.now.paired.items = omega (arith, below, all) in
    let room : length c.args.self.now.places.items < 2 ^ 64 = search rules in
    let sum = c.saturating_add.ensures in
    record {
      same = record {
        openings = now.same.openings ∙ was.openings;
        runs = now.same.runs ∙ was.runs;
        places = now.same.places ∙ was.places;
        paired = now.same.paired ∙ was.paired;
        pairing = now.same.pairing ∙ was.pairing;
        begun = now.same.begun ∙ was.begun;
      };
      tokens = λ text h. now.tokens text (before.tokens text h);
      value = λ entities text h.
          let few = few_places entities text c.args.from c.args.self.now h i inside in
          mark_run entities text c.args.from c.args.self.now h i c.saturating_add.result c.loop-i.self c.mark.new.self inside (omega (arith, sum, few, room)) was.places was.paired
          (before.value entities text h) now.value;
      spans = λ k h. subst (λ (v : Vec Begun Global). All (IsSpanned v.items) c.mark.new.self.tokens.items) was.begun
          (now.spans (subst (λ (v : Vec Begun Global). All (HasSpansOf v.items) c.loop-i.self.paired.items) (sym was.begun) (subst (λ (v : Vec PairedRun Global). All (HasSpansOf c.args.self.now.begun.items) v.items) (sym was.paired) k))
          (subst (λ (v : Vec Begun Global). All (IsSpanned v.items) c.loop-i.self.tokens.items) (sym was.begun) (before.spans k h)));
    }

pub returns-clause-value : goal.returns-clause-value
returns-clause-value c = λ entities text h.
    let past = c.loop-i-test.false in
    let all = c.len-i-end.ensures ∙ c.args.self.now.paired.ok.0 in
    ap (λ (v : Vec Begun Global). shown_by entities text v.items c.loop-i.self.tokens.items) c.loop-i.invariant.same.begun ∙ c.loop-i.invariant.value entities text h
    ∙ ap (marked (shown_pieces entities text c.args.self.now) c.args.from) (all_made entities text c.args.from c.args.self.now h c.loop-i.i (omega (arith, past, all)))

pub returns-clause-spans : goal.returns-clause-spans
returns-clause-spans c = λ k h. c.loop-i.invariant.spans k h
