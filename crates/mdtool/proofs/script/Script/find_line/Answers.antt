use Rattle.std.proofs.Common.{◌≡◌, [], length, drop, sym, ap, ◌∙◌, subst, arith, inl, inr, length-drop, true, false, rules}
use Rattle.std.proofs.lemmas.Result.{err_from_is_err_and}
use Rattle.std.proofs.lemmas.List.{drop_all}
use Rattle.mdtool.specs.Commands.{script_lines}
use Rattle.mdtool.specs.Pending.{Pending, Reads, IsOver}
use Rattle.mdtool.proofs.Readings.{reads_on, draws_on}
use Rattle.mdtool.proofs.Searches.{found, not_found, none_before}
use Rattle.mdtool.proofs.ScriptLines.{lines_done, lines_open}
use Rattle.mdtool.proofs.StepEnds.{fails_so}
use Rattle.mdtool.proofs.script.Script.find_line.Goals as goal

pub invariant_of-self : goal.invariant_of-self
invariant_of-self g c =
    let s = c.self.inside in
    let f = found c.deref.result.now s.taken.items s.start s.searched c.in-Some.at c.deref.ensures.value c.self.invariant.0 c.self.invariant.1 c.self.invariant.2 c.in-Some.ensures.some in
    (omega (arith, c.self.invariant.0), omega (arith, f.0), f.2)

pub returns-in-Some-clause-steps : goal.returns-in-Some-clause-steps
returns-in-Some-clause-steps g c =
    let P : Pending → Type 0 = λ p. Reads (g.R.Feed.left c.args.feed.now) c.args.self.now [] (g.R.Feed.left c.loop-at.feed) p in
    let s = c.self.inside in
    let f = found c.deref.result.now s.taken.items s.start s.searched c.in-Some.at c.deref.ensures.value c.self.invariant.0 c.self.invariant.1 c.self.invariant.2 c.in-Some.ensures.some in (
      subst P (sym c.self.view_is) c.loop-at.invariant.reads,
      record {
        unbroken = f.2;
        ends = inl (omega (arith, f.0, length-drop s.start s.taken.items), f.1);
      },
    )

pub returns-then-left-eq0-clause-steps : goal.returns-then-left-eq0-clause-steps
returns-then-left-eq0-clause-steps g c =
    let P : Pending → Type 0 = λ p. Reads (g.R.Feed.left c.args.feed.now) c.args.self.now [] (g.R.Feed.left c.loop-at.feed) p in
    let s = c.self.inside in (
      subst P (sym c.self.view_is) c.loop-at.invariant.reads,
      record {
        no_line = ap (script_lines true) (drop_all s.start s.taken.items (omega (arith, c.len.ensures, s.taken.ok.0, c.if-left-eq0.true))) ∙ lines_done;
        is_ended = c.if-self.true;
      },
    )

pub invariant_of-self-then-self : goal.invariant_of-self-then-self
invariant_of-self-then-self g c =
    let s = c.self.inside in
    let none = not_found c.deref.result.now s.taken.items s.start s.searched c.deref.ensures.value c.self.invariant.0 c.self.invariant.2 c.in_default.ensures.none in
    (omega (arith, c.self.invariant.0, c.self.invariant.1, c.len-self-inside.ensures, s.taken.ok.0), omega (arith, c.self.invariant.0, c.self.invariant.1, c.len-self-inside.ensures, s.taken.ok.0), none_before s.taken.items s.start _ (omega (arith, c.self.invariant.0, c.self.invariant.1, c.len-self-inside.ensures, s.taken.ok.0)) none)

pub returns-then-self-clause-steps : goal.returns-then-self-clause-steps
returns-then-self-clause-steps g c =
    let P : Pending → Type 0 = λ p. Reads (g.R.Feed.left c.args.feed.now) c.args.self.now [] (g.R.Feed.left c.loop-at.feed) p in
    let s = c.self.inside in
    let none = not_found c.deref.result.now s.taken.items s.start s.searched c.deref.ensures.value c.self.invariant.0 c.self.invariant.2 c.in_default.ensures.none in (
      subst P (sym c.self.view_is) c.loop-at.invariant.reads,
      record {
        unbroken = none_before s.taken.items s.start _ (omega (arith, c.len.ensures, s.taken.ok.0)) none;
        ends = inr (omega (arith, c.len.ensures, s.taken.ok.0, length-drop s.start s.taken.items), omega (arith, c.if-left-eq0.false), c.if-self.true);
      },
    )

pub invariant_of-self-in-loop-at : goal.invariant_of-self-in-loop-at
invariant_of-self-in-loop-at g c =
    let s = c.self.inside in
    let none = not_found c.deref.result.now s.taken.items s.start s.searched c.deref.ensures.value c.self.invariant.0 c.self.invariant.2 c.in_default.ensures.none in
    (omega (arith, c.self.invariant.0, c.self.invariant.1, c.len-self-inside.ensures, s.taken.ok.0), omega (arith, c.self.invariant.0, c.self.invariant.1, c.len-self-inside.ensures, s.taken.ok.0), none_before s.taken.items s.start _ (omega (arith, c.self.invariant.0, c.self.invariant.1, c.len-self-inside.ensures, s.taken.ok.0)) none)

pub loop-at-preserved : goal.loop-at-preserved
loop-at-preserved g c =
    let s = c.self.inside in
    let size : length (drop s.start s.taken.items) ≡ length c.loop-at.self.bytes = ap (λ (p : Pending). length p.bytes) c.self.view_is in
    record {
      reads = reads_on _ _ _ _ _ _ [] [] c.loop-at.invariant.reads (rw c.self.view_is at c.in_ok-take_more.ensures.steps);
      failures = search rules;
      weight = omega (arith, c.in_ok-take_more.ensures.weight, c.loop-at.invariant.weight);
    }

pub returns-in_err-take_more-clause-steps : goal.returns-in_err-take_more-clause-steps
returns-in_err-take_more-clause-steps g c =
    let p = err_from_is_err_and c.from_residual.result c.from_residual.ensures.1 in
    let s = c.self.inside in
    let none = not_found c.deref.result.now s.taken.items s.start s.searched c.deref.ensures.value c.self.invariant.0 c.self.invariant.2 c.in_default.ensures.none in
    let over : IsOver false (record { bytes = drop s.start s.taken.items; is_ended = s.is_ended; lines = s.lines }) = record { no_line = lines_open (drop s.start s.taken.items) none; is_ended = c.if-self.false } in
    let ended : s.is_ended ≡ c.loop-at.self.is_ended = ap (λ (q : Pending). q.is_ended) c.self.view_is in
    rw (p.1, p.2) (fails_so c.in_err-take_more.field-0.0 _ _ _ _ _ _
    (λ r. (reads_on _ _ _ _ _ _ [] [] c.loop-at.invariant.reads (rw c.self.view_is at r.0), subst (IsOver false) (sym r.1) over))
    (λ d. draws_on _ _ _ _ _ _ c.loop-at.invariant.reads (rw ended at d))
    c.in_err-take_more.ensures.steps)
