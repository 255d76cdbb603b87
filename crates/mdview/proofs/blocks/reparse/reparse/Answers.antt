use Rattle.std.proofs.Common.{rules, ◌&&◌, nat_eq, ◌≡◌, ◌≤◌, ◌<◌, ◌+◌, ◌++◌, ◌∷◌, ℕ, List, Some, None, [], Err, false, true, ap, arith, drop, length, map, refl, subst, sym, take, ◌∙◌}
use Rattle.std.specs.List.{All}
use Rattle.std.specs.Option.{option_map, option_to_list}
use Rattle.std.proofs.lemmas.List.Elements.{All-nil}
use Rattle.std.proofs.lemmas.Result.{IfErr-weaker}
use Rattle.blockspec.specs.BlockUnits.{units}
use Rattle.blockspec.specs.Nesting.{first_too_deep}
use Rattle.mdblock.specs.FoundLists.{found_unit}
use Rattle.mdblock.specs.held.Following.{Follows, fed_in}
use Rattle.mdblock.specs.held.Reads.{handed}
use Rattle.mdtext.specs.EntityTable.{EntityTable}
use Rattle.mdsource.specs.Stretch.{from_line, is_meeting, meeting_line}
use Rattle.mdsource.specs.UnitTiles.{IsAhead}
use Rattle.mdsource.proofs.UnitPlaces.{ahead_later}
use Rattle.mdview.specs.HeldBlocks.{IsDeepAt, IsReread, line_before, lines_in, old_lines, places_of}
use Rattle.mdview.specs.NewText.{lines_of}
use Rattle.mdchunks.specs.Sequences.{Sequence}
use Rattle.mdview.specs.HeldLists.{StandsAt}
use Rattle.mdview.specs.HeldUnit.{HeldUnit}
use Rattle.mdview.specs.declared.blocks.held_places.UnitStart.{UnitStart}
use Rattle.mdview.proofs.FailedReadings.{gi_failed}
use Rattle.mdview.proofs.FollowedLines.{gi_base_next, gi_none_deep}
use Rattle.mdview.proofs.CountedLaws.{counted_within}
use Rattle.mdview.proofs.EditPlaces.{begins_many}
use Rattle.mdview.proofs.LineReads.{AtEnd, AtLine, CursorAt, LineRead, met_there, unmet_there, up_to_line}
use Rattle.mdview.proofs.ListsStand.{stands_pushed}
use Rattle.mdview.proofs.ReadStretches.{is_edit, stretch_next}
use Rattle.mdview.proofs.Reparses.{ReadAbove, begins_reading, deep_at, deep_told, ended, found_all, new_fits, next_ends, next_is, in_new, read_next, stands_read, units_pushed}
use Rattle.mdview.proofs.ResumedReading.{few_above, res_above, res_near}
use Rattle.mdsource.specs.BlockFaults.{OfBlocks}
use Rattle.mdsource.specs.Stops.{lines_to_stop, near_line}
use Rattle.mdsource.specs.declared.fault.EditFault.{EditFault}
use Rattle.mdsource.specs.declared.fault.EditFault.TheVariants.{NoMemory}
use Rattle.mdsource.proofs.NearStretch.{near_told}
use Rattle.std.specs.Prelude.{IfOk, IfSome, slice_get}
use Rattle.std.proofs.lemmas.Bool.Decides.{nat_tests}
use Rattle.blockspec.proofs.NestingLaws.{moved_on}
use Rattle.blockspec.specs.Joins.{is_joined}
use Rattle.mdsource.specs.Stops.{is_near}
use Rattle.mdsource.proofs.NearDepths.{near_deep}
use Rattle.mdsource.specs.Stretch.{units_before}
use Rattle.mdview.specs.HeldBlocks.{HoldsUnits}
use Rattle.mdview.specs.HeldItems.{IsCounted, IsItemOf}
use Rattle.mdview.specs.StopLines.{IsReadToStop, stops_of}
use Rattle.mdview.specs.KeptTexts.{IsKept}
use Rattle.mdview.specs.UnitsFound.{IsHeldOn, found_in, trees_found}
use Rattle.mdview.specs.HeldUnit.{read_of}
use Rattle.mdview.specs.declared.blocks.reparse.Reparsed.{Reparsed}
use Rattle.mdview.proofs.FewUnits.{few_units}
use Rattle.mdview.proofs.NearRead.{IsPlaced, joined_kept, joined_list, joined_order, joined_reread, joined_soon, ok_any, ok_both, ok_one, ok_three, read_to_stop}
use Rattle.mdview.proofs.NearStops.{StopsAt, few_soon, is_stop, stops_at, stops_met}
use Rattle.mdview.proofs.blocks.reparse.reparse.Given.{Over}
use Rattle.mdview.proofs.blocks.reparse.reparse.Goals.{After-finish, After-join_held, After-joined_at, After-line-in-loop-line, In-Some, In-Some-joined_at, In_ok-push_some-in-Ok, In_ok-push_some-in-Ok-finish}
use Rattle.mdview.proofs.blocks.reparse.reparse.Goals as goal

pub loop-line-init : goal.loop-line-init
loop-line-init g c =
    let e = c.args.held.now.entities.now in
    let text = c.args.text in
    let new = lines_of text in
    let p = places_of e text in
    let limit = c.args.held.now.options.now.max_containers in
    let r = c.resume_at-resume.result in
    let s = begins_reading e text c.args.held.now.head c.args.held.now.units.now.items c.at.result r.from r.start.unit r.start.line c.requires.held c.requires.old c.at.ensures.at c.resume_at-resume.ensures.resumed in
    let old = old_lines text in
    let reader = c.in_ok-reader.reader in
    let so_far = c.in_ok-reader.ensures in
    let begun = r.from + c.fed.result in
    let place : r.from + fed_in reader ≡ begun = omega (arith, c.fed.ensures) in
    let up_to : begun ≤ p.at = omega (arith, so_far.above, place) in
    let read : drop r.from (take (r.from + fed_in reader) new) ≡ drop (from_line p) (take begun new) = ap (λ n. drop r.from (take n new)) place ∙ ap (λ n. drop n (take begun new)) s.0 in
    let was : line_before p r.from ≡ line_before p begun = omega (arith, up_to) in
    record {
      rest = search rules;
      fed = search rules;
      lines = let counted = counted_within (fed_in reader) (g.C.Count.lines c.args.count.now) in let here = so_far.lines in omega (arith, counted, here, place);
      inlines = search rules;
      same = search rules;
      forward = search rules;
      above = res_above e old new p (is_edit e text) limit reader (map found_unit c.new-found.result.items) begun up_to (subst (Follows limit e reader) read so_far.reads)
          (ap (handed e) (sym read) ∙ so_far.none) (ap (map found_unit) c.new-found.ensures.items);
      near = let behind = res_near e old new (stops_of e text) (is_stop e text) in omega (arith, behind, up_to);
      counted = subst (IsCounted c.args.held.now.head c.args.held.now.units.now.items) (sym c.at-cursor.ensures.1) c.resume_at-resume.ensures.counted;
      ahead = subst (λ (next : UnitStart). IsAhead (map lines_in c.args.held.now.units.now.items) p.old_begins next.unit next.line (line_before p begun)) (sym c.at-cursor.ensures.1)
          (subst (λ n. IsAhead (map lines_in c.args.held.now.units.now.items) p.old_begins r.start.unit r.start.line n) was s.2);
      base = so_far.base;
      stands = subst (All (StandsAt e (drop (from_line p) (take begun new)))) (sym c.new-found.ensures.items) (All-nil (StandsAt e (drop (from_line p) (take begun new))));
    }

-- ---- what is known of a line in the loop

at_line : (g : Over) (c : After-line-in-loop-line g) → AtLine c.args.held.now.entities.now c.args.text c.resume_at-resume.result.from c.resume_at-resume.result.start.unit c.loop-line.cursor.units.now.items c.loop-line.cursor.next c.loop-line.line
at_line g c =
    let e = c.args.held.now.entities.now in
    let text = c.args.text in
    let p = places_of e text in
    let r = c.resume_at-resume.result in
    let s = begins_reading e text c.args.held.now.head c.args.held.now.units.now.items c.at.result r.from r.start.unit r.start.line c.requires.held c.requires.old c.at.ensures.at c.resume_at-resume.ensures.resumed in
    let inv = c.loop-line.invariant in
    let next = c.loop-line.cursor.next in
    record {
      from_is = s.0;
      first_is = s.1;
      below = omega (arith, c.loop-line-test.true, c.len-line-end.ensures);
      order = omega (arith, s.0, c.loop-line.auto.line);
      ahead = subst (λ (us : Sequence HeldUnit). IsAhead (map lines_in us.items) p.old_begins next.unit next.line (line_before p c.loop-line.line)) (sym inv.same) inv.ahead;
    }

line_read : (g : Over) (c : In_ok-push_some-in-Ok g) → LineRead c.args.text c.loop-line.reader c.line-in-loop-line.new.self c.loop-line.found.items c.push_some.new.found.items c.in-Ok.unit c.loop-line.line
line_read g c =
    let is = c.line.ensures.value in
    record {
      reads = λ (limit : ℕ) (e : EntityTable) (ls : List (List ℕ)) (h : Follows limit e c.loop-line.reader ls).
          subst (λ t. Follows limit e c.line-in-loop-line.new.self (ls ++ t ∷ [])) is (c.in-Ok.ensures.reads limit e ls h);
      hands = λ (limit : ℕ) (e : EntityTable) (ls : List (List ℕ)) (h : Follows limit e c.loop-line.reader ls).
          subst (λ t. handed e (ls ++ t ∷ []) ≡ handed e ls ++ option_to_list (option_map found_unit c.in-Ok.unit)) is (c.in-Ok.ensures.hands limit e ls h);
      pushed = c.in_ok-push_some-in-Ok.ensures;
    }

cursor_at : (g : Over) (c : After-joined_at g)
    → AtLine c.args.held.now.entities.now c.args.text c.resume_at-resume.result.from c.resume_at-resume.result.start.unit c.loop-line.cursor.units.now.items c.loop-line.cursor.next c.loop-line.line
    → CursorAt c.args.held.now.entities.now c.args.text c.args.held.now.head c.args.held.now.units.now c.met_at.new.cursor.units.now c.met_at.new.cursor.next c.loop-line.line
cursor_at g c a =
    let e = c.args.held.now.entities.now in
    let p = places_of e c.args.text in
    let head = c.args.held.now.head in
    let inv = c.loop-line.invariant in
    let same = c.in_default.ensures.on.same in
    let next = c.met_at.new.cursor.next in
    let counted = subst (λ (us : Sequence HeldUnit). IsCounted head us.items c.loop-line.cursor.next) (sym inv.same) inv.counted in
    record {
      same = same ∙ inv.same;
      ahead = subst (λ (us : Sequence HeldUnit). IsAhead (map lines_in us.items) p.old_begins next.unit next.line (line_before p c.loop-line.line)) (sym same) (c.in_default.ensures.ahead e a.ahead);
      counted = subst (λ (us : Sequence HeldUnit). IsCounted head us.items next) (sym same) (c.in_default.ensures.on.counted head counted);
      holds = subst (λ (us : Sequence HeldUnit). HoldsUnits e (old_lines c.args.text) head (map read_of us.items)) (sym (same ∙ inv.same)) c.requires.held;
    }

-- ---- what is counted

stretch_in_loop : (g : Over) (c : After-line-in-loop-line g) → g.C.Count.lines c.line-in-loop-line.new.count ≤ g.C.Count.lines c.args.count.now + lines_to_stop (stops_of c.args.held.now.entities.now c.args.text)
stretch_in_loop g c =
    let a = at_line g c in
    let inv = c.loop-line.invariant in
    let below = a.below in
    let few = few_soon c.args.held.now.entities.now c.args.text c.args.held.now.options.now.max_containers c.loop-line.reader (map found_unit c.loop-line.found.items) c.loop-line.line (omega (arith, below)) inv.near inv.above in
    omega (arith, few, inv.lines, c.line-in-loop-line.ensures.lines, a.from_is)

-- how many lines so far
lines_in_loop : (g : Over) (c : After-line-in-loop-line g) → g.C.Count.lines c.line-in-loop-line.new.count ≤ g.C.Count.lines c.args.count.now + length (lines_of c.args.text)
lines_in_loop g c =
    let a = at_line g c in
    let inv = c.loop-line.invariant in
    let below = a.below in
    omega (arith, inv.lines, c.line-in-loop-line.ensures.lines, below)

pub returns-in_err-reader : goal.returns-in_err-reader
returns-in_err-reader g c =
    let e = c.args.held.now.entities.now in
    let text = c.args.text in
    let limit = c.args.held.now.options.now.max_containers in
    let r = c.resume_at-resume.result in
    let s = begins_reading e text c.args.held.now.head c.args.held.now.units.now.items c.at.result r.from r.start.unit r.start.line c.requires.held c.requires.old c.at.ensures.at c.resume_at-resume.ensures.resumed in
    let few = few_above e (old_lines text) (lines_of text) (stops_of e text) (is_stop e text) in
    let within = in_new limit e (old_lines text) (lines_of text) (places_of e text) (is_edit e text) in
    let f = gi_failed limit e text c.args.held.now.units.now.items c.from_residual.result c.from_residual.ensures.1 in
    record {
      fault = f.fault;
      deep = f.deep;
      fits = f.fits;
      read = f.read;
      kept = f.kept;
      list = f.list;
      soon = f.soon;
      stretch = omega (arith, few, c.in_err-reader.ensures.no_more, s.0);
      order = f.order;
      lines = omega (arith, within, c.in_err-reader.ensures.no_more);
      inlines = c.begun_reader.ensures.inlines;
    }

pub returns-in_err-push_some-in-Ok : goal.returns-in_err-push_some-in-Ok
returns-in_err-push_some-in-Ok g c =
    let s = (goal.at.returns-in_err-push_some-in-Ok g c).After-line-in-loop-line in
    let r = c.from_residual-in_err-push_some-in-Ok in
    let f = gi_failed c.args.held.now.options.now.max_containers c.args.held.now.entities.now c.args.text c.args.held.now.units.now.items r.result r.ensures.1 in
    record {
      fault = f.fault;
      deep = f.deep;
      fits = f.fits;
      read = f.read;
      kept = f.kept;
      list = f.list;
      soon = f.soon;
      stretch = stretch_in_loop g s;
      order = f.order;
      lines = lines_in_loop g s;
      inlines = c.line-in-loop-line.ensures.inlines ∙ c.loop-line.invariant.inlines;
    }

-- ---- a line that begins a container too deep

pub returns-in-Err : goal.returns-in-Err
returns-in-Err g c =
    let text = c.args.text in
    let new = lines_of text in
    let e = c.args.held.now.entities.now in
    let limit = c.args.held.now.options.now.max_containers in
    let line = c.loop-line.line in
    let s = (goal.at.returns-in-Err g c).After-line-in-loop-line in
    let a = at_line g s in
    record {
      fault = c.fault_in_line.ensures.reading;
      deep = subst (IsDeepAt (first_too_deep limit new)) (sym c.fault_in_line.ensures.value)
          (deep_told (first_too_deep limit new) c.in-Err.fault line
          (λ is. deep_at limit e (old_lines text) new (places_of e text) (is_edit e text) c.requires.fits c.loop-line.reader (map found_unit c.loop-line.found.items) line [] a.order a.below
          (λ (limit : ℕ) (e : EntityTable) (ls : List (List ℕ)) (h : Follows limit e c.loop-line.reader ls).
          subst (λ t. first_too_deep limit (ls ++ t ∷ []) ≡ Some (length ls)) c.line.ensures.value (c.in-Err.ensures.deep (ap Err is) limit e ls h))
          c.loop-line.invariant.above));
      fits = tt;
      read = tt;
      kept = tt;
      list = tt;
      soon = tt;
      stretch = stretch_in_loop g s;
      order = tt;
      lines = lines_in_loop g s;
      inlines = c.line-in-loop-line.ensures.inlines ∙ c.loop-line.invariant.inlines;
    }

-- ---- a unit begins in both texts

-- that reading ends there, all units above it are found, and no container lies too deep
met : (g : Over) (c : In-Some g)
    → AtLine c.args.held.now.entities.now c.args.text c.resume_at-resume.result.from c.resume_at-resume.result.start.unit c.loop-line.cursor.units.now.items c.loop-line.cursor.next c.loop-line.line
    → LineRead c.args.text c.loop-line.reader c.line-in-loop-line.new.self c.loop-line.found.items c.push_some.new.found.items c.in-Ok.unit c.loop-line.line
    → (is_meeting (places_of c.args.held.now.entities.now c.args.text) c.loop-line.line ≡ true) × (meeting_line (places_of c.args.held.now.entities.now c.args.text) ≡ c.loop-line.line)
    × (map found_unit c.push_some.new.found.items ≡ units c.args.held.now.entities.now (drop (from_line (places_of c.args.held.now.entities.now c.args.text)) (take c.loop-line.line (lines_of c.args.text))))
    × (first_too_deep c.args.held.now.options.now.max_containers (lines_of c.args.text) ≡ None)
met g c a l =
    let e = c.args.held.now.entities.now in
    let text = c.args.text in
    let limit = c.args.held.now.options.now.max_containers in
    let line = c.loop-line.line in
    let above = c.loop-line.invariant.above in
    let lines = drop (from_line (places_of e text)) (take line (lines_of text)) in
    met_there limit e text c.resume_at-resume.result.from c.resume_at-resume.result.start.unit c.loop-line.cursor.units.now.items c.loop-line.cursor.next line a c.requires.fits
    c.loop-line.reader c.line-in-loop-line.new.self c.loop-line.found.items c.push_some.new.found.items c.in-Ok.unit l above
    (c.in-Some.ensures.met limit e (up_to_line e text line) (l.reads limit e lines above.reads) a.ahead)

pub returns-in-Some-clause-fits : goal.returns-in-Some-clause-fits
returns-in-Some-clause-fits g c =
    let s = goal.at.returns-in-Some-clause-fits g c in
    let a = at_line g s.After-line-in-loop-line in
    let l = line_read g s.In_ok-push_some-in-Ok in
    let m = met g s.In-Some a l in
    m.3

pub returns-in-Some-clause-soon : goal.returns-in-Some-clause-soon
unfolding found_in
returns-in-Some-clause-soon g c =
    let e = c.args.held.now.entities.now in
    let text = c.args.text in
    let s = goal.at.returns-in-Some-clause-soon g c in
    let a = at_line g s.After-line-in-loop-line in
    let l = line_read g s.In_ok-push_some-in-Ok in
    let m = met g s.In-Some a l in
    subst (IsReadToStop e text) (sym c.up_to.ensures)
    (read_to_stop e text c.push_some.new.found.items
    (m.2 ∙ ap (λ n. units e (drop (from_line (places_of e text)) (take n (lines_of text)))) (sym (stops_met e text c.loop-line.line m.1 c.loop-line.invariant.near))))

pub returns-in-Some-clause-read : goal.returns-in-Some-clause-read
unfolding found_in
returns-in-Some-clause-read g c =
    let e = c.args.held.now.entities.now in
    let text = c.args.text in
    let new = lines_of text in
    let p = places_of e text in
    let limit = c.args.held.now.options.now.max_containers in
    let line = c.loop-line.line in
    let inv = c.loop-line.invariant in
    let s = goal.at.returns-in-Some-clause-read g c in
    let a = at_line g s.After-line-in-loop-line in
    let l = line_read g s.In_ok-push_some-in-Ok in
    let m = met g s.In-Some a l in
    let ls = drop (from_line p) (take line new) in
    let cursor = c.met_at.new.cursor in
    subst (IsReread e text) (sym c.up_to.ensures) (record {
      from = a.from_is;
      meet = sym m.1;
      first = a.first_is;
      next = c.in-Some.ensures.unit.0
          ∙ next_is limit e (old_lines text) new p (is_edit e text) (map lines_in c.loop-line.cursor.units.now.items) cursor.next.unit cursor.next.line line m.0 m.1 (c.in-Some.ensures.here refl) (c.in-Some.ensures.ahead e a.ahead);
      found = m.2 ∙ ap (λ n. units e (drop n (take line new))) (sym a.from_is);
      stands = subst (λ n. All (StandsAt e (drop n (take line new))) c.push_some.new.found.items) (sym a.from_is)
          (stands_pushed e ls c.loop-line.found.items c.push_some.new.found.items c.in-Ok.unit l.pushed (c.in-Ok.ensures.stands limit e ls inv.above.reads) inv.stands);
    })

pub returns-in-Some-clause-kept : goal.returns-in-Some-clause-kept
returns-in-Some-clause-kept g c = subst (λ (r : Reparsed). IfSome r.kept (IsKept c.args.held.now.units.now.items (trees_found r))) (sym c.up_to.ensures) tt

pub returns-in-Some-clause-list : goal.returns-in-Some-clause-list
returns-in-Some-clause-list g c = subst (λ (r : Reparsed). IfSome r.list (IsHeldOn c.args.held.now.units.now.items r)) (sym c.up_to.ensures) tt

pub returns-in-Some-clause-stretch : goal.returns-in-Some-clause-stretch
returns-in-Some-clause-stretch g c = stretch_in_loop g (goal.at.returns-in-Some-clause-stretch g c).After-line-in-loop-line

pub returns-in-Some-clause-order : goal.returns-in-Some-clause-order
returns-in-Some-clause-order g c =
    let held = c.args.held.now.units.now.items in
    let inv = c.loop-line.invariant in
    let unit = c.in-Some.ensures.unit in
    let forward = c.in-Some.ensures.on.forward in
    let below = subst (λ (us : Sequence HeldUnit). c.in-Some.next < length us.items) (c.in-Some.ensures.on.same ∙ inv.same) unit.1 in
    let from = inv.forward in
    subst (λ (r : Reparsed). (r.first ≤ r.next) × (r.next ≤ length held)) (sym c.up_to.ensures) (omega (arith, from, forward, unit.0), omega (arith, below))

pub returns-in-Some-clause-lines : goal.returns-in-Some-clause-lines
returns-in-Some-clause-lines g c = lines_in_loop g (goal.at.returns-in-Some-clause-lines g c).After-line-in-loop-line

pub returns-in-Some-clause-inlines : goal.returns-in-Some-clause-inlines
returns-in-Some-clause-inlines g c = c.line-in-loop-line.ensures.inlines ∙ c.loop-line.invariant.inlines

-- ---- no unit and no item does

pub loop-line-preserved : goal.loop-line-preserved
loop-line-preserved g c =
    let e = c.args.held.now.entities.now in
    let text = c.args.text in
    let old = old_lines text in
    let new = lines_of text in
    let p = places_of e text in
    let limit = c.args.held.now.options.now.max_containers in
    let head = c.args.held.now.head in
    let line = c.loop-line.line in
    let inv = c.loop-line.invariant in
    let s = goal.at.loop-line-preserved g c in
    let a = at_line g s.After-line-in-loop-line in
    let l = line_read g s.In_ok-push_some-in-Ok in
    let at = cursor_at g s.After-joined_at a in
    let lines = drop (from_line p) (take line new) in
    let reads = l.reads limit e lines inv.above.reads in
    let not_here = unmet_there limit e text c.resume_at-resume.result.from c.resume_at-resume.result.start.unit c.loop-line.cursor.units.now.items c.loop-line.cursor.next line a
    (c.in_default.ensures.met limit e (up_to_line e text line) reads a.ahead) in
    let later : line_before p line ≤ line_before p (line + 1) = omega arith in
    let then = c.joined_at.new.cursor in
    let t = c.in_default-joined_at.ensures.told limit e (up_to_line e text line) head reads at.holds a.below at.ahead at.counted in
    let not_near : nat_eq (near_line (stops_of e text)) line ≡ false =
    near_told e old new (stops_of e text) (is_stop e text) line a.order a.below inv.near
    ∙ ap (λ z. is_joined e z && is_near (stops_of e text) line) (stretch_next new (from_line p) line [] a.order a.below) ∙ sym t.0 in
    record {
      rest = search rules;
      fed = search rules;
      lines = omega (arith, inv.lines, c.line-in-loop-line.ensures.lines, c.loop-line.auto.line);
      inlines = c.line-in-loop-line.ensures.inlines ∙ inv.inlines;
      same = search rules;
      forward = search rules;
      above = read_next limit e old new p (is_edit e text) c.loop-line.reader c.line-in-loop-line.new.self (map found_unit c.loop-line.found.items) (map found_unit c.push_some.new.found.items) (option_map found_unit c.in-Ok.unit) line []
          a.order a.below l.reads l.hands (units_pushed c.loop-line.found.items c.push_some.new.found.items c.in-Ok.unit l.pushed) not_here inv.above;
      near = let up_to = inv.near in grind (arith, nat_tests, not_near, up_to);
      counted = subst (λ (us : Sequence HeldUnit). IsCounted head us.items then.next) at.same (c.joined_at.ensures.on.counted head at.counted);
      ahead = ahead_later (map lines_in c.args.held.now.units.now.items) p.old_begins then.next.unit then.next.line (line_before p line) (line_before p (line + 1)) later
          (subst (λ (us : Sequence HeldUnit). IsAhead (map lines_in us.items) p.old_begins then.next.unit then.next.line (line_before p line)) at.same (c.joined_at.ensures.ahead e at.ahead));
      base = gi_base_next c.args.held.now.units.now.items c.resume_at-resume.result.start.unit c.loop-line.reader.base c.line-in-loop-line.new.self.base c.in-Ok.ensures.base inv.base;
      stands = stands_read e new (from_line p) line [] c.loop-line.found.items c.push_some.new.found.items c.in-Ok.unit a.order a.below l.pushed (c.in-Ok.ensures.stands limit e lines inv.above.reads) inv.stands;
    }

-- ---- the end of the text

at_end : (g : Over) (c : After-finish g) → AtEnd c.args.held.now.options.now.max_containers c.args.held.now.entities.now c.args.text c.resume_at-resume.result.from c.resume_at-resume.result.start.unit c.loop-line.reader
    c.loop-line.found.items c.loop-line.line
at_end g c =
    let e = c.args.held.now.entities.now in
    let text = c.args.text in
    let new = lines_of text in
    let p = places_of e text in
    let limit = c.args.held.now.options.now.max_containers in
    let r = c.resume_at-resume.result in
    let s = begins_reading e text c.args.held.now.head c.args.held.now.units.now.items c.at.result r.from r.start.unit r.start.line c.requires.held c.requires.old c.at.ensures.at c.resume_at-resume.ensures.resumed in
    let within = in_new limit e (old_lines text) new p (is_edit e text) in
    let before : r.from + c.fed.result ≤ c.len-line-end.result = omega (arith, c.in_ok-reader.ensures.above, c.fed.ensures, within, c.len-line-end.ensures) in
    let last : c.loop-line.line ≡ length new = omega (arith, c.loop-line.auto.line-end before, c.loop-line-test.false, c.len-line-end.ensures) in
    let above = subst (λ n. ReadAbove limit e new p c.loop-line.reader (map found_unit c.loop-line.found.items) n) last c.loop-line.invariant.above in
    record {
      from_is = s.0;
      first_is = s.1;
      last = last;
      above = above;
      meet = ended limit e (old_lines text) new p (is_edit e text) c.loop-line.reader (map found_unit c.loop-line.found.items) above;
    }

stretch_at_end : (g : Over) (c : After-finish g) → g.C.Count.lines c.loop-line.count ≤ g.C.Count.lines c.args.count.now + lines_to_stop (stops_of c.args.held.now.entities.now c.args.text)
stretch_at_end g c =
    let a = at_end g c in
    let inv = c.loop-line.invariant in
    let last = a.last in
    let few = few_soon c.args.held.now.entities.now c.args.text c.args.held.now.options.now.max_containers c.loop-line.reader (map found_unit c.loop-line.found.items) (length (lines_of c.args.text)) (omega arith)
    (let near = inv.near in omega (arith, near, last)) a.above in
    omega (arith, few, inv.lines, a.from_is, last)

-- how many lines were read
lines_at_end : (g : Over) (c : After-finish g) → g.C.Count.lines c.loop-line.count ≤ g.C.Count.lines c.args.count.now + length (lines_of c.args.text)
lines_at_end g c =
    let a = at_end g c in
    let inv = c.loop-line.invariant in
    let last = a.last in
    omega (arith, inv.lines, last)

pub returns-in_err-push_some-in-Ok-finish : goal.returns-in_err-push_some-in-Ok-finish
returns-in_err-push_some-in-Ok-finish g c =
    let s = (goal.at.returns-in_err-push_some-in-Ok-finish g c).After-finish in
    let r = c.from_residual-in_err-push_some-in-Ok-finish in
    let f = gi_failed c.args.held.now.options.now.max_containers c.args.held.now.entities.now c.args.text c.args.held.now.units.now.items r.result r.ensures.1 in
    record {
      fault = f.fault;
      deep = f.deep;
      fits = f.fits;
      read = f.read;
      kept = f.kept;
      list = f.list;
      soon = f.soon;
      stretch = stretch_at_end g s;
      order = f.order;
      lines = lines_at_end g s;
      inlines = c.loop-line.invariant.inlines;
    }

pub returns-in-Err-finish-clause-lines : goal.returns-in-Err-finish-clause-lines
returns-in-Err-finish-clause-lines g c = lines_at_end g (goal.at.returns-in-Err-finish-clause-lines g c).After-finish

pub returns-in-Err-finish-clause-inlines : goal.returns-in-Err-finish-clause-inlines
returns-in-Err-finish-clause-inlines g c = c.loop-line.invariant.inlines

pub returns-clause-kept : goal.returns-clause-kept
returns-clause-kept g c = subst (λ (r : Reparsed). IfSome r.kept (IsKept c.args.held.now.units.now.items (trees_found r))) (sym c.up_to-2.ensures) tt

pub returns-clause-list : goal.returns-clause-list
returns-clause-list g c = subst (λ (r : Reparsed). IfSome r.list (IsHeldOn c.args.held.now.units.now.items r)) (sym c.up_to-2.ensures) tt

pub returns-clause-order : goal.returns-clause-order
returns-clause-order g c =
    let held = c.args.held.now.units.now.items in
    subst (λ (r : Reparsed). (r.first ≤ r.next) × (r.next ≤ length held)) (sym c.up_to-2.ensures) (omega (arith, c.resume_at-resume.ensures.unit, c.len.ensures), omega (arith, c.len.ensures))

pub returns-clause-lines : goal.returns-clause-lines
returns-clause-lines g c = lines_at_end g (goal.at.returns-clause-lines g c).After-finish

pub returns-clause-inlines : goal.returns-clause-inlines
returns-clause-inlines g c = c.loop-line.invariant.inlines

pub returns-in-Err-finish-clause-stretch : goal.returns-in-Err-finish-clause-stretch
returns-in-Err-finish-clause-stretch g c = stretch_at_end g (goal.at.returns-in-Err-finish-clause-stretch g c).After-finish

pub returns-clause-stretch : goal.returns-clause-stretch
returns-clause-stretch g c = stretch_at_end g (goal.at.returns-clause-stretch g c).After-finish

pub returns-clause-fits : goal.returns-clause-fits
returns-clause-fits g c =
    let e = c.args.held.now.entities.now in
    let new = lines_of c.args.text in
    let p = places_of e c.args.text in
    let limit = c.args.held.now.options.now.max_containers in
    let a = at_end g (goal.at.returns-clause-fits g c).After-finish in
    new_fits limit e (old_lines c.args.text) new p (is_edit e c.args.text) c.requires.fits (length new) a.meet (gi_none_deep limit e c.loop-line.reader (drop (from_line p) (take (length new) new)) a.above.reads)

-- all units from there on are found
found_at_end : (g : Over) (c : In_ok-push_some-in-Ok-finish g)
    → AtEnd c.args.held.now.options.now.max_containers c.args.held.now.entities.now c.args.text c.resume_at-resume.result.from c.resume_at-resume.result.start.unit c.loop-line.reader c.loop-line.found.items c.loop-line.line
    → map found_unit c.push_some-in-Ok-finish.new.found.items
    ≡ units c.args.held.now.entities.now (drop (from_line (places_of c.args.held.now.entities.now c.args.text)) (take (length (lines_of c.args.text)) (lines_of c.args.text)))
found_at_end g c a =
    let e = c.args.held.now.entities.now in
    let text = c.args.text in
    found_all c.args.held.now.options.now.max_containers e (old_lines text) (lines_of text) (places_of e text) (is_edit e text) (map found_unit c.loop-line.found.items) (map found_unit c.push_some-in-Ok-finish.new.found.items)
    (option_map found_unit c.in-Ok-finish.unit) c.loop-line.reader (units_pushed c.loop-line.found.items c.push_some-in-Ok-finish.new.found.items c.in-Ok-finish.unit c.in_ok-push_some-in-Ok-finish.ensures)
    c.in-Ok-finish.ensures.hands a.above

pub returns-clause-read : goal.returns-clause-read
unfolding found_in
returns-clause-read g c =
    let e = c.args.held.now.entities.now in
    let text = c.args.text in
    let old = old_lines text in
    let new = lines_of text in
    let p = places_of e text in
    let limit = c.args.held.now.options.now.max_containers in
    let r = c.resume_at-resume.result in
    let s = goal.at.returns-clause-read g c in
    let a = at_end g s.After-finish in
    let found = c.push_some-in-Ok-finish.new.found.items in
    subst (IsReread e text) (sym c.up_to-2.ensures) (record {
      from = a.from_is;
      meet = c.len-2.ensures ∙ sym a.meet;
      first = a.first_is;
      next = c.len.ensures ∙ next_ends limit e old new p (is_edit e text) (length c.args.held.now.units.now.items) (sym (begins_many e old c.args.held.now.head c.args.held.now.units.now.items c.requires.held)) a.meet;
      found = found_at_end g s.In_ok-push_some-in-Ok-finish a ∙ ap (λ n. units e (drop n (take (length new) new))) (sym a.from_is) ∙ ap (λ n. units e (drop r.from (take n new))) (sym c.len-2.ensures);
      stands = subst (λ n. All (StandsAt e (drop r.from (take n new))) found) (sym c.len-2.ensures)
          (subst (λ n. All (StandsAt e (drop n (take (length new) new))) found) (sym a.from_is)
          (stands_pushed e (drop (from_line p) (take (length new) new)) c.loop-line.found.items found c.in-Ok-finish.unit c.in_ok-push_some-in-Ok-finish.ensures
          (c.in-Ok-finish.ensures.stands limit e (drop (from_line p) (take (length new) new)) a.above.reads) (subst (λ n. All (StandsAt e (drop (from_line p) (take n new))) c.loop-line.found.items) a.last c.loop-line.invariant.stands)));
    })

pub returns-clause-soon : goal.returns-clause-soon
unfolding found_in
returns-clause-soon g c =
    let e = c.args.held.now.entities.now in
    let text = c.args.text in
    let new = lines_of text in
    let s = goal.at.returns-clause-soon g c in
    let a = at_end g s.After-finish in
    let near = c.loop-line.invariant.near in
    let last = a.last in
    subst (IsReadToStop e text) (sym c.up_to-2.ensures)
    (read_to_stop e text c.push_some-in-Ok-finish.new.found.items
    (found_at_end g s.In_ok-push_some-in-Ok-finish a ∙ ap (λ n. units e (drop (from_line (places_of e text)) (take n new))) (sym (stops_met e text (length new) a.meet (omega (arith, near, last))))))

-- ---- a list goes on in one that is held

-- where reading stops then
stops_there : (g : Over) (c : In-Some-joined_at g)
    → AtLine c.args.held.now.entities.now c.args.text c.resume_at-resume.result.from c.resume_at-resume.result.start.unit c.loop-line.cursor.units.now.items c.loop-line.cursor.next c.loop-line.line
    → LineRead c.args.text c.loop-line.reader c.line-in-loop-line.new.self c.loop-line.found.items c.push_some.new.found.items c.in-Ok.unit c.loop-line.line
    → CursorAt c.args.held.now.entities.now c.args.text c.args.held.now.head c.args.held.now.units.now c.met_at.new.cursor.units.now c.met_at.new.cursor.next c.loop-line.line
    → StopsAt c.args.held.now.entities.now c.args.text c.args.held.now.units.now.items c.in-Some-joined_at.item c.loop-line.line
stops_there g c a l at =
    let e = c.args.held.now.entities.now in
    let text = c.args.text in
    let limit = c.args.held.now.options.now.max_containers in
    let head = c.args.held.now.head in
    let line = c.loop-line.line in
    let inv = c.loop-line.invariant in
    let from = from_line (places_of e text) in
    let item = c.in-Some-joined_at.item in
    let t = c.in-Some-joined_at.ensures.told limit e (up_to_line e text line) head (l.reads limit e (drop from (take line (lines_of text))) inv.above.reads) at.holds a.below at.ahead at.counted in
    stops_at e text head c.args.held.now.units.now.items limit c.loop-line.reader (map found_unit c.loop-line.found.items) line item c.requires.held a.order a.below inv.near inv.above
    (subst (λ (us : Sequence HeldUnit). IsItemOf us.items item) (c.in-Some-joined_at.ensures.on.same ∙ at.same) c.in-Some-joined_at.ensures.item) t.1
    (t.0 ∙ ap (λ z. is_joined e z && is_near (stops_of e text) line) (sym (stretch_next (lines_of text) from line [] a.order a.below)))

pub join_held-requires-clause-fits : goal.join_held-requires-clause-fits
join_held-requires-clause-fits g c =
    let s = goal.at.join_held-requires-clause-fits g c in
    let a = at_line g s.After-line-in-loop-line in
    let l = line_read g s.In_ok-push_some-in-Ok in
    let at = cursor_at g s.After-joined_at a in
    let stop = stops_there g s.In-Some-joined_at a l at in
    let within = stop.within in
    let fed = c.loop-line.invariant.fed in
    let below = a.below in
    omega (arith, within, fed, c.in-Ok.ensures.read, c.requires.old, c.requires.few, below)

pub join_held-requires-clause-base : goal.join_held-requires-clause-base
join_held-requires-clause-base g c =
    let s = goal.at.join_held-requires-clause-base g c in
    let a = at_line g s.After-line-in-loop-line in
    let at = cursor_at g s.After-joined_at a in
    let item = c.in-Some-joined_at.item in
    let of = subst (λ (us : Sequence HeldUnit). IsItemOf us.items item) (c.in-Some-joined_at.ensures.on.same ∙ at.same) c.in-Some-joined_at.ensures.item in
    λ own. gi_base_next c.args.held.now.units.now.items c.resume_at-resume.result.start.unit c.loop-line.reader.base c.line-in-loop-line.new.self.base c.in-Ok.ensures.base c.loop-line.invariant.base
    item.unit.now (ap (slice_get c.args.held.now.units.now.items) (sym own) ∙ of.0)

-- What is known where the list that was read goes on in a held one.
record JoinedThere (g : Over) (c : After-join_held g) : Type 0 where
  order : from_line (places_of c.args.held.now.entities.now c.args.text) ≤ c.loop-line.line
  stop : StopsAt c.args.held.now.entities.now c.args.text c.args.held.now.units.now.items c.in-Some-joined_at.item c.loop-line.line
  of : IsItemOf c.args.held.now.units.now.items c.in-Some-joined_at.item
  few_units_held : length c.args.held.now.units.now.items < 18446744073709551616
  reads : Follows c.args.held.now.options.now.max_containers c.args.held.now.entities.now c.line-in-loop-line.new.self
      (drop (from_line (places_of c.args.held.now.entities.now c.args.text)) (take (c.loop-line.line + 1) (lines_of c.args.text)))
  out : map found_unit c.push_some.new.found.items
      ≡ handed c.args.held.now.entities.now (drop (from_line (places_of c.args.held.now.entities.now c.args.text)) (take (c.loop-line.line + 1) (lines_of c.args.text)))
  stands : All (StandsAt c.args.held.now.entities.now (drop (from_line (places_of c.args.held.now.entities.now c.args.text)) (take (c.loop-line.line + 1) (lines_of c.args.text))))
      c.push_some.new.found.items
  place : IfOk c.join_held.result (IsPlaced (units_before (places_of c.args.held.now.entities.now c.args.text)) (from_line (places_of c.args.held.now.entities.now c.args.text)) c.loop-line.line
      c.in-Some-joined_at.item)

joined_there : (g : Over) (c : After-join_held g)
    → AtLine c.args.held.now.entities.now c.args.text c.resume_at-resume.result.from c.resume_at-resume.result.start.unit c.loop-line.cursor.units.now.items c.loop-line.cursor.next c.loop-line.line
    → LineRead c.args.text c.loop-line.reader c.line-in-loop-line.new.self c.loop-line.found.items c.push_some.new.found.items c.in-Ok.unit c.loop-line.line
    → CursorAt c.args.held.now.entities.now c.args.text c.args.held.now.head c.args.held.now.units.now c.met_at.new.cursor.units.now c.met_at.new.cursor.next c.loop-line.line
    → StopsAt c.args.held.now.entities.now c.args.text c.args.held.now.units.now.items c.in-Some-joined_at.item c.loop-line.line → JoinedThere g c
joined_there g c a l at stop =
    let e = c.args.held.now.entities.now in
    let text = c.args.text in
    let new = lines_of text in
    let limit = c.args.held.now.options.now.max_containers in
    let r = c.resume_at-resume.result in
    let line = c.loop-line.line in
    let inv = c.loop-line.invariant in
    let from = from_line (places_of e text) in
    let ls = drop from (take line new) in
    let next = stretch_next new from line [] a.order a.below in
    record {
      order = a.order;
      stop = stop;
      of = subst (λ (us : Sequence HeldUnit). IsItemOf us.items c.in-Some-joined_at.item) (c.in-Some-joined_at.ensures.on.same ∙ at.same) c.in-Some-joined_at.ensures.item;
      few_units_held = few_units e (old_lines text) c.args.held.now.head c.args.held.now.units.now.items c.requires.held c.requires.old;
      reads = subst (Follows limit e c.line-in-loop-line.new.self) (sym next) (l.reads limit e ls inv.above.reads);
      out =
          units_pushed c.loop-line.found.items c.push_some.new.found.items c.in-Ok.unit l.pushed
          ∙ ap (λ z. z ++ option_to_list (option_map found_unit c.in-Ok.unit)) inv.above.handed_out ∙ sym (l.hands limit e ls inv.above.reads) ∙ ap (handed e) (sym next);
      stands = stands_read e new from line [] c.loop-line.found.items c.push_some.new.found.items c.in-Ok.unit a.order a.below l.pushed (c.in-Ok.ensures.stands limit e ls inv.above.reads) inv.stands;
      place = ok_one c.join_held.result (λ (x : Reparsed) (place : IsPlaced r.start.unit r.from line c.in-Some-joined_at.item x). (place.0 ∙ a.first_is, place.1 ∙ a.from_is, place.2, place.3)) c.join_held.ensures.place;
    }

pub returns-in-Some-joined_at : goal.returns-in-Some-joined_at
returns-in-Some-joined_at g c =
    let e = c.args.held.now.entities.now in
    let text = c.args.text in
    let new = lines_of text in
    let from = from_line (places_of e text) in
    let limit = c.args.held.now.options.now.max_containers in
    let held = c.args.held.now.units.now.items in
    let reader = c.line-in-loop-line.new.self in
    let found = c.push_some.new.found.items in
    let line = c.loop-line.line in
    let item = c.in-Some-joined_at.item in
    let inv = c.loop-line.invariant in
    let s = goal.at.returns-in-Some-joined_at g c in
    let a = at_line g s.After-line-in-loop-line in
    let l = line_read g s.In_ok-push_some-in-Ok in
    let at = cursor_at g s.After-joined_at a in
    let j = joined_there g s.After-join_held a l at (stops_there g s.In-Some-joined_at a l at) in
    let below = a.below in
    record {
      fault = IfErr-weaker c.join_held.result (λ (f : EditFault). f ≡ NoMemory) OfBlocks (λ f is. subst OfBlocks (sym is) tt) c.join_held.ensures.fault;
      deep = IfErr-weaker c.join_held.result (λ (f : EditFault). f ≡ NoMemory) (IsDeepAt (first_too_deep limit new)) (λ f is. subst (IsDeepAt (first_too_deep limit new)) (sym is) tt) c.join_held.ensures.fault;
      fits = ok_any c.join_held.result (near_deep e limit (old_lines text) new (stops_of e text) (is_stop e text) c.requires.fits
          ∙ ap (moved_on from) (ap (λ n. first_too_deep limit (drop from (take (n + 1) new))) j.stop.near ∙ gi_none_deep limit e reader (drop from (take (line + 1) new)) j.reads));
      read = ok_both c.join_held.result
          (joined_reread e text held limit c.requires.fits reader found line item j.stop j.of c.requires.few j.few_units_held j.order j.reads j.out j.stands) j.place c.join_held.ensures.list;
      kept = ok_one c.join_held.result
          (joined_kept e text held limit c.requires.fits reader found line item j.stop j.of c.requires.few j.few_units_held j.order j.reads j.out j.stands) c.join_held.ensures.list;
      soon = ok_one c.join_held.result
          (joined_soon e text held limit c.requires.fits reader found line item j.stop j.of c.requires.few j.few_units_held j.order j.reads j.out j.stands) c.join_held.ensures.list;
      list = ok_three c.join_held.result
          (joined_list e text held limit c.requires.fits reader found line item j.stop j.of c.requires.few j.few_units_held j.order j.reads j.out j.stands) j.place c.join_held.ensures.list c.join_held.ensures.seam;
      stretch = stretch_in_loop g s.After-line-in-loop-line;
      order = ok_both c.join_held.result
          (joined_order e text held limit c.requires.fits reader found line item j.stop j.of c.requires.few j.few_units_held j.order j.reads j.out j.stands) j.place c.join_held.ensures.list;
      lines = omega (arith, inv.lines, c.line-in-loop-line.ensures.lines, below);
      inlines = c.line-in-loop-line.ensures.inlines ∙ inv.inlines;
    }
