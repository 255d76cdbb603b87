use Rattle.std.proofs.Common.{◌≡◌, ◌+◌, ◌∙◌, Err, None, ap, arith, map, refl, string_bytes, subst, sym, take}
use Rattle.std.proofs.lemmas.List.{length-map}
use Rattle.blockspec.specs.BlockUnits.{units}
use Rattle.blockspec.specs.Nesting.{first_too_deep}
use Rattle.mdblock.specs.held.Reads.{Reads, handed}
use Rattle.mdsource.specs.Setting.{Setting}
use Rattle.mdsource.proofs.ReadLines.{none_deep, none_handed}
use Rattle.mdsource.specs.Defining.{Defines}
use Rattle.mdsource.specs.Preludes.{IsUndefiningAt}
use Rattle.mdsource.proofs.Definings.{all_lines, definitions_alone, undefined, undefined_at}
use Rattle.mdsource.proofs.defining.read_definitions.Given.{Over}
use Rattle.mdsource.proofs.defining.read_definitions.Goals.{In_ok-take-in-Ok-finish}
use Rattle.mdsource.proofs.defining.read_definitions.Goals as goal

pub loop-line-init : goal.loop-line-init
loop-line-init g c = record {
  fed = c.new-reader.ensures.fed;
  lines = omega arith;
  inlines = refl;
  reads = c.new-reader.ensures.reads;
  defines = subst (λ found. Defines found c.new-defined.result) (sym (none_handed c.args.entities.now)) c.new-defined.ensures;
}

pub returns-in-Err-clause-undefining : goal.returns-in-Err-clause-undefining
returns-in-Err-clause-undefining g c =
    let lines = map string_bytes c.args.lines.now in
    let setting : Setting = record { entities = c.args.entities.now; options = c.args.options.now } in
    subst (IsUndefiningAt _) (sym c.fault_in_prelude.ensures)
    (undefined_at setting lines c.loop-line.line c.line_at.result.now c.in-Err.fault (omega (arith, c.loop-line-test.true, length-map c.args.lines.now string_bytes)) c.line_at.ensures.line
    (λ is. c.in-Err.ensures.deep (ap Err is) c.args.options.now.max_containers c.args.entities.now (take c.loop-line.line lines) c.loop-line.invariant.reads))

pub loop-line-preserved : goal.loop-line-preserved
loop-line-preserved g c =
    let lines = map string_bytes c.args.lines.now in
    let limit = c.args.options.now.max_containers in
    let e = c.args.entities.now in
    let front = take c.loop-line.line lines in
    let next = sym c.line_at.ensures.line in
    let before = c.loop-line.invariant in
    record {
      fed = c.in-Ok.ensures.read ∙ ap (λ n. n + 1) before.fed;
      lines = omega (arith, before.lines, c.in-Ok.ensures.lines);
      inlines = c.in-Ok.ensures.inlines ∙ before.inlines;
      reads = subst (Reads limit e c.line.new.self) next (c.in-Ok.ensures.reads limit e front before.reads);
      defines = subst (λ ls. Defines (handed e ls) c.take.new.self) next
          (subst (λ found. Defines found c.take.new.self) (sym (c.in-Ok.ensures.hands limit e front before.reads)) (c.in_ok-take-in-Ok.ensures (handed e front) before.defines));
    }

-- once all lines are read, none is too deep, and all units are taken in
record IsRead (g : Over) (c : In_ok-take-in-Ok-finish g) : Type 0 where
  none : first_too_deep c.args.options.now.max_containers (map string_bytes c.args.lines.now) ≡ None
  all : Defines (units c.args.entities.now (map string_bytes c.args.lines.now)) c.take-in-Ok-finish.new.self

is_read : (g : Over) (c : In_ok-take-in-Ok-finish g) → IsRead g c
is_read g c =
    let lines = map string_bytes c.args.lines.now in
    let limit = c.args.options.now.max_containers in
    let e = c.args.entities.now in
    let before = c.loop-line.invariant in
    let whole : take c.loop-line.line lines ≡ lines =
    all_lines lines c.loop-line.line (omega (arith, c.loop-line-test.false, length-map c.args.lines.now string_bytes)) in
    let reads = subst (Reads limit e c.loop-line.reader) whole before.reads in
    let taken = c.in_ok-take-in-Ok-finish.ensures (handed e lines) (subst (λ ls. Defines (handed e ls) c.loop-line.defined) whole before.defines) in
    record {
      none = none_deep limit e c.loop-line.reader lines reads;
      all = subst (λ found. Defines found c.take-in-Ok-finish.new.self) (sym (c.in-Ok-finish.ensures.hands limit e lines reads)) taken;
    }

pub returns-clause-definitions : goal.returns-clause-definitions
returns-clause-definitions g c =
    let lines = map string_bytes c.args.lines.now in
    let setting : Setting = record { entities = c.args.entities.now; options = c.args.options.now } in
    let defined = c.take-in-Ok-finish.new.self in
    let read = is_read g (goal.at.returns-clause-definitions g c).In_ok-take-in-Ok-finish in
    definitions_alone setting lines defined read.none read.all defined.other c.targets.result refl c.targets.ensures

pub returns-clause-undefining : goal.returns-clause-undefining
returns-clause-undefining g c =
    let lines = map string_bytes c.args.lines.now in
    let setting : Setting = record { entities = c.args.entities.now; options = c.args.options.now } in
    let defined = c.take-in-Ok-finish.new.self in
    let read = is_read g (goal.at.returns-clause-undefining g c).In_ok-take-in-Ok-finish in
    undefined setting lines defined read.none read.all defined.other c.targets.result refl c.targets.ensures
