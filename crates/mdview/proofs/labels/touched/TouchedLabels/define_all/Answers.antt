use Rattle.std.proofs.Common.{◌∙◌, ◌++◌, ap, length, map, sym}
use Rattle.mdview.specs.HeldTexts.{between}
use Rattle.mdview.specs.HeldUnit.{unit_in}
use Rattle.mdview.specs.LabelTargets.{definitions_by}
use Rattle.mdview.specs.ToldLabels.{told, told_by}
use Rattle.mdview.proofs.ToldLaws.{told_in_turn, told_of_none}
use Rattle.mdview.proofs.labels.touched.TouchedLabels.define_all.Goals as goal

pub returns-then-is_empty : goal.returns-then-is_empty
returns-then-is_empty c = λ q.
    let units = c.args.units.now.items in
    let none = c.is_empty.ensures c.if-is_empty.true q in
    let all = definitions_by (map unit_in (between 0 c.args.first units) ++ map (λ one. one.unit) c.args.found.now ++ map unit_in (between c.args.next (length units) units)) in
    none ∙ sym (ap (told_by all q) none ∙ told_of_none all q)

pub returns : goal.returns
returns c = λ q.
    let units = c.args.units.now.items in
    let front = map unit_in (between 0 c.args.first units) in
    let found = map (λ one. one.unit) c.args.found.now in
    let back = map unit_in (between c.args.next (length units) units) in
    c.in_ok-define_held-2.ensures q ∙ ap (λ n. told_by (definitions_by (map unit_in (between c.args.next n units))) q (told c.define_found.new.self q)) c.len.ensures
    ∙ ap (told_by (definitions_by back) q) (c.in_ok-define_found.ensures q ∙ ap (told_by (definitions_by found) q) (c.in_ok-define_held.ensures q))
    ∙ sym (told_in_turn front found back q (told c.args.self.now q))
