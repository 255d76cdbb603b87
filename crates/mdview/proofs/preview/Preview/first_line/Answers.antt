use Rattle.std.proofs.Common.{◌≡◌, Some, None, true, false, ap, arith, length, map, nat_lt, string_bytes, ◌∙◌, if◌then◌else◌}
use Rattle.std.specs.Prelude.{slice_get}
use Rattle.std.proofs.lemmas.Bool.Decides.{nat_tests}
use Rattle.std.proofs.lemmas.List.{length-map}
use Rattle.blockspec.specs.BlockUnits.{begins}
use Rattle.mdview.specs.Document.{Document}
use Rattle.mdview.specs.HeldUnit.{first_line, read_of}
use Rattle.mdview.proofs.EditPlaces.{begin_of_unit}
use Rattle.mdview.proofs.preview.Preview.first_line.Goals.{After-len}
use Rattle.mdview.proofs.preview.Preview.first_line.Goals as goal

line_is : (c : After-len)
    → (if nat_lt c.args.i (length (map read_of c.self.inside.units.items))
    then Some (first_line c.self.inside.head (map read_of c.self.inside.units.items) c.args.i) else None)
    ≡ slice_get (begins c.args.self.now.entities c.args.self.now.lines) c.args.i
line_is c =
    let p = c.self.inside in
    let lines = map string_bytes p.lines.items in
    let long = length-map p.lines.items string_bytes in
    begin_of_unit p.entities lines p.head (map read_of p.units.items) c.args.i (omega (arith, c.self.invariant.2, long)) c.self.invariant.5
    ∙ ap (λ (d : Document). slice_get (begins d.entities d.lines) c.args.i) c.self.view_is

pub returns-then-i-len : goal.returns-then-i-len
returns-then-i-len c =
    let many = length-map c.self.inside.units.items read_of in
    let inside : nat_lt c.args.i (length (map read_of c.self.inside.units.items)) ≡ true = grind (arith, nat_tests, c.if-i-len.true, many, c.len.ensures) in
    ap (λ n. Some n) c.begin_of.ensures ∙ (rw inside at (line_is (goal.at.returns-then-i-len c).After-len))

pub returns-else-i-len : goal.returns-else-i-len
returns-else-i-len c =
    let many = length-map c.self.inside.units.items read_of in
    let past : nat_lt c.args.i (length (map read_of c.self.inside.units.items)) ≡ false = grind (arith, nat_tests, c.if-i-len.false, many, c.len.ensures) in
    rw past at (line_is (goal.at.returns-else-i-len c).After-len)
