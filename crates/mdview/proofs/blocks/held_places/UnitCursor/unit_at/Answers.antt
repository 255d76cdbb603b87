use Rattle.std.proofs.Common.{◌≡◌, false, map, length, arith, ap, sym, ◌∙◌, nat_eq}
use Rattle.std.specs.List.{list_any}
use Rattle.std.proofs.lemmas.Bool.Decides.{nat_tests}
use Rattle.std.proofs.lemmas.List.{length-map}
use Rattle.blockspec.specs.BlockUnits.{begins}
use Rattle.mdchunks.specs.Sequences.{Sequence}
use Rattle.mdsource.proofs.UnitPlaces.{none_left, unit_tells}
use Rattle.mdview.specs.HeldBlocks.{lines_in}
use Rattle.mdview.specs.HeldUnit.{HeldUnit}
use Rattle.mdview.proofs.blocks.held_places.UnitCursor.unit_at.Goals.{else-self-len-via-then-self-len+else-self-line, else-self-len-via-else-self-len}
use Rattle.mdview.proofs.blocks.held_places.UnitCursor.unit_at.Goals as goal

pub returns-then-self-line-clause-ahead : goal.returns-then-self-line-clause-ahead
returns-then-self-line-clause-ahead c = λ e lines low few order w.
    let ahead = c.pass.ensures.ahead e lines low few order w in
    let sizes = map lines_in c.args.self.now.units.now.items in
    let many : length sizes ≡ length c.pass.new.self.units.now.items = length-map c.args.self.now.units.now.items lines_in ∙ ap (λ (us : Sequence HeldUnit). length us.items) (sym c.pass.ensures.on.same) in
    let here = c.if-self-line.true in (
      ahead,
      sym (unit_tells e lines sizes c.pass.new.self.next.unit c.pass.new.self.next.line c.args.line (omega (arith, many, c.if-self-len.true, c.len.ensures)) (omega (arith, here)) ahead
          ∙ grind (arith, nat_tests, here)),
    )

pub returns-else-self-len-clause-ahead : goal.returns-else-self-len-clause-ahead
returns-else-self-len-clause-ahead c = λ e lines low few order w.
    let ahead = c.pass.ensures.ahead e lines low few order w in
    let sizes = map lines_in c.args.self.now.units.now.items in
    let unit = c.pass.new.self.next.unit in
    let begin = c.pass.new.self.next.line in
    let many : length sizes ≡ length c.pass.new.self.units.now.items = length-map c.args.self.now.units.now.items lines_in ∙ ap (λ (us : Sequence HeldUnit). length us.items) (sym c.pass.ensures.on.same) in
    let told : list_any (nat_eq c.args.line) (begins e lines) ≡ false =
    elim c.else-self-len.branch [
      | else-self-len-via-then-self-len+else-self-line v ↦
          unit_tells e lines sizes unit begin c.args.line (omega (arith, many, v.if-self-len, c.len.ensures)) (c.pass.ensures.past (omega (arith, v.if-self-len, c.len.ensures))) ahead
          ∙ (let a = v.if-self-line in grind (arith, nat_tests, a))
      | else-self-len-via-else-self-len v ↦ none_left sizes (begins e lines) unit begin c.args.line (omega (arith, many, v.if-self-len, c.len.ensures)) ahead
    ] in
    (ahead, sym told)
