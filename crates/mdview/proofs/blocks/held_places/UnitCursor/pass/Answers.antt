use Rattle.std.proofs.Common.{Some, slice_get, min, ◌≡◌, ◌<◌, ◌+◌, ◌∷◌, List, drop, map, length, arith, ap, sym, ◌∙◌, subst}
use Rattle.mdchunks.specs.Sequences.{Sequence}
use Rattle.mdsource.proofs.UnitPlaces.{ahead_next}
use Rattle.mdview.specs.HeldBlocks.{lines_in}
use Rattle.mdview.specs.HeldUnit.{HeldUnit}
use Rattle.mdview.proofs.Ahead.{first_comes, first_left, left_at, left_behind, something_comes}
use Rattle.std.proofs.lemmas.Option.{slice_get-get_or}
use Rattle.mdview.proofs.PassedItems.{next_line}
use Rattle.mdview.proofs.UnitSizes.{sizes_here}
use Rattle.mdview.proofs.blocks.held_places.UnitCursor.pass.Goals as goal

pub unwrap-unit-requires : goal.unwrap-unit-requires
unwrap-unit-requires c =
    let units : List HeldUnit = c.loop-self.self.units.now.items in
    let below : c.loop-self.self.next.unit < length units = omega (arith, c.loop-self-test.true, c.len.ensures) in
    something_comes (λ x. x.now) c.next.result c.loop-self.self.rest c.next.new.self c.next.ensures.steps
    (left_at units c.loop-self.self.rest c.loop-self.self.next.unit c.loop-self.self.stands below)

pub invariant_of-self : goal.invariant_of-self
invariant_of-self c =
    let units : List HeldUnit = c.loop-self.self.units.now.items in
    let u : HeldUnit = c.unwrap-unit.result.now in
    let comes = first_comes (λ x. x.now) c.next.result c.loop-self.self.rest c.next.new.self c.unwrap-unit.result c.next.ensures.steps c.unwrap-unit.ensures in
    record { stands = left_behind units c.loop-self.self.rest c.next.new.self u c.loop-self.self.next.unit c.loop-self.self.stands comes }

pub loop-self-preserved : goal.loop-self-preserved
loop-self-preserved c =
    let same = c.loop-self.invariant.same in
    let units : List HeldUnit = c.loop-self.self.units.now.items in
    let unit = c.loop-self.self.next.unit in
    let u : HeldUnit = c.unwrap-unit.result.now in
    let below : unit < length units = omega (arith, c.loop-self-test.true, c.len.ensures) in
    let comes = first_comes (λ x. x.now) c.next.result c.loop-self.self.rest c.next.new.self c.unwrap-unit.result c.next.ensures.steps c.unwrap-unit.ensures in
    let at = first_left units c.loop-self.self.rest c.next.new.self u u unit c.loop-self.self.stands comes in
    let sizes = map lines_in c.args.self.now.units.now.items in
    let here : drop unit sizes ≡ lines_in u ∷ drop (unit + 1) sizes =
    subst (λ (us : Sequence HeldUnit). drop unit (map lines_in us.items) ≡ lines_in u ∷ drop (unit + 1) (map lines_in us.items)) same (sizes_here units unit u below at) in
    record {
      same = same;
      forward = omega (arith, c.loop-self.invariant.forward);
      ahead = λ e lines low few order w. ahead_next e lines sizes unit c.loop-self.self.next.line c.args.line (lines_in u) (drop (unit + 1) sizes) c.saturating_add.result few here
          (omega (arith, c.if-self-line.true)) (omega (arith, c.saturating_add.ensures, c.lines.ensures)) (c.loop-self.invariant.ahead e lines low few order w);
      counted = λ head w.
          let us = c.args.self.now.units.now.items in
          let is : slice_get us unit ≡ Some u =
          ap (λ (q : Sequence HeldUnit). slice_get q.items unit) (sym same) ∙ slice_get-get_or units unit u below ∙ ap (λ v. Some v) (sym at) in
          next_line head us unit u c.loop-self.self.next.line c.saturating_add.result is (c.loop-self.invariant.counted head w) (c.saturating_add.ensures ∙ ap (λ n. min (c.loop-self.self.next.line + n) 18446744073709551615) c.lines.ensures);
    }
