use Rattle.std.proofs.Common.{◌≡◌, Bor, Option, Some, None, map, option_map, refl, string_bytes, sym, ap, ◌∙◌}
use Rattle.std.specs.Prelude.{slice_get}
use Rattle.std.proofs.lemmas.Option.{slice_get-map}
use Rattle.mdsource.specs.Setting.{Setting}
use Rattle.mdview.specs.Document.{Document, pieces_of, readings_of}
use Rattle.mdview.specs.HeldUnit.{HeldUnit, piece_of, shown_in}
use Rattle.mdview.proofs.HeldViews.{pieces_are_viewed, readings_are_viewed}
use Rattle.mdview.proofs.preview.Preview.held.Goals as goal

fused : {A B C : Type 0} (f : A → B) (g : B → C) (o : Option A) → option_map (λ x. g (f x)) o ≡ option_map g (option_map f o)
fused f g None = refl
fused f g (Some x) = refl

pub returns-clause-shown : goal.returns-clause-shown
returns-clause-shown c =
    let p = c.self.inside in
    let setting : Setting = record { entities = p.entities; options = p.options } in
    let all = readings_are_viewed setting (map string_bytes p.lines.items) p.head p.prelude p.labels p.units.items c.self.invariant.5 c.self.invariant.7 in
    fused (λ (u : Bor HeldUnit). u.now) shown_in c.get.result
    ∙ ap (option_map shown_in) c.get.ensures
    ∙ sym (slice_get-map shown_in p.units.items c.args.i)
    ∙ ap (λ us. slice_get us c.args.i) all
    ∙ ap (λ (d : Document). slice_get (readings_of d) c.args.i) c.self.view_is

pub returns-clause-piece : goal.returns-clause-piece
returns-clause-piece c =
    let p = c.self.inside in
    let setting : Setting = record { entities = p.entities; options = p.options } in
    let all = pieces_are_viewed setting (map string_bytes p.lines.items) p.head p.prelude p.labels p.units.items c.self.invariant.5 c.self.invariant.7 c.self.invariant.3 in
    fused (λ (u : Bor HeldUnit). u.now) piece_of c.get.result
    ∙ ap (option_map piece_of) c.get.ensures
    ∙ sym (slice_get-map piece_of p.units.items c.args.i)
    ∙ ap (λ us. slice_get us c.args.i) all
    ∙ ap (λ (d : Document). slice_get (pieces_of d) c.args.i) c.self.view_is
