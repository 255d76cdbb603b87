use Rattle.std.proofs.Common.{◌≡◌, Err, map, string_bytes, ap, sym, subst, ◌∙◌}
use Rattle.mdview.specs.Document.{Document, empty}
use Rattle.mdtool.specs.PreludeSet.{PreludeSet}
use Rattle.mdtool.proofs.PreludeEnds.{sets, refuses_prelude}
use Rattle.mdtool.proofs.serving.preview_with.Goals as goal

pub returns-in-Ok : goal.returns-in-Ok
returns-in-Ok c =
    let texts : map (λ line. line.now) c.deref.result.now ≡ map string_bytes c.args.prelude.now = ap (map (λ line. line.now)) c.deref.ensures.value ∙ c.in_ok-lines.ensures in
    sets c.set_prelude.result _ c.set_prelude.new.self _ _ c.in-Ok.is (rw (texts, c.new-preview.ensures) at c.set_prelude.ensures.outcome)

pub returns-in-Err : goal.returns-in-Err
returns-in-Err c =
    let none : Document = empty c.args.entities c.args.options in
    let texts : map (λ line. line.now) c.deref.result.now ≡ map string_bytes c.args.prelude.now = ap (map (λ line. line.now)) c.deref.ensures.value ∙ c.in_ok-lines.ensures in
    subst (λ fault. PreludeSet (λ (held : Document). held) (Err fault) none (map string_bytes c.args.prelude.now)) (sym c.refusal.ensures)
    (refuses_prelude (λ (held : Document). held) c.set_prelude.result c.in-Err.fault none c.set_prelude.new.self _ c.in-Err.is (rw (texts, c.new-preview.ensures) at c.set_prelude.ensures.outcome))
