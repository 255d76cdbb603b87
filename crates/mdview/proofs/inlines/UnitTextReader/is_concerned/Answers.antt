use Rattle.std.proofs.Common.{◌+◌, Bool, ◌||◌, drop, ap, ◌∙◌, sym}
use Rattle.std.specs.List.{list_any}
use Rattle.inlinespec.specs.ParsedText.{ParsedText}
use Rattle.mdsource.specs.Changes.{asks_changed}
use Rattle.mdview.specs.HeldTexts.{labels_before, labels_behind}
use Rattle.mdview.proofs.Concerns.{concerned}
use Rattle.mdview.proofs.ReadTexts.{any_here}
use Rattle.mdview.proofs.inlines.UnitTextReader.is_concerned.Goals as goal

pub returns-then-concern : goal.returns-then-concern
returns-then-concern c =
    let p : ParsedText → Bool = asks_changed (labels_before c.args.self.now) (labels_behind c.args.self.now) in
    let items = c.inlines-parsed-items.result.now in
    let i = c.loop-parsed.parsed-index in
    let asks = concerned c.args.self.now c.args.self.now.elsewhere c.parsed-item.result c.asked.result.now c.concern.result c.asked.ensures c.concern.ensures in
    sym (sym c.loop-parsed.invariant ∙ ap (λ l. list_any p (drop i l)) (sym c.inlines-parsed-items.ensures.value)
    ∙ any_here p items i c.parsed-item.result c.loop-parsed-test.true c.parsed-item.is ∙ ap (λ b. b || list_any p (drop (i + 1) items)) (sym asks ∙ c.if-concern.true))

pub loop-parsed-preserved : goal.loop-parsed-preserved
loop-parsed-preserved c =
    let p : ParsedText → Bool = asks_changed (labels_before c.args.self.now) (labels_behind c.args.self.now) in
    let items = c.inlines-parsed-items.result.now in
    let i = c.loop-parsed.parsed-index in
    let asks = concerned c.args.self.now c.args.self.now.elsewhere c.parsed-item.result c.asked.result.now c.concern.result c.asked.ensures c.concern.ensures in
    ap (λ l. list_any p (drop (i + 1) l)) (sym c.inlines-parsed-items.ensures.value)
    ∙ sym (any_here p items i c.parsed-item.result c.loop-parsed-test.true c.parsed-item.is ∙ ap (λ b. b || list_any p (drop (i + 1) items)) (sym asks ∙ c.if-concern.false))
    ∙ ap (λ l. list_any p (drop i l)) c.inlines-parsed-items.ensures.value ∙ c.loop-parsed.invariant
