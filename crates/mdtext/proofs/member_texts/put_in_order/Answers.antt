use Rattle.std.proofs.Common.{rules}
use Rattle.std.proofs.lemmas.Fn.{always_returns_same}
use Rattle.std.proofs.lemmas.Result.{on_ok_weaker}
use Rattle.mdtext.proofs.ResortedTexts.{goes_before, is_order, sorted_stably}
use Rattle.mdtext.proofs.member_texts.put_in_order.Goals as goal

pub returns-clause-order : goal.returns-clause-order
returns-clause-order c =
    let bytes = c.args.bytes.now in
    on_ok_weaker c.sort_by.result (λ sorted. sorted (goes_before bytes) (is_order bytes) (always_returns_same _ _ _ (λ a r g k. (search rules, search rules)))) c.sort_by.ensures.sorted

pub returns-clause-same : goal.returns-clause-same
returns-clause-same c =
    let bytes = c.args.bytes.now in
    sorted_stably bytes c.args.spans.now.items c.sort_by.new.self.items (c.sort_by.ensures.stable (goes_before bytes) (is_order bytes) (always_returns_same _ _ _ (λ a r g k. (search rules, search rules))))
