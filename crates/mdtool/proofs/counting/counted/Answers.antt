use Rattle.std.proofs.Common.{◌≡◌, ◌+◌, ◌≤◌, ℕ, List, map, length, ap, subst, sym, ◌∙◌}
use Rattle.std.proofs.lemmas.List.{length-map}
use Rattle.mdsource.specs.SoonTexts.{texts_soon}
use Rattle.mdsource.specs.Stops.{lines_soon}
use Rattle.mdsource.specs.Calls.{edit, set_prelude}
use Rattle.mdview.specs.Document.{setting_of, source_of}
use Rattle.mdview.specs.Outcome.{answer_of, is_starved, outcome_of}
use Rattle.mdtool.proofs.CountedScripts.{counting}
use Rattle.mdtool.proofs.counting.counted.Goals as goal

pub returns-in_ok-lines-in-Edit : goal.returns-in_ok-lines-in-Edit
returns-in_ok-lines-in-Edit c =
    let texts : map (λ line. line.now) c.deref-in-Edit.result.now ≡ c.in-Edit.add = ap (map (λ line. line.now)) c.deref-in-Edit.ensures.value ∙ c.in_ok-lines-in-Edit.ensures in
    let old = c.args.preview.now in
    let after = c.edit-answer.new in
    let answered = subst (λ (ls : List (List ℕ)). (answer_of c.edit-answer.result, after.self) ≡ outcome_of (is_starved c.edit-answer.result) old (edit c.in-Edit.at c.in-Edit.del ls)) texts c.edit-answer.ensures.outcome in
    let few = subst (λ (ls : List (List ℕ)). after.count.lines ≤ c.new-count.result.lines + lines_soon (setting_of old) (source_of old) (edit c.in-Edit.at c.in-Edit.del ls)) texts c.edit-answer.ensures.stretch in
    let few_texts = subst (λ (ls : List (List ℕ)). after.count.inlines ≤ c.new-count.result.inlines + texts_soon (setting_of old) (source_of old) (edit c.in-Edit.at c.in-Edit.del ls)) texts c.edit-answer.ensures.inlines in
    rw c.in-Edit.is (counting old after.self (edit c.in-Edit.at c.in-Edit.del c.in-Edit.add) c.edit-answer.result _ _ _ _ answered c.new-count.ensures.lines c.new-count.ensures.inlines few few_texts)

pub returns-in_ok-lines-in-Prelude : goal.returns-in_ok-lines-in-Prelude
returns-in_ok-lines-in-Prelude c =
    let texts : map (λ line. line.now) c.deref.result.now ≡ c.in-Prelude.lines = ap (map (λ line. line.now)) c.deref.ensures.value ∙ c.in_ok-lines-in-Prelude.ensures in
    let many : length c.deref.result.now ≡ length c.in-Prelude.lines = sym (length-map c.deref.result.now (λ line. line.now)) ∙ ap length texts in
    let old = c.args.preview.now in
    let after = c.set_prelude-answer.new in
    let answered = subst (λ (ls : List (List ℕ)). (answer_of c.set_prelude-answer.result, after.self) ≡ outcome_of (is_starved c.set_prelude-answer.result) old (set_prelude ls)) texts c.set_prelude-answer.ensures.outcome in
    let few = subst (λ (n : ℕ). after.count.lines ≤ c.new-count.result.lines + n) many c.set_prelude-answer.ensures.lines in
    let few_texts = subst (λ (ls : List (List ℕ)). after.count.inlines ≤ c.new-count.result.inlines + texts_soon (setting_of old) (source_of old) (set_prelude ls)) texts c.set_prelude-answer.ensures.inlines in
    rw c.in-Prelude.is (counting old after.self (set_prelude c.in-Prelude.lines) c.set_prelude-answer.result _ _ _ _ answered c.new-count.ensures.lines c.new-count.ensures.inlines few few_texts)
