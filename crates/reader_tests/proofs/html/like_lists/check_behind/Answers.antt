use Rattle.std.proofs.Common.{◌≡◌, ℕ, ◌-◌, ◌≤◌, ◌+◌, List, length, take, drop, ap, sym, ◌∙◌, arith}
use Rattle.std.proofs.lemmas.List.{drop-drop, length-drop, take_rest}
use Rattle.reader_tests.proofs.html.like_lists.check_behind.Goals as goal

-- what a list ends with, and the same end of its own end
same_end : {A : Type 0} (xs : List A) (m k : ℕ) → k ≤ m → m ≤ length xs →
    drop (length xs - k) xs ≡ drop (length (take (length xs - (length xs - m)) (drop (length xs - m) xs)) - k) (take (length xs - (length xs - m)) (drop (length xs - m) xs))
same_end xs m k low within =
    let p = length xs - m in
    let long : length (drop p xs) ≡ m = length-drop p xs ∙ omega (arith, within) in
    let at : p + (length (drop p xs) - k) ≡ length xs - k = omega (arith, long, low, within) in
    sym (ap (λ ys. drop (length ys - k) ys) (take_rest xs p) ∙ drop-drop (length (drop p xs) - k) p xs ∙ ap (λ n. drop n xs) at)

pub check_units-requires-clause-behind : goal.check_units-requires-clause-behind
check_units-requires-clause-behind g c =
    let low : c.args.behind ≤ length c.texts-count.result.now = omega (arith, c.if-behind-count.false) in
    let within : length c.texts-count.result.now ≤ length c.args.texts.now = omega (arith, c.if-count-texts.false) in
    same_end c.args.texts.now (length c.texts-count.result.now) c.args.behind low within
