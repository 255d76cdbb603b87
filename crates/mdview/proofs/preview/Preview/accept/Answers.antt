use Rattle.std.proofs.Common.{◌≡◌, ℕ, ◌+◌, ◌-◌, ◌≤◌, List, map, length, string_bytes, arith, sym, ◌∙◌, refl, nat_lt, true, false, None}
use Rattle.std.proofs.lemmas.List.{length-map}
use Rattle.std.proofs.lemmas.Bool.Decides.{nat_tests}
use Rattle.mdsource.specs.SourceLimits.{size_of}
use Rattle.mdtext.specs.Lines.{without_nul}
use Rattle.mdview.specs.Edit.{call_of, due, put}
use Rattle.mdview.proofs.Due.{due_of_parts, put_of_parts}
use Rattle.mdview.proofs.LineWeights.{gone_is}
use Rattle.mdview.proofs.Sizes.{size_part}
use Rattle.mdview.proofs.preview.Preview.accept.Goals as goal

pub overflow_sub-kept : goal.overflow_sub-kept
overflow_sub-kept c =
    let e = gone_is c.self.inside.lines.items c.args.at c.args.del c.weight_between-gone.result (omega arith) c.weight_between-gone.ensures in
    let part = size_part (map string_bytes c.self.inside.lines.items) c.args.at c.args.del in
    omega (arith, e, part)

pub returns-then-added-kept-clause-err : goal.returns-then-added-kept-clause-err
returns-then-added-kept-clause-err c =
    let ls : List (List ℕ) = map string_bytes c.self.inside.lines.items in
    let long : length ls ≡ length c.self.inside.lines.items = length-map c.self.inside.lines.items string_bytes in
    let gone = gone_is c.self.inside.lines.items c.args.at c.args.del c.weight_between-gone.result (omega arith) c.weight_between-gone.ensures in
    let unbroken = sym c.first_line_break.ensures ∙ c.in_default.is in
    let is = due_of_parts ls c.args.at c.args.del c.args.add.now _ (omega arith) unbroken gone (omega arith) (omega arith) in
    let large : nat_lt 16777216 (size_of ls - c.weight_between-gone.result + size_of (map without_nul c.args.add.now)) ≡ true = grind (arith, nat_tests) in
    rw (← c.self.view_is, is, large) refl

pub returns-clause-ok : goal.returns-clause-ok
returns-clause-ok c =
    let ls : List (List ℕ) = map string_bytes c.self.inside.lines.items in
    let long : length ls ≡ length c.self.inside.lines.items = length-map c.self.inside.lines.items string_bytes in
    let gone = gone_is c.self.inside.lines.items c.args.at c.args.del c.weight_between-gone.result (omega arith) c.weight_between-gone.ensures in
    let unbroken = sym c.first_line_break.ensures ∙ c.in_default.is in
    let is = due_of_parts ls c.args.at c.args.del c.args.add.now _ (omega arith) unbroken gone (omega arith) (omega arith) in
    let after = put_of_parts ls c.args.at c.args.del c.args.add.now _ (omega arith) gone (omega arith) (omega arith) in
    let small : nat_lt 16777216 (size_of ls - c.weight_between-gone.result + size_of (map without_nul c.args.add.now)) ≡ false = grind (arith, nat_tests) in
    let call = call_of c.args.at c.args.del c.args.add.now in
    let none : due ls call ≡ None = is ∙ (rw small refl) in
    let size : c.self.inside.size - c.weight_between-gone.result + c.size-added.result ≡ size_of (put ls call) = omega arith in
    rw (← c.self.view_is) (none, size)

pub returns-clause-small : goal.returns-clause-small
returns-clause-small c =
    let ls : List (List ℕ) = map string_bytes c.self.inside.lines.items in
    let long : length ls ≡ length c.self.inside.lines.items = length-map c.self.inside.lines.items string_bytes in
    let gone = gone_is c.self.inside.lines.items c.args.at c.args.del c.weight_between-gone.result (omega arith) c.weight_between-gone.ensures in
    let after = put_of_parts ls c.args.at c.args.del c.args.add.now _ (omega arith) gone (omega arith) (omega arith) in
    let small : size_of (put ls (call_of c.args.at c.args.del c.args.add.now)) ≤ 16777216 = omega arith in
    rw (← c.self.view_is) (after.1, small)
