use Rattle.std.specs.List.{AllByRecursion}
use Rattle.std.proofs.Common.{◌∙◌, ap, drop, length-append, ◌≡◌, ◌+◌, ◌-◌, ◌<◌, ◌≤◌, ◌^◌, length, string_bytes, sym, subst, arith}
use Rattle.std.proofs.lemmas.List.{take_rest}
use Rattle.mdhtml.proofs.KeptItems.{like_movable}
use Rattle.mdhtml.proofs.lists.kept_items.append_kept.Goals as goal

pub push_moved-requires : goal.push_moved-requires
push_moved-requires c =
    let ends = c.args.like.now.ends.now in
    let kept = c.args.kept.now in
    let at = c.args.between.now.later in
    let size : c.len.result ≡ length (string_bytes c.write_item_ends.new.out) + length kept.tail.now =
    c.len.ensures ∙ c.push_str-2.new.self.bytes.ok.0 ∙ ap length c.in_ok-push_str-2.ensures.bytes ∙ length-append (string_bytes c.write_item_ends.new.out) kept.tail.now in
    subst (λ z. AllByRecursion (λ e. (kept.tail_at ≤ e) × ((e - kept.tail_at) + (c.len.result - length kept.tail.now) < 2 ^ 64)) z) (sym (take_rest ends at))
    (like_movable kept.tail_at (c.len.result - length kept.tail.now) (length kept.tail.now) (drop at ends) (omega (arith, size)) c.requires.tail)
