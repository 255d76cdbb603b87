use Rattle.std.proofs.Common.{ℕ, List, Bor, take, ap, ◌∙◌}
use Rattle.std.specs.List.{list_any}
use Rattle.std.specs.Str.{str_eq_ignore_ascii_case}
use Rattle.mdscan.specs.HtmlBlock.{begins_one_of, block_names}
use Rattle.mdscan.proofs.html_blocks.begins_block_word.Goals as goal

pub returns : goal.returns
unfolding begins_one_of block_names
returns c =
    c.one_of.ensures
    ∙ (ap (λ (words : List (Bor (List ℕ))). list_any (λ word. str_eq_ignore_ascii_case word.now (take c.leading_name.result c.args.text.now)) words) c.as_slice.ensures
    ∙ ap (λ (n : ℕ). list_any (λ word. str_eq_ignore_ascii_case word (take n c.args.text.now)) block_names) c.leading_name.ensures.count)
