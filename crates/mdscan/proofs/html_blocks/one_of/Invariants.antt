use Rattle.std.proofs.Common.{◌≡◌, drop}
use Rattle.std.specs.List.{list_any}
use Rattle.std.specs.Str.{str_eq_ignore_ascii_case}
use Rattle.mdscan.proofs.html_blocks.one_of.Given as goal

-- the words that are left decide
abbrev pub invariant-loop-word : goal.invariant-loop-word
invariant-loop-word l =
    list_any (λ word. str_eq_ignore_ascii_case word.now l.fn.text) (drop l.word-index l.words)
    ≡ list_any (λ word. str_eq_ignore_ascii_case word.now l.fn.text) l.words
