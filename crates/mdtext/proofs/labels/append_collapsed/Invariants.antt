use denote.Shadow.{shadow}
use denote.Text.{Utf8}
use Rattle.std.proofs.Common.{◌≡◌, length, string_bytes, fold}
use Rattle.mdtext.specs.Labels.{add_word, words}
use Rattle.mdtext.proofs.labels.append_collapsed.Given as goal

abbrev pub invariant-loop-after : goal.invariant-loop-after
invariant-loop-after l = record {
  text : shadow (Utf8 l.rest);
  so_far : fold add_word (string_bytes l.text) (words l.rest) ≡ fold add_word (string_bytes l.fn.text) (words l.inside);
}

abbrev pub decreases-loop-after : goal.decreases-loop-after
decreases-loop-after l = length l.rest
