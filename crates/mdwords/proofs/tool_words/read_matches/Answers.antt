use Rattle.std.proofs.Common.{◌∙◌}
use Rattle.mdwords.proofs.tool_words.read_matches.Goals as goal

pub returns-clause-read : goal.returns-clause-read
returns-clause-read c = λ words rows. record {
  matches = c.args.matches.now;
  rows = rows;
  options = c.in_ok-options.ensures.read;
  entities = c.in_ok-entities.ensures ∙ c.get_str.ensures;
  html_entities = c.in_ok-html_entities.ensures.read;
  double_tilde = c.is_on.ensures;
  prelude = c.in_ok-prelude.ensures ∙ c.get_str-2.ensures;
  file = c.in_ok-file.ensures ∙ c.get_str-3.ensures;
  explains = c.is_on-2.ensures;
  replies = c.replies_of.ensures;
  anyway = c.in_ok-require_done_anyway.ensures.done;
}
