use Rattle.std.proofs.Common.{◌∙◌, sym, arith}
use Rattle.mdtext.proofs.Indents.{count_more, count_fits, count_ends, count_all}
use Rattle.mdtext.proofs.Unindented.{blanks_more, blanks_end, blanks_all}
use Rattle.mdtext.proofs.cursor.front_of.Goals as goal

pub returns-then-not-is_space_or_tab-clause-bytes : goal.returns-then-not-is_space_or_tab-clause-bytes
returns-then-not-is_space_or_tab-clause-bytes c = blanks_end _ _ c.loop-at.invariant.bytes c.loop-at-test.true (sym c.is_space_or_tab.ensures ∙ c.if-not-is_space_or_tab.true)

pub returns-then-not-is_space_or_tab-clause-columns : goal.returns-then-not-is_space_or_tab-clause-columns
returns-then-not-is_space_or_tab-clause-columns c = count_ends _ _ _ _ c.loop-at.invariant.columns c.loop-at-test.true (sym c.is_space_or_tab.ensures ∙ c.if-not-is_space_or_tab.true)

pub overflow_add-end : goal.overflow_add-end
overflow_add-end c = let fits = count_fits _ _ _ _ _ c.loop-at.invariant.columns c.loop-at-test.true c.width-end.ensures in omega (arith, fits)

pub loop-at-preserved : goal.loop-at-preserved
loop-at-preserved c =
    let blank = sym c.is_space_or_tab.ensures ∙ c.if-not-is_space_or_tab.false in
    record {
      columns = count_more _ _ _ _ _ c.loop-at.invariant.columns c.loop-at-test.true c.width-end.ensures blank;
      bytes = blanks_more _ _ c.loop-at.invariant.bytes c.loop-at-test.true blank;
    }

pub returns-clause-bytes : goal.returns-clause-bytes
returns-clause-bytes c = blanks_all _ _ c.loop-at.invariant.bytes c.loop-at-test.false

pub returns-clause-columns : goal.returns-clause-columns
returns-clause-columns c = count_all _ _ _ _ c.loop-at.invariant.columns c.loop-at-test.false
