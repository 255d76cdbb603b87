use Rattle.std.proofs.Common.{ap, arith, refl, sym, ◌∙◌, Err, Some, subst}
use Rattle.std.proofs.lemmas.Result.{on_ok_weaker}
use Rattle.blockspec.specs.BlockKinds.{Quote, Holds, Item}
use Rattle.mdblock.specs.held.LevelSteps.{IsLeafStart, BeginsBehind}
use Rattle.mdblock.specs.held.StartKind.{kind_of_start}
use Rattle.mdblock.proofs.LevelBegins.{blank_begins, block_begins, err_is}
use Rattle.mdblock.proofs.LevelContainers.{quote_begins, item_begins}
use Rattle.mdblock.proofs.LevelLeaves.{leaf_fits, found_fits, leaf_opens, leaf_start, start_is}
use Rattle.mdblock.proofs.LevelLines.{blank_sinks, held_fits, held_deepest}
use Rattle.mdblock.proofs.open_blocks.Level.+begin.Goals as goal

pub begin-returns-then-is_blank-clause-behind : goal.begin-returns-then-is_blank-clause-behind
begin-returns-then-is_blank-clause-behind t c =
    blank_begins c.args.room c.args.self.now c.args.gathering.now c.args.line.now c.pass_blank.new.self (sym c.is_blank.ensures ∙ c.if-is_blank.true) c.pass_blank.ensures

pub begin-returns-then-is_blank-clause-fits : goal.begin-returns-then-is_blank-clause-fits
begin-returns-then-is_blank-clause-fits t c = blank_sinks c.args.room c.args.line.now (sym c.is_blank.ensures ∙ c.if-is_blank.true)

pub begin-returns-clause-behind : goal.begin-returns-clause-behind
begin-returns-clause-behind t c =
    on_ok_weaker c.begin_block.result
    (block_begins c.args.room c.args.self.now c.args.gathering.now c.args.line.now c.mark_begun.new.self c.begin_block.new.self c.begin_block.new.gathering (sym c.is_blank.ensures ∙ c.if-is_blank.false) c.mark_begun.ensures)
    c.begin_block.ensures.begins

-- ---- a paragraph

pub begin_block-returns-in_default-clause-begins : goal.begin_block-returns-in_default-clause-begins
begin_block-returns-in_default-clause-begins t c = c.in_ok-begin_paragraph.ensures.begins c.args.room

pub begin_block-returns-in_default-clause-fits : goal.begin_block-returns-in_default-clause-fits
begin_block-returns-in_default-clause-fits t c = leaf_fits c.args.room c.args.line.now c.args.opening c.requires.opening.1 (subst IsLeafStart (sym c.in_default.is) tt)

-- ---- a block quote

pub begin_block-returns-in_err-deeper-in-Quote-clause-sinks : goal.begin_block-returns-in_err-deeper-in-Quote-clause-sinks
begin_block-returns-in_err-deeper-in-Quote-clause-sinks t c = λ _.
    let l = c.args.line.now in
    held_deepest c.args.room Quote l c.in_err-deeper-in-Quote.ensures.none (start_is l c.args.opening c.in-Some.start c.in-Some.is c.requires.opening.1 ∙ ap (kind_of_start l) c.in-Quote.is)

pub begin_block-returns-in_err-begin-in-Quote-clause-sinks : goal.begin_block-returns-in_err-begin-in-Quote-clause-sinks
begin_block-returns-in_err-begin-in-Quote-clause-sinks t c = λ is.
    let l = c.args.line.now in
    held_fits c.args.room c.in_ok-deeper-in-Quote.field-0 Quote l c.take_marker.new.line _ c.in_ok-deeper-in-Quote.ensures.less (start_is l c.args.opening c.in-Some.start c.in-Some.is c.requires.opening.1 ∙ ap (kind_of_start l) c.in-Quote.is)
    c.take_marker.ensures
    (c.in_err-begin-in-Quote.ensures.sinks (ap Err (sym (err_is c.from_residual-in_err-begin-in-Quote.result _ _ c.from_residual-in_err-begin-in-Quote.ensures.1 is))))

pub begin_block-returns-in_ok-hold_quote-in-Quote-clause-begins : goal.begin_block-returns-in_ok-hold_quote-in-Quote-clause-begins
begin_block-returns-in_ok-hold_quote-in-Quote-clause-begins t c =
    let l = c.args.line.now in
    let g = c.args.gathering.now in
    let less = c.in_ok-deeper-in-Quote.field-0 in
    let h = c.in_ok-hold_quote-in-Quote.ensures in
    quote_begins c.args.room less c.args.self.now g l c.new-inner.result c.begin.new.self c.hold_quote.new.self c.begin.new.gathering c.in_ok-deeper-in-Quote.ensures.less
    (start_is l c.args.opening c.in-Some.start c.in-Some.is c.requires.opening.1 ∙ ap (kind_of_start l) c.in-Quote.is)
    c.new-inner.ensures.over
    (subst (λ z. BeginsBehind less c.new-inner.result g z c.begin.new.self c.begin.new.gathering) c.take_marker.ensures c.in_ok-begin-in-Quote.ensures.behind)
    h.over h.marks h.last

pub begin_block-returns-in_ok-hold_quote-in-Quote-clause-fits : goal.begin_block-returns-in_ok-hold_quote-in-Quote-clause-fits
begin_block-returns-in_ok-hold_quote-in-Quote-clause-fits t c =
    let l = c.args.line.now in
    held_fits c.args.room c.in_ok-deeper-in-Quote.field-0 Quote l c.take_marker.new.line _ c.in_ok-deeper-in-Quote.ensures.less (start_is l c.args.opening c.in-Some.start c.in-Some.is c.requires.opening.1 ∙ ap (kind_of_start l) c.in-Quote.is)
    c.take_marker.ensures c.in_ok-begin-in-Quote.ensures.fits

-- ---- a list item

pub begin_block-returns-in_err-deeper-in-Item-clause-sinks : goal.begin_block-returns-in_err-deeper-in-Item-clause-sinks
begin_block-returns-in_err-deeper-in-Item-clause-sinks t c = λ _.
    let l = c.args.line.now in
    let m = c.in-Item.marker in
    held_deepest c.args.room (Item m c.take_marker-needed.result) l c.in_err-deeper-in-Item.ensures.none
    (start_is l c.args.opening c.in-Some.start c.in-Some.is c.requires.opening.1 ∙ ap (kind_of_start l) c.in-Item.is ∙ ap Holds c.take_marker-needed.ensures.needed)

pub begin_block-returns-in_err-begin-in-Item-clause-sinks : goal.begin_block-returns-in_err-begin-in-Item-clause-sinks
begin_block-returns-in_err-begin-in-Item-clause-sinks t c = λ is.
    let l = c.args.line.now in
    let m = c.in-Item.marker in
    held_fits c.args.room c.in_ok-deeper-in-Item.field-0 (Item m c.take_marker-needed.result) l c.take_marker-needed.new.line _ c.in_ok-deeper-in-Item.ensures.less
    (start_is l c.args.opening c.in-Some.start c.in-Some.is c.requires.opening.1 ∙ ap (kind_of_start l) c.in-Item.is ∙ ap Holds c.take_marker-needed.ensures.needed)
    c.take_marker-needed.ensures.line
    (c.in_err-begin-in-Item.ensures.sinks (ap Err (sym (err_is c.from_residual-in_err-begin-in-Item.result _ _ c.from_residual-in_err-begin-in-Item.ensures.1 is))))

pub begin_block-returns-in_ok-hold_list-in-Item-clause-begins : goal.begin_block-returns-in_ok-hold_list-in-Item-clause-begins
begin_block-returns-in_ok-hold_list-in-Item-clause-begins t c =
    let l = c.args.line.now in
    let g = c.args.gathering.now in
    let m = c.in-Item.marker in
    let needed = c.take_marker-needed.result in
    let less = c.in_ok-deeper-in-Item.field-0 in
    let inner = c.begin-in-Item.new.self in
    let h = c.in_ok-hold_list-in-Item.ensures in
    let n = c.new-list.ensures in
    item_begins c.args.room less c.args.self.now g l c.new-inner-in-Item.result inner c.hold_list.new.self c.new-list.result c.begin-in-Item.new.gathering m needed c.in_ok-deeper-in-Item.ensures.less
    (start_is l c.args.opening c.in-Some.start c.in-Some.is c.requires.opening.1 ∙ ap (kind_of_start l) c.in-Item.is ∙ ap Holds c.take_marker-needed.ensures.needed)
    c.new-inner-in-Item.ensures.over
    (subst (λ z. BeginsBehind less c.new-inner-in-Item.result g z inner c.begin-in-Item.new.gathering) c.take_marker-needed.ensures.line c.in_ok-begin-in-Item.ensures.behind)
    h.over h.marks h.last (record { kind_is = n.kind; needed_is = n.needed; open_is = n.open; tight = n.tight; none = n.none })

pub begin_block-returns-in_ok-hold_list-in-Item-clause-fits : goal.begin_block-returns-in_ok-hold_list-in-Item-clause-fits
begin_block-returns-in_ok-hold_list-in-Item-clause-fits t c =
    let l = c.args.line.now in
    let m = c.in-Item.marker in
    held_fits c.args.room c.in_ok-deeper-in-Item.field-0 (Item m c.take_marker-needed.result) l c.take_marker-needed.new.line _ c.in_ok-deeper-in-Item.ensures.less
    (start_is l c.args.opening c.in-Some.start c.in-Some.is c.requires.opening.1 ∙ ap (kind_of_start l) c.in-Item.is ∙ ap Holds c.take_marker-needed.ensures.needed)
    c.take_marker-needed.ensures.line c.in_ok-begin-in-Item.ensures.fits

-- ---- other leaves

pub begin_block-returns-in_ok-begin_heading-in-Heading-clause-begins : goal.begin_block-returns-in_ok-begin_heading-in-Heading-clause-begins
begin_block-returns-in_ok-begin_heading-in-Heading-clause-begins t c = c.in_ok-begin_heading-in-Heading.ensures.begins c.args.room

pub begin_block-returns-in_ok-begin_heading-in-Heading-clause-fits : goal.begin_block-returns-in_ok-begin_heading-in-Heading-clause-fits
begin_block-returns-in_ok-begin_heading-in-Heading-clause-fits t c =
    found_fits c.args.room c.args.line.now c.args.opening c.in-Some.start c.in-Some.is c.requires.opening.1 (subst (λ z. IsLeafStart (Some z)) (sym c.in-Heading.is) tt)

pub begin_block-returns-in_ok-begin_leaf-in_default-start : goal.begin_block-returns-in_ok-begin_leaf-in_default-start
begin_block-returns-in_ok-begin_leaf-in_default-start t c =
    let h = c.in_ok-begin_leaf-in_default-start.ensures in
    record {
      within = h.within _ c.requires.level;
      grows = (omega arith, refl);
      begins = h.begins c.args.room;
      fits = found_fits c.args.room c.args.line.now c.args.opening c.in-Some.start c.in-Some.is c.requires.opening.1
          (leaf_opens c.in-Some.start (leaf_start c.in-Some.start c.in_default-start.not-Quote c.in_default-start.not-Item c.in_default-start.not-Heading));
      sinks = λ is. absurd (let x : ⊥ = cc in x);
    }
