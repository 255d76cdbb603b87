use Rattle.mdtool.proofs.explaining.refusal_told.Goals as goal

pub returns-in_ok-told-in-NestedTooDeep : goal.returns-in_ok-told-in-NestedTooDeep
returns-in_ok-told-in-NestedTooDeep c =
    rw c.in-NestedTooDeep.is (rw (c.as_str.ensures.value, c.in_ok-told-in-NestedTooDeep.ensures.ok) at c.in_line.ensures)

pub returns-in_ok-told-in-InlineTooDeep : goal.returns-in_ok-told-in-InlineTooDeep
returns-in_ok-told-in-InlineTooDeep c =
    rw c.in-InlineTooDeep.is (rw (c.as_str-in-InlineTooDeep.ensures.value, c.in_ok-told-in-InlineTooDeep.ensures.ok) at c.in_line-in-InlineTooDeep.ensures)

pub returns-in-NotDefinitions : goal.returns-in-NotDefinitions
returns-in-NotDefinitions c = rw c.in-NotDefinitions.is c.in_line-in-NotDefinitions.ensures
