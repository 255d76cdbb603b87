use Rattle.std.proofs.Common.{length, string_bytes}
use Rattle.mdinline.proofs.BuiltRows.{built_none}
use Rattle.mdinline.proofs.JoinedRows.{none_joined}
use Rattle.mdinline.proofs.NestedRows.{nested_none}
use Rattle.mdinline.proofs.trees.TreeBuilder.new.Goals as goal

pub invariant_of-result : goal.invariant_of-result
invariant_of-result c = record { nested = nested_none c.clear-3.new.self.items (length c.clear-2.new.self.items) c.clear-3.ensures.items }

pub returns-clause-events : goal.returns-clause-events
returns-clause-events c =
    built_none c.clear-3.new.self.items c.clear-2.new.self.items (string_bytes c.clear.new.self) c.clear-3.ensures.items c.clear-2.ensures.items c.clear.ensures.bytes

pub returns-clause-joined : goal.returns-clause-joined
returns-clause-joined c = none_joined c.clear-3.new.self.items c.clear-2.new.self.items c.clear-3.ensures.items c.clear-2.ensures.items
