use Rattle.std.proofs.Common.{◌≡◌, subst, sym, ◌∙◌}
use Rattle.inlinespec.specs.LabelMap.{target_of, put_first}
use Rattle.inlinespec.proofs.FirstTargets.{kept, put, shown}
use Rattle.mdinline.proofs.labels.LabelTable.add.Goals as goal

pub returns-then-contains_key-clause-ok : goal.returns-then-contains_key-clause-ok
returns-then-contains_key-clause-ok c =
    subst (λ m. m ≡ put_first m c.args.label (target_of c.args.target)) c.self.view_is
    (kept c.args.label (target_of c.args.target) c.self.inside.targets.entries (sym c.contains_key.ensures ∙ c.if-contains_key.true))

pub returns-clause-ok : goal.returns-clause-ok
returns-clause-ok c =
    subst (λ m. shown c.insert.new.self.entries ≡ put_first m c.args.label (target_of c.args.target)) c.self.view_is
    (put c.args.label c.args.target c.self.inside.targets.entries c.insert.new.self.entries (sym c.contains_key.ensures ∙ c.if-contains_key.false) c.in_ok-insert.ensures.entries)
