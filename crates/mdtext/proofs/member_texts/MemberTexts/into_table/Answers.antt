use Rattle.std.proofs.Common.{◌≡◌, ◌≢◌, ◌∙◌, [], All, IfErr, IfOk, None, Some, ap, map, subst, sym}
use Rattle.mdtext.specs.MemberTexts.{IsHeld, IsTable, StandInOrder, all_given, given, put_each}
use Rattle.mdtext.specs.declared.entity_file.TableFault.TheVariants.{BadEntry, NoMemory}
use Rattle.mdtext.proofs.HeldMembers.{are_texts, gathered_in_order, moved_held, table_is}
use Rattle.mdtext.proofs.member_texts.MemberTexts.into_table.Goals as goal

pub of_spans-requires : goal.of_spans-requires
of_spans-requires c =
    let bytes = c.shrink_to_fit.new.self.items in
    let spans = c.put_in_order.new.spans.items in
    let held = moved_held c.shrink_to_fit.new.self.items c.args.self.bytes.items c.shrink_to_fit-2.new.self.items c.args.self.spans.items c.put_in_order.new.spans.items c.shrink_to_fit.ensures.items c.shrink_to_fit-2.ensures.items c.in_ok-put_in_order.ensures.moved c.requires in
    let order = subst (λ b. StandInOrder b spans) c.deref.ensures.value c.in_ok-put_in_order.ensures.order in
    are_texts bytes spans held order (subst (IsTable bytes) c.deref-3.ensures.value (subst (λ b. IsTable b c.deref-3.result.now) c.deref-2.ensures.value (c.is_table.ensures c.if-is_table.true)))

pub returns-then-is_table-clause-ok : goal.returns-then-is_table-clause-ok
returns-then-is_table-clause-ok c =
    let bytes = c.shrink_to_fit.new.self.items in
    let spans = c.put_in_order.new.spans.items in
    let told = gathered_in_order c.args.self c.shrink_to_fit.new.self.items c.deref.result.now c.shrink_to_fit-2.new.self.items c.put_in_order.new.spans.items c.if-has_bad_name.false c.shrink_to_fit.ensures.items c.deref.ensures.value c.shrink_to_fit-2.ensures.items c.in_ok-put_in_order.ensures.same in
    let held = moved_held c.shrink_to_fit.new.self.items c.args.self.bytes.items c.shrink_to_fit-2.new.self.items c.args.self.spans.items c.put_in_order.new.spans.items c.shrink_to_fit.ensures.items c.shrink_to_fit-2.ensures.items c.in_ok-put_in_order.ensures.moved c.requires in
    let order = subst (λ b. StandInOrder b spans) c.deref.ensures.value c.in_ok-put_in_order.ensures.order in
    told ∙ table_is bytes spans held order (subst (IsTable bytes) c.deref-3.ensures.value (subst (λ b. IsTable b c.deref-3.result.now) c.deref-2.ensures.value (c.is_table.ensures c.if-is_table.true))) ∙ ap Some (sym c.of_spans.ensures)

pub table_of-requires-clause-held : goal.table_of-requires-clause-held
table_of-requires-clause-held c =
    let bytes = c.shrink_to_fit.new.self.items in
    let spans = c.put_in_order.new.spans.items in
    let held = moved_held c.shrink_to_fit.new.self.items c.args.self.bytes.items c.shrink_to_fit-2.new.self.items c.args.self.spans.items c.put_in_order.new.spans.items c.shrink_to_fit.ensures.items c.shrink_to_fit-2.ensures.items c.in_ok-put_in_order.ensures.moved c.requires in
    subst (λ b. All (IsHeld b) c.deref-5.result.now) (sym c.deref-4.ensures.value) (subst (All (IsHeld bytes)) (sym c.deref-5.ensures.value) held)

pub table_of-requires-clause-order : goal.table_of-requires-clause-order
table_of-requires-clause-order c =
    let bytes = c.shrink_to_fit.new.self.items in
    let spans = c.put_in_order.new.spans.items in
    let order = subst (λ b. StandInOrder b spans) c.deref.ensures.value c.in_ok-put_in_order.ensures.order in
    subst (λ b. StandInOrder b c.deref-5.result.now) (sym c.deref-4.ensures.value) (subst (StandInOrder bytes) (sym c.deref-5.ensures.value) order)

pub returns-clause-ok : goal.returns-clause-ok
returns-clause-ok c =
    let bytes = c.shrink_to_fit.new.self.items in
    let spans = c.put_in_order.new.spans.items in
    let told = gathered_in_order c.args.self c.shrink_to_fit.new.self.items c.deref.result.now c.shrink_to_fit-2.new.self.items c.put_in_order.new.spans.items c.if-has_bad_name.false c.shrink_to_fit.ensures.items c.deref.ensures.value c.shrink_to_fit-2.ensures.items c.in_ok-put_in_order.ensures.same ∙ ap (λ b. all_given (put_each (map (given b) spans) [])) (sym c.deref-4.ensures.value) ∙ ap (λ ss. all_given (put_each (map (given c.deref-4.result.now) ss) [])) (sym c.deref-5.ensures.value) in
    subst (λ t. IfOk c.table_of.result (λ table. t ≡ Some table)) (sym told) c.table_of.ensures.ok

pub returns-clause-err : goal.returns-clause-err
returns-clause-err c =
    let bytes = c.shrink_to_fit.new.self.items in
    let spans = c.put_in_order.new.spans.items in
    let told = gathered_in_order c.args.self c.shrink_to_fit.new.self.items c.deref.result.now c.shrink_to_fit-2.new.self.items c.put_in_order.new.spans.items c.if-has_bad_name.false c.shrink_to_fit.ensures.items c.deref.ensures.value c.shrink_to_fit-2.ensures.items c.in_ok-put_in_order.ensures.same ∙ ap (λ b. all_given (put_each (map (given b) spans) [])) (sym c.deref-4.ensures.value) ∙ ap (λ ss. all_given (put_each (map (given c.deref-4.result.now) ss) [])) (sym c.deref-5.ensures.value) in
    subst (λ t. IfErr c.table_of.result (λ fault. fault ≢ NoMemory → (fault ≡ BadEntry) × (t ≡ None))) (sym told) c.table_of.ensures.err
