use Rattle.std.proofs.Common.{◌≡◌, ◌-◌, ◌^◌, ◌<◌, [], ◌∷◌, ◌++◌, Err, Some, refl, length, subst, sym, ◌∙◌, ap, arith}
use Rattle.mdblock.specs.Bases.{base_view}
use Rattle.mdblock.specs.FoundLists.{found_unit}
use Rattle.mdblock.specs.Fronted.{ListBase, base_mark}
use Rattle.mdblock.specs.Spliced.{mark_at}
use Rattle.mdblock.specs.held.Reads.{handed}
use Rattle.mdblock.proofs.ItemLines.{NextHands, inside_follows}
use Rattle.mdblock.proofs.ItemStarts.{MayBegin, first_fits, first_none, holds_some, inside_first, lies_in}
use Rattle.mdblock.proofs.item_readers.ItemReader.inside.Goals as goal

pub returns-in_default-clause-given : goal.returns-in_default-clause-given
returns-in_default-clause-given g c = λ zs ys small stands line shallow.
    c.in_default.ensures.given small (lies_in c.args.entities.now (record { list = c.args.old.now; join = c.args.k }) c.args.text.now zs ys small stands line)

pub invariant_of-result : goal.invariant_of-result
invariant_of-result g c =
    let read = c.in-Ok-None.ensures.read in
    let fresh = c.new-reader.ensures.fed in
    let room : (base_mark (base_view c.in-Some.base)).line < 2 ^ 64 - 1 = c.in-Some.ensures.room in
    (c.in-Some.ensures.within, omega (arith, read, fresh), omega (arith, read, fresh, room))

pub returns-in-Ok-None-clause-reads : goal.returns-in-Ok-None-clause-reads
returns-in-Ok-None-clause-reads g c = λ zs ys stands line shallow.
    let b = base_view c.in-Some.base in
    let e = c.args.entities.now in
    let text = c.args.text.now in
    let is = c.in-Some.ensures.base in
    let small = subst (λ (z : ListBase). z.join < length z.list.marks) is c.in-Some.ensures.within in
    let may : MayBegin c.args.limit e b text zs ys = subst (λ z. MayBegin c.args.limit e z text zs ys) (sym is) (small, stands, line, shallow) in
    inside_follows c.args.limit e (Some b) b c.line.new.self (zs ++ text ∷ []) refl
    (inside_first c.args.limit e b c.line.new.self text zs ys (c.in-Ok-None.ensures.reads c.args.limit e [] c.new-reader.ensures.reads) may)

pub returns-in-Ok-None-clause-no_more : goal.returns-in-Ok-None-clause-no_more
returns-in-Ok-None-clause-no_more g c =
    let is = c.in-Some.ensures.base in
    let line : c.line_of.result ≡ (mark_at c.args.old.now.marks c.args.k).line = c.line_of.ensures ∙ ap (λ b. (base_mark b).line) is in
    let few = c.count_lines.ensures.no_more in
    let one = c.line.ensures.lines in
    omega (arith, line, few, one)

pub returns-in-Ok-Some-clause-no_more : goal.returns-in-Ok-Some-clause-no_more
returns-in-Ok-Some-clause-no_more g c =
    let is = c.in-Some.ensures.base in
    let line : c.line_of.result ≡ (mark_at c.args.old.now.marks c.args.k).line = c.line_of.ensures ∙ ap (λ b. (base_mark b).line) is in
    let few = c.count_lines.ensures.no_more in
    let one = c.line.ensures.lines in
    omega (arith, line, few, one)

pub returns-in-Err-NestedTooDeep-clause-no_more : goal.returns-in-Err-NestedTooDeep-clause-no_more
returns-in-Err-NestedTooDeep-clause-no_more g c =
    let is = c.in-Some.ensures.base in
    let line : c.line_of.result ≡ (mark_at c.args.old.now.marks c.args.k).line = c.line_of.ensures ∙ ap (λ b. (base_mark b).line) is in
    let few = c.count_lines.ensures.no_more in
    let one = c.line.ensures.lines in
    omega (arith, line, few, one)

pub returns-in-Err-NoMemory-clause-no_more : goal.returns-in-Err-NoMemory-clause-no_more
returns-in-Err-NoMemory-clause-no_more g c =
    let is = c.in-Some.ensures.base in
    let line : c.line_of.result ≡ (mark_at c.args.old.now.marks c.args.k).line = c.line_of.ensures ∙ ap (λ b. (base_mark b).line) is in
    let few = c.count_lines.ensures.no_more in
    let one = c.line.ensures.lines in
    omega (arith, line, few, one)

pub returns-in-Ok-Some-clause-given : goal.returns-in-Ok-Some-clause-given
returns-in-Ok-Some-clause-given g c = λ zs ys small stands line shallow.
    let b = base_view c.in-Some.base in
    let e = c.args.entities.now in
    let text = c.args.text.now in
    let may : MayBegin c.args.limit e b text zs ys = subst (λ z. MayBegin c.args.limit e z text zs ys) (sym c.in-Some.ensures.base) (small, stands, line, shallow) in
    absurd (first_none c.args.limit e b text zs ys (handed e []) (found_unit c.in-Ok-Some.field-0-0)
    (subst (NextHands c.new-reader.result text) c.in-Ok-Some.field-0-is c.in-Ok-Some.ensures.hands c.args.limit e [] c.new-reader.ensures.reads) may)

pub returns-in-Err-NestedTooDeep-clause-given : goal.returns-in-Err-NestedTooDeep-clause-given
returns-in-Err-NestedTooDeep-clause-given g c = λ zs ys small stands line shallow.
    let b = base_view c.in-Some.base in
    let e = c.args.entities.now in
    let text = c.args.text.now in
    let may : MayBegin c.args.limit e b text zs ys = subst (λ z. MayBegin c.args.limit e z text zs ys) (sym c.in-Some.ensures.base) (small, stands, line, shallow) in
    absurd (first_fits c.args.limit e b text zs ys 0
    (c.in-Err-NestedTooDeep.ensures.deep (ap Err c.in-Err-NestedTooDeep.field-0-is) c.args.limit e [] c.new-reader.ensures.reads) may)

pub returns-clause-given : goal.returns-clause-given
returns-clause-given g c = λ zs ys small stands line shallow.
    let b = base_view c.in-Some.base in
    let e = c.args.entities.now in
    let text = c.args.text.now in
    let may : MayBegin c.args.limit e b text zs ys = subst (λ z. MayBegin c.args.limit e z text zs ys) (sym c.in-Some.ensures.base) (small, stands, line, shallow) in
    absurd (holds_some c.args.limit e c.new-reader.result [] c.new-reader.ensures.reads
    (c.in-Err-Failed.ensures.failed_before (ap Err c.in-Err-Failed.field-0-is)))
