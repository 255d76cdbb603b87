use Rattle.std.proofs.Common.{◌≡◌, ◌∙◌, ◌++◌, ◌<◌, ap, arith, length, sym}
use Rattle.std.proofs.lemmas.List.{length-append}
use Rattle.mdchunks.specs.Lists.{joined}
use Rattle.mdchunks.specs.Marks.{IsApart}
use Rattle.mdchunks.proofs.Joined.{drop_place}
use Rattle.mdchunks.proofs.Skipped.{skipped_all, skipped_next, skipped_rest, skipped_within}
use Rattle.mdchunks.proofs.iters.Iter.skip_apart.Goals as goal

pub overflow_add-result : goal.overflow_add-result
overflow_add-result g c =
    let short = skipped_within c.self.inside.inside.now c.self.inside.rest.now c.count_apart-apart.result c.first_marked-first.result.before c.args.self.now c.count_apart-apart.ensures.within
    c.if-apart-inside.false c.self.view_is c.first_marked-first.ensures.within in
    let long : length (c.self.inside.inside.now ++ joined c.self.inside.rest.now) ≡ length c.args.self.now = ap length c.self.view_is in
    omega (arith, short, long, c.self.invariant.1)

pub returns-clause-within : goal.returns-clause-within
returns-clause-within g c =
    skipped_within c.self.inside.inside.now c.self.inside.rest.now c.count_apart-apart.result c.first_marked-first.result.before c.args.self.now c.count_apart-apart.ensures.within
    c.if-apart-inside.false c.self.view_is c.first_marked-first.ensures.within

pub returns-clause-rest : goal.returns-clause-rest
returns-clause-rest g c =
    let first = c.first_marked-first.result in
    c.self-2.view_is ∙ c.at.ensures
    ∙ drop_place c.self.inside.rest.now first.place.chunk first.place.inside first.before c.first_marked-first.ensures.inside (sym c.first_marked-first.ensures.before)
    ∙ skipped_rest c.self.inside.inside.now c.self.inside.rest.now c.count_apart-apart.result first.before c.args.self.now c.count_apart-apart.ensures.within c.if-apart-inside.false c.self.view_is

pub returns-clause-apart : goal.returns-clause-apart
returns-clause-apart g c =
    skipped_all c.self.inside.inside.now c.self.inside.rest.now c.count_apart-apart.result c.first_marked-first.result.before c.args.self.now c.count_apart-apart.ensures.within
    c.if-apart-inside.false c.self.view_is (IsApart g.T.Weighed.marks c.args.marks) c.count_apart-apart.ensures.apart c.first_marked-first.ensures.apart

pub returns-clause-marked : goal.returns-clause-marked
returns-clause-marked g c d more =
    let inside = c.self.inside.inside.now in
    let rest = c.self.inside.rest.now in
    let before = c.first_marked-first.result.before in
    let next = skipped_next inside rest c.count_apart-apart.result before c.args.self.now c.count_apart-apart.ensures.within c.if-apart-inside.false c.self.view_is d in
    let long : length (inside ++ joined rest) ≡ length c.args.self.now = ap length c.self.view_is in
    let there : before < length (joined rest) = omega (arith, more, long, length-append inside (joined rest), c.if-apart-inside.false) in
    rw (sym next) (c.first_marked-first.ensures.marked d there)
