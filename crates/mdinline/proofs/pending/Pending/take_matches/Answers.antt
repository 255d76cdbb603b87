use Rattle.std.proofs.Common.{◌≡◌, ◌-◌, [], All, refl, ap, sym, subst, ◌∙◌, drop, length, take}
use Rattle.std.proofs.lemmas.List.{take_rest}
use Rattle.mdpair.specs.Matches.{IsOrdered, matches}
use Rattle.mdpair.specs.Pairings.{matches_of}
use Rattle.mdinline.specs.held.PairedRuns.{ArePaired}
use Rattle.mdinline.proofs.pending.Pending.take_matches.Goals as goal

pub returns-clause-paired : goal.returns-clause-paired
returns-clause-paired c =
    let from = c.args.from in
    let begun = c.args.self.now.begun.items in
    let rs = drop from c.args.self.now.runs.items in
    let one = c.deref.result.now in
    let two = c.deref-2.result.now in
    let same_one : take (length one - from) (drop from one) ≡ rs = take_rest one from ∙ ap (drop from) c.deref.ensures.value in
    let same_two : take (length two - from) (drop from two) ≡ rs = take_rest two from ∙ ap (drop from) c.deref-2.ensures.value in
    let found = matches_of c.pair.new.self in
    let ordered = subst (λ xs. All (IsOrdered (length xs)) found) same_two c.in_ok-pair.ensures.ordered in
    let fresh = subst (λ xs. ArePaired begun [] xs c.append_unpaired.new.paired.items) same_one (c.in_ok-append_unpaired.ensures begun c.clear.ensures.items) in
    let now = c.in_ok-take_all.ensures in
    let taken = now.paired rs (subst (All (IsOrdered (length rs))) (sym c.matches.ensures) ordered) fresh in (
      subst (λ ts. ArePaired c.take_all.new.begun.items ts rs c.take_all.new.runs.items) (c.matches.ensures ∙ c.in_ok-pair.ensures.value ∙ ap matches same_two) taken,
      now.begun,
      refl,
      refl,
      refl,
      refl,
    )
