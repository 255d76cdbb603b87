use Rattle.std.proofs.Common.{◌≡◌, ◌++◌, length, subst, MatchOption}
use Rattle.std.proofs.Math.Utf8.{encode}
use Rattle.mdpair.proofs.Characters.{last_char_is}
use Rattle.mdpair.proofs.flanking.last_char.Goals as goal

pub returns : goal.returns
returns c = last_char_is c.args.front.now c.next_back.new.self.rest.now c.next_back.result (c.next_back.new.self ≡ c.chars.result) c.utf8.front
    (subst (λ bs. MatchOption c.next_back.result ((length bs ≡ 0) × (c.next_back.new.self ≡ c.chars.result)) (λ d. bs ≡ c.next_back.new.self.rest.now ++ encode d)) c.chars.ensures.rest c.next_back.ensures.steps)
