use Rattle.std.proofs.lemmas.List.{take_rest}
use Rattle.mdhtml.proofs.LikeLists.{like_found}
use Rattle.mdhtml.proofs.lists.like_lists.same_ends.Goals as goal

pub returns : goal.returns
returns c =
    let like = c.args.like.now in
    let items = c.args.list.now.items.now in
    let olds = c.args.other.now.items.now in
    let f = c.same_front-front.result in
    like_found c.args.texts.now like.texts.now like.front like.behind items olds f c.same_behind-behind.result c.requires
    c.same_front-front.ensures.within c.same_front-front.ensures.within_like c.same_front-front.ensures.same _ _ (take_rest items f) (take_rest olds f)
    c.same_behind-behind.ensures.within c.same_behind-behind.ensures.within_like c.same_behind-behind.ensures.same
