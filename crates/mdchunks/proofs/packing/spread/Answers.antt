use Rattle.std.proofs.Common.{◌∙◌, ap, refl}
use Rattle.std.proofs.lemmas.List.Elements.{All-same}
use Rattle.mdchunks.specs.Lists.{IsFilled, joined}
use Rattle.mdchunks.proofs.Inserted.{spread_at, spread_filled}
use Rattle.mdchunks.proofs.packing.spread.Goals as goal

pub returns-clause-members : goal.returns-clause-members
returns-clause-members g c =
    ap joined c.splice.ensures.items
    ∙ spread_at c.args.chunks.now.items c.pack.new.spare.items c.args.place.chunk c.args.place.inside _ c.index_mut.result.now c.gather-all.new.chunk c.args.added.items
    c.requires.within c.index_mut.ensures.value c.requires.inside refl (c.pack.ensures.members ∙ c.gather-all.ensures.members)

pub returns-clause-filled : goal.returns-clause-filled
returns-clause-filled g c =
    All-same IsFilled _ _ c.splice.ensures.items (spread_filled c.args.chunks.now.items c.pack.new.spare.items c.args.place.chunk c.gather-all.new.chunk c.requires.filled c.pack.ensures.filled)
