use Rattle.std.proofs.Common.{◌-◌, refl, arith}
use Rattle.std.proofs.lemmas.Str.{IsCharBoundary-before_ascii}
use Rattle.mdinline.proofs.AutolinkPlaces.{closed}
use Rattle.mdinline.proofs.FoundLeaves.{token_kept}
use Rattle.mdinline.proofs.Marks.{behind}
use Rattle.mdinline.proofs.autolinks.autolink_found.Goals as goal

pub returns-in-Some-clause-token : goal.returns-in-Some-clause-token
returns-in-Some-clause-token c =
    let text = c.args.text.now in
    let at = c.args.at in
    let e = closed text at c.in-Some.auto c.in-Some.ensures.value in
    token_kept text c.leaf_of.result _ c.leaf_of.ensures.token
    (c.autolink_token-token.ensures.token text (record {
      ordered = e.start;
      within = (let inside = e.inside in omega (arith, inside));
      starts_whole = behind text text at refl c.utf8.text c.requires.inside c.requires.mark;
      ends_whole = IsCharBoundary-before_ascii text (c.in-Some.auto.end - 1) e.inside e.mark;
    }))
