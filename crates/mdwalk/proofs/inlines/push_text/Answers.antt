use Rattle.std.proofs.Common.{◌++◌, ◌≤◌, Option, ap, append-nil, arith, length, sym, ◌∙◌}
use Rattle.std.proofs.lemmas.Bool.Decides.{nat_tests}
use Rattle.std.proofs.lemmas.Option.{slice_get_past}
use Rattle.inlinespec.specs.ParsedText.{ParsedText}
use Rattle.mdwalk.specs.TreeEdges.{inside_text}
use Rattle.mdwalk.specs.EdgeView.{edges_view}
use Rattle.mdwalk.proofs.inlines.push_text.Goals as goal

pub returns-in-None : goal.returns-in-None
returns-in-None c =
    let edges = edges_view c.args.edges.now.items in
    let texts = c.args.texts.now in
    let past : length texts ≤ c.args.at = grind (arith, nat_tests, c.in-None.ensures.lookup.0) in
    let none = slice_get_past texts c.args.at past in
    sym (append-nil edges) ∙ ap (λ (text : Option ParsedText). edges ++ inside_text text) (sym none)
