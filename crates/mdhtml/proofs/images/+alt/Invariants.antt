use Rattle.std.proofs.Common.{◌≡◌, ◌++◌, string_bytes, drop}
use Rattle.mdtext.specs.HtmlEscapes.{escaped}
use Rattle.mdinline.specs.TreeView.{inlines_view}
use Rattle.htmlspec.specs.InlineHtml.{alts}
use Rattle.mdhtml.proofs.images.+alt.Given as goal

abbrev pub invariant-write_alts-loop-inline : goal.invariant-write_alts-loop-inline
invariant-write_alts-loop-inline l =
    string_bytes l.out ++ escaped (alts (inlines_view (drop l.inline-index l.inlines))) ≡ string_bytes l.fn.out ++ escaped (alts (inlines_view l.inlines))
