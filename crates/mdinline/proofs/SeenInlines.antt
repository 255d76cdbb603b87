-- Inlines as events.
use Rattle.std.proofs.Common.{◌≡◌, [], ◌∷◌, String, Global, string_bytes, ap}
use Rattle.inlinespec.specs.InlineEvents.{CodeSpan, RawHtml, HardBreak, SoftBreak, inline_events, written}
use Rattle.inlinespec.specs.InlineTree.{Inline}
use Rattle.mdinline.specs.TreeView.{inline_step}
use Rattle.mdinline.specs.declared.inlines.Inline.TheOpen.{Inline-F}
use Rattle.mdinline.specs.declared.inlines.Inline.TheFolds.{fold-roll-Inline}
use Rattle.mdinline.specs.declared.inlines.Inline.TheBlock as made
use Rattle.mdinline.specs.declared.inlines.Inline.TheViews.{roll-Inline}
use denote.Hole.Carrier.{roll}
use Rattle.mdinline.specs.held.OpenRows.{made_events}

pub hard_seen : made_events made.Hard ≡ HardBreak ∷ []
unfolding roll-Inline roll
hard_seen = ap inline_events (fold-roll-Inline Inline inline_step Inline-F.Hard)

pub soft_seen : made_events made.Soft ≡ SoftBreak ∷ []
unfolding roll-Inline roll
soft_seen = ap inline_events (fold-roll-Inline Inline inline_step Inline-F.Soft)

pub code_seen : (code : String Global) → made_events (made.Code code) ≡ CodeSpan (string_bytes code) ∷ []
unfolding roll-Inline roll
code_seen code = ap inline_events (fold-roll-Inline Inline inline_step (Inline-F.Code code))

pub text_seen : (text : String Global) → made_events (made.Text text) ≡ written (string_bytes text)
unfolding roll-Inline roll
text_seen text = ap inline_events (fold-roll-Inline Inline inline_step (Inline-F.Text text))

pub html_seen : (html : String Global) → made_events (made.Html html) ≡ RawHtml (string_bytes html) ∷ []
unfolding roll-Inline roll
html_seen html = ap inline_events (fold-roll-Inline Inline inline_step (Inline-F.Html html))
