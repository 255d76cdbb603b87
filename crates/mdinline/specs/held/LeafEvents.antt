-- What the reader keeps of a text, as events (CommonMark 6).
use Rattle.std.specs.Prelude.{◌≡◌, ℕ, zero, suc, ◌∷◌, ◌++◌, List, [], Bool, false, true, Option, Some, None, IfSome, replicate, slice_get}
use Rattle.mdtext.specs.EntityTable.{EntityTable}
use Rattle.mdtext.specs.HtmlEscapes.{escaped}
use Rattle.mdtext.specs.Referents.{referent_text}
use Rattle.mdscan.specs.Spans.{IsSpanOf, part}
use Rattle.mdpair.specs.Neighbours.{byte_of}
use Rattle.inlinespec.specs.Autolinks.{scheme_before}
use Rattle.inlinespec.specs.CharacterReferences.{without_references}
use Rattle.inlinespec.specs.CodeSpans.{as_one_line}
use Rattle.inlinespec.specs.InlineEvents.{Event, CodeSpan, RawHtml, SoftBreak, HardBreak, LinkTo, Enter, Leave, within, written}
use Rattle.inlinespec.specs.LabelMap.{LinkTarget, target_of}
use Rattle.inlinespec.specs.LinkTails.{part_text}
use Rattle.inlinespec.specs.Pieces.{bracket_text}
use Rattle.inlinespec.specs.Images.{span_to}
use Rattle.mdinline.specs.SpanKinds.{span_of}
use Rattle.mdinline.specs.declared.tokens.Begun.{Begun}
use Rattle.mdinline.specs.declared.tokens.Goal.{Goal}
use Rattle.mdinline.specs.declared.tokens.Goal.TheVariants as goal
use Rattle.mdinline.specs.declared.tokens.PairedRun.{PairedRun}
use Rattle.mdinline.specs.declared.tokens.Token.{Token}
use Rattle.mdinline.specs.declared.tokens.Token.TheVariants as t

-- the link of an autolink, by what stands between its angle brackets
abbrev pub autolink_events : EntityTable → List ℕ → (mail : Bool) → List Event
autolink_events entities inside mail =
    let shown = without_references entities 0 inside in
    within (LinkTo (record { url = scheme_before mail ++ shown; title = [] })) (written shown)

-- A leaf, or a run or a bracket that is text; other tokens are none.
abbrev pub leaf_events : EntityTable → List ℕ → Token → List Event
leaf_events entities text (t.Plain span) = written (part text span)
leaf_events entities text (t.Text span) = written (part text span)
leaf_events entities text (t.Meaning referent) = written (referent_text referent)
leaf_events entities text (t.Code span) = CodeSpan (as_one_line (part text span)) ∷ []
leaf_events entities text (t.Html span) = RawHtml (part text span) ∷ []
leaf_events entities text (t.Autolink span) = autolink_events entities (part text span) false
leaf_events entities text (t.MailAutolink span) = autolink_events entities (part text span) true
leaf_events entities text t.SoftBreak = SoftBreak ∷ []
leaf_events entities text t.HardBreak = HardBreak ∷ []
leaf_events entities text (t.Bracket image) = bracket_text image
leaf_events entities text (t.Run run) = written (replicate run.length (byte_of run.delimiter))
leaf_events entities text _ = []

-- where a link or an image leads
abbrev pub goal_target : EntityTable → List ℕ → Goal → LinkTarget
goal_target entities text (goal.Tail destination title) = record { url = part_text entities text destination; title = part_text entities text title }
goal_target entities text (goal.Known target) = target_of target.now

-- Spans that begin at a run: so many, the outermost of which stands at a place of the list, and each leads to the one inside it.
abbrev pub and_inner : (ℕ → List Event) → Option Begun → List Event
and_inner inner None = []
and_inner inner (Some begun) = Enter (span_of begun.kind) ∷ inner begun.inner

abbrev pub begun_events : List Begun → ℕ → ℕ → List Event
begun_events begun zero place = []
begun_events begun (suc n) place = and_inner (begun_events begun n) (slice_get begun place)

-- a run with the spans that end and begin there
abbrev pub paired_events : List Begun → PairedRun → List Event
paired_events begun run = replicate run.ends Leave ++ written (replicate run.left (byte_of run.delimiter)) ++ begun_events begun run.begins run.outermost

abbrev pub token_events : EntityTable → List ℕ → List Begun → Token → List Event
token_events entities text begun (t.Paired run) = paired_events begun run
token_events entities text begun (t.Enter image goal) = Enter (span_to image (goal_target entities text goal)) ∷ []
token_events entities text begun t.Leave = Leave ∷ []
token_events entities text begun token = leaf_events entities text token

abbrev pub tokens_events : EntityTable → List ℕ → List Begun → List Token → List Event
tokens_events entities text begun [] = []
tokens_events entities text begun (token ∷ tokens) = token_events entities text begun token ++ tokens_events entities text begun tokens

-- the parts of a text that stand in a token
abbrev pub IsGoalOf : List ℕ → Goal → Type 0
IsGoalOf text (goal.Tail destination title) = IfSome destination (λ span. IsSpanOf text span) × IfSome title (λ span. IsSpanOf text span)
IsGoalOf text (goal.Known target) = Unit {0}

abbrev pub IsTokenOf : List ℕ → Token → Type 0
IsTokenOf text (t.Plain span) = IsSpanOf text span × (escaped (part text span) ≡ part text span)
IsTokenOf text (t.Text span) = IsSpanOf text span
IsTokenOf text (t.Code span) = IsSpanOf text span
IsTokenOf text (t.Html span) = IsSpanOf text span
IsTokenOf text (t.Autolink span) = IsSpanOf text span
IsTokenOf text (t.MailAutolink span) = IsSpanOf text span
IsTokenOf text (t.Enter image goal) = IsGoalOf text goal
IsTokenOf text _ = Unit {0}
