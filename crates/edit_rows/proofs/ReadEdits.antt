-- What a call of a preview means, with every word of its definition open, so that rows of it compute.
use Rattle.std.specs.Fmt.{digits}
use Rattle.std.specs.Prelude.{ℕ, List, map, Bool, true, false, Option, Some, None}
use Rattle.mdtext.specs.EntityTable.{builtin_table}
use Rattle.mdtext.specs.HtmlEscapes.{escaped_byte}
use Rattle.mdtext.specs.EscapedUrl.{is_url_plain, url_byte}
use Rattle.percent_encoding.specs.Percent.{percent_encode_byte}
use Rattle.htmlspec.specs.declared.options.Breaks.TheVariants.{Soft}
use Rattle.htmlspec.specs.Attributes.{is_harmful}
use Rattle.htmlspec.specs.BlockHtml.{fresh}
use Rattle.block_rows.proofs.ReadText.{deep_line}
use Rattle.inline_rows.specs.Opened.{inline_words}
use Rattle.mdsource.specs.Setting.{Setting, Source}
use Rattle.mdsource.specs.View.{view}
use Rattle.mdsource.specs.Refusals.{Refusal}
use Rattle.mdsource.specs.Calls.{Call, due, put}
use Rattle.mdsource.specs.Stretch.{from_line, meeting_line}
use Rattle.mdsource.specs.Changes.{changed_labels, places, patch_of, texts_read}

-- what a row says of a call that is accepted: the first line read and the one at which reading ends, the patch, how many texts are read, and the labels that changed
pub record Facts : Type 0 where
  pub from : ℕ
  pub meet : ℕ
  pub first : ℕ
  pub removed : ℕ
  pub added : ℕ
  pub again : List ℕ
  pub texts : ℕ
  pub changed : List (List ℕ)

pub data Answer : Type 0 where
  accepted : Facts → Answer
  refused : Refusal → Answer

abbrev pub answers : (from meet first removed added : ℕ) → (again : List ℕ) → (texts : ℕ) → (changed : List (List ℕ)) → Answer
answers from meet first removed added again texts changed =
    accepted (record { from = from; meet = meet; first = first; removed = removed; added = added; again = again; texts = texts; changed = changed })

abbrev pub source_of : (lines prelude : List (List ℕ)) → Source
source_of lines prelude = record { lines = lines; prelude = prelude }

abbrev pub limited : (max_containers max_spans : ℕ) → Setting
limited max_containers max_spans =
    record { entities = builtin_table; options = record { unsafe_html = false; breaks = Soft; pre_lang = false; full_info_string = false; align_style = false; max_containers = max_containers; max_spans = max_spans } }

abbrev pub plain : Setting
plain = limited 64 64

-- with what stands behind the language of code, which is a class or stands on `pre`
abbrev pub with_meta : (pre_lang : Bool) → Setting
with_meta pre_lang = record plain { options = record plain.options { pre_lang = pre_lang; full_info_string = true } }

-- with the language of code on `pre`, and alignments as styles
abbrev pub with_styles : Setting
with_styles = record plain { options = record plain.options { pre_lang = true; align_style = true } }

abbrev pub answer_by : Setting → Source → Call → Option Refusal → Answer
answer_by setting source call (Some reason) = refused reason
answer_by setting source call None =
    let p = places setting source call in
    let patch = patch_of setting source call in
    answers (from_line p) (meeting_line p) patch.first patch.removed patch.added patch.again (texts_read setting source call)
    (changed_labels setting source (put source call))

-- what a call of a preview of a source gives
unfoldable pub answer : Setting → Source → Call → Answer
unfolding deep_line inline_words
answer setting source call = answer_by setting source call (due setting source call)

-- the pieces of a source
unfoldable pub pieces : Setting → Source → List (List ℕ)
unfolding deep_line inline_words digits escaped_byte percent_encode_byte is_url_plain url_byte is_harmful fresh
pieces setting source = map (λ one. one.piece) (view setting source)
