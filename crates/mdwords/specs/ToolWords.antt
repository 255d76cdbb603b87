-- The words of the programs, and what they say.
use Rattle.std.specs.Prelude.{◌≡◌, ◌==◌, ◌||◌, ◌∷◌, [], ℕ, Bool, true, false, List, Option, Some, None, IfSome, IsSome, is_some, codes, drop, option_map, string_bytes, if◌then◌else◌}
use Rattle.std.specs.List.{list_all, prefix_len}
use Rattle.std.specs.Option.{option_map_or}
use Rattle.std.specs.Str.{bytes_eq}
use Rattle.clap.specs.Words.{App, Rule, Text, new_app, new_rule, with_rule, rows_of, matches_of, matched_of, found_of, first_value, raw_values}
use Rattle.clap.specs.declared.builder.action.ArgAction.TheVariants.{SetTrue, Append}
use Rattle.clap.specs.declared.parser.matches.ArgMatches.{ArgMatches}
use Rattle.htmlspec.specs.declared.options.Breaks.{Breaks}
use Rattle.htmlspec.specs.declared.options.Breaks.TheVariants.{Soft, Hard, Space}
use Rattle.htmlspec.specs.declared.options.Options.{Options}
use Rattle.mdwords.specs.declared.commands.Choice.{Choice}
use Rattle.mdwords.specs.declared.reply_forms.ReplyForm.{ReplyForm}
use Rattle.mdwords.specs.declared.reply_forms.ReplyForm.TheVariants.{Plain, WithLines}
use Rattle.mdwords.specs.declared.tool_words.Words.{Words}
use Rattle.mdwords.specs.Numbers.{number}

-- an option without a value
abbrev pub flag_rule : Text → Rule
flag_rule name = record (new_rule name) { long = Some name; action = Some SetTrue }

-- an option with a value
abbrev pub valued_rule : Text → Rule
valued_rule name = record (new_rule name) { long = Some name; value_names = 1 }

-- the same, which has a letter too
abbrev pub lettered_rule : ℕ → Rule → Rule
lettered_rule letter rule = record rule { short = Some letter }

-- the same, which may stand several times
abbrev pub repeated_rule : Rule → Rule
repeated_rule rule = record rule { action = Some Append }

-- an option, with a value where that has a name
abbrev pub choice_rule : Choice → Rule
choice_rule choice = if is_some choice.value then valued_rule choice.name.now else flag_rule choice.name.now

-- these options behind those of a program
abbrev pub with_choices : List Choice → App → App
with_choices [] app = app
with_choices (choice ∷ choices) app = with_choices choices (with_rule app (choice_rule choice))

abbrev pub file_rule : Rule
file_rule = record (new_rule (codes "file")) { value_names = 1 }

-- the program tells its version
abbrev pub with_version : App → App
with_version app = record app { top = record app.top { has_version = true } }

-- the options of how HTML is written
abbrev pub with_writing : App → App
with_writing app =
    with_rule (with_rule (with_rule (with_rule (with_rule (with_rule app
    (flag_rule (codes "unsafe"))) (flag_rule (codes "hardbreaks"))) (flag_rule (codes "nobreaks"))) (flag_rule (codes "github-pre-lang"))) (flag_rule (codes "full-info-string")))
    (flag_rule (codes "table-prefer-style-attributes"))

-- the options of which names of entities are known
abbrev pub with_names : App → App
with_names app = with_rule (with_rule app (valued_rule (codes "entities"))) (flag_rule (codes "html-entities"))

-- the options of how a text is read, and what a stop says
abbrev pub with_reading : App → App
with_reading app =
    with_rule (with_rule (with_rule (with_rule (with_rule app
    (flag_rule (codes "strikethrough-double-tilde"))) (valued_rule (codes "prelude"))) (valued_rule (codes "max-containers"))) (valued_rule (codes "max-spans"))) (flag_rule (codes "explain"))

-- the option of what replies tell, which `mdpreview` has
abbrev pub has_lines : Text → Bool
has_lines name = bytes_eq name (codes "mdpreview")

abbrev pub with_lines : App → App
with_lines app = with_rule app (flag_rule (codes "lines"))

abbrev pub with_replies : Text → App → App
with_replies name app = if has_lines name then with_lines app else app

-- the options of cmark-gfm that say what is done anyway
abbrev pub with_done_anyway : App → App
with_done_anyway app =
    with_rule (with_rule (with_rule (with_rule app
    (lettered_rule 116 (valued_rule (codes "to")))) (repeated_rule (lettered_rule 101 (valued_rule (codes "extension"))))) (flag_rule (codes "validate-utf8"))) (valued_rule (codes "width"))

-- the words that a program of this name understands, in the order that its help has them
abbrev pub tool_app : Text → App
tool_app name = with_version (with_rule (with_done_anyway (with_replies name (with_reading (with_names (with_writing (new_app name)))))) file_rule)

-- the program's name is the first word
abbrev pub program_of : List Text → Text
program_of [] = codes "mdrender"
program_of (word ∷ words) = word

-- the option is on where the value of its match is `true`, as it is where it was given
abbrev pub is_on : ArgMatches → Text → Bool
is_on matches name = option_map_or (λ value. bytes_eq value (codes "true")) (first_value (found_of matches) name) false

-- what replies tell
abbrev pub replies_of : ArgMatches → ReplyForm
replies_of matches = if is_on matches (codes "lines") then WithLines else Plain

-- how line breaks are written, where the two options are not both on
abbrev pub IsBreaks : Bool → Bool → Breaks → Type 0
IsBreaks true true breaks = ⊥
IsBreaks true false breaks = breaks ≡ Hard
IsBreaks false true breaks = breaks ≡ Space
IsBreaks false false breaks = breaks ≡ Soft

-- whether all names of HTML are known, where no file of names is given beside them
abbrev pub IsHtml : Option Text → Bool → Bool → Type 0
IsHtml None asked html = html ≡ asked
IsHtml (Some file) true html = ⊥
IsHtml (Some file) false html = html ≡ false

abbrev pub is_zero : ℕ → Bool
is_zero byte = byte == 48

-- the limit that is given by a number of at most nine digits behind zeros, or is not given
abbrev pub IsLimit : Option Text → ℕ → Type 0
IsLimit None limit = limit ≡ 64
IsLimit (Some word) limit = number (drop (prefix_len is_zero word) word) ≡ Some limit

-- the options that these matches give
pub record OptionsRead (matches : ArgMatches) (options : Options) : Type 0 where
  pub raw : options.unsafe_html ≡ is_on matches (codes "unsafe")
  pub breaks : IsBreaks (is_on matches (codes "hardbreaks")) (is_on matches (codes "nobreaks")) options.breaks
  pub pre_lang : options.pre_lang ≡ is_on matches (codes "github-pre-lang")
  pub full_info_string : options.full_info_string ≡ is_on matches (codes "full-info-string")
  pub align_style : options.align_style ≡ is_on matches (codes "table-prefer-style-attributes")
  pub containers : IsLimit (first_value (found_of matches) (codes "max-containers")) options.max_containers
  pub spans : IsLimit (first_value (found_of matches) (codes "max-spans")) options.max_spans

-- the values of an option that may stand several times
abbrev pub values_of : ArgMatches → Text → List Text
values_of matches name = option_map_or raw_values (matched_of (found_of matches) name) []

abbrev pub is_extension : Text → Bool
is_extension name = bytes_eq name (codes "table") || bytes_eq name (codes "strikethrough") || bytes_eq name (codes "tasklist")

-- what cmark-gfm is asked for by these matches is what is done anyway
pub record IsDoneAnyway (matches : ArgMatches) : Type 0 where
  pub format : IfSome (first_value (found_of matches) (codes "to")) (λ name. name ≡ codes "html")
  pub extensions : list_all is_extension (values_of matches (codes "extension")) ≡ true
  pub width : IfSome (first_value (found_of matches) (codes "width")) (λ word. IsSome (number word))

-- these are clap's matches of the words, and what was read is what they say
pub record WordsRead (words : List Text) (read : Words) : Type 0 where
  pub matches : ArgMatches
  pub rows : rows_of (found_of matches) ≡ matches_of (tool_app (program_of words)) words
  pub options : OptionsRead matches read.options
  pub entities : option_map string_bytes read.entities ≡ first_value (found_of matches) (codes "entities")
  pub html_entities : IsHtml (first_value (found_of matches) (codes "entities")) (is_on matches (codes "html-entities")) read.html_entities
  pub double_tilde : read.double_tilde ≡ is_on matches (codes "strikethrough-double-tilde")
  pub prelude : option_map string_bytes read.prelude ≡ first_value (found_of matches) (codes "prelude")
  pub file : option_map string_bytes read.file ≡ first_value (found_of matches) (codes "file")
  pub explains : read.explains ≡ is_on matches (codes "explain")
  pub replies : read.replies ≡ replies_of matches
  pub anyway : IsDoneAnyway matches

-- what `--version` tells behind the program's name
abbrev pub version : List ℕ
version = codes "0.1.0"
