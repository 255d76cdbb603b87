-- The options that C's settings stand for.
use Rattle.std.specs.Prelude.{ℕ, ◌||◌, Option, Some, None, Result, Ok, Err, if◌then◌else◌, ◌==◌, nat_lt}
use Rattle.htmlspec.specs.declared.options.Breaks.{Breaks}
use Rattle.htmlspec.specs.declared.options.Breaks.TheVariants.{Soft, Hard, Space}
use Rattle.htmlspec.specs.declared.options.Options.{Options}
use Rattle.jirmoans.specs.declared.faults.Refusal.{Refusal}
use Rattle.jirmoans.specs.declared.faults.Refusal.TheVariants.{UnknownBreaks, LimitTooLarge}
use Rattle.jirmoans.specs.declared.settings.Settings.{Settings}

abbrev pub breaks_of : ℕ → Option Breaks
breaks_of number = if number == 0 then Some Soft else if number == 1 then Some Hard else if number == 2 then Some Space else None

-- 0 stands for the usual limit
abbrev pub limit_of : ℕ → ℕ
limit_of number = if number == 0 then 64 else number

abbrev pub within_limits : Options → Result Options Refusal
within_limits options = if nat_lt 256 options.max_containers || nat_lt 256 options.max_spans then Err LimitTooLarge else Ok options

abbrev pub options_with : Option Breaks → Settings → Result Options Refusal
options_with None settings = Err UnknownBreaks
options_with (Some breaks) settings = within_limits (record {
  unsafe_html = settings.unsafe_html;
  breaks = breaks;
  pre_lang = settings.pre_lang;
  full_info_string = settings.full_info_string;
  align_style = settings.align_style;
  max_containers = limit_of settings.max_containers;
  max_spans = limit_of settings.max_spans;
})

abbrev pub options_of : Settings → Result Options Refusal
options_of settings = options_with (breaks_of settings.breaks) settings
