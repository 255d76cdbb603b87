-- The limits of what lies in one another.
use Rattle.std.specs.Prelude.{◌≤◌, false}
use Rattle.htmlspec.specs.declared.options.Breaks.TheVariants.{Soft}
use Rattle.htmlspec.specs.declared.options.Options.{Options}

-- both limits are 1 to 256
abbrev pub HasLimits : Options → Type 0
HasLimits o = (1 ≤ o.max_containers) × (o.max_containers ≤ 256) × (1 ≤ o.max_spans) × (o.max_spans ≤ 256)

-- raw HTML and harmful destinations are left out, soft line breaks stay, a language is a class and an alignment an attribute of its own, and both limits are 64
abbrev pub plain : Options
plain = record { unsafe_html = false; breaks = Soft; pre_lang = false; full_info_string = false; align_style = false; max_containers = 64; max_spans = 64 }
