-- The inline texts of a unit, as their HTML.
use Rattle.std.specs.Prelude.{ℕ, List, map, string_bytes}
use Rattle.htmlspec.specs.declared.options.Options.{Options}
use Rattle.mdhtml.specs.declared.unit_texts.HeldTexts.{HeldTexts}
use Rattle.mdhtml.specs.declared.unit_texts.HeldTexts.TheVariants.{Read, Written}
use Rattle.mdhtml.specs.declared.unit_texts.UnitTexts.{UnitTexts}
use Rattle.htmlspec.specs.BlockHtml.{texts_html}

abbrev pub held_texts : Options → HeldTexts → List (List ℕ)
held_texts options (Read texts) = texts_html options texts.now
held_texts options (Written texts) = map string_bytes texts.now

abbrev pub shown_texts : UnitTexts → List (List ℕ)
shown_texts texts = held_texts texts.options.now texts.held
