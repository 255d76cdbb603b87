-- Classes of characters (CommonMark 2.1).
use Rattle.std.specs.Prelude.{ℕ, Bool, ◌==◌, ◌||◌}
use Rattle.ucd_category.specs.declared.GeneralCategory.TheVariants.{SpaceSeparator}
use Rattle.ucd_category.specs.declared.GeneralCategoryGroup.TheVariants.{Punctuation, Symbol}
use Rattle.ucd_category.specs.GeneralCategory.{general_category, general_category_eq}
use Rattle.ucd_category.specs.GeneralCategoryGroup.{in_group}

-- Unicode whitespace: the general category Zs, tab, line feed, form feed, carriage return
abbrev pub is_unicode_white : ℕ → Bool
is_unicode_white c = c == 9 || c == 10 || c == 12 || c == 13 || general_category_eq (general_category c) SpaceSeparator

-- Unicode punctuation: the general category P (punctuation) or S (symbols)
abbrev pub is_unicode_punct : ℕ → Bool
is_unicode_punct c = in_group Punctuation (general_category c) || in_group Symbol (general_category c)
