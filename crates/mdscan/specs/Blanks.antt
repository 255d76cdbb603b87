-- Marks, spaces and tabs at the beginning of a text (CommonMark 2.1, 2.2).
use Rattle.std.specs.Prelude.{ℕ, Bool, true, false, ◌||◌, ◌==◌, List, [], ◌∷◌}
use Rattle.std.specs.List.{list_all}

-- a space or a tab
abbrev pub is_blank : ℕ → Bool
is_blank b = (b == 32) || (b == 9)

-- nothing but spaces and tabs
abbrev pub is_blank_text : List ℕ → Bool
is_blank_text text = list_all is_blank text

-- whether the first byte is the mark
abbrev pub begins_with : ℕ → List ℕ → Bool
begins_with mark [] = false
begins_with mark (b ∷ _) = b == mark

-- nothing at all, or a space or tab first
abbrev pub ends_or_blank : List ℕ → Bool
ends_or_blank [] = true
ends_or_blank (b ∷ _) = is_blank b
