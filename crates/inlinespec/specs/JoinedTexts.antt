-- Trees in which no text is empty and no two stand side by side.
use Rattle.std.specs.Prelude.{◌≡◌, ◌<◌, Bool, true, false, length}
use Rattle.inlinespec.specs.InlineTree.{Inline, Inlines, no_inlines, inline, text, emph, strong, strike, link, image}

abbrev pub begins_with_text : Inlines → Bool
begins_with_text (inline (text s) is) = true
begins_with_text _ = false

-- a text is not empty, and no text follows it
abbrev pub IsApart : Inline → Inlines → Type 0
IsApart (text s) is = (0 < length s) × (begins_with_text is ≡ false)
IsApart _ is = Unit {0}

abbrev mutual
  pub AreJoined : Inlines → Type 0
  AreJoined no_inlines = Unit {0}
  AreJoined (inline i is) = IsApart i is × IsJoinedInside i × AreJoined is

  pub IsJoinedInside : Inline → Type 0
  IsJoinedInside (emph inside) = AreJoined inside
  IsJoinedInside (strong inside) = AreJoined inside
  IsJoinedInside (strike inside) = AreJoined inside
  IsJoinedInside (link url title inside) = AreJoined inside
  IsJoinedInside (image url title inside) = AreJoined inside
  IsJoinedInside _ = Unit {0}
