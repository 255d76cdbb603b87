-- A list whose front was found, or a part of it, and whose other items a held list has.
use Rattle.std.specs.Prelude.{◌≡◌, ◌≤◌, ◌+◌, ℕ, List, length}
use Rattle.blockspec.specs.BlockTree.{Items}
use Rattle.mdblock.specs.Fronted.{HasOrder, IsInOrder, texts_staying}
use Rattle.mdblock.specs.Insets.{IsEven, MayFit, with_items}
use Rattle.mdblock.specs.Seams.{IsOwnBase, ListSeam, seam_front, seam_list}
use Rattle.mdblock.specs.Spliced.{as_first_list, mark_at, spliced_marks, tight_list}
use Rattle.mdhtml.specs.InsetLists.{inset_readings}
use Rattle.inlinespec.specs.ParsedText.{ParsedText}
use Rattle.mdview.specs.HeldLists.{list_in, unplaced}
use Rattle.mdview.specs.HeldUnit.{HeldUnit, IsRendered}
use Rattle.mdview.specs.TextSetting.{DidReadIn, IsReadFrom, TextSetting, readings_as}
use Rattle.mdview.specs.UnitInsets.{FitsUnit, put_in}
use Rattle.mdview.specs.declared.inlines.spliced_lists.JoinedList.{JoinedList}
use Rattle.mdview.specs.declared.inlines.spliced_lists.JoinedList.TheVariants.{Made, Inset}

-- The old list is the held unit's, which was read before and has its piece; what stays in front is that list's; as many items and texts stand before the join in both,
-- and both together are a list of its kind, tight or loose as it is.
pub record GoesInto (s : TextSetting) (seam : ListSeam) (u : HeldUnit) : Type 0 where
  pub old : unplaced seam.old ≡ list_in u
  pub own : IsOwnBase seam.base seam.old seam.join
  pub even : IsEven (seam_front seam).marks seam.old.marks seam.join
  pub fits : MayFit (seam_front seam) seam.old seam.join
  pub order : IsInOrder seam.base
  pub part : HasOrder seam.part
  pub alike : (items : Items) → as_first_list (tight_list seam.old.parted (spliced_marks (seam_front seam).marks seam.old.marks seam.join)) items (seam_front seam).unit.blocks
      ≡ with_items items seam.old.unit.blocks
  pub read : DidReadIn s u
  pub rendered : IsRendered s.options u

-- how many texts stand before the join
abbrev pub texts_in_front : ListSeam → ℕ
texts_in_front seam = (mark_at seam.old.marks seam.join).texts

-- Those behind the ones that stay read so, and between the held readings they are the readings of all texts.
pub record AreBetween (s : TextSetting) (seam : ListSeam) (u : HeldUnit) (readings : List ParsedText) : Type 0 where
  pub count : texts_staying seam.base + length readings ≡ texts_in_front seam
  pub room : texts_in_front seam ≤ length u.read.readings
  pub all : inset_readings (texts_staying seam.base) readings u.read.readings ≡ readings_as s (seam_list seam).unit.texts

-- The list put together is held, or what comes into the unit of this number makes it.
abbrev pub IsJoined : TextSetting → ListSeam → (number : ℕ) → (held : HeldUnit) → JoinedList → Type 0
IsJoined s seam number held (Made unit) = IsReadFrom s (seam_list seam) unit
IsJoined s seam number held (Inset inset) = (inset.unit ≡ number) × FitsUnit inset held × IsReadFrom s (seam_list seam) (put_in inset held)
