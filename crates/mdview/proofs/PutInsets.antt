-- A list that is held takes items in.
use Rattle.std.proofs.Common.{◌≡◌, ℕ, ◌+◌, ◌≤◌, List, ◌++◌, Option, None, Some, drop, length, length-append, take, ap, ◌∙◌, arith}
use Rattle.std.proofs.lemmas.List.{length-drop, length-take-le}
use Rattle.mdblock.specs.FoundLists.{FoundList}
use Rattle.mdblock.specs.Insets.{FitsList, ListInset, inset_front}
use Rattle.mdblock.specs.Spliced.{mark_at, spliced_list}
use Rattle.mdblock.proofs.FrontedValues.{placed_is, placed_texts, placing}
use Rattle.mdblock.proofs.InsetLaws.{parts_length}
use Rattle.mdhtml.specs.InsetLists.{inset_readings}
use Rattle.inlinespec.specs.ParsedText.{ParsedText}
use Rattle.mdview.specs.HeldLists.{unplaced}

-- where a list stands in its text does not matter
fits_at : (stay : Option ℕ) (before : ℕ) (part : FoundList) (join : ℕ) (old : FoundList) → FitsList (record { stay = stay; before = before; part = part; join = join }) (unplaced old)
    → FitsList (record { stay = stay; before = before; part = part; join = join }) old
fits_at None before part join old w = record { fits = record { even = w.fits.even; puts = w.fits.puts }; before = w.before; order = w.order; below = w.below }
fits_at (Some k) before part join old w = record { fits = record { even = w.fits.even; puts = w.fits.puts }; before = w.before; order = w.order; below = w.below }

pub fits_there : (i : ListInset) (old : FoundList) → FitsList i (unplaced old) → FitsList i old
fits_there i old w = fits_at i.stay i.before i.part i.join old w

-- no more texts give way than there are
pub texts_there : (i : ListInset) (old : FoundList) → FitsList i old → (mark_at old.marks i.join).texts ≤ length old.unit.texts
texts_there i old w = (placing i old w).takes.room

-- there are as many texts as before
pub texts_put : (i : ListInset) (old : FoundList) → FitsList i old → length (spliced_list (inset_front i old) old i.join).unit.texts ≡ length old.unit.texts
texts_put i old w =
    let t = (placing i old w).takes in
    ap (λ (l : FoundList). length l.unit.texts) (placed_is i old w)
    ∙ parts_length i.before (mark_at old.marks i.join).texts (placed_texts i) old.unit.texts t.later t.room t.enough

-- as many readings too
pub readings_put : (at : ℕ) (part all : List ParsedText) → at + length part ≤ length all → length (inset_readings at part all) ≡ length all
readings_put at part all few =
    let both = length-append (take at all) (part ++ drop (at + length part) all) in
    let behind = length-append part (drop (at + length part) all) in
    let front = length-take-le at all (omega (arith, few)) in
    let rest = length-drop (at + length part) all in
    omega (arith, few, both, behind, front, rest)
