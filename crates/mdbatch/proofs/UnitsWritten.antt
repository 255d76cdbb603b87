-- Units that are written one after the other.
use Rattle.std.proofs.Common.{◌≡◌, ◌||◌, ℕ, true, false, List, [], ◌∷◌, ◌++◌, Option, Some, None, map, cond, find, option_map, refl, ap, sym, ◌∙◌, append_assoc, append-nil}
use Rattle.std.proofs.lemmas.List.{map-append}
use Rattle.std.proofs.lemmas.List.Folds.{concat-append, find-append}
use Rattle.std.specs.List.{concat, list_any}
use Rattle.std.proofs.lemmas.Bool.{or_parts}
use Rattle.std.specs.Option.{option_or}
use Rattle.mdtext.specs.EntityTable.{EntityTable}
use Rattle.inlinespec.specs.LinkTails.{Table}
use Rattle.inlinespec.specs.TextTree.{asked, inl}
use Rattle.blockspec.specs.UnitTree.{FoundUnit}
use Rattle.htmlspec.specs.BlockHtml.{blocks_html, texts_html}
use Rattle.htmlspec.specs.WrittenUnits.{is_deep_text, is_deep_unit, read_html, written_unit}
use Rattle.mdsource.specs.Refusals.{is_deep, is_too_deep}
use Rattle.mdsource.specs.Setting.{Setting}
use Rattle.mdsource.specs.View.{ViewedUnit, reading_of, viewed, viewed_with}
use Rattle.mdsource.proofs.ReadingsUnder.{all_under}
use Rattle.inlinespec.proofs.UnaskedTexts.{asks_none, reads_alike}
use Rattle.mdbatch.specs.GatheredUnits.{closes_bracket}
use Rattle.mdbatch.specs.BatchHtml.{WritesUnits, begin_in, deep_line, piece_in, pieces_of}

-- ---- a unit that is written while its texts are read

shown_same : (setting : Setting) (labels : Table) (texts : List (List ℕ)) →
    map (read_html setting.options setting.entities labels) texts ≡ texts_html setting.options (map (reading_of setting.entities labels) texts)
shown_same setting labels [] = refl
shown_same setting labels (text ∷ texts) = ap (λ shown. read_html setting.options setting.entities labels text ∷ shown) (shown_same setting labels texts)

deep_same : (setting : Setting) (labels : Table) (texts : List (List ℕ)) →
    list_any (is_deep_text setting.options setting.entities labels) texts ≡ list_any (is_deep setting.options.max_spans) (map (reading_of setting.entities labels) texts)
deep_same setting labels [] = refl
deep_same setting labels (text ∷ texts) = ap (λ deep. is_deep_text setting.options setting.entities labels text || deep) (deep_same setting labels texts)

-- it has its piece, and no spans lie too deep
pub one_written : (setting : Setting) (labels : Table) (found : FoundUnit) (old new : List ℕ) → is_deep_unit setting.options setting.entities labels found.unit ≡ false
    → new ≡ old ++ written_unit setting.options setting.entities labels found.unit → WritesUnits setting labels (found ∷ []) old new
one_written setting labels found old new within writes = record {
  within = ap (λ t. option_map begin_in (cond t (Some (viewed setting labels found)) None)) (sym (deep_same setting labels found.unit.texts) ∙ within);
  written = writes ∙ ap (λ texts. old ++ blocks_html setting.options texts false found.unit.blocks []) (shown_same setting labels found.unit.texts)
      ∙ ap (λ l. old ++ l) (sym (append-nil (viewed setting labels found).piece));
}

-- or they do
pub one_deep : (setting : Setting) (labels : Table) (found : FoundUnit) → is_deep_unit setting.options setting.entities labels found.unit ≡ true
    → deep_line setting labels (found ∷ []) ≡ Some found.begin
one_deep setting labels found deep =
    ap (λ t. option_map begin_in (cond t (Some (viewed setting labels found)) None)) (sym (deep_same setting labels found.unit.texts) ∙ deep)

-- ---- some units behind others

module _ (setting : Setting) (labels : Table) where
  view_of : List FoundUnit → List ViewedUnit
  view_of found = map (viewed setting labels) found

  pieces_append : (xs ys : List FoundUnit) → pieces_of setting labels (xs ++ ys) ≡ pieces_of setting labels xs ++ pieces_of setting labels ys
  pieces_append xs ys =
      ap (λ us. concat (map piece_in us)) (map-append (viewed setting labels) xs ys)
      ∙ ap concat (map-append piece_in (map (viewed setting labels) xs) (map (viewed setting labels) ys))
      ∙ concat-append (map piece_in (map (viewed setting labels) xs)) (map piece_in (map (viewed setting labels) ys))

  first_begin : (a b : Option ViewedUnit) → option_map begin_in (option_or a b) ≡ option_or (option_map begin_in a) (option_map begin_in b)
  first_begin None b = refl
  first_begin (Some one) b = refl

  deep_append : (xs ys : List FoundUnit) → deep_line setting labels (xs ++ ys) ≡ option_or (deep_line setting labels xs) (deep_line setting labels ys)
  deep_append xs ys =
      let deep = is_too_deep setting.options.max_spans in
      let us = map (viewed setting labels) xs in
      let vs = map (viewed setting labels) ys in
      ap (λ all. option_map begin_in (find deep all)) (map-append (viewed setting labels) xs ys)
      ∙ ap (option_map begin_in) (find-append deep us vs)
      ∙ first_begin (find deep us) (find deep vs)

  pub none_written : (old : List ℕ) → WritesUnits setting labels [] old old
  none_written old = record { within = refl; written = sym (append-nil old) }

  pub written_behind : (front kept : List FoundUnit) (old mid new : List ℕ) → WritesUnits setting labels front old mid → WritesUnits setting labels kept mid new
      → WritesUnits setting labels (front ++ kept) old new
  written_behind front kept old mid new before after = record {
    within = deep_append front kept ∙ ap (λ d. option_or d (deep_line setting labels kept)) before.within ∙ after.within;
    written = after.written ∙ ap (λ l. l ++ pieces_of setting labels kept) before.written
        ∙ append_assoc old (pieces_of setting labels front) (pieces_of setting labels kept) ∙ ap (λ l. old ++ l) (sym (pieces_append front kept));
  }

  -- what is written from nothing stands behind any other text as well
  pub moved_behind : (found : List FoundUnit) (html old new : List ℕ) → new ≡ old ++ html → WritesUnits setting labels found [] html → WritesUnits setting labels found old new
  moved_behind found html old new behind writes = record { within = writes.within; written = behind ∙ ap (λ l. old ++ l) writes.written }

  -- the first unit that is too deep is that of the front, or that behind it where there is none
  pub deep_in_front : (front rest : List FoundUnit) (line : ℕ) → deep_line setting labels front ≡ Some line → deep_line setting labels (front ++ rest) ≡ Some line
  deep_in_front front rest line deep = deep_append front rest ∙ ap (λ d. option_or d (deep_line setting labels rest)) deep

  pub deep_behind : (front rest : List FoundUnit) (line : ℕ) → deep_line setting labels front ≡ None → deep_line setting labels rest ≡ Some line
      → deep_line setting labels (front ++ rest) ≡ Some line
  deep_behind front rest line none deep = deep_append front rest ∙ ap (λ d. option_or d (deep_line setting labels rest)) none ∙ deep

-- ---- the same under other labels

pub viewed_under : (setting : Setting) (one other : Table) (found : List FoundUnit) → ((label : List ℕ) → one label ≡ other label)
    → map (viewed setting one) found ≡ map (viewed setting other) found
viewed_under setting one other [] same = refl
viewed_under setting one other (unit ∷ found) same =
    ap (λ rs. viewed_with setting.options unit rs ∷ map (viewed setting one) found) (all_under setting.entities one other unit.unit.texts same)
    ∙ ap (λ us. viewed setting other unit ∷ us) (viewed_under setting one other found same)

-- labels that lead alike give the same
pub deep_under : (setting : Setting) (one other : Table) (found : List FoundUnit) → ((label : List ℕ) → one label ≡ other label)
    → deep_line setting one found ≡ deep_line setting other found
deep_under setting one other found same = ap (λ us. option_map begin_in (find (is_too_deep setting.options.max_spans) us)) (viewed_under setting one other found same)

pub written_under : (setting : Setting) (one other : Table) (found : List FoundUnit) (old new : List ℕ) → ((label : List ℕ) → one label ≡ other label)
    → WritesUnits setting one found old new → WritesUnits setting other found old new
written_under setting one other found old new same writes = record {
  within = sym (deep_under setting one other found same) ∙ writes.within;
  written = writes.written ∙ ap (λ us. old ++ concat (map piece_in us)) (viewed_under setting one other found same);
}

unbracketed_reads : (e : EntityTable) (one other : Table) (text : List ℕ) → closes_bracket text ≡ false → reading_of e one text ≡ reading_of e other text
unbracketed_reads e one other text none =
    ap (λ z. record { tree = z; asked = asked e one text }) (reads_alike e one other text none)
    ∙ ap (λ z. record { tree = inl e other text; asked = z }) (asks_none e one text none ∙ sym (asks_none e other text none))

unbracketed_all : (e : EntityTable) (one other : Table) (texts : List (List ℕ)) → list_any closes_bracket texts ≡ false → map (reading_of e one) texts ≡ map (reading_of e other) texts
unbracketed_all e one other [] h = refl
unbracketed_all e one other (text ∷ texts) h =
    let parts = or_parts (closes_bracket text) (list_any closes_bracket texts) h in
    ap (λ r. r ∷ map (reading_of e one) texts) (unbracketed_reads e one other text parts.0)
    ∙ ap (λ rs. reading_of e other text ∷ rs) (unbracketed_all e one other texts parts.1)

viewed_anyhow : (setting : Setting) (one other : Table) (found : FoundUnit) → list_any closes_bracket found.unit.texts ≡ false → viewed setting one found ≡ viewed setting other found
viewed_anyhow setting one other found h = ap (viewed_with setting.options found) (unbracketed_all setting.entities one other found.unit.texts h)

-- a unit in whose texts no bracket closes is the same whatever labels are defined
pub written_anyhow : (setting : Setting) (one : Table) (found : FoundUnit) (old new : List ℕ) → list_any closes_bracket found.unit.texts ≡ false
    → WritesUnits setting one (found ∷ []) old new → (labels : Table) → WritesUnits setting labels (found ∷ []) old new
written_anyhow setting one found old new h writes labels =
    let same : viewed setting one found ∷ [] ≡ viewed setting labels found ∷ [] = ap (λ v. v ∷ []) (viewed_anyhow setting one labels found h) in
    record {
      within = ap (λ us. option_map begin_in (find (is_too_deep setting.options.max_spans) us)) (sym same) ∙ writes.within;
      written = writes.written ∙ ap (λ us. old ++ concat (map piece_in us)) same;
    }

pub deep_anyhow : (setting : Setting) (one : Table) (found : FoundUnit) (line : ℕ) → list_any closes_bracket found.unit.texts ≡ false
    → deep_line setting one (found ∷ []) ≡ Some line → (labels : Table) → deep_line setting labels (found ∷ []) ≡ Some line
deep_anyhow setting one found line h deep labels =
    ap (λ v. option_map begin_in (find (is_too_deep setting.options.max_spans) (v ∷ []))) (sym (viewed_anyhow setting one labels found h)) ∙ deep
