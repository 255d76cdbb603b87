-- Entity references (CommonMark 2.5): the names and the texts that they stand for.
use Rattle.std.specs.Prelude.{ℕ, Bool, false, List, [], ◌∷◌, Option, codes, encode_utf8}
use Rattle.std.specs.BTreeMap.{insert_entry}
use Rattle.std.specs.Cmp.Lexicographic.{slice_cmp}
use Rattle.std.specs.Map.{lookup}
use Rattle.std.specs.Ordering.{nat_cmp}
use Rattle.std.specs.Str.{bytes_eq}

-- the names, without `&` and `;`, in ascending order, each once with its text
abbrev pub EntityNames : Type 0
EntityNames = List (List ℕ × List ℕ)

-- What inline texts are read by beside their labels: the names, and whether one tilde alone is text, so that two alone strike through (as by
-- `--strikethrough-double-tilde` of `cmark-gfm`). It stands beside the names since whatever reads a text is handed both.
pub record EntityTable : Type 0 where
  pub names : EntityNames
  pub double_tilde : Bool

-- the usual way to read tildes (GFM Strikethrough (extension)): one strikes through, as two do
abbrev pub usual_table : EntityNames → EntityTable
usual_table names = record { names = names; double_tilde = false }

-- the text that a name stands for
abbrev pub entity_text : EntityTable → List ℕ → Option (List ℕ)
entity_text table name = lookup (bytes_eq name) table.names

-- the names with each of the pairs put in turn, where a later one takes the place of an earlier one of its name
abbrev pub put_all : EntityNames → EntityNames → EntityNames
put_all [] names = names
put_all (p ∷ ps) names = put_all ps (insert_entry (slice_cmp nat_cmp) names p.0 p.1)

-- the names that are used where no others are handed in
abbrev pub builtin_names : EntityNames
builtin_names =
    (codes "AElig", encode_utf8 0xC6) ∷ (codes "Dcaron", encode_utf8 0x10E) ∷ (codes "amp", encode_utf8 0x26) ∷ (codes "apos", encode_utf8 0x27)
    ∷ (codes "auml", encode_utf8 0xE4) ∷ (codes "copy", encode_utf8 0xA9) ∷ (codes "euro", encode_utf8 0x20AC) ∷ (codes "frac34", encode_utf8 0xBE)
    ∷ (codes "gt", encode_utf8 0x3E) ∷ (codes "hellip", encode_utf8 0x2026) ∷ (codes "ldquo", encode_utf8 0x201C) ∷ (codes "lsquo", encode_utf8 0x2018)
    ∷ (codes "lt", encode_utf8 0x3C) ∷ (codes "mdash", encode_utf8 0x2014) ∷ (codes "nbsp", encode_utf8 0xA0) ∷ (codes "ndash", encode_utf8 0x2013)
    ∷ (codes "ouml", encode_utf8 0xF6) ∷ (codes "quot", encode_utf8 0x22) ∷ (codes "rdquo", encode_utf8 0x201D) ∷ (codes "reg", encode_utf8 0xAE)
    ∷ (codes "rsquo", encode_utf8 0x2019) ∷ (codes "times", encode_utf8 0xD7) ∷ (codes "trade", encode_utf8 0x2122) ∷ []

abbrev pub builtin_table : EntityTable
builtin_table = usual_table builtin_names
