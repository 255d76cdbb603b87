-- The definitions at worked texts, by computation.
use Rattle.std.proofs.Common.{◌≡◌, [], ◌∷◌, Some, refl, codes, false}
use Rattle.mdscan.specs.declared.delimiter_rows.Align.TheVariants.{Left, Right}
use Rattle.mdscan.specs.DelimiterRow.{delimiter_align, delimiter_columns, is_delimiter}
use Rattle.mdscan.specs.BackslashEscapes.{run_before}
use Rattle.mdscan.specs.Spacing.{spacing_length}
use Rattle.mdscan.specs.LinkDefinition.{definition_of, labelled_def, line_end, titled_def}
use Rattle.mdscan.specs.LinkDestination.{angle_destination, bare_end, destination_at}
use Rattle.mdscan.specs.LinkLabel.{label_at}
use Rattle.mdscan.specs.LinkTitle.{title_at, title_to}
use Rattle.mdscan.specs.TableRow.{bars, inside, row_cells}
use Rattle.mdleaf.specs.ParagraphDefinitions.{fronts, leading_end}
use Rattle.mdleaf.specs.Tables.{begins_table, filled, row_aligns, row_texts, table_header}

-- a definition, and a paragraph after it
one_definition : leading_end (codes "[foo]: /url\nbar") ≡ 12
unfolding leading_end fronts definition_of labelled_def titled_def line_end label_at run_before destination_at angle_destination bare_end spacing_length title_at title_to
one_definition = refl

-- two definitions, the second one with its title on a line of its own, and nothing else
only_definitions : leading_end (codes "[a]: /1\n[b]: /2\n\"c\"") ≡ 19
unfolding leading_end fronts definition_of labelled_def titled_def line_end label_at run_before destination_at angle_destination bare_end spacing_length title_at title_to
only_definitions = refl

-- something after a title on the destination's line, and after one on a line of its own
titles_followed : (leading_end (codes "[foo]: /url \"title\" ok") ≡ 0) × (leading_end (codes "[foo]: /url\n\"title\" ok") ≡ 12)
unfolding leading_end fronts definition_of labelled_def titled_def line_end label_at run_before destination_at angle_destination bare_end spacing_length title_at title_to
titles_followed = (refl, refl)

-- a paragraph before a definition
not_at_the_front : leading_end (codes "Foo\n[bar]: /baz") ≡ 0
unfolding leading_end fronts definition_of labelled_def titled_def line_end label_at run_before destination_at angle_destination bare_end spacing_length title_at title_to
not_at_the_front = refl

-- the two first rows of a table, and rows that have not equally many cells
header : table_header (codes "| a | b |") (codes "| :-- | --: |") ≡ Some (record { aligns = Left ∷ Right ∷ []; cells = codes "a" ∷ codes "b" ∷ [] })
unfolding table_header begins_table row_aligns row_texts row_cells bars inside delimiter_columns delimiter_align is_delimiter
header = refl

no_header : (begins_table (codes "| abc | def |") (codes "| --- |") ≡ false) × (begins_table (codes "a") (codes "---") ≡ false)
unfolding begins_table row_cells bars inside delimiter_columns delimiter_align is_delimiter
no_header = (refl, refl)

-- a missing cell, an excess one, and a bar after a backslash
data_rows : (filled 2 (row_texts (codes "| 1 |")) ≡ codes "1" ∷ [] ∷ []) × (filled 2 (row_texts (codes "| 2 | 3 | 4 |")) ≡ codes "2" ∷ codes "3" ∷ []) × (filled 1 (row_texts (codes "| b `\\|` az |")) ≡ codes "b `|` az" ∷ [])
unfolding row_texts row_cells bars inside
data_rows = (refl, refl, refl)
