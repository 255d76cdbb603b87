-- The words of the definition of inlines that a row opens, under one name.
use Rattle.std.specs.Str.{chars}
use Rattle.std.specs.Char.{encode_utf8}
use Rattle.caseless.specs.Caseless.{default_case_fold}
use Rattle.ucd_case.specs.CaseFolding.{full_folding}
use Rattle.ucd_case.specs.FullFoldingRows.{full_folding_rows}
use Rattle.ucd_category.specs.GeneralCategory.{general_category}
use Rattle.ucd_category.specs.GeneralCategoryRows.{general_category_rows}
use Rattle.ucd_table.specs.Rows.{value_in}
use Rattle.mdtext.specs.Labels.{words, has_bare_bracket}
use Rattle.mdtext.specs.CharacterReferences.{reference}
use Rattle.mdtext.specs.Unescaped.{meaning, unescaped_from}
use Rattle.mdscan.specs.Autolink.{scheme_length, uri_end, mail_marks, domain_label_length, dotted_label_length, mail_end, autolink_at}
use Rattle.mdscan.specs.BackslashEscapes.{run_before}
use Rattle.mdscan.specs.Spacing.{spacing_length}
use Rattle.mdscan.specs.Tag.{tag_name_length, attribute_name_length, quoted_length, value_length, equals_length, value_part_length, attribute_length, open_end_length, open_tag, closing_tag}
use Rattle.mdscan.specs.LinkTail.{tail_to, titled_tail, tail_inside, inline_tail_at}
use Rattle.mdscan.specs.LinkDestination.{angle_destination, bare_end, destination_at}
use Rattle.mdscan.specs.LinkLabel.{label_at}
use Rattle.mdscan.specs.LinkTitle.{title_to, title_at}
use Rattle.mdscan.specs.RawHtml.{place_of, delimited, comment, declaration, raw_html}
use Rattle.mdscan.specs.Repeats.{repeats}
use Rattle.mdpair.specs.Neighbours.{left_flanking, right_flanking, opens_between, closes_between, run_at}
use Rattle.mdpair.specs.Matches.{matches_in, matches}
use Rattle.inlinespec.specs.CharacterReferences.{without_references}
use Rattle.inlinespec.specs.CodeSpans.{code_content, code_inside}
use Rattle.inlinespec.specs.InlineEvents.{rows_of}
use Rattle.inlinespec.specs.BackslashEscapes.{escape_lexeme}
use Rattle.inlinespec.specs.Lexing.{lex}
use Rattle.inlinespec.specs.LineBreaks.{spaced_break, backslash_break}
use Rattle.inlinespec.specs.LinkTails.{link_tail_at}
use Rattle.inlinespec.specs.Nesting.{nest}
use Rattle.inlinespec.specs.Emphasis.{settled}
use Rattle.inlinespec.specs.TextReading.{item_at, items_from, pieces_after, asks_of}
use Rattle.inlinespec.specs.TextTree.{inl, asked}

unfoldable pub inline_words : Unit {0}
unfolding chars encode_utf8 default_case_fold full_folding full_folding_rows general_category general_category_rows value_in words has_bare_bracket reference meaning unescaped_from scheme_length uri_end mail_marks domain_label_length dotted_label_length mail_end autolink_at run_before spacing_length tag_name_length attribute_name_length quoted_length value_length equals_length value_part_length attribute_length open_end_length open_tag closing_tag tail_to titled_tail tail_inside inline_tail_at angle_destination bare_end destination_at label_at title_to title_at place_of delimited comment declaration raw_html repeats left_flanking right_flanking opens_between closes_between run_at matches_in matches without_references code_content code_inside rows_of escape_lexeme lex spaced_break backslash_break link_tail_at nest settled item_at items_from pieces_after asks_of inl asked
inline_words = tt
