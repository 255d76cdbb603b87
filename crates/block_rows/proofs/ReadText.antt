-- The units of a text, with every word of their definition open, so that rows of them compute.
use lib.Utf8.{encode}
use Rattle.std.specs.Prelude.{ℕ, List, length, map, Option}
use Rattle.std.specs.Str.{chars}
use Rattle.caseless.specs.Caseless.{default_case_fold}
use Rattle.ucd_case.specs.CaseFolding.{full_folding}
use Rattle.ucd_case.specs.FullFoldingRows.{full_folding_rows}
use Rattle.ucd_table.specs.Rows.{value_in}
use Rattle.mdtext.specs.Columns.{width, indent_at, strip_at, unindented}
use Rattle.mdtext.specs.EntityTable.{builtin_table}
use Rattle.mdtext.specs.Labels.{words}
use Rattle.mdtext.specs.Lines.{split_lines, text_lines}
use Rattle.mdtext.specs.CharacterReferences.{reference}
use Rattle.mdtext.specs.Unescaped.{meaning, unescaped_from}
use Rattle.mdscan.specs.AtxHeading.{content_length, heading_content, atx_heading}
use Rattle.mdscan.specs.BlockQuote.{is_quote_marker}
use Rattle.mdscan.specs.CodeFence.{opening_backticks, opening_fence, is_closing_fence}
use Rattle.mdscan.specs.DelimiterRow.{is_delimiter, delimiter_columns, delimiter_align}
use Rattle.mdscan.specs.BackslashEscapes.{run_before}
use Rattle.mdscan.specs.Spacing.{spacing_length}
use Rattle.mdscan.specs.HtmlBlock.{begins_one_of, raw_names, block_names, begins_raw, is_block_name, begins_block, begins_raw_end, ends_kind, holds_end, is_raw_tag, begins_whole_tag, html_kind}
use Rattle.mdscan.specs.Tag.{tag_name_length, attribute_name_length, quoted_length, value_length, equals_length, value_part_length, attribute_length, open_end_length, open_tag, closing_tag}
use Rattle.mdscan.specs.LinkDefinition.{line_end, titled_def, labelled_def, definition_of}
use Rattle.mdscan.specs.LinkDestination.{angle_destination, bare_end, destination_at}
use Rattle.mdscan.specs.LinkLabel.{label_at}
use Rattle.mdscan.specs.LinkTitle.{title_to, title_at}
use Rattle.mdscan.specs.ListMarker.{ordered_marker, marker}
use Rattle.mdscan.specs.Repeats.{repeats}
use Rattle.mdscan.specs.SetextHeading.{is_run_of, underline_level}
use Rattle.mdscan.specs.TableRow.{inside as row_inside, bars, row_cells}
use Rattle.mdscan.specs.TaskListItem.{task_marker}
use Rattle.mdscan.specs.ThematicBreak.{is_break_of, is_thematic_break}
use Rattle.mdleaf.specs.CodeLanguage.{code_language, code_meta}
use Rattle.mdleaf.specs.ParagraphDefinitions.{fronts, leading_of, leading_end}
use Rattle.mdleaf.specs.DefinedLinks.{LinkDefinition}
use Rattle.mdleaf.specs.ParagraphText.{joined_lines, without_end_blanks}
use Rattle.mdleaf.specs.Tables.{row_texts, row_aligns, begins_table}
use Rattle.blockspec.specs.BlockLine.{document_line}
use Rattle.blockspec.specs.ListItems.{padding}
use Rattle.blockspec.specs.BlockStart.{start_near, start}
use Rattle.blockspec.specs.BlockTree.{Block, blocks_of}
use Rattle.blockspec.specs.BlockUnits.{container_part, groups_within, visible, visible_in, found_units, units}
use Rattle.blockspec.specs.ContainerLines.{matches, opened, inside, is_bare}
use Rattle.blockspec.specs.Laziness.{continues_lazily}
use Rattle.blockspec.specs.LeafContents.{leaves_of}
use Rattle.blockspec.specs.LineSummary.{no_summary, summary_tip, last_tip, closed, last_groups, ended_last, new_last, begin_after, last_grown, leaf_after, container_after, last_after, line_added, is_apart_after}
use Rattle.blockspec.specs.Lists.{grouped, nodes_of}
use Rattle.blockspec.specs.Nesting.{first_deep, deep_within, first_too_deep}
use Rattle.blockspec.specs.NodeTree.{texts_in, texts_in_items, definitions_in, definitions_in_items, placed, placed_items}
use Rattle.blockspec.specs.OpenLeaf.{open_leaves, leaf_from, next_leaf}
use Rattle.blockspec.specs.Paragraphs.{paragraph_end}
use Rattle.blockspec.specs.SetextHeadings.{heading_end}
use Rattle.blockspec.specs.Tables.{table_end}
use Rattle.blockspec.specs.Stretches.{step, is_single, all_of, tip_of, begin_where, after_step, add_at, cut_from, tip_within}
use Rattle.blockspec.specs.SummaryDepth.{sinks_first, sinks_later, sinks_at, sinks_by, sinks, lines_added, refused_line}
use Rattle.blockspec.specs.TaskListItems.{with_task}
use Rattle.blockspec.specs.UnitTree.{FoundUnit}

-- a unit: the number of lines before it and its own, its blocks, definitions and texts
abbrev pub found : (begin lines : ℕ) → List Block → List LinkDefinition → List (List ℕ) → FoundUnit
found begin lines blocks definitions texts =
    record { begin = begin; lines = lines; unit = record { blocks = blocks_of blocks; definitions = definitions; texts = texts } }

abbrev pub defines : (label url title : List ℕ) → LinkDefinition
defines label url title = record { label = label; url = url; title = title }

-- the units of a text, under the built-in entities
unfoldable pub units_read : List ℕ → List FoundUnit
unfolding chars encode default_case_fold full_folding full_folding_rows value_in width indent_at strip_at words split_lines reference meaning unescaped_from
    content_length heading_content atx_heading is_quote_marker opening_backticks opening_fence is_closing_fence is_delimiter delimiter_columns
    delimiter_align run_before spacing_length begins_one_of raw_names block_names begins_raw is_block_name begins_block begins_raw_end ends_kind holds_end
    is_raw_tag begins_whole_tag html_kind tag_name_length attribute_name_length quoted_length value_length equals_length value_part_length
    attribute_length open_end_length open_tag closing_tag line_end titled_def labelled_def definition_of angle_destination bare_end destination_at
    label_at title_to title_at ordered_marker marker repeats is_run_of underline_level row_inside bars row_cells task_marker is_break_of is_thematic_break
    code_language code_meta fronts leading_of leading_end joined_lines without_end_blanks row_texts row_aligns begins_table padding start_near start container_part
    groups_within visible visible_in found_units matches opened inside is_bare unindented continues_lazily leaves_of grouped nodes_of texts_in texts_in_items
    definitions_in definitions_in_items placed placed_items paragraph_end heading_end table_end step is_single all_of tip_of begin_where after_step add_at
    cut_from tip_within with_task
units_read text = units builtin_table (text_lines text)

-- the first line of a text on which a container begins that lies in so many others
unfoldable pub deep_line : (limit : ℕ) → List ℕ → Option ℕ
unfolding units_read first_deep deep_within
deep_line limit text = first_too_deep limit (text_lines text)

-- the same, as a reader finds it that keeps the summary of the lines so far
unfoldable pub refused : (limit : ℕ) → List ℕ → Option ℕ
unfolding units_read summary_tip last_tip closed last_groups ended_last new_last begin_after last_grown leaf_after container_after last_after line_added is_apart_after
    open_leaves leaf_from next_leaf sinks_first sinks_later sinks_at sinks_by sinks refused_line
refused limit text = refused_line builtin_table limit no_summary 0 (map document_line (text_lines text))

-- the units of a text as this reader finds them
unfoldable pub units_kept : (limit : ℕ) → List ℕ → List FoundUnit
unfolding refused lines_added
units_kept limit text =
    let lines = map document_line (text_lines text) in
    found_units (closed builtin_table (lines_added builtin_table limit no_summary lines)) (length lines)
