use Rattle.std.proofs.Common.{◌≡◌, ap, subst, sym, ◌∙◌, ◌++◌, length, drop, string_bytes}
use Rattle.std.proofs.lemmas.List.{length-map}
use Rattle.mdleaf.specs.ParagraphText.{behind_definitions, without_end_blanks}
use Rattle.mdleaf.specs.Tables.{TableHeader, header_of}
use Rattle.mdblock.specs.held.HandedIn.{gathered_texts, left_behind, IsHandedIn}
use Rattle.mdblock.specs.held.HeldTables.{IsHeaderRow, first_rows}
use Rattle.mdblock.proofs.TableLaws.{header_told, header_there}
use Rattle.mdblock.proofs.Within.{found_grows}
use Rattle.mdblock.proofs.leaf.paragraphs.Paragraph.turn_into_table.Goals as goal

pub returns-clause-within : goal.returns-clause-within
returns-clause-within c = c.behind.ensures.within _ (found_grows _ _ c.in_ok-over.over c.new.ensures.grows.0 c.in_ok-over.ensures.within) c.in_ok-table.ensures.within

pub unreachable-requires : goal.unreachable-requires
unreachable-requires c = header_there c.in_ok-header.field-0 _ _ c.args.delimiters.now c.in_default.is c.in_ok-header.ensures.header c.last_line.ensures c.requires

pub returns-clause-table : goal.returns-clause-table
returns-clause-table c =
    let old = gathered_texts c.args.gathering.now in
    let between = gathered_texts c.end.new.gathering in
    let last = drop c.args.self.last c.args.self.text in
    let header : header_of c.in-Some.header ≡ first_rows last c.args.delimiters.now =
    header_told c.in_ok-header.field-0 c.in-Some.header _ last c.args.delimiters.now c.in-Some.is c.in_ok-header.ensures.header c.last_line.ensures c.requires in
    rw c.behind.ensures.value (record {
      between = between;
      paragraph = subst (λ t. IsHandedIn (left_behind c.args.first (behind_definitions (without_end_blanks t))) old between c.in_ok-over.over) c.without_last.ensures c.in_ok-over.ensures.left;
      begun = subst (λ (h : TableHeader). IsHeaderRow (length between) h c.in_ok-table.table) header
          (subst (λ n. IsHeaderRow n (header_of c.in-Some.header) c.in_ok-table.table) (sym (length-map c.end.new.gathering.texts.items string_bytes)) c.in_ok-table.ensures.header);
      texts = c.in_ok-table.ensures.texts ∙ ap (λ (h : TableHeader). between ++ h.cells) header;
    })
