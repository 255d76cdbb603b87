use Rattle.std.proofs.Common.{◌≡◌, ◌∷◌, List, length, ap, sym, subst, ◌∙◌, Ok}
use Rattle.blockspec.specs.BlockLine.{BlockLine}
use Rattle.blockspec.specs.BlankLines.{is_blank_line}
use Rattle.blockspec.specs.BlockKinds.{Inside, Paragraph}
use Rattle.blockspec.specs.BlockStart.{start}
use Rattle.blockspec.specs.Stretches.{Continues, paragraph_step}
use Rattle.mdblock.specs.held.Continuations.{ContinuesOpen}
use Rattle.mdblock.specs.held.ParagraphLines.{HoldsLines}
use Rattle.mdblock.specs.declared.leaf.Leaf.TheVariants as leaf
use Rattle.mdblock.specs.declared.open_blocks.OpenBlock as open_block
use Rattle.mdblock.proofs.LeafTurns.{paragraph_added}
use Rattle.mdblock.proofs.LevelGrows.{leaf_reads}
use Rattle.mdblock.proofs.Turns.{turned, turns}
use Rattle.mdblock.proofs.Within.{blocks_grow}
use Rattle.mdblock.proofs.open_blocks.Level.turn.Goals as goal

pub returns-clause-within : goal.returns-clause-within
returns-clause-within c =
    let e = c.in_ok-step-in-Leaf-Paragraph.ensures in
    c.in_ok-put-in-Leaf-Paragraph.ensures.within (length c.turn.new.gathering.texts.items) (blocks_grow _ _ _ e.grows.0 c.requires.level.0) e.within

pub returns-clause-adds : goal.returns-clause-adds
returns-clause-adds c =
    let e = c.in_ok-step-in-Leaf-Paragraph.ensures in
    let p = c.in_ok-put-in-Leaf-Paragraph.ensures in
    let l = c.args.line.now in
    let step = c.in_ok-step-in-Leaf-Paragraph.step in
    let held = c.in-Leaf-Paragraph.paragraph in
    let is = sym c.replace.ensures.value ∙ c.in-Leaf-Paragraph.is ∙ ap open_block.Leaf c.in-Leaf-Paragraph.field-0-is in
    let known = subst (λ z. ContinuesOpen z l c.args.continuation) is c.requires.step in
    let goes : (lines : List BlockLine) → HoldsLines lines held → paragraph_step l.lazy (is_blank_line l) (start Inside lines l) ≡ Continues Paragraph → ⊥ =
    λ lines h same. turned (length lines) c.args.continuation (turns c.args.continuation known.2 c.requires.inside c.requires.turns) (known.0 lines h ∙ same) in
    leaf_reads (Unit {0}) c.args.self.now c.put.new.self c.args.gathering.now c.turn.new.gathering l (leaf.Paragraph held) step c.is_at_front-first.result is c.is_at_front-first.ensures
    (λ entities kind begin later h tip. paragraph_added {E = Unit {0}} entities held kind begin later tip l (Ok step) _ _ _ _ (λ first later h same. absurd (goes (first ∷ later) h same)) e.delimited h)
    tt (λ lines h same. absurd (goes lines h same), e.underlined, e.underlined_texts, e.delimited, e.delimited_found)
    p.over p.last (p.marks.0, p.marks.1, p.marks.3)
