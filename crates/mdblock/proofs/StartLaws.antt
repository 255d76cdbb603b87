-- A line begins by itself what it begins where no paragraph is open around it, and the cases in which one is open stand
-- between the two parts of that.
use Rattle.std.proofs.Common.{◌≡◌, Bool, true, false, List, Option, Some, None, refl, ap, sym, ◌∙◌}
use Rattle.std.specs.Prelude.{nat_le}
use Rattle.std.specs.Option.{option_or, option_map, is_none}
use Rattle.blockspec.specs.BlockLine.{BlockLine, indentation}
use Rattle.blockspec.specs.BlankLines.{is_blank_line}
use Rattle.blockspec.specs.BlockKinds.{Mode, Free, Inside, Lazy, Kind, is_inside}
use Rattle.blockspec.specs.BlockQuotes.{begins_quote}
use Rattle.blockspec.specs.AtxHeadings.{begins_atx}
use Rattle.blockspec.specs.FencedCode.{begins_fence}
use Rattle.blockspec.specs.HtmlBlocks.{begins_html}
use Rattle.blockspec.specs.SetextHeadings.{begins_underline}
use Rattle.blockspec.specs.ThematicBreaks.{begins_break}
use Rattle.blockspec.specs.ListItems.{begins_item}
use Rattle.blockspec.specs.Tables.{begins_rows}
use Rattle.blockspec.specs.BlockStart.{start_near, start_at, start_where, start}
use Rattle.mdblock.specs.held.StartParts.{start_before_underline, start_after_underline, start_alone_near, start_alone_at, start_alone_where, start_alone}

pub or_assoc : (a b c : Option Kind) → option_or (option_or a b) c ≡ option_or a (option_or b c)
or_assoc None b c = refl
or_assoc (Some x) b c = refl

-- the order of all constructs
pub near_in_parts : (mode : Mode) (paragraph : List BlockLine) (l : BlockLine)
    → start_near mode paragraph l ≡ option_or (start_before_underline mode l) (option_or (begins_underline mode paragraph l) (option_or (start_after_underline mode l) (begins_rows mode paragraph l)))
unfolding start_near start_before_underline start_after_underline
near_in_parts mode paragraph l =
    let behind = option_or (begins_underline mode paragraph l) (option_or (option_or (begins_break l) (begins_item mode l)) (begins_rows mode paragraph l)) in
    let last : option_or (begins_break l) (option_or (begins_item mode l) (begins_rows mode paragraph l)) ≡ option_or (option_or (begins_break l) (begins_item mode l)) (begins_rows mode paragraph l) =
    sym (or_assoc (begins_break l) (begins_item mode l) (begins_rows mode paragraph l)) in
    ap (λ k. option_or (begins_quote l) (option_or (begins_atx l) (option_or (begins_fence l) (option_or (begins_html mode l) (option_or (begins_underline mode paragraph l) k))))) last
    ∙ sym (ap (λ k. option_or (begins_quote l) k) (ap (λ k. option_or (begins_atx l) k) (or_assoc (begins_fence l) (begins_html mode l) behind)))
    ∙ sym (ap (λ k. option_or (begins_quote l) k) (or_assoc (begins_atx l) (option_or (begins_fence l) (begins_html mode l)) behind))
    ∙ sym (or_assoc (begins_quote l) (option_or (begins_atx l) (option_or (begins_fence l) (begins_html mode l))) behind)

pub or_none : (a : Option Kind) → option_or a None ≡ a
or_none None = refl
or_none (Some x) = refl

near_alone : (mode : Mode) (paragraph : List BlockLine) (l : BlockLine) → begins_underline mode paragraph l ≡ None → begins_rows mode paragraph l ≡ None
    → start_near mode paragraph l ≡ start_alone_near mode l
unfolding start_alone_near
near_alone mode paragraph l underline rows =
    near_in_parts mode paragraph l
    ∙ ap (λ k. option_or (start_before_underline mode l) (option_or k (option_or (start_after_underline mode l) (begins_rows mode paragraph l)))) underline
    ∙ ap (λ k. option_or (start_before_underline mode l) (option_or (start_after_underline mode l) k)) rows
    ∙ ap (λ k. option_or (start_before_underline mode l) k) (or_none (start_after_underline mode l))

where_alone : (mode : Mode) (paragraph : List BlockLine) (l : BlockLine) → begins_underline mode paragraph l ≡ None → begins_rows mode paragraph l ≡ None
    → (blank : Bool) → start_where blank mode paragraph l ≡ start_alone_where blank mode l
where_alone mode paragraph l underline rows true = refl
where_alone mode paragraph l underline rows false = at (nat_le (indentation l) 3) where
  at : (near : Bool) → start_at near mode paragraph l ≡ start_alone_at near mode l
  at true = near_alone mode paragraph l underline rows
  at false = refl

-- where no paragraph is open whose containers all match, the lines of one don't matter
pub starts_alone : (mode : Mode) → is_inside mode ≡ false → (paragraph : List BlockLine) (l : BlockLine) → start_alone mode l ≡ start mode paragraph l
unfolding start start_alone
starts_alone Free h paragraph l = sym (where_alone Free paragraph l refl refl (is_blank_line l))
starts_alone Inside h paragraph l = cc
starts_alone Lazy h paragraph l = sym (where_alone Lazy paragraph l refl refl (is_blank_line l))

pub none_mapped : {A B : Type 0} (f : A → B) (o : Option A) → is_none (option_map f o) ≡ is_none o
none_mapped f None = refl
none_mapped f (Some x) = refl

-- no opening is found where none begins
pub none_begins : {A : Type 0} (f : A → Kind) (o : Option A) (k : Option Kind) → option_map f o ≡ k → is_none o ≡ is_none k
none_begins f o k e = sym (none_mapped f o) ∙ ap is_none e
