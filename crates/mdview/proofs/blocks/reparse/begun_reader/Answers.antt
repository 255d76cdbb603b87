use Rattle.std.proofs.Common.{true, [], Some, Result, Ok, Err, refl, subst, ◌≡◌, ◌≤◌, ◌+◌, arith, drop, map, take, get_or, ap, ◌∙◌, sym}
use Rattle.std.specs.Prelude.{OnErr, is_some}
use Rattle.std.proofs.lemmas.Result.{IfOk-from_err}
use Rattle.blockspec.specs.ItemMarks.{ItemMark}
use Rattle.mdblock.specs.CountedLines.{counted_by}
use Rattle.mdblock.specs.FoundLists.{FoundList}
use Rattle.mdblock.specs.Spliced.{mark_at}
use Rattle.mdblock.specs.held.Following.{Follows, ItemReading, fed_in}
use Rattle.mdblock.specs.held.Reads.{handed}
use Rattle.mdview.specs.HeldBlocks.{old_lines, places_of}
use Rattle.mdview.specs.HeldItems.{IsBaseOf}
use Rattle.mdview.specs.HeldLists.{IsBaseIn}
use Rattle.mdview.specs.HeldUnit.{HeldUnit, first_line, read_of}
use Rattle.mdview.specs.NewText.{lines_of}
use Rattle.mdview.proofs.FollowedLines.{gi_based}
use Rattle.mdview.proofs.HeldJoins.{joined_mark, no_join}
use Rattle.mdview.proofs.ReadStretches.{is_edit}
use Rattle.mdview.proofs.ResumedReading.{res_given, res_new, res_read}
use Rattle.mdview.proofs.blocks.reparse.begun_reader.Given.{Over}
use Rattle.mdview.proofs.blocks.reparse.begun_reader.Goals.{In_ok-begun}
use Rattle.mdview.proofs.blocks.reparse.begun_reader.Goals as goal

-- A reader goes on in the list from that item, and has read the lines of the new text up to the item, and its line.
record Begun (g : Over) (c : In_ok-begun g) : Type 0 where
  given : is_some c.in_ok-begun.begun ≡ true
  read : (reader : ItemReading) → c.in_ok-begun.begun ≡ Some reader → (c.args.from + fed_in reader ≤ c.args.text.at)
      × Follows c.args.held.now.options.now.max_containers c.args.held.now.entities.now reader
      (drop c.args.from (take (c.args.from + fed_in reader) (lines_of c.args.text)))
      × (handed c.args.held.now.entities.now (drop c.args.from (take (c.args.from + fed_in reader) (lines_of c.args.text))) ≡ [])
  base : (reader : ItemReading) → c.in_ok-begun.begun ≡ Some reader → IsBaseOf c.args.held.now.units.now.items c.args.start.unit reader.base

begun : (g : Over) (c : In_ok-begun g) → Begun g c
begun g c =
    let held = c.args.held.now in
    let e = held.entities.now in
    let limit = held.options.now.max_containers in
    let text = c.args.text in
    let old = old_lines text in
    let new = lines_of text in
    let item = c.in-Some.item in
    let u : HeldUnit = item.unit.now in
    let is = c.in-Some.ensures.item in
    let list : FoundList = c.found-list.result.now in
    let mark = joined_mark c.joins.result.now u.read.items item.item no_join (c.joins.ensures ∙ ap (λ (f : FoundList). f.marks) c.found-list.ensures) is.1 in
    let line = c.line-line.ensures.value ∙ ap (λ n. get_or new n []) (sym (ap (λ (m : ItemMark). c.args.from + m.line) mark)) in
    let begins = c.in-Some.ensures.begins in
    let from = sym begins.1 ∙ c.requires.counted ∙ ap (first_line held.head (map read_of held.units.now.items)) (sym begins.0) in
    record {
      given = res_given e limit old new (places_of e text) (is_edit e text) held.head held.units.now.items c.requires.held c.requires.old c.requires.fits
          item.number u is.0 item.item is.1 c.args.from from c.in-Some.ensures.above
          list c.found-list.ensures (is_some c.in_ok-begun.begun) c.line-line.result.now line c.in_ok-begun.ensures.given;
      read = λ reader some.
          res_read e limit old new (places_of e text) (is_edit e text) held.head held.units.now.items c.requires.held c.requires.old c.requires.fits
          item.number u is.0 item.item is.1 c.args.from from c.in-Some.ensures.above list c.found-list.ensures reader c.line-line.result.now line
          (rw some at c.in_ok-begun.ensures.fed) (rw some at c.in_ok-begun.ensures.reads);
      base = λ reader some.
          gi_based held.units.now.items item.number c.args.start.unit u begins.0 is.0 list c.found-list.ensures item.item reader.base (rw some at c.in_ok-begun.ensures.base);
    }

pub unwrap-requires : goal.unwrap-requires
unwrap-requires g c = (begun g (goal.at.unwrap-requires g c).In_ok-begun).given

pub returns : goal.returns
returns g c =
    let b = begun g (goal.at.returns g c).In_ok-begun in
    let read = b.read c.unwrap.result c.unwrap.ensures in
    record {
      above = read.0;
      reads = read.1;
      none = read.2;
      base = b.base c.unwrap.result c.unwrap.ensures;
      lines = rw c.unwrap.ensures at c.in_ok-begun.ensures.lines;
      no_more = tt;
      inlines = c.inside.ensures.inlines;
    }

err_any : {X Y : Type 0} (r : Result X Y) {P : Type 0} → P → OnErr r P
err_any (Ok x) p = tt
err_any (Err y) p = p

pub returns-in_err-begun : goal.returns-in_err-begun
returns-in_err-begun g c =
    let r = c.from_residual.result in
    let fails = c.from_residual.ensures.0 in
    let item = c.in-Some.item in
    let list : FoundList = c.found-list.result.now in
    let same = ap (λ (f : FoundList). (mark_at f.marks item.item).line) c.found-list.ensures in
    record {
      above = IfOk-from_err r _ fails;
      reads = IfOk-from_err r _ fails;
      none = IfOk-from_err r _ fails;
      base = IfOk-from_err r _ fails;
      lines = IfOk-from_err r _ fails;
      no_more = err_any r (omega (arith, same, c.inside.ensures.no_more, c.in-Some.ensures.above));
      inlines = c.inside.ensures.inlines;
    }

pub returns-in_default : goal.returns-in_default
returns-in_default g c =
    let e = c.args.held.now.entities.now in
    let text = c.args.text in
    let fed = c.new.ensures.fed in
    let read = res_new e (old_lines text) (lines_of text) (places_of e text) (is_edit e text) c.args.held.now.options.now.max_containers c.new.result c.args.from c.requires.from fed c.new.ensures.reads in
    record {
      above = read.0;
      reads = read.1;
      none = read.2;
      base = λ u there. subst (IsBaseIn u) (sym c.new.ensures.base) tt;
      lines = ap (λ n. counted_by n (g.C.Count.lines c.args.count.now)) (sym fed);
      no_more = tt;
      inlines = refl;
    }
