use Rattle.std.proofs.Common.{◌≡◌, ◌+◌, ◌-◌, ◌^◌, ◌≤◌, true, subst, sym}
use Rattle.std.specs.Prelude.{option_map, IfSome}
use Rattle.blockspec.specs.UnitTree.{UnitTree}
use Rattle.mdblock.specs.Bases.{base_view}
use Rattle.mdblock.specs.Fronted.{IsInOrder, ListBase, behind_base}
use Rattle.mdblock.specs.Insets.{MayFit}
use Rattle.mdblock.specs.Seams.{IsSplicedIn, ListSeam, seam_front, seam_list}
use Rattle.mdblock.specs.Spliced.{mark_at, spliced_list}
use Rattle.mdblock.specs.held.Following.{ItemReading, MeetsIn, fed_in}
use Rattle.mdblock.specs.held.ReaderState.{held_joined}
use Rattle.mdblock.proofs.HeldMarks.{if_mapped}
use Rattle.mdblock.proofs.ItemSeams.{CountsAll, fits_in, spliced_in}
use Rattle.mdblock.proofs.SplicedLists.{AreFew}
use Rattle.mdblock.proofs.item_readers.ItemReader.seam.Goals as goal

pub returns-clause-list : goal.returns-clause-list
returns-clause-list c =
    let i = c.self.inside in
    let base = option_map base_view i.base in
    let old = c.args.old.now in
    let part = c.in_ok-part.part in
    let counted : AreFew c.unit.result.now c.unit-2.result.now = record { texts = c.are_counted.ensures.texts; definitions = c.are_counted.ensures.definitions } in
    let few : AreFew part.unit old.unit = subst (λ (z : UnitTree). AreFew z old.unit) c.unit.ensures (subst (AreFew c.unit.result.now) c.unit-2.ensures counted) in
    let all : IfSome base (λ (b : ListBase). CountsAll b.list.unit c.unit.result.now c.unit-2.result.now) =
    if_mapped base_view (λ (b : ListBase). CountsAll b.list.unit c.unit.result.now c.unit-2.result.now) i.base c.are_counted.ensures.base in
    let counts : IfSome base (λ (b : ListBase). CountsAll b.list.unit part.unit old.unit) =
    subst (λ (z : UnitTree). IfSome base (λ (b : ListBase). CountsAll b.list.unit z old.unit)) c.unit.ensures
    (subst (λ (z : UnitTree). IfSome base (λ (b : ListBase). CountsAll b.list.unit c.unit.result.now z)) c.unit-2.ensures all) in
    let list = spliced_in base i.reader part old c.args.k (subst (λ (z : ItemReading). held_joined z.reading.held ≡ true) (sym c.self.view_is) c.requires.joined) c.requires.join
    (subst (λ (z : ItemReading). fed_in z + (old.lines - (mark_at old.marks c.args.k).line - 1) ≤ 2 ^ 64 - 1) (sym c.self.view_is) c.requires.fits)
    c.in_ok-part.ensures.lines c.in_ok-part.ensures.front few counts in
    subst (λ (z : ListSeam). IsSplicedIn c.args.self old c.args.k (seam_list z)) (sym c.of.ensures)
    (subst (λ (z : ItemReading). IsSplicedIn z old c.args.k (spliced_list (behind_base base part) old c.args.k)) c.self.view_is list)

pub returns-clause-fits : goal.returns-clause-fits
returns-clause-fits c = λ limit e xs l zs ys m.
    let i = c.self.inside in
    let base = option_map base_view i.base in
    let old = c.args.old.now in
    let part = c.in_ok-part.part in
    let counted : AreFew c.unit.result.now c.unit-2.result.now = record { texts = c.are_counted.ensures.texts; definitions = c.are_counted.ensures.definitions } in
    let few : AreFew part.unit old.unit = subst (λ (z : UnitTree). AreFew z old.unit) c.unit.ensures (subst (AreFew c.unit.result.now) c.unit-2.ensures counted) in
    let all : IfSome base (λ (b : ListBase). CountsAll b.list.unit c.unit.result.now c.unit-2.result.now) =
    if_mapped base_view (λ (b : ListBase). CountsAll b.list.unit c.unit.result.now c.unit-2.result.now) i.base c.are_counted.ensures.base in
    let counts : IfSome base (λ (b : ListBase). CountsAll b.list.unit part.unit old.unit) =
    subst (λ (z : UnitTree). IfSome base (λ (b : ListBase). CountsAll b.list.unit z old.unit)) c.unit.ensures
    (subst (λ (z : UnitTree). IfSome base (λ (b : ListBase). CountsAll b.list.unit c.unit.result.now z)) c.unit-2.ensures all) in
    let fits = fits_in base i.reader part old c.args.k (subst (λ (z : ItemReading). held_joined z.reading.held ≡ true) (sym c.self.view_is) c.requires.joined) c.requires.join
    (subst (λ (z : ItemReading). fed_in z + (old.lines - (mark_at old.marks c.args.k).line - 1) ≤ 2 ^ 64 - 1) (sym c.self.view_is) c.requires.fits)
    c.in_ok-part.ensures.lines c.in_ok-part.ensures.front few counts limit e xs l zs ys
    (subst (λ (z : ItemReading). MeetsIn limit e z old c.args.k xs l zs ys) (sym c.self.view_is) m) in
    subst (λ (z : ListSeam). MayFit (seam_front z) z.old z.join × IsInOrder z.base) (sym c.of.ensures) fits
