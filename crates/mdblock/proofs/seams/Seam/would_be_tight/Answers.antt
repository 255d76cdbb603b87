use Rattle.std.proofs.Common.{◌≡◌, ◌+◌, drop, false, map, true, sym, ◌∙◌, ap}
use Rattle.std.proofs.lemmas.List.{drop-map}
use Rattle.mdblock.specs.FoundLists.{join_mark}
use Rattle.mdblock.specs.Seams.{ListSeam, seam_front}
use Rattle.mdblock.specs.Spliced.{tight_list}
use Rattle.mdblock.proofs.TightSeams.{tight_then}
use Rattle.mdblock.proofs.seams.Seam.would_be_tight.Goals as goal

pub returns-then-would_be_tight_before : goal.returns-then-would_be_tight_before
returns-then-would_be_tight_before c =
    let i = c.self.inside in
    let s = c.args.self.now in
    let first : tight_list s.old.parted (seam_front s).marks ≡ true = sym c.would_be_tight_before.ensures ∙ c.if-would_be_tight_before.true in
    let later : c.is_tight.result ≡ tight_list false (drop (s.join + 1) s.old.marks) =
    c.is_tight.ensures
    ∙ ap (tight_list false) (ap (map join_mark) c.behind-later.ensures ∙ sym (drop-map join_mark (i.join + 1) c.joins.result.now) ∙ ap (drop (i.join + 1)) c.joins.ensures)
    ∙ ap (λ (z : ListSeam). tight_list false (drop (z.join + 1) z.old.marks)) c.self.view_is in
    later ∙ tight_then s.old.parted (seam_front s).marks s.old.marks s.join first
