use Rattle.std.proofs.Common.{◌≡◌, ℕ, List, ◌+◌, ◌-◌, ◌≤◌, ◌++◌, false, length, take, drop, refl, sym, ap, ◌∙◌, subst, arith, length-append}
use Rattle.std.specs.List.{list_any}
use Rattle.std.proofs.lemmas.List.{take_rest, drop-drop}
use Rattle.mdtool.specs.Commands.{capped, has_break}
use Rattle.mdtool.specs.LineLengths.{AreLengths, cut}
use Rattle.mdtool.specs.Pending.{Pending, Uses}
use Rattle.mdtool.proofs.LineLengths.{length_cut}
use Rattle.mdtool.proofs.WholeLines.{uses_whole}
use Rattle.mdtool.proofs.script.Script.use_whole_lines.Goals as goal

pub returns-clause-lines : goal.returns-clause-lines
returns-clause-lines c =
    let s = c.self.inside in
    let lens = c.in_ok-lens.lens.items in
    let end = c.in_ok-lens.end in
    let rest : List ℕ = drop s.start s.taken.items in
    let slice : take (length c.deref.result.now - s.start) (drop s.start c.deref.result.now) ≡ rest = take_rest c.deref.result.now s.start ∙ ap (drop s.start) c.deref.ensures.value in
    let within : end ≤ length rest = rw slice at c.in_ok-lens.ensures.within in
    let are : AreLengths lens (take end rest) = rw slice at c.in_ok-lens.ensures.lengths in
    let plain : list_any has_break (cut lens (take end rest)) ≡ false = rw slice at c.in_ok-lens.ensures.unbroken in
    let size : s.start + end - s.start ≡ end = omega arith in
    let appended : c.append.new.self ≡ c.args.lines.now ++ cut lens (take end rest) = rw (c.deref-2.ensures.value, c.deref-3.ensures.value, size) at c.in_ok-append.ensures in
    let counted : capped c.saturating_add-self-inside.result ≡ capped (s.lines + length lens) = omega (arith, c.saturating_add-self-inside.ensures, c.len-2.ensures, c.in_ok-lens.lens.ok.0) in
    let now : Pending = record { bytes = drop (s.start + end) s.taken.items; is_ended = s.is_ended; lines = c.saturating_add-self-inside.result } in (
      cut lens (take end rest),
      appended,
      subst (λ (p : Pending). Uses p (cut lens (take end rest)) now) c.self.view_is
          (uses_whole lens end _ now within are plain (sym (drop-drop end s.start s.taken.items)) refl counted),
    )

pub returns-clause-few : goal.returns-clause-few
returns-clause-few c =
    let s = c.self.inside in
    let lens = c.in_ok-lens.lens.items in
    omega (arith, ap length c.in_ok-append.ensures, length-append c.args.lines.now (cut c.deref-3.result.now (take (s.start + c.in_ok-lens.end - s.start) (drop s.start c.deref-2.result.now))), length_cut c.deref-3.result.now (take (s.start + c.in_ok-lens.end - s.start) (drop s.start c.deref-2.result.now)), ap length c.deref-3.ensures.value, c.in_ok-lens.ensures.few, c.len.ensures, c.requires)
