use Rattle.std.proofs.Common.{decimal, refl, ◌∙◌}
use Rattle.mdtool.proofs.Devices.{puts_then, puts_part}
use Rattle.mdtool.proofs.endings.put_numbered.Goals as goal

pub returns-in_err-put_all : goal.returns-in_err-put_all
returns-in_err-put_all g c =
    (puts_part _ _ _ _ _ _ c.args.text.now (decimal c.args.number) _ c.from_residual.ensures.1 refl c.in_err-put_all.ensures)

pub returns : goal.returns
returns g c =
    let digits = c.as_bytes.ensures.value ∙ c.format.ensures.text in
    puts_then _ _ _ _ _ _ _ c.args.text.now (decimal c.args.number) _ refl c.in_ok-put_all.ensures (rw digits at c.put_all-2.ensures)
