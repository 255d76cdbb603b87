use Rattle.std.proofs.Common.{codes, refl, string_bytes}
use Rattle.mdtool.proofs.Devices.{puts_then, puts_part}
use Rattle.mdtool.proofs.endings.put_reason.Goals as goal

pub returns-in_err-put_all-in-NotOpened : goal.returns-in_err-put_all-in-NotOpened
returns-in_err-put_all-in-NotOpened g c =
    rw c.in-NotOpened.is
    (puts_part _ _ _ _ _ _ (codes "cannot open ") (string_bytes c.in-NotOpened.name) _ c.from_residual.ensures.1 refl c.in_err-put_all-in-NotOpened.ensures)

pub returns-in_ok-put_all-in-NotOpened : goal.returns-in_ok-put_all-in-NotOpened
returns-in_ok-put_all-in-NotOpened g c =
    rw c.in-NotOpened.is (puts_then _ _ _ _ _ _ _ (codes "cannot open ") (string_bytes c.in-NotOpened.name) _ refl c.in_ok-put_all-in-NotOpened.ensures (rw c.as_bytes-in-NotOpened.ensures.value at c.put_all-in-NotOpened-2.ensures))
