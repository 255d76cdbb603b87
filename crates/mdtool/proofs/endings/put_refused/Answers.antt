use Rattle.std.proofs.Common.{◌≡◌, ◌++◌, ◌∷◌, codes, decimal, refl, ◌∙◌}
use Rattle.mdtool.proofs.Devices.{puts_then, puts_part}
use Rattle.mdsource.specs.FaultNames.{name_of, number_of}
use Rattle.mdsource.specs.FaultReasons.{reason_of}
use Rattle.mdtool.proofs.endings.put_refused.Goals as goal

pub returns-in_err-put_all : goal.returns-in_err-put_all
returns-in_err-put_all g c =
    let reason = reason_of c.args.fault.now in
    (puts_part _ _ _ _ _ _ (codes "refused ") (name_of reason ++ 32 ∷ decimal (number_of reason)) _ c.from_residual.ensures.1 refl c.in_err-put_all.ensures)

pub returns-in_err-put_all-2 : goal.returns-in_err-put_all-2
returns-in_err-put_all-2 g c =
    let reason = reason_of c.args.fault.now in
    let name : c.as_bytes.result.now ≡ name_of reason = c.as_bytes.ensures.value ∙ c.name.ensures in
    (puts_then _ _ _ _ _ _ _ (codes "refused ") (name_of reason ++ 32 ∷ decimal (number_of reason)) _ refl c.in_ok-put_all.ensures
    (puts_part _ _ _ _ _ _ (name_of reason) (32 ∷ decimal (number_of reason)) _ c.from_residual-in_err-put_all-2.ensures.1 refl
    (rw name at c.in_err-put_all-2.ensures)))

pub returns : goal.returns
returns g c =
    let reason = reason_of c.args.fault.now in
    let name : c.as_bytes.result.now ≡ name_of reason = c.as_bytes.ensures.value ∙ c.name.ensures in
    puts_then _ _ _ _ _ _ _ (codes "refused ") (name_of reason ++ 32 ∷ decimal (number_of reason)) _ refl c.in_ok-put_all.ensures
    (puts_then _ _ _ _ _ _ _ (name_of reason) (32 ∷ decimal (number_of reason)) _ refl (rw name at c.in_ok-put_all-2.ensures) (rw c.number.ensures at c.put_numbered.ensures))
