use Rattle.std.proofs.Common.{◌≡◌, List, ℕ, ◌++◌, ◌∷◌, [], codes, refl, ◌∙◌, append_assoc}
use Rattle.mdtool.proofs.Devices.{puts_then, puts_part}
use Rattle.mdtool.specs.Endings.{reason_of}
use Rattle.mdtool.proofs.endings.put_line.Goals as goal

-- the parts of the line: the name, what comes behind it, and what comes behind each of these
abbrev of_reason : List ℕ → List ℕ
of_reason reason = reason ++ 10 ∷ []

abbrev of_colon : List ℕ → List ℕ
of_colon reason = codes ": " ++ of_reason reason

parts : (program reason : List ℕ) → program ++ codes ": " ++ reason ++ 10 ∷ [] ≡ program ++ of_colon reason
parts program reason = append_assoc (program ++ codes ": ") reason (10 ∷ []) ∙ append_assoc program (codes ": ") (of_reason reason)

pub returns-in_err-put_all : goal.returns-in_err-put_all
returns-in_err-put_all g c =
    let reason = reason_of c.args.stop.now in
    (puts_part _ _ _ _ _ _ c.args.program.now (of_colon reason) _ c.from_residual.ensures.1 (parts c.args.program.now reason)
    (rw c.as_bytes.ensures.value at c.in_err-put_all.ensures))

pub returns-in_err-put_all-2 : goal.returns-in_err-put_all-2
returns-in_err-put_all-2 g c =
    let reason = reason_of c.args.stop.now in
    (puts_then _ _ _ _ _ _ _ c.args.program.now (of_colon reason) _ (parts c.args.program.now reason) (rw c.as_bytes.ensures.value at c.in_ok-put_all.ensures)
    (puts_part _ _ _ _ _ _ (codes ": ") (of_reason reason) _ c.from_residual-in_err-put_all-2.ensures.1 refl c.in_err-put_all-2.ensures))

pub returns-in_err-put_reason : goal.returns-in_err-put_reason
returns-in_err-put_reason g c =
    let reason = reason_of c.args.stop.now in
    (puts_then _ _ _ _ _ _ _ c.args.program.now (of_colon reason) _ (parts c.args.program.now reason) (rw c.as_bytes.ensures.value at c.in_ok-put_all.ensures)
    (puts_then _ _ _ _ _ _ _ (codes ": ") (of_reason reason) _ refl c.in_ok-put_all-2.ensures
    (puts_part _ _ _ _ _ _ reason (10 ∷ []) _ c.from_residual-in_err-put_reason.ensures.1 refl c.in_err-put_reason.ensures)))

pub returns : goal.returns
returns g c =
    let reason = reason_of c.args.stop.now in
    puts_then _ _ _ _ _ _ _ c.args.program.now (of_colon reason) _ (parts c.args.program.now reason) (rw c.as_bytes.ensures.value at c.in_ok-put_all.ensures)
    (puts_then _ _ _ _ _ _ _ (codes ": ") (of_reason reason) _ refl c.in_ok-put_all-2.ensures
    (puts_then _ _ _ _ _ _ _ reason (10 ∷ []) _ refl c.in_ok-put_reason.ensures c.put_all-3.ensures))
