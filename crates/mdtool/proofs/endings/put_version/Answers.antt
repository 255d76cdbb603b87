use Rattle.std.proofs.Common.{List, ℕ, ◌++◌, ◌∷◌, [], refl}
use Rattle.mdtool.proofs.Devices.{puts_then, puts_part}
use Rattle.mdwords.specs.ToolWords.{version}
use Rattle.mdtool.proofs.endings.put_version.Goals as goal

-- what stands behind the name, and behind the space
abbrev of_version : List ℕ
of_version = version ++ 10 ∷ []

abbrev of_space : List ℕ
of_space = 32 ∷ of_version

pub returns-in_err-put_all : goal.returns-in_err-put_all
returns-in_err-put_all g c =
    puts_part _ _ _ _ _ _ c.args.program.now of_space _ c.from_residual.ensures.1 refl (rw c.as_bytes.ensures.value at c.in_err-put_all.ensures)

pub returns-in_err-put_all-2 : goal.returns-in_err-put_all-2
returns-in_err-put_all-2 g c =
    puts_then _ _ _ _ _ _ _ c.args.program.now of_space _ refl (rw c.as_bytes.ensures.value at c.in_ok-put_all.ensures)
    (puts_part _ _ _ _ _ _ (32 ∷ []) of_version _ c.from_residual-in_err-put_all-2.ensures.1 refl c.in_err-put_all-2.ensures)

pub returns-in_err-put_all-3 : goal.returns-in_err-put_all-3
returns-in_err-put_all-3 g c =
    puts_then _ _ _ _ _ _ _ c.args.program.now of_space _ refl (rw c.as_bytes.ensures.value at c.in_ok-put_all.ensures)
    (puts_then _ _ _ _ _ _ _ (32 ∷ []) of_version _ refl c.in_ok-put_all-2.ensures
    (puts_part _ _ _ _ _ _ version (10 ∷ []) _ c.from_residual-in_err-put_all-3.ensures.1 refl (rw c.as_bytes-2.ensures.value at c.in_err-put_all-3.ensures)))

pub returns : goal.returns
returns g c =
    puts_then _ _ _ _ _ _ _ c.args.program.now of_space _ refl (rw c.as_bytes.ensures.value at c.in_ok-put_all.ensures)
    (puts_then _ _ _ _ _ _ _ (32 ∷ []) of_version _ refl c.in_ok-put_all-2.ensures
    (puts_then _ _ _ _ _ _ _ version (10 ∷ []) _ refl (rw c.as_bytes-2.ensures.value at c.in_ok-put_all-3.ensures) c.put_all-4.ensures))
