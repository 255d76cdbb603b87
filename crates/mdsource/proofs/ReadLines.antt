-- What a reader has told that was fed the first lines of a text.
use Rattle.std.proofs.Common.{◌≡◌, ℕ, List, [], None, length, ap}
use Rattle.mdtext.specs.EntityTable.{EntityTable}
use Rattle.blockspec.specs.BlockLine.{without_last}
use Rattle.blockspec.specs.Nesting.{first_too_deep}
use Rattle.mdblock.specs.held.ReaderState.{ReaderState}
use Rattle.mdblock.specs.held.Reads.{Reads, handed}
use Rattle.mdsource.proofs.Cuts.{no_units}

pub none_handed : (e : EntityTable) → handed e [] ≡ []
none_handed e = ap without_last (no_units e)

pub lines_fed : (limit : ℕ) (e : EntityTable) (r : ReaderState) (ls : List (List ℕ)) → Reads limit e r ls → r.fed ≡ length ls
unfolding Reads
lines_fed limit e r ls h = h.2

pub none_deep : (limit : ℕ) (e : EntityTable) (r : ReaderState) (ls : List (List ℕ)) → Reads limit e r ls → first_too_deep limit ls ≡ None
unfolding Reads
none_deep limit e r ls h = h.3
