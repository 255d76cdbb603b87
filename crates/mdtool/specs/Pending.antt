-- What a script has taken from its feed and not read yet, and how lines are read off it.
use Rattle.std.specs.Prelude.{◌≡◌, ℕ, ◌+◌, ◌<◌, ◌≤◌, Bool, true, false, List, [], ◌++◌, Option, ◌⊎◌, length, take, drop, get_or}
use Rattle.mdtool.specs.Bytes.{Takes, AtEnd}
use Rattle.mdtool.specs.Commands.{has_break, script_lines, capped}

-- the bytes that no line has used, whether no more will come, and how many lines were read
pub record Pending : Type 0 where
  pub bytes : List ℕ
  pub is_ended : Bool
  pub lines : ℕ

-- what may still come, and whether the script ends behind it: nothing comes once it is seen to have ended
pub record MayFollow (pending : Pending) (future : List ℕ) (ended : Bool) : Type 0 where
  pub follows : pending.is_ended ≡ true → (future ≡ []) × (ended ≡ true)

-- These lines were read off the front: whatever follows the bytes that were taken, the script's lines are these and then
-- those of what is pending now.
pub record Reads (left : Option (List ℕ)) (old : Pending) (lines : List (List ℕ)) (left' : Option (List ℕ)) (new : Pending) : Type 0 where
  pub taken : List ℕ
  pub takes : Takes left taken left'
  pub reads : (future : List ℕ) (ended : Bool) → MayFollow new future ended
      → script_lines ended (old.bytes ++ (taken ++ future)) ≡ lines ++ script_lines ended (new.bytes ++ future)
  pub count : capped new.lines ≡ capped (old.lines + length lines)
  pub stays : old.is_ended ≡ true → (taken ≡ []) × (new.is_ended ≡ true)
  pub at_end : (old.is_ended ≡ true → AtEnd left) → new.is_ended ≡ true → AtEnd left'

-- bytes were taken, and none once the script is seen to have ended
pub record Draws (left : Option (List ℕ)) (is_ended : Bool) (left' : Option (List ℕ)) : Type 0 where
  pub taken : List ℕ
  pub takes : Takes left taken left'
  pub stays : is_ended ≡ true → taken ≡ []

-- the pending bytes begin with a line of so many: an LF ends it, or the script has ended and the line is not empty
pub record HasLine (len : ℕ) (pending : Pending) : Type 0 where
  pub unbroken : has_break (take len pending.bytes) ≡ false
  pub ends : ((len < length pending.bytes) × (get_or pending.bytes len 0 ≡ 10)) ⊎ ((len ≡ length pending.bytes) × (0 < len) × (pending.is_ended ≡ true))

-- a line of so many bytes was used, and its LF
abbrev pub used : ℕ → Pending → Pending
used len pending = record { bytes = drop (len + 1) pending.bytes; is_ended = pending.is_ended; lines = capped (pending.lines + 1) }

-- of a script of which nothing is read yet
abbrev pub fresh : Pending
fresh = record { bytes = []; is_ended = false; lines = 0 }

-- no line stands among the pending bytes, of a script that has ended or not
pub record IsOver (ended : Bool) (pending : Pending) : Type 0 where
  pub no_line : script_lines ended pending.bytes ≡ []
  pub is_ended : pending.is_ended ≡ ended

-- these lines stand whole at the front of the pending bytes, and were used
pub record Uses (old : Pending) (lines : List (List ℕ)) (new : Pending) : Type 0 where
  pub reads : (left : Option (List ℕ)) → Reads left old lines left new
  pub shorter : length new.bytes ≤ length old.bytes
