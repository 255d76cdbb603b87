use Rattle.std.proofs.Common.{◌≡◌, ℕ, ◌+◌, ◌*◌, ◌≤◌, length, option_map}
use Rattle.serde_json.specs.Data.{Members}
use Rattle.mdtext.specs.EntityReading.{characters_among}
use Rattle.mdtext.proofs.TokenReading.{ItemsGoOn, MembersGoOn}
use Rattle.mdtext.proofs.entity_reading.+pass_value.Given as goal

abbrev pub decreases-pass_value : goal.decreases-pass_value
decreases-pass_value l = 2 * l.depth

abbrev pub decreases-pass_items : goal.decreases-pass_items
decreases-pass_items l = 2 * l.depth + 1

abbrev pub decreases-pass_fields : goal.decreases-pass_fields
decreases-pass_fields l = 2 * l.depth + 1

abbrev pub invariant-pass_items-loop-reader : goal.invariant-pass_items-loop-reader
invariant-pass_items-loop-reader l = (n : ℕ) × (length l.reader ≤ n) × ItemsGoOn l.depth l.initial.reader n l.reader × (length l.reader ≤ length l.initial.reader)

abbrev pub decreases-pass_items-loop-reader : goal.decreases-pass_items-loop-reader
decreases-pass_items-loop-reader l = length l.reader

abbrev pub invariant-pass_fields-loop-key : goal.invariant-pass_fields-loop-key
invariant-pass_fields-loop-key l =
    (n : ℕ) × (length l.reader ≤ n) × (found : Members) × MembersGoOn l.depth l.initial.reader n l.reader found × (option_map (λ s. s.now) l.characters ≡ characters_among found) × (length l.reader ≤ length l.initial.reader)

abbrev pub decreases-pass_fields-loop-key : goal.decreases-pass_fields-loop-key
decreases-pass_fields-loop-key l = length l.reader
