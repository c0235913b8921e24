-- Member ids: the text that names a member of a group.
use Rattle.std.specs.Prelude.{◌≡◌, ℕ, ◌<◌, ◌^◌, ◌++◌}
use Rattle.std.specs.Int.{w64, to_be_bytes}
use Rattle.uuid.specs.Text.{hyphenated_text, lower}
use Rattle.group_types.specs.Text.{Text}

-- KIP-848, "ConsumerGroupHeartbeat API": the coordinator makes the ids of members that come without one. Here (ours) an
-- id is the hyphenated text of the UUID whose first eight bytes are the coordinator's salt and whose last eight are the
-- serial
abbrev pub made_id : ℕ → ℕ → Text
made_id salt serial = hyphenated_text lower (to_be_bytes w64 salt ++ to_be_bytes w64 serial)

-- the ids that one coordinator makes of different serials differ
abbrev pub MadeIdsDiffer : Type 0
MadeIdsDiffer = (salt serial other : ℕ) → serial < 2 ^ 64 → other < 2 ^ 64 → made_id salt serial ≡ made_id salt other → serial ≡ other
