-- KIP-848, "Consumer Group Heartbeat", at member epochs of 0 or more: the record that a member has then, and the id
-- under which it joins.
use Rattle.std.specs.Prelude.{◌≡◌, ℕ, suc, ◌<◌, ◌≤◌, ◌^◌, ℤ, pos, negsuc, true, false, List, [], ◌∷◌, Option, Some, None}
use Rattle.std.specs.Option.{option_or, option_and_then, option_map}
use Rattle.group_types.specs.declared.epoch.Epoch.{Epoch}
use Rattle.group_types.specs.declared.epoch.Epoch.TheVariants.{At, Away}
use Rattle.group_types.specs.declared.stamp.Stamp.{Stamp}
use Rattle.group_types.specs.Text.{Text}
use Rattle.group_types.specs.Sets.{nothing, of_list}
use Rattle.group_types.specs.Topics.{Names}
use Rattle.group_types.specs.AssignorName.{assignor_named}
use Rattle.group_types.specs.Limits.{SESSION_TIMEOUT}
use Rattle.group_types.specs.Moment.{saturated_sum}
use Rattle.group_types.specs.MemberId.{made_id}
use Rattle.group_types.specs.Request.{Heartbeat}
use Rattle.group_types.specs.Group.{Record, Group}
use Rattle.group_types.specs.Members.{members_of, is_remembered}

-- ---- the id

-- n is the first serial from the group's on whose id isn't remembered (ours)
pub record IsNextSerial (g : Group) (n : ℕ) : Type 0 where
  pub from : g.serial ≤ n
  pub below : n < 2 ^ 64
  pub fresh : is_remembered (members_of g) (made_id g.salt n) ≡ false
  pub first : (k : ℕ) → g.serial ≤ k → k < n → is_remembered (members_of g) (made_id g.salt k) ≡ true

-- the next serial, or that none is left
abbrev pub IsSerial : Group → Option ℕ → Type 0
IsSerial g (Some n) = IsNextSerial g n
IsSerial g None = (k : ℕ) → g.serial ≤ k → k < 2 ^ 64 → is_remembered (members_of g) (made_id g.salt k) ≡ true

-- the id under which a member joins, and the serial of the next id that is made
pub record Name : Type 0 where
  pub id : Text
  pub next_serial : ℕ

-- the id of a serial
abbrev pub name_of_serial : Group → ℕ → Name
name_of_serial g n = record { id = made_id g.salt n; next_serial = suc n }

-- The id that the member names, or one that is made where it names none; no id where no serial is left.
abbrev pub IsNamed : Group → Text → Option Name → Type 0
IsNamed g [] name = (serial : Option ℕ) × IsSerial g serial × (name ≡ option_map (name_of_serial g) serial)
IsNamed g (c ∷ m) name = name ≡ Some (record { id = c ∷ m; next_serial = g.serial })

-- ---- the record

-- a member of which nothing is known yet
abbrev pub blank_record : Record
blank_record =
    record {
      instance = None;
      rack = None;
      names = nothing;
      assignor = None;
      rebalance_timeout = 0;
      epoch = At 0;
      previous_epoch = 0;
      stamp = record { connection = 0; frame = 0 };
      sent = None;
      session_deadline = 0;
      release_deadline = None;
    }

-- what is given replaces what is stored
abbrev pub names_after : Names → Option (List Text) → Names
names_after names None = names
names_after names (Some given) = of_list given

abbrev pub timeout_after : ℕ → ℤ → ℕ
timeout_after timeout (pos given) = given
timeout_after timeout (negsuc n) = timeout

-- the record after what an accepted heartbeat of epoch 0 or more gives
abbrev pub updated : Record → Heartbeat → Stamp → ℕ → Record
updated r q stamp now =
    record r {
      rack = option_or q.rack r.rack;
      names = names_after r.names q.names;
      assignor = option_or (option_and_then assignor_named q.assignor) r.assignor;
      rebalance_timeout = timeout_after r.rebalance_timeout q.rebalance_timeout;
      stamp = stamp;
      session_deadline = saturated_sum now SESSION_TIMEOUT;
    }

-- a member that was away is at its previous epoch again
abbrev pub returned_epoch : Epoch → ℕ → Epoch
returned_epoch (At e) previous = At e
returned_epoch Away previous = At previous

abbrev pub returned : Record → Record
returned r = record r { epoch = returned_epoch r.epoch r.previous_epoch }

-- a join sets the instance, and the member is sent everything again
abbrev pub joined : Record → Option Text → Record
joined r instance = record r { instance = instance; sent = None }

-- the record of a member that joins: anew, or again, or in place of another one whose record this was
abbrev pub record_of_join : Option Record → Heartbeat → Stamp → ℕ → Record
record_of_join None q stamp now = joined (updated blank_record q stamp now) q.instance
record_of_join (Some r) q stamp now = joined (updated (returned r) q stamp now) q.instance

-- the record of a member that beats, at a member epoch of 1 or more
abbrev pub record_of_beat : Record → Heartbeat → Stamp → ℕ → Record
record_of_beat r q stamp now = updated r q stamp now
