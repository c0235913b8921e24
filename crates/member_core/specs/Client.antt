-- The client machine's state: what a member of a consumer group knows of itself (KIP-848, "Consumer").
use Rattle.std.specs.Prelude.{ℕ, Bool, false, if◌then◌else◌, Option, None}
use Rattle.group_types.specs.Text.{Text}
use Rattle.group_types.specs.Sets.{nothing, minus, is_nothing}
use Rattle.group_types.specs.Partition.{Partitions}
use Rattle.member_core.specs.Settings.{Settings}

pub data Place : Type 0 where
  Outside : Place  -- it has yet to join
  Inside : Place
  Gone : Place  -- for good

pub record Client : Type 0 where
  pub settings : Settings
  pub place : Place
  pub id : Option Text  -- a member that is fenced keeps it, and joins again under it
  pub epoch : ℕ  -- the member epoch that it knows, 0 outside
  pub own : Partitions  -- that it reads
  pub shown : Partitions  -- by the last assignment
  pub number : ℕ  -- of its latest request
  pub waits : Bool  -- for the reply to it
  pub says_all : Bool  -- its next heartbeat is full, whatever kind is asked for (ours)

-- one that hasn't asked for anything yet
abbrev pub new_client : Settings → Client
new_client settings =
    record {
      settings = settings;
      place = Outside;
      id = None;
      epoch = 0;
      own = nothing;
      shown = nothing;
      number = 0;
      waits = false;
      says_all = false;
    }

-- ---- its state

pub data State : Type 0 where
  IsOutside : State
  IsSteady : State  -- it is shown all that it owns
  IsReleasing : State  -- it has to release some of what it owns
  IsGone : State

-- what it owns and isn't shown
abbrev pub to_release : Client → Partitions
to_release c = minus c.own c.shown

abbrev pub state_at : Place → Bool → State
state_at Outside steady = IsOutside
state_at Inside steady = if steady then IsSteady else IsReleasing
state_at Gone steady = IsGone

-- by where it stands, and whether nothing is left to release
abbrev pub state_of : Client → State
state_of c = state_at c.place (is_nothing (to_release c))
