-- The members of a group, and the ids of former members that it remembers: the part of a group that joins, leaves and
-- the checks of a heartbeat look at.
use Rattle.std.specs.Prelude.{◌≡◌, Bool, not, ◌||◌, ◌-◌, if◌then◌else◌, [], ◌∷◌, ◌++◌, length, drop, filter, Option, Some, None}
use Rattle.std.specs.List.{list_any}
use Rattle.std.specs.Ordering.{eq_by_cmp}
use Rattle.std.specs.FinMap as finite
use Rattle.group_types.specs.Limits.{MOST_PAST_MEMBERS}
use Rattle.group_types.specs.declared.stamp.Stamp.{Stamp}
use Rattle.group_types.specs.Text.{Text, text_cmp}
use Rattle.group_types.specs.Group.{Record, Records, Past, Group}

pub record Members : Type 0 where
  pub records : Records
  pub past : Past

abbrev pub members_of : Group → Members
members_of g = record { records = g.records; past = g.past }

abbrev pub with_members : Group → Members → Group
with_members g s = record g { records = s.records; past = s.past }

-- an id that has a record, or had one and is still in the past
abbrev pub is_remembered : Members → Text → Bool
is_remembered s m = finite.contains_key s.records m || list_any (λ e. eq_by_cmp text_cmp m e.0) s.past

-- the stamp that stands beside an id in the past
abbrev pub past_stamp : Past → Text → Option Stamp
past_stamp [] m = None
past_stamp (e ∷ past) m = if eq_by_cmp text_cmp m e.0 then Some e.1 else past_stamp past m

-- the member has the instance
pub record HasInstance (records : Records) (m instance : Text) : Type 0 where
  pub kept : Record
  pub is_kept : finite.get records m ≡ Some kept
  pub same : kept.instance ≡ Some instance

-- ---- the past

-- an id goes last into the past, and where it is full the oldest is forgotten (ours)
abbrev pub remembering : Past → Text → Stamp → Past
remembering past m stamp =
    let all = past ++ (m, stamp) ∷ [] in
    drop (length all - MOST_PAST_MEMBERS) all

-- the past without an id
abbrev pub without_past : Past → Text → Past
without_past past m = filter (λ e. not (eq_by_cmp text_cmp m e.0)) past

-- ---- one change each

-- The member has this record. An id that has one is no former member's.
abbrev pub with_record : Members → Text → Record → Members
with_record s m r = record { records = finite.insert s.records m r; past = without_past s.past m }

-- the member has no record, and is remembered with the stamp
abbrev pub without_record : Members → Text → Stamp → Members
without_record s m stamp = record { records = finite.remove s.records m; past = remembering s.past m stamp }

-- The heir has this record in place of the old id, which is remembered with its last stamp: the one before the
-- take-over.
abbrev pub taken_over : Members → Text → Text → Record → Stamp → Members
taken_over s old heir r last =
    record {
      records = finite.insert (finite.remove s.records old) heir r;
      past = remembering (without_past s.past heir) old last;
    }
