-- The records of a group's members, and the former members that it remembers.
use Rattle.std.specs.Prelude.{◌≡◌, ℕ, ◌<◌, ◌≤◌, Option, Some, None, MatchOption, IsTrue, false, refl}
use Rattle.std.specs.Coded.{Coded, code_by, coded×, coded_ℕ}
use Rattle.std.specs.FinMap as finite
use Rattle.group_types.specs.declared.stamp.Stamp.{Stamp}
use Rattle.group_types.specs.Limits.{SESSION_TIMEOUT}
use Rattle.group_types.specs.Moment.{saturated_sum}
use Rattle.group_types.specs.Text.{Text, text_cmp}
use Rattle.group_types.specs.Sets.{size}
use Rattle.group_types.specs.Topics.{Names}
use Rattle.group_types.specs.Group.{Record, Records, Past}
use Rattle.group_types.specs.Members.{Members, HasInstance}
use Rattle.group_types.specs.Checks.{is_late}
use Rattle.group_types.specs.Request.{Heartbeat, SAME_TIMEOUT}
use Rattle.group_epochs.specs.Stored.{text_code, record_code, past_code, names_code}

-- by the ids of members, the epoch of the target at which each was found settled: it holds all of its target, and was sent it (ours)
abbrev pub Marks : Type 0
Marks = finite.FinMap text_cmp ℕ

pub record RecordsState : Type 0 where
  pub records : Records
  pub past : Past
  pub marks : Marks
  pub room : ℕ  -- how many more members fit without memory
  pub names_room : ℕ  -- how many more names can be counted without memory

abbrev RecordsFields : Type 0
RecordsFields = Records × (Past × (Marks × (ℕ × ℕ)))

abbrev pub records_state_code : Coded RecordsState
records_state_code =
    code_by RecordsFields (coded× (finite.code text_code record_code) (coded× past_code (coded× (finite.code text_code coded_ℕ) (coded× coded_ℕ coded_ℕ))))
    (λ s. (s.records, (s.past, (s.marks, (s.room, s.names_room)))))
    (λ p. record { records = p.0; past = p.1.0; marks = p.1.1.0; room = p.1.1.1.0; names_room = p.1.1.1.1 })
    (λ _. refl)

-- what the machine knows of it
abbrev pub members_in : RecordsState → Members
members_in s = record { records = s.records; past = s.past }

-- the member has a record
abbrev pub IsMember : RecordsState → Text → Type 0
IsMember s m = IsTrue (finite.contains_key s.records m)

-- no other member than m has the instance that the record has, if any
abbrev pub IsInstanceFreeFor : Records → Text → Record → Type 0
IsInstanceFreeFor records m r =
    (n i : Text) → r.instance ≡ Some i → HasInstance records n i → n ≡ m

-- ---- what storing a record needs of memory

-- a new member: its id, and the names that it subscribes
pub record Newcomer : Type 0 where
  pub id : Text
  pub names : Names

abbrev pub newcomer_code : Coded Newcomer
newcomer_code = code_by (Text × Names) (coded× text_code names_code) (λ n. (n.id, n.names)) (λ p. record { id = p.0; names = p.1 }) (λ _. refl)

-- the names of a record can be counted without memory
abbrev pub HasNamesRoom : RecordsState → Record → Names → Type 0
HasNamesRoom s r names = (names ≡ r.names) × (size r.names ≤ s.names_room)

-- a new member's record can be stored without memory
pub record CanJoin (s : RecordsState) (n : Newcomer) (r : Record) : Type 0 where
  pub room : 0 < s.room
  pub names : HasNamesRoom s r n.names

-- a member's names are those of the record already
abbrev pub KeepsNames : Records → Text → Record → Type 0
KeepsNames records m r = (s : Record) → finite.get records m ≡ Some s → s.names ≡ r.names

-- a member's record can be replaced without memory: its names stay, or there is room for the new ones
abbrev pub CanReplace : RecordsState → Text → Record → Option Names → Type 0
CanReplace s m r names = MatchOption names (KeepsNames s.records m r) (HasNamesRoom s r)

-- ---- a heartbeat that gives nothing but its stamp and its time

-- rack, names, assignor and rebalance timeout are as they were (ours)
pub record GivesNothing (q : Heartbeat) : Type 0 where
  pub rack : q.rack ≡ None
  pub names : q.names ≡ None
  pub assignor : q.assignor ≡ None
  pub rebalance_timeout : q.rebalance_timeout ≡ SAME_TIMEOUT

-- the record of a member after such a beat
abbrev pub beaten : Record → Stamp → ℕ → Record
beaten r stamp now = record r { stamp = stamp; session_deadline = saturated_sum now SESSION_TIMEOUT }

-- the member is marked at the epoch, and the stamp comes after its last one
pub record IsMarkedBeat (s : RecordsState) (m : Text) (epoch : ℕ) (stamp : Stamp) : Type 0 where
  pub kept : Record
  pub is_kept : finite.get s.records m ≡ Some kept
  pub marked : finite.get s.marks m ≡ Some epoch
  pub later : is_late stamp kept.stamp ≡ false

-- ---- marks

-- every mark was there before, and the member has none where it had a record
abbrev pub KeepsMarks : RecordsState → RecordsState → Text → Type 0
KeepsMarks old new m = (n : Text) (e : ℕ) → finite.get new.marks n ≡ Some e → (finite.get old.marks n ≡ Some e) × (n ≡ m → finite.get old.records m ≡ None)
