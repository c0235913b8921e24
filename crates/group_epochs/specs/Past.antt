-- The ids of former members that a group remembers, and the room for more (ours).
use Rattle.std.specs.Prelude.{◌≡◌, ◌<◌, ◌≤◌, ◌+◌, ℕ, List, [], ◌∷◌, length, map, min, fold, Option, Some, None, refl}
use Rattle.std.specs.Coded.{Coded, code_by, coded×, coded_ℕ}
use Rattle.std.specs.Hash.{str}
use Rattle.std.specs.Hash.DefaultHasher.{write, finish}
use Rattle.std.specs.RandomState.{initial_hasher}
use Rattle.std.specs.declared.random_state.RandomState.{RandomState}
use Rattle.std.specs.List.{HoldsAt}
use Rattle.group_types.specs.Group.{Past}
use Rattle.group_types.specs.Limits.{MOST_PAST_MEMBERS}
use Rattle.group_types.specs.Members.{past_stamp}
use Rattle.group_types.specs.Text.{Text}
use Rattle.group_epochs.specs.Stored.{past_code}

pub record PastState : Type 0 where
  pub past : Past
  pub room : ℕ  -- how many more ids fit without memory

abbrev pub past_state_code : Coded PastState
past_state_code =
    code_by (Past × ℕ) (coded× past_code coded_ℕ)
    (λ s. (s.past, s.room)) (λ p. record { past = p.0; room = p.1 }) (λ _. refl)

-- how many ids fit altogether without memory
abbrev pub places : PastState → ℕ
places s = length s.past + s.room

-- this number of ids fits altogether without memory, or as many as are ever remembered: what keeps the places keeps this
abbrev pub HasRoomFor : PastState → ℕ → Type 0
HasRoomFor s ids = min MOST_PAST_MEMBERS ids ≤ places s

-- no id stands there twice
abbrev pub AreApart : Past → Type 0
AreApart [] = Unit {0}
AreApart (e ∷ past) = (past_stamp past e.0 ≡ None) × AreApart past

-- the place at which an id stands, or none where it isn't there
abbrev pub IsPlaceOf : Past → Text → Option ℕ → Type 0
IsPlaceOf past m None = past_stamp past m ≡ None
IsPlaceOf past m (Some i) = (i < length past) × HoldsAt (λ e. e.0 ≡ m) past i

-- ---- fingerprints

-- the fingerprint of an id: its hash
abbrev pub fingerprint : RandomState → Text → ℕ
fingerprint hasher id = finish (fold write (initial_hasher hasher) (str id))

-- the entries that are kept: few and apart, and beside them their fingerprints
pub record AreKept (past : Past) (fingerprints : List ℕ) (hasher : RandomState) : Type 0 where
  pub few : length past ≤ MOST_PAST_MEMBERS
  pub apart : AreApart past
  pub beside : fingerprints ≡ map (λ e. fingerprint hasher e.0) past
