-- KIP-848, "Session Management" and "Rebalance Timeout": whose deadline has come leaves the group.
use Rattle.std.specs.Prelude.{◌≡◌, IsTrue, ℕ, Bool, false, ◌||◌, nat_le, max, List, [], ◌∷◌, length, filter, Option, Some, None}
use Rattle.std.specs.FinMap as finite
use Rattle.std.specs.declared.cmp.Ordering.TheVariants.{Less}
use Rattle.group_types.specs.Text.{Text, text_cmp}
use Rattle.group_types.specs.Group.{Record, Records, Group}
use Rattle.group_types.specs.Leave.{risen, without_member}

abbrev pub has_come : ℕ → Option ℕ → Bool
has_come clock None = false
has_come clock (Some deadline) = nat_le deadline clock

abbrev pub is_due : ℕ → Record → Bool
is_due clock r = nat_le r.session_deadline clock || has_come clock r.release_deadline

-- the members whose deadline has come, by their ids' bytes
abbrev pub due : Group → List (Text × Record)
due g = filter (λ m. is_due g.clock m.1) (finite.entries g.records)

-- they leave one after the other, each remembered with its last stamp
abbrev pub without_members : Group → List (Text × Record) → Group
without_members g [] = g
without_members g (m ∷ ms) = without_members (without_member g m.0 m.1.stamp) ms

-- the group epoch rises once where somebody left, and the target isn't renewed
abbrev pub expired : Group → List (Text × Record) → Group
expired g [] = g
expired g (m ∷ ms) = without_members (record g { epoch = risen g.epoch }) (m ∷ ms)

abbrev pub at_moment : Group → ℕ → Group
at_moment g moment = record g { clock = max g.clock moment }

abbrev pub ticked : Group → ℕ → Group
ticked g moment = expired (at_moment g moment) (due (at_moment g moment))

-- how many members a tick removes
abbrev pub removed_by_tick : Group → ℕ → ℕ
removed_by_tick g moment = length (due (at_moment g moment))

-- ---- the members that leave, one after the other

-- the member is the first, by the ids' bytes, whose deadline has come
pub record IsFirstDue (records : Records) (clock : ℕ) (m : Text) (r : Record) : Type 0 where
  pub is_kept : finite.get records m ≡ Some r
  pub due : IsTrue (is_due clock r)
  pub first : (n : Text) (s : Record) → finite.get records n ≡ Some s → IsTrue (is_due clock s) → ¬ (text_cmp n m ≡ Less)

-- nobody's deadline has come
abbrev pub NoneIsDue : Records → ℕ → Type 0
NoneIsDue records clock = (m : Text) (r : Record) → finite.get records m ≡ Some r → is_due clock r ≡ false
