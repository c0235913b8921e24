-- KIP-848, "Server Side Assignors": what an assignor sees of the members, and which assignor a group has.
use Rattle.std.specs.Prelude.{◌≡◌, ℕ, List, length, filter, Option, Some, None, Bool, true, false, if◌then◌else◌, nat_lt, slice_get}
use Rattle.std.specs.declared.cmp.Ordering.{Ordering}
use Rattle.std.specs.declared.cmp.Ordering.TheVariants.{Less, Greater}
use Rattle.std.specs.Ordering.{ordering_then}
use Rattle.group_types.specs.declared.assignor_name.AssignorName.{AssignorName}
use Rattle.group_types.specs.declared.assignor_name.AssignorName.TheVariants.{Range, Uniform}
use Rattle.group_types.specs.Text.{Text, text_cmp}
use Rattle.group_types.specs.Topics.{Names}
use Rattle.group_types.specs.Sets.{has}

-- a member as an assignor sees it
pub record Subscriber : Type 0 where
  pub id : Text
  pub instance : Option Text
  pub names : Names  -- the topics that it subscribes
  pub assignor : Option AssignorName  -- that it asks for

-- by the instance ids' bytes where both have one, and a member with one comes before a member without
abbrev pub instance_cmp : Option Text → Option Text → Ordering → Ordering
instance_cmp (Some a) (Some b) rest = ordering_then (text_cmp a b) rest
instance_cmp (Some a) None rest = Less
instance_cmp None (Some b) rest = Greater
instance_cmp None None rest = rest

-- Member order (ours): members with an instance, by its bytes; then the others, by their ids' bytes.
abbrev pub member_cmp : Subscriber → Subscriber → Ordering
member_cmp m n = instance_cmp m.instance n.instance (text_cmp m.id n.id)

-- the members that subscribe a topic, in the order of the list
abbrev pub subscribers_of : List Subscriber → Text → List Subscriber
subscribers_of subs name = filter (λ m. has m.names name) subs

abbrev pub asks_for : AssignorName → Option AssignorName → Bool
asks_for Range (Some Range) = true
asks_for Uniform (Some Uniform) = true
asks_for Range (Some Uniform) = false
asks_for Uniform (Some Range) = false
asks_for a None = false

-- how many members ask for the assignor
abbrev pub votes : List Subscriber → AssignorName → ℕ
votes subs a = length (filter (λ m. asks_for a m.assignor) subs)

-- The group's assignor: range where more members ask for it than for uniform, otherwise uniform (the tie is ours).
abbrev pub assignor_of : List Subscriber → AssignorName
assignor_of subs = if nat_lt (votes subs Uniform) (votes subs Range) then Range else Uniform

-- no two members have one id
abbrev pub IdsAreApart : List Subscriber → Type 0
IdsAreApart subs = (i j : ℕ) (m n : Subscriber) → slice_get subs i ≡ Some m → slice_get subs j ≡ Some n → m.id ≡ n.id → i ≡ j
