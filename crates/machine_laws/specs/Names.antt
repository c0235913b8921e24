-- KIP-848, "Server Side Assignors": the names of the assignors; and "ConsumerGroupHeartbeat API": the ids that the coordinator makes (ours).
use Rattle.std.specs.Prelude.{◌≡◌, ◌↔◌, Some, codes}
use Rattle.group_types.specs.declared.assignor_name.AssignorName.TheVariants.{Range, Uniform}
use Rattle.group_types.specs.Text.{Text}
use Rattle.group_types.specs.AssignorName.{assignor_named}
use Rattle.group_types.specs.MemberId.{made_id}

-- each assignor has one name, byte by byte
pub record AssignorsAreNamed : Type 0 where
  pub range : (text : Text) → (assignor_named text ≡ Some Range) ↔ (text ≡ codes "range")
  pub uniform : (text : Text) → (assignor_named text ≡ Some Uniform) ↔ (text ≡ codes "uniform")

-- The text of a UUID, in lower case: the salt's eight bytes, and then the serial's.
pub record IdsByHand : Type 0 where
  pub first : made_id 0 1 ≡ codes "00000000-0000-0000-0000-000000000001"
  pub salt_and_serial : made_id 81985529216486895 18364758544493064720 ≡ codes "01234567-89ab-cdef-fedc-ba9876543210"
  pub last : made_id 18446744073709551615 18446744073709551615 ≡ codes "ffffffff-ffff-ffff-ffff-ffffffffffff"
