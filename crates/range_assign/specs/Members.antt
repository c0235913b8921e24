-- How the members that an assignor is given are seen.
use Rattle.std.specs.Prelude.{◌≡◌, Bool, true, false, List, map, Option, refl, IsSorted}
use Rattle.std.specs.Option.{option_copied}
use Rattle.std.specs.Coded.{Coded, code_by, coded×, coded_list, coded_option, coded_bool, coded_ℕ}
use Rattle.std.specs.FinSet as set
use Rattle.group_types.specs.declared.assignor_name.AssignorName.{AssignorName}
use Rattle.group_types.specs.declared.assignor_name.AssignorName.TheVariants.{Range, Uniform}
use Rattle.group_types.specs.Text.{Text}
use Rattle.group_types.specs.Topics.{Names}
use Rattle.group_types.specs.Assignors.{Subscriber, IdsAreApart, member_cmp}
use Rattle.range_assign.specs.declared.subs.Subscriber.{Subscriber as Given}

-- a member as its texts, its names and its vote
abbrev pub subscriber_of : Given → Subscriber
subscriber_of m = record { id = m.id.now; instance = option_copied m.instance; names = m.names.now; assignor = m.assignor }

abbrev pub subscribers_in : List Given → List Subscriber
subscribers_in ms = map subscriber_of ms

-- what is true of the members of a group: they are in member order, and no two have one id
pub record AreInOrder (subs : List Subscriber) : Type 0 where
  pub sorted : IsSorted member_cmp subs
  pub apart : IdsAreApart subs

abbrev assignor_bit : AssignorName → Bool
assignor_bit Range = false
assignor_bit Uniform = true

abbrev assignor_of_bit : Bool → AssignorName
assignor_of_bit false = Range
assignor_of_bit true = Uniform

pub assignor-assignor_bit : (a : AssignorName) → assignor_of_bit (assignor_bit a) ≡ a
assignor-assignor_bit Range = refl
assignor-assignor_bit Uniform = refl

abbrev assignor_code : Coded AssignorName
assignor_code = code_by Bool coded_bool assignor_bit assignor_of_bit assignor-assignor_bit

-- a member is stored as the tuple of its fields
abbrev subscriber_code : Coded Subscriber
subscriber_code =
    code_by (Text × (Option Text × (Names × Option AssignorName)))
    (coded× (coded_list coded_ℕ) (coded× (coded_option (coded_list coded_ℕ)) (coded× (set.code (coded_list coded_ℕ)) (coded_option assignor_code))))
    (λ m. (m.id, (m.instance, (m.names, m.assignor))))
    (λ t. record { id = t.0; instance = t.1.0; names = t.1.1.0; assignor = t.1.1.1 })
    (λ _. refl)

abbrev pub subscribers_code : Coded (List Subscriber)
subscribers_code = coded_list subscriber_code
