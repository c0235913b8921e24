-- There is one target.
use Rattle.std.proofs.Common.{◌≡◌, List, subst}
use Rattle.group_types.specs.declared.assignor_name.AssignorName.{AssignorName}
use Rattle.group_types.specs.declared.assignor_name.AssignorName.TheVariants.{Range, Uniform}
use Rattle.group_types.specs.Topics.{Topics}
use Rattle.group_types.specs.Assignors.{Subscriber, assignor_of}
use Rattle.group_types.specs.Owners.{Spread, IsRange}
use Rattle.group_types.specs.Group.{Records, Target}
use Rattle.group_types.specs.Renewal.{AreOwners, IsTarget}
use Rattle.group_target.proofs.OneOrder.{one_order}
use Rattle.uniform_assign.proofs.OneSpread.{uniform_is_one_spread}
use Rattle.uniform_assign.proofs.Owners.{same_spread}

one_range : (view : Topics) (subs : List Subscriber) (s t : Spread) → IsRange view subs s → IsRange view subs t → s ≡ t
one_range view subs s t one other = same_spread s t (λ p id. (λ is. (other p id).1 ((one p id).0 is), λ is. (one p id).1 ((other p id).0 is)))

one_owners : (name : AssignorName) (view : Topics) (subs : List Subscriber) (former s t : Spread) → AreOwners name view subs former s → AreOwners name view subs former t → s ≡ t
one_owners Range view subs former s t one other = one_range view subs s t one other
one_owners Uniform view subs former s t one other = uniform_is_one_spread view subs former s t one other

pub one_target : (records : Records) (view : Topics) (former s t : Target) → IsTarget records view former s → IsTarget records view former t → s ≡ t
one_target records view former s t one other =
    let same = one_order records other.0 one.0 other.1 one.1 in
    one_owners (assignor_of one.0) view one.0 former s t one.2 (subst (λ subs. AreOwners (assignor_of subs) view subs former t) same other.2)
