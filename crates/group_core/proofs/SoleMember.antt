-- The target of a sole member: it is to own all that it subscribes.
use Rattle.std.proofs.Common.{◌≡◌, List, [], ◌∷◌, ◌++◌, map, refl, sym, ap, subst, ◌∙◌, arith, Option, Some, None}
use Rattle.std.specs.FinMap as finite
use Rattle.std.specs.List.{Contains}
use Rattle.std.specs.List.Sorted.{IsPermutation}
use Rattle.std.specs.Option.{MatchOption}
use Rattle.std.proofs.lemmas.List.Sorted.{Contains-permutation, IsPermutation-refl, length_permutation}
use Rattle.group_types.specs.declared.assignor_name.AssignorName.{AssignorName}
use Rattle.group_types.specs.declared.assignor_name.AssignorName.TheVariants.{Range, Uniform}
use Rattle.group_types.specs.declared.partition.Partition.{Partition}
use Rattle.group_types.specs.Text.{Text}
use Rattle.group_types.specs.Topics.{Topics}
use Rattle.group_types.specs.Assignors.{Subscriber, assignor_of}
use Rattle.group_types.specs.Owners.{Spread, IsAllSubscribed, IsLawful, IsSubscribed, IsSubscriber, share_of}
use Rattle.group_types.specs.Group.{Record, Target}
use Rattle.group_types.specs.Renewal.{AreMembers, AreOwners, IsTarget, subscriber_of}
use Rattle.group_types.proofs.Orders.{text_cmp_total}
use Rattle.group_types.proofs.SpreadLemmas.{has-share_of, owns-get}
use Rattle.range_assign.specs.declared.subs.Subscriber.{Subscriber as Given}
use Rattle.range_assign.specs.Members.{subscribers_in}
use Rattle.range_assign.specs.Members as given
use Rattle.range_assign.proofs.Lawful.{range_is_lawful}
use Rattle.range_assign.proofs.Spreads.{Contains-cases, Contains-head}
use Rattle.group_core.specs.FirstMember.{one_record}
use Rattle.group_core.proofs.FewPartitions.{owner_subscribes}
use Rattle.group_target.proofs.OneOrder.{no_member, one_order}
use Rattle.group_core.proofs.Single.{entries-single}
use Rattle.uniform_assign.proofs.Soundness.{uniform_is_lawful}

-- a sole member is all of the members
pub members_of_one : (m : Text) (r : Record) → AreMembers (one_record m r) (subscriber_of (m, r) ∷ [])
members_of_one m r =
    record {
      same = subst (λ es. IsPermutation (map subscriber_of es) (subscriber_of (m, r) ∷ [])) (sym (entries-single text_cmp_total m r)) (IsPermutation-refl (subscriber_of (m, r) ∷ []));
      sorted = λ k d low high. absurd (omega arith);
    }

owners_are_lawful : (name : AssignorName) (view : Topics) (subs : List Subscriber) (former spread : Spread) → AreOwners name view subs former spread → IsLawful view subs spread
owners_are_lawful Range view subs former spread are = range_is_lawful view subs spread are
owners_are_lawful Uniform view subs former spread are = uniform_is_lawful view subs former spread are

the_member : (sub m : Subscriber) → Contains (sub ∷ []) m → sub ≡ m
the_member sub m there = Contains-cases sub [] m (λ is. is) (λ later. absurd (no_member m later)) there

module _ (view : Topics) (sub : Subscriber) (spread : Spread) (lawful : IsLawful view (sub ∷ []) spread) where
  subscribes : (p : Partition) (id : Text) → IsSubscriber view (sub ∷ []) p id → IsSubscribed view sub.names p
  subscribes p id (m, among, same, of) = subst (λ (s : Subscriber). IsSubscribed view s.names p) (sym (the_member sub m among)) of

  is_sole : (p : Partition) (id : Text) → IsSubscriber view (sub ∷ []) p id → id ≡ sub.id
  is_sole p id (m, among, same, of) = sym same ∙ ap (λ (s : Subscriber). s.id) (sym (the_member sub m among))

  owned : (p : Partition) → IsSubscribed view sub.names p → finite.get spread p ≡ Some sub.id
  owned p of = by (finite.get spread p) (lawful p)
    where
      by : (o : Option Text) → MatchOption o ((id : Text) → ¬ IsSubscriber view (sub ∷ []) p id) (IsSubscriber view (sub ∷ []) p) → o ≡ Some sub.id
      by None none = absurd (none sub.id (sub, Contains-head sub [], refl, of))
      by (Some id) is = ap Some (is_sole p id is)

  -- a sole member owns all that it subscribes
  all_of_lawful : IsAllSubscribed view sub.names (share_of spread sub.id)
  all_of_lawful p = (
    λ there. subscribes p sub.id (owner_subscribes view (sub ∷ []) spread lawful p sub.id ((owns-get spread sub.id p).0 (sym (has-share_of spread sub.id p) ∙ there))),
    λ of. has-share_of spread sub.id p ∙ (owns-get spread sub.id p).1 (owned p of),
  )

pub all_of_target : (m : Text) (r : Record) (view : Topics) (former target : Target) → IsTarget (one_record m r) view former target → IsAllSubscribed view r.names (share_of target m)
all_of_target m r view former target (subs, members, owners) =
    let sub : Subscriber = subscriber_of (m, r) in
    let same : subs ≡ sub ∷ [] = one_order (one_record m r) subs (sub ∷ []) members (members_of_one m r) in
    let lawful : IsLawful view (sub ∷ []) target = subst (λ ms. IsLawful view ms target) same (owners_are_lawful (assignor_of subs) view subs former target owners) in
    all_of_lawful view sub target lawful

-- a permutation of one element is that element
pub permutation_of_one : {X : Type 0} (x : X) (ys : List X) → IsPermutation (x ∷ []) ys → ys ≡ x ∷ []
permutation_of_one x [] moves = absurd (let long = length_permutation (x ∷ []) [] moves in omega arith)
permutation_of_one x (y ∷ []) moves = ap (λ z. z ∷ []) (Contains-cases y [] x (λ is. is) (λ later. absurd (let within = later.1 in omega arith)) (Contains-permutation (x ∷ []) (y ∷ []) x moves (Contains-head x [])))
permutation_of_one x (y ∷ z ∷ zs) moves = absurd (let long = length_permutation (x ∷ []) (y ∷ z ∷ zs) moves in omega arith)

-- a list of one given member
pub subscribers_in-one : (ms : List Given) (x : Given) (s : Subscriber) → ms ≡ [] → given.subscriber_of x ≡ s → subscribers_in (ms ++ x ∷ []) ≡ s ∷ []
subscribers_in-one ms x s none is = ap (λ (given : List Given). subscribers_in (given ++ x ∷ [])) none ∙ ap (λ (m : Subscriber). m ∷ []) is
