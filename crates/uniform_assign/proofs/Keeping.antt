-- There is a spread of the partitions that stay with their former owners.
use Rattle.std.proofs.Common.{◌≡◌, ◌↔◌, Bool, true, false, cond, refl, sym, ap, subst, ◌∙◌, inl, inr, Option, Some, None}
use Rattle.std.specs.Cmp.{Equal-is}
use Rattle.std.specs.FinMap as finite
use Rattle.std.specs.Ordering.{eq_by_cmp}
use Rattle.std.proofs.lemmas.Option.{same_Some}
use Rattle.std.specs.Prelude.{List}
use Rattle.group_types.specs.declared.partition.Partition.{Partition}
use Rattle.group_types.specs.Text.{Text, text_cmp}
use Rattle.group_types.specs.Topics.{Topics}
use Rattle.group_types.specs.Assignors.{Subscriber, subscribers_of}
use Rattle.group_types.specs.Owners.{IsSubscriber, Spread}
use Rattle.group_types.specs.Uniform.{IsKept, in_partition_order}
use Rattle.group_types.proofs.Orders.{partition_cmp-IsAntisymmetric, text_cmp-IsAntisymmetric, text_cmp-itself}
use Rattle.uniform_assign.proofs.Choices.{Decided, Has, decided_both, decided_has}
use Rattle.uniform_assign.proofs.Owners.{cases_partition}
use Rattle.uniform_assign.proofs.PartitionOrder.{part_from, taken_from, taker_at, taker_from, taker_subscribes}

pub decided_text : (a b : Text) → Decided (a ≡ b)
decided_text a b =
    elim (eq_by_cmp text_cmp a b) as (λ t. eq_by_cmp text_cmp a b ≡ t → Decided (a ≡ b)) [
      | true ↦ λ tie. inl (text_cmp-IsAntisymmetric a b ((Equal-is (text_cmp a b)).0 tie))
      | false ↦ λ apart. inr (λ same. let tie = (Equal-is (text_cmp a b)).1 (ap (text_cmp a) (sym same) ∙ text_cmp-itself a) in cc)
    ] refl

-- the partition stands in partition order, and one of its topic's subscribers has the id
abbrev IsListed : List Subscriber → Partition → Text → Text × Partition → Type 0
IsListed subs p id x = (x.1 ≡ p) × Has (subscribers_of subs x.0) (λ m. m.id ≡ id)

module _ (view : Topics) (subs : List Subscriber) where
  decided_listed : (p : Partition) (id : Text) → Decided (Has (in_partition_order view) (IsListed subs p id))
  decided_listed p id =
      decided_has (IsListed subs p id)
      (λ x. decided_both (cases_partition x.1 p) (decided_has (λ m. m.id ≡ id) (λ m. decided_text m.id id) (subscribers_of subs x.0)))
      (in_partition_order view)

  subscriber_of_listed : (p : Partition) (id : Text) → Has (in_partition_order view) (IsListed subs p id) → IsSubscriber view subs p id
  subscriber_of_listed p id is =
      let x = is.element in
      let (same, among) = is.has in
      let sub : IsSubscriber view subs x.1 among.element.id =
      taker_subscribes view subs x among.element (part_from view is.place x is.is_there) (taker_from subs x.0 among.place among.element among.is_there) in
      subst (λ i. IsSubscriber view subs p i) among.has (subst (λ q. IsSubscriber view subs q among.element.id) same sub)

  listed_of_subscriber : (p : Partition) (id : Text) → IsSubscriber view subs p id → Has (in_partition_order view) (IsListed subs p id)
  listed_of_subscriber p id is =
      let taken = taken_from view subs p id is in
      let (k, there) = taker_at subs taken.name taken.member taken.taker in
      record {
        place = taken.place;
        element = (taken.name, p);
        is_there = taken.is_there;
        has = (refl, record { place = k; element = taken.member; is_there = there; has = taken.same_id });
      }

  pub decided_subscriber : (p : Partition) (id : Text) → Decided (IsSubscriber view subs p id)
  decided_subscriber p id = elim (decided_listed p id) [
    | inl is ↦ inl (subscriber_of_listed p id is)
    | inr none ↦ inr (λ is. none (listed_of_subscriber p id is))
  ]

  abbrev is_so : {P : Type 0} → Decided P → Bool
  is_so (inl p) = true
  is_so (inr p) = false

  -- whether the former owner still subscribes the partition
  abbrev stays_with : Partition → Option Text → Bool
  stays_with p None = false
  stays_with p (Some id) = is_so (decided_subscriber p id)

  abbrev Stays : Partition → Text → Option Text → Bool → Type 0
  Stays p id o b = (cond b o None ≡ Some id) ↔ ((o ≡ Some id) × IsSubscriber view subs p id)

  stays_by : (p : Partition) (owner id : Text) (d : Decided (IsSubscriber view subs p owner)) → Stays p id (Some owner) (is_so d)
  stays_by p owner id (inl sub) = (λ is. (is, subst (IsSubscriber view subs p) (same_Some owner id is) sub), λ both. both.0)
  stays_by p owner id (inr away) = (λ is. cc, λ both. absurd (away (subst (IsSubscriber view subs p) (sym (same_Some owner id both.0)) both.1)))

  stays : (p : Partition) (id : Text) (o : Option Text) → Stays p id o (stays_with p o)
  stays p id None = (λ is. cc, λ both. both.0)
  stays p id (Some owner) = stays_by p owner id (decided_subscriber p owner)

  pub keeps : (former : Spread) → (kept : Spread) × IsKept view subs former kept
  keeps former =
      let test : Partition → Bool = λ p. stays_with p (finite.get former p) in (
        finite.retain_keys former test,
        λ p id.
            let same : finite.get (finite.retain_keys former test) p ≡ cond (test p) (finite.get former p) None =
            finite.get-retain_keys former test p (λ q tie. ap test (sym (partition_cmp-IsAntisymmetric p q tie))) in
            subst (λ o. (o ≡ Some id) ↔ ((finite.get former p ≡ Some id) × IsSubscriber view subs p id)) (sym same) (stays p id (finite.get former p)),
      )
