-- The groups of a node that was written can be kept again, one after the other.
use Rattle.std.proofs.Common.{◌≡◌, ℕ, suc, ◌+◌, ◌≤◌, Bool, true, false, cond, List, [], ◌∷◌, length, map, is_some, Option, Some, None, refl, sym, ap, subst, ◌∙◌, arith}
use Rattle.std.specs.List.{AllByRecursion}
use Rattle.std.specs.Ordering.{eq_by_cmp}
use Rattle.std.specs.Cmp.{Equal-is, eq_by_cmp_equiv}
use Rattle.std.specs.FinMap as finite
use Rattle.std.specs.FinMap.Entries.{find}
use Rattle.std.proofs.lemmas.List.{length-map, map-append}
use Rattle.group_types.specs.Group.{Group}
use Rattle.group_types.specs.Limits.{MOST_GROUPS}
use Rattle.group_types.specs.Text.{Text, text_cmp}
use Rattle.group_types.proofs.Lookups.{text_ties}
use Rattle.group_types.proofs.Orders.{text_cmp_total, text_cmp-IsAntisymmetric}
use Rattle.coord_node.specs.Coordinator.{Coordinator, Groups}
use Rattle.coord_node.specs.Nodes.{Named, NodeValue, coordinator_of, state_of, with_named}
use Rattle.coord_node.specs.Restored.{IsGroupId}
use Rattle.replica_snapshots.specs.declared.fault.SnapshotFault.{SnapshotFault}
use Rattle.replica_snapshots.specs.declared.fault.SnapshotFault.TheVariants.{Wire, BadValue, Unsound, Respelled, TooLong, NoMemory}
use Rattle.replica_snapshots.specs.Building.{CanEach}
use Rattle.replica_snapshots.specs.Faults.{fault_number}
use Rattle.replica_snapshots.specs.Nodes.{IsOf}
use Rattle.replica_snapshots.specs.Restoring.{CanBeNode, CanBeRestored, CanKeep}
use Rattle.replica_snapshots.proofs.Inserted.{KeysApart, none_found, none_in_empty, still_none}
use Rattle.replica_snapshots.proofs.NodeLaws.{bare}

-- the number of a fault tells whether memory is wanted
pub same_want : (fault other : SnapshotFault) → fault_number other ≡ fault_number fault → fault ≡ NoMemory → other ≡ NoMemory
same_want fault other numbers wants = by other (numbers ∙ ap fault_number wants)
  where
    by : (other : SnapshotFault) → fault_number other ≡ 6 → other ≡ NoMemory
    by (Wire fault place) six = absurd (omega (arith, six))
    by (BadValue place) six = absurd (omega (arith, six))
    by (Unsound place) six = absurd (omega (arith, six))
    by (Respelled place) six = absurd (omega (arith, six))
    by TooLong six = absurd (omega (arith, six))
    by NoMemory six = refl

abbrev States : Type 0
States = List (Text × Group)

abbrev map_of : States → Groups
map_of es = finite.from_entries es

more_keys : (b : Bool) (n : ℕ) → cond b n (n + 1) ≤ n + 1
more_keys true n = omega arith
more_keys false n = omega arith

-- a map has no more keys than the list that it is of
pub few_keys : (es : States) → finite.len (map_of es) ≤ length es
few_keys [] = omega (arith, finite.len-empty text_cmp Group)
few_keys (e ∷ es) =
    omega (arith, few_keys es, finite.len-insert text_cmp_total (map_of es) e.0 e.1, more_keys (finite.contains_key (map_of es) e.0) (finite.len (map_of es)))

none_there : (b : Bool) (n k : ℕ) → k ≤ n → cond b k (k + 1) ≡ suc n → (b ≡ false) × (k ≡ n)
none_there true n k le is = absurd (omega (arith, le, is))
none_there false n k le is = (refl, omega (arith, is))

not_found : (o : Option Group) → is_some o ≡ false → o ≡ None
not_found None is = refl
not_found (Some g) is = absurd cc

other_keys : (k : Text) (es : States) → find text_cmp k es ≡ None → AllByRecursion (λ (f : Text × Group). eq_by_cmp text_cmp f.0 k ≡ false) es
other_keys k [] none = tt
other_keys k (e ∷ es) none =
    elim (eq_by_cmp text_cmp k e.0) as (λ b. eq_by_cmp text_cmp k e.0 ≡ b → cond b (Some e.1) (find text_cmp k es) ≡ None → AllByRecursion (λ (f : Text × Group). eq_by_cmp text_cmp f.0 k ≡ false) (e ∷ es)) [
      | true ↦ λ so is. absurd cc
      | false ↦ λ so is. ((eq_by_cmp_equiv text_cmp_total).symm e.0 k ∙ so, other_keys k es is)
    ] refl none

-- where the map has as many keys as the list, none stands there twice
once_apart : (es : States) → length es ≡ finite.len (map_of es) → KeysApart text_cmp es
once_apart [] once = tt
once_apart (e ∷ es) once =
    let parts = none_there (finite.contains_key (map_of es) e.0) (length es) (finite.len (map_of es)) (few_keys es) (sym (finite.len-insert text_cmp_total (map_of es) e.0 e.1) ∙ sym once) in
    let none = sym (finite.get-from_entries text_cmp_total es e.0) ∙ not_found (finite.get (map_of es) e.0) parts.0 in
    (other_keys e.0 es none, once_apart es (sym parts.1))

-- each is found under its name
found_there : (es : States) → KeysApart text_cmp es → AllByRecursion (λ (f : Text × Group). find text_cmp f.0 es ≡ Some f.1) es
found_there es apart = all es es apart (λ q x is. is)
  where
    behind : (e : Text × Group) (q : Text) (x : Group) (es : States) → AllByRecursion (λ (f : Text × Group). eq_by_cmp text_cmp f.0 e.0 ≡ false) es → find text_cmp q es ≡ Some x → find text_cmp q (e ∷ es) ≡ Some x
    behind e q x es apart is =
        elim (eq_by_cmp text_cmp q e.0) as (λ b. eq_by_cmp text_cmp q e.0 ≡ b → cond b (Some e.1) (find text_cmp q es) ≡ Some x) [
          | true ↦ λ so.
              let same : q ≡ e.0 = text_cmp-IsAntisymmetric q e.0 ((Equal-is (text_cmp q e.0)).0 so) in
              let none = ap (λ (k : Text). find text_cmp k es) same ∙ none_found text_cmp_total e.0 es apart in
              absurd cc
          | false ↦ λ so. is
        ] refl

    all : (left whole : States) → KeysApart text_cmp left → ((q : Text) (x : Group) → find text_cmp q left ≡ Some x → find text_cmp q whole ≡ Some x)
        → AllByRecursion (λ (f : Text × Group). find text_cmp f.0 whole ≡ Some f.1) left
    all [] whole apart among = tt
    all (e ∷ left) whole apart among = (
      among e.0 e.1 (ap (λ (b : Bool). cond b (Some e.1) (find text_cmp e.0 left)) (text_ties e.0)),
      all left whole apart.1 (λ q x is. among q x (behind e q x left apart.0 is)),
    )

-- no two groups of a node of the coordinator have one name, and the coordinator has each of them
module _ (c : Coordinator) where
  all_found : (es whole : States) → finite.from_entries whole ≡ c.groups → AllByRecursion (λ (f : Text × Group). find text_cmp f.0 whole ≡ Some f.1) es → AllByRecursion (λ (f : Text × Group). finite.get c.groups f.0 ≡ Some f.1) es
  all_found [] whole same found = tt
  all_found (e ∷ es) whole same found =
      (ap (λ (m : Groups). finite.get m e.0) (sym same) ∙ (finite.get-from_entries text_cmp_total whole e.0 ∙ found.0), all_found es whole same found.1)

  pub apart_and_found : (n : NodeValue) → IsOf c n → KeysApart text_cmp (map state_of n.groups) × AllByRecursion (λ (f : Text × Group). finite.get c.groups f.0 ≡ Some f.1) (map state_of n.groups)
  apart_and_found n of =
      let es = map state_of n.groups in
      let same : finite.from_entries es ≡ c.groups = ap (λ (d : Coordinator). d.groups) of.coordinator in
      let once : length es ≡ finite.len (map_of es) = length-map n.groups state_of ∙ (of.once ∙ ap finite.len (sym same)) in
      let apart = once_apart es once in
      (apart, all_found es es same (found_there es apart))

-- each of them has a name that a join may have
ids : (c : Coordinator) → CanBeNode c → (groups : List Named) → AllByRecursion (λ (f : Text × Group). finite.get c.groups f.0 ≡ Some f.1) (map state_of groups)
    → AllByRecursion (λ (g : Named). IsGroupId g.0) groups
ids c can [] found = tt
ids c can (g ∷ groups) found = (can.ids g.0 g.1.0 found.0, ids c can groups found.1)

-- a group under a name that no other one has is inserted in the coordinator
inserted_one : (n : NodeValue) (g : Named) → finite.get (coordinator_of n).groups g.0 ≡ None
    → (coordinator_of (with_named n g)).groups ≡ finite.insert (coordinator_of n).groups g.0 g.1.0
inserted_one n g none =
    let states : States = map state_of n.groups in
    ap finite.from_entries (map-append state_of n.groups (g ∷ []))
    ∙ finite.from_entries_push text_cmp_total text_cmp-IsAntisymmetric states g.0 g.1.0 (sym (finite.get-from_entries text_cmp_total states g.0) ∙ none)

-- groups that a node does not have, each under a name of its own, can be kept where there is room for them
keep_each : (groups : List Named) (n : NodeValue) → KeysApart text_cmp (map state_of groups)
    → AllByRecursion (λ (f : Text × Group). finite.get (coordinator_of n).groups f.0 ≡ None) (map state_of groups) → AllByRecursion (λ (g : Named). IsGroupId g.0) groups
    → finite.len (coordinator_of n).groups + length groups ≤ MOST_GROUPS → CanEach CanKeep with_named n groups
keep_each [] n apart none named few = tt
keep_each (g ∷ groups) n apart none named few =
    let before : Groups = (coordinator_of n).groups in
    let same = inserted_one n g none.0 in
    let more : finite.len (coordinator_of (with_named n g)).groups ≡ finite.len before + 1 =
    ap finite.len same
    ∙ (finite.len-insert text_cmp_total before g.0 g.1.0 ∙ ap (λ (o : Option Group). cond (is_some o) (finite.len before) (finite.len before + 1)) none.0) in
    let still = still_none text_cmp_total before g.0 g.1.0 (map state_of groups) apart.0 none.1 in (
      record { id = named.0; absent = none.0; few = omega (arith, few) },
      keep_each groups (with_named n g) apart.1 (subst (λ (m : Groups). AllByRecursion (λ (f : Text × Group). finite.get m f.0 ≡ None) (map state_of groups)) (sym same) still) named.1
          (omega (arith, few, more)),
    )

-- the groups of a node that can be restored can be kept, one after the other
pub groups_can : (n : NodeValue) → CanBeRestored n → CanEach CanKeep with_named (bare n.salt n.image) n.groups
groups_can n can =
    let c : Coordinator = coordinator_of n in
    let once : length n.groups ≡ finite.len c.groups = can.once in
    let both = apart_and_found c n (record { coordinator = refl; once = once }) in
    let empty : finite.len (coordinator_of (bare n.salt n.image)).groups ≡ 0 = finite.len-empty text_cmp Group in
    let most : finite.len c.groups ≤ MOST_GROUPS = can.can.few in
    keep_each n.groups (bare n.salt n.image) both.0 (none_in_empty text_cmp_total (map state_of n.groups)) (ids c can.can n.groups both.1) (omega (arith, empty, once, most))
