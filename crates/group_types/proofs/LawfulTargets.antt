-- Which targets are lawful for the members, and what leaves them lawful.
use Rattle.std.proofs.Common.{◌≡◌, ℕ, ◌==◌, Bool, true, false, cond, List, [], ◌∷◌, map, Option, Some, None, refl, sym, ap, subst, ◌∙◌, inl, inr}
use Rattle.std.specs.List.{All, AllByRecursion, Contains}
use Rattle.std.specs.Option.{MatchOption, option_map}
use Rattle.std.specs.Ordering.{eq_by_cmp}
use Rattle.std.specs.FinMap as finite
use Rattle.std.specs.FinMap.{find}
use Rattle.std.proofs.lemmas.List.Elements.{All-contains, All-from_recursion, All-map}
use Rattle.std.proofs.lemmas.List.Sorted.{All-permutation, Contains-permutation}
use Rattle.group_types.specs.declared.epoch.Epoch.{Epoch}
use Rattle.group_types.specs.declared.epoch.Epoch.TheVariants.{At, Away}
use Rattle.group_types.specs.declared.partition.Partition.{Partition}
use Rattle.group_types.specs.Text.{Text, text_cmp}
use Rattle.group_types.specs.Partition.{Partitions}
use Rattle.group_types.specs.Topics.{Topics}
use Rattle.group_types.specs.Assignors.{Subscriber, assignor_of}
use Rattle.group_types.specs.Owners.{IsLawful, IsSubscribed, IsSubscriber}
use Rattle.group_types.specs.Group.{Group, Record, Records, Target}
use Rattle.group_types.specs.Settle.{arrived, asked, settled_by, settled_record}
use Rattle.group_types.specs.Renewal.{IsTarget, subscriber_of}
use Rattle.group_types.specs.HeartbeatStep.{sent_after}
use Rattle.group_types.specs.Targets.{AssignorsAreLawful, IsLawfulFor, Subscribes}
use Rattle.group_types.proofs.Entries.{entries_found}
use Rattle.group_types.proofs.ListLemmas.{In, from_in}
use Rattle.group_types.proofs.Lookups.{Found, this, another, found, Tie, ties, differs, tie, get-inserted, get-insert_other, not_none, some_is, text_ties}

-- ---- who subscribes, by the records

-- the members as an assignor sees them, by their ids
abbrev pub subscribers : Records → List Subscriber
subscribers records = map subscriber_of (finite.entries records)

-- a subscriber is as its record says
abbrev IsRecorded : Records → Subscriber → Type 0
IsRecorded records s = (r : Record) × (finite.get records s.id ≡ Some r) × (s.names ≡ r.names)

all_recorded : (records : Records) → All (IsRecorded records) (subscribers records)
all_recorded records =
    All-map (IsRecorded records) subscriber_of (finite.entries records)
    (All-from_recursion (λ e. IsRecorded records (subscriber_of e)) (finite.entries records) (each (finite.entries records) (entries_found records)))
  where
    each : (es : List (Text × Record)) → AllByRecursion (λ e. finite.get records e.0 ≡ Some e.1) es → AllByRecursion (λ e. IsRecorded records (subscriber_of e)) es
    each [] all = tt
    each (e ∷ es) all = ((e.1, all.0, refl), each es all.1)

entry_in : (es : List (Text × Record)) (id : Text) (r : Record) → find text_cmp id es ≡ Some r → In (map subscriber_of es) (subscriber_of (id, r))
entry_in [] id r is = absurd (not_none r is)
entry_in (e ∷ es) id r is = by (entry_in es id r) (tie id e.0)
  where
    by : (find text_cmp id es ≡ Some r → In (map subscriber_of es) (subscriber_of (id, r))) → Tie id e.0 → In (map subscriber_of (e ∷ es)) (subscriber_of (id, r))
    by rest (ties same) =
        inl (ap (λ (k : Text). subscriber_of (k, e.1)) (sym same)
        ∙ ap (λ (x : Record). subscriber_of (id, x)) (some_is e.1 r (sym (ap (λ b. cond b (Some e.1) (find text_cmp id es)) (ap (eq_by_cmp text_cmp id) (sym same) ∙ text_ties id)) ∙ is)))
    by rest (differs _ apart) = inr (rest (sym (ap (λ b. cond b (Some e.1) (find text_cmp id es)) apart) ∙ is))

recorded_in : (records : Records) (id : Text) (r : Record) → finite.get records id ≡ Some r → Contains (subscribers records) (subscriber_of (id, r))
recorded_in records id r there =
    from_in (subscribers records) (subscriber_of (id, r)) (entry_in (finite.entries records) id r (sym (finite.get-entries records id) ∙ there))

-- the members in any order: who subscribes is the same
subscribes_of : (records : Records) (view : Topics) (subs : List Subscriber) → All (IsRecorded records) subs → (p : Partition) (id : Text) → IsSubscriber view subs p id → Subscribes records view p id
subscribes_of records view subs all p id (s, there, is_id, subscribed) =
    let recorded = All-contains (IsRecorded records) subs s all there in
    (recorded.0, ap (finite.get records) (sym is_id) ∙ recorded.1, subst (λ names. IsSubscribed view names p) recorded.2 subscribed)

subscriber_of_record : (records : Records) (view : Topics) (subs : List Subscriber) → ((s : Subscriber) → Contains (subscribers records) s → Contains subs s)
    → (p : Partition) (id : Text) → Subscribes records view p id → IsSubscriber view subs p id
subscriber_of_record records view subs all p id (r, there, subscribed) =
    (subscriber_of (id, r), all (subscriber_of (id, r)) (recorded_in records id r there), refl, subscribed)

-- what is lawful for some list of the members is lawful by their records, and the other way round
lawful_by_records : (records : Records) (view : Topics) (subs : List Subscriber) (target : Target) → All (IsRecorded records) subs
    → ((s : Subscriber) → Contains (subscribers records) s → Contains subs s) → IsLawful view subs target → IsLawfulFor records view target
lawful_by_records records view subs target all every lawful p =
    elim (finite.get target p) as (λ o. MatchOption o ((id : Text) → ¬ IsSubscriber view subs p id) (IsSubscriber view subs p) → MatchOption o ((id : Text) → ¬ Subscribes records view p id) (Subscribes records view p)) [
      | None ↦ λ none id subscribes. none id (subscriber_of_record records view subs every p id subscribes)
      | Some id ↦ λ is. subscribes_of records view subs all p id is
    ] (lawful p)

pub lawful_by_members : (records : Records) (view : Topics) (target : Target) → IsLawfulFor records view target → IsLawful view (subscribers records) target
lawful_by_members records view target lawful p =
    elim (finite.get target p) as (λ o. MatchOption o ((id : Text) → ¬ Subscribes records view p id) (Subscribes records view p)
    → MatchOption o ((id : Text) → ¬ IsSubscriber view (subscribers records) p id) (IsSubscriber view (subscribers records) p)) [
      | None ↦ λ none id is. none id (subscribes_of records view (subscribers records) (all_recorded records) p id is)
      | Some id ↦ λ subscribes. subscriber_of_record records view (subscribers records) (λ s there. there) p id subscribes
    ] (lawful p)

-- ---- the target's owners

pub target_lawful : AssignorsAreLawful → (records : Records) (view : Topics) (former target : Target) → IsTarget records view former target → IsLawfulFor records view target
target_lawful assignors records view former target (subs, members, owners) =
    lawful_by_records records view subs target
    (All-permutation (IsRecorded records) (subscribers records) subs members.same (all_recorded records))
    (λ s there. Contains-permutation (subscribers records) subs s members.same there)
    (assignors (assignor_of subs) view subs former target owners)

-- ---- records that move

-- each member is there under its new name, and subscribes what it did
pub record Renames (records new : Records) (name : Text → Text) : Type 0 where
  pub forth : (id : Text) (r : Record) → finite.get records id ≡ Some r → (s : Record) × (finite.get new (name id) ≡ Some s) × (s.names ≡ r.names)
  pub back : (id : Text) (s : Record) → finite.get new id ≡ Some s → (old : Text) × (r : Record) × (finite.get records old ≡ Some r) × (name old ≡ id) × (s.names ≡ r.names)

abbrev pub same_name : Text → Text
same_name id = id

pub stay : (records : Records) → Renames records records same_name
stay records = record { forth = λ id r there. (r, there, refl); back = λ id s there. (id, s, there, refl, refl) }

pub put : (records : Records) (m : Text) (r s : Record) → finite.get records m ≡ Some r → s.names ≡ r.names → Renames records (finite.insert records m s) same_name
put records m r s there same =
    record {
      forth = λ id x has_x. forth id x has_x (tie id m);
      back = λ id x has_x. back id x (found records m s id x has_x);
    }
  where
    forth : (id : Text) (x : Record) → finite.get records id ≡ Some x → Tie id m → (y : Record) × (finite.get (finite.insert records m s) id ≡ Some y) × (y.names ≡ x.names)
    forth id x has_x (ties is_m) =
        (s, ap (finite.get (finite.insert records m s)) is_m ∙ get-inserted records m s, same ∙ ap (λ (y : Record). y.names) (some_is r x (sym there ∙ ap (finite.get records) (sym is_m) ∙ has_x)))
    forth id x has_x (differs _ apart) = (x, get-insert_other records m s id apart ∙ has_x, refl)

    back : (id : Text) (x : Record) → Found records m s id x → (old : Text) × (y : Record) × (finite.get records old ≡ Some y) × (old ≡ id) × (x.names ≡ y.names)
    back id x (this is_m is_s) = (m, r, there, sym is_m, ap (λ (y : Record). y.names) is_s ∙ same)
    back id x (another _ _ before) = (id, x, before, refl, refl)

-- what was lawful is lawful under the new names
pub lawful_renamed : (records new : Records) (name : Text → Text) (view : Topics) (target after : Target) → Renames records new name
    → ((p : Partition) → finite.get after p ≡ option_map name (finite.get target p)) → IsLawfulFor records view target → IsLawfulFor new view after
lawful_renamed records new name view target after renames owners lawful p =
    subst (λ o. MatchOption o ((id : Text) → ¬ Subscribes new view p id) (Subscribes new view p)) (sym (owners p))
    (elim (finite.get target p) as (λ o. MatchOption o ((id : Text) → ¬ Subscribes records view p id) (Subscribes records view p)
    → MatchOption (option_map name o) ((id : Text) → ¬ Subscribes new view p id) (Subscribes new view p)) [
      | None ↦ λ none id subscribes.
          let was = renames.back id subscribes.0 subscribes.1 in
          none was.0 (was.1, was.2, subst (λ names. IsSubscribed view names p) was.4 subscribes.2)
      | Some id ↦ λ subscribes.
          let is = renames.forth id subscribes.0 subscribes.1 in
          (is.0, is.1, subst (λ names. IsSubscribed view names p) (sym is.2) subscribes.2)
    ] (lawful p))

pub same_owners : (target : Target) (p : Partition) → finite.get target p ≡ option_map same_name (finite.get target p)
same_owners target p = by (finite.get target p)
  where
    by : (o : Option Text) → o ≡ option_map same_name o
    by None = refl
    by (Some id) = refl

-- ---- what settling and the reply leave of names

arrived_names : (r : Record) (e : Epoch) (t : ℕ) → (arrived r e t).names ≡ r.names
arrived_names r Away t = refl
arrived_names r (At e) t =
    elim (e == t) as (λ b. (cond b (record r { release_deadline = None }) (record r { previous_epoch = e; epoch = At t; release_deadline = None })).names ≡ r.names) [
      | true ↦ refl
      | false ↦ refl
    ]

asked_names : (r : Record) (o : Option ℕ) (now : ℕ) → (asked r o now).names ≡ r.names
asked_names r None now = refl
asked_names r (Some deadline) now = refl

pub settled_names : (may : Bool) (r : Record) (t now : ℕ) → (settled_record may r t now).names ≡ r.names
settled_names true r t now = arrived_names r r.epoch t
settled_names false r t now = asked_names r r.release_deadline now

pub sent_names : (r : Record) (o : Option Partitions) → (sent_after r o).names ≡ r.names
sent_names r None = refl
sent_names r (Some set) = refl

-- what a settling leaves: the same view, target and epochs, and records with the same names
pub record Settles (g s : Group) : Type 0 where
  pub view : s.view ≡ g.view
  pub target : s.target ≡ g.target
  pub target_epoch : s.target_epoch ≡ g.target_epoch
  pub renames : Renames g.records s.records same_name

pub settles_by : (may : Bool) (g : Group) (m : Text) (o : Option Record) → finite.get g.records m ≡ o → (now : ℕ) → Settles g (settled_by may g m o now)
settles_by may g m None is now = record { view = refl; target = refl; target_epoch = refl; renames = stay g.records }
settles_by may g m (Some r) is now =
    record {
      view = refl;
      target = refl;
      target_epoch = refl;
      renames = put g.records m r (settled_record may r g.target_epoch now) is (settled_names may r g.target_epoch now);
    }

pub sent_lawfully : (g : Group) (m : Text) (r z : Record) → finite.get g.records m ≡ Some r → z.names ≡ r.names
    → IsLawfulFor g.records g.view g.target → IsLawfulFor (finite.insert g.records m z) g.view g.target
sent_lawfully g m r z there same lawful =
    lawful_renamed g.records (finite.insert g.records m z) same_name g.view g.target g.target (put g.records m r z there same) (same_owners g.target) lawful
