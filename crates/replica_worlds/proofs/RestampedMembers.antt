-- The members of a group and the checks of a heartbeat, with other stamps.
use Rattle.std.proofs.Common.{◌≡◌, ℕ, ◌-◌, Bool, true, false, cond, not, ◌&&◌, ◌||◌, [], ◌∷◌, ◌++◌, length, drop, Option, Some, None, is_none, refl, sym, ap, ◌∙◌}
use Rattle.std.specs.List.{AllByRecursion, find}
use Rattle.std.specs.Option.{option_map}
use Rattle.std.specs.Ordering.{eq_by_cmp}
use Rattle.std.specs.FinMap as finite
use Rattle.std.proofs.lemmas.List.{drop-map, length-map, map-append}
use Rattle.group_types.specs.declared.code.Code.TheVariants as codes
use Rattle.group_types.specs.declared.stamp.Stamp.{Stamp}
use Rattle.group_types.specs.Limits.{MOST_PAST_MEMBERS}
use Rattle.group_types.specs.Text.{Text, text_cmp}
use Rattle.group_types.specs.Request.{Heartbeat, Kind, Joins, Beats, Leaves, GoesAway, MeansNothing}
use Rattle.group_types.specs.Group.{Group, Past, Record, Records}
use Rattle.group_types.specs.Members.{Members, is_remembered, remembering, taken_over, with_record, without_past, without_record}
use Rattle.group_types.specs.Checks.{Member, Refused, Overtaken, Sender, are_granted, first_of, has_instance, is_another, is_fenced, is_late, is_of_past, is_overtaken, is_too_many, is_unreleased, member_at, other_id_with, other_with, record_under, request_checks, sender_of, verdict_on}
use Rattle.group_types.proofs.ListLemmas.{list_any-map}
use Rattle.group_types.proofs.Lookups.{same_text}
use Rattle.replica_worlds.specs.Restamped.{restamped_group, restamped_past, restamped_record, with_values}
use Rattle.replica_worlds.proofs.WithValues.{get_changed, has_changed, insert_changed, keys_changed, len_changed, remove_changed}

module _ (other : Stamp → Stamp) where
  abbrev pub record_of : Record → Record
  record_of = restamped_record other

  abbrev pub records_of : Records → Records
  records_of = with_values (restamped_record other)

  abbrev pub past_of : Past → Past
  past_of = restamped_past other

  abbrev pub group_of : Group → Group
  group_of = restamped_group other

  abbrev pub members_as : Members → Members
  members_as s = record { records = records_of s.records; past = past_of s.past }

  abbrev pub member_as : Member → Member
  member_as m = record { id = m.id; kept = record_of m.kept }

  abbrev pub sender_as : Sender → Sender
  sender_as s = record { own = option_map record_of s.own; other = option_map member_as s.other }

  -- ---- the members

  remembering_as : (past : Past) (m : Text) (s : Stamp) → past_of (remembering past m s) ≡ remembering (past_of past) m (other s)
  remembering_as past m s =
      let all : Past = past ++ (m, s) ∷ [] in
      let appended : past_of all ≡ past_of past ++ (m, other s) ∷ [] = map-append (λ (e : Text × Stamp). (e.0, other e.1)) past ((m, s) ∷ []) in
      sym (drop-map (λ (e : Text × Stamp). (e.0, other e.1)) (length all - MOST_PAST_MEMBERS) all)
      ∙ ap (λ n. drop (n - MOST_PAST_MEMBERS) (past_of all)) (sym (length-map all (λ (e : Text × Stamp). (e.0, other e.1))))
      ∙ ap (λ (xs : Past). drop (length xs - MOST_PAST_MEMBERS) xs) appended

  without_past_as : (past : Past) (m : Text) → past_of (without_past past m) ≡ without_past (past_of past) m
  without_past_as [] m = refl
  without_past_as (e ∷ past) m =
      elim (eq_by_cmp text_cmp m e.0) as (λ b. past_of (cond (not b) (e ∷ without_past past m) (without_past past m)) ≡ cond (not b) ((e.0, other e.1) ∷ without_past (past_of past) m) (without_past (past_of past) m)) [
        | true ↦ without_past_as past m
        | false ↦ ap (λ (xs : Past). (e.0, other e.1) ∷ xs) (without_past_as past m)
      ]

  pub remembered_as : (s : Members) (m : Text) → is_remembered (members_as s) m ≡ is_remembered s m
  remembered_as s m =
      λ i. has_changed record_of s.records m i || list_any-map (λ (e : Text × Stamp). (e.0, other e.1)) (λ (e : Text × Stamp). eq_by_cmp text_cmp m e.0) s.past i

  pub with_record_as : (s : Members) (m : Text) (r : Record) → members_as (with_record s m r) ≡ with_record (members_as s) m (record_of r)
  with_record_as s m r = λ i. record { records = insert_changed record_of s.records m r i; past = without_past_as s.past m i }

  pub without_record_as : (s : Members) (m : Text) (stamp : Stamp) → members_as (without_record s m stamp) ≡ without_record (members_as s) m (other stamp)
  without_record_as s m stamp = λ i. record { records = remove_changed record_of s.records m i; past = remembering_as s.past m stamp i }

  pub taken_over_as : (s : Members) (old heir : Text) (r : Record) (last : Stamp) → members_as (taken_over s old heir r last) ≡ taken_over (members_as s) old heir (record_of r) (other last)
  taken_over_as s old heir r last =
      let records : records_of (finite.insert (finite.remove s.records old) heir r) ≡ finite.insert (finite.remove (records_of s.records) old) heir (record_of r) =
      insert_changed record_of (finite.remove s.records old) heir r ∙ ap (λ (x : Records). finite.insert x heir (record_of r)) (remove_changed record_of s.records old)
      in
      let past : past_of (remembering (without_past s.past heir) old last) ≡ remembering (without_past (past_of s.past) heir) old (other last) =
      remembering_as (without_past s.past heir) old last ∙ ap (λ (x : Past). remembering x old (other last)) (without_past_as s.past heir)
      in
      λ i. record { records = records i; past = past i }

  -- ---- whom a heartbeat is of

  pub record_under_as : (records : Records) (m : Text) → record_under (records_of records) m ≡ option_map record_of (record_under records m)
  record_under_as records [] = refl
  record_under_as records (c ∷ m) = get_changed record_of records (c ∷ m)

  has_instance_as : (instance : Text) (o : Option Record) → has_instance instance (option_map record_of o) ≡ has_instance instance o
  has_instance_as instance None = refl
  has_instance_as instance (Some r) = refl

  found_instance : (records : Records) (instance n : Text) → has_instance instance (finite.get (records_of records) n) ≡ has_instance instance (finite.get records n)
  found_instance records instance n = ap (has_instance instance) (get_changed record_of records n) ∙ has_instance_as instance (finite.get records n)

  other_id_as : (records : Records) (m instance : Text) → other_id_with (records_of records) m instance ≡ other_id_with records m instance
  other_id_as records m instance =
      λ i. find (λ n. not (eq_by_cmp text_cmp m n) && found_instance records instance n i) (keys_changed record_of records i)

  member_as_at : (m : Text) (o : Option Record) → option_map (λ (r : Record). record { id = m; kept = r }) (option_map record_of o) ≡ option_map member_as (option_map (λ (r : Record). record { id = m; kept = r }) o)
  member_as_at m None = refl
  member_as_at m (Some r) = refl

  member_at_as : (records : Records) (o : Option Text) → member_at (records_of records) o ≡ option_map member_as (member_at records o)
  member_at_as records None = refl
  member_at_as records (Some m) = ap (option_map (λ (r : Record). record { id = m; kept = r })) (get_changed record_of records m) ∙ member_as_at m (finite.get records m)

  other_with_as : (records : Records) (m : Text) (o : Option Text) → other_with (records_of records) m o ≡ option_map member_as (other_with records m o)
  other_with_as records m None = refl
  other_with_as records m (Some instance) =
      ap (member_at (records_of records)) (other_id_as records m instance) ∙ member_at_as records (other_id_with records m instance)

  pub sender_of_as : (records : Records) (q : Heartbeat) → sender_of (records_of records) q ≡ sender_as (sender_of records q)
  sender_of_as records q = λ i. record { own = record_under_as records q.member i; other = other_with_as records q.member q.instance i }

  -- ---- the checks

  -- the new stamp is late behind another one, as the old one was behind the old other one
  abbrev pub SameOrder : Stamp → Stamp → Type 0
  SameOrder stamp last = is_late (other stamp) (other last) ≡ is_late stamp last

  pub record AgreesOn (own : Option Record) (past : Past) (m : Text) (stamp : Stamp) : Type 0 where
    pub kept : (r : Record) → own ≡ Some r → SameOrder stamp r.stamp
    pub former : AllByRecursion (λ e. m ≡ e.0 → SameOrder stamp e.1) past

  overtaken_as : (own : Option Record) (stamp : Stamp) → ((r : Record) → own ≡ Some r → SameOrder stamp r.stamp) → is_overtaken (other stamp) (option_map record_of own) ≡ is_overtaken stamp own
  overtaken_as None stamp same = refl
  overtaken_as (Some r) stamp same = same r refl

  of_past_as : (past : Past) (m : Text) (stamp : Stamp) → AllByRecursion (λ e. m ≡ e.0 → SameOrder stamp e.1) past → is_of_past (past_of past) m (other stamp) ≡ is_of_past past m stamp
  of_past_as [] m stamp all = refl
  of_past_as (e ∷ past) m stamp all = λ i. by (eq_by_cmp text_cmp m e.0) refl i || of_past_as past m stamp all.1 i
    where
      by : (b : Bool) → eq_by_cmp text_cmp m e.0 ≡ b → (eq_by_cmp text_cmp m e.0 && is_late (other stamp) (other e.1)) ≡ (eq_by_cmp text_cmp m e.0 && is_late stamp e.1)
      by true is = ap (λ b. eq_by_cmp text_cmp m e.0 && b) (all.0 (same_text m e.0 is))
      by false is = ap (λ b. b && is_late (other stamp) (other e.1)) is ∙ sym (ap (λ b. b && is_late stamp e.1) is)

  unreleased_as : (own : Option Record) (o : Option Member) → is_unreleased (option_map record_of own) (option_map member_as o) ≡ is_unreleased own o
  unreleased_as None None = refl
  unreleased_as (Some r) None = refl
  unreleased_as None (Some m) = refl
  unreleased_as (Some r) (Some m) = refl

  too_many_as : (own : Option Record) (o : Option Member) (members : ℕ) → is_too_many (option_map record_of own) (option_map member_as o) members ≡ is_too_many own o members
  too_many_as None None members = refl
  too_many_as (Some r) None members = refl
  too_many_as None (Some m) members = refl
  too_many_as (Some r) (Some m) members = refl

  none_as : (own : Option Record) → is_none (option_map record_of own) ≡ is_none own
  none_as None = refl
  none_as (Some r) = refl

  another_as : (own : Option Record) (instance : Option Text) → is_another (option_map record_of own) instance ≡ is_another own instance
  another_as own None = refl
  another_as own (Some instance) = ap not (has_instance_as instance own)

  fenced_as : (n : ℕ) (own : Option Record) (granted : Bool) → is_fenced n (option_map record_of own) granted ≡ is_fenced n own granted
  fenced_as n None granted = refl
  fenced_as n (Some r) granted = refl

  pub verdict_as : (kind : Kind) (sender : Sender) (g : Group) (q : Heartbeat) (stamp : Stamp) → AgreesOn sender.own g.past q.member stamp
      → verdict_on kind (sender_as sender) (group_of g) q (other stamp) ≡ verdict_on kind sender g q stamp
  verdict_as Joins sender g q stamp agrees =
      let many : is_too_many (option_map record_of sender.own) (option_map member_as sender.other) (finite.len (records_of g.records)) ≡ is_too_many sender.own sender.other (finite.len g.records) =
      ap (is_too_many (option_map record_of sender.own) (option_map member_as sender.other)) (len_changed record_of g.records) ∙ too_many_as sender.own sender.other (finite.len g.records)
      in
      λ i. first_of (request_checks Joins q ++ (
      (overtaken_as sender.own stamp agrees.kept i || of_past_as g.past q.member stamp agrees.former i, Overtaken)
      ∷ (unreleased_as sender.own sender.other i, Refused codes.UnreleasedInstanceId)
      ∷ (many i, Refused codes.GroupMaxSizeReached)
      ∷ []) ++ [])
  verdict_as (Beats n) sender g q stamp agrees =
      λ i. first_of (request_checks (Beats n) q ++ (
      (none_as sender.own i, Refused codes.UnknownMemberId) ∷ (overtaken_as sender.own stamp agrees.kept i, Overtaken) ∷ [])
      ++ ((fenced_as n sender.own (are_granted g.grants q.member q.owned) i, Refused codes.FencedMemberEpoch) ∷ []))
  verdict_as Leaves sender g q stamp agrees =
      λ i. first_of (request_checks Leaves q ++ (
      (none_as sender.own i, Refused codes.UnknownMemberId) ∷ (overtaken_as sender.own stamp agrees.kept i, Overtaken) ∷ []) ++ [])
  verdict_as GoesAway sender g q stamp agrees =
      λ i. first_of (request_checks GoesAway q ++ (
      (another_as sender.own q.instance i, Refused codes.UnknownMemberId) ∷ (overtaken_as sender.own stamp agrees.kept i, Overtaken) ∷ []) ++ [])
  verdict_as MeansNothing sender g q stamp agrees =
      λ i. first_of (request_checks MeansNothing q ++ (
      (none_as sender.own i, Refused codes.UnknownMemberId) ∷ (overtaken_as sender.own stamp agrees.kept i, Overtaken) ∷ []) ++ [])
