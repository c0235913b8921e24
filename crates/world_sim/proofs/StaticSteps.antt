-- Steps of a group that has one static member at most: it joins, goes away, is taken over, is removed, and joins again under
-- its former id.
use Rattle.std.proofs.Common.{◌≡◌, ◌≢◌, ℕ, zero, suc, ◌<◌, ◌==◌, pos, Bool, true, false, cond, not, ◌&&◌, ◌||◌, if◌then◌else◌, List, [], ◌∷◌, length, map, nat_le, max, slice_get, sum_by, Option, Some, None, is_some, refl, sym, ap, subst, ◌∙◌, true≢false, arith}
use Rattle.std.specs.List.{list_any, filter, find}
use Rattle.std.specs.List.Sorted.{IsPermutation}
use Rattle.std.specs.Option.{option_map, option_map_or}
use Rattle.std.specs.Ordering.{eq_by_cmp}
use Rattle.std.specs.Cmp.{Equal-is, eq_by_cmp_equiv}
use Rattle.std.specs.FinMap as finite
use Rattle.std.specs.Str.{bytes_eq}
use Rattle.std.proofs.lemmas.Bool.{or_left}
use Rattle.std.proofs.lemmas.List.Sorted.{IsPermutation-refl}
use Rattle.std.proofs.lemmas.Slice.Eq.{bytes_eq-Decides}
use Rattle.group_types.specs.declared.assignor_name.AssignorName.TheVariants.{Range}
use Rattle.group_types.specs.declared.code.Code.TheVariants as codes
use Rattle.group_types.specs.declared.partition.Partition.{Partition}
use Rattle.group_types.specs.declared.stamp.Stamp.{Stamp}
use Rattle.flex_wire.specs.Spelling.{FitsUuid}
use Rattle.group_types.specs.Images.{AreImageTopics, partition_count}
use Rattle.group_types.specs.Limits.{GREATEST_EPOCH, MOST_MEMBERS}
use Rattle.group_types.specs.Text.{Text, text_cmp}
use Rattle.group_types.specs.Sets.{has, is_nothing, in_order, minus, nothing, of_list, with_one}
use Rattle.group_types.specs.Partition.{partition_cmp, Partitions}
use Rattle.group_types.specs.Topics.{Topic, Topics}
use Rattle.group_types.specs.AssignorName.{assignor_text}
use Rattle.group_types.specs.MemberId.{made_id}
use Rattle.group_types.specs.Members.{without_past}
use Rattle.group_types.specs.Request.{Heartbeat, Joins, Beats, GoesAway, GOES_AWAY_AT, SAME_TIMEOUT}
use Rattle.group_types.specs.Assignors.{Subscriber, subscribers_of}
use Rattle.group_types.specs.Owners.{IsRange, IsRangeOwner, range_place, renamed, renamed_id, without_owner}
use Rattle.group_types.specs.Group.{Record, Records, Target, Grants, Group, Past, grant_cmp, held, new_group, wanted}
use Rattle.group_types.specs.Renewal.{AreMembers, Renews, RenewsWhere, is_subscribed, subscriber_of, view_for}
use Rattle.group_types.specs.Settle.{arrived, grants_of_others, granting, is_free_for, may_settle, moved, settled, settled_by}
use Rattle.group_types.specs.Join.{IsNamed, IsNextSerial, record_of_join}
use Rattle.group_types.specs.Leave.{away, gone_away}
use Rattle.group_types.specs.Tick.{at_moment, expired, is_due, ticked}
use Rattle.group_types.specs.Checks.{Verdict, Accepted, Refused, Overtaken, Member, Sender, first_of, has_instance, is_of_past, member_at, other_with, record_under, sender_of, verdict_on}
use Rattle.group_types.specs.HeartbeatStep.{Arrival, Replied, Reply, ByVerdict, Draft, HeartbeatStep, StepOf, TakesIn, acceptance, draft_under, farewell, refusal, shown, Stages}
use Rattle.group_types.proofs.BoolLemmas.{or_none}
use Rattle.group_types.proofs.GrantLemmas.{eq-grant, grant_cmp_total, grant_cmp-IsAntisymmetric, has-granting, has-held, has-moved, has-others}
use Rattle.group_types.proofs.Lookups.{Tie, ties, differs, tie, no_tie, not_none, same_text, some_is, text_ties}
use Rattle.group_types.proofs.MadeIds.{length-made_id, made_ids_differ}
use Rattle.group_types.proofs.Orders.{text_cmp_total, text_cmp-IsAntisymmetric, partition_cmp_total, partition_cmp-IsAntisymmetric}
use Rattle.group_types.proofs.SetLemmas.{has-common, has-in_order, has-minus, has-nothing, has-of_list, has-with_one, is_nothing-Decides, same_set}
use Rattle.group_types.proofs.SpreadLemmas.{get-renamed, has-share_of}
use Rattle.group_core.proofs.Single.{entries-empty, entries-single, get-inserted, insert-insert}
use Rattle.group_types.proofs.Checked.{own_so}
use Rattle.world_sim.proofs.Newcomers.{GROUP}
use Rattle.world_sim.proofs.RoundTurns.{free_where}

-- ---- the member, and what it says

abbrev pub INSTANCE : Text
INSTANCE = 105 ∷ []

abbrev pub NAME : Text
NAME = 116 ∷ []

abbrev pub TOPIC : Topic
TOPIC = record { id = 7 ∷ 7 ∷ 7 ∷ 7 ∷ 7 ∷ 7 ∷ 7 ∷ 7 ∷ 7 ∷ 7 ∷ 7 ∷ 7 ∷ 7 ∷ 7 ∷ 7 ∷ 7 ∷ []; count = 1 }

abbrev pub PARTITION : Partition
PARTITION = record { topic = TOPIC.id; index = pos 0 }

abbrev pub IMAGE : Topics
IMAGE = finite.insert finite.empty NAME TOPIC

pub get-alone : {X : Type 0} (m n : Text) (r : X) → finite.get (finite.insert (finite.empty {R = text_cmp}) m r) n ≡ cond (eq_by_cmp text_cmp n m) (Some r) None
get-alone m n r = finite.get-insert text_cmp_total finite.empty m r n ∙ ap (cond (eq_by_cmp text_cmp n m) (Some r)) (finite.get-empty text_cmp n)

-- nothing else is there
of_image : (name : Text) (t : Topic) → finite.get IMAGE name ≡ Some t → (name ≡ NAME) × (t ≡ TOPIC)
of_image name t is = by (tie name NAME)
  where
    by : Tie name NAME → (name ≡ NAME) × (t ≡ TOPIC)
    by (ties same) = (same, sym (some_is TOPIC t (sym (get-inserted text_cmp_total finite.empty NAME TOPIC) ∙ ap (finite.get IMAGE) (sym same) ∙ is)))
    by (differs other apart) = absurd (not_none t (sym (get-alone NAME name TOPIC ∙ ap (λ b. cond b (Some TOPIC) None) apart) ∙ is))

pub image_is : AreImageTopics IMAGE
image_is =
    record {
      ids_apart = λ p q s t is_s is_t same. (of_image p s is_s).0 ∙ sym (of_image q t is_t).0;
      ids = λ name t is. subst (λ (x : Topic). FitsUuid x.id) (sym (of_image name t is).1) refl;
      counts = λ name t is. let one : t.count ≡ 1 = ap (λ (x : Topic). x.count) (of_image name t is).1 in (omega (arith, one), omega (arith, one));
      few = let all : finite.len IMAGE ≡ 1 = finite.len-entries IMAGE ∙ ap length (entries-single text_cmp_total NAME TOPIC) in omega (arith, all);
      few_partitions = let all : partition_count IMAGE ≡ 1 = ap (sum_by (λ e. e.1.count)) (entries-single text_cmp_total NAME TOPIC) in omega (arith, all);
    }

-- under an id, or none
abbrev pub join_as : Text → Heartbeat
join_as member =
    record {
      group = GROUP;
      member = member;
      epoch = pos 0;
      instance = Some INSTANCE;
      rack = None;
      rebalance_timeout = pos 60000;
      names = Some (NAME ∷ []);
      assignor = Some (assignor_text Range);
      owned = Some [];
    }

-- ---- groups of one member

abbrev pub group_at : ℕ → ℕ → Records → Target → Grants → Topics → ℕ → ℕ → Past → Group
group_at epoch target_epoch records target grants view clock serial past =
    record {
      salt = 0;
      epoch = epoch;
      target_epoch = target_epoch;
      records = records;
      target = target;
      grants = grants;
      offsets = finite.empty;
      view = view;
      clock = clock;
      serial = serial;
      past = past;
    }

abbrev pub alone : Text → Record → Records
alone m r = finite.insert finite.empty m r

abbrev pub owned_by : Text → Target
owned_by m = finite.insert finite.empty PARTITION m

abbrev pub granted_to : Text → Grants
granted_to m = with_one nothing (m, PARTITION)

abbrev pub ITS_OWN : Partitions
ITS_OWN = of_list (PARTITION ∷ [])

owner_of : (m : Text) (p : Partition) → finite.get (owned_by m) p ≡ cond (eq_by_cmp partition_cmp p PARTITION) (Some m) None
owner_of m p = finite.get-insert partition_cmp_total finite.empty PARTITION m p ∙ ap (cond (eq_by_cmp partition_cmp p PARTITION) (Some m)) (finite.get-empty partition_cmp p)

pub partition_ties : eq_by_cmp partition_cmp PARTITION PARTITION ≡ true
partition_ties = (eq_by_cmp_equiv partition_cmp_total).refl PARTITION

same_partition : (p : Partition) → eq_by_cmp partition_cmp p PARTITION ≡ true → p ≡ PARTITION
same_partition p same = partition_cmp-IsAntisymmetric p PARTITION ((Equal-is (partition_cmp p PARTITION)).0 same)

pub has_granted : (m n : Text) (p : Partition) → has (granted_to m) (n, p) ≡ (eq_by_cmp text_cmp n m && eq_by_cmp partition_cmp p PARTITION)
has_granted m n p =
    has-with_one grant_cmp_total nothing (m, PARTITION) (n, p)
    ∙ (λ i. eq-grant n m p PARTITION i || has-nothing grant_cmp (n, p) i)
    ∙ or_none (eq_by_cmp text_cmp n m && eq_by_cmp partition_cmp p PARTITION)

-- ---- the member is settled

-- nobody but the member is granted anything, and it no more than its partition
abbrev IsBounded : Text → Grants → Type 0
IsBounded m grants = (n : Text) (p : Partition) → has grants (n, p) ≡ true → (n ≡ m) × (p ≡ PARTITION)

module _ (m : Text) (epoch target_epoch clock serial : ℕ) (past : Past) (view : Topics) (r : Record) (grants : Grants) (bounded : IsBounded m grants) where
  abbrev Renewed : Group
  Renewed = group_at epoch target_epoch (alone m r) (owned_by m) grants view clock serial past

  abbrev Wanted : Partitions
  Wanted = wanted (owned_by m) m

  wants : (p : Partition) → has Wanted p ≡ eq_by_cmp partition_cmp p PARTITION
  wants p =
      has-share_of (owned_by m) m p
      ∙ ap (λ (o : Option Text). option_map_or (λ owner. bytes_eq owner m) o false) (owner_of m p)
      ∙ by (eq_by_cmp partition_cmp p PARTITION)
    where
      by : (b : Bool) → option_map_or (λ owner. bytes_eq owner m) (cond b (Some m) None) false ≡ b
      by true = (bytes_eq-Decides m m).1 refl
      by false = refl

  may : may_settle grants m Wanted (Some nothing) ≡ true
  may =
      or_left (is_nothing rest) _ ((is_nothing-Decides rest).1 (same_set partition_cmp_total partition_cmp-IsAntisymmetric rest nothing (λ p.
      has-minus partition_cmp_total (held grants m) Wanted p
      ∙ (λ i. has-held grants m p i && not (wants p i))
      ∙ by p (has grants (m, p)) refl
      ∙ sym (has-nothing partition_cmp p))))
    where
      rest : Partitions
      rest = minus (held grants m) Wanted

      by : (p : Partition) (b : Bool) → has grants (m, p) ≡ b → (b && not (eq_by_cmp partition_cmp p PARTITION)) ≡ false
      by p true holds = ap (λ (q : Partition). not (eq_by_cmp partition_cmp q PARTITION)) (bounded m p holds).1 ∙ ap not partition_ties
      by p false holds = refl

  is_free : is_free_for grants m PARTITION ≡ true
  is_free = free_where grants m PARTITION (λ k holds. (bounded k PARTITION holds).0)

  moved_on : moved grants m Wanted ≡ granted_to m
  moved_on =
      same_set grant_cmp_total grant_cmp-IsAntisymmetric _ _ (λ g.
      has-moved grants m Wanted g.0 g.1
      ∙ by g.0 g.1 (eq_by_cmp text_cmp g.0 m) refl
      ∙ sym (has_granted m g.0 g.1))
    where
      gets : (p : Partition) (b : Bool) → eq_by_cmp partition_cmp p PARTITION ≡ b → (b && (has grants (m, p) || is_free_for grants m p)) ≡ b
      gets p true same = ap (λ (q : Partition). has grants (m, q) || is_free_for grants m q) (same_partition p same) ∙ ap (λ b. has grants (m, PARTITION) || b) is_free ∙ either (has grants (m, PARTITION))
        where
          either : (b : Bool) → (b || true) ≡ true
          either true = refl
          either false = refl
      gets p false apart = refl

      others : (n : Text) (p : Partition) (b : Bool) → has grants (n, p) ≡ b → eq_by_cmp text_cmp n m ≡ false → b ≡ false
      others n p true holds apart = sym (text_ties m) ∙ ap (λ (k : Text). eq_by_cmp text_cmp k m) (sym (bounded n p holds).0) ∙ apart
      others n p false holds apart = refl

      by : (n : Text) (p : Partition) (b : Bool) → eq_by_cmp text_cmp n m ≡ b
          → cond b (has Wanted p && (has grants (m, p) || is_free_for grants m p)) (has grants (n, p)) ≡ (b && eq_by_cmp partition_cmp p PARTITION)
      by n p true same = ap (λ b. b && (has grants (m, p) || is_free_for grants m p)) (wants p) ∙ gets p (eq_by_cmp partition_cmp p PARTITION) refl
      by n p false apart = others n p (has grants (n, p)) refl apart

  abbrev Arrived : Record
  Arrived = arrived r r.epoch target_epoch

  abbrev Settled : Group
  Settled = record Renewed { grants = moved grants m Wanted; records = finite.insert (alone m r) m Arrived }

  settles : settled Renewed m (Some nothing) clock ≡ Settled
  settles = λ i. settled_by (may i) Renewed m (get-inserted text_cmp_total finite.empty m r i) clock

  is_shown : shown Settled m ≡ ITS_OWN
  is_shown =
      same_set partition_cmp_total partition_cmp-IsAntisymmetric (shown Settled m) ITS_OWN (λ p.
      has-common partition_cmp_total (held (moved grants m Wanted) m) Wanted p
      ∙ (λ i. (has-held (moved grants m Wanted) m p ∙ ap (λ (gs : Grants). has gs (m, p)) moved_on ∙ has_granted m m p ∙ ap (λ b. b && eq_by_cmp partition_cmp p PARTITION) (text_ties m)) i && wants p i)
      ∙ both (eq_by_cmp partition_cmp p PARTITION)
      ∙ sym (or_none (eq_by_cmp partition_cmp p PARTITION))
      ∙ sym (has-of_list partition_cmp_total (PARTITION ∷ []) p))
    where
      both : (b : Bool) → (b && b) ≡ b
      both true = refl
      both false = refl

  abbrev pub Kept : Record
  Kept = record Arrived { sent = Some ITS_OWN }

  abbrev pub After : Group
  After = group_at epoch target_epoch (alone m Kept) (owned_by m) (granted_to m) view clock serial past

  abbrev pub Told : Reply
  Told = acceptance m Arrived (Some ITS_OWN)

  leaves : record Settled { records = finite.insert Settled.records m Kept } ≡ After
  leaves = λ i. group_at epoch target_epoch (new_records i) (owned_by m) (moved_on i) view clock serial past
    where
      new_records : finite.insert (finite.insert (alone m r) m Arrived) m Kept ≡ alone m Kept
      new_records =
          insert-insert text_cmp_total text_cmp-IsAntisymmetric (alone m r) m Arrived Kept
          ∙ insert-insert text_cmp_total text_cmp-IsAntisymmetric finite.empty m r Kept

  module _ (changed drafted : Group) (before : Option Record) (after : Record) (name : Text) (renews : Renews changed Renewed) where
    abbrev Drafted : Draft
    Drafted = record { group = drafted; id = m; before = before; after = after }

    stages_to : (set : Partitions) → shown Settled m ≡ set → Stages changed Drafted (join_as name) (Replied (acceptance m Arrived (Some set))) (record Settled { records = finite.insert Settled.records m (record Arrived { sent = Some set }) })
    stages_to set is =
        record {
          renewed = Renewed;
          renews = renews;
          settled = Settled;
          settles = sym settles;
          kept = Arrived;
          is_kept = get-inserted text_cmp_total (alone m r) m Arrived;
          told = Some set;
          tells = ap Some (sym is);
          answers = refl;
          leaves = refl;
        }

    stages : Stages changed Drafted (join_as name) (Replied Told) After
    stages = subst (λ (g : Group). Stages changed Drafted (join_as name) (Replied Told) g) leaves (stages_to ITS_OWN is_shown)

-- ---- its target

-- its topic is all that it sees of the image
view_is : (m : Text) (r : Record) → r.names ≡ of_list (NAME ∷ []) → view_for IMAGE (alone m r) ≡ IMAGE
view_is m r names =
    finite.same_map text_cmp_total text_cmp-IsAntisymmetric _ _ (λ name.
    finite.get-retain_keys IMAGE (is_subscribed (alone m r)) name (λ y tied. ap (is_subscribed (alone m r)) (sym (text_cmp-IsAntisymmetric name y tied)))
    ∙ ap (λ b. cond b (finite.get IMAGE name) None) (subscribed name)
    ∙ ap (λ (o : Option Topic). cond (eq_by_cmp text_cmp name NAME) o None) (get-alone NAME name TOPIC)
    ∙ by (eq_by_cmp text_cmp name NAME)
    ∙ sym (get-alone NAME name TOPIC))
  where
    subscribed : (name : Text) → is_subscribed (alone m r) name ≡ eq_by_cmp text_cmp name NAME
    subscribed name =
        ap (λ (es : List (Text × Record)). list_any (λ (s : Record). has s.names name) (map (λ e. e.1) es)) (entries-single text_cmp_total m r)
        ∙ or_none (has r.names name)
        ∙ ap (λ ns. has ns name) names
        ∙ has-of_list text_cmp_total (NAME ∷ []) name
        ∙ or_none (eq_by_cmp text_cmp name NAME)

    by : (b : Bool) → cond b (cond b (Some TOPIC) None) None ≡ cond b (Some TOPIC) None
    by true = refl
    by false = refl

abbrev lone : Text → Record → Subscriber
lone m r = subscriber_of (m, r)

module _ (m : Text) (r : Record) (names : r.names ≡ of_list (NAME ∷ [])) where
  subscribes : subscribers_of (lone m r ∷ []) NAME ≡ lone m r ∷ []
  subscribes = ap (λ b. cond b (lone m r ∷ []) []) (ap (λ ns. has ns NAME) names ∙ has-of_list text_cmp_total (NAME ∷ []) NAME ∙ ap (λ b. b || false) (text_ties NAME))

  owns_it : IsRangeOwner IMAGE (lone m r ∷ []) PARTITION m
  owns_it =
      record {
        name = NAME;
        topic = TOPIC;
        of_view = get-inserted text_cmp_total finite.empty NAME TOPIC;
        same_id = refl;
        index = 0;
        is_index = refl;
        below = omega arith;
        owner = lone m r;
        place = ap (λ (ss : List Subscriber). slice_get ss (range_place 1 (length ss) 0)) subscribes;
        same_owner = refl;
      }

  is_owner : (p : Partition) (id : Text) (b : Bool) → eq_by_cmp partition_cmp p PARTITION ≡ b → cond b (Some m) None ≡ Some id → IsRangeOwner IMAGE (lone m r ∷ []) p id
  is_owner p id true same is =
      subst (λ (q : Partition). IsRangeOwner IMAGE (lone m r ∷ []) q id) (sym (same_partition p same))
      (subst (λ (k : Text). IsRangeOwner IMAGE (lone m r ∷ []) PARTITION k) (some_is m id is) owns_it)
  is_owner p id false apart is = absurd (not_none id is)

  its_owner : (p : Partition) (id : Text) → IsRangeOwner IMAGE (lone m r ∷ []) p id → finite.get (owned_by m) p ≡ Some id
  its_owner p id o = by (tie o.name NAME)
    where
      only : (a b : Subscriber) (k : ℕ) → slice_get (a ∷ []) k ≡ Some b → b ≡ a
      only a b zero is = sym (some_is a b is)
      only a b (suc k) is = absurd (not_none b is)

      by : Tie o.name NAME → finite.get (owned_by m) p ≡ Some id
      by (ties same) =
          let topic : o.topic ≡ TOPIC = sym (some_is TOPIC o.topic (sym (get-inserted text_cmp_total finite.empty NAME TOPIC) ∙ ap (finite.get IMAGE) (sym same) ∙ o.of_view)) in
          let below : o.index < 1 = subst (λ (t : Topic). o.index < t.count) topic o.below in
          let first : o.index ≡ 0 = omega (arith, below) in
          let is_p : p ≡ PARTITION = λ i. record { topic = (o.same_id ∙ ap (λ (t : Topic). t.id) topic) i; index = (o.is_index ∙ ap pos first) i } in
          let subscribers : subscribers_of (lone m r ∷ []) o.name ≡ lone m r ∷ [] = ap (subscribers_of (lone m r ∷ [])) same ∙ subscribes in
          let owner : o.owner ≡ lone m r = only (lone m r) o.owner _ (ap (λ (ss : List Subscriber). slice_get ss (range_place o.topic.count (length (subscribers_of (lone m r ∷ []) o.name)) o.index)) (sym subscribers) ∙ o.place) in
          ap (finite.get (owned_by m)) is_p
          ∙ get-inserted partition_cmp_total finite.empty PARTITION m
          ∙ ap Some (sym (ap (λ (s : Subscriber). s.id) owner) ∙ o.same_owner)
      by (differs other apart) = absurd (not_none o.topic (sym (get-alone NAME o.name TOPIC ∙ ap (λ b. cond b (Some TOPIC) None) apart) ∙ o.of_view))

  range : IsRange IMAGE (lone m r ∷ []) (owned_by m)
  range p id = (λ is. is_owner p id (eq_by_cmp partition_cmp p PARTITION) refl (sym (owner_of m p) ∙ is), its_owner p id)

  members : AreMembers (alone m r) (lone m r ∷ [])
  members =
      record {
        same = subst (λ (es : List (Text × Record)). IsPermutation (map subscriber_of es) (lone m r ∷ [])) (sym (entries-single text_cmp_total m r)) (IsPermutation-refl (lone m r ∷ []));
        sorted = λ k d low below. absurd (omega (arith, below));
      }

-- ---- it joins a group that nobody is in

abbrev pub joining : Text → Stamp → ℕ → Record
joining name stamp now = record_of_join None (join_as name) stamp now

pub none_granted : (m : Text) → IsBounded m nothing
none_granted m n p holds = absurd (true≢false (sym holds ∙ has-nothing grant_cmp (n, p)))

named_nobody : (name : Text) → record_under finite.empty name ≡ None
named_nobody name = own_so finite.empty name (finite.get-empty text_cmp []) ∙ finite.get-empty text_cmp name

nobody_else : (name : Text) → other_with finite.empty name (Some INSTANCE) ≡ None
nobody_else name =
    ap (λ (es : List (Text × Record)). member_at finite.empty (find (λ n. not (eq_by_cmp text_cmp name n) && has_instance INSTANCE (finite.get (finite.empty {X = Record} {R = text_cmp}) n)) (map (λ e. e.0) es)))
    (entries-empty text_cmp Record)

module _ (m name : Text) (epoch target_epoch clock serial next moment : ℕ) (past : Past) (former : Target) (view : Topics) (stamp : Stamp) where
  abbrev Before : Group
  Before = group_at epoch target_epoch finite.empty former nothing view clock serial past

  abbrev Now : ℕ
  Now = max clock moment

  abbrev TheArrival : Arrival
  TheArrival = record { heartbeat = join_as name; stamp = stamp; moment = moment; image = IMAGE }

  abbrev R : Record
  R = joining name stamp Now

  abbrev Changed : Topics → Group
  Changed seen = group_at (suc epoch) target_epoch (alone m R) former nothing seen Now next (without_past past m)

  abbrev pub JoinKept : Record
  JoinKept = Kept m (suc epoch) (suc epoch) Now next (without_past past m) IMAGE R nothing (none_granted m)

  abbrev pub JoinLeft : Group
  JoinLeft = After m (suc epoch) (suc epoch) Now next (without_past past m) IMAGE R nothing (none_granted m)

  abbrev pub JoinTold : Reply
  JoinTold = Told m (suc epoch) (suc epoch) Now next (without_past past m) IMAGE R nothing (none_granted m)

  module _ (named : IsNamed Before name (Some (record { id = m; next_serial = next }))) (unheard : is_of_past past name stamp ≡ false)
      (rises : (suc epoch == target_epoch) ≡ false) (below : nat_le GREATEST_EPOCH epoch ≡ false) where
    renews : Renews (Changed IMAGE) (Renewed m (suc epoch) (suc epoch) Now next (without_past past m) IMAGE R nothing (none_granted m))
    renews = subst (λ b. RenewsWhere b (Changed IMAGE) (Renewed m (suc epoch) (suc epoch) Now next (without_past past m) IMAGE R nothing (none_granted m))) (sym rises)
        (owned_by m, (lone m R ∷ [], members m R refl, range m R refl), refl)

    abbrev TheSender : Sender
    TheSender = record { own = None; other = None }

    abbrev TheDraft : Draft
    TheDraft = draft_under (record { id = m; next_serial = next }) TheSender Before TheArrival

    taken_in : TakesIn Before TheDraft (join_as name) IMAGE (Replied JoinTold) JoinLeft
    taken_in =
        record {
          change = true;
          is_change = refl;
          step = subst (λ (v : Verdict). ByVerdict v (Stages (Changed (view_for IMAGE (alone m R))) TheDraft (join_as name)) Before (Replied JoinTold) JoinLeft) (sym (ap (λ b. if b then Refused codes.CoordinatorNotAvailable else Accepted) below))
              (subst (λ (seen : Topics). Stages (Changed seen) TheDraft (join_as name) (Replied JoinTold) JoinLeft) (sym (view_is m R refl))
              (stages m (suc epoch) (suc epoch) Now next (without_past past m) IMAGE R nothing (none_granted m) (Changed IMAGE) TheDraft.group None R name renews));
        }

    accepted : verdict_on Joins TheSender Before (join_as name) stamp ≡ Accepted
    accepted =
        λ i. first_of ((false, Refused codes.InvalidRequest) ∷ (false, Refused codes.UnsupportedAssignor) ∷ (unheard i, Overtaken) ∷ (false, Refused codes.UnreleasedInstanceId)
        ∷ (ap (nat_le MOST_MEMBERS) (finite.len-empty text_cmp Record) i, Refused codes.GroupMaxSizeReached) ∷ [])

    abbrev By : Sender → Type 0
    By sender = ByVerdict (verdict_on Joins sender Before (join_as name) stamp) (StepOf Joins sender Before TheArrival) Before (Replied JoinTold) JoinLeft

    pub joins_alone : HeartbeatStep Before TheArrival (Replied JoinTold) JoinLeft
    joins_alone =
        subst By (λ i. record { own = sym (named_nobody name) i; other = sym (nobody_else name) i })
        (subst (λ (v : Verdict). ByVerdict v (StepOf Joins TheSender Before TheArrival) Before (Replied JoinTold) JoinLeft) (sym accepted)
        (record { name = Some (record { id = m; next_serial = next }); is_named = named; joins = taken_in }))

-- ---- its ids, and those of the groups

abbrev pub ID1 : Text
ID1 = made_id 0 1

abbrev pub ID2 : Text
ID2 = made_id 0 2

abbrev pub stamp_at : ℕ → ℕ → Stamp
stamp_at connection frame = record { connection = connection; frame = frame }

not_empty : (n : ℕ) → made_id 0 n ≢ []
not_empty n same = let never : 36 ≡ 0 = sym (length-made_id 0 n) ∙ ap length same in absurd (omega (arith, never))

never_empty : (n : ℕ) → eq_by_cmp text_cmp [] (made_id 0 n) ≡ false
never_empty n = no_tie [] (made_id 0 n) (λ same. not_empty n (sym same))

pub ids_apart : eq_by_cmp text_cmp ID2 ID1 ≡ false
ids_apart = no_tie ID2 ID1 (λ same. let never : 2 ≡ 1 = made_ids_differ 0 2 1 (omega arith) (omega arith) same in absurd (omega (arith, never)))

pub ids_apart_too : eq_by_cmp text_cmp ID1 ID2 ≡ false
ids_apart_too = no_tie ID1 ID2 (λ same. let never : 1 ≡ 2 = made_ids_differ 0 1 2 (omega arith) (omega arith) same in absurd (omega (arith, never)))

its_record : (n : ℕ) (r : Record) → record_under (alone (made_id 0 n) r) (made_id 0 n) ≡ Some r
its_record n r =
    own_so (alone (made_id 0 n) r) (made_id 0 n) (get-alone (made_id 0 n) [] r ∙ ap (λ b. cond b (Some r) None) (never_empty n))
    ∙ get-inserted text_cmp_total finite.empty (made_id 0 n) r

-- ---- it joins

abbrev pub Joined : Group
Joined = JoinLeft ID1 [] 0 0 0 1 2 0 [] finite.empty finite.empty (stamp_at 1 1)

abbrev pub Member1 : Record
Member1 = JoinKept ID1 [] 0 0 0 1 2 0 [] finite.empty finite.empty (stamp_at 1 1)

pub joins : HeartbeatStep (new_group 0) (record { heartbeat = join_as []; stamp = stamp_at 1 1; moment = 0; image = IMAGE }) (Replied (JoinTold ID1 [] 0 0 0 1 2 0 [] finite.empty finite.empty (stamp_at 1 1))) Joined
joins = joins_alone ID1 [] 0 0 0 1 2 0 [] finite.empty finite.empty (stamp_at 1 1) (Some 1, next, refl) refl refl refl
  where
    next : IsNextSerial (new_group 0) 1
    next =
        record {
          from = omega arith;
          below = omega arith;
          fresh = ap (λ (o : Option Record). is_some o || false) (finite.get-empty text_cmp ID1);
          first = λ k from below. absurd (omega (arith, from, below));
        }

-- ---- it goes away

abbrev pub going_away : Text → Heartbeat
going_away m =
    record {
      group = GROUP;
      member = m;
      epoch = GOES_AWAY_AT;
      instance = Some INSTANCE;
      rack = None;
      rebalance_timeout = SAME_TIMEOUT;
      names = None;
      assignor = None;
      owned = None;
    }

abbrev pub AwayMember : Record
AwayMember = away Member1 (stamp_at 1 2) 0

abbrev pub Deserted : Group
Deserted = group_at 1 1 (alone ID1 AwayMember) (owned_by ID1) (granted_to ID1) IMAGE 0 2 []

abbrev Going : Arrival
Going = record { heartbeat = going_away ID1; stamp = stamp_at 1 2; moment = 0; image = IMAGE }

abbrev Left : Group
Left = gone_away Joined ID1 Member1 (stamp_at 1 2) 0

abbrev sent_by : Option Record → Sender
sent_by own = record { own = own; other = other_with Joined.records ID1 (Some INSTANCE) }

abbrev GoesBy : Option Record → Type 0
GoesBy own = ByVerdict (verdict_on GoesAway (sent_by own) Joined (going_away ID1) (stamp_at 1 2)) (StepOf GoesAway (sent_by own) Joined Going) Joined (Replied (farewell ID1 GOES_AWAY_AT)) Left

pub goes_away : HeartbeatStep Joined Going (Replied (farewell ID1 GOES_AWAY_AT)) Deserted
goes_away =
    subst (λ (g : Group). HeartbeatStep Joined Going (Replied (farewell ID1 GOES_AWAY_AT)) g)
    (λ i. group_at 1 1 (insert-insert text_cmp_total text_cmp-IsAntisymmetric finite.empty ID1 Member1 AwayMember i) (owned_by ID1) (granted_to ID1) IMAGE 0 2 [])
    (subst GoesBy (sym (its_record 1 Member1))
    (subst (λ (v : Verdict). ByVerdict v (StepOf GoesAway (sent_by (Some Member1)) Joined Going) Joined (Replied (farewell ID1 GOES_AWAY_AT)) Left) (sym accepted) (refl, refl)))
  where
    accepted : verdict_on GoesAway (sent_by (Some Member1)) Joined (going_away ID1) (stamp_at 1 2) ≡ Accepted
    accepted = λ i. first_of ((ap (λ n. (n == 0) || false) (length-made_id 0 1) i, Refused codes.InvalidRequest) ∷ (false, Refused codes.UnknownMemberId) ∷ (false, Overtaken) ∷ [])

-- ---- another one takes its place over

abbrev pub Heir : Record
Heir = record_of_join (Some AwayMember) (join_as []) (stamp_at 2 1) 0

abbrev pub Past1 : Past
Past1 = (ID1, stamp_at 1 2) ∷ []

abbrev Handed : Grants
Handed = granting (grants_of_others (granted_to ID1) ID1) ID2 (in_order (held (granted_to ID1) ID1))

never_both : (b c : Bool) → (not b && (b && c)) ≡ false
never_both true c = refl
never_both false c = refl

and_both : (b c : Bool) → (b && c) ≡ true → (b ≡ true) × (c ≡ true)
and_both true c is = (refl, is)
and_both false c never = absurd (true≢false (sym never))

others_granted : (m n : Text) (p : Partition) → has (grants_of_others (granted_to m) m) (n, p) ≡ false
others_granted m n p =
    has-others (granted_to m) m n p
    ∙ (λ i. not ((eq_by_cmp_equiv text_cmp_total).symm m n i) && has_granted m n p i)
    ∙ never_both (eq_by_cmp text_cmp n m) (eq_by_cmp partition_cmp p PARTITION)

has_handed : (n : Text) (p : Partition) → has Handed (n, p) ≡ (eq_by_cmp text_cmp n ID2 && eq_by_cmp partition_cmp p PARTITION)
has_handed n p =
    has-granting (grants_of_others (granted_to ID1) ID1) ID2 (in_order (held (granted_to ID1) ID1)) n p
    ∙ (λ i. (eq_by_cmp text_cmp n ID2 && its_own i) || others_granted ID1 n p i)
    ∙ or_none (eq_by_cmp text_cmp n ID2 && eq_by_cmp partition_cmp p PARTITION)
  where
    its_own : list_any (eq_by_cmp partition_cmp p) (in_order (held (granted_to ID1) ID1)) ≡ eq_by_cmp partition_cmp p PARTITION
    its_own =
        sym (has-in_order (held (granted_to ID1) ID1) p)
        ∙ has-held (granted_to ID1) ID1 p
        ∙ has_granted ID1 ID1 p
        ∙ ap (λ b. b && eq_by_cmp partition_cmp p PARTITION) (text_ties ID1)

pub handed_over : IsBounded ID2 Handed
handed_over n p holds =
    let both = and_both (eq_by_cmp text_cmp n ID2) (eq_by_cmp partition_cmp p PARTITION) (sym (has_handed n p) ∙ holds) in
    (same_text n ID2 both.0, same_partition p both.1)

abbrev pub TakenOver : Group
TakenOver = After ID2 1 1 0 3 Past1 IMAGE Heir Handed handed_over

abbrev pub Member2 : Record
Member2 = Kept ID2 1 1 0 3 Past1 IMAGE Heir Handed handed_over

abbrev pub HeirTold : Reply
HeirTold = Told ID2 1 1 0 3 Past1 IMAGE Heir Handed handed_over

no_records : (m : Text) (r : Record) → finite.remove (alone m r) m ≡ finite.empty
no_records m r =
    finite.same_map text_cmp_total text_cmp-IsAntisymmetric _ _ (λ n.
    finite.get-remove text_cmp_total (alone m r) m n
    ∙ ap (cond (eq_by_cmp text_cmp n m) None) (get-alone m n r)
    ∙ by (eq_by_cmp text_cmp n m)
    ∙ sym (finite.get-empty text_cmp n))
  where
    by : (b : Bool) → cond b None (cond b (Some r) None) ≡ None
    by true = refl
    by false = refl

heirs_target : renamed (owned_by ID1) ID1 ID2 ≡ owned_by ID2
heirs_target =
    finite.same_map partition_cmp_total partition_cmp-IsAntisymmetric _ _ (λ p.
    get-renamed (owned_by ID1) ID1 ID2 p
    ∙ ap (option_map (renamed_id ID1 ID2)) (owner_of ID1 p)
    ∙ by (eq_by_cmp partition_cmp p PARTITION)
    ∙ sym (owner_of ID2 p))
  where
    by : (b : Bool) → option_map (renamed_id ID1 ID2) (cond b (Some ID1) None) ≡ cond b (Some ID2) None
    by true = ap (λ b. Some (if b then ID2 else ID1)) ((bytes_eq-Decides ID1 ID1).1 refl)
    by false = refl

abbrev AwayOne : Sender
AwayOne = record { own = None; other = Some (record { id = ID1; kept = AwayMember }) }

abbrev has_its : Text → Bool
has_its n = not (eq_by_cmp text_cmp [] n) && has_instance INSTANCE (finite.get (alone ID1 AwayMember) n)

away_one : other_with (alone ID1 AwayMember) [] (Some INSTANCE) ≡ AwayOne.other
away_one =
    ap (λ (es : List (Text × Record)). member_at (alone ID1 AwayMember) (find has_its (map (λ e. e.0) es))) (entries-single text_cmp_total ID1 AwayMember)
    ∙ (λ i. member_at (alone ID1 AwayMember) (cond (not (never_empty 1 i) && has_instance INSTANCE (get-inserted text_cmp_total finite.empty ID1 AwayMember i)) (Some ID1) None))
    ∙ ap (option_map (λ (r : Record). record { id = ID1; kept = r })) (get-inserted text_cmp_total finite.empty ID1 AwayMember)

abbrev Coming : Arrival
Coming = record { heartbeat = join_as []; stamp = stamp_at 2 1; moment = 0; image = IMAGE }

abbrev draft_with : Group → Draft
draft_with g = record { group = g; id = ID2; before = Some AwayMember; after = Heir }

drafted : (draft_under (record { id = ID2; next_serial = 3 }) AwayOne Deserted Coming).group ≡ Renewed ID2 1 1 0 3 Past1 IMAGE Heir Handed handed_over
drafted =
    λ i. group_at 1 1 (records i) (heirs_target i) Handed IMAGE 0 3 (cond (not (ids_apart i)) Past1 [])
  where
    records : finite.insert (finite.insert (finite.remove (alone ID1 AwayMember) ID1) ID2 AwayMember) ID2 Heir ≡ alone ID2 Heir
    records =
        insert-insert text_cmp_total text_cmp-IsAntisymmetric (finite.remove (alone ID1 AwayMember) ID1) ID2 AwayMember Heir
        ∙ ap (λ (rs : Records). finite.insert rs ID2 Heir) (no_records ID1 AwayMember)

pub takes_over : HeartbeatStep Deserted Coming (Replied HeirTold) TakenOver
takes_over =
    subst (λ (o : Option Member). ByVerdict (verdict_on Joins (record { own = None; other = o }) Deserted (join_as []) (stamp_at 2 1)) (StepOf Joins (record { own = None; other = o }) Deserted Coming) Deserted (Replied HeirTold) TakenOver)
    (sym away_one)
    (record {
      name = Some (record { id = ID2; next_serial = 3 });
      is_named = (Some 2, next, refl);
      joins = subst (λ (g : Group). TakesIn Deserted (draft_with g) (join_as []) IMAGE (Replied HeirTold) TakenOver) (sym drafted)
          (record {
            change = false;
            is_change = record { names = refl; assignor = refl; view = sym (view_is ID2 Heir refl) };
            step = stages ID2 1 1 0 3 Past1 IMAGE Heir Handed handed_over
                (Renewed ID2 1 1 0 3 Past1 IMAGE Heir Handed handed_over) (Renewed ID2 1 1 0 3 Past1 IMAGE Heir Handed handed_over) (Some AwayMember) Heir [] refl;
          });
    })
  where
    next : IsNextSerial Deserted 2
    next =
        record {
          from = omega arith;
          below = omega arith;
          fresh = ap (λ (o : Option Record). is_some o || false) (get-alone ID1 ID2 AwayMember ∙ ap (λ b. cond b (Some AwayMember) None) ids_apart);
          first = λ k from below. absurd (omega (arith, from, below));
        }

-- ---- it is removed

abbrev pub Past2 : Past
Past2 = (ID1, stamp_at 1 2) ∷ (ID2, stamp_at 2 1) ∷ []

abbrev pub Expired : Group
Expired = group_at 2 1 finite.empty (without_owner (owned_by ID2) ID2) nothing IMAGE 45000 3 Past2

pub expires : ticked TakenOver 45000 ≡ Expired
expires =
    ap (λ (es : List (Text × Record)). expired (at_moment TakenOver 45000) (filter (λ m. is_due 45000 m.1) es)) (entries-single text_cmp_total ID2 Member2)
    ∙ (λ i. group_at 2 1 (no_records ID2 Member2 i) (without_owner (owned_by ID2) ID2) (no_grants i) IMAGE 45000 3 Past2)
  where
    no_grants : grants_of_others (granted_to ID2) ID2 ≡ nothing
    no_grants = same_set grant_cmp_total grant_cmp-IsAntisymmetric _ _ (λ g. others_granted ID2 g.0 g.1 ∙ sym (has-nothing grant_cmp g))

-- ---- it is told so

-- a beat at an epoch that says nothing else
abbrev pub beating : Text → ℕ → Heartbeat
beating m epoch =
    record {
      group = GROUP;
      member = m;
      epoch = pos epoch;
      instance = None;
      rack = None;
      rebalance_timeout = SAME_TIMEOUT;
      names = None;
      assignor = None;
      owned = None;
    }

abbrev Beating : Arrival
Beating = record { heartbeat = beating ID2 1; stamp = stamp_at 2 2; moment = 45000; image = IMAGE }

pub is_unknown : HeartbeatStep Expired Beating (Replied (refusal codes.UnknownMemberId)) Expired
is_unknown =
    subst (λ (v : Verdict). ByVerdict v (StepOf (Beats 1) (sender_of Expired.records (beating ID2 1)) Expired Beating) Expired (Replied (refusal codes.UnknownMemberId)) Expired)
    (sym refused) (refl, refl)
  where
    refused : verdict_on (Beats 1) (sender_of Expired.records (beating ID2 1)) Expired (beating ID2 1) (stamp_at 2 2) ≡ Refused codes.UnknownMemberId
    refused =
        (λ i. verdict_on (Beats 1) (record { own = named_nobody ID2 i; other = None }) Expired (beating ID2 1) (stamp_at 2 2))
        ∙ ap (λ n. if (n == 0) || false then Refused codes.InvalidRequest else Refused codes.UnknownMemberId) (length-made_id 0 2)

-- ---- it joins again under its former id

named_as : (g : Group) (m : Text) → m ≢ [] → IsNamed g m (Some (record { id = m; next_serial = g.serial }))
named_as g [] given = absurd (given refl)
named_as g (c ∷ m) given = refl

abbrev pub Rejoined : Group
Rejoined = JoinLeft ID2 ID2 2 1 45000 3 3 45000 Past2 (without_owner (owned_by ID2) ID2) IMAGE (stamp_at 2 3)

abbrev pub RejoinKept : Record
RejoinKept = JoinKept ID2 ID2 2 1 45000 3 3 45000 Past2 (without_owner (owned_by ID2) ID2) IMAGE (stamp_at 2 3)

abbrev pub RejoinTold : Reply
RejoinTold = JoinTold ID2 ID2 2 1 45000 3 3 45000 Past2 (without_owner (owned_by ID2) ID2) IMAGE (stamp_at 2 3)

pub rejoins : HeartbeatStep Expired (record { heartbeat = join_as ID2; stamp = stamp_at 2 3; moment = 45000; image = IMAGE }) (Replied RejoinTold) Rejoined
rejoins =
    joins_alone ID2 ID2 2 1 45000 3 3 45000 Past2 (without_owner (owned_by ID2) ID2) IMAGE (stamp_at 2 3)
    (named_as Expired ID2 (not_empty 2)) (λ i. (ids_apart i && false) || ((text_ties ID2 i && false) || false)) refl refl
