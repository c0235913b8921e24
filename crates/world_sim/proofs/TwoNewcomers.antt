-- Two newcomers, and the group that they join one after the other.
use Rattle.std.proofs.Common.{◌≡◌, ◌≢◌, ◌⊎◌, ◌≤◌, ℕ, zero, suc, Bool, true, false, cond, ◌&&◌, ◌||◌, List, [], ◌∷◌, ◌++◌, length, map, nat_le, slice_index, sum_by, Some, None, inl, inr, refl, sym, ap, subst, ◌∙◌, true≢false, arith}
use Rattle.std.specs.List.{list_any}
use Rattle.std.specs.List.Sorted.{IsSorted}
use Rattle.std.specs.Ordering.{eq_by_cmp, is_lt}
use Rattle.std.specs.declared.cmp.Ordering.TheVariants.{Greater}
use Rattle.std.specs.Str.{bytes_eq}
use Rattle.std.specs.FinMap as finite
use Rattle.std.specs.FinMap.{put}
use Rattle.std.specs.FinMap.Entries.{by_order}
use Rattle.uuid.specs.Text.{by_index}
use Rattle.flex_wire.specs.Spelling.{FitsText, FitsUuid, signed, varint, varint_groups, compact_string, compact_nullable_string, nullable_string, tagged_fields, array_count, nullable_array_count}
use Rattle.kip_msgs.specs.Spelling.{request_body, reply_body, request_header_fields, response_header_fields, heartbeat_request_fields, heartbeat_reply_fields, assignment_fields, topic_partitions_fields, nullable_struct}
use Rattle.group_types.specs.declared.partition.Partition.{Partition}
use Rattle.group_types.specs.Limits.{MOST_MEMBERS, MOST_TOPIC_PARTITIONS}
use Rattle.group_types.specs.Text.{Text, text_cmp}
use Rattle.group_types.specs.Sets.{has, nothing}
use Rattle.group_types.specs.Partition.{partition_cmp}
use Rattle.group_types.specs.Topics.{Topic, Topics}
use Rattle.group_types.specs.Images.{AreImageTopics, partition_count}
use Rattle.group_types.specs.Assignors.{Subscriber, member_cmp, subscribers_of}
use Rattle.group_types.specs.Owners.{IsRange, Spread}
use Rattle.group_types.specs.Group.{Group, Record, Records, Target, grant_cmp, new_group}
use Rattle.group_types.specs.Renewal.{is_subscribed, subscriber_of, view_for}
use Rattle.group_types.specs.HeartbeatStep.{Replied, HeartbeatStep}
use Rattle.group_types.proofs.BoolLemmas.{or_none}
use Rattle.group_types.proofs.GrantLemmas.{eq-grant, grant_cmp_total}
use Rattle.group_types.proofs.Lookups.{Found, this, another, found, not_none, same_text, some_is}
use Rattle.group_types.proofs.MadeIds.{made_ids_differ}
use Rattle.group_types.proofs.Orders.{text_cmp_total, text_cmp-IsAntisymmetric, partition_cmp_total}
use Rattle.group_types.proofs.SetLemmas.{has-nothing, has-with_one}
use Rattle.group_core.proofs.Single.{entries-empty, entries-single, get-inserted}
use Rattle.world_sim.proofs.GrownTarget.{IsNewTo, is_range, names_own}
use Rattle.world_sim.proofs.Newcomers.{Newcomer, arrival_of, id_of, joined_by, kept_of, newest, partition_of, reply_to, topic_of}
use Rattle.world_sim.proofs.NewcomerJoin.{IsWelcome, grown_view, newcomer_joins}
use Rattle.world_sim.proofs.NewcomerMessages.{IsSized, IsSpelled, join_in}

abbrev pub One : Newcomer
One = record { earlier = 0; name = 116 ∷ []; topic = 7 ∷ 7 ∷ 7 ∷ 7 ∷ 7 ∷ 7 ∷ 7 ∷ 7 ∷ 7 ∷ 7 ∷ 7 ∷ 7 ∷ 7 ∷ 7 ∷ 7 ∷ 7 ∷ [] }

abbrev pub Two : Newcomer
Two = record { earlier = 1; name = 117 ∷ []; topic = 8 ∷ 8 ∷ 8 ∷ 8 ∷ 8 ∷ 8 ∷ 8 ∷ 8 ∷ 8 ∷ 8 ∷ 8 ∷ 8 ∷ 8 ∷ 8 ∷ 8 ∷ 8 ∷ [] }

-- ---- their messages

pub name_fits : FitsText One.name × FitsText Two.name
unfolding lib.Utf8.encode
name_fits = (record { length = omega arith; utf8 = (One.name, (refl, refl)) }, record { length = omega arith; utf8 = (Two.name, (refl, refl)) })

no_name : FitsText []
unfolding lib.Utf8.encode
no_name = record { length = omega arith; utf8 = ([], (refl, refl)) }

joins_fit : IsSized One (join_in One) × IsSized Two (join_in Two)
unfolding request_body request_header_fields heartbeat_request_fields reply_body response_header_fields heartbeat_reply_fields signed varint varint_groups compact_string compact_nullable_string nullable_string tagged_fields array_count nullable_array_count nullable_struct assignment_fields topic_partitions_fields by_index
joins_fit = (record { some_bytes = refl; request_fits = refl; reply_fits = refl }, record { some_bytes = refl; request_fits = refl; reply_fits = refl })

pub one_spelled : IsSpelled One (join_in One)
one_spelled =
    record {
      name = name_fits.0;
      topic = refl;
      member = no_name;
      number = omega arith;
      epoch = omega arith;
      below = omega arith;
      sized = joins_fit.0;
    }

pub two_spelled : IsSpelled Two (join_in Two)
two_spelled =
    record {
      name = name_fits.1;
      topic = refl;
      member = no_name;
      number = omega arith;
      epoch = omega arith;
      below = omega arith;
      sized = joins_fit.1;
    }

-- ---- their ids

pub ids_differ : id_of One ≢ id_of Two
ids_differ same = let never : 1 ≡ 2 = made_ids_differ 0 1 2 (omega arith) (omega arith) same in absurd (omega (arith, never))

in_turn : text_cmp (id_of Two) (id_of One) ≡ Greater
unfolding by_index
in_turn = refl

pub apart_ids : (eq_by_cmp text_cmp (id_of One) (id_of Two) ≡ false) × (eq_by_cmp text_cmp (id_of Two) (id_of One) ≡ false)
unfolding by_index
apart_ids = (refl, refl)

-- ---- their topics

abbrev pub OneTopic : Topics
OneTopic = finite.insert finite.empty Two.name (topic_of Two)

abbrev pub TwoTopics : Topics
TwoTopics = finite.insert OneTopic One.name (topic_of One)

-- ---- each is of an image

-- it is the newcomer's topic, under its name
abbrev IsTopicOf : Newcomer → Text → Topic → Type 0
IsTopicOf x name t = (name ≡ x.name) × (t ≡ topic_of x)

whose_one : (name : Text) (t : Topic) → finite.get OneTopic name ≡ Some t → IsTopicOf Two name t
whose_one name t is = by (found finite.empty Two.name (topic_of Two) name t is)
  where
    by : Found finite.empty Two.name (topic_of Two) name t → IsTopicOf Two name t
    by (this same topic) = (same, topic)
    by (another _ _ never) = absurd (not_none t (sym (finite.get-empty text_cmp name) ∙ never))

whose_two : (name : Text) (t : Topic) → finite.get TwoTopics name ≡ Some t → IsTopicOf One name t ⊎ IsTopicOf Two name t
whose_two name t is = by (found OneTopic One.name (topic_of One) name t is)
  where
    by : Found OneTopic One.name (topic_of One) name t → IsTopicOf One name t ⊎ IsTopicOf Two name t
    by (this same topic) = inl (same, topic)
    by (another _ _ before) = inr (whose_one name t before)

entries_one : finite.entries OneTopic ≡ (Two.name, topic_of Two) ∷ []
entries_one = entries-single text_cmp_total Two.name (topic_of Two)

entries_two : finite.entries TwoTopics ≡ (One.name, topic_of One) ∷ (Two.name, topic_of Two) ∷ []
entries_two = finite.entries-insert text_cmp_total OneTopic One.name (topic_of One) ∙ ap (put text_cmp One.name (topic_of One)) entries_one

topics_differ : One.topic ≢ Two.topic
topics_differ same = let never : 7 ≡ 8 = ap (λ id. slice_index id 0) same in absurd (omega (arith, never))

fits_topic : (x : Newcomer) (t : Topic) → FitsUuid x.topic → t ≡ topic_of x → FitsUuid t.id
fits_topic x t fits is = subst (λ (s : Topic). FitsUuid s.id) (sym is) fits

counts_topic : (x : Newcomer) (t : Topic) → t ≡ topic_of x → (1 ≤ t.count) × (t.count ≤ MOST_TOPIC_PARTITIONS)
counts_topic x t is = let one : t.count ≡ 1 = ap (λ (s : Topic). s.count) is in (omega (arith, one), omega (arith, one))

pub one_is_images : AreImageTopics OneTopic
one_is_images =
    record {
      ids_apart = λ p q s t is_s is_t same. (whose_one p s is_s).0 ∙ sym (whose_one q t is_t).0;
      ids = λ name t is. fits_topic Two t refl (whose_one name t is).1;
      counts = λ name t is. counts_topic Two t (whose_one name t is).1;
      few = let all : finite.len OneTopic ≡ 1 = finite.len-entries OneTopic ∙ ap length entries_one in omega (arith, all);
      few_partitions = let all : partition_count OneTopic ≡ 1 = ap (sum_by (λ e. e.1.count)) entries_one in omega (arith, all);
    }

pub two_are_images : AreImageTopics TwoTopics
two_are_images =
    record {
      ids_apart = λ p q s t is_s is_t same. apart p q s t (whose_two p s is_s) (whose_two q t is_t) same;
      ids = λ name t is. elim (whose_two name t is) [
        | inl it ↦ fits_topic One t refl it.1
        | inr it ↦ fits_topic Two t refl it.1
      ];
      counts = λ name t is. elim (whose_two name t is) [
        | inl it ↦ counts_topic One t it.1
        | inr it ↦ counts_topic Two t it.1
      ];
      few = let all : finite.len TwoTopics ≡ 2 = finite.len-entries TwoTopics ∙ ap length entries_two in omega (arith, all);
      few_partitions = let all : partition_count TwoTopics ≡ 2 = ap (sum_by (λ e. e.1.count)) entries_two in omega (arith, all);
    }
  where
    id_is : (x : Newcomer) (name : Text) (t : Topic) → IsTopicOf x name t → t.id ≡ x.topic
    id_is x name t is = ap (λ (s : Topic). s.id) is.1

    apart : (p q : Text) (s t : Topic) → IsTopicOf One p s ⊎ IsTopicOf Two p s → IsTopicOf One q t ⊎ IsTopicOf Two q t → s.id ≡ t.id → p ≡ q
    apart p q s t (inl one) (inl other) same = one.0 ∙ sym other.0
    apart p q s t (inl one) (inr two) same = absurd (topics_differ (sym (id_is One p s one) ∙ same ∙ id_is Two q t two))
    apart p q s t (inr two) (inl one) same = absurd (topics_differ (sym (id_is One q t one) ∙ sym same ∙ id_is Two p s two))
    apart p q s t (inr two) (inr other) same = two.0 ∙ sym other.0

-- ---- the first one's join

nobody : finite.entries (finite.empty {X = Record} {R = text_cmp}) ≡ []
nobody = entries-empty text_cmp Record

-- under range nobody owns anything of no topic
none_owns : (subs : List Subscriber) → IsRange finite.empty subs finite.empty
none_owns subs p id = (
  λ is. absurd (not_none id (sym (finite.get-empty partition_cmp p) ∙ is)),
  λ o. absurd (not_none o.topic (sym (finite.get-empty text_cmp o.name) ∙ o.of_view)),
)

no_topic : (x : Newcomer) (subs : List Subscriber) → subscribers_of subs x.name ≡ [] → IsNewTo x finite.empty subs
no_topic x subs nobody =
    record {
      name = finite.get-empty text_cmp x.name;
      topic = λ name t there. absurd (not_none t (sym (finite.get-empty text_cmp name) ∙ there));
      nobody = nobody;
    }

get_view : (image : Topics) (records : Records) (name : Text) → finite.get (view_for image records) name ≡ cond (is_subscribed records name) (finite.get image name) None
get_view image records name = finite.get-retain_keys image (is_subscribed records) name (λ y tied. ap (is_subscribed records) (sym (text_cmp-IsAntisymmetric name y tied)))

no_view : (image : Topics) → view_for image finite.empty ≡ finite.empty
no_view image =
    finite.same_map text_cmp_total text_cmp-IsAntisymmetric _ _ (λ name.
    get_view image finite.empty name
    ∙ ap (λ (es : List (Text × Record)). cond (list_any (λ (r : Record). has r.names name) (map (λ e. e.1) es)) (finite.get image name) None) nobody
    ∙ sym (finite.get-empty text_cmp name))

one_is_welcome : IsWelcome One TwoTopics finite.empty nothing [] finite.empty finite.empty
one_is_welcome =
    record {
      serial = omega arith;
      epoch = refl;
      few = ap (nat_le MOST_MEMBERS) (finite.len-empty text_cmp Record);
      fresh = finite.get-empty text_cmp (id_of One);
      last = λ r. entries-single text_cmp_total (id_of One) r ∙ ap (λ (es : List (Text × Record)). es ++ (id_of One, r) ∷ []) (sym nobody);
      are_others = ap (map subscriber_of) nobody;
      sorted = λ k d low below. absurd (omega (arith, below));
      assignor = refl;
      of_image = get-inserted text_cmp_total OneTopic One.name (topic_of One);
      is_view = no_view TwoTopics;
      is_new = no_topic One [] refl;
      range = none_owns [];
      unowned = λ p is. not_none (id_of One) (sym (finite.get-empty partition_cmp p) ∙ is);
      unheld = λ m. has-nothing grant_cmp (m, partition_of One);
      holds_none = λ p. has-nothing grant_cmp (id_of One, p);
    }

abbrev pub AfterOne : Group
AfterOne = joined_by One finite.empty finite.empty nothing finite.empty

pub one_joins : HeartbeatStep (new_group 0) (arrival_of One TwoTopics) (Replied (reply_to One)) AfterOne
one_joins = newcomer_joins One TwoTopics finite.empty nothing [] finite.empty finite.empty one_is_welcome finite.empty finite.empty

-- of one partition that has an owner nobody else owns anything
pub lone_owner : (x y : Newcomer) → id_of x ≢ id_of y → (p : Partition) → finite.get (finite.insert (finite.empty {R = partition_cmp}) (partition_of x) (id_of x)) p ≢ Some (id_of y)
lone_owner x y differ p is = by (eq_by_cmp partition_cmp p (partition_of x)) (sym (finite.get-insert partition_cmp_total finite.empty (partition_of x) (id_of x) p) ∙ is)
  where
    by : (b : Bool) → cond b (Some (id_of x)) (finite.get (finite.empty {R = partition_cmp}) p) ≡ Some (id_of y) → ⊥
    by true same = differ (some_is (id_of x) (id_of y) same)
    by false there = not_none (id_of y) (sym (finite.get-empty partition_cmp p) ∙ there)

-- ---- the second joins it

alone : finite.entries AfterOne.records ≡ (id_of One, kept_of One) ∷ []
alone = entries-single text_cmp_total (id_of One) (kept_of One)

other_name : subscribers_of (newest One ∷ []) Two.name ≡ []
other_name = ap (λ b. cond b (newest One ∷ []) []) (names_own One Two.name)

few : nat_le MOST_MEMBERS (finite.len AfterOne.records) ≡ false
few = ap (nat_le MOST_MEMBERS) (finite.len-entries AfterOne.records ∙ ap length alone)

pub comes_last : (r : Record) → finite.entries (finite.insert AfterOne.records (id_of Two) r) ≡ finite.entries AfterOne.records ++ (id_of Two, r) ∷ []
comes_last r =
    finite.entries-insert text_cmp_total AfterOne.records (id_of Two) r
    ∙ ap (put text_cmp (id_of Two) r) alone
    ∙ ap (λ o. by_order o ((id_of Two, r) ∷ (id_of One, kept_of One) ∷ []) ((id_of One, r) ∷ []) ((id_of One, kept_of One) ∷ (id_of Two, r) ∷ [])) in_turn
    ∙ ap (λ (es : List (Text × Record)). es ++ (id_of Two, r) ∷ []) (sym alone)

in_member_order : IsSorted member_cmp (newest One ∷ newest Two ∷ [])
in_member_order zero d low below = ap is_lt in_turn
in_member_order (suc k) d low below = absurd (omega (arith, below))

pub has_one : (m : Text) (p : Partition) → has AfterOne.grants (m, p) ≡ (eq_by_cmp text_cmp m (id_of One) && eq_by_cmp partition_cmp p (partition_of One))
has_one m p =
    has-with_one grant_cmp_total nothing (id_of One, partition_of One) (m, p)
    ∙ (λ i. eq-grant m (id_of One) p (partition_of One) i || has-nothing grant_cmp (m, p) i)
    ∙ or_none (eq_by_cmp text_cmp m (id_of One) && eq_by_cmp partition_cmp p (partition_of One))

never : (b : Bool) → (b && false) ≡ false
never true = refl
never false = refl

-- over any image from which the group has a view without its topic, and any target without a partition of its
module _ (image view : Topics) (target : Spread) where
  pub two_is_welcome : finite.get image Two.name ≡ Some (topic_of Two) → view_for image AfterOne.records ≡ view → IsNewTo Two view (newest One ∷ [])
      → IsRange view (newest One ∷ []) target → ((p : Partition) → finite.get target p ≢ Some (id_of Two))
      → IsWelcome Two image AfterOne.records AfterOne.grants (newest One ∷ []) view target
  two_is_welcome of_image is_view is_new range unowned =
      record {
        serial = omega arith;
        epoch = refl;
        few = few;
        fresh = finite.get-insert text_cmp_total finite.empty (id_of One) (kept_of One) (id_of Two) ∙ ap (λ b. cond b (Some (kept_of One)) (finite.get (finite.empty {R = text_cmp}) (id_of Two))) apart_ids.1 ∙ finite.get-empty text_cmp (id_of Two);
        last = comes_last;
        are_others = ap (map subscriber_of) alone;
        sorted = in_member_order;
        assignor = refl;
        of_image = of_image;
        is_view = is_view;
        is_new = is_new;
        range = range;
        unowned = unowned;
        unheld = λ m. has_one m (partition_of Two) ∙ never (eq_by_cmp text_cmp m (id_of One));
        holds_none = λ p. has_one (id_of Two) p ∙ ap (λ b. b && eq_by_cmp partition_cmp p (partition_of One)) apart_ids.1;
      }

-- what the two leave, over a view and a target that don't speak of the second yet
abbrev pub AfterTwo : Topics → Target → Group
AfterTwo view target = joined_by Two AfterOne.records target AfterOne.grants view

-- ---- while both topics are there

another_topic : IsNewTo Two AfterOne.view (newest One ∷ [])
another_topic =
    record {
      name = finite.get-insert text_cmp_total finite.empty One.name (topic_of One) Two.name ∙ finite.get-empty text_cmp Two.name;
      topic = λ name t there. by t (found finite.empty One.name (topic_of One) name t there);
      nobody = other_name;
    }
  where
    by : {name : Text} (t : Topic) → Found finite.empty One.name (topic_of One) name t → t.id ≢ Two.topic
    by t (this same it) is = true≢false (ap (λ (id : List ℕ). bytes_eq id One.topic) (sym (ap (λ (s : Topic). s.id) it) ∙ is))
    by {name = name} t (another _ _ there) is = not_none t (sym (finite.get-empty text_cmp name) ∙ there)

seen_by_one : view_for TwoTopics AfterOne.records ≡ AfterOne.view
seen_by_one =
    grown_view One TwoTopics finite.empty (kept_of One) refl (one_is_welcome.last (kept_of One)) one_is_welcome.of_image
    ∙ ap (λ (v : Topics). finite.insert v One.name (topic_of One)) one_is_welcome.is_view

pub two_joins : HeartbeatStep AfterOne (arrival_of Two TwoTopics) (Replied (reply_to Two)) (AfterTwo AfterOne.view AfterOne.target)
two_joins =
    newcomer_joins Two TwoTopics AfterOne.records AfterOne.grants (newest One ∷ []) AfterOne.view AfterOne.target
    (two_is_welcome TwoTopics AfterOne.view AfterOne.target
    (finite.get-insert text_cmp_total OneTopic One.name (topic_of One) Two.name ∙ get-inserted text_cmp_total finite.empty Two.name (topic_of Two))
    seen_by_one another_topic (is_range One finite.empty [] one_is_welcome.is_new finite.empty one_is_welcome.range) (lone_owner One Two ids_differ))
    AfterOne.target AfterOne.view

-- ---- where the first one's topic is gone by then

pub nothing_seen : view_for OneTopic AfterOne.records ≡ finite.empty
nothing_seen =
    finite.same_map text_cmp_total text_cmp-IsAntisymmetric _ _ (λ name.
    get_view OneTopic AfterOne.records name
    ∙ ap (λ (es : List (Text × Record)). cond (list_any (λ (r : Record). has r.names name) (map (λ e. e.1) es)) (finite.get OneTopic name) None) alone
    ∙ ap (λ b. cond b (finite.get OneTopic name) None) (or_none (has (kept_of One).names name) ∙ names_own One name)
    ∙ by name (eq_by_cmp text_cmp name One.name) refl
    ∙ sym (finite.get-empty text_cmp name))
  where
    gone : finite.get OneTopic One.name ≡ None
    gone = finite.get-insert text_cmp_total finite.empty Two.name (topic_of Two) One.name ∙ finite.get-empty text_cmp One.name

    by : (name : Text) (b : Bool) → eq_by_cmp text_cmp name One.name ≡ b → cond b (finite.get OneTopic name) None ≡ None
    by name true same = ap (finite.get OneTopic) (same_text name One.name same) ∙ gone
    by name false apart = refl

pub two_joins_later : HeartbeatStep AfterOne (arrival_of Two OneTopic) (Replied (reply_to Two)) (AfterTwo finite.empty finite.empty)
two_joins_later =
    newcomer_joins Two OneTopic AfterOne.records AfterOne.grants (newest One ∷ []) finite.empty finite.empty
    (two_is_welcome OneTopic finite.empty finite.empty (get-inserted text_cmp_total finite.empty Two.name (topic_of Two))
    nothing_seen (no_topic Two (newest One ∷ []) other_name) (none_owns (newest One ∷ []))
    (λ p is. not_none (id_of Two) (sym (finite.get-empty partition_cmp p) ∙ is)))
    AfterOne.target AfterOne.view

-- ---- their records

module _ (view : Topics) (target : Target) where
  pub one_kept : finite.get (AfterTwo view target).records (id_of One) ≡ Some (kept_of One)
  one_kept =
      finite.get-insert text_cmp_total AfterOne.records (id_of Two) (kept_of Two) (id_of One)
      ∙ ap (λ b. cond b (Some (kept_of Two)) (finite.get AfterOne.records (id_of One))) apart_ids.0
      ∙ get-inserted text_cmp_total finite.empty (id_of One) (kept_of One)

  pub two_kept : finite.get (AfterTwo view target).records (id_of Two) ≡ Some (kept_of Two)
  two_kept = get-inserted text_cmp_total AfterOne.records (id_of Two) (kept_of Two)
