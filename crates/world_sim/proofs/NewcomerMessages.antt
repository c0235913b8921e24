-- What a newcomer says in a heartbeat and what it is told in the reply, in bytes, and the acts in which they are sent,
-- delivered and taken.
use Rattle.std.proofs.Common.{◌≡◌, ℕ, zero, suc, ◌<◌, ◌^◌, pos, Bool, true, false, List, [], ◌∷◌, ◌++◌, length, map, nat_le, nat_lt, Option, Some, None, inl, refl, sym, ap, subst, ◌∙◌, arith, ltb-true}
use Rattle.std.specs.FinMap as finite
use Rattle.std.specs.List.{flat_map}
use Rattle.std.specs.Option.{option_map}
use Rattle.std.specs.Int.{to_be_bytes, w32, w64}
use Rattle.std.specs.Prelude.{FitsSigned, All}
use Rattle.std.proofs.lemmas.Bool.{leb-true}
use Rattle.std.proofs.lemmas.Str.{IsUtf8-from_ascii}
use Rattle.uuid.specs.Text.{lower}
use Rattle.uuid.proofs.TextLemmas.{hyphenated_ascii}
use Rattle.flex_wire.specs.Composed.{FitsArray, FitsNullableArray}
use Rattle.flex_wire.specs.Spelling.{FitsTaggedFields, FitsText, FitsUuid, int32}
use Rattle.kip_msgs.specs.Values.{AssignmentValue, HeartbeatReplyValue, RequestValue, ResponseHeaderValue, TopicPartitionsValue, heartbeat_reply}
use Rattle.kip_msgs.specs.Spelling.{FitsTopicPartitions, SpellsRequest, SpellsReply, request_body, reply_body}
use Rattle.group_types.specs.declared.assignor_name.AssignorName.TheVariants.{Range}
use Rattle.group_types.specs.declared.partition.Partition.{Partition}
use Rattle.group_types.specs.Limits.{LARGEST_BODY}
use Rattle.group_types.specs.Text.{Text}
use Rattle.group_types.specs.AssignorName.{assignor_text}
use Rattle.group_types.specs.Sets.{in_order, nothing}
use Rattle.group_types.specs.Partition.{partition_cmp}
use Rattle.group_types.specs.Request.{Heartbeat}
use Rattle.group_types.specs.HeartbeatStep as group
use Rattle.group_types.proofs.MadeIds.{length-made_id}
use Rattle.group_types.proofs.Orders.{partition_cmp_total}
use Rattle.group_types.proofs.SetLemmas.{entries-nothing}
use Rattle.group_core.specs.Listing as node
use Rattle.group_epochs.specs.Request.{arrival_of, partitions_of}
use Rattle.coord_node.specs.Coordinator.{Coordinator, Replied}
use Rattle.group_types.specs.Frames.{IsFrame}
use Rattle.coord_node.specs.Replies.{heartbeat_reply_value}
use Rattle.coord_node.specs.Steps.{HeartbeatAt, RequestStep}
use Rattle.member_core.specs.Client.{Client, state_of}
use Rattle.member_core.specs.Listing.{listed}
use Rattle.member_core.specs.Asking.{Ask, Join, after_asking, header_of, heartbeat_value, may_ask, request_for, request_value}
use Rattle.member_core.specs.Refusing.{is_too_large}
use Rattle.member_core.specs.Taking.{News, Accepts, TakesIf, Tells, after_news, assigned}
use Rattle.world_sim.specs.World.{World, Request, Reply, numbered, with_client, with_coordinator, with_reply, with_request}
use Rattle.world_sim.specs.Acts.{Asks, Deliver, Take, Is, IsReplied, IsSent, ActStep, AsksIf, AsksStep, DeliversIf, DeliverStep, SendsIf, TakeBy, TakeStep, fits_frame, is_forgotten, stamp_of}
use Rattle.world_sim.proofs.RequestSizes.{small_if_within}
use Rattle.world_sim.proofs.Newcomers.{GROUP, Newcomer, client_of, heartbeat_at, id_of, number_of, partition_of, parts_of, reply_at, set_of}

-- A full heartbeat of a newcomer, under a number, and the reply to it. It names an id and an epoch, and reports its partition
-- or none; it is told an epoch, and is shown its partition or none.
pub record Exchange : Type 0 where
  pub number : ℕ
  pub member : Text
  pub epoch : ℕ
  pub owns : Bool
  pub below : ℕ  -- it is told the next epoch
  pub shows : Bool

-- its join under no id, and that it is granted its target at once
abbrev pub join_in : Newcomer → Exchange
join_in x = record { number = 1; member = []; epoch = 0; owns = false; below = x.earlier; shows = true }

-- ---- the messages

abbrev pub heartbeat_in : Newcomer → Exchange → Heartbeat
heartbeat_in x e = heartbeat_at x e.member e.epoch e.owns

abbrev pub request_in : Newcomer → Exchange → RequestValue
request_in x e = request_value e.number (heartbeat_in x e)

abbrev pub request_bytes : Newcomer → Exchange → List ℕ
request_bytes x e = request_body (request_in x e)

abbrev pub reply_in : Newcomer → Exchange → group.Reply
reply_in x e = reply_at x (pos (suc e.below)) e.shows

abbrev header_in : Exchange → ResponseHeaderValue
header_in e = record { correlation_id = pos e.number; tags = [] }

abbrev listing_for : Newcomer → TopicPartitionsValue
listing_for x = record { topic_id = x.topic; partitions = pos 0 ∷ []; tags = [] }

abbrev listings_for : Newcomer → Bool → List TopicPartitionsValue
listings_for x true = listing_for x ∷ []
listings_for x false = []

abbrev pub assignment_in : Newcomer → Bool → AssignmentValue
assignment_in x shows = record { topic_partitions = listings_for x shows; tags = [] }

abbrev pub value_in : Newcomer → Exchange → HeartbeatReplyValue
value_in x e =
    record {
      throttle_time_ms = pos 0;
      error_code = pos 0;
      error_message = None;
      member_id = Some (id_of x);
      member_epoch = pos (suc e.below);
      heartbeat_interval_ms = pos 5000;
      assignment = Some (assignment_in x e.shows);
      tags = [];
    }

abbrev pub reply_bytes : Newcomer → Exchange → List ℕ
reply_bytes x e = reply_body (heartbeat_reply (header_in e) (value_in x e))

-- both fit in frames
pub record IsSized (x : Newcomer) (e : Exchange) : Type 0 where
  pub some_bytes : nat_le 1 (length (request_bytes x e)) ≡ true
  pub request_fits : fits_frame (request_bytes x e) ≡ true
  pub reply_fits : nat_lt (length (reply_bytes x e)) (2 ^ 31) ≡ true

-- .. and can be spelled
pub record IsSpelled (x : Newcomer) (e : Exchange) : Type 0 where
  pub name : FitsText x.name
  pub topic : FitsUuid x.topic
  pub member : FitsText e.member
  pub number : e.number < 2 ^ 31
  pub epoch : e.epoch < 2 ^ 31
  pub below : suc e.below < 2 ^ 31
  pub sized : IsSized x e

-- ---- what comes of them

abbrev pub news_in : Newcomer → Exchange → News
news_in x e = Accepts (id_of x) (suc e.below) (Some (assigned (assignment_in x e.shows)))

abbrev pub sent_in : Newcomer → Exchange → Client → Request
sent_in x e after = record { sender = number_of x; stamp = stamp_of (number_of x) after; body = request_bytes x e }

abbrev pub pooled_in : Newcomer → Exchange → Client → Reply
pooled_in x e after = record { request = sent_in x e after; body = reply_bytes x e }

-- the world once a client has asked, once it is answered, and once it has taken the reply
abbrev pub asking : Newcomer → Exchange → Client → World → World
asking x e after w = with_request (with_client w (number_of x) after) (sent_in x e after)

abbrev pub answering : Newcomer → Exchange → Client → World → Coordinator → World
answering x e after w c = with_reply (with_coordinator w c) (pooled_in x e after)

abbrev pub taking : Newcomer → Exchange → Client → World → World
taking x e after w = with_client w (number_of x) (after_news after (news_in x e))

abbrev pub asked_by : Newcomer → Client
asked_by x = after_asking (client_of x) Join

abbrev pub inside_of : Newcomer → Client
inside_of x = after_news (asked_by x) (news_in x (join_in x))

-- ---- parts

pub no_tags : FitsTaggedFields []
no_tags =
    record {
      count = omega arith;
      each = λ k field below. absurd (omega (arith, below));
      rising = λ k below. absurd (omega (arith, below));
    }

pub one : {X : Type 0} (P : X → Type 0) (x : X) → P x → All P (x ∷ [])
one P x is zero d below = is
one P x is (suc k) d below = absurd (omega (arith, below))

pub none : {X : Type 0} (P : X → Type 0) → All P []
none P k d below = absurd (omega (arith, below))

pub id_fits : (x : Newcomer) → FitsText (id_of x)
id_fits x =
    record {
      length = let is = length-made_id 0 (number_of x) in omega (arith, is);
      utf8 = IsUtf8-from_ascii (id_of x) (hyphenated_ascii lower (to_be_bytes w64 0 ++ to_be_bytes w64 (number_of x)) (inl refl));
    }

listings_fit : (x : Newcomer) → FitsUuid x.topic → (shows : Bool) → FitsArray FitsTopicPartitions (listings_for x shows)
listings_fit x fits true = (
  omega arith,
  one FitsTopicPartitions (listing_for x) (record { topic_id = fits; partitions = (omega arith, one (FitsSigned w32) (pos 0) (record { sfits = omega arith })); tags = no_tags }),
)
listings_fit x fits false = (omega arith, none FitsTopicPartitions)

-- a set of its own is listed as it is
pub own_order : (x : Newcomer) (has_it : Bool) → in_order (set_of x has_it) ≡ parts_of x has_it
own_order x true =
    ap (map (λ (e : Partition × Unit {0}). e.0))
    (finite.entries-insert partition_cmp_total (nothing {R = partition_cmp}) (partition_of x) tt ∙ ap (finite.put partition_cmp (partition_of x) tt) (entries-nothing partition_cmp))
own_order x false = ap (map (λ (e : Partition × Unit {0}). e.0)) (entries-nothing partition_cmp)

listed_as : (x : Newcomer) (shows : Bool) → listings_for x shows ≡ node.listed (in_order (set_of x shows))
listed_as x true = ap node.listed (sym (own_order x true))
listed_as x false = ap node.listed (sym (own_order x false))

read_back : (x : Newcomer) (owns : Bool) → flat_map partitions_of (listed (parts_of x owns)) ≡ parts_of x owns
read_back x true = refl
read_back x false = refl

is_value : (x : Newcomer) (e : Exchange) → value_in x e ≡ heartbeat_reply_value (reply_in x e)
is_value x e = λ i. record (value_in x e) { assignment = Some (record { topic_partitions = listed_as x e.shows i; tags = [] }) }

module _ (x : Newcomer) (e : Exchange) (is : IsSpelled x e) where
  request_spelled : SpellsRequest (request_in x e) (request_bytes x e)
  unfolding lib.Utf8.encode
  request_spelled =
      let number : e.number < 2 ^ 31 = is.number in
      let epoch : e.epoch < 2 ^ 31 = is.epoch in
      record {
        fits = (
          record { correlation_id = record { sfits = omega (arith, number) }; client_id = tt; tags = no_tags },
          record {
            group_id = record { length = omega arith; utf8 = (GROUP, (refl, refl)) };
            member_id = is.member;
            member_epoch = record { sfits = omega (arith, epoch) };
            instance_id = tt;
            rack_id = tt;
            rebalance_timeout_ms = record { sfits = omega arith };
            subscribed_topic_names = (omega arith, one FitsText x.name is.name);
            server_assignor = record { length = omega arith; utf8 = (assignor_text Range, (refl, refl)) };
            topic_partitions = reported e.owns;
            tags = no_tags;
          },
        );
        bytes = refl;
      }
    where
      reported : (owns : Bool) → FitsNullableArray FitsTopicPartitions (option_map listed (Some (parts_of x owns)))
      reported true = listings_fit x is.topic true
      reported false = listings_fit x is.topic false

  reply_spelled : SpellsReply (heartbeat_reply (header_in e) (value_in x e)) (reply_bytes x e)
  reply_spelled =
      let number : e.number < 2 ^ 31 = is.number in
      let below : suc e.below < 2 ^ 31 = is.below in
      record {
        fits = (
          record { correlation_id = record { sfits = omega (arith, number) }; tags = no_tags },
          record {
            throttle_time_ms = record { sfits = omega arith };
            error_code = record { sfits = omega arith };
            error_message = tt;
            member_id = id_fits x;
            member_epoch = record { sfits = omega (arith, below) };
            heartbeat_interval_ms = record { sfits = omega arith };
            assignment = record { topic_partitions = listings_fit x is.topic e.shows; tags = no_tags };
            tags = no_tags;
          },
        );
        bytes = refl;
      }

  framed : IsFrame (reply_bytes x e) (int32 (pos (length (reply_bytes x e))) ++ reply_bytes x e)
  framed = record { size = record { sfits = ltb-true (length (reply_bytes x e)) (2 ^ 31) is.sized.reply_fits }; bytes = refl }

  pub tells : Tells e.number (reply_bytes x e) (news_in x e)
  tells = record { header = header_in e; reply = value_in x e; spells = reply_spelled; answers = refl; tells = refl }

  -- ---- the acts

  pub asks : (w : World) (c : Client) (ask : Ask) → numbered w.clients (number_of x) ≡ Some c → may_ask c ask ≡ true → request_for c ask ≡ request_in x e
      → ActStep w (Asks (number_of x) ask) (IsSent (suc (length w.requests))) (asking x e (after_asking c ask) w)
  asks w c ask there may says =
      subst (λ (o : Option Client). AsksStep o w (number_of x) ask (IsSent (suc (length w.requests))) (asking x e (after_asking c ask) w)) (sym there)
      (subst (λ b. AsksIf b c w (number_of x) ask (IsSent (suc (length w.requests))) (asking x e (after_asking c ask) w)) (sym may)
      (subst (λ b. SendsIf b c w (number_of x) ask (IsSent (suc (length w.requests))) (asking x e (after_asking c ask) w)) (sym small) (
        request_bytes x e,
        after_asking c ask,
        record { may = may; spells = subst (λ (v : RequestValue). SpellsRequest v (request_bytes x e)) (sym says) request_spelled; after = refl },
        (refl, refl),
      )))
    where
      small : is_too_large (request_for c ask) ≡ false
      small = small_if_within (request_for c ask) (request_bytes x e) (sym (ap request_body says)) (leb-true (length (request_bytes x e)) LARGEST_BODY is.sized.request_fits)

  module _ (w : World) (after : Client) (c : Coordinator)
      (beats : HeartbeatAt (finite.get w.coordinator.groups GROUP) w.coordinator
      (record { heartbeat = heartbeat_in x e; stamp = stamp_of (number_of x) after; moment = w.clock; image = w.coordinator.image }) (group.Replied (reply_in x e)) c) where
    heard : HeartbeatAt (finite.get w.coordinator.groups GROUP) w.coordinator (arrival_of (heartbeat_value (heartbeat_in x e)) (stamp_of (number_of x) after) w.clock w.coordinator.image) (group.Replied (reply_in x e)) c
    heard =
        subst (λ (ps : List Partition). HeartbeatAt (finite.get w.coordinator.groups GROUP) w.coordinator
        (record { heartbeat = record (heartbeat_in x e) { owned = Some ps }; stamp = stamp_of (number_of x) after; moment = w.clock; image = w.coordinator.image }) (group.Replied (reply_in x e)) c)
        (sym (read_back x e.owns)) beats

    requested : RequestStep w.coordinator (request_in x e) (stamp_of (number_of x) after) w.clock (Replied (int32 (pos (length (reply_bytes x e))) ++ reply_bytes x e)) c
    requested = (
      group.Replied (reply_in x e),
      heard,
      record {
        body = reply_bytes x e;
        spells = subst (λ (v : HeartbeatReplyValue). SpellsReply (heartbeat_reply (header_in e) v) (reply_bytes x e)) (is_value x e) reply_spelled;
        framed = framed;
      },
    )

    pub delivers : (request : ℕ) → numbered w.requests request ≡ Some (sent_in x e after) → is_forgotten w.coordinator (heartbeat_value (heartbeat_in x e)) ≡ false
        → ActStep w (Deliver request) (IsReplied (suc (length w.replies)) (value_in x e)) (answering x e after w c)
    delivers request there known =
        subst (λ (o : Option Request). DeliverStep o w (IsReplied (suc (length w.replies)) (value_in x e)) (answering x e after w c)) (sym there) (
          header_of e.number,
          heartbeat_value (heartbeat_in x e),
          request_spelled,
          subst (λ b. DeliversIf b w (sent_in x e after) (IsReplied (suc (length w.replies)) (value_in x e)) (answering x e after w c)) (sym known) (
            Replied (int32 (pos (length (reply_bytes x e))) ++ reply_bytes x e),
            c,
            inl (request_in x e, record { is_body = (leb-true 1 (length (request_bytes x e)) is.sized.some_bytes, leb-true (length (request_bytes x e)) LARGEST_BODY is.sized.request_fits); spells = request_spelled }, requested),
            (reply_bytes x e, header_in e, value_in x e, framed, reply_spelled, (refl, refl)),
          ),
        )

  pub takes : (w : World) (after : Client) (reply : ℕ) → numbered w.replies reply ≡ Some (pooled_in x e after) → numbered w.clients (number_of x) ≡ Some after
      → after.waits ≡ true → after.number ≡ e.number → ActStep w (Take reply) (Is (state_of (after_news after (news_in x e)))) (taking x e after w)
  takes w after reply there taker waits same =
      subst (λ (o : Option Reply). TakeStep o w (Is (state_of (after_news after (news_in x e)))) (taking x e after w)) (sym there)
      (subst (λ (o : Option Client). TakeBy o (pooled_in x e after) w (Is (state_of (after_news after (news_in x e)))) (taking x e after w)) (sym taker) (
        true,
        after_news after (news_in x e),
        subst (λ b. TakesIf b after (reply_bytes x e) true (after_news after (news_in x e))) (sym waits)
            (news_in x e, subst (λ number. Tells number (reply_bytes x e) (news_in x e)) (sym same) tells, refl),
        (refl, refl),
      ))
