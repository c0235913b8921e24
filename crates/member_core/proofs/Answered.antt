-- A member's calls have an outcome: a request that it may make is spelled, and of a reply it is known whether it is its own.
use Rattle.std.proofs.Common.{◌≡◌, ◌⊎◌, ℕ, suc, ◌<◌, ℤ, pos, Bool, true, false, cond, not, ◌||◌, ◌&&◌, List, [], ◌∷◌, length, Ok, Err, Option, option_map, Some, None, unwrap_or, inl, inr, refl, sym, ap, subst, ◌∙◌, arith}
use Rattle.std.specs.Prelude.{FitsSigned, nat_lt}
use Rattle.std.specs.Cmp.{eq_by_cmp_equiv, first_so, second_so}
use Rattle.std.specs.Int.{w32}
use Rattle.std.specs.List.{AllByRecursion, list_any}
use Rattle.std.specs.Ordering.{eq_by_cmp, int_eq}
use Rattle.std.specs.Str.{bytes_eq}
use Rattle.std.proofs.lemmas.Bool.{ltb-true}
use Rattle.std.proofs.lemmas.Bool.Decides.{Decides-int_eq}
use Rattle.std.proofs.lemmas.List.Elements.{All-from_recursion}
use Rattle.std.proofs.lemmas.List.Sums.{AllPass-from_list_all}
use Rattle.flex_wire.specs.Composed.{FitsArray, FitsNullableArray}
use Rattle.flex_wire.specs.Laws.{AreBytes}
use Rattle.flex_wire.specs.Spelling.{FitsNullableText, FitsTaggedFields, FitsText, FitsUuid}
use Rattle.kip_msgs.specs.declared.api.Api.TheVariants.{Heartbeat as HeartbeatApi}
use Rattle.kip_msgs.specs.Values.{HeartbeatReplyValue, ReplyValue, ResponseHeaderValue, TopicPartitionsValue, commit_reply, heartbeat_reply, reply_api}
use Rattle.kip_msgs.specs.Spelling.{FitsHeartbeatRequest, FitsRequestHeader, FitsTopicPartitions, SpellsReply, request_body}
use Rattle.kip_msgs.specs.Laws.{OneReplyABody}
use Rattle.kip_msgs.specs.Listing.{alone, before}
use Rattle.kip_msgs.specs.Reading.{reply_at}
use Rattle.kip_msgs.proofs.ReplyLaws.{read_spells, spells_read}
use Rattle.group_types.specs.declared.partition.Partition.{Partition}
use Rattle.group_types.specs.Text.{Text}
use Rattle.group_types.specs.Sets.{in_order}
use Rattle.group_types.specs.Partition.{partition_cmp}
use Rattle.group_types.specs.Request.{Heartbeat, GOES_AWAY_AT, LEAVES_AT}
use Rattle.group_types.proofs.Orders.{partition_cmp_total}
use Rattle.group_types.proofs.SetLemmas.{has-in_order}
use Rattle.member_core.specs.Asking.{Ask, Beat, Full, Fullness, GoAway, Join, Leave, Owned, Short, after_asking, beat_of, fullness_of, full_heartbeat, header_of, heartbeat_for, heartbeat_value, may_ask_at, request_for, short_heartbeat}
use Rattle.member_core.specs.Client.{Client}
use Rattle.member_core.specs.Existence.{AsksAreMade, CanSay, RepliesHaveAnOutcome}
use Rattle.member_core.specs.Limits.{GREATEST_NUMBER}
use Rattle.member_core.specs.Listing.{listed}
use Rattle.member_core.specs.Taking.{News, Takes, TakesIf, Tells, after_news, news_of}
use Rattle.member_core.specs.Writing.{are_few_names, are_few_owned, is_few}
use Rattle.member_core.proofs.Sizes.{few_within, fits_few}

-- ---- what is listed has a spelling

pub no_tags : FitsTaggedFields []
no_tags = record { count = omega arith; each = λ k d h. absurd (omega arith); rising = λ k h. omega arith }

abbrev IsWritten : Partition → Type 0
IsWritten p = FitsUuid p.topic × FitsSigned w32 p.index

-- an entry that has a spelling but for the number of its indexes
record IsEntry (t : TopicPartitionsValue) : Type 0 where
  pub topic_id : FitsUuid t.topic_id
  pub partitions : AllByRecursion (FitsSigned w32) t.partitions
  pub tags : t.tags ≡ []

entry_before : (p : Partition) (ts : List TopicPartitionsValue) → IsWritten p → AllByRecursion IsEntry ts → AllByRecursion IsEntry (before p.topic p.index ts)
entry_before p [] is each = (record { topic_id = is.0; partitions = (is.1, tt); tags = refl }, tt)
entry_before p (t ∷ ts) is each =
    elim (bytes_eq p.topic t.topic_id) as (λ b. AllByRecursion IsEntry (cond b (record t { partitions = p.index ∷ t.partitions } ∷ ts) (alone p.topic p.index ∷ t ∷ ts))) [
      | true ↦ (record { topic_id = each.0.topic_id; partitions = (is.1, each.0.partitions); tags = each.0.tags }, each.1)
      | false ↦ (record { topic_id = is.0; partitions = (is.1, tt); tags = refl }, each)
    ]

entries_listed : (ps : List Partition) → AllByRecursion IsWritten ps → AllByRecursion IsEntry (listed ps)
entries_listed [] each = tt
entries_listed (p ∷ ps) each = entry_before p (listed ps) each.0 (entries_listed ps each.1)

listed_fits : (ps : List Partition) → are_few_owned (Some (listed ps)) ≡ true → AllByRecursion IsWritten ps → FitsArray FitsTopicPartitions (listed ps)
listed_fits ps few each =
    let entries = All-from_recursion IsEntry (listed ps) (entries_listed ps each) in
    let indexes = AllPass-from_list_all (λ t. is_few (length t.partitions)) (listed ps) (second_so _ _ few) in (
      fits_few (length (listed ps)) (first_so _ _ few),
      λ k d low. record {
        topic_id = (entries k d low).topic_id;
        partitions = (fits_few _ (indexes k d low), All-from_recursion (FitsSigned w32) _ (entries k d low).partitions);
        tags = subst FitsTaggedFields (sym (entries k d low).tags) no_tags;
      },
    )

each_of_list : (P : Partition → Type 0) (ps : List Partition) → ((p : Partition) → list_any (eq_by_cmp partition_cmp p) ps ≡ true → P p) → AllByRecursion P ps
each_of_list P [] holds = tt
each_of_list P (p ∷ ps) holds = (
  holds p (ap (λ b. b || list_any (eq_by_cmp partition_cmp p) ps) ((eq_by_cmp_equiv partition_cmp_total).refl p)),
  each_of_list P ps (λ q there. holds q (ap (λ b. eq_by_cmp partition_cmp q p || b) there ∙ either (eq_by_cmp partition_cmp q p))),
)
  where
    either : (b : Bool) → (b || true) ≡ true
    either true = refl
    either false = refl

-- ---- a member's request

no_text : FitsText []
unfolding lib.Utf8.encode
no_text = record { length = omega arith; utf8 = ([], (refl, refl)) }

pub id_fits : (id : Option Text) → FitsNullableText id → FitsText (unwrap_or id [])
id_fits None fits = no_text
id_fits (Some id) fits = fits

module _ (c : Client) (can : CanSay c) where
  abbrev Fits : Heartbeat → Type 0
  Fits q = FitsHeartbeatRequest (heartbeat_value q)

  -- no array has more elements than a body may have bytes
  abbrev AreFew : Heartbeat → Type 0
  AreFew q = (are_few_names q.names && are_few_owned (option_map listed q.owned)) ≡ true

  own_written : AllByRecursion IsWritten (in_order c.own)
  own_written = each_of_list IsWritten (in_order c.own) (λ p there. can.own p (has-in_order c.own p ∙ there))

  -- a heartbeat that says no more than an instance and what is owned
  brief_fits : (epoch : ℤ) → FitsSigned w32 epoch → (instance : Option Text) → FitsNullableText instance → (owned : Option (List Partition))
      → FitsNullableArray FitsTopicPartitions (option_map listed owned) → Fits (record (short_heartbeat c epoch) { instance = instance; owned = owned })
  brief_fits epoch fits instance instance_fits owned owned_fits = record {
    group_id = can.settings.group;
    member_id = id_fits c.id can.id;
    member_epoch = fits;
    instance_id = instance_fits;
    rack_id = tt;
    rebalance_timeout_ms = record { sfits = omega arith };
    subscribed_topic_names = tt;
    server_assignor = tt;
    topic_partitions = owned_fits;
    tags = no_tags;
  }

  full_fits : (epoch : ℤ) (owned : List Partition) → FitsSigned w32 epoch → AllByRecursion IsWritten owned → AreFew (full_heartbeat c epoch owned) → Fits (full_heartbeat c epoch owned)
  full_fits epoch owned fits each few = record {
    group_id = can.settings.group;
    member_id = id_fits c.id can.id;
    member_epoch = fits;
    instance_id = can.settings.instance;
    rack_id = can.settings.rack;
    rebalance_timeout_ms = can.settings.rebalance_timeout;
    subscribed_topic_names = (fits_few (length c.settings.names) (first_so _ _ few), can.settings.names);
    server_assignor = can.settings.assignor;
    topic_partitions = listed_fits owned (second_so (is_few (length c.settings.names)) _ few) each;
    tags = no_tags;
  }

  beat_fits : (fullness : Fullness) → AreFew (beat_of c fullness) → Fits (beat_of c fullness)
  beat_fits Short few = brief_fits (pos c.epoch) can.epoch None tt None tt
  beat_fits Owned few = brief_fits (pos c.epoch) can.epoch None tt (Some (in_order c.own)) (listed_fits (in_order c.own) few own_written)
  beat_fits Full few = full_fits (pos c.epoch) (in_order c.own) can.epoch own_written few

  asked_fits : (ask : Ask) → AreFew (heartbeat_for c ask) → Fits (heartbeat_for c ask)
  asked_fits Join few = full_fits (pos 0) [] (record { sfits = omega arith }) tt few
  asked_fits (Beat fullness) few = beat_fits (fullness_of c fullness) few
  asked_fits Leave few = brief_fits LEAVES_AT (record { sfits = omega arith }) None tt None tt
  asked_fits GoAway few = brief_fits GOES_AWAY_AT (record { sfits = omega arith }) c.settings.instance can.settings.instance None tt

  header_fits : c.number < GREATEST_NUMBER → FitsRequestHeader (header_of (suc c.number))
  header_fits low = record { correlation_id = record { sfits = omega arith }; client_id = tt; tags = no_tags }

-- who may ask has a number left
number_left : (waits : Bool) (number : ℕ) (rest : Bool) → (not waits && nat_lt number GREATEST_NUMBER && rest) ≡ true → number < GREATEST_NUMBER
number_left true number rest is = cc
number_left false number rest is = ltb-true number GREATEST_NUMBER (first (nat_lt number GREATEST_NUMBER) rest is)
  where
    first : (a b : Bool) → (a && b) ≡ true → a ≡ true
    first true b is = refl
    first false b is = is

pub asks_are_made : AsksAreMade
asks_are_made c ask can may small =
    let low = number_left c.waits c.number (may_ask_at c.place ask c.settings.instance) may in (
      request_body (request_for c ask),
      after_asking c ask,
      record {
        may = may;
        spells = record { fits = (header_fits c can low, asked_fits c can ask (few_within (request_for c ask) small)); bytes = refl };
        after = refl;
      },
    )

-- ---- a reply that it is given

-- whether the bytes are a reply to a heartbeat
abbrev IsReply : List ℕ → Type 0
IsReply body = (header : ResponseHeaderValue) × (reply : HeartbeatReplyValue) × SpellsReply (heartbeat_reply header reply) body

reply_or_none : (body : List ℕ) → AreBytes body → IsReply body ⊎ ((header : ResponseHeaderValue) (reply : HeartbeatReplyValue) → ¬ SpellsReply (heartbeat_reply header reply) body)
reply_or_none body are =
    elim (reply_at HeartbeatApi body) as (λ x. reply_at HeartbeatApi body ≡ x → IsReply body ⊎ ((header : ResponseHeaderValue) (reply : HeartbeatReplyValue) → ¬ SpellsReply (heartbeat_reply header reply) body)) [
      | Ok v ↦ λ is. inl (by v (read_spells HeartbeatApi body v are is))
      | Err fault ↦ λ is. inr (λ header reply spells. let read = spells_read HeartbeatApi body (heartbeat_reply header reply) refl spells in cc)
    ] refl
  where
    by : (v : ReplyValue) → (reply_api v ≡ HeartbeatApi) × SpellsReply v body → IsReply body
    by (heartbeat_reply header reply) is = (header, reply, is.1)
    by (commit_reply header reply) is = cc

module _ (one_reply : OneReplyABody) (c : Client) (body : List ℕ) where
  abbrev header_in : ReplyValue → ResponseHeaderValue → ResponseHeaderValue
  header_in (heartbeat_reply header v) other = header
  header_in (commit_reply header v) other = other

  abbrev reply_in : ReplyValue → HeartbeatReplyValue → HeartbeatReplyValue
  reply_in (heartbeat_reply header v) other = v
  reply_in (commit_reply header v) other = other

  module _ (header : ResponseHeaderValue) (reply : HeartbeatReplyValue) (spells : SpellsReply (heartbeat_reply header reply) body) where
    same_message : (news : News) (tells : Tells c.number body news) → heartbeat_reply tells.header tells.reply ≡ heartbeat_reply header reply
    same_message news tells = one_reply (heartbeat_reply tells.header tells.reply) (heartbeat_reply header reply) body refl tells.spells spells

    told_by : (o : Option News) → news_of reply ≡ o → (b : Bool) → int_eq header.correlation_id (pos c.number) ≡ b → (taken : Bool) × (new : Client) × TakesIf true c body taken new
    told_by (Some news) is true number =
        (true, after_news c news, (news, record { header = header; reply = reply; spells = spells; answers = (Decides-int_eq header.correlation_id (pos c.number)).0 number; tells = is }, refl))
    told_by None none b number = (
      false,
      c,
      (λ news tells. let told : None ≡ Some news = sym none ∙ ap (λ v. news_of (reply_in v reply)) (sym (same_message news tells)) ∙ tells.tells in cc, refl),
    )
    told_by (Some news) is false other = (
      false,
      c,
      (
        λ news tells.
            let answers : header.correlation_id ≡ pos c.number = ap (λ v. (header_in v header).correlation_id) (sym (same_message news tells)) ∙ tells.answers in
            let number = (Decides-int_eq header.correlation_id (pos c.number)).1 answers in
            cc,
        refl,
      ),
    )

  -- of a reply to a heartbeat it is known what it is
  takes_if_spelled : (header : ResponseHeaderValue) (reply : HeartbeatReplyValue) → SpellsReply (heartbeat_reply header reply) body → (waits : Bool) → (taken : Bool) × (new : Client) × TakesIf waits c body taken new
  takes_if_spelled header reply spells false = (false, c, (refl, refl))
  takes_if_spelled header reply spells true = told_by header reply spells (news_of reply) refl (int_eq header.correlation_id (pos c.number)) refl

  pub takes_spelled : (header : ResponseHeaderValue) (reply : HeartbeatReplyValue) → SpellsReply (heartbeat_reply header reply) body → (taken : Bool) × (new : Client) × Takes c body taken new
  takes_spelled header reply spells = takes_if_spelled header reply spells c.waits

  takes_or_leaves : AreBytes body → (taken : Bool) × (new : Client) × TakesIf true c body taken new
  takes_or_leaves are = elim (reply_or_none body are) [
    | inl (header, reply, spells) ↦ takes_if_spelled header reply spells true
    | inr none ↦ (false, c, (λ news tells. none tells.header tells.reply tells.spells, refl))
  ]

  given : AreBytes body → (waits : Bool) → (taken : Bool) × (new : Client) × TakesIf waits c body taken new
  given are false = (false, c, (refl, refl))
  given are true = takes_or_leaves are

pub replies_have_an_outcome : OneReplyABody → RepliesHaveAnOutcome
replies_have_an_outcome one_reply c body are = given one_reply c body are c.waits
