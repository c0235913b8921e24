-- Whatever comes to a coordinator that serves has its answer: the step that there is, and the frame that spells it.
use Rattle.std.proofs.Common.{◌≡◌, ℕ, ◌≤◌, ◌<◌, ◌^◌, ℤ, pos, Bool, true, false, cond, ◌||◌, List, [], ◌∷◌, ◌++◌, length, map, Ok, Err, Option, option_map, Some, None, All, IfSome, inl, inr, ◌⊎◌, refl, sym, ap, subst, ◌∙◌, arith}
use Rattle.std.specs.Prelude.{FitsSigned, codes}
use Rattle.std.specs.FinMap as finite
use Rattle.std.specs.Int.{w16, w32}
use Rattle.std.specs.List.{AllByRecursion, list_any}
use Rattle.std.specs.Ordering.{eq_by_cmp}
use Rattle.std.specs.Cmp.{eq_by_cmp_equiv}
use Rattle.std.specs.Str.{bytes_eq}
use Rattle.std.proofs.lemmas.Bool.{cases_lt}
use Rattle.std.proofs.lemmas.List.Elements.{All-from_recursion, All-map, All-weaker, recursion_from_All}
use Rattle.flex_wire.specs.Laws.{AreBytes}
use Rattle.flex_wire.specs.Spelling.{FitsNullableText, FitsText, FitsUuid, int32}
use Rattle.kip_msgs.specs.Values.{CommitRequestPartitionValue, CommitRequestTopicValue, CommitRequestValue, ReplyValue, RequestValue, TopicPartitionsValue, commit_request, heartbeat_request}
use Rattle.kip_msgs.specs.Spelling.{FitsAssignment, FitsCommitReply, FitsCommitReplyPartition, FitsCommitReplyTopic, FitsCommitRequest, FitsCommitRequestPartition, FitsCommitRequestTopic, FitsReply, FitsTopicPartitions, reply_body}
use Rattle.kip_msgs.specs.Writable.{IsWritableAssignment, IsWritableTopic}
use Rattle.kip_msgs.specs.Reading.{request_at}
use Rattle.kip_msgs.proofs.RequestLaws.{read_spells, spells_read}
use Rattle.group_types.specs.declared.code.Code.{Code}
use Rattle.group_types.specs.declared.code.Code.TheVariants.{NoError, UnknownTopicOrPartition, OffsetMetadataTooLarge, CoordinatorNotAvailable, UnknownMemberId, InvalidRequest, GroupIdNotFound, GroupMaxSizeReached, FencedMemberEpoch, UnreleasedInstanceId, UnsupportedAssignor, StaleMemberEpoch}
use Rattle.group_types.specs.declared.partition.Partition.{Partition}
use Rattle.group_types.specs.declared.stamp.Stamp.{Stamp}
use Rattle.group_types.specs.Code.{code_number, code_text}
use Rattle.group_types.specs.Limits.{LARGEST_BODY, LONGEST_STRING, MOST_PARTITIONS, SMALLEST_BODY}
use Rattle.group_types.specs.Text.{Text}
use Rattle.group_types.specs.Images.{AreImageTopics}
use Rattle.group_types.specs.Sets.{in_order, size}
use Rattle.group_types.specs.Partition.{partition_cmp, Partitions}
use Rattle.group_types.specs.Group.{Group, new_group}
use Rattle.group_types.specs.Sound.{IsSound}
use Rattle.group_types.specs.Commit.{Commitment, CommitReply, TopicCommitments, answers_by, code_of_taken, commit_reply, offsets_after, refusal_of_commit}
use Rattle.group_types.specs.HeartbeatStep.{Arrival}
use Rattle.group_types.specs.HeartbeatStep as group
use Rattle.group_types.specs.Laws.{EveryGroupIsSound}
use Rattle.group_types.proofs.Consistent.{consistent}
use Rattle.group_types.proofs.Orders.{partition_cmp_total}
use Rattle.group_types.proofs.SetLemmas.{has-in_order}
use Rattle.group_epochs.specs.Request.{arrival_of, commit_of, commitment_of}
use Rattle.offset_guard.specs.Replies.{commit_reply_value, reply_partition_value, reply_topic_value}
use Rattle.offset_guard.specs.Requests.{topic_of}
use Rattle.group_core.specs.Existence.{HasAnAnswer}
use Rattle.kip_msgs.specs.Listing.{alone, before}
use Rattle.group_core.specs.Listing.{listed}
use Rattle.group_core.specs.Outcome.{reply_room}
use Rattle.coord_node.specs.Answers.{CommitsIn, IsSendable}
use Rattle.coord_node.specs.Coordinator.{Coordinator, Event, Frame, Tick, Image, Answer, Replied, Closes, opening}
use Rattle.coord_node.specs.Replies.{IsReplyFrame, assignment_value, commit_value, reply_value}
use Rattle.coord_node.specs.Steps.{CommitAt, FrameStepBy, HeartbeatAt, IsRequest, Makes, MakesBy, RequestStep, Run, Sends, Step, has_room, is_success, message_of}
use Rattle.coord_node.specs.Existence.{CoordinatorsServe, EventsAreAnswered, IsComing, RunsAreAnswered}
use Rattle.coord_node.specs.Laws.{IsServing, StepsAreSound}
use Rattle.coord_node.proofs.CommitLemmas.{HasRoomInFrame-commit}
use Rattle.coord_node.proofs.CommitLengths.{answers_of_topics, length-answers, length-commit_fields, length-topics_answers}
use Rattle.coord_node.proofs.FittingAnswers.{AreWritten, IsTold, IsToldIn, IsWritten, is_told, refused_told}
use Rattle.coord_node.proofs.LengthLemmas.{HaveAssignedIds}
use Rattle.coord_node.proofs.ReplyLemmas.{FitsTaggedFields-nil, HasRoomInFrame-reply}
use Rattle.coord_node.proofs.SoundGroups.{opening_serves, serves_on}

-- ---- codes

number_fits : (code : Code) → FitsSigned w16 (code_number code)
number_fits NoError = record { sfits = omega arith }
number_fits UnknownTopicOrPartition = record { sfits = omega arith }
number_fits OffsetMetadataTooLarge = record { sfits = omega arith }
number_fits CoordinatorNotAvailable = record { sfits = omega arith }
number_fits UnknownMemberId = record { sfits = omega arith }
number_fits InvalidRequest = record { sfits = omega arith }
number_fits GroupIdNotFound = record { sfits = omega arith }
number_fits GroupMaxSizeReached = record { sfits = omega arith }
number_fits FencedMemberEpoch = record { sfits = omega arith }
number_fits UnreleasedInstanceId = record { sfits = omega arith }
number_fits UnsupportedAssignor = record { sfits = omega arith }
number_fits StaleMemberEpoch = record { sfits = omega arith }

text_fits : (code : Code) → FitsNullableText (code_text code)
unfolding lib.Utf8.encode
text_fits NoError = tt
text_fits UnknownTopicOrPartition = tt
text_fits OffsetMetadataTooLarge = tt
text_fits CoordinatorNotAvailable = record { length = omega arith; utf8 = (codes "coordinator not available", (refl, refl)) }
text_fits UnknownMemberId = record { length = omega arith; utf8 = (codes "unknown member", (refl, refl)) }
text_fits InvalidRequest = record { length = omega arith; utf8 = (codes "invalid request", (refl, refl)) }
text_fits GroupIdNotFound = tt
text_fits GroupMaxSizeReached = record { length = omega arith; utf8 = (codes "group is full", (refl, refl)) }
text_fits FencedMemberEpoch = record { length = omega arith; utf8 = (codes "fenced member epoch", (refl, refl)) }
text_fits UnreleasedInstanceId = record { length = omega arith; utf8 = (codes "instance id in use", (refl, refl)) }
text_fits UnsupportedAssignor = record { length = omega arith; utf8 = (codes "unknown assignor", (refl, refl)) }
text_fits StaleMemberEpoch = tt

-- ---- assignments

-- an entry whose id and indexes have a spelling
abbrev IsEntry : TopicPartitionsValue → Type 0
IsEntry t = FitsUuid t.topic_id × AllByRecursion (FitsSigned w32) t.partitions

entry_before : (p : Partition) (ts : List TopicPartitionsValue) → IsWritten p → AllByRecursion IsEntry ts → AllByRecursion IsEntry (before p.topic p.index ts)
entry_before p [] is each = ((is.0, (is.1, tt)), tt)
entry_before p (t ∷ ts) is each =
    elim (bytes_eq p.topic t.topic_id) as (λ b. AllByRecursion IsEntry (cond b (record t { partitions = p.index ∷ t.partitions } ∷ ts) (alone p.topic p.index ∷ t ∷ ts))) [
      | true ↦ ((each.0.0, (is.1, each.0.1)), each.1)
      | false ↦ ((is.0, (is.1, tt)), each)
    ]

entries_listed : (ps : List Partition) → AllByRecursion IsWritten ps → AllByRecursion IsEntry (listed ps)
entries_listed [] each = tt
entries_listed (p ∷ ps) each = entry_before p (listed ps) each.0 (entries_listed ps each.1)

-- what holds of each that a list has
each_of_list : (P : Partition → Type 0) (ps : List Partition) → ((p : Partition) → list_any (eq_by_cmp partition_cmp p) ps ≡ true → P p) → AllByRecursion P ps
each_of_list P [] holds = tt
each_of_list P (p ∷ ps) holds = (
  holds p (ap (λ b. b || list_any (eq_by_cmp partition_cmp p) ps) ((eq_by_cmp_equiv partition_cmp_total).refl p)),
  each_of_list P ps (λ q there. holds q (ap (λ b. eq_by_cmp partition_cmp q p || b) there ∙ either (eq_by_cmp partition_cmp q p))),
)
  where
    either : (b : Bool) → (b || true) ≡ true
    either true = refl
    either false = refl

entries_of : (set : Partitions) → AreWritten set → AllByRecursion IsEntry (listed (in_order set))
entries_of set are = entries_listed (in_order set) (each_of_list IsWritten (in_order set) (λ p there. are.each p (has-in_order set p ∙ there)))

entries_fit : (ts : List TopicPartitionsValue) → All IsWritableTopic ts → All IsEntry ts → All FitsTopicPartitions ts
entries_fit ts writable each k d low = record {
  topic_id = (each k d low).0;
  partitions = ((writable k d low).partitions, All-from_recursion (FitsSigned w32) _ (each k d low).1);
  tags = (writable k d low).tags;
}

assignment_fits : (a : Option Partitions) → IfSome a AreWritten → IfSome (option_map assignment_value a) IsWritableAssignment → IfSome (option_map assignment_value a) FitsAssignment
assignment_fits None are writable = tt
assignment_fits (Some set) are writable = record {
  topic_partitions = (writable.topic_partitions.count, entries_fit (listed (in_order set)) writable.topic_partitions.each (All-from_recursion IsEntry _ (entries_of set are)));
  tags = FitsTaggedFields-nil;
}

assigned_ids : (a : Option Partitions) → IfSome a AreWritten → HaveAssignedIds a
assigned_ids None are = tt
assigned_ids (Some set) are = All-weaker IsEntry (λ t. FitsUuid t.topic_id) (λ t is. is.0) (listed (in_order set)) (All-from_recursion IsEntry _ (entries_of set are))

-- ---- the frame of a reply

frame_of : (v : ReplyValue) → FitsReply v → length (reply_body v) < 2 ^ 31 → (frame : List ℕ) × IsReplyFrame v frame
frame_of v fits short = (
  int32 (pos (length (reply_body v))) ++ reply_body v,
  record { body = reply_body v; spells = record { fits = fits; bytes = refl }; framed = record { size = record { sfits = omega arith }; bytes = refl } },
)

short_id : (member : Option Text) → IfSome member FitsText → IfSome member (λ id. length id ≤ LONGEST_STRING)
short_id None fits = tt
short_id (Some id) fits = fits.length

few_parts : (a : Option Partitions) → IfSome a AreWritten → IfSome a (λ set. size set ≤ MOST_PARTITIONS)
few_parts None are = tt
few_parts (Some set) are = are.few

reply_frame : (correlation : ℤ) → FitsSigned w32 correlation → (r : group.Reply) → IsTold r → (frame : List ℕ) × IsReplyFrame (reply_value correlation r) frame
reply_frame correlation fits r told =
    let sendable : IsSendable (group.Replied r) (reply_room r) = record { id = short_id r.member told.member; few = few_parts r.assignment told.assignment; room = omega arith } in
    let room = HasRoomInFrame-reply correlation r (reply_room r) sendable (assigned_ids r.assignment told.assignment) in
    frame_of (reply_value correlation r) (
      record { correlation_id = fits; tags = FitsTaggedFields-nil },
      record {
        throttle_time_ms = record { sfits = omega arith };
        error_code = number_fits r.code;
        error_message = text_fits r.code;
        member_id = told.member;
        member_epoch = told.epoch;
        heartbeat_interval_ms = told.interval;
        assignment = assignment_fits r.assignment told.assignment room.writable.1.assignment;
        tags = FitsTaggedFields-nil;
      },
    ) room.short

sends : (correlation : ℤ) → FitsSigned w32 correlation → (given : group.Answer) → IsToldIn given → (answer : Answer) × Sends (message_of correlation given) answer
sends correlation fits (group.Replied r) told = let (frame, is) = reply_frame correlation fits r told in (Replied frame, is)
sends correlation fits group.Closes told = (Closes, tt)

-- ---- heartbeats

module _ (c : Coordinator) (serving : IsServing c) (new_is_sound : IsSound (new_group c.salt)) (heartbeats : HasAnAnswer) where
  makes : (success room : Bool) (name : Text) (g : Group) (reply : group.Reply) → IsTold reply → (answer : group.Answer) × (new : Coordinator) × Makes success room c (record { name = name; left = g; reply = reply }) answer new × IsToldIn answer
  makes true true name g reply told = (group.Replied reply, _, (refl, refl), told)
  makes true false name g reply told = (group.Replied (group.refusal CoordinatorNotAvailable), c, (refl, refl), refused_told CoordinatorNotAvailable)
  makes false room name g reply told = (group.Replied reply, c, (refl, refl), told)

  makes_by : (given : group.Answer) (name : Text) (g : Group) → IsToldIn given → (answer : group.Answer) × (new : Coordinator) × MakesBy given c name g answer new × IsToldIn answer
  makes_by (group.Replied reply) name g told = makes (is_success reply.code) (has_room c) name g reply told
  makes_by group.Closes name g told = (group.Closes, c, (refl, refl), tt)

  beats_at : (there : Option Group) (h : Arrival) → h.image ≡ c.image → finite.get c.groups h.heartbeat.group ≡ there → FitsText h.heartbeat.member
      → (given : group.Answer) × (new : Coordinator) × HeartbeatAt there c h given new × IsToldIn given
  beats_at None h image absent fits =
      let present = subst AreImageTopics (sym image) serving.image in
      let is = heartbeats (new_group c.salt) h new_is_sound.view present in
      let told = is_told (new_group c.salt) (consistent (new_group c.salt) new_is_sound) new_is_sound.view h present fits is.answer is.new is.step in
      let (answer, new, made, then_told) = makes_by is.answer h.heartbeat.group is.new told in
      (answer, new, (is.answer, is.new, is.step, made), then_told)
  beats_at (Some g) h image there fits =
      let present = subst AreImageTopics (sym image) serving.image in
      let sound = serving.groups h.heartbeat.group g there in
      let is = heartbeats g h sound.view present in
      let told = is_told g (consistent g sound) sound.view h present fits is.answer is.new is.step in
      (is.answer, _, (is.new, is.step, refl), told)

-- ---- commits

module _ (code : Text → Commitment → Code) where
  partition_fits : (name : Text) (p : CommitRequestPartitionValue) → FitsCommitRequestPartition p → FitsCommitReplyPartition (reply_partition_value ((commitment_of p).index, code name (commitment_of p)))
  partition_fits name p fits = record { partition_index = fits.partition_index; error_code = number_fits (code name (commitment_of p)); tags = FitsTaggedFields-nil }

  topic_fits : (t : CommitRequestTopicValue) → FitsCommitRequestTopic t → FitsCommitReplyTopic (reply_topic_value (t.name, map (λ x. (x.index, code t.name x)) (map commitment_of t.partitions)))
  topic_fits t fits =
      record {
        name = fits.name;
        partitions = (
          omega (arith, length-answers code t.name t.partitions, fits.partitions.0),
          All-map FitsCommitReplyPartition reply_partition_value (map (λ x. (x.index, code t.name x)) (map commitment_of t.partitions))
              (All-map (λ a. FitsCommitReplyPartition (reply_partition_value a)) (λ x. (x.index, code t.name x)) (map commitment_of t.partitions)
              (All-map (λ (x : Commitment). FitsCommitReplyPartition (reply_partition_value (x.index, code t.name x))) commitment_of t.partitions
              (All-weaker FitsCommitRequestPartition (λ (p : CommitRequestPartitionValue). FitsCommitReplyPartition (reply_partition_value ((commitment_of p).index, code t.name (commitment_of p)))) (partition_fits t.name) t.partitions fits.partitions.1))),
        );
        tags = FitsTaggedFields-nil;
      }

  commit_fits : (v : CommitRequestValue) → FitsCommitRequest v → FitsCommitReply (commit_reply_value (answers_by code (commit_of v)))
  commit_fits v fits =
      record {
        throttle_time_ms = record { sfits = omega arith };
        topics = (
          omega (arith, length-topics_answers code v.topics, fits.topics.0),
          All-map FitsCommitReplyTopic reply_topic_value (answers_of_topics code v.topics)
              (All-map (λ a. FitsCommitReplyTopic (reply_topic_value a)) (λ t. (t.name, map (λ x. (x.index, code t.name x)) t.partitions)) (map topic_of v.topics)
              (All-map (λ (t : TopicCommitments). FitsCommitReplyTopic (reply_topic_value (t.name, map (λ x. (x.index, code t.name x)) t.partitions))) topic_of v.topics
              (All-weaker FitsCommitRequestTopic (λ (t : CommitRequestTopicValue). FitsCommitReplyTopic (reply_topic_value (t.name, map (λ x. (x.index, code t.name x)) (map commitment_of t.partitions)))) topic_fits v.topics fits.topics.1))),
        );
        tags = FitsTaggedFields-nil;
      }

reply_fits : (v : CommitRequestValue) → FitsCommitRequest v → (refusal : Option Code) (c : Coordinator) → FitsCommitReply (commit_reply_value (commit_reply refusal (commit_of v) c.image))
reply_fits v fits (Some code) c = commit_fits (λ name x. code) v fits
reply_fits v fits None c = commit_fits (code_of_taken c.image) v fits

commits_at : (c : Coordinator) (there : Option Group) (v : CommitRequestValue) → FitsCommitRequest v
    → (reply : CommitReply) × (new : Coordinator) × CommitAt there c (commit_of v) reply new × FitsCommitReply (commit_reply_value reply)
commits_at c None v fits = (answers_by (λ name x. GroupIdNotFound) (commit_of v), c, (refl, refl), commit_fits (λ name x. GroupIdNotFound) v fits)
commits_at c (Some g) v fits =
    let r = commit_of v in
    let refusal = refusal_of_commit g.records r.member r.epoch in
    (commit_reply refusal r c.image, _, (record g { offsets = offsets_after refusal g.offsets r c.image }, record { answers = refl; stores = refl }, refl), reply_fits v fits refusal c)

-- ---- requests and frames

module _ (every : EveryGroupIsSound) (steps_are_sound : StepsAreSound Step) (heartbeats : HasAnAnswer) where
  pub requests : (c : Coordinator) → IsServing c → (v : RequestValue) (body : List ℕ) (stamp : Stamp) (moment : ℕ) → IsRequest v body → (answer : Answer) × (new : Coordinator) × RequestStep c v stamp moment answer new
  requests c serving (heartbeat_request header v) body stamp moment is =
      let fits = is.spells.fits in
      let sound : IsSound (new_group c.salt) = every c.salt 0 (omega arith) [] (new_group c.salt) refl in
      let (given, new, step, told) = beats_at c serving sound heartbeats (finite.get c.groups v.group_id) (arrival_of v stamp moment c.image) refl refl fits.1.member_id in
      let (answer, sent) = sends header.correlation_id fits.0.correlation_id given told in
      (answer, new, (given, step, sent))
  requests c serving (commit_request header v) body stamp moment is =
      let fits = is.spells.fits in
      let (reply, new, step, written) = commits_at c (finite.get c.groups v.group_id) v fits.1 in
      let long = length-commit_fields header v in
      let most = is.is_body.1 in
      let whole = ap length is.spells.bytes in
      let commits : CommitsIn c v (commit_reply_value reply) new = record { reply = reply; step = step; says = refl } in
      let room = HasRoomInFrame-commit c new header.correlation_id v (commit_reply_value reply) (length body) (length body) commits fits.1 (omega arith) most (omega arith) in
      let (frame, sent) = frame_of (commit_value header.correlation_id reply) (record { correlation_id = fits.0.correlation_id; tags = FitsTaggedFields-nil }, written) room.short in
      (Replied frame, new, (reply, step, sent))

  -- a body is a request or it isn't
  requests_or_none : (body : List ℕ) → AreBytes body → ((v : RequestValue) × IsRequest v body) ⊎ ((v : RequestValue) → ¬ IsRequest v body)
  requests_or_none body are = elim (cases_lt (length body) SMALLEST_BODY) [
    | inl short ↦ inr (λ v is. let least = is.is_body.0 in omega arith)
    | inr least ↦ elim (cases_lt LARGEST_BODY (length body)) [
      | inl long ↦ inr (λ v is. let most = is.is_body.1 in omega arith)
      | inr most ↦
          elim (request_at body) as (λ x. request_at body ≡ x → ((v : RequestValue) × IsRequest v body) ⊎ ((v : RequestValue) → ¬ IsRequest v body)) [
            | Ok v ↦ λ is. inl (v, record { is_body = (least, most); spells = read_spells body v are is })
            | Err fault ↦ λ is. inr (λ v other. let read = spells_read body v other.spells in cc)
          ] refl
    ]
  ]

  frames : (c : Coordinator) → IsServing c → (body : List ℕ) → AreBytes body → (stamp : Stamp) (moment : ℕ) → (answer : Answer) × (new : Coordinator) × FrameStepBy RequestStep c body stamp moment answer new
  frames c serving body are stamp moment = elim (requests_or_none body are) [
    | inl (v, is) ↦ let (answer, new, step) = requests c serving v body stamp moment is in (answer, new, inl (v, is, step))
    | inr none ↦ (Closes, c, inr (none, refl, refl))
  ]

  steps : (c : Coordinator) (event : Event) → IsServing c → IsComing event → (answer : Answer) × (new : Coordinator) × Step c event answer new
  steps c (Frame body stamp moment) serving coming = frames c serving body coming stamp moment
  steps c (Tick moment) serving coming = (_, _, (refl, refl))
  steps c (Image topics) serving coming = (_, _, (refl, refl, coming))

  pub events_are_answered : EventsAreAnswered
  events_are_answered c event serving coming =
      let (answer, new, step) = steps c event serving coming in
      (answer, new, step, steps_are_sound c event answer new step serving)

-- ---- one event after the other

module _ (answered : EventsAreAnswered) where
  runs : (events : List Event) (c : Coordinator) → IsServing c → AllByRecursion IsComing events → (answers : List Answer) × (new : Coordinator) × Run c events answers new
  runs [] c serving coming = ([], c, refl)
  runs (event ∷ events) c serving coming =
      let (answer, middle, step, serving_then) = answered c event serving coming.0 in
      let (answers, new, run) = runs events middle serving_then coming.1 in
      (answer ∷ answers, new, (middle, step, run))

  pub runs_are_answered : RunsAreAnswered
  runs_are_answered salt events coming = runs events (opening salt) (opening_serves salt) (recursion_from_All IsComing events coming)

-- ---- whatever came, it serves

pub coordinators_serve : StepsAreSound Step → CoordinatorsServe
coordinators_serve steps_are_sound salt events answers c run = serves_on Step steps_are_sound events answers (opening salt) c run (opening_serves salt)
