-- A client's turn in a round: its full beat is accepted, its reply is taken, and it releases all that it isn't shown.
use Rattle.std.proofs.Common.{◌≡◌, ◌≢◌, ℕ, zero, suc, ◌≤◌, ℤ, pos, negsuc, arith, Bool, true, false, not, zero-lt-suc, ◌&&◌, ◌||◌, if◌then◌else◌, List, [], ◌∷◌, ◌++◌, map, length, slice_get, Option, Some, unwrap_or, inl, inr, refl, sym, ap, subst, ◌∙◌, true≢false}
use Rattle.std.specs.Ordering.{int_eq}
use Rattle.std.specs.FinMap as finite
use Rattle.std.proofs.lemmas.Bool.Decides.{Decides-int_eq}
use Rattle.flex_wire.specs.Spelling.{signed}
use Rattle.kip_msgs.specs.Values.{RequestHeaderValue, HeartbeatRequestValue, HeartbeatReplyValue, RequestValue, heartbeat_request, heartbeat_reply}
use Rattle.kip_msgs.specs.Spelling.{SpellsRequest, SpellsReply, request_body, request_header_fields}
use Rattle.kip_msgs.specs.Laws.{OneRequestABody, OneReplyABody}
use Rattle.group_types.specs.declared.partition.Partition.{Partition}
use Rattle.group_types.specs.declared.stamp.Stamp.{Stamp}
use Rattle.group_types.specs.Text.{Text}
use Rattle.group_types.specs.Sets.{has, in_order, union}
use Rattle.group_types.specs.Partition.{Partitions}
use Rattle.group_types.specs.Code.{code_number}
use Rattle.group_types.specs.Limits.{LARGEST_BODY}
use Rattle.group_types.specs.Request.{Heartbeat, is_empty}
use Rattle.group_types.specs.Group.{Group, Record}
use Rattle.group_types.specs.HeartbeatStep.{shown}
use Rattle.group_types.specs.HeartbeatStep as group
use Rattle.group_types.specs.Sound.{IsSound}
use Rattle.group_types.proofs.Lookups.{not_none, some_is}
use Rattle.group_types.proofs.Orders.{partition_cmp_total, partition_cmp-IsAntisymmetric}
use Rattle.group_types.proofs.SetLemmas.{has-union, same_set}
use Rattle.group_epochs.specs.Request.{arrival_of}
use Rattle.coord_node.specs.Coordinator.{Coordinator, Answer, Replied, Closes, Done}
use Rattle.coord_node.specs.Replies.{heartbeat_reply_value, reply_value}
use Rattle.coord_node.specs.Steps.{FrameStepBy, HeartbeatAt, IsRequest, RequestStep, Sends, message_of, with_group}
use Rattle.member_core.specs.Client.{Client, State, Inside, state_of, to_release}
use Rattle.member_core.specs.Asking.{Beat, Full, after_sending, beat_of, fullness_of, header_of, heartbeat_for, heartbeat_value, request_for, request_value}
use Rattle.member_core.specs.Refusing.{is_too_large}
use Rattle.member_core.specs.Taking.{MeansSuccess, News, Accepts, Takes, Tells, after_news, meaning_of, news_by, news_of}
use Rattle.world_sim.specs.World.{World, Request, Reply, numbered, with_client, with_coordinator, with_reply, with_request}
use Rattle.world_sim.specs.Acts.{AsksIf, AsksStep, DeliversIf, DeliverStep, Outcome, IsSent, IsReplied, Is, Pools, SendsIf, TakeBy, TakenAs, TakeStep, Release, Run, is_forgotten, is_unremembered, stamp_of, with_sent}
use Rattle.world_sim.specs.Rounds.{HasTurn}
use Rattle.world_sim.proofs.FullBeats.{CanBeat, HasBeat, full_beat, has_beat}
use Rattle.group_types.proofs.FrameLemmas.{same_body}
use Rattle.world_sim.proofs.Messages.{assignment_same, heartbeat_in, heartbeat_reply_in, heartbeat_said}
use Rattle.world_sim.proofs.RequestSizes.{within_if_small}
use Rattle.world_sim.proofs.Numbered.{numbered_itself, numbered_other}
use Rattle.world_sim.proofs.Released.{HasReleased, releases}

-- ---- outcomes differ

abbrev number_of : Outcome → ℕ
number_of (IsSent n) = n
number_of (IsReplied n reply) = n
number_of _ = 0

abbrev pub is_sent : Outcome → Bool
is_sent (IsSent n) = true
is_sent _ = false

abbrev is_replied : Outcome → Bool
is_replied (IsReplied n reply) = true
is_replied _ = false

abbrev is_state : Outcome → Bool
is_state (Is state) = true
is_state _ = false

-- ---- the last of a list

pub last_get : {X : Type 0} (xs : List X) (x : X) → slice_get (xs ++ x ∷ []) (length xs) ≡ Some x
last_get [] x = refl
last_get (y ∷ xs) x = last_get xs x

-- what comes with the number after the others'
numbered_last : {X : Type 0} (xs : List X) (x : X) (k : ℕ) → k ≡ suc (length xs) → numbered (xs ++ x ∷ []) k ≡ Some x
numbered_last xs x k is = ap (numbered (xs ++ x ∷ [])) is ∙ last_get xs x

-- ---- what a reply of success tells

told_by : (m : Text) (epoch : ℕ) (set : Partitions) (news : News) → news_by MeansSuccess (Some m) (pos epoch) (Some set) ≡ Some news → news ≡ Accepts m epoch (Some set)
told_by m zero set news is = absurd (not_none news is)
told_by m (suc epoch) set news is = sym (some_is (Accepts m (suc epoch) (Some set)) news is)

-- ---- what a full beat is

not_zero : (below : ℕ) → int_eq (pos (suc below)) (pos 0) ≡ false
not_zero below = by (int_eq (pos (suc below)) (pos 0)) refl
  where
    by : (b : Bool) → int_eq (pos (suc below)) (pos 0) ≡ b → b ≡ false
    by true so =
        let same : suc below ≡ 0 = ap (λ (x : ℤ). elim x [ pos n ↦ n | negsuc n ↦ 0 ]) ((Decides-int_eq (pos (suc below)) (pos 0)).0 so) in
        absurd (omega (arith, same))
    by false so = refl

some_bytes : (header : RequestHeaderValue) (v : HeartbeatRequestValue) → 1 ≤ length (request_body (heartbeat_request header v))
unfolding request_body request_header_fields signed
some_bytes header v = zero-lt-suc _

-- a heartbeat whose body fits a frame is a request
pub heartbeat_is_request : (header : RequestHeaderValue) (v : HeartbeatRequestValue) (body : List ℕ) → SpellsRequest (heartbeat_request header v) body → length body ≤ LARGEST_BODY
    → IsRequest (heartbeat_request header v) body
heartbeat_is_request header v body spells most =
    record { is_body = (subst (λ (b : List ℕ). 1 ≤ length b) (sym spells.bytes) (some_bytes header v), most); spells = spells }

abbrev pub IsReply : Outcome → Type 0
IsReply outcome = (k : ℕ) × (said : HeartbeatReplyValue) × (outcome ≡ IsReplied k said)

-- ---- a full beat is full anyway

full_anyway : (c : Client) → fullness_of c Full ≡ Full
full_anyway c = by c.says_all
  where
    by : (b : Bool) → (if b then Full else Full) ≡ Full
    by true = refl
    by false = refl

module _ (one_request : OneRequestABody) (one_reply : OneReplyABody) (w : World) (n : ℕ) (c : Client) (there : numbered w.clients n ≡ Some c) where
  abbrev Asked : Client
  Asked = after_sending c

  abbrev Name : Text
  Name = c.settings.group

  -- ---- it asks

  pub record IsSending (request : ℕ) (sent : World) : Type 0 where
    pub body : List ℕ
    pub fits : length body ≤ LARGEST_BODY
    pub spells : SpellsRequest (request_for c (Beat Full)) body
    pub is_request : request ≡ suc (length w.requests)
    pub is : sent ≡ with_request (with_client w n Asked) (record { sender = n; stamp = stamp_of n Asked; body = body })

  sends_if : (large : Bool) (request : ℕ) (sent : World) → is_too_large (request_for c (Beat Full)) ≡ large → SendsIf large c w n (Beat Full) (IsSent request) sent → IsSending request sent
  sends_if true request sent large is = absurd (true≢false (ap is_sent is.0))
  sends_if false request sent small (body, after, asks, is) = record {
    body = body;
    fits = within_if_small (request_for c (Beat Full)) body asks.spells.bytes small;
    spells = asks.spells;
    is_request = ap number_of is.0;
    is = subst (λ (x : Client). sent ≡ with_sent w n x body) asks.after is.1;
  }

  asks_if : (b : Bool) (request : ℕ) (sent : World) → AsksIf b c w n (Beat Full) (IsSent request) sent → IsSending request sent
  asks_if false request sent is = absurd (true≢false (ap is_sent is.0))
  asks_if true request sent is = sends_if (is_too_large (request_for c (Beat Full))) request sent refl is

  pub sending : (request : ℕ) (sent : World) → AsksStep (numbered w.clients n) w n (Beat Full) (IsSent request) sent → IsSending request sent
  sending request sent is = asks_if _ request sent (subst (λ (o : Option Client). AsksStep o w n (Beat Full) (IsSent request) sent) there is)

  -- ---- it is heard

  module _ (m : Text) (below : ℕ) (is_id : c.id ≡ Some m) (is_epoch : c.epoch ≡ suc below) (g : Group) (of_group : finite.get w.coordinator.groups c.settings.group ≡ Some g) (sound : IsSound g)
      (r : Record) (e : ℕ) (can : CanBeat g w.coordinator.image c.settings m below c.own (record { connection = n; frame = suc c.number }) r e) where
    abbrev TheBeat : Heartbeat
    TheBeat = full_beat c.settings m below c.own

    abbrev TheStamp : Stamp
    TheStamp = record { connection = n; frame = suc c.number }

    same_beat : heartbeat_for c (Beat Full) ≡ TheBeat
    same_beat =
        ap (beat_of c) (full_anyway c)
        ∙ (λ i. record TheBeat { member = unwrap_or (is_id i) []; epoch = pos (is_epoch i) })

    abbrev TheMessage : RequestValue
    TheMessage = request_value (suc c.number) TheBeat

    -- the group's answer, and the bytes that are pooled
    pub record IsHeardIn (k : ℕ) (sent heard : World) : Type 0 where
      pub after : Group
      pub answer : group.Answer
      pub beat : HasBeat g w.coordinator.image m c.own answer after
      pub request : Request
      pub sender : request.sender ≡ n
      pub body : List ℕ
      pub spells : SpellsReply (reply_value (pos (suc c.number)) beat.reply) body
      pub is_reply : k ≡ suc (length sent.replies)
      pub is : heard ≡ with_reply (with_coordinator sent (with_group w.coordinator c.settings.group after)) (record { request = request; body = body })

    -- ---- whatever comes of the delivery is a reply

    module _ (body : List ℕ) (spells : SpellsRequest (request_for c (Beat Full)) body) (sent heard : World) (is_sent_w : sent ≡ with_request (with_client w n Asked) (record { sender = n; stamp = stamp_of n Asked; body = body })) where
      abbrev AnyRequest : Request
      AnyRequest = record { sender = n; stamp = stamp_of n Asked; body = body }

      pooled_anyway : (after : Group) (given : group.Answer) (beat : HasBeat g w.coordinator.image m c.own given after) (answer : Answer)
          → Sends (Some (reply_value (pos (suc c.number)) beat.reply)) answer → (outcome : Outcome)
          → Pools (with_coordinator sent (with_group w.coordinator c.settings.group after)) AnyRequest answer outcome heard → IsReply outcome
      pooled_anyway after given beat (Replied frame) sends outcome (bytes, header, reply, framed, spelled, comes) = (suc (length sent.replies), reply, comes.0)
      pooled_anyway after given beat Closes sends outcome pools = absurd sends
      pooled_anyway after given beat (Done removed) sends outcome pools = absurd sends

      answered_anyway : (answer : Answer) (new : Coordinator) (given : group.Answer)
          → HeartbeatAt (Some g) w.coordinator (arrival_of (heartbeat_value TheBeat) TheStamp w.clock w.coordinator.image) given new → Sends (message_of (pos (suc c.number)) given) answer
          → (outcome : Outcome) → Pools (with_coordinator sent new) AnyRequest answer outcome heard → IsReply outcome
      answered_anyway answer new given (after, step, is) sends outcome pools =
          let beat : HasBeat g w.coordinator.image m c.own given after =
          has_beat g sound w.coordinator.image c.settings m below c.own TheStamp w.clock r e can given after
          (subst (λ (q : Heartbeat). group.HeartbeatStep g (record { heartbeat = q; stamp = TheStamp; moment = w.clock; image = w.coordinator.image }) given after) (heartbeat_said TheBeat) step) in
          pooled_anyway after given beat answer
          (subst (λ (x : group.Answer). Sends (message_of (pos (suc c.number)) x) answer) beat.answers sends) outcome
          (subst (λ (x : Coordinator). Pools (with_coordinator sent x) AnyRequest answer outcome heard) is pools)

      stepped_anyway : length body ≤ LARGEST_BODY → (answer : Answer) (new : Coordinator) → FrameStepBy RequestStep w.coordinator body TheStamp w.clock answer new
          → (outcome : Outcome) → Pools (with_coordinator sent new) AnyRequest answer outcome heard → IsReply outcome
      stepped_anyway fits answer new (inl (v, is, step)) outcome pools =
          let same : v ≡ TheMessage = one_request v (request_for c (Beat Full)) body is.spells spells ∙ ap (request_value (suc c.number)) same_beat in
          let beats : RequestStep w.coordinator TheMessage TheStamp w.clock answer new = subst (λ (x : RequestValue). RequestStep w.coordinator x TheStamp w.clock answer new) same step in
          answered_anyway answer new beats.0
          (subst (λ (o : Option Group). HeartbeatAt o w.coordinator (arrival_of (heartbeat_value TheBeat) TheStamp w.clock w.coordinator.image) beats.0 new) of_group beats.1)
          beats.2 outcome pools
      stepped_anyway fits answer new (inr is) outcome pools =
          absurd (is.0 (request_for c (Beat Full)) (heartbeat_is_request (header_of (suc c.number)) (heartbeat_value (heartbeat_for c (Beat Full))) body spells fits))

      delivers_anyway : length body ≤ LARGEST_BODY → (b : Bool) → b ≡ false → (outcome : Outcome) → DeliversIf b sent AnyRequest outcome heard → IsReply outcome
      delivers_anyway fits true known outcome is = absurd (true≢false known)
      delivers_anyway fits false known outcome (answer, new, step, pools) =
          stepped_anyway fits answer new
          (subst (λ (v : World). FrameStepBy RequestStep v.coordinator body TheStamp v.clock answer new) is_sent_w step) outcome pools

      hears_anyway : length body ≤ LARGEST_BODY → (outcome : Outcome) → DeliverStep (Some AnyRequest) sent outcome heard → IsReply outcome
      hears_anyway fits outcome (header, v, spelled, is) =
          let same : heartbeat_request header v ≡ TheMessage = one_request (heartbeat_request header v) (request_for c (Beat Full)) body spelled spells ∙ ap (request_value (suc c.number)) same_beat in
          delivers_anyway fits (is_forgotten sent.coordinator v)
          (ap (λ (x : RequestValue). is_forgotten sent.coordinator (heartbeat_in x v)) same ∙ ap (λ b. b && not (is_empty m) && is_unremembered (finite.get sent.coordinator.groups Name) m) (not_zero below))
          outcome is

    module _ (body : List ℕ) (spells : SpellsRequest (request_for c (Beat Full)) body) (k : ℕ) (said : HeartbeatReplyValue) (sent heard : World) (is_sent_w : sent ≡ with_request (with_client w n Asked) (record { sender = n; stamp = stamp_of n Asked; body = body })) where
      abbrev TheRequest : Request
      TheRequest = record { sender = n; stamp = stamp_of n Asked; body = body }

      -- by what is sent of the answer
      pooled : (after : Group) (given : group.Answer) (beat : HasBeat g w.coordinator.image m c.own given after) (answer : Answer)
          → Sends (Some (reply_value (pos (suc c.number)) beat.reply)) answer
          → Pools (with_coordinator sent (with_group w.coordinator c.settings.group after)) TheRequest answer (IsReplied k said) heard → IsHeardIn k sent heard
      pooled after given beat (Replied frame) sends (bytes, header, reply, framed, spelled, comes) =
          record {
            after = after;
            answer = given;
            beat = beat;
            request = TheRequest;
            sender = refl;
            body = bytes;
            spells = subst (λ (b : List ℕ). SpellsReply (reply_value (pos (suc c.number)) beat.reply) b) (same_body sends.body bytes frame sends.framed framed) sends.spells;
            is_reply = ap number_of comes.0;
            is = comes.1;
          }
      pooled after given beat Closes sends pools = absurd sends
      pooled after given beat (Done removed) sends pools = absurd sends

      answered : (answer : Answer) (new : Coordinator) (given : group.Answer)
          → HeartbeatAt (Some g) w.coordinator (arrival_of (heartbeat_value TheBeat) TheStamp w.clock w.coordinator.image) given new → Sends (message_of (pos (suc c.number)) given) answer
          → Pools (with_coordinator sent new) TheRequest answer (IsReplied k said) heard → IsHeardIn k sent heard
      answered answer new given (after, step, is) sends pools =
          let beat : HasBeat g w.coordinator.image m c.own given after =
          has_beat g sound w.coordinator.image c.settings m below c.own TheStamp w.clock r e can given after
          (subst (λ (q : Heartbeat). group.HeartbeatStep g (record { heartbeat = q; stamp = TheStamp; moment = w.clock; image = w.coordinator.image }) given after) (heartbeat_said TheBeat) step) in
          pooled after given beat answer
          (subst (λ (x : group.Answer). Sends (message_of (pos (suc c.number)) x) answer) beat.answers sends)
          (subst (λ (x : Coordinator). Pools (with_coordinator sent x) TheRequest answer (IsReplied k said) heard) is pools)

      stepped : (answer : Answer) (new : Coordinator) → FrameStepBy RequestStep w.coordinator body TheStamp w.clock answer new
          → Pools (with_coordinator sent new) TheRequest answer (IsReplied k said) heard → IsHeardIn k sent heard
      stepped answer new (inl (v, is, step)) pools =
          let same : v ≡ TheMessage = one_request v (request_for c (Beat Full)) body is.spells spells ∙ ap (request_value (suc c.number)) same_beat in
          let beats : RequestStep w.coordinator TheMessage TheStamp w.clock answer new = subst (λ (x : RequestValue). RequestStep w.coordinator x TheStamp w.clock answer new) same step in
          answered answer new beats.0
          (subst (λ (o : Option Group). HeartbeatAt o w.coordinator (arrival_of (heartbeat_value TheBeat) TheStamp w.clock w.coordinator.image) beats.0 new) of_group beats.1)
          beats.2 pools
      stepped answer new (inr is) pools =
          absurd (true≢false (ap is_replied (subst (λ (x : Answer). Pools (with_coordinator sent new) TheRequest x (IsReplied k said) heard) is.1 pools).0))

      delivers_if : (b : Bool) → DeliversIf b sent TheRequest (IsReplied k said) heard → IsHeardIn k sent heard
      delivers_if true is = absurd (true≢false (ap is_replied is.0))
      delivers_if false (answer, new, step, pools) =
          stepped answer new
          (subst (λ (v : World). FrameStepBy RequestStep v.coordinator body TheStamp v.clock answer new) is_sent_w step) pools

      hears : DeliverStep (Some TheRequest) sent (IsReplied k said) heard → IsHeardIn k sent heard
      hears (header, v, spelled, is) = delivers_if _ is

    -- the beat is answered
    pub is_answered : (request : ℕ) (sent heard : World) (outcome : Outcome) → IsSending request sent → DeliverStep (numbered sent.requests request) sent outcome heard → IsReply outcome
    is_answered request sent heard outcome sending is =
        let TheRequest : Request = record { sender = n; stamp = stamp_of n Asked; body = sending.body } in
        let pooled : numbered sent.requests request ≡ Some TheRequest =
        ap (λ (v : World). numbered v.requests request) sending.is ∙ numbered_last w.requests TheRequest request sending.is_request in
        hears_anyway sending.body sending.spells sent heard sending.is sending.fits outcome (subst (λ (o : Option Request). DeliverStep o sent outcome heard) pooled is)

    pub heard_in : (request : ℕ) (sent heard : World) (k : ℕ) (said : HeartbeatReplyValue) → IsSending request sent → DeliverStep (numbered sent.requests request) sent (IsReplied k said) heard → IsHeardIn k sent heard
    heard_in request sent heard k said sending is =
        let TheRequest : Request = record { sender = n; stamp = stamp_of n Asked; body = sending.body } in
        let pooled : numbered sent.requests request ≡ Some TheRequest =
        ap (λ (v : World). numbered v.requests request) sending.is ∙ numbered_last w.requests TheRequest request sending.is_request in
        hears sending.body sending.spells k said sent heard sending.is (subst (λ (o : Option Request). DeliverStep o sent (IsReplied k said) heard) pooled is)

    -- ---- it takes the reply

    abbrev Told : ℕ → Partitions → Client
    Told epoch set = after_news Asked (Accepts m epoch (Some set))

    module _ (k : ℕ) (sent heard : World) (heard_as : IsHeardIn k sent heard) (is_asked : numbered heard.clients n ≡ Some Asked) (state : State) (told : World) where
      abbrev TheReply : Reply
      TheReply = record { request = heard_as.request; body = heard_as.body }

      news_are : (news : News) → Tells (suc c.number) heard_as.body news → news ≡ Accepts m heard_as.beat.epoch (Some (shown heard_as.after m))
      news_are news tells =
          let beat = heard_as.beat in
          let same : heartbeat_reply tells.header tells.reply ≡ reply_value (pos (suc c.number)) beat.reply =
          one_reply (heartbeat_reply tells.header tells.reply) (reply_value (pos (suc c.number)) beat.reply) heard_as.body refl tells.spells heard_as.spells in
          told_by m beat.epoch (shown heard_as.after m) news
          ((λ i. news_by (meaning_of (code_number (sym beat.success i))) (sym beat.is_id i) (sym beat.is_epoch i) (sym (assignment_same beat.reply.assignment ∙ beat.is_shown) i))
          ∙ ap (λ v. news_of (heartbeat_reply_in v tells.reply)) (sym same)
          ∙ tells.tells)

      taken_as : (taken : Bool) (after : Client) → Takes Asked heard_as.body taken after → TakenAs taken heard n after (Is state) told
          → told ≡ with_client heard n (Told heard_as.beat.epoch (shown heard_as.after m))
      taken_as false after takes is = absurd (true≢false (ap is_state is.0))
      taken_as true after (news, tells, is_after) is =
          is.1 ∙ ap (with_client heard n) (is_after ∙ ap (after_news Asked) (news_are news tells))

      take_by : TakeBy (Some Asked) TheReply heard (Is state) told → told ≡ with_client heard n (Told heard_as.beat.epoch (shown heard_as.after m))
      take_by (taken, after, takes, is) =
          taken_as taken after takes (subst (λ j. TakenAs taken heard j after (Is state) told) heard_as.sender is)

      takes_it : TakeStep (numbered heard.replies k) heard (Is state) told → told ≡ with_client heard n (Told heard_as.beat.epoch (shown heard_as.after m))
      takes_it is =
          let pooled : numbered heard.replies k ≡ Some TheReply =
          ap (λ (v : World). numbered v.replies k) heard_as.is ∙ numbered_last sent.replies TheReply k heard_as.is_reply in
          let by_reply : TakeBy (numbered heard.clients heard_as.request.sender) TheReply heard (Is state) told =
          subst (λ (o : Option Reply). TakeStep o heard (Is state) told) pooled is in
          take_by (subst (λ (o : Option Client). TakeBy o TheReply heard (Is state) told) (ap (numbered heard.clients) heard_as.sender ∙ is_asked) by_reply)

    -- ---- whatever comes of its being given the reply, it takes it

    module _ (k : ℕ) (sent heard : World) (heard_as : IsHeardIn k sent heard) (is_asked : numbered heard.clients n ≡ Some Asked) (told : World) where
      abbrev AnyReply : Reply
      AnyReply = record { request = heard_as.request; body = heard_as.body }

      is_told : (below : ℕ) → heard_as.beat.epoch ≡ suc below → Tells (suc c.number) heard_as.body (Accepts m (suc below) (Some (shown heard_as.after m)))
      is_told below positive =
          let beat = heard_as.beat in
          record {
            header = record { correlation_id = pos (suc c.number); tags = [] };
            reply = heartbeat_reply_value beat.reply;
            spells = heard_as.spells;
            answers = refl;
            tells =
                (λ i. news_by (meaning_of (code_number (beat.success i))) (beat.is_id i) (beat.is_epoch i) ((assignment_same beat.reply.assignment ∙ beat.is_shown) i))
                ∙ ap (λ k. news_by MeansSuccess (Some m) (pos k) (Some (shown heard_as.after m))) positive;
          }

      taken_anyway : (below : ℕ) → heard_as.beat.epoch ≡ suc below → (taken : Bool) (after : Client) → Takes Asked heard_as.body taken after
          → (outcome : Outcome) → TakenAs taken heard heard_as.request.sender after outcome told → (s : State) × (outcome ≡ Is s)
      taken_anyway below positive true after takes outcome is = (state_of after, is.0)
      taken_anyway below positive false after takes outcome is = absurd (takes.0 (Accepts m (suc below) (Some (shown heard_as.after m))) (is_told below positive))

      pub is_taken : (below : ℕ) → heard_as.beat.epoch ≡ suc below → (outcome : Outcome) → TakeStep (numbered heard.replies k) heard outcome told → (s : State) × (outcome ≡ Is s)
      is_taken below positive outcome is =
          let pooled : numbered heard.replies k ≡ Some AnyReply =
          ap (λ (v : World). numbered v.replies k) heard_as.is ∙ numbered_last sent.replies AnyReply k heard_as.is_reply in
          let by_reply : TakeBy (numbered heard.clients heard_as.request.sender) AnyReply heard outcome told =
          subst (λ (o : Option Reply). TakeStep o heard outcome told) pooled is in
          let by_client : TakeBy (Some Asked) AnyReply heard outcome told =
          subst (λ (o : Option Client). TakeBy o AnyReply heard outcome told) (ap (numbered heard.clients) heard_as.sender ∙ is_asked) by_reply in
          taken_anyway below positive by_client.0 by_client.1 by_client.2 outcome by_client.3

    -- ---- the whole turn

    pub record HasGone (new : World) : Type 0 where
      pub after : Group
      pub answer : group.Answer
      pub beat : HasBeat g w.coordinator.image m c.own answer after
      pub coordinator : new.coordinator ≡ with_group w.coordinator c.settings.group after
      pub others : (k : ℕ) → k ≢ n → numbered new.clients k ≡ numbered w.clients k
      pub client : Client
      pub is_client : numbered new.clients n ≡ Some client
      pub settings : client.settings ≡ c.settings
      pub id : client.id ≡ Some m
      pub place : client.place ≡ Inside
      pub epoch : client.epoch ≡ beat.epoch
      pub number : client.number ≡ suc c.number
      pub waits : client.waits ≡ false
      pub own : client.own ≡ shown after m

    both_or : (a b : Bool) → ((a || b) && b) ≡ b
    both_or true b = refl
    both_or false true = refl
    both_or false false = refl

    -- it was heard, and told; then it released what it wasn't shown
    ended : (request k : ℕ) (sent heard told new : World) → IsSending request sent → (heard_as : IsHeardIn k sent heard)
        → told ≡ with_client heard n (Told heard_as.beat.epoch (shown heard_as.after m))
        → (ps : List Partition) (done : HasReleased told n (Told heard_as.beat.epoch (shown heard_as.after m)) ps new)
        → ((q : Partition) → has done.client.own q ≡ (has (union c.own (shown heard_as.after m)) q && has (shown heard_as.after m) q)) → HasGone new
    ended request k sent heard told new sends heard_as told_is ps done owned =
        record {
          after = heard_as.after;
          answer = heard_as.answer;
          beat = heard_as.beat;
          coordinator = done.coordinator ∙ ap (λ (v : World). v.coordinator) told_is ∙ ap (λ (v : World). v.coordinator) heard_as.is;
          others = λ k other.
              done.others k other
              ∙ ap (λ (v : World). numbered v.clients k) told_is
              ∙ numbered_other heard.clients n k (Told heard_as.beat.epoch (shown heard_as.after m)) other
              ∙ ap (λ (v : World). numbered v.clients k) heard_as.is
              ∙ ap (λ (v : World). numbered v.clients k) sends.is
              ∙ numbered_other w.clients n k Asked other;
          client = done.client;
          is_client = done.is_client;
          settings = done.settings;
          id = done.id;
          place = done.place;
          epoch = done.epoch;
          number = done.number;
          waits = done.waits;
          own = same_set partition_cmp_total partition_cmp-IsAntisymmetric done.client.own (shown heard_as.after m)
              (λ q.
              owned q
              ∙ ap (λ b. b && has (shown heard_as.after m) q) (has-union partition_cmp_total c.own (shown heard_as.after m) q)
              ∙ both_or (has c.own q) (has (shown heard_as.after m) q));
        }

    pub gone : (new : World) → HasTurn w n new → HasGone new
    gone new turn = by_told (takes_it turn.is_told.is_heard.reply turn.is_told.is_heard.sent turn.is_told.heard heard_it is_asked turn.is_told.state turn.told turn.is_told.takes)
      where
        sends : IsSending turn.is_told.is_heard.request turn.is_told.is_heard.sent
        sends = sending turn.is_told.is_heard.request turn.is_told.is_heard.sent turn.is_told.is_heard.sends

        heard_it : IsHeardIn turn.is_told.is_heard.reply turn.is_told.is_heard.sent turn.is_told.heard
        heard_it =
            heard_in turn.is_told.is_heard.request turn.is_told.is_heard.sent turn.is_told.heard turn.is_told.is_heard.reply turn.is_told.is_heard.said sends turn.is_told.is_heard.delivers

        is_asked : numbered turn.is_told.heard.clients n ≡ Some Asked
        is_asked = ap (λ (v : World). numbered v.clients n) heard_it.is ∙ ap (λ (v : World). numbered v.clients n) sends.is ∙ numbered_itself w.clients n Asked c there

        by_told : turn.told ≡ with_client turn.is_told.heard n (Told heard_it.beat.epoch (shown heard_it.after m)) → HasGone new
        by_told told_is =
            let x : Client = Told heard_it.beat.epoch (shown heard_it.after m) in
            let x_there : numbered turn.told.clients n ≡ Some x =
            ap (λ (v : World). numbered v.clients n) told_is ∙ numbered_itself turn.is_told.heard.clients n x Asked is_asked in
            let same : turn.client ≡ x = some_is turn.client x (sym turn.is_client ∙ x_there) in
            let released = releases n turn.states turn.told new x x_there refl refl
            (subst (λ (y : Client). Run turn.told (map (Release n) (in_order (to_release y))) turn.states new) same turn.releases) in
            ended turn.is_told.is_heard.request turn.is_told.is_heard.reply turn.is_told.is_heard.sent turn.is_told.heard turn.told new sends heard_it told_is
            (in_order (to_release x)) released.0 released.1
