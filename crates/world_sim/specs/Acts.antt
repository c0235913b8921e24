-- What can happen in a world, and what comes of it.
use Rattle.std.specs.Prelude.{◌≡◌, ℕ, suc, pos, Bool, true, false, not, ◌&&◌, nat_le, List, [], ◌∷◌, length, Option, Some, None, unwrap_or}
use Rattle.std.specs.Ordering.{int_eq}
use Rattle.std.specs.FinMap as finite
use Rattle.kip_msgs.specs.Values.{RequestHeaderValue, HeartbeatRequestValue, CommitRequestTopicValue, ResponseHeaderValue, HeartbeatReplyValue, CommitReplyValue, heartbeat_request, heartbeat_reply, commit_reply}
use Rattle.kip_msgs.specs.Spelling.{SpellsRequest, SpellsReply}
use Rattle.group_types.specs.Limits.{LARGEST_BODY}
use Rattle.group_types.specs.declared.partition.Partition.{Partition}
use Rattle.group_types.specs.declared.stamp.Stamp.{Stamp}
use Rattle.group_types.specs.Topics.{Topics}
use Rattle.group_types.specs.Request.{is_empty}
use Rattle.group_types.specs.Members.{is_remembered, members_of}
use Rattle.group_types.specs.Group.{Group}
use Rattle.coord_node.specs.Coordinator.{Coordinator, Frame, Tick, Image, Answer, Replied, Closes, Done}
use Rattle.group_types.specs.Frames.{IsFrame}
use Rattle.coord_node.specs.Steps.{Step}
use Rattle.member_core.specs.Limits.{GREATEST_NUMBER}
use Rattle.member_core.specs.Client.{Client, State, state_of}
use Rattle.member_core.specs.Asking as asking
use Rattle.member_core.specs.Asking.{Ask, may_ask, request_for, after_giving_up}
use Rattle.member_core.specs.Refusing.{is_too_large}
use Rattle.member_core.specs.Taking as taking
use Rattle.member_core.specs.Releasing.{may_release, after_release}
use Rattle.member_core.specs.Committing.{may_commit_at, commit_for}
use Rattle.world_sim.specs.World.{World, Request, Reply, Commit, numbered, cut, with_coordinator, with_client, with_request, with_reply, with_commit}

-- clients, requests, replies and commits by their numbers
pub data Act : Type 0 where
  Asks : ℕ → Ask → Act  -- a client joins, beats, leaves or goes away
  GivesUp : ℕ → Act  -- a client doesn't wait any longer
  Deliver : ℕ → Act  -- a request
  Take : ℕ → Act  -- a reply, by the client whose request it answers
  Release : ℕ → Partition → Act
  Commits : ℕ → List CommitRequestTopicValue → Act
  Bring : ℕ → Act  -- a commit
  Clock : ℕ → Act
  Passes : ℕ → Act  -- a moment that every group meets
  Sees : Topics → Act  -- a new image

-- why an act is refused; want of memory isn't among these, since no definition knows of it
pub data Fault : Type 0 where
  NoSuchClient : Fault
  NoSuchMessage : Fault
  WrongState : Fault
  TooLarge : Fault
  Forgotten : Fault

pub data Outcome : Type 0 where
  IsRefused : Fault → Outcome
  IsSent : ℕ → Outcome  -- under this number
  IsReplied : ℕ → HeartbeatReplyValue → Outcome  -- under this number
  IsClosed : Outcome
  Is : State → Outcome  -- the client's
  IsIgnored : Outcome
  IsCommitted : ℕ → Outcome  -- under this number
  IsAnswered : CommitReplyValue → Outcome
  IsRemoved : ℕ → Outcome  -- this number of members
  IsDone : Outcome

-- a refused act changes nothing
abbrev pub Refuses : Fault → World → Outcome → World → Type 0
Refuses fault w outcome new = (outcome ≡ IsRefused fault) × (new ≡ w)

abbrev pub Comes : Outcome → World → Outcome → World → Type 0
Comes shown after outcome new = (outcome ≡ shown) × (new ≡ after)

-- ---- a client asks

-- the stamp of a client's latest request
abbrev pub stamp_of : ℕ → Client → Stamp
stamp_of n c = record { connection = n; frame = c.number }

-- the client that asked, and its request in the pool
abbrev pub with_sent : World → ℕ → Client → List ℕ → World
with_sent w n after body = with_request (with_client w n after) (record { sender = n; stamp = stamp_of n after; body = body })

-- A request that is too large, by the number of its bytes, is refused. Any other is made, and goes into its pool.
abbrev pub SendsIf : Bool → Client → World → ℕ → Ask → Outcome → World → Type 0
SendsIf true c w n ask outcome new = Refuses TooLarge w outcome new
SendsIf false c w n ask outcome new =
    (body : List ℕ) × (after : Client) × asking.Asks c ask body after
    × Comes (IsSent (suc (length w.requests))) (with_sent w n after body) outcome new

abbrev pub AsksIf : Bool → Client → World → ℕ → Ask → Outcome → World → Type 0
AsksIf false c w n ask outcome new = Refuses WrongState w outcome new
AsksIf true c w n ask outcome new = SendsIf (is_too_large (request_for c ask)) c w n ask outcome new

abbrev pub AsksStep : Option Client → World → ℕ → Ask → Outcome → World → Type 0
AsksStep None w n ask outcome new = Refuses NoSuchClient w outcome new
AsksStep (Some c) w n ask outcome new = AsksIf (may_ask c ask) c w n ask outcome new

-- ---- a client by itself: it gives up its request, or releases a partition

abbrev pub ChangesIf : Bool → Client → World → ℕ → Outcome → World → Type 0
ChangesIf false after w n outcome new = Refuses WrongState w outcome new
ChangesIf true after w n outcome new = Comes (Is (state_of after)) (with_client w n after) outcome new

abbrev pub GivesUpStep : Option Client → World → ℕ → Outcome → World → Type 0
GivesUpStep None w n outcome new = Refuses NoSuchClient w outcome new
GivesUpStep (Some c) w n outcome new = ChangesIf c.waits (after_giving_up c) w n outcome new

abbrev pub ReleaseStep : Option Client → World → ℕ → Partition → Outcome → World → Type 0
ReleaseStep None w n p outcome new = Refuses NoSuchClient w outcome new
ReleaseStep (Some c) w n p outcome new = ChangesIf (may_release c) (after_release c p) w n outcome new

-- ---- a request is delivered

abbrev pub is_unremembered : Option Group → List ℕ → Bool
is_unremembered None id = true
is_unremembered (Some g) id = not (is_remembered (members_of g) id)

-- A join names an id that its group doesn't remember. By now it may be another client's, so such a join isn't delivered
-- (ours).
abbrev pub is_forgotten : Coordinator → HeartbeatRequestValue → Bool
is_forgotten c v =
    int_eq v.member_epoch (pos 0) && not (is_empty v.member_id) && is_unremembered (finite.get c.groups v.group_id) v.member_id

-- the reply goes into its pool
abbrev pub Pools : World → Request → Answer → Outcome → World → Type 0
Pools w q (Replied frame) outcome new =
    (body : List ℕ) × (header : ResponseHeaderValue) × (reply : HeartbeatReplyValue)
    × IsFrame body frame × SpellsReply (heartbeat_reply header reply) body
    × Comes (IsReplied (suc (length w.replies)) reply) (with_reply w (record { request = q; body = body })) outcome new
Pools w q Closes outcome new = Comes IsClosed w outcome new
Pools w q (Done removed) outcome new = ⊥

-- at the clock, by the coordinator's step
abbrev pub DeliversIf : Bool → World → Request → Outcome → World → Type 0
DeliversIf true w q outcome new = Refuses Forgotten w outcome new
DeliversIf false w q outcome new =
    (answer : Answer) × (c : Coordinator) × Step w.coordinator (Frame q.body q.stamp w.clock) answer c
    × Pools (with_coordinator w c) q answer outcome new

abbrev pub DeliverStep : Option Request → World → Outcome → World → Type 0
DeliverStep None w outcome new = Refuses NoSuchMessage w outcome new
DeliverStep (Some q) w outcome new =
    (header : RequestHeaderValue) × (v : HeartbeatRequestValue) × SpellsRequest (heartbeat_request header v) q.body
    × DeliversIf (is_forgotten w.coordinator v) w q outcome new

-- ---- a reply is taken

abbrev pub TakenAs : Bool → World → ℕ → Client → Outcome → World → Type 0
TakenAs true w n after outcome new = Comes (Is (state_of after)) (with_client w n after) outcome new
TakenAs false w n after outcome new = Comes IsIgnored w outcome new

abbrev pub TakeBy : Option Client → Reply → World → Outcome → World → Type 0
TakeBy None r w outcome new = ⊥
TakeBy (Some c) r w outcome new =
    (taken : Bool) × (after : Client) × taking.Takes c r.body taken after × TakenAs taken w r.request.sender after outcome new

abbrev pub TakeStep : Option Reply → World → Outcome → World → Type 0
TakeStep None w outcome new = Refuses NoSuchMessage w outcome new
TakeStep (Some r) w outcome new = TakeBy (numbered w.clients r.request.sender) r w outcome new

-- ---- a client commits, and the commit is brought

-- a commit's number is its correlation id
abbrev pub may_commit : Client → ℕ → Bool
may_commit c number = may_commit_at c.place && nat_le number GREATEST_NUMBER

abbrev pub commit_by : Client → List ℕ → Commit
commit_by c body =
    record { body = body; group = c.settings.group; id = unwrap_or c.id []; epoch = c.epoch; own = c.own; since = c.own }

abbrev pub fits_frame : List ℕ → Bool
fits_frame body = nat_le (length body) LARGEST_BODY

abbrev pub CommitsBy : Bool → World → Commit → Outcome → World → Type 0
CommitsBy true w k outcome new =
    Comes (IsCommitted (suc (length w.commits))) (with_commit w (cut w.coordinator k)) outcome new
CommitsBy false w k outcome new = Refuses TooLarge w outcome new

abbrev pub CommitsIf : Bool → Client → World → List CommitRequestTopicValue → Outcome → World → Type 0
CommitsIf false c w topics outcome new = Refuses WrongState w outcome new
CommitsIf true c w topics outcome new =
    (body : List ℕ) × SpellsRequest (commit_for c (suc (length w.commits)) topics) body
    × CommitsBy (fits_frame body) w (commit_by c body) outcome new

abbrev pub CommitsStep : Option Client → World → List CommitRequestTopicValue → Outcome → World → Type 0
CommitsStep None w topics outcome new = Refuses NoSuchClient w outcome new
CommitsStep (Some c) w topics outcome new = CommitsIf (may_commit c (suc (length w.commits))) c w topics outcome new

-- its reply isn't kept
abbrev pub Answers : World → Answer → Outcome → World → Type 0
Answers w (Replied frame) outcome new =
    (body : List ℕ) × (header : ResponseHeaderValue) × (reply : CommitReplyValue)
    × IsFrame body frame × SpellsReply (commit_reply header reply) body
    × Comes (IsAnswered reply) w outcome new
Answers w Closes outcome new = ⊥
Answers w (Done removed) outcome new = ⊥

-- no stamp matters to a commit
abbrev pub no_stamp : Stamp
no_stamp = record { connection = 0; frame = 0 }

abbrev pub BringStep : Option Commit → World → Outcome → World → Type 0
BringStep None w outcome new = Refuses NoSuchMessage w outcome new
BringStep (Some k) w outcome new =
    (answer : Answer) × (c : Coordinator) × Step w.coordinator (Frame k.body no_stamp w.clock) answer c
    × Answers (with_coordinator w c) answer outcome new

-- ---- time passes, and topics change

-- the clock is set too
abbrev pub PassesStep : World → ℕ → Outcome → World → Type 0
PassesStep w moment outcome new =
    (removed : ℕ) × (c : Coordinator) × Step w.coordinator (Tick moment) (Done removed) c
    × Comes (IsRemoved removed) (with_coordinator (record w { clock = moment }) c) outcome new

abbrev pub SeesStep : World → Topics → Outcome → World → Type 0
SeesStep w image outcome new =
    (c : Coordinator) × Step w.coordinator (Image image) (Done 0) c × Comes IsDone (with_coordinator w c) outcome new

-- ---- any act

abbrev pub ActStep : World → Act → Outcome → World → Type 0
ActStep w (Asks n ask) outcome new = AsksStep (numbered w.clients n) w n ask outcome new
ActStep w (GivesUp n) outcome new = GivesUpStep (numbered w.clients n) w n outcome new
ActStep w (Deliver k) outcome new = DeliverStep (numbered w.requests k) w outcome new
ActStep w (Take j) outcome new = TakeStep (numbered w.replies j) w outcome new
ActStep w (Release n p) outcome new = ReleaseStep (numbered w.clients n) w n p outcome new
ActStep w (Commits n topics) outcome new = CommitsStep (numbered w.clients n) w topics outcome new
ActStep w (Bring k) outcome new = BringStep (numbered w.commits k) w outcome new
ActStep w (Clock moment) outcome new = Comes IsDone (record w { clock = moment }) outcome new
ActStep w (Passes moment) outcome new = PassesStep w moment outcome new
ActStep w (Sees image) outcome new = SeesStep w image outcome new

-- one act after the other, from the first world to the last
abbrev pub Run : World → List Act → List Outcome → World → Type 0
Run w [] [] new = new ≡ w
Run w [] (outcome ∷ outcomes) new = ⊥
Run w (act ∷ acts) [] new = ⊥
Run w (act ∷ acts) (outcome ∷ outcomes) new =
    (middle : World) × ActStep w act outcome middle × Run middle acts outcomes new
