-- What the code's acts are, and what they show.
use Rattle.std.specs.Prelude.{◌≡◌, suc, true, length, map, All, Some, Ok, Err, Result, IsTrue}
use Rattle.kip_msgs.specs.Values.{ResponseHeaderValue, HeartbeatReplyValue, CommitReplyValue, commit_reply}
use Rattle.kip_msgs.specs.Spelling.{SpellsReply}
use Rattle.kip_msgs.specs.Views.{commit_request_topic_value}
use Rattle.member_core.specs.Client.{Client}
use Rattle.member_core.specs.Asking as asking
use Rattle.member_core.specs.Asking.{may_ask, request_for}
use Rattle.member_core.specs.Committing.{commit_for}
use Rattle.member_core.specs.Kinds.{fullness, quit_ask}
use Rattle.member_core.specs.Refusing.{is_too_large}
use Rattle.member_core.specs.Writing.{HasShortTopic, are_few}
use Rattle.world_sim.specs.declared.act.Act as code
use Rattle.world_sim.specs.declared.act.Act.TheVariants as acts
use Rattle.world_sim.specs.declared.shown.Shown.{Shown}
use Rattle.world_sim.specs.declared.shown.Shown.TheVariants as shows
use Rattle.world_sim.specs.declared.fault.WorldFault.{WorldFault}
use Rattle.world_sim.specs.declared.fault.WorldFault.TheVariants as faults
use Rattle.world_sim.specs.World.{World, Request, Reply, Commit, numbered}
use Rattle.world_sim.specs.Acts.{Act, Asks, GivesUp, Deliver, Take, Release, Commits, Bring, Clock, Passes, Sees, NoSuchClient, NoSuchMessage, WrongState, Forgotten, Outcome, IsRefused, IsSent, IsReplied, IsClosed, Is, IsIgnored, IsCommitted, IsAnswered, IsRemoved, IsDone, ActStep, may_commit}
use Rattle.world_sim.specs.Standing.{state_value}

abbrev pub act_value : code.Act → Act
act_value (acts.Join client) = Asks client asking.Join
act_value (acts.Beat client kind) = Asks client (asking.Beat (fullness kind))
act_value (acts.Quit client quit) = Asks client (quit_ask quit)
act_value (acts.GiveUp client) = GivesUp client
act_value (acts.Deliver request) = Deliver request
act_value (acts.Take reply) = Take reply
act_value (acts.Release client partition) = Release client partition
act_value (acts.Commit client topics) = Commits client (map commit_request_topic_value topics)
act_value (acts.Bring commit) = Bring commit
act_value (acts.Clock moment) = Clock moment
act_value (acts.Tick moment) = Passes moment
act_value (acts.Image image) = Sees image

-- the texts of a commit's list can be written
abbrev pub HasShortTopics : Act → Type 0
HasShortTopics (Asks n ask) = Unit {0}
HasShortTopics (GivesUp n) = Unit {0}
HasShortTopics (Deliver k) = Unit {0}
HasShortTopics (Take j) = Unit {0}
HasShortTopics (Release n p) = Unit {0}
HasShortTopics (Commits n topics) = All HasShortTopic topics
HasShortTopics (Bring k) = Unit {0}
HasShortTopics (Clock moment) = Unit {0}
HasShortTopics (Passes moment) = Unit {0}
HasShortTopics (Sees image) = Unit {0}

-- What an act shows of its outcome. A reply to a heartbeat is in its pool; the bytes of one to a commit are shown.
abbrev pub IsShown : Shown → Outcome → Type 0
IsShown (shows.Sent request) outcome = outcome ≡ IsSent request
IsShown (shows.Replied reply) outcome = (v : HeartbeatReplyValue) × (outcome ≡ IsReplied reply v)
IsShown shows.Closed outcome = outcome ≡ IsClosed
IsShown (shows.Is state) outcome = outcome ≡ Is (state_value state)
IsShown shows.Ignored outcome = outcome ≡ IsIgnored
IsShown (shows.Committed commit) outcome = outcome ≡ IsCommitted commit
IsShown (shows.Answered reply) outcome =
    (header : ResponseHeaderValue) × (v : CommitReplyValue) × SpellsReply (commit_reply header v) reply × (outcome ≡ IsAnswered v)
IsShown (shows.Removed members) outcome = outcome ≡ IsRemoved members
IsShown shows.Done outcome = outcome ≡ IsDone

-- the client may ask, or commit, and the body of the request has more bytes than a frame may have
abbrev pub IsTooLarge : World → Act → Type 0
IsTooLarge w (Asks n ask) =
    (c : Client) × (numbered w.clients n ≡ Some c) × (may_ask c ask ≡ true) × IsTrue (is_too_large (request_for c ask))
IsTooLarge w (GivesUp n) = ⊥
IsTooLarge w (Deliver k) = ⊥
IsTooLarge w (Take j) = ⊥
IsTooLarge w (Release n p) = ⊥
IsTooLarge w (Commits n topics) =
    (c : Client) × (numbered w.clients n ≡ Some c) × (may_commit c (suc (length w.commits)) ≡ true)
    × IsTrue (is_too_large (commit_for c (suc (length w.commits)) topics))
IsTooLarge w (Bring k) = ⊥
IsTooLarge w (Clock moment) = ⊥
IsTooLarge w (Passes moment) = ⊥
IsTooLarge w (Sees image) = ⊥

-- An act that may want memory: its client or its message is there, the client's state allows it, and no list of it has more
-- elements than a frame may have bytes. Else a body is written to see its size, and a request is read to see whether it is
-- forgotten.
abbrev pub WantsMemory : World → Act → Type 0
WantsMemory w (Asks n ask) = (c : Client) × (numbered w.clients n ≡ Some c) × (may_ask c ask ≡ true)
WantsMemory w (GivesUp n) = ⊥
WantsMemory w (Deliver k) = (q : Request) × (numbered w.requests k ≡ Some q)
WantsMemory w (Take j) = (r : Reply) × (numbered w.replies j ≡ Some r)
WantsMemory w (Release n p) = ⊥
WantsMemory w (Commits n topics) =
    (c : Client) × (numbered w.clients n ≡ Some c) × (may_commit c (suc (length w.commits)) ≡ true)
    × (are_few (commit_for c (suc (length w.commits)) topics) ≡ true)
WantsMemory w (Bring k) = (made : Commit) × (numbered w.commits k ≡ Some made)
WantsMemory w (Clock moment) = ⊥
WantsMemory w (Passes moment) = ⊥
WantsMemory w (Sees image) = ⊥

-- why an act is refused
abbrev pub IsRefusedFor : WorldFault → World → Act → Type 0
IsRefusedFor faults.NoSuchClient w act = ActStep w act (IsRefused NoSuchClient) w
IsRefusedFor faults.NoSuchMessage w act = ActStep w act (IsRefused NoSuchMessage) w
IsRefusedFor faults.WrongState w act = ActStep w act (IsRefused WrongState) w
IsRefusedFor faults.NoMemory w act = WantsMemory w act
IsRefusedFor faults.TooLarge w act = IsTooLarge w act
IsRefusedFor faults.Forgotten w act = ActStep w act (IsRefused Forgotten) w

-- The act's step was made, and this is shown of its outcome; or it was refused for this, and nothing has changed.
abbrev pub Acted : World → Act → Result Shown WorldFault → World → Type 0
Acted w act (Ok shown) new = (outcome : Outcome) × ActStep w act outcome new × IsShown shown outcome
Acted w act (Err fault) new = IsRefusedFor fault w act × (new ≡ w)
