-- What becomes of a client by its kind of member.
use Rattle.std.specs.Prelude.{◌≡◌, ℕ, Bool, true, false, IsTrue, List, Vec, Ok, Err, Result}
use Rattle.std.specs.declared.alloc.AllocError.{AllocError}
use Rattle.std.specs.declared.alloc.Global.{Global}
use Rattle.kip_msgs.specs.Values.{CommitRequestTopicValue}
use Rattle.member_core.specs.Client.{Client}
use Rattle.member_core.specs.Asking.{Ask}
use Rattle.member_core.specs.Taking.{Takes}
use Rattle.member_core.specs.Committing.{may_commit_at, commit_for}
use Rattle.member_core.specs.Framing.{IsRequestFrame}
use Rattle.member_core.specs.Refusing.{Sends, is_too_large}
use Rattle.member_core.specs.Writing.{are_few}
use Rattle.world_sim.specs.declared.fault.WorldFault.{WorldFault}
use Rattle.world_sim.specs.declared.fault.WorldFault.TheVariants.{NoSuchClient, NoSuchMessage, WrongState, NoMemory, TooLarge, Forgotten}
use Rattle.world_sim.specs.declared.standing.asking.Inside as inside
use Rattle.world_sim.specs.declared.standing.asking.Inside.TheVariants as stays
use Rattle.world_sim.specs.declared.standing.taking.Taken as taken
use Rattle.world_sim.specs.declared.standing.taking.Taken.TheVariants as takes
use Rattle.world_sim.specs.Standing.{client_of, CannotAsk}

-- a member inside its group asked, or is as it was
abbrev pub InsideAsked : {S : Type 0} → Client → Ask → inside.Inside S → Type 0
InsideAsked c ask (stays.Waits m frame) = Sends c ask frame.items m
InsideAsked c ask (stays.Gone m frame) = Sends c ask frame.items m
InsideAsked c ask (stays.Stays m fault) = CannotAsk c ask fault × (m ≡ c)

-- why a client doesn't commit
abbrev pub CannotCommit : Client → ℕ → List CommitRequestTopicValue → WorldFault → Type 0
CannotCommit c number topics NoSuchClient = ⊥
CannotCommit c number topics NoSuchMessage = ⊥
CannotCommit c number topics WrongState = may_commit_at c.place ≡ false
CannotCommit c number topics NoMemory = (may_commit_at c.place ≡ true) × (are_few (commit_for c number topics) ≡ true)
CannotCommit c number topics TooLarge =
    (may_commit_at c.place ≡ true) × IsTrue (is_too_large (commit_for c number topics))
CannotCommit c number topics Forgotten = ⊥

-- the frame of a commit of a client under a number, or why there is none
abbrev pub IsCommitFrame : Client → ℕ → List CommitRequestTopicValue → Result (Vec ℕ Global) WorldFault → Type 0
IsCommitFrame c number topics (Ok frame) = (may_commit_at c.place ≡ true) × IsRequestFrame (commit_for c number topics) frame.items
IsCommitFrame c number topics (Err fault) = CannotCommit c number topics fault

-- the client was given bytes, and took them or didn't; where memory is short it is as it was
abbrev pub TakesReply : Client → List ℕ → Result Bool AllocError → Client → Type 0
TakesReply c body (Ok taken) new = Takes c body taken new
TakesReply c body (Err fault) new = new ≡ c

-- the same of a member that waited
abbrev pub WasTaken : {S : Type 0} → Client → List ℕ → taken.Taken S → Type 0
WasTaken c body (takes.Moved standing) = Takes c body true (client_of standing)
WasTaken c body (takes.Back m) = Takes c body true m
WasTaken c body (takes.Waits m) = Takes c body false m
WasTaken c body (takes.Short m) = m ≡ c
