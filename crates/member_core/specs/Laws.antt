-- What the client machine comes to.
use Rattle.std.specs.Prelude.{◌≡◌, ◌≢◌, ◌⊎◌, ◌↔◌, ℕ, Bool, true, false, List, IsTrue}
use Rattle.group_types.specs.declared.partition.Partition.{Partition}
use Rattle.group_types.specs.Sets.{nothing, has}
use Rattle.member_core.specs.Client.{Inside, Client}
use Rattle.member_core.specs.Asking.{Ask, Asks, after_giving_up}
use Rattle.member_core.specs.Taking.{Fences, Takes, after_news}
use Rattle.member_core.specs.Releasing.{after_release}

-- whatever a member is given, it makes one thing of it
abbrev pub OneOutcomeAReply : Type 0
OneOutcomeAReply =
    (c : Client) (body : List ℕ) (taken other : Bool) (new newer : Client)
    → Takes c body taken new → Takes c body other newer → (taken ≡ other) × (new ≡ newer)

-- once it has taken a reply, it takes no other until it asks again
abbrev pub RepliesAreTakenOnce : Type 0
RepliesAreTakenOnce =
    (c : Client) (first second : List ℕ) (taken : Bool) (new newer : Client)
    → Takes c first true new → Takes new second taken newer → (taken ≡ false) × (newer ≡ new)

-- a member that is fenced owns nothing, and keeps its id
pub record IsFenced (c new : Client) : Type 0 where
  pub own : new.own ≡ nothing
  pub epoch : new.epoch ≡ 0
  pub id : new.id ≡ c.id

abbrev pub FencedMembersOwnNothing : Type 0
FencedMembersOwnNothing = (c : Client) → IsFenced c (after_news c Fences)

-- releasing a partition takes it out of what the member owns, unless the member is shown it, and leaves the rest
abbrev pub ReleasesLeaveTheRest : Type 0
ReleasesLeaveTheRest =
    (c : Client) (p q : Partition)
    → IsTrue (has (after_release c p).own q) ↔ (IsTrue (has c.own q) × ((q ≢ p) ⊎ IsTrue (has c.shown p)))

-- ---- only who is inside owns anything

abbrev pub OwnsOnlyInside : Client → Type 0
OwnsOnlyInside c = c.place ≢ Inside → c.own ≡ nothing

-- whatever a member does or is given
pub data Goes (c new : Client) : Type 0 where
  GoesAsking : (ask : Ask) (body : List ℕ) → Asks c ask body new → Goes c new
  GoesGivingUp : new ≡ after_giving_up c → Goes c new
  GoesTaking : (body : List ℕ) (taken : Bool) → Takes c body taken new → Goes c new
  GoesReleasing : (p : Partition) → new ≡ after_release c p → Goes c new

abbrev pub MembersOwnOnlyInside : Type 0
MembersOwnOnlyInside = (c new : Client) → Goes c new → OwnsOnlyInside c → OwnsOnlyInside new
