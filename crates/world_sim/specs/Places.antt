-- What a client at a place of a list does.
use Rattle.std.specs.Prelude.{◌≡◌, ℕ, suc, Bool, true, false, if◌then◌else◌, List, [], ◌∷◌, set, slice_get, Option, Some, None, Ok, Err, Result}
use Rattle.std.specs.declared.alloc.AllocError.{AllocError}
use Rattle.member_core.specs.Client.{Client, state_of}
use Rattle.member_core.specs.Asking.{Ask}
use Rattle.member_core.specs.Taking.{Takes}
use Rattle.member_core.specs.Releasing.{after_release, may_release}
use Rattle.group_types.specs.declared.partition.Partition.{Partition}
use Rattle.world_sim.specs.declared.mail.Request as mail
use Rattle.world_sim.specs.declared.fault.WorldFault.{WorldFault}
use Rattle.world_sim.specs.declared.fault.WorldFault.TheVariants.{WrongState}
use Rattle.world_sim.specs.declared.shown.Shown.{Shown}
use Rattle.world_sim.specs.declared.shown.Shown.TheVariants as shows
use Rattle.world_sim.specs.declared.state.ClientState.{ClientState}
use Rattle.world_sim.specs.Acts.{stamp_of}
use Rattle.world_sim.specs.Standing.{CannotAsk, state_value}
use Rattle.world_sim.specs.Clients.{AsksWithin}

-- it makes a request, or is as it was
abbrev pub AskedAt : List Client → ℕ → Ask → Result mail.Request WorldFault → List Client → Type 0
AskedAt xs place ask (Ok q) ys =
    (c : Client) × (after : Client) × (slice_get xs place ≡ Some c) × AsksWithin c ask q.frame after
    × (ys ≡ set xs place after) × (q.stamp ≡ stamp_of (suc place) after)
AskedAt xs place ask (Err fault) ys = (c : Client) × (slice_get xs place ≡ Some c) × CannotAsk c ask fault × (ys ≡ xs)

-- it changes where it may, and its state is this
abbrev pub ChangedAt : (Client → Bool) → (Client → Client) → List Client → ℕ → Option ClientState → List Client → Type 0
ChangedAt may after xs place (Some state) ys =
    (c : Client) × (slice_get xs place ≡ Some c) × (may c ≡ true) × (state_value state ≡ state_of (after c)) × (ys ≡ set xs place (after c))
ChangedAt may after xs place None ys = (c : Client) × (slice_get xs place ≡ Some c) × (may c ≡ false) × (ys ≡ xs)

-- it takes a reply, and its state is this; or it doesn't; or memory is short
abbrev pub TookAt : List Client → ℕ → List ℕ → Result (Option ClientState) AllocError → List Client → Type 0
TookAt xs place body (Ok (Some state)) ys =
    (c : Client) × (after : Client) × (slice_get xs place ≡ Some c) × Takes c body true after × (state_value state ≡ state_of after) × (ys ≡ set xs place after)
TookAt xs place body (Ok None) ys = (c : Client) × (slice_get xs place ≡ Some c) × Takes c body false c × (ys ≡ xs)
TookAt xs place body (Err fault) ys = ys ≡ xs

-- what is shown of a change, or why there is none
abbrev pub ShowsChange : Option ClientState → Result Shown WorldFault → Type 0
ShowsChange (Some state) shown = shown ≡ Ok (shows.Is state)
ShowsChange None shown = shown ≡ Err WrongState

-- what is shown of a reply that was given
abbrev pub ShowsTaken : Option ClientState → Shown → Type 0
ShowsTaken (Some state) shown = shown ≡ shows.Is state
ShowsTaken None shown = shown ≡ shows.Ignored

-- the client after releasing each of these, where it may release any
abbrev pub releasing_all : Client → List Partition → Client
releasing_all c [] = c
releasing_all c (p ∷ ps) = releasing_all (if may_release c then after_release c p else c) ps
