-- What a member is after a release, and after it was given a reply.
use Rattle.std.specs.Prelude.{◌≡◌, ℕ, ℤ, true, false, List}
use Rattle.member_core.specs.Client.{Client, IsOutside, IsSteady, IsReleasing, IsGone, state_of}
use Rattle.member_core.specs.Taking.{MeansSuccess, MeansFenced, MeansRetry, MeansEnd, Takes}
use Rattle.member_core.specs.Outcomes.{HasCode}
use Rattle.member_core.specs.declared.member.releasing.Released.{Released}
use Rattle.member_core.specs.declared.member.releasing.Released.TheVariants as released
use Rattle.member_core.specs.declared.member.taking.Next as members
use Rattle.member_core.specs.declared.member.taking.Next.TheVariants as next

-- it is this client, and its type says whether something is left to release
abbrev pub IsReleased : Client → Released → Type 0
IsReleased c (released.Steady m) = (m ≡ c) × (state_of m ≡ IsSteady)
IsReleased c (released.Releasing m) = (m ≡ c) × (state_of m ≡ IsReleasing)

-- it is this client, inside its group, and its type says whether something is left to release
abbrev pub IsInside : {S : Type 0} → Client → members.Next S → Type 0
IsInside c (next.Steady m) = (m ≡ c) × (state_of m ≡ IsSteady)
IsInside c (next.Releasing m) = (m ≡ c) × (state_of m ≡ IsReleasing)
IsInside c (next.Outside m) = ⊥
IsInside c (next.Gone m code) = ⊥
IsInside c (next.Kept m code) = ⊥
IsInside c (next.Still m) = ⊥
IsInside c (next.NoMemory m) = ⊥

-- What becomes of a client that waits and is given bytes. Its type says its state, and that it waits where it waits on.
abbrev pub IsNext : {S : Type 0} → Client → List ℕ → members.Next S → Type 0
IsNext c body (next.Steady m) =
    Takes c body true m × (state_of m ≡ IsSteady) × ((code : ℤ) × HasCode body MeansSuccess code)
IsNext c body (next.Releasing m) =
    Takes c body true m × (state_of m ≡ IsReleasing) × ((code : ℤ) × HasCode body MeansSuccess code)
IsNext c body (next.Outside m) =
    Takes c body true m × (state_of m ≡ IsOutside) × ((code : ℤ) × HasCode body MeansFenced code)
IsNext c body (next.Gone m code) = Takes c body true m × (state_of m ≡ IsGone) × HasCode body MeansEnd code
IsNext c body (next.Kept m code) = Takes c body true m × (state_of m ≡ state_of c) × HasCode body MeansRetry code
IsNext c body (next.Still m) = Takes c body false m
IsNext c body (next.NoMemory m) = m ≡ c
