-- What the checks of a heartbeat come to that look at the members' records (KIP-848, "ConsumerGroupHeartbeat API").
use Rattle.std.specs.Prelude.{◌≡◌, ℕ, Bool, true, not, ◌||◌, [], Some, None, Result, Ok, Err, MatchResult}
use Rattle.std.specs.FinMap as finite
use Rattle.group_types.specs.declared.code.Code.TheVariants as codes
use Rattle.group_types.specs.Text.{Text}
use Rattle.group_types.specs.Group.{Record}
use Rattle.group_types.specs.Members.{Members}
use Rattle.group_types.specs.Sound.{IsPast}
use Rattle.group_types.specs.Checks.{Verdict, Accepted, Refused, Overtaken, is_fenced}
use Rattle.group_epochs.specs.declared.refusal.Refusal.{Refusal}
use Rattle.group_epochs.specs.declared.refusal.Refusal.TheVariants as refusals

-- nobody has the empty id, an instance is one member's, and an id of the past has no record
pub record AreSound (s : Members) : Type 0 where
  pub named : finite.get s.records [] ≡ None
  pub instances : (m n : Text) (r t : Record) (i : Text) → finite.get s.records m ≡ Some r → finite.get s.records n ≡ Some t
      → r.instance ≡ Some i → t.instance ≡ Some i → m ≡ n
  pub past : IsPast s.records s.past

module _ {X : Type 0} where
  -- what a check comes to
  abbrev pub verdict_of : Result X Refusal → Verdict
  verdict_of (Ok x) = Accepted
  verdict_of (Err (refusals.Refused code)) = Refused code
  verdict_of (Err refusals.Overtaken) = Overtaken

-- Of a beat: its epoch is the member's or, where all that is reported is granted, the one before. Without a look at grants that is
-- either so, or so where they are, or never.
abbrev pub IsCheckOfEpoch : ℕ → Record → Result Bool Refusal → Type 0
IsCheckOfEpoch n r result =
    MatchResult result (λ passes. (granted : Bool) → is_fenced n (Some r) granted ≡ not (passes || granted))
    (λ refusal. (refusal ≡ refusals.Refused codes.FencedMemberEpoch) × ((granted : Bool) → is_fenced n (Some r) granted ≡ true))
