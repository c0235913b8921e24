-- What the checks of a heartbeat come to (KIP-848, "Consumer Group Heartbeat").
use Rattle.std.specs.Prelude.{◌≡◌, ℕ, nat_le, pos, [], ◌∷◌, ◌++◌, None}
use Rattle.group_types.specs.declared.code.Code.TheVariants as codes
use Rattle.group_types.specs.Limits.{GREATEST_EPOCH}
use Rattle.group_types.specs.Request.{Heartbeat, Joins, kind_of}
use Rattle.group_types.specs.Checks.{Verdict, Refused, first_of, request_checks}

-- KIP-848, "Consumer Group Heartbeat": a member joins that has neither an id nor an instance
pub record MakesMember (q : Heartbeat) : Type 0 where
  pub joins : q.epoch ≡ pos 0
  pub has_no_id : q.member ≡ []
  pub has_no_instance : q.instance ≡ None

-- the checks that look at nothing but the request
abbrev pub verdict_on_request : Heartbeat → Verdict
verdict_on_request q = first_of (request_checks (kind_of q.epoch) q)

-- of the first join of a group at an epoch: after these, whether the epoch can rise
abbrev pub verdict_on_first : Heartbeat → ℕ → Verdict
verdict_on_first q epoch = first_of (request_checks Joins q ++ (nat_le GREATEST_EPOCH epoch, Refused codes.CoordinatorNotAvailable) ∷ [])
