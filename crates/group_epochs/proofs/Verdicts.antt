-- What the checks on the members' records come to.
use Rattle.std.proofs.Common.{◌≡◌, zero, suc, ℤ, pos, negsuc, true, false, cond, not, ◌&&◌, ◌||◌, nat_le, is_none, Option, Some, None, refl, ap, ◌∙◌}
use Rattle.std.specs.FinMap as finite
use Rattle.group_types.specs.declared.code.Code.TheVariants as codes
use Rattle.group_types.specs.declared.stamp.Stamp.{Stamp}
use Rattle.group_types.specs.Limits.{MOST_MEMBERS}
use Rattle.group_types.specs.Group.{Record}
use Rattle.group_types.specs.Members.{Members}
use Rattle.group_types.specs.Request.{Heartbeat, Joins, kind_of}
use Rattle.group_types.specs.Checks.{Member, Accepted, Refused, Overtaken, Sender, first_of, is_away, is_of_past, is_overtaken, member_checks}

-- ---- a join that no later one has overtaken

-- beside another member that has its instance
pub beside_other : (own : Option Record) (other : Member) (s : Members) (q : Heartbeat) (stamp : Stamp)
    → (is_overtaken stamp own || is_of_past s.past q.member stamp) ≡ false
    → first_of (member_checks Joins (record { own = own; other = Some other }) s q stamp)
    ≡ cond (is_none own && is_away other.kept.epoch) Accepted (Refused codes.UnreleasedInstanceId)
beside_other (Some r) other s q stamp in_time = ap (λ b. cond b Overtaken (Refused codes.UnreleasedInstanceId)) in_time
beside_other None other s q stamp in_time =
    ap (λ b. cond b Overtaken (cond (not (is_away other.kept.epoch)) (Refused codes.UnreleasedInstanceId) Accepted)) in_time
    ∙ elim (is_away other.kept.epoch) as (λ b. cond (not b) (Refused codes.UnreleasedInstanceId) Accepted ≡ cond b Accepted (Refused codes.UnreleasedInstanceId)) [
      | true ↦ refl
      | false ↦ refl
    ]

-- and where there is no such member
pub alone : (own : Option Record) (s : Members) (q : Heartbeat) (stamp : Stamp)
    → (is_overtaken stamp own || is_of_past s.past q.member stamp) ≡ false
    → first_of (member_checks Joins (record { own = own; other = None }) s q stamp)
    ≡ cond (is_none own && nat_le MOST_MEMBERS (finite.len s.records)) (Refused codes.GroupMaxSizeReached) Accepted
alone (Some r) s q stamp in_time = ap (λ b. cond b Overtaken Accepted) in_time
alone None s q stamp in_time =
    ap (λ b. cond b Overtaken (cond (nat_le MOST_MEMBERS (finite.len s.records)) (Refused codes.GroupMaxSizeReached) Accepted)) in_time

-- ---- another heartbeat

-- that neither joins nor goes away
pub of_known : (epoch : ℤ) (sender : Sender) (s : Members) (q : Heartbeat) (stamp : Stamp) → ¬ (epoch ≡ pos 0) → ¬ (epoch ≡ negsuc 1)
    → first_of (member_checks (kind_of epoch) sender s q stamp)
    ≡ cond (is_none sender.own) (Refused codes.UnknownMemberId) (cond (is_overtaken stamp sender.own) Overtaken Accepted)
of_known (pos zero) sender s q stamp other stays = absurd (other refl)
of_known (pos (suc n)) sender s q stamp other stays = refl
of_known (negsuc zero) sender s q stamp other stays = refl
of_known (negsuc (suc zero)) sender s q stamp other stays = absurd (stays refl)
of_known (negsuc (suc (suc n))) sender s q stamp other stays = refl
