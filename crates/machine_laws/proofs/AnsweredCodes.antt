-- Which codes heartbeats and commits are answered with.
use Rattle.std.proofs.Common.{inl, inr, ℤ, true, false, cond, List, [], ◌∷◌, map, All, get_or, refl, sym, ap, subst}
use Rattle.std.proofs.lemmas.List.Elements.{All-map}
use Rattle.group_types.specs.declared.code.Code.{Code}
use Rattle.group_types.specs.declared.stamp.Stamp.{Stamp}
use Rattle.group_types.specs.Text.{Text}
use Rattle.group_types.specs.Topics.{Topics}
use Rattle.group_types.specs.Request.{Heartbeat, Kind, Joins, Beats, Leaves, GoesAway, MeansNothing, kind_of}
use Rattle.group_types.specs.Group.{Group}
use Rattle.group_types.specs.Commit.{Commit, CommitReply, CommitStep, Commitment, TopicCommitments}
use Rattle.group_types.specs.CommitCodes.{HasCommitCodes, IsCommitCode, unknown_member, stale_epoch, unknown_partition, long_metadata, stored}
use Rattle.group_types.specs.Checks.{Verdict, Accepted, Refused, Overtaken, Check, Sender, checks_of, first_of, sender_of, verdict_on}
use Rattle.group_types.specs.HeartbeatStep.{Replied, Reply, Arrival, ByVerdict, HeartbeatStep, StepOf, refusal}
use Rattle.group_types.proofs.CommitOrder.{commits_are_answered_in_order}
use Rattle.machine_laws.specs.AnsweredCodes.{CodesAreOfTheirRequests, IsOfCommits, IsOfHeartbeats, no_error, coordinator_not_available, unknown_member_id, invalid_request, group_max_size_reached, fenced_member_epoch, unreleased_instance_id, unsupported_assignor, commit_no_error, commit_unknown_topic_or_partition, commit_offset_metadata_too_large, commit_unknown_member_id, commit_stale_member_epoch}
use Rattle.machine_laws.proofs.ExactCodes.{Allowed, allowed, reply_of}

abbrev Has : Verdict → Type 0
Has Accepted = Unit {0}
Has (Refused code) = IsOfHeartbeats code
Has Overtaken = Unit {0}

abbrev AllHave : List Check → Type 0
AllHave [] = Unit {0}
AllHave (check ∷ checks) = Has check.1 × AllHave checks

first_has : (checks : List Check) → AllHave checks → Has (first_of checks)
first_has [] all = tt
first_has (check ∷ checks) all = elim check.0 as (λ b. Has (cond b check.1 (first_of checks))) [ true ↦ all.0 | false ↦ first_has checks all.1 ]

verdict_has : (kind : Kind) (sender : Sender) (g : Group) (q : Heartbeat) (stamp : Stamp) → Has (verdict_on kind sender g q stamp)
verdict_has Joins sender g q stamp =
    first_has (checks_of Joins sender g q stamp) (invalid_request, (unsupported_assignor, (tt, (unreleased_instance_id, (group_max_size_reached, tt)))))
verdict_has (Beats n) sender g q stamp =
    first_has (checks_of (Beats n) sender g q stamp) (invalid_request, (unsupported_assignor, (unknown_member_id, (tt, (fenced_member_epoch, tt)))))
verdict_has Leaves sender g q stamp = first_has (checks_of Leaves sender g q stamp) (invalid_request, (unknown_member_id, (tt, tt)))
verdict_has GoesAway sender g q stamp = first_has (checks_of GoesAway sender g q stamp) (invalid_request, (unknown_member_id, (tt, tt)))
verdict_has MeansNothing sender g q stamp = invalid_request

module _ (g : Group) (a : Arrival) (reply : Reply) (new : Group) where
  of_allowed : Allowed reply.code → IsOfHeartbeats reply.code
  of_allowed (inl is) = subst IsOfHeartbeats (sym is) no_error
  of_allowed (inr is) = subst IsOfHeartbeats (sym is) coordinator_not_available

  answered : (kind : Kind) (sender : Sender) (v : Verdict) → Has v → ByVerdict v (StepOf kind sender g a) g (Replied reply) new → IsOfHeartbeats reply.code
  answered kind sender Accepted has step = of_allowed (allowed g a (Replied reply) new reply.code (reply, refl, refl) kind sender step)
  answered kind sender (Refused code) has (is, same) = subst IsOfHeartbeats (sym (ap (λ (r : Reply). r.code) (reply_of reply (refusal code) is))) has
  answered kind sender Overtaken has (closes, same) = absurd cc

heartbeats : (g : Group) (a : Arrival) (reply : Reply) (new : Group) → HeartbeatStep g a (Replied reply) new → IsOfHeartbeats reply.code
heartbeats g a reply new step =
    let sender = sender_of g.records a.heartbeat in let kind = kind_of a.heartbeat.epoch in
    answered g a reply new kind sender (verdict_on kind sender g a.heartbeat a.stamp) (verdict_has kind sender g a.heartbeat a.stamp) step

-- ---- commits

of_commits : (g : Group) (c : Commit) (image : Topics) (name : Text) (x : Commitment) (code : Code) → IsCommitCode g c image name x code → IsOfCommits code
of_commits g c image name x code (unknown_member other none) = commit_unknown_member_id
of_commits g c image name x code (stale_epoch r other there apart) = commit_stale_member_epoch
of_commits g c image name x code (unknown_partition taken none) = commit_unknown_topic_or_partition
of_commits g c image name x code (long_metadata taken there long) = commit_offset_metadata_too_large
of_commits g c image name x code (stored taken there short) = commit_no_error

abbrev Part : ℤ × Code → Type 0
Part x = IsOfCommits x.1

abbrev Topic : Text × List (ℤ × Code) → Type 0
Topic t = All Part t.1

commits : (g : Group) (c : Commit) (image : Topics) (reply : CommitReply) (new : Group) → CommitStep g c image reply new → All Topic reply
commits g c image reply new step =
    let has : HasCommitCodes g c image reply = commits_are_answered_in_order g c image reply new step in
    subst (All Topic) (sym has.answers)
    (All-map Topic (λ (t : TopicCommitments). (t.name, map (λ (x : Commitment). (x.index, has.code t.name x)) t.partitions)) c.topics
    (λ k d less. All-map Part (λ (x : Commitment). (x.index, has.code (get_or c.topics k d).name x)) (get_or c.topics k d).partitions
    (λ j e within. of_commits g c image (get_or c.topics k d).name (get_or (get_or c.topics k d).partitions j e) _ (has.is_code (get_or c.topics k d).name (get_or (get_or c.topics k d).partitions j e)))))

pub codes_are_of_their_requests : CodesAreOfTheirRequests
codes_are_of_their_requests = record { heartbeats = heartbeats; commits = commits }
