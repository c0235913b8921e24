-- A commit that is brought and isn't refused as a whole is of one whose maker held nothing that isn't granted since.
use Rattle.std.proofs.Common.{◌≡◌, ◌⊎◌, ℕ, ℤ, pos, Bool, true, false, ◌&&◌, ◌==◌, if◌then◌else◌, int_lt, List, [], map, Option, Some, None, IsTrue, inl, inr, refl, sym, ap, subst, ◌∙◌, true≢false}
use Rattle.std.specs.List.{Contains}
use Rattle.std.specs.FinMap as finite
use Rattle.kip_msgs.specs.Values.{RequestValue, ReplyValue, ResponseHeaderValue, CommitReplyValue, CommitReplyTopicValue, CommitReplyPartitionValue, commit_request, commit_reply}
use Rattle.kip_msgs.specs.Spelling.{SpellsReply}
use Rattle.kip_msgs.specs.Laws.{OneRequestABody, OneReplyABody}
use Rattle.group_types.specs.declared.code.Code.{Code}
use Rattle.group_types.specs.declared.code.Code.TheVariants as codes
use Rattle.group_types.specs.declared.partition.Partition.{Partition}
use Rattle.group_types.specs.Text.{Text}
use Rattle.group_types.specs.Sets.{has}
use Rattle.group_types.specs.Code.{code_number}
use Rattle.group_types.specs.Epoch.{is_at}
use Rattle.group_types.specs.Group.{Group, Record}
use Rattle.group_types.specs.Commit as group
use Rattle.group_types.specs.Commit.{CommitReply, Commitment, TopicCommitments, answers_by, refusal_of_commit, refusal_of_member}
use Rattle.group_types.proofs.Lookups.{not_none, some_is}
use Rattle.group_epochs.specs.Request.{commit_of}
use Rattle.coord_node.specs.Coordinator.{Coordinator, Answer, Replied, Closes, Done}
use Rattle.coord_node.specs.Replies.{IsReplyFrame, commit_value}
use Rattle.offset_guard.specs.Replies.{commit_reply_value}
use Rattle.coord_node.specs.Steps.{CommitAt, RequestStep, FrameStepBy, Sends}
use Rattle.member_core.specs.Asking.{header_of}
use Rattle.member_core.specs.Committing as member
use Rattle.world_sim.specs.World.{World, Commit, numbered, with_coordinator}
use Rattle.world_sim.specs.Acts.{Answers, BringStep, Outcome, IsAnswered, IsRefused, IsSent, IsReplied, IsClosed, Is, IsIgnored, IsCommitted, IsRemoved, IsDone, no_stamp}
use Rattle.world_sim.specs.Holding.{IsTakenIn}
use Rattle.world_sim.specs.Exclusivity.{BringsHeld, CommitHeld, HasCode, IsOfTaken}
use Rattle.world_sim.specs.Invariant.{Keeps, Committed}
use Rattle.world_sim.proofs.Lists.{In, in_map, to_in}
use Rattle.world_sim.proofs.Numbered.{numbered_in}
use Rattle.group_types.proofs.FrameLemmas.{same_body}
use Rattle.world_sim.proofs.Messages.{commit_reply_in}

-- ---- a commit that is refused as a whole

abbrev part_of : ℤ × Code → CommitReplyPartitionValue
part_of p = record { partition_index = p.0; error_code = code_number p.1; tags = [] }

abbrev topic_of : Text × List (ℤ × Code) → CommitReplyTopicValue
topic_of t = record { name = t.0; partitions = map part_of t.1; tags = [] }

abbrev coded : Code → Commitment → ℤ × Code
coded code x = (x.index, code)

abbrev coded_topic : Code → TopicCommitments → Text × List (ℤ × Code)
coded_topic code t = (t.name, map (coded code) t.partitions)

abbrev said : CommitReply → List CommitReplyTopicValue
said reply = (commit_reply_value reply).topics

-- each partition has the one code
one_code : (code : Code) (c : group.Commit) (z : ℤ) → HasCode (commit_reply_value (answers_by (λ name x. code) c)) z → z ≡ code_number code
one_code code c z has_code =
    let topics : CommitReply = answers_by (λ name x. code) c in
    let of_reply = in_map topic_of topics has_code.topic (to_in (said topics) has_code.topic has_code.is_topic) in
    let of_commit = in_map (coded_topic code) c.topics of_reply.0 of_reply.1 in
    let listed : map part_of of_reply.0.1 ≡ has_code.topic.partitions = ap (λ (t : CommitReplyTopicValue). t.partitions) of_reply.2 in
    let at = in_map part_of of_reply.0.1 has_code.partition
    (to_in (map part_of of_reply.0.1) has_code.partition
    (subst (λ (ps : List CommitReplyPartitionValue). Contains ps has_code.partition) (sym listed) has_code.is_partition)) in
    let same : map (coded code) of_commit.0.partitions ≡ of_reply.0.1 = ap (λ (t : Text × List (ℤ × Code)). t.1) of_commit.2 in
    let given = in_map (coded code) of_commit.0.partitions at.0 (subst (λ (xs : List (ℤ × Code)). In xs at.0) (sym same) at.1) in
    sym has_code.same ∙ ap (λ (p : CommitReplyPartitionValue). p.error_code) (sym at.2) ∙ ap (λ (x : ℤ × Code). code_number x.1) (sym given.2)

refusal_is : (b : Bool) (own : Option Record) (epoch : ℤ) (code : Code) → (if b then None else refusal_of_member own epoch) ≡ Some code → (code ≡ codes.UnknownMemberId) ⊎ (code ≡ codes.StaleMemberEpoch)
refusal_is true own epoch code is = absurd (not_none code is)
refusal_is false None epoch code is = inl (sym (some_is codes.UnknownMemberId code is))
refusal_is false (Some r) epoch code is = by (is_at r.epoch epoch) is
  where
    by : (b : Bool) → (if b then None else Some codes.StaleMemberEpoch) ≡ Some code → (code ≡ codes.UnknownMemberId) ⊎ (code ≡ codes.StaleMemberEpoch)
    by true is = absurd (not_none code is)
    by false is = inr (sym (some_is codes.StaleMemberEpoch code is))

abbrev answered_in : Outcome → CommitReplyValue → CommitReplyValue
answered_in (IsAnswered v) other = v
answered_in (IsRefused fault) other = other
answered_in (IsSent n) other = other
answered_in (IsReplied n v) other = other
answered_in IsClosed other = other
answered_in (Is state) other = other
answered_in IsIgnored other = other
answered_in (IsCommitted n) other = other
answered_in (IsRemoved n) other = other
answered_in IsDone other = other

abbrev is_answered : Outcome → Bool
is_answered (IsAnswered v) = true
is_answered (IsRefused fault) = false
is_answered (IsSent n) = false
is_answered (IsReplied n v) = false
is_answered IsClosed = false
is_answered (Is state) = false
is_answered IsIgnored = false
is_answered (IsCommitted n) = false
is_answered (IsRemoved n) = false
is_answered IsDone = false

abbrev is_replied : Answer → Bool
is_replied (Replied frame) = true
is_replied Closes = false
is_replied (Done removed) = false

-- by the group: where a code isn't that of a whole refusal, the commit was taken
taken_at : (there : Option Group) (c : Coordinator) (r : group.Commit) (reply : CommitReply) (new : Coordinator) → CommitAt there c r reply new
    → (code : ℤ) → HasCode (commit_reply_value reply) code → IsOfTaken code → (g : Group) × (there ≡ Some g) × (refusal_of_commit g.records r.member r.epoch ≡ None)
taken_at None c r reply new is code has_code taken =
    absurd (taken.found (one_code codes.GroupIdNotFound r code (subst (λ (x : CommitReply). HasCode (commit_reply_value x) code) is.0 has_code)))
taken_at (Some g) c r reply new (after, step, is) code has_code taken = by (refusal_of_commit g.records r.member r.epoch) refl
  where
    by : (o : Option Code) → refusal_of_commit g.records r.member r.epoch ≡ o → (x : Group) × (Some g ≡ Some x) × (refusal_of_commit x.records r.member r.epoch ≡ None)
    by None none = (g, refl, none)
    by (Some refused) is =
        let one : code ≡ code_number refused =
        one_code refused r code (subst (λ (x : CommitReply). HasCode (commit_reply_value x) code) (step.answers ∙ ap (λ (o : Option Code). group.commit_reply o r c.image) is) has_code) in
        absurd (by_code one (refusal_is (int_lt r.epoch (pos 0) && finite.len g.records == 0) (finite.get g.records r.member) r.epoch refused is))
      where
        by_code : code ≡ code_number refused → (refused ≡ codes.UnknownMemberId) ⊎ (refused ≡ codes.StaleMemberEpoch) → ⊥
        by_code one (inl unknown) = taken.known (one ∙ ap code_number unknown)
        by_code one (inr stale) = taken.current (one ∙ ap code_number stale)

module _ (one_request : OneRequestABody) (one_reply : OneReplyABody) (w : World) (keeps : Keeps w) (held : CommitHeld w) where
  module _ (number : ℕ) (k : Commit) (pooled : numbered w.commits number ≡ Some k) (reply : CommitReplyValue) (code : ℤ) (has_code : HasCode reply code) (taken : IsOfTaken code) where
    committed : Committed w.coordinator w.clients k
    committed = keeps.commits k (numbered_in w.commits number k pooled)

    abbrev message : RequestValue
    message = commit_request (header_of committed.number) (member.commit_value k.group k.id k.epoch committed.topics)

    -- the commit would be taken, since it is
    is_taken : (g : Group) → finite.get w.coordinator.groups k.group ≡ Some g → refusal_of_commit g.records k.id (pos k.epoch) ≡ None → IsTakenIn (finite.get w.coordinator.groups k.group) k
    is_taken g there none = subst (λ (o : Option Group). IsTakenIn o k) (sym there) none

    framed : (answer : Answer) (c : Coordinator) → FrameStepBy RequestStep w.coordinator k.body no_stamp w.clock answer c
        → (frame : List ℕ) → answer ≡ Replied frame → (body : List ℕ) (header : ResponseHeaderValue) → SpellsReply (commit_reply header reply) body
        → IsReplyFrame (commit_reply header reply) frame
        → IsTakenIn (finite.get w.coordinator.groups k.group) k
    framed answer c (inl (v, is, step)) frame replied body header spells whole =
        let same : v ≡ message = one_request v message k.body is.spells committed.spells in
        let commits : RequestStep w.coordinator message no_stamp w.clock answer c = subst (λ (x : RequestValue). RequestStep w.coordinator x no_stamp w.clock answer c) same step in
        let given : CommitReply = commits.0 in
        let sent : IsReplyFrame (commit_value (pos committed.number) given) frame = subst (λ (x : Answer). Sends (Some (commit_value (pos committed.number) given)) x) replied commits.2 in
        let bodies : sent.body ≡ whole.body = same_body sent.body whole.body frame sent.framed whole.framed in
        let message_is : commit_reply header reply ≡ commit_value (pos committed.number) given =
        one_reply (commit_reply header reply) (commit_value (pos committed.number) given) whole.body refl whole.spells
        (subst (λ (b : List ℕ). SpellsReply (commit_value (pos committed.number) given) b) bodies sent.spells) in
        let reply_is : reply ≡ commit_reply_value given = ap (λ (x : ReplyValue). commit_reply_in x reply) message_is in
        let at = taken_at (finite.get w.coordinator.groups k.group) w.coordinator (commit_of (member.commit_value k.group k.id k.epoch committed.topics)) given c commits.1 code
        (subst (λ (x : CommitReplyValue). HasCode x code) reply_is has_code) taken in
        is_taken at.0 at.1 at.2
    framed answer c (inr is) frame replied body header spells whole = absurd (true≢false (ap is_replied (sym replied ∙ is.1)))

    answered : (answer : Answer) (c : Coordinator) → FrameStepBy RequestStep w.coordinator k.body no_stamp w.clock answer c
        → (x : Answer) → answer ≡ x → (new : World) → Answers (with_coordinator w c) x (IsAnswered reply) new → IsTakenIn (finite.get w.coordinator.groups k.group) k
    answered answer c step (Replied frame) is new (body, header, other, is_frame, spells, comes) =
        let same : other ≡ reply = sym (ap (λ (o : Outcome). answered_in o reply) comes.0) in
        let spells_it : SpellsReply (commit_reply header reply) body = subst (λ (v : CommitReplyValue). SpellsReply (commit_reply header v) body) same spells in
        framed answer c step frame is body header spells_it (record { body = body; spells = spells_it; framed = is_frame })
    answered answer c step Closes is new answers = absurd answers
    answered answer c step (Done removed) is new answers = absurd answers

  brought_by : (number : ℕ) (k : Commit) (reply : CommitReplyValue) (new : World) (code : ℤ) (p : Partition) (o : Option Commit) → o ≡ Some k → numbered w.commits number ≡ Some k
      → BringStep o w (IsAnswered reply) new → HasCode reply code → IsOfTaken code → IsTrue (has k.own p) → IsTrue (has k.since p)
  brought_by number k reply new code p None is pooled step has_code taken owns = absurd (not_none k is)
  brought_by number k reply new code p (Some other) is pooled step has_code taken owns =
      let mine = subst (λ (x : Commit). BringStep (Some x) w (IsAnswered reply) new) (some_is other k is) step in
      held k p (numbered_in w.commits number k pooled)
      (answered number k pooled reply code has_code taken mine.0 mine.1 mine.2 mine.0 refl new mine.3) owns

  pub brings_held : BringsHeld w
  brings_held number k reply new code p pooled step has_code taken owns =
      brought_by number k reply new code p (numbered w.commits number) pooled pooled step has_code taken owns
