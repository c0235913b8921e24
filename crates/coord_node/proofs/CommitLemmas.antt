-- The answer to a commit can be written in the room that its request has.
use Rattle.std.proofs.Common.{◌≡◌, ℕ, ◌+◌, ◌≤◌, ℤ, List, ◌++◌, length, map, Option, Some, None, refl, sym, ap, subst, ◌∙◌, arith}
use Rattle.std.specs.FinMap as finite
use Rattle.std.proofs.lemmas.List.Elements.{All-map, All-weaker}
use Rattle.kip_msgs.specs.Values.{CommitReplyValue, CommitRequestTopicValue, CommitRequestValue, RequestHeaderValue, commit_request}
use Rattle.kip_msgs.specs.Spelling.{commit_request_fields, FitsCommitRequest, FitsCommitRequestTopic}
use Rattle.kip_msgs.specs.Writable.{IsWritableCommitReply, IsWritableCommitReplyPartition, IsWritableCommitReplyTopic}
use Rattle.group_types.specs.declared.code.Code.{Code}
use Rattle.group_types.specs.declared.code.Code.TheVariants.{GroupIdNotFound}
use Rattle.group_types.specs.Limits.{LARGEST_BODY}
use Rattle.group_types.specs.Text.{Text}
use Rattle.group_types.specs.Topics.{Topics}
use Rattle.group_types.specs.Group.{Group}
use Rattle.group_types.specs.Commit.{Commit, Commitment, CommitReply, TopicCommitments, answers_by, code_of_taken, commit_reply, refusal_of_commit}
use Rattle.group_types.specs.declared.stamp.Stamp.{Stamp}
use Rattle.group_epochs.specs.Request.{commitment_of, commit_of}
use Rattle.offset_guard.specs.Replies.{commit_reply_value, reply_partition_value, reply_topic_value}
use Rattle.offset_guard.specs.Requests.{topic_of}
use Rattle.group_core.specs.Commits.{Commits}
use Rattle.coord_node.specs.declared.event.Answered.TheVariants as answered
use Rattle.coord_node.specs.Coordinator.{Coordinator, Replied}
use Rattle.coord_node.specs.Replies.{IsReplyFrame, commit_message, commit_value}
use Rattle.coord_node.specs.Steps.{CommitAt, Sends, with_group}
use Rattle.coord_node.specs.Answers.{AnswersRequest, CommitsIn, HasRoomInFrame, IsCommitted}
use Rattle.coord_node.proofs.CommitLengths.{answers_of_topics, length-answers, length-commit_body, length-topics_answers}
use Rattle.coord_node.proofs.ReplyLemmas.{FitsTaggedFields-nil}

-- ---- a code for each partition

-- each partition of the commit has a code
abbrev pub IsByCodes : Commit → CommitReply → Type 0
IsByCodes c reply = (code : Text → Commitment → Code) × (reply ≡ answers_by code c)

by_refusal : (refusal : Option Code) (c : Commit) (image : Topics) (reply : CommitReply) → reply ≡ commit_reply refusal c image → IsByCodes c reply
by_refusal (Some code) c image reply is = ((λ name x. code), is)
by_refusal None c image reply is = (code_of_taken image, is)

by_codes : (there : Option Group) (c : Coordinator) (r : Commit) (reply : CommitReply) (new : Coordinator) → CommitAt there c r reply new → IsByCodes r reply
by_codes None c r reply new is = ((λ name x. GroupIdNotFound), is.0)
by_codes (Some g) c r reply new is = by_refusal (refusal_of_commit g.records r.member r.epoch) r c.image reply is.1.answers

-- ---- what can be written

module _ (code : Text → Commitment → Code) where
  writable_topic : (t : CommitRequestTopicValue) → FitsCommitRequestTopic t → IsWritableCommitReplyTopic (reply_topic_value (t.name, map (λ x. (x.index, code t.name x)) (map commitment_of t.partitions)))
  writable_topic t fits =
      record {
        name = fits.name.length;
        partitions = record {
          count = omega (arith, length-answers code t.name t.partitions, fits.partitions.0);
          each = All-map IsWritableCommitReplyPartition reply_partition_value (map (λ x. (x.index, code t.name x)) (map commitment_of t.partitions)) (λ k d h. FitsTaggedFields-nil);
        };
        tags = FitsTaggedFields-nil;
      }

  writable_reply : (v : CommitRequestValue) → FitsCommitRequest v → IsWritableCommitReply (commit_reply_value (answers_by code (commit_of v)))
  writable_reply v fits =
      record {
        topics = record {
          count = omega (arith, length-topics_answers code v.topics, fits.topics.0);
          each = All-map IsWritableCommitReplyTopic reply_topic_value (answers_of_topics code v.topics)
              (All-map (λ a. IsWritableCommitReplyTopic (reply_topic_value a)) (λ t. (t.name, map (λ x. (x.index, code t.name x)) t.partitions)) (map topic_of v.topics)
              (All-map (λ (t : TopicCommitments). IsWritableCommitReplyTopic (reply_topic_value (t.name, map (λ x. (x.index, code t.name x)) t.partitions))) topic_of v.topics
              (All-weaker FitsCommitRequestTopic (λ (t : CommitRequestTopicValue). IsWritableCommitReplyTopic (reply_topic_value (t.name, map (λ x. (x.index, code t.name x)) (map commitment_of t.partitions)))) writable_topic v.topics fits.topics.1)));
        };
        tags = FitsTaggedFields-nil;
      }

  framed_by_codes : (correlation : ℤ) (v : CommitRequestValue) (size left : ℕ) → FitsCommitRequest v → length (commit_request_fields v) + 10 ≤ size
      → size ≤ LARGEST_BODY → size ≤ left → HasRoomInFrame (commit_message correlation (commit_reply_value (answers_by code (commit_of v)))) left
  framed_by_codes correlation v size left fits within most room =
      record {
        writable = (FitsTaggedFields-nil, writable_reply v fits);
        short = omega (arith, length-commit_body code correlation v);
        room = omega (arith, length-commit_body code correlation v);
      }

-- the message of a node's answer has room where its request has
pub HasRoomInFrame-commit : (c new : Coordinator) (correlation : ℤ) (v : CommitRequestValue) (message : CommitReplyValue) (size left : ℕ)
    → CommitsIn c v message new → FitsCommitRequest v → length (commit_request_fields v) + 10 ≤ size → size ≤ LARGEST_BODY → size ≤ left
    → HasRoomInFrame (commit_message correlation message) left
HasRoomInFrame-commit c new correlation v message size left commits fits within most room =
    let by = by_codes (finite.get c.groups v.group_id) c (commit_of v) commits.reply new commits.step in
    let is : message ≡ commit_reply_value (answers_by by.0 (commit_of v)) = commits.says ∙ ap commit_reply_value by.1 in
    subst (λ (m : CommitReplyValue). HasRoomInFrame (commit_message correlation m) left) (sym is) (framed_by_codes by.0 correlation v size left fits within most room)

-- ---- what was appended

pub IsCommitted-frame : (c new : Coordinator) (correlation passed : ℤ) (v : CommitRequestValue) (message : CommitReplyValue) (before after : List ℕ) → passed ≡ correlation
    → CommitsIn c v message new → (frame : List ℕ) × IsReplyFrame (commit_message passed message) frame × (after ≡ before ++ frame)
    → IsCommitted c correlation v new before after
IsCommitted-frame c new correlation passed v message before after same commits sent =
    record {
      reply = commits.reply;
      step = commits.step;
      frame = sent.0;
      is_frame = subst (λ (n : ℤ). IsReplyFrame (commit_message n (commit_reply_value commits.reply)) sent.0) same
          (subst (λ (m : CommitReplyValue). IsReplyFrame (commit_message passed m) sent.0) commits.says sent.1);
      bytes = sent.2;
    }

pub request_of_commit : (c new : Coordinator) (header : RequestHeaderValue) (v : CommitRequestValue) (passed : ℤ) (stamp : Stamp) (moment : ℕ) (before after : List ℕ)
    → passed ≡ header.correlation_id → IsCommitted c passed v new before after
    → AnswersRequest c (commit_request header v) stamp moment answered.Replied new before after
request_of_commit c new header v passed stamp moment before after is done =
    record {
      answer = Replied done.frame;
      is_answered = tt;
      step = (done.reply, done.step, subst (λ (n : ℤ). Sends (Some (commit_value n done.reply)) (Replied done.frame)) is done.is_frame);
      bytes = done.bytes;
    }

-- ---- where a commit is answered

-- a group's commit is the node's
pub commits_at_present : (c new : Coordinator) (v : CommitRequestValue) (message : CommitReplyValue) (g after : Group) → finite.get c.groups v.group_id ≡ Some g
    → Commits g (commit_of v) c.image message after → new ≡ with_group c v.group_id after → CommitsIn c v message new
commits_at_present c new v message g after there commits is =
    record {
      reply = commits.reply;
      step = subst (λ (found : Option Group). CommitAt found c (commit_of v) commits.reply new) (sym there) (after, commits.step, is);
      says = commits.says;
    }

-- where there is no group
pub commits_at_absent : (c : Coordinator) (v : CommitRequestValue) (message : CommitReplyValue) → finite.get c.groups v.group_id ≡ None
    → message ≡ commit_reply_value (answers_by (λ name x. GroupIdNotFound) (commit_of v)) → CommitsIn c v message c
commits_at_absent c v message absent says =
    record {
      reply = answers_by (λ name x. GroupIdNotFound) (commit_of v);
      step = subst (λ (found : Option Group). CommitAt found c (commit_of v) (answers_by (λ name x. GroupIdNotFound) (commit_of v)) c) (sym absent) (refl, refl);
      says = says;
    }
