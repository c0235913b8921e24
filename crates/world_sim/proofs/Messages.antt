-- What requests and replies say, once they have been bytes.
use Rattle.std.proofs.Common.{◌≡◌, ℕ, zero, suc, ◌<◌, ℤ, pos, negsuc, Bool, true, false, List, [], ◌∷◌, Option, Some, None, refl, sym, ap, subst, ◌∙◌, true≢false, zero-lt-suc, if◌then◌else◌}
use Rattle.std.specs.List.{flat_map}
use Rattle.std.specs.Option.{option_map}
use Rattle.std.specs.Str.{bytes_eq}
use Rattle.std.proofs.lemmas.Slice.Eq.{bytes_eq-Decides}
use Rattle.kip_msgs.specs.Values.{CommitReplyValue, HeartbeatReplyValue, HeartbeatRequestValue, ReplyValue, RequestValue, TopicPartitionsValue, commit_reply, commit_request, heartbeat_reply, heartbeat_request}
use Rattle.kip_msgs.specs.Listing.{alone, before}
use Rattle.group_types.specs.declared.code.Code.{Code}
use Rattle.group_types.specs.declared.code.Code.TheVariants as codes
use Rattle.group_types.specs.declared.partition.Partition.{Partition}
use Rattle.group_types.specs.Text.{Text}
use Rattle.group_types.specs.Sets.{in_order, of_list}
use Rattle.group_types.specs.Partition.{Partitions}
use Rattle.group_types.specs.Code.{code_number}
use Rattle.group_types.specs.Request.{Heartbeat}
use Rattle.group_types.specs.HeartbeatStep.{Reply}
use Rattle.group_types.proofs.Orders.{partition_cmp_total, partition_cmp-IsAntisymmetric}
use Rattle.group_types.proofs.SetLemmas.{has-in_order, has-of_list, same_set}
use Rattle.group_types.proofs.Lookups.{not_none, some_is}
use Rattle.group_epochs.specs.Request.{heartbeat_of}
use Rattle.coord_node.specs.Replies.{assignment_value, heartbeat_reply_value}
use Rattle.member_core.specs.Listing.{partitions_of, listed}
use Rattle.member_core.specs.Asking.{heartbeat_value}
use Rattle.member_core.specs.Taking.{Meaning, MeansSuccess, MeansFenced, MeansRetry, MeansEnd, News, Accepts, Fences, Retries, Ends, meaning_of, news_by, news_of, assigned}

-- ---- what stands in a request, and in a reply

abbrev pub heartbeat_in : RequestValue → HeartbeatRequestValue → HeartbeatRequestValue
heartbeat_in (heartbeat_request header v) other = v
heartbeat_in (commit_request header v) other = other

abbrev pub heartbeat_reply_in : ReplyValue → HeartbeatReplyValue → HeartbeatReplyValue
heartbeat_reply_in (heartbeat_reply header v) other = v
heartbeat_reply_in (commit_reply header v) other = other

abbrev pub commit_reply_in : ReplyValue → CommitReplyValue → CommitReplyValue
commit_reply_in (heartbeat_reply header v) other = other
commit_reply_in (commit_reply header v) other = v

-- ---- partitions that are listed

names_before : (p : Partition) (ts : List TopicPartitionsValue) → flat_map partitions_of (before p.topic p.index ts) ≡ p ∷ flat_map partitions_of ts
names_before p [] = refl
names_before p (t ∷ ts) = by (bytes_eq p.topic t.topic_id) refl
  where
    by : (b : Bool) → bytes_eq p.topic t.topic_id ≡ b
        → flat_map partitions_of (if b then record t { partitions = p.index ∷ t.partitions } ∷ ts else alone p.topic p.index ∷ t ∷ ts) ≡ p ∷ flat_map partitions_of (t ∷ ts)
    by true so =
        ap (λ (x : Text). (record { topic = x; index = p.index }) ∷ flat_map partitions_of (t ∷ ts)) (sym ((bytes_eq-Decides p.topic t.topic_id).0 so))
    by false so = refl

names_listed : (ps : List Partition) → flat_map partitions_of (listed ps) ≡ ps
names_listed [] = refl
names_listed (p ∷ ps) = names_before p (listed ps) ∙ ap (λ (rest : List Partition). p ∷ rest) (names_listed ps)

-- ---- a heartbeat and its message

same_owned : (o : Option (List Partition)) → option_map (flat_map partitions_of) (option_map listed o) ≡ o
same_owned None = refl
same_owned (Some ps) = ap Some (names_listed ps)

-- the message of a heartbeat says it
pub heartbeat_said : (q : Heartbeat) → heartbeat_of (heartbeat_value q) ≡ q
heartbeat_said q = ap (λ (o : Option (List Partition)). record q { owned = o }) (same_owned q.owned)

-- ---- an assignment

pub of_list-in_order : (set : Partitions) → of_list (in_order set) ≡ set
of_list-in_order set =
    same_set partition_cmp_total partition_cmp-IsAntisymmetric _ _ (λ p. has-of_list partition_cmp_total (in_order set) p ∙ sym (has-in_order set p))

assigned_same : (set : Partitions) → assigned (assignment_value set) ≡ set
assigned_same set = ap of_list (names_listed (in_order set)) ∙ of_list-in_order set

pub assignment_same : (o : Option Partitions) → option_map assigned (option_map assignment_value o) ≡ o
assignment_same None = refl
assignment_same (Some set) = ap Some (assigned_same set)

-- ---- a reply of success

abbrev is_accepting : News → Bool
is_accepting (Accepts m epoch shown) = true
is_accepting Fences = false
is_accepting Retries = false
is_accepting Ends = false

abbrev id_in : News → Text
id_in (Accepts m epoch shown) = m
id_in Fences = []
id_in Retries = []
id_in Ends = []

abbrev epoch_in : News → ℕ
epoch_in (Accepts m epoch shown) = epoch
epoch_in Fences = 0
epoch_in Retries = 0
epoch_in Ends = 0

abbrev shown_in : News → Option Partitions
shown_in (Accepts m epoch shown) = shown
shown_in Fences = None
shown_in Retries = None
shown_in Ends = None

pub record IsAccepted (meaning : Meaning) (member : Option Text) (at : ℤ) (given : Option Partitions) (m : Text) (epoch : ℕ) (shown : Option Partitions) : Type 0 where
  pub success : meaning ≡ MeansSuccess
  pub id : member ≡ Some m
  pub epoch_is : at ≡ pos epoch
  pub positive : 0 < epoch
  pub assignment : given ≡ shown

accepted_by : (meaning : Meaning) (member : Option Text) (at : ℤ) (given : Option Partitions) (m : Text) (epoch : ℕ) (shown : Option Partitions)
    → news_by meaning member at given ≡ Some (Accepts m epoch shown) → IsAccepted meaning member at given m epoch shown
accepted_by MeansSuccess (Some k) (pos (suc n)) given m epoch shown is =
    let same = some_is (Accepts k (suc n) given) (Accepts m epoch shown) is in
    record {
      success = refl;
      id = ap (λ x. Some (id_in x)) same;
      epoch_is = ap (λ x. pos (epoch_in x)) same;
      positive = subst (λ x. 0 < x) (ap epoch_in same) (zero-lt-suc n);
      assignment = ap shown_in same;
    }
accepted_by MeansSuccess (Some k) (pos zero) given m epoch shown is = absurd (not_none (Accepts m epoch shown) is)
accepted_by MeansSuccess (Some k) (negsuc n) given m epoch shown is = absurd (not_none (Accepts m epoch shown) is)
accepted_by MeansSuccess None at given m epoch shown is = absurd (not_none (Accepts m epoch shown) is)
accepted_by MeansFenced member at given m epoch shown is = absurd (true≢false (sym (ap is_accepting (some_is Fences (Accepts m epoch shown) is))))
accepted_by MeansRetry member at given m epoch shown is = absurd (true≢false (sym (ap is_accepting (some_is Retries (Accepts m epoch shown) is))))
accepted_by MeansEnd member at given m epoch shown is = absurd (true≢false (sym (ap is_accepting (some_is Ends (Accepts m epoch shown) is))))

abbrev is_success : Meaning → Bool
is_success MeansSuccess = true
is_success MeansFenced = false
is_success MeansRetry = false
is_success MeansEnd = false

success_code : (code : Code) → meaning_of (code_number code) ≡ MeansSuccess → code ≡ codes.NoError
success_code codes.NoError is = refl
success_code codes.UnknownTopicOrPartition is = absurd (true≢false (sym (ap is_success is)))
success_code codes.OffsetMetadataTooLarge is = absurd (true≢false (sym (ap is_success is)))
success_code codes.CoordinatorNotAvailable is = absurd (true≢false (sym (ap is_success is)))
success_code codes.UnknownMemberId is = absurd (true≢false (sym (ap is_success is)))
success_code codes.InvalidRequest is = absurd (true≢false (sym (ap is_success is)))
success_code codes.GroupIdNotFound is = absurd (true≢false (sym (ap is_success is)))
success_code codes.GroupMaxSizeReached is = absurd (true≢false (sym (ap is_success is)))
success_code codes.FencedMemberEpoch is = absurd (true≢false (sym (ap is_success is)))
success_code codes.UnreleasedInstanceId is = absurd (true≢false (sym (ap is_success is)))
success_code codes.UnsupportedAssignor is = absurd (true≢false (sym (ap is_success is)))
success_code codes.StaleMemberEpoch is = absurd (true≢false (sym (ap is_success is)))

-- what a reply of the coordinator says, where it tells that a member is accepted
pub record SaysAccepted (reply : Reply) (m : Text) (epoch : ℕ) (shown : Option Partitions) : Type 0 where
  pub success : reply.code ≡ codes.NoError
  pub id : reply.member ≡ Some m
  pub epoch_is : reply.epoch ≡ pos epoch
  pub positive : 0 < epoch
  pub assignment : reply.assignment ≡ shown

pub says_accepted : (reply : Reply) (m : Text) (epoch : ℕ) (shown : Option Partitions) → news_of (heartbeat_reply_value reply) ≡ Some (Accepts m epoch shown) → SaysAccepted reply m epoch shown
says_accepted reply m epoch shown is =
    let by = accepted_by (meaning_of (code_number reply.code)) reply.member reply.epoch (option_map assigned (option_map assignment_value reply.assignment)) m epoch shown is in
    record {
      success = success_code reply.code by.success;
      id = by.id;
      epoch_is = by.epoch_is;
      positive = by.positive;
      assignment = sym (assignment_same reply.assignment) ∙ by.assignment;
    }

-- a member that is accepted has an epoch above 0
pub accepted_above : (meaning : Meaning) (member : Option Text) (at : ℤ) (given : Option Partitions) (m : Text) (epoch : ℕ) (shown : Option Partitions)
    → news_by meaning member at given ≡ Some (Accepts m epoch shown) → 0 < epoch
accepted_above meaning member at given m epoch shown is = (accepted_by meaning member at given m epoch shown is).positive
