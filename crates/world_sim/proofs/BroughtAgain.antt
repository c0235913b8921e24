-- A commit that is brought twice, and accepted both times.
use Rattle.std.proofs.Common.{◌≡◌, ◌^◌, pos, true, false, List, [], ◌∷◌, ℕ, length, nat_le, nat_lt, Option, Some, None, if◌then◌else◌, inl, refl, sym, ap, subst, ◌∙◌, arith, ltb-true}
use Rattle.std.proofs.lemmas.Bool.{leb-true}
use Rattle.std.specs.FinMap as finite
use Rattle.std.specs.Option.{option_map_or}
use Rattle.uuid.specs.Text.{by_index}
use Rattle.flex_wire.specs.Spelling.{signed, varint, varint_groups, compact_string, compact_nullable_string, nullable_string, tagged_fields, array_count, nullable_array_count}
use Rattle.kip_msgs.specs.Values.{CommitRequestPartitionValue, CommitRequestTopicValue, CommitReplyPartitionValue, CommitReplyTopicValue, CommitReplyValue, RequestValue, ResponseHeaderValue, commit_reply}
use Rattle.kip_msgs.specs.Spelling.{FitsCommitReplyPartition, FitsCommitReplyTopic, FitsCommitRequestPartition, FitsCommitRequestTopic, SpellsReply, SpellsRequest, request_body, reply_body, request_header_fields, response_header_fields, commit_request_fields, commit_request_topic_fields, commit_request_partition_fields, commit_reply_fields, commit_reply_topic_fields, commit_reply_partition_fields}
use Rattle.group_types.specs.declared.code.Code.TheVariants as codes
use Rattle.group_types.specs.Commit as group
use Rattle.group_types.specs.HeartbeatStep.{Replied}
use Rattle.group_types.specs.Laws.{GroupEvent, OfCommit, OfHeartbeat}
use Rattle.group_types.specs.Commit.{CommitReply, commit_reply as answer_to, offsets_after, refusal_of_commit, refusal_of_member, is_there}
use Rattle.group_types.specs.Frames.{IsFrame, frame_of}
use Rattle.group_types.specs.Limits.{LARGEST_BODY}
use Rattle.group_types.specs.Owners.{is_index}
use Rattle.group_types.specs.Topics.{Topic, Topics}
use Rattle.group_types.specs.Group.{Group, Record, Records}
use Rattle.group_types.proofs.Orders.{text_cmp_total}
use Rattle.group_core.proofs.Single.{get-inserted}
use Rattle.group_epochs.specs.Request.{commit_of}
use Rattle.offset_guard.specs.Replies.{commit_reply_value}
use Rattle.coord_node.specs.Coordinator.{Coordinator, Frame}
use Rattle.coord_node.specs.Coordinator as node
use Rattle.coord_node.specs.Steps.{CommitAt, Step, with_group}
use Rattle.member_core.specs.Committing.{commit_for, commit_value}
use Rattle.world_sim.specs.World.{World, Commit, cut, numbered, with_commit, with_coordinator}
use Rattle.world_sim.specs.Acts.{Bring, BringStep, Commits, CommitsBy, IsAnswered, IsCommitted, ActStep, commit_by, fits_frame, no_stamp}
use Rattle.world_sim.specs.Exclusivity.{HasCode}
use Rattle.world_sim.specs.Reached.{IsReached}
use Rattle.world_sim.specs.Examples.{SomeCommitIsBroughtAgain}
use Rattle.world_sim.specs.GroupExamples.{SomeOffsetIsStored}
use Rattle.world_sim.proofs.Lists.{from_in}
use Rattle.world_sim.proofs.Newcomers.{GROUP, arrival_of, id_of, kept_of, partition_of, reply_to, topic_of}
use Rattle.world_sim.proofs.NewcomerMessages.{id_fits, inside_of, no_tags, one}
use Rattle.world_sim.proofs.Reaching.{reached_by}
use Rattle.world_sim.proofs.TwoHolders.{OneIn, OneInside, of_one, one_inside, owns}
use Rattle.world_sim.proofs.TwoNewcomers.{AfterOne, One, OneTopic, TwoTopics, name_fits, one_joins, two_are_images}

-- ---- the commit: offset 7 of its partition

abbrev offset : CommitRequestPartitionValue
offset = record { partition_index = pos 0; committed_offset = pos 7; committed_leader_epoch = pos 0; committed_metadata = None; tags = [] }

abbrev topic : CommitRequestTopicValue
topic = record { name = One.name; partitions = offset ∷ []; tags = [] }

abbrev Said : RequestValue
Said = commit_for (inside_of One) 1 (topic ∷ [])

abbrev Body : List ℕ
Body = request_body Said

said_spelled : SpellsRequest Said Body
unfolding lib.Utf8.encode
said_spelled =
    record {
      fits = (
        record { correlation_id = record { sfits = omega arith }; client_id = tt; tags = no_tags },
        record {
          group_id = record { length = omega arith; utf8 = (GROUP, (refl, refl)) };
          generation_id_or_member_epoch = record { sfits = omega arith };
          member_id = id_fits One;
          group_instance_id = tt;
          topics = (
            omega arith,
            one FitsCommitRequestTopic topic (record {
              name = name_fits.0;
              partitions = (
                omega arith,
                one FitsCommitRequestPartition offset (record {
                  partition_index = record { sfits = omega arith };
                  committed_offset = record { sfits = omega arith };
                  committed_leader_epoch = record { sfits = omega arith };
                  committed_metadata = tt;
                  tags = no_tags;
                }),
              );
              tags = no_tags;
            }),
          );
          tags = no_tags;
        },
      );
      bytes = refl;
    }

said_fits : (nat_le 1 (length Body) ≡ true) × (fits_frame Body ≡ true)
unfolding request_body request_header_fields commit_request_fields commit_request_topic_fields commit_request_partition_fields signed varint varint_groups compact_string compact_nullable_string nullable_string tagged_fields array_count nullable_array_count by_index
said_fits = (refl, refl)

abbrev Made : Commit
Made = cut OneIn (commit_by (inside_of One) Body)

abbrev Making : World
Making = with_commit OneInside Made

making : IsReached Making
making =
    reached_by OneInside Making (Commits 1 (topic ∷ [])) (IsCommitted 1) one_inside
    (Body, said_spelled, subst (λ b. CommitsBy b OneInside (commit_by (inside_of One) Body) (IsCommitted 1) Making) (sym said_fits.1) (refl, refl))

-- ---- the reply

abbrev Answer : CommitReply
Answer = (One.name, (pos 0, codes.NoError) ∷ []) ∷ []

abbrev partition_answer : CommitReplyPartitionValue
partition_answer = record { partition_index = pos 0; error_code = pos 0; tags = [] }

abbrev topic_answer : CommitReplyTopicValue
topic_answer = record { name = One.name; partitions = partition_answer ∷ []; tags = [] }

abbrev Reply : CommitReplyValue
Reply = commit_reply_value Answer

abbrev header : ResponseHeaderValue
header = record { correlation_id = pos 1; tags = [] }

abbrev ReplyBody : List ℕ
ReplyBody = reply_body (commit_reply header Reply)

reply_spelled : SpellsReply (commit_reply header Reply) ReplyBody
reply_spelled =
    record {
      fits = (
        record { correlation_id = record { sfits = omega arith }; tags = no_tags },
        record {
          throttle_time_ms = record { sfits = omega arith };
          topics = (
            omega arith,
            one FitsCommitReplyTopic topic_answer (record {
              name = name_fits.0;
              partitions = (
                omega arith,
                one FitsCommitReplyPartition partition_answer (record { partition_index = record { sfits = omega arith }; error_code = record { sfits = omega arith }; tags = no_tags }),
              );
              tags = no_tags;
            }),
          );
          tags = no_tags;
        },
      );
      bytes = refl;
    }

reply_fits : nat_lt (length ReplyBody) (2 ^ 31) ≡ true
unfolding reply_body response_header_fields commit_reply_fields commit_reply_topic_fields commit_reply_partition_fields signed varint varint_groups compact_string tagged_fields array_count
reply_fits = refl

framed : IsFrame ReplyBody (frame_of ReplyBody)
framed = record { size = record { sfits = ltb-true (length ReplyBody) (2 ^ 31) reply_fits }; bytes = refl }

accepts : HasCode Reply (pos 0)
accepts =
    record {
      topic = topic_answer;
      is_topic = from_in (topic_answer ∷ []) topic_answer (inl refl);
      partition = partition_answer;
      is_partition = from_in (partition_answer ∷ []) partition_answer (inl refl);
      same = refl;
    }

-- ---- it is brought to a group whose records are those of the maker's alone

abbrev Asked : group.Commit
Asked = commit_of (commit_value GROUP (id_of One) 1 (topic ∷ []))

abbrev storing : Group → Topics → Group
storing g image = record g { offsets = offsets_after (refusal_of_commit g.records (id_of One) (pos 1)) g.offsets Asked image }

module _ (w : World) (g : Group) (k : Commit) (of_group : finite.get w.coordinator.groups GROUP ≡ Some g) (records : g.records ≡ AfterOne.records)
    (image : w.coordinator.image ≡ TwoTopics) (pooled : numbered w.commits 1 ≡ Some k) (body : k.body ≡ Body) where
  taken : refusal_of_commit g.records (id_of One) (pos 1) ≡ None
  taken =
      ap (λ (o : Option Record). refusal_of_member o (pos 1))
      (ap (λ (rs : Records). finite.get rs (id_of One)) records ∙ get-inserted text_cmp_total finite.empty (id_of One) (kept_of One))

  there : is_there w.coordinator.image One.name (pos 0) ≡ true
  there =
      ap (λ (im : Topics). is_there im One.name (pos 0)) image
      ∙ ap (λ (o : Option Topic). option_map_or (λ t. is_index (pos 0) t.count) o false) (get-inserted text_cmp_total OneTopic One.name (topic_of One))

  answers : Answer ≡ answer_to (refusal_of_commit g.records (id_of One) (pos 1)) Asked w.coordinator.image
  answers =
      sym
      (ap (λ o. answer_to o Asked w.coordinator.image) taken
      ∙ ap (λ b. (One.name, (pos 0, (if b then codes.NoError else codes.UnknownTopicOrPartition)) ∷ []) ∷ []) there)

  abbrev After : Coordinator
  After = with_group w.coordinator GROUP (storing g w.coordinator.image)

  comes : CommitAt (finite.get w.coordinator.groups GROUP) w.coordinator Asked Answer After
  comes =
      subst (λ (o : Option Group). CommitAt o w.coordinator Asked Answer After) (sym of_group)
      (storing g w.coordinator.image, record { answers = answers; stores = refl }, refl)

  steps : Step w.coordinator (Frame Body no_stamp w.clock) (node.Replied (frame_of ReplyBody)) After
  steps = inl (
    Said,
    record { is_body = (leb-true 1 (length Body) said_fits.0, leb-true (length Body) LARGEST_BODY said_fits.1); spells = said_spelled },
    (Answer, comes, record { body = ReplyBody; spells = reply_spelled; framed = framed }),
  )

  brings : ActStep w (Bring 1) (IsAnswered Reply) (with_coordinator w After)
  brings =
      subst (λ (o : Option Commit). BringStep o w (IsAnswered Reply) (with_coordinator w After)) (sym pooled) (
        node.Replied (frame_of ReplyBody),
        After,
        subst (λ (b : List ℕ). Step w.coordinator (Frame b no_stamp w.clock) (node.Replied (frame_of ReplyBody)) After) (sym body) steps,
        (ReplyBody, header, Reply, framed, reply_spelled, (refl, refl)),
      )

-- ---- twice

abbrev Stored : Group
Stored = storing AfterOne TwoTopics

abbrev Brought : Coordinator
Brought = with_group OneIn GROUP Stored

abbrev Between : World
Between = with_coordinator Making Brought

abbrev Again : World
Again = with_coordinator Between (with_group Brought GROUP (storing Stored TwoTopics))

of_stored : finite.get Brought.groups GROUP ≡ Some Stored
of_stored = get-inserted text_cmp_total OneIn.groups GROUP Stored

pub some_commit_is_brought_again : SomeCommitIsBroughtAgain
some_commit_is_brought_again =
    record {
      world = Making;
      reached = making;
      number = 1;
      commit = Made;
      between = Between;
      once = record {
        numbered_so = refl;
        partition = partition_of One;
        held = owns One;
        reply = Reply;
        brings = brings Making AfterOne Made of_one refl refl refl refl;
        accepted = accepts;
      };
      brought = cut Brought Made;
      same_body = refl;
      new = Again;
      again = record {
        numbered_so = refl;
        partition = partition_of One;
        held = owns One;
        reply = Reply;
        brings = brings Between Stored (cut Brought Made) of_stored refl refl refl refl;
        accepted = accepts;
      };
    }

-- ---- what it stores in its group

abbrev committing : List GroupEvent
committing = OfHeartbeat (arrival_of One TwoTopics) (Replied (reply_to One)) ∷ OfCommit Asked TwoTopics Answer ∷ []

pub some_offset_is_stored : SomeOffsetIsStored
some_offset_is_stored =
    record {
      events = committing;
      group = Stored;
      run = (AfterOne, (two_are_images, one_joins), (Stored, record { answers = answers Making AfterOne Made of_one refl refl refl refl; stores = refl }, refl));
      name = One.name;
      index = pos 0;
      committed = record { offset = pos 7; leader_epoch = pos 0; metadata = None };
      last = refl;
    }
