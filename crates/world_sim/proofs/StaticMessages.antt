-- What the static members say and are told, in bytes.
use Rattle.std.proofs.Common.{◌≡◌, ℕ, ◌<◌, ◌^◌, pos, [], ◌∷◌, ◌++◌, map, Some, None, unwrap_or, inl, refl, sym, ap, ◌∙◌, arith}
use Rattle.std.specs.FinMap as finite
use Rattle.std.specs.Int.{to_be_bytes, w32, w64}
use Rattle.std.specs.Prelude.{FitsSigned}
use Rattle.std.proofs.lemmas.Str.{IsUtf8-from_ascii}
use Rattle.uuid.specs.Text.{by_index, lower}
use Rattle.uuid.proofs.TextLemmas.{hyphenated_ascii}
use Rattle.flex_wire.specs.Spelling.{FitsText, signed, varint, varint_groups, compact_string, compact_nullable_string, nullable_string, tagged_fields, array_count, nullable_array_count}
use Rattle.kip_msgs.specs.Values.{HeartbeatReplyValue, TopicPartitionsValue, heartbeat_reply}
use Rattle.kip_msgs.specs.Spelling.{FitsTopicPartitions, SpellsRequest, SpellsReply, request_body, reply_body, request_header_fields, response_header_fields, heartbeat_request_fields, heartbeat_reply_fields, assignment_fields, topic_partitions_fields, nullable_struct}
use Rattle.group_types.specs.declared.assignor_name.AssignorName.TheVariants.{Range}
use Rattle.group_types.specs.declared.code.Code.TheVariants as codes
use Rattle.group_types.specs.declared.partition.Partition.{Partition}
use Rattle.group_types.specs.Limits.{HEARTBEAT_INTERVAL}
use Rattle.group_types.specs.Text.{Text}
use Rattle.group_types.specs.AssignorName.{assignor_text}
use Rattle.group_types.specs.Code.{code_text}
use Rattle.group_types.specs.Sets.{in_order, nothing}
use Rattle.group_types.specs.Partition.{partition_cmp}
use Rattle.group_types.specs.MemberId.{made_id}
use Rattle.group_types.specs.Request.{GOES_AWAY_AT}
use Rattle.group_types.specs.HeartbeatStep.{farewell, refusal}
use Rattle.group_types.proofs.MadeIds.{length-made_id}
use Rattle.group_types.proofs.Orders.{partition_cmp_total}
use Rattle.group_types.proofs.SetLemmas.{entries-nothing}
use Rattle.group_core.specs.Listing as node
use Rattle.coord_node.specs.Replies.{heartbeat_reply_value}
use Rattle.member_core.specs.Asking.{request_value}
use Rattle.world_sim.proofs.Exchanges.{Exchange, IsSized, IsSpelled, header_in}
use Rattle.world_sim.proofs.NewcomerMessages.{no_tags, none, one}
use Rattle.world_sim.proofs.Newcomers.{GROUP}
use Rattle.world_sim.proofs.StaticSteps.{HeirTold, ID1, ID2, INSTANCE, ITS_OWN, JoinTold, NAME, PARTITION, RejoinTold, TOPIC, beating, going_away, join_as, stamp_at}

-- ---- parts

id_fits : (n : ℕ) → FitsText (made_id 0 n)
id_fits n =
    record {
      length = let is = length-made_id 0 n in omega (arith, is);
      utf8 = IsUtf8-from_ascii (made_id 0 n) (hyphenated_ascii lower (to_be_bytes w64 0 ++ to_be_bytes w64 n) (inl refl));
    }

no_id : FitsText []
unfolding lib.Utf8.encode
no_id = record { length = omega arith; utf8 = ([], (refl, refl)) }

-- ---- the requests

join_spelled : (number : ℕ) (member : Text) → number < 2 ^ 31 → FitsText member → SpellsRequest (request_value number (join_as member)) (request_body (request_value number (join_as member)))
unfolding lib.Utf8.encode
join_spelled number member below fits =
    record {
      fits = (
        record { correlation_id = record { sfits = omega (arith, below) }; client_id = tt; tags = no_tags },
        record {
          group_id = record { length = omega arith; utf8 = (GROUP, (refl, refl)) };
          member_id = fits;
          member_epoch = record { sfits = omega arith };
          instance_id = record { length = omega arith; utf8 = (INSTANCE, (refl, refl)) };
          rack_id = tt;
          rebalance_timeout_ms = record { sfits = omega arith };
          subscribed_topic_names = (omega arith, one FitsText NAME (record { length = omega arith; utf8 = (NAME, (refl, refl)) }));
          server_assignor = record { length = omega arith; utf8 = (assignor_text Range, (refl, refl)) };
          topic_partitions = (omega arith, none FitsTopicPartitions);
          tags = no_tags;
        },
      );
      bytes = refl;
    }

going_spelled : SpellsRequest (request_value 2 (going_away ID1)) (request_body (request_value 2 (going_away ID1)))
unfolding lib.Utf8.encode
going_spelled =
    record {
      fits = (
        record { correlation_id = record { sfits = omega arith }; client_id = tt; tags = no_tags },
        record {
          group_id = record { length = omega arith; utf8 = (GROUP, (refl, refl)) };
          member_id = id_fits 1;
          member_epoch = record { sfits = omega arith };
          instance_id = record { length = omega arith; utf8 = (INSTANCE, (refl, refl)) };
          rack_id = tt;
          rebalance_timeout_ms = record { sfits = omega arith };
          subscribed_topic_names = tt;
          server_assignor = tt;
          topic_partitions = tt;
          tags = no_tags;
        },
      );
      bytes = refl;
    }

beating_spelled : SpellsRequest (request_value 2 (beating ID2 1)) (request_body (request_value 2 (beating ID2 1)))
unfolding lib.Utf8.encode
beating_spelled =
    record {
      fits = (
        record { correlation_id = record { sfits = omega arith }; client_id = tt; tags = no_tags },
        record {
          group_id = record { length = omega arith; utf8 = (GROUP, (refl, refl)) };
          member_id = id_fits 2;
          member_epoch = record { sfits = omega arith };
          instance_id = tt;
          rack_id = tt;
          rebalance_timeout_ms = record { sfits = omega arith };
          subscribed_topic_names = tt;
          server_assignor = tt;
          topic_partitions = tt;
          tags = no_tags;
        },
      );
      bytes = refl;
    }

-- ---- the replies

abbrev LISTING : TopicPartitionsValue
LISTING = record { topic_id = TOPIC.id; partitions = pos 0 ∷ []; tags = [] }

-- under an id and at an epoch it is shown its partition
abbrev pub accepting : Text → ℕ → HeartbeatReplyValue
accepting m epoch =
    record {
      throttle_time_ms = pos 0;
      error_code = pos 0;
      error_message = None;
      member_id = Some m;
      member_epoch = pos epoch;
      heartbeat_interval_ms = pos 5000;
      assignment = Some (record { topic_partitions = LISTING ∷ []; tags = [] });
      tags = [];
    }

own_order : in_order ITS_OWN ≡ PARTITION ∷ []
own_order =
    ap (map (λ (e : Partition × Unit {0}). e.0))
    (finite.entries-insert partition_cmp_total (nothing {R = partition_cmp}) PARTITION tt ∙ ap (finite.put partition_cmp PARTITION tt) (entries-nothing partition_cmp))

listed_as : LISTING ∷ [] ≡ node.listed (in_order ITS_OWN)
listed_as = ap node.listed (sym own_order)

is_accepting : (m : Text) (epoch : ℕ) → accepting m epoch ≡ heartbeat_reply_value (record { code = codes.NoError; member = Some m; epoch = pos epoch; interval = HEARTBEAT_INTERVAL; assignment = Some ITS_OWN })
is_accepting m epoch = λ i. record (accepting m epoch) { assignment = Some (record { topic_partitions = listed_as i; tags = [] }) }

accepting_spelled : (e : Exchange) (n epoch : ℕ) → e.number < 2 ^ 31 → epoch < 2 ^ 31
    → SpellsReply (heartbeat_reply (header_in e) (accepting (made_id 0 n) epoch)) (reply_body (heartbeat_reply (header_in e) (accepting (made_id 0 n) epoch)))
accepting_spelled e n epoch below low =
    record {
      fits = (
        record { correlation_id = record { sfits = omega (arith, below) }; tags = no_tags },
        record {
          throttle_time_ms = record { sfits = omega arith };
          error_code = record { sfits = omega arith };
          error_message = tt;
          member_id = id_fits n;
          member_epoch = record { sfits = omega (arith, low) };
          heartbeat_interval_ms = record { sfits = omega arith };
          assignment = record {
            topic_partitions = (
              omega arith,
              one FitsTopicPartitions LISTING (record { topic_id = refl; partitions = (omega arith, one (FitsSigned w32) (pos 0) (record { sfits = omega arith })); tags = no_tags }),
            );
            tags = no_tags;
          };
          tags = no_tags;
        },
      );
      bytes = refl;
    }

abbrev Farewell : HeartbeatReplyValue
Farewell = heartbeat_reply_value (farewell ID1 GOES_AWAY_AT)

abbrev Unknown : HeartbeatReplyValue
Unknown = heartbeat_reply_value (refusal codes.UnknownMemberId)

-- ---- the exchanges

abbrev pub Joining : Exchange
Joining = record { sender = 1; number = 1; said = join_as []; reply = JoinTold ID1 [] 0 0 0 1 2 0 [] finite.empty finite.empty (stamp_at 1 1); value = accepting ID1 1 }

abbrev pub Going : Exchange
Going = record { sender = 1; number = 2; said = going_away ID1; reply = farewell ID1 GOES_AWAY_AT; value = Farewell }

abbrev pub Coming : Exchange
Coming = record { sender = 2; number = 1; said = join_as []; reply = HeirTold; value = accepting ID2 1 }

abbrev pub Beating : Exchange
Beating = record { sender = 2; number = 2; said = beating ID2 1; reply = refusal codes.UnknownMemberId; value = Unknown }

abbrev pub Rejoining : Exchange
Rejoining = record { sender = 2; number = 3; said = join_as ID2; reply = RejoinTold; value = accepting ID2 3 }

they_fit : IsSized Joining × IsSized Going × IsSized Coming × IsSized Beating × IsSized Rejoining
unfolding request_body request_header_fields heartbeat_request_fields reply_body response_header_fields heartbeat_reply_fields signed varint varint_groups compact_string compact_nullable_string nullable_string tagged_fields array_count nullable_array_count nullable_struct assignment_fields topic_partitions_fields by_index
they_fit = (
  record { some_bytes = refl; request_fits = refl; reply_fits = refl },
  record { some_bytes = refl; request_fits = refl; reply_fits = refl },
  record { some_bytes = refl; request_fits = refl; reply_fits = refl },
  record { some_bytes = refl; request_fits = refl; reply_fits = refl },
  record { some_bytes = refl; request_fits = refl; reply_fits = refl },
)

pub joining_spelled : IsSpelled Joining
joining_spelled =
    record {
      request = join_spelled 1 [] (omega arith) no_id;
      reply = accepting_spelled Joining 1 1 (omega arith) (omega arith);
      read = refl;
      value = is_accepting ID1 1;
      sized = they_fit.0;
    }

pub going_is_spelled : IsSpelled Going
going_is_spelled =
    record {
      request = going_spelled;
      reply = record {
        fits = (
          record { correlation_id = record { sfits = omega arith }; tags = no_tags },
          record {
            throttle_time_ms = record { sfits = omega arith };
            error_code = record { sfits = omega arith };
            error_message = tt;
            member_id = id_fits 1;
            member_epoch = record { sfits = omega arith };
            heartbeat_interval_ms = record { sfits = omega arith };
            assignment = tt;
            tags = no_tags;
          },
        );
        bytes = refl;
      };
      read = refl;
      value = refl;
      sized = they_fit.1;
    }

pub coming_spelled : IsSpelled Coming
coming_spelled =
    record {
      request = join_spelled 1 [] (omega arith) no_id;
      reply = accepting_spelled Coming 2 1 (omega arith) (omega arith);
      read = refl;
      value = is_accepting ID2 1;
      sized = they_fit.2;
    }

reason_fits : FitsText (unwrap_or (code_text codes.UnknownMemberId) [])
unfolding lib.Utf8.encode
reason_fits = record { length = omega arith; utf8 = (unwrap_or (code_text codes.UnknownMemberId) [], (refl, refl)) }

pub beating_is_spelled : IsSpelled Beating
beating_is_spelled =
    record {
      request = beating_spelled;
      reply = record {
        fits = (
          record { correlation_id = record { sfits = omega arith }; tags = no_tags },
          record {
            throttle_time_ms = record { sfits = omega arith };
            error_code = record { sfits = omega arith };
            error_message = reason_fits;
            member_id = tt;
            member_epoch = record { sfits = omega arith };
            heartbeat_interval_ms = record { sfits = omega arith };
            assignment = tt;
            tags = no_tags;
          },
        );
        bytes = refl;
      };
      read = refl;
      value = refl;
      sized = they_fit.3;
    }

pub rejoining_spelled : IsSpelled Rejoining
rejoining_spelled =
    record {
      request = join_spelled 3 ID2 (omega arith) (id_fits 2);
      reply = accepting_spelled Rejoining 2 3 (omega arith) (omega arith);
      read = refl;
      value = is_accepting ID2 3;
      sized = they_fit.4;
    }
