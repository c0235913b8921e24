use Rattle.std.proofs.Common.{refl}
use Rattle.flex_wire.specs.Spelling.{signed, varint, varint_groups, compact_string, compact_nullable_string, nullable_string, tagged_field, tagged_fields, array_count}
use Rattle.kip_msgs.specs.Spelling.{request_body, reply_body, request_header_fields, response_header_fields, heartbeat_request_fields, heartbeat_reply_fields, topic_partitions_fields, assignment_fields, nullable_struct, commit_request_fields, commit_request_topic_fields, commit_request_partition_fields, commit_reply_fields, commit_reply_topic_fields, commit_reply_partition_fields}
use Rattle.message_tests.proofs.laws.bodies_are_the_guides.Goals as goal

pub returns-clause-heartbeat : goal.returns-clause-heartbeat
unfolding request_body request_header_fields heartbeat_request_fields topic_partitions_fields signed varint varint_groups compact_string compact_nullable_string nullable_string tagged_field tagged_fields array_count
returns-clause-heartbeat c = refl

pub returns-clause-heartbeat_answer : goal.returns-clause-heartbeat_answer
unfolding reply_body response_header_fields heartbeat_reply_fields assignment_fields nullable_struct topic_partitions_fields signed varint varint_groups compact_string compact_nullable_string tagged_field tagged_fields array_count
returns-clause-heartbeat_answer c = refl

pub returns-clause-commit : goal.returns-clause-commit
unfolding request_body request_header_fields commit_request_fields commit_request_topic_fields commit_request_partition_fields signed varint varint_groups compact_string compact_nullable_string nullable_string tagged_field tagged_fields array_count
returns-clause-commit c = refl

pub returns-clause-commit_answer : goal.returns-clause-commit_answer
unfolding reply_body response_header_fields commit_reply_fields commit_reply_topic_fields commit_reply_partition_fields signed varint varint_groups compact_string tagged_field tagged_fields array_count
returns-clause-commit_answer c = refl
