use Rattle.std.proofs.Common.{◌≡◌, to_z, of_z, rules}
use Rattle.std.specs.Int.{w16, w32}
use Rattle.kip_msgs.specs.Spelling.{commit_reply_partition_fields}
use Rattle.kip_msgs.specs.Views.{commit_reply_partition_value}
use Rattle.kip_msgs.proofs.Puts.{start, step, last}
use Rattle.kip_msgs.proofs.writing.commit.CommitReplyPartitionPutElement.put.Goals as goal

pub returns-clause-appends : goal.returns-clause-appends
unfolding commit_reply_partition_fields
returns-clause-appends c =
    let m = c.args.self.now in
    let n1 : to_z w32 (of_z w32 m.partition_index) ≡ m.partition_index = search rules in
    let n2 : to_z w16 (of_z w16 m.error_code) ≡ m.error_code = search rules in
    let a1 = step (start c.args.out.now (commit_reply_partition_fields (commit_reply_partition_value m))) (rw n1 at c.in_ok-put_i32.ensures) in
    let a2 = step a1 (rw n2 at c.in_ok-put_i16.ensures) in
    last c.put_tags.result a2 c.put_tags.ensures
