use Rattle.std.proofs.Common.{◌≡◌, to_z, of_z, rules}
use Rattle.std.specs.Int.{w32, w64}
use Rattle.std.proofs.lemmas.Result.{err_from_is_err_and}
use Rattle.kip_msgs.specs.Spelling.{commit_request_partition_fields}
use Rattle.kip_msgs.specs.Views.{commit_request_partition_value}
use Rattle.kip_msgs.proofs.Puts.{start, step, stop, last}
use Rattle.kip_msgs.proofs.writing.commit.CommitRequestPartitionPutElement.put.Goals as goal

pub returns-in_err-put_i32-2-clause-appends : goal.returns-in_err-put_i32-2-clause-appends
unfolding commit_request_partition_fields
returns-in_err-put_i32-2-clause-appends c =
    let m = c.args.self.now in
    let n1 : to_z w32 (of_z w32 m.partition_index) ≡ m.partition_index = search rules in
    let n2 : to_z w64 (of_z w64 m.committed_offset) ≡ m.committed_offset = search rules in
    let n3 : to_z w32 (of_z w32 m.committed_leader_epoch) ≡ m.committed_leader_epoch = search rules in
    let p = err_from_is_err_and c.from_residual-in_err-put_i32-2.result c.from_residual-in_err-put_i32-2.ensures.1 in
    let a1 = step (start c.args.out.now (commit_request_partition_fields (commit_request_partition_value m))) (rw n1 at c.in_ok-put_i32.ensures) in
    let a2 = step a1 (rw n2 at c.in_ok-put_i64.ensures) in
    rw p.1 (stop _ a2 (rw n3 at c.in_err-put_i32-2.ensures))

pub returns-in_err-put_text_or_null-clause-appends : goal.returns-in_err-put_text_or_null-clause-appends
unfolding commit_request_partition_fields
returns-in_err-put_text_or_null-clause-appends c =
    let m = c.args.self.now in
    let n1 : to_z w32 (of_z w32 m.partition_index) ≡ m.partition_index = search rules in
    let n2 : to_z w64 (of_z w64 m.committed_offset) ≡ m.committed_offset = search rules in
    let n3 : to_z w32 (of_z w32 m.committed_leader_epoch) ≡ m.committed_leader_epoch = search rules in
    let p = err_from_is_err_and c.from_residual-in_err-put_text_or_null.result c.from_residual-in_err-put_text_or_null.ensures.1 in
    let a1 = step (start c.args.out.now (commit_request_partition_fields (commit_request_partition_value m))) (rw n1 at c.in_ok-put_i32.ensures) in
    let a2 = step a1 (rw n2 at c.in_ok-put_i64.ensures) in
    let a3 = step a2 (rw n3 at c.in_ok-put_i32-2.ensures) in
    rw p.1 (stop _ a3 c.in_err-put_text_or_null.ensures.appends)

pub returns-clause-appends : goal.returns-clause-appends
unfolding commit_request_partition_fields
returns-clause-appends c =
    let m = c.args.self.now in
    let n1 : to_z w32 (of_z w32 m.partition_index) ≡ m.partition_index = search rules in
    let n2 : to_z w64 (of_z w64 m.committed_offset) ≡ m.committed_offset = search rules in
    let n3 : to_z w32 (of_z w32 m.committed_leader_epoch) ≡ m.committed_leader_epoch = search rules in
    let a1 = step (start c.args.out.now (commit_request_partition_fields (commit_request_partition_value m))) (rw n1 at c.in_ok-put_i32.ensures) in
    let a2 = step a1 (rw n2 at c.in_ok-put_i64.ensures) in
    let a3 = step a2 (rw n3 at c.in_ok-put_i32-2.ensures) in
    let a4 = step a3 c.in_ok-put_text_or_null.ensures.appends in
    last c.put_tags.result a4 c.put_tags.ensures
