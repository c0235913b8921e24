use Rattle.std.proofs.Common.{◌≡◌, to_z, of_z, rules}
use Rattle.std.specs.Int.{w32}
use Rattle.std.proofs.lemmas.Result.{err_from_is_err_and}
use Rattle.kip_msgs.specs.Spelling.{commit_request_fields}
use Rattle.kip_msgs.specs.Views.{commit_request_value}
use Rattle.kip_msgs.proofs.Puts.{start, step, step_up_to, stop, stop_up_to, last}
use Rattle.kip_msgs.proofs.writing.commit.put_commit_request.Goals as goal

pub returns-in_err-put_text-2-clause-appends : goal.returns-in_err-put_text-2-clause-appends
unfolding commit_request_fields
returns-in_err-put_text-2-clause-appends c =
    let m = c.args.message.now in
    let n2 : to_z w32 (of_z w32 m.generation_id_or_member_epoch) ≡ m.generation_id_or_member_epoch = search rules in
    let p = err_from_is_err_and c.from_residual-in_err-put_text-2.result c.from_residual-in_err-put_text-2.ensures.1 in
    let a1 = step (start c.args.out.now (commit_request_fields (commit_request_value m))) c.in_ok-put_text.ensures.appends in
    let a2 = step a1 (rw n2 at c.in_ok-put_i32.ensures) in
    rw p.1 (stop _ a2 c.in_err-put_text-2.ensures.appends)

pub returns-in_err-put_text_or_null-clause-appends : goal.returns-in_err-put_text_or_null-clause-appends
unfolding commit_request_fields
returns-in_err-put_text_or_null-clause-appends c =
    let m = c.args.message.now in
    let n2 : to_z w32 (of_z w32 m.generation_id_or_member_epoch) ≡ m.generation_id_or_member_epoch = search rules in
    let p = err_from_is_err_and c.from_residual-in_err-put_text_or_null.result c.from_residual-in_err-put_text_or_null.ensures.1 in
    let a1 = step (start c.args.out.now (commit_request_fields (commit_request_value m))) c.in_ok-put_text.ensures.appends in
    let a2 = step a1 (rw n2 at c.in_ok-put_i32.ensures) in
    let a3 = step a2 c.in_ok-put_text-2.ensures.appends in
    rw p.1 (stop _ a3 c.in_err-put_text_or_null.ensures.appends)

pub returns-in_err-put_array-clause-appends : goal.returns-in_err-put_array-clause-appends
unfolding commit_request_fields
returns-in_err-put_array-clause-appends c =
    let m = c.args.message.now in
    let n2 : to_z w32 (of_z w32 m.generation_id_or_member_epoch) ≡ m.generation_id_or_member_epoch = search rules in
    let p = err_from_is_err_and c.from_residual-in_err-put_array.result c.from_residual-in_err-put_array.ensures.1 in
    let a1 = step (start c.args.out.now (commit_request_fields (commit_request_value m))) c.in_ok-put_text.ensures.appends in
    let a2 = step a1 (rw n2 at c.in_ok-put_i32.ensures) in
    let a3 = step a2 c.in_ok-put_text-2.ensures.appends in
    let a4 = step a3 c.in_ok-put_text_or_null.ensures.appends in
    rw p.1 (stop_up_to _ a4 c.in_err-put_array.ensures.appends)

pub returns-clause-appends : goal.returns-clause-appends
unfolding commit_request_fields
returns-clause-appends c =
    let m = c.args.message.now in
    let n2 : to_z w32 (of_z w32 m.generation_id_or_member_epoch) ≡ m.generation_id_or_member_epoch = search rules in
    let a1 = step (start c.args.out.now (commit_request_fields (commit_request_value m))) c.in_ok-put_text.ensures.appends in
    let a2 = step a1 (rw n2 at c.in_ok-put_i32.ensures) in
    let a3 = step a2 c.in_ok-put_text-2.ensures.appends in
    let a4 = step a3 c.in_ok-put_text_or_null.ensures.appends in
    let a5 = step_up_to a4 c.in_ok-put_array.ensures.appends in
    last c.put_tags.result a5 c.put_tags.ensures
