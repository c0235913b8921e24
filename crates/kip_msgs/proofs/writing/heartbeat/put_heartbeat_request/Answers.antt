use Rattle.std.proofs.Common.{◌≡◌, to_z, of_z, rules}
use Rattle.std.specs.Int.{w32}
use Rattle.std.proofs.lemmas.Result.{err_from_is_err_and}
use Rattle.kip_msgs.specs.Spelling.{heartbeat_request_fields}
use Rattle.kip_msgs.specs.Views.{heartbeat_request_value}
use Rattle.kip_msgs.proofs.Puts.{start, step, step_up_to, stop, stop_up_to, last}
use Rattle.kip_msgs.proofs.writing.heartbeat.put_heartbeat_request.Goals as goal

pub returns-in_err-put_i32-clause-appends : goal.returns-in_err-put_i32-clause-appends
unfolding heartbeat_request_fields
returns-in_err-put_i32-clause-appends c =
    let m = c.args.message.now in
    let n3 : to_z w32 (of_z w32 m.member_epoch) ≡ m.member_epoch = search rules in
    let p = err_from_is_err_and c.from_residual-in_err-put_i32.result c.from_residual-in_err-put_i32.ensures.1 in
    let a1 = step (start c.args.out.now (heartbeat_request_fields (heartbeat_request_value m))) c.in_ok-put_text.ensures.appends in
    let a2 = step a1 c.in_ok-put_text-2.ensures.appends in
    rw p.1 (stop _ a2 (rw n3 at c.in_err-put_i32.ensures))

pub returns-in_err-put_text_or_null-clause-appends : goal.returns-in_err-put_text_or_null-clause-appends
unfolding heartbeat_request_fields
returns-in_err-put_text_or_null-clause-appends c =
    let m = c.args.message.now in
    let n3 : to_z w32 (of_z w32 m.member_epoch) ≡ m.member_epoch = search rules in
    let p = err_from_is_err_and c.from_residual-in_err-put_text_or_null.result c.from_residual-in_err-put_text_or_null.ensures.1 in
    let a1 = step (start c.args.out.now (heartbeat_request_fields (heartbeat_request_value m))) c.in_ok-put_text.ensures.appends in
    let a2 = step a1 c.in_ok-put_text-2.ensures.appends in
    let a3 = step a2 (rw n3 at c.in_ok-put_i32.ensures) in
    rw p.1 (stop _ a3 c.in_err-put_text_or_null.ensures.appends)

pub returns-in_err-put_text_or_null-2-clause-appends : goal.returns-in_err-put_text_or_null-2-clause-appends
unfolding heartbeat_request_fields
returns-in_err-put_text_or_null-2-clause-appends c =
    let m = c.args.message.now in
    let n3 : to_z w32 (of_z w32 m.member_epoch) ≡ m.member_epoch = search rules in
    let p = err_from_is_err_and c.from_residual-in_err-put_text_or_null-2.result c.from_residual-in_err-put_text_or_null-2.ensures.1 in
    let a1 = step (start c.args.out.now (heartbeat_request_fields (heartbeat_request_value m))) c.in_ok-put_text.ensures.appends in
    let a2 = step a1 c.in_ok-put_text-2.ensures.appends in
    let a3 = step a2 (rw n3 at c.in_ok-put_i32.ensures) in
    let a4 = step a3 c.in_ok-put_text_or_null.ensures.appends in
    rw p.1 (stop _ a4 c.in_err-put_text_or_null-2.ensures.appends)

pub returns-in_err-put_i32-2-clause-appends : goal.returns-in_err-put_i32-2-clause-appends
unfolding heartbeat_request_fields
returns-in_err-put_i32-2-clause-appends c =
    let m = c.args.message.now in
    let n3 : to_z w32 (of_z w32 m.member_epoch) ≡ m.member_epoch = search rules in
    let n6 : to_z w32 (of_z w32 m.rebalance_timeout_ms) ≡ m.rebalance_timeout_ms = search rules in
    let p = err_from_is_err_and c.from_residual-in_err-put_i32-2.result c.from_residual-in_err-put_i32-2.ensures.1 in
    let a1 = step (start c.args.out.now (heartbeat_request_fields (heartbeat_request_value m))) c.in_ok-put_text.ensures.appends in
    let a2 = step a1 c.in_ok-put_text-2.ensures.appends in
    let a3 = step a2 (rw n3 at c.in_ok-put_i32.ensures) in
    let a4 = step a3 c.in_ok-put_text_or_null.ensures.appends in
    let a5 = step a4 c.in_ok-put_text_or_null-2.ensures.appends in
    rw p.1 (stop _ a5 (rw n6 at c.in_err-put_i32-2.ensures))

pub returns-in_err-put_nullable_array-clause-appends : goal.returns-in_err-put_nullable_array-clause-appends
unfolding heartbeat_request_fields
returns-in_err-put_nullable_array-clause-appends c =
    let m = c.args.message.now in
    let n3 : to_z w32 (of_z w32 m.member_epoch) ≡ m.member_epoch = search rules in
    let n6 : to_z w32 (of_z w32 m.rebalance_timeout_ms) ≡ m.rebalance_timeout_ms = search rules in
    let p = err_from_is_err_and c.from_residual-in_err-put_nullable_array.result c.from_residual-in_err-put_nullable_array.ensures.1 in
    let a1 = step (start c.args.out.now (heartbeat_request_fields (heartbeat_request_value m))) c.in_ok-put_text.ensures.appends in
    let a2 = step a1 c.in_ok-put_text-2.ensures.appends in
    let a3 = step a2 (rw n3 at c.in_ok-put_i32.ensures) in
    let a4 = step a3 c.in_ok-put_text_or_null.ensures.appends in
    let a5 = step a4 c.in_ok-put_text_or_null-2.ensures.appends in
    let a6 = step a5 (rw n6 at c.in_ok-put_i32-2.ensures) in
    rw p.1 (stop_up_to _ a6 c.in_err-put_nullable_array.ensures.appends)

pub returns-in_err-put_text_or_null-3-clause-appends : goal.returns-in_err-put_text_or_null-3-clause-appends
unfolding heartbeat_request_fields
returns-in_err-put_text_or_null-3-clause-appends c =
    let m = c.args.message.now in
    let n3 : to_z w32 (of_z w32 m.member_epoch) ≡ m.member_epoch = search rules in
    let n6 : to_z w32 (of_z w32 m.rebalance_timeout_ms) ≡ m.rebalance_timeout_ms = search rules in
    let p = err_from_is_err_and c.from_residual-in_err-put_text_or_null-3.result c.from_residual-in_err-put_text_or_null-3.ensures.1 in
    let a1 = step (start c.args.out.now (heartbeat_request_fields (heartbeat_request_value m))) c.in_ok-put_text.ensures.appends in
    let a2 = step a1 c.in_ok-put_text-2.ensures.appends in
    let a3 = step a2 (rw n3 at c.in_ok-put_i32.ensures) in
    let a4 = step a3 c.in_ok-put_text_or_null.ensures.appends in
    let a5 = step a4 c.in_ok-put_text_or_null-2.ensures.appends in
    let a6 = step a5 (rw n6 at c.in_ok-put_i32-2.ensures) in
    let a7 = step_up_to a6 c.in_ok-put_nullable_array.ensures.appends in
    rw p.1 (stop _ a7 c.in_err-put_text_or_null-3.ensures.appends)

pub returns-in_err-put_nullable_array-2-clause-appends : goal.returns-in_err-put_nullable_array-2-clause-appends
unfolding heartbeat_request_fields
returns-in_err-put_nullable_array-2-clause-appends c =
    let m = c.args.message.now in
    let n3 : to_z w32 (of_z w32 m.member_epoch) ≡ m.member_epoch = search rules in
    let n6 : to_z w32 (of_z w32 m.rebalance_timeout_ms) ≡ m.rebalance_timeout_ms = search rules in
    let p = err_from_is_err_and c.from_residual-in_err-put_nullable_array-2.result c.from_residual-in_err-put_nullable_array-2.ensures.1 in
    let a1 = step (start c.args.out.now (heartbeat_request_fields (heartbeat_request_value m))) c.in_ok-put_text.ensures.appends in
    let a2 = step a1 c.in_ok-put_text-2.ensures.appends in
    let a3 = step a2 (rw n3 at c.in_ok-put_i32.ensures) in
    let a4 = step a3 c.in_ok-put_text_or_null.ensures.appends in
    let a5 = step a4 c.in_ok-put_text_or_null-2.ensures.appends in
    let a6 = step a5 (rw n6 at c.in_ok-put_i32-2.ensures) in
    let a7 = step_up_to a6 c.in_ok-put_nullable_array.ensures.appends in
    let a8 = step a7 c.in_ok-put_text_or_null-3.ensures.appends in
    rw p.1 (stop_up_to _ a8 c.in_err-put_nullable_array-2.ensures.appends)

pub returns-clause-appends : goal.returns-clause-appends
unfolding heartbeat_request_fields
returns-clause-appends c =
    let m = c.args.message.now in
    let n3 : to_z w32 (of_z w32 m.member_epoch) ≡ m.member_epoch = search rules in
    let n6 : to_z w32 (of_z w32 m.rebalance_timeout_ms) ≡ m.rebalance_timeout_ms = search rules in
    let a1 = step (start c.args.out.now (heartbeat_request_fields (heartbeat_request_value m))) c.in_ok-put_text.ensures.appends in
    let a2 = step a1 c.in_ok-put_text-2.ensures.appends in
    let a3 = step a2 (rw n3 at c.in_ok-put_i32.ensures) in
    let a4 = step a3 c.in_ok-put_text_or_null.ensures.appends in
    let a5 = step a4 c.in_ok-put_text_or_null-2.ensures.appends in
    let a6 = step a5 (rw n6 at c.in_ok-put_i32-2.ensures) in
    let a7 = step_up_to a6 c.in_ok-put_nullable_array.ensures.appends in
    let a8 = step a7 c.in_ok-put_text_or_null-3.ensures.appends in
    let a9 = step_up_to a8 c.in_ok-put_nullable_array-2.ensures.appends in
    last c.put_tags.result a9 c.put_tags.ensures
