use Rattle.std.proofs.Common.{◌≡◌, to_z, of_z, rules}
use Rattle.std.specs.Int.{w16, w32}
use Rattle.std.proofs.lemmas.Result.{err_from_is_err_and}
use Rattle.kip_msgs.specs.Spelling.{heartbeat_reply_fields}
use Rattle.kip_msgs.specs.Views.{heartbeat_reply_value}
use Rattle.kip_msgs.proofs.Puts.{start, step, step_up_to, stop, stop_up_to, last}
use Rattle.kip_msgs.proofs.writing.heartbeat.put_heartbeat_reply.Goals as goal

pub returns-in_err-put_text_or_null-clause-appends : goal.returns-in_err-put_text_or_null-clause-appends
unfolding heartbeat_reply_fields
returns-in_err-put_text_or_null-clause-appends c =
    let m = c.args.reply.now in
    let n1 : to_z w32 (of_z w32 m.throttle_time_ms) ≡ m.throttle_time_ms = search rules in
    let n2 : to_z w16 (of_z w16 m.error_code) ≡ m.error_code = search rules in
    let p = err_from_is_err_and c.from_residual-in_err-put_text_or_null.result c.from_residual-in_err-put_text_or_null.ensures.1 in
    let a1 = step (start c.args.out.now (heartbeat_reply_fields (heartbeat_reply_value m))) (rw n1 at c.in_ok-put_i32.ensures) in
    let a2 = step a1 (rw n2 at c.in_ok-put_i16.ensures) in
    rw p.1 (stop _ a2 c.in_err-put_text_or_null.ensures.appends)

pub returns-in_err-put_text_or_null-2-clause-appends : goal.returns-in_err-put_text_or_null-2-clause-appends
unfolding heartbeat_reply_fields
returns-in_err-put_text_or_null-2-clause-appends c =
    let m = c.args.reply.now in
    let n1 : to_z w32 (of_z w32 m.throttle_time_ms) ≡ m.throttle_time_ms = search rules in
    let n2 : to_z w16 (of_z w16 m.error_code) ≡ m.error_code = search rules in
    let p = err_from_is_err_and c.from_residual-in_err-put_text_or_null-2.result c.from_residual-in_err-put_text_or_null-2.ensures.1 in
    let a1 = step (start c.args.out.now (heartbeat_reply_fields (heartbeat_reply_value m))) (rw n1 at c.in_ok-put_i32.ensures) in
    let a2 = step a1 (rw n2 at c.in_ok-put_i16.ensures) in
    let a3 = step a2 c.in_ok-put_text_or_null.ensures.appends in
    rw p.1 (stop _ a3 c.in_err-put_text_or_null-2.ensures.appends)

pub returns-in_err-put_i32-2-clause-appends : goal.returns-in_err-put_i32-2-clause-appends
unfolding heartbeat_reply_fields
returns-in_err-put_i32-2-clause-appends c =
    let m = c.args.reply.now in
    let n1 : to_z w32 (of_z w32 m.throttle_time_ms) ≡ m.throttle_time_ms = search rules in
    let n2 : to_z w16 (of_z w16 m.error_code) ≡ m.error_code = search rules in
    let n5 : to_z w32 (of_z w32 m.member_epoch) ≡ m.member_epoch = search rules in
    let p = err_from_is_err_and c.from_residual-in_err-put_i32-2.result c.from_residual-in_err-put_i32-2.ensures.1 in
    let a1 = step (start c.args.out.now (heartbeat_reply_fields (heartbeat_reply_value m))) (rw n1 at c.in_ok-put_i32.ensures) in
    let a2 = step a1 (rw n2 at c.in_ok-put_i16.ensures) in
    let a3 = step a2 c.in_ok-put_text_or_null.ensures.appends in
    let a4 = step a3 c.in_ok-put_text_or_null-2.ensures.appends in
    rw p.1 (stop _ a4 (rw n5 at c.in_err-put_i32-2.ensures))

pub returns-in_err-put_i32-3-clause-appends : goal.returns-in_err-put_i32-3-clause-appends
unfolding heartbeat_reply_fields
returns-in_err-put_i32-3-clause-appends c =
    let m = c.args.reply.now in
    let n1 : to_z w32 (of_z w32 m.throttle_time_ms) ≡ m.throttle_time_ms = search rules in
    let n2 : to_z w16 (of_z w16 m.error_code) ≡ m.error_code = search rules in
    let n5 : to_z w32 (of_z w32 m.member_epoch) ≡ m.member_epoch = search rules in
    let n6 : to_z w32 (of_z w32 m.heartbeat_interval_ms) ≡ m.heartbeat_interval_ms = search rules in
    let p = err_from_is_err_and c.from_residual-in_err-put_i32-3.result c.from_residual-in_err-put_i32-3.ensures.1 in
    let a1 = step (start c.args.out.now (heartbeat_reply_fields (heartbeat_reply_value m))) (rw n1 at c.in_ok-put_i32.ensures) in
    let a2 = step a1 (rw n2 at c.in_ok-put_i16.ensures) in
    let a3 = step a2 c.in_ok-put_text_or_null.ensures.appends in
    let a4 = step a3 c.in_ok-put_text_or_null-2.ensures.appends in
    let a5 = step a4 (rw n5 at c.in_ok-put_i32-2.ensures) in
    rw p.1 (stop _ a5 (rw n6 at c.in_err-put_i32-3.ensures))

pub returns-in_err-put_nullable_assignment-clause-appends : goal.returns-in_err-put_nullable_assignment-clause-appends
unfolding heartbeat_reply_fields
returns-in_err-put_nullable_assignment-clause-appends c =
    let m = c.args.reply.now in
    let n1 : to_z w32 (of_z w32 m.throttle_time_ms) ≡ m.throttle_time_ms = search rules in
    let n2 : to_z w16 (of_z w16 m.error_code) ≡ m.error_code = search rules in
    let n5 : to_z w32 (of_z w32 m.member_epoch) ≡ m.member_epoch = search rules in
    let n6 : to_z w32 (of_z w32 m.heartbeat_interval_ms) ≡ m.heartbeat_interval_ms = search rules in
    let p = err_from_is_err_and c.from_residual-in_err-put_nullable_assignment.result c.from_residual-in_err-put_nullable_assignment.ensures.1 in
    let a1 = step (start c.args.out.now (heartbeat_reply_fields (heartbeat_reply_value m))) (rw n1 at c.in_ok-put_i32.ensures) in
    let a2 = step a1 (rw n2 at c.in_ok-put_i16.ensures) in
    let a3 = step a2 c.in_ok-put_text_or_null.ensures.appends in
    let a4 = step a3 c.in_ok-put_text_or_null-2.ensures.appends in
    let a5 = step a4 (rw n5 at c.in_ok-put_i32-2.ensures) in
    let a6 = step a5 (rw n6 at c.in_ok-put_i32-3.ensures) in
    rw p.1 (stop_up_to _ a6 c.in_err-put_nullable_assignment.ensures.appends)

pub returns-clause-appends : goal.returns-clause-appends
unfolding heartbeat_reply_fields
returns-clause-appends c =
    let m = c.args.reply.now in
    let n1 : to_z w32 (of_z w32 m.throttle_time_ms) ≡ m.throttle_time_ms = search rules in
    let n2 : to_z w16 (of_z w16 m.error_code) ≡ m.error_code = search rules in
    let n5 : to_z w32 (of_z w32 m.member_epoch) ≡ m.member_epoch = search rules in
    let n6 : to_z w32 (of_z w32 m.heartbeat_interval_ms) ≡ m.heartbeat_interval_ms = search rules in
    let a1 = step (start c.args.out.now (heartbeat_reply_fields (heartbeat_reply_value m))) (rw n1 at c.in_ok-put_i32.ensures) in
    let a2 = step a1 (rw n2 at c.in_ok-put_i16.ensures) in
    let a3 = step a2 c.in_ok-put_text_or_null.ensures.appends in
    let a4 = step a3 c.in_ok-put_text_or_null-2.ensures.appends in
    let a5 = step a4 (rw n5 at c.in_ok-put_i32-2.ensures) in
    let a6 = step a5 (rw n6 at c.in_ok-put_i32-3.ensures) in
    let a7 = step_up_to a6 c.in_ok-put_nullable_assignment.ensures.appends in
    last c.put_tags.result a7 c.put_tags.ensures
