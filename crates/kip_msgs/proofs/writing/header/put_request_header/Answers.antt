use Rattle.std.proofs.Common.{◌≡◌, to_z, of_z, rules}
use Rattle.std.specs.Int.{w16, w32}
use Rattle.kip_msgs.specs.Spelling.{request_header_fields}
use Rattle.kip_msgs.specs.Views.{request_header_value}
use Rattle.kip_msgs.proofs.Puts.{start, step, last}
use Rattle.kip_msgs.proofs.writing.header.put_request_header.Goals as goal

pub returns-clause-appends : goal.returns-clause-appends
unfolding request_header_fields
returns-clause-appends c =
    let api = c.args.api in
    let m = c.args.header.now in
    let n1 : to_z w16 (of_z w16 c.key.result) ≡ c.key.result = search rules in
    let n2 : to_z w16 (of_z w16 c.version.result) ≡ c.version.result = search rules in
    let n3 : to_z w32 (of_z w32 m.correlation_id) ≡ m.correlation_id = search rules in
    let a1 = step (start c.args.out.now (request_header_fields api (request_header_value m))) (rw (n1, c.key.ensures) at c.in_ok-put_i16.ensures) in
    let a2 = step a1 (rw (n2, c.version.ensures) at c.in_ok-put_i16-2.ensures) in
    let a3 = step a2 (rw n3 at c.in_ok-put_i32.ensures) in
    let a4 = step a3 c.in_ok-put_old_text_or_null.ensures.appends in
    last c.put_tags.result a4 c.put_tags.ensures
