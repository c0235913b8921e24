use Rattle.std.proofs.Common.{arith}
use Rattle.flex_wire.proofs.Puts.{appends_by}
use Rattle.flex_wire.proofs.VarintLaws.{varint-of_one, varint-of_two, varint-of_three, varint-of_four, varint-of_five}
use Rattle.flex_wire.proofs.varint.put_varint.Goals as goal

pub returns-in-0-to-127 : goal.returns-in-0-to-127
returns-in-0-to-127 c =
    let put = c.extend_from_slice.ensures in
    let spelled = varint-of_one c.args.number (omega arith) in
    appends_by _ _ _ _ _ (cc) put.items put.full put.capacity

pub returns-in-128-to-16383 : goal.returns-in-128-to-16383
returns-in-128-to-16383 c =
    let put = c.extend_from_slice-in-128-to-16383.ensures in
    let spelled = varint-of_two c.args.number (omega arith) (omega arith) in
    appends_by _ _ _ _ _ (cc) put.items put.full put.capacity

pub returns-in-16384-to-2097151 : goal.returns-in-16384-to-2097151
returns-in-16384-to-2097151 c =
    let put = c.extend_from_slice-in-16384-to-2097151.ensures in
    let spelled = varint-of_three c.args.number (omega arith) (omega arith) in
    appends_by _ _ _ _ _ (cc) put.items put.full put.capacity

pub returns-in-2097152-to-268435455 : goal.returns-in-2097152-to-268435455
returns-in-2097152-to-268435455 c =
    let put = c.extend_from_slice-in-2097152-to-268435455.ensures in
    let spelled = varint-of_four c.args.number (omega arith) (omega arith) in
    appends_by _ _ _ _ _ (cc) put.items put.full put.capacity

pub returns-in_default : goal.returns-in_default
returns-in_default c =
    let put = c.extend_from_slice-in_default.ensures in
    let spelled = varint-of_five c.args.number (omega arith) in
    appends_by _ _ _ _ _ (cc) put.items put.full put.capacity
