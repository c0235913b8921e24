use Rattle.std.proofs.Common.{arith}
use Rattle.coord_replica.specs.Replicas.{log_of, replica_state}
use Rattle.coord_replica.proofs.Places.{held_result, passed_result, taken_bytes}
use Rattle.coord_replica.proofs.replica.Replica.apply.Goals as goal

pub returns-in-Ok-clause-applied : goal.returns-in-Ok-clause-applied
returns-in-Ok-clause-applied c =
    taken_bytes (replica_state c.args.self.now) (replica_state c.take.new.self) c.args.bytes.now c.in-Ok.applied c.args.out.now.items c.take.new.out.items c.in-Ok.ensures.taken

pub returns-in-Err-clause-applied : goal.returns-in-Err-clause-applied
returns-in-Err-clause-applied c =
    passed_result c.pass_over.result c.args.self.now c.take.new.self c.pass_over.new.self c.args.bytes.now c.in-Err.fault c.args.out.now.items c.take.new.out.items
    (λ i. omega (arith, c.type_inv.bytes i)) c.in-Err.ensures.refused c.in-Err.ensures.err.0 c.in-Err.ensures.err.1 c.pass_over.ensures.passed

pub returns-in-Err-clause-held_up : goal.returns-in-Err-clause-held_up
returns-in-Err-clause-held_up c =
    held_result c.pass_over.result (log_of c.args.self.now) c.args.place c.args.bytes.now c.in-Err.fault (λ i. omega (arith, c.type_inv.bytes i))
    c.in-Err.ensures.refused c.pass_over.ensures.held_up
