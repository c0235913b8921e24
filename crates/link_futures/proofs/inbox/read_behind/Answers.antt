use Rattle.std.proofs.Common.{◌-◌, length, arith, length-take}
use Rattle.link_futures.specs.Parts.{count_of}
use Rattle.link_futures.proofs.FrontLemmas.{take-read_behind}
use Rattle.link_futures.proofs.inbox.read_behind.Goals as goal

pub returns-clause-bytes : goal.returns-clause-bytes
returns-clause-bytes g c =
    let bound = c.poll_read_part.ensures.bound in
    let bytes = c.args.bytes.now in (
      _,
      c.poll_read_part.ensures.bytes,
      take-read_behind bytes c.poll_read_part.new.buf c.args.before (length bytes - c.args.before) (count_of c.poll_read_part.result) c.requires bound,
      omega (arith, length-take (count_of c.poll_read_part.result) c.poll_read_part.new.buf),
    )
