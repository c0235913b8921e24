use Rattle.std.proofs.Common.{◌≡◌, map, ap, ◌∙◌}
use Rattle.std.specs.FinMap as finite
use Rattle.offset_guard.specs.Listing.{entry_of}
use Rattle.replica_snapshots.proofs.parts.put_offsets.Goals as goal

pub returns : goal.returns
returns c =
    let all : map entry_of c.deref.result.now ≡ finite.entries c.args.offsets.now = ap (map entry_of) c.deref.ensures.value ∙ c.in_ok-list.ensures in
    rw all at c.put_listed.ensures
