use Rattle.std.proofs.Common.{ap, sym, ◌∙◌}
use Rattle.replica_snapshots.specs.Nodes.{node_fields}
use Rattle.replica_snapshots.specs.Views.{place_value}
use Rattle.replica_snapshots.proofs.NodeWhole.{same_want}
use Rattle.coord_replica.specs.Snapshots.{restored}
use Rattle.coord_replica.proofs.Restored.{restored_of}
use Rattle.coord_replica.proofs.SnapshotLaws.{one_snapshot}
use Rattle.coord_replica.proofs.replica.Replica.restore.Goals as goal

pub returns-in-Ok-at_place-clause-found : goal.returns-in-Ok-at_place-clause-found
returns-in-Ok-at_place-clause-found c =
    let found = c.in-Ok.ensures.found in
    restored_of (place_value c.in-Ok.place) c.args.bytes.now c.in-Ok.written.now c.in-Ok-at_place.replica found.0 found.1 c.in-Ok-at_place.ensures.found

pub returns-in-Ok-at_place-clause-only : goal.returns-in-Ok-at_place-clause-only
returns-in-Ok-at_place-clause-only c = λ v fits is.
    let found = c.in-Ok.ensures.found in
    let own =
    restored_of (place_value c.in-Ok.place) c.args.bytes.now c.in-Ok.written.now c.in-Ok-at_place.replica found.0 found.1 c.in-Ok-at_place.ensures.found in
    own.3 ∙ ap restored (one_snapshot own.0 v own.1 fits (sym own.2 ∙ is))

pub returns-in-Err-at_place-clause-whole : goal.returns-in-Err-at_place-clause-whole
returns-in-Err-at_place-clause-whole c = λ v fits can is.
    let place = c.in-Ok.ensures.only v.place (node_fields v.node) fits.place is in
    same_want c.in-Err-at_place.fault c.behind.result c.behind.ensures
    (c.in-Err-at_place.ensures.whole v.node (record { fits = fits.node; once = fits.once; can = can }) place.1)

pub returns-in-Err-clause-whole : goal.returns-in-Err-clause-whole
returns-in-Err-clause-whole c = λ v fits can is. c.in-Err.ensures.whole v.place (node_fields v.node) fits.place is
