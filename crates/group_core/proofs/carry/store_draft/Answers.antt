use Rattle.std.proofs.Common.{sym, subst}
use Rattle.group_types.specs.Group.{Record}
use Rattle.group_epochs.specs.Drafts.{CanStore}
use Rattle.group_epochs.specs.Records.{IsInstanceFreeFor}
use Rattle.group_core.proofs.Kept.{can_store_after, free_after}
use Rattle.group_core.proofs.carry.store_draft.Goals as goal

pub store-requires-clause-room : goal.store-requires-clause-room
store-requires-clause-room c =
    let s = c.args.state.now.records in
    let d = c.args.draft.member in
    subst (λ (r : Record). CanStore s d.id r d.place) (sym c.settle_record.ensures)
    (can_store_after c.args.moves d.record c.epoch.result c.args.now c.args.sent s d.id d.place c.requires.fit.room)

pub store-requires-clause-instance : goal.store-requires-clause-instance
store-requires-clause-instance c =
    let s = c.args.state.now.records.records in
    let d = c.args.draft.member in
    subst (λ (r : Record). IsInstanceFreeFor s d.id r) (sym c.settle_record.ensures)
    (free_after c.args.moves d.record c.epoch.result c.args.now c.args.sent s d.id c.requires.fit.instance)
