use Rattle.std.proofs.Common.{rules, ap, sym, ◌∙◌}
use Rattle.indexmap.specs.IndexMap.{get_by_text}
use Rattle.offset_guard.specs.Topics.{offset_in}
use Rattle.offset_guard.proofs.Stores.{sets_topic, offsets_kept}
use Rattle.offset_guard.proofs.Rooms.{room_kept, no_entry}
use Rattle.offset_guard.proofs.store.make_topic_room.Goals as goal

pub returns-in-Some-clause-offsets : goal.returns-in-Some-clause-offsets
returns-in-Some-clause-offsets c =
    let old = c.args.topics.now in
    let name = c.args.name.now in
    let entry = c.reserve.new.self in
    let new = c.get_mut.follows.lender entry in
    let follows = (c.get_mut.follows.holds entry).3 (search rules) in
    offsets_kept old new name entry (sets_topic old new name entry follows)
    c.in-Some.offsets.now.offsets (λ i. ap (λ o. offset_in o i) (sym c.in-Some.ensures.value)) c.reserve.ensures.offsets

pub returns-in-Some-clause-kept : goal.returns-in-Some-clause-kept
returns-in-Some-clause-kept c =
    let old = c.args.topics.now in
    let name = c.args.name.now in
    let entry = c.reserve.new.self in
    let new = c.get_mut.follows.lender entry in
    let follows = (c.get_mut.follows.holds entry).3 (search rules) in
    room_kept old new name entry (sets_topic old new name entry follows)
    c.in-Some.offsets.now (sym c.in-Some.ensures.value) c.reserve.ensures.kept

pub returns-in-None-clause-room : goal.returns-in-None-clause-room
returns-in-None-clause-room c =
    no_entry c.get_mut.follows.lender-at-none c.args.name.now c.args.more
    (ap (λ m. get_by_text m c.args.name.now) c.get_mut.follows.holds-at-none ∙ sym c.in-None.ensures.value)
