use Rattle.std.proofs.Common.{◌≡◌, ◌++◌, ◌∷◌, []}
use Rattle.std.proofs.lemmas.List.{map_push}
use Rattle.flex_wire.specs.Composed.{elements_at}
use Rattle.flex_wire.proofs.Scan.{elements_are_scanned, goes_on, fails_in_memory, is_done}
use Rattle.topic_meta.specs.Images.{entry_of, entries_of}
use Rattle.replica_entries.specs.Reading.{topic_at}
use Rattle.replica_entries.proofs.reading.count_of_topics.Goals as goal

pub returns-in-Err : goal.returns-in-Err
returns-in-Err c =
    fails_in_memory (elements_are_scanned topic_at) tt (entries_of c.loop.topics.items) c.args.count c.loop.counter c.loop.rest.now c.in-Err.fault (elements_at topic_at c.args.count c.args.bytes.now) c.loop-test.true c.in-Err.ensures c.loop.invariant

pub loop-preserved : goal.loop-preserved
loop-preserved c =
    let topic = c.in-Ok.found.0 in
    let more : entries_of c.push.new.self.items ≡ entries_of c.loop.topics.items ++ entry_of topic ∷ [] = rw c.in_ok-push.ensures.items (map_push _ c.loop.topics.items topic) in
    rw more (goes_on (elements_are_scanned topic_at) tt (entries_of c.loop.topics.items) c.args.count c.loop.counter c.loop.rest.now (entry_of topic) c.in-Ok.found.1.now (elements_at topic_at c.args.count c.args.bytes.now) c.loop-test.true c.in-Ok.ensures c.loop.invariant)

pub returns : goal.returns
returns c =
    is_done (elements_are_scanned topic_at) tt (entries_of c.loop.topics.items) c.args.count c.loop.counter c.loop.rest.now (elements_at topic_at c.args.count c.args.bytes.now) c.loop-test.false c.loop.invariant
