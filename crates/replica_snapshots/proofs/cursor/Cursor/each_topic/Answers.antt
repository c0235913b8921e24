use Rattle.std.proofs.Common.{◌≡◌, [], ◌∷◌, ◌++◌, ap}
use Rattle.std.proofs.lemmas.Result.{err_from_is_err_and}
use Rattle.std.proofs.lemmas.List.{map_push}
use Rattle.topic_meta.specs.Images.{entry_of, entries_of}
use Rattle.replica_snapshots.specs.Reading.{entry_at}
use Rattle.replica_snapshots.proofs.ReadingLaws.{at_start, goes_on, fails, is_done}
use Rattle.replica_snapshots.proofs.cursor.Cursor.each_topic.Goals as goal

pub loop-init : goal.loop-init
loop-init c = at_start entry_at _ _ _ (ap entries_of c.new-topics.ensures.items)

pub returns-in_err-topic : goal.returns-in_err-topic
returns-in_err-topic c =
    let p = err_from_is_err_and c.from_residual.result c.from_residual.ensures.1 in
    rw (p.1, p.2) (λ other. fails entry_at _ _ _ _ _ c.loop-test.true (c.in_err-topic.ensures other) c.loop.invariant)

pub loop-preserved : goal.loop-preserved
loop-preserved c =
    let topic = c.in_ok-topic.topic in
    let more : entries_of c.push.new.self.items ≡ entries_of c.loop.topics.items ++ entry_of topic ∷ [] = rw c.in_ok-push.ensures.items (map_push entry_of c.loop.topics.items topic) in
    rw more (goes_on entry_at _ _ _ _ _ _ _ c.loop-test.true c.in_ok-topic.ensures c.loop.invariant)

pub returns : goal.returns
returns c = is_done entry_at _ _ _ _ _ c.loop-test.false c.loop.invariant
