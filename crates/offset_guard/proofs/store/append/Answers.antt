use Rattle.std.proofs.Common.{◌∙◌}
use Rattle.std.specs.String.{string_bytes}
use Rattle.offset_guard.proofs.News.{news_here, room_left, merged_left}
use Rattle.offset_guard.proofs.store.append.Goals as goal

pub append_topic-requires-clause-room : goal.append_topic-requires-clause-room
append_topic-requires-clause-room c =
    let e = c.in-Some.ensures in
    c.loop-name.invariant.room.each (string_bytes c.in-Some.name) c.in-Some.offsets
    (news_here c.loop-name.news c.pop.new.self c.in-Some.name c.in-Some.offsets e.entries e.updates)

pub loop-name-preserved : goal.loop-name-preserved
loop-name-preserved c =
    let e = c.in-Some.ensures in
    let put = c.append_topic.ensures in
    record {
      room = room_left c.loop-name.news c.pop.new.self c.in-Some.name c.in-Some.offsets e.entries e.updates c.loop-name.topics c.append_topic.new.topics put.others c.loop-name.invariant.room e.len put.entries;
      merged = λ place.
          merged_left c.loop-name.news c.pop.new.self c.in-Some.name c.in-Some.offsets e.entries e.updates c.loop-name.topics c.append_topic.new.topics put.others put.here place
          ∙ c.loop-name.invariant.merged place;
    }
