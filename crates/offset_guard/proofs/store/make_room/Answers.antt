use Rattle.std.proofs.Common.{ℕ, ◌<◌, ◌≤◌, None, IsSome, arith, sym, subst, ◌∙◌}
use Rattle.std.specs.String.{string_bytes}
use Rattle.indexmap.specs.IndexMap.{index_map_len}
use Rattle.group_types.specs.Text.{Text}
use Rattle.offset_guard.specs.Topics.{HasTopicRoom}
use Rattle.offset_guard.proofs.Rooms.{room_of_each, room_step}
use Rattle.offset_guard.proofs.store.make_room.Goals as goal
use Rattle.offset_guard.proofs.store.make_room.Goals.{in-Some+in_ok-make_topic_room, in_default}

pub loop-at-preserved : goal.loop-at-preserved
loop-at-preserved c =
    elim c.match-get_index.branch [
      | in-Some+in_ok-make_topic_room w ↦
          let new = w.make_topic_room.new.topics in
          let name = w.in-Some.name.now in
          let more = w.in-Some.offsets.now in
          let room : HasTopicRoom new (string_bytes name) more.len = subst {A = ℕ} (λ n. HasTopicRoom new (string_bytes name) n) w.len-in-Some.ensures (subst {A = Text} (λ n. HasTopicRoom new n w.len-in-Some.result) w.as_str.ensures.value w.in_ok-make_topic_room.ensures.room) in
          rw w.topics-is
          (record {
            offsets = λ place. w.make_topic_room.ensures.offsets place ∙ c.loop-at.invariant.offsets place;
            entries = subst {A = ℕ} (λ n. index_map_len c.args.news.now ≤ n) (sym w.make_topic_room.ensures.entries) c.loop-at.invariant.entries;
            each = room_step c.loop-at.topics new c.args.news.now c.loop-at.at name more w.make_topic_room.ensures.kept (sym w.in-Some.ensures.entry) room c.loop-at.invariant.each;
          })
      | in_default w ↦
          let there : c.loop-at.at < index_map_len c.args.news.now = omega arith in
          let never : IsSome {T = ℕ} None = w.in_default.ensures.found.1 there in
          cc
    ]

pub returns-clause-room : goal.returns-clause-room
returns-clause-room c =
    room_of_each c.loop-at.topics c.args.news.now c.loop-at.invariant.entries (λ k before. c.loop-at.invariant.each k (omega arith))
