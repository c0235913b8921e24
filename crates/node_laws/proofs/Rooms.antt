-- What a node answers for a group that isn't there.
use Rattle.std.proofs.Common.{◌≡◌, ◌≤◌, Bool, true, false, refl, sym, ap, subst, ◌∙◌, true≢false, lt-ltb, ltb-true, lt_irrefl, lt_of_lt_of_le}
use Rattle.std.specs.FinMap as finite
use Rattle.group_types.specs.declared.code.Code.TheVariants as codes
use Rattle.group_types.specs.Limits.{MOST_GROUPS}
use Rattle.group_types.specs.Group.{Group, new_group}
use Rattle.group_types.specs.HeartbeatStep.{Arrival}
use Rattle.group_types.specs.HeartbeatStep as group
use Rattle.coord_node.specs.Coordinator.{Coordinator}
use Rattle.coord_node.specs.EachGroup.{Succeeds}
use Rattle.coord_node.specs.Steps.{Makes, MakesBy, Opening, has_room, is_success}
use Rattle.node_laws.specs.Rooms.{GroupsAreMadeWhileThereIsRoom, IsTurnedAway, as_a_new_group, no_room}

reply_is : (x y : group.Reply) → group.Replied x ≡ group.Replied y → x ≡ y
reply_is x y is = cc

module _ (c : Coordinator) (a : Arrival) (answer : group.Answer) (new : Coordinator) where
  abbrev made_of : group.Reply → Group → Opening
  made_of reply left = record { name = a.heartbeat.group; left = left; reply = reply }

  -- ---- room

  in_room : (success room : Bool) → room ≡ true → (o : Opening) → Makes success room c o answer new → answer ≡ group.Replied o.reply
  in_room true true so o (is, leaves) = is
  in_room true false never o is = absurd (true≢false (sym never))
  in_room false room so o (is, same) = is

  answers : (given : group.Answer) (left : Group) → has_room c ≡ true → group.HeartbeatStep (new_group c.salt) a given left
      → MakesBy given c a.heartbeat.group left answer new → (left : Group) × group.HeartbeatStep (new_group c.salt) a answer left
  answers (group.Replied reply) left so step makes =
      (left, subst (λ x. group.HeartbeatStep (new_group c.salt) a x left) (sym (in_room (is_success reply.code) (has_room c) so (made_of reply left) makes)) step)
  answers group.Closes left so step (closes, same) = (left, subst (λ x. group.HeartbeatStep (new_group c.salt) a x left) (sym closes) step)

  -- ---- no room

  abbrev Away : Type 0
  Away = IsTurnedAway c a answer

  succeeds : (reply : group.Reply) → answer ≡ group.Replied reply → Succeeds answer → is_success reply.code ≡ true
  succeeds reply told (said, is, code) = ap is_success (ap (λ (r : group.Reply). r.code) (reply_is reply said (sym told ∙ is)) ∙ code)

  turned_away : (reply : group.Reply) (left : Group) → group.HeartbeatStep (new_group c.salt) a (group.Replied reply) left → (success room : Bool)
      → is_success reply.code ≡ success → room ≡ false → Makes success room c (made_of reply left) answer new → Away
  turned_away reply left step true true is never made = absurd (true≢false never)
  turned_away reply left step true false is so (told, same) = no_room (group.refusal codes.CoordinatorNotAvailable) told refl
  turned_away reply left step false room fails so (told, same) =
      as_a_new_group left (subst (λ x. group.HeartbeatStep (new_group c.salt) a x left) (sym told) step)
      (λ success. true≢false (sym (succeeds reply told success) ∙ fails))

  closes_not : (reply : group.Reply) → group.Closes ≡ group.Replied reply → ⊥
  closes_not reply is = cc

  full : (given : group.Answer) (left : Group) → has_room c ≡ false → group.HeartbeatStep (new_group c.salt) a given left
      → MakesBy given c a.heartbeat.group left answer new → Away
  full (group.Replied reply) left so step makes = turned_away reply left step (is_success reply.code) (has_room c) refl so makes
  full group.Closes left so step (closes, same) =
      as_a_new_group left (subst (λ x. group.HeartbeatStep (new_group c.salt) a x left) (sym closes) step)
      (λ (reply, said, code). closes_not reply (sym closes ∙ said))

no_room_so : (c : Coordinator) → 100000 ≤ finite.len c.groups → has_room c ≡ false
no_room_so c most = by (has_room c) refl
  where
    by : (b : Bool) → has_room c ≡ b → b ≡ false
    by true so = let below = ltb-true (finite.len c.groups) MOST_GROUPS so in absurd (lt_irrefl (finite.len c.groups) (lt_of_lt_of_le below most))
    by false so = refl

pub groups_are_made_while_there_is_room : GroupsAreMadeWhileThereIsRoom
groups_are_made_while_there_is_room =
    record {
      room = λ c a answer new absent below (given, left, step, makes). answers c a answer new given left (lt-ltb (finite.len c.groups) MOST_GROUPS below) step makes;
      full = λ c a answer new absent most (given, left, step, makes). full c a answer new given left (no_room_so c most) step makes;
    }
