-- Which groups there are after a step.
use Rattle.std.proofs.Common.{◌≡◌, ◌≢◌, Bool, true, false, refl, sym, ap, ◌∙◌, true≢false}
use Rattle.std.specs.FinMap as finite
use Rattle.group_types.specs.declared.code.Code.{Code}
use Rattle.group_types.specs.declared.code.Code.TheVariants as codes
use Rattle.group_types.specs.Text.{Text}
use Rattle.group_types.specs.Group.{Group}
use Rattle.group_types.specs.HeartbeatStep as group
use Rattle.group_types.proofs.Lookups.{get-inserted}
use Rattle.coord_node.specs.Coordinator.{Coordinator}
use Rattle.coord_node.specs.Steps.{Makes, MakesBy, Opening, has_room, is_success, with_group, Step}
use Rattle.coord_node.specs.EachGroup.{GroupsAreMadeBySuccess, IsMadeBySuccess, Succeeds, TicksAreOfAllGroups}
use Rattle.coord_node.proofs.TickLemmas.{get-all_ticked}

pub ticks_are_of_all_groups : TicksAreOfAllGroups Step
ticks_are_of_all_groups c moment answer new step =
    record {
      each = λ name. ap (λ (x : Coordinator). finite.get x.groups name) step.1 ∙ get-all_ticked moment c.groups name;
      answers = step.0;
      rest = step.1 ∙ ap (λ (x : Coordinator). record c { groups = x.groups }) (sym step.1);
    }

is_no_error : (code : Code) → is_success code ≡ true → code ≡ codes.NoError
is_no_error codes.NoError so = refl
is_no_error codes.UnknownTopicOrPartition never = absurd (true≢false (sym never))
is_no_error codes.OffsetMetadataTooLarge never = absurd (true≢false (sym never))
is_no_error codes.CoordinatorNotAvailable never = absurd (true≢false (sym never))
is_no_error codes.UnknownMemberId never = absurd (true≢false (sym never))
is_no_error codes.InvalidRequest never = absurd (true≢false (sym never))
is_no_error codes.GroupIdNotFound never = absurd (true≢false (sym never))
is_no_error codes.GroupMaxSizeReached never = absurd (true≢false (sym never))
is_no_error codes.FencedMemberEpoch never = absurd (true≢false (sym never))
is_no_error codes.UnreleasedInstanceId never = absurd (true≢false (sym never))
is_no_error codes.UnsupportedAssignor never = absurd (true≢false (sym never))
is_no_error codes.StaleMemberEpoch never = absurd (true≢false (sym never))

reply_is : (x y : group.Reply) → group.Replied x ≡ group.Replied y → x ≡ y
reply_is x y is = cc

closes_not : (reply : group.Reply) → group.Closes ≡ group.Replied reply → ⊥
closes_not reply is = cc

unavailable_not : codes.CoordinatorNotAvailable ≢ codes.NoError
unavailable_not is = cc

module _ (c : Coordinator) (name : Text) (answer : group.Answer) (new : Coordinator) where
  fails : new ≡ c → ¬ Succeeds answer → IsMadeBySuccess c name answer new
  fails same never = record { made = λ so. absurd (never so); kept_out = λ _. same }

  succeeds : (o : Opening) → o.name ≡ name → answer ≡ group.Replied o.reply → is_success o.reply.code ≡ true → new ≡ with_group c o.name o.left
      → IsMadeBySuccess c name answer new
  succeeds o same is so leaves =
      record {
        made = λ _. (
          o.left,
          ap (λ (x : Coordinator). finite.get x.groups name) leaves
              ∙ ap (λ (k : Text). finite.get (finite.insert c.groups k o.left) name) same ∙ get-inserted c.groups name o.left,
        );
        kept_out = λ never. absurd (never (o.reply, is, is_no_error o.reply.code so));
      }

  makes : (success room : Bool) (o : Opening) → o.name ≡ name → is_success o.reply.code ≡ success → Makes success room c o answer new → IsMadeBySuccess c name answer new
  makes true true o same so (is, leaves) = succeeds o same is so leaves
  makes true false o same so (is, leaves) =
      fails leaves
      (λ (reply, said, code). unavailable_not (ap (λ (r : group.Reply). r.code) (reply_is (group.refusal codes.CoordinatorNotAvailable) reply (sym is ∙ said)) ∙ code))
  makes false room o same so (is, leaves) =
      fails leaves
      (λ (reply, said, code). true≢false (sym (ap is_success (ap (λ (r : group.Reply). r.code) (reply_is o.reply reply (sym is ∙ said)) ∙ code)) ∙ so))

  makes_by : (given : group.Answer) (g : Group) → MakesBy given c name g answer new → IsMadeBySuccess c name answer new
  makes_by (group.Replied reply) g is =
      let o : Opening = record { name = name; left = g; reply = reply } in makes (is_success reply.code) (has_room c) o refl refl is
  makes_by group.Closes g (is, leaves) = fails leaves (λ (reply, said, code). closes_not reply (sym is ∙ said))

pub groups_are_made_by_success : GroupsAreMadeBySuccess
groups_are_made_by_success c a answer new absent (given, g, step, makes) = makes_by c a.heartbeat.group answer new given g makes
