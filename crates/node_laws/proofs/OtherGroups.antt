-- What an event changes of the groups of a node.
use Rattle.std.proofs.Common.{◌≡◌, inl, inr, ℕ, ℤ, Bool, true, false, List, map, All, get_or, Option, Some, None, refl, sym, ap, subst, ◌∙◌}
use Rattle.std.specs.FinMap as finite
use Rattle.std.proofs.lemmas.List.Elements.{All-map}
use Rattle.kip_msgs.specs.Values.{RequestValue, heartbeat_request, commit_request}
use Rattle.group_types.specs.declared.code.Code.{Code}
use Rattle.group_types.specs.declared.code.Code.TheVariants.{GroupIdNotFound}
use Rattle.group_types.specs.declared.stamp.Stamp.{Stamp}
use Rattle.group_types.specs.Text.{Text}
use Rattle.group_types.specs.Group.{Group}
use Rattle.group_types.specs.Commit.{Commit, CommitReply, TopicCommitments, Commitment}
use Rattle.group_types.specs.HeartbeatStep as group
use Rattle.group_types.specs.HeartbeatStep.{Arrival}
use Rattle.group_types.proofs.Lookups.{Tie, ties, differs, tie, no_tie, not_none, get-inserted, get-insert_other}
use Rattle.group_epochs.specs.Request.{arrival_of, commit_of}
use Rattle.coord_node.specs.Coordinator.{Coordinator, Answer}
use Rattle.coord_node.specs.Steps.{CommitAt, HeartbeatAt, Makes, MakesBy, RequestStep, has_room, is_success, with_group}
use Rattle.node_laws.specs.OtherGroups.{CommitsOfNoGroupAreTold, ImagesChangeTheImageAlone, IsToldOfNoGroup, Names, OtherGroupsStay, StaysBeside, group_named}

-- ---- one group is put in, or none

module _ (c new : Coordinator) (named : Text → Type 0) where
  unchanged : new ≡ c → StaysBeside c new named
  unchanged same =
      record {
        others = λ name not. ap (λ (x : Coordinator). finite.get x.groups name) same;
        goes_on = λ name g there. (g, ap (λ (x : Coordinator). finite.get x.groups name) same ∙ there);
        image = ap (λ (x : Coordinator). x.image) same;
        salt = ap (λ (x : Coordinator). x.salt) same;
      }

  put_in : (key : Text) (left : Group) → named key → new ≡ with_group c key left → StaysBeside c new named
  put_in key left is_named is =
      record {
        others = λ name not.
            ap (λ (x : Coordinator). finite.get x.groups name) is
            ∙ get-insert_other c.groups key left name (no_tie name key (λ same. not (subst named (sym same) is_named)));
        goes_on = λ name g there. goes name g there (tie name key);
        image = ap (λ (x : Coordinator). x.image) is;
        salt = ap (λ (x : Coordinator). x.salt) is;
      }
    where
      goes : (name : Text) (g : Group) → finite.get c.groups name ≡ Some g → Tie name key → (h : Group) × (finite.get new.groups name ≡ Some h)
      goes name g there (ties same) = (
        left,
        ap (λ (x : Coordinator). finite.get x.groups name) is ∙ ap (finite.get (finite.insert c.groups key left)) same ∙ get-inserted c.groups key left,
      )
      goes name g there (differs other apart) = (
        g,
        ap (λ (x : Coordinator). finite.get x.groups name) is ∙ get-insert_other c.groups key left name apart ∙ there,
      )

  -- ---- a heartbeat and a commit

  made : (success room : Bool) (key : Text) → named key → (left : Group) (reply : group.Reply) (answer : group.Answer)
      → Makes success room c (record { name = key; left = left; reply = reply }) answer new → StaysBeside c new named
  made true true key is_named left reply answer (is, leaves) = put_in key left is_named leaves
  made true false key is_named left reply answer (is, leaves) = unchanged leaves
  made false room key is_named left reply answer (is, leaves) = unchanged leaves

  made_by : (given answer : group.Answer) (key : Text) → named key → (left : Group) → MakesBy given c key left answer new → StaysBeside c new named
  made_by (group.Replied reply) answer key is_named left is = made (is_success reply.code) (has_room c) key is_named left reply answer is
  made_by group.Closes answer key is_named left (is, leaves) = unchanged leaves

  beaten : (there : Option Group) (a : Arrival) (answer : group.Answer) → named a.heartbeat.group → HeartbeatAt there c a answer new → StaysBeside c new named
  beaten None a answer is_named (given, left, step, makes) = made_by given answer a.heartbeat.group is_named left makes
  beaten (Some g) a answer is_named (after, step, leaves) = put_in a.heartbeat.group after is_named leaves

  committed : (there : Option Group) (r : Commit) (reply : CommitReply) → named r.group → CommitAt there c r reply new → StaysBeside c new named
  committed None r reply is_named (is, leaves) = unchanged leaves
  committed (Some g) r reply is_named (after, step, leaves) = put_in r.group after is_named leaves

  requested : (v : RequestValue) (stamp : Stamp) (moment : ℕ) (answer : Answer) → named (group_named v) → RequestStep c v stamp moment answer new → StaysBeside c new named
  requested (heartbeat_request header v) stamp moment answer is_named (given, step, sends) =
      beaten (finite.get c.groups v.group_id) (arrival_of v stamp moment c.image) given is_named step
  requested (commit_request header v) stamp moment answer is_named (reply, step, sends) =
      committed (finite.get c.groups v.group_id) (commit_of v) reply is_named step

pub other_groups_stay : OtherGroupsStay
other_groups_stay c body stamp moment answer new (inl (v, is, step)) = requested c new (Names body) v stamp moment answer (v, is, refl) step
other_groups_stay c body stamp moment answer new (inr (none, closes, same)) = unchanged c new (Names body) same

-- ---- an image

pub images_change_the_image_alone : ImagesChangeTheImageAlone
images_change_the_image_alone c topics answer new (done, is, image) =
    record {
      image = ap (λ (x : Coordinator). x.image) is;
      groups = λ name. ap (λ (x : Coordinator). finite.get x.groups name) is;
      salt = ap (λ (x : Coordinator). x.salt) is;
    }

-- ---- a commit to no group

abbrev IsNotFound : ℤ × Code → Type 0
IsNotFound x = x.1 ≡ GroupIdNotFound

parts_not_found : (xs : List Commitment) → All IsNotFound (map (λ (x : Commitment). (x.index, GroupIdNotFound)) xs)
parts_not_found xs = All-map IsNotFound (λ (x : Commitment). (x.index, GroupIdNotFound)) xs (λ k d less. refl)

abbrev AreNotFound : Text × List (ℤ × Code) → Type 0
AreNotFound t = All IsNotFound t.1

abbrev told : TopicCommitments → Text × List (ℤ × Code)
told t = (t.name, map (λ (x : Commitment). (x.index, GroupIdNotFound)) t.partitions)

topics_not_found : (ts : List TopicCommitments) → All AreNotFound (map told ts)
topics_not_found ts = All-map AreNotFound told ts (λ k d less. parts_not_found (get_or ts k d).partitions)

pub commits_of_no_group_are_told : CommitsOfNoGroupAreTold
commits_of_no_group_are_told c r reply new absent step = by (finite.get c.groups r.group) absent step
  where
    by : (there : Option Group) → there ≡ None → CommitAt there c r reply new → IsToldOfNoGroup c reply new
    by None none (is, same) = record { codes = subst (All AreNotFound) (sym is) (topics_not_found r.topics); same = same }
    by (Some g) never step = absurd (not_none g (sym never))
