-- Whatever comes to a coordinator, its node can be written.
use Rattle.std.proofs.Common.{◌≡◌, ℕ, ◌≤◌, Bool, true, false, List, [], ◌∷◌, ◌++◌, map, Option, Some, None, refl, sym, ap, subst, ◌∙◌, arith, inl, inr}
use Rattle.std.specs.FinMap as finite
use Rattle.std.specs.List.{AllByRecursion, flat_map}
use Rattle.std.proofs.lemmas.List.{length-map}
use Rattle.std.proofs.lemmas.List.Elements.{All-from_recursion, All-map, recursion_from_All}
use Rattle.flex_wire.specs.Composed.{FitsArray}
use Rattle.flex_wire.specs.Spelling.{FitsCount, FitsText}
use Rattle.kip_msgs.specs.Spelling.{FitsCommitRequestPartition, FitsCommitRequestTopic, FitsCommitRequest, FitsHeartbeatRequest}
use Rattle.kip_msgs.specs.Values.{CommitRequestPartitionValue, CommitRequestTopicValue, CommitRequestValue, HeartbeatRequestValue, RequestValue, commit_request, heartbeat_request}
use Rattle.group_types.specs.declared.stamp.Stamp.{Stamp}
use Rattle.group_types.specs.Commit.{Commit, CommitReply, Commitment, TopicCommitments, named_commitments}
use Rattle.group_types.specs.Group.{Grants, Group, Record, held, new_group}
use Rattle.group_types.specs.HeartbeatStep.{Arrival}
use Rattle.group_types.specs.HeartbeatStep as group
use Rattle.group_types.specs.Images.{AreImageTopics}
use Rattle.group_types.specs.Limits.{MOST_GROUPS}
use Rattle.group_types.specs.Owners.{share_of}
use Rattle.group_types.specs.Sets.{in_order}
use Rattle.group_types.specs.Sound.{IsSound}
use Rattle.group_types.specs.Text.{Text, text_cmp}
use Rattle.group_types.specs.Tick.{ticked}
use Rattle.group_types.specs.Topics.{Topic, Topics}
use Rattle.group_types.proofs.Consistent.{consistent}
use Rattle.group_types.proofs.Entries.{entries_found}
use Rattle.group_types.proofs.Lookups.{Found, another, found, not_none, this}
use Rattle.group_types.proofs.Orders.{partition_cmp-IsAntisymmetric, partition_cmp_total, text_cmp_total}
use Rattle.group_types.proofs.Runs.{every_group_is_sound}
use Rattle.group_epochs.specs.Request.{arrival_of, commit_of, commitment_of, heartbeat_of}
use Rattle.group_reconcile.specs.Holders.{pairs}
use Rattle.coord_node.specs.Coordinator.{Answer, Coordinator, Event, Frame, Image, Tick, opening}
use Rattle.coord_node.specs.Laws.{IsServing, StepsAreSound}
use Rattle.coord_node.specs.Steps.{CommitAt, HeartbeatAt, IsRequest, Makes, MakesBy, RequestStep, RunBy, Step, all_ticked, has_room, is_success, with_group}
use Rattle.coord_node.proofs.SoundGroups.{opening_serves}
use Rattle.coord_node.specs.Nodes.{HeldGroup, Named, NodeValue, state_of}
use Rattle.replica_snapshots.specs.Groups.{numbers_of, parts_of}
use Rattle.replica_snapshots.specs.Laws.{RunsWithFewOffsetsArePut, RunsWithFewOffsetsCanBeWritten}
use Rattle.replica_snapshots.specs.Nodes.{FitsHead, IsOf, OneGroup, head_of, sections_of}
use Rattle.replica_snapshots.specs.Parts.{grant_of, member_part}
use Rattle.replica_snapshots.specs.Puttable.{CanPutMember, CanPutParts, CanPutSection}
use Rattle.replica_snapshots.specs.Runs.{FitsEvent, HasFewOffsets, HaveNames}
use Rattle.replica_snapshots.specs.Spelling.{FitsNumber, FitsNumbers, FitsOffset, FitsPartition, FitsStamp, FitsTopic}
use Rattle.replica_snapshots.proofs.FitGroups.{IsCommitment, IsSpelledCommit, IsWritten, committed_written, heartbeat_written, new_written, share_fits, ticked_written}
use Rattle.replica_snapshots.proofs.FitKeys.{each_key}
use Rattle.replica_snapshots.proofs.FitRecords.{AreFew, FitsHeartbeat, set_fits}
use Rattle.replica_snapshots.proofs.NodeWhole.{apart_and_found}
use Rattle.replica_snapshots.proofs.Serving.{runs_can_be_nodes, ticked_there}

-- ---- what requests say

given_by : (v : HeartbeatRequestValue) → FitsHeartbeatRequest v → FitsHeartbeat (heartbeat_of v)
given_by v fits = record {
  member = fits.member_id;
  instance = fits.instance_id;
  rack = fits.rack_id;
  timeout = fits.rebalance_timeout_ms;
  names = fits.subscribed_topic_names;
}

partitions_given : (name : Text) (ps : List CommitRequestPartitionValue) → FitsText name → AllByRecursion FitsCommitRequestPartition ps
    → AllByRecursion IsCommitment (map (λ (x : Commitment). (name, x)) (map commitment_of ps))
partitions_given name [] id all = tt
partitions_given name (p ∷ ps) id all =
    ((id, ((all.0.committed_offset, all.0.committed_leader_epoch), all.0.committed_metadata)), partitions_given name ps id all.1)

all_append : {X : Type 0} (P : X → Type 0) (xs ys : List X) → AllByRecursion P xs → AllByRecursion P ys → AllByRecursion P (xs ++ ys)
all_append P [] ys one other = other
all_append P (x ∷ xs) ys one other = (one.0, all_append P xs ys one.1 other)

abbrev topic_given : CommitRequestTopicValue → TopicCommitments
topic_given t = record { name = t.name; partitions = map commitment_of t.partitions }

topics_given : (ts : List CommitRequestTopicValue) → AllByRecursion FitsCommitRequestTopic ts → AllByRecursion IsCommitment (flat_map named_commitments (map topic_given ts))
topics_given [] all = tt
topics_given (t ∷ ts) all =
    all_append IsCommitment (named_commitments (topic_given t)) (flat_map named_commitments (map topic_given ts))
    (partitions_given t.name t.partitions all.0.name (recursion_from_All FitsCommitRequestPartition t.partitions all.0.partitions.1)) (topics_given ts all.1)

commit_given : (v : CommitRequestValue) → FitsCommitRequest v → IsSpelledCommit (commit_of v)
commit_given v fits = topics_given v.topics (recursion_from_All FitsCommitRequestTopic v.topics fits.topics.1)

-- ---- a coordinator whose groups have spellings

abbrev GroupsFit : Coordinator → Type 0
GroupsFit c = (name : Text) (g : Group) → finite.get c.groups name ≡ Some g → FitsText name × IsWritten g

record CanWrite (c : Coordinator) : Type 0 where
  salt : FitsNumber c.salt
  image : HaveNames c.image
  groups : GroupsFit c

put_group : (c : Coordinator) (name : Text) (g : Group) → CanWrite c → FitsText name → IsWritten g → CanWrite (with_group c name g)
put_group c name g can id is = record {
  salt = can.salt;
  image = can.image;
  groups = λ other h there. by other h (found c.groups name g other h there);
}
  where
    by : (other : Text) (h : Group) → Found c.groups name g other h → FitsText other × IsWritten h
    by other h (this same is_g) = (subst FitsText (sym same) id, subst IsWritten (sym is_g) is)
    by other h (another apart _ was) = can.groups other h was

same_one : (c new : Coordinator) → new ≡ c → CanWrite c → CanWrite new
same_one c new is can = subst CanWrite (sym is) can

made : (b room : Bool) (c : Coordinator) (name : Text) (left : Group) (reply : group.Reply) (answer : group.Answer) (new : Coordinator) → CanWrite c → FitsText name → IsWritten left
    → Makes b room c (record { name = name; left = left; reply = reply }) answer new → CanWrite new
made true true c name left reply answer new can id written is = same_one (with_group c name left) new is.1 (put_group c name left can id written)
made true false c name left reply answer new can id written is = same_one c new is.1 can
made false room c name left reply answer new can id written is = same_one c new is.1 can

made_by : (given : group.Answer) (c : Coordinator) (name : Text) (left : Group) (answer : group.Answer) (new : Coordinator) → CanWrite c → FitsText name → IsWritten left
    → MakesBy given c name left answer new → CanWrite new
made_by (group.Replied r) c name left answer new can id written is = made (is_success r.code) (has_room c) c name left r answer new can id written is
made_by group.Closes c name left answer new can id written is = same_one c new is.1 can

new_is_sound : (salt : ℕ) → IsSound (new_group salt)
new_is_sound salt = every_group_is_sound salt 0 (omega arith) [] (new_group salt) refl

heartbeat_at : (o : Option Group) (c : Coordinator) (a : Arrival) (given : group.Answer) (new : Coordinator) → finite.get c.groups a.heartbeat.group ≡ o → IsServing c → CanWrite c
    → AreImageTopics a.image → HaveNames a.image → FitsText a.heartbeat.group → FitsHeartbeat a.heartbeat → FitsStamp a.stamp → FitsNumber a.moment → HeartbeatAt o c a given new → CanWrite new
heartbeat_at None c a given new there serving can image names id says stamped moment is =
    let sound = new_is_sound c.salt in
    let left = heartbeat_written (new_group c.salt) (consistent (new_group c.salt) sound) sound.view (new_written c.salt can.salt) a image names says stamped moment is.0 is.1 is.2 in
    made_by is.0 c a.heartbeat.group is.1 given new can id left is.3
heartbeat_at (Some g) c a given new there serving can image names id says stamped moment is =
    let sound = serving.groups a.heartbeat.group g there in
    let after = heartbeat_written g (consistent g sound) sound.view (can.groups a.heartbeat.group g there).1 a image names says stamped moment given is.0 is.1 in
    same_one (with_group c a.heartbeat.group is.0) new is.2 (put_group c a.heartbeat.group is.0 can id after)

commit_at : (o : Option Group) (c : Coordinator) (r : Commit) (reply : CommitReply) (new : Coordinator) → finite.get c.groups r.group ≡ o → IsServing c → CanWrite c → IsSpelledCommit r
    → CommitAt o c r reply new → CanWrite new
commit_at None c r reply new there serving can says is = same_one c new is.1 can
commit_at (Some g) c r reply new there serving can says is =
    let both = can.groups r.group g there in
    same_one (with_group c r.group is.0) new is.2 (put_group c r.group is.0 can both.0 (committed_written g r c.image reply is.0 serving.image says is.1 both.1))

request_keeps : (c : Coordinator) (v : RequestValue) (body : List ℕ) (stamp : Stamp) (moment : ℕ) (answer : Answer) (new : Coordinator) → IsRequest v body → IsServing c → CanWrite c
    → FitsStamp stamp → FitsNumber moment → RequestStep c v stamp moment answer new → CanWrite new
request_keeps c (heartbeat_request header v) body stamp moment answer new request serving can stamped fits is =
    heartbeat_at (finite.get c.groups v.group_id) c (arrival_of v stamp moment c.image) is.0 new refl serving can serving.image can.image
    request.spells.fits.1.group_id (given_by v request.spells.fits.1) stamped fits is.1
request_keeps c (commit_request header v) body stamp moment answer new request serving can stamped fits is =
    commit_at (finite.get c.groups v.group_id) c (commit_of v) is.0 new refl serving can (commit_given v request.spells.fits.1) is.1

tick_keeps : (c : Coordinator) (moment : ℕ) → CanWrite c → FitsNumber moment → CanWrite (record c { groups = all_ticked c.groups moment })
tick_keeps c moment can fits = record {
  salt = can.salt;
  image = can.image;
  groups = λ name g there.
      let es = finite.entries c.groups in
      let before = ticked_there moment es name g (sym (finite.get-from_entries text_cmp_total (map (λ (e : Text × Group). (e.0, ticked e.1 moment)) es) name) ∙ there) in
      let both = can.groups name before.0 (finite.get-entries c.groups name ∙ before.1) in
      (both.0, subst IsWritten before.2 (ticked_written before.0 moment fits both.1));
}

step_keeps : (c : Coordinator) (event : Event) (answer : Answer) (new : Coordinator) → Step c event answer new → FitsEvent event → IsServing c → CanWrite c → CanWrite new
step_keeps c (Frame body stamp moment) answer new (inl request) fits serving can = request_keeps c request.0 body stamp moment answer new request.1 serving can fits.0 fits.1 request.2
step_keeps c (Frame body stamp moment) answer new (inr none) fits serving can = same_one c new none.2 can
step_keeps c (Tick moment) answer new is fits serving can = same_one (record c { groups = all_ticked c.groups moment }) new is.1 (tick_keeps c moment can fits)
step_keeps c (Image topics) answer new is fits serving can = same_one (record c { image = topics }) new is.1 (record { salt = can.salt; image = fits; groups = can.groups })

opening_can : (salt : ℕ) → FitsNumber salt → CanWrite (opening salt)
opening_can salt fits = record {
  salt = fits;
  image = λ name t there. absurd (not_none t (sym (finite.get-empty text_cmp name) ∙ there));
  groups = λ name g there. absurd (not_none g (sym (finite.get-empty text_cmp name) ∙ there));
}

-- ---- parts

module _ (g : HeldGroup) (sound : IsSound g.0) (is : IsWritten g.0) where
  numbers_fit : FitsNumbers (numbers_of g.0)
  numbers_fit =
      let below = is.serial.below in
      let some = is.serial.some in
      let most = sound.epoch in
      let target = sound.target_epoch in
      record {
        salt = is.salt;
        epochs = record { epoch = omega (arith, most); target_epoch = omega (arith, most, target) };
        clock = is.clock;
        ids_made = omega (arith, below, some);
      }

  member_fits : g.0.grants ≡ pairs g.1 → (m : Text) (r : Record) → finite.get g.0.records m ≡ Some r → CanPutMember (member_part g.1 g.0.target (m, r))
  member_fits grants m r there =
      let both = is.members m r there in
      let few : AreFew (held (pairs g.1) m) = subst (λ (x : Grants). AreFew (held x m)) grants (is.grants m) in
      let set = in_order (held (pairs g.1) m) in
      record {
        id = both.0;
        kept = both.1;
        grants = (
          let most = few.few in let same = length-map set (grant_of g.1) in omega (arith, most, same),
          All-map (λ x. FitsPartition x.0) (grant_of g.1) set
              (All-from_recursion FitsPartition set (each_key partition_cmp_total partition_cmp-IsAntisymmetric FitsPartition (held (pairs g.1) m) few.each)),
        );
        target = set_fits (share_of g.0.target m) (share_fits g.0 (consistent g.0 sound) sound.view m);
      }

  members_fit : g.0.grants ≡ pairs g.1 → (es : List (Text × Record)) → AllByRecursion (λ (e : Text × Record). finite.get g.0.records e.0 ≡ Some e.1) es
      → AllByRecursion CanPutMember (map (member_part g.1 g.0.target) es)
  members_fit grants [] all = tt
  members_fit grants (e ∷ es) all = (member_fits grants e.0 e.1 all.0, members_fit grants es all.1)

topic_fits : (topics : Topics) → AreImageTopics topics → HaveNames topics → (name : Text) (t : Topic) → finite.get topics name ≡ Some t → FitsTopic (name, t)
topic_fits topics are names name t there =
    let most = (are.counts name t there).1 in
    record { name = names name t there; id = are.ids name t there; count = record { sfits = omega (arith, most) } }

each_topic : (topics : Topics) → AreImageTopics topics → HaveNames topics → (es : List (Text × Topic)) → AllByRecursion (λ (e : Text × Topic). finite.get topics e.0 ≡ Some e.1) es → AllByRecursion FitsTopic es
each_topic topics are names [] all = tt
each_topic topics are names (e ∷ es) all = (topic_fits topics are names e.0 e.1 all.0, each_topic topics are names es all.1)

topics_fit : (topics : Topics) → AreImageTopics topics → HaveNames topics → FitsArray FitsTopic (finite.entries topics)
topics_fit topics are names = (
  let few = are.few in let same = finite.len-entries topics in omega (arith, few, same),
  All-from_recursion FitsTopic (finite.entries topics) (each_topic topics are names (finite.entries topics) (entries_found topics)),
)

parts_fit : (g : HeldGroup) → IsSound g.0 → IsWritten g.0 → FitsCount (finite.len g.0.offsets) → g.0.grants ≡ pairs g.1 → CanPutParts (parts_of g)
parts_fit g sound is few grants = record {
  numbers = numbers_fit g sound is;
  lists = record {
    view = topics_fit g.0.view sound.view is.view;
    past = (let most = sound.few_past in omega (arith, most), All-from_recursion _ g.0.past is.past);
    members = (
      let most = sound.few_members in
          let same = finite.len-entries g.0.records in
          let also = length-map (finite.entries g.0.records) (member_part g.1 g.0.target) in
          omega (arith, most, same, also),
      All-from_recursion CanPutMember (map (member_part g.1 g.0.target) (finite.entries g.0.records)) (members_fit g sound is grants (finite.entries g.0.records) (entries_found g.0.records)),
    );
    offsets = (let same = finite.len-entries g.0.offsets in omega (arith, few, same), All-from_recursion FitsOffset (finite.entries g.0.offsets) is.offsets);
  };
}

-- ---- a run

module _ (sound : StepsAreSound Step) where
  run_keeps : (events : List Event) (answers : List Answer) (c new : Coordinator) → RunBy Step c events answers new → AllByRecursion FitsEvent events → IsServing c → CanWrite c → IsServing new × CanWrite new
  run_keeps [] [] c new is fits serving can = (subst IsServing (sym is) serving, same_one c new is can)
  run_keeps [] (answer ∷ answers) c new is fits serving can = absurd is
  run_keeps (event ∷ events) [] c new is fits serving can = absurd is
  run_keeps (event ∷ events) (answer ∷ answers) c new is fits serving can =
      run_keeps events answers is.0 new is.2 fits.1 (sound c event answer is.0 is.1 serving) (step_keeps c event answer is.0 is.1 fits.0 serving can)

  each_group : (c : Coordinator) → IsServing c → CanWrite c → HasFewOffsets c → (groups : List Named)
      → AllByRecursion (λ (f : Text × Group). finite.get c.groups f.0 ≡ Some f.1) (map state_of groups) → AllByRecursion CanPutSection (map OneGroup groups)
  each_group c serving can few [] all = tt
  each_group c serving can few (g ∷ groups) all =
      let both = can.groups g.0 g.1.0 all.0 in
      (record { name = both.0; parts = parts_fit g.1 (serving.groups g.0 g.1.0 all.0) both.1 (few g.0 g.1.0 all.0) }, each_group c serving can few groups all.1)

  head_fits : (c : Coordinator) (n : NodeValue) → IsServing c → CanWrite c → finite.len c.groups ≤ MOST_GROUPS → IsOf c n → FitsHead (head_of n)
  head_fits c n serving can few of = record {
    salt = subst FitsNumber (sym (ap (λ (d : Coordinator). d.salt) of.coordinator)) can.salt;
    image = topics_fit n.image (subst AreImageTopics (sym same) serving.image) (subst HaveNames (sym same) can.image);
    groups = let once = of.once in omega (arith, few, once);
  }
    where
      same : n.image ≡ c.image
      same = ap (λ (d : Coordinator). d.image) of.coordinator

  pub runs_can_be_written : RunsWithFewOffsetsCanBeWritten
  runs_can_be_written n is =
      let c : Coordinator = is.coordinator in
      let both = run_keeps is.events is.answers (opening is.salt) c is.run (recursion_from_All FitsEvent is.events is.each) (opening_serves is.salt) (opening_can is.salt is.fits) in
      let few = (runs_can_be_nodes is.salt is.events is.answers c is.run).few in
      All-from_recursion CanPutSection (sections_of n) (head_fits c n both.0 both.1 few is.of, each_group c both.0 both.1 is.few n.groups (apart_and_found c n is.of).1)

  pub runs_are_put : RunsWithFewOffsetsArePut
  runs_are_put n result old new from size is puts = puts.can (runs_can_be_written n is)
