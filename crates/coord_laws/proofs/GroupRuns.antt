-- What steps leave of other groups, and what a run comes to in each group.
use Rattle.std.proofs.Common.{◌≡◌, ◌≢◌, ℕ, List, [], ◌∷◌, ◌++◌, Option, Some, None, option_map, inl, inr, refl, sym, ap, subst, ◌∙◌}
use Rattle.std.specs.FinMap as finite
use Rattle.kip_msgs.specs.Values.{RequestValue, commit_request, heartbeat_request}
use Rattle.group_types.specs.declared.stamp.Stamp.{Stamp}
use Rattle.group_types.specs.Text.{Text, text_cmp}
use Rattle.group_types.specs.Topics.{Topics}
use Rattle.group_types.specs.Images.{AreImageTopics}
use Rattle.group_types.specs.Group.{Group, new_group}
use Rattle.group_types.specs.Tick.{ticked}
use Rattle.group_types.specs.Laws.{GroupEvent, OfTick, OfCommit, IsGroupRun, IsGroupStep}
use Rattle.group_types.proofs.Lookups.{Tie, ties, differs, tie, get-inserted, not_none, some_is}
use Rattle.group_epochs.specs.Request.{arrival_of, commit_of}
use Rattle.coord_node.specs.Coordinator.{Answer, Coordinator, Event, Frame, Tick, Image, opening}
use Rattle.coord_node.specs.Laws.{IsServing, StepsAreSound}
use Rattle.coord_node.specs.Steps.{IsRequest, RequestStep, Run, Step, with_group}
use Rattle.coord_node.proofs.SoundGroups.{opening_serves}
use Rattle.coord_node.proofs.TickLemmas.{get-all_ticked}
use Rattle.coord_laws.specs.GroupRuns.{IsOfOthers, NodeRunsAreGroupRuns, StepsLeaveOtherGroups}
use Rattle.coord_laws.proofs.GroupSteps.{Did, IsHeartbeat, IsStep, stays, steps, at_absent, at_present, did_commit, did_heartbeat, did_keep_salt, did_leave, group_at, group_step}

-- ---- other groups

request_leaves : (c : Coordinator) (v : RequestValue) (body : List ℕ) (stamp : Stamp) (moment : ℕ) (answer : Answer) (new : Coordinator)
    → IsRequest v body → RequestStep c v stamp moment answer new → (name : Text) → IsOfOthers name body
    → finite.get new.groups name ≡ finite.get c.groups name
request_leaves c (heartbeat_request header v) body stamp moment answer new is (given, at, sends) name others =
    did_leave c new v.group_id (IsHeartbeat c.image) name (did_heartbeat c (arrival_of v stamp moment c.image) (finite.get c.groups v.group_id) refl given new at)
    (λ same. others.heartbeats header v is (sym same))
request_leaves c (commit_request header v) body stamp moment answer new is (reply, at, sends) name others =
    did_leave c new v.group_id (λ e. e ≡ OfCommit (commit_of v) c.image reply) name (did_commit c (commit_of v) (finite.get c.groups v.group_id) refl reply new at)
    (λ same. others.commits header v is (sym same))

frame_leaves : (c : Coordinator) (body : List ℕ) (stamp : Stamp) (moment : ℕ) (answer : Answer) (new : Coordinator)
    → Step c (Frame body stamp moment) answer new → (name : Text) → IsOfOthers name body → finite.get new.groups name ≡ finite.get c.groups name
frame_leaves c body stamp moment answer new (inl (v, is, step)) name others = request_leaves c v body stamp moment answer new is step name others
frame_leaves c body stamp moment answer new (inr (never, closes, same)) name others = ap (λ (x : Coordinator). finite.get x.groups name) same

pub leave_others : StepsLeaveOtherGroups Step
leave_others = record {
  frames = frame_leaves;
  images = λ c topics answer new step. ap (λ (x : Coordinator). x.groups) step.1;
}

-- ---- one group in a step

-- a group is where it was and went on by itself, or there is none in either
pub data Goes (c new : Coordinator) (name : Text) : Type 0 where
  absent : finite.get c.groups name ≡ None → finite.get new.groups name ≡ None → Goes c new name
  there : (g : Group) → finite.get new.groups name ≡ Some g → (own : List GroupEvent) → IsGroupRun (group_at c name) own g → Goes c new name

goes_by : (c new : Coordinator) (name : Text) (o : Option Group) → finite.get c.groups name ≡ o → finite.get new.groups name ≡ finite.get c.groups name → Goes c new name
goes_by c new name None is same = absent is (same ∙ is)
goes_by c new name (Some g) is same = there g (same ∙ is) [] (sym (at_present c name g is))

goes_same : (c new : Coordinator) (name : Text) → finite.get new.groups name ≡ finite.get c.groups name → Goes c new name
goes_same c new name same = goes_by c new name (finite.get c.groups name) refl same

goes_step : (c new : Coordinator) (key : Text) (IsOne : GroupEvent → Type 0) → ((e : GroupEvent) (g : Group) → IsOne e → IsStep (group_at c key) e g → IsGroupStep (group_at c key) e g)
    → Did c new key IsOne → (name : Text) → Goes c new name
goes_step c new key IsOne lawful (stays is) name = goes_same c new name (ap (λ (x : Coordinator). finite.get x.groups name) is)
goes_step c new key IsOne lawful (steps e g one step is) name = by (tie name key)
  where
    here : Goes c new key
    here = there g (ap (λ (x : Coordinator). finite.get x.groups key) is ∙ get-inserted c.groups key g) (e ∷ []) (g, lawful e g one step, refl)

    by : Tie name key → Goes c new name
    by (ties same) = subst (λ (q : Text). Goes c new q) (sym same) here
    by (differs apart _) = goes_same c new name (did_leave c new key IsOne name (steps e g one step is) apart)

commit_lawful : (c : Coordinator) (key : Text) (k : GroupEvent) → ((g : Group) → IsStep (group_at c key) k g → IsGroupStep (group_at c key) k g)
    → (e : GroupEvent) (g : Group) → e ≡ k → IsStep (group_at c key) e g → IsGroupStep (group_at c key) e g
commit_lawful c key k so e g is step =
    subst (λ (x : GroupEvent). IsGroupStep (group_at c key) x g) (sym is) (so g (subst (λ (x : GroupEvent). IsStep (group_at c key) x g) is step))

request_goes : (c : Coordinator) → AreImageTopics c.image → (v : RequestValue) (stamp : Stamp) (moment : ℕ) (answer : Answer) (new : Coordinator)
    → RequestStep c v stamp moment answer new → (name : Text) → Goes c new name
request_goes c image (heartbeat_request header v) stamp moment answer new (given, at, sends) name =
    goes_step c new v.group_id (IsHeartbeat c.image) (λ e g one step. group_step c.image image (group_at c v.group_id) e g one step)
    (did_heartbeat c (arrival_of v stamp moment c.image) (finite.get c.groups v.group_id) refl given new at) name
request_goes c image (commit_request header v) stamp moment answer new (reply, at, sends) name =
    goes_step c new v.group_id (λ e. e ≡ OfCommit (commit_of v) c.image reply) (commit_lawful c v.group_id (OfCommit (commit_of v) c.image reply) (λ g step. step))
    (did_commit c (commit_of v) (finite.get c.groups v.group_id) refl reply new at) name

tick_goes : (c new : Coordinator) (moment : ℕ) (name : Text) (o : Option Group) → finite.get c.groups name ≡ o
    → finite.get new.groups name ≡ option_map (λ g. ticked g moment) (finite.get c.groups name) → Goes c new name
tick_goes c new moment name None is ticks = absent is (ticks ∙ ap (option_map (λ g. ticked g moment)) is)
tick_goes c new moment name (Some g) is ticks =
    there (ticked g moment) (ticks ∙ ap (option_map (λ g. ticked g moment)) is) (OfTick moment ∷ [])
    (ticked g moment, ap (λ (x : Group). ticked x moment) (sym (at_present c name g is)), refl)

step_goes : (c : Coordinator) (event : Event) (answer : Answer) (new : Coordinator) → AreImageTopics c.image → Step c event answer new → (name : Text) → Goes c new name
step_goes c (Frame body stamp moment) answer new image (inl (v, is, step)) name = request_goes c image v stamp moment answer new step name
step_goes c (Frame body stamp moment) answer new image (inr (never, closes, same)) name = goes_same c new name (ap (λ (x : Coordinator). finite.get x.groups name) same)
step_goes c (Tick moment) answer new image step name =
    tick_goes c new moment name (finite.get c.groups name) refl
    (ap (λ (x : Coordinator). finite.get x.groups name) step.1 ∙ get-all_ticked moment c.groups name)
step_goes c (Image topics) answer new image step name = goes_same c new name (ap (λ (x : Coordinator). finite.get x.groups name) step.1)

-- ---- the salt stays

step_salt : (c : Coordinator) (event : Event) (answer : Answer) (new : Coordinator) → Step c event answer new → new.salt ≡ c.salt
step_salt c (Frame body stamp moment) answer new (inl (heartbeat_request header v, is, (given, at, sends))) =
    did_keep_salt c new v.group_id (IsHeartbeat c.image) (did_heartbeat c (arrival_of v stamp moment c.image) (finite.get c.groups v.group_id) refl given new at)
step_salt c (Frame body stamp moment) answer new (inl (commit_request header v, is, (reply, at, sends))) =
    did_keep_salt c new v.group_id (λ e. e ≡ OfCommit (commit_of v) c.image reply) (did_commit c (commit_of v) (finite.get c.groups v.group_id) refl reply new at)
step_salt c (Frame body stamp moment) answer new (inr (never, closes, same)) = ap (λ (x : Coordinator). x.salt) same
step_salt c (Tick moment) answer new step = ap (λ (x : Coordinator). x.salt) step.1
step_salt c (Image topics) answer new step = ap (λ (x : Coordinator). x.salt) step.1

-- ---- one group in a run

run-append : (own more : List GroupEvent) (g h i : Group) → IsGroupRun g own h → IsGroupRun h more i → IsGroupRun g (own ++ more) i
run-append [] more g h i is run = subst (λ (x : Group). IsGroupRun x more i) is run
run-append (e ∷ own) more g h i (next, step, rest) run = (next, step, run-append own more next h i rest run)

joined : (c m new : Coordinator) (name : Text) → m.salt ≡ c.salt → Goes c m name → Goes m new name → Goes c new name
joined c m new name salt (absent none _) (absent _ still) = absent none still
joined c m new name salt (absent none here) (there g is own run) =
    let same : group_at m name ≡ group_at c name = at_absent m name here ∙ (ap new_group salt ∙ sym (at_absent c name none)) in
    there g is own (subst (λ (x : Group). IsGroupRun x own g) same run)
joined c m new name salt (there h is own run) (absent none _) = absurd (not_none h (sym none ∙ is))
joined c m new name salt (there h is own run) (there g is' own' run') =
    there g is' (own ++ own') (run-append own own' (group_at c name) h g run (subst (λ (x : Group). IsGroupRun x own' g) (at_present m name h is) run'))

module _ (sound : StepsAreSound Step) where
  run_goes : (events : List Event) (answers : List Answer) (c new : Coordinator) → IsServing c → Run c events answers new → (name : Text) → Goes c new name
  run_goes [] [] c new serving is name = goes_same c new name (ap (λ (x : Coordinator). finite.get x.groups name) is)
  run_goes [] (answer ∷ answers) c new serving run name = absurd run
  run_goes (event ∷ events) [] c new serving run name = absurd run
  run_goes (event ∷ events) (answer ∷ answers) c new serving (m, step, run) name =
      joined c m new name (step_salt c event answer m step) (step_goes c event answer m serving.image step name)
      (run_goes events answers m new (sound c event answer m step serving) run name)

  pub node_runs : NodeRunsAreGroupRuns
  node_runs salt events answers c run name g present = by (run_goes events answers (opening salt) c (opening_serves salt) run name)
    where
      by : Goes (opening salt) c name → (own : List GroupEvent) × IsGroupRun (new_group salt) own g
      by (absent _ none) = absurd (not_none g (sym none ∙ present))
      by (there h is own run) = (
        own,
        subst (λ (x : Group). IsGroupRun (new_group salt) own x) (some_is h g (sym is ∙ present))
            (subst (λ (x : Group). IsGroupRun x own h) (at_absent (opening salt) name (finite.get-empty text_cmp name)) run),
      )
