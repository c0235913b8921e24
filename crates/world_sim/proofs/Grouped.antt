-- Each group of the coordinator is some client's: a group is made by a client's heartbeat, and a client stays in its group.
use Rattle.std.proofs.Common.{◌≡◌, ◌⊎◌, ℕ, suc, Bool, true, false, List, [], ◌∷◌, length, Option, Some, None, is_some, inl, inr, refl, sym, ap, subst, ◌∙◌, true≢false}
use Rattle.std.specs.Option.{option_map}
use Rattle.std.specs.FinMap as finite
use Rattle.kip_msgs.specs.Values.{CommitRequestTopicValue, RequestValue, commit_request}
use Rattle.kip_msgs.specs.Laws.{OneRequestABody}
use Rattle.group_types.specs.declared.partition.Partition.{Partition}
use Rattle.group_types.specs.Text.{Text, text_cmp}
use Rattle.group_types.specs.Topics.{Topics}
use Rattle.group_types.specs.Group.{Group}
use Rattle.group_types.specs.Tick.{ticked}
use Rattle.group_types.specs.Commit as committing
use Rattle.group_types.specs.HeartbeatStep.{Arrival}
use Rattle.group_types.specs.HeartbeatStep as group
use Rattle.group_types.proofs.Lookups.{Found, this, another, found, not_none, some_is}
use Rattle.group_epochs.specs.Request.{arrival_of, commit_of}
use Rattle.coord_node.specs.Coordinator.{Coordinator, Answer, Replied, Closes, Done}
use Rattle.coord_node.specs.Steps.{is_success, has_room, all_ticked, Makes, MakesBy, HeartbeatAt, CommitAt, with_group, RequestStep, FrameStepBy}
use Rattle.member_core.specs.Client.{Client}
use Rattle.member_core.specs.Asking.{Ask, Join, Beat, Leave, GoAway, after_asking, after_giving_up, header_of, heartbeat_value, may_ask, request_for, request_value}
use Rattle.member_core.specs.Taking.{News, Accepts, Fences, Retries, Ends, TakesIf, after_news}
use Rattle.member_core.specs.Refusing.{is_too_large}
use Rattle.member_core.specs.Releasing.{after_release, may_release, released_if}
use Rattle.member_core.specs.Committing.{commit_value}
use Rattle.world_sim.specs.World.{World, Request, Reply, Commit, new_world, numbered, renumbered, with_client, with_coordinator}
use Rattle.world_sim.specs.Acts.{Act, Asks, GivesUp, Deliver, Take, Release, Commits, Bring, Clock, Passes, Sees, Outcome, ActStep, Answers, AsksIf, AsksStep, BringStep, ChangesIf, CommitsBy, CommitsIf, CommitsStep, DeliversIf, DeliverStep, GivesUpStep, PassesStep, Pools, ReleaseStep, Run, SeesStep, SendsIf, TakeBy, TakenAs, TakeStep, commit_by, fits_frame, is_forgotten, may_commit, no_stamp}
use Rattle.world_sim.specs.Exclusivity.{Always}
use Rattle.world_sim.specs.Invariant.{Committed, Keeps, Says, clients_of}
use Rattle.world_sim.specs.Reached.{IsReached}
use Rattle.world_sim.proofs.Groups.{get_ticked}
use Rattle.world_sim.proofs.Numbered.{Place, at, elsewhere, numbered_in, numbered_itself, numbered_other, place}
use Rattle.world_sim.proofs.Reaching.{always, reached_by}

-- a group under the name
abbrev pub HasGroup : Coordinator → Text → Type 0
HasGroup c name = (g : Group) × (finite.get c.groups name ≡ Some g)

-- no group is new but one of this name
abbrev pub AddsOnly : Text → Coordinator → Coordinator → Type 0
AddsOnly by c new = (name : Text) → HasGroup new name → HasGroup c name ⊎ (name ≡ by)

-- no group is new
abbrev pub AddsNone : Coordinator → Coordinator → Type 0
AddsNone c new = (name : Text) → HasGroup new name → HasGroup c name

same_adds : (by : Text) (c new : Coordinator) → new ≡ c → AddsOnly by c new
same_adds by c new same name has = inl (subst (λ (x : Coordinator). HasGroup x name) same has)

put_adds : (by : Text) (c : Coordinator) (g : Group) → AddsOnly by c (with_group c by g)
put_adds by c g name (x, there) = from (found c.groups by g name x there)
  where
    from : Found c.groups by g name x → HasGroup c name ⊎ (name ≡ by)
    from (this same is) = inr same
    from (another _ _ before) = inl (x, before)

makes_adds : (success room : Bool) (c : Coordinator) (name : Text) (g : Group) (reply : group.Reply) (answer : group.Answer) (new : Coordinator) → Makes success room c (record { name = name; left = g; reply = reply }) answer new → AddsOnly name c new
makes_adds true true c name g reply answer new is = subst (λ (x : Coordinator). AddsOnly name c x) (sym is.1) (put_adds name c g)
makes_adds true false c name g reply answer new is = same_adds name c new is.1
makes_adds false room c name g reply answer new is = same_adds name c new is.1

made_adds : (given : group.Answer) (c : Coordinator) (name : Text) (g : Group) (answer : group.Answer) (new : Coordinator) → MakesBy given c name g answer new → AddsOnly name c new
made_adds (group.Replied reply) c name g answer new is = makes_adds (is_success reply.code) (has_room c) c name g reply answer new is
made_adds group.Closes c name g answer new is = same_adds name c new is.1

pub heartbeat_adds : (there : Option Group) (c : Coordinator) (a : Arrival) (answer : group.Answer) (new : Coordinator) → HeartbeatAt there c a answer new → AddsOnly a.heartbeat.group c new
heartbeat_adds None c a answer new is = made_adds is.0 c a.heartbeat.group is.1 answer new is.3
heartbeat_adds (Some g) c a answer new is = subst (λ (x : Coordinator). AddsOnly a.heartbeat.group c x) (sym is.2) (put_adds a.heartbeat.group c is.0)

pub commit_adds : (there : Option Group) (c : Coordinator) (r : committing.Commit) → finite.get c.groups r.group ≡ there → (reply : committing.CommitReply) (new : Coordinator) → CommitAt there c r reply new → AddsNone c new
commit_adds None c r none reply new is name has = subst (λ (x : Coordinator). HasGroup x name) is.1 has
commit_adds (Some g) c r there reply new is name has = by (put_adds r.group c is.0 name (subst (λ (x : Coordinator). HasGroup x name) is.2 has))
  where
    by : HasGroup c name ⊎ (name ≡ r.group) → HasGroup c name
    by (inl before) = before
    by (inr same) = (g, ap (finite.get c.groups) same ∙ there)

pub tick_adds : (c : Coordinator) (moment : ℕ) → AddsNone c (record c { groups = all_ticked c.groups moment })
tick_adds c moment name (g, there) = by (finite.get c.groups name) refl (sym (get_ticked c.groups moment name) ∙ there)
  where
    by : (o : Option Group) → finite.get c.groups name ≡ o → option_map (λ x. ticked x moment) o ≡ Some g → HasGroup c name
    by None none is = absurd (not_none g is)
    by (Some x) before is = (x, before)

-- ---- what acts add

-- each group is some client's
abbrev pub AreGrouped : World → Type 0
AreGrouped w = (name : Text) → HasGroup w.coordinator name → (n : ℕ) × (c : Client) × clients_of w.clients name n c

-- a client changed, and its group is the same
changed : (w : World) (n : ℕ) (c after : Client) → numbered w.clients n ≡ Some c → after.settings.group ≡ c.settings.group → AreGrouped w → AreGrouped (with_client w n after)
changed w n c after there same grouped name has = let was = grouped name has in by was.0 was.1 was.2 (place was.0 n)
  where
    by : (k : ℕ) (x : Client) → clients_of w.clients name k x → Place k n → (j : ℕ) × (y : Client) × clients_of (renumbered w.clients n after) name j y
    by k x is (at is_n) =
        let one : c ≡ x = some_is c x (sym there ∙ ap (numbered w.clients) (sym is_n) ∙ is.0) in
        (n, after, (numbered_itself w.clients n after c there, same ∙ ap (λ (y : Client). y.settings.group) one ∙ is.1))
    by k x is (elsewhere other) = (k, x, (numbered_other w.clients n k after other ∙ is.0, is.1))

none_added : (w : World) (c : Coordinator) → AddsNone w.coordinator c → AreGrouped w → AreGrouped (with_coordinator w c)
none_added w c adds grouped name has = grouped name (adds name has)

one_added : (w : World) (c : Coordinator) (added : Text) (n : ℕ) (x : Client) → clients_of w.clients added n x → AddsOnly added w.coordinator c → AreGrouped w → AreGrouped (with_coordinator w c)
one_added w c added n x is adds grouped name has = from (adds name has)
  where
    from : HasGroup w.coordinator name ⊎ (name ≡ added) → (k : ℕ) × (y : Client) × clients_of w.clients name k y
    from (inl before) = grouped name before
    from (inr same) = (n, x, (is.0, is.1 ∙ sym same))

asked_group : (c : Client) (ask : Ask) → (after_asking c ask).settings.group ≡ c.settings.group
asked_group c Join = refl
asked_group c (Beat fullness) = refl
asked_group c Leave = refl
asked_group c GoAway = refl

news_group : (c : Client) (news : News) → (after_news c news).settings.group ≡ c.settings.group
news_group c (Accepts m epoch None) = refl
news_group c (Accepts m epoch (Some set)) = refl
news_group c Fences = refl
news_group c Retries = refl
news_group c Ends = refl

taken_group : (c : Client) (b : Bool) (body : List ℕ) (after : Client) → TakesIf b c body true after → after.settings.group ≡ c.settings.group
taken_group c false body after takes = absurd (true≢false takes.0)
taken_group c true body after (news, tells, is) = ap (λ (x : Client). x.settings.group) is ∙ news_group c news

released_group : (b : Bool) (c : Client) (p : Partition) → (released_if b c p).settings.group ≡ c.settings.group
released_group true c p = refl
released_group false c p = refl

module _ (one_request : OneRequestABody) (w : World) (keeps : Keeps w) (grouped : AreGrouped w) (outcome : Outcome) (new : World) where
  same_grouped : new ≡ w → AreGrouped new
  same_grouped same = subst AreGrouped (sym same) grouped

  sends_if : (large : Bool) (n : ℕ) (ask : Ask) (c : Client) → numbered w.clients n ≡ Some c → SendsIf large c w n ask outcome new → AreGrouped new
  sends_if true n ask c there is = same_grouped is.1
  sends_if false n ask c there (body, after, asks, is) =
      subst AreGrouped (sym is.1) (changed w n c after there (ap (λ (x : Client). x.settings.group) asks.after ∙ asked_group c ask) grouped)

  asks_if : (b : Bool) (n : ℕ) (ask : Ask) (c : Client) → numbered w.clients n ≡ Some c → AsksIf b c w n ask outcome new → AreGrouped new
  asks_if false n ask c there is = same_grouped is.1
  asks_if true n ask c there is = sends_if (is_too_large (request_for c ask)) n ask c there is

  asks_step : (n : ℕ) (ask : Ask) (o : Option Client) → numbered w.clients n ≡ o → AsksStep o w n ask outcome new → AreGrouped new
  asks_step n ask None none is = same_grouped is.1
  asks_step n ask (Some c) there is = asks_if (may_ask c ask) n ask c there is

  changes_if : (b : Bool) (n : ℕ) (c after : Client) → numbered w.clients n ≡ Some c → after.settings.group ≡ c.settings.group → ChangesIf b after w n outcome new → AreGrouped new
  changes_if false n c after there same is = same_grouped is.1
  changes_if true n c after there same is = subst AreGrouped (sym is.1) (changed w n c after there same grouped)

  gives_up_step : (n : ℕ) (o : Option Client) → numbered w.clients n ≡ o → GivesUpStep o w n outcome new → AreGrouped new
  gives_up_step n None none is = same_grouped is.1
  gives_up_step n (Some c) there is = changes_if c.waits n c (after_giving_up c) there refl is

  release_step : (n : ℕ) (p : Partition) (o : Option Client) → numbered w.clients n ≡ o → ReleaseStep o w n p outcome new → AreGrouped new
  release_step n p None none is = same_grouped is.1
  release_step n p (Some c) there is = changes_if (may_release c) n c (after_release c p) there (released_group (is_some (finite.get c.shown p)) c p) is

  taken_as : (taken : Bool) (r : Reply) (c after : Client) → numbered w.clients r.request.sender ≡ Some c → TakesIf c.waits c r.body taken after → TakenAs taken w r.request.sender after outcome new → AreGrouped new
  taken_as true r c after there takes is = subst AreGrouped (sym is.1) (changed w r.request.sender c after there (taken_group c c.waits r.body after takes) grouped)
  taken_as false r c after there takes is = same_grouped is.1

  take_by : (r : Reply) (o : Option Client) → numbered w.clients r.request.sender ≡ o → TakeBy o r w outcome new → AreGrouped new
  take_by r None none is = absurd is
  take_by r (Some c) there (taken, after, takes, is) = taken_as taken r c after there takes is

  take_step : (o : Option Reply) → TakeStep o w outcome new → AreGrouped new
  take_step None is = same_grouped is.1
  take_step (Some r) is = take_by r (numbered w.clients r.request.sender) refl is

  commits_by : (b : Bool) (k : Commit) → CommitsBy b w k outcome new → AreGrouped new
  commits_by false k is = same_grouped is.1
  commits_by true k is = subst AreGrouped (sym is.1) grouped

  commits_if : (b : Bool) (c : Client) (topics : List CommitRequestTopicValue) → CommitsIf b c w topics outcome new → AreGrouped new
  commits_if false c topics is = same_grouped is.1
  commits_if true c topics (body, spells, is) = commits_by (fits_frame body) (commit_by c body) is

  commits_step : (o : Option Client) (topics : List CommitRequestTopicValue) → CommitsStep o w topics outcome new → AreGrouped new
  commits_step None topics is = same_grouped is.1
  commits_step (Some c) topics is = commits_if (may_commit c (suc (length w.commits))) c topics is

  -- ---- a request is delivered

  framed_adds : (q : Request) (says : Says w.coordinator w.clients q) (answer : Answer) (c : Coordinator)
      → FrameStepBy RequestStep w.coordinator q.body q.stamp w.clock answer c → AddsOnly says.heartbeat.group w.coordinator c
  framed_adds q says answer c (inl (v, is, requests)) =
      let message : RequestValue = request_value q.stamp.frame says.heartbeat in
      let same : v ≡ message = one_request v message q.body is.spells says.spells in
      let beats : RequestStep w.coordinator message q.stamp w.clock answer c = subst (λ (x : RequestValue). RequestStep w.coordinator x q.stamp w.clock answer c) same requests in
      heartbeat_adds (finite.get w.coordinator.groups says.heartbeat.group) w.coordinator (arrival_of (heartbeat_value says.heartbeat) q.stamp w.clock w.coordinator.image) beats.0 c beats.1
  framed_adds q says answer c (inr is) = same_adds says.heartbeat.group w.coordinator c is.2

  pools : (q : Request) (answer : Answer) (c : Coordinator) → AreGrouped (with_coordinator w c) → Pools (with_coordinator w c) q answer outcome new → AreGrouped new
  pools q (Replied frame) c so (body, header, reply, framed, spells, comes) = subst AreGrouped (sym comes.1) so
  pools q Closes c so comes = subst AreGrouped (sym comes.1) so
  pools q (Done removed) c so comes = absurd comes

  delivers_if : (b : Bool) (q : Request) → Says w.coordinator w.clients q → DeliversIf b w q outcome new → AreGrouped new
  delivers_if true q says is = same_grouped is.1
  delivers_if false q says (answer, c, step, is) =
      pools q answer c (one_added w c says.heartbeat.group q.sender says.client says.sender (framed_adds q says answer c step) grouped) is

  deliver_step : (k : ℕ) (o : Option Request) → numbered w.requests k ≡ o → DeliverStep o w outcome new → AreGrouped new
  deliver_step k None none is = same_grouped is.1
  deliver_step k (Some q) there (header, v, spells, is) = delivers_if (is_forgotten w.coordinator v) q (keeps.requests q (numbered_in w.requests k q there)) is

  -- ---- a commit is brought

  brought_adds : (k : Commit) → Committed w.coordinator w.clients k → (answer : Answer) (c : Coordinator)
      → FrameStepBy RequestStep w.coordinator k.body no_stamp w.clock answer c → AddsNone w.coordinator c
  brought_adds k committed answer c (inl (v, is, step)) =
      let message : RequestValue = commit_request (header_of committed.number) (commit_value k.group k.id k.epoch committed.topics) in
      let same : v ≡ message = one_request v message k.body is.spells committed.spells in
      let commits : RequestStep w.coordinator message no_stamp w.clock answer c = subst (λ (x : RequestValue). RequestStep w.coordinator x no_stamp w.clock answer c) same step in
      commit_adds (finite.get w.coordinator.groups k.group) w.coordinator (commit_of (commit_value k.group k.id k.epoch committed.topics)) refl commits.0 c commits.1
  brought_adds k committed answer c (inr is) = λ name has. subst (λ (x : Coordinator). HasGroup x name) is.2 has

  answers : (after : World) → AreGrouped after → (answer : Answer) → Answers after answer outcome new → AreGrouped new
  answers after so (Replied frame) is = subst AreGrouped (sym is.5.1) so
  answers after so Closes is = absurd is
  answers after so (Done removed) is = absurd is

  bring_step : (k : ℕ) (o : Option Commit) → numbered w.commits k ≡ o → BringStep o w outcome new → AreGrouped new
  bring_step k None none is = same_grouped is.1
  bring_step k (Some commit) there (answer, c, step, is) =
      answers (with_coordinator w c) (none_added w c (brought_adds commit (keeps.commits commit (numbered_in w.commits k commit there)) answer c step) grouped) answer is

  -- ---- time and topics

  passes_step : (moment : ℕ) → PassesStep w moment outcome new → AreGrouped new
  passes_step moment (removed, c, step, is) =
      subst AreGrouped (sym is.1) (none_added w c (subst (λ (x : Coordinator). AddsNone w.coordinator x) (sym step.1) (tick_adds w.coordinator moment)) grouped)

  sees_step : (image : Topics) → SeesStep w image outcome new → AreGrouped new
  sees_step image (c, step, is) =
      subst AreGrouped (sym is.1) (none_added w c (λ name has. subst (λ (x : Coordinator). HasGroup x name) step.1 has) grouped)

  act_groups : (act : Act) → ActStep w act outcome new → AreGrouped new
  act_groups (Asks n ask) is = asks_step n ask (numbered w.clients n) refl is
  act_groups (GivesUp n) is = gives_up_step n (numbered w.clients n) refl is
  act_groups (Deliver k) is = deliver_step k (numbered w.requests k) refl is
  act_groups (Take j) is = take_step (numbered w.replies j) is
  act_groups (Release n p) is = release_step n p (numbered w.clients n) refl is
  act_groups (Commits n topics) is = commits_step (numbered w.clients n) topics is
  act_groups (Bring k) is = bring_step k (numbered w.commits k) refl is
  act_groups (Clock moment) is = subst AreGrouped (sym is.1) grouped
  act_groups (Passes moment) is = passes_step moment is
  act_groups (Sees image) is = sees_step image is

-- ---- in every world that acts lead to

module _ (one_request : OneRequestABody) (always_keeps : Always Keeps) where
  run_groups : (acts : List Act) (outcomes : List Outcome) (w new : World) → IsReached w → AreGrouped w → Run w acts outcomes new → AreGrouped new
  run_groups [] [] w new reached grouped is = subst AreGrouped (sym is) grouped
  run_groups [] (outcome ∷ outcomes) w new reached grouped is = absurd is
  run_groups (act ∷ acts) [] w new reached grouped is = absurd is
  run_groups (act ∷ acts) (outcome ∷ outcomes) w new reached grouped (middle, step, later) =
      run_groups acts outcomes middle new (reached_by w middle act outcome reached step)
      (act_groups one_request w (always Keeps always_keeps w reached) grouped outcome middle act step) later

  pub are_grouped : (w : World) → IsReached w → AreGrouped w
  are_grouped w reached =
      run_groups reached.acts reached.outcomes (new_world reached.salt reached.clients) w
      (record { salt = reached.salt; clients = reached.clients; acts = []; outcomes = []; run = refl })
      (λ name has. absurd (not_none has.0 (sym (finite.get-empty text_cmp name) ∙ has.1))) reached.run
