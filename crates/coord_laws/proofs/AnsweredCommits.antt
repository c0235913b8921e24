-- Commits that were answered with no error stay.
use Rattle.std.proofs.Common.{◌≡◌, ◌≢◌, ℕ, ℤ, Bool, true, false, cond, List, [], ◌∷◌, map, Option, Some, None, inl, inr, refl, sym, ap, subst, ◌∙◌}
use Rattle.std.specs.Option.{option_map, option_or}
use Rattle.std.specs.Ordering.{int_eq}
use Rattle.std.specs.Str.{bytes_eq}
use Rattle.std.specs.FinMap as finite
use Rattle.kip_msgs.specs.Values.{CommitRequestValue, HeartbeatRequestValue, RequestHeaderValue, commit_request, heartbeat_request}
use Rattle.kip_msgs.specs.Laws.{OneRequestABody}
use Rattle.group_types.specs.declared.code.Code.TheVariants as codes
use Rattle.group_types.specs.declared.stamp.Stamp.{Stamp}
use Rattle.group_types.specs.Text.{Text, text_cmp}
use Rattle.group_types.specs.Group.{Committed, Group}
use Rattle.group_types.specs.Tick.{ticked}
use Rattle.group_types.specs.Commit.{Commit, CommitReply, CommitStep, Commitment, TopicCommitments}
use Rattle.group_types.specs.Laws.{OfCommit, OfTick}
use Rattle.group_types.specs.StoredOffsets.{OffsetsAreTheLast, last_of_topic, last_of_topics}
use Rattle.group_types.proofs.Lookups.{Tie, ties, differs, tie}
use Rattle.group_types.proofs.OffsetLemmas.{or_assoc}
use Rattle.group_epochs.specs.Request.{arrival_of, commit_of}
use Rattle.coord_node.specs.Coordinator.{Answer, Coordinator, Event, Frame, Tick, Image, committed_at, opening}
use Rattle.coord_node.specs.Laws.{IsServing, StepsAreSound}
use Rattle.coord_node.specs.Steps.{CommitAt, IsRequest, Run, Step}
use Rattle.coord_node.proofs.SoundGroups.{opening_serves}
use Rattle.coord_node.proofs.TickLemmas.{get-all_ticked}
use Rattle.coord_laws.specs.AnsweredCommits.{Answered, AnsweredCommitsStay, AreAnswered, IsAnswered, IsNoCommit, last_answered}
use Rattle.coord_laws.proofs.GroupSteps.{IsHeartbeat, at_present, did_commit, did_commits, did_heartbeat, did_leave, group_at, heartbeat_commits}

-- what a group has committed for a place
abbrev pub at : Coordinator → Text → Text → ℤ → Option Committed
at c name topic index = committed_at (finite.get c.groups name) (topic, index)

-- ---- a commit to a group that isn't there

abbrev nothing : Option Committed
nothing = None

module _ (topic : Text) (index : ℤ) where
  none_of_topic : (xs : List Commitment) → last_of_topic index xs (map (λ x. (x.index, codes.GroupIdNotFound)) xs) ≡ None
  none_of_topic [] = refl
  none_of_topic (x ∷ xs) = (λ i. option_or (none_of_topic xs i) (cond (int_eq x.index index) nothing None)) ∙ by (int_eq x.index index)
    where
      by : (b : Bool) → cond b nothing None ≡ nothing
      by true = refl
      by false = refl

  none_of_topics : (ts : List TopicCommitments) → last_of_topics topic index ts (map (λ t. (t.name, map (λ x. (x.index, codes.GroupIdNotFound)) t.partitions)) ts) ≡ None
  none_of_topics [] = refl
  none_of_topics (t ∷ ts) = (λ i. option_or (none_of_topics ts i) (cond (bytes_eq t.name topic) (none_of_topic t.partitions i) None)) ∙ by (bytes_eq t.name topic)
    where
      by : (b : Bool) → cond b nothing None ≡ nothing
      by true = refl
      by false = refl

-- ---- a step

-- what a step is to the commits of a group
data Says (name : Text) (event : Event) (answer : Answer) (c new : Coordinator) : Type 0 where
  silent : IsNoCommit name event → ((topic : Text) (index : ℤ) → at new name topic index ≡ at c name topic index) → Says name event answer c new
  speaks : (it : Answered) → IsAnswered name event answer it
      → ((topic : Text) (index : ℤ) → at new name topic index ≡ option_or (last_of_topics topic index it.commit.topics it.reply) (at c name topic index))
      → Says name event answer c new

module _ (one_request : OneRequestABody) (last : OffsetsAreTheLast) where
  commit_at : (c : Coordinator) (r : Commit) (there : Option Group) → finite.get c.groups r.group ≡ there → (reply : CommitReply) (new : Coordinator) → CommitAt there c r reply new
      → (topic : Text) (index : ℤ) → at new r.group topic index ≡ option_or (last_of_topics topic index r.topics reply) (at c r.group topic index)
  commit_at c r None absent reply new (says, same) topic index =
      ap (λ (x : Coordinator). at x r.group topic index) same
      ∙ ap (λ o. option_or o (at c r.group topic index)) (sym (ap (last_of_topics topic index r.topics) says ∙ none_of_topics topic index r.topics))
  commit_at c r (Some g) present reply new (after, step, leaves) topic index =
      did_commits last c new r.group (OfCommit r c.image reply) after
      (subst (λ (x : Group). CommitStep x r c.image reply after) (sym (at_present c r.group g present)) step) leaves topic index

  no_commit : (header : RequestHeaderValue) (v : HeartbeatRequestValue) (body : List ℕ) (stamp : Stamp) (moment : ℕ) (name : Text)
      → IsRequest (heartbeat_request header v) body → IsNoCommit name (Frame body stamp moment)
  no_commit header v body stamp moment name is = λ other w is'.
      let same : heartbeat_request header v ≡ commit_request other w = one_request (heartbeat_request header v) (commit_request other w) body is.spells is'.spells in
      absurd (cc)

  other_commit : (header : RequestHeaderValue) (v : CommitRequestValue) (body : List ℕ) (stamp : Stamp) (moment : ℕ) (name : Text)
      → IsRequest (commit_request header v) body → v.group_id ≢ name → IsNoCommit name (Frame body stamp moment)
  other_commit header v body stamp moment name is apart = λ other w is' named.
      let same : commit_request header v ≡ commit_request other w = one_request (commit_request header v) (commit_request other w) body is.spells is'.spells in
      let values : v ≡ w = cc in
      apart (ap (λ (x : CommitRequestValue). x.group_id) values ∙ named)

  commit_says : (c : Coordinator) (header : RequestHeaderValue) (v : CommitRequestValue) (body : List ℕ) (stamp : Stamp) (moment : ℕ) (answer : Answer) (new : Coordinator) (name : Text)
      → (is : IsRequest (commit_request header v) body) (reply : CommitReply) → CommitAt (finite.get c.groups v.group_id) c (commit_of v) reply new
      → IsAnswered v.group_id (Frame body stamp moment) answer (record { commit = commit_of v; reply = reply }) → Tie v.group_id name → Says name (Frame body stamp moment) answer c new
  commit_says c header v body stamp moment answer new name is reply step answered (ties same) =
      subst (λ (q : Text). Says q (Frame body stamp moment) answer c new) same
      (speaks (record { commit = commit_of v; reply = reply }) answered (commit_at c (commit_of v) (finite.get c.groups v.group_id) refl reply new step))
  commit_says c header v body stamp moment answer new name is reply step answered (differs apart _) =
      silent (other_commit header v body stamp moment name is apart)
      (λ topic index. ap (λ (o : Option Group). committed_at o (topic, index))
      (did_leave c new v.group_id (λ e. e ≡ OfCommit (commit_of v) c.image reply) name (did_commit c (commit_of v) (finite.get c.groups v.group_id) refl reply new step) (λ same. apart (sym same))))

  tick_keeps : (o : Option Group) (moment : ℕ) (topic : Text) (index : ℤ) → committed_at (option_map (λ g. ticked g moment) o) (topic, index) ≡ committed_at o (topic, index)
  tick_keeps None moment topic index = refl
  tick_keeps (Some g) moment topic index = last (OfTick moment ∷ []) g (ticked g moment) topic index (ticked g moment, refl, refl)

  step_says : (c : Coordinator) (event : Event) (answer : Answer) (new : Coordinator) (name : Text) → IsServing c → Step c event answer new → Says name event answer c new
  step_says c (Frame body stamp moment) answer new name serving (inl (heartbeat_request header v, is, (given, step, sends))) =
      silent (no_commit header v body stamp moment name is)
      (heartbeat_commits last c new v.group_id name c.image serving.image (did_heartbeat c (arrival_of v stamp moment c.image) (finite.get c.groups v.group_id) refl given new step))
  step_says c (Frame body stamp moment) answer new name serving (inl (commit_request header v, is, (reply, step, sends))) =
      commit_says c header v body stamp moment answer new name is reply step
      (record { header = header; request = v; is_request = is; group = refl; commit = refl; sends = sends }) (tie v.group_id name)
  step_says c (Frame body stamp moment) answer new name serving (inr (never, closes, same)) =
      silent (λ header v is. absurd (never (commit_request header v) is)) (λ topic index. ap (λ (x : Coordinator). at x name topic index) same)
  step_says c (Tick moment) answer new name serving step =
      silent tt (λ topic index. ap (λ (x : Coordinator). at x name topic index) step.1
      ∙ (ap (λ (o : Option Group). committed_at o (topic, index)) (get-all_ticked moment c.groups name) ∙ tick_keeps (finite.get c.groups name) moment topic index))
  step_says c (Image topics) answer new name serving step = silent tt (λ topic index. ap (λ (x : Coordinator). at x name topic index) step.1)

  -- ---- a run

  record Sums (name : Text) (events : List Event) (answers : List Answer) (c new : Coordinator) : Type 0 where
    commits : List Answered
    all : AreAnswered name events answers commits
    adds : (topic : Text) (index : ℤ) → at new name topic index ≡ option_or (last_answered topic index commits) (at c name topic index)

  one_more : (name : Text) (event : Event) (answer : Answer) (events : List Event) (answers : List Answer) (c m new : Coordinator)
      → Says name event answer c m → Sums name events answers m new → Sums name (event ∷ events) (answer ∷ answers) c new
  one_more name event answer events answers c m new (silent none same) rest =
      record {
        commits = rest.commits;
        all = inl (none, rest.all);
        adds = λ topic index. rest.adds topic index ∙ ap (option_or (last_answered topic index rest.commits)) (same topic index);
      }
  one_more name event answer events answers c m new (speaks it is more) rest =
      record {
        commits = it ∷ rest.commits;
        all = inr (it, rest.commits, is, rest.all, refl);
        adds = λ topic index. rest.adds topic index
            ∙ (ap (option_or (last_answered topic index rest.commits)) (more topic index)
            ∙ or_assoc (last_answered topic index rest.commits) (last_of_topics topic index it.commit.topics it.reply) (at c name topic index));
      }

  run_sums : StepsAreSound Step → (events : List Event) (answers : List Answer) (c new : Coordinator) (name : Text) → IsServing c → Run c events answers new → Sums name events answers c new
  run_sums sound [] [] c new name serving is =
      record { commits = []; all = refl; adds = λ topic index. ap (λ (x : Coordinator). at x name topic index) is }
  run_sums sound [] (answer ∷ answers) c new name serving run = absurd run
  run_sums sound (event ∷ events) [] c new name serving run = absurd run
  run_sums sound (event ∷ events) (answer ∷ answers) c new name serving (m, step, run) =
      one_more name event answer events answers c m new (step_says c event answer m name serving step)
      (run_sums sound events answers m new name (sound c event answer m step serving) run)

  pub answered_commits_stay : StepsAreSound Step → AnsweredCommitsStay
  answered_commits_stay sound salt events answers c run name =
      let sums = run_sums sound events answers (opening salt) c name (opening_serves salt) run in
      record {
        commits = sums.commits;
        all = sums.all;
        stays = λ topic index. sums.adds topic index
            ∙ (ap (λ (o : Option Group). option_or (last_answered topic index sums.commits) (committed_at o (topic, index))) (finite.get-empty text_cmp name)
            ∙ or_none (last_answered topic index sums.commits));
      }
    where
      or_none : (o : Option Committed) → option_or o None ≡ o
      or_none None = refl
      or_none (Some x) = refl
