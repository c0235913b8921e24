-- The replies of a world over replicas are answers of its log.
use Rattle.std.proofs.Common.{◌≡◌, ◌⊎◌, ℕ, suc, ◌+◌, Bool, true, false, List, [], ◌∷◌, ◌++◌, length, Contains, Option, Some, None, Ok, inl, inr, refl, sym, ap, subst, ◌∙◌, append_assoc}
use Rattle.kip_msgs.specs.Values.{CommitRequestTopicValue}
use Rattle.group_types.specs.declared.partition.Partition.{Partition}
use Rattle.coord_node.specs.Coordinator.{Answer, Closes, Done, Replied}
use Rattle.member_core.specs.Client.{Client}
use Rattle.member_core.specs.Asking.{Ask, after_giving_up, may_ask, request_for}
use Rattle.member_core.specs.Refusing.{is_too_large}
use Rattle.member_core.specs.Releasing.{after_release, may_release}
use Rattle.replica_entries.specs.Values.{EntryValue}
use Rattle.coord_replica.specs.Applying.{Fate, LogRun, Logged, Taken, Takes}
use Rattle.coord_replica.specs.Replicas.{LogState, log_opening}
use Rattle.coord_replica.proofs.Runs.{LogRun-push}
use Rattle.world_sim.specs.World.{Commit, Reply, Request, World, numbered, with_coordinator}
use Rattle.world_sim.specs.Acts.{Act, Asks, GivesUp, Deliver, Take, Release, Commits, Bring, Clock, Passes, Sees, ActStep, Answers, AsksIf, AsksStep, ChangesIf, CommitsBy, CommitsIf, CommitsStep, GivesUpStep, Outcome, Pools, ReleaseStep, SendsIf, TakeBy, TakeStep, TakenAs, commit_by, fits_frame, may_commit}
use Rattle.world_sim.proofs.Numbered.{one_more}
use Rattle.group_types.proofs.ListLemmas.{to_in}
use Rattle.replica_worlds.specs.ReplicaWorlds.{Brings, Delivers, Does, Goes, IsClients, ReplicaAct, ReplicaRun, ReplicaWorld, new_replica_world, world_of}
use Rattle.replica_worlds.specs.Logs.{IsAnswered, RepliesAreTheLogs, entries_of}

-- ---- no act of a client sends a reply

module _ (w : World) (outcome : Outcome) (new : World) where
  abbrev Same : Type 0
  Same = new.replies ≡ w.replies

  asks_same : (n : ℕ) (ask : Ask) (o : Option Client) → AsksStep o w n ask outcome new → Same
  asks_same n ask None is = ap (λ (x : World). x.replies) is.1
  asks_same n ask (Some c) is = by (may_ask c ask) is
    where
      sends : (large : Bool) → SendsIf large c w n ask outcome new → Same
      sends true is = ap (λ (x : World). x.replies) is.1
      sends false (body, after, asks, is) = ap (λ (x : World). x.replies) is.1

      by : (may : Bool) → AsksIf may c w n ask outcome new → Same
      by false is = ap (λ (x : World). x.replies) is.1
      by true is = sends (is_too_large (request_for c ask)) is

  changes_same : (b : Bool) (after : Client) (n : ℕ) → ChangesIf b after w n outcome new → Same
  changes_same false after n is = ap (λ (x : World). x.replies) is.1
  changes_same true after n is = ap (λ (x : World). x.replies) is.1

  gives_up_same : (n : ℕ) (o : Option Client) → GivesUpStep o w n outcome new → Same
  gives_up_same n None is = ap (λ (x : World). x.replies) is.1
  gives_up_same n (Some c) is = changes_same c.waits (after_giving_up c) n is

  release_same : (n : ℕ) (p : Partition) (o : Option Client) → ReleaseStep o w n p outcome new → Same
  release_same n p None is = ap (λ (x : World). x.replies) is.1
  release_same n p (Some c) is = changes_same (may_release c) (after_release c p) n is

  take_same : (o : Option Reply) → TakeStep o w outcome new → Same
  take_same None is = ap (λ (x : World). x.replies) is.1
  take_same (Some r) is = by (numbered w.clients r.request.sender) is
    where
      taken_as : (b : Bool) (n : ℕ) (after : Client) → TakenAs b w n after outcome new → Same
      taken_as true n after is = ap (λ (x : World). x.replies) is.1
      taken_as false n after is = ap (λ (x : World). x.replies) is.1

      by : (o : Option Client) → TakeBy o r w outcome new → Same
      by None is = absurd is
      by (Some c) (taken, after, takes, is) = taken_as taken r.request.sender after is

  commits_same : (topics : List CommitRequestTopicValue) (o : Option Client) → CommitsStep o w topics outcome new → Same
  commits_same topics None is = ap (λ (x : World). x.replies) is.1
  commits_same topics (Some c) is = by (may_commit c (suc (length w.commits))) is
    where
      commits_by : (b : Bool) (k : Commit) → CommitsBy b w k outcome new → Same
      commits_by true k is = ap (λ (x : World). x.replies) is.1
      commits_by false k is = ap (λ (x : World). x.replies) is.1

      by : (b : Bool) → CommitsIf b c w topics outcome new → Same
      by false is = ap (λ (x : World). x.replies) is.1
      by true (body, spells, is) = commits_by (fits_frame body) (commit_by c body) is

client_same : (w : World) (act : Act) (outcome : Outcome) (new : World) → IsClients act → ActStep w act outcome new → new.replies ≡ w.replies
client_same w (Asks n ask) outcome new own is = asks_same w outcome new n ask (numbered w.clients n) is
client_same w (GivesUp n) outcome new own is = gives_up_same w outcome new n (numbered w.clients n) is
client_same w (Deliver k) outcome new own is = absurd own
client_same w (Take j) outcome new own is = take_same w outcome new (numbered w.replies j) is
client_same w (Release n p) outcome new own is = release_same w outcome new n p (numbered w.clients n) is
client_same w (Commits n topics) outcome new own is = commits_same w outcome new topics (numbered w.clients n) is
client_same w (Bring k) outcome new own is = absurd own
client_same w (Clock moment) outcome new own is = absurd own
client_same w (Passes moment) outcome new own is = absurd own
client_same w (Sees image) outcome new own is = absurd own

answers_same : (w : World) (answer : Answer) (outcome : Outcome) (new : World) → Answers w answer outcome new → new.replies ≡ w.replies
answers_same w (Replied frame) outcome new is = ap (λ (x : World). x.replies) is.5.1
answers_same w Closes outcome new is = absurd is
answers_same w (Done removed) outcome new is = absurd is

-- ---- a run

module _ (salt : ℕ) where
  -- behind a beginning of the log
  abbrev AllAnswered : List Logged → List Reply → Type 0
  AllAnswered log replies = (r : Reply) → Contains replies r → IsAnswered salt log r

  moved : (before : List Logged) (at : Logged) (rest : List Logged) (replies : List Reply) → AllAnswered (before ++ at ∷ rest) replies → AllAnswered ((before ++ at ∷ []) ++ rest) replies
  moved before at rest replies all r there = subst (λ (log : List Logged). IsAnswered salt log r) (sym (append_assoc before (at ∷ []) rest)) (all r there)

  pools_answered : (before : List Logged) (e : EntryValue) (rest : List Logged) (fates : List Fate) (log after : LogState) (w : World) (q : Request) (answer : Answer) (outcome : Outcome) (new : World)
      → LogRun (log_opening salt) before fates log → Takes log e (Some answer) after → AllAnswered (before ++ Ok e ∷ rest) w.replies → Pools w q answer outcome new → AllAnswered (before ++ Ok e ∷ rest) new.replies
  pools_answered before e rest fates log after w q (Replied frame) outcome new run takes all (body, header, reply, framed, spells, is) r there =
      by (one_more w.replies (record { request = q; body = body }) r (subst (λ (x : World). Contains x.replies r) is.1 there))
    where
      by : Contains w.replies r ⊎ (r ≡ record { request = q; body = body }) → IsAnswered salt (before ++ Ok e ∷ rest) r
      by (inl before_it) = all r before_it
      by (inr same) =
          subst (λ (x : Reply). IsAnswered salt (before ++ Ok e ∷ rest) x) (sym same) (record {
            place = length before + 1;
            frame = frame;
            framed = framed;
            answer = record { before = before; entry = e; behind = rest; stands = refl; at_place = refl; fates = fates; middle = log; run = run; after = after; takes = takes };
          })
  pools_answered before e rest fates log after w q Closes outcome new run takes all is r there = all r (subst (λ (x : World). Contains x.replies r) is.1 there)
  pools_answered before e rest fates log after w q (Done removed) outcome new run takes all is r there = absurd is

  run_answered : (acts : List ReplicaAct) (outcomes : List Outcome) (s t : ReplicaWorld) (before : List Logged) (fates : List Fate) → LogRun (log_opening salt) before fates s.log
      → AllAnswered (before ++ entries_of acts) s.replies → ReplicaRun s acts outcomes t → AllAnswered (before ++ entries_of acts) t.replies
  run_answered [] [] s t before fates run all is r there = subst (λ (x : ReplicaWorld). AllAnswered (before ++ []) x.replies) (sym is) all r there
  run_answered [] (outcome ∷ outcomes) s t before fates run all is r there = absurd is
  run_answered (act ∷ acts) [] s t before fates run all is r there = absurd is
  run_answered (Does act ∷ acts) (outcome ∷ outcomes) s t before fates run all (middle, (own, after, step, becomes), later) r there =
      run_answered acts outcomes middle t before fates
      (subst (λ (x : ReplicaWorld). LogRun (log_opening salt) before fates x.log) (sym becomes) run)
      (subst (λ (xs : List Reply). AllAnswered (before ++ entries_of acts) xs) (sym (ap (λ (x : ReplicaWorld). x.replies) becomes ∙ client_same (world_of s) act outcome after own step)) all) later r there
  run_answered (Delivers k e ∷ acts) (outcome ∷ outcomes) s t before fates run all (middle, d, later) r there =
      subst (λ (log : List Logged). IsAnswered salt log r) (append_assoc before (Ok e ∷ []) (entries_of acts))
      (run_answered acts outcomes middle t (before ++ Ok e ∷ []) (fates ++ Taken (Some d.answer) ∷ [])
      (subst (λ (x : ReplicaWorld). LogRun (log_opening salt) (before ++ Ok e ∷ []) (fates ++ Taken (Some d.answer) ∷ []) x.log) (sym d.becomes) (LogRun-push (log_opening salt) s.log d.log before fates (Ok e) (Taken (Some d.answer)) run d.takes))
      (moved before (Ok e) (entries_of acts) middle.replies (subst (λ (x : ReplicaWorld). AllAnswered (before ++ Ok e ∷ entries_of acts) x.replies) (sym d.becomes)
      (pools_answered before e (entries_of acts) fates s.log d.log (with_coordinator (world_of s) d.log.coordinator) d.request d.answer outcome d.after run d.takes all d.pools))) later r there)
  run_answered (Brings k e ∷ acts) (outcome ∷ outcomes) s t before fates run all (middle, b, later) r there =
      subst (λ (log : List Logged). IsAnswered salt log r) (append_assoc before (Ok e ∷ []) (entries_of acts))
      (run_answered acts outcomes middle t (before ++ Ok e ∷ []) (fates ++ Taken (Some b.answer) ∷ [])
      (subst (λ (x : ReplicaWorld). LogRun (log_opening salt) (before ++ Ok e ∷ []) (fates ++ Taken (Some b.answer) ∷ []) x.log) (sym b.becomes) (LogRun-push (log_opening salt) s.log b.log before fates (Ok e) (Taken (Some b.answer)) run b.takes))
      (moved before (Ok e) (entries_of acts) middle.replies (subst (λ (xs : List Reply). AllAnswered (before ++ Ok e ∷ entries_of acts) xs)
      (sym (ap (λ (x : ReplicaWorld). x.replies) b.becomes ∙ answers_same (with_coordinator (world_of s) b.log.coordinator) b.answer outcome b.after b.answers)) all)) later r there)
  run_answered (Goes at ∷ acts) (outcome ∷ outcomes) s t before fates run all (middle, g, later) r there =
      subst (λ (log : List Logged). IsAnswered salt log r) (append_assoc before (at ∷ []) (entries_of acts))
      (run_answered acts outcomes middle t (before ++ at ∷ []) (fates ++ g.fate ∷ [])
      (subst (λ (x : ReplicaWorld). LogRun (log_opening salt) (before ++ at ∷ []) (fates ++ g.fate ∷ []) x.log) (sym g.becomes) (LogRun-push (log_opening salt) s.log g.log before fates at g.fate run g.applies))
      (moved before at (entries_of acts) middle.replies (subst (λ (x : ReplicaWorld). AllAnswered (before ++ at ∷ entries_of acts) x.replies) (sym g.becomes) all)) later r there)

pub replies_are_the_logs : RepliesAreTheLogs
replies_are_the_logs salt clients acts outcomes s run =
    run_answered salt acts outcomes (new_replica_world salt clients) s [] [] refl (λ r there. absurd (to_in [] r there)) run
