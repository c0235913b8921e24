-- A world's log, and the replicas that apply it.
use Rattle.std.proofs.Common.{◌≡◌, ℕ, ◌+◌, List, [], ◌∷◌, ◌++◌, length, Some, sym, ap, subst, ◌∙◌, arith, append-nil, length-append}
use Rattle.std.proofs.lemmas.List.{nil_from_length}
use Rattle.coord_replica.specs.Applying.{Fate, LogRun, Logged, Taken}
use Rattle.coord_replica.specs.Histories.{FollowsLog, IsAnswerAt}
use Rattle.coord_replica.specs.Laws.{AnswersAreTheLogs, ReplicasFollowTheLog, SameEntriesSameReplica}
use Rattle.coord_replica.specs.Replicas.{LogState, log_opening}
use Rattle.world_sim.specs.Acts.{Outcome}
use Rattle.replica_worlds.specs.ReplicaWorlds.{Brings, Delivers, Does, Goes, ReplicaAct, ReplicaRun, ReplicaWorld, new_replica_world}
use Rattle.replica_worlds.specs.Logs.{ReplicasMakeTheWorld, WorldsFollowTheirLog, entries_of}

abbrev LogsOn : LogState → List ReplicaAct → LogState → Type 0
LogsOn s acts t = (fates : List Fate) × LogRun s (entries_of acts) fates t

pub run_logs : (acts : List ReplicaAct) (outcomes : List Outcome) (s t : ReplicaWorld) → ReplicaRun s acts outcomes t → LogsOn s.log acts t.log
run_logs [] [] s t is = ([], ap (λ (x : ReplicaWorld). x.log) is)
run_logs [] (outcome ∷ outcomes) s t is = absurd is
run_logs (act ∷ acts) [] s t is = absurd is
run_logs (Does act ∷ acts) (outcome ∷ outcomes) s t (middle, (own, after, step, becomes), later) =
    subst (λ (x : ReplicaWorld). LogsOn x.log acts t.log) becomes (run_logs acts outcomes middle t later)
run_logs (Delivers k e ∷ acts) (outcome ∷ outcomes) s t (middle, d, later) =
    let rest = subst (λ (x : ReplicaWorld). LogsOn x.log acts t.log) d.becomes (run_logs acts outcomes middle t later) in
    (Taken (Some d.answer) ∷ rest.0, (d.log, d.takes, rest.1))
run_logs (Brings k e ∷ acts) (outcome ∷ outcomes) s t (middle, b, later) =
    let rest = subst (λ (x : ReplicaWorld). LogsOn x.log acts t.log) b.becomes (run_logs acts outcomes middle t later) in
    (Taken (Some b.answer) ∷ rest.0, (b.log, b.takes, rest.1))
run_logs (Goes at ∷ acts) (outcome ∷ outcomes) s t (middle, g, later) =
    let rest = subst (λ (x : ReplicaWorld). LogsOn x.log acts t.log) g.becomes (run_logs acts outcomes middle t later) in
    (g.fate ∷ rest.0, (g.log, g.applies, rest.1))

pub worlds_follow : WorldsFollowTheirLog
worlds_follow salt clients acts outcomes s run = run_logs acts outcomes (new_replica_world salt clients) s run

whole : {X : Type 0} (log before behind : List X) → log ≡ before ++ behind → length before ≡ length log → before ≡ log
whole log before behind stands all =
    let long : length log ≡ length before + length behind = ap length stands ∙ length-append before behind in
    let none : behind ≡ [] = nil_from_length behind (omega arith) in
    sym (stands ∙ ap (λ xs. before ++ xs) none ∙ append-nil before)

pub replicas_make : SameEntriesSameReplica → ReplicasFollowTheLog → AnswersAreTheLogs → ReplicasMakeTheWorld
replicas_make same follow are_the_logs salt clients acts outcomes s run history c happened log =
    record {
      states = λ number all. state number (follow salt history c happened number) all;
      answers = λ given there. subst (λ (entries : List Logged). IsAnswerAt (log_opening salt) entries given.place given.answer) log (are_the_logs salt history c happened given there);
    }
  where
    state : (number : ℕ) → FollowsLog (log_opening salt) c.log (c.replicas number).log → (c.replicas number).log.applied ≡ length (entries_of acts) → (c.replicas number).log ≡ s.log
    state number f all =
        let logs = worlds_follow salt clients acts outcomes s run in
        let entries : f.before ≡ entries_of acts = whole (entries_of acts) f.before f.behind (sym log ∙ f.stands) (sym f.at_place ∙ all) in
        (same (log_opening salt) (entries_of acts) f.fates logs.0 (c.replicas number).log s.log
        (subst (λ (es : List Logged). LogRun (log_opening salt) es f.fates (c.replicas number).log) entries f.run) logs.1).1
