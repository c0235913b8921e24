-- Runs over a log as the coordinator's runs.
use Rattle.std.proofs.Common.{◌≡◌, ℕ, ◌+◌, List, [], ◌∷◌, ◌++◌, length, Option, Some, None, Ok, Err, refl, ap, subst, arith}
use Rattle.std.specs.List.{cons_option}
use Rattle.coord_node.specs.Coordinator.{Coordinator, Event, Answer}
use Rattle.coord_node.specs.Steps.{Run}
use Rattle.coord_replica.specs.Applying.{Applies, EventStep, Fate, LogRun, Logged, PassedOver, Taken, answers_given, entries_taken}
use Rattle.coord_replica.specs.Entries.{event_of, events_of}
use Rattle.coord_replica.specs.Laws.{IsRunOf}
use Rattle.coord_replica.specs.Replicas.{LogState, log_opening}

-- one event more in front, where there is one
Run-front : (c d n : Coordinator) (event : Option Event) (answer : Option Answer) (events : List Event) (answers : List Answer)
    → EventStep c event answer d → Run d events answers n → Run c (cons_option event events) (cons_option answer answers) n
Run-front c d n None None events answers step run = subst (λ (x : Coordinator). Run x events answers n) step.1 run
Run-front c d n None (Some a) events answers step run = let never : Some a ≡ None = step.0 in cc
Run-front c d n (Some event) None events answers step run = absurd step
Run-front c d n (Some event) (Some a) events answers step run = (d, step, run)

run_of : (s t : LogState) (log : List Logged) (fates : List Fate)
    → LogRun s log fates t → Run s.coordinator (events_of (entries_taken log fates)) (answers_given fates) t.coordinator
run_of s t [] [] run = ap (λ (x : LogState). x.coordinator) run
run_of s t [] (fate ∷ fates) run = absurd run
run_of s t (at ∷ log) [] run = absurd run
run_of s t (Ok e ∷ log) (Taken a ∷ fates) run =
    Run-front s.coordinator run.0.coordinator t.coordinator (event_of e) a (events_of (entries_taken log fates)) (answers_given fates) run.1.step
    (run_of run.0 t log fates run.2)
run_of s t (Err fault ∷ log) (Taken a ∷ fates) run = absurd run.1
run_of s t (at ∷ log) (PassedOver fault ∷ fates) run =
    subst (λ (x : Coordinator). Run x (events_of (entries_taken log fates)) (answers_given fates) t.coordinator)
    (ap (λ (x : LogState). x.coordinator) run.1.becomes) (run_of run.0 t log fates run.2)

-- a place more is applied
pub applies-applied : (s t : LogState) (at : Logged) (fate : Fate) → Applies s at fate t → t.applied ≡ s.applied + 1
applies-applied s t (Ok e) (Taken a) step = step.applied
applies-applied s t (Err fault) (Taken a) step = absurd step
applies-applied s t at (PassedOver fault) step = ap (λ (x : LogState). x.applied) step.becomes

pub applied_of : (s t : LogState) (log : List Logged) (fates : List Fate) → LogRun s log fates t → t.applied ≡ s.applied + length log
applied_of s t [] [] run = let same : t.applied ≡ s.applied = ap (λ (x : LogState). x.applied) run in omega arith
applied_of s t [] (fate ∷ fates) run = absurd run
applied_of s t (at ∷ log) [] run = absurd run
applied_of s t (at ∷ log) (fate ∷ fates) run =
    let rest = applied_of run.0 t log fates run.2 in
    let one : run.0.applied ≡ s.applied + 1 = applies-applied s run.0 at fate run.1 in omega arith

pub replicas_are_runs : (salt : ℕ) (log : List Logged) (fates : List Fate) (s : LogState) → LogRun (log_opening salt) log fates s → IsRunOf salt log fates s
replicas_are_runs salt log fates s run =
    record {
      run = run_of (log_opening salt) s log fates run;
      applied = let all : s.applied ≡ 0 + length log = applied_of (log_opening salt) s log fates run in omega arith;
    }

-- one place more at the end
pub LogRun-push : (s t u : LogState) (log : List Logged) (fates : List Fate) (at : Logged) (fate : Fate)
    → LogRun s log fates t → Applies t at fate u → LogRun s (log ++ at ∷ []) (fates ++ fate ∷ []) u
LogRun-push s t u [] [] at fate run step = (u, subst (λ (x : LogState). Applies x at fate u) run step, refl)
LogRun-push s t u [] (b ∷ fates) at fate run step = absurd run
LogRun-push s t u (d ∷ log) [] at fate run step = absurd run
LogRun-push s t u (d ∷ log) (b ∷ fates) at fate run step = (run.0, run.1, LogRun-push run.0 t u log fates at fate run.2 step)
