-- Runs of one event more.
use Rattle.std.proofs.Common.{◌<◌, length, drop, slice_index_or, arith, ◌≡◌, ℕ, List, [], ◌∷◌, ◌++◌, map, refl, sym, ap, subst, ◌∙◌, append_assoc, append-nil}
use Rattle.std.specs.List.{flat_map}
use Rattle.coord_node.specs.declared.event.NodeEvent.{NodeEvent}
use Rattle.coord_node.specs.Coordinator.{Coordinator, Event, Answer, bytes_of}
use Rattle.coord_node.specs.Steps.{Step, Run}
use Rattle.coord_node.specs.Events.{event_value, Runs}

-- a run, and one step behind it
Run-push : (events : List Event) (answers : List Answer) (c d n : Coordinator) (event : Event) (answer : Answer)
    → Run c events answers d → Step d event answer n → Run c (events ++ event ∷ []) (answers ++ answer ∷ []) n
Run-push [] [] c d n event answer run step = (n, subst (λ (x : Coordinator). Step x event answer n) run step, refl)
Run-push [] (a ∷ answers) c d n event answer run step = absurd run
Run-push (e ∷ es) [] c d n event answer run step = absurd run
Run-push (e ∷ es) (a ∷ answers) c d n event answer run step =
    (run.0, run.1, Run-push es answers run.0 d n event answer run.2 step)

bytes-push : (answers : List Answer) (answer : Answer) → flat_map bytes_of (answers ++ answer ∷ []) ≡ flat_map bytes_of answers ++ bytes_of answer
bytes-push [] answer = append-nil (bytes_of answer)
bytes-push (a ∷ answers) answer =
    ap (λ (rest : List ℕ). bytes_of a ++ rest) (bytes-push answers answer) ∙ sym (append_assoc (bytes_of a) (flat_map bytes_of answers) (bytes_of answer))

-- before the first event
pub Runs-start : (c : Coordinator) (events : List NodeEvent) (bytes : List ℕ) → Runs c events c events bytes bytes
Runs-start c events bytes =
    record { answered = []; answers = []; all = refl; run = refl; bytes = sym (append-nil bytes) }

-- one event more
pub Runs-step : (c d n : Coordinator) (events left : List NodeEvent) (event : NodeEvent) (answer : Answer) (before middle after : List ℕ)
    → Runs c events d (event ∷ left) before middle → Step d (event_value event) answer n → after ≡ middle ++ bytes_of answer
    → Runs c events n left before after
Runs-step c d n events left event answer before middle after runs step more =
    record {
      answered = runs.answered ++ event_value event ∷ [];
      answers = runs.answers ++ answer ∷ [];
      all = runs.all ∙ sym (append_assoc runs.answered (event_value event ∷ []) (map event_value left));
      run = Run-push runs.answered runs.answers c d n (event_value event) answer runs.run step;
      bytes = more ∙ ap (λ (bytes : List ℕ). bytes ++ bytes_of answer) runs.bytes
          ∙ append_assoc before (flat_map bytes_of runs.answers) (bytes_of answer)
          ∙ ap (λ (bytes : List ℕ). before ++ bytes) (sym (bytes-push runs.answers answer));
    }

-- the event in front, and what is left behind it
pub Runs-front : (c d n : Coordinator) (events items left : List NodeEvent) (event : NodeEvent) (answer : Answer) (before middle after : List ℕ)
    → Runs c events d items before middle → 0 < length items → event ≡ slice_index_or items 0 event → left ≡ drop 1 items
    → Step d (event_value event) answer n → after ≡ middle ++ bytes_of answer
    → Runs c events n left before after
Runs-front c d n events [] left event answer before middle after runs some is rest step more = absurd (omega arith)
Runs-front c d n events (x ∷ xs) left event answer before middle after runs some is rest step more =
    let front : Runs c events d (event ∷ left) before middle =
    subst (λ (items : List NodeEvent). Runs c events d items before middle) (λ i. sym is i ∷ sym rest i) runs in
    Runs-step c d n events left event answer before middle after front step more
