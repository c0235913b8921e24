-- The snapshot of whatever log a replica has applied can be written.
use Rattle.std.proofs.Common.{◌≡◌, ℕ, ◌<◌, ◌^◌, true, List, [], ◌∷◌, map, Option, Some, None, Ok, Err, sym, ap, subst, ◌∙◌, is_some, bytes_eq, arith}
use Rattle.std.specs.Prelude.{All, IfOk, IfSome}
use Rattle.std.specs.List.{AllByRecursion, cons_option}
use Rattle.std.specs.Set.{is_member}
use Rattle.std.proofs.lemmas.List.Elements.{All-contains, All-from_recursion, All-map, All-weaker, recursion_from_All}
use Rattle.std.proofs.lemmas.Map.Made.{is_member-Decides}
use Rattle.std.proofs.lemmas.Slice.Eq.{bytes_eq-Decides}
use Rattle.flex_wire.specs.Spelling.{FitsText}
use Rattle.topic_meta.specs.Images.{Entry, topics_of}
use Rattle.topic_meta.proofs.Lookups.{is_some-get-topics_of}
use Rattle.coord_node.specs.Coordinator.{Event}
use Rattle.replica_entries.specs.Spelling.{FitsEntry, FitsNumbers, FitsTopic, FitsTopics}
use Rattle.replica_entries.specs.Values.{ContentValue, EntryValue, frame, tick, image, leads}
use Rattle.replica_snapshots.specs.Laws.{RunsWithFewOffsetsCanBeWritten}
use Rattle.replica_snapshots.specs.Places.{FitsPlace}
use Rattle.replica_snapshots.specs.Runs.{FitsEvent, HaveNames}
use Rattle.replica_snapshots.specs.Spelling.{FitsNumber}
use Rattle.coord_replica.specs.Applying.{Fate, LogRun, Logged, PassedOver, Taken, answers_given, entries_taken, moment_after}
use Rattle.coord_replica.specs.Entries.{event_of, event_under, events_of}
use Rattle.coord_replica.specs.Laws.{IsOfLog, LogsWithFewOffsetsCanBeWritten}
use Rattle.coord_replica.specs.Replicas.{LogState, log_opening}
use Rattle.coord_replica.specs.Snapshots.{SnapshotValue}
use Rattle.coord_replica.proofs.Runs.{replicas_are_runs}

-- ---- the events of entries

have_names : (topics : List Entry) → All FitsTopic topics → HaveNames (topics_of topics)
have_names topics all name t there =
    let names = map (λ (e : Entry). e.name) topics in
    let among : is_member bytes_eq names name ≡ true = sym (is_some-get-topics_of topics name) ∙ ap is_some there in
    All-contains FitsText names name
    (All-map FitsText (λ (e : Entry). e.name) topics (All-weaker FitsTopic (λ e. FitsText e.name) (λ e fits. fits.name) topics all))
    ((is_member-Decides bytes_eq-Decides names name).0 among)

event_fits : (leadership : ℕ) (content : ContentValue) → leadership < 2 ^ 31 → FitsNumbers content → FitsTopics content
    → IfSome (event_under leadership content) FitsEvent
event_fits leadership (frame f) small numbers topics =
    let connection = numbers.connection in
    let number = numbers.number in
    let moment = numbers.moment in
    (record { connection = omega arith; frame = omega arith }, omega arith)
event_fits leadership (tick moment) small numbers topics = omega (arith, numbers)
event_fits leadership (image list) small numbers topics = have_names list topics.1
event_fits leadership leads small numbers topics = tt

front_fits : (event : Option Event) (events : List Event) → IfSome event FitsEvent → AllByRecursion FitsEvent events
    → AllByRecursion FitsEvent (cons_option event events)
front_fits None events one all = all
front_fits (Some event) events one all = (one, all)

events_fit : (entries : List EntryValue) → AllByRecursion FitsEntry entries → AllByRecursion FitsEvent (events_of entries)
events_fit [] all = tt
events_fit (e ∷ es) all =
    front_fits (event_of e) (events_of es) (event_fits e.leadership e.content all.0.leadership all.0.numbers all.0.topics) (events_fit es all.1)

-- what was read has a spelling, and so has what was taken of it
abbrev FitsLogged : Logged → Type 0
FitsLogged at = IfOk at FitsEntry

taken_fit : (log : List Logged) (fates : List Fate) → AllByRecursion FitsLogged log → AllByRecursion FitsEntry (entries_taken log fates)
taken_fit [] fates all = tt
taken_fit (at ∷ log) [] all = tt
taken_fit (Ok e ∷ log) (Taken a ∷ fates) all = (all.0, taken_fit log fates all.1)
taken_fit (Err fault ∷ log) (Taken a ∷ fates) all = taken_fit log fates all.1
taken_fit (at ∷ log) (PassedOver fault ∷ fates) all = taken_fit log fates all.1

-- ---- the place

moment_fits : (greatest : ℕ) (content : ContentValue) → greatest < 2 ^ 63 → FitsNumbers content → moment_after greatest content < 2 ^ 63
moment_fits greatest (frame f) small numbers = numbers.moment
moment_fits greatest (tick moment) small numbers = numbers
moment_fits greatest (image topics) small numbers = small
moment_fits greatest leads small numbers = small

-- the numbers that a place has of the entries
record HasSmall (s : LogState) : Type 0 where
  pub leadership : s.leadership < 2 ^ 31
  pub moment : s.moment < 2 ^ 63

keeps_small : (s t : LogState) (log : List Logged) (fates : List Fate)
    → LogRun s log fates t → AllByRecursion FitsLogged log → HasSmall s → HasSmall t
keeps_small s t [] [] run all small = subst HasSmall (sym run) small
keeps_small s t [] (fate ∷ fates) run all small = absurd run
keeps_small s t (at ∷ log) [] run all small = absurd run
keeps_small s t (Ok e ∷ log) (Taken a ∷ fates) run all small =
    keeps_small run.0 t log fates run.2 all.1 (record {
      leadership = subst (λ (n : ℕ). n < 2 ^ 31) (sym run.1.leadership) all.0.leadership;
      moment = subst (λ (n : ℕ). n < 2 ^ 63) (sym run.1.moment) (moment_fits s.moment e.content small.moment all.0.numbers);
    })
keeps_small s t (Err fault ∷ log) (Taken a ∷ fates) run all small = absurd run.1
keeps_small s t (at ∷ log) (PassedOver fault ∷ fates) run all small =
    keeps_small run.0 t log fates run.2 all.1 (subst HasSmall (sym run.1.becomes) (record { leadership = small.leadership; moment = small.moment }))

place_fits : (v : SnapshotValue) → IsOfLog v → FitsPlace v.place
place_fits v is =
    let opens : HasSmall (log_opening is.salt) = record { leadership = omega arith; moment = omega arith } in
    let small = keeps_small (log_opening is.salt) is.state is.log is.fates is.run (recursion_from_All FitsLogged is.log is.each) opens in
    let leadership : is.state.leadership < 2 ^ 31 = small.leadership in
    let moment : is.state.moment < 2 ^ 63 = small.moment in
    subst FitsPlace (sym is.of.place) (record {
      applied = subst FitsNumber (sym (replicas_are_runs is.salt is.log is.fates is.state is.run).applied) is.count;
      leadership = record { sfits = omega (arith, leadership) };
      moment = record { sfits = omega (arith, moment) };
    })

-- ---- the snapshot

pub logs_are_put : RunsWithFewOffsetsCanBeWritten → LogsWithFewOffsetsCanBeWritten
logs_are_put runs v result old new from size is puts =
    puts.can (place_fits v is) (runs v.node (record {
      salt = is.salt;
      events = events_of (entries_taken is.log is.fates);
      answers = answers_given is.fates;
      coordinator = is.state.coordinator;
      fits = is.fits;
      each = All-from_recursion FitsEvent (events_of (entries_taken is.log is.fates))
          (events_fit (entries_taken is.log is.fates) (taken_fit is.log is.fates (recursion_from_All FitsLogged is.log is.each)));
      run = (replicas_are_runs is.salt is.log is.fates is.state is.run).run;
      few = is.few;
      of = is.of.node;
    }))
