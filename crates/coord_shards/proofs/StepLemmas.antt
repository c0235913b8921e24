-- What a step adds to a shard's replay.
use Rattle.std.proofs.Common.{◌≡◌, ◌≢◌, ℕ, ◌+◌, ◌<◌, ◌≤◌, Bool, true, false, cond, ◌==◌, List, [], ◌∷◌, ◌++◌, map, length, take, get_or, slice_index, sum, count_by, refl, sym, ap, subst, ◌∙◌, arith, length-append, get_or-set_same, get_or-set_other}
use Rattle.std.proofs.Math.ListN.{length-set}
use Rattle.std.proofs.Math.Seq.{take-length, take-append_seam}
use Rattle.std.proofs.lemmas.List.{map-append}
use Rattle.std.proofs.lemmas.List.Elements.{All-push}
use Rattle.std.proofs.lemmas.List.Sums.{sum_by-append, sum_by-set}
use Rattle.std.proofs.lemmas.Bool.Decides.{Decides-eqb, nat_tests}
use Rattle.coord_node.specs.Coordinator.{Coordinator, Event, Answer}
use Rattle.coord_node.specs.Steps.{EventRelation, RunBy, Step}
use Rattle.coord_shards.specs.declared.shard.JournalEntry.{JournalEntry}
use Rattle.coord_shards.specs.Limits.{MOST_SEATS}
use Rattle.coord_shards.specs.Events.{node_event}
use Rattle.coord_shards.specs.Home.{IsHome}
use Rattle.coord_shards.specs.Shard.{ShardState, kept_with, one_more}
use Rattle.coord_shards.specs.Replay.{GoesOn}
use Rattle.coord_shards.specs.Replay.{Replay, IsShard, RunsTo}

-- a run, and one step behind it
pub RunBy-push : (Steps : EventRelation) (events : List Event) (answers : List Answer) (c d n : Coordinator) (event : Event) (answer : Answer)
    → RunBy Steps c events answers d → Steps d event answer n → RunBy Steps c (events ++ event ∷ []) (answers ++ answer ∷ []) n
RunBy-push Steps [] [] c d n event answer run step =
    (n, subst (λ (x : Coordinator). Steps x event answer n) run step, refl)
RunBy-push Steps [] (a ∷ answers) c d n event answer run step = absurd run
RunBy-push Steps (e ∷ es) [] c d n event answer run step = absurd run
RunBy-push Steps (e ∷ es) (a ∷ answers) c d n event answer run step =
    (run.0, run.1, RunBy-push Steps es answers run.0 d n event answer run.2 step)

pub RunsTo-push : (shards salt home : ℕ) (entries : List JournalEntry) (e : JournalEntry) (given : Answer) (d n : Coordinator)
    → IsHome shards e.event home → RunsTo shards salt home entries d → Step d (node_event e.event) given n
    → RunsTo shards salt home (entries ++ e ∷ []) n
RunsTo-push shards salt home entries e given d n is_home runs step =
    let ev : JournalEntry → Event = λ (x : JournalEntry). node_event x.event in
    let (answers, run) = runs.run in
    record {
      at_home = All-push (λ (x : JournalEntry). IsHome shards x.event home) entries e runs.at_home is_home;
      run = (
        answers ++ given ∷ [],
        rw (map-append ev entries (e ∷ [])) (RunBy-push Step (map ev entries) answers _ d n (node_event e.event) given run step),
      );
    }

-- ---- the counts

-- how many of a seat's entries there are once an entry comes behind them
count-push : (entries : List JournalEntry) (e : JournalEntry) (seat : ℕ)
    → count_by (λ (x : JournalEntry). x.seat == seat) (entries ++ e ∷ []) ≡ count_by (λ (x : JournalEntry). x.seat == seat) entries + cond (e.seat == seat) 1 0
count-push entries e seat =
    let one = sum_by-append (λ (x : JournalEntry). cond (x.seat == seat) 1 0) entries (e ∷ []) in omega (arith, one)

at_other : (counts : List ℕ) (k seat : ℕ) → (b : Bool) → (k == seat) ≡ b → k < length counts
    → slice_index (one_more counts k) seat ≡ slice_index counts seat + cond b 1 0
at_other counts k seat true is lt =
    let same : k ≡ seat = (Decides-eqb k seat).0 is in
    subst (λ (s : ℕ). slice_index (one_more counts k) s ≡ slice_index counts s + 1) same (get_or-set_same counts k _ 0 lt)
at_other counts k seat false is lt =
    let ne : seat ≢ k = λ same. let e = (Decides-eqb k seat).1 (sym same) in cc in
    let kept = get_or-set_other counts k seat (get_or counts k 0 + 1) 0 ne in
    omega (arith, kept)

counted-push : (counts : List ℕ) (entries : List JournalEntry) (e : JournalEntry) → e.seat < length counts
    → ((seat : ℕ) → slice_index counts seat ≡ count_by (λ (x : JournalEntry). x.seat == seat) entries)
    → (seat : ℕ) → slice_index (one_more counts e.seat) seat ≡ count_by (λ (x : JournalEntry). x.seat == seat) (entries ++ e ∷ [])
counted-push counts entries e lt counted seat =
    at_other counts e.seat seat (e.seat == seat) refl lt
    ∙ ap (λ n. n + cond (e.seat == seat) 1 0) (counted seat)
    ∙ sym (count-push entries e seat)

-- ---- the journal

kept-push : (b : Bool) (entries : List JournalEntry) (e : JournalEntry) → cond b (cond b [] entries) (cond b [] entries ++ e ∷ []) ≡ cond b [] (entries ++ e ∷ [])
kept-push true entries e = refl
kept-push false entries e = refl

-- a journal that keeps none stays as it is
pub kept-none : {X : Type 0} (cap : ℕ) (kept : List X) (x : X) → cap ≡ 0 → kept ≡ kept_with cap kept x
kept-none cap kept x none = rw none refl

few-push : (cap : ℕ) (kept : List JournalEntry) (e : JournalEntry) (b : Bool) → (cap == 0) ≡ b → length kept ≤ cap → (0 < cap → length kept < cap)
    → length (cond b kept (kept ++ e ∷ [])) ≤ cap
few-push cap kept e true is few room = few
few-push cap kept e false is few room =
    let some : 0 < cap = grind (arith, nat_tests) in
    let lt = room some in
    omega (arith, length-append kept (e ∷ []))

pub Replay-push : (s : ShardState) (e : JournalEntry) (given : Answer) (after : Coordinator)
    → e.seat < length s.counts → IsHome s.shards e.event s.number → Step s.present (node_event e.event) given after → Replay s
    → Replay (record s { present = after; kept = kept_with s.cap s.kept e; counts = one_more s.counts e.seat })
Replay-push s e given after seat home step is =
    record {
      entries = is.entries ++ e ∷ [];
      run = RunsTo-push s.shards s.salt s.number is.entries e given s.present after home is.run step;
      counted = counted-push s.counts is.entries e seat is.counted;
      kept = ap (λ kept. kept_with s.cap kept e) is.kept ∙ kept-push (s.cap == 0) is.entries e;
    }

-- a shard that has room and goes on is a shard
pub IsShard-push : (s : ShardState) (e : JournalEntry) (given : Answer) (after : Coordinator)
    → e.seat < MOST_SEATS → IsHome s.shards e.event s.number → (0 < s.cap → length s.kept < s.cap)
    → Step s.present (node_event e.event) given after → IsShard s
    → IsShard (record s { present = after; kept = kept_with s.cap s.kept e; counts = one_more s.counts e.seat })
IsShard-push s e given after seat home room step is =
    record {
      number = is.number;
      seats = length-set s.counts e.seat _ ∙ is.seats;
      few = few-push s.cap s.kept e (s.cap == 0) refl is.few room;
      replay = Replay-push s e given after (subst (λ n. e.seat < n) (sym is.seats) seat) home step is.replay;
    }

-- ---- the step

sum-one_more : (counts : List ℕ) (k : ℕ) → k < length counts → sum (one_more counts k) ≡ sum counts + 1
sum-one_more counts k lt =
    let is = sum_by-set (λ (n : ℕ). n) counts k (get_or counts k 0 + 1) 0 lt in omega (arith, is)

-- a journal that isn't full has room
pub room-is : (cap len : ℕ) → ¬ ((0 < cap) × (cap ≤ len)) → 0 < cap → len < cap
room-is cap len not_full some =
    let short : cap ≤ len → ⊥ = λ full. not_full (some, full) in
    omega arith

-- a step of a node with an entry's event, an entry behind the others, and one more of its seat's
pub goes-is : (old : ShardState) (e : JournalEntry) (given : Answer) (after : Coordinator) (kept : List JournalEntry)
    → e.seat < MOST_SEATS → IsHome old.shards e.event old.number → (0 < old.cap → length old.kept < old.cap)
    → Step old.present (node_event e.event) given after → kept ≡ kept_with old.cap old.kept e → IsShard old
    → IsShard (record old { present = after; kept = kept; counts = one_more old.counts e.seat })
    × GoesOn old e given (record old { present = after; kept = kept; counts = one_more old.counts e.seat })
goes-is old e given after kept seat home room step is shard = (
  subst (λ (k : List JournalEntry). IsShard (record old { present = after; kept = k; counts = one_more old.counts e.seat })) (sym is) (IsShard-push old e given after seat home room step shard),
  record {
    step = step;
    leaves = λ i. record old { present = after; kept = is i; counts = one_more old.counts e.seat };
    total = sum-one_more old.counts e.seat (subst (λ n. e.seat < n) (sym shard.seats) seat);
  },
)

-- the same of a node's answer of which more is known
pub taken-is : (Says : Answer → Type 0) (old : ShardState) (e : JournalEntry) (after : Coordinator) (kept : List JournalEntry)
    → e.seat < MOST_SEATS → IsHome old.shards e.event old.number → (0 < old.cap → length old.kept < old.cap)
    → (given : Answer) × Says given × Step old.present (node_event e.event) given after → kept ≡ kept_with old.cap old.kept e → IsShard old
    → IsShard (record old { present = after; kept = kept; counts = one_more old.counts e.seat })
    × ((given : Answer) × Says given × GoesOn old e given (record old { present = after; kept = kept; counts = one_more old.counts e.seat }))
taken-is Says old e after kept seat home room (given, says, step) is shard =
    let goes = goes-is old e given after kept seat home room step is shard in (goes.0, (given, says, goes.1))

-- what was kept before, once one more came behind it
take-kept : {X : Type 0} (b : Bool) (kept : List X) (x : X) → take (length kept) (cond b kept (kept ++ x ∷ [])) ≡ kept
take-kept true kept x = take-length kept
take-kept false kept x = take-append_seam kept (x ∷ [])

pub take-kept_with : {X : Type 0} (cap : ℕ) (kept : List X) (x : X) → take (length kept) (kept_with cap kept x) ≡ kept
take-kept_with cap kept x = take-kept (cap == 0) kept x
