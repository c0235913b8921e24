-- The pool of requests: each is under its sender's number, and a client's rise.
use Rattle.std.proofs.Common.{◌≡◌, ◌⊎◌, ℕ, zero, suc, ◌<◌, ◌≤◌, Bool, true, false, List, [], ◌∷◌, ◌++◌, length, Option, Some, None, slice_get, inl, inr, refl, sym, ap, subst, ◌∙◌, arith}
use Rattle.group_types.specs.declared.partition.Partition.{Partition}
use Rattle.group_types.specs.Sets.{has}
use Rattle.group_types.proofs.Lookups.{not_none, some_is}
use Rattle.kip_msgs.specs.Values.{CommitRequestTopicValue}
use Rattle.member_core.specs.Client.{Client}
use Rattle.member_core.specs.Asking.{Ask, Join, Beat, Leave, GoAway, after_asking, after_giving_up, may_ask, request_for}
use Rattle.member_core.specs.Refusing.{is_too_large}
use Rattle.member_core.specs.Releasing.{after_release, may_release, released_if}
use Rattle.member_core.specs.Taking.{Accepts, Ends, Fences, News, Retries, TakesIf, after_news}
use Rattle.coord_node.specs.Coordinator.{Answer, Closes, Done, Replied}
use Rattle.world_sim.specs.World.{Commit, Reply, Request, World, numbered, renumbered, with_coordinator}
use Rattle.world_sim.specs.Acts.{Act, Asks, GivesUp, Deliver, Take, Release, Commits, Bring, Clock, Passes, Sees, ActStep, Answers, AsksIf, AsksStep, ChangesIf, CommitsBy, CommitsIf, CommitsStep, GivesUpStep, Outcome, Pools, ReleaseStep, SendsIf, TakeBy, TakeStep, TakenAs, commit_by, fits_frame, may_commit, stamp_of}
use Rattle.world_sim.proofs.Numbered.{Place, at, elsewhere, numbered_itself, numbered_other, place}
use Rattle.replica_worlds.specs.ReplicaWorlds.{Brings, Delivers, Does, Goes, IsClients, ReplicaAct, ReplicaRun, ReplicaStep, ReplicaWorld, over_log, world_of}

-- ---- what has a number where one more came

module _ {X : Type 0} where
  at_more : (xs : List X) (x : X) (n : ℕ) (y : X) → slice_get (xs ++ x ∷ []) n ≡ Some y → ((slice_get xs n ≡ Some y) × (n < length xs)) ⊎ ((y ≡ x) × (n ≡ length xs))
  at_more [] x zero y is = inr (some_is y x (sym is), refl)
  at_more [] x (suc n) y is = absurd (not_none y is)
  at_more (z ∷ xs) x zero y is = inl (is, omega arith)
  at_more (z ∷ xs) x (suc n) y is = by (at_more xs x n y is)
    where
      by : ((slice_get xs n ≡ Some y) × (n < length xs)) ⊎ ((y ≡ x) × (n ≡ length xs)) → ((slice_get xs n ≡ Some y) × (suc n < length (z ∷ xs))) ⊎ ((y ≡ x) × (suc n ≡ length (z ∷ xs)))
      by (inl (there, below)) = inl (there, omega arith)
      by (inr (last, number)) = inr (last, ap suc number)

  at_grown : (xs : List X) (x : X) (n : ℕ) (y : X) → slice_get xs n ≡ Some y → slice_get (xs ++ x ∷ []) n ≡ Some y
  at_grown [] x n y is = absurd (not_none y is)
  at_grown (z ∷ xs) x zero y is = is
  at_grown (z ∷ xs) x (suc n) y is = at_grown xs x n y is

  pub numbered_grown : (xs : List X) (x : X) (k : ℕ) (y : X) → numbered xs k ≡ Some y → numbered (xs ++ x ∷ []) k ≡ Some y
  numbered_grown xs x zero y is = is
  numbered_grown xs x (suc n) y is = at_grown xs x n y is

  numbered_more : (xs : List X) (x : X) (k : ℕ) (y : X) → numbered (xs ++ x ∷ []) k ≡ Some y → ((numbered xs k ≡ Some y) × (k < suc (length xs))) ⊎ ((y ≡ x) × (k ≡ suc (length xs)))
  numbered_more xs x zero y is = absurd (not_none y is)
  numbered_more xs x (suc n) y is = by (at_more xs x n y is)
    where
      by : ((slice_get xs n ≡ Some y) × (n < length xs)) ⊎ ((y ≡ x) × (n ≡ length xs)) → ((slice_get xs n ≡ Some y) × (suc n < suc (length xs))) ⊎ ((y ≡ x) × (suc n ≡ suc (length xs)))
      by (inl (there, below)) = inl (there, omega arith)
      by (inr (last, number)) = inr (last, ap suc number)

-- ---- what holds of it

pub record PoolKeeps (clients : List Client) (requests : List Request) : Type 0 where
  pub sent : (k : ℕ) (q : Request) (c : Client) → numbered requests k ≡ Some q → numbered clients q.sender ≡ Some c → q.stamp.frame ≤ c.number
  pub connection : (k : ℕ) (q : Request) → numbered requests k ≡ Some q → q.stamp.connection ≡ q.sender
  pub rise : (j k : ℕ) (q r : Request) → numbered requests j ≡ Some q → numbered requests k ≡ Some r → q.sender ≡ r.sender → j < k → q.stamp.frame < r.stamp.frame

-- what an act does to clients and requests: nothing, a client changes, or it sends a request
pub record Changes (clients : List Client) (n : ℕ) (after : List Client) : Type 0 where
  pub old : Client
  pub new : Client
  pub was : numbered clients n ≡ Some old
  pub number : old.number ≤ new.number
  pub is : after ≡ renumbered clients n new

pub record Sends (clients : List Client) (requests : List Request) (n : ℕ) (after : List Client) (sent : List Request) : Type 0 where
  pub old : Client
  pub new : Client
  pub body : List ℕ
  pub was : numbered clients n ≡ Some old
  pub number : old.number < new.number
  pub is : after ≡ renumbered clients n new
  pub request : sent ≡ requests ++ record { sender = n; stamp = stamp_of n new; body = body } ∷ []

pub data PoolStep (clients : List Client) (requests : List Request) (after : List Client) (sent : List Request) : Type 0 where
  Keeps : after ≡ clients → sent ≡ requests → PoolStep clients requests after sent
  Changed : (n : ℕ) → Changes clients n after → sent ≡ requests → PoolStep clients requests after sent
  Sent : (n : ℕ) → Sends clients requests n after sent → PoolStep clients requests after sent

module _ (clients : List Client) (requests : List Request) (keeps : PoolKeeps clients requests) where
  changed_sent : (n : ℕ) (after : List Client) → Changes clients n after → (k : ℕ) (q : Request) (c : Client) → numbered requests k ≡ Some q → numbered after q.sender ≡ Some c → q.stamp.frame ≤ c.number
  changed_sent n after ch k q c pooled there = by (place q.sender n)
    where
      there_now : numbered (renumbered clients n ch.new) q.sender ≡ Some c
      there_now = ap (λ (xs : List Client). numbered xs q.sender) (sym ch.is) ∙ there

      by : Place q.sender n → q.stamp.frame ≤ c.number
      by (at same) =
          let is_new : c ≡ ch.new = some_is c ch.new (sym there_now ∙ ap (numbered (renumbered clients n ch.new)) same ∙ numbered_itself clients n ch.new ch.old ch.was) in
          let below : q.stamp.frame ≤ ch.old.number = keeps.sent k q ch.old pooled (ap (numbered clients) same ∙ ch.was) in
          let more = ch.number in
          subst (λ (x : Client). q.stamp.frame ≤ x.number) (sym is_new) (omega arith)
      by (elsewhere other) = keeps.sent k q c pooled (sym (numbered_other clients n q.sender ch.new other) ∙ there_now)

  pub pool_changed : (n : ℕ) (after : List Client) → Changes clients n after → PoolKeeps after requests
  pool_changed n after ch = record { sent = changed_sent n after ch; connection = keeps.connection; rise = keeps.rise }

  module _ (n : ℕ) (after : List Client) (sent : List Request) (s : Sends clients requests n after sent) where
    abbrev latest : Request
    latest = record { sender = n; stamp = stamp_of n s.new; body = s.body }

    as_change : Changes clients n after
    as_change = record { old = s.old; new = s.new; was = s.was; number = omega (arith, s.number); is = s.is }

    new_there : numbered after n ≡ Some s.new
    new_there = ap (λ (xs : List Client). numbered xs n) s.is ∙ numbered_itself clients n s.new s.old s.was

    grown_sent : (k : ℕ) (q : Request) (c : Client) → numbered (requests ++ latest ∷ []) k ≡ Some q → numbered after q.sender ≡ Some c → q.stamp.frame ≤ c.number
    grown_sent k q c pooled there = by (numbered_more requests latest k q pooled)
      where
        by : ((numbered requests k ≡ Some q) × (k < suc (length requests))) ⊎ ((q ≡ latest) × (k ≡ suc (length requests))) → q.stamp.frame ≤ c.number
        by (inl (before, _)) = changed_sent n after as_change k q c before there
        by (inr (last, _)) =
            let same : c ≡ s.new = some_is c s.new (sym there ∙ ap (λ (x : Request). numbered after x.sender) last ∙ new_there) in
            let frame : q.stamp.frame ≡ s.new.number = ap (λ (x : Request). x.stamp.frame) last in
            let number : c.number ≡ s.new.number = ap (λ (x : Client). x.number) same in
            omega arith

    grown_connection : (k : ℕ) (q : Request) → numbered (requests ++ latest ∷ []) k ≡ Some q → q.stamp.connection ≡ q.sender
    grown_connection k q pooled = by (numbered_more requests latest k q pooled)
      where
        by : ((numbered requests k ≡ Some q) × (k < suc (length requests))) ⊎ ((q ≡ latest) × (k ≡ suc (length requests))) → q.stamp.connection ≡ q.sender
        by (inl (before, _)) = keeps.connection k q before
        by (inr (last, _)) = subst (λ (x : Request). x.stamp.connection ≡ x.sender) (sym last) refl

    grown_rise : (j k : ℕ) (q r : Request) → numbered (requests ++ latest ∷ []) j ≡ Some q → numbered (requests ++ latest ∷ []) k ≡ Some r → q.sender ≡ r.sender → j < k → q.stamp.frame < r.stamp.frame
    grown_rise j k q r is_q is_r same below = by (numbered_more requests latest j q is_q) (numbered_more requests latest k r is_r)
      where
        by : ((numbered requests j ≡ Some q) × (j < suc (length requests))) ⊎ ((q ≡ latest) × (j ≡ suc (length requests)))
            → ((numbered requests k ≡ Some r) × (k < suc (length requests))) ⊎ ((r ≡ latest) × (k ≡ suc (length requests))) → q.stamp.frame < r.stamp.frame
        by (inl (q_before, _)) (inl (r_before, _)) = keeps.rise j k q r q_before r_before same below
        by (inl (q_before, _)) (inr (last, _)) =
            let sender : q.sender ≡ n = same ∙ ap (λ (x : Request). x.sender) last in
            let old : q.stamp.frame ≤ s.old.number = keeps.sent j q s.old q_before (ap (numbered clients) sender ∙ s.was) in
            let frame : r.stamp.frame ≡ s.new.number = ap (λ (x : Request). x.stamp.frame) last in
            let more = s.number in
            omega arith
        by (inr (_, j_last)) (inl (_, k_before)) = absurd (omega arith)
        by (inr (_, j_last)) (inr (_, k_last)) = absurd (omega arith)

    pub pool_sent : PoolKeeps after sent
    pool_sent =
        subst (λ (xs : List Request). PoolKeeps after xs) (sym s.request)
        (record { sent = grown_sent; connection = grown_connection; rise = grown_rise })

pub pool_keeps : (clients : List Client) (requests : List Request) (after : List Client) (sent : List Request) → PoolStep clients requests after sent → PoolKeeps clients requests → PoolKeeps after sent
pool_keeps clients requests after sent (Keeps same still) keeps =
    subst (λ (xs : List Client). PoolKeeps xs sent) (sym same) (subst (λ (xs : List Request). PoolKeeps clients xs) (sym still) keeps)
pool_keeps clients requests after sent (Changed n changes still) keeps = subst (λ (xs : List Request). PoolKeeps after xs) (sym still) (pool_changed clients requests keeps n after changes)
pool_keeps clients requests after sent (Sent n sends) keeps = pool_sent clients requests keeps n after sent sends

pub pool_grows : (clients : List Client) (requests : List Request) (after : List Client) (sent : List Request) → PoolStep clients requests after sent
    → (k : ℕ) (q : Request) → numbered requests k ≡ Some q → numbered sent k ≡ Some q
pool_grows clients requests after sent (Keeps same still) k q is = ap (λ (xs : List Request). numbered xs k) still ∙ is
pool_grows clients requests after sent (Changed n changes still) k q is = ap (λ (xs : List Request). numbered xs k) still ∙ is
pool_grows clients requests after sent (Sent n s) k q is =
    ap (λ (xs : List Request). numbered xs k) s.request ∙ numbered_grown requests (record { sender = n; stamp = stamp_of n s.new; body = s.body }) k q is

-- ---- an act of a client

asked_number : (c : Client) (ask : Ask) → (after_asking c ask).number ≡ suc c.number
asked_number c Join = refl
asked_number c (Beat fullness) = refl
asked_number c Leave = refl
asked_number c GoAway = refl

released_number : (b : Bool) (c : Client) (p : Partition) → (released_if b c p).number ≡ c.number
released_number true c p = refl
released_number false c p = refl

news_number : (c : Client) (news : News) → (after_news c news).number ≡ c.number
news_number c (Accepts m epoch None) = refl
news_number c (Accepts m epoch (Some set)) = refl
news_number c Fences = refl
news_number c Retries = refl
news_number c Ends = refl

taken_number : (b taken : Bool) (c : Client) (body : List ℕ) (new : Client) → TakesIf b c body taken new → new.number ≡ c.number
taken_number false true c body new is = ap (λ (x : Client). x.number) is.1
taken_number false false c body new is = ap (λ (x : Client). x.number) is.1
taken_number true true c body new (news, tells, is) = ap (λ (x : Client). x.number) is ∙ news_number c news
taken_number true false c body new is = ap (λ (x : Client). x.number) is.1

module _ (w : World) (outcome : Outcome) (new : World) where
  abbrev Stepped : Type 0
  Stepped = PoolStep w.clients w.requests new.clients new.requests

  same_pool : new ≡ w → Stepped
  same_pool is = Keeps (ap (λ (x : World). x.clients) is) (ap (λ (x : World). x.requests) is)

  changed_pool : (n : ℕ) (c after : Client) → numbered w.clients n ≡ Some c → after.number ≡ c.number → new ≡ record w { clients = renumbered w.clients n after } → Stepped
  changed_pool n c after was number is =
      Changed n (record { old = c; new = after; was = was; number = omega (arith, number); is = ap (λ (x : World). x.clients) is }) (ap (λ (x : World). x.requests) is)

  asks_pool : (n : ℕ) (ask : Ask) (o : Option Client) → numbered w.clients n ≡ o → AsksStep o w n ask outcome new → Stepped
  asks_pool n ask None there is = same_pool is.1
  asks_pool n ask (Some c) there is = by (may_ask c ask) is
    where
      sends : (large : Bool) → SendsIf large c w n ask outcome new → Stepped
      sends true is = same_pool is.1
      sends false (body, after, asks, is) =
          let number : after.number ≡ suc c.number = ap (λ (x : Client). x.number) asks.after ∙ asked_number c ask in
          Sent n (record {
            old = c;
            new = after;
            body = body;
            was = there;
            number = omega (arith, number);
            is = ap (λ (x : World). x.clients) is.1;
            request = ap (λ (x : World). x.requests) is.1;
          })

      by : (may : Bool) → AsksIf may c w n ask outcome new → Stepped
      by false is = same_pool is.1
      by true is = sends (is_too_large (request_for c ask)) is

  gives_up_pool : (n : ℕ) (o : Option Client) → numbered w.clients n ≡ o → GivesUpStep o w n outcome new → Stepped
  gives_up_pool n None there is = same_pool is.1
  gives_up_pool n (Some c) there is = by c.waits is
    where
      by : (b : Bool) → ChangesIf b (after_giving_up c) w n outcome new → Stepped
      by false is = same_pool is.1
      by true is = changed_pool n c (after_giving_up c) there refl is.1

  release_pool : (n : ℕ) (p : Partition) (o : Option Client) → numbered w.clients n ≡ o → ReleaseStep o w n p outcome new → Stepped
  release_pool n p None there is = same_pool is.1
  release_pool n p (Some c) there is = by (may_release c) is
    where
      by : (b : Bool) → ChangesIf b (after_release c p) w n outcome new → Stepped
      by false is = same_pool is.1
      by true is = changed_pool n c (after_release c p) there (released_number (has c.shown p) c p) is.1

  take_pool : (o : Option Reply) → TakeStep o w outcome new → Stepped
  take_pool None is = same_pool is.1
  take_pool (Some r) is = by (numbered w.clients r.request.sender) refl is
    where
      by : (o : Option Client) → numbered w.clients r.request.sender ≡ o → TakeBy o r w outcome new → Stepped
      by None there is = absurd is
      by (Some c) there (taken, after, takes, is) = taken_as taken is
        where
          taken_as : (b : Bool) → TakenAs b w r.request.sender after outcome new → Stepped
          taken_as true is = changed_pool r.request.sender c after there (taken_number c.waits taken c r.body after takes) is.1
          taken_as false is = same_pool is.1

  commits_pool : (topics : List CommitRequestTopicValue) (o : Option Client) → CommitsStep o w topics outcome new → Stepped
  commits_pool topics None is = same_pool is.1
  commits_pool topics (Some c) is = by (may_commit c (suc (length w.commits))) is
    where
      commits_by : (b : Bool) (k : Commit) → CommitsBy b w k outcome new → Stepped
      commits_by true k is = Keeps (ap (λ (x : World). x.clients) is.1) (ap (λ (x : World). x.requests) is.1)
      commits_by false k is = same_pool is.1

      by : (b : Bool) → CommitsIf b c w topics outcome new → Stepped
      by false is = same_pool is.1
      by true (body, spells, is) = commits_by (fits_frame body) (commit_by c body) is

client_pool : (w : World) (act : Act) (outcome : Outcome) (new : World) → IsClients act → ActStep w act outcome new → PoolStep w.clients w.requests new.clients new.requests
client_pool w (Asks n ask) outcome new own is = asks_pool w outcome new n ask (numbered w.clients n) refl is
client_pool w (GivesUp n) outcome new own is = gives_up_pool w outcome new n (numbered w.clients n) refl is
client_pool w (Deliver k) outcome new own is = absurd own
client_pool w (Take j) outcome new own is = take_pool w outcome new (numbered w.replies j) is
client_pool w (Release n p) outcome new own is = release_pool w outcome new n p (numbered w.clients n) refl is
client_pool w (Commits n topics) outcome new own is = commits_pool w outcome new topics (numbered w.clients n) is
client_pool w (Bring k) outcome new own is = absurd own
client_pool w (Clock moment) outcome new own is = absurd own
client_pool w (Passes moment) outcome new own is = absurd own
client_pool w (Sees image) outcome new own is = absurd own

-- ---- an act of a world over replicas

pools_pool : (w : World) (q : Request) (answer : Answer) (outcome : Outcome) (new : World) → Pools w q answer outcome new → (new.clients ≡ w.clients) × (new.requests ≡ w.requests)
pools_pool w q (Replied frame) outcome new is = (ap (λ (x : World). x.clients) is.5.1, ap (λ (x : World). x.requests) is.5.1)
pools_pool w q Closes outcome new is = (ap (λ (x : World). x.clients) is.1, ap (λ (x : World). x.requests) is.1)
pools_pool w q (Done removed) outcome new is = absurd is

answers_pool : (w : World) (answer : Answer) (outcome : Outcome) (new : World) → Answers w answer outcome new → (new.clients ≡ w.clients) × (new.requests ≡ w.requests)
answers_pool w (Replied frame) outcome new is = (ap (λ (x : World). x.clients) is.5.1, ap (λ (x : World). x.requests) is.5.1)
answers_pool w Closes outcome new is = absurd is
answers_pool w (Done removed) outcome new is = absurd is

becomes_pool : (s t : ReplicaWorld) (after : ReplicaWorld) → t ≡ after → PoolStep s.clients s.requests after.clients after.requests → PoolStep s.clients s.requests t.clients t.requests
becomes_pool s t after is step = subst (λ (x : ReplicaWorld). PoolStep s.clients s.requests x.clients x.requests) (sym is) step

pub step_pool : (s : ReplicaWorld) (act : ReplicaAct) (outcome : Outcome) (t : ReplicaWorld) → ReplicaStep s act outcome t → PoolStep s.clients s.requests t.clients t.requests
step_pool s (Does act) outcome t (own, after, is, becomes) = becomes_pool s t (over_log s.log after) becomes (client_pool (world_of s) act outcome after own is)
step_pool s (Delivers k e) outcome t d =
    let same = pools_pool (with_coordinator (world_of s) d.log.coordinator) d.request d.answer outcome d.after d.pools in
    becomes_pool s t (over_log d.log d.after) d.becomes (Keeps same.0 same.1)
step_pool s (Brings k e) outcome t b =
    let same = answers_pool (with_coordinator (world_of s) b.log.coordinator) b.answer outcome b.after b.answers in
    becomes_pool s t (over_log b.log b.after) b.becomes (Keeps same.0 same.1)
step_pool s (Goes e) outcome t g = becomes_pool s t (over_log g.log (with_coordinator (world_of s) g.log.coordinator)) g.becomes (Keeps refl refl)

pub run_pool : (acts : List ReplicaAct) (outcomes : List Outcome) (s t : ReplicaWorld) → ReplicaRun s acts outcomes t → PoolKeeps s.clients s.requests → PoolKeeps t.clients t.requests
run_pool [] [] s t is keeps = subst (λ (x : ReplicaWorld). PoolKeeps x.clients x.requests) (sym is) keeps
run_pool [] (outcome ∷ outcomes) s t is keeps = absurd is
run_pool (act ∷ acts) [] s t is keeps = absurd is
run_pool (act ∷ acts) (outcome ∷ outcomes) s t (middle, step, later) keeps =
    run_pool acts outcomes middle t later (pool_keeps s.clients s.requests middle.clients middle.requests (step_pool s act outcome middle step) keeps)

pub run_grows : (acts : List ReplicaAct) (outcomes : List Outcome) (s t : ReplicaWorld) → ReplicaRun s acts outcomes t
    → (k : ℕ) (q : Request) → numbered s.requests k ≡ Some q → numbered t.requests k ≡ Some q
run_grows [] [] s t is k q there = ap (λ (x : ReplicaWorld). numbered x.requests k) is ∙ there
run_grows [] (outcome ∷ outcomes) s t is k q there = absurd is
run_grows (act ∷ acts) [] s t is k q there = absurd is
run_grows (act ∷ acts) (outcome ∷ outcomes) s t (middle, step, later) k q there =
    run_grows acts outcomes middle t later k q (pool_grows s.clients s.requests middle.clients middle.requests (step_pool s act outcome middle step) k q there)

pub empty_pool : (clients : List Client) → PoolKeeps clients []
empty_pool clients =
    record {
      sent = λ k q c is. absurd (none k q is);
      connection = λ k q is. absurd (none k q is);
      rise = λ j k q r is. absurd (none j q is);
    }
  where
    none : (k : ℕ) (q : Request) → numbered {X = Request} [] k ≡ Some q → ⊥
    none zero q is = not_none q is
    none (suc n) q is = not_none q is
