-- After every history each replica has what a beginning of the log comes to, and each answer is the log's.
use Rattle.std.proofs.Common.{◌≡◌, ℕ, zero, suc, ◌+◌, ◌<◌, ◌⊎◌, inl, inr, true, false, cond, List, [], ◌∷◌, ◌++◌, length, length-append, Option, Some, None, Ok, Err, refl, sym, ap, subst, ◌∙◌, append_assoc, arith}
use Rattle.std.specs.Prelude.{◌==◌, Contains, slice_get}
use Rattle.coord_node.specs.Coordinator.{Answer}
use Rattle.coord_node.specs.Laws.{OneAnswer}
use Rattle.replica_entries.specs.Values.{ContentValue, EntryValue, frame, tick, image, leads}
use Rattle.coord_replica.specs.Applying.{Applies, Fate, LogRun, Logged, PassedOver, Taken, Takes, answer_in, moved_by, moved_to}
use Rattle.coord_replica.specs.Proposing.{begun}
use Rattle.coord_replica.specs.Histories.{Act, Lead, Begin, Propose, Append, Apply, Lose, Save, Restore, ActStep, Cluster, FollowsLog, Given, History, IsAnswerAt, cluster_opening, with_answer, with_replica}
use Rattle.coord_replica.specs.Replicas.{LogState, ReplicaState, following, log_opening, replica_opening}
use Rattle.coord_replica.proofs.Runs.{LogRun-push, applies-applied}
use Rattle.coord_replica.proofs.Same.{same_run, same_takes}

-- ---- a log that grew

FollowsLog-append : (start s : LogState) (log more : List Logged) → FollowsLog start log s → FollowsLog start (log ++ more) s
FollowsLog-append start s log more it =
    record {
      before = it.before;
      behind = it.behind ++ more;
      stands = ap (λ (l : List Logged). l ++ more) it.stands ∙ append_assoc it.before it.behind more;
      at_place = it.at_place;
      fates = it.fates;
      run = it.run;
    }

IsAnswerAt-append : (start : LogState) (log more : List Logged) (place : ℕ) (answer : Answer)
    → IsAnswerAt start log place answer → IsAnswerAt start (log ++ more) place answer
IsAnswerAt-append start log more place answer it =
    record {
      before = it.before;
      entry = it.entry;
      behind = it.behind ++ more;
      stands = ap (λ (l : List Logged). l ++ more) it.stands ∙ append_assoc it.before (Ok it.entry ∷ it.behind) more;
      at_place = it.at_place;
      fates = it.fates;
      middle = it.middle;
      run = it.run;
      after = it.after;
      takes = it.takes;
    }

-- ---- one entry more

-- the place behind the first ones
front : (before behind : List Logged) (at : Logged) → slice_get (before ++ behind) (length before) ≡ Some at
    → (rest : List Logged) × (behind ≡ at ∷ rest)
front [] [] at is = cc
front [] (x ∷ xs) at is = (xs, let same : x ≡ at = cc in λ i. same i ∷ xs)
front (b ∷ bs) behind at is = front bs behind at is

next_at : (start s : LogState) (log : List Logged) (at : Logged) (it : FollowsLog start log s) → slice_get log s.applied ≡ Some at
    → (rest : List Logged) × (it.behind ≡ at ∷ rest)
next_at start s log at it is =
    let there : slice_get (it.before ++ it.behind) s.applied ≡ Some at = subst (λ (l : List Logged). slice_get l s.applied ≡ Some at) it.stands is in
    front it.before it.behind at (subst (λ (n : ℕ). slice_get (it.before ++ it.behind) n ≡ Some at) it.at_place there)

FollowsLog-next : (start s t : LogState) (log : List Logged) (at : Logged) (fate : Fate)
    → FollowsLog start log s → slice_get log s.applied ≡ Some at → Applies s at fate t → FollowsLog start log t
FollowsLog-next start s t log at fate it is step =
    let next = next_at start s log at it is in
    let rest : List Logged = next.0 in
    let behind : it.behind ≡ at ∷ rest = next.1 in
    record {
      before = it.before ++ at ∷ [];
      behind = rest;
      stands = it.stands ∙ ap (λ (l : List Logged). it.before ++ l) behind ∙ sym (append_assoc it.before (at ∷ []) rest);
      at_place = let more : length (it.before ++ at ∷ []) ≡ length it.before + length (at ∷ []) = length-append it.before (at ∷ []) in
          let now : t.applied ≡ s.applied + 1 = applies-applied s t at fate step in let was : s.applied ≡ length it.before = it.at_place in omega arith;
      fates = it.fates ++ fate ∷ [];
      run = LogRun-push start s t it.before it.fates at fate it.run step;
    }

-- what is answered at a place is answered to an entry that is taken
taken_at : (s t : LogState) (at : Logged) (fate : Fate) (answer : Answer) → Applies s at fate t → answer_in fate ≡ Some answer
    → (e : EntryValue) × (at ≡ Ok e) × Takes s e (Some answer) t
taken_at s t (Ok e) (Taken given) answer step is = (e, refl, subst (λ (x : Option Answer). Takes s e x t) is step)
taken_at s t (Err fault) (Taken given) answer step is = absurd step
taken_at s t at (PassedOver fault) answer step is = let never : None ≡ Some answer = is in cc

IsAnswerAt-next : (start s t : LogState) (log : List Logged) (at : Logged) (fate : Fate) (answer : Answer)
    → FollowsLog start log s → slice_get log s.applied ≡ Some at → Applies s at fate t → answer_in fate ≡ Some answer → IsAnswerAt start log t.applied answer
IsAnswerAt-next start s t log at fate answer it is step answered =
    let next = next_at start s log at it is in
    let rest : List Logged = next.0 in
    let behind : it.behind ≡ at ∷ rest = next.1 in
    let taken = taken_at s t at fate answer step answered in
    let e : EntryValue = taken.0 in
    let read : at ≡ Ok e = taken.1 in
    record {
      before = it.before;
      entry = e;
      behind = rest;
      stands = it.stands ∙ ap (λ (l : List Logged). it.before ++ l) (behind ∙ ap (λ (x : Logged). x ∷ rest) read);
      at_place = let now : t.applied ≡ s.applied + 1 = applies-applied s t at fate step in let was : s.applied ≡ length it.before = it.at_place in omega arith;
      fates = it.fates;
      middle = s;
      run = it.run;
      after = t;
      takes = taken.2;
    }

-- ---- what every act keeps

record Holds (salt : ℕ) (c : Cluster) : Type 0 where
  same_salt : c.salt ≡ salt
  replicas : (number : ℕ) → FollowsLog (log_opening salt) c.log (c.replicas number).log
  snapshots : (s : LogState) → Contains c.snapshots s → FollowsLog (log_opening salt) c.log s
  answers : (given : Given) → Contains c.given given → IsAnswerAt (log_opening salt) c.log given.place given.answer

log-moved_to : (r : ReplicaState) (content : ContentValue) (log : LogState) → (moved_to r content log).log ≡ log
log-moved_to r (frame f) log = refl
log-moved_to r (tick m) log = refl
log-moved_to r (image topics) log = refl
log-moved_to r leads log = refl

log-moved_by : (fate : Fate) (r : ReplicaState) (at : Logged) (log : LogState) → (moved_by fate r at log).log ≡ log
log-moved_by (Taken answer) r (Ok e) log = log-moved_to r e.content log
log-moved_by (Taken answer) r (Err fault) log = refl
log-moved_by (PassedOver fault) r at log = refl

opening_follows : (salt : ℕ) (log : List Logged) → FollowsLog (log_opening salt) log (log_opening salt)
opening_follows salt log = record { before = []; behind = log; stands = refl; at_place = refl; fates = []; run = refl }

-- one replica has another state
one_other : (start : LogState) (log : List Logged) (replicas : ℕ → ReplicaState) (number : ℕ) (r : ReplicaState)
    → ((n : ℕ) → FollowsLog start log (replicas n).log) → FollowsLog start log r.log
    → (n : ℕ) → FollowsLog start log (cond (n == number) r (replicas n)).log
one_other start log replicas number r others it n =
    elim (n == number) as (λ b. FollowsLog start log (cond b r (replicas n)).log) [ true ↦ it | false ↦ others n ]

Holds-with_replica : (salt : ℕ) (c : Cluster) (number : ℕ) (r : ReplicaState) → Holds salt c → FollowsLog (log_opening salt) c.log r.log
    → Holds salt (with_replica c number r)
Holds-with_replica salt c number r holds it =
    record {
      same_salt = holds.same_salt;
      replicas = one_other (log_opening salt) c.log c.replicas number r holds.replicas it;
      snapshots = holds.snapshots;
      answers = holds.answers;
    }

-- the first, or one of the others
Contains-case : {X : Type 0} (x : X) (xs : List X) (y : X) → Contains (x ∷ xs) y → (x ≡ y) ⊎ Contains xs y
Contains-case x xs y (zero, within, is) = inl is
Contains-case x xs y (suc k, within, is) = let further : k < length xs = omega arith in inr (k, further, is)

Holds-with_answer : (salt : ℕ) (c : Cluster) (number place : ℕ) (answer : Option Answer) → Holds salt c
    → ((a : Answer) → answer ≡ Some a → IsAnswerAt (log_opening salt) c.log place a) → Holds salt (with_answer c number place answer)
Holds-with_answer salt c number place None holds it = holds
Holds-with_answer salt c number place (Some answer) holds it =
    record {
      same_salt = holds.same_salt;
      replicas = holds.replicas;
      snapshots = holds.snapshots;
      answers = λ given in'. elim (Contains-case (record { replica = number; place = place; answer = answer }) c.given given in') [
        | inl is ↦ subst (λ (g : Given). IsAnswerAt (log_opening salt) c.log g.place g.answer) is (it answer refl)
        | inr others ↦ holds.answers given others
      ];
    }

Holds-act : (salt : ℕ) (c new : Cluster) (act : Act) → Holds salt c → ActStep c act new → Holds salt new
Holds-act salt c new (Lead number) holds step =
    subst (λ (x : Cluster). Holds salt x) (sym step) (record { same_salt = holds.same_salt; replicas = holds.replicas; snapshots = holds.snapshots; answers = holds.answers })
Holds-act salt c new (Begin number clock) holds step =
    subst (λ (x : Cluster). Holds salt x) (sym step) (Holds-with_replica salt c number (begun (c.replicas number) clock) holds (holds.replicas number))
Holds-act salt c new (Propose number e) holds step =
    let kept : (c.replicas number).log ≡ step.0.log = sym (ap (λ (r : ReplicaState). r.log) step.1.kept) in
    let follows : FollowsLog (log_opening salt) c.log step.0.log = subst (λ (l : LogState). FollowsLog (log_opening salt) c.log l) kept (holds.replicas number) in
    let other = Holds-with_replica salt c number step.0 holds follows in
    subst (λ (x : Cluster). Holds salt x) (sym step.2) (record { same_salt = other.same_salt; replicas = other.replicas; snapshots = other.snapshots; answers = other.answers })
Holds-act salt c new (Append at) holds step =
    subst (λ (x : Cluster). Holds salt x) (sym step.1)
    (record {
      same_salt = holds.same_salt;
      replicas = λ number. FollowsLog-append (log_opening salt) (c.replicas number).log c.log (at ∷ []) (holds.replicas number);
      snapshots = λ s in'. FollowsLog-append (log_opening salt) s c.log (at ∷ []) (holds.snapshots s in');
      answers = λ given in'. IsAnswerAt-append (log_opening salt) c.log (at ∷ []) given.place given.answer (holds.answers given in');
    })
Holds-act salt c new (Apply number) holds step =
    let s : LogState = (c.replicas number).log in
    let moved : ReplicaState = moved_by step.fate (c.replicas number) step.at step.log in
    let is : step.log ≡ moved.log = sym (log-moved_by step.fate (c.replicas number) step.at step.log) in
    let follows = FollowsLog-next (log_opening salt) s step.log c.log step.at step.fate (holds.replicas number) step.next step.applies in
    let other = Holds-with_replica salt c number moved holds (subst (λ (l : LogState). FollowsLog (log_opening salt) c.log l) is follows) in
    let answered : (a : Answer) → answer_in step.fate ≡ Some a → IsAnswerAt (log_opening salt) c.log step.log.applied a =
    λ a given. IsAnswerAt-next (log_opening salt) s step.log c.log step.at step.fate a (holds.replicas number) step.next step.applies given in
    subst (λ (x : Cluster). Holds salt x) (sym step.becomes)
    (Holds-with_answer salt (with_replica c number moved) number step.log.applied (answer_in step.fate) other answered)
Holds-act salt c new (Lose number) holds step =
    let opens : FollowsLog (log_opening salt) c.log (log_opening c.salt) =
    subst (λ (n : ℕ). FollowsLog (log_opening salt) c.log (log_opening n)) (sym holds.same_salt) (opening_follows salt c.log) in
    subst (λ (x : Cluster). Holds salt x) (sym step) (Holds-with_replica salt c number (replica_opening c.salt) holds opens)
Holds-act salt c new (Save number) holds step =
    let saved : LogState = (c.replicas number).log in
    subst (λ (x : Cluster). Holds salt x) (sym step)
    (record {
      same_salt = holds.same_salt;
      replicas = holds.replicas;
      snapshots = λ s in'. elim (Contains-case saved c.snapshots s in') [
        | inl is ↦ subst (λ (t : LogState). FollowsLog (log_opening salt) c.log t) is (holds.replicas number)
        | inr others ↦ holds.snapshots s others
      ];
      answers = holds.answers;
    })
Holds-act salt c new (Restore number s) holds step =
    subst (λ (x : Cluster). Holds salt x) (sym step.1) (Holds-with_replica salt c number (following s) holds (holds.snapshots s step.0))

Holds-history : (salt : ℕ) (acts : List Act) (c new : Cluster) → Holds salt c → History c acts new → Holds salt new
Holds-history salt [] c new holds history = subst (λ (x : Cluster). Holds salt x) (sym history) holds
Holds-history salt (act ∷ acts) c new holds history =
    Holds-history salt acts history.0 new (Holds-act salt c history.0 act holds history.1) history.2

none_there : {X : Type 0} (x : X) → Contains [] x → ⊥
none_there x (k, within, is) = omega arith

holds_after : (salt : ℕ) (acts : List Act) (c : Cluster) → History (cluster_opening salt) acts c → Holds salt c
holds_after salt acts c history =
    Holds-history salt acts (cluster_opening salt) c
    (record {
      same_salt = refl;
      replicas = λ number. opening_follows salt [];
      snapshots = λ s in'. absurd (none_there s in');
      answers = λ given in'. absurd (none_there given in');
    }) history

pub replicas_follow : (salt : ℕ) (acts : List Act) (c : Cluster) → History (cluster_opening salt) acts c
    → (number : ℕ) → FollowsLog (log_opening salt) c.log (c.replicas number).log
replicas_follow salt acts c history = (holds_after salt acts c history).replicas

pub answers_are_the_logs : (salt : ℕ) (acts : List Act) (c : Cluster) → History (cluster_opening salt) acts c
    → (given : Given) → Contains c.given given → IsAnswerAt (log_opening salt) c.log given.place given.answer
answers_are_the_logs salt acts c history = (holds_after salt acts c history).answers

-- ---- one answer a place

-- beginnings of one length are the same, and so are the places behind them
same_front : (a b : List Logged) (e f : Logged) (r q : List Logged) → length a ≡ length b → a ++ e ∷ r ≡ b ++ f ∷ q → (a ≡ b) × (e ≡ f)
same_front [] [] e f r q same is = (refl, cc)
same_front [] (y ∷ b) e f r q same is = absurd (omega arith)
same_front (x ∷ a) [] e f r q same is = absurd (omega arith)
same_front (x ∷ a) (y ∷ b) e f r q same is =
    let head : x ≡ y = cc in
    let tail : a ++ e ∷ r ≡ b ++ f ∷ q = cc in
    let shorter : length a ≡ length b = omega arith in
    let rest = same_front a b e f r q shorter tail in
    let others : a ≡ b = rest.0 in
    (λ i. head i ∷ others i, rest.1)

same_beginning : (a b r q : List Logged) → length a ≡ length b → a ++ r ≡ b ++ q → a ≡ b
same_beginning [] [] r q same is = refl
same_beginning [] (y ∷ b) r q same is = absurd (omega arith)
same_beginning (x ∷ a) [] r q same is = absurd (omega arith)
same_beginning (x ∷ a) (y ∷ b) r q same is =
    let head : x ≡ y = cc in
    let tail : a ++ r ≡ b ++ q = cc in
    let shorter : length a ≡ length b = omega arith in
    let others : a ≡ b = same_beginning a b r q shorter tail in
    λ i. head i ∷ others i

-- an entry that was read is one
same_read : (e f : EntryValue) → (let one : Logged = Ok e in let other : Logged = Ok f in one ≡ other) → e ≡ f
same_read e f is = cc

module _ (one_answer : OneAnswer) where
  same_answer_at : (start : LogState) (log : List Logged) (place : ℕ) (a b : Answer)
      → IsAnswerAt start log place a → IsAnswerAt start log place b → a ≡ b
  same_answer_at start log place a b one other =
      let same : length one.before ≡ length other.before =
      let first : place ≡ length one.before + 1 = one.at_place in let second : place ≡ length other.before + 1 = other.at_place in omega arith in
      let fronts = same_front one.before other.before (Ok one.entry) (Ok other.entry) one.behind other.behind same (sym one.stands ∙ other.stands) in
      let entry : one.entry ≡ other.entry = same_read one.entry other.entry fronts.1 in
      let run : LogRun start one.before other.fates other.middle = subst (λ (l : List Logged). LogRun start l other.fates other.middle) (sym fronts.0) other.run in
      let runs = same_run one_answer start one.before one.fates other.fates one.middle other.middle one.run run in
      let there : Takes one.middle other.entry (Some b) other.after = subst (λ (s : LogState). Takes s other.entry (Some b) other.after) (sym runs.1) other.takes in
      let step : Takes one.middle one.entry (Some b) other.after = subst (λ (e : EntryValue). Takes one.middle e (Some b) other.after) (sym entry) there in
      let last = same_takes one_answer one.middle one.entry (Some a) (Some b) one.after other.after one.takes step in
      let is : Some a ≡ Some b = last.0 in cc

  pub one_answer_a_place : (salt : ℕ) (acts : List Act) (c : Cluster) → History (cluster_opening salt) acts c
      → (one other : Given) → Contains c.given one → Contains c.given other → one.place ≡ other.place → one.answer ≡ other.answer
  one_answer_a_place salt acts c history one other has has' same =
      same_answer_at (log_opening salt) c.log one.place one.answer other.answer (answers_are_the_logs salt acts c history one has)
      (subst (λ (n : ℕ). IsAnswerAt (log_opening salt) c.log n other.answer) (sym same) (answers_are_the_logs salt acts c history other has'))

  same_state : (start : LogState) (log : List Logged) (s t : LogState) → FollowsLog start log s → FollowsLog start log t → s.applied ≡ t.applied → s ≡ t
  same_state start log s t one other same =
      let lengths : length one.before ≡ length other.before =
      let first : s.applied ≡ length one.before = one.at_place in let second : t.applied ≡ length other.before = other.at_place in omega arith in
      let before : one.before ≡ other.before = same_beginning one.before other.before one.behind other.behind lengths (sym one.stands ∙ other.stands) in
      let run : LogRun start one.before other.fates t = subst (λ (l : List Logged). LogRun start l other.fates t) (sym before) other.run in
      let runs = same_run one_answer start one.before one.fates other.fates s t one.run run in
      runs.1

  pub one_state_a_place : (salt : ℕ) (acts : List Act) (c : Cluster) → History (cluster_opening salt) acts c
      → (one other : ℕ) → (c.replicas one).log.applied ≡ (c.replicas other).log.applied → (c.replicas one).log ≡ (c.replicas other).log
  one_state_a_place salt acts c history one other same =
      same_state (log_opening salt) c.log (c.replicas one).log (c.replicas other).log (replicas_follow salt acts c history one)
      (replicas_follow salt acts c history other) same
