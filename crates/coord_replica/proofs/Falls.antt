-- Along a log neither leaderships nor moments fall.
use Rattle.std.proofs.Common.{◌≡◌, ℕ, zero, suc, ◌<◌, ◌≤◌, List, [], ◌∷◌, length, get_or, Option, Some, None, Ok, Err, ap, subst, arith}
use Rattle.std.specs.Prelude.{unwrap_or}
use Rattle.std.specs.List.Sorted.{IsNonDecreasing}
use Rattle.std.specs.List.{cons_option}
use Rattle.coord_replica.specs.Applying.{Fate, LogRun, Logged, PassedOver, Taken, entries_taken, leadership_due}
use Rattle.coord_replica.specs.Entries.{leaderships_of, moment_in, moments_of}
use Rattle.coord_replica.specs.Laws.{NeverFall}
use Rattle.coord_replica.specs.Replicas.{LogState}
use Rattle.coord_replica.proofs.Refusals.{IsDue-from_refusal_of, leadership_due-rises}

-- each number is at least the one before it, and the first at least n
abbrev RisesFrom : ℕ → List ℕ → Type 0
RisesFrom n [] = Unit {0}
RisesFrom n (x ∷ xs) = (n ≤ x) × RisesFrom x xs

RisesFrom-least : (n k d : ℕ) (xs : List ℕ) → RisesFrom n xs → k < length xs → n ≤ get_or xs k d
RisesFrom-least n k d [] rises within = absurd (omega arith)
RisesFrom-least n zero d (x ∷ xs) rises within = rises.0
RisesFrom-least n (suc k) d (x ∷ xs) rises within =
    let further : k < length xs = omega arith in let rest = RisesFrom-least x k d xs rises.1 further in let first : n ≤ x = rises.0 in omega arith

in_order : (n i j d : ℕ) (xs : List ℕ) → RisesFrom n xs → i ≤ j → j < length xs → get_or xs i d ≤ get_or xs j d
in_order n i j d [] rises le within = absurd (omega arith)
in_order n zero zero d (x ∷ xs) rises le within = omega arith
in_order n zero (suc j) d (x ∷ xs) rises le within = let further : j < length xs = omega arith in RisesFrom-least x j d xs rises.1 further
in_order n (suc i) zero d (x ∷ xs) rises le within = absurd (omega arith)
in_order n (suc i) (suc j) d (x ∷ xs) rises le within =
    let le' : i ≤ j = omega arith in let further : j < length xs = omega arith in in_order x i j d xs rises.1 le' further

IsNonDecreasing-from_rises : (n : ℕ) (xs : List ℕ) → RisesFrom n xs → IsNonDecreasing xs
IsNonDecreasing-from_rises n xs rises = λ i j d le within. in_order n i j d xs rises le within

RisesFrom-front : (n : ℕ) (m : Option ℕ) (xs : List ℕ) → n ≤ unwrap_or m n → RisesFrom (unwrap_or m n) xs → RisesFrom n (cons_option m xs)
RisesFrom-front n None xs le rises = rises
RisesFrom-front n (Some m) xs le rises = (le, rises)

leaderships_rise : (s t : LogState) (log : List Logged) (fates : List Fate)
    → LogRun s log fates t → RisesFrom s.leadership (leaderships_of (entries_taken log fates))
leaderships_rise s t [] fates run = tt
leaderships_rise s t (at ∷ log) [] run = absurd run
leaderships_rise s t (Ok e ∷ log) (Taken a ∷ fates) run =
    let due = IsDue-from_refusal_of s e run.1.taken in
    let least = leadership_due-rises s.leadership e.content in
    let is : e.leadership ≡ leadership_due s.leadership e.content = due.leadership in
    (omega arith, subst (λ (n : ℕ). RisesFrom n (leaderships_of (entries_taken log fates))) run.1.leadership (leaderships_rise run.0 t log fates run.2))
leaderships_rise s t (Err fault ∷ log) (Taken a ∷ fates) run = absurd run.1
leaderships_rise s t (at ∷ log) (PassedOver fault ∷ fates) run =
    subst (λ (n : ℕ). RisesFrom n (leaderships_of (entries_taken log fates))) (ap (λ (x : LogState). x.leadership) run.1.becomes)
    (leaderships_rise run.0 t log fates run.2)

moments_rise : (s t : LogState) (log : List Logged) (fates : List Fate)
    → LogRun s log fates t → RisesFrom s.moment (moments_of (entries_taken log fates))
moments_rise s t [] fates run = tt
moments_rise s t (at ∷ log) [] run = absurd run
moments_rise s t (Ok e ∷ log) (Taken a ∷ fates) run =
    let due = IsDue-from_refusal_of s e run.1.taken in
    RisesFrom-front s.moment (moment_in e.content) (moments_of (entries_taken log fates)) due.moment
    (subst (λ (n : ℕ). RisesFrom n (moments_of (entries_taken log fates))) run.1.moment (moments_rise run.0 t log fates run.2))
moments_rise s t (Err fault ∷ log) (Taken a ∷ fates) run = absurd run.1
moments_rise s t (at ∷ log) (PassedOver fault ∷ fates) run =
    subst (λ (n : ℕ). RisesFrom n (moments_of (entries_taken log fates))) (ap (λ (x : LogState). x.moment) run.1.becomes)
    (moments_rise run.0 t log fates run.2)

pub logs_never_fall : (s : LogState) (log : List Logged) (fates : List Fate) (t : LogState) → LogRun s log fates t → NeverFall (entries_taken log fates)
logs_never_fall s log fates t run =
    record {
      leaderships = IsNonDecreasing-from_rises s.leadership (leaderships_of (entries_taken log fates)) (leaderships_rise s t log fates run);
      moments = IsNonDecreasing-from_rises s.moment (moments_of (entries_taken log fates)) (moments_rise s t log fates run);
    }
