-- What a worker's poll has registered.
use Rattle.std.proofs.Common.{◌≡◌, ◌≢◌, ◌⊎◌, inl, inr, ℕ, ◌+◌, ◌<◌, ◌≤◌, min, Bool, true, false, List, [], ◌∷◌, length, get_or, set, All, ⊎_elim, refl, arith, length-set, get_or-set_other, get_or-set_same, Option}
use Rattle.std.proofs.Common.{Contains}
use Rattle.std.proofs.lemmas.Bool.{cases_eq, cases_lt}
use Rattle.std.proofs.lemmas.List.Elements.{All-contains}
use Rattle.futures.specs.declared.task.context.Context.{Context}
use Rattle.futures.specs.declared.stream.futures_unordered.FuturesUnordered.{FuturesUnordered}
use Rattle.futures.specs.Task.{Covers, Keeps}
use Rattle.link_futures.specs.declared.line.Line.{Line}
use Rattle.link_futures.specs.Stream.{WantsBytes, SendNeeds, LineNeeds}
use Rattle.link_futures.specs.Resting.{RestingNeed}
use Rattle.link_futures.specs.Workers.{AreArmedBut, WorkerNeeds}
use Rattle.link_futures.proofs.TurnLemmas.{Covers_kept, Covers_fewer}

-- sources of which there are no more after a turn than before
abbrev Fewer : (ℕ → Type 0) → (ℕ → Type 0) → Type 0
Fewer before after = (source : ℕ) → after source → before source

module _ {R W : Type 0} (read : R → ℕ → Type 0) (write : W → ℕ → Type 0) where
  -- before a place each line but those of a range is registered for what it needs, and so is each line behind those that have turns
  abbrev pub AreArmed : (ℕ → Type 0) → Context → List (Line R W) → ℕ → ℕ → ℕ → ℕ → Type 0
  AreArmed desk cx lines place first behind end =
      (k : ℕ) (d : Line R W) → k < length lines → ((k < place) × ((k < first) ⊎ (behind ≤ k))) ⊎ (end ≤ k) → Covers cx (LineNeeds read write desk (get_or lines k d))

  fewer_needs : (desk left : ℕ → Type 0) → Fewer desk left → (line : Line R W) (source : ℕ) → LineNeeds read write left line source → LineNeeds read write desk line source
  fewer_needs desk left fewer line source need =
      ⊎_elim
      (λ (h : WantsBytes line × read line.reader source). inl h)
      (λ (h : (0 < length line.outbox) × SendNeeds write left line source).
      inr (
        h.0,
        ⊎_elim
            (λ (w : (line.is_held ≡ false) × write line.writer source). inl w)
            (λ (d : (line.is_held ≡ true) × left source). inr (d.0, fewer source d.1))
            h.1,
      ))
      need

  -- another line than the one at the place has had no turn
  other_stays : (desk left : ℕ → Type 0) → Fewer desk left → (before after : Context) (lines : List (Line R W)) (place : ℕ) (line : Line R W) (k : ℕ) (d : Line R W) → Keeps before after → k ≢ place
      → Covers before (LineNeeds read write desk (get_or lines k d)) → Covers after (LineNeeds read write left (get_or (set lines place line) k d))
  other_stays desk left fewer before after lines place line k d keeps ne armed =
      rw get_or-set_other (Covers_fewer after _ _ (fewer_needs desk left fewer (get_or lines k d)) (Covers_kept before after _ armed keeps))

  -- the line at the place has had its turn, and waits
  pub AreArmed-waits : (desk left : ℕ → Type 0) → Fewer desk left → (before after : Context) (lines : List (Line R W)) (place first behind end : ℕ) (line : Line R W) → Keeps before after
      → AreArmed desk before lines place first behind end → Covers after (LineNeeds read write left line) → AreArmed left after (set lines place line) (place + 1) first behind end
  AreArmed-waits desk left fewer before after lines place first behind end line keeps armed new k d below at =
      let sized : length (set lines place line) ≡ length lines = length-set lines place line in
      ⊎_elim
      (λ (same : k ≡ place). let inside : place < length lines = omega (arith, same) in rw (same, get_or-set_same) new)
      (λ (ne : k ≢ place).
      other_stays desk left fewer before after lines place line k d keeps ne (armed k d (omega arith) (⊎_elim (λ had. inl (omega (arith, ne, had.0), had.1)) inr at)))
      (cases_eq k place)

  -- the line at the place has had its turn, and has more to do
  pub AreArmed-goes_on : (desk left : ℕ → Type 0) → Fewer desk left → (before after : Context) (lines : List (Line R W)) (place first behind end : ℕ) (line : Line R W) → Keeps before after → place < end
      → AreArmed desk before lines place first behind end → AreArmed left after (set lines place line) (place + 1) (min first place) (place + 1) end
  AreArmed-goes_on desk left fewer before after lines place first behind end line keeps inside armed k d below at =
      let sized : length (set lines place line) ≡ length lines = length-set lines place line in
      let stood : ((k < place) × (k < first)) ⊎ (end ≤ k) = ⊎_elim (λ had. inl (omega (arith, had), omega (arith, had))) inr at in
      other_stays desk left fewer before after lines place line k d keeps (⊎_elim (λ had. omega (arith, had)) (λ high. omega (arith, high)) stood)
      (armed k d (omega arith) (⊎_elim (λ had. inl (had.0, inl had.1)) inr stood))

  -- the line at the place has had its turn and ended, and the last of the n lines has come in its place
  pub AreArmed-ends : (desk fewer_left : ℕ → Type 0) → Fewer desk fewer_left → (before after : Context) (lines left : List (Line R W)) (n place first behind end : ℕ) (line : Line R W) → Keeps before after → place < end
      → n ≡ length lines → length left + 1 ≡ n
      → ((k : ℕ) (d : Line R W) → k ≢ place → k + 1 < n → get_or left k d ≡ get_or (set lines place line) k d)
      → AreArmed desk before lines place first behind end → AreArmed fewer_left after left place first behind end
  AreArmed-ends desk fewer_left fewer before after lines left n place first behind end line keeps inside many shorter others armed k d below at =
      let ne : k ≢ place = ⊎_elim (λ had. omega (arith, had.0)) (λ high. omega (arith, high)) at in
      let stays : get_or left k d ≡ get_or (set lines place line) k d = others k d ne (omega arith) in
      rw stays (other_stays desk fewer_left fewer before after lines place line k d keeps ne (armed k d (omega arith) at))

  -- no more turns are left: all lines but those of the range are registered
  pub AreArmed-all : (desk : ℕ → Type 0) (cx : Context) (lines : List (Line R W)) (place first behind end : ℕ) → (end ≤ place) ⊎ (length lines ≤ place)
      → AreArmed desk cx lines place first behind end → AreArmedBut read write desk cx lines first behind
  AreArmed-all desk cx lines place first behind end over armed k d below at =
      ⊎_elim
      (λ (low : k < end). armed k d below (inl (⊎_elim (λ (h : end ≤ place). omega arith) (λ (h : length lines ≤ place). omega arith) over, at)))
      (λ (high : end ≤ k). armed k d below (inr high))
      (cases_lt k end)

first_armed : {R W : Type 0} (read : R → ℕ → Type 0) (write : W → ℕ → Type 0) (desk : ℕ → Type 0) (lines : List (Line R W)) (after : Context)
    → All (λ line. Covers after (LineNeeds read write desk line)) lines → 0 < length lines → Covers after (λ s. ⊥)
first_armed read write desk [] after each some = absurd (omega (arith, some))
first_armed read write desk (line ∷ lines) after each some = ((each 0 line (omega arith)).0, λ s none. absurd none)

module _ {A R W F : Type 0} (arrive : A → ℕ → Type 0) (read : R → ℕ → Type 0) (write : W → ℕ → Type 0) (desk : ℕ → Type 0) where
  armed_by : (is_closed : Bool) (lines : List (Line R W)) (resting : Option (FuturesUnordered F)) (count : ℕ) (arrivals : A) (cx : Context)
      → (is_closed ≡ false → Covers cx (arrive arrivals)) → All (λ line. Covers cx (LineNeeds read write desk line)) lines
      → (0 < count → Covers cx (RestingNeed resting))
      → (is_closed ≡ true → (0 < length lines) ⊎ (0 < count)) → Covers cx (λ s. ⊥)
  armed_by false lines resting count arrivals cx waits each rests some = ((waits refl).0, λ s none. absurd none)
  armed_by true lines resting count arrivals cx waits each rests some =
      ⊎_elim
      (λ (h : 0 < length lines). first_armed read write desk lines cx each h)
      (λ (h : 0 < count). ((rests h).0, λ s none. absurd none))
      (some refl)

  pub WorkerNeeds_covered : (is_closed : Bool) (lines : List (Line R W)) (resting : Option (FuturesUnordered F)) (count : ℕ) (arrivals : A) (cx : Context)
      → (is_closed ≡ false → Covers cx (arrive arrivals)) → All (λ line. Covers cx (LineNeeds read write desk line)) lines
      → (0 < count → Covers cx (RestingNeed resting))
      → (is_closed ≡ true → (0 < length lines) ⊎ (0 < count)) → Covers cx (WorkerNeeds arrive read write desk arrivals is_closed lines resting count)
  WorkerNeeds_covered is_closed lines resting count arrivals cx waits each rests some = (
    (armed_by is_closed lines resting count arrivals cx waits each rests some).0,
    λ source need.
        ⊎_elim
        (λ (h : (is_closed ≡ false) × arrive arrivals source). (waits h.0).1 source h.1)
        (λ (either : ((line : Line R W) × Contains lines line × LineNeeds read write desk line source) ⊎ ((0 < count) × RestingNeed resting source)).
        ⊎_elim
        (λ (h : (line : Line R W) × Contains lines line × LineNeeds read write desk line source). (All-contains (λ (line : Line R W). Covers cx (LineNeeds read write desk line)) lines h.0 each h.1).1 source h.2)
        (λ (h : (0 < count) × RestingNeed resting source). (rests h.0).1 source h.1)
        either)
        need,
  )
