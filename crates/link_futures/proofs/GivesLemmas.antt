-- What a worker gives behind a step of one of its lines, it gives before it.
use Rattle.std.proofs.Common.{◌≡◌, ◌≢◌, ◌⊎◌, ℕ, ◌+◌, ◌-◌, ◌^◌, ◌<◌, ◌≤◌, min, List, [], ◌∷◌, ◌++◌, length, get_or, set, All, Contains, Option, None, Ok, Err, Result, inl, inr, ⊎_elim, refl, sym, ap, ◌∙◌, subst, arith, append_assoc, length-append, length-set, get_or-set_other, get_or-set_same}
use Rattle.std.proofs.lemmas.Bool.{cases_eq}
use Rattle.std.proofs.lemmas.List.Elements.{All-nil, All-cons, Contains-append_left, Contains-append_right, Contains-append_cases, Contains-push_cases}
use Rattle.tokio.specs.Io.Moved.{Passes, PassesNothing, PassesInOrder}
use Rattle.futures.specs.Runs.{Runs}
use Rattle.futures.specs.declared.stream.futures_unordered.FuturesUnordered.{FuturesUnordered}
use Rattle.link_futures.specs.declared.end.End.{End}
use Rattle.link_futures.specs.declared.line.Line.{Line}
use Rattle.link_futures.specs.declared.quiet.Quiet.{Quiet}
use Rattle.link_futures.specs.declared.session.Session.{Session}
use Rattle.link_futures.specs.Desks.{Answering, Exchange, Place, place_after, Goes}
use Rattle.link_futures.specs.Stream.{Talks, EndsAs, MetNoFault, place_of}
use Rattle.link_futures.specs.Resting.{Wakes, MayWake}
use Rattle.link_futures.specs.Workers.{at_any_time, LineMayEnd, AnyMayEnd, WorkerGives}
use Rattle.link_futures.proofs.TurnLemmas.{Talks_trans, EndsAs_earlier, talks_stops}

abbrev shared : {R W : Type 0} → Line R W → Session R W (Unit {0})
shared line = record { line = line; desk = tt }

-- what is left where one element was removed, and the last one came in its place, was there
pub contains_left : {X : Type 0} (xs left : List X) (n place : ℕ) (x : X) → n ≡ length xs → length left + 1 ≡ n
    → ((d : X) → place + 1 < n → get_or left place d ≡ get_or xs (n - 1) d) → ((k : ℕ) (d : X) → k ≢ place → k + 1 < n → get_or left k d ≡ get_or xs k d)
    → Contains left x → Contains xs x
contains_left xs left n place x many fewer last others has =
    let k = has.0 in
    ⊎_elim
    (λ (same : k ≡ place).
    let more : place + 1 < n = omega (arith, has.1, same, fewer) in
    (n - 1, omega (arith, more, many), sym (last x more) ∙ ap (λ j. get_or left j x) (sym same) ∙ has.2))
    (λ (ne : k ≢ place). (k, omega (arith, has.1, many, fewer), sym (others k x ne (omega (arith, has.1, fewer))) ∙ has.2))
    (cases_eq k place)

-- the same, where another element stood there before
pub contains_set_left : {X : Type 0} (xs left : List X) (n place : ℕ) (y x : X) → n ≡ length xs → length left + 1 ≡ n
    → ((d : X) → place + 1 < n → get_or left place d ≡ get_or (set xs place y) (n - 1) d)
    → ((k : ℕ) (d : X) → k ≢ place → k + 1 < n → get_or left k d ≡ get_or (set xs place y) k d) → Contains left x → Contains xs x
contains_set_left xs left n place y x many fewer last others =
    contains_left xs left n place x many fewer (λ d more. let ne : n - 1 ≢ place = λ e. absurd (omega (arith, e, more)) in last d more ∙ get_or-set_other xs place (n - 1) y d ne)
    (λ k d ne less. others k d ne less ∙ get_or-set_other xs place k y d ne)

-- an element of the list with another one at a place is that one, or was there
pub contains_set : {X : Type 0} (xs : List X) (place : ℕ) (y x : X) → place < length xs → Contains (set xs place y) x → (y ≡ x) ⊎ Contains xs x
contains_set xs place y x inside has =
    let k = has.0 in
    let sized : length (set xs place y) ≡ length xs = length-set xs place y in
    ⊎_elim
    (λ (same : k ≡ place). inl (sym (get_or-set_same xs place y x inside) ∙ ap (λ j. get_or (set xs place y) j x) (sym same) ∙ has.2))
    (λ (ne : k ≢ place). inr (k, omega (arith, has.1, sized), sym (get_or-set_other xs place k y x ne) ∙ has.2))
    (cases_eq k place)

module _ {D : Type 0} (answers : Answering D) where
  Goes_any : (xs : List Exchange) (p q : Place) (d e : D) → Goes answers p d xs q e → Goes (at_any_time answers) p tt xs q tt
  Goes_any [] p q d e goes = (goes.0, refl)
  Goes_any (x ∷ xs) p q d e goes =
      (goes.0, (tt, (d, goes.1.0, goes.1.1), Goes_any xs (place_after p x.answer) q goes.1.0 e goes.1.2))

module _ {R W D : Type 0} (reads : Passes R) (is_at_end : R → Type 0) (read_faults : R → ℕ) (writes : Passes W) (write_faults : W → ℕ) (stalls : W → ℕ) (answers : Answering D) where
  Talks_any : (a b : Session R W D) → Talks reads is_at_end writes answers a b → Talks reads is_at_end writes (at_any_time answers) (shared a.line) (shared b.line)
  Talks_any a b t =
      record {
        read = t.read;
        exchanges = t.exchanges;
        written = t.written;
        reading = t.reading;
        writing = t.writing;
        each = t.each;
        framing = t.framing;
        replies = t.replies;
        desk = Goes_any answers t.exchanges (place_of a.line) (place_of b.line) a.desk b.desk t.desk;
        ends = t.ends;
        stays = t.stays;
      }

  abbrev MayEndSo : Line R W → End → Type 0
  MayEndSo = LineMayEnd reads is_at_end read_faults writes write_faults stalls answers

  line_goes_on : PassesInOrder reads → PassesInOrder writes → (a b : Line R W) → Talks reads is_at_end writes (at_any_time answers) (shared a) (shared b)
      → MetNoFault read_faults write_faults stalls a b → (end : End) → MayEndSo b end → MayEndSo a end
  line_goes_on read_order write_order a b talks none end may = (
    may.0,
    Talks_trans reads is_at_end writes (at_any_time answers) read_order write_order (shared a) (shared b) may.0 talks may.1,
    EndsAs_earlier read_faults write_faults stalls end a b may.0.line none may.2,
  )

  -- a line that has had a turn
  pub turned : PassesInOrder reads → PassesInOrder writes → (a b : Line R W) (d e : D)
      → Talks reads is_at_end writes answers (record { line = a; desk = d }) (record { line = b; desk = e })
      → MetNoFault read_faults write_faults stalls a b → (end : End) → MayEndSo b end → MayEndSo a end
  turned read_order write_order a b d e talks none =
      line_goes_on read_order write_order a b (Talks_any (record { line = a; desk = d }) (record { line = b; desk = e }) talks) none

  -- a line that a turn has ended
  pub turned_out : (a b : Line R W) (d e : D) (end : End) → Talks reads is_at_end writes answers (record { line = a; desk = d }) (record { line = b; desk = e })
      → EndsAs read_faults write_faults stalls end a b → MayEndSo a end
  turned_out a b d e end talks ends =
      (shared b, Talks_any (record { line = a; desk = d }) (record { line = b; desk = e }) talks, ends)

  woken_on : PassesNothing writes → PassesInOrder reads → PassesInOrder writes → (a b : Line R W) → Wakes reads is_at_end read_faults write_faults stalls a (Ok b)
      → (end : End) → MayEndSo b end → MayEndSo a end
  woken_on nothing read_order write_order a b wakes =
      line_goes_on read_order write_order a b (talks_stops reads is_at_end writes (at_any_time answers) nothing a b tt wakes.0) wakes.1

  woken_out : PassesNothing writes → (a b : Line R W) (end : End) → Wakes reads is_at_end read_faults write_faults stalls a (Err (b, end)) → MayEndSo a end
  woken_out nothing a b end wakes =
      (shared b, (talks_stops reads is_at_end writes (at_any_time answers) nothing a b tt wakes.0), wakes.1)

  abbrev Rest : Type 0
  Rest = Option (FuturesUnordered (Quiet (Line R W)))

  abbrev Woken : Type 0
  Woken = Result (Line R W) (Line R W × End)

  abbrev MayWakeSo : Rest → Woken → Type 0
  MayWakeSo = MayWake reads is_at_end read_faults write_faults stalls

  abbrev AnyEnds : List (Line R W) → Rest → End → Type 0
  AnyEnds = AnyMayEnd reads is_at_end read_faults writes write_faults stalls answers

  abbrev Gives : Runs (Line R W) → List (Line R W) → Rest → ℕ → ℕ → ℕ → Type 0
  Gives = WorkerGives reads is_at_end read_faults writes write_faults stalls answers

  -- where each line that is there may end only as one that was, and no other is woken
  any_of : (lines left : List (Line R W)) (old new : Rest) (end : End) → ((line : Line R W) → Contains left line → MayEndSo line end → AnyEnds lines old end)
      → ((woken : Woken) → MayWakeSo new woken → MayWakeSo old woken) → AnyEnds left new end → AnyEnds lines old end
  any_of lines left old new end each wakes any =
      ⊎_elim
      (λ (h : (line : Line R W) × Contains left line × MayEndSo line end). each h.0 h.1 h.2)
      (λ (h : ((last : Line R W) × MayWakeSo new (Err (last, end))) ⊎ ((line : Line R W) × MayWakeSo new (Ok line) × MayEndSo line end)).
      ⊎_elim
      (λ (k : (last : Line R W) × MayWakeSo new (Err (last, end))). inr (inl (k.0, wakes (Err (k.0, end)) k.1)))
      (λ (k : (line : Line R W) × MayWakeSo new (Ok line) × MayEndSo line end). inr (inr (k.0, wakes (Ok k.0) k.1, k.2)))
      h)
      any

  -- a line of the first ones, or one that arrived
  of_both : (lines left arrived : List (Line R W)) (rest : Rest) (end : End) → ((line : Line R W) → Contains left line → MayEndSo line end → AnyEnds (lines ++ arrived) rest end)
      → (line : Line R W) → Contains (left ++ arrived) line → MayEndSo line end → AnyEnds (lines ++ arrived) rest end
  of_both lines left arrived rest end each line has may =
      ⊎_elim
      (λ (h : Contains left line). each line h may)
      (λ (h : Contains arrived line). inl (line, Contains-append_right lines arrived line h, may))
      (Contains-append_cases left arrived line has)

  was_there : (lines arrived : List (Line R W)) (rest : Rest) (end : End) (line : Line R W) → Contains lines line → MayEndSo line end → AnyEnds (lines ++ arrived) rest end
  was_there lines arrived rest end line has may = inl (line, Contains-append_left lines arrived line has, may)

  -- the same lines, of arrivals that may still come
  pub gives_within : (old new : Runs (Line R W)) (lines : List (Line R W)) (rest : Rest) (count ended n : ℕ) → ((xs : List (Line R W)) → new xs None → old xs None)
      → Gives new lines rest count ended n → Gives old lines rest count ended n
  gives_within old new lines rest count ended n within g =
      record { arrived = g.arrived; comes = within g.arrived g.comes; ends = g.ends; all = g.all; each = g.each; counted = g.counted }

  -- a line arrived
  pub gives_arrived : (old new : Runs (Line R W)) (lines : List (Line R W)) (line : Line R W) (rest : Rest) (count ended n : ℕ)
      → ((xs : List (Line R W)) → new xs None → old (line ∷ xs) None) → Gives new (lines ++ line ∷ []) rest count ended n → Gives old lines rest count ended n
  gives_arrived old new lines line rest count ended n after g =
      let same : (lines ++ line ∷ []) ++ g.arrived ≡ lines ++ line ∷ g.arrived = append_assoc lines (line ∷ []) g.arrived in
      record {
        arrived = line ∷ g.arrived;
        comes = after g.arrived g.comes;
        ends = g.ends;
        all = g.all ∙ ap (λ (ls : List (Line R W)). length ls + count) same;
        each = subst (λ (ls : List (Line R W)). All (AnyEnds ls rest) g.ends) same g.each;
        counted = g.counted;
      }

  -- as many lines, and each may end only as one of the former
  gives_as : (source : Runs (Line R W)) (lines left : List (Line R W)) (old new : Rest) (many few ended n : ℕ) → length left + few ≡ length lines + many
      → ((arrived : List (Line R W)) (end : End) → AnyEnds (left ++ arrived) new end → AnyEnds (lines ++ arrived) old end)
      → Gives source left new few ended n → Gives source lines old many ended n
  gives_as source lines left old new many few ended n sized each g =
      record {
        arrived = g.arrived;
        comes = g.comes;
        ends = g.ends;
        all = omega (arith, g.all, sized, length-append left g.arrived, length-append lines g.arrived);
        each = λ k d inside. each g.arrived (get_or g.ends k d) (g.each k d inside);
        counted = g.counted;
      }

  -- a line fewer, which has ended
  gives_ended : (source : Runs (Line R W)) (lines left : List (Line R W)) (old new : Rest) (many few ended more n : ℕ) (end : End) → length left + few + 1 ≡ length lines + many
      → ((arrived : List (Line R W)) → AnyEnds (lines ++ arrived) old end)
      → ((arrived : List (Line R W)) (other : End) → AnyEnds (left ++ arrived) new other → AnyEnds (lines ++ arrived) old other)
      → more ≡ min (ended + 1) (2 ^ 64 - 1) → Gives source left new few more n → Gives source lines old many ended n
  gives_ended source lines left old new many few ended more n end sized this each one g =
      record {
        arrived = g.arrived;
        comes = g.comes;
        ends = end ∷ g.ends;
        all = omega (arith, g.all, sized, length-append left g.arrived, length-append lines g.arrived);
        each = All-cons (AnyEnds (lines ++ g.arrived) old) end g.ends (this g.arrived) (λ k d inside. each g.arrived (get_or g.ends k d) (g.each k d inside));
        counted = omega (arith, g.counted, one);
      }

  -- a line was woken and goes on
  pub gives_woken : (source : Runs (Line R W)) (lines : List (Line R W)) (line : Line R W) (old new : Rest) (many few ended n : ℕ) → few + 1 ≡ many → MayWakeSo old (Ok line)
      → ((woken : Woken) → MayWakeSo new woken → MayWakeSo old woken) → Gives source (lines ++ line ∷ []) new few ended n → Gives source lines old many ended n
  gives_woken source lines line old new many few ended n fewer may stay =
      gives_as source lines (lines ++ line ∷ []) old new many few ended n (omega (arith, fewer, length-append lines (line ∷ [])))
      (λ arrived end. any_of (lines ++ arrived) ((lines ++ line ∷ []) ++ arrived) old new end
      (of_both lines (lines ++ line ∷ []) arrived old end
      (λ other has ends.
      ⊎_elim
      (λ (h : Contains lines other). was_there lines arrived old end other h ends)
      (λ (h : line ≡ other). inr (inr (other, subst (λ (l : Line R W). MayWakeSo old (Ok l)) h may, ends)))
      (Contains-push_cases lines line other has)))
      stay)

  -- a line that rested has ended
  pub gives_woken_out : (source : Runs (Line R W)) (lines : List (Line R W)) (old new : Rest) (many few ended more n : ℕ) (last : Line R W) (end : End) → few + 1 ≡ many → MayWakeSo old (Err (last, end))
      → ((woken : Woken) → MayWakeSo new woken → MayWakeSo old woken) → more ≡ min (ended + 1) (2 ^ 64 - 1) → Gives source lines new few more n → Gives source lines old many ended n
  gives_woken_out source lines old new many few ended more n last end fewer may stay one =
      gives_ended source lines lines old new many few ended more n end (omega (arith, fewer)) (λ arrived. inr (inl (last, may)))
      (λ arrived other. any_of (lines ++ arrived) (lines ++ arrived) old new other (λ line has ends. inl (line, has, ends)) stay) one

  -- no line rests, or is woken, that wasn't
  pub gives_waited : (source : Runs (Line R W)) (lines : List (Line R W)) (old new : Rest) (count ended n : ℕ)
      → ((woken : Woken) → MayWakeSo new woken → MayWakeSo old woken) → Gives source lines new count ended n → Gives source lines old count ended n
  gives_waited source lines old new count ended n stay =
      gives_as source lines lines old new count count ended n refl
      (λ arrived end. any_of (lines ++ arrived) (lines ++ arrived) old new end (λ line has ends. inl (line, has, ends)) stay)

  -- the line at a place has had a turn
  pub gives_set : (source : Runs (Line R W)) (lines : List (Line R W)) (place : ℕ) (was line : Line R W) (rest : Rest) (count ended n : ℕ) → place < length lines
      → was ≡ get_or lines place was → ((end : End) → MayEndSo line end → MayEndSo was end) → Gives source (set lines place line) rest count ended n → Gives source lines rest count ended n
  gives_set source lines place was line rest count ended n inside is goes =
      gives_as source lines (set lines place line) rest rest count count ended n (omega (arith, length-set lines place line))
      (λ arrived end.
      any_of (lines ++ arrived) (set lines place line ++ arrived) rest rest end
      (of_both lines (set lines place line) arrived rest end
      (λ other has ends.
      ⊎_elim
      (λ (h : line ≡ other). was_there lines arrived rest end was (place, inside, sym is) (goes end (subst (λ (l : Line R W). MayEndSo l end) (sym h) ends)))
      (λ (h : Contains lines other). was_there lines arrived rest end other h ends)
      (contains_set lines place line other inside has)))
      (λ woken may. may))

  -- the line at a place has ended, and the last one came in its place
  pub gives_removed : (source : Runs (Line R W)) (lines left : List (Line R W)) (place : ℕ) (was : Line R W) (rest : Rest) (count ended more n : ℕ) (end : End) → place < length lines
      → was ≡ get_or lines place was → length left + 1 ≡ length lines → ((line : Line R W) → Contains left line → Contains lines line) → MayEndSo was end
      → more ≡ min (ended + 1) (2 ^ 64 - 1) → Gives source left rest count more n → Gives source lines rest count ended n
  gives_removed source lines left place was rest count ended more n end inside is fewer stays ends one =
      gives_ended source lines left rest rest count count ended more n end (omega (arith, fewer))
      (λ arrived. was_there lines arrived rest end was (place, inside, sym is) ends)
      (λ arrived other.
      any_of (lines ++ arrived) (left ++ arrived) rest rest other
      (of_both lines left arrived rest other (λ line has may. was_there lines arrived rest other line (stays line has) may)) (λ woken may. may))
      one

  -- a line rests, that was there
  pub gives_rested : PassesNothing writes → PassesInOrder reads → PassesInOrder writes → (source : Runs (Line R W)) (lines left : List (Line R W)) (line : Line R W) (old new : Rest)
      → (many few ended n : ℕ) → length left + 1 ≡ length lines → many ≡ few + 1 → Contains lines line → ((other : Line R W) → Contains left other → Contains lines other)
      → ((woken : Woken) → MayWakeSo new woken → MayWakeSo old woken ⊎ Wakes reads is_at_end read_faults write_faults stalls line woken)
      → Gives source left new many ended n → Gives source lines old few ended n
  gives_rested nothing read_order write_order source lines left line old new many few ended n fewer more has stays wakes =
      gives_as source lines left old new few many ended n (omega (arith, fewer, more))
      (λ arrived end any.
      ⊎_elim
      (λ (h : (other : Line R W) × Contains (left ++ arrived) other × MayEndSo other end).
      of_both lines left arrived old end (λ other there may. was_there lines arrived old end other (stays other there) may) h.0 h.1 h.2)
      (λ (h : ((last : Line R W) × MayWakeSo new (Err (last, end))) ⊎ ((other : Line R W) × MayWakeSo new (Ok other) × MayEndSo other end)).
      ⊎_elim
      (λ (k : (last : Line R W) × MayWakeSo new (Err (last, end))).
      ⊎_elim
      (λ (was : MayWakeSo old (Err (k.0, end))). inr (inl (k.0, was)))
      (λ (is : Wakes reads is_at_end read_faults write_faults stalls line (Err (k.0, end))). was_there lines arrived old end line has (woken_out nothing line k.0 end is))
      (wakes (Err (k.0, end)) k.1))
      (λ (k : (other : Line R W) × MayWakeSo new (Ok other) × MayEndSo other end).
      ⊎_elim
      (λ (was : MayWakeSo old (Ok k.0)). inr (inr (k.0, was, k.2)))
      (λ (is : Wakes reads is_at_end read_faults write_faults stalls line (Ok k.0)). was_there lines arrived old end line has (woken_on nothing read_order write_order line k.0 is end k.2))
      (wakes (Ok k.0) k.1))
      h)
      any)

  -- a line that couldn't rest came back to the others
  pub gives_kept : (source : Runs (Line R W)) (lines left : List (Line R W)) (line : Line R W) (old new : Rest) (count ended n : ℕ) → length left + 1 ≡ length lines
      → Contains lines line → ((other : Line R W) → Contains left other → Contains lines other) → ((woken : Woken) → MayWakeSo new woken → MayWakeSo old woken)
      → Gives source (left ++ line ∷ []) new count ended n → Gives source lines old count ended n
  gives_kept source lines left line old new count ended n fewer has stays wakes =
      gives_as source lines (left ++ line ∷ []) old new count count ended n (omega (arith, fewer, length-append left (line ∷ [])))
      (λ arrived end. any_of (lines ++ arrived) ((left ++ line ∷ []) ++ arrived) old new end
      (of_both lines (left ++ line ∷ []) arrived old end
      (λ other there may.
      ⊎_elim
      (λ (h : Contains left other). was_there lines arrived old end other (stays other h) may)
      (λ (h : line ≡ other). was_there lines arrived old end other (subst (λ (l : Line R W). Contains lines l) h has) may)
      (Contains-push_cases left line other there)))
      wakes)

  -- no line is left, and none comes
  pub gives_all : (rest : Rest) (ended : ℕ) (source : Runs (Line R W)) → source [] None → ended ≤ 2 ^ 64 - 1 → Gives source [] rest 0 ended ended
  gives_all rest ended source none small =
      record { arrived = []; comes = none; ends = []; all = refl; each = All-nil (AnyEnds [] rest); counted = omega (arith, small) }
