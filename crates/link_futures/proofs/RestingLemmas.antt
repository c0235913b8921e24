-- A line that waits for its reader alone, and the set of those that do.
use Rattle.std.proofs.Common.{◌≡◌, ℕ, ◌<◌, List, [], ◌++◌, length, Option, Some, None, IsSomeAnd, Ok, Err, Result, inl, inr, ⊎_elim, ◌⊎◌, sym, ap, ◌∙◌, subst, arith, append_assoc, length-append, true, IfSome}
use Rattle.tokio.specs.Io.Moved.{Passes, PassesInOrder}
use Rattle.futures.specs.Runs.{After, Within}
use Rattle.futures.specs.Queued.{AnyGives, Gathers, IsEmptySet, set_places, set_len}
use Rattle.futures.specs.Task.{Covers}
use Rattle.futures.specs.declared.task.context.Context.{Context}
use Rattle.futures.specs.declared.stream.futures_unordered.FuturesUnordered.{FuturesUnordered}
use Rattle.link_futures.specs.declared.end.End.{End}
use Rattle.link_futures.specs.declared.line.Line.{Line}
use Rattle.link_futures.specs.declared.inbox.Next.TheVariants.{Partial}
use Rattle.link_futures.specs.Next.{IsNext}
use Rattle.link_futures.specs.Stream.{MetNoFault}
use Rattle.link_futures.specs.Steps.{ReadsOn}
use Rattle.link_futures.specs.Resting.{RestingNeed, Wakes}
use Rattle.link_futures.proofs.TurnLemmas.{EndsAs_earlier}

module _ {R W : Type 0} (reads : Passes R) (is_at_end : R → Type 0) (read_faults : R → ℕ) (write_faults : W → ℕ) (stalls : W → ℕ) where
  ReadsOn_later : PassesInOrder reads → (a b c : Line R W) → ReadsOn reads is_at_end a b → b.inbox ≡ a.inbox → ReadsOn reads is_at_end b c → ReadsOn reads is_at_end a c
  ReadsOn_later order a b c p same q =
      let none : length p.read ≡ 0 = omega (arith, ap length same, ap length p.appended, length-append a.inbox p.read) in
      record {
        read = p.read ++ q.read;
        short = omega (arith, none, q.short, length-append p.read q.read);
        wanted = λ some. subst (λ (xs : List ℕ). IsNext Partial xs) same (q.wanted (omega (arith, some, none, length-append p.read q.read)));
        reading = order a.reader p.read b.reader q.read c.reader p.reading q.reading;
        appended = q.appended ∙ ap (λ xs. xs ++ q.read) p.appended ∙ append_assoc a.inbox p.read q.read;
        ends = λ over.
            ⊎_elim
            (λ (h : b.is_over ≡ true). ⊎_elim (λ (k : a.is_over ≡ true). inl k) (λ (k : is_at_end b.reader). inr (subst is_at_end (sym (q.stays h).1) k)) (p.ends h))
            (λ (h : is_at_end c.reader). inr h) (q.ends over);
        stays = λ was. let first = p.stays was in let second = q.stays first.0 in (second.0, second.1 ∙ first.1);
        others =
            q.others
            ∙ ap (λ (l : Line R W). let m : Line R W = record l { reader = c.reader; inbox = c.inbox; is_over = c.is_over } in m) p.others;
      }

  -- what a line is woken as behind a read that found nothing, it is before it
  pub Wakes_later : PassesInOrder reads → (a b : Line R W) → ReadsOn reads is_at_end a b → b.inbox ≡ a.inbox → MetNoFault read_faults write_faults stalls a b
      → (woken : Result (Line R W) (Line R W × End)) → Wakes reads is_at_end read_faults write_faults stalls b woken → Wakes reads is_at_end read_faults write_faults stalls a woken
  Wakes_later order a b p same none (Ok c) wakes = (
    ReadsOn_later order a b c p same wakes.0,
    record {
      reader = wakes.1.reader ∙ none.reader;
      writer = wakes.1.writer ∙ none.writer;
      taken = wakes.1.taken ∙ none.taken;
    },
  )
  Wakes_later order a b p same none (Err failed) wakes = (
    ReadsOn_later order a b failed.0 p same wakes.0,
    EndsAs_earlier read_faults write_faults stalls failed.1 a b failed.0 none wakes.1,
  )

module _ {F X : Type 0} (gives : F → X → Type 0) where
  -- one of the futures of a set may give x
  abbrev pub SetGives : Option (FuturesUnordered F) → X → Type 0
  SetGives resting x = IsSomeAnd resting (λ set. AnyGives gives (set_places set) x)

  abbrev Yields : FuturesUnordered F → List X → Option X → Type 0
  Yields set = Gathers (AnyGives gives (set_places set)) (set_len set)

  gives_one : (set : FuturesUnordered F) (x : X) → 0 < set_len set → AnyGives gives (set_places set) x → Yields set [] (Some x)
  gives_one set x some any = record { each = tt; ends = (any, some) }

  -- behind a poll that gave one, a set gives no more than before, nor once it is dropped for being empty
  pub gives_after : (old new : FuturesUnordered F) (left : Option (FuturesUnordered F)) (x : X) → After (Yields old) x (Yields new)
      → (left ≡ None) ⊎ ((left ≡ Some new) × IfSome left (λ set. 0 < set_len set)) → (y : X) → SetGives left y → AnyGives gives (set_places old) y
  gives_after old new left x after (inl none) y any = absurd (subst (λ (l : Option (FuturesUnordered F)). SetGives l y) none any)
  gives_after old new left x after (inr kept) y any =
      let some : 0 < set_len new = subst (λ (l : Option (FuturesUnordered F)). IfSome l (λ set. 0 < set_len set)) kept.0 kept.1 in
      let one = subst (λ (l : Option (FuturesUnordered F)). SetGives l y) kept.0 any in
      (after [] (Some y) (gives_one new y some one)).ends.0

  pub gives_within : (old new : FuturesUnordered F) (left : Option (FuturesUnordered F)) → Within (Yields old) (Yields new)
      → (left ≡ None) ⊎ ((left ≡ Some new) × IfSome left (λ set. 0 < set_len set)) → (y : X) → SetGives left y → AnyGives gives (set_places old) y
  gives_within old new left within (inl none) y any = absurd (subst (λ (l : Option (FuturesUnordered F)). SetGives l y) none any)
  gives_within old new left within (inr kept) y any =
      let some : 0 < set_len new = subst (λ (l : Option (FuturesUnordered F)). IfSome l (λ set. 0 < set_len set)) kept.0 kept.1 in
      let one = subst (λ (l : Option (FuturesUnordered F)). SetGives l y) kept.0 any in
      (within [] (Some y) (gives_one new y some one)).ends.0

  -- a set that was there, or was made, gives no more than was there
  pub gives_made : (old mid : Option (FuturesUnordered F)) (set : FuturesUnordered F) → mid ≡ Some set → (mid ≡ old) ⊎ ((old ≡ None) × IsSomeAnd mid IsEmptySet)
      → (x : X) → AnyGives gives (set_places set) x → SetGives old x
  gives_made old mid set is (inl same) x any = subst (λ (l : Option (FuturesUnordered F)). SetGives l x) (sym is ∙ same) any
  gives_made old mid set is (inr made) x any =
      let empty : IsEmptySet set = subst (λ (l : Option (FuturesUnordered F)). IsSomeAnd l IsEmptySet) is made.1 in
      absurd (subst (λ (ps : List (Option F)). AnyGives gives ps x) empty.0 any)

-- a set that waits is waited for, also where it is dropped for being empty
pub RestingNeed_covered : {F : Type 0} (cx : Context) (set : FuturesUnordered F) (left : Option (FuturesUnordered F)) → Covers cx (λ s. s ≡ set.tasks.source.id)
    → (left ≡ None) ⊎ ((left ≡ Some set) × IfSome left (λ set. 0 < set_len set)) → Covers cx (RestingNeed left)
RestingNeed_covered {F} cx set left covers (inl none) =
    (covers.0, λ s need. absurd (subst (λ (l : Option (FuturesUnordered F)). RestingNeed l s) none need))
RestingNeed_covered {F} cx set left covers (inr kept) =
    (covers.0, λ s need. covers.1 s (subst (λ (l : Option (FuturesUnordered F)). RestingNeed l s) kept.0 need))
