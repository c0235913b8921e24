-- A client that releases each partition that it owns releases all that it isn't shown.
use Rattle.std.proofs.Common.{◌≡◌, ℕ, zero, suc, Bool, true, false, not, ◌&&◌, ◌||◌, if◌then◌else◌, List, [], ◌∷◌, map, set, slice_get, Some, refl, sym, ap, subst, ◌∙◌, true≢false}
use Rattle.std.specs.Cmp.{first_so, second_so}
use Rattle.group_types.specs.declared.partition.Partition.{Partition}
use Rattle.group_types.specs.Sets.{has, in_order, is_nothing}
use Rattle.group_types.proofs.Lookups.{not_none, some_is}
use Rattle.group_types.proofs.Orders.{partition_cmp_total, partition_cmp-IsAntisymmetric}
use Rattle.group_types.proofs.SetLemmas.{has-in_order, has-minus, same_set}
use Rattle.member_core.specs.Client.{Client, Place, Outside, Inside, Gone, state_at, state_of, to_release}
use Rattle.member_core.specs.Releasing.{after_release, is_releasing, may_release}
use Rattle.world_sim.specs.World.{World, numbered, renumbered, with_client}
use Rattle.world_sim.specs.Acts.{Outcome, Is, IsRefused, Release, Run, WrongState}
use Rattle.world_sim.specs.Places.{releasing_all}
use Rattle.world_sim.proofs.Numbered.{numbered_itself}
use Rattle.world_sim.proofs.Performs as performs
use Rattle.world_sim.proofs.Released.{HasReleased, releases_all, released_bool}

-- ---- what is put under a number

module _ {X : Type 0} where
  set_twice : (xs : List X) (n : ℕ) (x y : X) → set (set xs n x) n y ≡ set xs n y
  set_twice [] zero x y = refl
  set_twice [] (suc n) x y = refl
  set_twice (z ∷ xs) zero x y = refl
  set_twice (z ∷ xs) (suc n) x y = ap (λ zs. z ∷ zs) (set_twice xs n x y)

  twice : (xs : List X) (n : ℕ) (x y : X) → renumbered (renumbered xs n x) n y ≡ renumbered xs n y
  twice xs zero x y = refl
  twice xs (suc n) x y = set_twice xs n x y

  set_same : (xs : List X) (n : ℕ) (x : X) → slice_get xs n ≡ Some x → set xs n x ≡ xs
  set_same [] n x is = absurd (not_none x is)
  set_same (z ∷ xs) zero x is = ap (λ y. y ∷ xs) (sym (some_is z x is))
  set_same (z ∷ xs) (suc n) x is = ap (λ zs. z ∷ zs) (set_same xs n x is)

  same : (xs : List X) (n : ℕ) (x : X) → numbered xs n ≡ Some x → renumbered xs n x ≡ xs
  same xs zero x is = refl
  same xs (suc n) x is = set_same xs n x is

-- ---- each release is an act

releases_run : (n : ℕ) (ps : List Partition) (w : World) (c : Client) → numbered w.clients n ≡ Some c
    → (states : List Outcome) × Run w (map (Release n) ps) states (with_client w n (releasing_all c ps))
releases_run n [] w c there = ([], ap (λ (xs : List Client). record w { clients = xs }) (same w.clients n c there))
releases_run n (p ∷ ps) w c there =
    by (may_release c) refl (releases_run n ps (with_client w n (after_release c p)) (after_release c p) (numbered_itself w.clients n (after_release c p) c there)) (releases_run n ps w c there)
  where
    by : (b : Bool) → may_release c ≡ b
        → (states : List Outcome) × Run (with_client w n (after_release c p)) (map (Release n) ps) states (with_client (with_client w n (after_release c p)) n (releasing_all (after_release c p) ps))
        → (states : List Outcome) × Run w (map (Release n) ps) states (with_client w n (releasing_all c ps))
        → (states : List Outcome) × Run w (map (Release n) (p ∷ ps)) states (with_client w n (releasing_all (if b then after_release c p else c) ps))
    by true may rest none = (
      Is (state_of (after_release c p)) ∷ rest.0,
      (
        with_client w n (after_release c p),
        performs.releases w n c there p true may,
        subst (λ (v : World). Run (with_client w n (after_release c p)) (map (Release n) ps) rest.0 v) (ap (λ (xs : List Client). record w { clients = xs }) (twice w.clients n (after_release c p) (releasing_all (after_release c p) ps))) rest.1,
      ),
    )
    by false never none rest = (IsRefused WrongState ∷ rest.0, (w, performs.releases w n c there p false never, rest.1))

-- ---- what is left

idle : (c : Client) (ps : List Partition) → may_release c ≡ false → releasing_all c ps ≡ c
idle c [] never = refl
idle c (p ∷ ps) never = ap (λ b. releasing_all (if b then after_release c p else c) ps) never ∙ idle c ps never

inside_of : (place : Place) (steady : Bool) → is_releasing (state_at place steady) ≡ true → place ≡ Inside
inside_of Outside steady may = absurd (true≢false (sym may))
inside_of Inside steady may = refl
inside_of Gone steady may = absurd (true≢false (sym may))

still_of : (waits : Bool) → not waits ≡ true → waits ≡ false
still_of true may = absurd (true≢false (sym may))
still_of false may = refl

owned_bool : (a s : Bool) → (a && (s || not a)) ≡ (a && s)
owned_bool true true = refl
owned_bool true false = refl
owned_bool false s = refl

alike : (w a b : World) (n : ℕ) (c : Client) (ps qs : List Partition) (one : HasReleased w n c ps a) (other : HasReleased w n c qs b)
    → ((q : Partition) → has one.client.own q ≡ has other.client.own q) → one.client ≡ other.client
alike w a b n c ps qs one other owns = λ i.
    record {
      settings = (one.settings ∙ sym other.settings) i;
      place = (one.place ∙ sym other.place) i;
      id = (one.id ∙ sym other.id) i;
      epoch = (one.epoch ∙ sym other.epoch) i;
      own = same_set partition_cmp_total partition_cmp-IsAntisymmetric one.client.own other.client.own owns i;
      shown = (one.shown ∙ sym other.shown) i;
      number = (one.number ∙ sym other.number) i;
      waits = (one.waits ∙ sym other.waits) i;
      says_all = (one.says_all ∙ sym other.says_all) i;
    }

module _ (w : World) (n : ℕ) (c : Client) (there : numbered w.clients n ≡ Some c) where
  of_all : (place : c.place ≡ Inside) (still : c.waits ≡ false) (ps : List Partition) → (done : HasReleased w n c ps (with_client w n (releasing_all c ps))) × (done.client ≡ releasing_all c ps)
  of_all place still ps =
      let run = releases_run n ps w c there in
      let done = releases_all n ps run.0 w (with_client w n (releasing_all c ps)) c there place still run.1 in
      (done, some_is done.client (releasing_all c ps) (sym done.is_client ∙ numbered_itself w.clients n (releasing_all c ps) c there))

  same_left : releasing_all c (in_order c.own) ≡ releasing_all c (in_order (to_release c))
  same_left = by (may_release c) refl
    where
      by : (b : Bool) → may_release c ≡ b → releasing_all c (in_order c.own) ≡ releasing_all c (in_order (to_release c))
      by false never = idle c (in_order c.own) never ∙ sym (idle c (in_order (to_release c)) never)
      by true may =
          let place = inside_of c.place (is_nothing (to_release c)) (second_so (not c.waits) (is_releasing (state_of c)) may) in
          let still = still_of c.waits (first_so (not c.waits) (is_releasing (state_of c)) may) in
          let one = of_all place still (in_order c.own) in
          let other = of_all place still (in_order (to_release c)) in
          sym one.1 ∙ alike w _ _ n c (in_order c.own) (in_order (to_release c)) one.0 other.0
          (λ q.
          one.0.own q ∙ ap (λ b. has c.own q && (has c.shown q || not b)) (sym (has-in_order c.own q)) ∙ owned_bool (has c.own q) (has c.shown q)
          ∙ sym (other.0.own q ∙ ap (λ b. has c.own q && (has c.shown q || not b)) (sym (has-in_order (to_release c) q) ∙ has-minus partition_cmp_total c.own c.shown q) ∙ released_bool (has c.own q) (has c.shown q)))
          ∙ other.1

  -- once it has released each that it owns it has released all that it isn't shown
  pub releases_own : (states : List Outcome) × Run w (map (Release n) (in_order (to_release c))) states (with_client w n (releasing_all c (in_order c.own)))
  releases_own =
      let run = releases_run n (in_order (to_release c)) w c there in
      (run.0, subst (λ (x : Client). Run w (map (Release n) (in_order (to_release c))) run.0 (with_client w n x)) (sym same_left) run.1)
