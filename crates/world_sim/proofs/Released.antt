-- A client that releases all that it isn't shown owns what it is shown and had.
use Rattle.std.proofs.Common.{◌≡◌, ◌≢◌, ℕ, Bool, true, false, not, ◌&&◌, ◌||◌, List, [], ◌∷◌, map, Option, Some, refl, sym, ap, subst, ◌∙◌, true≢false}
use Rattle.std.specs.List.{list_any}
use Rattle.std.specs.Ordering.{eq_by_cmp}
use Rattle.std.specs.Cmp.{Equal-is}
use Rattle.group_types.specs.declared.partition.Partition.{Partition}
use Rattle.group_types.specs.Sets.{has, in_order, is_nothing}
use Rattle.group_types.specs.Partition.{partition_cmp, Partitions}
use Rattle.group_types.proofs.Orders.{partition_cmp_total, partition_cmp-IsAntisymmetric}
use Rattle.group_types.proofs.SetLemmas.{has-in_order, has-minus, has-nothing, has-without, is_nothing-Decides}
use Rattle.member_core.specs.Client.{Client, Inside, state_at, to_release}
use Rattle.member_core.specs.Releasing.{after_release, is_releasing, may_release, released_if}
use Rattle.world_sim.specs.World.{World, numbered}
use Rattle.world_sim.specs.Acts.{ChangesIf, Outcome, Release, ReleaseStep, Run}
use Rattle.world_sim.proofs.Numbered.{numbered_itself, numbered_other}

-- what a list of releases leaves of a world, in which the client under a number is this one
pub record HasReleased (w : World) (n : ℕ) (x : Client) (ps : List Partition) (new : World) : Type 0 where
  pub coordinator : new.coordinator ≡ w.coordinator
  pub others : (k : ℕ) → k ≢ n → numbered new.clients k ≡ numbered w.clients k
  pub client : Client
  pub is_client : numbered new.clients n ≡ Some client
  pub settings : client.settings ≡ x.settings
  pub id : client.id ≡ x.id
  pub epoch : client.epoch ≡ x.epoch
  pub place : client.place ≡ x.place
  pub number : client.number ≡ x.number
  pub waits : client.waits ≡ x.waits
  pub shown : client.shown ≡ x.shown
  pub says_all : client.says_all ≡ x.says_all
  pub own : (q : Partition) → has client.own q ≡ (has x.own q && (has x.shown q || not (list_any (eq_by_cmp partition_cmp q) ps)))

-- ---- truth

all_kept : (a s : Bool) → (a && (s || true)) ≡ a
all_kept true true = refl
all_kept true false = refl
all_kept false s = refl

one_more : (a s e l : Bool) → ((a && (s || not e)) && (s || not l)) ≡ (a && (s || not (e || l)))
one_more true true e l = refl
one_more true false true l = refl
one_more true false false l = refl
one_more false s e l = refl

-- a partition that is shown stays whatever is released
stays_shown : (a s e : Bool) → (a && not s) ≡ false → (a && (s || not e)) ≡ a
stays_shown true true e none = refl
stays_shown true false e none = absurd (true≢false none)
stays_shown false s e none = refl

goes_unshown : (a s e : Bool) → (e ≡ true → s ≡ false) → (a && (s || not e)) ≡ (not e && a)
goes_unshown true true true is = absurd (true≢false (is refl))
goes_unshown true true false is = refl
goes_unshown true false true is = refl
goes_unshown true false false is = refl
goes_unshown false s true is = refl
goes_unshown false s false is = refl

keeps_shown : (a s e : Bool) → (e ≡ true → s ≡ true) → (a && (s || not e)) ≡ a
keeps_shown true true e is = refl
keeps_shown true false true is = absurd (true≢false (sym (is refl)))
keeps_shown true false false is = refl
keeps_shown false s e is = refl

-- partitions that tie are one
shown_alike : (shown : Partitions) (q p : Partition) (b : Bool) → has shown p ≡ b → eq_by_cmp partition_cmp q p ≡ true → has shown q ≡ b
shown_alike shown q p b is tie = ap (has shown) (partition_cmp-IsAntisymmetric q p ((Equal-is (partition_cmp q p)).0 tie)) ∙ is

-- ---- one release

record IsAfter (x y : Client) (p : Partition) : Type 0 where
  settings : y.settings ≡ x.settings
  id : y.id ≡ x.id
  epoch : y.epoch ≡ x.epoch
  place : y.place ≡ x.place
  number : y.number ≡ x.number
  waits : y.waits ≡ x.waits
  shown : y.shown ≡ x.shown
  says_all : y.says_all ≡ x.says_all
  own : (q : Partition) → has y.own q ≡ (has x.own q && (has x.shown q || not (eq_by_cmp partition_cmp q p)))

released_after : (b : Bool) (x : Client) (p : Partition) → has x.shown p ≡ b → IsAfter x (released_if b x p) p
released_after true x p is =
    record {
      settings = refl;
      id = refl;
      epoch = refl;
      place = refl;
      number = refl;
      waits = refl;
      shown = refl;
      says_all = refl;
      own = λ q. sym (keeps_shown (has x.own q) (has x.shown q) (eq_by_cmp partition_cmp q p) (shown_alike x.shown q p true is));
    }
released_after false x p is =
    record {
      settings = refl;
      id = refl;
      epoch = refl;
      place = refl;
      number = refl;
      waits = refl;
      shown = refl;
      says_all = refl;
      own = λ q. has-without partition_cmp_total x.own p q ∙ sym (goes_unshown (has x.own q) (has x.shown q) (eq_by_cmp partition_cmp q p) (shown_alike x.shown q p false is));
    }

-- who may not release has nothing to release
nothing_to : (x : Client) → x.place ≡ Inside → x.waits ≡ false → may_release x ≡ false → (q : Partition) → (has x.own q && not (has x.shown q)) ≡ false
nothing_to x inside still never q = by (is_nothing (to_release x)) refl ((λ i. not (sym still i) && is_releasing (state_at (sym inside i) (is_nothing (to_release x)))) ∙ never)
  where
    by : (b : Bool) → is_nothing (to_release x) ≡ b → is_releasing (state_at Inside b) ≡ false → (has x.own q && not (has x.shown q)) ≡ false
    by true none never = sym (has-minus partition_cmp_total x.own x.shown q) ∙ ap (λ s. has s q) ((is_nothing-Decides (to_release x)).0 none) ∙ has-nothing partition_cmp q
    by false some never = absurd (true≢false never)

-- one release, and the others after it
further : (n : ℕ) (p : Partition) (ps : List Partition) (state : Outcome) (states : List Outcome) (w middle new : World) (x : Client)
    → ((y : Client) → numbered middle.clients n ≡ Some y → y.place ≡ Inside → y.waits ≡ false → Run middle (map (Release n) ps) states new → HasReleased middle n y ps new)
    → Run middle (map (Release n) ps) states new
    → numbered w.clients n ≡ Some x → x.place ≡ Inside → x.waits ≡ false
    → (b : Bool) → may_release x ≡ b → ChangesIf b (after_release x p) w n state middle → HasReleased w n x (p ∷ ps) new
further n p ps state states w middle new x others_released later there inside still = by
  where
    -- on from the client after the first one
    on : (y : Client) → IsAfter x y p → numbered middle.clients n ≡ Some y → middle.coordinator ≡ w.coordinator → ((k : ℕ) → k ≢ n → numbered middle.clients k ≡ numbered w.clients k)
        → HasReleased middle n y ps new → HasReleased w n x (p ∷ ps) new
    on y after is coordinator others rest =
        record {
          coordinator = rest.coordinator ∙ coordinator;
          others = λ k other. rest.others k other ∙ others k other;
          client = rest.client;
          is_client = rest.is_client;
          settings = rest.settings ∙ after.settings;
          id = rest.id ∙ after.id;
          epoch = rest.epoch ∙ after.epoch;
          place = rest.place ∙ after.place;
          number = rest.number ∙ after.number;
          waits = rest.waits ∙ after.waits;
          shown = rest.shown ∙ after.shown;
          says_all = rest.says_all ∙ after.says_all;
          own = λ q.
              rest.own q
              ∙ (λ i. after.own q i && (has (after.shown i) q || not (list_any (eq_by_cmp partition_cmp q) ps)))
              ∙ one_more (has x.own q) (has x.shown q) (eq_by_cmp partition_cmp q p) (list_any (eq_by_cmp partition_cmp q) ps);
        }

    rest : (y : Client) → IsAfter x y p → numbered middle.clients n ≡ Some y → HasReleased middle n y ps new
    rest y after is = others_released y is (after.place ∙ inside) (after.waits ∙ still) later

    by : (b : Bool) → may_release x ≡ b → ChangesIf b (after_release x p) w n state middle → HasReleased w n x (p ∷ ps) new
    by true may is =
        let y = after_release x p in
        let after : IsAfter x y p = released_after (has x.shown p) x p refl in
        let here : numbered middle.clients n ≡ Some y = ap (λ (v : World). numbered v.clients n) is.1 ∙ numbered_itself w.clients n y x there in
        on y after here (ap (λ (v : World). v.coordinator) is.1) (λ k other. ap (λ (v : World). numbered v.clients k) is.1 ∙ numbered_other w.clients n k y other) (rest y after here)
    by false never is =
        let after : IsAfter x x p = record {
          settings = refl;
          id = refl;
          epoch = refl;
          place = refl;
          number = refl;
          waits = refl;
          shown = refl;
          says_all = refl;
          own = λ q. sym (stays_shown (has x.own q) (has x.shown q) (eq_by_cmp partition_cmp q p) (nothing_to x inside still never q));
        } in
        let here : numbered middle.clients n ≡ Some x = ap (λ (v : World). numbered v.clients n) is.1 ∙ there in
        on x after here (ap (λ (v : World). v.coordinator) is.1) (λ k other. ap (λ (v : World). numbered v.clients k) is.1) (rest x after here)

-- ---- all of them

pub releases_all : (n : ℕ) (ps : List Partition) (states : List Outcome) (w new : World) (x : Client) → numbered w.clients n ≡ Some x → x.place ≡ Inside → x.waits ≡ false
    → Run w (map (Release n) ps) states new → HasReleased w n x ps new
releases_all n [] [] w new x there inside still is =
    record {
      coordinator = ap (λ (v : World). v.coordinator) is;
      others = λ k other. ap (λ (v : World). numbered v.clients k) is;
      client = x;
      is_client = ap (λ (v : World). numbered v.clients n) is ∙ there;
      settings = refl;
      id = refl;
      epoch = refl;
      place = refl;
      number = refl;
      waits = refl;
      shown = refl;
      says_all = refl;
      own = λ q. sym (all_kept (has x.own q) (has x.shown q));
    }
releases_all n [] (state ∷ states) w new x there inside still is = absurd is
releases_all n (p ∷ ps) [] w new x there inside still is = absurd is
releases_all n (p ∷ ps) (state ∷ states) w new x there inside still (middle, step, later) =
    further n p ps state states w middle new x (releases_all n ps states middle new) later there inside still (may_release x) refl
    (subst (λ (o : Option Client). ReleaseStep o w n p state middle) there step)

pub released_bool : (a s : Bool) → (a && (s || not (a && not s))) ≡ (a && s)
released_bool true true = refl
released_bool true false = refl
released_bool false s = refl

-- once it has released all that it isn't shown
pub releases : (n : ℕ) (states : List Outcome) (w new : World) (x : Client) → numbered w.clients n ≡ Some x → x.place ≡ Inside → x.waits ≡ false
    → Run w (map (Release n) (in_order (to_release x))) states new
    → (done : HasReleased w n x (in_order (to_release x)) new) × ((q : Partition) → has done.client.own q ≡ (has x.own q && has x.shown q))
releases n states w new x there inside still run =
    let done = releases_all n (in_order (to_release x)) states w new x there inside still run in (
      done,
      λ q.
          done.own q
          ∙ ap (λ b. has x.own q && (has x.shown q || not b)) (sym (has-in_order (to_release x) q) ∙ has-minus partition_cmp_total x.own x.shown q)
          ∙ released_bool (has x.own q) (has x.shown q),
    )
