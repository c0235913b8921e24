-- Three rounds can be made exactly where every client is fit for them.
use Rattle.std.proofs.Common.{◌≡◌, ◌⊎◌, ℕ, zero, suc, ◌+◌, ◌<◌, ◌≤◌, nat_eq, IsTrue, Bool, true, false, cond, List, [], ◌∷◌, length, map, slice_get, Option, Some, None, unwrap_or, inl, inr, refl, sym, ap, subst, ◌∙◌, true≢false, arith}
use Rattle.std.specs.Option.{option_map}
use Rattle.std.specs.FinMap as finite
use Rattle.std.specs.Str.{bytes_eq}
use Rattle.std.proofs.lemmas.Bool.Decides.{Decides-eqb}
use Rattle.std.proofs.lemmas.List.{length-map}
use Rattle.std.proofs.lemmas.Option.{slice_get_within}
use Rattle.std.proofs.lemmas.Slice.Eq.{bytes_eq-Decides}
use Rattle.group_types.specs.declared.epoch.Epoch.{Epoch}
use Rattle.group_types.specs.declared.epoch.Epoch.TheVariants.{At, Away}
use Rattle.group_types.specs.Text.{Text}
use Rattle.group_types.specs.Group.{Group, Record}
use Rattle.group_types.proofs.Lookups.{not_none, some_is}
use Rattle.coord_node.specs.Coordinator.{Coordinator}
use Rattle.member_core.specs.Client.{Client}
use Rattle.world_sim.specs.World.{World, numbered}
use Rattle.world_sim.specs.Invariant.{Keeps, clients_of, group_at}
use Rattle.world_sim.specs.Convergence.{CanSettle, IsReady}
use Rattle.world_sim.specs.Fitting.{IsFit, IsFitIn, IsIdle, IsKnown, in_group}
use Rattle.world_sim.proofs.Lists.{In, in_filter, in_map, to_in}
use Rattle.world_sim.proofs.Numbered.{Place, at, elsewhere, numbered_in, place}
use Rattle.world_sim.proofs.Groups.{group_is}
use Rattle.world_sim.proofs.Counted.{AreApart, HasKey, all_of, as_many}
use Rattle.world_sim.proofs.Grouped.{AreGrouped}

-- ---- lists

slice_of : {X : Type 0} (xs : List X) (x : X) → In xs x → (k : ℕ) × (slice_get xs k ≡ Some x)
slice_of [] x there = absurd there
slice_of (y ∷ xs) x (inl is) = (zero, ap Some is)
slice_of (y ∷ xs) x (inr there) = let rest = slice_of xs x there in (suc rest.0, rest.1)

to_map : {X Y : Type 0} (f : X → Y) (xs : List X) (x : X) → In xs x → In (map f xs) (f x)
to_map f [] x there = absurd there
to_map f (y ∷ xs) x (inl is) = inl (ap f is)
to_map f (y ∷ xs) x (inr there) = inr (to_map f xs x there)

-- ---- the ids of a group's clients

abbrev id_of : Client → Text
id_of c = unwrap_or c.id []

abbrev ids_in : Text → List Client → List Text
ids_in name xs = map id_of (in_group name xs)

-- the clients of the group with the same id are one
abbrev IdsDiffer : Text → List Client → Type 0
IdsDiffer name xs = (k j : ℕ) (c d : Client) → slice_get xs k ≡ Some c → slice_get xs j ≡ Some d → c.settings.group ≡ name → d.settings.group ≡ name → id_of c ≡ id_of d → k ≡ j

is_in : (name : Text) (xs : List Client) (c : Client) → In (in_group name xs) c → In xs c × (c.settings.group ≡ name)
is_in name xs c there =
    let parts = in_filter (λ (x : Client). bytes_eq name x.settings.group) xs c there in
    (parts.0, sym ((bytes_eq-Decides name c.settings.group).0 parts.1))

to_group : (name : Text) (xs : List Client) (c : Client) → c.settings.group ≡ name → In xs c → In (in_group name xs) c
to_group name [] c of there = absurd there
to_group name (x ∷ xs) c of there = by (to_group name xs c of) (bytes_eq name x.settings.group) refl there
  where
    by : (In xs c → In (in_group name xs) c) → (b : Bool) → bytes_eq name x.settings.group ≡ b → (x ≡ c) ⊎ In xs c → In (in_group name (x ∷ xs)) c
    by rest true is (inl same) = subst (λ (ys : List Client). In ys c) (λ i. cond (sym is i) (x ∷ in_group name xs) (in_group name xs)) (inl same)
    by rest true is (inr later) = subst (λ (ys : List Client). In ys c) (λ i. cond (sym is i) (x ∷ in_group name xs) (in_group name xs)) (inr (rest later))
    by rest false is (inl same) = absurd (true≢false (sym ((bytes_eq-Decides name x.settings.group).1 (sym of ∙ ap (λ (y : Client). y.settings.group) (sym same))) ∙ is))
    by rest false is (inr later) = subst (λ (ys : List Client). In ys c) (λ i. cond (sym is i) (x ∷ in_group name xs) (in_group name xs)) (rest later)

are_apart : (name : Text) (xs : List Client) → IdsDiffer name xs → AreApart (ids_in name xs)
are_apart name [] differ = tt
are_apart name (x ∷ xs) differ = by (are_apart name xs later) (bytes_eq name x.settings.group) refl
  where
    later : IdsDiffer name xs
    later k j c d at_k at_j of_c of_d same = let next = differ (suc k) (suc j) c d at_k at_j of_c of_d same in omega (arith, next)

    alone : x.settings.group ≡ name → In (ids_in name xs) (id_of x) → ⊥
    alone of there =
        let one = in_map id_of (in_group name xs) (id_of x) there in
        let parts = is_in name xs one.0 one.1 in
        let spot = slice_of xs one.0 parts.0 in
        let never = differ zero (suc spot.0) x one.0 refl spot.1 of parts.1 (sym one.2) in
        omega (arith, never)

    by : AreApart (ids_in name xs) → (b : Bool) → bytes_eq name x.settings.group ≡ b → AreApart (ids_in name (x ∷ xs))
    by rest true is = subst (λ (ys : List Client). AreApart (map id_of ys)) (λ i. cond (sym is i) (x ∷ in_group name xs) (in_group name xs)) (alone (sym ((bytes_eq-Decides name x.settings.group).0 is)), rest)
    by rest false is = subst (λ (ys : List Client). AreApart (map id_of ys)) (λ i. cond (sym is i) (x ∷ in_group name xs) (in_group name xs)) rest

-- ---- a group, each of whose clients has a record

-- the client has an id with a record
abbrev HasRecord : Group → Client → Type 0
HasRecord g c = (id : Text) × (c.id ≡ Some id) × HasKey g.records id

module _ (w : World) (keeps : Keeps w) (name : Text) (g : Group) (there : finite.get w.coordinator.groups name ≡ Some g)
    (each : (n : ℕ) (c : Client) → clients_of w.clients name n c → HasRecord g c) where
  -- the record's stamp is the client's
  its : (n : ℕ) (c : Client) → clients_of w.clients name n c → (id : Text) → c.id ≡ Some id → (r : Record) → finite.get g.records id ≡ Some r → r.stamp.connection ≡ n
  its n c is id is_id r has =
      let spot : group_at w.coordinator c.settings.group ≡ g = ap (group_at w.coordinator) is.1 ∙ group_is w.coordinator name g there in
      ((keeps.clients n c is.0).its id is_id).owner r.stamp (inl (r, ap (λ (x : Group). finite.get x.records id) spot ∙ has, refl))

  differ : IdsDiffer name w.clients
  differ k j c d at_k at_j of_c of_d same =
      let one = each (suc k) c (at_k, of_c) in
      let other = each (suc j) d (at_j, of_d) in
      let ids : one.0 ≡ other.0 = sym (ap (λ (o : Option Text). unwrap_or o []) one.1) ∙ same ∙ ap (λ (o : Option Text). unwrap_or o []) other.1 in
      let mine = its (suc k) c (at_k, of_c) one.0 one.1 one.2.0 one.2.1 in
      let too = its (suc j) d (at_j, of_d) one.0 (other.1 ∙ ap Some (sym ids)) one.2.0 one.2.1 in
      omega (arith, mine, too)

  apart : AreApart (ids_in name w.clients)
  apart = are_apart name w.clients differ

  -- an id of one is its client's
  whose : (m : Text) → In (ids_in name w.clients) m → (n : ℕ) × (c : Client) × clients_of w.clients name n c × (c.id ≡ Some m)
  whose m in_ids =
      let one = in_map id_of (in_group name w.clients) m in_ids in
      let parts = is_in name w.clients one.0 one.1 in
      let spot = slice_of w.clients one.0 parts.0 in
      let has = each (suc spot.0) one.0 (spot.1, parts.1) in
      (suc spot.0, one.0, (spot.1, parts.1), has.1 ∙ ap Some (sym (ap (λ (o : Option Text). unwrap_or o []) has.1) ∙ one.2))

  has_key : (m : Text) → In (ids_in name w.clients) m → HasKey g.records m
  has_key m in_ids =
      let who = whose m in_ids in
      let has = each who.0 who.1 who.2 in
      subst (HasKey g.records) (some_is has.0 m (sym has.1 ∙ who.3)) has.2

  -- where they are as many, each record is a client's
  pub owned : length (in_group name w.clients) ≡ finite.len g.records → (m : Text) → HasKey g.records m → (n : ℕ) × (c : Client) × clients_of w.clients name n c × (c.id ≡ Some m)
  owned same m has = whose m (all_of (ids_in name w.clients) g.records apart has_key (length-map (in_group name w.clients) id_of ∙ same) m has)

  -- where each record is a client's, they are as many
  pub counted : ((m : Text) → HasKey g.records m → (n : ℕ) × (c : Client) × clients_of w.clients name n c × (c.id ≡ Some m)) → length (in_group name w.clients) ≡ finite.len g.records
  counted all = sym (length-map (in_group name w.clients) id_of) ∙ as_many (ids_in name w.clients) g.records apart has_key found
    where
      found : (m : Text) → HasKey g.records m → In (ids_in name w.clients) m
      found m has =
          let who = all m has in
          subst (In (ids_in name w.clients)) (ap (λ (o : Option Text). unwrap_or o []) who.3)
          (to_map id_of (in_group name w.clients) who.1 (to_group name w.clients who.1 who.2.1 (to_in w.clients who.1 (numbered_in w.clients who.0 who.1 who.2.0))))

-- ---- epochs

abbrev number_of : Epoch → ℕ
number_of (At n) = n
number_of Away = 0

is_at : (epoch : Epoch) (before known : ℕ) → IsKnown epoch before known → (n : ℕ) × (epoch ≡ At n)
is_at (At n) before known is = (n, refl)
is_at Away before known is = absurd is

known_so : (epoch : Epoch) (before known : ℕ) → IsKnown epoch before known → (epoch ≡ At known) ⊎ (before ≡ known)
known_so (At n) before known (inl is) = inl (ap At is)
known_so (At n) before known (inr is) = inr is
known_so Away before known is = absurd is

so_known : (epoch : Epoch) (before known n : ℕ) → epoch ≡ At n → (epoch ≡ At known) ⊎ (before ≡ known) → IsKnown epoch before known
so_known (At m) before known n is (inl same) = inl (ap number_of same)
so_known (At m) before known n is (inr same) = inr same
so_known Away before known n is why = absurd (true≢false (ap is_present (sym is)))
  where
    is_present : Epoch → Bool
    is_present (At k) = true
    is_present Away = false

-- ---- both ways

abbrev pub AllFit : World → Type 0
AllFit w = (n : ℕ) (c : Client) → numbered w.clients n ≡ Some c → IsFit w.coordinator w.clients c

module _ (w : World) (keeps : Keeps w) where
  module _ (grouped : AreGrouped w) (all : AllFit w) where
    -- what is known of a client by the name of its group
    module _ (name : Text) (g : Group) (there : finite.get w.coordinator.groups name ≡ Some g) where
      group_of : (n : ℕ) (c : Client) → (is : clients_of w.clients name n c) → (all n c is.0).group ≡ g
      group_of n c is = some_is (all n c is.0).group g (sym (all n c is.0).of_group ∙ ap (finite.get w.coordinator.groups) is.1 ∙ there)

      each : (n : ℕ) (c : Client) → clients_of w.clients name n c → HasRecord g c
      each n c is =
          let fit = all n c is.0 in
          (fit.id, fit.is_id, (fit.fits.kept, sym (ap (λ (x : Group). finite.get x.records fit.id) (group_of n c is)) ∙ fit.fits.is_kept))

      someone : (n : ℕ) × (c : Client) × clients_of w.clients name n c
      someone = grouped name (g, there)

      as_many_as : length (in_group name w.clients) ≡ finite.len g.records
      as_many_as =
          let one = all someone.0 someone.1 someone.2.0 in
          ap (λ (x : Text). length (in_group x w.clients)) (sym someone.2.1) ∙ one.fits.count ∙ ap (λ (x : Group). finite.len x.records) (group_of someone.0 someone.1 someone.2)

      mine : (m : Text) → HasKey g.records m → (n : ℕ) × (c : Client) × clients_of w.clients name n c × (c.id ≡ Some m)
      mine = owned w keeps name g there each as_many_as

      here : (m : Text) (r : Record) → finite.get g.records m ≡ Some r → (epoch : ℕ) × (r.epoch ≡ At epoch)
      here m r has =
          let who = mine m (r, has) in
          let fit = all who.0 who.1 who.2.0 in
          let ids : fit.id ≡ m = some_is fit.id m (sym fit.is_id ∙ who.3) in
          let same : fit.fits.kept ≡ r = some_is fit.fits.kept r (sym fit.fits.is_kept ∙ ap (λ (x : Group). finite.get x.records fit.id) (group_of who.0 who.1 who.2) ∙ ap (finite.get g.records) ids ∙ has) in
          subst (λ (x : Record). (epoch : ℕ) × (x.epoch ≡ At epoch)) same (is_at fit.fits.kept.epoch fit.fits.kept.previous_epoch who.1.epoch fit.fits.epoch)

      low : g.epoch < 2147483647
      low = subst (λ (x : Group). x.epoch < 2147483647) (group_of someone.0 someone.1 someone.2) (all someone.0 someone.1 someone.2.0).fits.below

    pub can_settle : CanSettle w
    can_settle =
        record {
          ready = ready;
          has_client = λ name g m r there has. let who = mine name g there m (r, has) in (who.0, who.1, who.2.0, who.2.1, who.3);
          present = λ name g m r there has. here name g there m r has;
          below = λ name g there. let is = low name g there in omega (arith, is);
        }
      where
        ready : (n : ℕ) (c : Client) → numbered w.clients n ≡ Some c → IsReady w n c
        ready n c is =
            let fit = all n c is in
            record {
              place = fit.idle.0;
              still = fit.idle.1;
              id = fit.id;
              is_id = fit.is_id;
              group = fit.group;
              of_group = fit.of_group;
              kept = fit.fits.kept;
              is_kept = fit.fits.is_kept;
              epoch = known_so fit.fits.kept.epoch fit.fits.kept.previous_epoch c.epoch fit.fits.epoch;
              numbers = fit.numbers;
            }

  pub all_fit : CanSettle w → AllFit w
  all_fit can n c is =
      let ready = can.ready n c is in
      let name = c.settings.group in
      let present = can.present name ready.group ready.id ready.kept ready.of_group ready.is_kept in
      let low = can.below name ready.group ready.of_group in
      record {
        idle = (ready.place, ready.still);
        numbers = ready.numbers;
        id = ready.id;
        is_id = ready.is_id;
        group = ready.group;
        of_group = ready.of_group;
        fits =
            record {
              kept = ready.kept;
              is_kept = ready.is_kept;
              epoch = so_known ready.kept.epoch ready.kept.previous_epoch c.epoch present.0 present.1 ready.epoch;
              below = omega (arith, low);
              count = counted w keeps name ready.group ready.of_group (each name ready.group ready.of_group)
                  (λ m has. let who = can.has_client name ready.group m has.0 ready.of_group has.1 in (who.0, who.1, (who.2, who.3), who.4));
            };
      }
    where
      each : (name : Text) (g : Group) → finite.get w.coordinator.groups name ≡ Some g → (k : ℕ) (x : Client) → clients_of w.clients name k x → HasRecord g x
      each name g there k x of =
          let ready = can.ready k x of.0 in
          let same : ready.group ≡ g = some_is ready.group g (sym ready.of_group ∙ ap (finite.get w.coordinator.groups) of.1 ∙ there) in
          (ready.id, ready.is_id, (ready.kept, sym (ap (λ (y : Group). finite.get y.records ready.id) same) ∙ ready.is_kept))

-- ---- what the code finds

epochs_of : (o : Option Record) (p : Epoch × ℕ) → Some p ≡ option_map (λ (r : Record). (r.epoch, r.previous_epoch)) o → (r : Record) × (o ≡ Some r) × (p ≡ (r.epoch, r.previous_epoch))
epochs_of None p is = absurd (not_none p (sym is))
epochs_of (Some r) p is = (r, refl, some_is p (r.epoch, r.previous_epoch) is)

pub fits_in : (c : Client) (id : Text) (g : Group) (all : List Client) (p : Epoch × ℕ) (name : Text) (known epoch count members : ℕ)
    → Some p ≡ option_map (λ (r : Record). (r.epoch, r.previous_epoch)) (finite.get g.records id) → known ≡ c.epoch → IsKnown p.0 p.1 known
    → epoch ≡ g.epoch → epoch < 2147483647 → name ≡ c.settings.group → count ≡ length (in_group name all) → members ≡ finite.len g.records
    → (IsTrue (nat_eq count members) → IsFitIn c id g all) × (IsFitIn c id g all → IsTrue (nat_eq count members))
fits_in c id g all p name known epoch count members is_p is_known knows is_epoch low is_name is_count is_members =
    let kept = epochs_of (finite.get g.records id) p is_p in (
      λ so.
          let same : count ≡ members = (Decides-eqb count members).0 so in
          record {
            kept = kept.0;
            is_kept = kept.1;
            epoch = subst (λ k. IsKnown kept.0.epoch kept.0.previous_epoch k) is_known (subst (λ (q : Epoch × ℕ). IsKnown q.0 q.1 known) kept.2 knows);
            below = omega (arith, is_epoch, low);
            count = ap (λ (x : Text). length (in_group x all)) (sym is_name) ∙ sym is_count ∙ same ∙ is_members;
          },
      λ fits. (Decides-eqb count members).1 (is_count ∙ ap (λ (x : Text). length (in_group x all)) is_name ∙ fits.count ∙ sym is_members),
    )

pub is_fit_so : (coordinator : Coordinator) (all : List Client) (c : Client) (id : Text) (g : Group) (name : Text) (requests : ℕ) (b : Bool)
    → IsIdle c → requests ≡ c.number → requests ≤ 2147483644 → Some id ≡ c.id → name ≡ c.settings.group → Some g ≡ finite.get coordinator.groups name
    → (IsTrue b → IsFitIn c id g all) × (IsFitIn c id g all → IsTrue b)
    → (IsTrue b → IsFit coordinator all c) × (IsFit coordinator all c → IsTrue b)
is_fit_so coordinator all c id g name requests b idle is_number few is_id is_name is_group so = (
  λ yes. record {
    idle = idle;
    numbers = omega (arith, is_number, few);
    id = id;
    is_id = sym is_id;
    group = g;
    of_group = ap (finite.get coordinator.groups) (sym is_name) ∙ sym is_group;
    fits = so.0 yes;
  },
  λ fit.
      let ids : fit.id ≡ id = some_is fit.id id (sym fit.is_id ∙ sym is_id) in
      let groups : fit.group ≡ g = some_is fit.group g (sym fit.of_group ∙ ap (finite.get coordinator.groups) (sym is_name) ∙ sym is_group) in
      so.1 (subst (λ (m : Text). IsFitIn c m g all) ids (subst (λ (x : Group). IsFitIn c fit.id x all) groups fit.fits)),
)

-- one client more
pub one_more_fit : (P : Client → Type 0) (xs : List Client) (n : ℕ) (me : Client) → slice_get xs n ≡ Some me → P me
    → ((k : ℕ) (c : Client) → k < n → slice_get xs k ≡ Some c → P c) → (k : ℕ) (c : Client) → k < n + 1 → slice_get xs k ≡ Some c → P c
one_more_fit P xs n me here it before k c below there = by (place k n)
  where
    by : Place k n → P c
    by (at same) = subst P (some_is me c (sym here ∙ ap (slice_get xs) (sym same) ∙ there)) it
    by (elsewhere other) = before k c (omega (arith, below, other)) there

-- all of them
pub each_fits : (w : World) (n : ℕ) → ((k : ℕ) (c : Client) → k < n → slice_get w.clients k ≡ Some c → IsFit w.coordinator w.clients c) → length w.clients ≤ n → AllFit w
each_fits w n each all zero c is = absurd (not_none c is)
each_fits w n each all (suc k) c is = let within = slice_get_within w.clients k c is in each k c (omega (arith, within, all)) is
