-- A turn keeps what the world knows of clients, requests, replies and commits.
use Rattle.std.proofs.Common.{◌≡◌, ◌≢◌, ◌⊎◌, ℕ, ◌<◌, ◌≤◌, ◌==◌, ℤ, pos, negsuc, Bool, true, false, cond, not, ◌&&◌, [], Option, Some, None, is_some, IsTrue, refl, sym, ap, subst, ◌∙◌, inl, inr, true≢false, arith, le_trans, lt_of_lt_of_le, lt_trans, le_of_eq, ⊎_elim, lt_irrefl, lt-suc_self, unwrap_or, nat_lt, ltb-true, ltb-false}
use Rattle.std.specs.List.{Contains}
use Rattle.std.specs.declared.cmp.Ordering.TheVariants.{Less, Equal, Greater}
use Rattle.std.specs.Ordering.{nat_cmp, is_gt, ordering_then}
use Rattle.std.specs.Cmp.{nat_cmp_total, tied_itself}
use Rattle.std.specs.FinMap as finite
use Rattle.std.proofs.lemmas.Bool.Decides.{Decides-eqb}
use Rattle.group_types.specs.declared.epoch.Epoch.{Epoch}
use Rattle.group_types.specs.declared.epoch.Epoch.TheVariants.{At, Away}
use Rattle.group_types.specs.declared.partition.Partition.{Partition}
use Rattle.group_types.specs.declared.stamp.Stamp.{Stamp}
use Rattle.group_types.specs.Text.{Text}
use Rattle.group_types.specs.Sets.{nothing, has, common}
use Rattle.group_types.specs.Partition.{partition_cmp, Partitions}
use Rattle.group_types.specs.MemberId.{made_id}
use Rattle.group_types.specs.Request.{Heartbeat, kind_of, reported, reported_at}
use Rattle.group_types.specs.Group.{Record, Group, held}
use Rattle.group_types.proofs.MadeIds.{made_ids_differ}
use Rattle.group_types.specs.Checks.{is_away}
use Rattle.group_types.specs.HeartbeatStep.{Answer, Reply}
use Rattle.group_types.specs.Leave.{last_epoch, last_epoch_at}
use Rattle.group_types.specs.Sound.{IsSound}
use Rattle.member_core.specs.Client.{Client}
use Rattle.world_sim.specs.World.{Commit}
use Rattle.world_sim.proofs.Former.{made_after, made_is_given, past_apart}
use Rattle.world_sim.proofs.SettingsKept.{settings_after, settings_first}
use Rattle.world_sim.specs.Turn.{Holds, Seen, IsLater, Names, IsNamedBy, IsMadeNow, IsReported, HasActed, HasTakenOver, Came, Kept, Acted, New, TookOver, Went, WasPast, Left, WasAway, Promises, Turn}
use Rattle.world_sim.specs.Invariant.{Clients, IsMade, IsOf, IsOver, GroupKeeps, ClientKeeps, SenderKeeps, RequestKeeps, TakerKeeps, ReplyKeeps, CommitKeeps, IsOfSettings, Lags}
use Rattle.group_types.proofs.Orders.{partition_cmp_total}
use Rattle.group_types.proofs.SetLemmas.{has-common, has-nothing}
use Rattle.group_types.proofs.GrantLemmas.{has-held}
use Rattle.group_types.proofs.Lookups.{not_none, some_is}

-- ---- stamps of one connection

gt_of : (a b : ℕ) → is_gt (nat_cmp a b) ≡ true → b < a
gt_of a b so = by_test (nat_lt a b) refl so
  where
    by_equal : (c : Bool) → (a == b) ≡ c → nat_lt a b ≡ false → is_gt (cond c Equal Greater) ≡ true → b < a
    by_equal true is less so = absurd (true≢false (sym so))
    by_equal false is less so = omega (arith, ltb-false a b less, λ (same : a ≡ b). true≢false (sym ((Decides-eqb a b).1 same) ∙ is))

    by_test : (c : Bool) → nat_lt a b ≡ c → is_gt (cond c Less (cond (a == b) Equal Greater)) ≡ true → b < a
    by_test true is so = absurd (true≢false (sym so))
    by_test false is so = by_equal (a == b) refl is so

gt_from : (a b : ℕ) → b < a → is_gt (nat_cmp a b) ≡ true
gt_from a b less = by_test (nat_lt a b) refl
  where
    by_equal : (c : Bool) → (a == b) ≡ c → is_gt (cond c Equal Greater) ≡ true
    by_equal true is = absurd (lt_irrefl b (subst (λ x. b < x) ((Decides-eqb a b).0 is) less))
    by_equal false is = refl

    by_test : (c : Bool) → nat_lt a b ≡ c → is_gt (cond c Less (cond (a == b) Equal Greater)) ≡ true
    by_test true is = absurd (omega (arith, less, ltb-true a b is))
    by_test false is = by_equal (a == b) refl

positive : (b : Bool) → not b ≡ false → b ≡ true
positive true is = refl
positive false is = sym is

same_connection : (s t : Stamp) → s.connection ≡ t.connection → is_gt (ordering_then (nat_cmp s.connection t.connection) (nat_cmp s.frame t.frame)) ≡ is_gt (nat_cmp s.frame t.frame)
same_connection s t same =
    ap (λ o. is_gt (ordering_then o (nat_cmp s.frame t.frame))) (ap (λ c. nat_cmp c t.connection) same ∙ tied_itself nat_cmp_total t.connection)

pub later_frame : (s t : Stamp) → s.connection ≡ t.connection → IsLater s t → t.frame < s.frame
later_frame s t same later = gt_of s.frame t.frame (sym (same_connection s t same) ∙ positive (is_gt (ordering_then (nat_cmp s.connection t.connection) (nat_cmp s.frame t.frame))) later)

pub frame_later : (s t : Stamp) → s.connection ≡ t.connection → t.frame < s.frame → IsLater s t
frame_later s t same less = ap not (same_connection s t same ∙ gt_from s.frame t.frame less)

-- ---- one turn

-- what came in: a request of a client, which its group didn't forget
pub record IsIn (g : Group) (clients : Clients) (n number : ℕ) (q : Heartbeat) : Type 0 where
  pub group : GroupKeeps g clients
  pub request : RequestKeeps g clients n number q
  pub only : (k : ℕ) (c d : Client) → clients k c → clients k d → c ≡ d
  pub client : Client
  pub is_client : clients n client
  pub remembered : q.epoch ≡ pos 0 → q.member ≢ [] → (s : Stamp) × Seen g q.member s

abbrev stamp_at : ℕ → ℕ → Stamp
stamp_at n number = record { connection = n; frame = number }

-- how a stamp is seen after a turn: it was seen before, or it is the turn's, later than what was seen of the id
pub data Sight (g new : Group) (n number : ℕ) (q : Heartbeat) (m : Text) (s : Stamp) : Type 0 where
  Old : Seen g m s → Sight g new n number q m s
  Again : s ≡ record { connection = n; frame = number } → Names q m → (t : Stamp) → Seen g m t → IsLater (record { connection = n; frame = number }) t → Sight g new n number q m s
  Made : s ≡ record { connection = n; frame = number } → (serial : ℕ) → IsMadeNow g new serial m → Sight g new n number q m s

module _ (g new : Group) (clients : Clients) (n number : ℕ) (q : Heartbeat) (answer : Answer) (it : IsIn g clients n number q) (turn : Turn g q (record { connection = n; frame = number }) answer new) where
  by_name : (m : Text) (s : Stamp) → q.epoch ≡ pos 0 → s ≡ record { connection = n; frame = number } → IsNamedBy g q new m
      → ((t : Stamp) → Seen g m t → IsLater (record { connection = n; frame = number }) t) → Sight g new n number q m s
  by_name m s joins is (inl named) later =
      let known = it.remembered joins named.1 in
      let seen : Seen g m known.0 = subst (λ (x : Text). Seen g x known.0) named.0 known.1 in
      Again is named known.0 seen (later known.0 seen)
  by_name m s joins is (inr (empty, serial, anew)) later = Made is serial anew

  sight : (m : Text) (s : Stamp) → Seen new m s → Sight g new n number q m s
  sight m s (inl (r, there, is)) = by_came (turn.came m r there)
    where
      by_came : Came g q (record { connection = n; frame = number }) new m r → Sight g new n number q m s
      by_came (Kept kept) = Old (inl (r, kept.before, is))
      by_came (Acted acted) = Again (sym is ∙ acted.stamped) acted.named acted.before.stamp (inl (acted.before, acted.was, refl)) acted.later
      by_came (New new_one) = by_name m s new_one.joins (sym is ∙ new_one.stamped) new_one.named new_one.later
      by_came (TookOver over) = by_name m s over.joins (sym is ∙ over.stamped) over.named over.later
  sight m s (inr past) = by_went (turn.went m s past)
    where
      by_went : Went g q (record { connection = n; frame = number }) m s → Sight g new n number q m s
      by_went (WasPast there) = Old (inr there)
      by_went (Left goes named is r there later) = Again is named r.stamp (inl (r, there, refl)) later
      by_went (WasAway r there away is) = Old (inl (r, there, is))

  -- ---- ids

  abbrev stamp : Stamp
  stamp = record { connection = n; frame = number }

  -- an id that was made before isn't made anew
  not_anew : (m : Text) → IsMade g m → (serial : ℕ) → IsMadeNow g new serial m → ⊥
  not_anew m old serial anew =
      let same : old.serial ≡ serial = made_ids_differ g.salt old.serial serial old.fits anew.fits (sym old.made ∙ anew.made) in
      let below = old.below in
      let from = anew.from in
      omega (arith, below, from, same)

  made_still : (m : Text) → IsMade g m → IsMade new m
  made_still m is = made_after g new turn.salt turn.serial m is

  -- the client of an id that came is the one who sent
  sender_is : (m : Text) (k : ℕ) (t : Stamp) → ((s : Stamp) → Seen g m s → s.connection ≡ k) → Names q m → Seen g m t → n ≡ k
  sender_is m k t owner named seen = sym (it.request.owner named.1 t (subst (λ (x : Text). Seen g x t) (sym named.0) seen)) ∙ owner t seen

  owned_by : (m : Text) (k : ℕ) → IsMade g m → ((s : Stamp) → Seen g m s → s.connection ≡ k) → (s : Stamp) → Seen new m s → s.connection ≡ k
  owned_by m k made owner s seen = by_sight (sight m s seen)
    where
      by_sight : Sight g new n number q m s → s.connection ≡ k
      by_sight (Old before) = owner s before
      by_sight (Again is named t before later) = ap (λ (x : Stamp). x.connection) is ∙ sender_is m k t owner named before
      by_sight (Made is serial anew) = absurd (not_anew m made serial anew)

  -- ---- the request's own client

  keeps_of : (k : ℕ) (c : Client) → clients k c → n ≡ k → SenderKeeps g n number q c
  keeps_of k c is same = it.request.sender c (subst (λ x. clients x c) (sym same) is)

  -- what a client reads is in what its request reports
  reported_by : (k : ℕ) (c : Client) → clients k c → n ≡ k → (m : Text) → c.id ≡ Some m → Names q m → (t : Stamp) → Seen g m t → IsLater (record { connection = n; frame = number }) t
      → (p : Partition) → IsTrue (has c.own p) → (o : Option Partitions) → reported q ≡ o → IsReported o p
  reported_by k c is same m is_id named t seen later p owns None none = tt
  reported_by k c is same m is_id named t seen later p owns (Some owned) some =
      (keeps_of k c is same).reports owned p t (is_id ∙ ap Some (sym named.0)) some (subst (λ (x : Text). Seen g x t) (sym named.0) seen) later owns

  joins_none : q.epoch ≡ pos 0 → reported q ≡ Some nothing
  joins_none joins = ap (λ e. reported_at (kind_of e) q.owned) joins

  none_of : (p : Partition) → IsReported (Some nothing) p → ⊥
  none_of p has_p = true≢false (sym has_p ∙ has-nothing partition_cmp p)

  -- a join under its id is a client's that owns nothing, and knows no epoch
  joins_empty : (k : ℕ) (c : Client) → clients k c → (m : Text) → c.id ≡ Some m → IsOf g m k c.number → q.epoch ≡ pos 0 → IsNamedBy g q new m
      → ((s : Stamp) → Seen g m s → IsLater (record { connection = n; frame = number }) s) → ((p : Partition) → IsTrue (has c.own p) → ⊥) × (c.epoch ≡ 0)
  joins_empty k c is m is_id its joins (inl named) later =
      let known = it.remembered joins named.1 in
      let seen : Seen g m known.0 = subst (λ (x : Text). Seen g x known.0) named.0 known.1 in
      let same = sender_is m k known.0 its.owner named seen in (
        λ p owns. none_of p (reported_by k c is same m is_id named known.0 seen (later known.0 seen) p owns (Some nothing) (joins_none joins)),
        (keeps_of k c is same).outside known.0 (is_id ∙ ap Some (sym named.0)) joins known.1 (later known.0 seen),
      )
  joins_empty k c is m is_id its joins (inr (empty, serial, anew)) later = absurd (not_anew m its.made serial anew)

  -- ---- those that have gone

  pub lags_keeps : (id : Text) (e : ℕ) → e ≤ g.target_epoch → Lags g clients id e → Lags new clients id e
  lags_keeps id e below lags s c heir instance r past is settings there given = heirs s c heir instance r is settings there given (turn.went id s past)
    where
      rising : (c : Client) (s : Stamp) (a b : ℕ) → a ≤ b → IsOver c s ⊎ (e < a) → IsOver c s ⊎ (e < b)
      rising c s a b more (inl done) = inl done
      rising c s a b more (inr less) = inr (lt_of_lt_of_le less more)

      heirs : (s : Stamp) (c : Client) (heir instance : Text) (r : Record) → clients s.connection c
          → c.settings.instance ≡ Some instance → finite.get new.records heir ≡ Some r → r.instance ≡ Some instance
          → Went g q (record { connection = n; frame = number }) id s → IsOver c s ⊎ (e < last_epoch r)
      heirs s c heir instance r is settings there given (WasPast past) = by_came (turn.came heir r there)
        where
          -- a rejoin leaves the instance as it was: both are the client's
          before_of : (acted : HasActed g q (record { connection = n; frame = number }) new heir r)
              → (r.instance ≡ acted.before.instance) ⊎ ((q.epoch ≡ pos 0) × (r.instance ≡ q.instance)) → acted.before.instance ≡ Some instance
          before_of acted (inl same) = sym same ∙ given
          before_of acted (inr (joins, same)) =
              let owner : acted.before.stamp.connection ≡ n =
              it.request.owner acted.named.1 acted.before.stamp (subst (λ (x : Text). Seen g x acted.before.stamp) (sym acted.named.0) (inl (acted.before, acted.was, refl))) in
              it.group.instance heir acted.before it.client acted.was (subst (λ x. clients x it.client) (sym owner) it.is_client)
              ∙ sym ((it.request.sender it.client it.is_client).instance joins) ∙ sym same ∙ given

          by_came : Came g q (record { connection = n; frame = number }) new heir r → IsOver c s ⊎ (e < last_epoch r)
          by_came (Kept kept) = lags s c heir instance r past is settings kept.before given
          by_came (Acted acted) = rising c s _ _ acted.epoch (lags s c heir instance acted.before past is settings acted.was (before_of acted acted.instance))
          by_came (New one) = inr (omega (arith, below, one.epoch))
          by_came (TookOver over) =
              rising c s _ _ over.epoch (lags s c over.old instance over.before past is settings over.was
              (over.same_instance.0 ∙ sym over.same_instance.1 ∙ sym over.instance ∙ given))
      heirs s c heir instance r is settings there given (Left goes named stamped x was later) =
          let sender = it.request.sender c (subst (λ (x : Stamp). clients x.connection c) stamped is) in
          let done = sender.leaves 0 goes in
          inl (done.0, le_of_eq (sym done.1 ∙ sym (ap (λ (x : Stamp). x.frame) stamped)))
      heirs s c heir instance r is settings there given (WasAway x was gone stamped) =
          inl (subst (λ (t : Stamp). IsOver c t) stamped (it.group.away id x c was gone (subst (λ (t : Stamp). clients t.connection c) (sym stamped) is)))

  pub client_keeps : (k : ℕ) (c : Client) → clients k c → ClientKeeps g clients k c → ClientKeeps new clients k c
  client_keeps k c is keeps =
      record {
        its = λ m is_id.
            let its = keeps.its m is_id in
            record { made = made_still m its.made; owner = owned_by m k its.made its.owner; latest = λ s seen. latest m is_id its s (sight m s seen) };
        holds = λ m r p is_id there owns. holds m r p is_id owns (turn.came m r there);
        behind = λ m r is_id there. behind m r is_id (turn.came m r there);
        below = le_trans keeps.below turn.target_epoch;
        lags = λ m is_id. lags_keeps m c.epoch keeps.below (keeps.lags m is_id);
        inside = keeps.inside;
        empty = keeps.empty;
        outside = keeps.outside;
        gone = keeps.gone;
      }
    where
      latest : (m : Text) → c.id ≡ Some m → IsOf g m k c.number → (s : Stamp) → Sight g new n number q m s → s.frame ≤ c.number
      latest m is_id its s (Old before) = its.latest s before
      latest m is_id its s (Again stamped named t before later) =
          subst (λ x. x ≤ c.number) (sym (ap (λ (x : Stamp). x.frame) stamped)) ((keeps_of k c is (sender_is m k t its.owner named before)).sent)
      latest m is_id its s (Made stamped serial anew) = absurd (not_anew m its.made serial anew)

      holds : (m : Text) (r : Record) (p : Partition) → c.id ≡ Some m → IsTrue (has c.own p) → Came g q (record { connection = n; frame = number }) new m r → Holds new.grants m p
      holds m r p is_id owns (Kept kept) = kept.holds p ∙ keeps.holds m r p is_id kept.before owns
      holds m r p is_id owns (Acted acted) =
          let seen : Seen g m acted.before.stamp = inl (acted.before, acted.was, refl) in
          acted.keeps p
          (reported_by k c is (sender_is m k acted.before.stamp (keeps.its m is_id).owner acted.named seen) m is_id acted.named acted.before.stamp seen acted.later p owns (reported q) refl)
          (keeps.holds m acted.before p is_id acted.was owns)
      holds m r p is_id owns (New one) = absurd ((joins_empty k c is m is_id (keeps.its m is_id) one.joins one.named one.later).0 p owns)
      holds m r p is_id owns (TookOver over) = absurd ((joins_empty k c is m is_id (keeps.its m is_id) over.joins over.named over.later).0 p owns)

      behind : (m : Text) (r : Record) → c.id ≡ Some m → Came g q (record { connection = n; frame = number }) new m r → c.epoch ≤ last_epoch r
      behind m r is_id (Kept kept) = keeps.behind m r is_id kept.before
      behind m r is_id (Acted acted) = le_trans (keeps.behind m acted.before is_id acted.was) acted.epoch
      behind m r is_id (New one) = omega (arith, keeps.below, one.epoch)
      behind m r is_id (TookOver over) = let none = (joins_empty k c is m is_id (keeps.its m is_id) over.joins over.named over.later).1 in omega (arith, none)

  -- ---- the other requests

  pub request_keeps : (k j : ℕ) (q' : Heartbeat) → ((c : Client) → clients k c → ClientKeeps g clients k c) → RequestKeeps g clients k j q' → RequestKeeps new clients k j q'
  request_keeps k j q' client keeps =
      record {
        owner = λ given s seen. owned_by q'.member k (keeps.made given) (keeps.owner given) s seen;
        made = λ given. made_still q'.member (keeps.made given);
        sender = λ c is.
            let old = keeps.sender c is in
            record {
              sent = old.sent;
              reports = λ owned p s is_id some seen later owns. reports c is old owned p s is_id some later owns (sight q'.member s seen);
              outside = λ s is_id joins seen later. outside c is old s is_id joins later (sight q'.member s seen);
              names = old.names;
              instance = old.instance;
              leaves = old.leaves;
              settings = old.settings;
            };
      }
    where
      -- what comes after the turn's stamp comes after what was seen before it
      earlier : (c : Client) → clients k c → c.id ≡ Some q'.member → (s t : Stamp) → s ≡ record { connection = n; frame = number } → Names q q'.member → Seen g q'.member t
          → IsLater (record { connection = n; frame = number }) t → IsLater (record { connection = k; frame = j }) s → IsLater (record { connection = k; frame = j }) t
      earlier c is is_id s t stamped named seen before later =
          let its = (client c is).its q'.member is_id in
          let same = sender_is q'.member k t its.owner named seen in
          let owner = its.owner t seen in
          frame_later (record { connection = k; frame = j }) t (sym owner)
          (lt_trans
          (later_frame (record { connection = n; frame = number }) t (same ∙ sym owner) before)
          (later_frame (record { connection = k; frame = j }) (record { connection = n; frame = number }) (sym same) (subst (λ (x : Stamp). IsLater (record { connection = k; frame = j }) x) stamped later)))

      reports : (c : Client) → clients k c → SenderKeeps g k j q' c → (owned : Partitions) (p : Partition) (s : Stamp) → c.id ≡ Some q'.member → reported q' ≡ Some owned
          → IsLater (record { connection = k; frame = j }) s → IsTrue (has c.own p) → Sight g new n number q q'.member s → IsTrue (has owned p)
      reports c is old owned p s is_id some later owns (Old seen) = old.reports owned p s is_id some seen later owns
      reports c is old owned p s is_id some later owns (Again stamped named t seen before) =
          old.reports owned p t is_id some seen (earlier c is is_id s t stamped named seen before later) owns
      reports c is old owned p s is_id some later owns (Made stamped serial anew) =
          absurd (not_anew q'.member ((client c is).its q'.member is_id).made serial anew)

      outside : (c : Client) → clients k c → SenderKeeps g k j q' c → (s : Stamp) → c.id ≡ Some q'.member → q'.epoch ≡ pos 0
          → IsLater (record { connection = k; frame = j }) s → Sight g new n number q q'.member s → c.epoch ≡ 0
      outside c is old s is_id joins later (Old seen) = old.outside s is_id joins seen later
      outside c is old s is_id joins later (Again stamped named t seen before) =
          old.outside t is_id joins seen (earlier c is is_id s t stamped named seen before later)
      outside c is old s is_id joins later (Made stamped serial anew) =
          absurd (not_anew q'.member ((client c is).its q'.member is_id).made serial anew)

  -- ---- the replies

  pub reply_keeps : (k j : ℕ) (m : Text) (epoch : ℕ) (shown : Option Partitions) → ReplyKeeps g clients k j m epoch shown → ReplyKeeps new clients k j m epoch shown
  reply_keeps k j m epoch shown keeps =
      record {
        made = made_still m keeps.made;
        owner = λ s seen. owned_by m k keeps.made keeps.owner s seen;
        below = le_trans keeps.below turn.target_epoch;
        lags = lags_keeps m epoch keeps.below keeps.lags;
        sent = keeps.sent;
        taker = λ c is waits latest.
            let old = keeps.taker c is waits latest in
            record {
              same = old.same;
              answers = λ s seen. answers c is old s (sight m s seen);
              shows = λ set r p some there has_p. shows c is old set r p some has_p (turn.came m r there);
              behind = λ r there. behind c is old r (turn.came m r there);
            };
      }
    where
      -- no request comes after the one that the client waits for
      never : (c : Client) → clients k c → TakerKeeps g k c m epoch shown → Names q m → (t : Stamp) → Seen g m t → IsLater (record { connection = n; frame = number }) t → ⊥
      never c is old named t seen later =
          let same = sender_is m k t keeps.owner named seen in
          let last : t ≡ record { connection = k; frame = c.number } = old.answers t seen in
          let less = later_frame (record { connection = n; frame = number }) t (same ∙ sym (keeps.owner t seen)) later in
          let sent = (keeps_of k c is same).sent in
          lt_irrefl c.number (lt_of_lt_of_le (subst (λ x. x < number) (ap (λ (x : Stamp). x.frame) last) less) sent)

      never_named : (c : Client) → clients k c → TakerKeeps g k c m epoch shown → q.epoch ≡ pos 0 → IsNamedBy g q new m
          → ((s : Stamp) → Seen g m s → IsLater (record { connection = n; frame = number }) s) → ⊥
      never_named c is old joins (inl named) later =
          let known = it.remembered joins named.1 in
          let seen : Seen g m known.0 = subst (λ (x : Text). Seen g x known.0) named.0 known.1 in
          never c is old named known.0 seen (later known.0 seen)
      never_named c is old joins (inr (empty, serial, anew)) later = not_anew m keeps.made serial anew

      answers : (c : Client) → clients k c → TakerKeeps g k c m epoch shown → (s : Stamp) → Sight g new n number q m s → s ≡ record { connection = k; frame = c.number }
      answers c is old s (Old seen) = old.answers s seen
      answers c is old s (Again stamped named t seen later) = absurd (never c is old named t seen later)
      answers c is old s (Made stamped serial anew) = absurd (not_anew m keeps.made serial anew)

      shows : (c : Client) → clients k c → TakerKeeps g k c m epoch shown → (set : Partitions) (r : Record) (p : Partition) → shown ≡ Some set → IsTrue (has set p)
          → Came g q (record { connection = n; frame = number }) new m r → Holds new.grants m p
      shows c is old set r p some has_p (Kept kept) = kept.holds p ∙ old.shows set r p some kept.before has_p
      shows c is old set r p some has_p (Acted acted) = absurd (never c is old acted.named acted.before.stamp (inl (acted.before, acted.was, refl)) acted.later)
      shows c is old set r p some has_p (New one) = absurd (never_named c is old one.joins one.named one.later)
      shows c is old set r p some has_p (TookOver over) = absurd (never_named c is old over.joins over.named over.later)

      behind : (c : Client) → clients k c → TakerKeeps g k c m epoch shown → (r : Record) → Came g q (record { connection = n; frame = number }) new m r → epoch ≤ last_epoch r
      behind c is old r (Kept kept) = old.behind r kept.before
      behind c is old r (Acted acted) = absurd (never c is old acted.named acted.before.stamp (inl (acted.before, acted.was, refl)) acted.later)
      behind c is old r (New one) = absurd (never_named c is old one.joins one.named one.later)
      behind c is old r (TookOver over) = absurd (never_named c is old over.joins over.named over.later)

  -- ---- the commits

  pub commit_keeps : (k : Commit) → CommitKeeps g clients k → CommitKeeps new clients (record k { since = common k.since (held new.grants k.id) })
  commit_keeps k keeps =
      record {
        made = made_still k.id keeps.made;
        below = le_trans keeps.below turn.target_epoch;
        behind = λ r there. behind r (turn.came k.id r there);
        still = λ r p there same owns. has-common partition_cmp_total k.since (held new.grants k.id) p ∙ both p (still r p same owns (turn.came k.id r there));
        within = λ p there. sym (has-held new.grants k.id p) ∙ second (has k.since p) (has (held new.grants k.id) p) (sym (has-common partition_cmp_total k.since (held new.grants k.id) p) ∙ there);
        lags = lags_keeps k.id k.epoch keeps.below keeps.lags;
      }
    where
      second : (a b : Bool) → (a && b) ≡ true → b ≡ true
      second true b so = so
      second false b so = absurd (true≢false (sym so))

      both : (p : Partition) → IsTrue (has k.since p) × Holds new.grants k.id p → (has k.since p && has (held new.grants k.id) p) ≡ true
      both p (since, holds) = λ i. since i && (has-held new.grants k.id p ∙ holds) i

      -- whoever takes over under the commit's id is above it
      takes_over : (r : Record) → HasTakenOver g q (record { connection = n; frame = number }) new k.id r → k.epoch < last_epoch r
      takes_over r over = by_name over.named
        where
          by_past : (t : Stamp) → Names q k.id → Contains g.past (k.id, t) → k.epoch < last_epoch r
          by_past t named past =
              let seen : Seen g k.id t = inr past in
              let owner : t.connection ≡ n = it.request.owner named.1 t (subst (λ (x : Text). Seen g x t) (sym named.0) seen) in
              let mine : clients t.connection it.client = subst (λ x. clients x it.client) (sym owner) it.is_client in
              let sender = it.request.sender it.client it.is_client in
              let less = later_frame (record { connection = n; frame = number }) t (sym owner) (over.later t seen) in
              ⊎_elim (λ done. absurd (omega (arith, done.1, sender.sent, less))) (λ below. lt_of_lt_of_le below over.epoch)
              (keeps.lags t it.client over.old over.given over.before past mine (sym (sender.instance over.joins) ∙ over.same_instance.1) over.was over.same_instance.0)

          by_seen : (t : Stamp) → Names q k.id → Seen g k.id t → k.epoch < last_epoch r
          by_seen t named (inl (x, there, is)) = absurd (true≢false (ap is_some (sym there ∙ over.absent)))
          by_seen t named (inr past) = by_past t named past

          by_name : IsNamedBy g q new k.id → k.epoch < last_epoch r
          by_name (inl named) =
              let known = it.remembered over.joins named.1 in
              by_seen known.0 named (subst (λ (x : Text). Seen g x known.0) named.0 known.1)
          by_name (inr (empty, serial, anew)) = absurd (not_anew k.id keeps.made serial anew)

      behind : (r : Record) → Came g q (record { connection = n; frame = number }) new k.id r → k.epoch ≤ last_epoch r
      behind r (Kept kept) = keeps.behind r kept.before
      behind r (Acted acted) = le_trans (keeps.behind acted.before acted.was) acted.epoch
      behind r (New one) = omega (arith, keeps.below, one.epoch)
      behind r (TookOver over) = omega (arith, takes_over r over)

      still : (r : Record) (p : Partition) → k.epoch ≡ last_epoch r → IsTrue (has k.own p) → Came g q (record { connection = n; frame = number }) new k.id r
          → IsTrue (has k.since p) × Holds new.grants k.id p
      still r p same owns (Kept kept) = let since = keeps.still r p kept.before same owns in (since, kept.holds p ∙ keeps.within p since)
      still r p same owns (Acted acted) = by_rise acted.rises
        where
          by_rise : (last_epoch acted.before < last_epoch r) ⊎ ((p : Partition) → Holds g.grants k.id p → Holds new.grants k.id p)
              → IsTrue (has k.since p) × Holds new.grants k.id p
          by_rise (inl risen) = absurd (omega (arith, risen, same, keeps.behind acted.before acted.was))
          by_rise (inr kept) =
              let at : k.epoch ≡ last_epoch acted.before = omega (arith, same, acted.epoch, keeps.behind acted.before acted.was) in
              let since = keeps.still acted.before p acted.was at owns in
              (since, kept p (keeps.within p since))
      still r p same owns (New one) = absurd (omega (arith, keeps.below, one.epoch, same))
      still r p same owns (TookOver over) = absurd (omega (arith, takes_over r over, same))

  -- ---- the reply to it

  pub reply_given : (reply : Reply) (epoch : ℕ) (m : Text) (shown : Option Partitions) → ((c : Client) → clients n c → ClientKeeps g clients n c) → GroupKeeps new clients → Promises q (record { connection = n; frame = number }) new reply
      → reply.member ≡ Some m → reply.epoch ≡ pos epoch → reply.assignment ≡ shown → ReplyKeeps new clients n number m epoch shown
  reply_given reply epoch m shown client group promise is_id is_epoch is_shown =
      record {
        made = group.made m promise.after.stamp (inl (promise.after, there, refl));
        owner = λ s seen. ap (λ (x : Stamp). x.connection) (only s seen);
        below = subst (λ x. x ≤ new.target_epoch) at (group.sound.epochs m promise.after there);
        lags = λ s c heir instance r past. absurd (not_none promise.after (sym (past_apart new.records new.past m s group.sound.past past) ∙ there));
        sent = λ c is. (it.request.sender c is).sent;
        taker = λ c is waits latest.
            record {
              same = λ id is_id.
                  let asked : q.member ≡ id = (it.request.sender c is).names waits latest ∙ ap (λ (o : Option Text). unwrap_or o []) is_id in
                  sym same ∙ promise.named (λ empty. given id ((client c is).its id is_id).made (sym asked ∙ empty)) ∙ asked;
              answers = λ s seen. only s seen ∙ ap (λ x. record { connection = n; frame = x }) latest;
              shows = λ set r p some has_r has_p. ap (λ x. has new.grants (x, p)) (sym same) ∙ promise.shows set p (is_shown ∙ some) has_p;
              behind = λ r has_r. subst (λ (x : Record). epoch ≤ last_epoch x) (some_is promise.after r (sym there ∙ has_r)) (le_of_eq (sym at));
            };
      }
    where
      -- an id that was made isn't empty
      given : (id : Text) → IsMade g id → id ≡ [] → ⊥
      given id made empty = made_is_given g.salt made.serial (sym made.made ∙ empty)

      same : promise.id ≡ m
      same = some_is promise.id m (sym promise.is_id ∙ is_id)

      there : finite.get new.records m ≡ Some promise.after
      there = ap (finite.get new.records) (sym same) ∙ promise.has_record

      at : last_epoch promise.after ≡ epoch
      at = ap (λ e. last_epoch_at e promise.after) promise.at ∙ pos_is promise.number epoch (sym promise.said ∙ is_epoch)
        where
          number_in : ℤ → ℕ
          number_in (pos x) = x
          number_in (negsuc x) = 0

          pos_is : (a b : ℕ) → pos a ≡ pos b → a ≡ b
          pos_is a b is = ap (λ (z : ℤ). elim z [ pos x ↦ x | negsuc x ↦ 0 ]) is

      only : (s : Stamp) → Seen new m s → s ≡ record { connection = n; frame = number }
      only s (inl (r, has_r, is)) = sym is ∙ ap (λ (x : Record). x.stamp) (some_is r promise.after (sym has_r ∙ there)) ∙ promise.stamped
      only s (inr past) = absurd (true≢false (ap is_some (sym there ∙ past_apart new.records new.past m s group.sound.past past)))

  -- ---- the group

  at_epoch : (e : Epoch) (x : ℕ) → e ≡ At x → e ≡ Away → ⊥
  at_epoch e x at away = true≢false (sym (ap is_away (sym at ∙ away)))

  pub group_keeps : IsSound new → GroupKeeps new clients
  group_keeps sound =
      record {
        sound = sound;
        made = λ m s seen. made m s (sight m s seen);
        owner = λ m s seen. owner m s (sight m s seen);
        instance = λ m r c there is. instance m r c is (turn.came m r there);
        away = λ m r c there gone is. away m r c gone is (turn.came m r there);
        settings = λ m r c there is. settings m r c is (turn.came m r there);
      }
    where
      made : (m : Text) (s : Stamp) → Sight g new n number q m s → IsMade new m
      made m s (Old seen) = made_still m (it.group.made m s seen)
      made m s (Again is named t seen later) = made_still m (it.group.made m t seen)
      made m s (Made is serial anew) =
          record {
            serial = serial;
            below = subst (λ x. serial < x) (sym anew.next) (lt-suc_self serial);
            fits = anew.fits;
            made = anew.made ∙ ap (λ x. made_id x serial) (sym turn.salt);
          }

      sender : (s : Stamp) → s ≡ record { connection = n; frame = number } → (c : Client) × clients s.connection c
      sender s is = (it.client, subst (λ (x : Stamp). clients x.connection it.client) (sym is) it.is_client)

      owner : (m : Text) (s : Stamp) → Sight g new n number q m s → (c : Client) × clients s.connection c
      owner m s (Old seen) = it.group.owner m s seen
      owner m s (Again is named t seen later) = sender s is
      owner m s (Made is serial anew) = sender s is

      -- the client of the turn's stamp is the one who sent
      own : (c : Client) (s : Stamp) → clients s.connection c → s ≡ record { connection = n; frame = number } → SenderKeeps g n number q c
      own c s is stamped = it.request.sender c (subst (λ (x : Stamp). clients x.connection c) stamped is)

      instance : (m : Text) (r : Record) (c : Client) → clients r.stamp.connection c → Came g q (record { connection = n; frame = number }) new m r → r.instance ≡ c.settings.instance
      instance m r c is (Kept kept) = it.group.instance m r c kept.before is
      instance m r c is (Acted acted) = by_instance acted.instance
        where
          by_instance : (r.instance ≡ acted.before.instance) ⊎ ((q.epoch ≡ pos 0) × (r.instance ≡ q.instance)) → r.instance ≡ c.settings.instance
          by_instance (inl same) =
              let owner : acted.before.stamp.connection ≡ n =
              it.request.owner acted.named.1 acted.before.stamp (subst (λ (x : Text). Seen g x acted.before.stamp) (sym acted.named.0) (inl (acted.before, acted.was, refl))) in
              same ∙ it.group.instance m acted.before c acted.was (subst (λ x. clients x c) (sym owner) (subst (λ (x : Stamp). clients x.connection c) acted.stamped is))
          by_instance (inr (joins, same)) = same ∙ (own c r.stamp is acted.stamped).instance joins
      instance m r c is (New one) = one.instance ∙ (own c r.stamp is one.stamped).instance one.joins
      instance m r c is (TookOver over) = over.instance ∙ (own c r.stamp is over.stamped).instance over.joins

      settings : (m : Text) (r : Record) (c : Client) → clients r.stamp.connection c → Came g q (record { connection = n; frame = number }) new m r → IsOfSettings c.settings r
      settings m r c is (Kept kept) = it.group.settings m r c kept.before is
      settings m r c is (Acted acted) =
          let owner : acted.before.stamp.connection ≡ n =
          it.request.owner acted.named.1 acted.before.stamp (subst (λ (x : Text). Seen g x acted.before.stamp) (sym acted.named.0) (inl (acted.before, acted.was, refl))) in
          settings_after c.settings q acted.before r (own c r.stamp is acted.stamped).settings
          (it.group.settings m acted.before c acted.was (subst (λ x. clients x c) (sym owner) (subst (λ (x : Stamp). clients x.connection c) acted.stamped is))) acted.settings
      settings m r c is (New one) = settings_first c.settings q r (own c r.stamp is one.stamped).settings one.joins one.settings
      settings m r c is (TookOver over) = settings_first c.settings q r (own c r.stamp is over.stamped).settings over.joins over.settings

      away : (m : Text) (r : Record) (c : Client) → r.epoch ≡ Away → clients r.stamp.connection c → Came g q (record { connection = n; frame = number }) new m r → IsOver c r.stamp
      away m r c gone is (Kept kept) = it.group.away m r c kept.before gone is
      away m r c gone is (Acted acted) =
          let done = (own c r.stamp is acted.stamped).leaves 1 (acted.away gone) in
          (done.0, le_of_eq (sym done.1 ∙ sym (ap (λ (x : Stamp). x.frame) acted.stamped)))
      away m r c gone is (New one) = absurd (at_epoch r.epoch (last_epoch r) one.present gone)
      away m r c gone is (TookOver over) = absurd (at_epoch r.epoch (last_epoch r) over.present gone)
