-- A newcomer joins a group of members that subscribe other topics, and is granted its target at once.
use Rattle.std.proofs.Common.{◌≡◌, ◌≢◌, suc, ◌<◌, ◌^◌, ◌==◌, Bool, true, false, cond, not, ◌&&◌, ◌||◌, if◌then◌else◌, List, [], ◌∷◌, ◌++◌, map, nat_le, Option, Some, None, is_some, refl, sym, ap, subst, ◌∙◌, true≢false, arith}
use Rattle.std.specs.List.{list_any}
use Rattle.std.specs.List.Sorted.{IsPermutation, IsSorted}
use Rattle.std.specs.Option.{option_map_or}
use Rattle.std.specs.Ordering.{eq_by_cmp}
use Rattle.std.specs.Cmp.{Equal-is}
use Rattle.std.specs.FinMap as finite
use Rattle.std.specs.Str.{bytes_eq}
use Rattle.std.proofs.lemmas.Bool.{or_left}
use Rattle.std.proofs.lemmas.Bool.Decides.{Decides-eqb}
use Rattle.std.proofs.lemmas.List.{map-append}
use Rattle.std.proofs.lemmas.List.Sorted.{IsPermutation-refl}
use Rattle.group_types.specs.declared.assignor_name.AssignorName.{AssignorName}
use Rattle.group_types.specs.declared.assignor_name.AssignorName.TheVariants.{Range}
use Rattle.group_types.specs.declared.code.Code.TheVariants as codes
use Rattle.group_types.specs.declared.epoch.Epoch.TheVariants.{At}
use Rattle.group_types.specs.declared.partition.Partition.{Partition}
use Rattle.group_types.specs.Limits.{GREATEST_EPOCH, MOST_MEMBERS}
use Rattle.group_types.specs.Text.{Text, text_cmp}
use Rattle.group_types.specs.Sets.{has, is_nothing, minus, nothing, with_one}
use Rattle.group_types.specs.Partition.{partition_cmp, Partitions}
use Rattle.group_types.specs.Topics.{Topics}
use Rattle.group_types.specs.Request.{Joins, reported}
use Rattle.group_types.specs.Assignors.{Subscriber, assignor_of, member_cmp}
use Rattle.group_types.specs.Owners.{IsRange}
use Rattle.group_types.specs.Group.{Record, Records, Target, Grants, Group, held, wanted}
use Rattle.group_types.specs.Renewal.{AreMembers, AreOwners, Renews, RenewsWhere, is_subscribed, subscriber_of, view_for}
use Rattle.group_types.specs.Settle.{arrived, is_free_for, may_settle, moved, settled, settled_by}
use Rattle.group_types.specs.Join.{IsNextSerial}
use Rattle.group_types.specs.Checks.{Verdict, Accepted, Refused, sender_of, verdict_on}
use Rattle.group_types.specs.HeartbeatStep.{Replied, Reply, ByVerdict, Draft, HeartbeatStep, JoinsAs, StepOf, acceptance, draft_of_join, epoch_number, sent_after, shown, verdict_on_change, Stages}
use Rattle.group_types.proofs.BoolLemmas.{or_none}
use Rattle.group_types.proofs.GrantLemmas.{eq-grant, grant_cmp_total, grant_cmp-IsAntisymmetric, has-held, has-moved}
use Rattle.group_types.proofs.ListLemmas.{any_append}
use Rattle.group_types.proofs.Lookups.{same_text, text_ties}
use Rattle.group_types.proofs.Orders.{text_cmp_total, text_cmp-IsAntisymmetric, partition_cmp_total, partition_cmp-IsAntisymmetric}
use Rattle.group_types.proofs.SetLemmas.{has-common, has-minus, has-nothing, has-of_list, has-with_one, is_nothing-Decides, same_set}
use Rattle.group_types.proofs.SpreadLemmas.{has-share_of, owns-get}
use Rattle.group_core.proofs.Single.{get-inserted, insert-insert}
use Rattle.world_sim.proofs.GrownTarget.{IsNewTo, is_range, names_own}
use Rattle.world_sim.proofs.Newcomers.{Newcomer, after_joins, arrival_of, id_of, join_of, joined_by, kept_of, newest, number_of, partition_of, record_of, reply_to, shown_to, stamp_at, topic_of}
use Rattle.world_sim.proofs.RoundTurns.{free_where}

-- What lets a newcomer join the others of a group, whom assignors see as these, and be granted its target at once. Of the
-- image they have this view, and under range they are the owners of this target.
pub record IsWelcome (x : Newcomer) (image : Topics) (records : Records) (grants : Grants) (others : List Subscriber) (view : Topics) (target : Target) : Type 0 where
  pub serial : number_of x < 2 ^ 64
  pub epoch : nat_le GREATEST_EPOCH x.earlier ≡ false
  pub few : nat_le MOST_MEMBERS (finite.len records) ≡ false
  -- it comes last
  pub fresh : finite.get records (id_of x) ≡ None
  pub last : (r : Record) → finite.entries (finite.insert records (id_of x) r) ≡ finite.entries records ++ (id_of x, r) ∷ []
  pub are_others : map subscriber_of (finite.entries records) ≡ others
  pub sorted : IsSorted member_cmp (others ++ newest x ∷ [])
  pub assignor : assignor_of (others ++ newest x ∷ []) ≡ Range
  -- its topic and its partition are nobody else's
  pub of_image : finite.get image x.name ≡ Some (topic_of x)
  pub is_view : view_for image records ≡ view
  pub is_new : IsNewTo x view others
  pub range : IsRange view others target
  pub unowned : (p : Partition) → finite.get target p ≢ Some (id_of x)
  pub unheld : (m : Text) → has grants (m, partition_of x) ≡ false
  pub holds_none : (p : Partition) → has grants (id_of x, p) ≡ false

-- ---- the view

-- a member that subscribes the newcomer's topic brings it in
pub grown_view : (x : Newcomer) (image : Topics) (records : Records) (r : Record) → r.names ≡ (newest x).names
    → finite.entries (finite.insert records (id_of x) r) ≡ finite.entries records ++ (id_of x, r) ∷ []
    → finite.get image x.name ≡ Some (topic_of x)
    → view_for image (finite.insert records (id_of x) r) ≡ finite.insert (view_for image records) x.name (topic_of x)
grown_view x image records r names last of_image =
    finite.same_map text_cmp_total text_cmp-IsAntisymmetric _ _ (λ name.
    get_view (finite.insert records (id_of x) r) name
    ∙ ap (λ b. cond b (finite.get image name) None) (subscribed name)
    ∙ by name (eq_by_cmp text_cmp name x.name) refl
    ∙ ap (cond (eq_by_cmp text_cmp name x.name) (Some (topic_of x))) (sym (get_view records name))
    ∙ sym (finite.get-insert text_cmp_total (view_for image records) x.name (topic_of x) name))
  where
    get_view : (rs : Records) (name : Text) → finite.get (view_for image rs) name ≡ cond (is_subscribed rs name) (finite.get image name) None
    get_view rs name = finite.get-retain_keys image (is_subscribed rs) name (λ y tied. ap (is_subscribed rs) (sym (text_cmp-IsAntisymmetric name y tied)))

    subscribed : (name : Text) → is_subscribed (finite.insert records (id_of x) r) name ≡ (is_subscribed records name || eq_by_cmp text_cmp name x.name)
    subscribed name =
        ap (λ (es : List (Text × Record)). list_any (λ (s : Record). has s.names name) (map (λ e. e.1) es)) last
        ∙ ap (list_any (λ (s : Record). has s.names name)) (map-append (λ (e : Text × Record). e.1) (finite.entries records) ((id_of x, r) ∷ []))
        ∙ any_append (λ (s : Record). has s.names name) (finite.values records) (r ∷ [])
        ∙ ap (λ b. is_subscribed records name || b) (or_none (has r.names name) ∙ ap (λ ns. has ns name) names ∙ names_own x name)

    by : (name : Text) (b : Bool) → eq_by_cmp text_cmp name x.name ≡ b
        → cond (is_subscribed records name || b) (finite.get image name) None ≡ cond b (Some (topic_of x)) (cond (is_subscribed records name) (finite.get image name) None)
    by name true same = ap (λ s. cond s (finite.get image name) None) (or_true (is_subscribed records name)) ∙ ap (finite.get image) (same_text name x.name same) ∙ of_image
      where
        or_true : (s : Bool) → (s || true) ≡ true
        or_true true = refl
        or_true false = refl
    by name false apart = ap (λ s. cond s (finite.get image name) None) (or_none (is_subscribed records name))

-- ---- the target

-- a target with the newcomer's partition wants just that of it
pub grown_wants : (x : Newcomer) (target : Target) → ((p : Partition) → finite.get target p ≢ Some (id_of x))
    → (p : Partition) → has (wanted (finite.insert target (partition_of x) (id_of x)) (id_of x)) p ≡ eq_by_cmp partition_cmp p (partition_of x)
grown_wants x target unowned p =
    has-share_of (finite.insert target (partition_of x) (id_of x)) (id_of x) p
    ∙ ap (λ (o : Option Text). option_map_or (λ owner. bytes_eq owner (id_of x)) o false) (finite.get-insert partition_cmp_total target (partition_of x) (id_of x) p)
    ∙ by (eq_by_cmp partition_cmp p (partition_of x))
  where
    its_own : option_map_or (λ owner. bytes_eq owner (id_of x)) (Some (id_of x)) false ≡ true
    its_own =
        ap (λ (o : Option Text). option_map_or (λ owner. bytes_eq owner (id_of x)) o false) (sym (get-inserted partition_cmp_total target (partition_of x) (id_of x)))
        ∙ (owns-get (finite.insert target (partition_of x) (id_of x)) (id_of x) (partition_of x)).1 (get-inserted partition_cmp_total target (partition_of x) (id_of x))

    none_before : (b : Bool) → option_map_or (λ owner. bytes_eq owner (id_of x)) (finite.get target p) false ≡ b → b ≡ false
    none_before true owns = absurd (unowned p ((owns-get target (id_of x) p).0 owns))
    none_before false not_own = refl

    by : (b : Bool) → option_map_or (λ owner. bytes_eq owner (id_of x)) (cond b (Some (id_of x)) (finite.get target p)) false ≡ b
    by true = its_own
    by false = none_before _ refl

-- ---- the join

-- whatever target and view were stored before
module _ (x : Newcomer) (image : Topics) (records : Records) (grants : Grants) (others : List Subscriber) (view : Topics) (target : Target)
    (w : IsWelcome x image records grants others view target) (stored : Target) (seen : Topics) where
  abbrev Before : Group
  Before = after_joins x.earlier records stored grants seen

  abbrev Drafted : Draft
  Drafted = draft_of_join (record Before { serial = suc (number_of x) }) 0 (id_of x) None None (join_of x) (stamp_at x 1)

  abbrev Came : Records
  Came = finite.insert records (id_of x) (record_of x)

  abbrev NewTarget : Target
  NewTarget = finite.insert target (partition_of x) (id_of x)

  abbrev Changed : Group
  Changed = record Drafted.group { epoch = number_of x; view = view_for image Came }

  abbrev Renewed : Group
  Renewed = record Changed { target = NewTarget; target_epoch = number_of x }

  abbrev Wanted : Partitions
  Wanted = wanted NewTarget (id_of x)

  -- ---- the target

  new_view : view_for image Came ≡ finite.insert view x.name (topic_of x)
  new_view = grown_view x image records (record_of x) refl (w.last (record_of x)) w.of_image ∙ ap (λ (v : Topics). finite.insert v x.name (topic_of x)) w.is_view

  subscribers : map subscriber_of (finite.entries Came) ≡ others ++ newest x ∷ []
  subscribers =
      ap (map subscriber_of) (w.last (record_of x))
      ∙ map-append subscriber_of (finite.entries records) ((id_of x, record_of x) ∷ [])
      ∙ ap (λ (ss : List Subscriber). ss ++ newest x ∷ []) w.are_others

  members : AreMembers Came (others ++ newest x ∷ [])
  members =
      record {
        same = subst (λ (ss : List Subscriber). IsPermutation ss (others ++ newest x ∷ [])) (sym subscribers) (IsPermutation-refl (others ++ newest x ∷ []));
        sorted = w.sorted;
      }

  owners : AreOwners (assignor_of (others ++ newest x ∷ [])) (view_for image Came) (others ++ newest x ∷ []) stored NewTarget
  owners =
      subst (λ (a : AssignorName). AreOwners a (view_for image Came) (others ++ newest x ∷ []) stored NewTarget) (sym w.assignor)
      (subst (λ (v : Topics). IsRange v (others ++ newest x ∷ []) NewTarget) (sym new_view) (is_range x view others w.is_new target w.range))

  rises : (number_of x == x.earlier) ≡ false
  rises = by (number_of x == x.earlier) refl
    where
      by : (b : Bool) → (number_of x == x.earlier) ≡ b → b ≡ false
      by true same = let never : suc x.earlier ≡ x.earlier = (Decides-eqb (number_of x) x.earlier).0 same in absurd (omega (arith, never))
      by false apart = refl

  renews : Renews Changed Renewed
  renews = subst (λ b. RenewsWhere b Changed Renewed) (sym rises) (NewTarget, (others ++ newest x ∷ [], members, owners), refl)

  -- ---- the settling

  wants : (p : Partition) → has Wanted p ≡ eq_by_cmp partition_cmp p (partition_of x)
  wants = grown_wants x target w.unowned

  may : may_settle grants (id_of x) Wanted (Some nothing) ≡ true
  may =
      or_left (is_nothing rest) _ ((is_nothing-Decides rest).1 (same_set partition_cmp_total partition_cmp-IsAntisymmetric rest nothing (λ p.
      has-minus partition_cmp_total (held grants (id_of x)) Wanted p
      ∙ (λ i. (has-held grants (id_of x) p ∙ w.holds_none p) i && not (has Wanted p))
      ∙ sym (has-nothing partition_cmp p))))
    where
      rest : Partitions
      rest = minus (held grants (id_of x)) Wanted

  abbrev Arrived : Record
  Arrived = arrived (record_of x) (At 0) (number_of x)

  abbrev Settled : Group
  Settled = record Renewed { grants = moved grants (id_of x) Wanted; records = finite.insert Came (id_of x) Arrived }

  settles : settled Renewed (id_of x) (reported (join_of x)) 0 ≡ Settled
  settles = λ i. settled_by (may i) Renewed (id_of x) (get-inserted text_cmp_total records (id_of x) (record_of x) i) 0

  is_free : is_free_for grants (id_of x) (partition_of x) ≡ true
  is_free = free_where grants (id_of x) (partition_of x) (λ k holds. absurd (true≢false (sym holds ∙ w.unheld k)))

  gets : (p : Partition) → (has Wanted p && (has grants (id_of x, p) || is_free_for grants (id_of x) p)) ≡ eq_by_cmp partition_cmp p (partition_of x)
  gets p =
      (λ i. wants p i && (w.holds_none p i || is_free_for grants (id_of x) p))
      ∙ by (eq_by_cmp partition_cmp p (partition_of x)) refl
    where
      by : (b : Bool) → eq_by_cmp partition_cmp p (partition_of x) ≡ b → (b && is_free_for grants (id_of x) p) ≡ b
      by true same = ap (is_free_for grants (id_of x)) (partition_cmp-IsAntisymmetric p (partition_of x) ((Equal-is (partition_cmp p (partition_of x))).0 same)) ∙ is_free
      by false apart = refl

  new_grants : moved grants (id_of x) Wanted ≡ with_one grants (id_of x, partition_of x)
  new_grants =
      same_set grant_cmp_total grant_cmp-IsAntisymmetric _ _ (λ g.
      has-moved grants (id_of x) Wanted g.0 g.1
      ∙ by g.0 g.1 (eq_by_cmp text_cmp g.0 (id_of x)) refl
      ∙ ap (λ b. b || has grants g) (sym (eq-grant g.0 (id_of x) g.1 (partition_of x)))
      ∙ sym (has-with_one grant_cmp_total grants (id_of x, partition_of x) g))
    where
      by : (m : Text) (p : Partition) (b : Bool) → eq_by_cmp text_cmp m (id_of x) ≡ b
          → cond b (has Wanted p && (has grants (id_of x, p) || is_free_for grants (id_of x) p)) (has grants (m, p))
          ≡ ((b && eq_by_cmp partition_cmp p (partition_of x)) || has grants (m, p))
      by m p true same =
          gets p
          ∙ sym (or_none (eq_by_cmp partition_cmp p (partition_of x)))
          ∙ ap (λ b. eq_by_cmp partition_cmp p (partition_of x) || b) (sym (ap (λ (n : Text). has grants (n, p)) (same_text m (id_of x) same) ∙ w.holds_none p))
      by m p false apart = refl

  -- ---- what it is shown

  is_shown : shown Settled (id_of x) ≡ shown_to x
  is_shown =
      same_set partition_cmp_total partition_cmp-IsAntisymmetric (shown Settled (id_of x)) (shown_to x) (λ p.
      has-common partition_cmp_total (held (moved grants (id_of x) Wanted) (id_of x)) Wanted p
      ∙ (λ i. (has-held (moved grants (id_of x) Wanted) (id_of x) p ∙ has-moved grants (id_of x) Wanted (id_of x) p ∙ own p) i && wants p i)
      ∙ both (eq_by_cmp partition_cmp p (partition_of x))
      ∙ sym (or_none (eq_by_cmp partition_cmp p (partition_of x)))
      ∙ sym (has-of_list partition_cmp_total (partition_of x ∷ []) p))
    where
      own : (p : Partition) → cond (eq_by_cmp text_cmp (id_of x) (id_of x)) (has Wanted p && (has grants (id_of x, p) || is_free_for grants (id_of x) p)) (has grants (id_of x, p)) ≡ eq_by_cmp partition_cmp p (partition_of x)
      own p = ap (λ b. cond b (has Wanted p && (has grants (id_of x, p) || is_free_for grants (id_of x) p)) (has grants (id_of x, p))) (text_ties (id_of x)) ∙ gets p

      both : (b : Bool) → (b && b) ≡ b
      both true = refl
      both false = refl

  -- ---- the reply, and the step

  arrives : Arrived ≡ record (record_of x) { epoch = At (number_of x) }
  arrives = ap (λ b. if b then record (record_of x) { release_deadline = None } else record (record_of x) { previous_epoch = 0; epoch = At (number_of x); release_deadline = None }) (by (0 == number_of x) refl)
    where
      by : (b : Bool) → (0 == number_of x) ≡ b → b ≡ false
      by true same = let never : 0 ≡ suc x.earlier = (Decides-eqb 0 (number_of x)).0 same in absurd (omega (arith, never))
      by false apart = refl

  abbrev Said : Reply
  Said = acceptance (id_of x) Arrived (Some (shown Settled (id_of x)))

  says : Said ≡ reply_to x
  says = λ i. record (reply_to x) { epoch = epoch_number (arrives i).epoch; assignment = Some (is_shown i) }

  abbrev After : Group
  After = record Settled { records = finite.insert Settled.records (id_of x) (sent_after Arrived (Some (shown Settled (id_of x)))) }

  new_records : After.records ≡ finite.insert records (id_of x) (kept_of x)
  new_records =
      insert-insert text_cmp_total text_cmp-IsAntisymmetric Came (id_of x) Arrived _
      ∙ insert-insert text_cmp_total text_cmp-IsAntisymmetric records (id_of x) (record_of x) _
      ∙ (λ i. finite.insert records (id_of x) (record (arrives i) { sent = Some (is_shown i) }))

  leaves : After ≡ joined_by x records target grants view
  leaves = λ i. after_joins (number_of x) (new_records i) NewTarget (new_grants i) (new_view i)

  goes_on : Stages Changed Drafted (join_of x) (Replied Said) After
  goes_on =
      record {
        renewed = Renewed;
        renews = renews;
        settled = Settled;
        settles = sym settles;
        kept = Arrived;
        is_kept = get-inserted text_cmp_total Came (id_of x) Arrived;
        told = Some (shown Settled (id_of x));
        tells = refl;
        answers = refl;
        leaves = refl;
      }

  next : IsNextSerial Before (number_of x)
  next =
      record {
        from = omega arith;
        below = w.serial;
        fresh = ap (λ (o : Option Record). is_some o || false) w.fresh;
        first = λ k from below. absurd (omega (arith, from, below));
      }

  may_rise : verdict_on_change true x.earlier ≡ Accepted
  may_rise = ap (λ b. if b then Refused codes.CoordinatorNotAvailable else Accepted) w.epoch

  joins : JoinsAs (sender_of records (join_of x)) Before (arrival_of x image) (Replied Said) After
  joins =
      record {
        name = Some (record { id = id_of x; next_serial = suc (number_of x) });
        is_named = (Some (number_of x), next, refl);
        joins = record {
          change = true;
          is_change = refl;
          step = subst (λ (v : Verdict). ByVerdict v (Stages Changed Drafted (join_of x)) Before (Replied Said) After) (sym may_rise) goes_on;
        };
      }

  accepted : verdict_on Joins (sender_of records (join_of x)) Before (join_of x) (stamp_at x 1) ≡ Accepted
  accepted = ap (λ b. if b then Refused codes.GroupMaxSizeReached else Accepted) w.few

  pub newcomer_joins : HeartbeatStep (after_joins x.earlier records stored grants seen) (arrival_of x image) (Replied (reply_to x)) (joined_by x records target grants view)
  newcomer_joins =
      subst (λ (r : Reply). HeartbeatStep Before (arrival_of x image) (Replied r) (joined_by x records target grants view)) says
      (subst (λ (g : Group). HeartbeatStep Before (arrival_of x image) (Replied Said) g) leaves
      (subst (λ (v : Verdict). ByVerdict v (StepOf Joins (sender_of records (join_of x)) Before (arrival_of x image)) Before (Replied Said) After) (sym accepted) joins))
