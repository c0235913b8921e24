-- What is looked at in the end is what makes a restored group sound.
use Rattle.std.proofs.Common.{◌≡◌, ◌≢◌, ℕ, suc, ◌<◌, ◌≤◌, Bool, true, false, cond, ◌&&◌, ◌||◌, ◌==◌, Option, Some, None, List, [], ◌∷◌, length, IsTrue, refl, sym, ap, subst, ◌∙◌, arith, true≢false}
use Rattle.std.specs.Prelude.{◌↔◌, slice_get, if◌then◌else◌}
use Rattle.std.specs.List.{AllByRecursion, Contains, list_all, list_any}
use Rattle.std.specs.Option.{option_map_or}
use Rattle.std.specs.Ordering.{eq_by_cmp, is_eq}
use Rattle.std.specs.Cmp.{Equal-is}
use Rattle.std.specs.BTreeMap.{get}
use Rattle.std.specs.FinMap as finite
use Rattle.std.specs.FinMap.{find}
use Rattle.std.proofs.lemmas.List.Folds.{list_all-map}
use Rattle.group_types.specs.declared.partition.Partition.{Partition}
use Rattle.group_types.specs.Limits.{GREATEST_EPOCH}
use Rattle.group_types.specs.Text.{Text, text_cmp}
use Rattle.group_types.specs.Sets.{has, in_order, is_nothing, nothing}
use Rattle.group_types.specs.Partition.{Partitions, partition_cmp}
use Rattle.group_types.specs.Topics.{Topic, Topics}
use Rattle.group_types.specs.Images.{AreImageTopics}
use Rattle.group_types.specs.Owners.{Spread, is_index, share_of}
use Rattle.group_types.specs.Group.{Grants, Group, Record, Records, held}
use Rattle.group_types.specs.Sound.{IsOfView}
use Rattle.group_types.proofs.Entries.{entries_found}
use Rattle.group_types.proofs.GrantLemmas.{has-held}
use Rattle.group_types.proofs.Lookups.{Tie, ties, differs, tie, text_ties, not_none, same_text, some_is}
use Rattle.group_types.proofs.Orders.{partition_cmp-IsAntisymmetric, partition_cmp-itself}
use Rattle.group_types.proofs.SetLemmas.{has-in_order, has-nothing, is_nothing-Decides}
use Rattle.group_types.proofs.SpreadLemmas.{has-share_of, owns-get}
use Rattle.range_assign.specs.declared.spread.Share.{Share}
use Rattle.range_assign.specs.Shares.{AreShares, share_in, shares_in, spread_of}
use Rattle.range_assign.proofs.Spreads.{Contains-cases, Contains-cons, Contains-head, IsShare-of, get-spread_of, owner_in-has}
use Rattle.group_epochs.specs.Table.{member_at}
use Rattle.group_epochs.proofs.Ranked.{entry_there, row_there}
use Rattle.group_reconcile.specs.Holders.{Holders, pairs}
use Rattle.group_reconcile.proofs.AllOfSets.{all_of_set, both, both_true}
use Rattle.group_reconcile.proofs.Bools.{or_second}
use Rattle.group_core.specs.declared.restoring.GroupNumbers.{GroupNumbers}
use Rattle.group_core.specs.Restoring.{AreCountsOf, CanBeFinished, Counts, IsRestoring, MemberFits, MembersFit, OwnersFit, count_behind, finished, is_counted, share_fits}
use Rattle.group_core.proofs.Begun.{one_holder_of_pairs}

-- ---- the counts of a view's topics

abbrev IsThere : Topics → Text × Topic → Type 0
IsThere view t = finite.get view t.0 ≡ Some t.1

-- a topic of the view with the id, and its count
pub record HasCount (view : Topics) (id : List ℕ) (n : ℕ) : Type 0 where
  pub name : Text
  pub topic : Topic
  pub there : finite.get view name ≡ Some topic
  pub same : topic.id ≡ id
  pub count : topic.count ≡ n

counted_there : (view : Topics) (id : List ℕ) (n : ℕ) (ts : List (Text × Topic)) (before : Option ℕ) → AllByRecursion (IsThere view) ts
    → count_behind id before ts ≡ Some n → (before ≡ Some n → HasCount view id n) → HasCount view id n
counted_there view id n [] before all is earlier = earlier is
counted_there view id n (t ∷ ts) before all is earlier = by (λ now. counted_there view id n ts now all.1) (tie t.1.id id)
  where
    by : ((now : Option ℕ) → count_behind id now ts ≡ Some n → (now ≡ Some n → HasCount view id n) → HasCount view id n) → Tie t.1.id id → HasCount view id n
    by rest (ties same) =
        rest (Some t.1.count)
        (ap (λ b. count_behind id (if b then Some t.1.count else before) ts) (sym (ap (eq_by_cmp text_cmp t.1.id) (sym same) ∙ text_ties t.1.id)) ∙ is)
        (λ now. record { name = t.0; topic = t.1; there = all.0; same = same; count = some_is t.1.count n now })
    by rest (differs _ apart) =
        rest before (ap (λ b. count_behind id (if b then Some t.1.count else before) ts) (sym apart) ∙ is) earlier

module _ (view : Topics) (are : AreImageTopics view) (id : List ℕ) (n : ℕ) (at : HasCount view id n) where
  -- two topics of one id are one
  same_count : (t : Text × Topic) → IsThere view t → t.1.id ≡ id → t.1.count ≡ n
  same_count t there same =
      let name = are.ids_apart t.0 at.name t.1 at.topic there at.there (same ∙ sym at.same) in
      ap (λ (x : Topic). x.count) (some_is t.1 at.topic (sym there ∙ ap (finite.get view) name ∙ at.there)) ∙ at.count

  count_stays : (ts : List (Text × Topic)) → AllByRecursion (IsThere view) ts → count_behind id (Some n) ts ≡ Some n
  count_stays [] all = refl
  count_stays (t ∷ ts) all = by (count_stays ts all.1) (tie t.1.id id)
    where
      by : count_behind id (Some n) ts ≡ Some n → Tie t.1.id id → count_behind id (Some n) (t ∷ ts) ≡ Some n
      by rest (ties same) =
          ap (λ b. count_behind id (if b then Some t.1.count else Some n) ts) (ap (eq_by_cmp text_cmp t.1.id) (sym same) ∙ text_ties t.1.id)
          ∙ ap (λ k. count_behind id (Some k) ts) (same_count t all.0 same) ∙ rest
      by rest (differs _ apart) = ap (λ b. count_behind id (if b then Some t.1.count else Some n) ts) apart ∙ rest

  counted_once : (ts : List (Text × Topic)) (before : Option ℕ) → AllByRecursion (IsThere view) ts → find text_cmp at.name ts ≡ Some at.topic → count_behind id before ts ≡ Some n
  counted_once [] before all is = absurd (not_none at.topic is)
  counted_once (t ∷ ts) before all is = by (counted_once ts before all.1) (tie t.1.id id)
    where
      later : (name : Bool) → cond name (Some t.1) (find text_cmp at.name ts) ≡ Some at.topic → t.1.id ≢ id → (find text_cmp at.name ts ≡ Some at.topic → count_behind id before ts ≡ Some n)
          → count_behind id before ts ≡ Some n
      later true now apart rest = absurd (apart (ap (λ (x : Topic). x.id) (some_is t.1 at.topic now) ∙ at.same))
      later false there apart rest = rest there

      by : (find text_cmp at.name ts ≡ Some at.topic → count_behind id before ts ≡ Some n) → Tie t.1.id id → count_behind id before (t ∷ ts) ≡ Some n
      by rest (ties same) =
          ap (λ b. count_behind id (if b then Some t.1.count else before) ts) (ap (eq_by_cmp text_cmp t.1.id) (sym same) ∙ text_ties t.1.id)
          ∙ ap (λ k. count_behind id (Some k) ts) (same_count t all.0 same) ∙ count_stays ts all.1
      by rest (differs other apart) =
          ap (λ b. count_behind id (if b then Some t.1.count else before) ts) apart ∙ later (eq_by_cmp text_cmp at.name t.0) is other rest

module _ (view : Topics) (counts : Counts) (are : AreImageTopics view) (counted : AreCountsOf view counts) (p : Partition) where
  of_count : (o : Option ℕ) → get text_cmp counts p.topic ≡ o → option_map_or (is_index p.index) o false ≡ true → IsOfView view p
  of_count None is so = absurd (true≢false (sym so))
  of_count (Some n) is so =
      let at = counted_there view p.topic n (finite.entries view) None (entries_found view) (sym (counted p.topic) ∙ is) (λ none. absurd (not_none n none)) in
      record { name = at.name; topic = at.topic; is_topic = at.there; same_id = sym at.same; index = ap (is_index p.index) at.count ∙ so }

  -- a partition is counted exactly where it is of the view
  pub counted_of_view : IsTrue (is_counted counts p) ↔ IsOfView view p
  counted_of_view = (
    of_count (get text_cmp counts p.topic) refl,
    λ of_view.
        let at : HasCount view p.topic of_view.topic.count = record { name = of_view.name; topic = of_view.topic; there = of_view.is_topic; same = sym of_view.same_id; count = refl } in
        ap (λ o. option_map_or (is_index p.index) o false)
        (counted p.topic ∙ counted_once view are p.topic of_view.topic.count at (finite.entries view) None (entries_found view) (sym (finite.get-entries view of_view.name) ∙ of_view.is_topic))
        ∙ of_view.index,
  )

-- ---- the owners

module _ (records : Records) (view : Topics) (counts : Counts) (are : AreImageTopics view) (counted : AreCountsOf view counts) where
  -- a share fits where each of its partitions does
  record ShareFits (s : Text × Partitions) : Type 0 where
    owner : (p : Partition) → IsTrue (has s.1 p) → IsTrue (finite.contains_key records s.0)
    owned : (p : Partition) → IsTrue (has s.1 p) → IsOfView view p

  fits_by : (s : Text × Partitions) (empty : Bool) → is_nothing s.1 ≡ empty → (empty || (finite.contains_key records s.0 && list_all (is_counted counts) (in_order s.1))) ≡ true → ShareFits s
  fits_by s true is so =
      let none : s.1 ≡ nothing = (is_nothing-Decides s.1).0 is in
      let away : (p : Partition) → IsTrue (has s.1 p) → ⊥ = λ p there. true≢false (sym there ∙ ap (λ set. has set p) none ∙ has-nothing partition_cmp p) in
      record { owner = λ p there. absurd (away p there); owned = λ p there. absurd (away p there) }
  fits_by s false is so =
      let parts = both (finite.contains_key records s.0) _ so in
      record {
        owner = λ p there. parts.0;
        owned = λ p there. (counted_of_view view counts are counted p).0 ((all_of_set (is_counted counts) s.1).0 parts.1 p there);
      }

  fits_back : (s : Text × Partitions) → ShareFits s → (owned : List Partition) → in_order s.1 ≡ owned → share_fits records counts s ≡ true
  fits_back s fits [] none =
      let empty : is_nothing s.1 ≡ true = ap (λ (ps : List Partition). length ps == 0) none in
      ap (λ b. b || (finite.contains_key records s.0 && list_all (is_counted counts) (in_order s.1))) empty
  fits_back s fits (q ∷ qs) some =
      let there : has s.1 q ≡ true = has-in_order s.1 q ∙ ap (list_any (eq_by_cmp partition_cmp q)) some ∙ ap (λ o. is_eq o || list_any (eq_by_cmp partition_cmp q) qs) (partition_cmp-itself q) in
      or_second (is_nothing s.1) _
      (both_true _ _ (fits.owner q there) ((all_of_set (is_counted counts) s.1).1 (λ p inside. (counted_of_view view counts are counted p).1 (fits.owned p inside))))

  tail_fits : (s : Text × Partitions) (ss : List (Text × Partitions)) → OwnersFit records view (s ∷ ss) → OwnersFit records view ss
  tail_fits s ss fit =
      record { owners = λ t p there. fit.owners t p (Contains-cons s ss t there); owned = λ t p there. fit.owned t p (Contains-cons s ss t there) }

  shares_fit : (shares : List (Text × Partitions)) → IsTrue (list_all (share_fits records counts) shares) ↔ OwnersFit records view shares
  shares_fit [] = (λ _. record { owners = λ s p there. absurd (nowhere s there); owned = λ s p there. absurd (nowhere s there) }, λ _. refl)
    where
      nowhere : (s : Text × Partitions) → Contains [] s → ⊥
      nowhere s there = let within = there.1 in omega (arith, within)
  shares_fit (s ∷ ss) = (
    λ so.
        let parts = both (share_fits records counts s) _ so in
        let first = fits_by s (is_nothing s.1) refl parts.0 in
        let rest = (shares_fit ss).0 parts.1 in
        record {
          owners = λ t p there inside. Contains-cases s ss t (λ same. ap (λ (u : Text × Partitions). finite.contains_key records u.0) (sym same) ∙ first.owner p (ap (λ (u : Text × Partitions). has u.1 p) same ∙ inside)) (λ later. rest.owners t p later inside) there;
          owned = λ t p there inside. Contains-cases s ss t (λ same. first.owned p (ap (λ (u : Text × Partitions). has u.1 p) same ∙ inside)) (λ later. rest.owned t p later inside) there;
        },
    λ fit.
        both_true _ _
        (fits_back s (record { owner = λ p. fit.owners s p (Contains-head s ss); owned = λ p. fit.owned s p (Contains-head s ss) }) (in_order s.1) refl)
        ((shares_fit ss).1 (tail_fits s ss fit)),
  )

-- ---- the members

place_of_entry : (es : List (Text × Record)) (q : Text) (r : Record) → find text_cmp q es ≡ Some r → (j : ℕ) × (j < length es) × (slice_get es j ≡ Some (q, r))
place_of_entry [] q r is = absurd (not_none r is)
place_of_entry (e ∷ es) q r is = by (eq_by_cmp text_cmp q e.0) refl is (place_of_entry es q r)
  where
    by : (b : Bool) → eq_by_cmp text_cmp q e.0 ≡ b → cond b (Some e.1) (find text_cmp q es) ≡ Some r → (find text_cmp q es ≡ Some r → (j : ℕ) × (j < length es) × (slice_get es j ≡ Some (q, r)))
        → (j : ℕ) × (j < length (e ∷ es)) × (slice_get (e ∷ es) j ≡ Some (q, r))
    by true so now behind = (0, omega arith, λ i. Some (sym (same_text q e.0 so) i, some_is e.1 r now i))
    by false _ rest behind =
        let later = behind rest in
        let below = later.1 in
        (suc later.0, omega (arith, below), later.2)

-- each member has a rank
pub rank_of : (records : Records) (m : Text) (r : Record) → finite.get records m ≡ Some r → (k : ℕ) × (k < length (finite.entries records)) × (member_at records k ≡ Some (m, r))
rank_of records m r is = place_of_entry (finite.entries records) m r (sym (finite.get-entries records m) ∙ is)

-- who has a rank is a member
pub member_of_rank : (records : Records) (k : ℕ) (e : Text × Record) → member_at records k ≡ Some e → finite.get records e.0 ≡ Some e.1
member_of_rank records k e is = entry_there (finite.entries records) (λ e. finite.get records e.0 ≡ Some e.1) k e (entries_found records) is

-- ---- what a member holds of its target

module _ (grants : Grants) (owners : Spread) (m : Text) where
  pub holds_own : (set part : Partitions) (b : Bool) → set ≡ held grants m → part ≡ share_of owners m → b ≡ list_all (has part) (in_order set)
      → IsTrue b ↔ ((p : Partition) → IsTrue (has grants (m, p)) → finite.get owners p ≡ Some m)
  holds_own set part b set_is part_is all = (
    λ so p holds.
        (owns-get owners m p).0 (sym (has-share_of owners m p) ∙ ap (λ (s : Partitions). has s p) (sym part_is)
        ∙ (all_of_set (has part) set).0 (sym all ∙ so) p (ap (λ (s : Partitions). has s p) set_is ∙ has-held grants m p ∙ holds)),
    λ each.
        all ∙ (all_of_set (has part) set).1 (λ p inside. ap (λ (s : Partitions). has s p) part_is ∙ has-share_of owners m p
        ∙ (owns-get owners m p).1 (each p (sym (has-held grants m p) ∙ ap (λ (s : Partitions). has s p) (sym set_is) ∙ inside))),
  )

  pub holds_none : nothing ≡ held grants m → IsTrue true ↔ ((p : Partition) → IsTrue (has grants (m, p)) → finite.get owners p ≡ Some m)
  holds_none none = (
    λ _ p holds. absurd (true≢false (sym holds ∙ sym (has-held grants m p) ∙ ap (λ (s : Partitions). has s p) (sym none) ∙ has-nothing partition_cmp p)),
    λ _. refl,
  )

-- ---- the owners, as the code looks at them

pub owners_fit_by : (records : Records) (view : Topics) (counts : Counts) → AreImageTopics view → AreCountsOf view counts → (shares : List Share) (b : Bool)
    → b ≡ list_all (λ s. share_fits records counts (share_in s)) shares → IsTrue b ↔ OwnersFit records view (shares_in shares)
owners_fit_by records view counts are counted shares b is =
    let path : b ≡ list_all (share_fits records counts) (shares_in shares) = is ∙ sym (list_all-map (share_fits records counts) share_in shares) in
    let fits = shares_fit records view counts are counted (shares_in shares) in
    (λ so. fits.0 (sym path ∙ so), λ fit. path ∙ fits.1 fit)

-- ---- the members, as the code looks at them

-- the member at a rank fits where the one that is found there does
pub fits_at : (g : Group) (k : ℕ) (found e : Text × Record) → member_at g.records k ≡ Some found → member_at g.records k ≡ Some e → MemberFits g found.0 found.1 → MemberFits g e.0 e.1
fits_at g k found e there is fits = subst (λ (x : Text × Record). MemberFits g x.0 x.1) (some_is found e (sym there ∙ is)) fits

pub all_members_fit : (g : Group) (n : ℕ) → length (finite.entries g.records) ≤ n
    → ((k : ℕ) → k < n → (e : Text × Record) → member_at g.records k ≡ Some e → MemberFits g e.0 e.1) → MembersFit g
all_members_fit g n long each m r is =
    let rank = rank_of g.records m r is in
    let below = rank.1 in
    each rank.0 (omega (arith, long, below)) (m, r) rank.2

-- below the number of members each rank is somebody's
pub somebody : (records : Records) (k : ℕ) → k < finite.len records → None ≡ member_at records k → ⊥
somebody records k below none =
    let long = finite.len-entries records in
    let row = row_there (finite.entries records) k (omega (arith, long, below)) in
    not_none row.0 (none ∙ row.1)

-- ---- the end

module _ (g : Group) (h : Holders) (n : GroupNumbers) (shares : List (Text × Partitions)) (view : Topics) where
  pub owners_of : CanBeFinished g n shares view → OwnersFit g.records view shares
  owners_of can =
      let owned_by : (s : Text × Partitions) (p : Partition) → Contains shares s → IsTrue (has s.1 p) → finite.get (spread_of shares) p ≡ Some s.0
      = λ s p there inside. (IsShare-of shares can.target s there p).0 inside in
      record {
        owners = λ s p there inside. can.sound.owners s.0 p (owned_by s p there inside);
        owned = λ s p there inside. can.sound.owned s.0 p (owned_by s p there inside);
      }

  pub members_fit_of : CanBeFinished g n shares view → MembersFit (finished g n shares view)
  members_fit_of can m r is = record { epoch = can.sound.epochs m r is; settled = λ same p holds. can.sound.settled m r p is same holds }

  pub can_be_finished : IsRestoring g → g.grants ≡ pairs h → AreImageTopics view → n.epoch ≤ GREATEST_EPOCH → OwnersFit g.records view shares → AreShares shares
      → n.target_epoch ≤ n.epoch → MembersFit (finished g n shares view) → CanBeFinished g n shares view
  can_be_finished is same are greatest owners apart below members = record {
    target = apart;
    sound = record {
      one_holder = subst (λ grants. (a b : Text) (p : Partition) → IsTrue (has grants (a, p)) → IsTrue (has grants (b, p)) → a ≡ b) (sym same) (one_holder_of_pairs h);
      holders = is.holders;
      owners = λ m p owns.
          let by = owner_in-has shares p m (sym (get-spread_of shares p) ∙ owns) in
          ap (finite.contains_key g.records) (sym by.2) ∙ owners.owners by.0 p by.1 by.3;
      view = are;
      owned = λ m p owns.
          let by = owner_in-has shares p m (sym (get-spread_of shares p) ∙ owns) in
          owners.owned by.0 p by.1 by.3;
      epochs = λ m r there. (members m r there).epoch;
      settled = λ m r p there at holds. (members m r there).settled at p holds;
      target_epoch = below;
      epoch = greatest;
      instances = is.instances;
      named = is.named;
      past = is.past;
      few_members = is.few_members;
      few_past = is.few_past;
    };
  }
