-- What a change of a record does to the counts of names.
use Rattle.std.proofs.Common.{◌≡◌, ℕ, ◌+◌, ◌-◌, ◌^◌, ◌<◌, ◌≤◌, ◌||◌, ◌&&◌, Bool, true, false, cond, Option, Some, None, List, [], ◌∷◌, map, is_some, length, slice_get, String, T, refl, sym, ap, subst, ◌∙◌, arith}
use Rattle.std.specs.Prelude.{IsSome, string_bytes, count_by, nat_lt, unwrap_or}
use Rattle.std.specs.FinMap as finite
use Rattle.std.specs.FinMap.{is_sorted}
use Rattle.std.specs.FinMap.Entries.{below_all}
use Rattle.std.specs.List.{IsDistinct, list_any}
use Rattle.std.specs.Map.{keys_of, lookup}
use Rattle.std.specs.Ordering.{eq_by_cmp, is_eq, is_lt}
use Rattle.std.specs.declared.cmp.Ordering.{Ordering}
use Rattle.std.specs.declared.cmp.Ordering.TheVariants.{Less, Equal, Greater}
use Rattle.std.specs.Str.{bytes_eq}
use Rattle.std.specs.String.{string_eq}
use Rattle.std.proofs.Math.ListN.{length-map}
use Rattle.std.proofs.lemmas.Bool.Decides.{nat_tests}
use Rattle.std.proofs.lemmas.List.Sums.{count_by-le-length, sum_by-cons}
use Rattle.std.proofs.lemmas.List.Sorted.{IsPermutation-map, sum_by-IsPermutation}
use Rattle.std.proofs.lemmas.Map.Keys.{IsDistinct-tail}
use Rattle.std.proofs.lemmas.Map.Text.{hash_map_updates_text}
use Rattle.indexmap.specs.IndexMap.{IndexMap, UpdatesBy, get_by_text}
use Rattle.group_types.specs.Text.{Text, text_cmp}
use Rattle.group_types.specs.Sets.{has, in_order, nothing, size, with_one}
use Rattle.group_types.specs.Topics.{Names, Topic, Topics, view_of}
use Rattle.group_types.specs.Group.{Record, Records}
use Rattle.group_types.specs.Renewal.{is_subscribed, view_for}
use Rattle.group_types.proofs.BoolLemmas.{or_none, or_turn}
use Rattle.group_types.proofs.Entries.{first_part, second_part}
use Rattle.group_types.proofs.Lookups.{not_none, Tie, ties, differs, tie, some_is, text_ties}
use Rattle.group_types.proofs.Orders.{text_cmp_total, text_cmp-IsAntisymmetric}
use Rattle.topic_meta.proofs.Found.{get-view_of}
use Rattle.group_types.proofs.SetLemmas.{has-in_order, has-nothing, has-with_one}
use Rattle.group_epochs.specs.Counts.{AreAsked, AreCounts, AreSome, count_of, is_asked, once, own_share, subscribers, times, with_asked, with_counted}
use Rattle.group_epochs.proofs.Others.{absent_later, insert_moves, insert_over, len-records_in, no_entries}
use Rattle.group_epochs.specs.Past.{PastState}
use Rattle.group_epochs.specs.Table.{IsTable, Rewrites, records_in, rows_at, with_row}
use Rattle.group_epochs.specs.declared.entry.Entry.{Entry}
use Rattle.group_epochs.proofs.Ranked.{all_by_id, ordered_distinct, records_alike}
use Rattle.group_epochs.proofs.Tabled.{record_rewritten, the_some}
use Rattle.group_epochs.proofs.Rows.{get-records_in, kept_in, stays, tied_bytes, tied_bytes_turned}

-- ---- how often a name stands in a list

abbrev one_if : Bool → ℕ
one_if b = cond b 1 0

zero_more : (n : ℕ) → 0 + n ≡ n
zero_more n = omega arith

none_more : (k : ℕ) → k ≡ k + 0
none_more k = omega arith

none_less : (k : ℕ) → k ≡ k - 0
none_less k = omega arith

pub times-cons : (q t : Text) (ts : List Text) → times q (t ∷ ts) ≡ one_if (eq_by_cmp text_cmp q t) + times q ts
times-cons q t ts = sum_by-cons (λ x. cond (eq_by_cmp text_cmp q x) 1 0) t ts

-- as often in front and behind
pub times_behind : (q t : Text) (ts : List Text) → times q (t ∷ ts) ≡ times q (t ∷ []) + times q ts
times_behind q t ts = times-cons q t ts ∙ ap (λ k. k + times q ts) (sym (zero_more (one_if (eq_by_cmp text_cmp q t))))

less_apart : (o : Ordering) → T (is_lt o) → is_eq o ≡ false
less_apart Less _ = refl
less_apart Equal less = absurd less
less_apart Greater less = absurd less

module _ {X : Type 0} where
  abbrev names_in : List (Text × X) → List Text
  names_in es = map (λ e. e.0) es

  none_below : (t : Text) (es : List (Text × X)) → T (below_all text_cmp t es) → times t (names_in es) ≡ 0
  none_below t [] _ = refl
  none_below t (e ∷ es) below =
      let apart = less_apart (text_cmp t e.0) (first_part (is_lt (text_cmp t e.0)) (below_all text_cmp t es) below) in
      let rest = none_below t es (second_part (is_lt (text_cmp t e.0)) (below_all text_cmp t es) below) in
      times-cons t e.0 (names_in es) ∙ (λ i. one_if (apart i) + rest i)

  once_each : (q : Text) (es : List (Text × X)) → T (is_sorted text_cmp es) → times q (names_in es) ≡ one_if (list_any (eq_by_cmp text_cmp q) (names_in es))
  once_each q [] _ = refl
  once_each q (e ∷ es) sorted =
      by (tie q e.0) (none_below e.0 es (first_part (below_all text_cmp e.0 es) (is_sorted text_cmp es) sorted)) (once_each q es (second_part (below_all text_cmp e.0 es) (is_sorted text_cmp es) sorted))
    where
      by : Tie q e.0 → times e.0 (names_in es) ≡ 0 → times q (names_in es) ≡ one_if (list_any (eq_by_cmp text_cmp q) (names_in es))
          → times q (names_in (e ∷ es)) ≡ one_if (list_any (eq_by_cmp text_cmp q) (names_in (e ∷ es)))
      by (ties same) none rest =
          let here : eq_by_cmp text_cmp q e.0 ≡ true = ap (λ t. eq_by_cmp text_cmp t e.0) same ∙ text_ties e.0 in
          times-cons q e.0 (names_in es) ∙ (λ i. one_if (here i) + (ap (λ t. times t (names_in es)) same ∙ none) i)
          ∙ (λ i. one_if (sym here i || list_any (eq_by_cmp text_cmp q) (names_in es)))
      by (differs other apart) none rest =
          times-cons q e.0 (names_in es) ∙ (λ i. one_if (apart i) + rest i)
          ∙ zero_more (one_if (list_any (eq_by_cmp text_cmp q) (names_in es)))
          ∙ (λ i. one_if (sym apart i || list_any (eq_by_cmp text_cmp q) (names_in es)))

-- a name of a set stands among them once
pub times-in_order : (names : Names) (q : Text) → times q (in_order names) ≡ once names q
times-in_order names q = once_each q (finite.entries names) (finite.entries_sorted names) ∙ ap one_if (sym (has-in_order names q))

-- ---- the count of one name changes

module _ {Y S : Type 0} (m n : IndexMap (String Y) ℕ S) (name : Text) (w : Option ℕ)
    (updates : UpdatesBy string_eq (λ k. bytes_eq name (string_bytes k)) m n w) where
  count_after : (q : Text) → Tie q name → count_of n q ≡ cond (eq_by_cmp text_cmp q name) (unwrap_or w 0) (count_of m q)
  count_after q it =
      ap (λ (o : Option ℕ). unwrap_or o 0) (hash_map_updates_text name m n w updates q ∙ ap (λ b. cond b w (get_by_text m q)) (tied_bytes_turned name q))
      ∙ by (eq_by_cmp text_cmp q name)
    where
      by : (b : Bool) → unwrap_or (cond b w (get_by_text m q)) 0 ≡ cond b (unwrap_or w 0) (count_of m q)
      by true = refl
      by false = refl

  -- no name is left that nobody subscribes
  pub some_after : ((k : ℕ) → w ≡ Some k → 0 < k) → AreSome m → AreSome n
  some_after here before q k is =
      by (bytes_eq name q) (sym (hash_map_updates_text name m n w updates q) ∙ is)
    where
      by : (b : Bool) → cond b w (get_by_text m q) ≡ Some k → 0 < k
      by true so = here k so
      by false so = before q k so

  pub raised : unwrap_or w 0 ≡ count_of m name + 1 → (q : Text) → count_of n q ≡ count_of m q + times q (name ∷ [])
  raised is q = by (tie q name)
    where
      by : Tie q name → count_of n q ≡ count_of m q + times q (name ∷ [])
      by (ties same) =
          let here : eq_by_cmp text_cmp q name ≡ true = ap (λ t. eq_by_cmp text_cmp t name) same ∙ text_ties name in
          count_after q (ties same) ∙ ap (λ b. cond b (unwrap_or w 0) (count_of m q)) here ∙ is ∙ (λ i. count_of m (sym same i) + one_if (sym here i))
          ∙ ap (λ k. count_of m q + k) (sym (zero_more (one_if (eq_by_cmp text_cmp q name))))
      by (differs other apart) =
          count_after q (differs other apart) ∙ ap (λ b. cond b (unwrap_or w 0) (count_of m q)) apart
          ∙ none_more (count_of m q) ∙ (λ i. count_of m q + one_if (sym apart i)) ∙ ap (λ k. count_of m q + k) (sym (zero_more (one_if (eq_by_cmp text_cmp q name))))

  pub lowered : unwrap_or w 0 ≡ count_of m name - 1 → (q : Text) → count_of n q ≡ count_of m q - times q (name ∷ [])
  lowered is q = by (tie q name)
    where
      by : Tie q name → count_of n q ≡ count_of m q - times q (name ∷ [])
      by (ties same) =
          let here : eq_by_cmp text_cmp q name ≡ true = ap (λ t. eq_by_cmp text_cmp t name) same ∙ text_ties name in
          count_after q (ties same) ∙ ap (λ b. cond b (unwrap_or w 0) (count_of m q)) here ∙ is ∙ (λ i. count_of m (sym same i) - one_if (sym here i))
          ∙ ap (λ k. count_of m q - k) (sym (zero_more (one_if (eq_by_cmp text_cmp q name))))
      by (differs other apart) =
          count_after q (differs other apart) ∙ ap (λ b. cond b (unwrap_or w 0) (count_of m q)) apart
          ∙ none_less (count_of m q) ∙ (λ i. count_of m q - one_if (sym apart i)) ∙ ap (λ k. count_of m q - k) (sym (zero_more (one_if (eq_by_cmp text_cmp q name))))

-- ---- the subscribers of a name

subscribers_with_new : (s : Records) (k : Text) (r : Record) (q : Text) → finite.get s k ≡ None → subscribers (finite.insert s k r) q ≡ once r.names q + subscribers s q
subscribers_with_new s k r q none =
    sum_by-IsPermutation (λ (r : Record). cond (has r.names q) 1 0) (r ∷ finite.values s) (finite.values (finite.insert s k r))
    (IsPermutation-map (λ (e : Text × Record). e.1) ((k, r) ∷ finite.entries s) (finite.entries (finite.insert s k r)) (insert_moves s k r none))
    ∙ sum_by-cons (λ (r : Record). cond (has r.names q) 1 0) r (finite.values s)

gone_there : (s : Records) (k : Text) → finite.get (finite.remove s k) k ≡ None
gone_there s k = finite.get-remove text_cmp_total s k k ∙ ap (λ b. cond b None (finite.get s k)) (text_ties k)

-- with a record for a member
pub subscribers_with : (s : Records) (k : Text) (r : Record) (q : Text) → subscribers (finite.insert s k r) q ≡ once r.names q + subscribers (finite.remove s k) q
subscribers_with s k r q =
    ap (λ (t : Records). subscribers t q) (sym (insert_over s k r)) ∙ subscribers_with_new (finite.remove s k) k r q (gone_there s k)

put_back : (s : Records) (k : Text) (r : Record) → finite.get s k ≡ Some r → finite.insert s k r ≡ s
put_back s k r is =
    stays s (finite.insert s k r) k (λ q. finite.get-insert text_cmp_total s k r q ∙ ap (λ o. cond (eq_by_cmp text_cmp q k) o (finite.get s q)) (sym is))

-- without a member
pub subscribers_without : (s : Records) (k : Text) (q : Text) → subscribers s q ≡ own_share (finite.get s k) q + subscribers (finite.remove s k) q
subscribers_without s k q = by (finite.get s k) refl
  where
    by : (o : Option Record) → finite.get s k ≡ o → subscribers s q ≡ own_share o q + subscribers (finite.remove s k) q
    by (Some r) is = ap (λ (t : Records). subscribers t q) (sym (put_back s k r is)) ∙ subscribers_with s k r q
    by None is =
        let same : finite.remove s k ≡ s = stays s (finite.remove s k) k (λ q. finite.get-remove text_cmp_total s k q ∙ ap (λ o. cond (eq_by_cmp text_cmp q k) o (finite.get s q)) (sym is)) in
        let equal = ap (λ (t : Records). subscribers t q) same in omega (arith, equal)

-- ---- the counts after a change

module _ {Y S : Type 0} (m n : IndexMap (String Y) ℕ S) (before : Records) (are : AreCounts before m) where
  pub counts_with : (k : Text) (r : Record) → finite.get before k ≡ None → ((q : Text) → count_of n q ≡ count_of m q + once r.names q) → AreCounts (finite.insert before k r) n
  counts_with k r none up q =
      let more = subscribers_with_new before k r q none in
      let now = up q in
      let was = are q in
      omega (arith, more, now, was)

  pub counts_without : (k : Text) (r : Record) → finite.get before k ≡ Some r → ((q : Text) → count_of n q ≡ count_of m q - once r.names q) → AreCounts (finite.remove before k) n
  counts_without k r there down q =
      let less : subscribers before q ≡ once r.names q + subscribers (finite.remove before k) q = subscribers_without before k q ∙ ap (λ o. own_share o q + subscribers (finite.remove before k) q) there in
      let now = down q in
      let was = are q in
      omega (arith, less, now, was)

-- ---- the counts after a change of the table

module _ {Y S : Type 0} (m n : IndexMap (String Y) ℕ S) (before : Records) (are : AreCounts before m) where
  pub counts_replaced : (k : Text) (former r : Record) → finite.get before k ≡ Some former → ((q : Text) → count_of n q ≡ count_of m q - once former.names q + once r.names q)
      → AreCounts (finite.insert before k r) n
  counts_replaced k former r there changed q =
      let less : subscribers before q ≡ once former.names q + subscribers (finite.remove before k) q = subscribers_without before k q ∙ ap (λ o. own_share o q + subscribers (finite.remove before k) q) there in
      let more = subscribers_with before k r q in
      let now = changed q in
      let was = are q in
      omega (arith, less, more, now, was)

-- a member's names stay
pub counts_stay : {Y S : Type 0} (m : IndexMap (String Y) ℕ S) (before : Records) → AreCounts before m → (k : Text) (former r : Record) → finite.get before k ≡ Some former
    → former.names ≡ r.names → AreCounts (finite.insert before k r) m
counts_stay m before are k former r there same q =
    let less : subscribers before q ≡ once former.names q + subscribers (finite.remove before k) q = subscribers_without before k q ∙ ap (λ o. own_share o q + subscribers (finite.remove before k) q) there in
    let more = subscribers_with before k r q in
    let names = ap (λ (names : Names). once names q) same in
    let was = are q in
    omega (arith, less, more, names, was)

module _ {Y S : Type 0} {by_id : List ℕ} (m n : IndexMap (String Y) Entry S) (past : PastState) (id : Text) (change : Entry → Entry)
    (rewrites : Rewrites m n id change) (table : IsTable m by_id past) (there : IsSome (get_by_text m id)) where
  pub rewritten_counted : (counts : IndexMap (String Y) ℕ S) → ((e : Entry) → e.kept.names ≡ (change e).kept.names) → AreCounts (records_in m.entries) counts → AreCounts (records_in n.entries) counts
  rewritten_counted counts same are =
      let was = the_some (get_by_text m id) there in
      let kept =
      record_rewritten m n past id change rewrites table there (change was.0).kept
      (λ e at. ap (λ (e : Entry). (change e).kept) (some_is e was.0 (sym at ∙ was.1))) in
      subst (λ (s : Records). AreCounts s counts) (sym kept)
      (counts_stay counts (records_in m.entries) are id was.0.kept (change was.0).kept (get-records_in m.entries id ∙ ap kept_in was.1) (same was.0))

-- nobody is a member, and no name is counted
pub nobody_counted : {Y S : Type 0} (m : IndexMap (String Y) ℕ S) → m.entries ≡ [] → AreCounts finite.empty m
nobody_counted m none q =
    ap (λ es. unwrap_or (lookup (λ k. bytes_eq q (string_bytes k)) es) 0) none
    ∙ sym (ap (λ (es : List (Text × Record)). count_by (λ r. has r.names q) (map (λ e. e.1) es)) no_entries)

-- where no name is counted, none is counted that nobody subscribes
pub none_some : {Y S : Type 0} (m : IndexMap (String Y) ℕ S) → m.entries ≡ [] → AreSome m
none_some m none q k is = absurd (not_none k (sym (ap (lookup (λ k. bytes_eq q (string_bytes k))) none) ∙ is))

-- ---- no count is large

few_rows : {Y : Type 0} (rows : List (String Y × Entry)) (places : List ℕ) → length (rows_at rows places) ≤ length places
few_rows rows [] = omega arith
few_rows {Y} rows (p ∷ ps) = by (slice_get rows p) (few_rows rows ps)
  where
    by : (o : Option (String Y × Entry)) → length (rows_at rows ps) ≤ length ps → length (with_row o (rows_at rows ps)) ≤ length (p ∷ ps)
    by None rest = omega (arith, rest)
    by (Some row) rest = omega (arith, rest)

pub few_counted : {Y S : Type 0} (m : IndexMap (String Y) Entry S) (by_id : List ℕ) (past : PastState) (counts : IndexMap (String Y) ℕ S) → IsTable m by_id past
    → AreCounts (records_in m.entries) counts → length by_id < 2 ^ 63 → (q : Text) → count_of counts q < 2 ^ 63
few_counted m by_id past counts table are small q =
    let rows = m.entries in
    let records = records_in rows in
    let is = are q in
    let few : subscribers records q ≤ length (finite.values records) = count_by-le-length (λ r. has r.names q) (finite.values records) in
    let long : length (finite.values records) ≡ length (finite.entries records) = length-map (finite.entries records) (λ (e : Text × Record). e.1) in
    let entries = finite.len-entries records in
    let stand = ap finite.len (records_alike rows by_id (all_by_id rows by_id table.distinct table.order) table.distinct) in
    let all = len-records_in (rows_at rows by_id) (ordered_distinct rows by_id (all_by_id rows by_id table.distinct table.order) table.distinct) in
    let most = few_rows rows by_id in
    omega (arith, is, few, long, entries, stand, all, most, small)

-- ---- the texts of names

module _ {Y : Type 0} (texts : List (String Y)) (names : Names) (is : map string_bytes texts ≡ in_order names) where
  pub as_many_texts : length texts ≡ size names
  as_many_texts = sym (length-map texts string_bytes) ∙ ap length is

  pub times_in_texts : (q : Text) → times q (map string_bytes texts) ≡ once names q
  times_in_texts q = ap (times q) is ∙ times-in_order names q

-- ---- the names that are counted

some_counted : (n : ℕ) → nat_lt 0 (1 + n) ≡ true
some_counted n = grind (arith, nat_tests)

none_counted : (n : ℕ) → n ≡ 0 + n
none_counted n = omega arith

never_less : (n : ℕ) → nat_lt n 0 ≡ false
never_less n = grind (arith, nat_tests)

nonzero_any : (q : Text) (rs : List Record) → list_any (λ r. has r.names q) rs ≡ nat_lt 0 (count_by (λ r. has r.names q) rs)
nonzero_any q [] = refl
nonzero_any q (r ∷ rs) =
    by (has r.names q) (nonzero_any q rs)
    ∙ ap (nat_lt 0) (sym (sum_by-cons (λ (r : Record). cond (has r.names q) 1 0) r rs))
  where
    by : (b : Bool) → list_any (λ r. has r.names q) rs ≡ nat_lt 0 (count_by (λ r. has r.names q) rs)
        → (b || list_any (λ r. has r.names q) rs) ≡ nat_lt 0 (one_if b + count_by (λ r. has r.names q) rs)
    by true rest = sym (some_counted (count_by (λ r. has r.names q) rs))
    by false rest = rest ∙ ap (nat_lt 0) (none_counted (count_by (λ r. has r.names q) rs))

has-with_one_if : (share : Bool) (names : Names) (name q : Text) → has (cond share (with_one names name) names) q ≡ (has names q || (share && eq_by_cmp text_cmp q name))
has-with_one_if true names name q = has-with_one text_cmp_total names name q ∙ or_turn (eq_by_cmp text_cmp q name) (has names q)
has-with_one_if false names name q = sym (or_none (has names q))

module _ {Y : Type 0} where
  pub has-with_counted : (former : Option Record) (names : Names) (rows : List (String Y × ℕ)) (q : Text) → IsDistinct string_eq (keys_of rows)
      → has (with_counted former names rows) q ≡ (has names q || nat_lt (own_share former q) (unwrap_or (lookup (λ k. bytes_eq q (string_bytes k)) rows) 0))
  has-with_counted former names [] q apart = sym (or_none (has names q)) ∙ ap (λ b. has names q || b) (sym (never_less (own_share former q)))
  has-with_counted former names (row ∷ rows) q apart =
      has-with_counted former (cond (nat_lt (own_share former (string_bytes row.0)) row.1) (with_one names (string_bytes row.0)) names) rows q (IsDistinct-tail string_eq row.0 (keys_of rows) apart)
      ∙ by (tie q (string_bytes row.0))
    where
      and_true : (b : Bool) → (b && true) ≡ b
      and_true true = refl
      and_true false = refl

      and_false : (b : Bool) → (b && false) ≡ false
      and_false true = refl
      and_false false = refl

      by : Tie q (string_bytes row.0) → (has (cond (nat_lt (own_share former (string_bytes row.0)) row.1) (with_one names (string_bytes row.0)) names) q || nat_lt (own_share former q) (unwrap_or (lookup (λ k. bytes_eq q (string_bytes k)) rows) 0))
          ≡ (has names q || nat_lt (own_share former q) (unwrap_or (cond (bytes_eq q (string_bytes row.0)) (Some row.1) (lookup (λ k. bytes_eq q (string_bytes k)) rows)) 0))
      by (ties same) =
          let here : eq_by_cmp text_cmp q (string_bytes row.0) ≡ true = ap (λ t. eq_by_cmp text_cmp t (string_bytes row.0)) same ∙ text_ties (string_bytes row.0) in
          let none : (lookup (λ k. bytes_eq q (string_bytes k)) rows) ≡ None = ap (λ t. lookup (λ k. bytes_eq t (string_bytes k)) rows) same ∙ absent_later row rows apart in
          (λ i. has-with_one_if (nat_lt (own_share former (string_bytes row.0)) row.1) names (string_bytes row.0) q i || nat_lt (own_share former q) (unwrap_or (none i) 0))
          ∙ (λ i. (has names q || (nat_lt (own_share former (sym same i)) row.1 && here i)) || never_less (own_share former q) i)
          ∙ or_none (has names q || (nat_lt (own_share former q) row.1 && true))
          ∙ ap (λ b. has names q || b) (and_true (nat_lt (own_share former q) row.1))
          ∙ (λ i. has names q || nat_lt (own_share former q) (unwrap_or (cond ((sym here ∙ tied_bytes q (string_bytes row.0)) i) (Some row.1) (lookup (λ k. bytes_eq q (string_bytes k)) rows)) 0))
      by (differs other so) =
          (λ i. has-with_one_if (nat_lt (own_share former (string_bytes row.0)) row.1) names (string_bytes row.0) q i || nat_lt (own_share former q) (unwrap_or (lookup (λ k. bytes_eq q (string_bytes k)) rows) 0))
          ∙ (λ i. (has names q || ((ap (λ b. nat_lt (own_share former (string_bytes row.0)) row.1 && b) so ∙ and_false (nat_lt (own_share former (string_bytes row.0)) row.1)) i)) || nat_lt (own_share former q) (unwrap_or (lookup (λ k. bytes_eq q (string_bytes k)) rows) 0))
          ∙ ap (λ b. b || nat_lt (own_share former q) (unwrap_or (lookup (λ k. bytes_eq q (string_bytes k)) rows) 0)) (or_none (has names q))
          ∙ (λ i. has names q || nat_lt (own_share former q) (unwrap_or (cond ((sym so ∙ tied_bytes q (string_bytes row.0)) i) (Some row.1) (lookup (λ k. bytes_eq q (string_bytes k)) rows)) 0))

  -- what is asked for is in the set, or is asked for and stands in the list
  has-with_asked : {S : Type 0} (former : Option Record) (names : Names) (counts : IndexMap (String Y) ℕ S) (found : Names) (ns : List Text) (q : Text)
      → has (with_asked former names counts found ns) q ≡ (has found q || (list_any (eq_by_cmp text_cmp q) ns && is_asked former names counts q))
  has-with_asked former names counts found [] q = sym (or_none (has found q))
  has-with_asked former names counts found (n ∷ ns) q =
      has-with_asked former names counts (cond (is_asked former names counts n) (with_one found n) found) ns q
      ∙ ap (λ b. b || (list_any (eq_by_cmp text_cmp q) ns && is_asked former names counts q)) (has-with_one_if (is_asked former names counts n) found n q)
      ∙ by (tie q n)
    where
      in_turn : (h a e y : Bool) → ((h || (a && e)) || (y && a)) ≡ (h || ((e || y) && a))
      in_turn true a e y = refl
      in_turn false true true y = refl
      in_turn false true false y = refl
      in_turn false false true true = refl
      in_turn false false true false = refl
      in_turn false false false true = refl
      in_turn false false false false = refl

      apart_in_turn : (h b y a : Bool) → ((h || (b && false)) || (y && a)) ≡ (h || ((false || y) && a))
      apart_in_turn true b y a = refl
      apart_in_turn false true y a = refl
      apart_in_turn false false y a = refl

      by : Tie q n → ((has found q || (is_asked former names counts n && eq_by_cmp text_cmp q n)) || (list_any (eq_by_cmp text_cmp q) ns && is_asked former names counts q))
          ≡ (has found q || (list_any (eq_by_cmp text_cmp q) (n ∷ ns) && is_asked former names counts q))
      by (ties same) =
          (λ i. (has found q || (is_asked former names counts (sym same i) && eq_by_cmp text_cmp q n)) || (list_any (eq_by_cmp text_cmp q) ns && is_asked former names counts q))
          ∙ in_turn (has found q) (is_asked former names counts q) (eq_by_cmp text_cmp q n) (list_any (eq_by_cmp text_cmp q) ns)
      by (differs other so) =
          (λ i. (has found q || (is_asked former names counts n && so i)) || (list_any (eq_by_cmp text_cmp q) ns && is_asked former names counts q))
          ∙ apart_in_turn (has found q) (is_asked former names counts n) (list_any (eq_by_cmp text_cmp q) ns) (is_asked former names counts q)
          ∙ (λ i. has found q || ((sym so i || list_any (eq_by_cmp text_cmp q) ns) && is_asked former names counts q))

  -- what a walk over the image's topics finds is what is asked for of it
  pub found-AreAsked : {S : Type 0} (image : Topics) (former : Option Record) (names : Names) (counts : IndexMap (String Y) ℕ S)
      → AreAsked image former names counts (with_asked former names counts nothing (finite.keys image))
  found-AreAsked image former names counts q there =
      has-with_asked former names counts nothing (finite.keys image) q
      ∙ (λ i. has-nothing text_cmp q i || ((sym (finite.contains_key-keys image q) ∙ there) i && is_asked former names counts q))

  -- what is asked for of an image with a member's record is what is subscribed then
  pub asked_with : {S : Type 0} (records : Records) (counts : IndexMap (String Y) ℕ S) (id : Text) (r : Record) (q : Text) → AreCounts records counts
      → is_asked (finite.get records id) r.names counts q ≡ is_subscribed (finite.insert records id r) q
  asked_with records counts id r q are =
      ap (λ n. has r.names q || nat_lt (own_share (finite.get records id) q) n) (are q ∙ subscribers_without records id q)
      ∙ ap (λ b. has r.names q || b) (more_than (own_share (finite.get records id) q) (subscribers (finite.remove records id) q))
      ∙ by (has r.names q)
      ∙ ap (nat_lt 0) (sym (subscribers_with records id r q))
      ∙ sym (nonzero_any q (finite.values (finite.insert records id r)))
    where
      more_than : (a b : ℕ) → nat_lt a (a + b) ≡ nat_lt 0 b
      more_than a b = grind (arith, nat_tests)

      by : (b : Bool) → (b || nat_lt 0 (subscribers (finite.remove records id) q)) ≡ nat_lt 0 (one_if b + subscribers (finite.remove records id) q)
      by true = sym (some_counted (subscribers (finite.remove records id) q))
      by false = ap (nat_lt 0) (none_counted (subscribers (finite.remove records id) q))

  -- and so the view of what is asked for is that of what is subscribed
  pub view-asked : {S : Type 0} (image : Topics) (records : Records) (counts : IndexMap (String Y) ℕ S) (id : Text) (r : Record) (asked : Names) → AreCounts records counts
      → AreAsked image (finite.get records id) r.names counts asked → view_of image asked ≡ view_for image (finite.insert records id r)
  view-asked image records counts id r asked are so =
      finite.same_map text_cmp_total text_cmp-IsAntisymmetric _ _ (λ q.
      get-view_of image asked q
      ∙ by (finite.get image q) (has asked q) (is_subscribed (finite.insert records id r) q) (λ there. so q there ∙ asked_with records counts id r q are)
      ∙ sym (finite.get-retain_keys image (is_subscribed (finite.insert records id r)) q (λ x tie. ap (is_subscribed (finite.insert records id r)) (sym (text_cmp-IsAntisymmetric q x tie)))))
    where
      by : (o : Option Topic) (a b : Bool) → (is_some o ≡ true → a ≡ b) → cond a o None ≡ cond b o None
      by (Some t) a b same = ap (λ b. cond b (Some t) None) (same refl)
      by None true true same = refl
      by None true false same = refl
      by None false true same = refl
      by None false false same = refl
