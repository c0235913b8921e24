-- A tick of all groups, one after the other.
use Rattle.std.proofs.Common.{◌≡◌, ℕ, zero, suc, ◌+◌, ◌≤◌, Bool, true, false, cond, List, [], ◌∷◌, length, map, filter, take, slice_get, Option, option_map, Some, None, is_some, refl, sym, ap, subst, ◌∙◌, arith, true≢false, String, Global}
use Rattle.std.specs.FinMap as finite
use Rattle.std.specs.FinMap.{find, put}
use Rattle.std.specs.FinMap.Entries.{by_order}
use Rattle.std.specs.List.{AllByRecursion, IsDistinct, sum_by}
use Rattle.std.specs.Map.{keys_of, values_of}
use Rattle.std.specs.Ordering.{eq_by_cmp, is_eq}
use Rattle.std.specs.declared.cmp.Ordering.{Ordering}
use Rattle.std.specs.declared.cmp.Ordering.TheVariants.{Less, Equal, Greater}
use Rattle.std.specs.String.{string_bytes, string_eq}
use Rattle.std.proofs.lemmas.List.Sums.{sum_by-cons}
use Rattle.indexmap.specs.IndexMap.{set_value_at}
use Rattle.group_types.specs.Limits.{MOST_MEMBERS}
use Rattle.group_types.specs.Text.{Text, text_cmp}
use Rattle.group_types.specs.Topics.{Topics}
use Rattle.group_types.specs.Group.{Group, Record}
use Rattle.group_types.specs.Sound.{IsSound}
use Rattle.group_types.specs.Tick.{at_moment, due, expired, is_due, removed_by_tick, ticked}
use Rattle.group_types.proofs.Orders.{text_cmp_total, text_cmp-IsAntisymmetric}
use Rattle.group_types.proofs.Lookups.{some_is}
use Rattle.group_core.specs.Outcome.{IsCurrent}
use Rattle.coord_node.specs.declared.kept.Kept.{Kept}
use Rattle.coord_node.specs.Coordinator.{Groups}
use Rattle.coord_node.specs.Kept.{HasRightNumber, group_in}
use Rattle.coord_node.specs.NodeView.{Entries, groups_of}
use Rattle.coord_node.specs.Steps.{all_ticked, removed_from_all}
use Rattle.coord_node.proofs.GroupLemmas.{by_bytes, get-as_map, none_found}

-- ---- one group

filter_short : {X : Type 0} (p : X → Bool) (xs : List X) → length (filter p xs) ≤ length xs
filter_short p [] = omega arith
filter_short p (x ∷ xs) =
    let rest = filter_short p xs in
    elim (p x) as (λ b. length (cond b (x ∷ filter p xs) (filter p xs)) ≤ suc (length xs)) [ true ↦ omega arith | false ↦ omega arith ]

-- a tick removes no more members than there are
pub few_removed : (g : Group) (moment : ℕ) → IsSound g → removed_by_tick g moment ≤ MOST_MEMBERS
few_removed g moment sound =
    let clock : ℕ = (at_moment g moment).clock in
    omega (arith, filter_short (λ (m : Text × Record). is_due clock m.1) (finite.entries g.records), finite.len-entries g.records, sound.few_members)

-- a tick that removes nobody moves the clock alone
pub stays_current : (g : Group) (image : Topics) (moment : ℕ) → removed_by_tick g moment ≡ 0 → IsCurrent g image → IsCurrent (ticked g moment) image
stays_current g image moment none current = by (due (at_moment g moment)) none
  where
    by : (gone : List (Text × Record)) → length gone ≡ 0 → IsCurrent (expired (at_moment g moment) gone) image
    by [] none = current
    by (m ∷ ms) none = absurd (omega (arith, none))

-- what is known of a group whose clock alone has moved stays known
pub stays_kept : (generation : Option ℕ) (image : Topics) (moment : ℕ) (old new : Kept) → new.group.state ≡ ticked old.group.state moment → new.known ≡ old.known
    → removed_by_tick old.group.state moment ≡ 0 → HasRightNumber generation image old → HasRightNumber generation image new
stays_kept generation image moment old new group known none kept =
    record {
      current = λ n at is. subst (λ (g : Group). IsCurrent g image) (sym group) (stays_current old.group.state image moment none (kept.current n at (sym known ∙ is)));
      come = λ n m at is. kept.come n m at (sym known ∙ is);
    }

module _ (moment : ℕ) where
  -- a group that has met the moment, of which nothing more is known than before
  pub record IsTicked (old new : Kept) : Type 0 where
    pub group : new.group.state ≡ ticked old.group.state moment
    pub kept : (generation : Option ℕ) (image : Topics) → HasRightNumber generation image old → HasRightNumber generation image new

  -- the first groups have met it, and the others not yet
  abbrev pub AreTicked : ℕ → Entries → Entries → Type 0
  AreTicked zero old new = new ≡ old
  AreTicked (suc n) [] new = new ≡ []
  AreTicked (suc n) (e ∷ es) [] = ⊥
  AreTicked (suc n) (e ∷ es) (f ∷ fs) = (f.0 ≡ e.0) × IsTicked e.1 f.1 × AreTicked n es fs

  -- how many members a group loses
  abbrev pub lost : String Global × Kept → ℕ
  lost e = removed_by_tick e.1.group.state moment

  -- one group more
  ticked_next : (n : ℕ) (old new : Entries) (k next : Kept) → AreTicked n old new → slice_get (values_of new) n ≡ Some k → IsTicked k next
      → AreTicked (suc n) old (set_value_at new n next)
  ticked_next zero [] new k next is at ticks = absurd (true≢false (sym (ap is_some (sym (ap (λ (es : Entries). slice_get (values_of es) 0) is) ∙ at))))
  ticked_next zero (e ∷ es) new k next is at ticks =
      let there : e.1 ≡ k = some_is e.1 k (sym (ap (λ (x : Entries). slice_get (values_of x) 0) is) ∙ at) in
      subst (λ (x : Entries). AreTicked 1 (e ∷ es) (set_value_at x 0 next)) (sym is) (refl, subst (λ (x : Kept). IsTicked x next) (sym there) ticks, refl)
  ticked_next (suc n) [] new k next is at ticks = absurd (true≢false (sym (ap is_some (sym (ap (λ (es : Entries). slice_get (values_of es) (suc n)) is) ∙ at))))
  ticked_next (suc n) (e ∷ es) [] k next is at ticks = absurd is
  ticked_next (suc n) (e ∷ es) (f ∷ fs) k next is at ticks = (is.0, is.1, ticked_next n es fs k next is.2 at ticks)

  -- the members that were lost so far, and those of the next group
  lost_next : (n : ℕ) (old new : Entries) (k : Kept) → AreTicked n old new → slice_get (values_of new) n ≡ Some k
      → sum_by lost (take (suc n) old) ≡ sum_by lost (take n old) + removed_by_tick k.group.state moment
  lost_next zero [] new k is at = absurd (true≢false (sym (ap is_some (sym (ap (λ (es : Entries). slice_get (values_of es) 0) is) ∙ at))))
  lost_next zero (e ∷ es) new k is at =
      let there : e.1 ≡ k = some_is e.1 k (sym (ap (λ (x : Entries). slice_get (values_of x) 0) is) ∙ at) in
      omega (arith, ap (λ (x : Kept). removed_by_tick x.group.state moment) there, sum_by-cons lost e [])
  lost_next (suc n) [] new k is at = absurd (true≢false (sym (ap is_some (sym (ap (λ (es : Entries). slice_get (values_of es) (suc n)) is) ∙ at))))
  lost_next (suc n) (e ∷ es) [] k is at = absurd is
  lost_next (suc n) (e ∷ es) (f ∷ fs) k is at =
      omega (arith, lost_next n es fs k is.2 at, sum_by-cons lost e (take (suc n) es), sum_by-cons lost e (take n es))

  pub AreTicked-next : (n : ℕ) (old new : Entries) (k next : Kept) → AreTicked n old new → slice_get (values_of new) n ≡ Some k → IsTicked k next
      → AreTicked (n + 1) old (set_value_at new n next)
  AreTicked-next n old new k next is at ticks =
      let one_more : suc n ≡ n + 1 = omega arith in
      subst (λ (i : ℕ). AreTicked i old (set_value_at new n next)) one_more (ticked_next n old new k next is at ticks)

  pub lost-next : (n : ℕ) (old new : Entries) (k : Kept) → AreTicked n old new → slice_get (values_of new) n ≡ Some k
      → sum_by lost (take (n + 1) old) ≡ sum_by lost (take n old) + removed_by_tick k.group.state moment
  lost-next n old new k is at =
      let one_more : n + 1 ≡ suc n = omega arith in
      ap (λ (i : ℕ). sum_by lost (take i old)) one_more ∙ lost_next n old new k is at

  -- what is known of each group stays known
  pub AreTicked-kept : (n : ℕ) (old new : Entries) (generation : Option ℕ) (image : Topics) → AreTicked n old new
      → AllByRecursion (λ e. HasRightNumber generation image e.1) old → AllByRecursion (λ e. HasRightNumber generation image e.1) new
  AreTicked-kept zero old new generation image is each = subst (λ (es : Entries). AllByRecursion (λ e. HasRightNumber generation image e.1) es) (sym is) each
  AreTicked-kept (suc n) [] new generation image is each = subst (λ (es : Entries). AllByRecursion (λ e. HasRightNumber generation image e.1) es) (sym is) tt
  AreTicked-kept (suc n) (e ∷ es) [] generation image is each = absurd is
  AreTicked-kept (suc n) (e ∷ es) (f ∷ fs) generation image is each =
      (is.1.kept generation image each.0, AreTicked-kept n es fs generation image is.2 each.1)

  pub AreTicked-length : (n : ℕ) (old new : Entries) → AreTicked n old new → length new ≡ length old
  AreTicked-length zero old new is = ap length is
  AreTicked-length (suc n) [] new is = ap length is
  AreTicked-length (suc n) (e ∷ es) [] is = absurd is
  AreTicked-length (suc n) (e ∷ es) (f ∷ fs) is = ap suc (AreTicked-length n es fs is.2)

  -- ---- all groups, by their names

  abbrev entry_ticked : Text × Group → Text × Group
  entry_ticked e = (e.0, ticked e.1 moment)

  found_ticked : (es : List (Text × Group)) (q : Text) → find text_cmp q (map entry_ticked es) ≡ option_map (λ g. ticked g moment) (find text_cmp q es)
  found_ticked [] q = refl
  found_ticked (e ∷ es) q =
      elim (eq_by_cmp text_cmp q e.0) as (λ b. cond b (Some (ticked e.1 moment)) (find text_cmp q (map entry_ticked es)) ≡ option_map (λ g. ticked g moment) (cond b (Some e.1) (find text_cmp q es))) [ true ↦ refl | false ↦ found_ticked es q ]

  by_bytes-ticked : (n : ℕ) (old new : Entries) → length old ≤ n → AreTicked n old new → by_bytes group_in new ≡ map entry_ticked (by_bytes group_in old)
  by_bytes-ticked zero [] new all is = ap (by_bytes group_in) is
  by_bytes-ticked zero (e ∷ es) new all is = absurd (omega arith)
  by_bytes-ticked (suc n) [] new all is = ap (by_bytes group_in) is
  by_bytes-ticked (suc n) (e ∷ es) [] all is = absurd is
  by_bytes-ticked (suc n) (e ∷ es) (f ∷ fs) all is =
      λ i. (string_bytes (is.0 i), is.1.group i) ∷ by_bytes-ticked n es fs (omega arith) is.2 i

  pub get-all_ticked : (m : Groups) (q : Text) → finite.get (all_ticked m moment) q ≡ option_map (λ g. ticked g moment) (finite.get m q)
  get-all_ticked m q =
      finite.get-from_entries text_cmp_total (map entry_ticked (finite.entries m)) q ∙ found_ticked (finite.entries m) q
      ∙ ap (option_map (λ g. ticked g moment)) (sym (finite.get-entries m q))

  -- once each has met the moment, all have
  pub groups-ticked : (n : ℕ) (old new : Entries) → length old ≤ n → AreTicked n old new → groups_of new ≡ all_ticked (groups_of old) moment
  groups-ticked n old new all is =
      finite.same_map text_cmp_total text_cmp-IsAntisymmetric (groups_of new) (all_ticked (groups_of old) moment)
      (λ q. finite.get-from_entries text_cmp_total (by_bytes group_in new) q
      ∙ ap (find text_cmp q) (by_bytes-ticked n old new all is)
      ∙ found_ticked (by_bytes group_in old) q
      ∙ ap (option_map (λ g. ticked g moment)) (sym (finite.get-from_entries text_cmp_total (by_bytes group_in old) q))
      ∙ sym (get-all_ticked (groups_of old) q))

  -- ---- the sum

  abbrev lost_by : Group → ℕ
  lost_by g = removed_by_tick g moment

  sum-put : (k : Text) (v : Group) (es : List (Text × Group)) → find text_cmp k es ≡ None
      → sum_by lost_by (map (λ e. e.1) (put text_cmp k v es)) ≡ lost_by v + sum_by lost_by (map (λ e. e.1) es)
  sum-put k v [] absent = omega (arith, sum_by-cons lost_by v [])
  sum-put k v (e ∷ es) absent = by (text_cmp k e.0) refl (sum-put k v es)
    where
      by : (o : Ordering) → text_cmp k e.0 ≡ o
          → (find text_cmp k es ≡ None → sum_by lost_by (map (λ x. x.1) (put text_cmp k v es)) ≡ lost_by v + sum_by lost_by (map (λ x. x.1) es))
          → sum_by lost_by (map (λ x. x.1) (by_order o ((k, v) ∷ e ∷ es) ((e.0, v) ∷ es) (e ∷ put text_cmp k v es))) ≡ lost_by v + sum_by lost_by (map (λ x. x.1) (e ∷ es))
      by Less is behind = sum_by-cons lost_by v (map (λ x. x.1) (e ∷ es))
      by Equal is behind =
          let found : cond (is_eq (text_cmp k e.0)) (Some e.1) (find text_cmp k es) ≡ Some e.1 = ap (λ (o : Ordering). cond (is_eq o) (Some e.1) (find text_cmp k es)) is in
          absurd (true≢false (ap is_some (sym found ∙ absent)))
      by Greater is behind =
          let other : cond (is_eq (text_cmp k e.0)) (Some e.1) (find text_cmp k es) ≡ find text_cmp k es = ap (λ (o : Ordering). cond (is_eq o) (Some e.1) (find text_cmp k es)) is in
          omega (arith, behind (sym other ∙ absent), sum_by-cons lost_by e.1 (map (λ x. x.1) (put text_cmp k v es)), sum_by-cons lost_by e.1 (map (λ x. x.1) es))

  -- the sum over the groups in the order of their making is that over the names
  pub sum-groups : (es : Entries) → IsDistinct string_eq (keys_of es) → removed_from_all (groups_of es) moment ≡ sum_by lost es
  unfolding IsDistinct
  sum-groups [] distinct =
      nobody (finite.entries (groups_of [])) (sym (finite.len-entries (groups_of [])) ∙ finite.len-empty text_cmp Group)
    where
      nobody : (es : List (Text × Group)) → length es ≡ 0 → sum_by lost_by (map (λ x. x.1) es) ≡ 0
      nobody [] none = refl
      nobody (e ∷ es) none = absurd (omega (arith, none))
  sum-groups (e ∷ es) distinct =
      let absent : finite.get (groups_of es) (string_bytes e.0) ≡ None = get-as_map group_in es (string_bytes e.0) ∙ ap (option_map group_in) (none_found group_in e.0 es distinct.0) in
      let there : find text_cmp (string_bytes e.0) (finite.entries (groups_of es)) ≡ None = sym (finite.get-entries (groups_of es) (string_bytes e.0)) ∙ absent in
      ap (λ (x : List (Text × Group)). sum_by lost_by (map (λ y. y.1) x)) (finite.entries-insert text_cmp_total (groups_of es) (string_bytes e.0) e.1.group.state)
      ∙ sum-put (string_bytes e.0) e.1.group.state (finite.entries (groups_of es)) there
      ∙ ap (λ n. lost_by e.1.group.state + n) (sum-groups es distinct.1)
      ∙ sym (sum_by-cons lost e es)
