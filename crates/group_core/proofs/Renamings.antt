-- A take-over comes to the same whether its member is renamed first or last.
use Rattle.std.proofs.Common.{◌≡◌, ◌≢◌, ◌↔◌, ℕ, ◌==◌, Bool, true, false, cond, not, ◌&&◌, ◌||◌, List, [], ◌∷◌, max, Option, Some, None, is_some, IsTrue, refl, sym, ap, subst, ◌∙◌, true≢false}
use Rattle.std.specs.Cmp.{Equal-is, eq_by_cmp_equiv}
use Rattle.std.specs.List.{list_any}
use Rattle.std.specs.Option.{option_map, option_map_or}
use Rattle.std.specs.Ordering.{eq_by_cmp}
use Rattle.std.specs.Str.{bytes_eq}
use Rattle.std.specs.FinMap as finite
use Rattle.std.proofs.lemmas.Slice.Eq.{bytes_eq-Decides}
use Rattle.group_types.specs.declared.partition.Partition.{Partition}
use Rattle.group_types.specs.Text.{Text, text_cmp}
use Rattle.group_types.specs.Sets.{common, has, in_order, minus}
use Rattle.group_types.specs.Partition.{Partitions, partition_cmp}
use Rattle.group_types.specs.Topics.{Topics}
use Rattle.group_types.specs.Request.{Heartbeat, is_full, reported}
use Rattle.group_types.specs.Owners.{Spread, renamed, renamed_id}
use Rattle.group_types.specs.Group.{Grant, Grants, Group, Past, Record, Records, grant_cmp, held, wanted}
use Rattle.group_types.specs.Members.{remembering, without_past}
use Rattle.group_types.specs.Settle.{grants_after, grants_of_others, granting, is_free_for, may_move, may_settle, moved, settled, settled_by, settled_record}
use Rattle.group_types.specs.Renewal.{IsChange, IsTarget, Renews, RenewsWhere, changed_if, view_for}
use Rattle.group_types.specs.Join.{record_of_join}
use Rattle.group_types.specs.Checks.{Member, Verdict, Accepted, Refused, Overtaken, sender_of, record_under, other_with}
use Rattle.group_types.specs.HeartbeatStep.{Answer, ByVerdict, Draft, Replied, Stages, TakesIn, acceptance, assignment_of, draft_under, handed_over, is_news, sent_after, shown, verdict_on_change, with_record_at}
use Rattle.group_types.specs.Sound.{IsSound}
use Rattle.group_types.proofs.Consistent.{IsConsistent, consistent}
use Rattle.group_types.proofs.GrantLemmas.{free_is, grant_cmp_total, grant_cmp-IsAntisymmetric, has-granting, has-held, has-moved, has-others}
use Rattle.group_types.proofs.Lookups.{Tie, ties, differs, tie, no_tie, Found, this, another, found, found_without, get-inserted, none_without, not_none, removed_is_none, some_is, text_ties}
use Rattle.group_types.proofs.Orders.{partition_cmp_total, partition_cmp-IsAntisymmetric, text_cmp_total, text_cmp-IsAntisymmetric}
use Rattle.group_types.proofs.PastLemmas.{not_past}
use Rattle.group_types.proofs.Senders.{named_fresh, other_is}
use Rattle.group_types.proofs.SetLemmas.{has-in_order, same_set}
use Rattle.group_types.proofs.SpreadLemmas.{get-renamed, has-share_of}
use Rattle.group_types.proofs.TakeOvers.{taken_over_is_consistent}
use Rattle.group_core.specs.CodeOrder.{Heir, LateDraft, LateStages, TakesInLate, late_draft_under, renamed_last}
use Rattle.group_core.specs.Laws.{RenamingMayComeLast}
use Rattle.group_core.proofs.HandOvers.{insert-removed, remove-inserted, view_for-heir}
use Rattle.group_target.proofs.RenamedTargets.{Lacks, renamed_back, renamed_lacks, renamed_old, renamed_other, renewed_there}
use Rattle.group_core.proofs.Single.{insert-insert}
use Rattle.group_core.proofs.SteadyBeats.{kept_past}

-- ---- who is free to be granted a partition

-- a test that some grant of a list meets
record Met (f : Grant → Bool) (ks : List Grant) : Type 0 where
  grant : Grant
  meets : f grant ≡ true
  listed : list_any (eq_by_cmp grant_cmp grant) ks ≡ true

some_met : (f : Grant → Bool) (ks : List Grant) → list_any f ks ≡ true → Met f ks
some_met f [] never = absurd (true≢false (sym never))
some_met f (k ∷ ks) so =
    elim (f k) as (λ b. f k ≡ b → (b || list_any f ks) ≡ true → Met f (k ∷ ks)) [
      | true ↦ λ here is. record { grant = k; meets = here; listed = ap (λ b. b || list_any (eq_by_cmp grant_cmp k) ks) ((eq_by_cmp_equiv grant_cmp_total).refl k) }
      | false ↦ λ here is.
          let later = some_met f ks is in
          record { grant = later.grant; meets = later.meets; listed = ap (λ b. eq_by_cmp grant_cmp later.grant k || b) later.listed ∙ or_true (eq_by_cmp grant_cmp later.grant k) }
    ] refl so
  where
    or_true : (b : Bool) → (b || true) ≡ true
    or_true true = refl
    or_true false = refl

both_so : (a b : Bool) → (a && b) ≡ true → (a ≡ true) × (b ≡ true)
both_so true b is = (refl, is)
both_so false b is = absurd (true≢false (sym is))

-- a partition that nobody else holds is free
free_from : (grants : Grants) (m : Text) (p : Partition) → ((n : Text) → IsTrue (has grants (n, p)) → n ≡ m) → is_free_for grants m p ≡ true
free_from grants m p only = by (list_any (λ (g : Grant). eq_by_cmp partition_cmp p g.1 && not (eq_by_cmp text_cmp m g.0)) (in_order grants)) refl
  where
    by : (b : Bool) → list_any (λ (g : Grant). eq_by_cmp partition_cmp p g.1 && not (eq_by_cmp text_cmp m g.0)) (in_order grants) ≡ b → not b ≡ true
    by false none = refl
    by true some =
        let met = some_met (λ (g : Grant). eq_by_cmp partition_cmp p g.1 && not (eq_by_cmp text_cmp m g.0)) (in_order grants) some in
        let so = both_so (eq_by_cmp partition_cmp p met.grant.1) (not (eq_by_cmp text_cmp m met.grant.0)) met.meets in
        let same : p ≡ met.grant.1 = partition_cmp-IsAntisymmetric p met.grant.1 ((Equal-is (partition_cmp p met.grant.1)).0 so.0) in
        let holds : IsTrue (has grants (met.grant.0, p)) = ap (λ q. has grants (met.grant.0, q)) same ∙ has-in_order grants met.grant ∙ met.listed in
        absurd (true≢false (sym so.1 ∙ ap not (ap (eq_by_cmp text_cmp m) (only met.grant.0 holds) ∙ text_ties m)))

same_truth : (a b : Bool) → (a ≡ true → b ≡ true) → (b ≡ true → a ≡ true) → a ≡ b
same_truth true b to from = sym (to refl)
same_truth false true to from = from refl
same_truth false false to from = refl

not_so : (b : Bool) → (b ≡ true → ⊥) → b ≡ false
not_so true never = absurd (never refl)
not_so false never = refl

-- ---- a renaming, of the parts of a group

module _ (old heir : Text) (apart : old ≢ heir) where
  -- the heir's part of the target is the old id's
  owned_over : (o : Option Text) → (o ≡ Some heir → ⊥) → option_map_or (λ x. bytes_eq x heir) (option_map (renamed_id old heir) o) false ≡ option_map_or (λ x. bytes_eq x old) o false
  owned_over None lacks = refl
  owned_over (Some x) lacks = by (tie x old)
    where
      by : Tie x old → bytes_eq (renamed_id old heir x) heir ≡ bytes_eq x old
      by (ties same) =
          ap (λ y. bytes_eq (renamed_id old heir y) heir) same ∙ ap (λ y. bytes_eq y heir) (renamed_old old heir apart) ∙ (bytes_eq-Decides heir heir).1 refl
          ∙ sym (ap (λ y. bytes_eq y old) same ∙ (bytes_eq-Decides old old).1 refl)
      by (differs other _) =
          ap (λ y. bytes_eq y heir) (renamed_other old heir apart x other)
          ∙ not_so (bytes_eq x heir) (λ so. lacks (ap Some ((bytes_eq-Decides x heir).0 so)))
          ∙ sym (not_so (bytes_eq x old) (λ so. other ((bytes_eq-Decides x old).0 so)))

  wanted_over : (t : Spread) → ((p : Partition) → finite.get t p ≡ Some heir → ⊥) → wanted (renamed t old heir) heir ≡ wanted t old
  wanted_over t lacks =
      same_set partition_cmp_total partition_cmp-IsAntisymmetric _ _
      (λ p. has-share_of (renamed t old heir) heir p
      ∙ ap (λ o. option_map_or (λ x. bytes_eq x heir) o false) (get-renamed t old heir p)
      ∙ owned_over (finite.get t p) (lacks p)
      ∙ sym (has-share_of t old p))

  abbrev GrantsOver : Grants → Grants
  GrantsOver grants = granting (grants_of_others grants old) heir (in_order (held grants old))

  -- nobody holds under the id
  abbrev HoldsNone : Grants → Type 0
  HoldsNone grants = (p : Partition) → has grants (heir, p) ≡ false

  has-over : (grants : Grants) (x : Text) (q : Partition) → has (GrantsOver grants) (x, q) ≡ ((eq_by_cmp text_cmp x heir && has grants (old, q)) || (not (eq_by_cmp text_cmp old x) && has grants (x, q)))
  has-over grants x q =
      has-granting (grants_of_others grants old) heir (in_order (held grants old)) x q
      ∙ (λ i. (eq_by_cmp text_cmp x heir && (sym (has-in_order (held grants old) q) ∙ has-held grants old q) i) || has-others grants old x q i)

  heir_holds : (grants : Grants) → HoldsNone grants → (q : Partition) → has (GrantsOver grants) (heir, q) ≡ has grants (old, q)
  heir_holds grants none q =
      has-over grants heir q
      ∙ (λ i. (text_ties heir i && has grants (old, q)) || (not (no_tie old heir apart i) && none q i))
      ∙ or_false (has grants (old, q))
    where
      or_false : (b : Bool) → (b || false) ≡ b
      or_false true = refl
      or_false false = refl

  old_holds : (grants : Grants) (q : Partition) → has (GrantsOver grants) (old, q) ≡ false
  old_holds grants q =
      has-over grants old q ∙ (λ i. (no_tie old heir apart i && has grants (old, q)) || (not (text_ties old i) && has grants (old, q)))

  other_holds : (grants : Grants) (x : Text) (q : Partition) → x ≢ old → x ≢ heir → has (GrantsOver grants) (x, q) ≡ has grants (x, q)
  other_holds grants x q not_old not_heir =
      has-over grants x q ∙ (λ i. (no_tie x heir not_heir i && has grants (old, q)) || (not (no_tie old x (λ same. not_old (sym same)) i) && has grants (x, q)))

  held_over : (grants : Grants) → HoldsNone grants → held (GrantsOver grants) heir ≡ held grants old
  held_over grants none =
      same_set partition_cmp_total partition_cmp-IsAntisymmetric _ _ (λ q. has-held (GrantsOver grants) heir q ∙ heir_holds grants none q ∙ sym (has-held grants old q))

  -- a partition that is free for the old id is free for the heir
  free_over : (grants : Grants) → HoldsNone grants → (q : Partition) → is_free_for (GrantsOver grants) heir q ≡ is_free_for grants old q
  free_over grants none q =
      same_truth (is_free_for (GrantsOver grants) heir q) (is_free_for grants old q)
      (λ free. free_from grants old q (λ n holds. before free n holds (tie n old) (tie n heir)))
      (λ free. free_from (GrantsOver grants) heir q (λ n holds. later free n holds (tie n old) (tie n heir)))
    where
      before : is_free_for (GrantsOver grants) heir q ≡ true → (n : Text) → IsTrue (has grants (n, q)) → Tie n old → Tie n heir → n ≡ old
      before free n holds (ties same) other = same
      before free n holds (differs not_old _) (ties same) = absurd (true≢false (sym holds ∙ ap (λ x. has grants (x, q)) same ∙ none q))
      before free n holds (differs not_old _) (differs not_heir _) = absurd (not_heir (free_is (GrantsOver grants) heir q free n (other_holds grants n q not_old not_heir ∙ holds)))

      later : is_free_for grants old q ≡ true → (n : Text) → IsTrue (has (GrantsOver grants) (n, q)) → Tie n old → Tie n heir → n ≡ heir
      later free n holds (ties same) other = absurd (true≢false (sym holds ∙ ap (λ x. has (GrantsOver grants) (x, q)) same ∙ old_holds grants q))
      later free n holds (differs not_old _) (ties same) = same
      later free n holds (differs not_old _) (differs not_heir _) = absurd (not_old (free_is grants old q free n (sym (other_holds grants n q not_old not_heir) ∙ holds)))

  none_moved : (grants : Grants) → HoldsNone grants → (want : Partitions) → HoldsNone (moved grants old want)
  none_moved grants none want q =
      has-moved grants old want heir q
      ∙ ap (λ b. cond b (has want q && (has grants (old, q) || is_free_for grants old q)) (has grants (heir, q))) (no_tie heir old (λ same. apart (sym same)))
      ∙ none q

  moved_over : (grants : Grants) → HoldsNone grants → (want : Partitions) → moved (GrantsOver grants) heir want ≡ GrantsOver (moved grants old want)
  moved_over grants none want =
      same_set grant_cmp_total grant_cmp-IsAntisymmetric _ _ (λ k. at k.0 k.1 (tie k.0 old) (tie k.0 heir))
    where
      at : (x : Text) (q : Partition) → Tie x old → Tie x heir → has (moved (GrantsOver grants) heir want) (x, q) ≡ has (GrantsOver (moved grants old want)) (x, q)
      at x q (ties same) other =
          ap (λ y. has (moved (GrantsOver grants) heir want) (y, q)) same
          ∙ has-moved (GrantsOver grants) heir want old q
          ∙ ap (λ b. cond b (has want q && (has (GrantsOver grants) (heir, q) || is_free_for (GrantsOver grants) heir q)) (has (GrantsOver grants) (old, q))) (no_tie old heir apart)
          ∙ old_holds grants q
          ∙ sym (ap (λ y. has (GrantsOver (moved grants old want)) (y, q)) same ∙ old_holds (moved grants old want) q)
      at x q (differs not_old _) (ties same) =
          ap (λ y. has (moved (GrantsOver grants) heir want) (y, q)) same
          ∙ has-moved (GrantsOver grants) heir want heir q
          ∙ (λ i. cond (text_ties heir i) (has want q && (heir_holds grants none q i || free_over grants none q i)) (has (GrantsOver grants) (heir, q)))
          ∙ sym (ap (λ b. cond b (has want q && (has grants (old, q) || is_free_for grants old q)) (has grants (old, q))) (text_ties old))
          ∙ sym (has-moved grants old want old q)
          ∙ sym (heir_holds (moved grants old want) (none_moved grants none want) q)
          ∙ sym (ap (λ y. has (GrantsOver (moved grants old want)) (y, q)) same)
      at x q (differs not_old _) (differs not_heir _) =
          has-moved (GrantsOver grants) heir want x q
          ∙ ap (λ b. cond b (has want q && (has (GrantsOver grants) (heir, q) || is_free_for (GrantsOver grants) heir q)) (has (GrantsOver grants) (x, q))) (no_tie x heir not_heir)
          ∙ other_holds grants x q not_old not_heir
          ∙ sym (ap (λ b. cond b (has want q && (has grants (old, q) || is_free_for grants old q)) (has grants (x, q))) (no_tie x old not_old))
          ∙ sym (has-moved grants old want x q)
          ∙ sym (other_holds (moved grants old want) x q not_old not_heir)

  granted_over : (may : Bool) (grants : Grants) → HoldsNone grants → (want : Partitions) → grants_after may (GrantsOver grants) heir want ≡ GrantsOver (grants_after may grants old want)
  granted_over true grants none want = moved_over grants none want
  granted_over false grants none want = refl

  none_after : (may : Bool) (grants : Grants) → HoldsNone grants → (want : Partitions) → HoldsNone (grants_after may grants old want)
  none_after true grants none want = none_moved grants none want
  none_after false grants none want = none

-- ---- by the verdict

by_either : (v : Verdict) (P Q : Answer → Group → Type 0) (g : Group) (a : Answer) (n : Group) → (P a n → Q a n) → ByVerdict v P g a n → ByVerdict v Q g a n
by_either Accepted P Q g a n to is = to is
by_either (Refused code) P Q g a n to is = is
by_either Overtaken P Q g a n to is = is

-- ---- nobody takes over

module _ (g x : Group) (m : Text) (before : Option Record) (after : Record) (q : Heartbeat) (image : Topics) (answer : Answer) (new : Group) where
  abbrev First : Draft
  First = record { group = x; id = m; before = before; after = after }

  abbrev Late : LateDraft
  Late = record { group = x; id = m; before = before; after = after; heir = None }

  pub same_for_one : TakesIn g First q image answer new ↔ TakesInLate g Late q image answer new
  same_for_one = (
    λ takes. record {
      change = takes.change;
      is_change = takes.is_change;
      step = by_either (verdict_on_change takes.change g.epoch) (Stages (changed_if takes.change x (view_for image x.records)) First q) (LateStages (changed_if takes.change x (view_for image x.records)) Late q) g answer new
          (λ st. record { renewed = st.renewed; renews = st.renews; settled = st.settled; settles = st.settles; kept = st.kept; is_kept = st.is_kept; told = st.told; tells = st.tells; answers = st.answers; leaves = st.leaves })
          takes.step;
    },
    λ takes. record {
      change = takes.change;
      is_change = takes.is_change;
      step = by_either (verdict_on_change takes.change g.epoch) (LateStages (changed_if takes.change x (view_for image x.records)) Late q) (Stages (changed_if takes.change x (view_for image x.records)) First q) g answer new
          (λ st. record { renewed = st.renewed; renews = st.renews; settled = st.settled; settles = st.settles; kept = st.kept; is_kept = st.is_kept; told = st.told; tells = st.tells; answers = st.answers; leaves = st.leaves })
          takes.step;
    },
  )

-- ---- a member takes over

module _ (g : Group) (sound : IsSound g) (old : Member) (heir : Text) (there : finite.get g.records old.id ≡ Some old.kept) (is_new : finite.get g.records heir ≡ None) (has_id : heir ≢ [])
    (given : Text) (has_given : old.kept.instance ≡ Some given) (after : Record) (same_instance : after.instance ≡ old.kept.instance) (now serial : ℕ) where
  abbrev O : Text
  O = old.id

  apart_ids : O ≢ heir
  apart_ids same = not_none old.kept (sym is_new ∙ ap (finite.get g.records) (sym same) ∙ there)

  abbrev Rest : Records
  Rest = finite.remove g.records O

  abbrev TheHeir : Heir
  TheHeir = record { id = heir; last = old.kept.stamp }

  -- the group with the renaming
  abbrev Over : Group → Record → Group
  Over x r = renamed_last x O r (Some TheHeir)

  abbrev LateGroup : Group
  LateGroup = with_record_at (record g { serial = serial }) now O after

  abbrev FirstGroup : Group
  FirstGroup = with_record_at (handed_over (record g { serial = serial }) old heir) now heir after

  -- ---- the drafts

  abbrev PastThen : Past
  PastThen = remembering (without_past g.past heir) O old.kept.stamp

  first_records : finite.insert (finite.insert Rest heir old.kept) heir after ≡ finite.insert (finite.remove (finite.insert g.records O after) O) heir after
  first_records =
      insert-insert text_cmp_total text_cmp-IsAntisymmetric Rest heir old.kept after ∙ sym (ap (λ (rs : Records). finite.insert rs heir after) (remove-inserted g.records O after))

  first_past : without_past PastThen heir ≡ remembering (without_past (without_past g.past O) heir) O old.kept.stamp
  first_past =
      let over : IsConsistent (handed_over g old heir) = taken_over_is_consistent g (consistent g sound) O heir old.kept old.kept old.kept.stamp there is_new has_id refl refl in
      kept_past PastThen heir (not_past (finite.insert Rest heir old.kept) PastThen heir old.kept over.past (get-inserted Rest heir old.kept))
      ∙ ap (λ (past : Past). remembering (without_past past heir) O old.kept.stamp) (sym (kept_past g.past O (not_past g.records g.past O old.kept sound.past there)))

  first_is : FirstGroup ≡ Over LateGroup after
  first_is = λ i. record (Over LateGroup after) { records = first_records i; past = first_past i }

  same_view : (image : Topics) → view_for image FirstGroup.records ≡ view_for image LateGroup.records
  same_view image = ap (view_for image) (insert-insert text_cmp_total text_cmp-IsAntisymmetric Rest heir old.kept after) ∙ view_for-heir image g.records O heir after after is_new refl

  -- ---- the target

  absent_old : finite.get Rest O ≡ None
  absent_old = removed_is_none g.records O

  absent_heir : finite.get Rest heir ≡ None
  absent_heir = none_without g.records O heir is_new

  -- an instance is one member's, under whichever of the two ids the record stands
  alone : (k : Text) (m n : Text) (r s : Record) (i : Text) → finite.get (finite.insert Rest k after) m ≡ Some r → finite.get (finite.insert Rest k after) n ≡ Some s
      → r.instance ≡ Some i → s.instance ≡ Some i → m ≡ n
  alone k m n r s i is_m is_n one two = by (found Rest k after m r is_m) (found Rest k after n s is_n)
    where
      not_both : (x : Text) (t : Record) → finite.get Rest x ≡ Some t → t.instance ≡ Some i → after.instance ≡ Some i → ⊥
      not_both x t is of also =
          let before = found_without g.records O x t is in
          before.1 (sound.instances x O t old.kept i before.0 there of (sym same_instance ∙ also))

      by : Found Rest k after m r → Found Rest k after n s → m ≡ n
      by (this is_k _) (this also_k _) = is_k ∙ sym also_k
      by (this _ is_after) (another _ _ there_n) = absurd (not_both n s there_n two (sym (ap (λ (x : Record). x.instance) is_after) ∙ one))
      by (another _ _ there_m) (this _ is_after) = absurd (not_both m r there_m one (sym (ap (λ (x : Record). x.instance) is_after) ∙ two))
      by (another _ _ there_m) (another _ _ there_n) =
          sound.instances m n r s i (found_without g.records O m r there_m).0 (found_without g.records O n s there_n).0 one two

  given_after : after.instance ≡ Some given
  given_after = same_instance ∙ has_given

  here_records : (c : Group) → c.records ≡ finite.insert g.records O after → finite.insert Rest O after ≡ c.records
  here_records c is = insert-removed g.records O after ∙ sym is

  there_records : (c : Group) → c.records ≡ finite.insert g.records O after → finite.insert Rest heir after ≡ (Over c after).records
  there_records c is = ap (λ (rs : Records). finite.insert rs heir after) (sym (ap (λ (rs : Records). finite.remove rs O) is ∙ remove-inserted g.records O after))

  -- what is known of a group between the draft and the settling
  record IsOn (c : Group) : Type 0 where
    records : c.records ≡ finite.insert g.records O after
    lacks : Lacks O heir apart_ids heir c.target
    holds : HoldsNone O heir apart_ids c.grants

  renews_there : (c n : Group) → IsOn c → Renews c n → Renews (Over c after) (Over n after) × IsOn n
  renews_there c n on = by (c.epoch == c.target_epoch)
    where
      by : (b : Bool) → RenewsWhere b c n → RenewsWhere b (Over c after) (Over n after) × IsOn n
      by true is = (ap (λ (x : Group). Over x after) is, subst IsOn (sym is) on)
      by false (target, is_target, is) =
          let here : IsTarget (finite.insert Rest O after) c.view c.target target = subst (λ (rs : Records). IsTarget rs c.view c.target target) (sym (here_records c on.records)) is_target in
          let then = renewed_there O heir apart_ids Rest after absent_old absent_heir given given_after (alone O) c.view c.target target on.lacks here in
          let renewed : Group = record c { target = target; target_epoch = c.epoch } in (
            (renamed target O heir, subst (λ (rs : Records). IsTarget rs c.view (renamed c.target O heir) (renamed target O heir)) (there_records c on.records) then.0, ap (λ (x : Group). Over x after) is),
            subst IsOn (sym is) (record { records = on.records; lacks = then.1; holds = on.holds }),
          )

  record CameFrom (c m : Group) : Type 0 where
    renewed : Group
    renews : Renews c renewed
    same : m ≡ Over renewed after

  renews_back : (c m : Group) → IsOn c → Renews (Over c after) m → CameFrom c m
  renews_back c m on is = by (c.epoch == c.target_epoch) refl is
    where
      other : heir ≢ O
      other same = apart_ids (sym same)

      by : (b : Bool) → (c.epoch == c.target_epoch) ≡ b → RenewsWhere b (Over c after) m → CameFrom c m
      by true so is = record { renewed = c; renews = subst (λ b. RenewsWhere b c c) (sym so) refl; same = is }
      by false so (target, is_target, is) =
          let there_is : IsTarget (finite.insert Rest heir after) c.view (renamed c.target O heir) target = subst (λ (rs : Records). IsTarget rs c.view (renamed c.target O heir) target) (sym (there_records c on.records)) is_target in
          let back = renewed_there heir O other Rest after absent_heir absent_old given given_after (alone heir) c.view (renamed c.target O heir) target (renamed_lacks O heir apart_ids c.target on.lacks) there_is in
          let before : Spread = renamed target heir O in
          let here : IsTarget c.records c.view c.target before =
          subst (λ (rs : Records). IsTarget rs c.view c.target before) (here_records c on.records)
          (subst (λ (former : Spread). IsTarget (finite.insert Rest O after) c.view former before) (renamed_back O heir apart_ids c.target on.lacks) back.0) in
          let again : renamed before O heir ≡ target = renamed_back heir O other target back.1 in
          record {
            renewed = record c { target = before; target_epoch = c.epoch };
            renews = subst (λ b. RenewsWhere b c (record c { target = before; target_epoch = c.epoch })) (sym so) (before, here, refl);
            same = is ∙ (λ i. record (Over c after) { target = sym again i; target_epoch = c.epoch });
          }

  -- ---- the settling

  module _ (n : Group) (on : IsOn n) (owned : Option Partitions) where
    abbrev May : Bool
    May = may_settle n.grants O (wanted n.target O) owned

    abbrev Then : Record
    Then = settled_record May after n.target_epoch n.clock

    abbrev Done : Group
    Done = record n { grants = grants_after May n.grants O (wanted n.target O); records = finite.insert n.records O Then }

    found_here : finite.get n.records O ≡ Some after
    found_here = ap (λ (rs : Records). finite.get rs O) on.records ∙ get-inserted g.records O after

    done_is : settled n O owned n.clock ≡ Done
    done_is = ap (λ o. settled_by May n O o n.clock) found_here

    same_may : may_settle (Over n after).grants heir (wanted (Over n after).target heir) owned ≡ May
    same_may = λ i. may_move (minus (held_over O heir apart_ids n.grants on.holds i) (wanted_over O heir apart_ids n.target on.lacks i)) owned

    settled_there : settled (Over n after) heir owned n.clock ≡ Over Done Then
    settled_there =
        (λ i. settled_by (same_may i) (Over n after) heir (get-inserted (finite.remove n.records O) heir after i) n.clock)
        ∙ (λ i. record (Over n after) {
          grants = (ap (grants_after May (Over n after).grants heir) (wanted_over O heir apart_ids n.target on.lacks) ∙ granted_over O heir apart_ids May n.grants on.holds (wanted n.target O)) i;
          records = (insert-insert text_cmp_total text_cmp-IsAntisymmetric (finite.remove n.records O) heir after Then
              ∙ ap (λ (rs : Records). finite.insert rs heir Then) (sym (remove-inserted n.records O Then))) i;
        })

    shown_there : shown (Over Done Then) heir ≡ shown Done O
    shown_there =
        λ i. common (held_over O heir apart_ids Done.grants (none_after O heir apart_ids May n.grants on.holds (wanted n.target O)) i) (wanted_over O heir apart_ids n.target on.lacks i)

    -- what is stored at the end
    stored_there : (z : Record) → record (Over Done Then) { records = finite.insert (Over Done Then).records heir z } ≡ Over Done z
    stored_there z = λ i. record (Over Done z) { records = insert-insert text_cmp_total text_cmp-IsAntisymmetric (finite.remove Done.records O) heir Then z i }

  -- ---- the stages

  module _ (q : Heartbeat) (before : Option Record) (answer : Answer) (new : Group) where
    abbrev TheDraft : Draft
    TheDraft = record { group = FirstGroup; id = heir; before = before; after = after }

    abbrev TheLateDraft : LateDraft
    TheLateDraft = record { group = LateGroup; id = O; before = before; after = after; heir = Some TheHeir }

    abbrev Tells : Group → Text → Record → Option Partitions → Type 0
    Tells s m r told = told ≡ assignment_of (is_full q || is_news r.sent (shown s m)) (shown s m)

    stages_there : (c : Group) → IsOn c → LateStages c TheLateDraft q answer new → Stages (Over c after) TheDraft q answer new
    stages_there c on st =
        let then = renews_there c st.renewed on st.renews in
        let done : st.settled ≡ Done st.renewed then.1 (reported q) = st.settles ∙ done_is st.renewed then.1 (reported q) in
        let kept : st.kept ≡ Then st.renewed then.1 (reported q) =
        some_is st.kept (Then st.renewed then.1 (reported q)) (sym st.is_kept ∙ ap (λ (x : Group). finite.get x.records O) done ∙ get-inserted st.renewed.records O (Then st.renewed then.1 (reported q))) in
        record {
          renewed = Over st.renewed after;
          renews = then.0;
          settled = Over (Done st.renewed then.1 (reported q)) (Then st.renewed then.1 (reported q));
          settles = sym (settled_there st.renewed then.1 (reported q));
          kept = Then st.renewed then.1 (reported q);
          is_kept = get-inserted (finite.remove (Done st.renewed then.1 (reported q)).records O) heir (Then st.renewed then.1 (reported q));
          told = st.told;
          tells =
              st.tells
              ∙ (λ i. assignment_of (is_full q || is_news (kept i).sent (shown (done i) O)) (shown (done i) O))
              ∙ ap (λ (set : Partitions). assignment_of (is_full q || is_news (Then st.renewed then.1 (reported q)).sent set) set) (sym (shown_there st.renewed then.1 (reported q)));
          answers = st.answers ∙ ap (λ (r : Record). Replied (acceptance heir r st.told)) kept;
          leaves =
              st.leaves ∙ (λ i. Over (done i) (sent_after (kept i) st.told))
              ∙ sym (stored_there st.renewed then.1 (reported q) (sent_after (Then st.renewed then.1 (reported q)) st.told));
        }

    stages_back : (c : Group) → IsOn c → Stages (Over c after) TheDraft q answer new → LateStages c TheLateDraft q answer new
    stages_back c on st =
        let from = renews_back c st.renewed on st.renews in
        let n : Group = from.renewed in
        let then = renews_there c n on from.renews in
        let done : st.settled ≡ Over (Done n then.1 (reported q)) (Then n then.1 (reported q)) =
        st.settles ∙ ap (λ (x : Group). settled x heir (reported q) x.clock) from.same ∙ settled_there n then.1 (reported q) in
        let kept : st.kept ≡ Then n then.1 (reported q) =
        some_is st.kept (Then n then.1 (reported q))
        (sym st.is_kept ∙ ap (λ (x : Group). finite.get x.records heir) done ∙ get-inserted (finite.remove (Done n then.1 (reported q)).records O) heir (Then n then.1 (reported q))) in
        record {
          renewed = n;
          renews = from.renews;
          settled = Done n then.1 (reported q);
          settles = sym (done_is n then.1 (reported q));
          kept = Then n then.1 (reported q);
          is_kept = get-inserted n.records O (Then n then.1 (reported q));
          told = st.told;
          tells =
              st.tells
              ∙ (λ i. assignment_of (is_full q || is_news (kept i).sent (shown (done i) heir)) (shown (done i) heir))
              ∙ ap (λ (set : Partitions). assignment_of (is_full q || is_news (Then n then.1 (reported q)).sent set) set) (shown_there n then.1 (reported q));
          answers = st.answers ∙ ap (λ (r : Record). Replied (acceptance heir r st.told)) kept;
          leaves =
              st.leaves ∙ (λ i. record (done i) { records = finite.insert (done i).records heir (sent_after (kept i) st.told) })
              ∙ stored_there n then.1 (reported q) (sent_after (Then n then.1 (reported q)) st.told);
        }

    -- ---- the whole draft

    owns_nothing : Lacks O heir apart_ids heir g.target
    owns_nothing p owns = true≢false (sym (sound.owners heir p owns) ∙ ap is_some is_new)

    holds_nothing : HoldsNone O heir apart_ids g.grants
    holds_nothing p = not_so (has g.grants (heir, p)) (λ holds. true≢false (sym (sound.holders heir p holds) ∙ ap is_some is_new))

    on_if : (change : Bool) (view : Topics) → IsOn (changed_if change LateGroup view)
    on_if true view = record { records = refl; lacks = owns_nothing; holds = holds_nothing }
    on_if false view = record { records = refl; lacks = owns_nothing; holds = holds_nothing }

    changed_over : (change : Bool) (view : Topics) → changed_if change (Over LateGroup after) view ≡ Over (changed_if change LateGroup view) after
    changed_over true view = refl
    changed_over false view = refl

    changed_first : (change : Bool) (image : Topics) → changed_if change FirstGroup (view_for image FirstGroup.records) ≡ Over (changed_if change LateGroup (view_for image LateGroup.records)) after
    changed_first change image =
        (λ i. changed_if change (first_is i) (same_view image i)) ∙ changed_over change (view_for image LateGroup.records)

    pub same_taken_over : (image : Topics) → TakesIn g TheDraft q image answer new ↔ TakesInLate g TheLateDraft q image answer new
    same_taken_over image = (
      λ takes.
          let view : Topics = view_for image LateGroup.records in
          record {
            change = takes.change;
            is_change = subst (λ (v : Topics). IsChange takes.change before after g.view v) (same_view image) takes.is_change;
            step = by_either (verdict_on_change takes.change g.epoch) (Stages (changed_if takes.change FirstGroup (view_for image FirstGroup.records)) TheDraft q) (LateStages (changed_if takes.change LateGroup view) TheLateDraft q) g answer new
                (λ st. stages_back (changed_if takes.change LateGroup view) (on_if takes.change view) (subst (λ (x : Group). Stages x TheDraft q answer new) (changed_first takes.change image) st))
                takes.step;
          },
      λ takes.
          let view : Topics = view_for image LateGroup.records in
          record {
            change = takes.change;
            is_change = subst (λ (v : Topics). IsChange takes.change before after g.view v) (sym (same_view image)) takes.is_change;
            step = by_either (verdict_on_change takes.change g.epoch) (LateStages (changed_if takes.change LateGroup view) TheLateDraft q) (Stages (changed_if takes.change FirstGroup (view_for image FirstGroup.records)) TheDraft q) g answer new
                (λ st. subst (λ (x : Group). Stages x TheDraft q answer new) (sym (changed_first takes.change image)) (stages_there (changed_if takes.change LateGroup view) (on_if takes.change view) st))
                takes.step;
          },
    )

-- ---- the draft of any join

-- another member with the instance has one
pub instance_given : (records : Records) (m : Text) (o : Option Text) (old : Member) → other_with records m o ≡ Some old → (given : Text) × (o ≡ Some given)
instance_given records m None old is = absurd (not_none old is)
instance_given records m (Some given) old is = (given, refl)

pub renaming_may_come_last : RenamingMayComeLast
renaming_may_come_last g a name answer new sound named = by (sender_of g.records a.heartbeat).own (sender_of g.records a.heartbeat).other refl refl
  where
    by : (own : Option Record) (other : Option Member) → record_under g.records a.heartbeat.member ≡ own → other_with g.records a.heartbeat.member a.heartbeat.instance ≡ other
        → TakesIn g (draft_under name (record { own = own; other = other }) g a) a.heartbeat a.image answer new
        ↔ TakesInLate g (late_draft_under name (record { own = own; other = other }) g a) a.heartbeat a.image answer new
    by (Some r) other own is =
        let x : Group = with_record_at (record g { serial = name.next_serial }) (max g.clock a.moment) name.id (record_of_join (Some r) a.heartbeat a.stamp (max g.clock a.moment)) in
        same_for_one g x name.id (Some r) (record_of_join (Some r) a.heartbeat a.stamp (max g.clock a.moment)) a.heartbeat a.image answer new
    by None None own is =
        let x : Group = with_record_at (record g { serial = name.next_serial }) (max g.clock a.moment) name.id (record_of_join None a.heartbeat a.stamp (max g.clock a.moment)) in
        same_for_one g x name.id None (record_of_join None a.heartbeat a.stamp (max g.clock a.moment)) a.heartbeat a.image answer new
    by None (Some old) own is =
        let fresh = named_fresh g a.heartbeat.member name named own in
        let there = other_is g.records a.heartbeat.member a.heartbeat.instance old is in
        let given = instance_given g.records a.heartbeat.member a.heartbeat.instance old is in
        same_taken_over g sound old name.id there.0 fresh.0 fresh.1 given.0 (there.1 ∙ given.1) (record_of_join (Some old.kept) a.heartbeat a.stamp (max g.clock a.moment)) (sym there.1)
        (max g.clock a.moment) name.next_serial a.heartbeat (Some old.kept) answer new a.image
