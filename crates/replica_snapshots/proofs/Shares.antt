-- What the members of a group are to own, where nothing is left out, makes the group's target.
use Rattle.std.proofs.Common.{◌≡◌, ◌≢◌, Bool, true, false, cond, not, List, [], ◌∷◌, ◌++◌, map, Some, refl, sym, ap, subst, ◌∙◌, append_assoc, append-nil, true≢false, arith}
use Rattle.std.specs.List.{AllByRecursion, AllPairs, Contains, filter}
use Rattle.std.specs.Ordering.{eq_by_cmp}
use Rattle.std.specs.FinMap as finite
use Rattle.std.specs.FinMap.Entries.{find}
use Rattle.std.proofs.lemmas.List.Elements.{All-from_recursion}
use Rattle.std.proofs.lemmas.List.Kept.{AllPairs-cons, AllPairs-filter}
use Rattle.group_types.specs.declared.partition.Partition.{Partition}
use Rattle.group_types.specs.Group.{Record, Records, Target}
use Rattle.group_types.specs.Owners.{owns, share_of}
use Rattle.group_types.specs.Partition.{Partitions, partition_cmp}
use Rattle.group_types.specs.Sets.{common, has, is_nothing, nothing}
use Rattle.group_types.specs.Text.{Text, text_cmp}
use Rattle.group_types.proofs.Lookups.{apart_texts, not_none, same_text, some_is}
use Rattle.group_types.proofs.Orders.{partition_cmp_total, partition_cmp-IsAntisymmetric}
use Rattle.group_types.proofs.SetLemmas.{common-nothing, has-nothing, is_nothing-Decides}
use Rattle.group_types.proofs.SpreadLemmas.{has-share_of, owns-get}
use Rattle.range_assign.specs.Shares.{AreShares, spread_of}
use Rattle.range_assign.proofs.Spreads.{Contains-cases, Contains-cons, Contains-head, IsShare-of, get-spread_of, owner_in-has}
use Rattle.replica_snapshots.specs.Building.{with_each, with_share}
use Rattle.replica_snapshots.proofs.Inserted.{KeysApart}
use Rattle.replica_snapshots.proofs.Told.{OwnersHaveRecords, one_answer, some_value}

-- a share that has a partition
abbrev has_some : Text × Partitions → Bool
has_some s = not (is_nothing s.1)

shares_kept : (front all : List (Text × Partitions)) → with_each with_share front all ≡ front ++ filter has_some all
shares_kept front [] = sym (append-nil front)
shares_kept front (s ∷ all) =
    elim (is_nothing s.1) as (λ b. with_each with_share (cond b front (front ++ s ∷ [])) all ≡ front ++ cond (not b) (s ∷ filter has_some all) (filter has_some all)) [
      | true ↦ shares_kept front all
      | false ↦ shares_kept (front ++ s ∷ []) all ∙ append_assoc front (s ∷ []) (filter has_some all)
    ]

module _ (t : Target) where
  abbrev pub share_for : Text × Record → Text × Partitions
  share_for e = (e.0, share_of t e.0)

  abbrev pub all_shares : List (Text × Record) → List (Text × Partitions)
  all_shares es = filter has_some (map share_for es)

  one_owner : (m n : Text) (p : Partition) → owns t m p ≡ true → owns t n p ≡ true → m ≡ n
  one_owner m n p mine theirs = some_is m n (sym ((owns-get t m p).0 mine) ∙ (owns-get t n p).0 theirs)

  untrue : (b : Bool) → (b ≡ true → ⊥) → b ≡ false
  untrue true never = absurd (never refl)
  untrue false never = refl

  none_common : (m n : Text) → m ≢ n → common (share_of t m) (share_of t n) ≡ nothing
  none_common m n apart =
      common-nothing partition_cmp_total partition_cmp-IsAntisymmetric (share_of t m) (share_of t n) (λ p mine.
      untrue (has (share_of t n) p) (λ theirs. apart (one_owner m n p (sym (has-share_of t m p) ∙ mine) (sym (has-share_of t n p) ∙ theirs))))

  other_ids : (e : Text × Record) (es : List (Text × Record)) → AllByRecursion (λ (f : Text × Record). eq_by_cmp text_cmp f.0 e.0 ≡ false) es
      → AllByRecursion (λ (s : Text × Partitions). e.0 ≢ s.0) (map share_for es)
  other_ids e [] apart = tt
  other_ids e (f ∷ es) apart = ((λ same. apart_texts f.0 e.0 apart.0 (sym same)), other_ids e es apart.1)

  other_sets : (e : Text × Record) (es : List (Text × Record)) → AllByRecursion (λ (f : Text × Record). eq_by_cmp text_cmp f.0 e.0 ≡ false) es
      → AllByRecursion (λ (s : Text × Partitions). common (share_of t e.0) s.1 ≡ nothing) (map share_for es)
  other_sets e [] apart = tt
  other_sets e (f ∷ es) apart = (none_common e.0 f.0 (λ same. apart_texts f.0 e.0 apart.0 (sym same)), other_sets e es apart.1)

  abbrev HaveTwoIds : Text × Partitions → Text × Partitions → Type 0
  HaveTwoIds s u = s.0 ≢ u.0

  abbrev ShareNothing : Text × Partitions → Text × Partitions → Type 0
  ShareNothing s u = common s.1 u.1 ≡ nothing

  ids_apart : (es : List (Text × Record)) → KeysApart text_cmp es → AllPairs HaveTwoIds (map share_for es)
  ids_apart [] apart = λ i j d lt within. absurd (omega (arith, within))
  ids_apart (e ∷ es) apart = AllPairs-cons HaveTwoIds (share_for e) (map share_for es) (All-from_recursion (HaveTwoIds (share_for e)) (map share_for es) (other_ids e es apart.0)) (ids_apart es apart.1)

  sets_apart : (es : List (Text × Record)) → KeysApart text_cmp es → AllPairs ShareNothing (map share_for es)
  sets_apart [] apart = λ i j d lt within. absurd (omega (arith, within))
  sets_apart (e ∷ es) apart = AllPairs-cons ShareNothing (share_for e) (map share_for es) (All-from_recursion (ShareNothing (share_for e)) (map share_for es) (other_sets e es apart.0)) (sets_apart es apart.1)

  pub are_shares : (es : List (Text × Record)) → KeysApart text_cmp es → AreShares (all_shares es)
  are_shares es apart = record {
    ids_apart = AllPairs-filter HaveTwoIds has_some (map share_for es) (ids_apart es apart);
    sets_apart = AllPairs-filter ShareNothing has_some (map share_for es) (sets_apart es apart);
  }

  -- each share is what its member is to own
  kept_is : (es : List (Text × Record)) (s : Text × Partitions) → Contains (all_shares es) s → s.1 ≡ share_of t s.0
  kept_is [] s there = absurd (omega (arith, there.1))
  kept_is (e ∷ es) s there =
      elim (has_some (share_for e)) as (λ b. Contains (cond b (share_for e ∷ all_shares es) (all_shares es)) s → s.1 ≡ share_of t s.0) [
        | true ↦ λ among. Contains-cases (share_for e) (all_shares es) s (λ same. subst (λ (u : Text × Partitions). u.1 ≡ share_of t u.0) same refl) (λ later. kept_is es s later) among
        | false ↦ λ among. kept_is es s among
      ] there

  -- and the share of a member that is to own some is there
  is_kept : (es : List (Text × Record)) (m : Text) (r : Record) → find text_cmp m es ≡ Some r → has_some (m, share_of t m) ≡ true → Contains (all_shares es) (m, share_of t m)
  is_kept [] m r found some = absurd (not_none r found)
  is_kept (e ∷ es) m r found some =
      elim (eq_by_cmp text_cmp m e.0) as (λ b. eq_by_cmp text_cmp m e.0 ≡ b → cond b (Some e.1) (find text_cmp m es) ≡ Some r → Contains (all_shares (e ∷ es)) (m, share_of t m)) [
        | true ↦ λ so _.
            let same : e.0 ≡ m = sym (same_text m e.0 so) in
            let kept : has_some (share_for e) ≡ true = ap (λ (k : Text). has_some (k, share_of t k)) same ∙ some in
            subst (λ (b : Bool). Contains (cond b (share_for e ∷ all_shares es) (all_shares es)) (m, share_of t m)) (sym kept)
            (subst (λ (k : Text). Contains (share_for e ∷ all_shares es) (k, share_of t k)) same (Contains-head (share_for e) (all_shares es)))
        | false ↦ λ _ behind.
            let later = is_kept es m r behind some in
            elim (has_some (share_for e)) as (λ b. Contains (cond b (share_for e ∷ all_shares es) (all_shares es)) (m, share_of t m)) [
              | true ↦ Contains-cons (share_for e) (all_shares es) (m, share_of t m) later
              | false ↦ later
            ]
      ] refl found

  has_one : (m : Text) (p : Partition) → finite.get t p ≡ Some m → has_some (m, share_of t m) ≡ true
  has_one m p is =
      let there : has (share_of t m) p ≡ true = has-share_of t m p ∙ (owns-get t m p).1 is in
      ap not (untrue (is_nothing (share_of t m)) (λ none. true≢false (sym there ∙ (ap (λ (s : Partitions). has s p) ((is_nothing-Decides (share_of t m)).0 none) ∙ has-nothing partition_cmp p))))

  pub target_again : (records : Records) → KeysApart text_cmp (finite.entries records) → OwnersHaveRecords records t → spread_of (all_shares (finite.entries records)) ≡ t
  target_again records apart owners =
      let es = finite.entries records in
      let shares = all_shares es in
      finite.same_map partition_cmp_total partition_cmp-IsAntisymmetric (spread_of shares) t (λ p.
      one_answer (finite.get (spread_of shares) p) (finite.get t p)
      (λ m is.
      let owner = owner_in-has shares p m (sym (get-spread_of shares p) ∙ is) in
      let mine : has (share_of t owner.0.0) p ≡ true = ap (λ (s : Partitions). has s p) (sym (kept_is es owner.0 owner.1)) ∙ owner.3 in
      (owns-get t owner.0.0 p).0 (sym (has-share_of t owner.0.0 p) ∙ mine) ∙ ap Some owner.2)
      (λ m is.
      let kept = some_value (finite.get records m) (owners p m is) in
      let there = is_kept es m kept.0 (sym (finite.get-entries records m) ∙ kept.1) (has_one m p is) in
      (IsShare-of shares (are_shares es apart) (m, share_of t m) there p).0 (has-share_of t m p ∙ (owns-get t m p).1 is)))

pub shares_of_members : (t : Target) (es : List (Text × Record)) → with_each with_share [] (map (share_for t) es) ≡ all_shares t es
shares_of_members t es = shares_kept [] (map (share_for t) es)
