-- How long a former member is remembered.
use Rattle.std.proofs.Common.{◌≡◌, ◌≢◌, ◌⊎◌, inl, inr, ℕ, zero, suc, ◌+◌, ◌-◌, ◌≤◌, Bool, true, false, cond, not, [], ◌∷◌, ◌++◌, length, drop, Option, Some, None, refl, sym, ap, subst, ◌∙◌, arith, length-append, length-drop, drop-drop}
use Rattle.std.specs.Ordering.{eq_by_cmp}
use Rattle.std.proofs.lemmas.List.{drop-append-le}
use Rattle.group_types.specs.Limits.{MOST_PAST_MEMBERS}
use Rattle.group_types.specs.declared.stamp.Stamp.{Stamp}
use Rattle.group_types.specs.Text.{Text, text_cmp}
use Rattle.group_types.specs.Group.{Past, Records}
use Rattle.group_types.specs.Members.{past_stamp, remembering, without_past}
use Rattle.group_types.specs.Sound.{IsPast}
use Rattle.group_types.proofs.Lookups.{Tie, ties, differs, tie, text_ties, not_none}
use Rattle.group_types.proofs.PastLemmas.{first_differs}

-- ---- what stands before and behind

found_last : (past : Past) (k : Text) (s : Stamp) → past_stamp past k ≡ None → past_stamp (past ++ (k, s) ∷ []) k ≡ Some s
found_last [] k s none = ap (λ b. cond b (Some s) None) (text_ties k)
found_last (e ∷ past) k s none =
    let there = first_differs past e k none in
    ap (λ b. cond b (Some e.1) (past_stamp (past ++ (k, s) ∷ []) k)) there.0 ∙ found_last past k s there.1

same_before : (past : Past) (e : Text × Stamp) (k : Text) → eq_by_cmp text_cmp k e.0 ≡ false → past_stamp (past ++ e ∷ []) k ≡ past_stamp past k
same_before [] e k apart = ap (λ b. cond b (Some e.1) None) apart
same_before (x ∷ past) e k apart = ap (λ o. cond (eq_by_cmp text_cmp k x.0) (Some x.1) o) (same_before past e k apart)

found_before : (past : Past) (e : Text × Stamp) (k : Text) (s : Stamp) → past_stamp past k ≡ Some s → past_stamp (past ++ e ∷ []) k ≡ Some s
found_before [] e k s never = absurd (not_none s never)
found_before (x ∷ past) e k s is = by (found_before past e k s) (eq_by_cmp text_cmp k x.0) is
  where
    by : (past_stamp past k ≡ Some s → past_stamp (past ++ e ∷ []) k ≡ Some s) → (b : Bool)
        → cond b (Some x.1) (past_stamp past k) ≡ Some s → cond b (Some x.1) (past_stamp (past ++ e ∷ []) k) ≡ Some s
    by rest true is = is
    by rest false is = rest is

none_dropped : (i : ℕ) (past : Past) (k : Text) → past_stamp past k ≡ None → past_stamp (drop i past) k ≡ None
none_dropped zero past k none = none
none_dropped (suc i) [] k none = none
none_dropped (suc i) (e ∷ past) k none = none_dropped i past k (first_differs past e k none).1

-- ---- an id among the last n stays as long as no more than these are dropped

pub record Stays (past : Past) (k : Text) (s : Stamp) (n : ℕ) : Type 0 where
  pub enough : n ≤ length past
  pub found : (j : ℕ) → j + n ≤ length past → past_stamp (drop j past) k ≡ Some s

one_more : (past : Past) (e : Text × Stamp) → length (past ++ e ∷ []) ≡ length past + 1
one_more past e = length-append past (e ∷ [])

stays_last : (past : Past) (k : Text) (s : Stamp) → past_stamp past k ≡ None → Stays (past ++ (k, s) ∷ []) k s 1
stays_last past k s none =
    let long = one_more past (k, s) in
    record {
      enough = omega (arith, long);
      found = λ j few.
          ap (λ x. past_stamp x k) (drop-append-le j past ((k, s) ∷ []) (omega (arith, long, few)))
          ∙ found_last (drop j past) k s (none_dropped j past k none);
    }

stays_behind : (past : Past) (k : Text) (s : Stamp) (n : ℕ) (e : Text × Stamp) → Stays past k s n → Stays (past ++ e ∷ []) k s (suc n)
stays_behind past k s n e is =
    let long = one_more past e in
    let before = is.enough in
    record {
      enough = omega (arith, long, before);
      found = λ j few.
          ap (λ x. past_stamp x k) (drop-append-le j past (e ∷ []) (omega (arith, long, few)))
          ∙ found_before (drop j past) e k s (is.found j (omega (arith, long, few)));
    }

stays_dropped : (i : ℕ) (past : Past) (k : Text) (s : Stamp) (n : ℕ) → n + i ≤ length past → Stays past k s n → Stays (drop i past) k s n
stays_dropped i past k s n few is =
    let long = length-drop i past in
    record {
      enough = omega (arith, long, few);
      found = λ j less. ap (λ x. past_stamp x k) (drop-drop j i past) ∙ is.found (i + j) (omega (arith, long, few, less));
    }

pub remembers_one : (past : Past) (k : Text) (s : Stamp) → past_stamp past k ≡ None → Stays (remembering past k s) k s 1
remembers_one past k s none =
    let all : Past = past ++ (k, s) ∷ [] in
    let long = one_more past (k, s) in
    stays_dropped (length all - MOST_PAST_MEMBERS) all k s 1 (omega (arith, long)) (stays_last past k s none)

pub remembers_more : (past : Past) (k : Text) (s : Stamp) (n : ℕ) (m : Text) (t : Stamp) → suc n ≤ MOST_PAST_MEMBERS → Stays past k s n → Stays (remembering past m t) k s (suc n)
remembers_more past k s n m t room is =
    let all : Past = past ++ (m, t) ∷ [] in
    let long = one_more past (m, t) in
    let enough = is.enough in
    stays_dropped (length all - MOST_PAST_MEMBERS) all k s (suc n) (omega (arith, long, room, enough)) (stays_behind past k s n (m, t) is)

pub is_remembered_now : (past : Past) (k : Text) (s : Stamp) (n : ℕ) → Stays past k s n → past_stamp past k ≡ Some s
is_remembered_now past k s n is = let enough = is.enough in is.found 0 (omega (arith, enough))

pub remembered_now : (past : Past) (k : Text) (s : Stamp) → past_stamp past k ≡ None → past_stamp (remembering past k s) k ≡ Some s
remembered_now past k s none = is_remembered_now (remembering past k s) k s 1 (remembers_one past k s none)

-- ---- others are as before, or forgotten

abbrev pub IsSameOrForgotten : Option Stamp → Option Stamp → Type 0
IsSameOrForgotten before after = (after ≡ before) ⊎ (after ≡ None)

dropped_stamp : (records : Records) (i : ℕ) (past : Past) (k : Text) → IsPast records past → IsSameOrForgotten (past_stamp past k) (past_stamp (drop i past) k)
dropped_stamp records zero past k is = inl refl
dropped_stamp records (suc i) [] k is = inl refl
dropped_stamp records (suc i) (e ∷ past) k is = by (dropped_stamp records i past k is.3) (tie k e.0)
  where
    by : IsSameOrForgotten (past_stamp past k) (past_stamp (drop i past) k) → Tie k e.0 → IsSameOrForgotten (cond (eq_by_cmp text_cmp k e.0) (Some e.1) (past_stamp past k)) (past_stamp (drop i past) k)
    by rest (ties same) = inr (none_dropped i past k (ap (past_stamp past) same ∙ is.2))
    by rest (differs other apart) = subst (λ b. IsSameOrForgotten (cond b (Some e.1) (past_stamp past k)) (past_stamp (drop i past) k)) (sym apart) rest

pub others_remembered : (records : Records) (past : Past) (m : Text) (t : Stamp) (k : Text) → IsPast records past → eq_by_cmp text_cmp k m ≡ false
    → IsSameOrForgotten (past_stamp past k) (past_stamp (remembering past m t) k)
others_remembered records past m t k is apart =
    let all : Past = past ++ (m, t) ∷ [] in
    let long = one_more past (m, t) in
    let i = length all - MOST_PAST_MEMBERS in
    let same : past_stamp (drop i all) k ≡ past_stamp (drop i past) k =
    ap (λ x. past_stamp x k) (drop-append-le i past ((m, t) ∷ []) (omega (arith, long))) ∙ same_before (drop i past) (m, t) k apart in
    subst (IsSameOrForgotten (past_stamp past k)) (sym same) (dropped_stamp records i past k is)

pub stamp_without_other : (past : Past) (m k : Text) → k ≢ m → past_stamp (without_past past m) k ≡ past_stamp past k
stamp_without_other [] m k other = refl
stamp_without_other (e ∷ past) m k other = by (stamp_without_other past m k other) (tie m e.0)
  where
    apart : m ≡ e.0 → Tie k e.0 → eq_by_cmp text_cmp k e.0 ≡ false
    apart same (ties is) = absurd (other (is ∙ sym same))
    apart same (differs _ so) = so

    by : past_stamp (without_past past m) k ≡ past_stamp past k → Tie m e.0 → past_stamp (without_past (e ∷ past) m) k ≡ past_stamp (e ∷ past) k
    by rest (ties same) =
        ap (λ b. past_stamp (cond (not b) (e ∷ without_past past m) (without_past past m)) k) (ap (eq_by_cmp text_cmp m) (sym same) ∙ text_ties m)
        ∙ rest ∙ sym (ap (λ b. cond b (Some e.1) (past_stamp past k)) (apart same (tie k e.0)))
    by rest (differs _ so) =
        ap (λ b. past_stamp (cond (not b) (e ∷ without_past past m) (without_past past m)) k) so
        ∙ ap (λ o. cond (eq_by_cmp text_cmp k e.0) (Some e.1) o) rest
