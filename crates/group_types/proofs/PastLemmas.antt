-- The ids of former members: what remembering one more keeps.
use Rattle.std.proofs.Common.{◌≡◌, ◌≢◌, ℕ, zero, suc, ◌-◌, ◌≤◌, true, false, cond, not, [], ◌∷◌, ◌++◌, length, drop, Some, None, refl, sym, ap, subst, ◌∙◌, arith}
use Rattle.std.specs.Ordering.{eq_by_cmp}
use Rattle.std.specs.FinMap as finite
use Rattle.std.proofs.lemmas.List.{length-drop}
use Rattle.group_types.specs.Limits.{MOST_PAST_MEMBERS}
use Rattle.group_types.specs.declared.stamp.Stamp.{Stamp}
use Rattle.group_types.specs.Text.{Text, text_cmp}
use Rattle.group_types.specs.Group.{Record, Records, Past}
use Rattle.group_types.specs.Members.{past_stamp, remembering, without_past}
use Rattle.group_types.specs.Sound.{IsPast}
use Rattle.group_types.proofs.Lookups.{Tie, ties, differs, tie, text_ties, not_none}

-- the first one is another, and the rest hasn't it
pub first_differs : (past : Past) (e : Text × Stamp) (m : Text) → past_stamp (e ∷ past) m ≡ None → (eq_by_cmp text_cmp m e.0 ≡ false) × (past_stamp past m ≡ None)
first_differs past e m none =
    elim (eq_by_cmp text_cmp m e.0) as (λ b. cond b (Some e.1) (past_stamp past m) ≡ None → (b ≡ false) × (past_stamp past m ≡ None)) [
      | true ↦ λ is. absurd (not_none e.1 (sym is))
      | false ↦ λ is. (refl, is)
    ] none

-- an id that has a record isn't one of the past
pub not_past : (records : Records) (past : Past) (m : Text) (r : Record) → IsPast records past → finite.get records m ≡ Some r → past_stamp past m ≡ None
not_past records [] m r is kept = refl
not_past records (e ∷ past) m r is kept = by (not_past records past m r is.3 kept) (tie m e.0)
  where
    by : past_stamp past m ≡ None → Tie m e.0 → past_stamp (e ∷ past) m ≡ None
    by rest (ties same) = absurd (not_none r (sym is.0 ∙ ap (finite.get records) (sym same) ∙ kept))
    by rest (differs other apart) = ap (λ b. cond b (Some e.1) (past_stamp past m)) apart ∙ rest

-- where fewer have records
pub past_of_fewer : (records fewer : Records) (past : Past) → ((k : Text) → finite.get records k ≡ None → finite.get fewer k ≡ None) → IsPast records past → IsPast fewer past
past_of_fewer records fewer [] none is = tt
past_of_fewer records fewer (e ∷ past) none is = (none e.0 is.0, is.1, is.2, past_of_fewer records fewer past none is.3)

past_of_drop : (records : Records) (n : ℕ) (past : Past) → IsPast records past → IsPast records (drop n past)
past_of_drop records zero past is = is
past_of_drop records (suc n) [] is = is
past_of_drop records (suc n) (e ∷ past) is = past_of_drop records n past is.3

stamp_behind : (past : Past) (m k : Text) (stamp : Stamp) → eq_by_cmp text_cmp k m ≡ false → past_stamp past k ≡ None → past_stamp (past ++ (m, stamp) ∷ []) k ≡ None
stamp_behind [] m k stamp apart none = ap (λ b. cond b (Some stamp) None) apart
stamp_behind (e ∷ past) m k stamp apart none =
    let there = first_differs past e k none in
    ap (λ b. cond b (Some e.1) (past_stamp (past ++ (m, stamp) ∷ []) k)) there.0 ∙ stamp_behind past m k stamp apart there.1

past_behind : (records : Records) (past : Past) (m : Text) (stamp : Stamp) → IsPast records past → finite.get records m ≡ None → m ≢ [] → past_stamp past m ≡ None → IsPast records (past ++ (m, stamp) ∷ [])
past_behind records [] m stamp is none some never = (none, some, refl, tt)
past_behind records (e ∷ past) m stamp is none some never =
    let there = first_differs past e m never in
    (is.0, is.1, stamp_behind past m e.0 stamp (turned (tie e.0 m) there.0) is.2, past_behind records past m stamp is.3 none some there.1)
  where
    turned : Tie e.0 m → eq_by_cmp text_cmp m e.0 ≡ false → eq_by_cmp text_cmp e.0 m ≡ false
    turned (ties same) apart = ap (λ t. eq_by_cmp text_cmp t m) same ∙ ap (eq_by_cmp text_cmp m) (sym same) ∙ apart
    turned (differs other apart) _ = apart

-- one more, where there is room or the oldest is forgotten
pub past_remembering : (records : Records) (past : Past) (m : Text) (stamp : Stamp) → IsPast records past → finite.get records m ≡ None → m ≢ [] → past_stamp past m ≡ None → IsPast records (remembering past m stamp)
past_remembering records past m stamp is none some never =
    let all : Past = past ++ (m, stamp) ∷ [] in
    past_of_drop records (length all - MOST_PAST_MEMBERS) all (past_behind records past m stamp is none some never)

pub few_remembered : (past : Past) (m : Text) (stamp : Stamp) → length (remembering past m stamp) ≤ MOST_PAST_MEMBERS
few_remembered past m stamp =
    let all : Past = past ++ (m, stamp) ∷ [] in
    let long = length-drop (length all - MOST_PAST_MEMBERS) all in
    omega (arith, long)

-- ---- an id that has a record again

pub stamp_without : (past : Past) (m k : Text) → past_stamp past k ≡ None → past_stamp (without_past past m) k ≡ None
stamp_without [] m k none = none
stamp_without (e ∷ past) m k none =
    let there = first_differs past e k none in
    let rest = stamp_without past m k there.1 in
    elim (eq_by_cmp text_cmp m e.0) as (λ b. past_stamp (cond (not b) (e ∷ without_past past m) (without_past past m)) k ≡ None) [
      | true ↦ rest
      | false ↦ ap (λ b. cond b (Some e.1) (past_stamp (without_past past m) k)) there.0 ∙ rest
    ]

pub past_without : (records new : Records) (past : Past) (m : Text) → ((k : Text) → k ≢ m → finite.get records k ≡ None → finite.get new k ≡ None)
    → IsPast records past → IsPast new (without_past past m)
past_without records new [] m none is = tt
past_without records new (e ∷ past) m none is = by (past_without records new past m none is.3) (tie m e.0)
  where
    by : IsPast new (without_past past m) → Tie m e.0 → IsPast new (without_past (e ∷ past) m)
    by rest (ties same) =
        subst (λ b. IsPast new (cond (not b) (e ∷ without_past past m) (without_past past m))) (sym (sym (ap (eq_by_cmp text_cmp m) same) ∙ text_ties m)) rest
    by rest (differs other apart) =
        subst (λ b. IsPast new (cond (not b) (e ∷ without_past past m) (without_past past m))) (sym apart)
        (none e.0 (λ same. other (sym same)) is.0, is.1, stamp_without past m e.0 is.2, rest)

pub few_without : (past : Past) (m : Text) → length (without_past past m) ≤ length past
few_without [] m = omega arith
few_without (e ∷ past) m =
    let rest = few_without past m in
    elim (eq_by_cmp text_cmp m e.0) as (λ b. length (cond (not b) (e ∷ without_past past m) (without_past past m)) ≤ suc (length past)) [
      | true ↦ omega (arith, rest)
      | false ↦ omega (arith, rest)
    ]
