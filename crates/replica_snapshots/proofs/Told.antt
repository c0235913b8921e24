-- The parts of a group tell all of it.
use Rattle.std.proofs.Common.{◌≡◌, ℕ, Bool, true, false, cond, ◌||◌, List, [], ◌∷◌, map, is_some, Option, Some, None, refl, sym, ap, subst, ◌∙◌}
use Rattle.std.specs.Prelude.{IsTrue, unwrap_or}
use Rattle.std.specs.List.{list_any, AllByRecursion}
use Rattle.std.specs.Option.{option_map, option_map_or}
use Rattle.std.specs.Ordering.{eq_by_cmp, is_eq}
use Rattle.std.specs.Cmp.{Equal-is}
use Rattle.std.specs.FinMap as finite
use Rattle.group_types.specs.declared.partition.Partition.{Partition}
use Rattle.group_types.specs.Text.{Text, text_cmp}
use Rattle.group_types.specs.Sets.{has, in_order}
use Rattle.group_types.specs.Partition.{partition_cmp, Partitions}
use Rattle.group_types.specs.Owners.{share_of, owns}
use Rattle.group_types.specs.Group.{Record, Records, Target, held}
use Rattle.group_types.proofs.Orders.{text_cmp-IsAntisymmetric, partition_cmp_total, partition_cmp-IsAntisymmetric, text_cmp-itself}
use Rattle.group_types.proofs.SetLemmas.{has-in_order}
use Rattle.group_types.proofs.SpreadLemmas.{has-share_of, owns-get}
use Rattle.group_reconcile.specs.Holders.{Held, Holders, holds, pairs}
use Rattle.group_reconcile.proofs.Pairs.{has-held_pairs}
use Rattle.replica_snapshots.specs.Parts.{MemberPart, grant_of, grants_of, member_part}

-- ---- lists

same_head : {B : Type 0} (a b : B) (more others : List B) → a ∷ more ≡ b ∷ others → a ≡ b
same_head a b more others e = cc

same_tail : {B : Type 0} (a b : B) (more others : List B) → a ∷ more ≡ b ∷ others → more ≡ others
same_tail a b more others e = cc

-- two functions that make one list of a list agree on its elements
agree : {A B : Type 0} (f g : A → B) (xs : List A) → map f xs ≡ map g xs → AllByRecursion (λ x. f x ≡ g x) xs
agree f g [] e = tt
agree f g (x ∷ xs) e = (same_head (f x) (g x) (map f xs) (map g xs) e, agree f g xs (same_tail (f x) (g x) (map f xs) (map g xs) e))

same_text : (x y : Text) → eq_by_cmp text_cmp x y ≡ true → x ≡ y
same_text x y so = text_cmp-IsAntisymmetric x y ((Equal-is (text_cmp x y)).0 so)

same_partition : (p q : Partition) → eq_by_cmp partition_cmp p q ≡ true → p ≡ q
same_partition p q so = partition_cmp-IsAntisymmetric p q ((Equal-is (partition_cmp p q)).0 so)

found_here : (P : Text × Record → Type 0) (x : Text × Record) (xs : List (Text × Record)) (q : Text) (r : Record) → P x → (finite.find text_cmp q xs ≡ Some r → P (q, r)) → (b : Bool) → eq_by_cmp text_cmp q x.0 ≡ b → cond b (Some x.1) (finite.find text_cmp q xs) ≡ Some r → P (q, r)
found_here P x xs q r here there true so e =
    let value : x.1 ≡ r = cc in
    subst P (λ i. (sym (same_text q x.0 so) i, value i)) here
found_here P x xs q r here there false so e = there e

-- what holds of all entries holds of the one that is found
at_key : (P : Text × Record → Type 0) (es : List (Text × Record)) → AllByRecursion P es → (q : Text) (r : Record) → finite.find text_cmp q es ≡ Some r → P (q, r)
at_key P [] all q r e = absurd cc
at_key P (x ∷ xs) all q r e = found_here P x xs q r all.0 (λ there. at_key P xs all.1 q r there) (eq_by_cmp text_cmp q x.0) refl e

partition_here : (P : Partition → Type 0) (x : Partition) (xs : List Partition) (q : Partition) → P x → (list_any (eq_by_cmp partition_cmp q) xs ≡ true → P q) → (b : Bool) → eq_by_cmp partition_cmp q x ≡ b → (b || list_any (eq_by_cmp partition_cmp q) xs) ≡ true → P q
partition_here P x xs q here there true so e = subst P (sym (same_partition q x so)) here
partition_here P x xs q here there false so e = there e

-- what holds of all partitions of a list holds of one that is there
at_partition : (P : Partition → Type 0) (ps : List Partition) → AllByRecursion P ps → (q : Partition) → list_any (eq_by_cmp partition_cmp q) ps ≡ true → P q
at_partition P [] all q e = absurd cc
at_partition P (x ∷ xs) all q e = partition_here P x xs q all.0 (λ there. at_partition P xs all.1 q there) (eq_by_cmp partition_cmp q x) refl e

-- ---- the members

ids_and_records : (h : Holders) (t : Target) (es : List (Text × Record)) → map (λ (m : MemberPart). (m.id, m.kept)) (map (member_part h t) es) ≡ es
ids_and_records h t [] = refl
ids_and_records h t (e ∷ es) = ap (λ (l : List (Text × Record)). e ∷ l) (ids_and_records h t es)

pub same_entries : (h k : Holders) (t u : Target) (es fs : List (Text × Record)) → map (member_part h t) es ≡ map (member_part k u) fs → es ≡ fs
same_entries h k t u es fs e =
    sym (ids_and_records h t es) ∙ (ap (map (λ (m : MemberPart). (m.id, m.kept))) e ∙ ids_and_records k u fs)

pub same_records : (h k : Holders) (t u : Target) (r s : Records) → map (member_part h t) (finite.entries r) ≡ map (member_part k u) (finite.entries s) → r ≡ s
same_records h k t u r s e = finite.same_entries_map r s (same_entries h k t u (finite.entries r) (finite.entries s) e)

-- a member's part is the same in both
same_part : (h k : Holders) (t u : Target) (r : Records) → map (member_part h t) (finite.entries r) ≡ map (member_part k u) (finite.entries r) → (m : Text) (kept : Record) → finite.get r m ≡ Some kept → member_part h t (m, kept) ≡ member_part k u (m, kept)
same_part h k t u r e m kept is =
    at_key (λ x. member_part h t x ≡ member_part k u x) (finite.entries r) (agree (member_part h t) (member_part k u) (finite.entries r) e) m kept (sym (finite.get-entries r m) ∙ is)

pub some_value : {A : Type 0} (o : Option A) → IsTrue (is_some o) → (a : A) × (o ≡ Some a)
some_value None so = absurd cc
some_value (Some a) so = (a, refl)

-- ---- who holds what

pub holds_own : (h : Holders) (p : Partition) (d : Held) → finite.get h p ≡ Some d → holds h d.member p ≡ true
holds_own h p d is = ap (λ (o : Option Held). option_map_or (λ d'. eq_by_cmp text_cmp d.member d'.member) o false) is ∙ ap is_eq (text_cmp-itself d.member)

pub held_by : (m : Text) (o : Option Held) → option_map_or (λ d. eq_by_cmp text_cmp m d.member) o false ≡ true → (d : Held) × (o ≡ Some d) × (d.member ≡ m)
held_by m None e = absurd cc
held_by m (Some d) e = (d, refl, sym (same_text m d.member e))

partitions_of_grants : (h : Holders) (ps : List Partition) → map (λ (g : Partition × ℕ). g.0) (map (grant_of h) ps) ≡ ps
partitions_of_grants h [] = refl
partitions_of_grants h (p ∷ ps) = ap (λ (l : List Partition). p ∷ l) (partitions_of_grants h ps)

abbrev pub since_in : Option Held → ℕ
since_in o = unwrap_or (option_map (λ d. d.since) o) 0

-- where a member's grants are the same, it holds the same partition since the same epoch
pub same_hold : (h k : Holders) (p : Partition) (d : Held) → grants_of h d.member ≡ grants_of k d.member → finite.get h p ≡ Some d → finite.get k p ≡ Some d
same_hold h k p d same is =
    let mine = in_order (held (pairs h) d.member) in
    let theirs = in_order (held (pairs k) d.member) in
    let lists : mine ≡ theirs = sym (partitions_of_grants h mine) ∙ (ap (map (λ (g : Partition × ℕ). g.0)) same ∙ partitions_of_grants k theirs) in
    let there : list_any (eq_by_cmp partition_cmp p) mine ≡ true = sym (has-in_order (held (pairs h) d.member) p) ∙ (has-held_pairs h d.member p ∙ holds_own h p d is) in
    let grants : map (grant_of h) mine ≡ map (grant_of k) mine = same ∙ ap (map (grant_of k)) (sym lists) in
    let since = at_partition (λ q. grant_of h q ≡ grant_of k q) mine (agree (grant_of h) (grant_of k) mine grants) p there in
    let also : holds k d.member p ≡ true = sym (has-held_pairs k d.member p) ∙ (has-in_order (held (pairs k) d.member) p ∙ (ap (list_any (eq_by_cmp partition_cmp p)) (sym lists) ∙ there)) in
    let other = held_by d.member (finite.get k p) also in
    let epochs : d.since ≡ other.0.since = sym (ap since_in is) ∙ (ap (λ (g : Partition × ℕ). g.1) since ∙ ap since_in other.1) in
    let holder : other.0 ≡ d = λ i. record { member = other.2 i; since = sym epochs i } in
    other.1 ∙ ap Some holder

-- where a member's share is the same, it is to own the same partition
pub same_own : (t u : Target) (p : Partition) (m : Text) → share_of t m ≡ share_of u m → finite.get t p ≡ Some m → finite.get u p ≡ Some m
same_own t u p m same is =
    let mine : owns t m p ≡ true = (owns-get t m p).1 is in
    (owns-get u m p).0 (sym (has-share_of u m p) ∙ (ap (λ (s : Partitions). has s p) (sym same) ∙ (has-share_of t m p ∙ mine)))

-- ---- maps that have the same at each key

pub one_answer : {A : Type 0} (x y : Option A) → ((a : A) → x ≡ Some a → y ≡ Some a) → ((a : A) → y ≡ Some a → x ≡ Some a) → x ≡ y
one_answer None None there back = refl
one_answer None (Some b) there back = back b refl
one_answer (Some a) y there back = sym (there a refl)

-- whoever holds a partition has a record
abbrev pub HoldersHaveRecords : Records → Holders → Type 0
HoldersHaveRecords records h = (p : Partition) (d : Held) → finite.get h p ≡ Some d → IsTrue (finite.contains_key records d.member)

abbrev pub OwnersHaveRecords : Records → Target → Type 0
OwnersHaveRecords records t = (p : Partition) (m : Text) → finite.get t p ≡ Some m → IsTrue (finite.contains_key records m)

pub same_holders : (h k : Holders) (t u : Target) (r : Records) → HoldersHaveRecords r h → HoldersHaveRecords r k → map (member_part h t) (finite.entries r) ≡ map (member_part k u) (finite.entries r) → h ≡ k
same_holders h k t u r mine theirs e =
    finite.same_map partition_cmp_total partition_cmp-IsAntisymmetric h k (λ p.
    one_answer (finite.get h p) (finite.get k p)
    (λ d is. let kept = some_value (finite.get r d.member) (mine p d is) in same_hold h k p d (ap (λ (m : MemberPart). m.grants) (same_part h k t u r e d.member kept.0 kept.1)) is)
    (λ d is. let kept = some_value (finite.get r d.member) (theirs p d is) in same_hold k h p d (sym (ap (λ (m : MemberPart). m.grants) (same_part h k t u r e d.member kept.0 kept.1))) is))

pub same_target : (h k : Holders) (t u : Target) (r : Records) → OwnersHaveRecords r t → OwnersHaveRecords r u → map (member_part h t) (finite.entries r) ≡ map (member_part k u) (finite.entries r) → t ≡ u
same_target h k t u r mine theirs e =
    finite.same_map partition_cmp_total partition_cmp-IsAntisymmetric t u (λ p.
    one_answer (finite.get t p) (finite.get u p)
    (λ m is. let kept = some_value (finite.get r m) (mine p m is) in same_own t u p m (ap (λ (m : MemberPart). m.target) (same_part h k t u r e m kept.0 kept.1)) is)
    (λ m is. let kept = some_value (finite.get r m) (theirs p m is) in same_own u t p m (sym (ap (λ (m : MemberPart). m.target) (same_part h k t u r e m kept.0 kept.1))) is))
