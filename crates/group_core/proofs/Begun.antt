-- What building a group keeps, step by step.
use Rattle.std.proofs.Common.{◌≡◌, ◌≢◌, ℕ, ◌+◌, ◌-◌, Bool, true, false, not, cond, Option, Some, None, is_some, [], ◌∷◌, ◌++◌, length, drop, IsTrue, refl, sym, ap, subst, ◌∙◌, arith}
use Rattle.std.specs.Option.{option_map_or}
use Rattle.std.specs.Ordering.{eq_by_cmp}
use Rattle.std.specs.FinMap as finite
use Rattle.std.proofs.lemmas.List.{length-append}
use Rattle.group_types.specs.declared.partition.Partition.{Partition}
use Rattle.group_types.specs.declared.stamp.Stamp.{Stamp}
use Rattle.group_types.specs.Limits.{MOST_PAST_MEMBERS}
use Rattle.group_types.specs.Text.{Text, text_cmp}
use Rattle.group_types.specs.Sets.{has}
use Rattle.group_types.specs.Partition.{partition_cmp}
use Rattle.group_types.specs.Group.{Group, Past, Record, Records}
use Rattle.group_types.specs.Members.{members_of, past_stamp, without_past}
use Rattle.group_types.specs.Sound.{IsPast, IsSound}
use Rattle.group_types.proofs.Lookups.{Tie, ties, differs, tie, Found, this, another, found, get-inserted, get-insert_other, same_text}
use Rattle.group_types.proofs.Orders.{partition_cmp_total, text_cmp_total}
use Rattle.group_types.proofs.PastLemmas.{first_differs, past_remembering, past_without}
use Rattle.group_epochs.specs.Restored.{CanBePast}
use Rattle.group_epochs.proofs.Restoring.{unknown_absent}
use Rattle.group_reconcile.specs.Holders.{Held, Holders, pairs}
use Rattle.group_reconcile.proofs.Pairs.{has-pairs}
use Rattle.group_core.specs.Restoring.{CanBeMember, IsRestoring}

-- ---- grants: a partition has one holder

holder_is : (o : Option Held) (m n : Text) → option_map_or (λ d. eq_by_cmp text_cmp m d.member) o false ≡ true → option_map_or (λ d. eq_by_cmp text_cmp n d.member) o false ≡ true → m ≡ n
holder_is None m n one other = cc
holder_is (Some d) m n one other = same_text m d.member one ∙ sym (same_text n d.member other)

pub one_holder_of_pairs : (h : Holders) (m n : Text) (p : Partition) → IsTrue (has (pairs h) (m, p)) → IsTrue (has (pairs h) (n, p)) → m ≡ n
one_holder_of_pairs h m n p one other = holder_is (finite.get h p) m n (sym (has-pairs h m p) ∙ one) (sym (has-pairs h n p) ∙ other)

-- ---- one former member more

pub past_fits : (g : Group) (m : Text) (stamp : Stamp) → IsRestoring g → CanBePast (members_of g) m → IsRestoring (record g { past = g.past ++ (m, stamp) ∷ [] })
past_fits g m stamp is can =
    let absent = unknown_absent (members_of g) m can.new.unknown in
    let behind : Past = g.past ++ (m, stamp) ∷ [] in
    let longer = length-append g.past ((m, stamp) ∷ []) in
    let few = can.few in
    let none : length behind - MOST_PAST_MEMBERS ≡ 0 = omega (arith, few, longer) in
    record {
      holders = is.holders;
      instances = is.instances;
      named = is.named;
      past = subst (λ n. IsPast g.records (drop n behind)) none (past_remembering g.records g.past m stamp is.past absent.0 can.new.named absent.1);
      few_members = is.few_members;
      few_past = omega (arith, few, longer);
    }

-- ---- one member more

-- an id that isn't there leaves the past as it is
without_absent : (past : Past) (m : Text) → past_stamp past m ≡ None → without_past past m ≡ past
without_absent [] m none = refl
without_absent (e ∷ past) m none =
    let there = first_differs past e m none in
    ap (λ b. cond (not b) (e ∷ without_past past m) (without_past past m)) there.0 ∙ ap (λ l. e ∷ l) (without_absent past m there.1)

module _ (g : Group) (m : Text) (r : Record) (is : IsRestoring g) (can : CanBeMember g m r) where
  abbrev more : Records
  more = finite.insert g.records m r

  absent_before : finite.get g.records m ≡ None
  absent_before = (unknown_absent (members_of g) m can.restored.new.unknown).0

  never_before : past_stamp g.past m ≡ None
  never_before = (unknown_absent (members_of g) m can.restored.new.unknown).1

  there_still : (a : Text) → IsTrue (finite.contains_key g.records a) → IsTrue (finite.contains_key more a)
  there_still a there = by (tie a m)
    where
      by : Tie a m → IsTrue (finite.contains_key more a)
      by (ties same) = ap (λ t. is_some (finite.get more t)) same ∙ ap is_some (get-inserted g.records m r)
      by (differs other apart) = ap is_some (get-insert_other g.records m r a apart) ∙ there

  absent_still : (a : Text) → a ≢ m → finite.get g.records a ≡ None → finite.get more a ≡ None
  absent_still a other none = by (tie a m)
    where
      by : Tie a m → finite.get more a ≡ None
      by (ties same) = absurd (other same)
      by (differs _ apart) = get-insert_other g.records m r a apart ∙ none

  taken : (n : Text) (s : Record) (i : Text) → finite.get g.records n ≡ Some s → r.instance ≡ Some i → s.instance ≡ Some i → ⊥
  taken n s i there own also = can.restored.instance n i own (record { kept = s; is_kept = there; same = also })

  one_instance : (a b : Text) (s t : Record) (i : Text) → finite.get more a ≡ Some s → finite.get more b ≡ Some t
      → s.instance ≡ Some i → t.instance ≡ Some i → a ≡ b
  one_instance a b s t i one other own also = by (found g.records m r a s one) (found g.records m r b t other)
    where
      by : Found g.records m r a s → Found g.records m r b t → a ≡ b
      by (this a_is s_is) (this b_is t_is) = a_is ∙ sym b_is
      by (this a_is s_is) (another b_not b_apart was) = absurd (taken b t i was (sym (ap (λ (x : Record). x.instance) s_is) ∙ own) also)
      by (another a_not a_apart was) (this b_is t_is) = absurd (taken a s i was (sym (ap (λ (x : Record). x.instance) t_is) ∙ also) own)
      by (another a_not a_apart was) (another b_not b_apart before) = is.instances a b s t i was before own also

  pub member_fits_in : IsRestoring (record g { records = more })
  member_fits_in =
      let few = can.few in
      let many : finite.len more ≡ finite.len g.records + 1 =
      finite.len-insert text_cmp_total g.records m r ∙ ap (λ o. cond (is_some o) (finite.len g.records) (finite.len g.records + 1)) absent_before in
      record {
        holders = λ a p holds. there_still a (is.holders a p holds);
        instances = one_instance;
        named = absent_still [] (λ same. can.restored.new.named (sym same)) is.named;
        past = subst (IsPast more) (without_absent g.past m never_before) (past_without g.records more g.past m absent_still is.past);
        few_members = omega (arith, few, many);
        few_past = is.few_past;
      }

-- ---- one grant more

module _ (h : Holders) (m : Text) (p : Partition) (since : ℕ) where
  abbrev granted : Holders
  granted = finite.insert h p (record { member = m; since = since })

  holder_before : (a : Text) (q : Partition) (tie : Bool) (o : Option Held) → option_map_or (λ d. eq_by_cmp text_cmp a d.member) (cond tie (Some (record { member = m; since = since })) o) false ≡ true
      → (P : Type 0) → (a ≡ m → P) → (option_map_or (λ d. eq_by_cmp text_cmp a d.member) o false ≡ true → P) → P
  holder_before a q true o is P new old = new (same_text a m is)
  holder_before a q false o is P new old = old is

  pub grant_fits : (g : Group) → g.grants ≡ pairs h → IsRestoring g → IsTrue (finite.contains_key g.records m) → IsRestoring (record g { grants = pairs granted })
  grant_fits g same is there =
      record {
        holders = λ a q holds.
            holder_before a q (eq_by_cmp partition_cmp q p) (finite.get h q)
            (ap (λ o. option_map_or (λ d. eq_by_cmp text_cmp a d.member) o false) (sym (finite.get-insert partition_cmp_total h p (record { member = m; since = since }) q)) ∙ sym (has-pairs granted a q) ∙ holds)
            (IsTrue (finite.contains_key g.records a))
            (λ a_is. ap (finite.contains_key g.records) a_is ∙ there)
            (λ before. is.holders a q (ap (λ grants. has grants (a, q)) same ∙ has-pairs h a q ∙ before));
        instances = is.instances;
        named = is.named;
        past = is.past;
        few_members = is.few_members;
        few_past = is.few_past;
      }

-- ---- the beginning

pub restoring_of_sound : (g : Group) → IsSound g → IsRestoring g
restoring_of_sound g sound =
    record {
      holders = sound.holders;
      instances = sound.instances;
      named = sound.named;
      past = sound.past;
      few_members = sound.few_members;
      few_past = sound.few_past;
    }
