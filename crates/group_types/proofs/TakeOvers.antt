-- A member that takes over leaves a consistent group: it has all that the former id had.
use Rattle.std.proofs.Common.{◌≡◌, ◌≢◌, ◌≤◌, ◌+◌, ◌-◌, Bool, true, false, cond, ◌&&◌, ◌||◌, [], Option, Some, None, is_some, IsTrue, refl, sym, ap, subst, ◌∙◌, arith, true≢false}
use Rattle.std.specs.Option.{option_map}
use Rattle.std.specs.Ordering.{eq_by_cmp}
use Rattle.std.specs.Str.{bytes_eq}
use Rattle.std.specs.FinMap as finite
use Rattle.std.proofs.lemmas.Slice.Eq.{bytes_eq-Decides}
use Rattle.group_types.specs.declared.partition.Partition.{Partition}
use Rattle.group_types.specs.declared.stamp.Stamp.{Stamp}
use Rattle.group_types.specs.Text.{Text, text_cmp}
use Rattle.group_types.specs.Sets.{has, in_order}
use Rattle.group_types.specs.Owners.{renamed, renamed_id}
use Rattle.group_types.specs.Group.{Record, Records, Grants, Target, Group, held}
use Rattle.group_types.specs.Members.{members_of, taken_over, with_members, without_past}
use Rattle.group_types.specs.Leave.{last_epoch}
use Rattle.group_types.specs.Settle.{granting, grants_of_others}
use Rattle.group_types.proofs.Consistent.{IsConsistent}
use Rattle.group_types.proofs.Orders.{text_cmp_total}
use Rattle.group_types.proofs.SetLemmas.{has-in_order}
use Rattle.group_types.proofs.SpreadLemmas.{get-renamed}
use Rattle.group_types.proofs.GrantLemmas.{has-granting, has-held}
use Rattle.group_types.proofs.Lookups.{Tie, ties, differs, tie, text_ties, not_none, some_is, found_without, none_without, removed_is_none, has_other, Found, this, another, found, get-inserted, get-insert_other}
use Rattle.group_types.proofs.PastLemmas.{few_remembered, not_past, past_remembering, past_without, stamp_without}
use Rattle.group_types.proofs.Soundness.{still_holds}

-- ---- the owners under another id

pub renamed_itself : (old new : Text) → renamed_id old new old ≡ new
renamed_itself old new = ap (λ b. cond b new old) ((bytes_eq-Decides old old).1 refl)

pub renamed_other : (old new id : Text) → id ≢ old → renamed_id old new id ≡ id
renamed_other old new id other =
    elim (bytes_eq id old) as (λ b. bytes_eq id old ≡ b → cond b new id ≡ id) [
      | true ↦ λ same. absurd (other ((bytes_eq-Decides id old).0 same))
      | false ↦ λ apart. refl
    ] refl

module _ (g : Group) (sound : IsConsistent g) (old heir : Text) (r after : Record) (last : Stamp)
    (kept : finite.get g.records old ≡ Some r) (is_new : finite.get g.records heir ≡ None) (has_id : heir ≢ [])
    (same_epoch : last_epoch after ≡ last_epoch r) (same_instance : after.instance ≡ r.instance) where
  abbrev AfterRecords : Records
  AfterRecords = finite.insert (finite.remove g.records old) heir after

  abbrev AfterTarget : Target
  AfterTarget = renamed g.target old heir

  abbrev AfterGrants : Grants
  AfterGrants = granting (grants_of_others g.grants old) heir (in_order (held g.grants old))

  -- the old id isn't the heir's
  apart_ids : old ≢ heir
  apart_ids same = not_none r (sym is_new ∙ ap (finite.get g.records) (sym same) ∙ kept)

  -- who has a record isn't the heir
  not_heir : (a : Text) → IsTrue (finite.contains_key g.records a) → a ≢ heir
  not_heir a there same = true≢false (sym there ∙ ap (λ k. is_some (finite.get g.records k)) same ∙ ap is_some is_new)

  -- the id that a member of the group had before
  data Was (a b : Text) : Type 0 where
    taking : a ≡ heir → b ≡ old → Was a b
    staying : a ≢ heir → a ≢ old → b ≡ a → Was a b

  one_after : (a b c : Text) → Was a c → Was b c → a ≡ b
  one_after a b c (taking a_is c_is) (taking b_is _) = a_is ∙ sym b_is
  one_after a b c (taking a_is c_is) (staying b_not b_other c_same) = absurd (b_other (sym c_same ∙ c_is))
  one_after a b c (staying a_not a_other c_same) (taking b_is c_is) = absurd (a_other (sym c_same ∙ c_is))
  one_after a b c (staying a_not a_other a_same) (staying b_not b_other b_same) = sym a_same ∙ b_same

  one_before : (a b c : Text) → Was a b → Was a c → b ≡ c
  one_before a b c (taking a_is b_is) (taking _ c_is) = b_is ∙ sym c_is
  one_before a b c (taking a_is b_is) (staying a_not a_other c_same) = absurd (a_not a_is)
  one_before a b c (staying a_not a_other b_same) (taking a_is c_is) = absurd (a_not a_is)
  one_before a b c (staying a_not a_other b_same) (staying _ _ c_same) = b_same ∙ sym c_same

  record HadRecord (a : Text) (s : Record) : Type 0 where
    id : Text
    was : Record
    is_was : Was a id
    had : finite.get g.records id ≡ Some was
    epoch : last_epoch s ≡ last_epoch was
    instance : s.instance ≡ was.instance

  had_record : (a : Text) (s : Record) → finite.get AfterRecords a ≡ Some s → HadRecord a s
  had_record a s there = by (found (finite.remove g.records old) heir after a s there)
    where
      by : Found (finite.remove g.records old) heir after a s → HadRecord a s
      by (this a_is s_is) =
          record {
            id = old;
            was = r;
            is_was = taking a_is refl;
            had = kept;
            epoch = ap last_epoch s_is ∙ same_epoch;
            instance = ap (λ (x : Record). x.instance) s_is ∙ same_instance;
          }
      by (another a_not a_apart is) =
          let before = found_without g.records old a s is in
          record { id = a; was = s; is_was = staying a_not before.1 refl; had = before.0; epoch = refl; instance = refl }

  has_record : (a b : Text) → Was a b → IsTrue (finite.contains_key g.records b) → IsTrue (finite.contains_key AfterRecords a)
  has_record a b (taking a_is b_is) there =
      ap (λ k. is_some (finite.get AfterRecords k)) a_is ∙ ap is_some (get-inserted (finite.remove g.records old) heir after)
  has_record a b (staying a_not a_other b_same) there = by (tie a heir)
    where
      by : Tie a heir → IsTrue (finite.contains_key AfterRecords a)
      by (ties same) = absurd (a_not same)
      by (differs other apart) =
          ap is_some (get-insert_other (finite.remove g.records old) heir after a apart)
          ∙ has_other g.records old a a_other (subst (λ k. IsTrue (finite.contains_key g.records k)) b_same there)

  abbrev Held : Text → Partition → Type 0
  Held a p = (b : Text) × Was a b × IsTrue (has g.grants (b, p))

  held_before : (a : Text) (p : Partition) → IsTrue (has AfterGrants (a, p)) → Held a p
  held_before a p holds = by (tie a heir)
    where
      answer : ((eq_by_cmp text_cmp a heir && has g.grants (old, p)) || has (grants_of_others g.grants old) (a, p)) ≡ true
      answer =
          ap (λ b. (eq_by_cmp text_cmp a heir && b) || has (grants_of_others g.grants old) (a, p)) (sym (has-held g.grants old p) ∙ has-in_order (held g.grants old) p)
          ∙ sym (has-granting (grants_of_others g.grants old) heir (in_order (held g.grants old)) a p)
          ∙ holds

      held_by_heir : a ≡ heir → (b : Bool) → has g.grants (old, p) ≡ b → (b || has (grants_of_others g.grants old) (a, p)) ≡ true → Held a p
      held_by_heir same true there so = (old, taking same refl, there)
      held_by_heir same false not_there so =
          absurd (not_heir a (sound.holders a p (still_holds g.grants old a p so).0) same)

      by : Tie a heir → Held a p
      by (ties same) =
          held_by_heir same (has g.grants (old, p)) refl
          (sym (ap (λ b. (b && has g.grants (old, p)) || has (grants_of_others g.grants old) (a, p)) (ap (λ k. eq_by_cmp text_cmp k heir) same ∙ text_ties heir)) ∙ answer)
      by (differs other apart) =
          let before = still_holds g.grants old a p (sym (ap (λ b. (b && has g.grants (old, p)) || has (grants_of_others g.grants old) (a, p)) apart) ∙ answer) in
          (a, staying other before.1 refl, before.0)

  abbrev Owned : Text → Partition → Type 0
  Owned a p = (b : Text) × Was a b × (finite.get g.target p ≡ Some b)

  owned_before : (a : Text) (p : Partition) → finite.get AfterTarget p ≡ Some a → Owned a p
  owned_before a p owns = by (finite.get g.target p) refl (sym (get-renamed g.target old heir p) ∙ owns)
    where
      by_id : (b : Text) → finite.get g.target p ≡ Some b → (t : Bool) → bytes_eq b old ≡ t → cond t heir b ≡ a → Owned a p
      by_id b there true same is = (b, taking (sym is) ((bytes_eq-Decides b old).0 same), there)
      by_id b there false apart is =
          (b, staying (λ same. not_heir b (sound.owners b p there) (is ∙ same)) (λ same. true≢false (sym ((bytes_eq-Decides b old).1 (is ∙ same)) ∙ apart)) is, there)

      by : (o : Option Text) → finite.get g.target p ≡ o → option_map (renamed_id old heir) o ≡ Some a → Owned a p
      by None none is = absurd (not_none a is)
      by (Some b) there is = by_id b there (bytes_eq b old) refl (some_is (renamed_id old heir b) a is)

  owned_after : (a b : Text) (p : Partition) → Was a b → finite.get g.target p ≡ Some b → finite.get AfterTarget p ≡ Some a
  owned_after a b p was there = get-renamed g.target old heir p ∙ ap (option_map (renamed_id old heir)) there ∙ ap Some (by was)
    where
      by : Was a b → renamed_id old heir b ≡ a
      by (taking a_is b_is) = ap (renamed_id old heir) b_is ∙ renamed_itself old heir ∙ sym a_is
      by (staying a_not a_other b_same) = renamed_other old heir b (λ same. a_other (sym b_same ∙ same)) ∙ b_same

  none_after : (a : Text) → a ≢ heir → finite.get g.records a ≡ None → finite.get AfterRecords a ≡ None
  none_after a other none = by (tie a heir)
    where
      by : Tie a heir → finite.get AfterRecords a ≡ None
      by (ties same) = absurd (other same)
      by (differs _ apart) = get-insert_other (finite.remove g.records old) heir after a apart ∙ none_without g.records old a none

  none_under_old : finite.get AfterRecords old ≡ None
  none_under_old = by (tie old heir)
    where
      by : Tie old heir → finite.get AfterRecords old ≡ None
      by (ties same) = absurd (apart_ids same)
      by (differs _ apart) = get-insert_other (finite.remove g.records old) heir after old apart ∙ removed_is_none g.records old

  had_id : old ≢ []
  had_id is = not_none r (sym sound.named ∙ ap (finite.get g.records) (sym is) ∙ kept)

  one_fewer : finite.len (finite.remove g.records old) ≡ finite.len g.records - 1
  one_fewer = finite.len-remove text_cmp_total g.records old ∙ ap (λ o. cond (is_some o) (finite.len g.records - 1) (finite.len g.records)) kept

  as_many : finite.len AfterRecords ≡ finite.len g.records - 1 + 1
  as_many =
      finite.len-insert text_cmp_total (finite.remove g.records old) heir after
      ∙ ap (λ o. cond (is_some o) (finite.len (finite.remove g.records old)) (finite.len (finite.remove g.records old) + 1)) (none_without g.records old heir is_new)
      ∙ ap (λ n. n + 1) one_fewer

  pub taken_over_is_consistent : IsConsistent (record (with_members g (taken_over (members_of g) old heir after last)) { target = AfterTarget; grants = AfterGrants })
  taken_over_is_consistent =
      record {
        one_holder = λ a b p one other.
            let first = held_before a p one in
            let second = held_before b p other in
            one_after a b second.0 (subst (Was a) (sound.one_holder first.0 second.0 p first.2 second.2) first.1) second.1;
        holders = λ a p holds. let before = held_before a p holds in has_record a before.0 before.1 (sound.holders before.0 p before.2);
        owners = λ a p owns. let before = owned_before a p owns in has_record a before.0 before.1 (sound.owners before.0 p before.2);
        owned = λ a p owns. let before = owned_before a p owns in sound.owned before.0 p before.2;
        epochs = λ a s there. let before = had_record a s there in subst (λ e. e ≤ g.target_epoch) (sym before.epoch) (sound.epochs before.id before.was before.had);
        settled = λ a s p there same holds.
            let before = had_record a s there in
            let hold = held_before a p holds in
            let ids : hold.0 ≡ before.id = one_before a hold.0 before.id hold.1 before.is_was in
            owned_after a before.id p before.is_was
            (sound.settled before.id before.was p before.had (sym before.epoch ∙ same) (subst (λ k. IsTrue (has g.grants (k, p))) ids hold.2));
        target_epoch = sound.target_epoch;
        epoch = sound.epoch;
        instances = λ a b s t i one other is also.
            let first = had_record a s one in
            let second = had_record b t other in
            let ids : first.id ≡ second.id = sound.instances first.id second.id first.was second.was i first.had second.had (sym first.instance ∙ is) (sym second.instance ∙ also) in
            one_after a b second.id (subst (Was a) ids first.is_was) second.is_was;
        named = none_after [] (λ is. has_id (sym is)) sound.named;
        past = past_remembering AfterRecords (without_past g.past heir) old last
            (past_without g.records AfterRecords g.past heir none_after sound.past)
            none_under_old had_id (stamp_without g.past heir old (not_past g.records g.past old r sound.past kept));
        few_members = let few = sound.few_members in let many = as_many in omega (arith, few, many);
        few_past = few_remembered (without_past g.past heir) old last;
      }
