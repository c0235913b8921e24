-- What building records keeps of a table, and what callers see of it.
use Rattle.std.proofs.Common.{◌≡◌, ℕ, ◌+◌, ◌-◌, ◌<◌, ◌||◌, Bool, true, false, not, Option, Some, None, is_some, List, [], ◌∷◌, ◌++◌, length, drop, String, refl, sym, ap, subst, ◌∙◌, true≢false, arith}
use Rattle.std.specs.Prelude.{◌↔◌, IsSome, IsTrue, MatchOption}
use Rattle.std.specs.FinMap as finite
use Rattle.std.proofs.lemmas.List.{length-append}
use Rattle.indexmap.specs.IndexMap.{IndexMap, get_by_text}
use Rattle.group_types.specs.declared.stamp.Stamp.{Stamp}
use Rattle.group_types.specs.Limits.{MOST_PAST_MEMBERS}
use Rattle.group_types.specs.Text.{Text}
use Rattle.group_types.specs.Group.{Past, Record, Records}
use Rattle.group_types.specs.Members.{HasInstance, Members, is_remembered, past_stamp, remembering, with_record}
use Rattle.group_types.proofs.Lookups.{Tie, ties, differs, some_is, tie}
use Rattle.group_epochs.specs.Restored.{IsFreeInstance}
use Rattle.group_epochs.specs.Past.{PastState, HasRoomFor, places}
use Rattle.group_epochs.specs.Table.{IsTable, ids}
use Rattle.group_epochs.specs.declared.entry.Entry.{Entry}
use Rattle.group_epochs.proofs.Remembered.{absent_behind, is_remembered-stamp, without_absent}

neither : (a b : Bool) → (a || b) ≡ false → (a ≡ false) × (b ≡ false)
neither true b is = absurd (true≢false is)
neither false b is = (refl, is)

not_some : {X : Type 0} (o : Option X) → is_some o ≡ false → o ≡ None
not_some None is = refl
not_some (Some x) is = absurd (true≢false is)

-- an id that isn't remembered has neither a record nor a place in the past
pub unknown_absent : (s : Members) (m : Text) → is_remembered s m ≡ false → (finite.get s.records m ≡ None) × (past_stamp s.past m ≡ None)
unknown_absent s m unknown =
    let parts = neither (finite.contains_key s.records m) _ unknown in
    (not_some (finite.get s.records m) parts.0, not_some (past_stamp s.past m) (sym (is_remembered-stamp s.past m) ∙ parts.1))

-- so a record of its own leaves the past as it is
pub past_stays : (s : Members) (m : Text) (r : Record) → is_remembered s m ≡ false → (with_record s m r).past ≡ s.past
past_stays s m r unknown = without_absent s.past m (unknown_absent s m unknown).1

-- ---- an instance that nobody has

is_turned : (b : Bool) → false ≡ not b → b ≡ true
is_turned true is = refl
is_turned false is = absurd (true≢false (sym is))

isnt_turned : (b : Bool) → true ≡ not b → b ≡ false
isnt_turned true is = absurd (true≢false is)
isnt_turned false is = refl

pub free_instance : {A : Type 0} (id : A → Text) (kept : A → Record) (records : Records) (i : Text) (o : Option A)
    → MatchOption o ((m : Text) → ¬ HasInstance records m i) (λ f. (finite.get records (id f) ≡ Some (kept f)) × ((kept f).instance ≡ Some i))
    → (b : Bool) → is_some o ≡ not b → IsTrue b ↔ IsFreeInstance records (Some i)
free_instance id kept records i None none b is =
    (λ _ n j same has. none n (subst (HasInstance records n) (sym (some_is i j same)) has), λ _. is_turned b is)
free_instance id kept records i (Some f) found b is =
    (λ so. absurd (true≢false (sym so ∙ isnt_turned b is)), λ free. absurd (free (id f) i refl (record { kept = kept f; is_kept = found.0; same = found.1 })))

-- ---- one former member more

module _ {Y S : Type 0} {by_id : List ℕ} (m : IndexMap (String Y) Entry S) (past roomy after : PastState) (id : Text) (stamp : Stamp)
    (table : IsTable m by_id past) (few : length past.past < MOST_PAST_MEMBERS) (same : roomy.past ≡ past.past)
    (remembers : after.past ≡ remembering roomy.past id stamp) where
  abbrev behind : Past
  behind = past.past ++ (id, stamp) ∷ []

  pub past_behind : after.past ≡ past.past ++ (id, stamp) ∷ []
  past_behind =
      let longer = length-append past.past ((id, stamp) ∷ []) in
      let none : length behind - MOST_PAST_MEMBERS ≡ 0 = omega (arith, few, longer) in
      remembers ∙ ap (λ p. remembering p id stamp) same ∙ ap (λ n. drop n behind) none

  pub table_behind : get_by_text m id ≡ None → HasRoomFor roomy (ids m past + 1) → places after ≡ places roomy → IsTable m by_id after
  table_behind absent room kept =
      let long : length after.past ≡ length behind = ap length past_behind in
      let longer = length-append past.past ((id, stamp) ∷ []) in
      record {
        named = table.named;
        apart = λ q found. ap (λ p. past_stamp p q) past_behind ∙ by q found (tie q id);
        room = omega (arith, room, kept, long, longer);
        distinct = table.distinct;
        order = table.order;
      }
    where
      by : (q : Text) → IsSome (get_by_text m q) → Tie q id → past_stamp behind q ≡ None
      by q found (ties is) = absurd (true≢false (sym found ∙ ap (λ t. is_some (get_by_text m t)) is ∙ ap is_some absent))
      by q found (differs _ apart) = absent_behind past.past id q stamp apart (table.apart q found)
