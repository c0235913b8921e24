-- Whom a heartbeat is of, and what the records and the past say of it.
use Rattle.std.proofs.Common.{◌≡◌, Bool, true, false, cond, ◌&&◌, ◌||◌, [], ◌∷◌, Option, Some, None, IsTrue, is_some, true≢false, refl, sym, ap, ◌∙◌}
use Rattle.std.specs.Option.{option_map_or}
use Rattle.std.specs.Ordering.{eq_by_cmp}
use Rattle.std.specs.FinMap as finite
use Rattle.group_types.specs.declared.stamp.Stamp.{Stamp}
use Rattle.group_types.specs.Text.{Text, text_cmp}
use Rattle.group_types.specs.Group.{Records, Past}
use Rattle.group_types.specs.Members.{past_stamp}
use Rattle.group_types.specs.Sound.{IsPast}
use Rattle.group_types.specs.Checks.{is_late, is_of_past, record_under}
use Rattle.group_types.proofs.Lookups.{same_text, not_none}

-- what is there
pub there_is : {X : Type 0} (o : Option X) → IsTrue (is_some o) → (x : X) × (o ≡ Some x)
there_is None never = absurd (true≢false (sym never))
there_is (Some x) there = (x, refl)

-- the record under an id, where the empty id has none
pub record_under-get : (records : Records) (m : Text) → finite.get records [] ≡ None → record_under records m ≡ finite.get records m
record_under-get records [] named = sym named
record_under-get records (c ∷ m) named = refl

-- no id of the past ties with one that isn't there
of_none : (past : Past) (m : Text) (stamp : Stamp) → past_stamp past m ≡ None → is_of_past past m stamp ≡ false
of_none [] m stamp none = refl
of_none (e ∷ past) m stamp none =
    elim (eq_by_cmp text_cmp m e.0) as (λ b. cond b (Some e.1) (past_stamp past m) ≡ None → ((b && is_late stamp e.1) || is_of_past past m stamp) ≡ false) [
      | true ↦ λ is. absurd (not_none e.1 (sym is))
      | false ↦ λ is. of_none past m stamp is
    ] none

or_false : (b : Bool) → (b || false) ≡ b
or_false true = refl
or_false false = refl

-- an id stands in the past once, so its stamp says it all
pub of_past : (records : Records) (past : Past) (m : Text) (stamp : Stamp) → IsPast records past
    → is_of_past past m stamp ≡ option_map_or (is_late stamp) (past_stamp past m) false
of_past records [] m stamp is = refl
of_past records (e ∷ past) m stamp is =
    elim (eq_by_cmp text_cmp m e.0) as (λ b. eq_by_cmp text_cmp m e.0 ≡ b → ((b && is_late stamp e.1) || is_of_past past m stamp) ≡ option_map_or (is_late stamp) (cond b (Some e.1) (past_stamp past m)) false) [
      | true ↦ λ same. ap (λ b. is_late stamp e.1 || b) (of_none past m stamp (ap (past_stamp past) (same_text m e.0 same) ∙ is.2)) ∙ or_false (is_late stamp e.1)
      | false ↦ λ apart. of_past records past m stamp is.3
    ] refl
