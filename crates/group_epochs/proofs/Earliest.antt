-- What changes keep of the moment before which no deadline comes.
use Rattle.std.proofs.Common.{◌≡◌, ℕ, ◌<◌, ◌≤◌, ◌||◌, Bool, true, false, cond, min, Option, Some, None, List, [], ◌∷◌, String, refl, sym, ap, subst, ◌∙◌, arith}
use Rattle.std.specs.Prelude.{IsSome, nat_le, unwrap_or, string_bytes}
use Rattle.indexmap.specs.IndexMap.{IndexMap, get_by_text}
use Rattle.std.specs.FinMap as finite
use Rattle.std.specs.Map.{lookup}
use Rattle.std.proofs.lemmas.Bool.Decides.{nat_tests}
use Rattle.std.specs.Str.{bytes_eq}
use Rattle.group_types.specs.Moment.{saturated_sum}
use Rattle.group_types.specs.Limits.{SESSION_TIMEOUT}
use Rattle.group_types.specs.Text.{Text}
use Rattle.group_types.specs.Group.{Record, Records}
use Rattle.group_types.specs.Tick.{NoneIsDue, has_come, is_due}
use Rattle.group_types.specs.declared.stamp.Stamp.{Stamp}
use Rattle.group_types.proofs.Lookups.{Found, this, another, found, found_without, not_none, some_is}
use Rattle.group_epochs.specs.Deadlines.{IsNoLater, first_deadline, first_of_all}
use Rattle.group_epochs.specs.Records.{beaten}
use Rattle.group_epochs.specs.Past.{PastState}
use Rattle.group_epochs.specs.Table.{IsTable, Rewrites, records_in}
use Rattle.group_epochs.specs.declared.entry.Entry.{Entry}
use Rattle.group_epochs.proofs.Rows.{get-records_in, kept_in}
use Rattle.group_epochs.proofs.Tabled.{record_rewritten, the_some}

-- ---- the first deadline of a member

not_yet : (deadline clock : ℕ) → clock < deadline → nat_le deadline clock ≡ false
not_yet deadline clock before = grind (arith, nat_tests)

-- before it the member isn't due
not_due : (r : Record) (clock : ℕ) → clock < first_deadline r → is_due clock r ≡ false
not_due r clock before = by r.release_deadline before
  where
    by : (release : Option ℕ) → clock < min r.session_deadline (unwrap_or release r.session_deadline) → (nat_le r.session_deadline clock || has_come clock release) ≡ false
    by None before = ap (λ b. b || false) (not_yet r.session_deadline clock (omega (arith, before)))
    by (Some d) before = λ i. not_yet r.session_deadline clock (omega (arith, before)) i || not_yet d clock (omega (arith, before)) i

-- where nobody's deadline comes before a moment, nobody is due before it
pub none_due_before : (records : Records) (earliest clock : ℕ) → IsNoLater earliest records → clock < earliest → NoneIsDue records clock
none_due_before records earliest clock no_later before = λ m r is.
    let here = no_later m r is in not_due r clock (omega (arith, here, before))

pub beaten_later : (r : Record) (stamp : Stamp) (now moment : ℕ) → moment ≤ first_deadline r → moment ≤ saturated_sum now SESSION_TIMEOUT → moment ≤ first_deadline (beaten r stamp now)
beaten_later r stamp now moment old new = by r.release_deadline old
  where
    by : (release : Option ℕ) → moment ≤ min r.session_deadline (unwrap_or release r.session_deadline) → moment ≤ min (saturated_sum now SESSION_TIMEOUT) (unwrap_or release (saturated_sum now SESSION_TIMEOUT))
    by None _ = omega (arith, new)
    by (Some d) old = omega (arith, new, old)

-- ---- changes at one id

module _ (records : Records) (earliest : ℕ) (no_later : IsNoLater earliest records) where
  pub no_later_with : (id : Text) (r : Record) (moment : ℕ) → moment ≤ earliest → moment ≤ first_deadline r → IsNoLater moment (finite.insert records id r)
  no_later_with id r moment below here = λ m s is. by m s (found records id r m s is)
    where
      by : (m : Text) (s : Record) → Found records id r m s → moment ≤ first_deadline s
      by m s (this _ same) = subst (λ (t : Record). moment ≤ first_deadline t) (sym same) here
      by m s (another _ _ at) = let was = no_later m s at in omega (arith, was, below)

  pub no_later_without : (id : Text) → IsNoLater earliest (finite.remove records id)
  no_later_without id = λ m r is. no_later m r (found_without records id m r is).0

-- one record is stored
pub stored_later : (before after : Records) (earliest moment : ℕ) (id : Text) (r : Record) → after ≡ finite.insert before id r → moment ≡ min earliest (first_deadline r)
    → IsNoLater earliest before → IsNoLater moment after
stored_later before after earliest moment id r is first no_later =
    subst (IsNoLater moment) (sym is) (no_later_with before earliest no_later id r moment (omega (arith, first)) (omega (arith, first)))

-- a member's entry becomes another one
module _ {Y S : Type 0} {by_id : List ℕ} (m n : IndexMap (String Y) Entry S) (past : PastState) (id : Text) (change : Entry → Entry)
    (rewrites : Rewrites m n id change) (table : IsTable m by_id past) (there : IsSome (get_by_text m id)) where
  pub rewritten_later : (earliest moment : ℕ) → moment ≤ earliest → ((e : Entry) → earliest ≤ first_deadline e.kept → moment ≤ first_deadline (change e).kept)
      → IsNoLater earliest (records_in m.entries) → IsNoLater moment (records_in n.entries)
  rewritten_later earliest moment below later no_later =
      let was = the_some (get_by_text m id) there in
      let kept =
      record_rewritten m n past id change rewrites table there (change was.0).kept
      (λ e at. ap (λ (e : Entry). (change e).kept) (some_is e was.0 (sym at ∙ was.1))) in
      let here = no_later id was.0.kept (get-records_in m.entries id ∙ ap kept_in was.1) in
      subst (IsNoLater moment) (sym kept) (no_later_with (records_in m.entries) earliest no_later id (change was.0).kept moment below (later was.0 here))

-- ---- the first of all

module _ {Y : Type 0} where
  first_below : (moment : ℕ) (rows : List (String Y × Entry)) → first_of_all moment rows ≤ moment
  first_below moment [] = omega arith
  first_below moment (row ∷ rows) = let rest = first_below (min moment (first_deadline row.1.kept)) rows in omega (arith, rest)

  first_of_row : (moment : ℕ) (rows : List (String Y × Entry)) (q : Text) (e : Entry) → lookup (λ k. bytes_eq q (string_bytes k)) rows ≡ Some e → first_of_all moment rows ≤ first_deadline e.kept
  first_of_row moment [] q e is = absurd (not_none e is)
  first_of_row moment (row ∷ rows) q e is = by (bytes_eq q (string_bytes row.0)) (λ later. first_of_row (min moment (first_deadline row.1.kept)) rows q e later) is
    where
      by : (b : Bool) → (lookup (λ k. bytes_eq q (string_bytes k)) rows ≡ Some e → first_of_all (min moment (first_deadline row.1.kept)) rows ≤ first_deadline e.kept) → cond b (Some row.1) (lookup (λ k. bytes_eq q (string_bytes k)) rows) ≡ Some e → first_of_all (min moment (first_deadline row.1.kept)) rows ≤ first_deadline e.kept
      by true _ is = let rest = first_below (min moment (first_deadline row.1.kept)) rows in subst (λ (e : Entry). first_of_all (min moment (first_deadline row.1.kept)) rows ≤ first_deadline e.kept) (some_is row.1 e is) (omega (arith, rest))
      by false behind is = behind is

  pub first_no_later : (moment : ℕ) (rows : List (String Y × Entry)) → IsNoLater (first_of_all moment rows) (records_in rows)
  first_no_later moment rows = λ m r is. by m r (lookup (λ k. bytes_eq m (string_bytes k)) rows) refl (sym (get-records_in rows m) ∙ is)
    where
      by : (m : Text) (r : Record) (o : Option Entry) → lookup (λ k. bytes_eq m (string_bytes k)) rows ≡ o → kept_in o ≡ Some r → first_of_all moment rows ≤ first_deadline r
      by m r None at is = absurd (not_none r is)
      by m r (Some e) at is = subst (λ (r : Record). first_of_all moment rows ≤ first_deadline r) (some_is e.kept r is) (first_of_row moment rows m e at)
