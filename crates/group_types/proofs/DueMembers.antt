-- Whom a tick takes from a group, and that they are remembered.
use Rattle.std.proofs.Common.{◌≡◌, inl, inr, ℕ, suc, ◌+◌, ◌≤◌, Bool, true, false, cond, ◌&&◌, ◌||◌, max, nat_le, List, [], ◌∷◌, length, Option, Some, None, refl, sym, ap, subst, ◌∙◌, arith, true≢false}
use Rattle.std.specs.List.{filter, list_any}
use Rattle.std.specs.Ordering.{eq_by_cmp}
use Rattle.std.specs.FinMap as finite
use Rattle.std.specs.FinMap.Entries.{below_all, find, is_sorted}
use lib.Dec.{T}
use Rattle.std.proofs.lemmas.Bool.{leb-true, le-leb}
use Rattle.group_types.specs.Limits.{MOST_PAST_MEMBERS}
use Rattle.group_types.specs.declared.stamp.Stamp.{Stamp}
use Rattle.group_types.specs.Text.{Text, text_cmp}
use Rattle.group_types.specs.Group.{Record, Group}
use Rattle.group_types.specs.Members.{past_stamp}
use Rattle.group_types.specs.Leave.{risen, without_member}
use Rattle.group_types.specs.Tick.{at_moment, due, expired, has_come, is_due, ticked, without_members}
use Rattle.group_types.proofs.Consistent.{IsConsistent, consistent}
use Rattle.group_types.specs.Deadlines.{IsDue, TicksTakeTheDue}
use Rattle.group_types.specs.FormerMembers.{TheDueAreRemembered}
use Rattle.group_types.proofs.Orders.{text_cmp_total}
use Rattle.group_types.proofs.Entries.{below_differs, entries_found, first_part, second_part}
use Rattle.group_types.proofs.Lookups.{Tie, ties, differs, tie, text_ties, not_none, some_is}
use Rattle.group_types.proofs.PastLemmas.{not_past}
use Rattle.group_types.proofs.Remembered.{Stays, is_remembered_now, remembers_more, remembers_one}
use Rattle.group_types.proofs.Soundness.{Leaves, clocked_is_consistent, leaves_after, leaves_of_sorted, leaving_is_consistent, risen_is_consistent, ticked_is_consistent}

-- ---- whose deadline has come

come : (now : ℕ) (o : Option ℕ) → has_come now o ≡ true → (deadline : ℕ) × (o ≡ Some deadline) × (deadline ≤ now)
come now None never = absurd (true≢false (sym never))
come now (Some deadline) so = (deadline, refl, leb-true deadline now so)

due_of : (now : ℕ) (r : Record) → is_due now r ≡ true → IsDue now r
due_of now r so = by (nat_le r.session_deadline now) refl so
  where
    by : (b : Bool) → nat_le r.session_deadline now ≡ b → (b || has_come now r.release_deadline) ≡ true → IsDue now r
    by true over so = inl (leb-true r.session_deadline now over)
    by false lasts so = inr (come now r.release_deadline so)

or_true : (a b : Bool) → b ≡ true → (a || b) ≡ true
or_true true b so = refl
or_true false b so = so

is_due_so : (now : ℕ) (r : Record) → IsDue now r → is_due now r ≡ true
is_due_so now r (inl over) = ap (λ b. b || has_come now r.release_deadline) (le-leb r.session_deadline now over)
is_due_so now r (inr (deadline, is, over)) =
    or_true (nat_le r.session_deadline now) (has_come now r.release_deadline) (ap (has_come now) is ∙ le-leb deadline now over)

-- ---- who is in a list of members

abbrev pub Named : Text → List (Text × Record) → Bool
Named k ms = list_any (λ (e : Text × Record). eq_by_cmp text_cmp k e.0) ms

first_or_later : (k : Text) (e : Text × Record) (ms : List (Text × Record)) (b : Bool) → Named k (cond b (e ∷ ms) ms) ≡ ((b && eq_by_cmp text_cmp k e.0) || Named k ms)
first_or_later k e ms true = refl
first_or_later k e ms false = refl

-- the records are as before but for those of the list
left_records : (k : Text) (ms : List (Text × Record)) (g : Group) → finite.get (without_members g ms).records k ≡ cond (Named k ms) None (finite.get g.records k)
left_records k [] g = refl
left_records k (m ∷ ms) g =
    left_records k ms (without_member g m.0 m.1.stamp)
    ∙ ap (λ o. cond (Named k ms) None o) (finite.get-remove text_cmp_total g.records m.0 k)
    ∙ either (eq_by_cmp text_cmp k m.0) (Named k ms)
  where
    either : (a b : Bool) → cond b None (cond a None (finite.get g.records k)) ≡ cond (a || b) None (finite.get g.records k)
    either true true = refl
    either true false = refl
    either false b = refl

expired_records : (k : Text) (ms : List (Text × Record)) (g : Group) → finite.get (expired g ms).records k ≡ cond (Named k ms) None (finite.get g.records k)
expired_records k [] g = refl
expired_records k (m ∷ ms) g = left_records k (m ∷ ms) (record g { epoch = risen g.epoch })

-- ---- who is in the list of those that are due

module _ (now : ℕ) where
  abbrev Due : Text × Record → Bool
  Due m = is_due now m.1

  none_below : (k : Text) (es : List (Text × Record)) → T (below_all text_cmp k es) → Named k (filter Due es) ≡ false
  none_below k [] below = refl
  none_below k (e ∷ es) below =
      first_or_later k e (filter Due es) (Due e)
      ∙ ap (λ b. (Due e && b) || Named k (filter Due es)) (other (tie k e.0)) ∙ neither (Due e) ∙ none_below k es (second_part _ _ below)
    where
      other : Tie k e.0 → eq_by_cmp text_cmp k e.0 ≡ false
      other (ties same) = absurd (below_differs k e.0 (first_part _ _ below) (sym same))
      other (differs _ apart) = apart

      neither : (b : Bool) → ((b && false) || Named k (filter Due es)) ≡ Named k (filter Due es)
      neither true = refl
      neither false = refl

  -- by what is found under the id
  abbrev DueOf : Option Record → Bool
  DueOf None = false
  DueOf (Some r) = is_due now r

  named_due : (k : Text) (es : List (Text × Record)) → T (is_sorted text_cmp es) → Named k (filter Due es) ≡ DueOf (find text_cmp k es)
  named_due k [] sorted = refl
  named_due k (e ∷ es) sorted =
      first_or_later k e (filter Due es) (Due e) ∙ by (named_due k es (second_part _ _ sorted)) (tie k e.0)
    where
      here : (b : Bool) → ((b && true) || false) ≡ b
      here true = refl
      here false = refl

      there : (b c : Bool) → ((b && false) || c) ≡ c
      there true c = refl
      there false c = refl

      by : Named k (filter Due es) ≡ DueOf (find text_cmp k es) → Tie k e.0
          → ((Due e && eq_by_cmp text_cmp k e.0) || Named k (filter Due es)) ≡ DueOf (cond (eq_by_cmp text_cmp k e.0) (Some e.1) (find text_cmp k es))
      by rest (ties same) =
          let tied : eq_by_cmp text_cmp k e.0 ≡ true = ap (eq_by_cmp text_cmp k) (sym same) ∙ text_ties k in
          let later : Named k (filter Due es) ≡ false = none_below k es (subst (λ (x : Text). T (below_all text_cmp x es)) (sym same) (first_part _ _ sorted)) in
          (λ i. (Due e && tied i) || later i) ∙ here (Due e) ∙ sym (ap (λ b. DueOf (cond b (Some e.1) (find text_cmp k es))) tied)
      by rest (differs other apart) =
          ap (λ b. (Due e && b) || Named k (filter Due es)) apart ∙ there (Due e) (Named k (filter Due es)) ∙ rest
          ∙ sym (ap (λ b. DueOf (cond b (Some e.1) (find text_cmp k es))) apart)

named_in_due : (g : Group) (k : Text) → Named k (due g) ≡ DueOf g.clock (finite.get g.records k)
named_in_due g k =
    named_due g.clock k (finite.entries g.records) (finite.entries_sorted g.records) ∙ ap (DueOf g.clock) (sym (finite.get-entries g.records k))

-- ---- what a tick leaves

ticked_record : (g : Group) (moment : ℕ) (k : Text)
    → finite.get (ticked g moment).records k ≡ cond (DueOf (max g.clock moment) (finite.get g.records k)) None (finite.get g.records k)
ticked_record g moment k =
    expired_records k (due (at_moment g moment)) (at_moment g moment)
    ∙ ap (λ b. cond b None (finite.get g.records k)) (named_in_due (at_moment g moment) k)

module _ (g : Group) (moment : ℕ) (m : Text) where
  abbrev Now : ℕ
  Now = max g.clock moment

  after_of : (o : Option Record) → finite.get g.records m ≡ o → finite.get (ticked g moment).records m ≡ cond (DueOf Now o) None o
  after_of o is = ticked_record g moment m ∙ ap (λ o. cond (DueOf Now o) None o) is

  taken : (r : Record) → finite.get g.records m ≡ Some r → IsDue Now r → finite.get (ticked g moment).records m ≡ None
  taken r there over = after_of (Some r) there ∙ ap (λ b. cond b None (Some r)) (is_due_so Now r over)

  stays : (r : Record) → finite.get g.records m ≡ Some r → ¬ IsDue Now r → finite.get (ticked g moment).records m ≡ Some r
  stays r there lasts = after_of (Some r) there ∙ by (is_due Now r) refl
    where
      by : (b : Bool) → is_due Now r ≡ b → cond b None (Some r) ≡ Some r
      by true over = absurd (lasts (due_of Now r over))
      by false so = refl

  was_due : (r : Record) → finite.get g.records m ≡ Some r → finite.get (ticked g moment).records m ≡ None → is_due Now r ≡ true
  was_due r there gone = by (is_due Now r) refl (sym (after_of (Some r) there) ∙ gone)
    where
      by : (b : Bool) → is_due Now r ≡ b → cond b None (Some r) ≡ None → b ≡ true
      by true over none = refl
      by false so never = absurd (not_none r (sym never))

pub ticks_take_the_due : TicksTakeTheDue
ticks_take_the_due g moment =
    record {
      due = taken g moment;
      others = stays g moment;
      nobody = λ m none. after_of g moment m None none;
    }

-- ---- they are remembered

module _ (k : Text) (s : Stamp) where
  -- it left before these did
  still_remembered : (ms : List (Text × Record)) (g : Group) (n : ℕ) → Stays g.past k s n → n + length ms ≤ MOST_PAST_MEMBERS → past_stamp (without_members g ms).past k ≡ Some s
  still_remembered [] g n is room = is_remembered_now g.past k s n is
  still_remembered (m ∷ ms) g n is room =
      still_remembered ms (without_member g m.0 m.1.stamp) (suc n)
      (remembers_more g.past k s n m.0 m.1.stamp (omega (arith, room)) is) (omega (arith, room))

leaver_remembered : (k : Text) (r : Record) (ms : List (Text × Record)) (g : Group) → IsConsistent g → Leaves g.records ms → finite.get g.records k ≡ Some r
    → Named k ms ≡ true → length ms ≤ MOST_PAST_MEMBERS → past_stamp (without_members g ms).past k ≡ Some r.stamp
leaver_remembered k r [] g sound leaves there never room = absurd (true≢false (sym never))
leaver_remembered k r (m ∷ ms) g sound leaves there named room =
    by
    (λ there later. leaver_remembered k r ms (without_member g m.0 m.1.stamp) (leaving_is_consistent g sound m.0 m.1 leaves.0 m.1.stamp) (leaves_after g.records m.0 ms leaves.1 leaves.2) there later (omega (arith, room)))
    (tie k m.0)
  where
    by : (finite.get (finite.remove g.records m.0) k ≡ Some r → Named k ms ≡ true → past_stamp (without_members g (m ∷ ms)).past k ≡ Some r.stamp) → Tie k m.0
        → past_stamp (without_members g (m ∷ ms)).past k ≡ Some r.stamp
    by rest (ties same) =
        let is : m.1 ≡ r = some_is m.1 r (sym leaves.0 ∙ ap (finite.get g.records) (sym same) ∙ there) in
        let never : past_stamp g.past m.0 ≡ None = not_past g.records g.past m.0 m.1 sound.past leaves.0 in
        ap (past_stamp (without_members g (m ∷ ms)).past) same
        ∙ still_remembered m.0 m.1.stamp ms (without_member g m.0 m.1.stamp) 1 (remembers_one g.past m.0 m.1.stamp never) (omega (arith, room))
        ∙ ap (λ (x : Record). Some x.stamp) is
    by rest (differs other apart) =
        rest (finite.get-remove text_cmp_total g.records m.0 k ∙ ap (λ b. cond b None (finite.get g.records k)) apart ∙ there)
        (sym (ap (λ b. b || Named k ms) apart) ∙ named)

expired_remembered : (k : Text) (r : Record) (ms : List (Text × Record)) (g : Group) → IsConsistent g → Leaves g.records ms → finite.get g.records k ≡ Some r
    → Named k ms ≡ true → length ms ≤ MOST_PAST_MEMBERS → past_stamp (expired g ms).past k ≡ Some r.stamp
expired_remembered k r [] g sound leaves there never room = absurd (true≢false (sym never))
expired_remembered k r (m ∷ ms) g sound leaves there named room =
    leaver_remembered k r (m ∷ ms) (record g { epoch = risen g.epoch }) (risen_is_consistent g sound) leaves there named room

pub the_due_are_remembered : TheDueAreRemembered
the_due_are_remembered g moment m r sound few there gone =
    let now : Group = at_moment g moment in
    let kept = consistent g sound in
    let over : Named m (due now) ≡ true = named_in_due now m ∙ ap (DueOf now.clock) there ∙ was_due g moment m r there gone in
    record {
      left = gone;
      remembered = expired_remembered m r (due now) now (clocked_is_consistent g (max g.clock moment) kept)
          (leaves_of_sorted (λ m. is_due now.clock m.1) g.records (finite.entries g.records) (finite.entries_sorted g.records) (entries_found g.records))
          there over few;
      few = (ticked_is_consistent g kept moment).few_past;
    }
