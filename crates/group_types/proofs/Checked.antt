-- What each verdict on a heartbeat says of it, at a consistent group.
use Rattle.std.proofs.Common.{◌≡◌, ◌≢◌, ℕ, Bool, true, false, cond, not, ◌||◌, ◌&&◌, List, [], ◌∷◌, Option, Some, None, is_none, refl, sym, ap, subst, ◌∙◌, true≢false}
use Rattle.std.specs.Ordering.{eq_by_cmp, is_gt}
use Rattle.std.specs.Str.{bytes_eq}
use Rattle.std.specs.Option.{option_map_or}
use Rattle.std.specs.declared.cmp.Ordering.{Ordering}
use Rattle.std.specs.declared.cmp.Ordering.TheVariants.{Less, Equal, Greater}
use Rattle.std.specs.FinMap as finite
use Rattle.std.proofs.lemmas.Slice.Eq.{bytes_eq-Decides}
use Rattle.group_types.specs.declared.code.Code.TheVariants as codes
use Rattle.group_types.specs.declared.stamp.Stamp.{Stamp}
use Rattle.group_types.specs.Text.{Text, text_cmp}
use Rattle.group_types.specs.Stamp.{stamp_cmp}
use Rattle.group_types.specs.Request.{Heartbeat, Kind, Joins, Beats, Leaves, GoesAway, MeansNothing, is_invalid, is_unsupported}
use Rattle.group_types.specs.Group.{Record, Records, Past, Group}
use Rattle.group_types.specs.Members.{past_stamp}
use Rattle.group_types.specs.Checks.{Verdict, Accepted, Refused, Overtaken, Check, Sender, checks_of, first_of, has_instance, is_another, is_fenced, are_granted, is_late, is_of_past, is_overtaken, is_too_many, is_unreleased, record_under, sender_of, verdict_on}
use Rattle.group_types.specs.Sound.{IsPast}
use Rattle.group_types.proofs.Consistent.{IsConsistent}
use Rattle.group_types.specs.Fencing.{IsLate, IsOfInstance, stamp_kept, stamp_to_pass}
use Rattle.group_types.proofs.Lookups.{Tie, ties, differs, tie, text_ties, not_none, some_is}
use Rattle.group_types.proofs.PastLemmas.{not_past}
use Rattle.group_types.proofs.Senders.{instance_of, own_is}

-- ---- late stamps

late_order : (o : Ordering) → not (is_gt o) ≡ true → o ≢ Greater
late_order Less so = λ never. cc
late_order Equal so = λ never. cc
late_order Greater so = absurd (true≢false (sym so))

order_late : (o : Ordering) → o ≢ Greater → not (is_gt o) ≡ true
order_late Less other = refl
order_late Equal other = refl
order_late Greater other = absurd (other refl)

later_order : (o : Ordering) → not (is_gt o) ≡ false → o ≡ Greater
later_order Less so = absurd (true≢false so)
later_order Equal so = absurd (true≢false so)
later_order Greater so = refl

abbrev pub IsLater : Stamp → Stamp → Type 0
IsLater stamp last = stamp_cmp stamp last ≡ Greater

pub late : (stamp last : Stamp) → is_late stamp last ≡ true → IsLate stamp last
late stamp last = late_order (stamp_cmp stamp last)

pub is_late_so : (stamp last : Stamp) → IsLate stamp last → is_late stamp last ≡ true
is_late_so stamp last = order_late (stamp_cmp stamp last)

pub later : (stamp last : Stamp) → is_late stamp last ≡ false → IsLater stamp last
later stamp last = later_order (stamp_cmp stamp last)

-- ---- former members

either_false : (a b : Bool) → (a || b) ≡ false → (a ≡ false) × (b ≡ false)
either_false true b never = absurd (true≢false never)
either_false false b so = (refl, so)

or_true : (a b : Bool) → b ≡ true → (a || b) ≡ true
or_true true b so = refl
or_true false b so = so

pub later_than_past : (past : Past) (m : Text) (stamp last : Stamp) → is_of_past past m stamp ≡ false → past_stamp past m ≡ Some last → is_late stamp last ≡ false
later_than_past [] m stamp last none is = absurd (not_none last is)
later_than_past (e ∷ past) m stamp last none is = by (later_than_past past m stamp last) (eq_by_cmp text_cmp m e.0) none is
  where
    by : (is_of_past past m stamp ≡ false → past_stamp past m ≡ Some last → is_late stamp last ≡ false) → (b : Bool) → ((b && is_late stamp e.1) || is_of_past past m stamp) ≡ false → cond b (Some e.1) (past_stamp past m) ≡ Some last → is_late stamp last ≡ false
    by rest true none is = ap (is_late stamp) (sym (some_is e.1 last is)) ∙ (either_false (is_late stamp e.1) _ none).0
    by rest false none is = rest none is

pub late_of_past : (past : Past) (m : Text) (stamp last : Stamp) → past_stamp past m ≡ Some last → is_late stamp last ≡ true → is_of_past past m stamp ≡ true
late_of_past [] m stamp last is late = absurd (not_none last is)
late_of_past (e ∷ past) m stamp last is late = by (λ there. late_of_past past m stamp last there late) (eq_by_cmp text_cmp m e.0) is
  where
    by : (past_stamp past m ≡ Some last → is_of_past past m stamp ≡ true) → (b : Bool) → cond b (Some e.1) (past_stamp past m) ≡ Some last → ((b && is_late stamp e.1) || is_of_past past m stamp) ≡ true
    by rest true is = ap (λ x. x || is_of_past past m stamp) (ap (is_late stamp) (some_is e.1 last is) ∙ late)
    by rest false is = rest is

abbrev LateOf : Past → Text → Stamp → Type 0
LateOf past m stamp = (last : Stamp) × (past_stamp past m ≡ Some last) × (is_late stamp last ≡ true)

-- at an entry e, by whether it is the id's
abbrev LateIn : Past → Text → Stamp → Text × Stamp → Bool → Type 0
LateIn past m stamp e b = (last : Stamp) × (cond b (Some e.1) (past_stamp past m) ≡ Some last) × (is_late stamp last ≡ true)

pub past_of_late : (records : Records) (past : Past) (m : Text) (stamp : Stamp) → IsPast records past → is_of_past past m stamp ≡ true
    → LateOf past m stamp
past_of_late records [] m stamp is never = absurd (true≢false (sym never))
past_of_late records (e ∷ past) m stamp is so = by (past_of_late records past m stamp is.3) (tie m e.0) so
  where
    head : (is_of_past past m stamp ≡ true → LateOf past m stamp) → m ≡ e.0 → (b : Bool) → is_late stamp e.1 ≡ b → (b || is_of_past past m stamp) ≡ true → LateIn past m stamp e true
    head rest same true so there = (e.1, refl, so)
    head rest same false so there =
        let found = rest there in
        absurd (not_none found.0 (sym is.2 ∙ ap (past_stamp past) (sym same) ∙ found.1))

    by : (is_of_past past m stamp ≡ true → LateOf past m stamp) → Tie m e.0 → ((eq_by_cmp text_cmp m e.0 && is_late stamp e.1) || is_of_past past m stamp) ≡ true → LateIn past m stamp e (eq_by_cmp text_cmp m e.0)
    by rest (ties same) so =
        let ties = ap (eq_by_cmp text_cmp m) (sym same) ∙ text_ties m in
        subst (LateIn past m stamp e) (sym ties) (head rest same (is_late stamp e.1) refl (ap (λ b. (b && is_late stamp e.1) || is_of_past past m stamp) (sym ties) ∙ so))
    by rest (differs other apart) so =
        subst (LateIn past m stamp e) (sym apart) (rest (ap (λ b. (b && is_late stamp e.1) || is_of_past past m stamp) (sym apart) ∙ so))

-- ---- the sender's own record

pub own_so : (records : Records) (m : Text) → finite.get records [] ≡ None → record_under records m ≡ finite.get records m
own_so records [] named = sym named
own_so records (c ∷ m) named = refl

-- ---- the first check that applies

pub passed : (v : Verdict) (b : Bool) (w rest : Verdict) → (w ≡ v → ⊥) → cond b w rest ≡ v → (b ≡ false) × (rest ≡ v)
passed v true w rest fails is = absurd (fails is)
passed v false w rest fails is = (refl, is)

pub refused_not : (code : _) → Refused code ≡ Accepted → ⊥
refused_not code is = cc

pub overtaken_not : Overtaken ≡ Accepted → ⊥
overtaken_not is = cc

refused_other : (code : _) → Refused code ≡ Overtaken → ⊥
refused_other code is = cc

accepted_other : Accepted ≡ Overtaken → ⊥
accepted_other is = cc

-- ---- a refusal has the code of an error

abbrev pub IsRefusal : Verdict → Type 0
IsRefusal Accepted = Unit {0}
IsRefusal (Refused code) = code ≢ codes.NoError
IsRefusal Overtaken = Unit {0}

abbrev AllRefuse : List Check → Type 0
AllRefuse [] = Unit {0}
AllRefuse (check ∷ checks) = IsRefusal check.1 × AllRefuse checks

first_refuses : (checks : List Check) → AllRefuse checks → IsRefusal (first_of checks)
first_refuses [] all = tt
first_refuses (check ∷ checks) all =
    elim check.0 as (λ b. IsRefusal (cond b check.1 (first_of checks))) [ true ↦ all.0 | false ↦ first_refuses checks all.1 ]

invalid_is : IsRefusal (Refused codes.InvalidRequest)
invalid_is is = cc

unsupported_is : IsRefusal (Refused codes.UnsupportedAssignor)
unsupported_is is = cc

unknown_is : IsRefusal (Refused codes.UnknownMemberId)
unknown_is is = cc

unreleased_is : IsRefusal (Refused codes.UnreleasedInstanceId)
unreleased_is is = cc

full_is : IsRefusal (Refused codes.GroupMaxSizeReached)
full_is is = cc

fenced_is : IsRefusal (Refused codes.FencedMemberEpoch)
fenced_is is = cc

pub unavailable_is : IsRefusal (Refused codes.CoordinatorNotAvailable)
unavailable_is is = cc

pub refusals_differ : (kind : Kind) (sender : Sender) (g : Group) (q : Heartbeat) (stamp : Stamp) → IsRefusal (verdict_on kind sender g q stamp)
refusals_differ Joins sender g q stamp =
    first_refuses (checks_of Joins sender g q stamp) (invalid_is, (unsupported_is, (tt, (unreleased_is, (full_is, tt)))))
refusals_differ (Beats n) sender g q stamp =
    first_refuses (checks_of (Beats n) sender g q stamp) (invalid_is, (unsupported_is, (unknown_is, (tt, (fenced_is, tt)))))
refusals_differ Leaves sender g q stamp = first_refuses (checks_of Leaves sender g q stamp) (invalid_is, (unknown_is, (tt, tt)))
refusals_differ GoesAway sender g q stamp = first_refuses (checks_of GoesAway sender g q stamp) (invalid_is, (unknown_is, (tt, tt)))
refusals_differ MeansNothing sender g q stamp = invalid_is

-- ---- accepted, refused, overtaken

module _ (g : Group) (sound : IsConsistent g) (q : Heartbeat) (stamp : Stamp) where
  abbrev TheSender : Sender
  TheSender = sender_of g.records q

  same_own : TheSender.own ≡ finite.get g.records q.member
  same_own = own_so g.records q.member sound.named

  pub record Joining : Type 0 where
    pub supported : is_unsupported q ≡ false
    pub in_time : (last : Stamp) → stamp_to_pass Joins g q.member ≡ Some last → IsLater stamp last
    pub released : is_unreleased TheSender.own TheSender.other ≡ false
    pub room : is_too_many TheSender.own TheSender.other (finite.len g.records) ≡ false

  later_join : (is_overtaken stamp TheSender.own || is_of_past g.past q.member stamp) ≡ false → (own : Option Record) → finite.get g.records q.member ≡ own
      → (last : Stamp) → stamp_kept own (past_stamp g.past q.member) ≡ Some last → IsLater stamp last
  later_join so None none last is = later stamp last (later_than_past g.past q.member stamp last (either_false _ _ so).1 is)
  later_join so (Some r) there last is =
      subst (IsLater stamp) (some_is r.stamp last is)
      (later stamp r.stamp (sym (ap (is_overtaken stamp) (same_own ∙ there)) ∙ (either_false _ _ so).0))

  pub joining : verdict_on Joins TheSender g q stamp ≡ Accepted → Joining
  joining accepted =
      let valid = passed Accepted _ _ _ (refused_not codes.InvalidRequest) accepted in
      let supported = passed Accepted _ _ _ (refused_not codes.UnsupportedAssignor) valid.1 in
      let in_time = passed Accepted _ _ _ overtaken_not supported.1 in
      let released = passed Accepted _ _ _ (refused_not codes.UnreleasedInstanceId) in_time.1 in
      let room = passed Accepted _ _ _ (refused_not codes.GroupMaxSizeReached) released.1 in
      record { supported = supported.0; in_time = later_join in_time.0 (finite.get g.records q.member) refl; released = released.0; room = room.0 }

  later_member : is_overtaken stamp TheSender.own ≡ false → (own : Option Record) → finite.get g.records q.member ≡ own
      → (last : Stamp) → stamp_kept own None ≡ Some last → IsLater stamp last
  later_member so None none last is = absurd (not_none last is)
  later_member so (Some r) there last is =
      subst (IsLater stamp) (some_is r.stamp last is) (later stamp r.stamp (sym (ap (is_overtaken stamp) (same_own ∙ there)) ∙ so))

  pub in_time : (kind : Kind) → verdict_on kind TheSender g q stamp ≡ Accepted → (last : Stamp) → stamp_to_pass kind g q.member ≡ Some last → IsLater stamp last
  in_time Joins accepted = (joining accepted).in_time
  in_time (Beats n) accepted =
      let valid = passed Accepted _ _ _ (refused_not codes.InvalidRequest) accepted in
      let supported = passed Accepted _ _ _ (refused_not codes.UnsupportedAssignor) valid.1 in
      let known = passed Accepted _ _ _ (refused_not codes.UnknownMemberId) supported.1 in
      later_member (passed Accepted _ _ _ overtaken_not known.1).0 (finite.get g.records q.member) refl
  in_time Leaves accepted =
      let valid = passed Accepted _ _ _ (refused_not codes.InvalidRequest) accepted in
      let known = passed Accepted _ _ _ (refused_not codes.UnknownMemberId) valid.1 in
      later_member (passed Accepted _ _ _ overtaken_not known.1).0 (finite.get g.records q.member) refl
  in_time GoesAway accepted =
      let valid = passed Accepted _ _ _ (refused_not codes.InvalidRequest) accepted in
      let known = passed Accepted _ _ _ (refused_not codes.UnknownMemberId) valid.1 in
      later_member (passed Accepted _ _ _ overtaken_not known.1).0 (finite.get g.records q.member) refl
  in_time MeansNothing accepted = absurd (refused_not codes.InvalidRequest accepted)

  pub beating : (n : ℕ) → verdict_on (Beats n) TheSender g q stamp ≡ Accepted → is_unsupported q ≡ false
  beating n accepted =
      let valid = passed Accepted _ _ _ (refused_not codes.InvalidRequest) accepted in
      (passed Accepted _ _ _ (refused_not codes.UnsupportedAssignor) valid.1).0

  -- whoever leaves has a record
  pub leaver : verdict_on Leaves TheSender g q stamp ≡ Accepted → (own : Option Record) → TheSender.own ≡ own → (r : Record) × (finite.get g.records q.member ≡ Some r)
  leaver accepted None none =
      let valid = passed Accepted _ _ _ (refused_not codes.InvalidRequest) accepted in
      let known = passed Accepted _ _ _ (refused_not codes.UnknownMemberId) valid.1 in
      absurd (true≢false (sym (ap is_none none) ∙ known.0))
  leaver accepted (Some r) own = (r, own_is g.records q.member r own)

  -- ---- overtaken

  abbrev Overtakes : Kind → Type 0
  Overtakes kind =
      (is_invalid q ≡ false) × (is_unsupported q ≡ false) × IsOfInstance kind g q
      × ((last : Stamp) × (stamp_to_pass kind g q.member ≡ Some last) × IsLate stamp last)

  overtaken_at : (own : Option Record) → finite.get g.records q.member ≡ own → is_overtaken stamp TheSender.own ≡ true → (past : Option Stamp)
      → (last : Stamp) × (stamp_kept (finite.get g.records q.member) past ≡ Some last) × IsLate stamp last
  overtaken_at None none so past = absurd (true≢false (sym so ∙ ap (is_overtaken stamp) (same_own ∙ none)))
  overtaken_at (Some r) there so past =
      (r.stamp, ap (λ o. stamp_kept o past) there, late stamp r.stamp (sym (ap (is_overtaken stamp) (same_own ∙ there)) ∙ so))

  overtaken_join : (b : Bool) → is_overtaken stamp TheSender.own ≡ b → (b || is_of_past g.past q.member stamp) ≡ true
      → (last : Stamp) × (stamp_to_pass Joins g q.member ≡ Some last) × IsLate stamp last
  overtaken_join true so there = overtaken_at (finite.get g.records q.member) refl so (past_stamp g.past q.member)
  overtaken_join false other there = by (past_of_late g.records g.past q.member stamp sound.past there) (finite.get g.records q.member) refl
    where
      by : LateOf g.past q.member stamp → (own : Option Record) → finite.get g.records q.member ≡ own
          → (last : Stamp) × (stamp_to_pass Joins g q.member ≡ Some last) × IsLate stamp last
      by found None none = (found.0, ap (λ o. stamp_kept o (past_stamp g.past q.member)) none ∙ found.1, late stamp found.0 found.2)
      by found (Some r) there = absurd (not_none found.0 (sym (not_past g.records g.past q.member r sound.past there) ∙ found.1))

  -- of a check that closes, and those after it that don't
  closing : (b : Bool) (rest : Verdict) → (rest ≡ Overtaken → ⊥) → cond b Overtaken rest ≡ Overtaken → b ≡ true
  closing true rest never is = refl
  closing false rest never is = absurd (never is)

  never_after_join : cond (is_unreleased TheSender.own TheSender.other) (Refused codes.UnreleasedInstanceId) (cond (is_too_many TheSender.own TheSender.other (finite.len g.records)) (Refused codes.GroupMaxSizeReached) Accepted) ≡ Overtaken → ⊥
  never_after_join is =
      let released = passed Overtaken _ _ _ (refused_other codes.UnreleasedInstanceId) is in
      accepted_other (passed Overtaken _ _ _ (refused_other codes.GroupMaxSizeReached) released.1).1

  instance_named : (own : Option Record) → finite.get g.records q.member ≡ own → (instance : Option Text) → q.instance ≡ instance → is_another own instance ≡ false → IsOfInstance GoesAway g q
  instance_named own there None none so = absurd (true≢false so)
  instance_named None there (Some i) names so = absurd (true≢false so)
  instance_named (Some r) there (Some i) names so =
      (i, names, record { kept = r; is_kept = there; same = instance_of i r.instance (unnot (has_instance i (Some r)) so) })
    where
      unnot : (b : Bool) → not b ≡ false → b ≡ true
      unnot true so = refl
      unnot false so = absurd (true≢false so)

  pub overtaken_is : (kind : Kind) → (((n : ℕ) → kind ≡ Beats n → ⊥) → kind ≢ Joins → is_unsupported q ≡ false) → verdict_on kind TheSender g q stamp ≡ Overtaken → Overtakes kind
  overtaken_is Joins never is =
      let valid = passed Overtaken _ _ _ (refused_other codes.InvalidRequest) is in
      let supported = passed Overtaken _ _ _ (refused_other codes.UnsupportedAssignor) valid.1 in
      (valid.0, supported.0, tt, overtaken_join (is_overtaken stamp TheSender.own) refl (closing _ _ never_after_join supported.1))
  overtaken_is (Beats n) never is =
      let valid = passed Overtaken _ _ _ (refused_other codes.InvalidRequest) is in
      let supported = passed Overtaken _ _ _ (refused_other codes.UnsupportedAssignor) valid.1 in
      let known = passed Overtaken _ _ _ (refused_other codes.UnknownMemberId) supported.1 in (
        valid.0,
        supported.0,
        tt,
        overtaken_at (finite.get g.records q.member) refl
            (closing _ (cond (is_fenced n TheSender.own (are_granted g.grants q.member q.owned)) (Refused codes.FencedMemberEpoch) Accepted) (λ rest. accepted_other (passed Overtaken _ _ _ (refused_other codes.FencedMemberEpoch) rest).1) known.1) None,
      )
  overtaken_is Leaves supported is =
      let valid = passed Overtaken _ _ _ (refused_other codes.InvalidRequest) is in
      let known = passed Overtaken _ _ _ (refused_other codes.UnknownMemberId) valid.1 in
      (valid.0, supported (λ n never. cc) (λ never. cc), tt, overtaken_at (finite.get g.records q.member) refl (closing _ _ accepted_other known.1) None)
  overtaken_is GoesAway supported is =
      let valid = passed Overtaken _ _ _ (refused_other codes.InvalidRequest) is in
      let known = passed Overtaken _ _ _ (refused_other codes.UnknownMemberId) valid.1 in (
        valid.0,
        supported (λ n never. cc) (λ never. cc),
        instance_named (finite.get g.records q.member) refl q.instance refl (sym (ap (λ o. is_another o q.instance) same_own) ∙ known.0),
        overtaken_at (finite.get g.records q.member) refl (closing _ _ accepted_other known.1) None,
      )
  overtaken_is MeansNothing supported is = absurd (refused_other codes.InvalidRequest is)

  -- and such a heartbeat is overtaken
  late_member : (own : Option Record) → finite.get g.records q.member ≡ own → (last : Stamp) → stamp_kept own None ≡ Some last → IsLate stamp last
      → (is_none TheSender.own ≡ false) × (is_overtaken stamp TheSender.own ≡ true)
  late_member None none last is slow = absurd (not_none last is)
  late_member (Some r) there last is slow = (
    ap is_none (same_own ∙ there),
    ap (is_overtaken stamp) (same_own ∙ there) ∙ is_late_so stamp r.stamp (subst (IsLate stamp) (sym (some_is r.stamp last is)) slow),
  )

  late_joiner : (own : Option Record) → finite.get g.records q.member ≡ own → (last : Stamp) → stamp_kept own (past_stamp g.past q.member) ≡ Some last → IsLate stamp last
      → (is_overtaken stamp TheSender.own || is_of_past g.past q.member stamp) ≡ true
  late_joiner None none last is slow = or_true _ _ (late_of_past g.past q.member stamp last is (is_late_so stamp last slow))
  late_joiner (Some r) there last is slow =
      ap (λ b. b || is_of_past g.past q.member stamp)
      (ap (is_overtaken stamp) (same_own ∙ there) ∙ is_late_so stamp r.stamp (subst (IsLate stamp) (sym (some_is r.stamp last is)) slow))

  not_another : (i : Text) → q.instance ≡ Some i → (r : Record) → finite.get g.records q.member ≡ Some r → r.instance ≡ Some i → is_another TheSender.own q.instance ≡ false
  not_another i names r there same =
      (λ k. is_another ((same_own ∙ there) k) (names k))
      ∙ ap (λ o. not (option_map_or (λ x. bytes_eq x i) o false)) same ∙ ap not ((bytes_eq-Decides i i).1 refl)

  pub is_overtaken_so : (kind : Kind) → is_invalid q ≡ false → is_unsupported q ≡ false → IsOfInstance kind g q
      → (last : Stamp) → stamp_to_pass kind g q.member ≡ Some last → IsLate stamp last → verdict_on kind TheSender g q stamp ≡ Overtaken
  is_overtaken_so Joins valid supported names last is slow =
      let slow_so = late_joiner (finite.get g.records q.member) refl last is slow in
      λ i. cond (valid i) (Refused codes.InvalidRequest) (cond (supported i) (Refused codes.UnsupportedAssignor) (cond (slow_so i) Overtaken (cond (is_unreleased TheSender.own TheSender.other) (Refused codes.UnreleasedInstanceId) (cond (is_too_many TheSender.own TheSender.other (finite.len g.records)) (Refused codes.GroupMaxSizeReached) Accepted))))
  is_overtaken_so (Beats n) valid supported names last is slow =
      let slow_so = late_member (finite.get g.records q.member) refl last is slow in
      λ i. cond (valid i) (Refused codes.InvalidRequest) (cond (supported i) (Refused codes.UnsupportedAssignor) (cond (slow_so.0 i) (Refused codes.UnknownMemberId) (cond (slow_so.1 i) Overtaken (cond (is_fenced n TheSender.own (are_granted g.grants q.member q.owned)) (Refused codes.FencedMemberEpoch) Accepted))))
  is_overtaken_so Leaves valid supported names last is slow =
      let slow_so = late_member (finite.get g.records q.member) refl last is slow in
      λ i. cond (valid i) (Refused codes.InvalidRequest) (cond (slow_so.0 i) (Refused codes.UnknownMemberId) (cond (slow_so.1 i) Overtaken Accepted))
  is_overtaken_so GoesAway valid supported names last is slow =
      let slow_so = late_member (finite.get g.records q.member) refl last is slow in
      let same = not_another names.0 names.1 names.2.kept names.2.is_kept names.2.same in
      λ i. cond (valid i) (Refused codes.InvalidRequest) (cond (same i) (Refused codes.UnknownMemberId) (cond (slow_so.1 i) Overtaken Accepted))
  is_overtaken_so MeansNothing valid supported names last is slow = absurd names
