-- Exactly when a heartbeat is answered that its member is unknown.
use Rattle.std.proofs.Common.{◌≡◌, ◌≢◌, ◌↔◌, inl, inr, zero, suc, ℤ, pos, negsuc, Bool, true, false, cond, not, ◌||◌, [], ◌∷◌, Option, Some, None, is_none, refl, sym, ap, subst, ◌∙◌, true≢false}
use Rattle.std.specs.Option.{option_map_or}
use Rattle.std.specs.Str.{bytes_eq}
use Rattle.std.specs.FinMap as finite
use Rattle.std.proofs.lemmas.Bool.{not-true, or_right}
use Rattle.std.proofs.lemmas.Slice.Eq.{bytes_eq-Decides}
use Rattle.group_types.specs.declared.code.Code.TheVariants as codes
use Rattle.group_types.specs.Text.{Text}
use Rattle.group_types.specs.Request.{Heartbeat, Kind, Joins, Beats, Leaves, GoesAway, is_empty, is_invalid, is_invalid_as, is_unsupported, kind_of}
use Rattle.group_types.specs.Group.{Record, Records, Group}
use Rattle.group_types.specs.Checks.{Verdict, Accepted, Refused, Overtaken, Sender, are_granted, has_instance, is_another, is_fenced, is_of_past, is_overtaken, is_too_many, is_unreleased, record_under, sender_of, verdict_on}
use Rattle.group_types.specs.HeartbeatStep.{Answer, Arrival, ByVerdict, StepOf}
use Rattle.group_types.specs.Sound.{IsSound}
use Rattle.group_types.proofs.Lookups.{not_none, some_is}
use Rattle.group_types.proofs.Senders.{instance_of, own_is, own_none}
use Rattle.machine_laws.specs.Codes.{IsRight, IsUnknown, Says, UnknownMembersAreTold, no_member, other_instance}
use Rattle.machine_laws.proofs.ExactCodes.{Allowed, Rest, says_so, verdict_is}

-- ---- verdicts

not_allowed : ¬ Allowed codes.UnknownMemberId
not_allowed (inl never) = cc
not_allowed (inr never) = cc

join_is_known : (invalid unsupported late unreleased many : Bool)
    → cond invalid (Refused codes.InvalidRequest) (cond unsupported (Refused codes.UnsupportedAssignor) (cond late Overtaken (Rest unreleased many))) ≢ Refused codes.UnknownMemberId
join_is_known true unsupported late unreleased many is = cc
join_is_known false true late unreleased many is = cc
join_is_known false false true unreleased many is = cc
join_is_known false false false true many is = cc
join_is_known false false false false true is = cc
join_is_known false false false false false is = cc

beat_is_known : (late fenced : Bool) → cond late Overtaken (cond fenced (Refused codes.FencedMemberEpoch) Accepted) ≢ Refused codes.UnknownMemberId
beat_is_known true fenced is = cc
beat_is_known false true is = cc
beat_is_known false false is = cc

leave_is_known : (late : Bool) → cond late Overtaken Accepted ≢ Refused codes.UnknownMemberId
leave_is_known true is = cc
leave_is_known false is = cc

by_check : (b : Bool) (rest : Verdict) → rest ≢ Refused codes.UnknownMemberId → cond b (Refused codes.UnknownMemberId) rest ≡ Refused codes.UnknownMemberId → b ≡ true
by_check true rest known is = refl
by_check false rest known is = absurd (known is)

-- ---- the sender's record

none_is : (o : Option Record) → is_none o ≡ true → o ≡ None
none_is None so = refl
none_is (Some r) never = absurd (true≢false (sym never))

under_none : (records : Records) (m : Text) → finite.get records m ≡ None → record_under records m ≡ None
under_none records [] none = refl
under_none records (c ∷ m) none = none

under_some : (records : Records) (m : Text) (r : Record) → finite.get records [] ≡ None → finite.get records m ≡ Some r → record_under records m ≡ Some r
under_some records [] r named there = absurd (not_none r (sym named ∙ there))
under_some records (c ∷ m) r named there = there

has_own : (instance : Text) (r : Record) → r.instance ≡ Some instance → has_instance instance (Some r) ≡ true
has_own instance r is = ap (λ o. option_map_or (λ i. bytes_eq i instance) o false) is ∙ (bytes_eq-Decides instance instance).1 refl

module _ (g : Group) (sound : IsSound g) (q : Heartbeat) where
  another : (instance : Text) (own : Option Record) → q.epoch ≡ negsuc 1 → q.instance ≡ Some instance → record_under g.records q.member ≡ own
      → is_another own (Some instance) ≡ true → IsUnknown g q
  another instance None at names is_own so = no_member (own_none g.records q.member sound.named is_own)
  another instance (Some r) at names is_own so =
      other_instance r at (own_is g.records q.member r is_own)
      (λ same. true≢false (sym (has_own instance r (same ∙ names)) ∙ not-true (has_instance instance (Some r)) so))

  another_so : (instance : Text) (own : Option Record) → q.instance ≡ Some instance → record_under g.records q.member ≡ own → IsUnknown g q → is_another own (Some instance) ≡ true
  another_so instance None names is_own unknown = refl
  another_so instance (Some r) names is_own (no_member none) = absurd (not_none r (sym (under_none g.records q.member none) ∙ is_own))
  another_so instance (Some r) names is_own (other_instance s at there other) = by (has_instance instance (Some r)) refl
    where
      same : s ≡ r
      same = some_is s r (sym (under_some g.records q.member s sound.named there) ∙ is_own)

      by : (b : Bool) → has_instance instance (Some r) ≡ b → not b ≡ true
      by true has = absurd (other (ap (λ (x : Record). x.instance) same ∙ instance_of instance r.instance has ∙ sym names))
      by false has = refl

  no_record : IsUnknown g q → q.epoch ≢ negsuc 1 → is_none (record_under g.records q.member) ≡ true
  no_record (no_member none) other = ap is_none (under_none g.records q.member none)
  no_record (other_instance r at there differs) other = absurd (other at)

  names_one : is_invalid q ≡ false → q.epoch ≡ negsuc 1 → (instance : Text) × (q.instance ≡ Some instance)
  names_one valid at = by q.instance refl
    where
      by : (o : Option Text) → q.instance ≡ o → (instance : Text) × (q.instance ≡ Some instance)
      by None none =
          absurd
          (true≢false
          (sym (or_right (is_empty q.group) _ (ap (λ (e : ℤ). is_invalid_as q (kind_of e)) at ∙ or_right (is_empty q.member) _ (ap is_none none))) ∙ valid))
      by (Some instance) names = (instance, names)

-- ---- by the kind of heartbeat

module _ (g : Group) (a : Arrival) (answer : Answer) (new : Group) (sound : IsSound g) (right : IsRight a.heartbeat) where
  abbrev TheSender : Sender
  TheSender = sender_of g.records a.heartbeat

  abbrev Told : Type 0
  Told = Says codes.UnknownMemberId answer ↔ ((a.heartbeat.epoch ≢ pos 0) × IsUnknown g a.heartbeat)

  abbrev Judged : Kind → Verdict → Type 0
  Judged kind v = ByVerdict v (StepOf kind TheSender g a) g answer new

  -- a verdict that is one check's
  checks : (kind : Kind) (b : Bool) (rest : Verdict) → rest ≢ Refused codes.UnknownMemberId → Judged kind (cond b (Refused codes.UnknownMemberId) rest)
      → a.heartbeat.epoch ≢ pos 0 → (b ≡ true → IsUnknown g a.heartbeat) → (IsUnknown g a.heartbeat → b ≡ true) → Told
  checks kind b rest known step other from back = (
    λ says.
        (other, from (by_check b rest known (verdict_is g a answer new codes.UnknownMemberId says kind TheSender (cond b (Refused codes.UnknownMemberId) rest) not_allowed step))),
    λ so. says_so g answer new (StepOf kind TheSender g a) (cond b (Refused codes.UnknownMemberId) rest) codes.UnknownMemberId
        (ap (λ c. cond c (Refused codes.UnknownMemberId) rest) (back so.1)) step,
  )

  abbrev Late : Bool
  Late = is_overtaken a.stamp TheSender.own

  by_record : (kind : Kind) (rest : Verdict) → rest ≢ Refused codes.UnknownMemberId → Judged kind (cond (is_none TheSender.own) (Refused codes.UnknownMemberId) rest)
      → a.heartbeat.epoch ≢ pos 0 → a.heartbeat.epoch ≢ negsuc 1 → Told
  by_record kind rest known step other stays =
      checks kind (is_none TheSender.own) rest known step other
      (λ so. no_member (own_none g.records a.heartbeat.member sound.named (none_is TheSender.own so)))
      (λ unknown. no_record g sound a.heartbeat unknown stays)

  told_at : (e : ℤ) → a.heartbeat.epoch ≡ e → Judged (kind_of e) (verdict_on (kind_of e) TheSender g a.heartbeat a.stamp) → Told
  told_at (pos zero) at step = (
    λ says. absurd
        (join_is_known (is_invalid a.heartbeat) (is_unsupported a.heartbeat) (Late || is_of_past g.past a.heartbeat.member a.stamp)
        (is_unreleased TheSender.own TheSender.other) (is_too_many TheSender.own TheSender.other (finite.len g.records))
        (verdict_is g a answer new codes.UnknownMemberId says Joins TheSender (verdict_on Joins TheSender g a.heartbeat a.stamp) not_allowed step)),
    λ so. absurd (so.0 at),
  )
  told_at (pos (suc n)) at step =
      let fenced : Bool = is_fenced (suc n) TheSender.own (are_granted g.grants a.heartbeat.member a.heartbeat.owned) in
      let rest : Verdict = cond Late Overtaken (cond fenced (Refused codes.FencedMemberEpoch) Accepted) in
      by_record (Beats (suc n)) rest (beat_is_known Late fenced)
      (subst (Judged (Beats (suc n)))
      (λ i. cond (right.valid i) (Refused codes.InvalidRequest) (cond (right.supported i) (Refused codes.UnsupportedAssignor) (cond (is_none TheSender.own) (Refused codes.UnknownMemberId) rest)))
      step)
      (λ same. let never = sym at ∙ same in absurd cc) (λ same. let never = sym at ∙ same in absurd cc)
  told_at (negsuc zero) at step =
      let rest : Verdict = cond Late Overtaken Accepted in
      by_record Leaves rest (leave_is_known Late)
      (subst (Judged Leaves) (λ i. cond (right.valid i) (Refused codes.InvalidRequest) (cond (is_none TheSender.own) (Refused codes.UnknownMemberId) rest)) step)
      (λ same. let never = sym at ∙ same in absurd cc) (λ same. let never = sym at ∙ same in absurd cc)
  told_at (negsuc (suc zero)) at step =
      let rest : Verdict = cond Late Overtaken Accepted in
      let it = names_one g sound a.heartbeat right.valid at in
      checks GoesAway (is_another TheSender.own (Some it.0)) rest (leave_is_known Late)
      (subst (Judged GoesAway)
      ((λ i. cond (right.valid i) (Refused codes.InvalidRequest) (cond (is_another TheSender.own a.heartbeat.instance) (Refused codes.UnknownMemberId) rest))
      ∙ (λ i. cond (is_another TheSender.own (it.1 i)) (Refused codes.UnknownMemberId) rest))
      step)
      (λ same. let never = sym at ∙ same in absurd cc)
      (another g sound a.heartbeat it.0 TheSender.own at it.1 refl) (another_so g sound a.heartbeat it.0 TheSender.own it.1 refl)
  told_at (negsuc (suc (suc n))) at step =
      absurd (true≢false (sym (or_right (is_empty a.heartbeat.group) _ (ap (λ (e : ℤ). is_invalid_as a.heartbeat (kind_of e)) at)) ∙ right.valid))

pub unknown_members_are_told : UnknownMembersAreTold
unknown_members_are_told g a answer new sound step right = told_at g a answer new sound right a.heartbeat.epoch refl step
