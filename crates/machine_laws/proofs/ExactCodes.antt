-- Exactly when a join, or any other heartbeat, is refused for whose it is.
use Rattle.std.proofs.Common.{◌≡◌, ◌≢◌, ◌⊎◌, inl, inr, ℤ, pos, Bool, true, false, cond, not, ◌&&◌, ◌||◌, nat_le, Option, Some, None, MatchOption, refl, sym, ap, subst, ◌∙◌, true≢false}
use Rattle.std.specs.Ordering.{eq_by_cmp}
use Rattle.std.specs.Option.{option_map}
use Rattle.std.specs.FinMap as finite
use Rattle.std.proofs.lemmas.Bool.{and_parts, leb-true, le-leb, not-true}
use Rattle.group_types.specs.declared.code.Code.{Code}
use Rattle.group_types.specs.declared.code.Code.TheVariants as codes
use Rattle.group_types.specs.declared.epoch.Epoch.{Epoch}
use Rattle.group_types.specs.declared.epoch.Epoch.TheVariants.{At, Away}
use Rattle.group_types.specs.Limits.{GREATEST_EPOCH, MOST_MEMBERS}
use Rattle.group_types.specs.Text.{Text, text_cmp}
use Rattle.group_types.specs.Request.{Heartbeat, Kind, Joins, Beats, Leaves, GoesAway, MeansNothing, is_invalid, is_unsupported, kind_of}
use Rattle.group_types.specs.Group.{Record, Records, Group}
use Rattle.group_types.specs.Join.{Name}
use Rattle.group_types.specs.Renewal.{changed_if, view_for}
use Rattle.group_types.specs.Checks.{Verdict, Accepted, Refused, Overtaken, Member, Sender, has_instance, is_away, is_of_past, is_overtaken, is_too_many, is_unreleased, member_at, other_id_with, other_with, record_under, sender_of, verdict_on}
use Rattle.group_types.specs.HeartbeatStep as machine
use Rattle.group_types.specs.HeartbeatStep.{Answer, Replied, Closes, Reply, Arrival, Draft, BeatsWith, ByVerdict, GoesAwayWith, HeartbeatStep, IsRefused, StepOf, TakesIn, acceptance, draft_under, refusal}
use Rattle.group_types.specs.Fencing.{IsOvertaken}
use Rattle.group_types.specs.Sound.{IsSound}
use Rattle.group_types.proofs.Closing.{closes_on_the_overtaken}
use Rattle.group_types.proofs.Lookups.{not_none, some_is, text_ties}
use Rattle.group_types.proofs.Senders.{find_passes, no_other, other_is, own_is, own_none}
use Rattle.machine_laws.specs.Codes.{HasItsInstance, IsInUse, IsMember, IsOneTooMany, IsRight, JoinsAreRefused, JoinsAreRefusedExactly, Says, by_any, by_present}

pub reply_of : (x y : Reply) → Replied x ≡ Replied y → x ≡ y
reply_of x y is = cc

-- ---- what an accepted heartbeat may say

-- success, or COORDINATOR_NOT_AVAILABLE
abbrev pub Allowed : Code → Type 0
Allowed code = (code ≡ codes.NoError) ⊎ (code ≡ codes.CoordinatorNotAvailable)

module _ (g : Group) (a : Arrival) (answer : Answer) (new : Group) (code : Code) (says : Says code answer) where
  is_of : (reply : Reply) → answer ≡ Replied reply → reply.code ≡ code
  is_of reply is = ap (λ (r : Reply). r.code) (reply_of reply says.0 (sym is ∙ says.1)) ∙ says.2

  succeeds : (reply : Reply) → answer ≡ Replied reply → reply.code ≡ codes.NoError → Allowed code
  succeeds reply is so = inl (sym (is_of reply is) ∙ so)

  taken : (d : Draft) → TakesIn g d a.heartbeat a.image answer new → Allowed code
  taken d takes = by (takes.change && nat_le GREATEST_EPOCH g.epoch) takes.step
    where
      by : (b : Bool) → ByVerdict (cond b (Refused codes.CoordinatorNotAvailable) Accepted) (machine.Stages (changed_if takes.change d.group (view_for a.image d.group.records)) d a.heartbeat) g answer new
          → Allowed code
      by true (is, same) = inr (sym (is_of (refusal codes.CoordinatorNotAvailable) is))
      by false stages = succeeds (acceptance d.id stages.kept stages.told) stages.answers refl

  joins : (o : Option Name) (sender : Sender)
      → MatchOption o (IsRefused codes.CoordinatorNotAvailable g answer new) (λ name. TakesIn g (draft_under name sender g a) a.heartbeat a.image answer new) → Allowed code
  joins None sender (is, same) = inr (sym (is_of (refusal codes.CoordinatorNotAvailable) is))
  joins (Some name) sender is = taken (draft_under name sender g a) is

  beats : (own : Option Record) → BeatsWith own g a answer new → Allowed code
  beats None never = absurd never
  beats (Some r) is = taken _ is

  goes : (own : Option Record) → GoesAwayWith own g a answer new → Allowed code
  goes None never = absurd never
  goes (Some r) (is, leaves) = succeeds _ is refl

  pub allowed : (kind : Kind) (sender : Sender) → StepOf kind sender g a answer new → Allowed code
  allowed Joins sender is = joins is.name sender is.joins
  allowed (Beats n) sender is = beats sender.own is
  allowed Leaves sender (is, leaves) = succeeds _ is refl
  allowed GoesAway sender is = goes sender.own is
  allowed MeansNothing sender never = absurd never

  -- another code is the verdict's
  pub verdict_is : (kind : Kind) (sender : Sender) (v : Verdict) → ¬ Allowed code → ByVerdict v (StepOf kind sender g a) g answer new → v ≡ Refused code
  verdict_is kind sender Accepted other step = absurd (other (allowed kind sender step))
  verdict_is kind sender (Refused refused) other (is, same) = ap Refused (is_of (refusal refused) is)
  verdict_is kind sender Overtaken other (closes, same) = absurd cc

pub says_so : (g : Group) (answer : Answer) (new : Group) (Accepts : Answer → Group → Type 0) (v : Verdict) (code : Code) → v ≡ Refused code → ByVerdict v Accepts g answer new → Says code answer
says_so g answer new Accepts v code is step =
    let so : ByVerdict (Refused code) Accepts g answer new = subst (λ w. ByVerdict w Accepts g answer new) is step in (refusal code, so.0, refl)

-- ---- who else has the instance

other_apart : (records : Records) (m : Text) (instance : Option Text) (old : Member) → other_with records m instance ≡ Some old → old.id ≢ m
other_apart records m None old is = absurd (not_none old is)
other_apart records m (Some j) old is = by (other_id_with records m j) refl is
  where
    at : (k : Text) (o : Option Record) → option_map (λ (r : Record). record { id = k; kept = r }) o ≡ Some old → old.id ≡ k
    at k None is = absurd (not_none old is)
    at k (Some r) is = ap (λ (x : Member). x.id) (sym (some_is (record { id = k; kept = r }) old is))

    by : (o : Option Text) → other_id_with records m j ≡ o → member_at records o ≡ Some old → old.id ≢ m
    by None none is = absurd (not_none old is)
    by (Some k) there is = λ same.
        let passes = find_passes (λ n. not (eq_by_cmp text_cmp m n) && has_instance j (finite.get records n)) (finite.keys records) k there in
        true≢false
        (sym (text_ties m) ∙ ap (eq_by_cmp text_cmp m) (sym same ∙ at k (finite.get records k) is) ∙ not-true (eq_by_cmp text_cmp m k) (and_parts _ _ passes).0)

away_is : (e : Epoch) → is_away e ≡ true → e ≡ Away
away_is (At n) never = absurd (true≢false (sym never))
away_is Away so = refl

not_away : (e : Epoch) → not (is_away e) ≡ true → e ≢ Away
not_away (At n) so is = cc
not_away Away never is = true≢false (sym never)

is_not_away : (e : Epoch) → e ≢ Away → not (is_away e) ≡ true
is_not_away (At n) other = refl
is_not_away Away other = absurd (other refl)

module _ (g : Group) (sound : IsSound g) (q : Heartbeat) where
  -- the other one is who has the instance
  has_it : (old : Member) → other_with g.records q.member q.instance ≡ Some old → (instance : Text) → q.instance ≡ Some instance → HasItsInstance g q old.id old.kept
  has_it old is instance names =
      let there = other_is g.records q.member q.instance old is in
      record { other = other_apart g.records q.member q.instance old is; is_kept = there.0; instance = instance; names = names; has = there.1 ∙ names }

  is_the_other : (old : Member) → other_with g.records q.member q.instance ≡ Some old → (n : Text) (r : Record) → HasItsInstance g q n r → r ≡ old.kept
  is_the_other old is n r has =
      let there = other_is g.records q.member q.instance old is in
      let same : n ≡ old.id = sound.instances n old.id r old.kept has.instance has.is_kept there.0 has.has (there.1 ∙ has.names) in
      some_is r old.kept (sym has.is_kept ∙ ap (finite.get g.records) same ∙ there.0)

  named : (old : Member) → other_with g.records q.member q.instance ≡ Some old → (instance : Text) × (q.instance ≡ Some instance)
  named old is = by q.instance refl is
    where
      by : (o : Option Text) → q.instance ≡ o → other_with g.records q.member o ≡ Some old → (instance : Text) × (q.instance ≡ Some instance)
      by None names never = absurd (not_none old never)
      by (Some instance) names is = (instance, names)

  in_use : (own : Option Record) (other : Option Member) → record_under g.records q.member ≡ own → other_with g.records q.member q.instance ≡ other
      → is_unreleased own other ≡ true → IsInUse g q
  in_use own None is_own is_other never = absurd (nobody own never)
    where
      nobody : (own : Option Record) → is_unreleased own None ≡ true → ⊥
      nobody None never = true≢false (sym never)
      nobody (Some r) never = true≢false (sym never)
  in_use None (Some old) is_own is_other so =
      let it = named old is_other in by_present old.id old.kept (has_it old is_other it.0 it.1) (not_away old.kept.epoch so)
  in_use (Some r) (Some old) is_own is_other so =
      let it = named old is_other in by_any old.id old.kept (has_it old is_other it.0 it.1) (r, own_is g.records q.member r is_own)

  nobody_else : other_with g.records q.member q.instance ≡ None → (n : Text) (r : Record) → ¬ HasItsInstance g q n r
  nobody_else none n r has = no_other g.records q.member q.instance none n r has.instance has.other has.is_kept has.names has.has

  no_record : record_under g.records q.member ≡ None → ¬ IsMember g q
  no_record none (r, there) = not_none r (sym (own_none g.records q.member sound.named none) ∙ there)

  unreleased : (own : Option Record) (other : Option Member) → record_under g.records q.member ≡ own → other_with g.records q.member q.instance ≡ other
      → IsInUse g q → is_unreleased own other ≡ true
  unreleased own None is_own is_other (by_present n r has present) = absurd (nobody_else is_other n r has)
  unreleased own None is_own is_other (by_any n r has member) = absurd (nobody_else is_other n r has)
  unreleased None (Some old) is_own is_other (by_present n r has present) =
      is_not_away old.kept.epoch (λ away. present (ap (λ (x : Record). x.epoch) (is_the_other old is_other n r has) ∙ away))
  unreleased None (Some old) is_own is_other (by_any n r has member) = absurd (no_record is_own member)
  unreleased (Some r) (Some old) is_own is_other used = refl

  one_too_many : (own : Option Record) (other : Option Member) → record_under g.records q.member ≡ own → other_with g.records q.member q.instance ≡ other
      → is_too_many own other (finite.len g.records) ≡ true → IsOneTooMany g q
  one_too_many None None is_own is_other so =
      record { newcomer = no_record is_own; nobody = nobody_else is_other; many = leb-true MOST_MEMBERS (finite.len g.records) so }
  one_too_many None (Some old) is_own is_other never = absurd (true≢false (sym never))
  one_too_many (Some r) other is_own is_other never = absurd (true≢false (sym never))

  -- a newcomer takes over from nobody
  too_many : (own : Option Record) (other : Option Member) → record_under g.records q.member ≡ own → other_with g.records q.member q.instance ≡ other
      → IsOneTooMany g q → (is_unreleased own other ≡ false) × (is_too_many own other (finite.len g.records) ≡ true)
  too_many None None is_own is_other many = (refl, le-leb MOST_MEMBERS (finite.len g.records) many.many)
  too_many None (Some old) is_own is_other many = let it = named old is_other in absurd (many.nobody old.id old.kept (has_it old is_other it.0 it.1))
  too_many (Some r) other is_own is_other many = absurd (many.newcomer (r, own_is g.records q.member r is_own))

-- ---- joins

in_use_not_allowed : ¬ Allowed codes.UnreleasedInstanceId
in_use_not_allowed (inl never) = cc
in_use_not_allowed (inr never) = cc

too_many_not_allowed : ¬ Allowed codes.GroupMaxSizeReached
too_many_not_allowed (inl never) = cc
too_many_not_allowed (inr never) = cc

abbrev pub Rest : Bool → Bool → Verdict
Rest unreleased many = cond unreleased (Refused codes.UnreleasedInstanceId) (cond many (Refused codes.GroupMaxSizeReached) Accepted)

rest_in_use : (unreleased many : Bool) → Rest unreleased many ≡ Refused codes.UnreleasedInstanceId → unreleased ≡ true
rest_in_use true many is = refl
rest_in_use false true is = absurd cc
rest_in_use false false is = absurd cc

rest_too_many : (unreleased many : Bool) → Rest unreleased many ≡ Refused codes.GroupMaxSizeReached → many ≡ true
rest_too_many true many is = absurd cc
rest_too_many false true is = refl
rest_too_many false false is = absurd cc

module _ (g : Group) (a : Arrival) (answer : Answer) (new : Group) (sound : IsSound g) (step : HeartbeatStep g a answer new) (right : IsRight a.heartbeat)
    (is_join : a.heartbeat.epoch ≡ pos 0) (in_time : ¬ IsOvertaken g a) where
  abbrev TheSender : Sender
  TheSender = sender_of g.records a.heartbeat

  abbrev Unreleased : Bool
  Unreleased = is_unreleased TheSender.own TheSender.other

  abbrev Many : Bool
  Many = is_too_many TheSender.own TheSender.other (finite.len g.records)

  abbrev Late : Bool
  Late = is_overtaken a.stamp TheSender.own || is_of_past g.past a.heartbeat.member a.stamp

  checked : (invalid unsupported : Bool) → is_invalid a.heartbeat ≡ invalid → is_unsupported a.heartbeat ≡ unsupported → invalid ≡ false → unsupported ≡ false
      → ByVerdict (verdict_on Joins TheSender g a.heartbeat a.stamp) (StepOf Joins TheSender g a) g answer new
      → ByVerdict (cond Late Overtaken (Rest Unreleased Many)) (StepOf Joins TheSender g a) g answer new
  checked invalid unsupported is_inv is_uns valid supported =
      subst (λ w. ByVerdict w (StepOf Joins TheSender g a) g answer new)
      ((λ i. cond (is_inv i) (Refused codes.InvalidRequest) (cond (is_uns i) (Refused codes.UnsupportedAssignor) (cond Late Overtaken (Rest Unreleased Many))))
      ∙ (λ i. cond (valid i) (Refused codes.InvalidRequest) (cond (supported i) (Refused codes.UnsupportedAssignor) (cond Late Overtaken (Rest Unreleased Many)))))

  joined : ByVerdict (verdict_on Joins TheSender g a.heartbeat a.stamp) (StepOf Joins TheSender g a) g answer new
  joined = subst (λ (e : ℤ). ByVerdict (verdict_on (kind_of e) TheSender g a.heartbeat a.stamp) (StepOf (kind_of e) TheSender g a) g answer new) is_join step

  judged : ByVerdict (Rest Unreleased Many) (StepOf Joins TheSender g a) g answer new
  judged = by Late (checked (is_invalid a.heartbeat) (is_unsupported a.heartbeat) refl refl right.valid right.supported joined)
    where
      by : (late : Bool) → ByVerdict (cond late Overtaken (Rest Unreleased Many)) (StepOf Joins TheSender g a) g answer new
          → ByVerdict (Rest Unreleased Many) (StepOf Joins TheSender g a) g answer new
      by true (closes, same) = absurd (in_time ((closes_on_the_overtaken g a answer new sound step).0.0 closes).1)
      by false is = is

  pub joins_are_refused : JoinsAreRefused g a answer
  joins_are_refused =
      record {
        in_use = (
          λ says.
              in_use g sound a.heartbeat TheSender.own TheSender.other refl refl
              (rest_in_use Unreleased Many (verdict_is g a answer new codes.UnreleasedInstanceId says Joins TheSender (Rest Unreleased Many) in_use_not_allowed judged)),
          λ used.
              let so = unreleased g sound a.heartbeat TheSender.own TheSender.other refl refl used in
              says_so g answer new (StepOf Joins TheSender g a) (Rest Unreleased Many) codes.UnreleasedInstanceId (ap (λ b. Rest b Many) so) judged,
        );
        too_many = (
          λ says.
              one_too_many g sound a.heartbeat TheSender.own TheSender.other refl refl
              (rest_too_many Unreleased Many (verdict_is g a answer new codes.GroupMaxSizeReached says Joins TheSender (Rest Unreleased Many) too_many_not_allowed judged)),
          λ many.
              let so = too_many g sound a.heartbeat TheSender.own TheSender.other refl refl many in
              says_so g answer new (StepOf Joins TheSender g a) (Rest Unreleased Many) codes.GroupMaxSizeReached (λ i. Rest (so.0 i) (so.1 i)) judged,
        );
      }

pub joins_are_refused_exactly : JoinsAreRefusedExactly
joins_are_refused_exactly g a answer new sound step right is_join in_time = joins_are_refused g a answer new sound step right is_join in_time
