-- When a group can't go on.
use Rattle.std.proofs.Common.{◌≡◌, ◌≢◌, ◌≤◌, ℕ, zero, suc, ℤ, pos, negsuc, Bool, true, false, cond, ◌&&◌, max, nat_le, List, [], ◌∷◌, Option, Some, None, MatchOption, refl, sym, ap, subst, ◌∙◌, true≢false}
use Rattle.std.specs.Option.{option_and_then, option_or}
use Rattle.std.specs.FinMap as finite
use Rattle.std.proofs.lemmas.Bool.{and_parts, leb-true, le-leb}
use Rattle.group_types.specs.declared.code.Code.TheVariants as codes
use Rattle.group_types.specs.declared.stamp.Stamp.{Stamp}
use Rattle.group_types.specs.Limits.{GREATEST_EPOCH}
use Rattle.group_types.specs.Text.{Text}
use Rattle.group_types.specs.AssignorName.{assignor_named}
use Rattle.group_types.specs.Request.{Heartbeat, Kind, Joins, Beats, Leaves, GoesAway, MeansNothing, kind_of}
use Rattle.group_types.specs.Group.{Record, Group}
use Rattle.group_types.specs.Given.{AreNamesGiven, IsAssignorGiven}
use Rattle.group_types.specs.Join.{IsNamed, IsSerial, Name, name_of_serial, names_after, record_of_beat, record_of_join}
use Rattle.group_types.specs.Renewal.{IsChange, changed_if, view_for}
use Rattle.group_types.specs.Checks.{Verdict, Accepted, Refused, Overtaken, Check, Member, Sender, checks_of, first_of, record_under, sender_of, verdict_on}
use Rattle.group_types.specs.HeartbeatStep as machine
use Rattle.group_types.specs.HeartbeatStep.{Answer, Replied, Closes, Reply, Arrival, Draft, BeatsWith, ByVerdict, GoesAwayWith, HeartbeatStep, IsRefused, StepOf, TakesIn, acceptance, draft_of, draft_of_beat, draft_under, farewell, refusal}
use Rattle.group_types.specs.Sound.{IsSound}
use Rattle.group_types.specs.Fencing.{IsAcceptedAs}
use Rattle.group_types.proofs.Accepted.{Came, unchanged, has_left, went_away, taken_in, came, nobody, refusal_fails}
use Rattle.group_types.proofs.Consistent.{consistent}
use Rattle.group_types.proofs.FollowedTargets.{epoch_is}
use Rattle.group_types.proofs.Checked.{unavailable_is}
use Rattle.group_types.proofs.Lookups.{not_none, some_is}
use Rattle.group_types.proofs.ViewsFor.{view_for-insert}
use Rattle.machine_laws.specs.Codes.{Says}
use Rattle.machine_laws.proofs.ExactCodes.{reply_of}
use Rattle.machine_laws.specs.Ends.{ChangesNothing, GroupsEnd, IsAtItsEnd, no_epoch, no_serial}

-- ---- no check answers so

abbrev IsAnother : Verdict → Type 0
IsAnother Accepted = Unit {0}
IsAnother (Refused code) = code ≢ codes.CoordinatorNotAvailable
IsAnother Overtaken = Unit {0}

abbrev AllOthers : List Check → Type 0
AllOthers [] = Unit {0}
AllOthers (check ∷ checks) = IsAnother check.1 × AllOthers checks

first_is_another : (checks : List Check) → AllOthers checks → IsAnother (first_of checks)
first_is_another [] all = tt
first_is_another (check ∷ checks) all = elim check.0 as (λ b. IsAnother (cond b check.1 (first_of checks))) [ true ↦ all.0 | false ↦ first_is_another checks all.1 ]

invalid : codes.InvalidRequest ≢ codes.CoordinatorNotAvailable
invalid is = cc

unsupported : codes.UnsupportedAssignor ≢ codes.CoordinatorNotAvailable
unsupported is = cc

unknown : codes.UnknownMemberId ≢ codes.CoordinatorNotAvailable
unknown is = cc

unreleased : codes.UnreleasedInstanceId ≢ codes.CoordinatorNotAvailable
unreleased is = cc

too_many : codes.GroupMaxSizeReached ≢ codes.CoordinatorNotAvailable
too_many is = cc

fenced : codes.FencedMemberEpoch ≢ codes.CoordinatorNotAvailable
fenced is = cc

success : codes.NoError ≢ codes.CoordinatorNotAvailable
success is = cc

verdicts_differ : (kind : Kind) (sender : Sender) (g : Group) (q : Heartbeat) (stamp : Stamp) → IsAnother (verdict_on kind sender g q stamp)
verdicts_differ Joins sender g q stamp = first_is_another (checks_of Joins sender g q stamp) (invalid, (unsupported, (tt, (unreleased, (too_many, tt)))))
verdicts_differ (Beats n) sender g q stamp = first_is_another (checks_of (Beats n) sender g q stamp) (invalid, (unsupported, (unknown, (tt, (fenced, tt)))))
verdicts_differ Leaves sender g q stamp = first_is_another (checks_of Leaves sender g q stamp) (invalid, (unknown, (tt, tt)))
verdicts_differ GoesAway sender g q stamp = first_is_another (checks_of GoesAway sender g q stamp) (invalid, (unknown, (tt, tt)))
verdicts_differ MeansNothing sender g q stamp = invalid

-- ---- what is answered so

module _ (g : Group) (a : Arrival) (answer : Answer) (new : Group) (says : Says codes.CoordinatorNotAvailable answer) where
  not_so : (reply : Reply) → answer ≡ Replied reply → reply.code ≢ codes.CoordinatorNotAvailable → ⊥
  not_so reply is other = other (ap (λ (r : Reply). r.code) (reply_of reply says.0 (sym is ∙ says.1)) ∙ says.2)

  -- such a draft is a change, and the epoch can't rise
  refuses : (d : Draft) → TakesIn g d a.heartbeat a.image answer new
      → (change : Bool) × IsChange change d.before d.after g.view (view_for a.image d.group.records) × (change ≡ true) × (GREATEST_EPOCH ≤ g.epoch)
  refuses d takes = by (takes.change && nat_le GREATEST_EPOCH g.epoch) refl takes.step
    where
      by : (b : Bool) → (takes.change && nat_le GREATEST_EPOCH g.epoch) ≡ b
          → ByVerdict (cond b (Refused codes.CoordinatorNotAvailable) Accepted) (machine.Stages (changed_if takes.change d.group (view_for a.image d.group.records)) d a.heartbeat) g answer new
          → (change : Bool) × IsChange change d.before d.after g.view (view_for a.image d.group.records) × (change ≡ true) × (GREATEST_EPOCH ≤ g.epoch)
      by true both is = let parts = and_parts takes.change (nat_le GREATEST_EPOCH g.epoch) both in (takes.change, takes.is_change, parts.0, leb-true GREATEST_EPOCH g.epoch parts.1)
      by false both stages = absurd (not_so (acceptance d.id stages.kept stages.told) stages.answers success)

  no_name : (m : Text) → IsNamed g m None → (m ≡ []) × IsSerial g None
  no_name [] (None, is_serial, is) = (refl, is_serial)
  no_name [] (Some n, is_serial, is) = absurd (not_none (name_of_serial g n) is)
  no_name (c ∷ m) is = absurd (not_none (record { id = c ∷ m; next_serial = g.serial }) is)

  at_end : (e : ℤ) → a.heartbeat.epoch ≡ e → (sender : Sender) → StepOf (kind_of e) sender g a answer new → IsAtItsEnd g a
  at_end (pos zero) epoch sender step = by step.name step.is_named step.joins
    where
      by : (o : Option Name) → IsNamed g a.heartbeat.member o
          → MatchOption o (IsRefused codes.CoordinatorNotAvailable g answer new) (λ n. TakesIn g (draft_under n sender g a) a.heartbeat a.image answer new) → IsAtItsEnd g a
      by None named is = let it = no_name a.heartbeat.member named in no_serial epoch it.0 it.1
      by (Some name) named takes = no_epoch 0 epoch (refuses (draft_under name sender g a) takes).3
  at_end (pos (suc n)) epoch sender step = by sender.own step
    where
      by : (own : Option Record) → BeatsWith own g a answer new → IsAtItsEnd g a
      by None never = absurd never
      by (Some r) takes = no_epoch (suc n) epoch (refuses (draft_of_beat g (max g.clock a.moment) r a.heartbeat a.stamp) takes).3
  at_end (negsuc zero) epoch sender (is, leaves) = absurd (not_so (farewell a.heartbeat.member (negsuc 0)) is success)
  at_end (negsuc (suc zero)) epoch sender step = by sender.own step
    where
      by : (own : Option Record) → GoesAwayWith own g a answer new → IsAtItsEnd g a
      by None never = absurd never
      by (Some r) (is, leaves) = absurd (not_so (farewell a.heartbeat.member (negsuc 1)) is success)
  at_end (negsuc (suc (suc n))) epoch sender never = absurd never

  -- it is the answer to what was accepted by all checks
  accepted : (kind : Kind) (sender : Sender) (v : Verdict) → IsAnother v → ByVerdict v (StepOf kind sender g a) g answer new → StepOf kind sender g a answer new
  accepted kind sender Accepted other step = step
  accepted kind sender (Refused code) other (is, same) = absurd (not_so (refusal code) is other)
  accepted kind sender Overtaken other (closes, same) = absurd cc

  taken : HeartbeatStep g a answer new → StepOf (kind_of a.heartbeat.epoch) (sender_of g.records a.heartbeat) g a answer new
  taken step =
      accepted (kind_of a.heartbeat.epoch) (sender_of g.records a.heartbeat) _
      (verdicts_differ (kind_of a.heartbeat.epoch) (sender_of g.records a.heartbeat) g a.heartbeat a.stamp) step

  reasons : HeartbeatStep g a answer new → IsAtItsEnd g a
  reasons step = at_end a.heartbeat.epoch refl (sender_of g.records a.heartbeat) (taken step)

  -- ---- a member that changes nothing

  module _ (r : Record) (sound : IsSound g) (same : ChangesNothing g a r) where
    same_names : (o : Option (List Text)) → AreNamesGiven o r.names r.names → r.names ≡ names_after r.names o
    same_names None is = refl
    same_names (Some given) is = is

    same_assignor : (o : Option Text) → IsAssignorGiven o r.assignor r.assignor → r.assignor ≡ option_or (option_and_then assignor_named o) r.assignor
    same_assignor None is = refl
    same_assignor (Some given) (name, named, is) = is ∙ ap (λ o. option_or o r.assignor) (sym named)

    -- of a draft of the member's own record
    nothing_changes : (h : Group) → h.records ≡ g.records → (after : Record) → after.names ≡ names_after r.names a.heartbeat.names
        → after.assignor ≡ option_or (option_and_then assignor_named a.heartbeat.assignor) r.assignor
        → TakesIn g (draft_of h (max g.clock a.moment) a.heartbeat.member (Some r) after) a.heartbeat a.image answer new → ⊥
    nothing_changes h records after names assignor takes =
        let it = refuses (draft_of h (max g.clock a.moment) a.heartbeat.member (Some r) after) takes in by it.0 it.2 it.1
      where
        now_names : after.names ≡ r.names
        now_names = names ∙ sym (same_names a.heartbeat.names same.names)

        view : g.view ≡ view_for a.image (finite.insert h.records a.heartbeat.member after)
        view =
            sym same.view ∙ ap (view_for a.image) (sym records)
            ∙ sym (view_for-insert a.image h.records a.heartbeat.member r after (ap (λ rs. finite.get rs a.heartbeat.member) records ∙ same.kept) now_names)

        by : (change : Bool) → change ≡ true → IsChange change (Some r) after g.view (view_for a.image (finite.insert h.records a.heartbeat.member after)) → ⊥
        by true so changes = changes (record { names = sym now_names; assignor = same_assignor a.heartbeat.assignor same.assignor ∙ sym assignor; view = view })
        by false never changes = absurd cc

    own : (m : Text) → m ≡ a.heartbeat.member → record_under g.records m ≡ Some r
    own [] is = absurd (not_none r (sym sound.named ∙ ap (finite.get g.records) is ∙ same.kept))
    own (c ∷ m) is = ap (finite.get g.records) is ∙ same.kept

    is_own : (sender_of g.records a.heartbeat).own ≡ Some r
    is_own = own a.heartbeat.member refl

    named_so : (m : Text) (name : Name) → m ≡ a.heartbeat.member → IsNamed g m (Some name) → name.id ≡ m
    named_so [] name is named = absurd (not_none r (sym sound.named ∙ ap (finite.get g.records) is ∙ same.kept))
    named_so (c ∷ m) name is named = ap (λ (n : Name). n.id) (some_is name (record { id = c ∷ m; next_serial = g.serial }) named)

    unchanged_so : (n : ℕ) → a.heartbeat.epoch ≡ pos n → HeartbeatStep g a answer new → ⊥
    unchanged_so zero epoch step =
        by (sender_of g.records a.heartbeat).own is_own
        (subst (λ (e : ℤ). StepOf (kind_of e) (sender_of g.records a.heartbeat) g a answer new) epoch (taken step))
      where
        joins : (o : Option Member) (name : Name) → name.id ≡ a.heartbeat.member
            → TakesIn g (draft_under name (record { own = Some r; other = o }) g a) a.heartbeat a.image answer new → ⊥
        joins o name id takes =
            nothing_changes (record g { serial = name.next_serial }) refl (record_of_join (Some r) a.heartbeat a.stamp (max g.clock a.moment)) refl refl
            (subst (λ m. TakesIn g (draft_of (record g { serial = name.next_serial }) (max g.clock a.moment) m (Some r) (record_of_join (Some r) a.heartbeat a.stamp (max g.clock a.moment))) a.heartbeat a.image answer new) id takes)

        named : (own : Option Record) → own ≡ Some r → (o : Option Member) (name : Option Name) → IsNamed g a.heartbeat.member name
            → MatchOption name (IsRefused codes.CoordinatorNotAvailable g answer new)
            (λ n. TakesIn g (draft_under n (record { own = own; other = o }) g a) a.heartbeat a.image answer new) → ⊥
        named own is o None is_named refused =
            let it = no_name a.heartbeat.member is_named in not_none r (sym sound.named ∙ ap (finite.get g.records) (sym it.0) ∙ same.kept)
        named own is o (Some name) is_named takes =
            joins o name (named_so a.heartbeat.member name refl is_named)
            (subst (λ own. TakesIn g (draft_under name (record { own = own; other = o }) g a) a.heartbeat a.image answer new) is takes)

        by : (own : Option Record) → own ≡ Some r → StepOf Joins (sender_of g.records a.heartbeat) g a answer new → ⊥
        by own is step = named (sender_of g.records a.heartbeat).own is_own (sender_of g.records a.heartbeat).other step.name step.is_named step.joins
    unchanged_so (suc n) epoch step =
        by (sender_of g.records a.heartbeat).own is_own
        (subst (λ (e : ℤ). StepOf (kind_of e) (sender_of g.records a.heartbeat) g a answer new) epoch (taken step))
      where
        by : (own : Option Record) → own ≡ Some r → BeatsWith own g a answer new → ⊥
        by None never step = absurd step
        by (Some s) is takes =
            nothing_changes g refl (record_of_beat r a.heartbeat a.stamp (max g.clock a.moment)) refl refl
            (subst (λ x. TakesIn g (draft_of_beat g (max g.clock a.moment) x a.heartbeat a.stamp) a.heartbeat a.image answer new) (some_is s r is) takes)

-- ---- at the greatest epoch

module _ (g : Group) (a : Arrival) (m : Text) (answer : Answer) (new : Group) (n : ℕ) (at : a.heartbeat.epoch ≡ pos n) (accepted : IsAcceptedAs m answer) (most : 2147483647 ≤ g.epoch) where
  stays : Came g a answer new → new.epoch ≡ g.epoch
  stays (unchanged same fails) = absurd (nobody answer fails m accepted)
  stays (has_left r epoch there later answers is) = absurd cc
  stays (went_away r epoch there later answers is) = absurd cc
  stays (taken_in d drafting stages takes) = by (takes.change && nat_le GREATEST_EPOCH g.epoch) refl takes.step
    where
      rest : (change : Bool) → (change && nat_le GREATEST_EPOCH g.epoch) ≡ false
          → machine.Stages (changed_if change d.group (view_for a.image d.group.records)) d a.heartbeat answer new → new.epoch ≡ g.epoch
      rest true never steps = absurd (true≢false (sym (le-leb GREATEST_EPOCH g.epoch most) ∙ never))
      rest false both steps = epoch_is g a answer new d drafting d.group refl steps ∙ drafting.ready.epoch

      by : (b : Bool) → (takes.change && nat_le GREATEST_EPOCH g.epoch) ≡ b
          → ByVerdict (cond b (Refused codes.CoordinatorNotAvailable) Accepted) (machine.Stages (changed_if takes.change d.group (view_for a.image d.group.records)) d a.heartbeat) g answer new
          → new.epoch ≡ g.epoch
      by true both is = absurd (nobody answer (refusal_fails answer codes.CoordinatorNotAvailable unavailable_is is.0) m accepted)
      by false both steps = rest takes.change both steps

pub groups_end : GroupsEnd
groups_end =
    record {
      reasons = λ g a answer new step says. reasons g a answer new says step;
      unchanged = λ g a answer new n r sound step at same says. unchanged_so g a answer new says r sound same n at step;
      changed = λ g a m answer new n sound step at accepted most. stays g a m answer new n at accepted most (came g (consistent g sound) a answer new step);
    }
