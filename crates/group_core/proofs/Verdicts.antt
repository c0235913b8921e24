-- The former checks come first, and what they let through meets the later ones.
use Rattle.std.proofs.Common.{◌≡◌, ◌≢◌, ◌≤ℤ◌, Err, ℕ, zero, suc, arith, Option, Some, None, sym, ℤ, pos, negsuc, Bool, true, false, cond, ◌&&◌, ◌||◌, List, [], ◌∷◌, ◌++◌, refl, ap, ◌∙◌, int_le}
use Rattle.std.specs.FinMap as finite
use Rattle.std.proofs.lemmas.Int.{ints}
use Rattle.group_types.specs.declared.code.Code.{Code}
use Rattle.group_types.specs.declared.code.Code.TheVariants as codes
use Rattle.group_types.specs.declared.stamp.Stamp.{Stamp}
use Rattle.group_types.specs.Request.{Heartbeat, Kind, Joins, Beats, Leaves, GoesAway, MeansNothing, kind_of, is_empty, is_invalid, is_invalid_as, is_unknown, is_unsupported}
use Rattle.group_types.specs.Group.{Grants, Group, Record}
use Rattle.group_types.specs.Members.{Members, members_of}
use Rattle.group_types.specs.Checks.{Check, Member, Verdict, Accepted, Refused, Sender, epoch_checks, first_of, is_too_many, is_unreleased, member_checks, request_checks, verdict_on}
use Rattle.group_types.proofs.Checked.{overtaken_not, passed, refused_not}
use Rattle.group_epochs.specs.declared.refusal.Refusal.{Refusal}
use Rattle.group_epochs.specs.declared.refusal.Refusal.TheVariants as refusals
use Rattle.group_epochs.specs.Checks.{verdict_of}
use Rattle.group_core.specs.Checks.{verdict_on_request}

-- ---- the former checks, and then the later ones

-- what the former refuse stands, whatever comes later
pub stopped : (former later : List Check) → first_of former ≢ Accepted → first_of (former ++ later) ≡ first_of former
stopped [] later refuses = absurd (refuses refl)
stopped (check ∷ former) later refuses =
    (elim check.0 as (λ b. cond b check.1 (first_of former) ≢ Accepted → cond b check.1 (first_of (former ++ later)) ≡ cond b check.1 (first_of former)) [
      | true ↦ λ _. refl
      | false ↦ stopped former later
    ]) refuses

abbrev pub AllRefuse : List Check → Type 0
AllRefuse [] = Unit {0}
AllRefuse (check ∷ checks) = (check.1 ≢ Accepted) × AllRefuse checks

-- what they let through meets the later ones
pub passed_on : (former later : List Check) → AllRefuse former → first_of former ≡ Accepted → first_of (former ++ later) ≡ first_of later
passed_on [] later refuse accepted = refl
passed_on (check ∷ former) later refuse accepted =
    (elim check.0 as (λ b. cond b check.1 (first_of former) ≡ Accepted → cond b check.1 (first_of (former ++ later)) ≡ first_of later) [
      | true ↦ λ is. absurd (refuse.0 is)
      | false ↦ passed_on former later refuse.1
    ]) accepted

both_refuse : (former later : List Check) → AllRefuse former → AllRefuse later → AllRefuse (former ++ later)
both_refuse [] later refuse then_refuse = then_refuse
both_refuse (check ∷ former) later refuse then_refuse = (refuse.0, both_refuse former later refuse.1 then_refuse)

request_refuse : (kind : Kind) (q : Heartbeat) → AllRefuse (request_checks kind q)
request_refuse Joins q = (refused_not codes.InvalidRequest, (refused_not codes.UnsupportedAssignor, tt))
request_refuse (Beats n) q = (refused_not codes.InvalidRequest, (refused_not codes.UnsupportedAssignor, tt))
request_refuse Leaves q = (refused_not codes.InvalidRequest, tt)
request_refuse GoesAway q = (refused_not codes.InvalidRequest, tt)
request_refuse MeansNothing q = (refused_not codes.InvalidRequest, tt)

member_refuse : (kind : Kind) (sender : Sender) (s : Members) (q : Heartbeat) (stamp : Stamp) → AllRefuse (member_checks kind sender s q stamp)
member_refuse Joins sender s q stamp = (overtaken_not, (refused_not codes.UnreleasedInstanceId, (refused_not codes.GroupMaxSizeReached, tt)))
member_refuse (Beats n) sender s q stamp = (refused_not codes.UnknownMemberId, (overtaken_not, tt))
member_refuse Leaves sender s q stamp = (refused_not codes.UnknownMemberId, (overtaken_not, tt))
member_refuse GoesAway sender s q stamp = (refused_not codes.UnknownMemberId, (overtaken_not, tt))
member_refuse MeansNothing sender s q stamp = (refused_not codes.UnknownMemberId, (overtaken_not, tt))

-- a refusal is no acceptance
pub refusal_stands : (refusal : Refusal) → verdict_of {X = Unit {0}} (Err refusal) ≡ Accepted → ⊥
refusal_stands (refusals.Refused code) is = cc
refusal_stands refusals.Overtaken is = cc

module _ (kind : Kind) (sender : Sender) (g : Group) (q : Heartbeat) (stamp : Stamp) where
  abbrev OfRequest : List Check
  OfRequest = request_checks kind q

  abbrev OfMembers : List Check
  OfMembers = member_checks kind sender (members_of g) q stamp

  abbrev OfEpoch : List Check
  OfEpoch = epoch_checks kind sender g.grants q

  -- refused by the request
  pub refused_by_request : (code : Code) → first_of OfRequest ≡ Refused code → verdict_on kind sender g q stamp ≡ Refused code
  refused_by_request code is =
      let first = stopped OfRequest OfMembers (λ accepted. refused_not code (sym is ∙ accepted)) ∙ is in
      stopped (OfRequest ++ OfMembers) OfEpoch (λ accepted. refused_not code (sym first ∙ accepted)) ∙ first

  -- let through by it, and refused by the records
  pub refused_by_members : first_of OfRequest ≡ Accepted → first_of OfMembers ≢ Accepted → verdict_on kind sender g q stamp ≡ first_of OfMembers
  refused_by_members valid refuses =
      let first = passed_on OfRequest OfMembers (request_refuse kind q) valid in
      stopped (OfRequest ++ OfMembers) OfEpoch (λ accepted. refuses (sym first ∙ accepted)) ∙ first

  -- let through by both
  pub by_epoch : first_of OfRequest ≡ Accepted → first_of OfMembers ≡ Accepted → verdict_on kind sender g q stamp ≡ first_of OfEpoch
  by_epoch valid in_time =
      passed_on (OfRequest ++ OfMembers) OfEpoch
      (both_refuse OfRequest OfMembers (request_refuse kind q) (member_refuse kind sender (members_of g) q stamp))
      (passed_on OfRequest OfMembers (request_refuse kind q) valid ∙ in_time)

-- an epoch from 1 on is that of a beat
pub beats_from_one : (epoch : ℤ) → pos 1 ≤ℤ epoch → (sender : Sender) (grants : Grants) (q : Heartbeat) (v : Verdict)
    → ((n : ℕ) → epoch ≡ pos n → v ≡ first_of (epoch_checks (Beats n) sender grants q))
    → v ≡ first_of (epoch_checks (kind_of epoch) sender grants q)
beats_from_one (pos zero) above sender grants q v is = absurd (omega (arith, ints, above))
beats_from_one (pos (suc n)) above sender grants q v is = is (suc n) refl
beats_from_one (negsuc n) above sender grants q v is = absurd (omega (arith, ints, above))

-- what the checks on the request come to, of any kind
on_request : (epoch : ℤ) (q : Heartbeat) → q.epoch ≡ epoch
    → first_of (request_checks (kind_of epoch) q) ≡ cond (is_invalid q) (Refused codes.InvalidRequest) (cond (is_unsupported q) (Refused codes.UnsupportedAssignor) Accepted)
on_request (pos zero) q at = refl
on_request (pos (suc n)) q at = refl
on_request (negsuc zero) q at =
    ap (λ b. cond (is_invalid q) (Refused codes.InvalidRequest) (cond b (Refused codes.UnsupportedAssignor) Accepted)) (sym (ap (λ e. int_le (pos 0) e && is_unknown q.assignor) at))
on_request (negsuc (suc zero)) q at =
    ap (λ b. cond (is_invalid q) (Refused codes.InvalidRequest) (cond b (Refused codes.UnsupportedAssignor) Accepted)) (sym (ap (λ e. int_le (pos 0) e && is_unknown q.assignor) at))
on_request (negsuc (suc (suc n))) q at =
    ap (λ b. cond b (Refused codes.InvalidRequest) (cond (is_unsupported q) (Refused codes.UnsupportedAssignor) Accepted))
    (sym (ap (λ e. is_empty q.group || is_invalid_as q (kind_of e)) at ∙ or_true (is_empty q.group)))
  where
    or_true : (b : Bool) → (b || true) ≡ true
    or_true true = refl
    or_true false = refl

pub request_verdict : (q : Heartbeat) → verdict_on_request q ≡ cond (is_invalid q) (Refused codes.InvalidRequest) (cond (is_unsupported q) (Refused codes.UnsupportedAssignor) Accepted)
request_verdict q = on_request q.epoch q refl

-- ---- an accepted beat

-- its member has a record
pub beats_accepted : (n : ℕ) (own : Option Record) (other : Option Member) (g : Group) (q : Heartbeat) (stamp : Stamp)
    → verdict_on (Beats n) (record { own = own; other = other }) g q stamp ≡ Accepted → (r : Record) × (own ≡ Some r)
beats_accepted n None other g q stamp is =
    let valid = passed Accepted _ _ _ (refused_not codes.InvalidRequest) is in
    let supported = passed Accepted _ _ _ (refused_not codes.UnsupportedAssignor) valid.1 in
    absurd (refused_not codes.UnknownMemberId supported.1)
beats_accepted n (Some r) other g q stamp is = (r, refl)

-- ---- an accepted join

-- its instance is released, and the group takes its member
pub joins_accepted : (sender : Sender) (g : Group) (q : Heartbeat) (stamp : Stamp) → verdict_on Joins sender g q stamp ≡ Accepted
    → (is_unreleased sender.own sender.other ≡ false) × (is_too_many sender.own sender.other (finite.len g.records) ≡ false)
joins_accepted sender g q stamp is =
    let valid = passed Accepted _ _ _ (refused_not codes.InvalidRequest) is in
    let supported = passed Accepted _ _ _ (refused_not codes.UnsupportedAssignor) valid.1 in
    let in_time = passed Accepted _ _ _ overtaken_not supported.1 in
    let released = passed Accepted _ _ _ (refused_not codes.UnreleasedInstanceId) in_time.1 in
    let room = passed Accepted _ _ _ (refused_not codes.GroupMaxSizeReached) released.1 in
    (released.0, room.0)
