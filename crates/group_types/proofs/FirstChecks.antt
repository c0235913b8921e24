-- The first checks of a heartbeat.
use Rattle.std.proofs.Common.{◌≡◌, ℕ, zero, suc, ℤ, pos, Bool, true, false, cond, is_none, List, [], ◌∷◌, refl, ap, subst, ◌∙◌}
use Rattle.group_types.specs.declared.code.Code.{Code}
use Rattle.group_types.specs.declared.code.Code.TheVariants as codes
use Rattle.group_types.specs.Request.{Kind, Joins, Beats, Leaves, GoesAway, MeansNothing, is_invalid, is_unsupported, kind_of}
use Rattle.group_types.specs.Group.{Group}
use Rattle.group_types.specs.Checks.{Check, Verdict, Refused, checks_of, first_of, Sender, sender_of, verdict_on}
use Rattle.group_types.specs.HeartbeatStep.{Answer, Arrival, ByVerdict, StepBy, StepOf}
use Rattle.group_types.specs.FirstChecks.{HeartbeatsAreCheckedInOrder, IsRefusedWith}
use Rattle.group_types.proofs.Consistent.{consistent}
use Rattle.group_types.proofs.Checked.{own_so}

abbrev behind : List Check → List Check
behind [] = []
behind (check ∷ checks) = checks

applies : (b : Bool) (v : Verdict) (rest : List Check) → b ≡ true → first_of ((b, v) ∷ rest) ≡ v
applies b v rest so = ap (λ b. cond b v (first_of rest)) so

passes : (b : Bool) (v : Verdict) (rest : List Check) → b ≡ false → first_of ((b, v) ∷ rest) ≡ first_of rest
passes b v rest so = ap (λ b. cond b v (first_of rest)) so

module _ (g : Group) (a : Arrival) (answer : Answer) (new : Group) where
  abbrev TheSender : Sender
  TheSender = sender_of g.records a.heartbeat

  abbrev Checks : Kind → List Check
  Checks kind = checks_of kind TheSender g a.heartbeat a.stamp

  refused : (kind : Kind) (code : Code) → verdict_on kind TheSender g a.heartbeat a.stamp ≡ Refused code → StepBy kind TheSender g a answer new → IsRefusedWith code answer
  refused kind code is step = (subst (λ v. ByVerdict v (StepOf kind TheSender g a) g answer new) is step).0

  invalid : (kind : Kind) → is_invalid a.heartbeat ≡ true → verdict_on kind TheSender g a.heartbeat a.stamp ≡ Refused codes.InvalidRequest
  invalid Joins so = applies (is_invalid a.heartbeat) (Refused codes.InvalidRequest) (behind (Checks Joins)) so
  invalid (Beats n) so = applies (is_invalid a.heartbeat) (Refused codes.InvalidRequest) (behind (Checks (Beats n))) so
  invalid Leaves so = applies (is_invalid a.heartbeat) (Refused codes.InvalidRequest) (behind (Checks Leaves)) so
  invalid GoesAway so = applies (is_invalid a.heartbeat) (Refused codes.InvalidRequest) (behind (Checks GoesAway)) so
  invalid MeansNothing so = refl

  unsupported : (n : ℕ) → is_invalid a.heartbeat ≡ false → is_unsupported a.heartbeat ≡ true → verdict_on (kind_of (pos n)) TheSender g a.heartbeat a.stamp ≡ Refused codes.UnsupportedAssignor
  unsupported zero valid so =
      passes (is_invalid a.heartbeat) (Refused codes.InvalidRequest) (behind (Checks Joins)) valid ∙ applies (is_unsupported a.heartbeat) (Refused codes.UnsupportedAssignor) (behind (behind (Checks Joins))) so
  unsupported (suc n) valid so =
      passes (is_invalid a.heartbeat) (Refused codes.InvalidRequest) (behind (Checks (Beats (suc n)))) valid ∙ applies (is_unsupported a.heartbeat) (Refused codes.UnsupportedAssignor) (behind (behind (Checks (Beats (suc n))))) so

  unknown : (n : ℕ) → is_invalid a.heartbeat ≡ false → is_unsupported a.heartbeat ≡ false → is_none TheSender.own ≡ true
      → verdict_on (Beats (suc n)) TheSender g a.heartbeat a.stamp ≡ Refused codes.UnknownMemberId
  unknown n valid supported none =
      passes (is_invalid a.heartbeat) (Refused codes.InvalidRequest) (behind (Checks (Beats (suc n)))) valid ∙ passes (is_unsupported a.heartbeat) (Refused codes.UnsupportedAssignor) (behind (behind (Checks (Beats (suc n))))) supported
      ∙ applies (is_none TheSender.own) (Refused codes.UnknownMemberId) (behind (behind (behind (Checks (Beats (suc n)))))) none

pub heartbeats_are_checked_in_order : HeartbeatsAreCheckedInOrder
heartbeats_are_checked_in_order g a answer new sound step =
    record {
      invalid = λ so. refused g a answer new (kind_of a.heartbeat.epoch) codes.InvalidRequest (invalid g a answer new (kind_of a.heartbeat.epoch) so) step;
      unsupported = λ n epoch valid so.
          refused g a answer new (kind_of (pos n)) codes.UnsupportedAssignor (unsupported g a answer new n valid so) (at (pos n) epoch);
      unknown = λ n epoch valid supported absent.
          refused g a answer new (Beats (suc n)) codes.UnknownMemberId
          (unknown g a answer new n valid supported (ap is_none (own_so g.records a.heartbeat.member (consistent g sound).named ∙ absent))) (at (pos (suc n)) epoch);
    }
  where
    at : (z : ℤ) → a.heartbeat.epoch ≡ z → StepBy (kind_of z) (sender_of g.records a.heartbeat) g a answer new
    at z is = subst (λ e. StepBy (kind_of e) (sender_of g.records a.heartbeat) g a answer new) is step
