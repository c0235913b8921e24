use Rattle.std.proofs.Common.{◌≡◌, MatchOption, None, Some, sym, subst, ap, ◌∙◌, true≢false}
use Rattle.std.specs.Option.{option_copied}
use Rattle.group_types.specs.Text.{Text}
use Rattle.group_types.specs.Checks.{other_with}
use Rattle.group_types.proofs.Sharing.{another_has, nobody_has, only_itself}
use Rattle.group_epochs.proofs.records.Records.other_of.Goals as goal

pub returns-in_err-id : goal.returns-in_err-id
returns-in_err-id c =
    let s = c.args.self.now in
    let q = c.args.request.now in
    let m : Text = q.member_id.now in
    let none : other_with s.records m (option_copied q.instance_id) ≡ None =
    ap (λ o. other_with s.records m (option_copied o)) c.in_ok-request.was ∙ nobody_has s.records c.requires.instances m c.in_ok-request.field-0.now c.in_err-id.ensures in
    subst (λ o. MatchOption o (other_with s.records m (option_copied q.instance_id) ≡ None) (λ found. other_with s.records m (option_copied q.instance_id) ≡ Some (record { id = found.0.now; kept = found.1.now })))
    (sym c.from_residual-in_err-id.ensures) none

pub returns-then-is : goal.returns-then-is
returns-then-is c =
    let s = c.args.self.now in
    let q = c.args.request.now in
    let m : Text = q.member_id.now in
    let same : c.in_ok-id.id.now ≡ m = c.is.ensures.same.0 c.if-is.true in
    ap (λ o. other_with s.records m (option_copied o)) c.in_ok-request.was
    ∙ only_itself s.records c.requires.instances m c.in_ok-request.field-0.now c.in_ok-id.record.now
    (ap (Rattle.std.specs.FinMap.get s.records) (sym same) ∙ c.in_ok-id.ensures.0) c.in_ok-id.ensures.1

pub returns : goal.returns
returns c =
    let s = c.args.self.now in
    let q = c.args.request.now in
    let m : Text = q.member_id.now in
    ap (λ o. other_with s.records m (option_copied o)) c.in_ok-request.was
    ∙ another_has s.records c.requires.instances m c.in_ok-request.field-0.now c.in_ok-id.id.now c.in_ok-id.record.now c.in_ok-id.ensures.0 c.in_ok-id.ensures.1
    (λ same. true≢false (sym (c.is.ensures.same.1 same) ∙ c.if-is.false))
