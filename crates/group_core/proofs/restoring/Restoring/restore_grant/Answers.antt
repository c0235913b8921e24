use Rattle.std.proofs.Common.{◌≡◌, Bor, Option, Some, None, is_some, not, IsTrue, refl, sym, ap, ◌∙◌}
use Rattle.std.specs.Option.{option_copied}
use Rattle.std.specs.FinMap as finite
use Rattle.group_types.specs.Text.{Text}
use Rattle.group_core.specs.Restoring.{with_granted}
use Rattle.group_core.proofs.RestoringSteps.{grant_added, grant_may, grants_unchanged, restoring_after, value_of, with_grants}
use Rattle.group_core.proofs.restoring.Restoring.restore_grant.Goals as goal

some_copied : {X : Type 0} (o : Option (Bor X)) → is_some (option_copied o) ≡ is_some o
some_copied (Some x) = refl
some_copied None = refl

pub invariant_of-self : goal.invariant_of-self
invariant_of-self c =
    let s = c.self.inside.state in
    let new = c.restore.new.self in
    let r = c.restore.result in
    let m = c.args.member.now in
    let p = c.args.p.now in
    let since = c.args.since in
    let there : IsTrue (finite.contains_key s.records.records m) =
    ap (λ (t : Text). is_some (finite.get s.records.records t)) (sym c.as_str.ensures.value) ∙ ap is_some (sym c.get.ensures)
    ∙ some_copied c.get.result ∙ c.is_none.ensures ∙ ap not c.if-is_none.false in
    record {
      restoring = restoring_after r (value_of s) (value_of (with_grants s new)) (with_granted (value_of s) m p since) c.self.invariant.restoring
          (grant_added s new m p since r c.restore.ensures.granted c.restore.ensures.holders)
          (grants_unchanged s new m p since r c.restore.ensures.err)
          (grant_may s new m p since r c.self.invariant.restoring there);
      unmarked = c.self.invariant.unmarked;
    }
