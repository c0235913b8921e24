use Rattle.std.proofs.Common.{◌≡◌, ℕ, ◌≤◌, sym, subst, arith}
use Rattle.std.specs.FinMap as finite
use Rattle.group_types.specs.Text.{Text}
use Rattle.group_types.specs.Group.{Group}
use Rattle.group_types.proofs.Lookups.{Found, this, another, found}
use Rattle.group_epochs.specs.Records.{Marks}
use Rattle.group_core.specs.GroupView.{group_of}
use Rattle.group_core.specs.Steady.{AreMarked, IsSteady}
use Rattle.group_core.proofs.mark.mark_replied.Goals as goal

-- one steady member more is marked
marked_more : (g : Group) (marks : Marks) → AreMarked g marks → (m : Text) → IsSteady g m → (epoch : ℕ) → epoch ≡ g.target_epoch → AreMarked g (finite.insert marks m epoch)
marked_more g marks are m steady epoch at = λ n e is. by n e (found marks m epoch n e is)
  where
    by : (n : Text) (e : ℕ) → Found marks m epoch n e → (e ≤ g.target_epoch) × (e ≡ g.target_epoch → IsSteady g n)
    by n e (this same is) = (omega (arith, is, at), λ so. subst (IsSteady g) (sym same) steady)
    by n e (another other apart was) = are n e was

pub returns-then-is_steady-clause-marks : goal.returns-then-is_steady-clause-marks
returns-then-is_steady-clause-marks c =
    let s = c.args.state.now in
    let g : Group = group_of s in
    let new : Group = record g { records = c.mark.new.self.records; past = c.mark.new.self.past } in
    let same : g ≡ new = λ i. record g { records = (sym c.mark.ensures.members i).records; past = (sym c.mark.ensures.members i).past } in
    subst (λ (ms : Marks). AreMarked new ms) (sym c.mark.ensures.marks)
    (subst (λ (x : Group). AreMarked x (finite.insert s.records.marks c.as_str-id.result.now c.epoch.result)) same
    (marked_more g s.records.marks c.requires c.as_str-id.result.now (c.is_steady.ensures c.if-is_steady.true) c.epoch.result c.epoch.ensures))
