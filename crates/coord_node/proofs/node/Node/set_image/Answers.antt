use Rattle.std.proofs.Common.{◌≡◌, ℕ, ◌+◌, ◌<◌, Option, Some, None, sym, ◌∙◌}
use Rattle.std.specs.Option.{SomeIff}
use Rattle.group_types.proofs.Lookups.{not_none, some_is}
use Rattle.coord_node.specs.Kept.{HasRightNumber}
use Rattle.coord_node.proofs.GroupLemmas.{OfEach-weaker}
use Rattle.coord_node.proofs.KeptLemmas.{HasRightNumber-image, IsNextNumber}
use Rattle.coord_node.proofs.node.Node.set_image.Goals as goal
use Rattle.coord_node.proofs.node.Node.set_image.Goals.{in-Some, in-None}

next_number : (after : Option ℕ) (n number : ℕ) (sum : Option ℕ) → sum ≡ after → SomeIff sum (number + 1 < 18446744073709551616) (number + 1) → after ≡ Some n → n ≡ number + 1
next_number after n number None is none some = absurd (not_none n (is ∙ some))
next_number after n number (Some m) is sum some = sym (some_is m n (is ∙ some)) ∙ sum.1

pub invariant_of-self : goal.invariant_of-self
invariant_of-self c =
    let before = c.self.inside.generation in
    let next : IsNextNumber before c.match-self.self =
    elim c.match-self.branch [ in-Some w ↦ λ n is. (w.in-Some.number, w.in-Some.is, next_number c.match-self.self n w.in-Some.number _ (sym w.self-is) w.checked_add-self-inside.ensures is) | in-None w ↦ λ n is. absurd (not_none n (sym w.self-is ∙ is)) ] in
    record {
      kept = OfEach-weaker (HasRightNumber before c.self.inside.image) (HasRightNumber c.match-self.self c.args.image)
          (HasRightNumber-image before c.match-self.self c.self.inside.image c.args.image next) c.self.inside.groups.entries c.self.invariant.kept;
      few = c.self.invariant.few;
    }
