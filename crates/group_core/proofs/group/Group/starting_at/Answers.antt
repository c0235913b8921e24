use Rattle.std.proofs.Common.{[], refl, sym, ap, subst, ◌∙◌}
use Rattle.std.specs.FinMap as finite
use Rattle.group_types.specs.Text.{text_cmp}
use Rattle.group_types.specs.Sound.{IsSound}
use Rattle.group_types.proofs.Lookups.{not_none}
use Rattle.group_types.proofs.Runs.{every_group_is_sound}
use Rattle.group_epochs.specs.Records.{Marks}
use Rattle.group_core.proofs.group.Group.starting_at.Goals as goal

pub invariant_of-result : goal.invariant_of-result
invariant_of-result c =
    record {
      sound = subst IsSound (sym c.starting_at.ensures.group) (every_group_is_sound c.args.salt c.args.epoch (rw (← c.as_u32.ensures.value) c.as_u32.ensures.limit) [] _ refl);
      marked = λ m e is. absurd (not_none e (sym (ap (λ (ms : Marks). finite.get ms m) c.starting_at.ensures.marks ∙ finite.get-empty text_cmp m) ∙ is));
    }
