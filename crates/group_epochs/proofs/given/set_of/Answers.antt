use Rattle.std.proofs.Common.{◌∙◌, Bor}
use Rattle.group_types.specs.Text.{Text}
use Rattle.group_epochs.proofs.NameLemmas.{of_list-next}
use Rattle.group_epochs.proofs.given.set_of.Goals as goal

pub loop-name-preserved : goal.loop-name-preserved
loop-name-preserved c =
    c.in_ok-insert.ensures.added
    ∙ of_list-next (λ (name : Bor Text). name.now) c.args.names.now c.loop-name.name-index _ c.loop-name.set c.loop-name-test.true c.loop-name.invariant
