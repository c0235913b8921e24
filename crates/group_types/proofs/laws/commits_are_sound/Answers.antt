use Rattle.std.proofs.Common.{ap}
use Rattle.group_types.specs.Group.{Group}
use Rattle.group_types.proofs.Runs.{committed_is_sound}
use Rattle.group_types.proofs.laws.commits_are_sound.Goals as goal

pub returns : goal.returns
returns c = λ g commit image reply new step sound. (
  committed_is_sound g commit image reply new step sound,
  ap (λ (x : Group). record x { offsets = g.offsets }) step.stores,
)
