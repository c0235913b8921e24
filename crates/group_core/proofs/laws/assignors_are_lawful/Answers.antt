use Rattle.group_types.specs.declared.assignor_name.AssignorName.TheVariants.{Range, Uniform}
use Rattle.group_types.specs.Targets.{AssignorsAreLawful}
use Rattle.range_assign.specs.Laws.{RangeIsLawful}
use Rattle.uniform_assign.specs.Laws.{UniformIsLawful}
use Rattle.group_core.proofs.laws.assignors_are_lawful.Goals as goal

by_name : RangeIsLawful → UniformIsLawful → AssignorsAreLawful
by_name range uniform Range view subs former target owners = range view subs target owners
by_name range uniform Uniform view subs former target owners = uniform view subs former target owners

pub returns : goal.returns
returns c = by_name c.range_is_lawful.ensures c.uniform_is_lawful.ensures
