use Rattle.std.proofs.Common.{ap, sym, ◌∙◌, unwrap_or}
use Rattle.std.specs.Option.{option_copied}
use Rattle.group_types.specs.Partition.{partition_cmp}
use Rattle.group_types.specs.Sets.{has, nothing}
use Rattle.group_types.proofs.SetLemmas.{has-nothing}
use Rattle.group_types.proofs.wanted.Wanted.contains.Goals as goal

pub returns-in-None : goal.returns-in-None
returns-in-None c =
    sym (has-nothing partition_cmp c.args.p.now)
    ∙ ap (λ set. has (unwrap_or (option_copied set) nothing) c.args.p.now) (sym c.in-None.is)
    ∙ ap (λ s. has s c.args.p.now) c.set.ensures
