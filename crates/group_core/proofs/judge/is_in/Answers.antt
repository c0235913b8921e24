use Rattle.std.proofs.Common.{sym, ap, ◌∙◌, unwrap_or}
use Rattle.std.specs.Option.{option_copied}
use Rattle.group_types.specs.Partition.{partition_cmp}
use Rattle.group_types.specs.Sets.{has, nothing}
use Rattle.group_types.proofs.SetLemmas.{has-nothing}
use Rattle.group_core.proofs.judge.is_in.Goals as goal

pub returns-in-None : goal.returns-in-None
returns-in-None c = sym (ap (λ o. has (unwrap_or (option_copied o) nothing) c.args.p.now) c.in-None.is ∙ has-nothing partition_cmp c.args.p.now)
