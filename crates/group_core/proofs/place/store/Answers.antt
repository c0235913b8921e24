use Rattle.std.proofs.Common.{ap, ◌∙◌}
use Rattle.group_reconcile.specs.Holders.{Holders, granted_at}
use Rattle.group_core.proofs.Sinces.{handed_since}
use Rattle.group_core.proofs.place.store.Goals as goal

pub returns-in-Some-clause-since : goal.returns-in-Some-clause-since
returns-in-Some-clause-since c = λ p.
    ap (λ (h : Holders). granted_at h p) c.hand_over.ensures.holders ∙ handed_since c.args.state.now.grants _ _ p
