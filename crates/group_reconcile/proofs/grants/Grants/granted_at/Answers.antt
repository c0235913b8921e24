use Rattle.std.proofs.Common.{sym, ap, ◌∙◌}
use Rattle.std.specs.Option.{option_map}
use Rattle.group_reconcile.specs.Holders.{granted_at}
use Rattle.group_reconcile.proofs.Granted.{shown-holders_of}
use Rattle.group_reconcile.proofs.grants.Grants.granted_at.Goals as goal

pub returns-in-Some : goal.returns-in-Some
returns-in-Some c =
    let p = c.args.p.now in
    ap (option_map (λ d. d.since)) c.in-Some.ensures
    ∙ sym (shown-holders_of (λ d. d.since) c.self.inside.members c.self.inside.table.cells p)
    ∙ ap (λ h. granted_at h p) c.self.view_is

pub returns-in-None : goal.returns-in-None
returns-in-None c =
    let p = c.args.p.now in
    ap (option_map (λ d. d.since)) c.in-None.ensures
    ∙ sym (shown-holders_of (λ d. d.since) c.self.inside.members c.self.inside.table.cells p)
    ∙ ap (λ h. granted_at h p) c.self.view_is
