use Rattle.std.proofs.Common.{◌≡◌, to_z, of_z, rules, sym, ◌∙◌}
use Rattle.std.specs.Int.{w16, w32}
use Rattle.broker_messages.proofs.HeadLemmas.{begins}
use Rattle.broker_messages.proofs.head.begin_of.Goals as goal

pub returns-clause-found : goal.returns-clause-found
returns-clause-found c =
    let key : to_z w16 (of_z w16 c.in_ok-key.key) ≡ c.in_ok-key.key = search rules in
    let version : to_z w16 (of_z w16 c.in_ok-version.version) ≡ c.in_ok-version.version = search rules in
    let id : to_z w32 (of_z w32 c.in_ok-correlation_id.correlation_id) ≡ c.in_ok-correlation_id.correlation_id = search rules in
    rw (version, id) (begins _ _ _ _ _ _ _ _ c.in_ok-key.ensures.found.1 (sym key ∙ c.in-Some.ensures.found) c.in_ok-version.ensures.found.1 c.in_ok-correlation_id.ensures.found.1)
