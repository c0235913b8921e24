use Rattle.std.proofs.Common.{map, subst, ◌∙◌}
use Rattle.std.proofs.lemmas.Result.{err_from_is_err_and}
use Rattle.kip_msgs.specs.Views.{commit_request_topic_value}
use Rattle.member_core.specs.Client.{Client}
use Rattle.member_core.specs.Committing.{commit_for}
use Rattle.world_sim.specs.declared.fault.WorldFault.TheVariants.{NoMemory}
use Rattle.world_sim.specs.Standing.{client_of}
use Rattle.world_sim.specs.Stands.{CannotCommit}
use Rattle.world_sim.specs.Clients.{IsCommitOf}
use Rattle.world_sim.proofs.Clients.{is_commit, same_commit}
use Rattle.world_sim.proofs.RequestSizes.{few_if_within}
use Rattle.world_sim.proofs.client.Client.commit.Goals as goal

pub returns-clause-made : goal.returns-clause-made
returns-clause-made c =
    let me = client_of c.self.inside.standing in
    let topics = map commit_request_topic_value c.args.topics in
    subst (λ (x : Client). IsCommitOf x c.args.number topics c.in_ok-commit.commit) c.self.view_is
    (is_commit me c.args.number topics c.in_ok-frame.frame.items c.in_ok-commit.commit c.in_ok-frame.ensures.0 c.in_ok-frame.ensures.1
    (same_commit me c.in_ok-commit.commit _ _ _ _ _ _ c.in_ok-commit.ensures c.of.ensures (c.as_str.ensures.value ∙ c.self.invariant.group) c.id.ensures c.epoch.ensures c.own.ensures))

pub returns-in_err-commit-clause-fault : goal.returns-in_err-commit-clause-fault
returns-in_err-commit-clause-fault c =
    let me = client_of c.self.inside.standing in
    let topics = map commit_request_topic_value c.args.topics in
    let is = c.in_ok-frame.ensures.1 in
    let p = err_from_is_err_and c.from_residual-in_err-commit.result c.from_residual-in_err-commit.ensures.1 in
    rw (p.1, p.2)
    (subst (λ (x : Client). CannotCommit x c.args.number topics NoMemory) c.self.view_is
    (c.in_ok-frame.ensures.0, few_if_within (commit_for me c.args.number topics) is.body is.spells.bytes is.limit))
