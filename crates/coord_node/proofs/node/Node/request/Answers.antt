use Rattle.std.proofs.Common.{rules, ◌≡◌, length, ap, sym, subst, arith, to_z, of_z, w32}
use Rattle.kip_msgs.specs.Spelling.{request_body}
use Rattle.kip_msgs.specs.Values.{RequestValue, commit_request}
use Rattle.kip_msgs.specs.Views.{commit_request_value, request_header_value, request_value}
use Rattle.coord_node.specs.declared.event.Answered.TheVariants as answered
use Rattle.coord_node.specs.Answers.{AnswersRequest}
use Rattle.coord_node.specs.Nodes.{coordinator_of}
use Rattle.coord_node.proofs.CommitLengths.{length-commit_fields}
use Rattle.coord_node.proofs.CommitLemmas.{request_of_commit}
use Rattle.coord_node.proofs.node.Node.request.Goals as goal

pub commit-requires-clause-size : goal.commit-requires-clause-size
commit-requires-clause-size c =
    let v = commit_request (request_header_value c.in-Commit.header) (commit_request_value c.in-Commit.message) in
    let is : request_value c.args.request.now ≡ v = ap request_value c.in-Commit.is in
    omega (arith, c.requires.size, ap (λ (x : RequestValue). length (request_body x)) is, length-commit_fields (request_header_value c.in-Commit.header) (commit_request_value c.in-Commit.message))

pub returns-in_ok-commit-in-Commit-clause-step : goal.returns-in_ok-commit-in-Commit-clause-step
returns-in_ok-commit-in-Commit-clause-step c =
    let header = request_header_value c.in-Commit.header in
    let v = commit_request_value c.in-Commit.message in
    let passed : to_z w32 (of_z w32 header.correlation_id) ≡ header.correlation_id = search rules in
    subst (λ (x : RequestValue). AnswersRequest (coordinator_of c.args.self.now) x c.args.stamp c.args.now answered.Replied (coordinator_of c.commit.new.self) c.args.out.now.items c.commit.new.out.items)
    (sym (ap request_value c.in-Commit.is))
    (request_of_commit (coordinator_of c.args.self.now) (coordinator_of c.commit.new.self) header v _ c.args.stamp c.args.now c.args.out.now.items c.commit.new.out.items passed c.in_ok-commit-in-Commit.ensures.step)
