use Rattle.std.proofs.Common.{arith}
use Rattle.kip_msgs.specs.Views.{commit_request_value, commit_reply_value}
use Rattle.coord_node.specs.Nodes.{coordinator_of}
use Rattle.coord_node.proofs.CommitLemmas.{HasRoomInFrame-commit}
use Rattle.coord_node.proofs.node.Node.commit.Goals as goal

pub put-requires : goal.put-requires
put-requires c =
    HasRoomInFrame-commit (coordinator_of c.args.self.now) (coordinator_of c.reply_of_commit.new.self) _ (commit_request_value c.args.request.now) (commit_reply_value c.in_ok-reply.reply) c.args.size _
    c.in_ok-reply.ensures.step c.requires.fits c.requires.size c.requires.most (omega (arith, c.in_ok-reserve.ensures.ok, c.reserve.new.self.ok.0))
