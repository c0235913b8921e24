use Rattle.std.proofs.Common.{sym, ◌∙◌}
use Rattle.kip_msgs.specs.Views.{heartbeat_request_value}
use Rattle.group_types.specs.HeartbeatStep.{Arrival}
use Rattle.group_epochs.specs.Request.{arrival_of}
use Rattle.group_core.specs.Outcome.{answer_of}
use Rattle.coord_node.proofs.KeptLemmas.{HasRightNumber-heartbeat, current_if_same}
use Rattle.coord_node.proofs.ShortIds.{HasShortId-step}
use Rattle.coord_node.proofs.kept.Kept.heartbeat.Goals as goal

pub heartbeat_over-requires : goal.heartbeat_over-requires
heartbeat_over-requires c =
    record {
      current = λ is. current_if_same c.args.generation c.args.image.now c.args.self.now c.requires.kept (sym c.is_current-is_current.ensures ∙ is);
    }

pub returns-clause-sendable : goal.returns-clause-sendable
returns-clause-sendable c =
    let h : Arrival = arrival_of (heartbeat_request_value c.args.request.now) c.args.stamp c.args.now c.args.image.now in
    record {
      id = HasShortId-step c.args.self.now.group.state h (answer_of c.in_ok-outcome.outcome) c.heartbeat_over.new.self.state c.requires.id c.in_ok-outcome.ensures.step;
      few = c.in_ok-outcome.ensures.response.few;
      room = c.in_ok-outcome.ensures.response.room;
    }

pub returns-clause-kept : goal.returns-clause-kept
returns-clause-kept c =
    let h : Arrival = arrival_of (heartbeat_request_value c.args.request.now) c.args.stamp c.args.now c.args.image.now in
    HasRightNumber-heartbeat c.args.generation c.args.image.now c.args.self.now _ c.requires.kept h (answer_of c.in_ok-outcome.outcome)
    c.in_ok-outcome.ensures.step c.in_ok-outcome.ensures.response.current c.known_after-self.ensures
