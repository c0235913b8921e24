use Rattle.std.proofs.Common.{suc, refl, subst}
use Rattle.group_types.specs.Join.{IsNamed}
use Rattle.group_core.specs.GroupView.{group_of}
use Rattle.group_core.specs.Stages.{name_in}
use Rattle.group_core.proofs.TakenIn.{id_of_sender}
use Rattle.kip_msgs.specs.Views.{heartbeat_request_value}
use Rattle.group_epochs.specs.Request.{heartbeat_of}
use Rattle.group_core.proofs.naming.draft_of.Goals as goal

pub draft-requires-clause-id : goal.draft-requires-clause-id
draft-requires-clause-id c =
    let g = group_of c.args.state.now in
    let q = heartbeat_of (heartbeat_request_value c.args.request.now) in
    let n = c.in-Some.name in
    id_of_sender g c.requires.sound q c.args.stamp c.args.now (record { id = n.id; next_serial = suc n.ids_made })
    (subst (λ o. IsNamed g q.member (name_in o)) c.in-Some.is c.in_ok-name.ensures)

pub returns-clause-draft : goal.returns-clause-draft
returns-clause-draft c =
    let g = group_of c.args.state.now in
    let q = heartbeat_of (heartbeat_request_value c.args.request.now) in
    let n = c.in-Some.name in
    record {
      name = record { id = n.id; next_serial = suc n.ids_made };
      is_named = subst (λ o. IsNamed g q.member (name_in o)) c.in-Some.is c.in_ok-name.ensures;
      serial = refl;
      drafted = c.in_ok-member.ensures.draft;
    }
