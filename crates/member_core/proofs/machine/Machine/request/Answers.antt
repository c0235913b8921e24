use Rattle.std.proofs.Common.{sym, subst}
use Rattle.flex_wire.specs.Spelling.{FitsTaggedFields}
use Rattle.flex_wire.proofs.TagLaws.{no_tags_fit}
use Rattle.kip_msgs.specs.Values.{HeartbeatRequestValue}
use Rattle.member_core.specs.Client.{Client}
use Rattle.member_core.specs.Kinds.{ask_value}
use Rattle.member_core.specs.Writing.{HasShortHeartbeat}
use Rattle.member_core.proofs.ShortRequests.{IsLimited, short_heartbeat_for}
use Rattle.member_core.proofs.machine.Machine.request.Goals as goal

pub returns-clause-short : goal.returns-clause-short
returns-clause-short c =
    let inside = c.self.invariant in
    let limited : IsLimited c.args.self.now = subst (λ (x : Client). IsLimited x) c.self.view_is (record { settings = inside.settings; id = inside.id }) in (
      record { client_id = tt; tags = subst FitsTaggedFields (sym c.new.ensures) no_tags_fit },
      subst (λ (v : HeartbeatRequestValue). HasShortHeartbeat v) (sym c.in_ok-message.ensures) (short_heartbeat_for c.args.self.now (ask_value c.args.ask) limited),
    )
