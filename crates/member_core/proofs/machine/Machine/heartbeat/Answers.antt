use Rattle.std.proofs.Common.{◌≡◌, pos, List, [], map, IfOk, sym, ap, subst, ◌∙◌}
use Rattle.group_types.specs.declared.partition.Partition.{Partition}
use Rattle.group_types.specs.Sets.{in_order, nothing}
use Rattle.group_types.specs.Partition.{Partitions, partition_cmp}
use Rattle.group_types.proofs.SetLemmas.{entries-nothing}
use Rattle.kip_msgs.specs.Values.{HeartbeatRequestValue}
use Rattle.kip_msgs.specs.Views as views
use Rattle.member_core.specs.Asking.{heartbeat_value, full_heartbeat, heartbeat_for}
use Rattle.member_core.specs.Kinds.{ask_value}
use Rattle.member_core.proofs.machine.Machine.heartbeat.Goals as goal

in_order-nothing : in_order (nothing {R = partition_cmp}) ≡ []
in_order-nothing = ap (map (λ e. e.0)) (entries-nothing partition_cmp)

pub returns-in-Join : goal.returns-in-Join
returns-in-Join c =
    let me = c.args.self.now in
    let says : heartbeat_value (full_heartbeat me (pos 0) (in_order c.new.result)) ≡ heartbeat_value (heartbeat_for me (ask_value c.args.ask)) =
    ap (λ (s : Partitions). heartbeat_value (full_heartbeat me (pos 0) (in_order s))) c.new.ensures
    ∙ ap (λ (ps : List Partition). heartbeat_value (full_heartbeat me (pos 0) ps)) in_order-nothing
    ∙ ap (λ a. heartbeat_value (heartbeat_for me (ask_value a))) (sym c.in-Join.is) in
    subst (λ (v : HeartbeatRequestValue). IfOk c.full-in-Join.result (λ m. views.heartbeat_request_value m ≡ v)) says c.full-in-Join.ensures
