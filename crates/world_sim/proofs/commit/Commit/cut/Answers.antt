use Rattle.std.proofs.Common.{◌≡◌, Bool, true, false, ◌&&◌, refl, sym, ap, ap₂, ◌∙◌, string_bytes}
use Rattle.coord_node.specs.Nodes.{coordinator_of}
use Rattle.group_types.specs.Sets.{nothing, common, has}
use Rattle.group_types.specs.Partition.{Partitions, partition_cmp}
use Rattle.group_types.proofs.Orders.{partition_cmp_total, partition_cmp-IsAntisymmetric}
use Rattle.group_types.proofs.SetLemmas.{has-common, has-nothing, same_set}
use Rattle.world_sim.specs.World.{Commit, cut, granted}
use Rattle.world_sim.proofs.commit.Commit.cut.Goals as goal

and_false : (a : Bool) → (a && false) ≡ false
and_false true = refl
and_false false = refl

common_nothing : (s : Partitions) → common s nothing ≡ nothing
common_nothing s =
    same_set partition_cmp_total partition_cmp-IsAntisymmetric _ _
    (λ p. has-common partition_cmp_total s nothing p ∙ ap (λ b. has s p && b) (has-nothing partition_cmp p) ∙ and_false (has s p) ∙ sym (has-nothing partition_cmp p))

pub returns-in-None : goal.returns-in-None
returns-in-None c =
    let k : Commit = record { body = c.self.inside.frame; group = string_bytes c.self.inside.group; id = string_bytes c.self.inside.id; epoch = c.self.inside.epoch; own = c.self.inside.own; since = c.self.inside.since } in
    let none : nothing ≡ granted (coordinator_of c.args.node.now) k.group k.id = c.in-None.ensures ∙ ap₂ (λ g m. granted (coordinator_of c.args.node.now) g m) c.as_str.ensures.value c.as_str-2.ensures.value in
    ap (λ (s : Partitions). record k { since = s }) (c.clear.ensures ∙ sym (common_nothing k.since) ∙ ap (λ s. common k.since s) none)
    ∙ ap (λ (x : Commit). cut (coordinator_of c.args.node.now) x) c.self.view_is
