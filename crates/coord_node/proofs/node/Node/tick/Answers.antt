use Rattle.std.proofs.Common.{ap, ◌∙◌}
use Rattle.coord_node.specs.Coordinator.{Coordinator, Done}
use Rattle.coord_node.specs.Steps.{all_ticked, removed_from_all}
use Rattle.coord_node.proofs.ViewLemmas.{coordinator-is, groups-in}
use Rattle.coord_node.proofs.node.Node.tick.Goals as goal

pub invariant_of-self : goal.invariant_of-self
invariant_of-self c =
    record {
      kept = c.tick_all.ensures.kept c.self.inside.generation c.self.inside.image c.self.invariant.kept;
      few = c.tick_all.ensures.few;
    }

pub returns : goal.returns
returns c =
    let n = c.self.inside in
    let is = coordinator-is n c.args.self.now c.self.view_is in (
      ap Done (c.tick_all.ensures.removed ∙ ap (λ (x : Coordinator). removed_from_all x.groups c.args.now) is),
      (λ i. let x : Coordinator = record { salt = n.salt; groups = (groups-in c.tick_all.new.groups.entries ∙ c.tick_all.ensures.groups) i; image = n.image } in x)
          ∙ ap (λ (x : Coordinator). record x { groups = all_ticked x.groups c.args.now }) is,
    )
