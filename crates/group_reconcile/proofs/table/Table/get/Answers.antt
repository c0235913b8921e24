use Rattle.std.proofs.Common.{rules, ◌≡◌, sym, ap, ◌∙◌, to_z, of_z, w32}
use Rattle.group_reconcile.specs.Tables.{cell_at}
use Rattle.std.specs.FinMap as finite
use Rattle.std.specs.Option.{option_map}
use Rattle.group_reconcile.proofs.Lookups.{get-cells_in, lookup-items, of_topic}
use Rattle.group_reconcile.proofs.table.Table.get.Goals as goal

pub returns-in-Some : goal.returns-in-Some
returns-in-Some c =
    let index : to_z w32 (of_z w32 c.args.p.now.index) ≡ c.args.p.now.index = search rules in
    c.cell_at.ensures
    ∙ ap (cell_at c.in-Some.cells.now.items) index
    ∙ ap (λ o. of_topic (option_map (λ v. v.items) o) c.args.p.now.index) c.in-Some.ensures.value
    ∙ sym (ap (λ o. of_topic o c.args.p.now.index) (lookup-items c.args.p.now.topic c.self.inside.topics.entries))
    ∙ sym (get-cells_in c.self.inside.topics.entries c.args.p.now)
    ∙ ap (λ t. finite.get t.cells c.args.p.now) c.self.view_is

pub returns-in-None : goal.returns-in-None
returns-in-None c =
    ap (λ o. of_topic (option_map (λ v. v.items) o) c.args.p.now.index) c.in-None.ensures.value
    ∙ sym (ap (λ o. of_topic o c.args.p.now.index) (lookup-items c.args.p.now.topic c.self.inside.topics.entries))
    ∙ sym (get-cells_in c.self.inside.topics.entries c.args.p.now)
    ∙ ap (λ t. finite.get t.cells c.args.p.now) c.self.view_is
