use Rattle.std.proofs.Common.{rules, ◌≡◌, None, sym, ap, subst, ◌∙◌, to_z, of_z, w32}
use Rattle.std.specs.FinMap as finite
use Rattle.group_reconcile.specs.Tables.{SetsCell, sizes_in, cells_in}
use Rattle.group_reconcile.proofs.Writes.{clears, cells-clear, cells-absent, sizes-same}
use Rattle.group_reconcile.proofs.table.Table.clear.Goals as goal
use Rattle.group_reconcile.proofs.table.Table.clear.Goals.{in-Some, in_default}

pub returns-clause-cells : goal.returns-clause-cells
returns-clause-cells c =
    elim c.match-get_mut.branch [
      | in-Some w ↦
          let old = w.in-Some.cells.now in
          let new = w.set_cell.new.cells in
          let index : to_z w32 (of_z w32 c.args.p.now.index) ≡ c.args.p.now.index = search rules in
          let sets : SetsCell old.items new.items c.args.p.now.index None = subst (λ k. SetsCell old.items new.items k None) index w.set_cell.ensures.written in
          let follows = (c.get_mut.follows.holds new).3 (search rules) in
          rw w.self-inside-is
          (cells-clear c.self.inside.topics.entries (c.get_mut.follows.lender new).entries c.args.p.now old new follows.0 (sym w.in-Some.ensures.value)
          (clears old.items new.items c.args.p.now.index sets)
          ∙ ap (λ t. finite.remove t.cells c.args.p.now) c.self.view_is)
      | in_default w ↦
          ap (λ i. cells_in i.topics.entries) w.self-inside-is ∙ ap (λ m. cells_in m.entries) c.get_mut.follows.holds-at-none
          ∙ cells-absent c.self.inside.topics.entries c.args.p.now (sym w.in_default.ensures.value)
          ∙ ap (λ t. finite.remove t.cells c.args.p.now) c.self.view_is
    ]

pub returns-clause-sizes : goal.returns-clause-sizes
returns-clause-sizes c =
    elim c.match-get_mut.branch [
      | in-Some w ↦
          let new = w.set_cell.new.cells in
          let follows = (c.get_mut.follows.holds new).3 (search rules) in
          rw w.self-inside-is
          (sizes-same c.self.inside.topics.entries (c.get_mut.follows.lender new).entries c.args.p.now w.in-Some.cells.now new follows.0 (sym w.in-Some.ensures.value) w.set_cell.ensures.len
          ∙ ap (λ t. t.sizes) c.self.view_is)
      | in_default w ↦ ap (λ i. sizes_in i.topics.entries) w.self-inside-is ∙ ap (λ m. sizes_in m.entries) c.get_mut.follows.holds-at-none ∙ ap (λ t. t.sizes) c.self.view_is
    ]
