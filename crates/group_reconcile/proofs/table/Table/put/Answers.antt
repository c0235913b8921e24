use Rattle.std.proofs.Common.{rules, ◌≡◌, length, Some, None, sym, ap, subst, ◌∙◌, to_z, of_z, w32}
use Rattle.std.specs.FinMap as finite
use Rattle.group_types.specs.Owners.{IsIndex}
use Rattle.group_reconcile.specs.Tables.{SetsCell, sizes_in}
use Rattle.group_reconcile.proofs.Writes.{puts, cells-put, sizes-same, room_at, no_room}
use Rattle.group_reconcile.proofs.table.Table.put.Goals as goal
use Rattle.group_reconcile.proofs.table.Table.put.Goals.{in-Some, in_default}

pub returns-clause-cells : goal.returns-clause-cells
returns-clause-cells c =
    elim c.match-get_mut.branch [
      | in-Some w ↦
          let old = w.in-Some.cells.now in
          let new = w.set_cell.new.cells in
          let index : to_z w32 (of_z w32 c.args.p.now.index) ≡ c.args.p.now.index = search rules in
          let sets : SetsCell old.items new.items c.args.p.now.index (Some c.args.cell) = subst (λ k. SetsCell old.items new.items k (Some c.args.cell)) index w.set_cell.ensures.written in
          let within : IsIndex c.args.p.now.index (length old.items) = room_at c.self.inside.topics.entries c.args.self.now.sizes c.args.p.now (Some old) (ap (λ t. t.sizes) c.self.view_is) (sym w.in-Some.ensures.value) c.requires in
          let follows = (c.get_mut.follows.holds new).3 (search rules) in
          rw w.self-inside-is
          (cells-put c.self.inside.topics.entries (c.get_mut.follows.lender new).entries c.args.p.now old new follows.0 (sym w.in-Some.ensures.value)
          c.args.cell (puts old.items new.items c.args.p.now.index (Some c.args.cell) within sets)
          ∙ ap (λ t. finite.insert t.cells c.args.p.now c.args.cell) c.self.view_is)
      | in_default w ↦
          absurd (no_room c.args.p.now.index (room_at c.self.inside.topics.entries c.args.self.now.sizes c.args.p.now None (ap (λ t. t.sizes) c.self.view_is) (sym w.in_default.ensures.value) c.requires))
    ]

pub returns-clause-sizes : goal.returns-clause-sizes
returns-clause-sizes c =
    elim c.match-get_mut.branch [
      | in-Some w ↦
          let new = w.set_cell.new.cells in
          let follows = (c.get_mut.follows.holds new).3 (search rules) in
          rw w.self-inside-is
          (sizes-same c.self.inside.topics.entries (c.get_mut.follows.lender new).entries c.args.p.now w.in-Some.cells.now new follows.0 (sym w.in-Some.ensures.value) w.set_cell.ensures.len
          ∙ ap (λ t. t.sizes) c.self.view_is)
      | in_default w ↦ ap (λ i. sizes_in i.topics.entries) w.self-inside-is ∙ ap (λ m. sizes_in m.entries) c.get_mut.follows.holds-at-none ∙ ap (λ t. t.sizes) c.self.view_is
    ]
