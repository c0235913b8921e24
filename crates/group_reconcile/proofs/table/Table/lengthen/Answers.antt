use Rattle.std.proofs.Common.{rules, ◌≡◌, length, sym, ap, subst, ◌∙◌, to_z, of_z, w32}
use Rattle.group_types.specs.Owners.{IsIndex}
use Rattle.group_reconcile.specs.Tables.{KeepsRoom, cells_in, sizes_in}
use Rattle.group_reconcile.proofs.Writes.{cells-grown, sizes-grown, room-grown, no_topic, on_ok}
use Rattle.group_reconcile.proofs.table.Table.lengthen.Goals as goal
use Rattle.group_reconcile.proofs.table.Table.lengthen.Goals.{in-Some, in-None}

pub returns-clause-cells : goal.returns-clause-cells
returns-clause-cells c =
    elim c.match-get_mut.branch [
      | in-Some w ↦
          let old = w.in-Some.cells.now in
          let new = w.add_blanks.new.cells in
          let follows = (c.get_mut.follows.holds new).3 (search rules) in
          rw w.self-inside-is
          (cells-grown c.self.inside.topics.entries (c.get_mut.follows.lender new).entries c.args.p.now old new follows.0 (sym w.in-Some.ensures.value) w.add_blanks.ensures.blanks.1
          ∙ ap (λ t. t.cells) c.self.view_is)
      | in-None w ↦
          ap (λ i. cells_in i.topics.entries) w.self-inside-is ∙ ap (λ m. cells_in m.entries) c.get_mut.follows.holds-at-none ∙ ap (λ t. t.cells) c.self.view_is
    ]

pub returns-clause-room : goal.returns-clause-room
returns-clause-room c =
    elim c.match-get_mut.branch [
      | in-Some w ↦
          let old = w.in-Some.cells.now in
          let new = w.add_blanks.new.cells in
          let index : to_z w32 (of_z w32 c.args.p.now.index) ≡ c.args.p.now.index = search rules in
          let follows = (c.get_mut.follows.holds new).3 (search rules) in
          rw (w.result-is, w.self-inside-is)
          (on_ok w.add_blanks.result
          (λ far. room-grown c.self.inside.topics.entries (c.get_mut.follows.lender new).entries c.args.p.now old new follows.0 (sym w.in-Some.ensures.value) w.add_blanks.ensures.blanks.1
          (subst (λ k. IsIndex k (length new.items)) index far))
          w.add_blanks.ensures.far)
      | in-None w ↦
          absurd (no_topic c.self.inside.topics.entries c.args.self.now.sizes c.args.p.now.topic (ap (λ t. t.sizes) c.self.view_is) (sym w.in-None.ensures.value) c.requires.topic)
    ]

pub returns-clause-kept : goal.returns-clause-kept
returns-clause-kept c =
    elim c.match-get_mut.branch [
      | in-Some w ↦
          let old = w.in-Some.cells.now in
          let new = w.add_blanks.new.cells in
          let follows = (c.get_mut.follows.holds new).3 (search rules) in
          rw w.self-inside-is
          (subst (λ s. KeepsRoom s (sizes_in (c.get_mut.follows.lender new).entries)) (ap (λ t. t.sizes) c.self.view_is)
          (sizes-grown c.self.inside.topics.entries (c.get_mut.follows.lender new).entries c.args.p.now old new follows.0 (sym w.in-Some.ensures.value) w.add_blanks.ensures.blanks.1
          w.add_blanks.ensures.blanks.0))
      | in-None w ↦
          absurd (no_topic c.self.inside.topics.entries c.args.self.now.sizes c.args.p.now.topic (ap (λ t. t.sizes) c.self.view_is) (sym w.in-None.ensures.value) c.requires.topic)
    ]
