use Rattle.std.proofs.Common.{List, ℕ, length, set as set_at, sym, ap, subst, ◌∙◌, arith}
use Rattle.uniform_assign.specs.CountSets.{IsTree, counts_in}
use Rattle.uniform_assign.proofs.Ranked.{counts_in-tree}
use Rattle.uniform_assign.proofs.count_set.CountSet.set.Goals as goal

pub write-requires : goal.write-requires
write-requires c =
    let low = c.requires in
    let many = c.self.invariant.are_ranks.as_many in
    let shown = ap length c.self.view_is in
    omega arith

pub invariant_of-self : goal.invariant_of-self
invariant_of-self c =
    let new = c.write.new.nodes.items in
    let is = c.write.ensures (counts_in c.self.inside.nodes.items) c.self.invariant in
    subst (λ (xs : List ℕ). IsTree xs new) (sym (counts_in-tree (set_at (counts_in c.self.inside.nodes.items) c.args.place c.args.count) new is)) is

pub returns : goal.returns
returns c =
    counts_in-tree (set_at (counts_in c.self.inside.nodes.items) c.args.place c.args.count) c.write.new.nodes.items (c.write.ensures (counts_in c.self.inside.nodes.items) c.self.invariant)
    ∙ ap (λ xs. set_at xs c.args.place c.args.count) c.self.view_is
