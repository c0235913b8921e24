use Rattle.std.proofs.Common.{rules, ◌≡◌, sym, ap, subst, ◌∙◌}
use Rattle.group_reconcile.specs.Tables.{KeepsRoom, cells_in, sizes_in}
use Rattle.group_reconcile.proofs.Writes.{cells-opened, sizes-opened, topic-opened, topic-there, none_of_absent}
use Rattle.group_reconcile.proofs.table.Table.open.Goals as goal

pub returns-in_ok-insert : goal.returns-in_ok-insert
returns-in_ok-insert c =
    let before = c.self.inside.topics.entries in
    let after = c.insert.new.self.entries in
    let topic = c.args.topic.now in
    let is : c.match-branch-2.self ≡ record { cells = cells_in after; sizes = sizes_in after } = search rules in
    let updates = c.in_ok-insert.ensures.updates.0 in
    let was = none_of_absent _ (sym c.contains_key.ensures ∙ c.if-not-contains_key.true) in
    record {
      cells = ap (λ t. t.cells) is ∙ cells-opened before after topic c.new.result updates was c.new.ensures.items ∙ ap (λ t. t.cells) c.self.view_is;
      kept =
          subst (λ t. KeepsRoom t.sizes c.match-branch-2.self.sizes) c.self.view_is
          (subst (λ t. KeepsRoom (sizes_in before) t.sizes) (sym is) (sizes-opened before after topic c.new.result updates was));
      topic = rw is (topic-opened before after topic c.new.result updates was);
    }

pub returns-else-not-contains_key-clause-topic : goal.returns-else-not-contains_key-clause-topic
returns-else-not-contains_key-clause-topic c =
    rw (sym c.self.view_is) (topic-there c.self.inside.topics.entries c.args.topic.now (sym c.contains_key.ensures ∙ c.if-not-contains_key.false))
