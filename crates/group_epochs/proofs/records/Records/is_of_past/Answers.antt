use Rattle.std.proofs.Common.{false, sym, ap, not, ◌∙◌}
use Rattle.std.specs.Option.{option_map_or}
use Rattle.group_types.specs.Checks.{is_late}
use Rattle.group_epochs.proofs.Senders.{of_past}
use Rattle.group_epochs.proofs.records.Records.is_of_past.Goals as goal

pub returns-in-Some : goal.returns-in-Some
returns-in-Some c =
    ap not c.is_above.ensures
    ∙ ap (λ o. option_map_or (is_late c.args.stamp) o false) c.in-Some.ensures
    ∙ sym (of_past c.args.self.now.records c.args.self.now.past c.args.member.now c.args.stamp c.requires)

pub returns-in-None : goal.returns-in-None
returns-in-None c =
    ap (λ o. option_map_or (is_late c.args.stamp) o false) c.in-None.ensures
    ∙ sym (of_past c.args.self.now.records c.args.self.now.past c.args.member.now c.args.stamp c.requires)
