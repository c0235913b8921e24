use Rattle.std.proofs.Common.{sym, ap, ◌∙◌}
use Rattle.group_types.specs.Members.{is_remembered}
use Rattle.group_epochs.specs.Records.{RecordsState, members_in}
use Rattle.group_epochs.proofs.Tabled.{remembered_before, remembered_here}
use Rattle.group_epochs.proofs.records.Records.remembers.Goals as goal

pub returns-then-contains_key : goal.returns-then-contains_key
returns-then-contains_key c =
    c.if-contains_key.true
    ∙ sym (remembered_here c.self.inside.members c.self.inside.past c.args.id.now (sym c.contains_key.ensures ∙ c.if-contains_key.true))
    ∙ ap (λ (s : RecordsState). is_remembered (members_in s) c.args.id.now) c.self.view_is

pub returns-else-contains_key : goal.returns-else-contains_key
returns-else-contains_key c =
    c.remembers.ensures
    ∙ sym (remembered_before c.self.inside.members c.self.inside.past c.args.id.now (sym c.contains_key.ensures ∙ c.if-contains_key.false))
    ∙ ap (λ (s : RecordsState). is_remembered (members_in s) c.args.id.now) c.self.view_is
