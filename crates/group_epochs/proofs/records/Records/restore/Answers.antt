use Rattle.std.proofs.Common.{rules, ap, subst, sym, ◌∙◌}
use Rattle.std.specs.Prelude.{IsTrue}
use Rattle.group_types.specs.Members.{HasInstance, Members, is_remembered, with_record}
use Rattle.group_epochs.specs.Records.{members_in}
use Rattle.group_epochs.proofs.Restoring.{past_stays}
use Rattle.group_epochs.proofs.records.Records.restore.Goals as goal

pub admit-requires-clause-instance : goal.admit-requires-clause-instance
admit-requires-clause-instance c n i is has =
    let so : IsTrue c.can_be_restored.result = search rules in
    let can = c.can_be_restored.ensures.0 so in
    absurd (can.instance n i is (subst (λ (s : Members). HasInstance s.records n i) c.prepare.ensures.members has))

pub returns-clause-past : goal.returns-clause-past
returns-clause-past c =
    let so : IsTrue c.can_be_restored.result = search rules in
    let can = c.can_be_restored.ensures.0 so in
    let s = members_in c.args.self.now in
    let id = c.in_ok-member.member.id in
    ap (λ (s : Members). s.past) c.admit.ensures.members
    ∙ ap (λ (s : Members). (with_record s id c.args.record).past) c.prepare.ensures.members
    ∙ past_stays s id c.args.record (ap (is_remembered s) (c.in_ok-member.ensures.id ∙ sym c.as_str.ensures.value) ∙ can.new.unknown)
