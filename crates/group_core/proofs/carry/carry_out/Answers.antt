use Rattle.std.proofs.Common.{ap, sym, subst}
use Rattle.group_epochs.specs.Records.{IsInstanceFreeFor, KeepsMarks, RecordsState}
use Rattle.group_epochs.specs.Drafts.{CanStore}
use Rattle.group_core.specs.declared.state.State.{State}
use Rattle.group_core.specs.Since.{HasSameSince}
use Rattle.group_core.proofs.carry.carry_out.Goals as goal

pub store_draft-epoch-requires-clause-fit : goal.store_draft-epoch-requires-clause-fit
store_draft-epoch-requires-clause-fit c =
    let d = c.args.draft.member in
    let same = sym (ap (λ (s : State). s.records) c.renew.ensures) in
    record {
      room = subst (λ (rs : RecordsState). CanStore rs d.id d.record d.place) same c.requires.fit.room;
      instance = subst (λ (rs : RecordsState). IsInstanceFreeFor rs.records d.id d.record) same c.requires.fit.instance;
    }

pub returns-clause-marks : goal.returns-clause-marks
returns-clause-marks c =
    subst (λ (s : State). KeepsMarks s.records c.store_draft-epoch.new.state.records c.args.draft.member.id) c.renew.ensures c.store_draft-epoch.ensures.marks

pub returns-clause-since : goal.returns-clause-since
returns-clause-since c =
    subst (λ (s : State). HasSameSince s.grants c.store_draft-epoch.new.state.grants) c.renew.ensures c.store_draft-epoch.ensures.since
