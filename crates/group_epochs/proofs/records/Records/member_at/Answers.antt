use Rattle.std.proofs.Common.{Some, ap, sym, ◌∙◌}
use Rattle.std.specs.Prelude.{option_map}
use Rattle.std.proofs.lemmas.Option.{slice_get-get_or}
use Rattle.group_epochs.specs.Records.{RecordsState}
use Rattle.group_epochs.specs.Table.{member_at}
use Rattle.group_epochs.proofs.Ranked.{is_member_at, no_member_at}
use Rattle.group_epochs.proofs.records.Records.member_at.Goals as goal

pub returns-in_err-place : goal.returns-in_err-place
returns-in_err-place c =
    let rows = c.self.inside.members.entries in
    ap (option_map _) c.from_residual.ensures
    ∙ no_member_at rows c.self.inside.by_id.items c.self.invariant.table.order c.self.invariant.table.distinct c.args.rank c.in_err-place.ensures.item.3
    ∙ ap (λ (s : RecordsState). member_at s.records c.args.rank) c.self.view_is

pub returns-in-Some : goal.returns-in-Some
returns-in-Some c =
    let rows = c.self.inside.members.entries in
    let found = c.in_ok-place.ensures.item.3 in
    is_member_at rows c.self.inside.by_id.items c.self.invariant.table.order c.self.invariant.table.distinct c.args.rank c.in_ok-place.place.now c.in-Some.field-0-0.now c.in-Some.entry.now
    (slice_get-get_or c.self.inside.by_id.items c.args.rank 0 found.0 ∙ ap Some (sym (found.1 0))) (sym c.in-Some.ensures.entry) c.self.invariant.table.named
    ∙ ap (λ (s : RecordsState). member_at s.records c.args.rank) c.self.view_is
