use Rattle.std.proofs.Common.{[], sym, ap, ◌∙◌, Some, is_some, true≢false}
use Rattle.std.specs.Option.{option_copied, option_map, option_map_or}
use Rattle.std.specs.FinMap as finite
use Rattle.group_reconcile.specs.Members.{id_of}
use Rattle.group_reconcile.proofs.Granted.{known, shown-holders_of}
use Rattle.group_reconcile.proofs.grants.Grants.holder.Goals as goal

pub returns-in_err-cell : goal.returns-in_err-cell
returns-in_err-cell c =
    let ms = c.self.inside.members in
    ap option_copied c.from_residual.ensures
    ∙ ap (option_map (λ cell. id_of ms cell.holder)) c.in_err-cell.ensures
    ∙ sym (shown-holders_of (λ d. d.member) ms c.self.inside.table.cells c.args.p.now)
    ∙ ap (λ h. option_map (λ d. d.member) (finite.get h c.args.p.now)) c.self.view_is

pub returns-in_err-member : goal.returns-in_err-member
returns-in_err-member c =
    let there = known c.self.inside.members c.self.inside.table.cells c.self.invariant c.args.p.now c.in_ok-cell.cell (sym c.in_ok-cell.ensures) in
    absurd (true≢false (sym there ∙ ap is_some (sym c.in_err-member.ensures)))

pub returns : goal.returns
returns c =
    let ms = c.self.inside.members in
    ap Some (c.as_str.ensures.value ∙ ap (λ o. option_map_or (λ m. m.id) o []) c.in_ok-member.ensures)
    ∙ ap (option_map (λ cell. id_of ms cell.holder)) c.in_ok-cell.ensures
    ∙ sym (shown-holders_of (λ d. d.member) ms c.self.inside.table.cells c.args.p.now)
    ∙ ap (λ h. option_map (λ d. d.member) (finite.get h c.args.p.now)) c.self.view_is
