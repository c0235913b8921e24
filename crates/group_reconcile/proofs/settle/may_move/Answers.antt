use Rattle.std.proofs.Common.{◌≡◌, false, true, not, ◌||◌, sym, ap, ◌∙◌}
use Rattle.std.specs.List.{list_any}
use Rattle.std.specs.Option.{option_copied}
use Rattle.std.specs.Slice.Iter.{iter_rest}
use Rattle.std.proofs.lemmas.List.{nil_from_length}
use Rattle.group_types.specs.Sets.{in_order}
use Rattle.group_reconcile.specs.Settling.{is_kept}
use Rattle.group_reconcile.proofs.Offering.{may_move-tested}
use Rattle.group_reconcile.proofs.settle.may_move.Goals as goal

pub returns-then-is_kept : goal.returns-then-is_kept
returns-then-is_kept c =
    let target = c.args.target.now.partitions in
    let owned = option_copied c.args.owned in
    let some : list_any (is_kept target owned) (in_order c.args.parts.now) ≡ true =
    sym c.loop-p.invariant
    ∙ ap (list_any (is_kept target owned)) c.in-Some.ensures.steps
    ∙ ap (λ b. b || list_any (is_kept target owned) (iter_rest c.next.new.self)) (sym c.is_kept.ensures ∙ c.if-is_kept.true) in
    sym (may_move-tested c.args.parts.now target owned ∙ ap not some)

pub returns : goal.returns
returns c =
    let target = c.args.target.now.partitions in
    let owned = option_copied c.args.owned in
    let none : list_any (is_kept target owned) (in_order c.args.parts.now) ≡ false =
    sym c.loop-p.invariant ∙ ap (list_any (is_kept target owned)) (nil_from_length (iter_rest c.loop-p.p-iterator) c.in-None.ensures.steps.0) in
    sym (may_move-tested c.args.parts.now target owned ∙ ap not none)
