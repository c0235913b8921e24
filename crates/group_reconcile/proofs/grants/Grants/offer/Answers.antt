use Rattle.std.proofs.Common.{◌≡◌, true, sym, ap, ◌∙◌}
use Rattle.std.specs.Option.{option_copied}
use Rattle.group_types.specs.Group.{held}
use Rattle.group_types.specs.Settle.{grants_after, may_settle}
use Rattle.group_reconcile.specs.Holders.{pairs}
use Rattle.group_reconcile.specs.Offers.{verdict_of}
use Rattle.group_reconcile.proofs.Pairs.{pairs_move}
use Rattle.group_reconcile.proofs.Stays.{kept, may}
use Rattle.group_reconcile.proofs.grants.Grants.offer.Goals as goal

pub returns-clause-grants : goal.returns-clause-grants
returns-clause-grants c =
    let before = pairs c.args.self.now in
    let m = c.args.member.now in
    let target = c.args.target.now.wanted.partitions in
    let owned = option_copied c.args.owned in
    let may : may_settle before m target owned ≡ true =
    ap (λ id. may_settle before id target owned) (sym c.as_str-id.ensures.value) ∙ sym c.may_settle.ensures ∙ c.if-not-may_settle.false in
    pairs_move c.args.self.now c.settle_on.new.self m target c.args.target.now.wanted.epoch c.in_ok-settle_on.ensures.settled
    ∙ ap (λ b. grants_after b before m target) (sym may)

pub returns-then-is_settled-clause-verdict : goal.returns-then-is_settled-clause-verdict
returns-then-is_settled-clause-verdict c =
    let before = pairs c.args.self.now in
    let m = c.args.member.now in
    let target = c.args.target.now.wanted.partitions in
    let is : held before m ≡ target = ap (held before) (sym c.as_str-id.ensures.value) ∙ c.is_settled.ensures c.if-is_settled.true in
    ap verdict_of (sym (may before m target is (option_copied c.args.owned)))

pub returns-then-is_settled-clause-grants : goal.returns-then-is_settled-clause-grants
returns-then-is_settled-clause-grants c =
    let before = pairs c.args.self.now in
    let m = c.args.member.now in
    let target = c.args.target.now.wanted.partitions in
    let is : held before m ≡ target = ap (held before) (sym c.as_str-id.ensures.value) ∙ c.is_settled.ensures c.if-is_settled.true in
    sym (kept before m target is (may_settle before m target (option_copied c.args.owned)))
