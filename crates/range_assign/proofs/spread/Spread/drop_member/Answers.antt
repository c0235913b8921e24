use Rattle.std.proofs.Common.{List, ap, ◌∙◌}
use Rattle.group_types.specs.Owners.{without_owner}
use Rattle.range_assign.specs.Shares.{shares_in, spread_of}
use Rattle.range_assign.specs.declared.spread.Share.{Share}
use Rattle.range_assign.proofs.Changes.{without_owner-taken}
use Rattle.range_assign.proofs.IdOrder.{AreShares-of_order}
use Rattle.range_assign.proofs.spread.Spread.drop_member.Goals as goal

pub returns : goal.returns
returns c =
    ap (λ (shares : List Share). spread_of (shares_in shares)) c.give_back.ensures
    ∙ without_owner-taken (shares_in c.self.inside.shares.items) (shares_in c.take_share.new.shares.items) c.args.id.now c.take_share.result
    (AreShares-of_order _ c.self.invariant) c.take_share.ensures.gone c.take_share.ensures.taken
    ∙ ap (λ spread. without_owner spread c.args.id.now) c.self.view_is
