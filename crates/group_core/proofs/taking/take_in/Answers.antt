use Rattle.std.proofs.Common.{Option, subst}
use Rattle.std.specs.Option.{MatchOption}
use Rattle.group_core.specs.GroupView.{group_of}
use Rattle.group_core.specs.Stages.{CannotRise, IsRenewalOf}
use Rattle.group_types.specs.Topics.{Topics}
use Rattle.group_core.specs.declared.state.State.{State}
use Rattle.group_core.specs.declared.draft.Draft.{Draft as Drafted}
use Rattle.group_core.specs.declared.change.Renewal.{Renewal}
use Rattle.group_core.proofs.taking.take_in.Goals as goal

-- what was found of the renewal
abbrev Found : State → Drafted → Topics → Option Renewal → Type 0
Found s d image o = MatchOption o (CannotRise s d image) (IsRenewalOf s d image)

pub settle-requires-clause-renewal : goal.settle-requires-clause-renewal
settle-requires-clause-renewal c = (c.args.image.now, subst (Found c.args.state.now c.args.draft c.args.image.now) c.in-Some.is c.in_ok-renewal.ensures)

pub returns-in-Some-clause-step : goal.returns-in-Some-clause-step
returns-in-Some-clause-step c =
    c.settle.ensures.step c.args.image.now (subst (Found c.args.state.now c.args.draft c.args.image.now) c.in-Some.is c.in_ok-renewal.ensures)

pub returns-in-Some-clause-response : goal.returns-in-Some-clause-response
returns-in-Some-clause-response c =
    c.settle.ensures.response c.args.image.now (subst (Found c.args.state.now c.args.draft c.args.image.now) c.in-Some.is c.in_ok-renewal.ensures)

pub returns-in-None-clause-response : goal.returns-in-None-clause-response
returns-in-None-clause-response c = c.refuse.ensures.response (group_of c.args.state.now) c.args.image.now
