use Rattle.std.proofs.Common.{◌≡◌, Bool, Bor, true, false, not, Option, Some, None, unwrap_or, sym, ap, ◌∙◌, refl, true≢false}
use Rattle.std.specs.Option.{option_copied}
use Rattle.group_types.specs.declared.epoch.Epoch.TheVariants.{At}
use Rattle.group_types.specs.Partition.{Partitions}
use Rattle.group_types.specs.Sets.{are_same}
use Rattle.group_types.specs.Group.{held, wanted}
use Rattle.group_types.specs.HeartbeatStep.{is_news}
use Rattle.group_types.proofs.Orders.{partition_cmp_total, partition_cmp-IsAntisymmetric}
use Rattle.group_types.proofs.SetLemmas.{are_same-Decides}
use Rattle.group_reconcile.specs.Holders.{pairs}
use Rattle.group_core.proofs.mark.is_steady.Goals as goal

unless_not : (b : Bool) → not b ≡ false → b ≡ true
unless_not true is = refl
unless_not false is = absurd (true≢false is)

no_news : (sent : Option Partitions) (set : Partitions) → is_news sent set ≡ false → sent ≡ Some set
no_news None set is = absurd (true≢false is)
no_news (Some x) set is = ap Some ((are_same-Decides partition_cmp_total partition_cmp-IsAntisymmetric x set).0 (unless_not (are_same x set) is))

or_now : (o : Option (Bor Partitions)) (other : Bor Partitions) → (unwrap_or o other).now ≡ unwrap_or (option_copied o) other.now
or_now None other = refl
or_now (Some set) other = refl

pub returns : goal.returns
returns c = λ so.
    let s = c.args.state.now in
    let m = c.args.member.now in
    let part : c.unwrap_or-wanted.result.now ≡ wanted s.target.owners m =
    ap (λ (r : Bor Partitions). r.now) c.unwrap_or-wanted.ensures ∙ or_now c.set.result _ ∙ ap (λ (d : Partitions). unwrap_or (option_copied c.set.result) d) c.new-nothing.ensures ∙ c.set.ensures ∙ c.of-target.ensures.partitions in
    let holds : c.unwrap_or-held.result.now ≡ held (pairs s.grants) m =
    ap (λ (r : Bor Partitions). r.now) c.unwrap_or-held.ensures ∙ or_now c.held.result _ ∙ ap (λ (d : Partitions). unwrap_or (option_copied c.held.result) d) c.new-nothing.ensures ∙ c.held.ensures in
    let at = c.is_settled_at.ensures so in
    record {
      kept = c.in-Some.record.now;
      is_kept = sym c.in-Some.ensures;
      arrived = at.arrived ∙ ap At c.epoch.ensures;
      unasked = at.unasked;
      holds = sym holds ∙ c.equals.ensures.same.0 c.if-not-equals.false ∙ part;
      sent = no_news c.in-Some.record.now.sent c.unwrap_or-wanted.result.now (sym c.is_news.ensures ∙ c.if-is_news.false) ∙ ap Some part;
    }
