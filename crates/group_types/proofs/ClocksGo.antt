-- A group's clock goes on.
use Rattle.std.proofs.Common.{◌≡◌, max, ap, ◌∙◌}
use Rattle.group_types.specs.Group.{Group}
use Rattle.group_types.specs.Tick.{at_moment, due}
use Rattle.group_types.specs.Clocks.{ClocksGoOn}
use Rattle.group_types.proofs.Consistent.{consistent}
use Rattle.group_types.proofs.Accepted.{Came, unchanged, has_left, went_away, taken_in, came, nobody}
use Rattle.group_types.proofs.OffsetLemmas.{expired_clock}

pub clocks_go_on : ClocksGoOn
clocks_go_on =
    record {
      heartbeats = λ g a m answer new sound step accepted. by g a m answer new accepted (came g (consistent g sound) a answer new step);
      ticks = λ g moment. expired_clock (due (at_moment g moment)) (at_moment g moment);
    }
  where
    by : (g : Group) (a : _) (m : _) (answer : _) (new : Group) → Rattle.group_types.specs.Fencing.IsAcceptedAs m answer → Came g a answer new → new.clock ≡ max g.clock a.moment
    by g a m answer new accepted (unchanged same fails) = absurd (nobody answer fails m accepted)
    by g a m answer new accepted (has_left r epoch there later answers is) = ap (λ (x : Group). x.clock) is
    by g a m answer new accepted (went_away r epoch there later answers is) = ap (λ (x : Group). x.clock) is
    by g a m answer new accepted (taken_in d drafting stages takes) = ap (λ (x : Group). x.clock) stages.is_new ∙ stages.clock ∙ drafting.clock
