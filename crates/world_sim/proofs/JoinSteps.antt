-- A join of a new member is a turn, from its draft on.
use Rattle.std.proofs.Common.{◌≡◌, suc, ◌<◌, ◌≤◌, ◌==◌, Bool, true, false, ◌&&◌, ◌||◌, if◌then◌else◌, Some, None, refl, sym, ap, subst, ◌∙◌, ⊎_elim, true≢false, arith, nat_le}
use Rattle.std.specs.List.{Contains}
use Rattle.std.specs.FinMap as finite
use Rattle.group_types.specs.declared.code.Code.TheVariants as codes
use Rattle.group_types.specs.declared.stamp.Stamp.{Stamp}
use Rattle.group_types.specs.Text.{Text}
use Rattle.group_types.specs.Sets.{has}
use Rattle.group_types.specs.Topics.{Topics}
use Rattle.group_types.specs.Request.{Heartbeat, is_full, reported}
use Rattle.group_types.specs.Group.{Record, Records, Past, Group}
use Rattle.group_types.specs.Settle.{settled}
use Rattle.group_types.specs.Checks.{Accepted, Refused}
use Rattle.group_types.specs.HeartbeatStep.{Answer, Replied, Reply, Draft, Stages, shown, is_news, assignment_of, sent_after, epoch_number, acceptance, ByVerdict, TakesIn}
use Rattle.group_core.specs.CodeOrder.{LateDraft, LateStages, TakesInLate}
use Rattle.group_types.specs.Renewal.{changed_if, view_for}
use Rattle.group_types.specs.Limits.{GREATEST_EPOCH}
use Rattle.group_types.specs.Sound.{IsSound}
use Rattle.world_sim.specs.Turn.{IsNamedBy, Promises, WasPast, Turn}
use Rattle.group_types.proofs.Lookups.{get-inserted}
use Rattle.world_sim.proofs.Stages.{shows_held, sent_at, IsRenewed, renewed_by, renewed_rises, HasSettled, has_settled, told_by, told_late}
use Rattle.world_sim.proofs.Acts.{IsDrafted}
use Rattle.world_sim.proofs.Turns.{unchanged, unavailable, replied_is}
use Rattle.world_sim.proofs.Joins.{IsFresh, is_at, came_new, IsHeir, takes_over}

abbrev pub new_draft : Group → Text → Record → Draft
new_draft c m after = record { group = c; id = m; before = None; after = after }

module _ (g : Group) (sound : IsSound g) (q : Heartbeat) (stamp : Stamp) (m : Text) (after : Record) (fresh : IsFresh g q stamp m after) where
  new_turn : (c n s : Group) (drafted : IsDrafted g m after c) (renewed : IsRenewed c n) (risen : c.target_epoch < n.target_epoch) (settles : HasSettled n m after (reported q) s)
      → ((new : Group) → new.serial ≡ c.serial → IsNamedBy g q new m)
      → (b : Bool) (answer : Answer) (new : Group) → answer ≡ Replied (acceptance m settles.after (assignment_of b (shown s m)))
      → new ≡ record s { records = finite.insert s.records m (sent_after settles.after (assignment_of b (shown s m))) } → Turn g q stamp answer new
  new_turn c n s drafted renewed risen settles names b answer new answers is =
      let assignment = assignment_of b (shown s m) in
      let serial : new.serial ≡ c.serial = ap (λ (t : Group). t.serial) is ∙ settles.serial ∙ renewed.serial in
      let at = is_at g sound q stamp m after fresh c n s drafted renewed risen settles in
      let z_at = sent_at settles.after assignment after.stamp after.instance n.target_epoch at in
      let promises : Promises q stamp new (acceptance m settles.after assignment) =
      record {
        id = m;
        is_id = refl;
        named = λ given. ⊎_elim (λ is_named. sym is_named.0) (λ made. absurd (given made.0)) (names new serial);
        after = sent_after settles.after assignment;
        has_record = ap (λ (t : Group). finite.get t.records m) is ∙ get-inserted s.records m (sent_after settles.after assignment);
        stamped = z_at.stamped ∙ fresh.stamped;
        number = n.target_epoch;
        at = z_at.at;
        said = ap epoch_number at.at;
        shows = λ set p there has_p. ap (λ (t : Group). has t.grants (m, p)) is ∙ shows_held s m b set p there has_p;
      } in
      record {
        salt = ap (λ (t : Group). t.salt) is ∙ settles.salt ∙ renewed.salt ∙ drafted.salt;
        serial = subst (λ t. g.serial ≤ t) (sym serial) drafted.serial;
        target_epoch = omega (arith, ap (λ (t : Group). t.target_epoch) is ∙ settles.target_epoch, risen, drafted.target_epoch);
        came = came_new g sound q stamp m after fresh c n s drafted renewed risen settles b new is (names new serial);
        went = λ k t there. WasPast (drafted.past k t (subst (λ (l : Past). Contains l (k, t)) (ap (λ (x : Group). x.past) is ∙ settles.past ∙ renewed.past) there));
        replies = λ reply said success join.
            subst (λ (t : Reply). Promises q stamp new t) (replied_is (acceptance m settles.after assignment) reply (sym answers ∙ said)) promises;
      }

  by_change : (change b : Bool) (d : Group) (view : Topics) (answer : Answer) (new : Group) → change ≡ true → IsDrafted g m after d → d.target_epoch ≤ d.epoch
      → ((new : Group) → new.serial ≡ d.serial → IsNamedBy g q new m)
      → ByVerdict (if b then Refused codes.CoordinatorNotAvailable else Accepted) (Stages (changed_if change d view) (new_draft d m after) q) g answer new → Turn g q stamp answer new
  by_change false b d view answer new no_change drafted below names step = absurd (true≢false (sym no_change))
  by_change true true d view answer new is drafted below names step = unchanged g q stamp answer new step.1 (unavailable answer step.0)
  by_change true false d view answer new is drafted below names step =
      let c : Group = record d { epoch = suc d.epoch; view = view } in
      let drafted_c : IsDrafted g m after c =
      record { records = drafted.records; grants = drafted.grants; target = drafted.target; target_epoch = drafted.target_epoch; salt = drafted.salt; epoch = omega (arith, below); serial = drafted.serial; past = drafted.past } in
      let n = step.renewed in
      let renewed = renewed_by (c.epoch == c.target_epoch) c n drafted_c.epoch refl step.renews in
      let risen = renewed_rises (c.epoch == c.target_epoch) c n (omega (arith, below)) refl step.renews in
      let there : finite.get n.records m ≡ Some after = ap (λ (t : Records). finite.get t m) (renewed.records ∙ drafted.records) ∙ get-inserted g.records m after in
      let settles = has_settled n m after (reported q) n.clock there in
      let s : Group = settled n m (reported q) n.clock in
      let told = told_by c (new_draft d m after) q answer new step settles.after (ap (λ (t : Records). finite.get t m) settles.records ∙ get-inserted n.records m settles.after) in
      new_turn c n s drafted_c renewed risen settles names (is_full q || is_news settles.after.sent (shown s m)) answer new told.answers told.leaves

  pub takes_new : (d : Group) (image : Topics) (answer : Answer) (new : Group) → IsDrafted g m after d → d.target_epoch ≤ d.epoch
      → ((new : Group) → new.serial ≡ d.serial → IsNamedBy g q new m)
      → TakesIn g (new_draft d m after) q image answer new → Turn g q stamp answer new
  takes_new d image answer new drafted below names takes =
      by_change takes.change (takes.change && nat_le GREATEST_EPOCH g.epoch) d (view_for image d.records) answer new takes.is_change drafted below names takes.step

-- ---- a take-over, in the code's order

abbrev pub taking_draft : Group → Text → Record → Record → Text → LateDraft
taking_draft c old r after heir = record { group = c; id = old; before = Some r; after = after; heir = Some (record { id = heir; last = r.stamp }) }

module _ (g : Group) (sound : IsSound g) (q : Heartbeat) (stamp : Stamp) (old : Text) (r after : Record) (heir : Text) (is_heir : IsHeir g q stamp old r after heir) where
  over_draft : (c d : Group) (answer : Answer) (new : Group) → IsDrafted g old after c → ((new : Group) → new.serial ≡ c.serial → IsNamedBy g q new heir)
      → LateStages c (taking_draft d old r after heir) q answer new → Turn g q stamp answer new
  over_draft c d answer new drafted names step =
      let n = step.renewed in
      let renewed = renewed_by (c.epoch == c.target_epoch) c n drafted.epoch refl step.renews in
      let there : finite.get n.records old ≡ Some after = ap (λ (t : Records). finite.get t old) (renewed.records ∙ drafted.records) ∙ get-inserted g.records old after in
      let settles = has_settled n old after (reported q) n.clock there in
      let s : Group = settled n old (reported q) n.clock in
      let told = told_late c (taking_draft d old r after heir) q answer new step settles.after (ap (λ (t : Records). finite.get t old) settles.records ∙ get-inserted n.records old settles.after) in
      takes_over g sound q stamp old r after heir is_heir c n s drafted renewed settles (is_full q || is_news settles.after.sent (shown s old)) new told.leaves
      (names new (ap (λ (t : Group). t.serial) told.leaves ∙ settles.serial ∙ renewed.serial)) answer told.answers

  over_change : (change b : Bool) (d : Group) (view : Topics) (answer : Answer) (new : Group) → IsDrafted g old after d
      → ((new : Group) → new.serial ≡ d.serial → IsNamedBy g q new heir)
      → ByVerdict (if b then Refused codes.CoordinatorNotAvailable else Accepted) (LateStages (changed_if change d view) (taking_draft d old r after heir) q) g answer new → Turn g q stamp answer new
  over_change change true d view answer new drafted names step = unchanged g q stamp answer new step.1 (unavailable answer step.0)
  over_change false false d view answer new drafted names step = over_draft d d answer new drafted names step
  over_change true false d view answer new drafted names step =
      over_draft (record d { epoch = suc d.epoch; view = view }) d answer new
      (record { records = drafted.records; grants = drafted.grants; target = drafted.target; target_epoch = drafted.target_epoch; salt = drafted.salt; epoch = omega (arith, drafted.epoch); serial = drafted.serial; past = drafted.past })
      names step

  pub takes_heir : (d : Group) (image : Topics) (answer : Answer) (new : Group) → IsDrafted g old after d
      → ((new : Group) → new.serial ≡ d.serial → IsNamedBy g q new heir)
      → TakesInLate g (taking_draft d old r after heir) q image answer new → Turn g q stamp answer new
  takes_heir d image answer new drafted names takes =
      over_change takes.change (takes.change && nat_le GREATEST_EPOCH g.epoch) d (view_for image d.records) answer new drafted names takes.step
