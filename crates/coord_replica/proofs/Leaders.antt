-- Of leaders: how long one leads, and by which clock.
use Rattle.std.proofs.Common.{◌≡◌, ℕ, ◌+◌, ◌-◌, ◌≤◌, max, min, Option, Some, None, Ok, Err, refl, ap, ◌∙◌, arith}
use Rattle.replica_entries.specs.Values.{ContentValue, frame, tick, image, leads}
use Rattle.coord_replica.specs.declared.leading.Leading.{Leading}
use Rattle.coord_replica.specs.Applying.{PassedOver, Taken, leadership_due, moved_to}
use Rattle.coord_replica.specs.Laws.{DeposedLeadersFollow, LeadersKeepTime, LeadershipsBeginQuietly, LeadsUntilDeposed, time_led}
use Rattle.coord_replica.specs.Proposing.{GREATEST_MOMENT, moment_by}
use Rattle.coord_replica.specs.Replicas.{LogState, ReplicaState}
use Rattle.coord_replica.proofs.Refusals.{IsDue-from_refusal_of}

-- ---- how long

until : (r : ReplicaState) (content : ContentValue) (log : LogState) → log.leadership ≡ leadership_due r.log.leadership content
    → LeadsUntilDeposed r log (moved_to r content log)
until r (frame f) log is = record { leads_on = λ same. refl; deposed = λ other. absurd (other is) }
until r (tick moment) log is = record { leads_on = λ same. refl; deposed = λ other. absurd (other is) }
until r (image topics) log is = record { leads_on = λ same. refl; deposed = λ other. absurd (other is) }
until r leads log is =
    record { leads_on = λ same. let next : log.leadership ≡ r.log.leadership + 1 = is in absurd (omega arith); deposed = λ other. refl }

pub deposed_leaders_follow : DeposedLeadersFollow
deposed_leaders_follow r (Ok e) (Taken answer) log step =
    until r e.content log (step.leadership ∙ (IsDue-from_refusal_of r.log e step.taken).leadership)
deposed_leaders_follow r (Err fault) (Taken answer) log step = absurd step
deposed_leaders_follow r at (PassedOver fault) log step =
    record { leads_on = λ same. refl; deposed = λ other. absurd (other (ap (λ (x : LogState). x.leadership) step.becomes)) }

pub leaderships_begin_quietly : LeadershipsBeginQuietly
leaderships_begin_quietly s leadership (Taken answer) t step = (step.step.1, step.moment)
leaderships_begin_quietly s leadership (PassedOver fault) t step =
    (ap (λ (x : LogState). x.coordinator) step.becomes, ap (λ (x : LogState). x.moment) step.becomes)

-- ---- by which clock

by_rises : (o : Option Leading) (clock later : ℕ) → clock ≤ later → moment_by o clock ≤ moment_by o later
by_rises None clock later le = omega arith
by_rises (Some began) clock later le = rises began.moment began.clock GREATEST_MOMENT
  where
    rises : (m k g : ℕ) → min (m + (clock - k)) g ≤ min (m + (later - k)) g
    rises m k g = omega arith

by_steps : (o : Option Leading) (clock later : ℕ) → clock ≤ later → moment_by o later ≤ moment_by o clock + (later - clock)
by_steps None clock later le = omega arith
by_steps (Some began) clock later le = steps began.moment began.clock GREATEST_MOMENT
  where
    steps : (m k g : ℕ) → min (m + (later - k)) g ≤ min (m + (clock - k)) g + (later - clock)
    steps m k g = omega arith

at_begin : (l p c g : ℕ) → l ≤ g → max (min (l + (c - c)) g) (max l p) ≡ max l p
at_begin l p c g le = omega arith

greater : (a b x : ℕ) → a ≤ b → max a x ≤ max b x
greater a b x le = omega arith

greater_by : (a b x d : ℕ) → b ≤ a + d → max b x ≤ max a x + d
greater_by a b x d le = omega arith

at_least : (a b x : ℕ) → a ≡ b → b ≤ max a x
at_least a b x same = omega arith

kept_greater : (a b l p : ℕ) → a ≤ b → max b (max l (max a (max l p))) ≡ max b (max l p)
kept_greater a b l p le = omega arith

pub leaders_keep_time : LeadersKeepTime
leaders_keep_time r clock later le =
    let a : ℕ = moment_by r.leading clock in
    let b : ℕ = moment_by r.leading later in
    let x : ℕ = max r.log.moment r.proposed in
    record {
      begins = λ small. at_begin r.log.moment r.proposed clock GREATEST_MOMENT small;
      goes_on = greater a b x (by_rises r.leading clock later le);
      no_faster = greater_by a b x (later - clock) (by_steps r.leading clock later le);
      no_slower = λ began is. at_least b (min (began.moment + time_led began later) GREATEST_MOMENT) x (ap (λ (o : Option Leading). moment_by o later) is);
      kept = kept_greater a b r.log.moment r.proposed (by_rises r.leading clock later le);
    }
