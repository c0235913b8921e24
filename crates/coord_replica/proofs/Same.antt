-- A log comes to one state, and has one list of fates.
use Rattle.std.proofs.Common.{◌≡◌, List, [], ◌∷◌, Option, Some, None, Ok, Err, refl, sym, ap, subst, ◌∙◌}
use Rattle.coord_node.specs.Coordinator.{Coordinator, Event, Answer}
use Rattle.coord_node.specs.Laws.{OneAnswer}
use Rattle.replica_entries.specs.Values.{EntryValue}
use Rattle.coord_replica.specs.declared.fault.ReplicaFault.{ReplicaFault}
use Rattle.coord_replica.specs.Applying.{Applies, EventStep, Fate, LogRun, Logged, PassedOver, PassesOver, Taken, Takes, refusal_of}
use Rattle.coord_replica.specs.Entries.{event_of}
use Rattle.coord_replica.specs.Replicas.{LogState}

-- an entry that is taken isn't passed over
never_both : (s : LogState) (e : EntryValue) (fault : ReplicaFault) → refusal_of s e ≡ None → refusal_of s e ≡ Some fault → ⊥
never_both s e fault taken refused = let never : None ≡ Some fault = sym taken ∙ refused in cc

-- .. and is passed over for one reason
same_passed : (s t u : LogState) (at : Logged) (f g : ReplicaFault) → PassesOver s at f t → PassesOver s at g u → (PassedOver f ≡ PassedOver g) × (t ≡ u)
same_passed s t u at f g one other =
    let some : Some f ≡ Some g = sym one.refused ∙ other.refused in
    let same : f ≡ g = cc in
    (ap PassedOver same, one.becomes ∙ sym other.becomes)

module _ (one_answer : OneAnswer) where
  same_event_step : (c : Coordinator) (event : Option Event) (a b : Option Answer) (n o : Coordinator)
      → EventStep c event a n → EventStep c event b o → (a ≡ b) × (n ≡ o)
  same_event_step c None a b n o one other = (one.0 ∙ sym other.0, one.1 ∙ sym other.1)
  same_event_step c (Some event) None b n o one other = absurd one
  same_event_step c (Some event) (Some a) None n o one other = absurd other
  same_event_step c (Some event) (Some a) (Some b) n o one other =
      let same = one_answer c event a b n o one other in (ap Some same.0, same.1)

  pub same_takes : (s : LogState) (e : EntryValue) (a b : Option Answer) (t u : LogState)
      → Takes s e a t → Takes s e b u → (a ≡ b) × (t ≡ u)
  same_takes s e a b t u one other =
      let same = same_event_step s.coordinator (event_of e) a b t.coordinator u.coordinator one.step other.step in
      let coordinator : t.coordinator ≡ u.coordinator = same.1 in
      let applied : t.applied ≡ u.applied = one.applied ∙ sym other.applied in
      let leadership : t.leadership ≡ u.leadership = one.leadership ∙ sym other.leadership in
      let moment : t.moment ≡ u.moment = one.moment ∙ sym other.moment in
      (same.0, λ i. record { coordinator = coordinator i; applied = applied i; leadership = leadership i; moment = moment i })

  pub same_place : (s : LogState) (at : Logged) (a b : Fate) (t u : LogState) → Applies s at a t → Applies s at b u → (a ≡ b) × (t ≡ u)
  same_place s (Ok e) (Taken a) (Taken b) t u one other = let same = same_takes s e a b t u one other in (ap Taken same.0, same.1)
  same_place s (Ok e) (Taken a) (PassedOver g) t u one other = absurd (never_both s e g one.taken other.refused)
  same_place s (Ok e) (PassedOver f) (Taken b) t u one other = absurd (never_both s e f other.taken one.refused)
  same_place s (Err fault) (Taken a) b t u one other = absurd one
  same_place s (Err fault) (PassedOver f) (Taken b) t u one other = absurd other
  same_place s (Ok e) (PassedOver f) (PassedOver g) t u one other = same_passed s t u (Ok e) f g one other
  same_place s (Err fault) (PassedOver f) (PassedOver g) t u one other = same_passed s t u (Err fault) f g one other

  pub same_run : (s : LogState) (log : List Logged) (a b : List Fate) (t u : LogState) → LogRun s log a t → LogRun s log b u → (a ≡ b) × (t ≡ u)
  same_run s [] [] [] t u one other = (refl, one ∙ sym other)
  same_run s [] [] (y ∷ b) t u one other = absurd other
  same_run s [] (x ∷ a) b t u one other = absurd one
  same_run s (at ∷ log) [] b t u one other = absurd one
  same_run s (at ∷ log) (x ∷ a) [] t u one other = absurd other
  same_run s (at ∷ log) (x ∷ a) (y ∷ b) t u one other =
      let first = same_place s at x y one.0 other.0 one.1 other.1 in
      let middle : one.0 ≡ other.0 = first.1 in
      let rest : LogRun one.0 log b u = subst (λ (m : LogState). LogRun m log b u) (sym middle) other.2 in
      let more = same_run one.0 log a b t u one.2 rest in
      let head : x ≡ y = first.0 in let tail : a ≡ b = more.0 in (λ i. head i ∷ tail i, more.1)
