-- What a leader proposed is taken.
use Rattle.std.proofs.Common.{◌≡◌, ℕ, ◌≤◌, Option, Some, None, refl, sym, ap, ◌∙◌, arith}
use Rattle.std.specs.Prelude.{IfSome, IsSome, unwrap_or}
use Rattle.replica_entries.specs.Values.{ContentValue, EntryValue, frame, tick, image, leads}
use Rattle.coord_replica.specs.Applying.{leadership_due, refusal_of}
use Rattle.coord_replica.specs.Entries.{event_under, moment_in}
use Rattle.coord_replica.specs.Proposing.{Proposes}
use Rattle.coord_replica.specs.Replicas.{LogState, ReplicaState}
use Rattle.coord_replica.proofs.Refusals.{refusal_of-due}

due : (present : ℕ) (content : ContentValue) → IsSome (event_under present content) → leadership_due present content ≡ present
due present (frame f) some = refl
due present (tick m) some = refl
due present (image topics) some = refl
due present leads some = cc

later : (m : Option ℕ) (s : ℕ) → IfSome m (λ n. s ≤ n) → s ≤ unwrap_or m s
later None s le = omega arith
later (Some m) s le = le

pub proposals_are_taken : (r new : ReplicaState) (e : EntryValue) (s : LogState)
    → Proposes r e new → s.leadership ≡ e.leadership → IfSome (moment_in e.content) (λ moment. s.moment ≤ moment) → refusal_of s e ≡ None
proposals_are_taken r new e s proposes same in_time =
    let is : e.leadership ≡ leadership_due s.leadership e.content =
    sym (ap (λ (l : ℕ). leadership_due l e.content) same ∙ due e.leadership e.content proposes.event) in
    refusal_of-due s e is (later (moment_in e.content) s.moment in_time) ∙ proposes.topics
