-- Which entries are refused.
use Rattle.std.proofs.Common.{◌≡◌, ℕ, ◌≤◌, Bool, true, false, Option, option_map, Some, None, Result, Ok, Err, refl, subst, arith}
use Rattle.std.specs.Prelude.{◌==◌, nat_lt, if◌then◌else◌}
use Rattle.std.proofs.lemmas.Bool.Decides.{nat_tests}
use Rattle.topic_meta.specs.Images.{first_fault}
use Rattle.topic_meta.specs.declared.image_fault.ImageFault.{ImageFault}
use Rattle.topic_meta.specs.declared.image_fault.ImageFault.TheVariants as image_faults
use Rattle.replica_entries.specs.declared.fault.EntryFault.{EntryFault}
use Rattle.replica_entries.specs.declared.fault.EntryFault.TheVariants as entry
use Rattle.replica_entries.specs.Values.{ContentValue, EntryValue, frame, tick, image, leads}
use Rattle.coord_replica.specs.declared.fault.ReplicaFault.{ReplicaFault}
use Rattle.coord_replica.specs.declared.fault.ReplicaFault.TheVariants.{NoMemory, OutOfPlace, OtherLeadership, EarlierMoment, NotLeading, BadEntry, BadTopics}
use Rattle.coord_replica.specs.Applying.{Logged, checked, leadership_due, moment_after, refusal_of, refusal_of_read, topics_fault}
use Rattle.coord_replica.specs.Faults.{fault_of_entry, fault_of_topics}
use Rattle.coord_replica.specs.Replicas.{LogState}

-- what the tests of `refusal_of` come to
chosen : (l d m g : ℕ) (f : Option ReplicaFault)
    → (if l == d then (if nat_lt m g then Some EarlierMoment else f) else Some OtherLeadership) ≡ None → (l ≡ d) × (g ≤ m) × (f ≡ None)
chosen l d m g f h = grind (arith, nat_tests)

chosen_due : (l d m g : ℕ) (f : Option ReplicaFault) → l ≡ d → g ≤ m
    → (if l == d then (if nat_lt m g then Some EarlierMoment else f) else Some OtherLeadership) ≡ f
chosen_due l d m g f same in_time = grind (arith, nat_tests)

-- an entry that isn't refused
pub record IsDue (s : LogState) (e : EntryValue) : Type 0 where
  pub leadership : e.leadership ≡ leadership_due s.leadership e.content
  pub moment : s.moment ≤ moment_after s.moment e.content
  pub topics : topics_fault e.content ≡ None

pub IsDue-from_refusal_of : (s : LogState) (e : EntryValue) → refusal_of s e ≡ None → IsDue s e
IsDue-from_refusal_of s e taken =
    let c = chosen e.leadership (leadership_due s.leadership e.content) (moment_after s.moment e.content) s.moment (topics_fault e.content) taken in
    record { leadership = c.0; moment = c.1; topics = c.2 }

pub refusal_of-due : (s : LogState) (e : EntryValue) → e.leadership ≡ leadership_due s.leadership e.content → s.moment ≤ moment_after s.moment e.content
    → refusal_of s e ≡ topics_fault e.content
refusal_of-due s e same in_time =
    chosen_due e.leadership (leadership_due s.leadership e.content) (moment_after s.moment e.content) s.moment (topics_fault e.content) same in_time

-- no leadership is due that is before the present one
pub leadership_due-rises : (present : ℕ) (content : ContentValue) → present ≤ leadership_due present content
leadership_due-rises present (frame f) = omega arith
leadership_due-rises present (tick m) = omega arith
leadership_due-rises present (image topics) = omega arith
leadership_due-rises present leads = omega arith

-- what the tests of `checked` come to
checked_numbers : (l d m g : ℕ) (u : Unit {0})
    → (let r : Result (Unit {0}) ReplicaFault = if l == d then (if nat_lt m g then Err EarlierMoment else Ok tt) else Err OtherLeadership in r) ≡ Ok u → (l ≡ d) × (g ≤ m)
checked_numbers l d m g u h = grind (arith, nat_tests)

pub checked-ok : (s : LogState) (l m : ℕ) (u : Unit {0}) → checked s l m ≡ Ok u → (l ≡ s.leadership) × (s.moment ≤ m)
checked-ok s l m u h = checked_numbers l s.leadership m s.moment u h

-- ---- by which faults

-- what stands at a place is refused by a fault of its own
abbrev pub IsOf : Logged → ReplicaFault → Type 0
IsOf at NoMemory = Unit {0}
IsOf at OutOfPlace = ⊥
IsOf at OtherLeadership = Unit {0}
IsOf at EarlierMoment = Unit {0}
IsOf at NotLeading = ⊥
IsOf at (BadEntry fault) = at ≡ Err fault
IsOf at (BadTopics fault) = Unit {0}

of_entry : (fault : EntryFault) → IsOf (Err fault) (fault_of_entry fault)
of_entry (entry.Wire fault) = refl
of_entry entry.UnknownVersion = refl
of_entry entry.UnknownKind = refl
of_entry entry.BadNumber = refl
of_entry entry.BadBody = refl
of_entry entry.LeftOver = refl
of_entry entry.NoMemory = tt

of_topics : (at : Logged) (fault : ImageFault) → IsOf at (fault_of_topics fault)
of_topics at image_faults.DuplicateName = tt
of_topics at image_faults.DuplicateId = tt
of_topics at image_faults.TooMany = tt
of_topics at image_faults.BadCount = tt
of_topics at image_faults.NoMemory = tt

-- the fault that is there, if one is
abbrev IsOfAny : Logged → Option ReplicaFault → Type 0
IsOfAny at None = Unit {0}
IsOfAny at (Some fault) = IsOf at fault

of_mapped : (at : Logged) (o : Option ImageFault) → IsOfAny at (option_map fault_of_topics o)
of_mapped at None = tt
of_mapped at (Some fault) = of_topics at fault

of_content : (at : Logged) (content : ContentValue) → IsOfAny at (topics_fault content)
of_content at (frame f) = tt
of_content at (tick m) = tt
of_content at (image topics) = of_mapped at (first_fault topics)
of_content at leads = tt

of_chosen : (at : Logged) (a b : Bool) (f : Option ReplicaFault) → IsOfAny at f
    → IsOfAny at (if a then (if b then Some EarlierMoment else f) else Some OtherLeadership)
of_chosen at true true f is = tt
of_chosen at true false f is = is
of_chosen at false b f is = tt

of_any : (s : LogState) (at : Logged) → IsOfAny at (refusal_of_read s at)
of_any s (Ok e) =
    of_chosen (Ok e) (e.leadership == leadership_due s.leadership e.content) (nat_lt (moment_after s.moment e.content) s.moment) (topics_fault e.content)
    (of_content (Ok e) e.content)
of_any s (Err fault) = of_entry fault

pub refused_by : (s : LogState) (at : Logged) (fault : ReplicaFault) → refusal_of_read s at ≡ Some fault → IsOf at fault
refused_by s at fault is = subst (IsOfAny at) is (of_any s at)
