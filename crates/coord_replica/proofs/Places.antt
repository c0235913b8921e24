-- A place that was applied: what stands there was taken, or passed over.
use Rattle.std.proofs.Common.{◌≡◌, ◌≢◌, ◌⊎◌, inl, inr, ℕ, ◌+◌, true, false, List, Option, Some, None, Result, Ok, Err, refl, sym, ap, subst, ◌∙◌, append-nil, true≢false}
use Rattle.std.specs.Prelude.{IfErr, IfOk, IsTrue}
use Rattle.flex_wire.specs.Laws.{AreBytes}
use Rattle.group_types.proofs.Lookups.{some_is}
use Rattle.coord_node.specs.Coordinator.{Answer, Replied, Closes, Done}
use Rattle.replica_entries.specs.declared.fault.EntryFault.{EntryFault}
use Rattle.replica_entries.specs.declared.fault.EntryFault.TheVariants as entry
use Rattle.replica_entries.specs.Reading.{entry_at}
use Rattle.replica_entries.specs.Spelling.{SpellsEntry}
use Rattle.replica_entries.specs.Values.{ContentValue, frame, tick, image, leads}
use Rattle.replica_entries.proofs.SpellingLaws.{fault_is_true, read_spells}
use Rattle.coord_replica.specs.declared.applied.Applied.{Applied}
use Rattle.coord_replica.specs.declared.applied.Applied.TheVariants as applied
use Rattle.coord_replica.specs.declared.fault.ReplicaFault.{ReplicaFault}
use Rattle.coord_replica.specs.declared.fault.ReplicaFault.TheVariants.{NoMemory, OutOfPlace, OtherLeadership, EarlierMoment, NotLeading, BadEntry, BadTopics}
use Rattle.coord_replica.specs.Applying.{Applies, AppliesBytes, Fate, IsHeldUp, Logged, PassedOver, Taken, TakesBytes, TellsWhy, is_known, is_passed_over, moved_by, refusal_of_read, told_of, told_under}
use Rattle.coord_replica.specs.Replicas.{LogState, ReplicaState, ReplicaValue, log_of, replica_state}
use Rattle.coord_replica.proofs.Refusals.{IsOf, refused_by}

-- an entry that was taken isn't told as passed over
abbrev IsToldWhy : Option Applied → Type 0
IsToldWhy None = Unit {0}
IsToldWhy (Some what) = TellsWhy what

told_why : (l : ℕ) (content : ContentValue) (answer : Option Answer) → IsToldWhy (told_under l content answer)
told_why l (frame f) (Some (Replied bytes)) = tt
told_why l (frame f) (Some Closes) = tt
told_why l (frame f) (Some (Done removed)) = tt
told_why l (frame f) None = tt
told_why l (tick moment) (Some (Replied bytes)) = tt
told_why l (tick moment) (Some Closes) = tt
told_why l (tick moment) (Some (Done removed)) = tt
told_why l (tick moment) None = tt
told_why l (image topics) (Some (Replied bytes)) = tt
told_why l (image topics) (Some Closes) = tt
told_why l (image topics) (Some (Done removed)) = tt
told_why l (image topics) None = tt
told_why l leads (Some answer) = tt
told_why l leads None = tt

pub taken_bytes : (old new : ReplicaState) (bytes : List ℕ) (what : Applied) (before after : List ℕ)
    → TakesBytes old bytes what new before after → AppliesBytes old bytes what new before after
taken_bytes old new bytes what before after it =
    let fate : Fate = Taken it.taken.answer in
    record {
      fate = fate;
      applies = subst (λ (at : Logged). Applies old.log at fate new.log) (sym it.read) it.taken.takes;
      spells = subst (λ (at : Logged). IfOk at (λ e. SpellsEntry e bytes)) (sym it.read) it.spells;
      own = it.taken.own ∙ sym (ap (λ (at : Logged). moved_by fate old at new.log) it.read);
      says = ap (told_of fate) it.read ∙ it.taken.says;
      why = subst IsToldWhy it.taken.says (told_why it.entry.leadership it.entry.content it.taken.answer);
      replies = it.taken.replies;
    }

-- ---- an entry that is refused

-- a fault of the entry, or want of memory
abbrev IsRefusal : LogState → Logged → ReplicaFault → Type 0
IsRefusal s at fault = (fault ≡ NoMemory) ⊎ (refusal_of_read s at ≡ Some fault)

refusal : (s : LogState) (at : Logged) (fault : ReplicaFault) → IsRefusal s at fault → is_passed_over fault ≡ true → refusal_of_read s at ≡ Some fault
refusal s at fault (inl short) passed = absurd (true≢false (sym passed ∙ ap is_passed_over short))
refusal s at fault (inr is) passed = is

known : (s : LogState) (at : Logged) (fault : ReplicaFault) → refusal_of_read s at ≡ Some fault → is_passed_over fault ≡ true → at ≢ Err entry.UnknownVersion
known s at fault refused passed later =
    let none : is_passed_over fault ≡ false =
    ap is_passed_over (some_is fault (BadEntry entry.UnknownVersion) (sym refused ∙ ap (refusal_of_read s) later)) in
    true≢false (sym passed ∙ none)

read_bytes : (bytes : List ℕ) → AreBytes bytes → (at : Logged) → entry_at bytes ≡ at → IfOk at (λ e. SpellsEntry e bytes)
read_bytes bytes are (Ok e) same = read_spells bytes e are same
read_bytes bytes are (Err fault) same = tt

-- .. is passed over
passed_bytes : (old new : ReplicaState) (bytes : List ℕ) (fault : ReplicaFault) (out : List ℕ) → AreBytes bytes → IsRefusal old.log (entry_at bytes) fault
    → is_passed_over fault ≡ true → new ≡ record old { log = record old.log { applied = old.log.applied + 1 } }
    → AppliesBytes old bytes (applied.PassedOver fault) new out out
passed_bytes old new bytes fault out are is passed becomes =
    let refused = refusal old.log (entry_at bytes) fault is passed in
    let log : new.log ≡ record old.log { applied = old.log.applied + 1 } = ap (λ (r : ReplicaState). r.log) becomes in
    record {
      fate = PassedOver fault;
      applies = record { refused = refused; known = known old.log (entry_at bytes) fault refused passed; becomes = log };
      spells = read_bytes bytes are (entry_at bytes) refl;
      own = becomes ∙ (λ i. record old { log = sym log i });
      says = refl;
      why = passed;
      replies = sym (append-nil out);
    }

-- .. or holds the log up
later_version : (fault : EntryFault) → is_known fault ≡ false → fault ≡ entry.UnknownVersion
later_version (entry.Wire fault) is = absurd (true≢false is)
later_version entry.UnknownVersion is = refl
later_version entry.UnknownKind is = absurd (true≢false is)
later_version entry.BadNumber is = absurd (true≢false is)
later_version entry.BadBody is = absurd (true≢false is)
later_version entry.LeftOver is = absurd (true≢false is)
later_version entry.NoMemory is = absurd (true≢false is)

held_by : (s : LogState) (place : ℕ) (bytes : List ℕ) (fault : ReplicaFault) → AreBytes bytes → IsOf (entry_at bytes) fault → is_passed_over fault ≡ false → IsHeldUp s place bytes fault
held_by s place bytes NoMemory are is passed = tt
held_by s place bytes OutOfPlace are is passed = absurd is
held_by s place bytes OtherLeadership are is passed = absurd (true≢false passed)
held_by s place bytes EarlierMoment are is passed = absurd (true≢false passed)
held_by s place bytes NotLeading are is passed = absurd is
held_by s place bytes (BadEntry fault) are is passed =
    let later = later_version fault passed in
    (later, fault_is_true bytes entry.UnknownVersion are (is ∙ ap (λ (f : EntryFault). let at : Logged = Err f in at) later))
held_by s place bytes (BadTopics fault) are is passed = absurd (true≢false passed)

held_up : (s : LogState) (place : ℕ) (bytes : List ℕ) (fault : ReplicaFault) → AreBytes bytes → IsRefusal s (entry_at bytes) fault → is_passed_over fault ≡ false
    → IsHeldUp s place bytes fault
held_up s place bytes fault are (inl short) passed = subst (IsHeldUp s place bytes) (sym short) tt
held_up s place bytes fault are (inr is) passed = held_by s place bytes fault are (refused_by s (entry_at bytes) fault is) passed

-- ---- what a call gives

-- that was refused, and passed over
pub passed_result : (result : Result Applied ReplicaFault) (old middle new : ReplicaValue) (bytes : List ℕ) (fault : ReplicaFault) (before after : List ℕ)
    → AreBytes bytes → IsRefusal (log_of old) (entry_at bytes) fault → middle ≡ old → after ≡ before
    → IfOk result (λ what. (what ≡ applied.PassedOver fault) × IsTrue (is_passed_over fault) × (new ≡ record middle { applied = middle.applied + 1 }))
    → IfOk result (λ what. AppliesBytes (replica_state old) bytes what (replica_state new) before after)
passed_result (Ok what) old middle new bytes fault before after are is same kept it =
    let becomes : new ≡ record old { applied = old.applied + 1 } = it.2 ∙ ap (λ (r : ReplicaValue). record r { applied = r.applied + 1 }) same in
    let all = passed_bytes (replica_state old) (replica_state new) bytes fault before are is it.1 (ap replica_state becomes) in
    subst (λ (w : Applied). AppliesBytes (replica_state old) bytes w (replica_state new) before after) (sym it.0)
    (subst (λ (l : List ℕ). AppliesBytes (replica_state old) bytes (applied.PassedOver fault) (replica_state new) before l) (sym kept) all)
passed_result (Err why) old middle new bytes fault before after are is same kept it = tt

-- .. or holds the log up
pub held_result : (result : Result Applied ReplicaFault) (s : LogState) (place : ℕ) (bytes : List ℕ) (fault : ReplicaFault) → AreBytes bytes
    → IsRefusal s (entry_at bytes) fault → IfErr result (λ why. (why ≡ fault) × (is_passed_over fault ≡ false)) → IfErr result (IsHeldUp s place bytes)
held_result (Ok what) s place bytes fault are is it = tt
held_result (Err why) s place bytes fault are is it = subst (IsHeldUp s place bytes) (sym it.0) (held_up s place bytes fault are is it.1)
