-- What a function returned and what reading gives, from each to the other.
use Rattle.std.proofs.Common.{◌≡◌, ◌≢◌, Result, Ok, Err, refl, sym, ap, ◌∙◌, inl, inr}
use Rattle.std.specs.Prelude.{IfOk, IfErr}
use Rattle.replica_entries.specs.declared.fault.EntryFault.{EntryFault}
use Rattle.replica_entries.specs.declared.fault.EntryFault.TheVariants.{Wire, UnknownVersion, UnknownKind, BadNumber, BadBody, LeftOver, NoMemory}
use Rattle.replica_entries.specs.Reading.{GivesInMemory, AnswersInMemory, FailsInMemory}

pub reading_failed : {X Y : Type 0} (view : X → Y) (r : Result X EntryFault) (read : Result Y EntryFault) (fault : EntryFault) → fault ≢ NoMemory → GivesInMemory view r read → r ≡ Err fault → read ≡ Err fault
reading_failed view (Ok x) read fault other given e = absurd cc
reading_failed view (Err d) read fault other given e =
    let same : d ≡ fault = cc in
    let h = given (λ no_memory. other (sym same ∙ no_memory)) in
    cc

pub if_ok : {X Y : Type 0} (view : X → Y) (P : Y → Type 0) (r : Result X EntryFault) (read : Result Y EntryFault) → GivesInMemory view r read → ((y : Y) → read ≡ Ok y → P y) → IfOk r (λ x. P (view x))
if_ok view P (Ok x) read given all = all (view x) given
if_ok view P (Err d) read given all = tt

-- a fault that contradicts what was read is the want of memory
wants_memory : {Y : Type 0} (d : EntryFault) (read : Result Y EntryFault) → (d ≢ NoMemory → read ≡ Err d) → (read ≡ Err d → ⊥) → d ≡ NoMemory
wants_memory (Wire fault) read given contra = absurd (contra (given (λ e. absurd cc)))
wants_memory UnknownVersion read given contra = absurd (contra (given (λ e. absurd cc)))
wants_memory UnknownKind read given contra = absurd (contra (given (λ e. absurd cc)))
wants_memory BadNumber read given contra = absurd (contra (given (λ e. absurd cc)))
wants_memory BadBody read given contra = absurd (contra (given (λ e. absurd cc)))
wants_memory LeftOver read given contra = absurd (contra (given (λ e. absurd cc)))
wants_memory NoMemory read given contra = refl

pub answers : {X Y : Type 0} (view : X → Y) (y : Y) (r : Result X EntryFault) (read : Result Y EntryFault) → GivesInMemory view r read → read ≡ Ok y → AnswersInMemory view r y
answers view y (Ok x) read given e = cc
answers view y (Err d) read given e = wants_memory d read given (λ failed. absurd cc)

-- the one fault, or the want of memory
same_or_no_memory : {X : Type 0} (d fault : EntryFault) → (d ≢ NoMemory → d ≡ fault) → FailsInMemory {X = X} fault (Err d)
same_or_no_memory (Wire wire) fault h = inl (ap Err (h (λ e. absurd cc)))
same_or_no_memory UnknownVersion fault h = inl (ap Err (h (λ e. absurd cc)))
same_or_no_memory UnknownKind fault h = inl (ap Err (h (λ e. absurd cc)))
same_or_no_memory BadNumber fault h = inl (ap Err (h (λ e. absurd cc)))
same_or_no_memory BadBody fault h = inl (ap Err (h (λ e. absurd cc)))
same_or_no_memory LeftOver fault h = inl (ap Err (h (λ e. absurd cc)))
same_or_no_memory NoMemory fault h = inr refl

pub fails : {X Y : Type 0} (view : X → Y) (fault : EntryFault) (r : Result X EntryFault) (read : Result Y EntryFault) → GivesInMemory view r read → read ≡ Err fault → FailsInMemory fault r
fails view fault (Ok x) read given e = absurd cc
fails view fault (Err d) read given e = same_or_no_memory d fault (λ other. let h = given other in cc)

-- a fault but the want of memory means that no value passes that would be read
pub none_spelled : {X Y : Type 0} (view : X → Y) (r : Result X EntryFault) (read : Result Y EntryFault) (P : Y → Type 0) → ((y : Y) → P y → read ≡ Ok y) → GivesInMemory view r read → IfErr r (λ fault. fault ≢ NoMemory → (y : Y) → ¬ P y)
none_spelled view (Ok x) read P reads given = tt
none_spelled view (Err d) read P reads given = λ other y p. let a = reads y p in let b = given other in absurd cc
