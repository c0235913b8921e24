-- What a function returned and what reading gives, from each to the other.
use Rattle.std.proofs.Common.{◌≡◌, ◌≢◌, Result, Ok, Err, refl, sym, ap, subst, ◌∙◌, inl, inr}
use Rattle.std.specs.Prelude.{IfOk, IsOkAnd}
use Rattle.kip_msgs.specs.declared.fault.MsgFault.{MsgFault}
use Rattle.kip_msgs.specs.declared.fault.MsgFault.TheVariants.{Wire, UnknownApi, UnknownVersion, LeftOver, NoMemory}
use Rattle.kip_msgs.specs.Reading.{Gives, GivesInMemory}
use Rattle.kip_msgs.specs.Answers.{AnswersInMemory, FailsInMemory}

pub reading_failed : {X Y : Type 0} (view : X → Y) (r : Result X MsgFault) (read : Result Y MsgFault) (fault : MsgFault) → Gives view r read → r ≡ Err fault → read ≡ Err fault
reading_failed view (Ok x) read fault given e = absurd cc
reading_failed view (Err d) read fault given e = cc

pub failed : {X Y : Type 0} (view : X → Y) (r : Result X MsgFault) (read : Result Y MsgFault) (fault : MsgFault) → Gives view r read → read ≡ Err fault → r ≡ Err fault
failed view (Ok x) read fault given e = absurd cc
failed view (Err d) read fault given e = cc

pub if_ok : {X Y : Type 0} (view : X → Y) (P : Y → Type 0) (r : Result X MsgFault) (read : Result Y MsgFault) → Gives view r read → ((y : Y) → read ≡ Ok y → P y) → IfOk r (λ x. P (view x))
if_ok view P (Ok x) read given all = all (view x) given
if_ok view P (Err d) read given all = tt

pub is_ok_and : {X Y : Type 0} (view : X → Y) (P : Y → Type 0) (y : Y) (r : Result X MsgFault) (read : Result Y MsgFault) → Gives view r read → read ≡ Ok y → P y → IsOkAnd r (λ x. P (view x))
is_ok_and view P y (Ok x) read given e holds = subst P (let same : y ≡ view x = cc in same) holds
is_ok_and view P y (Err d) read given e holds = absurd cc

-- ---- the same where memory may run out

pub reading_failed_in_memory : {X Y : Type 0} (view : X → Y) (r : Result X MsgFault) (read : Result Y MsgFault) (fault : MsgFault) → fault ≢ NoMemory → GivesInMemory view r read → r ≡ Err fault → read ≡ Err fault
reading_failed_in_memory view (Ok x) read fault other given e = absurd cc
reading_failed_in_memory view (Err d) read fault other given e =
    let same : d ≡ fault = cc in
    let h = given (λ no_memory. other (sym same ∙ no_memory)) in
    cc

pub if_ok_in_memory : {X Y : Type 0} (view : X → Y) (P : Y → Type 0) (r : Result X MsgFault) (read : Result Y MsgFault) → GivesInMemory view r read → ((y : Y) → read ≡ Ok y → P y) → IfOk r (λ x. P (view x))
if_ok_in_memory view P (Ok x) read given all = all (view x) given
if_ok_in_memory view P (Err d) read given all = tt

-- a fault that contradicts what was read is the want of memory
wants_memory : {Y : Type 0} (d : MsgFault) (read : Result Y MsgFault) → (d ≢ NoMemory → read ≡ Err d) → (read ≡ Err d → ⊥) → d ≡ NoMemory
wants_memory (Wire fault) read given contra = absurd (contra (given (λ e. absurd cc)))
wants_memory UnknownApi read given contra = absurd (contra (given (λ e. absurd cc)))
wants_memory UnknownVersion read given contra = absurd (contra (given (λ e. absurd cc)))
wants_memory LeftOver read given contra = absurd (contra (given (λ e. absurd cc)))
wants_memory NoMemory read given contra = refl

pub answers_in_memory : {X Y : Type 0} (view : X → Y) (y : Y) (r : Result X MsgFault) (read : Result Y MsgFault) → GivesInMemory view r read → read ≡ Ok y → AnswersInMemory view r y
answers_in_memory view y (Ok x) read given e = cc
answers_in_memory view y (Err d) read given e = wants_memory d read given (λ failed. absurd cc)

-- the one fault, or the want of memory
same_or_no_memory : {X : Type 0} (d fault : MsgFault) → (d ≢ NoMemory → d ≡ fault) → FailsInMemory {X = X} fault (Err d)
same_or_no_memory (Wire wire) fault h = inl (ap Err (h (λ e. absurd cc)))
same_or_no_memory UnknownApi fault h = inl (ap Err (h (λ e. absurd cc)))
same_or_no_memory UnknownVersion fault h = inl (ap Err (h (λ e. absurd cc)))
same_or_no_memory LeftOver fault h = inl (ap Err (h (λ e. absurd cc)))
same_or_no_memory NoMemory fault h = inr refl

pub fails_in_memory : {X Y : Type 0} (view : X → Y) (fault : MsgFault) (r : Result X MsgFault) (read : Result Y MsgFault) → GivesInMemory view r read → read ≡ Err fault → FailsInMemory fault r
fails_in_memory view fault (Ok x) read given e = absurd cc
fails_in_memory view fault (Err d) read given e = same_or_no_memory d fault (λ other. let h = given other in cc)
