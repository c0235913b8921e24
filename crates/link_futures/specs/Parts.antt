-- What one poll of a reader or a writer came to.
use Rattle.std.specs.Prelude.{◌≡◌, ◌⊎◌, ℕ, zero, suc}
use Rattle.link_futures.specs.declared.part.Part.{Part}
use Rattle.link_futures.specs.declared.part.Part.TheVariants.{Waits, Fault, Moved}

-- how many bytes it moved
abbrev pub count_of : Part → ℕ
count_of Waits = 0
count_of Fault = 0
count_of (Moved n) = n

-- how many faults it met
abbrev pub faults_of : Part → ℕ
faults_of Waits = 0
faults_of Fault = 1
faults_of (Moved n) = 0

-- how often it moved nothing, though it was ready
abbrev pub stalls_of : Part → ℕ
stalls_of Waits = 0
stalls_of Fault = 0
stalls_of (Moved zero) = 1
stalls_of (Moved (suc n)) = 0

-- P, where the poll waits
abbrev pub OnWaits : Part → Type 0 → Type 0
OnWaits Waits P = P
OnWaits Fault P = Unit {0}
OnWaits (Moved n) P = Unit {0}

-- no poll of a reader or a writer, or one
abbrev pub AtMostOnce : {T : Type 0} → (T → T → Type 0) → T → T → Type 0
AtMostOnce polls old new = (new ≡ old) ⊎ polls old new
