-- Bodies whose bytes are all of a message: what such a body gives, and why.
use Rattle.std.proofs.Common.{◌≡◌, ◌≢◌, ℕ, Bool, true, false, cond, eqb, List, [], ◌∷◌, ◌++◌, length, Result, Ok, Err, refl, ap, subst, ◌∙◌, arith}
use Rattle.std.proofs.lemmas.Bool.{eqb-true, ne_eqb}
use Rattle.std.proofs.lemmas.List.{append-nil, nil_from_length}
use Rattle.flex_wire.specs.declared.fault.WireFault.{WireFault}
use Rattle.flex_wire.specs.declared.fault.WireFault.TheVariants as wire
use Rattle.flex_wire.specs.Reading.{Read}
use Rattle.flex_wire.specs.Laws.{AreBytes, IsField}
use Rattle.kip_msgs.specs.declared.fault.MsgFault.{MsgFault}
use Rattle.kip_msgs.specs.declared.fault.MsgFault.TheVariants.{Wire, UnknownApi, UnknownVersion, LeftOver, NoMemory}
use Rattle.kip_msgs.specs.Faults.{message_fault}
use Rattle.kip_msgs.specs.Reading.{and_then, field_of, whole, whole_at}

-- what a field's fault can be as a message's
abbrev is_wire_fault : WireFault → Bool
is_wire_fault wire.NoMemory = false
is_wire_fault wire.Short = true
is_wire_fault wire.NotShortest = true
is_wire_fault wire.TooLong = true
is_wire_fault wire.NotUtf8 = true
is_wire_fault wire.TagOrder = true
is_wire_fault wire.BadCount = true
is_wire_fault wire.BadMark = true

abbrev pub is_field_fault : MsgFault → Bool
is_field_fault (Wire fault) = is_wire_fault fault
is_field_fault NoMemory = true
is_field_fault UnknownApi = false
is_field_fault UnknownVersion = false
is_field_fault LeftOver = false

field_fault : (fault : WireFault) → is_field_fault (message_fault fault) ≡ true
field_fault wire.Short = refl
field_fault wire.NotShortest = refl
field_fault wire.TooLong = refl
field_fault wire.NotUtf8 = refl
field_fault wire.TagOrder = refl
field_fault wire.BadCount = refl
field_fault wire.BadMark = refl
field_fault wire.NoMemory = refl

no_field_fault : (fault : WireFault) (m : MsgFault) → is_field_fault m ≡ false → message_fault fault ≡ m → ⊥
no_field_fault fault m other e = let h = field_fault fault in let same = ap is_field_fault e in absurd cc

-- what a body gives: a message that is all of it, one with more behind it, a bad head or a bad field
pub data Outcome {V : Type 0} (IsAll : V → Type 0) (IsLonger : Type 0) (IsHead : MsgFault → Type 0) (r : Result V MsgFault) : Type 0 where
  all_read : (v : V) → IsAll v → r ≡ Ok v → Outcome IsAll IsLonger IsHead r
  left_over : IsLonger → r ≡ Err LeftOver → Outcome IsAll IsLonger IsHead r
  bad_head : (fault : MsgFault) → IsHead fault → r ≡ Err fault → Outcome IsAll IsLonger IsHead r
  bad_field : (fault : WireFault) → r ≡ Err (message_fault fault) → Outcome IsAll IsLonger IsHead r

-- ---- what a field gives that is to be all of the bytes

some_left : (rest : List ℕ) → eqb (length rest) 0 ≡ false → rest ≢ []
some_left rest test none = let h = ap (λ (l : List ℕ). eqb (length l) 0) none in absurd cc

of_rest : {V W : Type 0} {F : V → Type 0} {s : V → List ℕ} (IsAll : W → Type 0) (IsLonger : Type 0) (IsHead : MsgFault → Type 0) (make : V → W) (bytes : List ℕ) → ((v : V) → F v → bytes ≡ s v → IsAll (make v)) → ((v : V) (rest : List ℕ) → F v → rest ≢ [] → bytes ≡ s v ++ rest → IsLonger)
    → (v : V) (rest : List ℕ) (b : Bool) → eqb (length rest) 0 ≡ b → F v → bytes ≡ s v ++ rest → Outcome IsAll IsLonger IsHead (cond b (Ok (make v)) (Err LeftOver))
of_rest {s = s} IsAll IsLonger IsHead make bytes all more v rest true test fits is =
    all_read (make v) (all v fits (is ∙ (ap (λ (l : List ℕ). s v ++ l) (nil_from_length rest (eqb-true _ _ test)) ∙ append-nil (s v)))) refl
of_rest IsAll IsLonger IsHead make bytes all more v rest false test fits is = left_over (more v rest fits (some_left rest test) is) refl

of_read : {V W : Type 0} {F : V → Type 0} {s : V → List ℕ} {read : List ℕ → Read V} (IsAll : W → Type 0) (IsLonger : Type 0) (IsHead : MsgFault → Type 0) (make : V → W) (bytes : List ℕ) → IsField F s read → AreBytes bytes
    → ((v : V) → F v → bytes ≡ s v → IsAll (make v)) → ((v : V) (rest : List ℕ) → F v → rest ≢ [] → bytes ≡ s v ++ rest → IsLonger)
    → (x : Read V) → read bytes ≡ x → Outcome IsAll IsLonger IsHead (and_then (field_of x) (λ y. whole (make y.0) y.1))
of_read {F = F} {s = s} IsAll IsLonger IsHead make bytes field are all more (Ok x) e =
    let t = field.taken bytes x.0 x.1 are e in
    of_rest {F = F} {s = s} IsAll IsLonger IsHead make bytes all more x.0 x.1 (eqb (length x.1) 0) refl t.0 t.1
of_read IsAll IsLonger IsHead make bytes field are all more (Err fault) e = bad_field fault refl

pub whole_outcome : {V W : Type 0} {F : V → Type 0} {s : V → List ℕ} {read : List ℕ → Read V} (IsAll : W → Type 0) (IsLonger : Type 0) (IsHead : MsgFault → Type 0) (make : V → W) (bytes : List ℕ) → IsField F s read → AreBytes bytes
    → ((v : V) → F v → bytes ≡ s v → IsAll (make v)) → ((v : V) (rest : List ℕ) → F v → rest ≢ [] → bytes ≡ s v ++ rest → IsLonger)
    → Outcome IsAll IsLonger IsHead (whole_at make read bytes)
whole_outcome {read = read} IsAll IsLonger IsHead make bytes field are all more = of_read IsAll IsLonger IsHead make bytes field are all more (read bytes) refl

pub whole_again : {V W : Type 0} {F : V → Type 0} {s : V → List ℕ} {read : List ℕ → Read V} (make : V → W) (bytes : List ℕ) (v : V) (rest : List ℕ) → IsField F s read → F v → bytes ≡ s v ++ rest → whole_at make read bytes ≡ whole (make v) rest
whole_again {read = read} make bytes v rest field fits is = ap (whole_at make read) is ∙ rw (field.again v rest fits) refl

-- ---- a message behind which bytes are left, or none

pub none_left : {V : Type 0} (v : V) (rest : List ℕ) → rest ≡ [] → whole v rest ≡ Ok v
none_left v rest none = rw none refl

pub left_whole : {V : Type 0} (v : V) (rest : List ℕ) → rest ≢ [] → whole v rest ≡ Err LeftOver
left_whole v [] other = absurd (other refl)
left_whole v (b ∷ rest) other =
    let some : (length (b ∷ rest) ≡ 0) → ⊥ = λ none. absurd (omega arith) in
    ap (λ (t : Bool). cond t (Ok v) (Err LeftOver)) (ne_eqb (length (b ∷ rest)) 0 some)

-- ---- what each answer says of the body

pub is_all : {V : Type 0} {IsAll : V → Type 0} {IsLonger : Type 0} {IsHead : MsgFault → Type 0} (r : Result V MsgFault) (v : V) → Outcome IsAll IsLonger IsHead r → r ≡ Ok v → IsAll v
is_all {IsAll = IsAll} r v (all_read w all e) given = let same : w ≡ v = cc in subst IsAll same all
is_all r v (left_over h e) given = absurd cc
is_all r v (bad_head fault h e) given = absurd cc
is_all r v (bad_field fault e) given = absurd cc

pub is_longer : {V : Type 0} {IsAll : V → Type 0} {IsLonger : Type 0} {IsHead : MsgFault → Type 0} (r : Result V MsgFault) → (IsHead LeftOver → ⊥) → Outcome IsAll IsLonger IsHead r → r ≡ Err LeftOver → IsLonger
is_longer r no_head (all_read w all e) given = absurd cc
is_longer r no_head (left_over h e) given = h
is_longer {IsHead = IsHead} r no_head (bad_head fault h e) given = let same : fault ≡ LeftOver = cc in absurd (no_head (subst IsHead same h))
is_longer r no_head (bad_field fault e) given = absurd (no_field_fault fault LeftOver refl cc)

pub is_head : {V : Type 0} {IsAll : V → Type 0} {IsLonger : Type 0} {IsHead : MsgFault → Type 0} (r : Result V MsgFault) (fault : MsgFault) → is_field_fault fault ≡ false → fault ≢ LeftOver → Outcome IsAll IsLonger IsHead r → r ≡ Err fault → IsHead fault
is_head r fault no_field other (all_read w all e) given = absurd cc
is_head r fault no_field other (left_over h e) given = absurd (other cc)
is_head {IsHead = IsHead} r fault no_field other (bad_head f h e) given = let same : f ≡ fault = cc in subst IsHead same h
is_head r fault no_field other (bad_field f e) given = absurd (no_field_fault f fault no_field cc)
