-- What is spelled is added, one behind the other.
use Rattle.std.proofs.Common.{◌≡◌, ◌≢◌, ℕ, ◌+◌, ◌<◌, ◌≤◌, List, [], ◌∷◌, ◌++◌, length, Some, None, Result, Ok, Err, refl, sym, ap, subst, ◌∙◌, append_assoc, true≢false, arith}
use Rattle.std.specs.Prelude.{IsOk, MatchResult}
use Rattle.std.specs.List.{flat_map, AllByRecursion}
use Rattle.std.proofs.lemmas.List.Concat.{flat_map-cons}
use Rattle.std.proofs.lemmas.List.Elements.{recursion_from_All}
use Rattle.flex_wire.specs.Spelling.{array_count}
use Rattle.flex_wire.specs.Composed.{array}
use Rattle.replica_snapshots.specs.declared.fault.SnapshotFault.{SnapshotFault}
use Rattle.replica_snapshots.specs.declared.fault.SnapshotFault.TheVariants.{NoMemory}
use Rattle.group_types.specs.Partition.{Partitions}
use Rattle.group_types.specs.Text.{Text}
use Rattle.group_core.specs.Group.{GroupValue}
use Rattle.replica_snapshots.specs.Building.{Adds, AddsArray, AddsEach, Built, CanEach, with_each, CanAddFormer, with_former, CanAddMember, with_part, CanAddOffset, with_committed, last_fields, FitLast, with_members, with_last, CanAddLast}
use Rattle.replica_snapshots.specs.Parts.{GroupParts}
use Rattle.replica_snapshots.specs.Spelling.{former_fields, FitsFormer, member_fields, FitsMember, offset_fields, FitsOffset}
use Rattle.replica_snapshots.specs.Reading.{count_at}
use Rattle.replica_snapshots.proofs.ReadingLaws.{stopped, taken, count_is_read}

module _ {S E : Type 0} (F : E → Type 0) (s : E → List ℕ) (Can : S → E → Type 0) (with_one : S → E → S) where
  -- of some elements, whose number is known, these are left, once so many were added
  pub record AreLeft (es : List E) (rest : List ℕ) (count i : ℕ) (old now : S) (left : List ℕ) : Type 0 where
    pub more : List E
    pub number : length more + i ≡ count
    pub fits : AllByRecursion F more
    pub can : CanEach Can with_one now more
    pub spelled : left ≡ flat_map s more ++ rest
    pub same : with_each with_one now more ≡ with_each with_one old es

  -- whatever elements were spelled so, there are some left
  pub record IsAdding (count i : ℕ) (old now : S) (bytes left : List ℕ) : Type 0 where
    pub some : (es : List E) (rest : List ℕ) → length es ≡ count → AllByRecursion F es → CanEach Can with_one old es → bytes ≡ flat_map s es ++ rest
        → AreLeft es rest count i old now left

  pub none_added : (count : ℕ) (old : S) (bytes : List ℕ) → IsAdding count 0 old old bytes bytes
  none_added count old bytes = record {
    some = λ es rest all fits can is. record { more = es; number = omega (arith, all); fits = fits; can = can; spelled = is; same = refl };
  }

  regrouped : (e : E) (more : List E) (rest : List ℕ) → flat_map s (e ∷ more) ++ rest ≡ s e ++ (flat_map s more ++ rest)
  regrouped e more rest = ap (λ (x : List ℕ). x ++ rest) (flat_map-cons s e more) ∙ append_assoc (s e) (flat_map s more) rest

  one_less : (more es : List E) (rest : List ℕ) (count i : ℕ) (old now new : S) (left after : List ℕ) → i < count → Adds F s Can with_one (Ok tt) now new left after
      → length more + i ≡ count → AllByRecursion F more → CanEach Can with_one now more → left ≡ flat_map s more ++ rest → with_each with_one now more ≡ with_each with_one old es
      → AreLeft es rest count (i + 1) old new after
  one_less [] es rest count i old now new left after lt one number fits can spelled same = absurd (omega (arith, lt, number))
  one_less (e ∷ more) es rest count i old now new left after lt one number fits can spelled same =
      let added = one e (flat_map s more ++ rest) fits.0 can.0 (spelled ∙ regrouped e more rest) in
      record {
        more = more;
        number = omega (arith, number);
        fits = fits.1;
        can = subst (λ (x : S). CanEach Can with_one x more) (sym added.0) can.1;
        spelled = added.1;
        same = ap (λ (x : S). with_each with_one x more) added.0 ∙ same;
      }

  pub one_added : {count i : ℕ} {old now new : S} {bytes left after : List ℕ} → i < count → IsAdding count i old now bytes left → Adds F s Can with_one (Ok tt) now new left after
      → IsAdding count (i + 1) old new bytes after
  one_added {count} {i} {old} {now} {new} {bytes} {left} {after} lt before one = record {
    some = λ es rest all fits can is.
        let so_far = before.some es rest all fits can is in
        one_less so_far.more es rest count i old now new left after lt one so_far.number so_far.fits so_far.can so_far.spelled so_far.same;
  }

  none_else : (more : List E) (rest : List ℕ) (count i : ℕ) (now : S) (left : List ℕ) (fault : SnapshotFault) → i < count → Adds F s Can with_one (Err fault) now now left left
      → length more + i ≡ count → AllByRecursion F more → CanEach Can with_one now more → left ≡ flat_map s more ++ rest → fault ≡ NoMemory
  none_else [] rest count i now left fault lt one number fits can spelled = absurd (omega (arith, lt, number))
  none_else (e ∷ more) rest count i now left fault lt one number fits can spelled =
      one e (flat_map s more ++ rest) fits.0 can.0 (spelled ∙ regrouped e more rest)

  -- the fault with which adding one stopped
  pub each_stopped : {count i : ℕ} {old now : S} (new : S) {bytes left : List ℕ} (after : List ℕ) (r : Result (Unit {0}) SnapshotFault) (fault other : SnapshotFault) → i < count
      → IsAdding count i old now bytes left → Adds F s Can with_one (Err fault) now now left left → r ≡ Err other → other ≡ fault
      → AddsEach count F s Can with_one r old new bytes after
  each_stopped {count} {i} {old} {now} new {bytes} {left} after r fault other lt before one is same =
      subst (λ (x : Result (Unit {0}) SnapshotFault). AddsEach count F s Can with_one x old new bytes after) (sym (is ∙ ap Err same))
      (λ es rest fits can spelled.
      let so_far = before.some es rest fits.0 fits.1 can spelled in
      none_else so_far.more rest count i now left fault lt one so_far.number so_far.fits so_far.can so_far.spelled)

  all_done : (more es : List E) (rest : List ℕ) (count i : ℕ) (old now : S) (left : List ℕ) → count ≤ i → length more + i ≡ count → left ≡ flat_map s more ++ rest
      → with_each with_one now more ≡ with_each with_one old es → (now ≡ with_each with_one old es) × (left ≡ rest)
  all_done [] es rest count i old now left le number spelled same = (same, spelled)
  all_done (e ∷ more) es rest count i old now left le number spelled same = absurd (omega (arith, le, number))

  pub each_added : {count i : ℕ} {old now : S} {bytes left : List ℕ} → count ≤ i → IsAdding count i old now bytes left
      → AddsEach count F s Can with_one (Ok tt) old now bytes left
  each_added {count} {i} {old} {now} {bytes} {left} le before =
      λ es rest fits can spelled.
      let so_far = before.some es rest fits.0 fits.1 can spelled in
      all_done so_far.more es rest count i old now left le so_far.number so_far.spelled so_far.same

  -- ---- their number, and the elements behind it

  abbrev behind : (es : List E) (rest : List ℕ) → List ℕ
  behind es rest = flat_map s es ++ rest

  pub array_stopped : {bytes : List ℕ} (left : List ℕ) (old new : S) (r : Result (Unit {0}) SnapshotFault) (fault other : SnapshotFault) → (fault ≢ NoMemory → count_at bytes ≡ None)
      → r ≡ Err other → other ≡ fault → AddsArray F s Can with_one r old new bytes left
  array_stopped {bytes} left old new r fault other gives is same =
      subst (λ (x : Result (Unit {0}) SnapshotFault). AddsArray F s Can with_one x old new bytes left) (sym (is ∙ ap Err same))
      (λ es rest fits can spelled. stopped count_is_read bytes fault gives (length es) (behind es rest) fits.0 (spelled ∙ append_assoc (array_count (length es)) (flat_map s es) rest))

  pub array_added : {bytes middle : List ℕ} (left : List ℕ) (old new : S) {count : ℕ} (r : Result (Unit {0}) SnapshotFault) → count_at bytes ≡ Some (count, middle)
      → AddsEach count F s Can with_one r old new middle left → AddsArray F s Can with_one r old new bytes left
  array_added {bytes} {middle} left old new {count} r gives each =
      λ es rest fits can spelled.
      let size = taken count_is_read bytes count middle gives (length es) (behind es rest) fits.0 (spelled ∙ append_assoc (array_count (length es)) (flat_map s es) rest) in
      each es rest (sym size.0, recursion_from_All F es fits.1) can size.1

-- what comes of a success that is known
pub of_success : {X P : Type 0} (W : SnapshotFault → Type 0) (r : Result X SnapshotFault) → IsOk r → P → MatchResult r (λ _. P) W
of_success W (Ok x) ok is = is
of_success W (Err fault) ok is = absurd (true≢false (sym ok))

-- ---- the lists of a group

last_parts : (g : GroupParts) (rest : List ℕ) → last_fields g ++ rest ≡ array former_fields g.past ++ (array member_fields g.members ++ (array offset_fields g.offsets ++ rest))
last_parts g rest =
    append_assoc (array former_fields g.past) (array member_fields g.members ++ array offset_fields g.offsets) rest
    ∙ ap (λ (l : List ℕ). array former_fields g.past ++ l) (append_assoc (array member_fields g.members) (array offset_fields g.offsets) rest)

-- what comes of a success, of which something else is told
pub told_else : {X : Type 0} (P Q : Type 0) (W : SnapshotFault → Type 0) (r : Result X SnapshotFault) → (P → Q) → MatchResult r (λ _. P) W → MatchResult r (λ _. Q) W
told_else P Q W (Ok x) other is = other is
told_else P Q W (Err fault) other is = is

pub stopped_at_past : {old : GroupValue} (new : GroupValue) {s : List (Text × Partitions)} (t : List (Text × Partitions)) {bytes : List ℕ} (left : List ℕ) (r : Result (Unit {0}) SnapshotFault) (fault other : SnapshotFault)
    → AddsArray FitsFormer former_fields CanAddFormer with_former (Err fault) old old bytes bytes → r ≡ Err other → other ≡ fault
    → Adds FitLast last_fields CanAddLast with_last r (old, s) (new, t) bytes left
stopped_at_past {old} new {s} t {bytes} left r fault other past is same =
    subst (λ (x : Result (Unit {0}) SnapshotFault). Adds FitLast last_fields CanAddLast with_last x (old, s) (new, t) bytes left) (sym (is ∙ ap Err same))
    (λ g rest fits can spelled. past g.past (array member_fields g.members ++ (array offset_fields g.offsets ++ rest)) fits.past can.past (spelled ∙ last_parts g rest))

pub stopped_at_members : {old mid : GroupValue} (new : GroupValue) {s : List (Text × Partitions)} (t : List (Text × Partitions)) {bytes middle : List ℕ} (left : List ℕ) (r : Result (Unit {0}) SnapshotFault) (fault other : SnapshotFault)
    → AddsArray FitsFormer former_fields CanAddFormer with_former (Ok tt) old mid bytes middle
    → AddsArray FitsMember member_fields CanAddMember with_part (Err fault) (mid, s) (mid, s) middle middle → r ≡ Err other → other ≡ fault
    → Adds FitLast last_fields CanAddLast with_last r (old, s) (new, t) bytes left
stopped_at_members {old} {mid} new {s} t {bytes} {middle} left r fault other past members is same =
    subst (λ (x : Result (Unit {0}) SnapshotFault). Adds FitLast last_fields CanAddLast with_last x (old, s) (new, t) bytes left) (sym (is ∙ ap Err same))
    (λ g rest fits can spelled.
    let behind = array offset_fields g.offsets ++ rest in
    let one = past g.past (array member_fields g.members ++ behind) fits.past can.past (spelled ∙ last_parts g rest) in
    members g.members behind fits.members (subst (λ (v : GroupValue). CanEach CanAddMember with_part (v, s) g.members) (sym one.0) can.members) one.1)

pub last_added : {old mid late : GroupValue} (new : GroupValue) {s t : List (Text × Partitions)} {bytes middle later : List ℕ} (left : List ℕ) (r : Result (Unit {0}) SnapshotFault)
    → AddsArray FitsFormer former_fields CanAddFormer with_former (Ok tt) old mid bytes middle
    → AddsArray FitsMember member_fields CanAddMember with_part (Ok tt) (mid, s) (late, t) middle later
    → AddsArray FitsOffset offset_fields CanAddOffset with_committed r late new later left
    → Adds FitLast last_fields CanAddLast with_last r (old, s) (new, t) bytes left
last_added {old} {mid} {late} new {s} {t} left r past members offsets =
    λ g rest fits can spelled.
    let behind = array offset_fields g.offsets ++ rest in
    let one = past g.past (array member_fields g.members ++ behind) fits.past can.past (spelled ∙ last_parts g rest) in
    let two = members g.members behind fits.members (subst (λ (v : GroupValue). CanEach CanAddMember with_part (v, s) g.members) (sym one.0) can.members) one.1 in
    let middle : (late, t) ≡ with_members (old, s) g = two.0 ∙ ap (λ (v : GroupValue). with_each with_part (v, s) g.members) one.0 in
    let all = offsets g.offsets rest fits.offsets (subst (λ (b : Built). CanEach CanAddOffset with_committed b.0 g.offsets) (sym middle) can.offsets) two.1 in
    told_else ((new ≡ with_each with_committed late g.offsets) × (left ≡ rest)) (((new, t) ≡ with_last (old, s) g) × (left ≡ rest)) (λ fault. fault ≡ NoMemory) r
    (λ x. ((λ i. ((x.0 ∙ ap (λ (b : Built). with_each with_committed b.0 g.offsets) middle) i, (middle i).1)), x.1)) all
