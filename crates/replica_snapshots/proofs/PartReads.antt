-- Places and heads, as they are spelled, are read.
use Rattle.std.proofs.Common.{◌≡◌, ◌≢◌, ℕ, pos, List, ◌++◌, Some, None, refl, ap, ◌∙◌, append_assoc, arith}
use Rattle.std.specs.Prelude.{FitsSigned}
use Rattle.std.specs.Int.{w16}
use Rattle.std.specs.FinMap as finite
use Rattle.flex_wire.specs.Spelling.{int16, int32, int64, uuid, array_count, compact_string}
use Rattle.flex_wire.specs.Composed.{array, FitsArray}
use Rattle.group_types.specs.Images.{AreImageTopics}
use Rattle.group_types.specs.Text.{Text}
use Rattle.group_types.specs.Topics.{Topic, Topics}
use Rattle.replica_snapshots.specs.declared.fault.SnapshotFault.{SnapshotFault}
use Rattle.replica_snapshots.specs.declared.fault.SnapshotFault.TheVariants.{NoMemory}
use Rattle.replica_snapshots.specs.Nodes.{VERSION, head_fields, FitsHead}
use Rattle.replica_snapshots.specs.Places.{PLACE_VERSION, place_fields, FitsPlace}
use Rattle.replica_snapshots.specs.Reading.{Found, entry_at, image_at, head_at, place_at}
use Rattle.replica_snapshots.specs.Spelling.{number64, topic_fields, FitsTopic}
use Rattle.replica_snapshots.proofs.ImageLaws.{entry_for, image_without_fault, image_of_topics}
use Rattle.replica_snapshots.proofs.ReadingLaws.{IsRead, stopped, taken, number_is_read, int16_is_read, int32_is_read, int64_is_read, id_is_read, count_is_read, text_is_read, list_again}

version_fits : FitsSigned w16 PLACE_VERSION
version_fits = record { sfits = omega arith }

pub place_is_read : IsRead FitsPlace place_fields place_at
unfolding place_fields place_at
place_is_read = record {
  again = λ v rest fits.
      let third = int64 (pos v.moment) ++ rest in
      let second = int32 (pos v.leadership) ++ third in
      let first = number64 v.applied ++ second in
      let is : place_fields v ++ rest ≡ int16 PLACE_VERSION ++ first = simp append_assoc in
      ap place_at is ∙ rw (int16_is_read.again PLACE_VERSION first version_fits, number_is_read.again v.applied second fits.applied, int32_is_read.again (pos v.leadership) third fits.leadership, int64_is_read.again (pos v.moment) rest fits.moment) refl;
}

entry_again : (t : Text × Topic) (rest : List ℕ) → FitsTopic t → entry_at (topic_fields t ++ rest) ≡ Some (entry_for t, rest)
unfolding topic_fields entry_at
entry_again t rest fits =
    let second = int32 (pos t.1.count) ++ rest in
    let first = uuid t.1.id ++ second in
    let is : topic_fields t ++ rest ≡ compact_string t.0 ++ first = simp append_assoc in
    ap entry_at is ∙ rw (text_is_read.again t.0 first fits.name, id_is_read.again t.1.id second fits.id, int32_is_read.again (pos t.1.count) rest fits.count) refl

image_again : (image : Topics) (rest : List ℕ) → FitsArray FitsTopic (finite.entries image) → AreImageTopics image → image_at (array topic_fields (finite.entries image) ++ rest) ≡ Some (image, rest)
unfolding image_at
image_again image rest fits sound =
    rw (list_again {F = FitsTopic} topic_fields entry_for entry_at entry_again (finite.entries image) rest fits, image_without_fault image sound) (ap (λ (i : Topics). Some (i, rest)) (image_of_topics image))

-- the topics of a view that is an image's
pub view_is_read : IsRead (λ (view : Topics). FitsArray FitsTopic (finite.entries view) × AreImageTopics view) (λ view. array topic_fields (finite.entries view)) image_at
view_is_read = record { again = λ view rest fits. image_again view rest fits.0 fits.1 }

pub head_is_read : IsRead (λ h. FitsHead h × AreImageTopics h.image) head_fields head_at
unfolding head_fields head_at
head_is_read = record {
  again = λ h rest fits.
      let third = array_count h.groups ++ rest in
      let second = array topic_fields (finite.entries h.image) ++ third in
      let first = number64 h.salt ++ second in
      let is : head_fields h ++ rest ≡ int16 VERSION ++ first = simp append_assoc in
      ap head_at is ∙ rw (int16_is_read.again VERSION first version_fits, number_is_read.again h.salt second fits.0.salt, image_again h.image third fits.0.image fits.1, count_is_read.again h.groups rest fits.0.groups) refl;
}

-- ---- what was read is written again

-- where a part is to be read, the one that was read is it
pub same_part : {V : Type 0} {F : V → Type 0} {s : V → List ℕ} {read : List ℕ → Found V} → IsRead F s read → (bytes start : List ℕ) (w : V) (left : List ℕ)
    → start ≡ bytes → read start ≡ Some (w, left) → (v : V) (rest : List ℕ) → F v → bytes ≡ s v ++ rest → w ≡ v
same_part law bytes start w left begins gives v rest fits is = (taken law start w left gives v rest fits (begins ∙ is)).0

-- a reader that stops there wants memory
pub stopped_part : {V : Type 0} {F : V → Type 0} {s : V → List ℕ} {read : List ℕ → Found V} → IsRead F s read → (bytes start : List ℕ) (fault : SnapshotFault)
    → start ≡ bytes → (fault ≢ NoMemory → read start ≡ None) → (v : V) (rest : List ℕ) → F v → bytes ≡ s v ++ rest → fault ≡ NoMemory
stopped_part law bytes start fault begins gives v rest fits is = stopped law start fault gives v rest fits (begins ∙ is)
