-- The fields of a group, as they are spelled, are read.
use Rattle.std.proofs.Common.{◌≡◌, ℕ, suc, ℤ, pos, Bool, true, false, List, [], ◌∷◌, ◌++◌, length, map, Option, Some, None, refl, ap, ◌∙◌, append_assoc}
use Rattle.std.specs.Prelude.{IfSome}
use Rattle.std.specs.List.{flat_map, AllByRecursion}
use Rattle.std.proofs.lemmas.Bool.{le-ltb, lt-ltb}
use Rattle.std.proofs.lemmas.List.Concat.{flat_map-cons}
use Rattle.std.proofs.lemmas.List.Elements.{recursion_from_All}
use Rattle.flex_wire.specs.Spelling.{int32, int64, uuid, array_count, compact_string, FitsText, mark}
use Rattle.flex_wire.specs.Composed.{array}
use Rattle.flex_wire.proofs.MarkLaws.{mark_is_field}
use Rattle.group_types.specs.declared.assignor_name.AssignorName.{AssignorName}
use Rattle.group_types.specs.declared.assignor_name.AssignorName.TheVariants.{Range, Uniform}
use Rattle.group_types.specs.declared.epoch.Epoch.{Epoch}
use Rattle.group_types.specs.declared.epoch.Epoch.TheVariants.{At, Away}
use Rattle.group_types.specs.declared.partition.Partition.{Partition}
use Rattle.group_types.specs.AssignorName.{assignor_text, assignor_named}
use Rattle.group_types.specs.Epoch.{number_of}
use Rattle.group_types.specs.Group.{Committed}
use Rattle.group_types.specs.Partition.{Partitions}
use Rattle.group_types.specs.Sets.{in_order, nothing, with_one}
use Rattle.group_types.specs.Text.{Text}
use Rattle.group_types.specs.Topics.{Names}
use Rattle.group_types.proofs.ListSets.{of_list-in_order, with_all, with_all-nothing}
use Rattle.group_types.proofs.Orders.{text_cmp_total, text_cmp-IsAntisymmetric, partition_cmp_total, partition_cmp-IsAntisymmetric}
use Rattle.replica_snapshots.specs.Parts.{MemberPart}
use Rattle.replica_snapshots.specs.Reading.{Found, wire, present_at, optional_at, epoch_at, member_epoch_at, timeout_at, stamp_at, index_at, partition_at, partitions_at, names_into, names_at, assignor_at, numbers_at, former_at, record_at, grant_at, short_metadata, metadata_at, committed_at}
use Rattle.replica_snapshots.specs.Spelling.{number64, FitsMillis, FitsIndex, epoch_field, FitsEpoch, optional, stamp_fields, FitsStamp, partition_fields, FitsPartition, partitions_field, FitsPartitions, names_field, FitsNames, assignor_field, FitsAssignor, identity_fields, wishes_fields, progress_fields, deadlines_fields, record_fields, FitsRecord, grant_fields, FitsGrant, former_fields, FitsFormer, FitsMetadata, committed_fields, FitsCommitted, epochs_fields, numbers_fields, FitsNumbers, offset_fields, member_fields}
use Rattle.replica_snapshots.proofs.FieldLaws.{epoch_fits, index_fits, millis_fit}
use Rattle.replica_snapshots.proofs.ReadingLaws.{IsRead, number_is_read, int32_is_read, int64_is_read, id_is_read, count_is_read, text_is_read, list_again}

-- ---- fields

mark_again : (b : Bool) (rest : List ℕ) → present_at (mark b ++ rest) ≡ Some (b, rest)
mark_again b rest = ap wire (mark_is_field.again b rest tt)

optional_again : {V : Type 0} (F : V → Type 0) (s : V → List ℕ) (read : List ℕ → Found V) → IsRead F s read → (v : Option V) (rest : List ℕ) → IfSome v F → optional_at read (optional s v ++ rest) ≡ Some (v, rest)
unfolding optional_at
optional_again F s read law None rest fits = rw (mark_again false rest) refl
optional_again F s read law (Some v) rest fits = ap (optional_at read) (append_assoc (mark true) (s v) rest) ∙ rw (mark_again true (s v ++ rest), law.again v rest fits) refl

pub optional_is_read : {V : Type 0} {F : V → Type 0} {s : V → List ℕ} {read : List ℕ → Found V} → IsRead F s read → IsRead (λ v. IfSome v F) (optional s) (optional_at read)
optional_is_read {F = F} {s} {read} law = record { again = λ v rest fits. optional_again F s read law v rest fits }

pub epoch_is_read : IsRead FitsEpoch epoch_field epoch_at
unfolding epoch_at
epoch_is_read = record { again = λ v rest fits. rw (int32_is_read.again (pos v) rest (epoch_fits v fits)) refl }

pub timeout_is_read : IsRead FitsMillis number64 timeout_at
unfolding timeout_at
timeout_is_read = record { again = λ v rest fits. rw (number_is_read.again v rest (millis_fit v fits), lt-ltb v 4294967296 fits) refl }

pub stamp_is_read : IsRead FitsStamp stamp_fields stamp_at
unfolding stamp_fields stamp_at
stamp_is_read = record {
  again = λ v rest fits.
      let first = number64 v.frame ++ rest in
      let is : stamp_fields v ++ rest ≡ number64 v.connection ++ first = simp append_assoc in
      ap stamp_at is ∙ rw (number_is_read.again v.connection first fits.connection, number_is_read.again v.frame rest fits.frame) refl;
}

pub index_is_read : IsRead FitsIndex int32 index_at
unfolding index_at
index_is_read = record { again = λ v rest fits. rw (int32_is_read.again v rest (index_fits v fits), fits) refl }

pub partition_is_read : IsRead FitsPartition partition_fields partition_at
unfolding partition_fields partition_at
partition_is_read = record {
  again = λ v rest fits.
      let first = int32 v.index ++ rest in
      let is : partition_fields v ++ rest ≡ uuid v.topic ++ first = simp append_assoc in
      ap partition_at is ∙ rw (id_is_read.again v.topic first fits.topic, index_is_read.again v.index rest fits.index) refl;
}

same_list : {V : Type 0} (vs : List V) → map (λ (v : V). v) vs ≡ vs
same_list [] = refl
same_list {V} (v ∷ vs) = ap (λ (l : List V). v ∷ l) (same_list vs)

pub partitions_are_read : IsRead FitsPartitions partitions_field partitions_at
unfolding partitions_at
partitions_are_read = record {
  again = λ v rest fits.
      rw (list_again {F = FitsPartition} partition_fields (λ (p : Partition). p) partition_at partition_is_read.again (in_order v) rest fits, same_list (in_order v))
      (ap (λ (s : Partitions). Some (s, rest)) (of_list-in_order partition_cmp_total partition_cmp-IsAntisymmetric v));
}

-- ---- names

names_again : (names : List Text) (before : Names) (rest : List ℕ) → AllByRecursion FitsText names → names_into (length names) before (flat_map compact_string names ++ rest) ≡ Some (with_all before names, rest)
unfolding names_into
names_again [] before rest fits = refl
names_again (name ∷ names) before rest fits =
    let regrouped : flat_map compact_string (name ∷ names) ++ rest ≡ compact_string name ++ (flat_map compact_string names ++ rest) =
    ap (λ (x : List ℕ). x ++ rest) (flat_map-cons compact_string name names) ∙ append_assoc (compact_string name) (flat_map compact_string names) rest in
    ap (names_into (suc (length names)) before) regrouped
    ∙ rw (text_is_read.again name (flat_map compact_string names ++ rest) fits.0) (names_again names (with_one before name) rest fits.1)

pub names_are_read : IsRead FitsNames names_field names_at
unfolding names_at
names_are_read = record {
  again = λ v rest fits.
      let names = in_order v in
      let behind = flat_map compact_string names ++ rest in
      ap names_at (append_assoc (array_count (length names)) (flat_map compact_string names) rest)
      ∙ rw (count_is_read.again (length names) behind fits.0, names_again names nothing rest (recursion_from_All FitsText names fits.1))
      (ap (λ (s : Names). Some (s, rest)) (with_all-nothing text_cmp_total text_cmp-IsAntisymmetric names ∙ of_list-in_order text_cmp_total text_cmp-IsAntisymmetric v));
}

-- ---- a member's record

assignor_again : (a : AssignorName) → assignor_named (assignor_text a) ≡ Some a
assignor_again Range = refl
assignor_again Uniform = refl

pub assignor_is_read : IsRead FitsAssignor assignor_field assignor_at
unfolding assignor_at
assignor_is_read = record { again = λ v rest fits. rw (text_is_read.again (assignor_text v) rest fits, assignor_again v) refl }

member_epoch_again : (e : Epoch) (rest : List ℕ) → IfSome (number_of e) FitsEpoch → member_epoch_at (optional epoch_field (number_of e) ++ rest) ≡ Some (e, rest)
unfolding member_epoch_at
member_epoch_again Away rest fits = rw (mark_again false rest) refl
member_epoch_again (At n) rest fits =
    ap member_epoch_at (append_assoc (mark true) (epoch_field n) rest) ∙ rw (mark_again true (epoch_field n ++ rest), epoch_is_read.again n rest fits) refl

pub record_is_read : IsRead FitsRecord record_fields record_at
unfolding record_fields identity_fields wishes_fields progress_fields deadlines_fields record_at
record_is_read = record {
  again = λ v rest fits.
      let b10 = optional number64 v.release_deadline ++ rest in
      let b9 = number64 v.session_deadline ++ b10 in
      let b8 = optional partitions_field v.sent ++ b9 in
      let b7 = stamp_fields v.stamp ++ b8 in
      let b6 = epoch_field v.previous_epoch ++ b7 in
      let b5 = optional epoch_field (number_of v.epoch) ++ b6 in
      let b4 = number64 v.rebalance_timeout ++ b5 in
      let b3 = optional assignor_field v.assignor ++ b4 in
      let b2 = names_field v.names ++ b3 in
      let b1 = optional compact_string v.rack ++ b2 in
      let is : record_fields v ++ rest ≡ optional compact_string v.instance ++ b1 = simp append_assoc in
      ap record_at is ∙ rw (
        (optional_is_read text_is_read).again v.instance b1 fits.identity.instance,
        (optional_is_read text_is_read).again v.rack b2 fits.identity.rack,
        names_are_read.again v.names b3 fits.wishes.names,
        (optional_is_read assignor_is_read).again v.assignor b4 fits.wishes.assignor,
        timeout_is_read.again v.rebalance_timeout b5 fits.wishes.rebalance_timeout,
        member_epoch_again v.epoch b6 fits.progress.epoch,
        epoch_is_read.again v.previous_epoch b7 fits.progress.previous_epoch,
        stamp_is_read.again v.stamp b8 fits.progress.stamp,
        (optional_is_read partitions_are_read).again v.sent b9 fits.deadlines.sent,
        number_is_read.again v.session_deadline b10 fits.deadlines.session_deadline,
        (optional_is_read number_is_read).again v.release_deadline rest fits.deadlines.release_deadline,
      ) refl;
}

pub grant_is_read : IsRead FitsGrant grant_fields grant_at
unfolding grant_fields grant_at
grant_is_read = record {
  again = λ v rest fits.
      let first = epoch_field v.1 ++ rest in
      let is : grant_fields v ++ rest ≡ partition_fields v.0 ++ first = simp append_assoc in
      ap grant_at is ∙ rw (partition_is_read.again v.0 first fits.partition, epoch_is_read.again v.1 rest fits.since) refl;
}

-- ---- the other parts of a group

pub former_is_read : IsRead FitsFormer former_fields former_at
unfolding former_fields former_at
former_is_read = record {
  again = λ v rest fits.
      let first = stamp_fields v.1 ++ rest in
      let is : former_fields v ++ rest ≡ compact_string v.0 ++ first = simp append_assoc in
      ap former_at is ∙ rw (text_is_read.again v.0 first fits.id, stamp_is_read.again v.1 rest fits.stamp) refl;
}

text_fits : (o : Option Text) → IfSome o FitsMetadata → IfSome o FitsText
text_fits None fits = tt
text_fits (Some t) fits = fits.text

short_again : (o : Option Text) (rest : List ℕ) → IfSome o FitsMetadata → short_metadata o rest ≡ Some (o, rest)
short_again None rest fits = refl
short_again (Some t) rest fits = rw (le-ltb _ _ fits.short) refl

pub metadata_are_read : IsRead (λ o. IfSome o FitsMetadata) (optional compact_string) metadata_at
unfolding metadata_at
metadata_are_read = record {
  again = λ v rest fits. rw ((optional_is_read text_is_read).again v rest (text_fits v fits), short_again v rest fits) refl;
}

pub committed_is_read : IsRead FitsCommitted committed_fields committed_at
unfolding committed_fields committed_at
committed_is_read = record {
  again = λ v rest fits.
      let second = optional compact_string v.metadata ++ rest in
      let first = int32 v.leader_epoch ++ second in
      let is : committed_fields v ++ rest ≡ int64 v.offset ++ first = simp append_assoc in
      ap committed_at is ∙ rw (int64_is_read.again v.offset first fits.offset, int32_is_read.again v.leader_epoch second fits.leader_epoch, metadata_are_read.again v.metadata rest fits.metadata) refl;
}

pub numbers_are_read : IsRead FitsNumbers numbers_fields numbers_at
unfolding numbers_fields epochs_fields numbers_at
numbers_are_read = record {
  again = λ v rest fits.
      let b4 = number64 v.ids_made ++ rest in
      let b3 = number64 v.clock ++ b4 in
      let b2 = epoch_field v.target_epoch ++ b3 in
      let b1 = epoch_field v.epoch ++ b2 in
      let is : numbers_fields v ++ rest ≡ number64 v.salt ++ b1 = simp append_assoc in
      ap numbers_at is ∙ rw (
        number_is_read.again v.salt b1 fits.salt,
        epoch_is_read.again v.epoch b2 fits.epochs.epoch,
        epoch_is_read.again v.target_epoch b3 fits.epochs.target_epoch,
        number_is_read.again v.clock b4 fits.clock,
        number_is_read.again v.ids_made rest fits.ids_made,
      ) refl;
}

-- ---- what is behind a field

pub offset_parts : (e : (Text × ℤ) × Committed) (rest : List ℕ) → offset_fields e ++ rest ≡ compact_string e.0.0 ++ (int32 e.0.1 ++ (committed_fields e.1 ++ rest))
unfolding offset_fields
offset_parts e rest = simp append_assoc

pub member_parts : (m : MemberPart) (rest : List ℕ)
    → member_fields m ++ rest ≡ compact_string m.id ++ (record_fields m.kept ++ (array grant_fields m.grants ++ (partitions_field m.target ++ rest)))
unfolding member_fields
member_parts m rest = simp append_assoc
