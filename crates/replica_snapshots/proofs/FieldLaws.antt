-- No field of a snapshot begins another of its kind.
use Rattle.std.proofs.Common.{◌≡◌, ℕ, ℤ, pos, ◌<◌, List, ◌++◌, length, refl, sym, ap, ◌∙◌, arith}
use Rattle.std.specs.Prelude.{negsuc, IfSome, FitsSigned}
use Rattle.std.proofs.lemmas.Bool.{ltb-true}
use Rattle.std.specs.Int.{w32, w64, from_be_bytes}
use Rattle.std.specs.FinMap as finite
use Rattle.std.specs.declared.cmp.Ordering.{Ordering}
use Rattle.std.specs.Cmp.{IsTotalOrder}
use Rattle.flex_wire.specs.Spelling.{int32, int64, uuid, FitsUuid, compact_string, FitsText}
use Rattle.flex_wire.specs.Reading.{bytes_at}
use Rattle.flex_wire.proofs.Fields.{ok_is}
use Rattle.flex_wire.proofs.IntLaws.{signed_is_field, wide32, wide64, uuid_is_field, bytes_again}
use Rattle.flex_wire.proofs.TextLaws.{compact_string_is_field}
use Rattle.group_types.specs.declared.assignor_name.AssignorName.{AssignorName}
use Rattle.group_types.specs.declared.assignor_name.AssignorName.TheVariants.{Range, Uniform}
use Rattle.group_types.specs.declared.epoch.Epoch.{Epoch}
use Rattle.group_types.specs.declared.epoch.Epoch.TheVariants.{At, Away}
use Rattle.group_types.specs.declared.partition.Partition.{Partition}
use Rattle.group_types.specs.declared.stamp.Stamp.{Stamp}
use Rattle.group_types.specs.AssignorName.{assignor_text}
use Rattle.group_types.specs.Epoch.{number_of}
use Rattle.group_types.specs.Limits.{MOST_TOPIC_PARTITIONS}
use Rattle.group_types.specs.Sets.{FinSet, in_order, of_list}
use Rattle.group_types.specs.Text.{Text}
use Rattle.group_types.specs.Topics.{Topic, Names}
use Rattle.group_types.specs.Partition.{Partitions}
use Rattle.group_types.specs.Group.{Record, Committed}
use Rattle.group_types.proofs.ListSets.{of_list-in_order}
use Rattle.group_types.proofs.Orders.{text_cmp_total, text_cmp-IsAntisymmetric, partition_cmp_total, partition_cmp-IsAntisymmetric}
use Rattle.replica_snapshots.specs.declared.numbers.Numbers.{Numbers}
use Rattle.replica_snapshots.specs.Parts.{MemberPart, GroupParts}
use Rattle.replica_snapshots.specs.Spelling.{number64, FitsNumber, FitsMillis, FitsIndex, FitsMetadata, epoch_field, FitsEpoch, optional, stamp_fields, FitsStamp, partition_fields, FitsPartition, partitions_field, FitsPartitions, names_field, FitsNames, assignor_field, FitsAssignor, identity_fields, wishes_fields, progress_fields, deadlines_fields, record_fields, FitsRecord, grant_fields, FitsGrant, member_fields, FitsMember, topic_fields, FitsTopic, former_fields, FitsFormer, committed_fields, offset_fields, FitsOffset, epochs_fields, numbers_fields, FitsNumbers, lists_fields, parts_fields, FitsParts}
use Rattle.replica_snapshots.proofs.Begins.{Begins, of_field, nothing_begins, pair_begins, made_begins, optional_begins, array_begins}

-- ---- numbers and texts

number_holds : (v w : ℕ) (x y : List ℕ) → FitsNumber v → FitsNumber w → number64 v ++ x ≡ number64 w ++ y → (v ≡ w) × (x ≡ y)
unfolding number64
number_holds v w x y f g e =
    let same = ok_is (number64 v, x) (number64 w, y) (sym (bytes_again 8 (number64 v) x (wide64.len v)) ∙ (ap (bytes_at 8) e ∙ bytes_again 8 (number64 w) y (wide64.len w))) in
    (sym (wide64.again v f) ∙ (ap (λ (p : List ℕ × List ℕ). from_be_bytes w64 p.0) same ∙ wide64.again w g), ap (λ (p : List ℕ × List ℕ). p.1) same)

pub number_begins : Begins FitsNumber number64
number_begins = record { holds = number_holds }

pub int32_begins : Begins (FitsSigned w32) int32
int32_begins = of_field (signed_is_field w32 wide32)

pub int64_begins : Begins (FitsSigned w64) int64
int64_begins = of_field (signed_is_field w64 wide64)

pub uuid_begins : Begins FitsUuid uuid
uuid_begins = of_field uuid_is_field

pub text_begins : Begins FitsText compact_string
text_begins = of_field compact_string_is_field

pub same_pos : (m n : ℕ) → pos m ≡ pos n → m ≡ n
same_pos m n e = cc

pub epoch_fits : (n : ℕ) → FitsEpoch n → FitsSigned w32 (pos n)
epoch_fits n lt = record { sfits = omega (arith, lt) }

pub epoch_begins : Begins FitsEpoch epoch_field
epoch_begins = made_begins pos same_pos epoch_fits (λ w. refl) int32_begins

pub millis_fit : (n : ℕ) → FitsMillis n → FitsNumber n
millis_fit n lt = omega (arith, lt)

pub millis_begin : Begins FitsMillis number64
millis_begin = made_begins (λ (n : ℕ). n) (λ m n e. e) millis_fit (λ w. refl) number_begins

pub index_fits : (i : ℤ) → FitsIndex i → FitsSigned w32 i
index_fits (pos n) is = let lt : n < MOST_TOPIC_PARTITIONS = ltb-true n MOST_TOPIC_PARTITIONS is in record { sfits = omega (arith, lt) }
index_fits (negsuc n) is = absurd cc

pub index_begins : Begins FitsIndex int32
index_begins = made_begins (λ (i : ℤ). i) (λ m n e. e) index_fits (λ w. refl) int32_begins

pub metadata_begins : Begins FitsMetadata compact_string
metadata_begins = made_begins (λ (t : Text). t) (λ m n e. e) (λ w f. f.text) (λ w. refl) text_begins

-- ---- stamps and sets

pub stamp_begins : Begins FitsStamp stamp_fields
unfolding stamp_fields
stamp_begins =
    made_begins (λ (s : Stamp). (s.connection, (s.frame, tt))) (λ v w e i. record { connection = (e i).0; frame = (e i).1.0 }) (λ w f. (f.connection, (f.frame, tt))) (λ w. refl)
    (pair_begins number_begins (pair_begins number_begins nothing_begins))

pub partition_begins : Begins FitsPartition partition_fields
unfolding partition_fields
partition_begins =
    made_begins (λ (p : Partition). (p.topic, (p.index, tt))) (λ v w e i. record { topic = (e i).0; index = (e i).1.0 }) (λ w f. (f.topic, (f.index, tt))) (λ w. refl)
    (pair_begins uuid_begins (pair_begins index_begins nothing_begins))

same_order : {K : Type 0} {R : K → K → Ordering} → IsTotalOrder R → finite.IsAntisymmetric R → (s t : FinSet R) → in_order s ≡ in_order t → s ≡ t
same_order total exact s t e = sym (of_list-in_order total exact s) ∙ (ap of_list e ∙ of_list-in_order total exact t)

pub partitions_begin : Begins FitsPartitions partitions_field
partitions_begin = made_begins (λ (s : Partitions). in_order s) (same_order partition_cmp_total partition_cmp-IsAntisymmetric) (λ w f. f) (λ w. refl) (array_begins partition_begins)

pub names_begin : Begins FitsNames names_field
names_begin = made_begins (λ (s : Names). in_order s) (same_order text_cmp_total text_cmp-IsAntisymmetric) (λ w f. f) (λ w. refl) (array_begins text_begins)

-- ---- a member

differ : {A : Type 0} (m n : ℕ) → m ≡ n → m ≡ 5 → n ≡ 7 → A
differ m n e a b = absurd (omega arith)

same_assignor : (a b : AssignorName) → assignor_text a ≡ assignor_text b → a ≡ b
same_assignor Range Range e = refl
same_assignor Range Uniform e = differ (length (assignor_text Range)) (length (assignor_text Uniform)) (ap length e) refl refl
same_assignor Uniform Range e = differ (length (assignor_text Range)) (length (assignor_text Uniform)) (sym (ap length e)) refl refl
same_assignor Uniform Uniform e = refl

assignor_begins : Begins FitsAssignor assignor_field
assignor_begins = made_begins assignor_text same_assignor (λ w f. f) (λ w. refl) text_begins

same_epoch : (a b : Epoch) → number_of a ≡ number_of b → a ≡ b
same_epoch (At m) (At n) e = let same : m ≡ n = cc in ap At same
same_epoch (At m) Away e = absurd cc
same_epoch Away (At n) e = absurd cc
same_epoch Away Away e = refl

member_epoch_begins : Begins (λ e. IfSome (number_of e) FitsEpoch) (λ e. optional epoch_field (number_of e))
member_epoch_begins = made_begins number_of same_epoch (λ w f. f) (λ w. refl) (optional_begins epoch_begins)

pub record_begins : Begins FitsRecord record_fields
unfolding record_fields identity_fields wishes_fields progress_fields deadlines_fields
record_begins =
    made_begins
    (λ (r : Record). ((r.instance, (r.rack, tt)), ((r.names, (r.assignor, (r.rebalance_timeout, tt))), ((r.epoch, (r.previous_epoch, (r.stamp, tt))), ((r.sent, (r.session_deadline, (r.release_deadline, tt))), tt)))))
    (λ v w e i. record {
      instance = (e i).0.0;
      rack = (e i).0.1.0;
      names = (e i).1.0.0;
      assignor = (e i).1.0.1.0;
      rebalance_timeout = (e i).1.0.1.1.0;
      epoch = (e i).1.1.0.0;
      previous_epoch = (e i).1.1.0.1.0;
      stamp = (e i).1.1.0.1.1.0;
      sent = (e i).1.1.1.0.0;
      session_deadline = (e i).1.1.1.0.1.0;
      release_deadline = (e i).1.1.1.0.1.1.0;
    })
    (λ r f. ((f.identity.instance, (f.identity.rack, tt)), ((f.wishes.names, (f.wishes.assignor, (f.wishes.rebalance_timeout, tt))), ((f.progress.epoch, (f.progress.previous_epoch, (f.progress.stamp, tt))), ((f.deadlines.sent, (f.deadlines.session_deadline, (f.deadlines.release_deadline, tt))), tt)))))
    (λ r. refl)
    (pair_begins (pair_begins (optional_begins text_begins) (pair_begins (optional_begins text_begins) nothing_begins))
    (pair_begins (pair_begins names_begin (pair_begins (optional_begins assignor_begins) (pair_begins millis_begin nothing_begins)))
    (pair_begins (pair_begins member_epoch_begins (pair_begins epoch_begins (pair_begins stamp_begins nothing_begins)))
    (pair_begins (pair_begins (optional_begins partitions_begin) (pair_begins number_begins (pair_begins (optional_begins number_begins) nothing_begins))) nothing_begins))))

pub grant_begins : Begins FitsGrant grant_fields
unfolding grant_fields
grant_begins =
    made_begins (λ (g : Partition × ℕ). (g.0, (g.1, tt))) (λ v w e i. ((e i).0, (e i).1.0)) (λ w f. (f.partition, (f.since, tt))) (λ w. refl)
    (pair_begins partition_begins (pair_begins epoch_begins nothing_begins))

pub member_begins : Begins FitsMember member_fields
unfolding member_fields
member_begins =
    made_begins (λ (m : MemberPart). (m.id, (m.kept, (m.grants, (m.target, tt))))) (λ v w e i. record { id = (e i).0; kept = (e i).1.0; grants = (e i).1.1.0; target = (e i).1.1.1.0 })
    (λ w f. (f.id, (f.kept, (f.grants, (f.target, tt))))) (λ w. refl)
    (pair_begins text_begins (pair_begins record_begins (pair_begins (array_begins grant_begins) (pair_begins partitions_begin nothing_begins))))

-- ---- the other parts of a group

count_begins : Begins (λ n. FitsSigned w32 (pos n)) epoch_field
count_begins = made_begins pos same_pos (λ w f. f) (λ w. refl) int32_begins

pub topic_begins : Begins FitsTopic topic_fields
unfolding topic_fields
topic_begins =
    made_begins (λ (t : Text × Topic). (t.0, (t.1.id, (t.1.count, tt)))) (λ v w e i. ((e i).0, record { id = (e i).1.0; count = (e i).1.1.0 })) (λ w f. (f.name, (f.id, (f.count, tt)))) (λ w. refl)
    (pair_begins text_begins (pair_begins uuid_begins (pair_begins count_begins nothing_begins)))

pub former_begins : Begins FitsFormer former_fields
unfolding former_fields
former_begins =
    made_begins (λ (t : Text × Stamp). (t.0, (t.1, tt))) (λ v w e i. ((e i).0, (e i).1.0)) (λ w f. (f.id, (f.stamp, tt))) (λ w. refl)
    (pair_begins text_begins (pair_begins stamp_begins nothing_begins))

pub offset_begins : Begins FitsOffset offset_fields
unfolding offset_fields committed_fields
offset_begins =
    made_begins (λ (o : (Text × ℤ) × Committed). (o.0.0, (o.0.1, ((o.1.offset, (o.1.leader_epoch, (o.1.metadata, tt))), tt))))
    (λ v w e i. (((e i).0, (e i).1.0), record { offset = (e i).1.1.0.0; leader_epoch = (e i).1.1.0.1.0; metadata = (e i).1.1.0.1.1.0 }))
    (λ w f. (f.name, (f.index, ((f.committed.offset, (f.committed.leader_epoch, (f.committed.metadata, tt))), tt)))) (λ w. refl)
    (pair_begins text_begins (pair_begins index_begins (pair_begins (pair_begins int64_begins (pair_begins int32_begins (pair_begins (optional_begins metadata_begins) nothing_begins))) nothing_begins)))

-- ---- a group

numbers_begin : Begins FitsNumbers numbers_fields
unfolding numbers_fields epochs_fields
numbers_begin =
    made_begins
    (λ (n : Numbers). (n.salt, ((n.epoch, (n.target_epoch, tt)), (n.clock, (n.ids_made, tt)))))
    (λ v w e i. record {
      salt = (e i).0;
      epoch = (e i).1.0.0;
      target_epoch = (e i).1.0.1.0;
      clock = (e i).1.1.0;
      ids_made = (e i).1.1.1.0;
    })
    (λ n f. (f.salt, ((f.epochs.epoch, (f.epochs.target_epoch, tt)), (f.clock, (f.ids_made, tt))))) (λ n. refl)
    (pair_begins number_begins (pair_begins (pair_begins epoch_begins (pair_begins epoch_begins nothing_begins)) (pair_begins number_begins (pair_begins number_begins nothing_begins))))

pub parts_begin : Begins FitsParts parts_fields
unfolding parts_fields lists_fields
parts_begin =
    made_begins (λ (g : GroupParts). (g.numbers, (g.view, (g.past, (g.members, (g.offsets, tt))))))
    (λ v w e i. record { numbers = (e i).0; view = (e i).1.0; past = (e i).1.1.0; members = (e i).1.1.1.0; offsets = (e i).1.1.1.1.0 })
    (λ g f. (f.numbers, (f.lists.view, (f.lists.past, (f.lists.members, (f.lists.offsets, tt)))))) (λ g. refl)
    (pair_begins numbers_begin
    (pair_begins (array_begins topic_begins) (pair_begins (array_begins former_begins) (pair_begins (array_begins member_begins) (pair_begins (array_begins offset_begins) nothing_begins)))))
