-- Records, stamps and what they are made of as data: records are stored as nested pairs of their fields.
use Rattle.std.specs.Prelude.{ℕ, Bool, true, false, ◌≡◌, refl, Option, Some, None}
use Rattle.std.specs.Coded.{Coded, code_by, coded×, coded_ℕ, coded_bool, coded_list, coded_option}
use Rattle.std.specs.FinSet as set
use Rattle.group_types.specs.declared.assignor_name.AssignorName.{AssignorName}
use Rattle.group_types.specs.declared.assignor_name.AssignorName.TheVariants.{Range, Uniform}
use Rattle.group_types.specs.declared.epoch.Epoch.{Epoch}
use Rattle.group_types.specs.declared.epoch.Epoch.TheVariants.{At, Away}
use Rattle.group_types.specs.declared.stamp.Stamp.{Stamp}
use Rattle.group_types.specs.Text.{Text}
use Rattle.group_types.specs.Partition.{Partitions, partition_code}
use Rattle.group_types.specs.Topics.{Names}
use Rattle.group_types.specs.Group.{Record, Past}

abbrev pub text_code : Coded Text
text_code = coded_list coded_ℕ

abbrev pub names_code : Coded Names
names_code = set.code text_code

abbrev pub partitions_code : Coded Partitions
partitions_code = set.code partition_code

abbrev assignor_bit : AssignorName → Bool
assignor_bit Range = false
assignor_bit Uniform = true

abbrev assignor_of_bit : Bool → AssignorName
assignor_of_bit false = Range
assignor_of_bit true = Uniform

pub assignor-assignor_bit : (a : AssignorName) → assignor_of_bit (assignor_bit a) ≡ a
assignor-assignor_bit Range = refl
assignor-assignor_bit Uniform = refl

abbrev assignor_code : Coded AssignorName
assignor_code = code_by Bool coded_bool assignor_bit assignor_of_bit assignor-assignor_bit

abbrev number_if_any : Epoch → Option ℕ
number_if_any (At e) = Some e
number_if_any Away = None

abbrev epoch_of_number : Option ℕ → Epoch
epoch_of_number (Some e) = At e
epoch_of_number None = Away

pub epoch-number_if_any : (e : Epoch) → epoch_of_number (number_if_any e) ≡ e
epoch-number_if_any (At e) = refl
epoch-number_if_any Away = refl

abbrev epoch_code : Coded Epoch
epoch_code = code_by (Option ℕ) (coded_option coded_ℕ) number_if_any epoch_of_number epoch-number_if_any

abbrev pub stamp_code : Coded Stamp
stamp_code = code_by (ℕ × ℕ) (coded× coded_ℕ coded_ℕ) (λ s. (s.connection, s.frame)) (λ p. record { connection = p.0; frame = p.1 }) (λ _. refl)

-- the fields of a record: instance, rack, names, assignor, rebalance timeout, the epochs, stamp, the sent set, the deadlines
abbrev RecordFields : Type 0
RecordFields =
    Option Text × (Option Text × (Names × (Option AssignorName × (ℕ × (Epoch × (ℕ × (Stamp × (Option Partitions × (ℕ × Option ℕ)))))))))

abbrev record_fields : Record → RecordFields
record_fields r =
    (r.instance, (r.rack, (r.names, (r.assignor, (r.rebalance_timeout, (r.epoch, (r.previous_epoch, (r.stamp, (r.sent, (r.session_deadline, r.release_deadline))))))))))

abbrev record_of_fields : RecordFields → Record
record_of_fields (instance, (rack, (names, (assignor, (rebalance_timeout, (epoch, (previous_epoch, (stamp, (sent, (session_deadline, release_deadline)))))))))) =
    record {
      instance = instance;
      rack = rack;
      names = names;
      assignor = assignor;
      rebalance_timeout = rebalance_timeout;
      epoch = epoch;
      previous_epoch = previous_epoch;
      stamp = stamp;
      sent = sent;
      session_deadline = session_deadline;
      release_deadline = release_deadline;
    }

abbrev record_fields_code : Coded RecordFields
record_fields_code =
    coded× (coded_option text_code) (coded× (coded_option text_code) (coded× names_code (coded× (coded_option assignor_code)
    (coded× coded_ℕ (coded× epoch_code (coded× coded_ℕ (coded× stamp_code (coded× (coded_option partitions_code)
    (coded× coded_ℕ (coded_option coded_ℕ))))))))))

abbrev pub record_code : Coded Record
record_code = code_by RecordFields record_fields_code record_fields record_of_fields (λ _. refl)

abbrev pub past_code : Coded Past
past_code = coded_list (coded× text_code stamp_code)
