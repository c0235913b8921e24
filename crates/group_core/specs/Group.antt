-- A group as callers see it, and how that is stored.
use Rattle.std.specs.Prelude.{ℕ, refl}
use Rattle.std.specs.Coded.{Coded, code_by, coded×, coded_ℕ}
use Rattle.std.specs.FinMap as finite
use Rattle.std.specs.FinSet as set
use Rattle.group_types.specs.Partition.{partition_code}
use Rattle.group_types.specs.Topics.{Topics}
use Rattle.group_types.specs.Group.{Records, Target, Grants, Offsets, Past, Group}
use Rattle.topic_meta.specs.Stored.{topics_code}
use Rattle.range_assign.specs.Shares.{owners_code}
use Rattle.group_epochs.specs.Stored.{text_code, record_code, past_code}
use Rattle.offset_guard.specs.Stored.{offsets_code}
use Rattle.group_reconcile.specs.Holders.{Holders, holders_code}

-- its state, and who holds which partition since which target
pub record GroupValue : Type 0 where
  pub state : Group
  pub holders : Holders

abbrev grants_code : Coded Grants
grants_code = set.code (coded× text_code partition_code)

-- the fields of a group: salt, the epochs, records, target, grants, offsets, view, clock, serial, past
abbrev GroupFields : Type 0
GroupFields = ℕ × (ℕ × (ℕ × (Records × (Target × (Grants × (Offsets × (Topics × (ℕ × (ℕ × Past)))))))))

abbrev group_fields : Group → GroupFields
group_fields g =
    (g.salt, (g.epoch, (g.target_epoch, (g.records, (g.target, (g.grants, (g.offsets, (g.view, (g.clock, (g.serial, g.past))))))))))

abbrev group_of_fields : GroupFields → Group
group_of_fields (salt, (epoch, (target_epoch, (records, (target, (grants, (offsets, (view, (clock, (serial, past)))))))))) =
    record {
      salt = salt;
      epoch = epoch;
      target_epoch = target_epoch;
      records = records;
      target = target;
      grants = grants;
      offsets = offsets;
      view = view;
      clock = clock;
      serial = serial;
      past = past;
    }

abbrev group_fields_code : Coded GroupFields
group_fields_code =
    coded× coded_ℕ (coded× coded_ℕ (coded× coded_ℕ (coded× (finite.code text_code record_code) (coded× owners_code
    (coded× grants_code (coded× offsets_code (coded× topics_code
    (coded× coded_ℕ (coded× coded_ℕ past_code)))))))))

abbrev pub group_code : Coded Group
group_code = code_by GroupFields group_fields_code group_fields group_of_fields (λ _. refl)

abbrev pub group_value_code : Coded GroupValue
group_value_code =
    code_by (Group × Holders) (coded× group_code holders_code) (λ g. (g.state, g.holders)) (λ p. record { state = p.0; holders = p.1 }) (λ _. refl)
