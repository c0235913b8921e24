-- What a coordinator keeps of members has a spelling, whatever heartbeats come.
use Rattle.std.proofs.Common.{◌≡◌, ℕ, suc, ◌<◌, ◌≤◌, ◌^◌, ◌==◌, ℤ, pos, negsuc, Bool, true, false, cond, List, [], ◌∷◌, Option, Some, None, IfSome, refl, sym, ap, subst, ◌∙◌, arith}
use Rattle.std.specs.Prelude.{FitsSigned}
use Rattle.std.specs.Int.{w32}
use Rattle.std.specs.List.{AllByRecursion}
use Rattle.std.specs.Option.{option_or, option_and_then}
use Rattle.std.specs.Str.{IsAscii}
use Rattle.std.proofs.lemmas.Str.{IsUtf8-from_ascii}
use Rattle.std.proofs.lemmas.Str.Ascii.{IsAscii-cons, IsAscii-nil}
use Rattle.std.proofs.lemmas.List.Elements.{All-from_recursion, recursion_from_All}
use Rattle.flex_wire.specs.Composed.{FitsArray}
use Rattle.flex_wire.specs.Spelling.{FitsText}
use Rattle.group_types.specs.declared.assignor_name.AssignorName.{AssignorName}
use Rattle.group_types.specs.declared.assignor_name.AssignorName.TheVariants.{Range, Uniform}
use Rattle.group_types.specs.declared.epoch.Epoch.{Epoch}
use Rattle.group_types.specs.declared.epoch.Epoch.TheVariants.{At, Away}
use Rattle.group_types.specs.declared.partition.Partition.{Partition}
use Rattle.group_types.specs.declared.stamp.Stamp.{Stamp}
use Rattle.group_types.specs.AssignorName.{assignor_named, assignor_text}
use Rattle.group_types.specs.Epoch.{number_of}
use Rattle.group_types.specs.Group.{Group, Record}
use Rattle.group_types.specs.HeartbeatStep.{sent_after}
use Rattle.group_types.specs.Join.{IsNamed, Name, blank_record, joined, name_of_serial, names_after, record_of_beat, record_of_join, returned, returned_epoch, timeout_after, updated}
use Rattle.group_types.specs.Leave.{away, last_epoch_at}
use Rattle.group_types.specs.Limits.{MOST_PARTITIONS, SESSION_TIMEOUT}
use Rattle.group_types.specs.Moment.{saturated_sum}
use Rattle.group_types.specs.Partition.{Partitions}
use Rattle.group_types.specs.Request.{Heartbeat}
use Rattle.group_types.specs.Sets.{has, in_order, of_list, size}
use Rattle.group_types.specs.Settle.{arrived, asked, settled_record}
use Rattle.group_types.specs.Text.{Text}
use Rattle.group_types.specs.Topics.{Names}
use Rattle.group_types.proofs.Lookups.{some_is}
use Rattle.group_types.proofs.Orders.{partition_cmp-IsAntisymmetric, partition_cmp_total, text_cmp-IsAntisymmetric, text_cmp_total}
use Rattle.group_types.proofs.SetLemmas.{has-of_list}
use Rattle.replica_snapshots.specs.Spelling.{FitsAssignor, FitsEpoch, FitsMillis, FitsNames, FitsNumber, FitsPartition, FitsPartitions, FitsRecord, FitsStamp}
use Rattle.replica_snapshots.proofs.FitKeys.{among, each_key, few_of_list}

-- ---- texts and numbers

-- the serial of the next id is above 0, and no more than 2^64
pub record FitsSerial (serial : ℕ) : Type 0 where
  pub some : 0 < serial
  pub below : serial ≤ 2 ^ 64

pub serial_fits : (g : Group) (member : Text) (name : Name) → IsNamed g member (Some name) → FitsSerial g.serial → FitsSerial name.next_serial
serial_fits g [] name (Some serial, is_serial, is) fits =
    let next : name.next_serial ≡ suc serial = ap (λ (x : Name). x.next_serial) (some_is name (name_of_serial g serial) is) in
    let below = is_serial.below in
    record { some = omega arith; below = omega arith }
serial_fits g [] name (None, is_serial, is) fits = cc
serial_fits g (c ∷ m) name is fits =
    let next : name.next_serial ≡ g.serial = ap (λ (x : Name). x.next_serial) (some_is name _ is) in
    subst FitsSerial (sym next) fits

sum_fits : (a b : ℕ) → FitsNumber (saturated_sum a b)
sum_fits a b = omega arith

ascii_text : (bs : Text) → AllByRecursion (λ b. b < 128) bs → IsAscii bs
ascii_text [] all = IsAscii-nil
ascii_text (b ∷ bs) all = IsAscii-cons b bs all.0 (ascii_text bs all.1)

assignor_fits : (a : AssignorName) → FitsAssignor a
assignor_fits Range = record { length = omega arith; utf8 = IsUtf8-from_ascii (assignor_text Range) (ascii_text (assignor_text Range) (omega arith, (omega arith, (omega arith, (omega arith, (omega arith, tt)))))) }
assignor_fits Uniform = record { length = omega arith; utf8 = IsUtf8-from_ascii (assignor_text Uniform) (ascii_text (assignor_text Uniform) (omega arith, (omega arith, (omega arith, (omega arith, (omega arith, (omega arith, (omega arith, tt)))))))) }

assignors_fit : (o : Option AssignorName) → IfSome o FitsAssignor
assignors_fit None = tt
assignors_fit (Some a) = assignor_fits a

either_fits : {X : Type 0} (P : X → Type 0) (a b : Option X) → IfSome a P → IfSome b P → IfSome (option_or a b) P
either_fits P None b one other = other
either_fits P (Some x) b one other = one

-- ---- sets

pub names_fit : (given : List Text) → FitsArray FitsText given → FitsNames (of_list given)
names_fit given fits = (
  let few = few_of_list text_cmp_total text_cmp-IsAntisymmetric given in let count = fits.0 in omega (arith, few, count),
  All-from_recursion FitsText (in_order (of_list given))
      (each_key text_cmp_total text_cmp-IsAntisymmetric FitsText (of_list given) (λ q there.
      among text_cmp_total text_cmp-IsAntisymmetric FitsText given q (recursion_from_All FitsText given fits.1) (sym (has-of_list text_cmp_total given q) ∙ there))),
)

-- partitions that each fit, no more than an image may have
pub record AreFew (set : Partitions) : Type 0 where
  pub few : size set ≤ MOST_PARTITIONS
  pub each : (p : Partition) → has set p ≡ true → FitsPartition p

pub set_fits : (set : Partitions) → AreFew set → FitsPartitions set
set_fits set are = (
  let few = are.few in omega (arith, few),
  All-from_recursion FitsPartition (in_order set) (each_key partition_cmp_total partition_cmp-IsAntisymmetric FitsPartition set are.each),
)

-- ---- what a heartbeat gives

-- what it says has a spelling
pub record FitsHeartbeat (q : Heartbeat) : Type 0 where
  pub member : FitsText q.member
  pub instance : IfSome q.instance FitsText
  pub rack : IfSome q.rack FitsText
  pub timeout : FitsSigned w32 q.rebalance_timeout
  pub names : IfSome q.names (FitsArray FitsText)

names_after_fit : (names : Names) (given : Option (List Text)) → FitsNames names → IfSome given (FitsArray FitsText) → FitsNames (names_after names given)
names_after_fit names None before fits = before
names_after_fit names (Some given) before fits = names_fit given fits

timeout_after_fits : (timeout : ℕ) (given : ℤ) → FitsMillis timeout → FitsSigned w32 given → FitsMillis (timeout_after timeout given)
timeout_after_fits timeout (pos n) before fits = omega (arith, fits.sfits)
timeout_after_fits timeout (negsuc n) before fits = before

-- ---- records

blank_fits : FitsRecord blank_record
blank_fits = record {
  identity = record { instance = tt; rack = tt };
  wishes = record {
    names = names_fit [] (omega arith, All-from_recursion FitsText [] tt);
    assignor = tt;
    rebalance_timeout = omega arith;
  };
  progress = record { epoch = omega arith; previous_epoch = omega arith; stamp = record { connection = omega arith; frame = omega arith } };
  deadlines = record { sent = tt; session_deadline = omega arith; release_deadline = tt };
}

module _ (q : Heartbeat) (given : FitsHeartbeat q) (stamp : Stamp) (stamped : FitsStamp stamp) (now : ℕ) where
  updated_fits : (r : Record) → FitsRecord r → FitsRecord (updated r q stamp now)
  updated_fits r fits = record {
    identity = record { instance = fits.identity.instance; rack = either_fits FitsText q.rack r.rack given.rack fits.identity.rack };
    wishes = record {
      names = names_after_fit r.names q.names fits.wishes.names given.names;
      assignor = assignors_fit (option_or (option_and_then assignor_named q.assignor) r.assignor);
      rebalance_timeout = timeout_after_fits r.rebalance_timeout q.rebalance_timeout fits.wishes.rebalance_timeout given.timeout;
    };
    progress = record { epoch = fits.progress.epoch; previous_epoch = fits.progress.previous_epoch; stamp = stamped };
    deadlines = record { sent = fits.deadlines.sent; session_deadline = sum_fits now SESSION_TIMEOUT; release_deadline = fits.deadlines.release_deadline };
  }

  joined_fits : (r : Record) → FitsRecord r → FitsRecord (joined r q.instance)
  joined_fits r fits = record {
    identity = record { instance = given.instance; rack = fits.identity.rack };
    wishes = record { names = fits.wishes.names; assignor = fits.wishes.assignor; rebalance_timeout = fits.wishes.rebalance_timeout };
    progress = record { epoch = fits.progress.epoch; previous_epoch = fits.progress.previous_epoch; stamp = fits.progress.stamp };
    deadlines = record { sent = tt; session_deadline = fits.deadlines.session_deadline; release_deadline = fits.deadlines.release_deadline };
  }

  returned_number : (e : Epoch) (previous : ℕ) → IfSome (number_of e) FitsEpoch → FitsEpoch previous → IfSome (number_of (returned_epoch e previous)) FitsEpoch
  returned_number (At e) previous one other = one
  returned_number Away previous one other = other

  returned_fits : (r : Record) → FitsRecord r → FitsRecord (returned r)
  returned_fits r fits = record {
    identity = record { instance = fits.identity.instance; rack = fits.identity.rack };
    wishes = record { names = fits.wishes.names; assignor = fits.wishes.assignor; rebalance_timeout = fits.wishes.rebalance_timeout };
    progress = record {
      epoch = returned_number r.epoch r.previous_epoch fits.progress.epoch fits.progress.previous_epoch;
      previous_epoch = fits.progress.previous_epoch;
      stamp = fits.progress.stamp;
    };
    deadlines = record { sent = fits.deadlines.sent; session_deadline = fits.deadlines.session_deadline; release_deadline = fits.deadlines.release_deadline };
  }

  pub new_fits : FitsRecord (record_of_join None q stamp now)
  new_fits = joined_fits (updated blank_record q stamp now) (updated_fits blank_record blank_fits)

  pub rejoined_fits : (r : Record) → FitsRecord r → FitsRecord (record_of_join (Some r) q stamp now)
  rejoined_fits r fits = joined_fits (updated (returned r) q stamp now) (updated_fits (returned r) (returned_fits r fits))

  pub beat_fits : (r : Record) → FitsRecord r → FitsRecord (record_of_beat r q stamp now)
  beat_fits r fits = updated_fits r fits

-- ---- a member that is settled, is told its set, or goes away

last_fits : (e : Epoch) (r : Record) → IfSome (number_of e) FitsEpoch → FitsEpoch r.previous_epoch → FitsEpoch (last_epoch_at e r)
last_fits (At e) r one other = one
last_fits Away r one other = other

pub away_fits : (r : Record) (stamp : Stamp) (now : ℕ) → FitsRecord r → FitsStamp stamp → FitsRecord (away r stamp now)
away_fits r stamp now fits stamped = record {
  identity = record { instance = fits.identity.instance; rack = fits.identity.rack };
  wishes = record { names = fits.wishes.names; assignor = fits.wishes.assignor; rebalance_timeout = fits.wishes.rebalance_timeout };
  progress = record { epoch = tt; previous_epoch = last_fits r.epoch r fits.progress.epoch fits.progress.previous_epoch; stamp = stamped };
  deadlines = record { sent = fits.deadlines.sent; session_deadline = sum_fits now SESSION_TIMEOUT; release_deadline = tt };
}

-- with another epoch, and another deadline for what the member is to give up
at_epoch : (r : Record) (epoch : Epoch) (previous : ℕ) (deadline : Option ℕ) → FitsRecord r → IfSome (number_of epoch) FitsEpoch → FitsEpoch previous → IfSome deadline FitsNumber
    → FitsRecord (record r { epoch = epoch; previous_epoch = previous; release_deadline = deadline })
at_epoch r epoch previous deadline fits one other soon = record {
  identity = record { instance = fits.identity.instance; rack = fits.identity.rack };
  wishes = record { names = fits.wishes.names; assignor = fits.wishes.assignor; rebalance_timeout = fits.wishes.rebalance_timeout };
  progress = record { epoch = one; previous_epoch = other; stamp = fits.progress.stamp };
  deadlines = record { sent = fits.deadlines.sent; session_deadline = fits.deadlines.session_deadline; release_deadline = soon };
}

arrived_fits : (r : Record) (e : Epoch) (target : ℕ) → FitsRecord r → r.epoch ≡ e → FitsEpoch target → FitsRecord (arrived r e target)
arrived_fits r Away target fits is low = at_epoch r (At target) r.previous_epoch None fits low fits.progress.previous_epoch tt
arrived_fits r (At e) target fits is low =
    let before : FitsEpoch e = subst (λ (x : Epoch). IfSome (number_of x) FitsEpoch) is fits.progress.epoch in
    elim (e == target) as (λ b. FitsRecord (cond b (record r { release_deadline = None }) (record r { previous_epoch = e; epoch = At target; release_deadline = None }))) [
      | true ↦ at_epoch r r.epoch r.previous_epoch None fits fits.progress.epoch fits.progress.previous_epoch tt
      | false ↦ at_epoch r (At target) e None fits low before tt
    ]

asked_fits : (r : Record) (deadline : Option ℕ) (now : ℕ) → FitsRecord r → FitsRecord (asked r deadline now)
asked_fits r (Some deadline) now fits = fits
asked_fits r None now fits = at_epoch r r.epoch r.previous_epoch (Some (saturated_sum now r.rebalance_timeout)) fits fits.progress.epoch fits.progress.previous_epoch (sum_fits now r.rebalance_timeout)

pub settled_fits : (may : Bool) (r : Record) (target now : ℕ) → FitsRecord r → FitsEpoch target → FitsRecord (settled_record may r target now)
settled_fits true r target now fits low = arrived_fits r r.epoch target fits refl low
settled_fits false r target now fits low = asked_fits r r.release_deadline now fits

pub sent_fits : (r : Record) (told : Option Partitions) → FitsRecord r → IfSome told FitsPartitions → FitsRecord (sent_after r told)
sent_fits r None fits told = fits
sent_fits r (Some set) fits told = record {
  identity = record { instance = fits.identity.instance; rack = fits.identity.rack };
  wishes = record { names = fits.wishes.names; assignor = fits.wishes.assignor; rebalance_timeout = fits.wishes.rebalance_timeout };
  progress = record { epoch = fits.progress.epoch; previous_epoch = fits.progress.previous_epoch; stamp = fits.progress.stamp };
  deadlines = record { sent = told; session_deadline = fits.deadlines.session_deadline; release_deadline = fits.deadlines.release_deadline };
}
