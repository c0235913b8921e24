-- What a group consists of has a spelling, whatever comes to it.
use Rattle.std.proofs.Common.{◌≡◌, ℕ, zero, suc, ◌-◌, ◌<◌, ◌≤◌, ◌==◌, ℤ, max, Bool, true, false, cond, not, ◌||◌, ◌&&◌, nat_le, List, [], ◌∷◌, ◌++◌, length, drop, filter, Option, Some, None, IfSome, is_some, refl, sym, ap, subst, ◌∙◌, arith, true≢false}
use Rattle.std.specs.Prelude.{FitsSigned}
use Rattle.std.specs.Cmp.{first_so, second_so}
use Rattle.std.specs.FinMap as finite
use Rattle.std.specs.Int.{w32, w64}
use Rattle.std.specs.List.{AllByRecursion, flat_map, list_any}
use Rattle.std.specs.Option.{MatchOption, option_map_or}
use Rattle.std.specs.Ordering.{eq_by_cmp}
use Rattle.std.proofs.lemmas.Bool.{leb-false, ltb-false}
use Rattle.std.proofs.lemmas.List.{nil_from_length}
use Rattle.flex_wire.specs.Spelling.{FitsText, FitsUuid}
use Rattle.group_types.specs.declared.code.Code.TheVariants as codes
use Rattle.group_types.specs.declared.partition.Partition.{Partition}
use Rattle.group_types.specs.declared.stamp.Stamp.{Stamp}
use Rattle.group_types.specs.Checks.{Accepted, Member, Overtaken, Refused, Sender, Verdict, sender_of, verdict_on}
use Rattle.group_types.specs.Commit.{Commit, CommitReply, CommitStep, Commitment, is_stored, is_there, is_too_long, named_commitments, offsets_after, refusal_of_commit, with_offset, with_offsets}
use Rattle.group_types.specs.Group.{Committed, Grants, Group, Offsets, Past, Record, Records, Target, grant_cmp, held, new_group, place_cmp, wanted}
use Rattle.group_types.specs.HeartbeatStep.{Answer, Arrival, BeatsWith, ByVerdict, Draft, GoesAwayWith, HeartbeatStep, IsRefused, JoinsAs, Stages, StepOf, TakesIn, assignment_of, draft_of_join, draft_under, handed_over, is_news, sent_after, shown, with_record_at}
use Rattle.group_types.specs.Images.{AreImageTopics}
use Rattle.group_types.specs.Join.{IsNamed, Name, record_of_beat, record_of_join}
use Rattle.group_types.specs.Leave.{away, risen, without_member}
use Rattle.group_types.specs.Limits.{GREATEST_EPOCH, LONGEST_METADATA, MOST_PAST_MEMBERS, MOST_TOPIC_PARTITIONS}
use Rattle.group_types.specs.Members.{remembering, without_past}
use Rattle.group_types.specs.Owners.{IsIndex, is_index, share_of}
use Rattle.group_types.specs.Partition.{Partitions, partition_cmp}
use Rattle.group_types.specs.Renewal.{Renews, RenewsWhere, changed_if, is_subscribed, view_for}
use Rattle.group_types.specs.Request.{Beats, GoesAway, Heartbeat, Joins, Kind, Leaves, MeansNothing, is_full, kind_of, reported}
use Rattle.group_types.specs.Sets.{common, has, in_order, nothing}
use Rattle.group_types.specs.Settle.{granting, grants_after, grants_of_others, is_free_for, may_settle, moved, settled_by, settled_record}
use Rattle.group_types.specs.Sound.{IsOfView}
use Rattle.group_types.specs.Text.{Text, text_cmp}
use Rattle.group_types.specs.Tick.{at_moment, due, expired, is_due, ticked, without_members}
use Rattle.group_types.specs.Topics.{Topic, Topics}
use Rattle.group_types.proofs.Consistent.{IsConsistent}
use Rattle.group_types.proofs.Drafts.{IsReady, beat_is_ready, join_is_ready}
use Rattle.group_types.proofs.Entries.{entries_found}
use Rattle.group_types.proofs.GrantLemmas.{has-granting, has-held, has-moved, has-others}
use Rattle.group_types.proofs.Images.{get-retained, retained-AreImageTopics}
use Rattle.group_types.proofs.Indexes.{index_below, index_of}
use Rattle.group_types.proofs.KeptViews.{changed_view, join_view, renewed_view}
use Rattle.group_types.proofs.Lookups.{Found, Tie, another, differs, found, found_without, not_none, this, tie, ties}
use Rattle.group_types.proofs.OffsetLemmas.{place_cmp-IsAntisymmetric, place_cmp_total}
use Rattle.group_types.proofs.Orders.{partition_cmp-IsAntisymmetric, partition_cmp_total}
use Rattle.group_types.proofs.Renewals.{changed_is_consistent, renewed_is_consistent}
use Rattle.group_types.proofs.Senders.{named_fresh, other_is, own_is}
use Rattle.group_types.proofs.SetLemmas.{has-common, has-in_order, has-nothing, size-nothing}
use Rattle.group_core.proofs.FewPartitions.{few_shown, share_of_view}
use Rattle.coord_node.proofs.FittingAnswers.{name_fits, overtakes, passed, refuses}
use Rattle.replica_snapshots.specs.Spelling.{FitsEpoch, FitsFormer, FitsIndex, FitsMetadata, FitsNumber, FitsOffset, FitsPartitions, FitsRecord, FitsStamp}
use Rattle.replica_snapshots.specs.Runs.{HaveNames}
use Rattle.replica_snapshots.proofs.FitKeys.{fewer_keys, put_in}
use Rattle.replica_snapshots.proofs.FitRecords.{AreFew, FitsHeartbeat, FitsSerial, away_fits, beat_fits, new_fits, rejoined_fits, sent_fits, serial_fits, set_fits, settled_fits}

-- ---- what a group consists of

abbrev pub MembersFit : Records → Type 0
MembersFit records = (m : Text) (r : Record) → finite.get records m ≡ Some r → FitsText m × FitsRecord r

-- of each member no more than an image may have, each of which fits
abbrev pub GrantsFit : Grants → Type 0
GrantsFit grants = (m : Text) → AreFew (held grants m)

pub record IsWritten (g : Group) : Type 0 where
  pub salt : FitsNumber g.salt
  pub clock : FitsNumber g.clock
  pub serial : FitsSerial g.serial
  pub members : MembersFit g.records
  pub past : AllByRecursion FitsFormer g.past
  pub grants : GrantsFit g.grants
  pub offsets : AllByRecursion FitsOffset (finite.entries g.offsets)
  pub view : HaveNames g.view

-- with other epochs and another target
renumbered : (g : Group) (epoch target_epoch : ℕ) (target : Target) → IsWritten g → IsWritten (record g { epoch = epoch; target_epoch = target_epoch; target = target })
renumbered g epoch target_epoch target is = record {
  salt = is.salt;
  clock = is.clock;
  serial = is.serial;
  members = is.members;
  past = is.past;
  grants = is.grants;
  offsets = is.offsets;
  view = is.view;
}

-- ---- lists

all_weaker : {X : Type 0} (P Q : X → Type 0) → ((x : X) → P x → Q x) → (xs : List X) → AllByRecursion P xs → AllByRecursion Q xs
all_weaker P Q so [] all = tt
all_weaker P Q so (x ∷ xs) all = (so x all.0, all_weaker P Q so xs all.1)

all_filter : {X : Type 0} (P : X → Type 0) (test : X → Bool) (xs : List X) → AllByRecursion P xs → AllByRecursion P (filter test xs)
all_filter P test [] all = tt
all_filter P test (x ∷ xs) all =
    let behind = all_filter P test xs all.1 in
    elim (test x) as (λ b. AllByRecursion P (cond b (x ∷ filter test xs) (filter test xs))) [ true ↦ (all.0, behind) | false ↦ behind ]

all_drop : {X : Type 0} (P : X → Type 0) (n : ℕ) (xs : List X) → AllByRecursion P xs → AllByRecursion P (drop n xs)
all_drop P zero xs all = all
all_drop P (suc n) [] all = tt
all_drop P (suc n) (x ∷ xs) all = all_drop P n xs all.1

all_behind : {X : Type 0} (P : X → Type 0) (xs : List X) (x : X) → AllByRecursion P xs → P x → AllByRecursion P (xs ++ x ∷ [])
all_behind P [] x all one = (one, tt)
all_behind P (y ∷ xs) x all one = (all.0, all_behind P xs x all.1 one)

-- ---- members, and former ones

put_member : (records : Records) (m : Text) (r : Record) → MembersFit records → FitsText m → FitsRecord r → MembersFit (finite.insert records m r)
put_member records m r before id fits n s there = by (found records m r n s there)
  where
    by : Found records m r n s → FitsText n × FitsRecord s
    by (this same is) = (subst FitsText (sym same) id, subst FitsRecord (sym is) fits)
    by (another other apart was) = before n s was

drop_member : (records : Records) (m : Text) → MembersFit records → MembersFit (finite.remove records m)
drop_member records m before n s there = before n s (found_without records m n s there).0

remembered : (past : Past) (m : Text) (stamp : Stamp) → AllByRecursion FitsFormer past → FitsText m → FitsStamp stamp → AllByRecursion FitsFormer (remembering past m stamp)
remembered past m stamp all id stamped =
    let longer : Past = past ++ (m, stamp) ∷ [] in
    all_drop FitsFormer (length longer - MOST_PAST_MEMBERS) longer (all_behind FitsFormer past (m, stamp) all (record { id = id; stamp = stamped }))

forgotten : (past : Past) (m : Text) → AllByRecursion FitsFormer past → AllByRecursion FitsFormer (without_past past m)
forgotten past m all = all_filter FitsFormer (λ (e : Text × Stamp). not (eq_by_cmp text_cmp m e.0)) past all

-- ---- sets of partitions

within : (s t : Partitions) → ((p : Partition) → has s p ≡ true → has t p ≡ true) → AreFew t → AreFew s
within s t so are = record {
  few = let fewer = fewer_keys partition_cmp_total partition_cmp-IsAntisymmetric s t so in let most = are.few in omega (arith, fewer, most);
  each = λ p there. are.each p (so p there);
}

others_fit : (grants : Grants) (m : Text) → GrantsFit grants → GrantsFit (grants_of_others grants m)
others_fit grants m before x =
    within (held (grants_of_others grants m) x) (held grants x)
    (λ p there. has-held grants x p ∙ second_so (not (eq_by_cmp text_cmp m x)) _ (sym (has-others grants m x p) ∙ (sym (has-held (grants_of_others grants m) x p) ∙ there)))
    (before x)

moved_fit : (grants : Grants) (m : Text) (target : Partitions) → GrantsFit grants → AreFew target → GrantsFit (moved grants m target)
moved_fit grants m target before few x = by (eq_by_cmp text_cmp x m) (λ p there. sym (has-moved grants m target x p) ∙ (sym (has-held (moved grants m target) x p) ∙ there))
  where
    by : (b : Bool) → ((p : Partition) → has (held (moved grants m target) x) p ≡ true → cond b (has target p && (has grants (m, p) || is_free_for grants m p)) (has grants (x, p)) ≡ true)
        → AreFew (held (moved grants m target) x)
    by true so = within (held (moved grants m target) x) target (λ p there. first_so (has target p) _ (so p there)) few
    by false so = within (held (moved grants m target) x) (held grants x) (λ p there. has-held grants x p ∙ so p there) (before x)

either : (a b c : Bool) → ((a && b) || c) ≡ true → (c ≡ true → ⊥) → b ≡ true
either true true c is none = refl
either true false c is none = absurd (none is)
either false b c is none = absurd (none is)

-- an heir that held nothing holds what another one held
module _ (grants : Grants) (old heir : Text) (none : (p : Partition) → has grants (heir, p) ≡ true → ⊥) (before : GrantsFit grants) where
  abbrev After : Grants
  After = granting (grants_of_others grants old) heir (in_order (held grants old))

  still : (x : Text) (p : Partition) → has (grants_of_others grants old) (x, p) ≡ true → has grants (x, p) ≡ true
  still x p there = second_so (not (eq_by_cmp text_cmp old x)) _ (sym (has-others grants old x p) ∙ there)

  heir_fits : GrantsFit After
  heir_fits x = by (tie x heir) (λ p there. sym (has-granting (grants_of_others grants old) heir (in_order (held grants old)) x p) ∙ (sym (has-held After x p) ∙ there))
    where
      by : Tie x heir
          → ((p : Partition) → has (held After x) p ≡ true → ((eq_by_cmp text_cmp x heir && list_any (eq_by_cmp partition_cmp p) (in_order (held grants old))) || has (grants_of_others grants old) (x, p)) ≡ true)
          → AreFew (held After x)
      by (ties same) so =
          within (held After x) (held grants old)
          (λ p there. has-in_order (held grants old) p
          ∙ either (eq_by_cmp text_cmp x heir) _ _ (so p there) (λ still_there. none p (ap (λ (t : Text). has grants (t, p)) (sym same) ∙ still x p still_there)))
          (before old)
      by (differs other apart) so =
          within (held After x) (held grants x)
          (λ p there. has-held grants x p
          ∙ still x p (sym (ap (λ b. (b && list_any (eq_by_cmp partition_cmp p) (in_order (held grants old))) || has (grants_of_others grants old) (x, p)) apart) ∙ so p there))
          (before x)

index_fits : (z : ℤ) (count : ℕ) → IsIndex z count → count ≤ MOST_TOPIC_PARTITIONS → FitsIndex z
index_fits z count is few =
    let at = index_of z count is in
    let below : at.0 < MOST_TOPIC_PARTITIONS = let less = at.2 in omega (arith, less, few) in
    index_below z at.0 MOST_TOPIC_PARTITIONS at.1 below

-- what a member is to own
pub share_fits : (g : Group) → IsConsistent g → AreImageTopics g.view → (m : Text) → AreFew (share_of g.target m)
share_fits g sound over m =
    let share : Partitions = share_of g.target m in
    let of : (p : Partition) (n : Text) → finite.get g.target p ≡ Some n → IsOfView g.view p = λ p n owns. sound.owned n p owns in
    record {
      few =
          let fewer = fewer_keys partition_cmp_total partition_cmp-IsAntisymmetric share (common share share)
          (λ p there. has-common partition_cmp_total share share p ∙ (λ i. there i && there i)) in
          let most = few_shown g.view g.target m share over of in
          omega (arith, fewer, most);
      each = λ p there.
          let at = share_of_view g.view g.target m of p there in
          record {
            topic = subst FitsUuid (sym at.same_id) (over.ids at.name at.topic at.is_topic);
            index = index_fits p.index at.topic.count at.index (over.counts at.name at.topic at.is_topic).1;
          };
    }

-- ---- the view

from_kept : (b : Bool) (o : Option Topic) (t : Topic) → cond b o None ≡ Some t → o ≡ Some t
from_kept true o t is = is
from_kept false o t is = absurd (not_none t is)

names_retained : (image : Topics) (test : Text → Bool) → HaveNames image → HaveNames (finite.retain_keys image test)
names_retained image test before name t there = before name t (from_kept (test name) (finite.get image name) t (sym (get-retained image test name) ∙ there))

-- ---- a member leaves

without_written : (g : Group) (m : Text) (stamp : Stamp) → IsWritten g → FitsText m → FitsStamp stamp → IsWritten (without_member g m stamp)
without_written g m stamp is id stamped = record {
  salt = is.salt;
  clock = is.clock;
  serial = is.serial;
  members = drop_member g.records m is.members;
  past = remembered g.past m stamp is.past id stamped;
  grants = others_fit g.grants m is.grants;
  offsets = is.offsets;
  view = is.view;
}

clocked : (g : Group) (now epoch : ℕ) → IsWritten g → FitsNumber now → IsWritten (record g { clock = now; epoch = epoch })
clocked g now epoch is moment = record {
  salt = is.salt;
  clock = moment;
  serial = is.serial;
  members = is.members;
  past = is.past;
  grants = is.grants;
  offsets = is.offsets;
  view = is.view;
}

later_fits : (a b : ℕ) → FitsNumber a → FitsNumber b → FitsNumber (max a b)
later_fits a b one other = omega (arith, one, other)

-- ---- a tick

abbrev Leaver : Text × Record → Type 0
Leaver e = FitsText e.0 × FitsStamp e.1.stamp

all_leave : (g : Group) (ms : List (Text × Record)) → AllByRecursion Leaver ms → IsWritten g → IsWritten (without_members g ms)
all_leave g [] all is = is
all_leave g (m ∷ ms) all is = all_leave (without_member g m.0 m.1.stamp) ms all.1 (without_written g m.0 m.1.stamp is all.0.0 all.0.1)

expired_written : (g : Group) (ms : List (Text × Record)) → AllByRecursion Leaver ms → IsWritten g → IsWritten (expired g ms)
expired_written g [] all is = is
expired_written g (m ∷ ms) all is = all_leave (record g { epoch = risen g.epoch }) (m ∷ ms) all (renumbered g (risen g.epoch) g.target_epoch g.target is)

pub ticked_written : (g : Group) (moment : ℕ) → FitsNumber moment → IsWritten g → IsWritten (ticked g moment)
ticked_written g moment fits is =
    let at : Group = at_moment g moment in
    let there : AllByRecursion Leaver (finite.entries g.records) =
    all_weaker (λ (e : Text × Record). finite.get g.records e.0 ≡ Some e.1) Leaver (λ e found. let both = is.members e.0 e.1 found in (both.0, both.1.progress.stamp)) (finite.entries g.records) (entries_found g.records) in
    expired_written at (due at) (all_filter Leaver (λ (m : Text × Record). is_due at.clock m.1) (finite.entries g.records) there)
    (clocked g (max g.clock moment) g.epoch is (later_fits g.clock moment is.clock fits))

-- ---- a commit

abbrev pub IsCommitment : Text × Commitment → Type 0
IsCommitment x = FitsText x.0 × ((FitsSigned w64 x.1.committed.offset × FitsSigned w32 x.1.committed.leader_epoch) × IfSome x.1.committed.metadata FitsText)

metadata_fits : (metadata : Option Text) → is_too_long metadata ≡ false → IfSome metadata FitsText → IfSome metadata FitsMetadata
metadata_fits None short text = tt
metadata_fits (Some x) short text = record { text = text; short = ltb-false LONGEST_METADATA (length x) short }

there_fits : (o : Option Topic) (image : Topics) (name : Text) (index : ℤ) → finite.get image name ≡ o → AreImageTopics image → option_map_or (λ t. is_index index t.count) o false ≡ true → FitsIndex index
there_fits None image name index at topics is = absurd (true≢false (sym is))
there_fits (Some t) image name index at topics is = index_fits index t.count is (topics.counts name t at).1

not_true : (b : Bool) → not b ≡ true → b ≡ false
not_true true is = sym is
not_true false is = refl

stored_fits : (image : Topics) (x : Text × Commitment) → AreImageTopics image → IsCommitment x → is_stored image x.0 x.1 ≡ true → FitsOffset ((x.0, x.1.index), x.1.committed)
stored_fits image x topics fits is = record {
  name = fits.0;
  index = there_fits (finite.get image x.0) image x.0 x.1.index refl topics (first_so (is_there image x.0 x.1.index) _ is);
  committed = record {
    offset = fits.1.0.0;
    leader_epoch = fits.1.0.1;
    metadata = metadata_fits x.1.committed.metadata (not_true _ (second_so (is_there image x.0 x.1.index) _ is)) fits.1.1;
  };
}

one_offset : (b : Bool) (image : Topics) (offsets : Offsets) (x : Text × Commitment) → is_stored image x.0 x.1 ≡ b → AreImageTopics image → IsCommitment x
    → AllByRecursion FitsOffset (finite.entries offsets) → AllByRecursion FitsOffset (finite.entries (with_offset b offsets x.0 x.1))
one_offset false image offsets x is topics fits all = all
one_offset true image offsets x is topics fits all =
    subst (AllByRecursion FitsOffset) (sym (finite.entries-insert place_cmp_total offsets (x.0, x.1.index) x.1.committed))
    (put_in place_cmp_total place_cmp-IsAntisymmetric FitsOffset (x.0, x.1.index) x.1.committed (finite.entries offsets) (stored_fits image x topics fits is) all)

all_offsets : (image : Topics) (offsets : Offsets) (xs : List (Text × Commitment)) → AreImageTopics image → AllByRecursion IsCommitment xs
    → AllByRecursion FitsOffset (finite.entries offsets) → AllByRecursion FitsOffset (finite.entries (with_offsets image offsets xs))
all_offsets image offsets [] topics fits all = all
all_offsets image offsets (x ∷ xs) topics fits all =
    all_offsets image (with_offset (is_stored image x.0 x.1) offsets x.0 x.1) xs topics fits.1 (one_offset (is_stored image x.0 x.1) image offsets x refl topics fits.0 all)

-- all that a commit names fits
abbrev pub IsSpelledCommit : Commit → Type 0
IsSpelledCommit c = AllByRecursion IsCommitment (flat_map named_commitments c.topics)

after_fit : (o : Option _) (offsets : Offsets) (c : Commit) (image : Topics) → AreImageTopics image → IsSpelledCommit c → AllByRecursion FitsOffset (finite.entries offsets)
    → AllByRecursion FitsOffset (finite.entries (offsets_after o offsets c image))
after_fit (Some code) offsets c image topics fits all = all
after_fit None offsets c image topics fits all = all_offsets image offsets (flat_map named_commitments c.topics) topics fits all

pub committed_written : (g : Group) (c : Commit) (image : Topics) (reply : CommitReply) (new : Group) → AreImageTopics image → IsSpelledCommit c → CommitStep g c image reply new
    → IsWritten g → IsWritten new
committed_written g c image reply new topics fits step is =
    subst IsWritten (sym step.stores) (record {
      salt = is.salt;
      clock = is.clock;
      serial = is.serial;
      members = is.members;
      past = is.past;
      grants = is.grants;
      offsets = after_fit (refusal_of_commit g.records c.member c.epoch) g.offsets c image topics fits is.offsets;
      view = is.view;
    })

-- ---- the stages of a heartbeat

grants_after_fit : (may : Bool) (grants : Grants) (m : Text) (target : Partitions) → GrantsFit grants → AreFew target → GrantsFit (grants_after may grants m target)
grants_after_fit true grants m target before few = moved_fit grants m target before few
grants_after_fit false grants m target before few = before

settled_written : (may : Bool) (g : Group) (m : Text) (o : Option Record) (now : ℕ) → finite.get g.records m ≡ o → IsWritten g → IsConsistent g → AreImageTopics g.view → IsWritten (settled_by may g m o now)
settled_written may g m None now there is sound over = is
settled_written may g m (Some r) now there is sound over =
    let low : FitsEpoch g.target_epoch = let target = sound.target_epoch in let most = sound.epoch in omega (arith, target, most) in
    let before = is.members m r there in
    record {
      salt = is.salt;
      clock = is.clock;
      serial = is.serial;
      members = put_member g.records m (settled_record may r g.target_epoch now) is.members before.0 (settled_fits may r g.target_epoch now before.1 low);
      past = is.past;
      grants = grants_after_fit may g.grants m (wanted g.target m) is.grants (share_fits g sound over m);
      offsets = is.offsets;
      view = is.view;
    }

renewed_written : (b : Bool) (g renewed : Group) → RenewsWhere b g renewed → IsWritten g → IsWritten renewed
renewed_written true g renewed is written = subst IsWritten (sym is) written
renewed_written false g renewed (target, is_target, is) written = subst IsWritten (sym is) (renumbered g g.epoch g.epoch target written)

told_fits : (b : Bool) (set : Partitions) → FitsPartitions set → IfSome (assignment_of b set) FitsPartitions
told_fits true set fits = fits
told_fits false set fits = tt

shown_fits : (g : Group) (m : Text) → IsWritten g → FitsPartitions (shown g m)
shown_fits g m is =
    set_fits (shown g m) (within (shown g m) (held g.grants m)
    (λ p there. first_so (has (held g.grants m) p) _ (sym (has-common partition_cmp_total (held g.grants m) (wanted g.target m) p) ∙ there)) (is.grants m))

with_member : (g : Group) (m : Text) (r : Record) → IsWritten g → FitsText m → FitsRecord r → IsWritten (record g { records = finite.insert g.records m r })
with_member g m r is id fits = record {
  salt = is.salt;
  clock = is.clock;
  serial = is.serial;
  members = put_member g.records m r is.members id fits;
  past = is.past;
  grants = is.grants;
  offsets = is.offsets;
  view = is.view;
}

stages_written : (changed : Group) (d : Draft) (q : Heartbeat) (a : Answer) (n : Group) (stages : Stages changed d q a n) → IsWritten changed → IsConsistent stages.renewed → AreImageTopics stages.renewed.view → IsWritten n
stages_written changed d q a n stages written sound over =
    let renewed : Group = stages.renewed in
    let before : IsWritten renewed = renewed_written (changed.epoch == changed.target_epoch) changed renewed stages.renews written in
    let settled : IsWritten stages.settled = subst IsWritten (sym stages.settles)
    (settled_written (may_settle renewed.grants d.id (wanted renewed.target d.id) (reported q)) renewed d.id (finite.get renewed.records d.id) renewed.clock refl before sound over) in
    let kept = settled.members d.id stages.kept stages.is_kept in
    let told : IfSome stages.told FitsPartitions = subst (λ o. IfSome o FitsPartitions) (sym stages.tells)
    (told_fits (is_full q || is_news stages.kept.sent (shown stages.settled d.id)) (shown stages.settled d.id) (shown_fits stages.settled d.id settled)) in
    subst IsWritten (sym stages.leaves) (with_member stages.settled d.id (sent_after stages.kept stages.told) settled kept.0 (sent_fits stages.kept stages.told kept.1 told))

by_verdict : (v : Verdict) (Accepts : Answer → Group → Type 0) (g : Group) (a : Answer) (n : Group) → IsWritten g → (v ≡ Accepted → Accepts a n → IsWritten n) → ByVerdict v Accepts g a n → IsWritten n
by_verdict Accepted Accepts g a n before accepts is = accepts refl is
by_verdict (Refused code) Accepts g a n before accepts is = subst IsWritten (sym is.1) before
by_verdict Overtaken Accepts g a n before accepts is = subst IsWritten (sym is.1) before

module _ (g : Group) (before : IsWritten g) (d : Draft) (ready : IsReady g d) (drafted : IsWritten d.group) (over : AreImageTopics d.group.view)
    (q : Heartbeat) (image : Topics) (present : AreImageTopics image) (names : HaveNames image) (a : Answer) (n : Group) where
  abbrev View : Topics
  View = view_for image d.group.records

  changed_written : (change : Bool) → IsWritten (changed_if change d.group View)
  changed_written false = drafted
  changed_written true = record {
    salt = drafted.salt;
    clock = drafted.clock;
    serial = drafted.serial;
    members = drafted.members;
    past = drafted.past;
    grants = drafted.grants;
    offsets = drafted.offsets;
    view = names_retained image (is_subscribed d.group.records) names;
  }

  then_over : (change : Bool) (renewed : Group) → Renews (changed_if change d.group View) renewed → AreImageTopics renewed.view
  then_over change renewed renews =
      let changed : Group = changed_if change d.group View in
      subst AreImageTopics (sym (renewed_view (changed.epoch == changed.target_epoch) changed renewed renews))
      (changed_view change d.group View over (retained-AreImageTopics image (is_subscribed d.group.records) present))

  goes : (change : Bool) → (change && nat_le GREATEST_EPOCH g.epoch) ≡ false → Stages (changed_if change d.group View) d q a n → IsWritten n
  goes false room stages =
      stages_written d.group d q a n stages drafted (renewed_is_consistent d.group ready.sound stages.renewed stages.renews) (then_over false stages.renewed stages.renews)
  goes true room stages =
      let below = leb-false GREATEST_EPOCH g.epoch room in
      let epochs = ready.epoch in
      let target = ready.sound.target_epoch in
      stages_written (changed_if true d.group View) d q a n stages (changed_written true)
      (changed_is_consistent d.group ready.sound (suc d.group.epoch) View stages.renewed (omega (arith, target)) (omega (arith, below, epochs)) stages.renews)
      (then_over true stages.renewed stages.renews)

  taken_written : TakesIn g d q image a n → IsWritten n
  taken_written takes = by (takes.change && nat_le GREATEST_EPOCH g.epoch) refl takes.step
    where
      by : (b : Bool) → (takes.change && nat_le GREATEST_EPOCH g.epoch) ≡ b
          → ByVerdict (cond b (Refused codes.CoordinatorNotAvailable) Accepted) (Stages (changed_if takes.change d.group View) d q) g a n → IsWritten n
      by true stuck is = subst IsWritten (sym is.1) before
      by false room is = goes takes.change room is

-- ---- the drafts

numbered : (g : Group) (serial : ℕ) → IsWritten g → FitsSerial serial → IsWritten (record g { serial = serial })
numbered g serial is next = record {
  salt = is.salt;
  clock = is.clock;
  serial = next;
  members = is.members;
  past = is.past;
  grants = is.grants;
  offsets = is.offsets;
  view = is.view;
}

drafted_written : (g : Group) (now : ℕ) (m : Text) (r : Record) → IsWritten g → FitsNumber now → FitsText m → FitsRecord r → IsWritten (with_record_at g now m r)
drafted_written g now m r is moment id fits = record {
  salt = is.salt;
  clock = moment;
  serial = is.serial;
  members = put_member g.records m r is.members id fits;
  past = forgotten g.past m is.past;
  grants = is.grants;
  offsets = is.offsets;
  view = is.view;
}

handed_written : (g : Group) (old : Member) (heir : Text) → IsWritten g → finite.get g.records old.id ≡ Some old.kept → ((p : Partition) → has g.grants (heir, p) ≡ true → ⊥) → FitsText heir
    → IsWritten (handed_over g old heir)
handed_written g old heir is there none id =
    let both = is.members old.id old.kept there in
    record {
      salt = is.salt;
      clock = is.clock;
      serial = is.serial;
      members = put_member (finite.remove g.records old.id) heir old.kept (drop_member g.records old.id is.members) id both.1;
      past = remembered (without_past g.past heir) old.id old.kept.stamp (forgotten g.past heir is.past) both.0 both.1.progress.stamp;
      grants = heir_fits g.grants old.id heir none is.grants;
      offsets = is.offsets;
      view = is.view;
    }

-- ---- by the kind of heartbeat

module _ (g : Group) (sound : IsConsistent g) (stored : AreImageTopics g.view) (before : IsWritten g) (h : Arrival) (present : AreImageTopics h.image) (names : HaveNames h.image)
    (given : FitsHeartbeat h.heartbeat) (stamped : FitsStamp h.stamp) (moment : FitsNumber h.moment) (a : Answer) (n : Group) where
  abbrev TheSender : Sender
  TheSender = sender_of g.records h.heartbeat

  abbrev Now : ℕ
  Now = max g.clock h.moment

  now_fits : FitsNumber Now
  now_fits = later_fits g.clock h.moment before.clock moment

  draft_written : (name : Name) → IsNamed g h.heartbeat.member (Some name) → (own : Option Record) → TheSender.own ≡ own → (other : Option Member) → TheSender.other ≡ other
      → IsWritten (draft_of_join (record g { serial = name.next_serial }) Now name.id own other h.heartbeat h.stamp).group
  draft_written name named (Some r) own other is =
      let kept = before.members h.heartbeat.member r (own_is g.records h.heartbeat.member r own) in
      drafted_written (record g { serial = name.next_serial }) Now name.id (record_of_join (Some r) h.heartbeat h.stamp Now)
      (numbered g name.next_serial before (serial_fits g h.heartbeat.member name named before.serial)) now_fits
      (name_fits g h.heartbeat.member name named given.member) (rejoined_fits h.heartbeat given h.stamp stamped Now r kept.1)
  draft_written name named None none None alone =
      drafted_written (record g { serial = name.next_serial }) Now name.id (record_of_join None h.heartbeat h.stamp Now)
      (numbered g name.next_serial before (serial_fits g h.heartbeat.member name named before.serial)) now_fits
      (name_fits g h.heartbeat.member name named given.member) (new_fits h.heartbeat given h.stamp stamped Now)
  draft_written name named None none (Some old) is =
      let numbered_g : Group = record g { serial = name.next_serial } in
      let there = (other_is g.records h.heartbeat.member h.heartbeat.instance old is).0 in
      let fresh = named_fresh g h.heartbeat.member name named none in
      let id = name_fits g h.heartbeat.member name named given.member in
      let kept = before.members old.id old.kept there in
      drafted_written (handed_over numbered_g old name.id) Now name.id (record_of_join (Some old.kept) h.heartbeat h.stamp Now)
      (handed_written numbered_g old name.id (numbered g name.next_serial before (serial_fits g h.heartbeat.member name named before.serial)) there
      (λ p holds. true≢false (sym (sound.holders name.id p holds) ∙ ap is_some fresh.0)) id)
      now_fits id (rejoined_fits h.heartbeat given h.stamp stamped Now old.kept kept.1)

  joins_written : verdict_on Joins TheSender g h.heartbeat h.stamp ≡ Accepted → JoinsAs TheSender g h a n → IsWritten n
  joins_written accepted joins = by joins.name joins.is_named joins.joins
    where
      by : (o : Option Name) → IsNamed g h.heartbeat.member o → MatchOption o (IsRefused codes.CoordinatorNotAvailable g a n) (λ x. TakesIn g (draft_under x TheSender g h) h.heartbeat h.image a n) → IsWritten n
      by None named is = subst IsWritten (sym is.1) before
      by (Some name) named is =
          let valid = passed _ _ _ (refuses codes.InvalidRequest) accepted in
          let supported = passed _ _ _ (refuses codes.UnsupportedAssignor) valid.1 in
          let in_time = passed _ _ _ overtakes supported.1 in
          let released = passed _ _ _ (refuses codes.UnreleasedInstanceId) in_time.1 in
          let room = passed _ _ _ (refuses codes.GroupMaxSizeReached) released.1 in
          taken_written g before _ (join_is_ready g sound Now h.heartbeat h.stamp name named TheSender.own refl TheSender.other refl released.0 room.0)
          (draft_written name named TheSender.own refl TheSender.other refl)
          (subst AreImageTopics (sym (join_view g name.next_serial Now name.id TheSender.own TheSender.other h.heartbeat h)) stored)
          h.heartbeat h.image present names a n is

  beats_written : (own : Option Record) → TheSender.own ≡ own → BeatsWith own g h a n → IsWritten n
  beats_written None none is = absurd is
  beats_written (Some r) own is =
      let there = own_is g.records h.heartbeat.member r own in
      let kept = before.members h.heartbeat.member r there in
      taken_written g before _ (beat_is_ready g sound Now r h.heartbeat h.stamp there)
      (drafted_written g Now h.heartbeat.member (record_of_beat r h.heartbeat h.stamp Now) before now_fits given.member (beat_fits h.heartbeat given h.stamp stamped Now r kept.1))
      stored h.heartbeat h.image present names a n is

  goes_away_written : (own : Option Record) → TheSender.own ≡ own → GoesAwayWith own g h a n → IsWritten n
  goes_away_written None none is = absurd is
  goes_away_written (Some r) own is =
      let kept = before.members h.heartbeat.member r (own_is g.records h.heartbeat.member r own) in
      subst IsWritten (sym is.1) (with_member (record g { clock = Now }) h.heartbeat.member (away r h.stamp Now) (clocked g Now g.epoch before now_fits) given.member (away_fits r h.stamp Now kept.1 stamped))

  step_written : (kind : Kind) → verdict_on kind TheSender g h.heartbeat h.stamp ≡ Accepted → StepOf kind TheSender g h a n → IsWritten n
  step_written Joins accepted is = joins_written accepted is
  step_written (Beats e) accepted is = beats_written TheSender.own refl is
  step_written Leaves accepted is =
      subst IsWritten (sym is.1) (without_written (record g { clock = Now; epoch = risen g.epoch }) h.heartbeat.member h.stamp (clocked g Now (risen g.epoch) before now_fits) given.member stamped)
  step_written GoesAway accepted is = goes_away_written TheSender.own refl is
  step_written MeansNothing accepted is = absurd is

  pub heartbeat_written : HeartbeatStep g h a n → IsWritten n
  heartbeat_written is = by_verdict (verdict_on (kind_of h.heartbeat.epoch) TheSender g h.heartbeat h.stamp) (StepOf (kind_of h.heartbeat.epoch) TheSender g h) g a n before (step_written (kind_of h.heartbeat.epoch)) is

-- ---- a new group

nothing_few : AreFew nothing
nothing_few = record {
  few = omega (arith, size-nothing partition_cmp);
  each = λ p there. absurd (true≢false (sym there ∙ has-nothing partition_cmp p));
}

none_held : (m : Text) → AreFew (held nothing m)
none_held m = within (held nothing m) nothing (λ p there. absurd (true≢false (sym there ∙ (has-held nothing m p ∙ has-nothing grant_cmp (m, p))))) nothing_few

pub new_written : (salt : ℕ) → FitsNumber salt → IsWritten (new_group salt)
new_written salt fits = record {
  salt = fits;
  clock = omega arith;
  serial = record { some = omega arith; below = omega arith };
  members = λ m r there. absurd (not_none r (sym (finite.get-empty text_cmp m) ∙ there));
  past = tt;
  grants = none_held;
  offsets = subst (AllByRecursion FitsOffset) (sym (nil_from_length _ (sym (finite.len-entries (finite.empty {X = Committed} {R = place_cmp})) ∙ finite.len-empty place_cmp Committed))) tt;
  view = λ name t there. absurd (not_none t (sym (finite.get-empty text_cmp name) ∙ there));
}
