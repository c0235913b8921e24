-- A group that is built of the parts of a sound one is that group.
use Rattle.std.proofs.Common.{◌≡◌, ℕ, suc, true, ◌+◌, ◌-◌, ◌≤◌, List, [], ◌∷◌, ◌++◌, length, map, is_some, cond, Option, Some, None, Result, Ok, Err, refl, sym, ap, subst, ◌∙◌, append_assoc, append-nil, arith}
use Rattle.std.specs.Prelude.{MatchResult}
use Rattle.std.specs.FinMap as finite
use Rattle.std.specs.FinMap.Entries.{find}
use Rattle.std.specs.List.{AllByRecursion}
use Rattle.std.proofs.lemmas.List.Elements.{recursion_from_All}
use Rattle.flex_wire.specs.Composed.{array}
use Rattle.group_types.specs.Group.{Offsets, Past, Record, Records}
use Rattle.group_types.specs.Partition.{Partitions, partition_cmp}
use Rattle.group_types.specs.Sets.{of_list}
use Rattle.group_types.specs.declared.partition.Partition.{Partition}
use Rattle.std.proofs.lemmas.List.{nil_from_length}
use Rattle.group_types.specs.Sound.{IsSound}
use Rattle.group_types.specs.Text.{Text, text_cmp}
use Rattle.group_types.specs.Topics.{Topics}
use Rattle.group_types.proofs.Entries.{entries_found}
use Rattle.group_types.proofs.OffsetLemmas.{place_cmp_total, place_cmp-IsAntisymmetric}
use Rattle.group_types.proofs.Lookups.{not_none}
use Rattle.group_types.proofs.Orders.{partition_cmp_total, partition_cmp-IsAntisymmetric, text_cmp_total, text_cmp-IsAntisymmetric}
use Rattle.group_reconcile.specs.Holders.{Held, Holders, holder_at, pairs}
use Rattle.range_assign.specs.Shares.{AreShares, spread_of}
use Rattle.group_core.specs.Group.{GroupValue}
use Rattle.group_core.specs.Restoring.{CanBeFinished, finished, nothing_restored}
use Rattle.coord_node.specs.Nodes.{held_of, HeldGroup}
use Rattle.replica_snapshots.specs.Building.{Built, CanEach, Finishes, with_each, with_former, with_grant, CanAddMember, with_part, with_share, CanAddOffset, with_committed, CanAddLast, with_formers, with_members, with_last, last_fields, FitLast, numbers_in}
use Rattle.replica_snapshots.specs.declared.fault.SnapshotFault.{SnapshotFault}
use Rattle.replica_snapshots.specs.declared.fault.SnapshotFault.TheVariants.{NoMemory}
use Rattle.replica_snapshots.specs.declared.numbers.Numbers.{Numbers}
use Rattle.replica_snapshots.specs.Groups.{group_fields, FitsGroup, numbers_of, parts_of}
use Rattle.replica_snapshots.specs.Parts.{MemberPart, member_part}
use Rattle.replica_snapshots.specs.Spelling.{FitsMember, lists_fields, numbers_fields, parts_fields, topic_fields}
use Rattle.replica_snapshots.proofs.GroupLaws.{holders_have, owners_have}
use Rattle.replica_snapshots.proofs.Inserted.{KeysApart, apart_sorted, can_insert, can_seen, each_again, holds_on, inserting, kept_by, none_in_empty, pushed, seen_by}
use Rattle.replica_snapshots.proofs.Rebuilt.{IsAt, formers_can_be_added, members_can, of_none, of_those}
use Rattle.replica_snapshots.proofs.Shares.{all_shares, are_shares, share_for, shares_of_members, target_again}

-- what a member's part leaves is left
kept_by_part : {V : Type 0} (f : GroupValue → V) → ((v : GroupValue) (m : MemberPart) → f (with_part (v, []) m).0 ≡ f v) → (b : Built) (ms : List MemberPart) → f (with_each with_part b ms).0 ≡ f b.0
kept_by_part f same b ms = kept_by with_part (λ (c : Built). f c.0) (λ c m. same c.0 m) b ms

-- ---- the fields of a group

pub spelled_parts : (g : HeldGroup) (rest : List ℕ) → group_fields g ++ rest ≡ numbers_fields (numbers_of g.0) ++ (array topic_fields (finite.entries g.0.view) ++ (last_fields (parts_of g) ++ rest))
unfolding parts_fields lists_fields
spelled_parts g rest = simp (append_assoc, append-nil)

pub last_fit : (g : HeldGroup) → FitsGroup g → FitLast (parts_of g)
last_fit g fits = record { past = fits.parts.lists.past; members = fits.parts.lists.members; offsets = fits.parts.lists.offsets }

-- what is left of the bytes
pub with_left : {X L : Type 0} (P : X → Type 0) (W : SnapshotFault → Type 0) (r : Result X SnapshotFault) → L → MatchResult r P W → MatchResult r (λ x. P x × L) W
with_left P W (Ok x) left is = (is, left)
with_left P W (Err fault) left is = is

module _ (g : HeldGroup) (fits : FitsGroup g) where
  abbrev begun : Built
  begun = (nothing_restored g.0.salt, [])

  abbrev part_for : Text × Record → MemberPart
  part_for = member_part g.1 g.0.target

  abbrev entries : List (Text × Record)
  entries = finite.entries g.0.records

  -- with the former members, and with the members
  abbrev one : Built
  one = with_formers begun (parts_of g)

  abbrev two : Built
  two = with_members begun (parts_of g)

  abbrev three : Built
  three = with_last begun (parts_of g)

  -- ---- the former members

  no_records : one.0.state.records ≡ finite.empty
  no_records = kept_by with_former (λ (v : GroupValue). v.state.records) (λ v e. refl) begun.0 g.0.past

  no_holders : one.0.holders ≡ finite.empty
  no_holders = kept_by with_former (λ (v : GroupValue). v.holders) (λ v e. refl) begun.0 g.0.past

  all_past : one.0.state.past ≡ g.0.past
  all_past = seen_by with_former (λ (p : Past) e. p ++ e ∷ []) (λ (v : GroupValue). v.state.past) (λ v e. refl) begun.0 g.0.past ∙ pushed [] g.0.past

  -- ---- the members

  apart : KeysApart text_cmp entries
  apart = apart_sorted text_cmp_total entries (finite.entries_sorted g.0.records)

  at_first : IsAt g fits [] one.0
  at_first = record {
    records = λ q. ap (λ (r : Records). finite.get r q) no_records ∙ finite.get-empty text_cmp q;
    size = ap finite.len no_records ∙ finite.len-empty text_cmp Record;
    past = all_past;
    holders = λ p. ap (λ (h : Holders). finite.get h p) no_holders ∙ (finite.get-empty partition_cmp p ∙ sym (of_none (finite.get g.1 p)));
  }

  none_before : (es : List (Text × Record)) → AllByRecursion (λ (f : Text × Record). find {X = Record} text_cmp f.0 [] ≡ None) es
  none_before [] = tt
  none_before (e ∷ es) = (refl, none_before es)

  members : CanEach CanAddMember with_part one (map part_for entries) × IsAt g fits ([] ++ entries) (with_each with_part one (map part_for entries)).0
  members =
      let few : 0 + length entries ≤ 10000 = omega (arith, fits.sound.few_members, finite.len-entries g.0.records) in
      members_can g fits entries [] one at_first (none_before entries) apart (entries_found g.0.records) (λ n r is. absurd (not_none r is)) few
      (recursion_from_All FitsMember (map part_for entries) fits.parts.lists.members.1)

  at_last : IsAt g fits entries two.0
  at_last = members.1

  -- ---- the offsets

  no_offsets : two.0.state.offsets ≡ finite.empty
  no_offsets =
      kept_by_part (λ v. v.state.offsets) (λ v m. kept_by (with_grant m.id) (λ (w : GroupValue). w.state.offsets) (λ w e. refl) _ m.grants) one (map part_for entries)
      ∙ kept_by with_former (λ (v : GroupValue). v.state.offsets) (λ v e. refl) begun.0 g.0.past

  offsets_can : CanEach CanAddOffset with_committed two.0 (finite.entries g.0.offsets)
  offsets_can =
      can_seen with_committed inserting (λ (v : GroupValue). v.state.offsets) (λ (o : Offsets) e. finite.get o e.0 ≡ None) (λ v e. refl) two.0 (finite.entries g.0.offsets)
      (subst (λ (o : Offsets). CanEach (λ (n : Offsets) e. finite.get n e.0 ≡ None) inserting o (finite.entries g.0.offsets)) (sym no_offsets)
      (can_insert place_cmp_total (finite.entries g.0.offsets) finite.empty (apart_sorted place_cmp_total (finite.entries g.0.offsets) (finite.entries_sorted g.0.offsets)) (none_in_empty place_cmp_total (finite.entries g.0.offsets))))

  -- all of it can be added
  pub last_can : CanAddLast begun (parts_of g)
  last_can = record {
    past = formers_can_be_added g.0.records g.0.past begun.0 refl refl fits.sound.past fits.sound.few_past;
    members = members.0;
    offsets = offsets_can;
  }

  -- ---- what is built

  offsets_again : three.0.state.offsets ≡ g.0.offsets
  offsets_again =
      seen_by with_committed inserting (λ (v : GroupValue). v.state.offsets) (λ v e. refl) two.0 (finite.entries g.0.offsets)
      ∙ (ap (λ (o : Offsets). with_each inserting o (finite.entries g.0.offsets)) no_offsets ∙ each_again place_cmp_total place_cmp-IsAntisymmetric g.0.offsets)

  salt_again : three.0.state.salt ≡ g.0.salt
  salt_again =
      kept_by with_committed (λ (v : GroupValue). v.state.salt) (λ v e. refl) two.0 (finite.entries g.0.offsets)
      ∙ (kept_by_part (λ v. v.state.salt) (λ v m. kept_by (with_grant m.id) (λ (w : GroupValue). w.state.salt) (λ w e. refl) _ m.grants) one (map part_for entries)
      ∙ kept_by with_former (λ (v : GroupValue). v.state.salt) (λ v e. refl) begun.0 g.0.past)

  records_again : three.0.state.records ≡ g.0.records
  records_again =
      kept_by with_committed (λ (v : GroupValue). v.state.records) (λ v e. refl) two.0 (finite.entries g.0.offsets)
      ∙ finite.same_map text_cmp_total text_cmp-IsAntisymmetric two.0.state.records g.0.records (λ q. at_last.records q ∙ sym (finite.get-entries g.0.records q))

  past_again : three.0.state.past ≡ g.0.past
  past_again = kept_by with_committed (λ (v : GroupValue). v.state.past) (λ v e. refl) two.0 (finite.entries g.0.offsets) ∙ at_last.past

  of_all : (o : Option Held) → ((d : Held) → o ≡ Some d → is_some (find text_cmp d.member entries) ≡ true) → of_those entries o ≡ o
  of_all None there = refl
  of_all (Some d) there = ap (λ b. cond b (Some d) None) (there d refl)

  holders_again : three.0.holders ≡ g.1
  holders_again =
      kept_by with_committed (λ (v : GroupValue). v.holders) (λ v e. refl) two.0 (finite.entries g.0.offsets)
      ∙ finite.same_map partition_cmp_total partition_cmp-IsAntisymmetric two.0.holders g.1 (λ p.
      at_last.holders p
      ∙ of_all (finite.get g.1 p) (λ d is. ap is_some (sym (finite.get-entries g.0.records d.member)) ∙ holders_have g.0 g.1 fits.sound fits.grants p d is))

  abbrev ArePairs : GroupValue → Type 0
  ArePairs v = v.state.grants ≡ pairs v.holders

  grants_again : three.0.state.grants ≡ g.0.grants
  grants_again =
      let none : ArePairs begun.0 = sym (ap (λ (es : List (Partition × Held)). of_list (map (λ p. (holder_at finite.empty p, p)) (map (λ e. e.0) es))) (nil_from_length (finite.entries (finite.empty {X = Held} {R = partition_cmp})) (sym (finite.len-entries (finite.empty {X = Held} {R = partition_cmp})) ∙ finite.len-empty partition_cmp Held))) in
      let at_one = holds_on with_former ArePairs (λ v e is. is) begun.0 g.0.past none in
      let at_two =
      holds_on with_part (λ (b : Built). ArePairs b.0) (λ b m is. holds_on (with_grant m.id) ArePairs (λ v e _. refl) _ m.grants is) one (map part_for entries) at_one in
      holds_on with_committed ArePairs (λ v e is. is) two.0 (finite.entries g.0.offsets) at_two ∙ (ap pairs holders_again ∙ sym fits.grants)

  shares_again : three.1 ≡ all_shares g.0.target entries
  shares_again = shares_of_parts entries one ∙ shares_of_members g.0.target entries
    where
      shares_of_parts : (es : List (Text × Record)) (b : Built) → (with_each with_part b (map part_for es)).1 ≡ with_each with_share b.1 (map (share_for g.0.target) es)
      shares_of_parts [] b = refl
      shares_of_parts (e ∷ es) b = shares_of_parts es (with_part b (part_for e))

  target_is : spread_of three.1 ≡ g.0.target
  target_is = ap spread_of shares_again ∙ target_again g.0.target g.0.records apart (owners_have g.0 fits.sound)

  pub state_again : finished three.0.state (numbers_in (numbers_of g.0)) three.1 g.0.view ≡ g.0
  state_again =
      let serial : suc (g.0.serial - 1) ≡ g.0.serial = omega (arith, fits.serial) in
      λ i. record {
        salt = salt_again i;
        epoch = g.0.epoch;
        target_epoch = g.0.target_epoch;
        records = records_again i;
        target = target_is i;
        grants = grants_again i;
        offsets = offsets_again i;
        view = g.0.view;
        clock = g.0.clock;
        serial = serial i;
        past = past_again i;
      }

  pub can_be_finished : CanBeFinished three.0.state (numbers_in (numbers_of g.0)) three.1 g.0.view
  can_be_finished = record {
    target = subst AreShares (sym shares_again) (are_shares g.0.target entries apart);
    sound = subst IsSound (sym state_again) fits.sound;
  }

  same_group : (r : Result GroupValue SnapshotFault) → Finishes r three.0 (numbers_of g.0) three.1 g.0.view → MatchResult r (λ b. held_of b ≡ g) (λ fault. fault ≡ NoMemory)
  same_group (Ok b) is = λ i. ((is.0 ∙ state_again) i, (is.1 ∙ holders_again) i)
  same_group (Err fault) is = is can_be_finished

  -- what is finished of what was built of its parts is the group
  pub group_again : (v : GroupValue) (n : Numbers) (shares : List (Text × Partitions)) (view : Topics) → (v, shares) ≡ with_last (nothing_restored n.salt, []) (parts_of g) → n ≡ numbers_of g.0
      → view ≡ g.0.view → (r : Result GroupValue SnapshotFault) → Finishes r v n shares view → MatchResult r (λ b. held_of b ≡ g) (λ fault. fault ≡ NoMemory)
  group_again v n shares view built numbers topics r is =
      let same : (v, shares) ≡ three = built ∙ ap (λ (m : Numbers). with_last (nothing_restored m.salt, []) (parts_of g)) numbers in
      let with_numbers = subst (λ (m : Numbers). Finishes r v m shares view) numbers is in
      let with_view = subst (λ (t : Topics). Finishes r v (numbers_of g.0) shares t) topics with_numbers in
      same_group r (subst (λ (b : Built). Finishes r b.0 (numbers_of g.0) b.1 g.0.view) same with_view)
