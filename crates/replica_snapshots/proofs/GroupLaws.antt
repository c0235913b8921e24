-- No group begins another, nor a node, nor the head of one.
use Rattle.std.proofs.Common.{◌≡◌, ℕ, ℤ, ◌-◌, ◌<◌, List, ◌++◌, map, refl, sym, ap, subst, ◌∙◌, append_assoc, arith}
use Rattle.std.specs.Prelude.{FitsSigned}
use Rattle.std.specs.Int.{w16}
use Rattle.std.specs.List.{flat_map}
use Rattle.std.specs.FinMap as finite
use Rattle.std.proofs.lemmas.List.Elements.{recursion_from_All}
use Rattle.flex_wire.specs.Spelling.{compact_string}
use Rattle.flex_wire.proofs.IntLaws.{signed_is_field, wide16}
use Rattle.flex_wire.proofs.CountLaws.{array_count_is_field}
use Rattle.group_types.specs.Text.{Text}
use Rattle.group_types.specs.Sets.{has}
use Rattle.group_types.specs.Topics.{Topic}
use Rattle.group_types.specs.Group.{Group, Grants, Records}
use Rattle.group_types.specs.Sound.{IsSound}
use Rattle.group_reconcile.specs.Holders.{Holders, pairs}
use Rattle.group_reconcile.proofs.Pairs.{has-pairs}
use Rattle.coord_node.specs.Nodes.{HeldGroup, Named, NodeValue}
use Rattle.replica_snapshots.specs.Parts.{GroupParts, member_part}
use Rattle.replica_snapshots.specs.Groups.{parts_of, group_fields, FitsGroup, named_fields, FitsNamed}
use Rattle.replica_snapshots.specs.Nodes.{VERSION, HeadValue, head_fields, FitsHead, head_of, node_fields, FitsNode}
use Rattle.replica_snapshots.proofs.Begins.{Begins, of_field, nothing_begins, pair_begins, made_begins, array_begins, elements_hold}
use Rattle.replica_snapshots.proofs.FieldLaws.{number_begins, text_begins, topic_begins, parts_begin}
use Rattle.replica_snapshots.proofs.Told.{HoldersHaveRecords, OwnersHaveRecords, holds_own, same_records, same_holders, same_target}

-- ---- a group

pub holders_have : (g : Group) (h : Holders) → IsSound g → g.grants ≡ pairs h → HoldersHaveRecords g.records h
holders_have g h sound same = λ p d is. sound.holders d.member p (ap (λ (grants : Grants). has grants (d.member, p)) same ∙ (has-pairs h d.member p ∙ holds_own h p d is))

pub owners_have : (g : Group) → IsSound g → OwnersHaveRecords g.records g.target
owners_have g sound = λ p m is. sound.owners m p is

same_serial : (m n : ℕ) → 0 < m → 0 < n → m - 1 ≡ n - 1 → m ≡ n
same_serial m n a b e = omega arith

same_group : (v w : HeldGroup) → FitsGroup v → FitsGroup w → parts_of v ≡ parts_of w → v ≡ w
same_group v w f g e =
    let members = ap (λ (p : GroupParts). p.members) e in
    let records : v.0.records ≡ w.0.records = same_records v.1 w.1 v.0.target w.0.target v.0.records w.0.records members in
    let told : map (member_part v.1 v.0.target) (finite.entries v.0.records) ≡ map (member_part w.1 w.0.target) (finite.entries v.0.records) =
    members ∙ ap (λ (r : Records). map (member_part w.1 w.0.target) (finite.entries r)) (sym records) in
    let holders : v.1 ≡ w.1 =
    same_holders v.1 w.1 v.0.target w.0.target v.0.records (holders_have v.0 v.1 f.sound f.grants)
    (subst (λ (r : Records). HoldersHaveRecords r w.1) (sym records) (holders_have w.0 w.1 g.sound g.grants)) told in
    let target : v.0.target ≡ w.0.target =
    same_target v.1 w.1 v.0.target w.0.target v.0.records (owners_have v.0 f.sound)
    (subst (λ (r : Records). OwnersHaveRecords r w.0.target) (sym records) (owners_have w.0 g.sound)) told in
    let view : v.0.view ≡ w.0.view = finite.same_entries_map v.0.view w.0.view (ap (λ (p : GroupParts). p.view) e) in
    let offsets : v.0.offsets ≡ w.0.offsets = finite.same_entries_map v.0.offsets w.0.offsets (ap (λ (p : GroupParts). p.offsets) e) in
    let serial : v.0.serial ≡ w.0.serial = same_serial v.0.serial w.0.serial f.serial g.serial (ap (λ (p : GroupParts). p.numbers.ids_made) e) in
    let grants : v.0.grants ≡ w.0.grants = f.grants ∙ (ap pairs holders ∙ sym g.grants) in
    λ i. (
      record {
        salt = (e i).numbers.salt;
        epoch = (e i).numbers.epoch;
        target_epoch = (e i).numbers.target_epoch;
        records = records i;
        target = target i;
        grants = grants i;
        offsets = offsets i;
        view = view i;
        clock = (e i).numbers.clock;
        serial = serial i;
        past = (e i).past;
      },
      holders i,
    )

named_holds : (v w : Named) (x y : List ℕ) → FitsNamed v → FitsNamed w → named_fields v ++ x ≡ named_fields w ++ y → (v ≡ w) × (x ≡ y)
named_holds v w x y f g e =
    let name = text_begins.holds v.0 w.0 (group_fields v.1 ++ x) (group_fields w.1 ++ y) f.name g.name (sym (append_assoc (compact_string v.0) (group_fields v.1) x) ∙ (e ∙ append_assoc (compact_string w.0) (group_fields w.1) y)) in
    let parts = parts_begin.holds (parts_of v.1) (parts_of w.1) x y f.group.parts g.group.parts name.1 in
    let group : v.1 ≡ w.1 = same_group v.1 w.1 f.group g.group parts.0 in
    (λ i. (name.0 i, group i), parts.1)

pub named_begins : Begins FitsNamed named_fields
named_begins = record { holds = named_holds }

-- ---- a node

version_fits : FitsSigned w16 VERSION
version_fits = record { sfits = omega arith }

same_head : (v w : HeadValue) (e : ◌≡◌ {A = ℤ × (ℕ × (List (Text × Topic) × (ℕ × Unit {0})))} (VERSION, (v.salt, (finite.entries v.image, (v.groups, tt)))) (VERSION, (w.salt, (finite.entries w.image, (w.groups, tt))))) → v ≡ w
same_head v w e =
    let image : v.image ≡ w.image = finite.same_entries_map v.image w.image (λ i. (e i).1.1.0) in
    λ i. record { salt = (e i).1.0; image = image i; groups = (e i).1.1.1.0 }

pub head_begins : Begins FitsHead head_fields
unfolding head_fields
head_begins =
    made_begins (λ (h : HeadValue). (VERSION, (h.salt, (finite.entries h.image, (h.groups, tt))))) same_head (λ h f. (version_fits, (f.salt, (f.image, (f.groups, tt))))) (λ h. refl)
    (pair_begins (of_field (signed_is_field w16 wide16)) (pair_begins number_begins (pair_begins (array_begins topic_begins) (pair_begins (of_field array_count_is_field) nothing_begins))))

node_holds : (v w : NodeValue) (x y : List ℕ) → FitsNode v → FitsNode w → node_fields v ++ x ≡ node_fields w ++ y → (v ≡ w) × (x ≡ y)
node_holds v w x y f g e =
    let head = head_begins.holds (head_of v) (head_of w) (flat_map named_fields v.groups ++ x) (flat_map named_fields w.groups ++ y) f.head g.head (sym (append_assoc (head_fields (head_of v)) (flat_map named_fields v.groups) x) ∙ (e ∙ append_assoc (head_fields (head_of w)) (flat_map named_fields w.groups) y)) in
    let groups = elements_hold FitsNamed named_fields named_begins v.groups w.groups x y (ap (λ (h : HeadValue). h.groups) head.0) (recursion_from_All FitsNamed v.groups f.groups) (recursion_from_All FitsNamed w.groups g.groups) head.1 in
    (λ i. record { salt = (head.0 i).salt; image = (head.0 i).image; groups = groups.0 i }, groups.1)

pub node_begins : Begins FitsNode node_fields
node_begins = record { holds = node_holds }
