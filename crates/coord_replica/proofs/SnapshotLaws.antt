-- A snapshot's bytes, and its parts.
use Rattle.std.proofs.Common.{◌≡◌, ℕ, ◌+◌, ◌-◌, ◌<◌, ◌≤◌, None, List, [], ◌++◌, length, take, drop, sym, ap, ◌∙◌, inl, inr, append_assoc, arith}
use Rattle.std.specs.Prelude.{if◌then◌else◌}
use Rattle.std.specs.FinMap as finite
use Rattle.std.specs.List.{flat_map}
use Rattle.std.proofs.Math.Seq.{take-add}
use Rattle.std.proofs.lemmas.Bool.Decides.{eqb_tells}
use Rattle.std.proofs.lemmas.List.{drop-drop, take_all}
use Rattle.std.proofs.lemmas.List.Concat.{flat_map-append}
use Rattle.coord_node.specs.Coordinator.{Coordinator}
use Rattle.coord_node.specs.Nodes.{coordinator_of}
use Rattle.replica_snapshots.specs.Nodes.{Section, node_fields, section_fields, sections_of, between}
use Rattle.replica_snapshots.specs.Places.{PlaceValue, place_fields}
use Rattle.replica_snapshots.proofs.GroupLaws.{node_begins}
use Rattle.replica_snapshots.proofs.PlaceLaws.{place_begins}
use Rattle.replica_snapshots.proofs.SectionLaws.{sections_make_the_node}
use Rattle.coord_replica.specs.Laws.{AllPartsAreTheSnapshot, OneStateASnapshot, PartsFollow, RestoredFollowsTheLog, RestoredIsWrittenTheSame, SectionsMakeASnapshot}
use Rattle.coord_replica.specs.Replicas.{ReplicaValue}
use Rattle.coord_replica.specs.Snapshots.{FitsSnapshot, SnapshotValue, in_front, place_of, snapshot_fields, snapshot_of}

-- ---- one snapshot, and one state

-- bytes are at most one snapshot
pub one_snapshot : (v w : SnapshotValue) → FitsSnapshot v → FitsSnapshot w → snapshot_fields v ≡ snapshot_fields w → v ≡ w
one_snapshot v w one other same =
    let fronts = place_begins.holds v.place w.place (node_fields v.node) (node_fields w.node) one.place other.place same in
    let nodes = node_begins.holds v.node w.node [] [] one.node other.node (ap (λ (l : List ℕ). l ++ []) fronts.1) in
    λ i. record { place = fronts.0 i; node = nodes.0 i }

pub one_state : OneStateASnapshot
one_state s t bytes one other =
    let same : one.snapshot ≡ other.snapshot = one_snapshot one.snapshot other.snapshot one.fits other.fits (sym one.spelled ∙ other.spelled) in
    let place : place_of s ≡ place_of t = sym one.of.place ∙ (ap (λ (v : SnapshotValue). v.place) same ∙ other.of.place) in
    let coordinator : s.coordinator ≡ t.coordinator =
    sym one.of.node.coordinator ∙ (ap (λ (v : SnapshotValue). coordinator_of v.node) same ∙ other.of.node.coordinator) in
    λ i. record {
      coordinator = coordinator i;
      applied = (place i).applied;
      leadership = (place i).leadership;
      moment = (place i).moment;
    }

-- ---- all sections

all_between : (sections : List Section) → between 0 (length sections) sections ≡ sections
all_between sections =
    let all : length sections ≤ length sections - 0 = omega arith in
    take_all (length sections - 0) sections all

pub all_parts : AllPartsAreTheSnapshot
all_parts v =
    let front = place_fields v.place in
    ap (λ (l : List Section). front ++ flat_map section_fields l) (all_between (sections_of v.node))
    ∙ ap (λ (l : List ℕ). front ++ l) (sections_make_the_node v.node).0

pub restored_same : RestoredIsWrittenTheSame
restored_same v r is = all_parts (snapshot_of r) ∙ ap (λ (q : ReplicaValue). snapshot_fields (snapshot_of q)) is

pub sections_make : SectionsMakeASnapshot
sections_make s v is fits all =
    let made = sections_make_the_node v.node in
    record {
      snapshot = v;
      fits = record {
        place = fits;
        node = made.1 all;
        once = is.node.once ∙ ap (λ (c : Coordinator). finite.len c.groups) (sym is.node.coordinator);
      };
      spelled = all_parts v;
      of = is;
    }

-- ---- what is restored

pub restored_follows : RestoredFollowsTheLog
restored_follows s v is =
    λ i. record {
      log = record {
        coordinator = is.node.coordinator i;
        applied = (is.place i).applied;
        leadership = (is.place i).leadership;
        moment = (is.place i).moment;
      };
      leading = None;
      proposed = 0;
    }

-- ---- one part behind another

between_follow : (sections : List Section) (from middle next : ℕ) → from < middle → middle ≤ next
    → between from middle sections ++ between middle next sections ≡ between from next sections
between_follow sections from middle next less most =
    let there : from + (middle - from) ≡ middle = omega arith in
    let sizes : middle - from + (next - middle) ≡ next - from = omega arith in
    let behind : drop (middle - from) (drop from sections) ≡ drop middle sections =
    drop-drop (middle - from) from sections ∙ ap (λ n. drop n sections) there in
    ap (λ (l : List Section). between from middle sections ++ take (next - middle) l) (sym behind)
    ∙ (sym (take-add (middle - from) (next - middle) (drop from sections)) ∙ ap (λ n. take n (drop from sections)) sizes)

-- nothing stands in front of a section but the first
none_in_front : (place : PlaceValue) (from : ℕ) → 0 < from → in_front place from ≡ []
none_in_front place from above =
    elim (eqb_tells from 0) [
      | inl zero ↦ absurd (omega (arith, zero.1))
      | inr other ↦ ap (λ b. if b then place_fields place else []) other.0
    ]

pub parts_follow : PartsFollow
parts_follow v from middle next less most within =
    let sections = sections_of v.node in
    let front = in_front v.place from in
    let one = flat_map section_fields (between from middle sections) in
    let other = flat_map section_fields (between middle next sections) in
    let above : 0 < middle = omega arith in
    ap (λ (l : List ℕ). (front ++ one) ++ (l ++ other)) (none_in_front v.place middle above)
    ∙ (append_assoc front one other
    ∙ ap (λ (l : List ℕ). front ++ l) (sym (flat_map-append section_fields (between from middle sections) (between middle next sections))
    ∙ ap (flat_map section_fields) (between_follow sections from middle next less most)))
