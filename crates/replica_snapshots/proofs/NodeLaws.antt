-- A node that is read is that of its bytes, and of no others.
use Rattle.std.proofs.Common.{◌≡◌, ℕ, ◌+◌, Bool, true, List, [], ◌∷◌, ◌++◌, length, length-append, refl, sym, ap, subst, ◌∙◌, append_assoc, append-nil, arith}
use Rattle.std.specs.List.{flat_map}
use Rattle.std.proofs.lemmas.List.Concat.{flat_map-append}
use Rattle.std.proofs.lemmas.List.Elements.{All-from_recursion, All-push}
use Rattle.group_types.specs.Topics.{Topics}
use Rattle.coord_node.specs.Nodes.{Named, NodeValue, coordinator_of, node_opening, with_named}
use Rattle.coord_node.specs.Restored.{with_named_if}
use Rattle.replica_snapshots.specs.Groups.{named_fields, FitsNamed}
use Rattle.replica_snapshots.specs.Laws.{OneCoordinatorARun}
use Rattle.replica_snapshots.specs.Nodes.{HeadValue, head_fields, FitsHead, head_of, node_fields, FitsNode}
use Rattle.replica_snapshots.specs.Restoring.{ReadsGroup, ReadsGroups}
use Rattle.replica_snapshots.proofs.GroupLaws.{node_begins}

pub one_coordinator : OneCoordinatorARun
one_coordinator c d v w x y one other e =
    let same : node_fields one.node ++ x ≡ node_fields other.node ++ y =
    ap (λ (l : List ℕ). l ++ x) (sym one.spelled) ∙ (e ∙ ap (λ (l : List ℕ). l ++ y) other.spelled) in
    let both = node_begins.holds one.node other.node x y one.fits other.fits same in
    (sym one.of.coordinator ∙ (ap coordinator_of both.0 ∙ other.of.coordinator), both.1)

-- ---- groups that are read, one behind the other

-- a group that was read was added
pub group_read : (bytes rest : List ℕ) (old new : NodeValue) (g : Named) (is_kept : Bool) → is_kept ≡ true
    → FitsNamed g × (bytes ≡ named_fields g ++ rest) → new ≡ with_named_if is_kept old g → ReadsGroup bytes rest old new
group_read bytes rest old new g is_kept is found kept = record {
  group = g;
  fits = found.0;
  spelled = found.1;
  added = kept ∙ ap (λ b. with_named_if b old g) is;
}

pub none_read : (bytes : List ℕ) (n : NodeValue) → ReadsGroups 0 bytes bytes n n
none_read bytes n = record {
  read = [];
  all = refl;
  fits = All-from_recursion FitsNamed [] tt;
  spelled = refl;
  added = ap (λ (groups : List Named). record n { groups = groups }) (sym (append-nil n.groups));
}

-- one more is read
pub one_read : {n : ℕ} {bytes middle rest : List ℕ} {old now new : NodeValue} → ReadsGroups n bytes middle old now → ReadsGroup middle rest now new
    → ReadsGroups (n + 1) bytes rest old new
one_read {n} {bytes} {middle} {rest} {old} {now} {new} before one =
    let done = before.read in
    let fields : flat_map named_fields (done ++ one.group ∷ []) ≡ flat_map named_fields done ++ named_fields one.group =
    flat_map-append named_fields done (one.group ∷ []) ∙ ap (λ (l : List ℕ). flat_map named_fields done ++ l) (append-nil (named_fields one.group)) in
    let all : length done ≡ n = before.all in
    record {
      read = done ++ one.group ∷ [];
      all = omega (arith, length-append done (one.group ∷ []));
      fits = All-push FitsNamed done one.group before.fits one.fits;
      spelled = before.spelled
          ∙ (ap (λ (l : List ℕ). flat_map named_fields done ++ l) one.spelled
          ∙ (sym (append_assoc (flat_map named_fields done) (named_fields one.group) rest) ∙ ap (λ (l : List ℕ). l ++ rest) (sym fields)));
      added = one.added
          ∙ (ap (λ (m : NodeValue). with_named m one.group) before.added
          ∙ ap (λ (groups : List Named). record old { groups = groups }) (append_assoc old.groups done (one.group ∷ [])));
    }

-- ---- a node that is read

-- a node with no groups
abbrev pub bare : ℕ → Topics → NodeValue
bare salt image = record (node_opening salt) { image = image }

-- the bytes of a head, and of its groups behind it
pub node_read : (h : HeadValue) (bytes middle rest : List ℕ) (new : NodeValue) → FitsHead h → bytes ≡ head_fields h ++ middle
    → ReadsGroups h.groups middle rest (bare h.salt h.image) new → FitsNode new × (bytes ≡ node_fields new ++ rest)
node_read h bytes middle rest new fits is groups =
    let n : NodeValue = record { salt = h.salt; image = h.image; groups = groups.read } in
    let head : head_of n ≡ h = λ i. record { salt = h.salt; image = h.image; groups = groups.all i } in
    let behind = flat_map named_fields groups.read in
    let read : FitsNode n × (bytes ≡ node_fields n ++ rest) = (
      record { head = subst FitsHead (sym head) fits; groups = groups.fits },
      is
          ∙ (ap (λ (l : List ℕ). head_fields h ++ l) groups.spelled
          ∙ (sym (append_assoc (head_fields h) behind rest) ∙ ap (λ (g : HeadValue). (head_fields g ++ behind) ++ rest) (sym head))),
    ) in
    subst (λ (m : NodeValue). FitsNode m × (bytes ≡ node_fields m ++ rest)) (sym groups.added) read
