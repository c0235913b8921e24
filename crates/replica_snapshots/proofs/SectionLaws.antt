-- A node's sections, one behind the other.
use Rattle.std.proofs.Common.{◌≡◌, ℕ, zero, suc, ◌+◌, ◌-◌, ◌<◌, ◌≤◌, List, [], ◌∷◌, ◌++◌, length, length-append, length-drop, map, take, drop, get_or, Some, Ok, Err, All, refl, sym, ap, subst, ◌∙◌, append_assoc, append-nil, arith}
use Rattle.std.specs.Prelude.{slice_get}
use Rattle.std.specs.List.{flat_map, AllByRecursion}
use Rattle.std.proofs.lemmas.List.{take_more, get_or-drop}
use Rattle.std.proofs.lemmas.List.Concat.{flat_map-append}
use Rattle.std.proofs.lemmas.List.Elements.{All-from_recursion, All-push, All-weaker, recursion_from_All}
use Rattle.std.proofs.lemmas.Option.{get_or_from_slice_get, slice_get_within, none-some, same_Some}
use Rattle.coord_node.specs.Nodes.{Named}
use Rattle.replica_snapshots.specs.Groups.{named_fields, FitsNamed}
use Rattle.replica_snapshots.specs.Laws.{SectionsMakeTheNode}
use Rattle.replica_snapshots.specs.Nodes.{head_fields, head_of, Section, OneGroup, section_fields, FitsSection, sections_of, between}
use Rattle.replica_snapshots.specs.declared.fault.SnapshotFault.{SnapshotFault}
use Rattle.replica_snapshots.specs.Puttable.{CanPutSection}
use Rattle.replica_snapshots.specs.Writing.{PutsSections, PutsUpTo, PutsUpToWhere}
use Rattle.replica_snapshots.proofs.CanPuts.{section_can}
use Rattle.replica_snapshots.proofs.Puts.{both}

-- ---- all of them

groups_behind : (groups : List Named) → flat_map section_fields (map OneGroup groups) ≡ flat_map named_fields groups
groups_behind [] = refl
groups_behind (g ∷ groups) = ap (λ (l : List ℕ). named_fields g ++ l) (groups_behind groups)

fit_each : (groups : List Named) → AllByRecursion FitsSection (map OneGroup groups) → AllByRecursion FitsNamed groups
fit_each [] f = tt
fit_each (g ∷ groups) f = (f.0, fit_each groups f.1)

pub sections_make_the_node : SectionsMakeTheNode
sections_make_the_node n = (
  ap (λ (l : List ℕ). head_fields (head_of n) ++ l) (groups_behind n.groups),
  λ all.
      let each = recursion_from_All FitsSection (sections_of n) all in
      record { head = each.0; groups = All-from_recursion FitsNamed n.groups (fit_each n.groups each.1) },
)

-- ---- those from one number up to another

between_none : (sections : List Section) (from : ℕ) → between from from sections ≡ []
between_none sections from =
    let none : from - from ≡ 0 = omega arith in
    ap (λ n. take n (drop from sections)) none

between_more : (sections : List Section) (from next : ℕ) (x : Section) → from ≤ next → slice_get sections next ≡ Some x
    → between from (next + 1) sections ≡ between from next sections ++ x ∷ []
between_more sections from next x behind at =
    let within = slice_get_within sections next x at in
    let one_more : next + 1 - from ≡ next - from + 1 = omega arith in
    let back : from + (next - from) ≡ next = omega arith in
    let left : next - from < length (drop from sections) = omega (arith, length-drop from sections) in
    let here : get_or (drop from sections) (next - from) x ≡ x =
    get_or-drop from sections (next - from) x ∙ (ap (λ n. get_or sections n x) back ∙ get_or_from_slice_get sections next x x at) in
    ap (λ n. take n (drop from sections)) one_more
    ∙ (take_more (drop from sections) (next - from) x left ∙ ap (λ y. between from next sections ++ y ∷ []) here)

-- the sections from one number up to the next are put behind the old bytes, each further one because there were too few bytes
pub record ArePut (old now : List ℕ) (sections : List Section) (from size next : ℕ) : Type 0 where
  pub put : now ≡ old ++ flat_map section_fields (between from next sections)
  pub fits : All FitsSection (between from next sections)
  pub short : suc from < next → length (flat_map section_fields (between from (next - 1) sections)) < size
  pub none : length sections ≤ from → next ≡ from

pub none_put : (old : List ℕ) (sections : List Section) (from size : ℕ) → ArePut old old sections from size from
none_put old sections from size =
    let none = between_none sections from in
    record {
      put = sym (append-nil old) ∙ ap (λ (l : List Section). old ++ flat_map section_fields l) (sym none);
      fits = subst (All FitsSection) (sym none) (All-from_recursion FitsSection [] tt);
      short = λ further. absurd (omega (arith, further));
      none = λ past. refl;
    }

-- so few bytes are put as there are behind the old ones
few_put : {old now : List ℕ} (sections : List Section) (from size next : ℕ) → ArePut old now sections from size next
    → length now - length old < size → length (flat_map section_fields (between from next sections)) < size
few_put {old} {now} sections from size next before few =
    let both : length now ≡ length old + length (flat_map section_fields (between from next sections)) =
    ap (λ (l : List ℕ). length l) before.put ∙ length-append old (flat_map section_fields (between from next sections)) in
    omega (arith, both, few)

pub one_put : {old now new : List ℕ} (sections : List Section) (from size next : ℕ) (x : Section) → from ≤ next → slice_get sections next ≡ Some x
    → (from < next → length now - length old < size) → ArePut old now sections from size next
    → PutsUpToWhere (Ok tt) now new (CanPutSection x) (FitsSection x) (section_fields x) → ArePut old new sections from size (next + 1)
one_put {old} {now} {new} sections from size next x behind at few before one =
    let more = between_more sections from next x behind at in
    let within = slice_get_within sections next x at in
    let done = between from next sections in
    let bytes : flat_map section_fields (done ++ x ∷ []) ≡ flat_map section_fields done ++ section_fields x =
    flat_map-append section_fields done (x ∷ []) ∙ ap (λ (l : List ℕ). flat_map section_fields done ++ l) (append-nil (section_fields x)) in
    record {
      put = one.ok
          ∙ (ap (λ (l : List ℕ). l ++ section_fields x) before.put
          ∙ (append_assoc old (flat_map section_fields done) (section_fields x)
          ∙ ap (λ (l : List ℕ). old ++ l) (sym (ap (flat_map section_fields) more ∙ bytes))));
      fits = subst (All FitsSection) (sym more) (All-push FitsSection done x before.fits one.fits);
      short = λ further.
          let same : next + 1 - 1 ≡ next = omega arith in
          subst (λ n. length (flat_map section_fields (between from n sections)) < size) (sym same)
          (few_put sections from size next before (few (omega (arith, further))));
      none = λ past. absurd (omega arith);
    }

-- there are enough bytes
pub enough_put : {old now : List ℕ} (sections : List Section) (from size next : ℕ) → ArePut old now sections from size next → from < next
    → next < length sections → size ≤ length now - length old → PutsSections (Ok next) old now sections from size
enough_put sections from size next before behind within enough = record {
  put = before.put;
  fits = before.fits;
  next = λ some. (behind, omega arith);
  all = λ left. enough;
  short = before.short;
  none = before.none;
  err = tt;
  fitting = λ all. tt;
  can = λ all. tt;
}

-- none is left
pub all_put : {old now : List ℕ} (sections : List Section) (from size next last : ℕ) → ArePut old now sections from size next → length sections ≤ next
    → (from ≤ length sections → next ≤ length sections) → last ≡ next → PutsSections (Ok last) old now sections from size
all_put {old} {now} sections from size next last before past within same =
    let puts : PutsSections (Ok next) old now sections from size = record {
      put = before.put;
      fits = before.fits;
      next = λ some. let ends : next ≤ length sections = within (omega arith) in (omega arith, ends);
      all = λ left. absurd (omega arith);
      short = before.short;
      none = before.none;
      err = tt;
      fitting = λ all. tt;
      can = λ all. tt;
    } in
    subst (λ n. PutsSections (Ok n) old now sections from size) (sym same) puts

can_at : (sections : List Section) (n : ℕ) (x : Section) → slice_get sections n ≡ Some x → AllByRecursion CanPutSection sections → CanPutSection x
can_at [] n x at can = absurd (none-some x at)
can_at (s ∷ sections) zero x at can = subst CanPutSection (same_Some s x at) can.0
can_at (s ∷ sections) (suc n) x at can = can_at sections n x at can.1

-- one could not be put
pub stopped_put : {old now new : List ℕ} {e : SnapshotFault} (sections : List Section) (from size next : ℕ) (x : Section) → slice_get sections next ≡ Some x
    → ArePut old now sections from size next → PutsUpToWhere (Err e) now new (CanPutSection x) (FitsSection x) (section_fields x)
    → PutsSections (Err e) old (take (length old) new) sections from size
stopped_put {old} {now} {new} {e} sections from size next x at before one =
    let done = between from next sections in
    let former : PutsUpTo (Ok tt) old now (All FitsSection done) (flat_map section_fields done) =
    record { ok = before.put; fits = before.fits; err = tt; fitting = λ all. tt } in
    record {
      put = tt;
      fits = tt;
      next = tt;
      all = tt;
      short = tt;
      none = tt;
      err = (both (Err e) former one).err;
      fitting = λ all. one.fitting (can_at sections next x at (recursion_from_All CanPutSection sections (All-weaker FitsSection CanPutSection section_can sections all)));
      can = λ all. one.fitting (can_at sections next x at (recursion_from_All CanPutSection sections all));
    }
