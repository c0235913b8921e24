-- The former members, the grants and the members of a sound group can be added again, one after the other.
use Rattle.std.proofs.Common.{◌≡◌, ℕ, ℤ, pos, negsuc, ◌+◌, ◌<◌, ◌≤◌, Bool, true, false, cond, ◌||◌, ◌&&◌, List, [], ◌∷◌, ◌++◌, length, length-append, map, is_some, is_none, Option, Some, None, refl, sym, ap, subst, ◌∙◌, append_assoc, append-nil, arith}
use Rattle.std.specs.Prelude.{IsTrue}
use Rattle.std.specs.List.{AllByRecursion, list_any}
use Rattle.std.specs.Option.{option_map_or}
use Rattle.std.specs.Ordering.{eq_by_cmp}
use Rattle.std.specs.Cmp.{Equal-is, eq_by_cmp_equiv}
use Rattle.std.specs.FinMap as finite
use Rattle.std.specs.FinMap.Entries.{find, find-append}
use Rattle.std.proofs.lemmas.List.Elements.{recursion_from_All}
use Rattle.group_types.specs.declared.partition.Partition.{Partition}
use Rattle.group_types.specs.declared.stamp.Stamp.{Stamp}
use Rattle.group_types.specs.Group.{Past, Record, Records, held}
use Rattle.group_types.specs.Limits.{MOST_MEMBERS, MOST_PAST_MEMBERS}
use Rattle.group_types.specs.Members.{is_remembered, members_of, past_stamp}
use Rattle.group_types.specs.Owners.{is_index}
use Rattle.group_types.specs.Partition.{Partitions, partition_cmp}
use Rattle.group_types.specs.Sets.{in_order}
use Rattle.group_types.specs.Sound.{IsPast}
use Rattle.group_types.specs.Text.{Text, text_cmp}
use Rattle.group_types.proofs.Lookups.{not_none, same_text, text_ties}
use Rattle.group_types.proofs.Orders.{partition_cmp_total, partition_cmp-IsAntisymmetric, text_cmp_total}
use Rattle.group_types.proofs.PastLemmas.{first_differs, not_past}
use Rattle.group_types.proofs.SetLemmas.{has-in_order}
use Rattle.group_reconcile.specs.Holders.{Held, Holders, holds, is_from_zero, pairs}
use Rattle.group_reconcile.proofs.Pairs.{has-held_pairs}
use Rattle.group_core.specs.Group.{GroupValue}
use Rattle.group_core.specs.Restoring.{with_member}
use Rattle.coord_node.specs.Nodes.{HeldGroup}
use Rattle.replica_snapshots.specs.Building.{Built, CanEach, with_each, CanAddFormer, with_former, CanAddGrant, with_grant, CanAddMember, with_part}
use Rattle.replica_snapshots.specs.Groups.{FitsGroup}
use Rattle.replica_snapshots.specs.Parts.{MemberPart, grant_of, grants_of, member_part}
use Rattle.replica_snapshots.specs.Spelling.{FitsGrant, FitsMember}
use Rattle.replica_snapshots.proofs.Inserted.{KeysApart, apart_sorted, kept_by}
use Rattle.replica_snapshots.proofs.Told.{held_by, since_in}

any_more : {E : Type 0} (test : E → Bool) (es : List E) (e : E) → list_any test es ≡ false → test e ≡ false → list_any test (es ++ e ∷ []) ≡ false
any_more test [] e none other = ap (λ (b : Bool). b || false) other
any_more test (x ∷ es) e none other =
    elim (test x) as (λ b. (b || list_any test es) ≡ false → (b || list_any test (es ++ e ∷ [])) ≡ false) [
      | true ↦ λ so. absurd cc
      | false ↦ λ so. any_more test es e so other
    ] none

-- ---- former members

others_apart : (past : Past) (m : Text) → past_stamp past m ≡ None → AllByRecursion (λ (e : Text × Stamp). eq_by_cmp text_cmp e.0 m ≡ false) past
others_apart [] m none = tt
others_apart (e ∷ past) m none =
    let parts = first_differs past e m none in
    ((eq_by_cmp_equiv text_cmp_total).symm e.0 m ∙ parts.0, others_apart past m parts.1)

abbrev AreNew : Past → Past → Type 0
AreNew front = AllByRecursion (λ (e : Text × Stamp). list_any (λ (x : Text × Stamp). eq_by_cmp text_cmp e.0 x.0) front ≡ false)

still_new : (front : Past) (e : Text × Stamp) (left : Past) → AreNew front left → AllByRecursion (λ (f : Text × Stamp). eq_by_cmp text_cmp f.0 e.0 ≡ false) left → AreNew (front ++ e ∷ []) left
still_new front e [] new apart = tt
still_new front e (f ∷ left) new apart = (any_more (λ (x : Text × Stamp). eq_by_cmp text_cmp f.0 x.0) front e new.0 apart.0, still_new front e left new.1 apart.1)

all_new : (left : Past) → AreNew [] left
all_new [] = tt
all_new (e ∷ left) = (refl, all_new left)

unknown : (v : GroupValue) (front : Past) (m : Text) → v.state.records ≡ finite.empty → v.state.past ≡ front → list_any (λ (x : Text × Stamp). eq_by_cmp text_cmp m x.0) front ≡ false
    → is_remembered (members_of v.state) m ≡ false
unknown v front m none past new =
    ap (λ (r : Records). is_some (finite.get r m) || list_any (λ (x : Text × Stamp). eq_by_cmp text_cmp m x.0) v.state.past) none
    ∙ (ap (λ (o : Option Record). is_some o || list_any (λ (x : Text × Stamp). eq_by_cmp text_cmp m x.0) v.state.past) (finite.get-empty text_cmp m)
    ∙ (ap (λ (p : Past). list_any (λ (x : Text × Stamp). eq_by_cmp text_cmp m x.0) p) past ∙ new))

formers_can : (records : Records) (left front : Past) (v : GroupValue) → v.state.records ≡ finite.empty → v.state.past ≡ front → IsPast records left → AreNew front left
    → length front + length left ≤ MOST_PAST_MEMBERS → CanEach CanAddFormer with_former v left
formers_can records [] front v none past is new few = tt
formers_can records (e ∷ left) front v none past is new few = (
  record { new = record { named = is.1; unknown = unknown v front e.0 none past new.0 }; few = omega (arith, few, ap length past) },
  formers_can records left (front ++ e ∷ []) (with_former v e) none (ap (λ (p : Past). p ++ e ∷ []) past) is.3
      (still_new front e left new.1 (others_apart left e.0 is.2)) (omega (arith, few, length-append front (e ∷ []))),
)

pub formers_can_be_added : (records : Records) (past : Past) (v : GroupValue) → v.state.records ≡ finite.empty → v.state.past ≡ [] → IsPast records past → length past ≤ MOST_PAST_MEMBERS
    → CanEach CanAddFormer with_former v past
formers_can_be_added records past v none empty is few = formers_can records past [] v none empty is (all_new past) (omega (arith, few))

-- ---- grants

abbrev PartsApart : List Partition → Type 0
PartsApart [] = Unit {0}
PartsApart (p ∷ ps) = AllByRecursion (λ (q : Partition). eq_by_cmp partition_cmp q p ≡ false) ps × PartsApart ps

others : (p : Partition) (es : List (Partition × Unit {0})) → AllByRecursion (λ (f : Partition × Unit {0}). eq_by_cmp partition_cmp f.0 p ≡ false) es
    → AllByRecursion (λ (q : Partition). eq_by_cmp partition_cmp q p ≡ false) (map (λ e. e.0) es)
others p [] apart = tt
others p (e ∷ es) apart = (apart.0, others p es apart.1)

parts_apart : (es : List (Partition × Unit {0})) → KeysApart partition_cmp es → PartsApart (map (λ e. e.0) es)
parts_apart [] apart = tt
parts_apart (e ∷ es) apart = (others e.0 es apart.0, parts_apart es apart.1)

set_apart : (s : Partitions) → PartsApart (in_order s)
set_apart s = parts_apart (finite.entries s) (apart_sorted partition_cmp_total (finite.entries s) (finite.entries_sorted s))

abbrev AreFree : Holders → List Partition → Type 0
AreFree h = AllByRecursion (λ (p : Partition). finite.get h p ≡ None)

still_free : (h : Holders) (p : Partition) (d : Held) (ps : List Partition) → AllByRecursion (λ (q : Partition). eq_by_cmp partition_cmp q p ≡ false) ps → AreFree h ps → AreFree (finite.insert h p d) ps
still_free h p d [] apart free = tt
still_free h p d (q ∷ ps) apart free =
    (finite.get-insert partition_cmp_total h p d q ∙ (ap (λ (b : Bool). cond b (Some d) (finite.get h q)) apart.0 ∙ free.0), still_free h p d ps apart.1 free.1)

module _ (h : Holders) (m : Text) where
  grants_can : (ps : List Partition) (v : GroupValue) → IsTrue (finite.contains_key v.state.records m) → AllByRecursion (λ (p : Partition). is_from_zero p.index ≡ true) ps
      → AreFree v.holders ps → PartsApart ps → CanEach (CanAddGrant m) (with_grant m) v (map (grant_of h) ps)
  grants_can [] v there from_zero free apart = tt
  grants_can (p ∷ ps) v there from_zero free apart = (
    record { member = there; grantable = (λ i. from_zero.0 i && is_none (free.0 i)) },
    grants_can ps (with_grant m v (grant_of h p)) there from_zero.1 (still_free v.holders p _ ps apart.0 free.1) apart.1,
  )

  -- who is granted the partition, once they are
  granted : (q : Partition) → Held
  granted q = record { member = m; since = since_in (finite.get h q) }

  one_or_other : (b : Bool) (x : Option Held) → cond b x x ≡ x
  one_or_other true x = refl
  one_or_other false x = refl

  grants_get : (ps : List Partition) (v : GroupValue) (q : Partition)
      → finite.get (with_each (with_grant m) v (map (grant_of h) ps)).holders q ≡ cond (list_any (eq_by_cmp partition_cmp q) ps) (Some (record { member = m; since = since_in (finite.get h q) })) (finite.get v.holders q)
  grants_get [] v q = refl
  grants_get (p ∷ ps) v q =
      let mine : Held = record { member = m; since = since_in (finite.get h q) } in
      let new : Held = record { member = m; since = since_in (finite.get h p) } in
      let among = list_any (eq_by_cmp partition_cmp q) ps in
      grants_get ps (with_grant m v (grant_of h p)) q
      ∙ (ap (λ (o : Option Held). cond among (Some mine) o) (finite.get-insert partition_cmp_total v.holders p new q)
      ∙ elim (eq_by_cmp partition_cmp q p) as (λ b. eq_by_cmp partition_cmp q p ≡ b → cond among (Some mine) (cond b (Some new) (finite.get v.holders q)) ≡ cond (b || among) (Some mine) (finite.get v.holders q)) [
        | true ↦ λ so.
            let same : p ≡ q = sym (partition_cmp-IsAntisymmetric q p ((Equal-is (partition_cmp q p)).0 so)) in
            ap (λ (x : Partition). cond among (Some mine) (Some (record { member = m; since = since_in (finite.get h x) }))) same ∙ one_or_other among (Some mine)
        | false ↦ λ so. refl
      ] refl)

from_zero : (i : ℤ) (n : ℕ) → IsTrue (is_index i n) → is_from_zero i ≡ true
from_zero (pos k) n is = refl
from_zero (negsuc k) n is = absurd cc

all_from_zero : (h : Holders) (ps : List Partition) → AllByRecursion FitsGrant (map (grant_of h) ps) → AllByRecursion (λ (p : Partition). is_from_zero p.index ≡ true) ps
all_from_zero h [] fits = tt
all_from_zero h (p ∷ ps) fits = (from_zero p.index _ fits.0.partition.index, all_from_zero h ps fits.1)

or_right : (a b : Bool) → b ≡ true → (a || b) ≡ true
or_right true b is = refl
or_right false b is = is

or_left : (a b : Bool) → a ≡ true → (a || b) ≡ true
or_left a b is = ap (λ (c : Bool). c || b) is

there_all : (ps whole : List Partition) → ((q : Partition) → list_any (eq_by_cmp partition_cmp q) ps ≡ true → list_any (eq_by_cmp partition_cmp q) whole ≡ true)
    → AllByRecursion (λ (p : Partition). list_any (eq_by_cmp partition_cmp p) whole ≡ true) ps
there_all [] whole among = tt
there_all (p ∷ ps) whole among = (
  among p (or_left (eq_by_cmp partition_cmp p p) _ ((eq_by_cmp_equiv partition_cmp_total).refl p)),
  there_all ps whole (λ q is. among q (or_right (eq_by_cmp partition_cmp q p) _ is)),
)

-- ---- members

-- of the holders, those whose members are in front
abbrev pub of_those : List (Text × Record) → Option Held → Option Held
of_those front None = None
of_those front (Some d) = cond (is_some (find text_cmp d.member front)) (Some d) None

pub of_none : (o : Option Held) → of_those [] o ≡ None
of_none None = refl
of_none (Some d) = refl

module _ (g : HeldGroup) (fits : FitsGroup g) where
  -- what has been built once the members in front were added
  pub record IsAt (front : List (Text × Record)) (v : GroupValue) : Type 0 where
    pub records : (q : Text) → finite.get v.state.records q ≡ find text_cmp q front
    pub size : finite.len v.state.records ≡ length front
    pub past : v.state.past ≡ g.0.past
    pub holders : (p : Partition) → finite.get v.holders p ≡ of_those front (finite.get g.1 p)

  abbrev AreOurs : List (Text × Record) → Type 0
  AreOurs front = (n : Text) (r : Record) → find text_cmp n front ≡ Some r → finite.get g.0.records n ≡ Some r

  abbrev part_for : Text × Record → MemberPart
  part_for = member_part g.1 g.0.target

  free_of : (front : List (Text × Record)) (v : GroupValue) (m : Text) → IsAt front v → find text_cmp m front ≡ None → (ps : List Partition)
      → AllByRecursion (λ (p : Partition). list_any (eq_by_cmp partition_cmp p) (in_order (held (pairs g.1) m)) ≡ true) ps → AreFree v.holders ps
  free_of front v m at none [] theirs = tt
  free_of front v m at none (p ∷ ps) theirs =
      let holder = held_by m (finite.get g.1 p) (sym (has-held_pairs g.1 m p) ∙ (has-in_order (held (pairs g.1) m) p ∙ theirs.0)) in
      (at.holders p ∙ (ap (of_those front) holder.1 ∙ ap (λ (o : Option Record). cond (is_some o) (Some holder.0) None) (ap (λ (k : Text). find text_cmp k front) holder.2 ∙ none)), free_of front v m at none ps theirs.1)

  no_former : (past : Past) (m : Text) → past_stamp past m ≡ None → list_any (λ (x : Text × Stamp). eq_by_cmp text_cmp m x.0) past ≡ false
  no_former [] m none = refl
  no_former (e ∷ past) m none = let parts = first_differs past e m none in ap (λ (b : Bool). b || list_any (λ (x : Text × Stamp). eq_by_cmp text_cmp m x.0) past) parts.0 ∙ no_former past m parts.1

  can_member : (front : List (Text × Record)) (b : Built) (e : Text × Record) → IsAt front b.0 → find text_cmp e.0 front ≡ None → finite.get g.0.records e.0 ≡ Some e.1 → AreOurs front
      → length front < MOST_MEMBERS → FitsMember (part_for e) → CanAddMember b (part_for e)
  can_member front b e at none there ours few fit =
      let with_it = with_member b.0 e.0 e.1 in
      let known : IsTrue (finite.contains_key with_it.state.records e.0) =
      ap is_some (finite.get-insert text_cmp_total b.0.state.records e.0 e.1 e.0 ∙ ap (λ (c : Bool). cond c (Some e.1) (finite.get b.0.state.records e.0)) (text_ties e.0)) in
      let not_there : is_some (finite.get b.0.state.records e.0) ≡ false = ap is_some (at.records e.0 ∙ none) in
      let not_former = no_former g.0.past e.0 (not_past g.0.records g.0.past e.0 e.1 fits.sound.past there) in
      let ps = in_order (held (pairs g.1) e.0) in (
        record {
          restored = record {
            new = record {
              named = λ same. not_none e.1 (sym fits.sound.named ∙ (ap (finite.get g.0.records) (sym same) ∙ there));
              unknown = ap (λ (c : Bool). c || list_any (λ (x : Text × Stamp). eq_by_cmp text_cmp e.0 x.0) b.0.state.past) not_there
                  ∙ (ap (λ (p : Past). list_any (λ (x : Text × Stamp). eq_by_cmp text_cmp e.0 x.0) p) at.past ∙ not_former);
            };
            instance = λ n i is has.
                let found = sym (at.records n) ∙ has.is_kept in
                let same = fits.sound.instances n e.0 has.kept e.1 i (ours n has.kept found) there has.same is in
                not_none has.kept (sym none ∙ (ap (λ (k : Text). find text_cmp k front) (sym same) ∙ found));
          };
          few = omega (arith, few, at.size);
        },
        grants_can g.1 e.0 ps with_it known (all_from_zero g.1 ps (recursion_from_All FitsGrant (grants_of g.1 e.0) fit.grants.1))
            (free_of front b.0 e.0 at none ps (there_all ps ps (λ q is. is))) (set_apart (held (pairs g.1) e.0)),
      )

  more_of_those : (front : List (Text × Record)) (e : Text × Record) → find text_cmp e.0 front ≡ None → (o : Option Held)
      → cond (option_map_or (λ d. eq_by_cmp text_cmp e.0 d.member) o false) (Some (record { member = e.0; since = since_in o })) (of_those front o) ≡ of_those (front ++ e ∷ []) o
  more_of_those front e none None = refl
  more_of_those front e none (Some d) =
      let more = find-append text_cmp text_cmp_total front e.0 e.1 d.member none ∙ ap (λ (b : Bool). cond b (Some e.1) (find text_cmp d.member front)) ((eq_by_cmp_equiv text_cmp_total).symm d.member e.0) in
      elim (eq_by_cmp text_cmp e.0 d.member) as (λ b. eq_by_cmp text_cmp e.0 d.member ≡ b → cond b (Some (record { member = e.0; since = d.since })) (cond (is_some (find text_cmp d.member front)) (Some d) None) ≡ cond (is_some (cond b (Some e.1) (find text_cmp d.member front))) (Some d) None) [
        | true ↦ λ so. let same = same_text e.0 d.member so in λ i. Some (record { member = same i; since = d.since })
        | false ↦ λ so. refl
      ] refl ∙ ap (λ (o : Option Record). cond (is_some o) (Some d) None) (sym more)

  at_member : (front : List (Text × Record)) (b : Built) (e : Text × Record) → IsAt front b.0 → find text_cmp e.0 front ≡ None → IsAt (front ++ e ∷ []) (with_part b (part_for e)).0
  at_member front b e at none =
      let with_it = with_member b.0 e.0 e.1 in
      let set = held (pairs g.1) e.0 in
      let grants = map (grant_of g.1) (in_order set) in
      let records = kept_by (with_grant e.0) (λ (v : GroupValue). v.state.records) (λ v x. refl) with_it grants in
      record {
        records = λ q.
            ap (λ (r : Records). finite.get r q) records
            ∙ (finite.get-insert text_cmp_total b.0.state.records e.0 e.1 q
            ∙ (ap (λ (o : Option Record). cond (eq_by_cmp text_cmp q e.0) (Some e.1) o) (at.records q) ∙ sym (find-append text_cmp text_cmp_total front e.0 e.1 q none)));
        size = ap finite.len records
            ∙ (finite.len-insert text_cmp_total b.0.state.records e.0 e.1
            ∙ (ap (λ (o : Option Record). cond (is_some o) (finite.len b.0.state.records) (finite.len b.0.state.records + 1)) (at.records e.0 ∙ none)
            ∙ (ap (λ (n : ℕ). n + 1) at.size ∙ sym (length-append front (e ∷ [])))));
        past = kept_by (with_grant e.0) (λ (v : GroupValue). v.state.past) (λ v x. refl) with_it grants ∙ at.past;
        holders = λ p.
            let owner = finite.get g.1 p in
            let mine : Option Held = Some (record { member = e.0; since = since_in owner }) in
            grants_get g.1 e.0 (in_order set) with_it p
            ∙ (ap (λ (c : Bool). cond c mine (finite.get b.0.holders p)) (sym (has-in_order set p) ∙ has-held_pairs g.1 e.0 p)
            ∙ (ap (λ (o : Option Held). cond (holds g.1 e.0 p) mine o) (at.holders p) ∙ more_of_those front e none owner));
      }

  new_still : (front : List (Text × Record)) (e : Text × Record) (left : List (Text × Record)) → find text_cmp e.0 front ≡ None → AllByRecursion (λ (f : Text × Record). eq_by_cmp text_cmp f.0 e.0 ≡ false) left
      → AllByRecursion (λ (f : Text × Record). find text_cmp f.0 front ≡ None) left → AllByRecursion (λ (f : Text × Record). find text_cmp f.0 (front ++ e ∷ []) ≡ None) left
  new_still front e [] none apart new = tt
  new_still front e (f ∷ left) none apart new = (
    find-append text_cmp text_cmp_total front e.0 e.1 f.0 none ∙ (ap (λ (b : Bool). cond b (Some e.1) (find text_cmp f.0 front)) apart.0 ∙ new.0),
    new_still front e left none apart.1 new.1,
  )

  still_ours : (front : List (Text × Record)) (e : Text × Record) → find text_cmp e.0 front ≡ None → finite.get g.0.records e.0 ≡ Some e.1 → AreOurs front → AreOurs (front ++ e ∷ [])
  still_ours front e none there ours n r is =
      elim (eq_by_cmp text_cmp n e.0) as (λ b. eq_by_cmp text_cmp n e.0 ≡ b → cond b (Some e.1) (find text_cmp n front) ≡ Some r → finite.get g.0.records n ≡ Some r) [
        | true ↦ λ so found. ap (finite.get g.0.records) (same_text n e.0 so) ∙ (there ∙ found)
        | false ↦ λ so found. ours n r found
      ] refl (sym (find-append text_cmp text_cmp_total front e.0 e.1 n none) ∙ is)

  pub members_can : (left front : List (Text × Record)) (b : Built) → IsAt front b.0 → AllByRecursion (λ (f : Text × Record). find text_cmp f.0 front ≡ None) left → KeysApart text_cmp left
      → AllByRecursion (λ (e : Text × Record). finite.get g.0.records e.0 ≡ Some e.1) left → AreOurs front → length front + length left ≤ MOST_MEMBERS
      → AllByRecursion FitsMember (map part_for left)
      → CanEach CanAddMember with_part b (map part_for left) × IsAt (front ++ left) (with_each with_part b (map part_for left)).0
  members_can [] front b at new apart there ours few fit = (tt, subst (λ (l : List (Text × Record)). IsAt l b.0) (sym (append-nil front)) at)
  members_can (e ∷ left) front b at new apart there ours few fit =
      let rest = members_can left (front ++ e ∷ []) (with_part b (part_for e)) (at_member front b e at new.0) (new_still front e left new.0 apart.0 new.1) apart.1 there.1
      (still_ours front e new.0 there.0 ours) (omega (arith, few, length-append front (e ∷ []))) fit.1 in (
        (can_member front b e at new.0 there.0 ours (omega (arith, few)) fit.0, rest.0),
        subst (λ (l : List (Text × Record)). IsAt l (with_each with_part (with_part b (part_for e)) (map part_for left)).0) (append_assoc front (e ∷ []) left) rest.1,
      )
