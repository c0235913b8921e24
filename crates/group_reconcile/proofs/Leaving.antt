-- What becomes of the grants of a member that leaves, and of one that hands them over.
use Rattle.std.proofs.Common.{◌≡◌, ℕ, Bool, true, false, cond, not, ◌&&◌, ◌||◌, ◌==◌, [], refl, sym, ap, ◌∙◌, Option, Some, None, is_some, unwrap_or, true≢false}
use Rattle.std.specs.List.{list_any}
use Rattle.std.specs.Option.{option_map, option_map_or}
use Rattle.std.specs.Ordering.{eq_by_cmp}
use Rattle.std.specs.FinMap as finite
use Rattle.std.proofs.lemmas.Bool.Decides.{Decides-eqb}
use Rattle.slab.specs.Slab.{get}
use Rattle.group_types.specs.declared.partition.Partition.{Partition}
use Rattle.group_types.specs.Text.{Text, text_cmp}
use Rattle.group_types.specs.Sets.{nothing, has, in_order}
use Rattle.group_types.specs.Partition.{Partitions, partition_cmp}
use Rattle.group_types.specs.Group.{held}
use Rattle.group_types.specs.Owners.{renamed_id}
use Rattle.group_types.specs.Settle.{granting, grants_of_others}
use Rattle.group_types.proofs.GrantLemmas.{grant_cmp_total, grant_cmp-IsAntisymmetric, has-granting, has-others}
use Rattle.group_types.proofs.Lookups.{same_text}
use Rattle.group_types.proofs.Orders.{partition_cmp_total, partition_cmp-IsAntisymmetric}
use Rattle.group_types.proofs.SetLemmas.{has-in_order, has-nothing, same_set}
use Rattle.group_reconcile.specs.declared.cell.Cell.{Cell}
use Rattle.group_reconcile.specs.declared.members.Member.{Member}
use Rattle.group_reconcile.specs.Granted.{AreConsistent, held_by, holders_of, is_holder}
use Rattle.group_reconcile.specs.Holders.{Held, Holders, LetsGo, holds, other_holder, pairs}
use Rattle.group_reconcile.specs.Members.{IsNumberOf, MemberTable, RenamesMember, TakesMember, has_id, id_of, is_number, parts_of, with_id}
use Rattle.group_reconcile.specs.Offers.{KeepsSince, handed, handed_over}
use Rattle.group_reconcile.specs.Tables.{Cells}
use Rattle.group_reconcile.proofs.Granted.{bytes_eq-ties, get-holders_of, get-mapped, known, holds-number}
use Rattle.group_reconcile.proofs.Pairs.{has-held_pairs, has-pairs}

-- a member that lets go takes nothing else with it
pub KeepsSince-let_go : (h n : Holders) (m : Text) → LetsGo h m n → KeepsSince h n
KeepsSince-let_go h n m lets p d is = kept (finite.get h p) (sym (lets p) ∙ is)
  where
    some_or_not : (b : Bool) (e : Held) → cond b None (Some e) ≡ Some d → Some e ≡ Some d
    some_or_not true e is = absurd (true≢false (sym (ap is_some is)))
    some_or_not false e is = is

    kept : (o : Option Held) → other_holder m o ≡ Some d → o ≡ Some d
    kept None is = is
    kept (Some e) is = some_or_not (eq_by_cmp text_cmp m e.member) e is

-- the id of a member that has one, by the number
pub named-known : (ms : MemberTable) (m : Text) (k : ℕ) → is_some (get ms k) ≡ true → eq_by_cmp text_cmp m (id_of ms k) ≡ has_id ms m k
named-known ms m k there = at (get ms k) there
  where
    at : (o : Option Member) → is_some o ≡ true → eq_by_cmp text_cmp m (option_map_or (λ x. x.id) o []) ≡ option_map_or (λ x. eq_by_cmp text_cmp m x.id) o false
    at None there = absurd (true≢false (sym there))
    at (Some x) there = refl

-- a number that is the one is the one
is_number-same : (number : Option ℕ) (k l : ℕ) → (k == l) ≡ true → is_number number k ≡ is_number number l
is_number-same number k l same = ap (is_number number) ((Decides-eqb k l).0 same)

-- ---- a member is taken out, and its partitions are freed

module _ (ms us : MemberTable) (cells after : Cells) (m : Text) (taken : Option Partitions) (consistent : AreConsistent ms cells) (takes : TakesMember ms us m taken)
    (freed : (p : Partition) → finite.get after p ≡ cond (has (unwrap_or taken nothing) p) None (finite.get cells p)) where
  -- it had the partitions whose cells have its number
  had : (p : Partition) → has (unwrap_or taken nothing) p ≡ option_map_or (λ c. is_number takes.number c.holder) (finite.get cells p) false
  had p = ap (λ o. has (unwrap_or o nothing) p) takes.of_number ∙ at takes.number
    where
      none : (o : Option Cell) → false ≡ option_map_or (λ c. false) o false
      none None = refl
      none (Some c) = refl

      at : (number : Option ℕ) → has (unwrap_or (option_map (parts_of ms) number) nothing) p ≡ option_map_or (λ c. is_number number c.holder) (finite.get cells p) false
      at None = has-nothing partition_cmp p ∙ none (finite.get cells p)
      at (Some n) = consistent n p

  -- what is left at a partition
  left : (p : Partition) (o : Option Cell) → finite.get cells p ≡ o → finite.get after p ≡ cond (option_map_or (λ c. is_number takes.number c.holder) o false) None o
  left p o is = freed p ∙ ap (λ b. cond b None (finite.get cells p)) (had p) ∙ ap (λ o. cond (option_map_or (λ c. is_number takes.number c.holder) o false) None o) is

  pub AreConsistent-taken : AreConsistent us after
  AreConsistent-taken k p =
      ap (λ o. has (option_map_or (λ m. m.parts) o nothing) p) (takes.others k)
      ∙ at (is_number takes.number k) refl (finite.get cells p) refl
    where
      -- a cell of another number isn't the taken member's
      other : (c : Cell) (a b : Bool) → is_number takes.number k ≡ a → is_number takes.number c.holder ≡ b → (a ≡ b → ⊥) → (c.holder == k) ≡ false
      other c a b of_k of_c differ = no (c.holder == k) refl
        where
          no : (e : Bool) → (c.holder == k) ≡ e → e ≡ false
          no true same = absurd (differ (sym of_k ∙ sym (is_number-same takes.number c.holder k same) ∙ of_c))
          no false same = refl

      gone : (c : Cell) (b : Bool) → is_number takes.number k ≡ true → is_number takes.number c.holder ≡ b → false ≡ option_map_or (λ c. c.holder == k) (cond b None (Some c)) false
      gone c true of_k of_c = refl
      gone c false of_k of_c = sym (other c true false of_k of_c true≢false)

      stays : (c : Cell) (b : Bool) → is_number takes.number k ≡ false → is_number takes.number c.holder ≡ b → (c.holder == k) ≡ option_map_or (λ c. c.holder == k) (cond b None (Some c)) false
      stays c true of_k of_c = other c false true of_k of_c (λ is. true≢false (sym is))
      stays c false of_k of_c = refl

      at : (b : Bool) → is_number takes.number k ≡ b → (o : Option Cell) → finite.get cells p ≡ o
          → has (option_map_or (λ m. m.parts) (cond b None (get ms k)) nothing) p ≡ is_holder after p k
      at true of_k None is = has-nothing partition_cmp p ∙ sym (ap (λ o. option_map_or (λ c. c.holder == k) o false) (left p None is))
      at true of_k (Some c) is =
          has-nothing partition_cmp p ∙ gone c (is_number takes.number c.holder) of_k refl
          ∙ sym (ap (λ o. option_map_or (λ c. c.holder == k) o false) (left p (Some c) is))
      at false of_k None is =
          consistent k p ∙ ap (λ o. option_map_or (λ c. c.holder == k) o false) is
          ∙ sym (ap (λ o. option_map_or (λ c. c.holder == k) o false) (left p None is))
      at false of_k (Some c) is =
          consistent k p ∙ ap (λ o. option_map_or (λ c. c.holder == k) o false) is
          ∙ stays c (is_number takes.number c.holder) of_k refl
          ∙ sym (ap (λ o. option_map_or (λ c. c.holder == k) o false) (left p (Some c) is))

  pub LetsGo-taken : LetsGo (holders_of ms cells) m (holders_of us after)
  LetsGo-taken p =
      get-holders_of us after p
      ∙ at (finite.get cells p) refl
      ∙ ap (other_holder m) (sym (get-holders_of ms cells p))
    where
      same_holder : (c : Cell) → is_number takes.number c.holder ≡ false → held_by us c ≡ held_by ms c
      same_holder c of_c = ap (λ o. record { member = option_map_or (λ m. m.id) o []; since = c.since }) (takes.others c.holder ∙ ap (λ b. cond b None (get ms c.holder)) of_c)

      by_number : (c : Cell) (b : Bool) → is_number takes.number c.holder ≡ b → option_map (held_by us) (cond b None (Some c)) ≡ cond b None (Some (held_by ms c))
      by_number c true of_c = refl
      by_number c false of_c = ap Some (same_holder c of_c)

      at : (o : Option Cell) → finite.get cells p ≡ o → option_map (held_by us) (finite.get after p) ≡ other_holder m (option_map (held_by ms) o)
      at None is = ap (option_map (held_by us)) (left p None is)
      at (Some c) is =
          ap (option_map (held_by us)) (left p (Some c) is)
          ∙ by_number c (is_number takes.number c.holder) refl
          ∙ ap (λ b. cond b None (Some (held_by ms c))) (sym (named-known ms m c.holder (known ms cells consistent p c is) ∙ takes.of_id c.holder))

-- no member has the id any more
pub IsNumberOf-taken : (ms us : MemberTable) (m : Text) (taken : Option Partitions) → TakesMember ms us m taken → IsNumberOf us m None
IsNumberOf-taken ms us m taken takes k = ap (λ o. option_map_or (λ x. eq_by_cmp text_cmp m x.id) o false) (takes.others k) ∙ at (is_number takes.number k) refl
  where
    at : (b : Bool) → is_number takes.number k ≡ b → option_map_or (λ x. eq_by_cmp text_cmp m x.id) (cond b None (get ms k)) false ≡ false
    at true is = refl
    at false is = takes.of_id k ∙ is

-- ---- an id that holds nothing is taken out

module _ (ms us : MemberTable) (cells : Cells) (m : Text) (taken : Option Partitions) (consistent : AreConsistent ms cells) (takes : TakesMember ms us m taken)
    (none : held (pairs (holders_of ms cells)) m ≡ nothing) where
  holds_none : (p : Partition) → holds (holders_of ms cells) m p ≡ false
  holds_none p = sym (has-held_pairs (holders_of ms cells) m p) ∙ ap (λ s. has s p) none ∙ has-nothing partition_cmp p

  nothing_taken : (p : Partition) → has (unwrap_or taken nothing) p ≡ false
  nothing_taken p =
      ap (λ o. has (unwrap_or o nothing) p) takes.of_number ∙ at takes.number
      ∙ sym (holds-number ms cells consistent m takes.number takes.of_id p) ∙ holds_none p
    where
      at : (number : Option ℕ) → has (unwrap_or (option_map (parts_of ms) number) nothing) p ≡ option_map_or (λ n. has (parts_of ms n) p) number false
      at None = has-nothing partition_cmp p
      at (Some n) = refl

  stays_free : (p : Partition) → finite.get cells p ≡ cond (has (unwrap_or taken nothing) p) None (finite.get cells p)
  stays_free p = ap (λ b. cond b None (finite.get cells p)) (sym (nothing_taken p))

  pub AreConsistent-none : AreConsistent us cells
  AreConsistent-none = AreConsistent-taken ms us cells cells m taken consistent takes stays_free

  pub holders_of-none : holders_of us cells ≡ holders_of ms cells
  holders_of-none =
      finite.same_map partition_cmp_total partition_cmp-IsAntisymmetric _ _
      (λ p. LetsGo-taken ms us cells cells m taken consistent takes stays_free p ∙ same (finite.get (holders_of ms cells) p) (holds_none p))
    where
      same : (o : Option Held) → option_map_or (λ d. eq_by_cmp text_cmp m d.member) o false ≡ false → other_holder m o ≡ o
      same None away = refl
      same (Some d) away = ap (λ b. cond b None (Some d)) away

-- ---- a member gets another id

module _ (ms us : MemberTable) (cells : Cells) (old new : Text) (consistent : AreConsistent ms cells) (renames : RenamesMember ms us old new) where
  pub AreConsistent-renamed : AreConsistent us cells
  AreConsistent-renamed k p = ap (λ o. has (option_map_or (λ m. m.parts) o nothing) p) (renames k) ∙ ap (λ s. has s p) (at (has_id ms old k) (get ms k)) ∙ consistent k p
    where
      at : (b : Bool) (o : Option Member) → option_map_or (λ m. m.parts) (cond b (option_map (with_id new) o) o) nothing ≡ option_map_or (λ m. m.parts) o nothing
      at true None = refl
      at true (Some m) = refl
      at false o = refl

  pub holders_of-renamed : holders_of us cells ≡ handed_over (holders_of ms cells) old new
  holders_of-renamed =
      finite.same_map partition_cmp_total partition_cmp-IsAntisymmetric _ _
      (λ p. get-holders_of us cells p
      ∙ at p (finite.get cells p) refl
      ∙ ap (option_map (handed old new)) (sym (get-holders_of ms cells p))
      ∙ sym (get-mapped (handed old new) (holders_of ms cells) p))
    where
      new_id : (o : Option Member) → is_some o ≡ true
          → option_map_or (λ m. m.id) (cond (option_map_or (λ x. eq_by_cmp text_cmp old x.id) o false) (option_map (with_id new) o) o) [] ≡ renamed_id old new (option_map_or (λ m. m.id) o [])
      new_id None there = absurd (true≢false (sym there))
      new_id (Some x) there = either (eq_by_cmp text_cmp old x.id) ∙ ap (λ b. cond b new x.id) (sym (bytes_eq-ties x.id old))
        where
          either : (b : Bool) → option_map_or (λ (m : Member). m.id) (cond b (Some (with_id new x)) (Some x)) [] ≡ cond b new x.id
          either true = refl
          either false = refl

      at : (p : Partition) (o : Option Cell) → finite.get cells p ≡ o → option_map (held_by us) o ≡ option_map (handed old new) (option_map (held_by ms) o)
      at p None is = refl
      at p (Some c) is =
          ap (λ id. Some (record { member = id; since = c.since }))
          (ap (λ o. option_map_or (λ m. m.id) o []) (renames c.holder) ∙ new_id (get ms c.holder) (known ms cells consistent p c is))

-- ---- the pairs of holders of whom one has handed over

pub pairs_handed_over : (h : Holders) (old new : Text) → pairs (handed_over h old new) ≡ granting (grants_of_others (pairs h) old) new (in_order (held (pairs h) old))
pairs_handed_over h old new =
    same_set grant_cmp_total grant_cmp-IsAntisymmetric _ _
    (λ k. has-pairs (handed_over h old new) k.0 k.1
    ∙ ap (λ o. option_map_or (λ d. eq_by_cmp text_cmp k.0 d.member) o false) (get-mapped (handed old new) h k.1)
    ∙ at k.0 (finite.get h k.1)
    ∙ (λ i. (eq_by_cmp text_cmp k.0 new && (sym (has-held_pairs h old k.1) ∙ has-in_order (held (pairs h) old) k.1) i) || (not (eq_by_cmp text_cmp old k.0) && sym (has-pairs h k.0 k.1) i))
    ∙ ap (λ b. (eq_by_cmp text_cmp k.0 new && list_any (eq_by_cmp partition_cmp k.1) (in_order (held (pairs h) old))) || b) (sym (has-others (pairs h) old k.0 k.1))
    ∙ sym (has-granting (grants_of_others (pairs h) old) new (in_order (held (pairs h) old)) k.0 k.1))
  where
    neither : (a b : Bool) → false ≡ ((a && false) || (b && false))
    neither true true = refl
    neither true false = refl
    neither false true = refl
    neither false false = refl

    -- the old id's partition is the new one's now
    given : (mine away theirs : Bool) → (theirs ≡ true → away ≡ true) → mine ≡ ((mine && true) || (not away && theirs))
    given true away theirs is = refl
    given false true theirs is = refl
    given false false true is = is refl
    given false false false is = refl

    -- another's partition stays its own
    stays : (mine away theirs : Bool) → (theirs ≡ true → away ≡ false) → theirs ≡ ((mine && false) || (not away && theirs))
    stays true true true is = is refl
    stays true true false is = refl
    stays true false theirs is = refl
    stays false true true is = is refl
    stays false true false is = refl
    stays false false theirs is = refl

    by_holder : (x : Text) (d : Held) (b : Bool) → eq_by_cmp text_cmp old d.member ≡ b
        → eq_by_cmp text_cmp x (cond b new d.member) ≡ ((eq_by_cmp text_cmp x new && b) || (not (eq_by_cmp text_cmp old x) && eq_by_cmp text_cmp x d.member))
    by_holder x d true is =
        given (eq_by_cmp text_cmp x new) (eq_by_cmp text_cmp old x) (eq_by_cmp text_cmp x d.member) (λ so. ap (eq_by_cmp text_cmp old) (same_text x d.member so) ∙ is)
    by_holder x d false is =
        stays (eq_by_cmp text_cmp x new) (eq_by_cmp text_cmp old x) (eq_by_cmp text_cmp x d.member) (λ so. ap (eq_by_cmp text_cmp old) (same_text x d.member so) ∙ is)

    at : (x : Text) (o : Option Held)
        → option_map_or (λ d. eq_by_cmp text_cmp x d.member) (option_map (handed old new) o) false
        ≡ ((eq_by_cmp text_cmp x new && option_map_or (λ d. eq_by_cmp text_cmp old d.member) o false) || (not (eq_by_cmp text_cmp old x) && option_map_or (λ d. eq_by_cmp text_cmp x d.member) o false))
    at x None = neither (eq_by_cmp text_cmp x new) (not (eq_by_cmp text_cmp old x))
    at x (Some d) = ap (λ b. eq_by_cmp text_cmp x (cond b new d.member)) (bytes_eq-ties d.member old) ∙ by_holder x d (eq_by_cmp text_cmp old d.member) refl
