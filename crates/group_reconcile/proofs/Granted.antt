-- What the cells and the member table say together.
use Rattle.std.proofs.Common.{◌≡◌, ℕ, Bool, true, false, cond, ◌==◌, List, [], ◌∷◌, map, refl, sym, ap, ◌∙◌, Option, Some, None, is_some, unwrap_or, true≢false}
use Rattle.std.specs.declared.cmp.Ordering.{Ordering}
use Rattle.std.specs.Option.{option_map, option_map_or}
use Rattle.std.specs.Ordering.{eq_by_cmp}
use Rattle.std.specs.Str.{bytes_eq}
use Rattle.std.specs.FinMap as finite
use Rattle.std.specs.FinMap.{find}
use Rattle.std.proofs.lemmas.Bool.Decides.{Decides-eqb, same_from_decides}
use Rattle.std.proofs.lemmas.Slice.Eq.{bytes_eq-Decides}
use Rattle.slab.specs.Slab.{get}
use Rattle.group_types.specs.declared.partition.Partition.{Partition}
use Rattle.group_types.specs.Text.{Text, text_cmp}
use Rattle.group_types.specs.Sets.{nothing, has}
use Rattle.group_types.specs.Partition.{partition_cmp}
use Rattle.group_types.specs.Group.{held}
use Rattle.group_types.proofs.Lookups.{same_text, text_ties}
use Rattle.group_types.proofs.Orders.{partition_cmp_total, partition_cmp-IsAntisymmetric}
use Rattle.group_types.proofs.SetLemmas.{has-nothing, same_set}
use Rattle.group_reconcile.specs.declared.cell.Cell.{Cell}
use Rattle.group_reconcile.specs.declared.members.Member.{Member}
use Rattle.group_reconcile.specs.Granted.{AreConsistent, held_by, holders_of}
use Rattle.group_reconcile.specs.Holders.{Held, holds, pairs}
use Rattle.group_reconcile.specs.Members.{IsNumberOf, MemberTable, has_id, parts_of}
use Rattle.group_reconcile.specs.Tables.{Cells}
use Rattle.group_reconcile.proofs.Pairs.{has-held_pairs}

-- ---- a map whose values are all changed by one function

find-map : {K X Y : Type 0} (R : K → K → Ordering) (f : X → Y) (q : K) (es : List (K × X)) → find R q (map (λ e. (e.0, f e.1)) es) ≡ option_map f (find R q es)
find-map R f q [] = refl
find-map R f q (e ∷ es) =
    ap (cond (eq_by_cmp R q e.0) (Some (f e.1))) (find-map R f q es) ∙ either (eq_by_cmp R q e.0)
  where
    either : (b : Bool) → cond b (Some (f e.1)) (option_map f (find R q es)) ≡ option_map f (cond b (Some e.1) (find R q es))
    either true = refl
    either false = refl

pub get-mapped : {X Y : Type 0} (f : X → Y) (m : finite.FinMap partition_cmp X) (p : Partition)
    → finite.get (finite.from_entries {R = partition_cmp} (map (λ e. (e.0, f e.1)) (finite.entries m))) p ≡ option_map f (finite.get m p)
get-mapped f m p =
    finite.get-from_entries partition_cmp_total (map (λ e. (e.0, f e.1)) (finite.entries m)) p
    ∙ find-map partition_cmp f p (finite.entries m)
    ∙ ap (option_map f) (sym (finite.get-entries m p))

pub get-holders_of : (ms : MemberTable) (cells : Cells) (p : Partition) → finite.get (holders_of ms cells) p ≡ option_map (held_by ms) (finite.get cells p)
get-holders_of ms cells p = get-mapped (held_by ms) cells p

-- what a holder shows, by the cell of the partition
pub shown-holders_of : {X : Type 0} (show : Held → X) (ms : MemberTable) (cells : Cells) (p : Partition)
    → option_map show (finite.get (holders_of ms cells) p) ≡ option_map (λ c. show (held_by ms c)) (finite.get cells p)
shown-holders_of show ms cells p = ap (option_map show) (get-holders_of ms cells p) ∙ twice (finite.get cells p)
  where
    twice : (o : Option Cell) → option_map show (option_map (held_by ms) o) ≡ option_map (λ c. show (held_by ms c)) o
    twice None = refl
    twice (Some c) = refl

pub holders_of-empty : (ms : MemberTable) → holders_of ms finite.empty ≡ finite.empty
holders_of-empty ms =
    finite.same_map partition_cmp_total partition_cmp-IsAntisymmetric _ _
    (λ p. get-holders_of ms finite.empty p ∙ ap (option_map (held_by ms)) (finite.get-empty partition_cmp p) ∙ sym (finite.get-empty partition_cmp p))

pub AreConsistent-empty : (ms : MemberTable) → ((k : ℕ) → get ms k ≡ None) → AreConsistent ms finite.empty
AreConsistent-empty ms none k p =
    ap (λ o. has (option_map_or (λ m. m.parts) o nothing) p) (none k) ∙ has-nothing partition_cmp p
    ∙ sym (ap (λ o. option_map_or (λ c. c.holder == k) o false) (finite.get-empty partition_cmp p))

-- ---- the holder of a partition

module _ (ms : MemberTable) (cells : Cells) (consistent : AreConsistent ms cells) where
  -- the number in a cell is a member's
  pub known : (p : Partition) (c : Cell) → finite.get cells p ≡ Some c → is_some (get ms c.holder) ≡ true
  known p c is = at (get ms c.holder) (consistent c.holder p ∙ ap (λ o. option_map_or (λ c'. c'.holder == c.holder) o false) is ∙ (Decides-eqb c.holder c.holder).1 refl)
    where
      at : (o : Option Member) → has (option_map_or (λ m. m.parts) o nothing) p ≡ true → is_some o ≡ true
      at None has_it = absurd (true≢false (sym has_it ∙ has-nothing partition_cmp p))
      at (Some m) has_it = refl

  -- whether the member holds it, by the number of the cell
  holds-cell : (m : Text) (p : Partition) → holds (holders_of ms cells) m p ≡ option_map_or (λ c. has_id ms m c.holder) (finite.get cells p) false
  holds-cell m p =
      ap (λ o. option_map_or (λ d. eq_by_cmp text_cmp m d.member) o false) (get-holders_of ms cells p)
      ∙ at (finite.get cells p) refl
    where
      named : (o : Option Member) → is_some o ≡ true → eq_by_cmp text_cmp m (option_map_or (λ m. m.id) o []) ≡ option_map_or (λ x. eq_by_cmp text_cmp m x.id) o false
      named None there = absurd (true≢false (sym there))
      named (Some x) there = refl

      at : (o : Option Cell) → finite.get cells p ≡ o
          → option_map_or (λ d. eq_by_cmp text_cmp m d.member) (option_map (held_by ms) o) false ≡ option_map_or (λ c. has_id ms m c.holder) o false
      at None is = refl
      at (Some c) is = named (get ms c.holder) (known p c is)

  -- whether the member holds it, by the member's own set
  pub holds-number : (m : Text) (number : Option ℕ) → IsNumberOf ms m number → (p : Partition)
      → holds (holders_of ms cells) m p ≡ option_map_or (λ n. has (parts_of ms n) p) number false
  holds-number m number of_m p = holds-cell m p ∙ at number of_m (finite.get cells p) refl
    where
      at : (number : Option ℕ) → IsNumberOf ms m number → (o : Option Cell) → finite.get cells p ≡ o
          → option_map_or (λ c. has_id ms m c.holder) o false ≡ option_map_or (λ n. has (parts_of ms n) p) number false
      at None of_m None is = refl
      at None of_m (Some c) is = of_m c.holder
      at (Some n) of_m None is = sym (consistent n p ∙ ap (λ o. option_map_or (λ c. c.holder == n) o false) is)
      at (Some n) of_m (Some c) is = of_m c.holder ∙ sym (consistent n p ∙ ap (λ o. option_map_or (λ c. c.holder == n) o false) is)

  -- the member's own set is what it holds
  pub held-number : (m : Text) (number : Option ℕ) → IsNumberOf ms m number → unwrap_or (option_map (parts_of ms) number) nothing ≡ held (pairs (holders_of ms cells)) m
  held-number m number of_m =
      same_set partition_cmp_total partition_cmp-IsAntisymmetric _ _
      (λ p. at number p ∙ sym (holds-number m number of_m p) ∙ sym (has-held_pairs (holders_of ms cells) m p))
    where
      at : (number : Option ℕ) (p : Partition) → has (unwrap_or (option_map (parts_of ms) number) nothing) p ≡ option_map_or (λ n. has (parts_of ms n) p) number false
      at None p = has-nothing partition_cmp p
      at (Some n) p = refl

-- two ways to compare ids
pub bytes_eq-ties : (x y : Text) → bytes_eq x y ≡ eq_by_cmp text_cmp y x
bytes_eq-ties x y =
    same_from_decides _ _ (bytes_eq-Decides x y) (λ so. sym (same_text y x so), λ is. ap (eq_by_cmp text_cmp y) is ∙ text_ties y)
