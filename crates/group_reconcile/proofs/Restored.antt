-- A free partition is granted to a member: it is settled on what it holds and this one.
use Rattle.std.proofs.Common.{◌≡◌, ℕ, Bool, true, false, cond, ◌&&◌, ◌||◌, ◌==◌, refl, sym, ap, ◌∙◌, Option, Some, None, is_some, true≢false}
use Rattle.std.specs.Option.{option_map, option_map_or}
use Rattle.std.specs.Ordering.{eq_by_cmp}
use Rattle.std.specs.Cmp.{Equal-is}
use Rattle.std.specs.FinMap as finite
use Rattle.slab.specs.Slab.{get}
use Rattle.group_types.specs.declared.partition.Partition.{Partition}
use Rattle.group_types.specs.Text.{Text, text_cmp}
use Rattle.group_types.specs.Sets.{has, nothing, with_one}
use Rattle.group_types.specs.Partition.{Partitions, partition_cmp}
use Rattle.group_types.proofs.Orders.{partition_cmp_total, partition_cmp-IsAntisymmetric}
use Rattle.group_types.proofs.SetLemmas.{has-with_one}
use Rattle.group_reconcile.specs.declared.cell.Cell.{Cell}
use Rattle.group_reconcile.specs.Granted.{AreConsistent, held_by, holders_of, is_holder}
use Rattle.group_reconcile.specs.Holders.{Held, Holders, settled_holder}
use Rattle.group_reconcile.specs.Members.{IsNumberOf, KeepsMembers, KeepsParts, MemberTable, SetsParts, parts_of}
use Rattle.group_reconcile.specs.Settling.{IsNext, may_take}
use Rattle.group_reconcile.specs.Tables.{Cells}
use Rattle.group_reconcile.proofs.Granted.{get-holders_of, holds-number}
use Rattle.group_reconcile.proofs.Settles.{AreConsistent-settled, IsSettling, Settles-settled, Settling}

-- ---- a member table that a call left as it was

module _ (ms us after : MemberTable) (same : (k : ℕ) → get after k ≡ get us k) where
  pub KeepsMembers-then : KeepsMembers ms us → KeepsMembers ms after
  KeepsMembers-then kept k m is = same k ∙ kept k m is

  pub KeepsParts-then : KeepsParts ms us → KeepsParts ms after
  KeepsParts-then parts k = ap (λ o. option_map_or (λ m. m.parts) o nothing) (same k) ∙ parts k

-- ---- a free partition

-- a partition that nobody holds has no cell
pub free_cell : (ms : MemberTable) (cells : Cells) (p : Partition) → finite.get (holders_of ms cells) p ≡ None → finite.get cells p ≡ None
free_cell ms cells p none = at (finite.get cells p) (sym (get-holders_of ms cells p) ∙ none)
  where
    at : (o : Option Cell) → option_map (held_by ms) o ≡ None → o ≡ None
    at None is = refl
    at (Some c) is = absurd (true≢false (ap is_some is))

module _ (us : MemberTable) (cells : Cells) (consistent : AreConsistent us cells) (m : Text) (n : ℕ) (of_m : IsNumberOf us m (Some n))
    (p : Partition) (since : ℕ) (free : finite.get cells p ≡ None)
    (after : MemberTable) (cells_after : Cells) (sets : SetsParts us after n (with_one (parts_of us n) p)) (put : cells_after ≡ finite.insert cells p (record { holder = n; since = since })) where
  abbrev new_cell : Cell
  new_cell = record { holder = n; since = since }

  abbrev next : Partitions
  next = with_one (parts_of us n) p

  in_next : (q : Partition) → has next q ≡ (eq_by_cmp partition_cmp q p || has (parts_of us n) q)
  in_next q = has-with_one partition_cmp_total (parts_of us n) p q

  same : (q : Partition) → eq_by_cmp partition_cmp q p ≡ true → q ≡ p
  same q so = partition_cmp-IsAntisymmetric q p ((Equal-is (partition_cmp q p)).0 so)

  free_at : (q : Partition) → eq_by_cmp partition_cmp q p ≡ true → finite.get cells q ≡ None
  free_at q so = ap (finite.get cells) (same q so) ∙ free

  -- what is free or its own may be taken
  may : (tie : Bool) (o : Option Cell) → (tie ≡ true → o ≡ None)
      → (tie || option_map_or (λ c. c.holder == n) o false) ≡ ((tie || option_map_or (λ c. c.holder == n) o false) && option_map_or (λ c. c.holder == n) o true)
  may true o none = sym (ap (λ o. option_map_or (λ c. c.holder == n) o true) (none refl))
  may false None none = refl
  may false (Some c) none = twice (c.holder == n)
    where
      twice : (b : Bool) → b ≡ (b && b)
      twice true = refl
      twice false = refl

  owned : (q : Partition) → has next q ≡ (eq_by_cmp partition_cmp q p || is_holder cells q n)
  owned q = in_next q ∙ ap (λ b. eq_by_cmp partition_cmp q p || b) (consistent n q)

  is_next : IsNext cells (Some n) next next
  is_next q = owned q ∙ may (eq_by_cmp partition_cmp q p) (finite.get cells q) (free_at q) ∙ ap (λ b. b && may_take cells (Some n) q) (sym (owned q))

  put_at : (tie : Bool) (o : Option Cell) → (tie ≡ true → o ≡ None)
      → cond tie (Some new_cell) o
      ≡ cond (tie || option_map_or (λ c. c.holder == n) o false) (cond (is_some o) o (Some new_cell)) (cond (option_map_or (λ c. c.holder == n) o false) None o)
  put_at true o none = sym (ap (λ o. cond (is_some o) o (Some new_cell)) (none refl))
  put_at false None none = refl
  put_at false (Some c) none = either (c.holder == n)
    where
      either : (b : Bool) → Some c ≡ cond b (Some c) (cond b None (Some c))
      either true = refl
      either false = refl

  changed : (q : Partition) → finite.get cells_after q ≡ cond (has next q) (cond (is_some (finite.get cells q)) (finite.get cells q) (Some new_cell)) (cond (has (parts_of us n) q) None (finite.get cells q))
  changed q =
      ap (λ m. finite.get m q) put
      ∙ finite.get-insert partition_cmp_total cells p new_cell q
      ∙ put_at (eq_by_cmp partition_cmp q p) (finite.get cells q) (free_at q)
      ∙ (λ i. cond (sym (owned q) i) (cond (is_some (finite.get cells q)) (finite.get cells q) (Some new_cell)) (cond (sym (consistent n q) i) None (finite.get cells q)))

  abbrev granting : Settling
  granting =
      record {
        before = us;
        numbered = us;
        after = after;
        cells_before = cells;
        cells_after = cells_after;
        member = m;
        number = n;
        target = next;
        next = next;
        epoch = since;
      }

  is_granting : IsSettling granting
  is_granting = record {
    consistent = consistent;
    found = Some n;
    of_member = of_m;
    is_next = is_next;
    kept = λ k x is. is;
    parts = λ k. refl;
    of_number = of_m;
    changed = changed;
    sets = sets;
  }

  pub AreConsistent-granted : AreConsistent after cells_after
  AreConsistent-granted = AreConsistent-settled granting is_granting

  abbrev held_before : Holders
  held_before = holders_of us cells

  pub holders_of-granted : holders_of after cells_after ≡ finite.insert (holders_of us cells) p (record { member = m; since = since })
  holders_of-granted =
      finite.same_map partition_cmp_total partition_cmp-IsAntisymmetric _ _
      (λ q. Settles-settled granting is_granting q
      ∙ ap (λ b. settled_holder m since b (finite.get held_before q)) (in_next q ∙ ap (λ b. eq_by_cmp partition_cmp q p || b) (sym (holds-number us cells consistent m (Some n) of_m q)))
      ∙ at (eq_by_cmp partition_cmp q p) (finite.get held_before q) (λ so. get-holders_of us cells q ∙ ap (option_map (held_by us)) (free_at q so))
      ∙ sym (finite.get-insert partition_cmp_total held_before p (record { member = m; since = since }) q))
    where
      stays : (d : Held) (b : Bool) → eq_by_cmp text_cmp m d.member ≡ b → settled_holder m since b (Some d) ≡ Some d
      stays d true is = refl
      stays d false is = ap (λ b. cond b None (Some d)) is

      at : (tie : Bool) (o : Option Held) → (tie ≡ true → o ≡ None)
          → settled_holder m since (tie || option_map_or (λ d. eq_by_cmp text_cmp m d.member) o false) o ≡ cond tie (Some (record { member = m; since = since })) o
      at true o none = ap (settled_holder m since true) (none refl)
      at false None none = refl
      at false (Some d) none = stays d (eq_by_cmp text_cmp m d.member) refl
