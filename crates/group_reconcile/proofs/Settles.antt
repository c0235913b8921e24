-- A member is settled on its next partitions: what the cells and the member table say then.
use Rattle.std.proofs.Common.{◌≡◌, ◌⊎◌, inl, inr, ℕ, Bool, true, false, cond, ◌&&◌, ◌==◌, [], refl, sym, ap, ◌∙◌, Option, Some, None, is_some, true≢false}
use Rattle.std.specs.Option.{option_map, option_map_or}
use Rattle.std.specs.Ordering.{eq_by_cmp}
use Rattle.std.specs.FinMap as finite
use Rattle.std.proofs.lemmas.Bool.Decides.{Decides-eqb, same_from_decides}
use Rattle.slab.specs.Slab.{get}
use Rattle.group_types.specs.declared.partition.Partition.{Partition}
use Rattle.group_types.specs.Text.{Text, text_cmp}
use Rattle.group_types.specs.Sets.{nothing, has}
use Rattle.group_types.specs.Partition.{Partitions}
use Rattle.group_types.proofs.Lookups.{some_is}
use Rattle.group_types.proofs.Orders.{partition_cmp_total, partition_cmp-IsAntisymmetric}
use Rattle.group_reconcile.specs.declared.cell.Cell.{Cell}
use Rattle.group_reconcile.specs.declared.members.Member.{Member}
use Rattle.group_reconcile.specs.Granted.{AreConsistent, held_by, holders_of}
use Rattle.group_reconcile.specs.Holders.{Held, Holders, Settles, settled_holder}
use Rattle.group_reconcile.specs.Members.{IsNumberOf, KeepsMembers, KeepsParts, MemberTable, SetsParts, id_of, is_number, parts_of, with_parts}
use Rattle.group_reconcile.specs.Offers.{IsSince}
use Rattle.group_reconcile.specs.Settling.{IsNext}
use Rattle.group_reconcile.specs.Tables.{Cells}
use Rattle.group_reconcile.proofs.Granted.{get-holders_of, known}
use Rattle.group_reconcile.proofs.Leaving.{named-known}
use Rattle.group_reconcile.proofs.Numbers.{has_id-is}
use Rattle.group_reconcile.proofs.Bools.{and_true, same_both}

-- ---- since when

-- what a settling leaves keeps its epoch, and what it grants has the target's
pub IsSince-settled : (h n : Holders) (m : Text) (target : Partitions) (epoch : ℕ) → Settles h m target epoch n → IsSince h n m epoch
IsSince-settled h n m target epoch settles p d is = at (has target p) (finite.get h p) refl (sym (settles p) ∙ is)
  where
    some_or_not : (b : Bool) (e : Held) → cond b None (Some e) ≡ Some d → Some e ≡ Some d
    some_or_not true e is = absurd (true≢false (sym (ap is_some is)))
    some_or_not false e is = is

    at : (wanted : Bool) (o : Option Held) → finite.get h p ≡ o → settled_holder m epoch wanted o ≡ Some d
        → (finite.get h p ≡ Some d) ⊎ ((d ≡ record { member = m; since = epoch }) × (finite.get h p ≡ None))
    at true None was is = inr (sym (some_is (record { member = m; since = epoch }) d is), was)
    at true (Some e) was is = inl (was ∙ is)
    at false None was is = absurd (true≢false (sym (ap is_some is)))
    at false (Some e) was is = inl (was ∙ some_or_not (eq_by_cmp text_cmp m e.member) e is)

-- ---- a member table in which no member has changed, though there may be more of them

module _ (ms us : MemberTable) (cells : Cells) (consistent : AreConsistent ms cells) (kept : KeepsMembers ms us) (parts : KeepsParts ms us) where
  pub AreConsistent-kept : AreConsistent us cells
  AreConsistent-kept k p = ap (λ s. has s p) (parts k) ∙ consistent k p

  -- who holds a partition has the id that it had
  pub same_holder : (p : Partition) (c : Cell) → finite.get cells p ≡ Some c → id_of us c.holder ≡ id_of ms c.holder
  same_holder p c is = at (get ms c.holder) refl (known ms cells consistent p c is)
    where
      at : (o : Option Member) → get ms c.holder ≡ o → is_some o ≡ true → id_of us c.holder ≡ option_map_or (λ m. m.id) o []
      at None was there = absurd (true≢false (sym there))
      at (Some m) was there = ap (λ o. option_map_or (λ m. m.id) o []) (kept c.holder m was)

  pub holders_of-kept : holders_of us cells ≡ holders_of ms cells
  holders_of-kept =
      finite.same_map partition_cmp_total partition_cmp-IsAntisymmetric _ _
      (λ p. get-holders_of us cells p ∙ at p (finite.get cells p) refl ∙ sym (get-holders_of ms cells p))
    where
      at : (p : Partition) (o : Option Cell) → finite.get cells p ≡ o → option_map (held_by us) o ≡ option_map (held_by ms) o
      at p None is = refl
      at p (Some c) is = ap (λ id. Some (record { member = id; since = c.since })) (same_holder p c is)

-- ---- the settling

turned : (k n : ℕ) → (k == n) ≡ (n == k)
turned k n = same_from_decides _ _ (Decides-eqb k n) (λ so. sym ((Decides-eqb n k).0 so), λ is. (Decides-eqb n k).1 (sym is))

-- what was granted or freed
abbrev settled_cell : Cell → Bool → Bool → Option Cell → Option Cell
settled_cell new mine wanted None = cond wanted (Some new) None
settled_cell new mine wanted (Some c) = cond wanted (Some c) (cond mine None (Some c))

-- the tables before a settling, the member table once the member has its number, and the tables after it
pub record Settling : Type 0 where
  pub before : MemberTable
  pub numbered : MemberTable
  pub after : MemberTable
  pub cells_before : Cells
  pub cells_after : Cells
  pub member : Text
  pub number : ℕ
  pub target : Partitions
  pub next : Partitions
  pub epoch : ℕ

-- what each step of it does
pub record IsSettling (s : Settling) : Type 0 where
  pub consistent : AreConsistent s.before s.cells_before
  pub found : Option ℕ
  pub of_member : IsNumberOf s.before s.member found
  pub is_next : IsNext s.cells_before found s.target s.next
  pub kept : KeepsMembers s.before s.numbered
  pub parts : KeepsParts s.before s.numbered
  pub of_number : IsNumberOf s.numbered s.member (Some s.number)
  pub changed : (p : Partition) → finite.get s.cells_after p
      ≡ cond (has s.next p) (cond (is_some (finite.get s.cells_before p)) (finite.get s.cells_before p) (Some (record { holder = s.number; since = s.epoch }))) (cond (has (parts_of s.numbered s.number) p) None (finite.get s.cells_before p))
  pub sets : SetsParts s.numbered s.after s.number s.next

module _ (s : Settling) (facts : IsSettling s) where
  abbrev new_cell : Cell
  new_cell = record { holder = s.number; since = s.epoch }

  consistent_numbered : AreConsistent s.numbered s.cells_before
  consistent_numbered = AreConsistent-kept s.before s.numbered s.cells_before facts.consistent facts.kept facts.parts

  -- a cell is the member's by its number as by the id
  mine : (p : Partition) (c : Cell) → finite.get s.cells_before p ≡ Some c → eq_by_cmp text_cmp s.member (id_of s.before c.holder) ≡ (c.holder == s.number)
  mine p c is =
      ap (eq_by_cmp text_cmp s.member) (sym (same_holder s.before s.numbered s.cells_before facts.consistent facts.kept facts.parts p c is))
      ∙ named-known s.numbered s.member c.holder (known s.numbered s.cells_before consistent_numbered p c is)
      ∙ facts.of_number c.holder

  was_mine : (p : Partition) (c : Cell) → finite.get s.cells_before p ≡ Some c → is_number facts.found c.holder ≡ (c.holder == s.number)
  was_mine p c is = sym (facts.of_member c.holder) ∙ sym (named-known s.before s.member c.holder (known s.before s.cells_before facts.consistent p c is)) ∙ mine p c is

  next_at_none : (p : Partition) → finite.get s.cells_before p ≡ None → has s.next p ≡ has s.target p
  next_at_none p is = facts.is_next p ∙ ap (λ o. has s.target p && option_map_or (λ c. is_number facts.found c.holder) o true) is ∙ and_true (has s.target p)

  next_at_some : (p : Partition) (c : Cell) → finite.get s.cells_before p ≡ Some c → has s.next p ≡ (has s.target p && (c.holder == s.number))
  next_at_some p c is =
      facts.is_next p ∙ ap (λ o. has s.target p && option_map_or (λ c. is_number facts.found c.holder) o true) is ∙ ap (λ b. has s.target p && b) (was_mine p c is)

  after_at : (p : Partition) (o : Option Cell) → finite.get s.cells_before p ≡ o → finite.get s.cells_after p ≡ settled_cell new_cell (option_map_or (λ c. c.holder == s.number) o false) (has s.target p) o
  after_at p None is =
      facts.changed p ∙ (λ i. cond (next_at_none p is i) (cond (is_some (is i)) (is i) (Some new_cell)) (cond (has (parts_of s.numbered s.number) p) None (is i)))
      ∙ ap (cond (has s.target p) (Some new_cell)) (same_both (has (parts_of s.numbered s.number) p) None)
  after_at p (Some c) is =
      facts.changed p
      ∙ (λ i. cond (next_at_some p c is i) (cond (is_some (is i)) (is i) (Some new_cell)) (cond ((consistent_numbered s.number p ∙ ap (λ o. option_map_or (λ c. c.holder == s.number) o false) is) i) None (is i)))
      ∙ simpler (has s.target p) (c.holder == s.number)
    where
      simpler : (t e : Bool) → cond (t && e) (Some c) (cond e None (Some c)) ≡ cond t (Some c) (cond e None (Some c))
      simpler true true = refl
      simpler true false = refl
      simpler false e = refl

  -- the ids stay, and the member has its new set
  same_ids : (k : ℕ) → id_of s.after k ≡ id_of s.numbered k
  same_ids k = ap (λ o. option_map_or (λ m. m.id) o []) (facts.sets k) ∙ at (k == s.number) (get s.numbered k)
    where
      at : (b : Bool) (o : Option Member) → option_map_or (λ m. m.id) (cond b (option_map (with_parts s.next) o) o) [] ≡ option_map_or (λ m. m.id) o []
      at true None = refl
      at true (Some m) = refl
      at false o = refl

  parts_set : (k : ℕ) → parts_of s.after k ≡ cond (k == s.number) s.next (parts_of s.numbered k)
  parts_set k = ap (λ o. option_map_or (λ m. m.parts) o nothing) (facts.sets k) ∙ at (k == s.number) (get s.numbered k) (λ same. ap (λ l. is_some (get s.numbered l)) ((Decides-eqb k s.number).0 same) ∙ there)
    where
      there : is_some (get s.numbered s.number) ≡ true
      there = (has_id-is s.numbered s.member s.number (facts.of_number s.number ∙ (Decides-eqb s.number s.number).1 refl)).0

      at : (b : Bool) (o : Option Member) → (b ≡ true → is_some o ≡ true)
          → option_map_or (λ m. m.parts) (cond b (option_map (with_parts s.next) o) o) nothing ≡ cond b s.next (option_map_or (λ m. m.parts) o nothing)
      at true None some = absurd (true≢false (sym (some refl)))
      at true (Some m) some = refl
      at false o some = refl

  pub AreConsistent-settled : AreConsistent s.after s.cells_after
  AreConsistent-settled k p =
      ap (λ s. has s p) (parts_set k)
      ∙ at (k == s.number) refl (finite.get s.cells_before p) refl
      ∙ sym (ap (λ o. option_map_or (λ c. c.holder == k) o false) (after_at p (finite.get s.cells_before p) refl))
    where
      granted : (t b : Bool) → (k == s.number) ≡ b → cond b t false ≡ option_map_or (λ c. c.holder == k) (cond t (Some new_cell) None) false
      granted true true same = sym (turned s.number k ∙ same)
      granted true false other = sym (turned s.number k ∙ other)
      granted false true same = refl
      granted false false other = refl

      held : (c : Cell) (t e b : Bool) → (k == s.number) ≡ b → (c.holder == s.number) ≡ e → cond b (t && e) (c.holder == k) ≡ option_map_or (λ c. c.holder == k) (cond t (Some c) (cond e None (Some c))) false
      held c true e true same is = sym (ap (λ l. c.holder == l) ((Decides-eqb k s.number).0 same) ∙ is)
      held c false true true same is = refl
      held c false false true same is = sym (ap (λ l. c.holder == l) ((Decides-eqb k s.number).0 same) ∙ is)
      held c true e false other is = refl
      held c false true false other is = ap (λ l. l == k) ((Decides-eqb c.holder s.number).0 is) ∙ turned s.number k ∙ other
      held c false false false other is = refl

      in_set : (b : Bool) (s t : Partitions) → has (cond b s t) p ≡ cond b (has s p) (has t p)
      in_set true s t = refl
      in_set false s t = refl

      at : (b : Bool) → (k == s.number) ≡ b → (o : Option Cell) → finite.get s.cells_before p ≡ o
          → has (cond b s.next (parts_of s.numbered k)) p ≡ option_map_or (λ c. c.holder == k) (settled_cell new_cell (option_map_or (λ c. c.holder == s.number) o false) (has s.target p) o) false
      at b same None is =
          in_set b s.next (parts_of s.numbered k)
          ∙ (λ i. cond b (next_at_none p is i) ((consistent_numbered k p ∙ ap (λ o. option_map_or (λ c. c.holder == k) o false) is) i))
          ∙ granted (has s.target p) b same
      at b same (Some c) is =
          in_set b s.next (parts_of s.numbered k)
          ∙ (λ i. cond b (next_at_some p c is i) ((consistent_numbered k p ∙ ap (λ o. option_map_or (λ c. c.holder == k) o false) is) i))
          ∙ held c (has s.target p) (c.holder == s.number) b same refl

  pub Settles-settled : Settles (holders_of s.before s.cells_before) s.member s.target s.epoch (holders_of s.after s.cells_after)
  Settles-settled p =
      get-holders_of s.after s.cells_after p
      ∙ ap (option_map (held_by s.after)) (after_at p (finite.get s.cells_before p) refl)
      ∙ at (finite.get s.cells_before p) refl
      ∙ ap (settled_holder s.member s.epoch (has s.target p)) (sym (get-holders_of s.before s.cells_before p))
    where
      granted : (t : Bool) → option_map (held_by s.after) (cond t (Some new_cell) None) ≡ settled_holder s.member s.epoch t None
      granted true = ap (λ id. Some (record { member = id; since = s.epoch })) (same_ids s.number ∙ (has_id-is s.numbered s.member s.number (facts.of_number s.number ∙ (Decides-eqb s.number s.number).1 refl)).1)
      granted false = refl

      same : (c : Cell) → finite.get s.cells_before p ≡ Some c → held_by s.after c ≡ held_by s.before c
      same c is = ap (λ id. record { member = id; since = c.since }) (same_ids c.holder ∙ same_holder s.before s.numbered s.cells_before facts.consistent facts.kept facts.parts p c is)

      held : (c : Cell) → finite.get s.cells_before p ≡ Some c → (t e : Bool)
          → option_map (held_by s.after) (cond t (Some c) (cond e None (Some c))) ≡ cond t (Some (held_by s.before c)) (cond e None (Some (held_by s.before c)))
      held c is true e = ap Some (same c is)
      held c is false true = refl
      held c is false false = ap Some (same c is)

      settled : (c : Cell) (t : Bool) → cond t (Some (held_by s.before c)) (cond (eq_by_cmp text_cmp s.member (id_of s.before c.holder)) None (Some (held_by s.before c))) ≡ settled_holder s.member s.epoch t (Some (held_by s.before c))
      settled c true = refl
      settled c false = refl

      at : (o : Option Cell) → finite.get s.cells_before p ≡ o
          → option_map (held_by s.after) (settled_cell new_cell (option_map_or (λ c. c.holder == s.number) o false) (has s.target p) o) ≡ settled_holder s.member s.epoch (has s.target p) (option_map (held_by s.before) o)
      at None is = granted (has s.target p)
      at (Some c) is =
          held c is (has s.target p) (c.holder == s.number)
          ∙ ap (λ e. cond (has s.target p) (Some (held_by s.before c)) (cond e None (Some (held_by s.before c)))) (sym (mine p c is))
          ∙ settled c (has s.target p)
