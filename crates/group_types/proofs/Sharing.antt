-- The other member that has the instance of a heartbeat.
use Rattle.std.proofs.Common.{◌≡◌, ◌≢◌, Bool, true, false, not, ◌&&◌, Option, Some, None, refl, sym, ap, ◌∙◌, true≢false}
use Rattle.std.specs.Option.{option_map}
use Rattle.std.specs.Ordering.{eq_by_cmp}
use Rattle.std.specs.FinMap as finite
use Rattle.group_types.specs.Text.{Text, text_cmp}
use Rattle.group_types.specs.Group.{Record, Records}
use Rattle.group_types.specs.Members.{HasInstance}
use Rattle.group_types.specs.Checks.{Member, has_instance, member_at, other_id_with, other_with}
use Rattle.group_types.proofs.Lookups.{not_none, some_is, text_ties}
use Rattle.group_types.proofs.Senders.{find_passes, no_other, other_is}

first_of_both : (a b : Bool) → (not a && b) ≡ true → a ≡ false
first_of_both true b never = absurd (true≢false (sym never))
first_of_both false b is = refl

-- the other is another
other_differs : (records : Records) (m : Text) (instance : Option Text) (old : Member) → other_with records m instance ≡ Some old → m ≢ old.id
other_differs records m None old is = absurd (not_none old is)
other_differs records m (Some j) old is = by (other_id_with records m j) refl is
  where
    by : (o : Option Text) → other_id_with records m j ≡ o → member_at records o ≡ Some old → m ≢ old.id
    by None none is = absurd (not_none old is)
    by (Some k) there is = λ same.
        let test : Text → Bool = λ n. not (eq_by_cmp text_cmp m n) && has_instance j (finite.get records n) in
        let apart : eq_by_cmp text_cmp m k ≡ false = first_of_both _ _ (find_passes test (finite.keys records) k there) in
        let same_id : k ≡ old.id = id_of (finite.get records k) is in
        true≢false (sym (text_ties m) ∙ ap (eq_by_cmp text_cmp m) (same ∙ sym same_id) ∙ apart)
      where
        id_of : (o : Option Record) → option_map (λ r. record { id = k; kept = r }) o ≡ Some old → k ≡ old.id
        id_of None never = absurd (not_none old never)
        id_of (Some r) is = ap (λ (x : Member). x.id) (some_is (record { id = k; kept = r }) old is)

none_but : {X : Type 0} (o : Option X) → ((x : X) → o ≡ Some x → ⊥) → o ≡ None
none_but None never = refl
none_but (Some x) never = absurd (never x refl)

-- where an instance is one member's
module _ (records : Records)
    (instances : (m n : Text) (r t : Record) (i : Text) → finite.get records m ≡ Some r → finite.get records n ≡ Some t → r.instance ≡ Some i → t.instance ≡ Some i → m ≡ n)
    (m : Text) where
  -- nobody has the instance
  pub nobody_has : (j : Text) → ((n : Text) → ¬ HasInstance records n j) → other_with records m (Some j) ≡ None
  nobody_has j none = none_but _ (λ old is.
      let there = other_is records m (Some j) old is in
      none old.id (record { kept = old.kept; is_kept = there.0; same = there.1 }))

  -- the member itself has it
  pub only_itself : (j : Text) (r : Record) → finite.get records m ≡ Some r → r.instance ≡ Some j → other_with records m (Some j) ≡ None
  only_itself j r kept has = none_but _ (λ old is.
      let there = other_is records m (Some j) old is in
      other_differs records m (Some j) old is (instances m old.id r old.kept j kept there.0 has there.1))

  -- another one has it
  pub another_has : (j n : Text) (r : Record) → finite.get records n ≡ Some r → r.instance ≡ Some j → n ≢ m → other_with records m (Some j) ≡ Some (record { id = n; kept = r })
  another_has j n r kept has other = by (other_with records m (Some j)) refl
    where
      by : (o : Option Member) → other_with records m (Some j) ≡ o → o ≡ Some (record { id = n; kept = r })
      by None none = absurd (no_other records m (Some j) none n r j other kept refl has)
      by (Some old) is =
          let there = other_is records m (Some j) old is in
          let same : old.id ≡ n = instances old.id n old.kept r j there.0 kept there.1 has in
          let record_is : old.kept ≡ r = some_is old.kept r (sym there.0 ∙ ap (finite.get records) same ∙ kept) in
          λ i. Some (record { id = same i; kept = record_is i })
