-- Behind the last owner in member order.
use Rattle.std.proofs.Common.{◌≡◌, ℕ, false, List, length, slice_get, sym, ap, ◌∙◌, true≢false, inl, inr, arith, Option, Some, None}
use Rattle.std.specs.Prelude.{IsSorted}
use Rattle.std.specs.Cmp.{tied_itself}
use Rattle.std.specs.Ordering.{is_lt}
use Rattle.std.specs.declared.cmp.Ordering.{Ordering}
use Rattle.std.proofs.lemmas.Bool.{cases_order}
use Rattle.std.proofs.lemmas.List.Sorted.{ranks_by, sorted_far}
use Rattle.std.proofs.lemmas.Option.{get_or_from_slice_get, same_Some, slice_get_within}
use Rattle.group_types.specs.Assignors.{Subscriber, instance_cmp, member_cmp}
use Rattle.group_types.specs.Owners.{Spread}
use Rattle.group_types.specs.Text.{Text, text_cmp}
use Rattle.group_types.proofs.Orders.{text_cmp_total}
use Rattle.range_assign.proofs.MemberOrder.{member_cmp_total}
use Rattle.uniform_assign.specs.Former.{EndsOwners, OwnNothingFrom}

-- who isn't before a member without an instance has none, and its id isn't before that member's
not_before : (a b : Option Text) (rest : Ordering) → b ≡ None → is_lt (instance_cmp a b rest) ≡ false → is_lt rest ≡ false
not_before (Some i) b rest none after = absurd (true≢false (sym (ap (λ b. is_lt (instance_cmp (Some i) b rest)) none) ∙ after))
not_before None b rest none after = sym (ap (λ b. is_lt (instance_cmp None b rest)) none) ∙ after

module _ (former : Spread) (subs : List Subscriber) (sorted : IsSorted member_cmp subs) where
  pub nothing_from : (n : ℕ) (s : Subscriber) → slice_get subs n ≡ Some s → EndsOwners former s → OwnNothingFrom former subs n
  nothing_from n s here ends m t p behind is_t =
      let within = slice_get_within subs m t is_t in
      elim (cases_order n m) [
        | inl same ↦
            let own : s ≡ t = same_Some s t (sym here ∙ ap (slice_get subs) same ∙ is_t) in
            ends.none t.id p (ap (λ (u : Subscriber). is_lt (text_cmp t.id u.id)) own ∙ ap is_lt (tied_itself text_cmp_total t.id))
        | inr other ↦ elim other [
          | inl below ↦
              let after : is_lt (member_cmp t s) ≡ false =
              (λ i. is_lt (member_cmp (sym (get_or_from_slice_get subs m t t is_t) i) (sym (get_or_from_slice_get subs n s t here) i)))
              ∙ sorted_far (λ u v. is_lt (member_cmp u v)) (ranks_by member_cmp_total (λ (u : Subscriber). u)) subs sorted n m t (omega (arith, below)) within in
              ends.none t.id p (not_before t.instance s.instance (text_cmp t.id s.id) ends.dynamic after)
          | inr above ↦ absurd (omega (arith, behind, above))
        ]
      ]

  pub nothing_at_end : OwnNothingFrom former subs (length subs)
  nothing_at_end m t p behind is_t = absurd (let within = slice_get_within subs m t is_t in omega (arith, behind, within))
