-- What is wrong with a request, which assignor is none, and when a heartbeat says all.
use Rattle.std.proofs.Common.{◌≡◌, ◌≢◌, ◌⊎◌, inl, inr, ℕ, zero, suc, ℤ, pos, negsuc, Bool, true, false, cond, not, ◌&&◌, ◌||◌, List, [], ◌∷◌, length, Option, Some, None, is_some, is_none, refl, sym, ap, ◌∙◌, arith, true≢false, codes}
use Rattle.std.specs.Ordering.{int_eq}
use Rattle.std.specs.Prelude.{int_lt, int_le}
use Rattle.std.specs.Str.{bytes_eq}
use Rattle.std.proofs.lemmas.Bool.{and_from, and_parts, eqb-true, false_from_ne_true, le-leb, lt-ltb, not-true, or_cases, or_left, or_right}
use Rattle.std.proofs.lemmas.Bool.Decides.{Decides-int_eq}
use Rattle.std.proofs.lemmas.Slice.Eq.{bytes_eq-Decides}
use Rattle.group_types.specs.declared.assignor_name.AssignorName.TheVariants.{Range, Uniform}
use Rattle.group_types.specs.Text.{Text}
use Rattle.group_types.specs.AssignorName.{assignor_named}
use Rattle.group_types.specs.Request.{Heartbeat, is_empty, is_full, is_given_empty, is_given_some, is_invalid, is_invalid_as, is_invalid_join, is_unknown, is_unsupported, kind_of}
use Rattle.machine_laws.specs.Requests.{AsksForAnother, IsWrong, RequestsByReason, SaysAll, no_group, epoch_below_minus_2, no_member, no_instance_to_go_away, timeout_below_minus_1, join_without_timeout, join_without_names, join_under_empty_instance, join_that_owns, joins, gives}

-- ---- tests

empty_is : {X : Type 0} (xs : List X) → is_empty xs ≡ true → xs ≡ []
empty_is [] so = refl
empty_is (x ∷ xs) so = let never = eqb-true (length (x ∷ xs)) 0 so in absurd (omega (arith, never))

none_is : {X : Type 0} (o : Option X) → is_none o ≡ true → o ≡ None
none_is None so = refl
none_is (Some x) never = absurd (true≢false (sym never))

given_empty_is : (o : Option Text) → is_given_empty o ≡ true → o ≡ Some []
given_empty_is None never = absurd (true≢false (sym never))
given_empty_is (Some xs) so = ap Some (empty_is xs so)

below_minus_1 : (z : ℤ) → int_lt z (negsuc 0) ≡ true → (n : ℕ) × (z ≡ negsuc (suc n))
below_minus_1 (pos n) never = absurd (true≢false (sym never))
below_minus_1 (negsuc zero) never = absurd (true≢false (sym never))
below_minus_1 (negsuc (suc n)) so = (n, refl)

is_below : (z : ℤ) (n : ℕ) → z ≡ negsuc (suc n) → int_lt z (negsuc 0) ≡ true
is_below z n is = ap (λ (x : ℤ). int_lt x (negsuc 0)) is ∙ lt-ltb 0 (suc n) (omega arith)

-- ---- INVALID_REQUEST

module _ (q : Heartbeat) where
  abbrev NoTimeout : Bool
  NoTimeout = int_eq q.rebalance_timeout (negsuc 0)

  abbrev NoNames : Bool
  NoNames = is_none q.names

  abbrev Empty : Bool
  Empty = is_given_empty q.instance

  join_reason : q.epoch ≡ pos 0 → is_invalid_join q ≡ true → IsWrong q
  join_reason is_join so = fourth (or_cases (NoTimeout || NoNames || Empty) (is_given_some q.owned) so)
    where
      first : (NoTimeout ≡ true) ⊎ (NoNames ≡ true) → IsWrong q
      first (inl same) = join_without_timeout is_join ((Decides-int_eq q.rebalance_timeout (negsuc 0)).0 same)
      first (inr none) = join_without_names is_join (none_is q.names none)

      third : ((NoTimeout || NoNames) ≡ true) ⊎ (Empty ≡ true) → IsWrong q
      third (inl so) = first (or_cases NoTimeout NoNames so)
      third (inr empty) = join_under_empty_instance is_join (given_empty_is q.instance empty)

      owns : (o : Option (List _)) → q.owned ≡ o → is_given_some o ≡ true → IsWrong q
      owns None is never = absurd (true≢false (sym never))
      owns (Some []) is never = absurd (true≢false (sym never))
      owns (Some (p ∷ others)) is so = join_that_owns p others is_join is

      fourth : ((NoTimeout || NoNames || Empty) ≡ true) ⊎ (is_given_some q.owned ≡ true) → IsWrong q
      fourth (inl so) = third (or_cases (NoTimeout || NoNames) Empty so)
      fourth (inr some) = owns q.owned refl some

  timeout_reason : (n : ℕ) → q.epoch ≡ pos n → int_lt q.rebalance_timeout (negsuc 0) ≡ true → IsWrong q
  timeout_reason n epoch so = let less = below_minus_1 q.rebalance_timeout so in timeout_below_minus_1 n less.0 epoch less.1

  not_a_join : (e : ℤ) → q.epoch ≡ e → e ≢ pos 0 → q.epoch ≢ pos 0
  not_a_join e is other is_join = other (sym is ∙ is_join)

  member_reason : (e : ℤ) → q.epoch ≡ e → e ≢ pos 0 → is_empty q.member ≡ true → IsWrong q
  member_reason e is other so = no_member (not_a_join e is other) (empty_is q.member so)

  reason_at : (e : ℤ) → q.epoch ≡ e → is_invalid_as q (kind_of e) ≡ true → IsWrong q
  reason_at (pos zero) is so = by (or_cases (int_lt q.rebalance_timeout (negsuc 0)) (is_invalid_join q) so)
    where
      by : (int_lt q.rebalance_timeout (negsuc 0) ≡ true) ⊎ (is_invalid_join q ≡ true) → IsWrong q
      by (inl less) = timeout_reason 0 is less
      by (inr wrong) = join_reason is wrong
  reason_at (pos (suc n)) is so = by (or_cases (is_empty q.member) (int_lt q.rebalance_timeout (negsuc 0)) so)
    where
      by : (is_empty q.member ≡ true) ⊎ (int_lt q.rebalance_timeout (negsuc 0) ≡ true) → IsWrong q
      by (inl empty) = member_reason (pos (suc n)) is (λ same. cc) empty
      by (inr less) = timeout_reason (suc n) is less
  reason_at (negsuc zero) is so = member_reason (negsuc 0) is (λ same. cc) so
  reason_at (negsuc (suc zero)) is so = by (or_cases (is_empty q.member) (is_none q.instance) so)
    where
      by : (is_empty q.member ≡ true) ⊎ (is_none q.instance ≡ true) → IsWrong q
      by (inl empty) = member_reason (negsuc 1) is (λ same. cc) empty
      by (inr none) = no_instance_to_go_away is (none_is q.instance none)
  reason_at (negsuc (suc (suc n))) is so = epoch_below_minus_2 n is

  reason : is_invalid q ≡ true → IsWrong q
  reason so = by (or_cases (is_empty q.group) (is_invalid_as q (kind_of q.epoch)) so)
    where
      by : (is_empty q.group ≡ true) ⊎ (is_invalid_as q (kind_of q.epoch) ≡ true) → IsWrong q
      by (inl empty) = no_group (empty_is q.group empty)
      by (inr wrong) = reason_at q.epoch refl wrong

  -- and back

  as_at : (e : ℤ) → q.epoch ≡ e → is_invalid_as q (kind_of e) ≡ true → is_invalid q ≡ true
  as_at e is so = or_right (is_empty q.group) (is_invalid_as q (kind_of q.epoch)) (ap (λ (x : ℤ). is_invalid_as q (kind_of x)) is ∙ so)

  as_join : q.epoch ≡ pos 0 → is_invalid_join q ≡ true → is_invalid q ≡ true
  as_join is_join so = as_at (pos 0) is_join (or_right (int_lt q.rebalance_timeout (negsuc 0)) (is_invalid_join q) so)

  without_member : (e : ℤ) → q.epoch ≡ e → e ≢ pos 0 → is_empty q.member ≡ true → is_invalid q ≡ true
  without_member (pos zero) is other so = absurd (other refl)
  without_member (pos (suc n)) is other so = as_at (pos (suc n)) is (or_left (is_empty q.member) _ so)
  without_member (negsuc zero) is other so = as_at (negsuc 0) is so
  without_member (negsuc (suc zero)) is other so = as_at (negsuc 1) is (or_left (is_empty q.member) _ so)
  without_member (negsuc (suc (suc n))) is other so = as_at (negsuc (suc (suc n))) is refl

  with_timeout : (n : ℕ) → q.epoch ≡ pos n → int_lt q.rebalance_timeout (negsuc 0) ≡ true → is_invalid q ≡ true
  with_timeout zero is so = as_at (pos 0) is (or_left (int_lt q.rebalance_timeout (negsuc 0)) _ so)
  with_timeout (suc n) is so = as_at (pos (suc n)) is (or_right (is_empty q.member) _ so)

  is_wrong_so : IsWrong q → is_invalid q ≡ true
  is_wrong_so (no_group is) = or_left (is_empty q.group) _ (ap (λ (t : Text). is_empty t) is)
  is_wrong_so (epoch_below_minus_2 n is) = as_at (negsuc (suc (suc n))) is refl
  is_wrong_so (no_member other empty) = without_member q.epoch refl other (ap (λ (t : Text). is_empty t) empty)
  is_wrong_so (no_instance_to_go_away is none) = as_at (negsuc 1) is (or_right (is_empty q.member) _ (ap is_none none))
  is_wrong_so (timeout_below_minus_1 epoch n is less) = with_timeout epoch is (is_below q.rebalance_timeout n less)
  is_wrong_so (join_without_timeout is_join same) =
      as_join is_join
      (or_left (NoTimeout || NoNames || Empty) _ (or_left (NoTimeout || NoNames) _ (or_left NoTimeout _ ((Decides-int_eq q.rebalance_timeout (negsuc 0)).1 same))))
  is_wrong_so (join_without_names is_join none) =
      as_join is_join (or_left (NoTimeout || NoNames || Empty) _ (or_left (NoTimeout || NoNames) _ (or_right NoTimeout _ (ap is_none none))))
  is_wrong_so (join_under_empty_instance is_join is) =
      as_join is_join (or_left (NoTimeout || NoNames || Empty) _ (or_right (NoTimeout || NoNames) _ (ap is_given_empty is)))
  is_wrong_so (join_that_owns p others is_join is) = as_join is_join (or_right (NoTimeout || NoNames || Empty) _ (owns is))
    where
      owns : q.owned ≡ Some (p ∷ others) → is_given_some q.owned ≡ true
      owns is = ap is_given_some is ∙ some_so
        where
          some_so : is_given_some (Some (p ∷ others)) ≡ true
          some_so = grind arith

-- ---- UNSUPPORTED_ASSIGNOR

named_none : (name : Text) → is_none (assignor_named name) ≡ true → (name ≢ codes "range") × (name ≢ codes "uniform")
named_none name so = by (bytes_eq name (codes "range")) (bytes_eq name (codes "uniform")) refl refl so
  where
    by : (a b : Bool) → bytes_eq name (codes "range") ≡ a → bytes_eq name (codes "uniform") ≡ b
        → is_none (cond a (Some Range) (cond b (Some Uniform) None)) ≡ true → (name ≢ codes "range") × (name ≢ codes "uniform")
    by true b is_a is_b never = absurd (true≢false (sym never))
    by false true is_a is_b never = absurd (true≢false (sym never))
    by false false is_a is_b so = (
      λ same. true≢false (sym ((bytes_eq-Decides name (codes "range")).1 same) ∙ is_a),
      λ same. true≢false (sym ((bytes_eq-Decides name (codes "uniform")).1 same) ∙ is_b),
    )

none_named : (name : Text) → name ≢ codes "range" → name ≢ codes "uniform" → is_none (assignor_named name) ≡ true
none_named name not_range not_uniform = by (bytes_eq name (codes "range")) (bytes_eq name (codes "uniform")) refl refl
  where
    by : (a b : Bool) → bytes_eq name (codes "range") ≡ a → bytes_eq name (codes "uniform") ≡ b → is_none (cond a (Some Range) (cond b (Some Uniform) None)) ≡ true
    by true b is_a is_b = absurd (not_range ((bytes_eq-Decides name (codes "range")).0 is_a))
    by false true is_a is_b = absurd (not_uniform ((bytes_eq-Decides name (codes "uniform")).0 is_b))
    by false false is_a is_b = refl

unsupported : (q : Heartbeat) → is_unsupported q ≡ true → AsksForAnother q
unsupported q so = by q.epoch q.assignor refl refl (and_parts (int_le (pos 0) q.epoch) (is_unknown q.assignor) so)
  where
    by : (e : ℤ) (o : Option Text) → q.epoch ≡ e → q.assignor ≡ o → (int_le (pos 0) e ≡ true) × (is_unknown o ≡ true) → AsksForAnother q
    by (negsuc n) o is_e is_o (never, so) = absurd (true≢false (sym never))
    by (pos n) None is_e is_o (least, never) = absurd (true≢false (sym never))
    by (pos n) (Some name) is_e is_o (least, so) =
        let others = named_none name so in
        record { epoch = n; is_epoch = is_e; name = name; is_name = is_o; not_range = others.0; not_uniform = others.1 }

unsupported_so : (q : Heartbeat) → AsksForAnother q → is_unsupported q ≡ true
unsupported_so q asks =
    and_from (int_le (pos 0) q.epoch) (is_unknown q.assignor)
    (ap (int_le (pos 0)) asks.is_epoch ∙ le-leb 0 asks.epoch (omega arith))
    (ap is_unknown asks.is_name ∙ none_named asks.name asks.not_range asks.not_uniform)

-- ---- a full heartbeat

some_of : {X : Type 0} (o : Option X) → is_some o ≡ true → (x : X) × (o ≡ Some x)
some_of None never = absurd (true≢false (sym never))
some_of (Some x) so = (x, refl)

full : (q : Heartbeat) → is_full q ≡ true → SaysAll q
full q so = by (or_cases (int_eq q.epoch (pos 0)) _ so)
  where
    by : (int_eq q.epoch (pos 0) ≡ true) ⊎ ((not (int_eq q.rebalance_timeout (negsuc 0)) && is_some q.names && is_some q.owned) ≡ true) → SaysAll q
    by (inl same) = joins ((Decides-int_eq q.epoch (pos 0)).0 same)
    by (inr all) =
        let both = and_parts (not (int_eq q.rebalance_timeout (negsuc 0)) && is_some q.names) (is_some q.owned) all in
        let first = and_parts (not (int_eq q.rebalance_timeout (negsuc 0))) (is_some q.names) both.0 in
        let names = some_of q.names first.1 in
        let owned = some_of q.owned both.1 in
        gives names.0 owned.0
        (λ same. true≢false (sym ((Decides-int_eq q.rebalance_timeout (negsuc 0)).1 same) ∙ not-true (int_eq q.rebalance_timeout (negsuc 0)) first.0))
        names.1 owned.1

full_so : (q : Heartbeat) → SaysAll q → is_full q ≡ true
full_so q (joins at) = or_left (int_eq q.epoch (pos 0)) _ ((Decides-int_eq q.epoch (pos 0)).1 at)
full_so q (gives names owned other is_names is_owned) =
    or_right (int_eq q.epoch (pos 0)) _
    (and_from (not (int_eq q.rebalance_timeout (negsuc 0)) && is_some q.names) (is_some q.owned)
    (and_from (not (int_eq q.rebalance_timeout (negsuc 0))) (is_some q.names)
    (ap not (false_from_ne_true (int_eq q.rebalance_timeout (negsuc 0)) (λ same. other ((Decides-int_eq q.rebalance_timeout (negsuc 0)).0 same))))
    (ap is_some is_names))
    (ap is_some is_owned))

pub requests_by_reason : RequestsByReason
requests_by_reason =
    record {
      invalid = λ q. (reason q, is_wrong_so q);
      unsupported = λ q. (unsupported q, unsupported_so q);
      full = λ q. (full q, full_so q);
    }
