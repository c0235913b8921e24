-- What a node knows of its groups, after a heartbeat and after an image.
use Rattle.std.proofs.Common.{◌≡◌, ℕ, ◌+◌, ◌≤◌, ℤ, pos, negsuc, ◌≤ℤ◌, int_lt, Bool, true, false, cond, Option, Some, None, refl, sym, ap, subst, ◌∙◌, arith, true≢false, eqb-true}
use Rattle.std.proofs.lemmas.Int.{ints}
use Rattle.group_types.specs.declared.code.Code.{Code}
use Rattle.group_types.specs.declared.code.Code.TheVariants as codes
use Rattle.group_types.specs.Topics.{Topics}
use Rattle.group_types.specs.HeartbeatStep.{Answer, Replied, Closes, Arrival, HeartbeatStep}
use Rattle.group_types.specs.Group.{Group}
use Rattle.group_types.proofs.Lookups.{some_is, not_none}
use Rattle.group_types.proofs.Answering.{refusal_changes_nothing, closes_when_overtaken}
use Rattle.group_core.specs.Outcome.{IsCurrent, IsCurrentAfter}
use Rattle.coord_node.specs.declared.kept.Kept.{Kept}
use Rattle.coord_node.specs.Steps.{is_success}
use Rattle.coord_node.specs.Answers.{succeeds}
use Rattle.coord_node.specs.Kept.{HasRightNumber, is_same, known_after}

-- numbers that are one
pub current_if_same : (generation : Option ℕ) (image : Topics) (k : Kept) → HasRightNumber generation image k → is_same k.known generation ≡ true → IsCurrent k.group.state image
current_if_same generation image k kept same = by k.known generation refl refl same
  where
    by : (a b : Option ℕ) → k.known ≡ a → generation ≡ b → is_same a b ≡ true → IsCurrent k.group.state image
    by None b is_a is_b same = absurd (true≢false (sym same))
    by (Some n) None is_a is_b same = absurd (true≢false (sym same))
    by (Some n) (Some m) is_a is_b same =
        let one : n ≡ m = eqb-true n m same in
        kept.current m is_b (is_a ∙ ap Some one)

is_success-code : (code : Code) → is_success code ≡ true → code ≡ codes.NoError
is_success-code codes.NoError is = refl
is_success-code codes.UnknownTopicOrPartition is = absurd (true≢false (sym is))
is_success-code codes.OffsetMetadataTooLarge is = absurd (true≢false (sym is))
is_success-code codes.CoordinatorNotAvailable is = absurd (true≢false (sym is))
is_success-code codes.UnknownMemberId is = absurd (true≢false (sym is))
is_success-code codes.InvalidRequest is = absurd (true≢false (sym is))
is_success-code codes.GroupIdNotFound is = absurd (true≢false (sym is))
is_success-code codes.GroupMaxSizeReached is = absurd (true≢false (sym is))
is_success-code codes.FencedMemberEpoch is = absurd (true≢false (sym is))
is_success-code codes.UnreleasedInstanceId is = absurd (true≢false (sym is))
is_success-code codes.UnsupportedAssignor is = absurd (true≢false (sym is))
is_success-code codes.StaleMemberEpoch is = absurd (true≢false (sym is))

-- what gives no success changes nothing
unchanged : (g : Group) (h : Arrival) (a : Answer) (n : Group) → HeartbeatStep g h a n → succeeds a ≡ false → n ≡ g
unchanged g h a n step fails = by a refl fails
  where
    by : (answer : Answer) → a ≡ answer → succeeds answer ≡ false → n ≡ g
    by (Replied r) is failed =
        refusal_changes_nothing g h a n step r is (λ code. true≢false (sym (ap is_success code) ∙ failed))
    by Closes is failed = (closes_when_overtaken g h a n step is).1

not_negative : (z : ℤ) → int_lt z (pos 0) ≡ false → pos 0 ≤ℤ z
not_negative (pos n) is = omega (arith, ints)
not_negative (negsuc n) is = absurd (true≢false is)

module _ (generation : Option ℕ) (image : Topics) (k new : Kept) (kept : HasRightNumber generation image k) where
  same_group : new.group.state ≡ k.group.state → new.known ≡ k.known → HasRightNumber generation image new
  same_group group known =
      record {
        current = λ n at is. subst (λ (g : Group). IsCurrent g image) (sym group) (kept.current n at (sym known ∙ is));
        come = λ n m at is. kept.come n m at (sym known ∙ is);
      }

  nothing_known : new.known ≡ None → HasRightNumber generation image new
  nothing_known none =
      record {
        current = λ n at is. absurd (not_none n (sym none ∙ is));
        come = λ n m at is. absurd (not_none m (sym none ∙ is));
      }

  now_known : IsCurrent new.group.state image → new.known ≡ generation → HasRightNumber generation image new
  now_known current known =
      record { current = λ n at is. current; come = λ n m at is. by n m (some_is m n (sym is ∙ known ∙ at)) }
    where
      by : (n m : ℕ) → m ≡ n → m ≤ n
      by n m same = omega arith

  -- after a heartbeat
  pub HasRightNumber-heartbeat : (h : Arrival) (a : Answer) → HeartbeatStep k.group.state h a new.group.state → IsCurrentAfter a new.group.state image
      → new.known ≡ known_after a k.known generation → HasRightNumber generation image new
  HasRightNumber-heartbeat h a step current known = by a refl current known
    where
      by : (answer : Answer) → a ≡ answer → IsCurrentAfter answer new.group.state image → new.known ≡ known_after answer k.known generation → HasRightNumber generation image new
      by Closes is at known = same_group (unchanged k.group.state h a new.group.state step (ap succeeds is)) known
      by (Replied r) is at known = by_code (is_success r.code) refl (int_lt r.epoch (pos 0)) refl known
        where
          by_code : (b : Bool) → is_success r.code ≡ b → (below : Bool) → int_lt r.epoch (pos 0) ≡ below
              → new.known ≡ cond b (cond below None generation) k.known → HasRightNumber generation image new
          by_code true success true negative known = nothing_known known
          by_code true success false up known = now_known (at (is_success-code r.code success) (not_negative r.epoch up)) known
          by_code false fails below order known = same_group (unchanged k.group.state h a new.group.state step (ap succeeds is ∙ fails)) known

-- the number that comes after one
abbrev pub IsNextNumber : Option ℕ → Option ℕ → Type 0
IsNextNumber before after = (n : ℕ) → after ≡ Some n → (m : ℕ) × (before ≡ Some m) × (n ≡ m + 1)

-- after an image
pub HasRightNumber-image : (before after : Option ℕ) (image new : Topics) → IsNextNumber before after → (k : Kept) → HasRightNumber before image k → HasRightNumber after new k
HasRightNumber-image before after image new next k kept =
    record {
      current = λ n at is. let prior = next n at in let past : n ≤ prior.0 = kept.come prior.0 n prior.1 is in absurd (omega (arith, prior.2));
      come = λ n m at is. let prior = next n at in let past : m ≤ prior.0 = kept.come prior.0 m prior.1 is in omega (arith, prior.2);
    }

-- a group of which nothing is known
pub HasRightNumber-new : (generation : Option ℕ) (image : Topics) (k : Kept) → k.known ≡ None → HasRightNumber generation image k
HasRightNumber-new generation image k none =
    record {
      current = λ n at is. absurd (not_none n (sym none ∙ is));
      come = λ n m at is. absurd (not_none m (sym none ∙ is));
    }
