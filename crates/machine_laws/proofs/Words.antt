-- Limits, names, ids and stamps, each in words of its own.
use Rattle.std.proofs.Common.{◌≡◌, inl, inr, ℕ, ◌<◌, Bool, true, false, cond, Option, Some, None, refl, ap, bytes_eq, codes, arith, nat_cmp, Ordering, Less, Equal, Greater}
use Rattle.std.specs.Ordering.{MatchOrdering, ordering_then}
use Rattle.std.proofs.lemmas.Cmp.{ranked}
use Rattle.std.proofs.lemmas.Slice.Eq.{bytes_eq-Decides}
use Rattle.uuid.specs.Text.{by_index}
use Rattle.group_types.specs.declared.assignor_name.AssignorName.{AssignorName}
use Rattle.group_types.specs.declared.assignor_name.AssignorName.TheVariants.{Range, Uniform}
use Rattle.group_types.specs.declared.stamp.Stamp.{Stamp}
use Rattle.group_types.specs.AssignorName.{assignor_named}
use Rattle.machine_laws.specs.Limits.{LimitsByHand}
use Rattle.machine_laws.specs.Names.{AssignorsAreNamed, IdsByHand}
use Rattle.machine_laws.specs.Stamps.{ComesAfter, StampsAreOrdered}

pub limits_by_hand : LimitsByHand
limits_by_hand =
    record {
      longest_text = refl;
      longest_id = refl;
      smallest_body = refl;
      largest_body = refl;
      longest_metadata = refl;
      most_topics = refl;
      most_topic_partitions = refl;
      most_partitions = refl;
      most_members = refl;
      most_groups = refl;
      most_past_members = refl;
      greatest_epoch = refl;
      session_timeout = refl;
      heartbeat_interval = refl;
      leaves_at = refl;
      goes_away_at = refl;
      same_timeout = refl;
    }

pub ids_by_hand : IdsByHand
unfolding by_index
ids_by_hand = record { first = refl; salt_and_serial = refl; last = refl }

-- ---- names

-- of two tests which passes
abbrev named_by : Bool → Bool → Option AssignorName
named_by range uniform = cond range (Some Range) (cond uniform (Some Uniform) None)

is_range : (range uniform : Bool) → named_by range uniform ≡ Some Range → range ≡ true
is_range true uniform is = refl
is_range false true is = absurd cc
is_range false false is = absurd cc

is_uniform : (range uniform : Bool) → named_by range uniform ≡ Some Uniform → uniform ≡ true
is_uniform true uniform is = absurd cc
is_uniform false true is = refl
is_uniform false false is = absurd cc

pub assignors_are_named : AssignorsAreNamed
assignors_are_named =
    record {
      range = λ text. (λ is. (bytes_eq-Decides text (codes "range")).0 (is_range (bytes_eq text (codes "range")) (bytes_eq text (codes "uniform")) is), λ is. ap assignor_named is);
      uniform = λ text. (λ is. (bytes_eq-Decides text (codes "uniform")).0 (is_uniform (bytes_eq text (codes "range")) (bytes_eq text (codes "uniform")) is), λ is. ap assignor_named is);
    }

-- ---- stamps

abbrev Ranked : ℕ → ℕ → Ordering → Type 0
Ranked a b o = MatchOrdering o (a < b) (a ≡ b) (b < a)

comes_after : (s t : Stamp) (connections frames : Ordering) → Ranked s.connection t.connection connections → Ranked s.frame t.frame frames
    → ordering_then connections frames ≡ Greater → ComesAfter s t
comes_after s t Less frames one other is = absurd cc
comes_after s t Equal Less one other is = absurd cc
comes_after s t Equal Equal one other is = absurd cc
comes_after s t Equal Greater one other is = inr (one, other)
comes_after s t Greater frames one other is = inl one

is_greater : (s t : Stamp) (connections frames : Ordering) → Ranked s.connection t.connection connections → Ranked s.frame t.frame frames
    → ComesAfter s t → ordering_then connections frames ≡ Greater
is_greater s t Less frames one other (inl later) = absurd (omega (arith, one, later))
is_greater s t Less frames one other (inr later) = let same = later.0 in absurd (omega (arith, one, same))
is_greater s t Equal frames one other (inl later) = absurd (omega (arith, one, later))
is_greater s t Equal Less one other (inr later) = let after = later.1 in absurd (omega (arith, other, after))
is_greater s t Equal Equal one other (inr later) = let after = later.1 in absurd (omega (arith, other, after))
is_greater s t Equal Greater one other (inr later) = refl
is_greater s t Greater frames one other later = refl

pub stamps_are_ordered : StampsAreOrdered
stamps_are_ordered s t =
    let one = ranked s.connection t.connection (nat_cmp s.connection t.connection) refl in
    let other = ranked s.frame t.frame (nat_cmp s.frame t.frame) refl in (
      comes_after s t (nat_cmp s.connection t.connection) (nat_cmp s.frame t.frame) one other,
      is_greater s t (nat_cmp s.connection t.connection) (nat_cmp s.frame t.frame) one other,
    )
