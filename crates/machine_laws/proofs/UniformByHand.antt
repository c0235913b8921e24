-- What uniform gives of one topic.
use Rattle.std.proofs.Common.{◌≡◌, ◌≢◌, ℕ, zero, suc, ◌≤◌, [], ◌∷◌, Some, refl, sym, ap, subst, ◌∙◌, arith, codes, bytes_eq, slice_get, true≢false}
use Rattle.std.specs.FinMap as finite
use Rattle.std.specs.FinMap.{find}
use Rattle.group_types.specs.declared.partition.Partition.{Partition}
use Rattle.group_types.specs.Text.{Text}
use Rattle.group_types.specs.Partition.{partition_cmp}
use Rattle.group_types.specs.Assignors.{Subscriber}
use Rattle.group_types.specs.Uniform.{AreFilled, IsUniform, in_partition_order}
use Rattle.group_types.proofs.Lookups.{some_is}
use Rattle.uniform_assign.specs.Laws.{UniformIsOneSpread}
use Rattle.machine_laws.specs.Uniform.{UniformByHand, lettered, members, one_topic, owned_from, owners, partition}
use Rattle.machine_laws.proofs.UniformSteps.{Moves, Owned, all_kept, filled, level, next, owner_of, parts_of, same_spreads, spread, stays, subscribes}

abbrev p0 : Partition
p0 = partition 0

abbrev p1 : Partition
p1 = partition 1

abbrev p2 : Partition
p2 = partition 2

abbrev p3 : Partition
p3 = partition 3

abbrev A : ℕ
A = 97

abbrev B : ℕ
B = 98

abbrev C : ℕ
C = 99

abbrev a : Text
a = A ∷ []

abbrev b : Text
b = B ∷ []

abbrev c : Text
c = C ∷ []

abbrev two : Text
two = codes "ab"

abbrev three : Text
three = codes "abc"

-- each of four partitions has an owner
all_four : (letters : Text) (es : Owned) (w x y z : Text) → find partition_cmp p0 es ≡ Some w → find partition_cmp p1 es ≡ Some x → find partition_cmp p2 es ≡ Some y → find partition_cmp p3 es ≡ Some z
    → AreFilled (members letters) (spread es) (in_partition_order (one_topic 4)) (spread es)
all_four letters es w x y z is_w is_x is_y is_z =
    subst (λ xs. AreFilled (members letters) (spread es) xs (spread es)) (sym (parts_of 4)) (
      spread es,
      stays letters es p0 w is_w,
      (spread es, stays letters es p1 x is_x, (spread es, stays letters es p2 y is_y, (spread es, stays letters es p3 z is_z, refl))),
    )

-- ---- in turn

abbrev a_b_a : Owned
a_b_a = (p2, a) ∷ (p1, b) ∷ (p0, a) ∷ []

in_turn : IsUniform (one_topic 3) (members two) (owners []) (spread a_b_a)
in_turn =
    record {
      kept = owners [];
      is_kept = all_kept two 3 [] tt;
      filled = spread a_b_a;
      are_filled = subst (λ xs. AreFilled (members two) (owners []) xs (spread a_b_a)) (sym (parts_of 3)) (
        spread ((p0, a) ∷ []),
        filled A b [] p0 0 (lettered A) refl refl refl,
        (
          spread ((p1, b) ∷ (p0, a) ∷ []),
          filled A b ((p0, a) ∷ []) p1 1 (lettered B) refl refl refl,
          (spread a_b_a, filled A b ((p1, b) ∷ (p0, a) ∷ []) p2 0 (lettered A) refl refl refl, refl),
        ),
      );
      steps = [];
      are_moves = refl;
      is_level = level two 3 a_b_a refl;
    }

-- ---- to the fewest

abbrev a_a : Owned
a_a = owned_from 0 (codes "aa")

abbrev a_a_b_b : Owned
a_a_b_b = (p3, b) ∷ (p2, b) ∷ a_a

to_the_fewest : IsUniform (one_topic 4) (members two) (spread a_a) (spread a_a_b_b)
to_the_fewest =
    record {
      kept = spread a_a;
      is_kept = all_kept two 4 a_a (subscribes two 4 0 A 0 refl refl, (subscribes two 4 0 A 1 refl refl, tt));
      filled = spread a_a_b_b;
      are_filled = subst (λ xs. AreFilled (members two) (spread a_a) xs (spread a_a_b_b)) (sym (parts_of 4)) (
        spread a_a,
        stays two a_a p0 a refl,
        (
          spread a_a,
          stays two a_a p1 a refl,
          (
            spread ((p2, b) ∷ a_a),
            filled A b a_a p2 1 (lettered B) refl refl refl,
            (spread a_a_b_b, filled A b ((p2, b) ∷ a_a) p3 1 (lettered B) refl refl refl, refl),
          ),
        ),
      );
      steps = [];
      are_moves = refl;
      is_level = level two 4 a_a_b_b refl;
    }

-- ---- from the first of the most

abbrev aabb : Owned
aabb = owned_from 0 (codes "aabb")

from_the_first : IsUniform (one_topic 4) (members three) (spread aabb) (spread ((p0, c) ∷ aabb))
from_the_first =
    record {
      kept = spread aabb;
      is_kept = all_kept three 4 aabb
          (subscribes three 4 0 A 0 refl refl, (subscribes three 4 0 A 1 refl refl, (subscribes three 4 1 B 2 refl refl, (subscribes three 4 1 B 3 refl refl, tt))));
      filled = spread aabb;
      are_filled = all_four three aabb a a b b refl refl refl refl;
      steps = spread ((p0, c) ∷ aabb) ∷ [];
      are_moves = (next three 4 aabb 0 p0 (lettered A) 2 (lettered C) refl refl refl refl refl refl refl (λ k move. omega arith), refl);
      is_level = level three 4 ((p0, c) ∷ aabb) refl;
    }

-- ---- to the first of the fewest

abbrev pub aaaa : Owned
aaaa = owned_from 0 (codes "aaaa")

abbrev pub baaa : Owned
baaa = (p0, b) ∷ aaaa

-- a doesn't own the first partition any more
second_part : (k : ℕ) → Moves three 4 baaa 0 k → 1 ≤ k
second_part zero move = absurd (apart (some_is b move.owner.id (sym (owner_of baaa p0 (Some b) refl) ∙ owns) ∙ ap (λ (m : Subscriber). m.id) (sym is_a)))
  where
    is_a : lettered A ≡ move.owner
    is_a = some_is (lettered A) move.owner move.is_member

    is_p0 : (codes "t", p0) ≡ move.moved
    is_p0 = some_is (codes "t", p0) move.moved (sym (ap (λ xs. slice_get xs 0) (parts_of 4)) ∙ move.is_partition)

    owns : finite.get (spread baaa) p0 ≡ Some move.owner.id
    owns = ap (λ (x : Text × Partition). finite.get (spread baaa) x.1) is_p0 ∙ move.owns

    apart : b ≢ a
    apart same = true≢false (ap (λ (t : Text). bytes_eq b t) same)
second_part (suc k) move = omega arith

pub to_the_first : IsUniform (one_topic 4) (members three) (spread aaaa) (spread ((p1, c) ∷ baaa))
to_the_first =
    record {
      kept = spread aaaa;
      is_kept = all_kept three 4 aaaa
          (subscribes three 4 0 A 0 refl refl, (subscribes three 4 0 A 1 refl refl, (subscribes three 4 0 A 2 refl refl, (subscribes three 4 0 A 3 refl refl, tt))));
      filled = spread aaaa;
      are_filled = all_four three aaaa a a a a refl refl refl refl;
      steps = spread baaa ∷ spread ((p1, c) ∷ baaa) ∷ [];
      are_moves = (
        next three 4 aaaa 0 p0 (lettered A) 1 (lettered B) refl refl refl refl refl refl refl (λ k move. omega arith),
        (next three 4 baaa 1 p1 (lettered A) 2 (lettered C) refl refl refl refl refl refl refl second_part, refl),
      );
      is_level = level three 4 ((p1, c) ∷ baaa) refl;
    }

pub uniform_by_hand : UniformIsOneSpread → UniformByHand
uniform_by_hand one =
    record {
      in_turn = λ result is. one (one_topic 3) (members two) (owners []) result (spread a_b_a) is in_turn ∙ same_spreads a_b_a (owned_from 0 (codes "aba")) refl;
      to_the_fewest = λ result is.
          one (one_topic 4) (members two) (owners (codes "aa")) result (spread a_a_b_b) is to_the_fewest ∙ same_spreads a_a_b_b (owned_from 0 (codes "aabb")) refl;
      from_the_first = λ result is.
          one (one_topic 4) (members three) (owners (codes "aabb")) result (spread ((p0, c) ∷ aabb)) is from_the_first
          ∙ same_spreads ((p0, c) ∷ aabb) (owned_from 0 (codes "cabb")) refl;
      to_the_first = λ result is.
          one (one_topic 4) (members three) (owners (codes "aaaa")) result (spread ((p1, c) ∷ baaa)) is to_the_first
          ∙ same_spreads ((p1, c) ∷ baaa) (owned_from 0 (codes "bcaa")) refl;
    }
