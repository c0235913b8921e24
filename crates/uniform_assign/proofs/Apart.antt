-- No two places in partition order have one partition.
use Rattle.std.proofs.Common.{◌≡◌, ℕ, suc, List, [], ◌∷◌, ◌++◌, pos, refl, sym, ap, ◌∙◌, arith, inl, inr, Some}
use Rattle.std.specs.FinMap as finite
use Rattle.std.specs.List.{flat_map, range_with_len, slice_get}
use Rattle.std.proofs.lemmas.Option.{get_or_from_slice_get, slice_get_within}
use Rattle.group_types.specs.declared.partition.Partition.{Partition}
use Rattle.group_types.specs.Text.{Text}
use Rattle.group_types.specs.Topics.{Topic, Topics}
use Rattle.group_types.specs.Uniform.{in_partition_order, partitions_of}
use Rattle.group_types.specs.Images.{AreImageTopics}
use Rattle.topic_meta.proofs.Places.{ids_apart-at}
use Rattle.range_assign.proofs.Dealt.{pos_inj}
use Rattle.uniform_assign.proofs.Lists.{flat_map-from, range-from, slice_get-append_cases, slice_get-map_from}
use Rattle.uniform_assign.proofs.Drawn.{AreApart}

AreApart-append : (xs ys : List (Text × Partition)) → AreApart xs → AreApart ys
    → ((i j : ℕ) (x y : Text × Partition) → slice_get xs i ≡ Some x → slice_get ys j ≡ Some y → x.1 ≡ y.1 → ⊥) → AreApart (xs ++ ys)
AreApart-append xs ys one other mixed i j x y is_x is_y same =
    elim (slice_get-append_cases xs ys i x is_x) [
      | inl x_left ↦ elim (slice_get-append_cases xs ys j y is_y) [
        | inl y_left ↦ one i j x y x_left y_left same
        | inr (n, at_n, y_right) ↦ absurd (mixed i n x y x_left y_right same)
      ]
      | inr (m, at_m, x_right) ↦ elim (slice_get-append_cases xs ys j y is_y) [
        | inl y_left ↦ absurd (mixed j m y x y_left x_right (sym same))
        | inr (n, at_n, y_right) ↦ let equal = other m n x y x_right y_right same in omega arith
      ]
    ]

AreApart-flat_map : {X : Type 0} (f : X → List (Text × Partition)) (xs : List X) → ((t : ℕ) (x : X) → slice_get xs t ≡ Some x → AreApart (f x))
    → ((t u : ℕ) (x y : X) (i j : ℕ) (a b : Text × Partition) → slice_get xs t ≡ Some x → slice_get xs u ≡ Some y → slice_get (f x) i ≡ Some a → slice_get (f y) j ≡ Some b → a.1 ≡ b.1 → t ≡ u)
    → AreApart (flat_map f xs)
AreApart-flat_map f [] within between = λ i j x y is_x is_y same. cc
AreApart-flat_map f (x ∷ xs) within between =
    AreApart-append (f x) (flat_map f xs) (within 0 x refl)
    (AreApart-flat_map f xs (λ t. within (suc t)) (λ t u y z i j a b is_y is_z is_a is_b same. let equal : suc t ≡ suc u = between (suc t) (suc u) y z i j a b is_y is_z is_a is_b same in omega arith))
    (λ i j a b is_a is_b same.
    let (u, z, n, is_z, is_n) = flat_map-from f xs j b is_b in
    let equal : 0 ≡ suc u = between 0 (suc u) x z i n a b refl is_z is_a is_n same in
    omega arith)

abbrev part_of : Text × Topic → ℕ → Text × Partition
part_of t n = (t.0, record { topic = t.1.id; index = pos n })

AreApart-topic : (t : Text × Topic) → AreApart (partitions_of t)
AreApart-topic t i j x y is_x is_y same =
    let (m, is_m, same_x) = slice_get-map_from (part_of t) (range_with_len 0 t.1.count) i x is_x in
    let (n, is_n, same_y) = slice_get-map_from (part_of t) (range_with_len 0 t.1.count) j y is_y in
    let indexes : m ≡ n = pos_inj m n (ap (λ z. z.1.index) same_x ∙ ap (λ p. p.index) same ∙ sym (ap (λ z. z.1.index) same_y)) in
    (range-from t.1.count i m is_m).0 ∙ indexes ∙ sym (range-from t.1.count j n is_n).0

part_topic : (t : Text × Topic) (i : ℕ) (x : Text × Partition) → slice_get (partitions_of t) i ≡ Some x → x.1.topic ≡ t.1.id
part_topic t i x is =
    let (m, is_m, same) = slice_get-map_from (part_of t) (range_with_len 0 t.1.count) i x is in
    sym (ap (λ z. z.1.topic) same)

pub AreApart-view : (view : Topics) → AreImageTopics view → AreApart (in_partition_order view)
AreApart-view view are =
    AreApart-flat_map partitions_of (finite.entries view) (λ t x is. AreApart-topic x)
    (λ t u x y i j a b is_x is_y is_a is_b same.
    ids_apart-at view are t u x (slice_get_within (finite.entries view) t x is_x) (slice_get_within (finite.entries view) u y is_y)
    (ap (λ e. e.1.id) (get_or_from_slice_get (finite.entries view) t x x is_x)
    ∙ sym (part_topic x i a is_a) ∙ ap (λ p. p.topic) same ∙ part_topic y j b is_b
    ∙ sym (ap (λ e. e.1.id) (get_or_from_slice_get (finite.entries view) u y x is_y))))
