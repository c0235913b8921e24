-- A target whose partitions are of a view wants no more of a member than the view has.
use Rattle.std.proofs.Common.{◌≡◌, ℕ, zero, suc, ◌+◌, ◌-◌, ◌≤◌, not, ◌||◌, ◌&&◌, ℤ, pos, negsuc, Bool, true, false, cond, List, [], ◌∷◌, sum_by, refl, sym, ap, subst, ◌∙◌, arith, true≢false, Some}
use Rattle.std.specs.Ordering.{eq_by_cmp, is_eq, int_cmp}
use Rattle.std.specs.Cmp.{eq_by_cmp_equiv}
use Rattle.std.specs.List.{list_any}
use Rattle.std.specs.Option.{MatchOption}
use Rattle.std.specs.FinMap as finite
use Rattle.std.proofs.lemmas.Bool.Decides.{nat_tests}
use Rattle.std.proofs.lemmas.List.Sums.{sum_by-cons}
use Rattle.group_types.specs.declared.partition.Partition.{Partition}
use Rattle.group_types.specs.Limits.{MOST_PARTITIONS}
use Rattle.group_types.specs.Text.{Text, text_cmp}
use Rattle.group_types.specs.Sets.{nothing, common, has, without, size}
use Rattle.group_types.specs.Sound.{IsOfView}
use Rattle.group_core.specs.Stages.{AreOfView}
use Rattle.std.specs.Cmp.{second_so}
use Rattle.group_types.specs.Partition.{partition_cmp, Partitions}
use Rattle.group_types.specs.Topics.{Topic, Topics}
use Rattle.group_types.specs.Assignors.{Subscriber}
use Rattle.group_types.specs.Owners.{Spread, is_index, IsLawful, IsSubscriber, share_of}
use Rattle.group_types.proofs.Orders.{text_cmp_total, partition_cmp_total, partition_cmp-IsAntisymmetric}
use Rattle.group_types.proofs.SetLemmas.{has-common, has-nothing, has-without, size-nothing, size-without, same_set}
use Rattle.group_types.proofs.SpreadLemmas.{has-share_of, owns-get}
use Rattle.group_types.specs.Images.{AreImageTopics}
use Rattle.group_types.proofs.GrantLemmas.{both_equal}

-- the partition is one of the topic with the id, which has `count` of them
abbrev is_of_topic : List ℕ → ℕ → Partition → Bool
is_of_topic id count p = eq_by_cmp text_cmp p.topic id && is_index p.index count

-- the partition is one of these topics
abbrev is_of_topics : List (Text × Topic) → Partition → Bool
is_of_topics topics p = list_any (λ e. is_of_topic e.1.id e.1.count p) topics

-- all partitions of the set pass the test
abbrev AllPass : (Partition → Bool) → Partitions → Type 0
AllPass test set = (p : Partition) → has set p ≡ true → test p ≡ true

-- an index below suc i is i, or below i
is_index-suc : (z : ℤ) (i : ℕ) → is_index z (suc i) ≡ (is_eq (int_cmp z (pos i)) || is_index z i)
is_index-suc (pos n) i = grind (arith, nat_tests)
is_index-suc (negsuc n) i = refl

is_index-zero : (z : ℤ) → is_index z 0 ≡ false
is_index-zero (pos n) = grind (arith, nat_tests)
is_index-zero (negsuc n) = refl

never_true : (b : Bool) → (b ≡ true → false ≡ true) → b ≡ false
never_true true so = sym (so refl)
never_true false so = refl

size-none : (set : Partitions) → AllPass (λ p. false) set → size set ≡ 0
size-none set none =
    ap size (same_set partition_cmp_total partition_cmp-IsAntisymmetric set nothing (λ q. never_true (has set q) (none q) ∙ sym (has-nothing partition_cmp q)))
    ∙ size-nothing partition_cmp

-- one more at most than without one
size-before : (set : Partitions) (x : Partition) → size set ≤ size (without set x) + 1
size-before set x = by (has set x) (size-without partition_cmp_total set x)
  where
    by : (b : Bool) → size (without set x) ≡ cond b (size set - 1) (size set) → size set ≤ size (without set x) + 1
    by true is = omega (arith, is)
    by false is = omega (arith, is)

no_topic : (tie rest : Bool) (z : ℤ) → (tie && is_index z 0 || rest) ≡ rest
no_topic true rest z = ap (λ b. b || rest) (is_index-zero z)
no_topic false rest z = refl

-- what isn't the last partition of the topic is one before it, or one of the rest
not_last : (tie last before rest there : Bool) → (not (tie && last) && there) ≡ true → (there ≡ true → (tie && (last || before) || rest) ≡ true) → (tie && before || rest) ≡ true
not_last true true before rest there is of = absurd (true≢false (sym is))
not_last true false before rest there is of = of is
not_last false last before rest there is of = of is

module _ (others : List (Text × Topic)) (most : ℕ) (few : (set : Partitions) → AllPass (is_of_topics others) set → size set ≤ most) (id : List ℕ) where
  few_more : (count : ℕ) (set : Partitions) → AllPass (λ p. is_of_topic id count p || is_of_topics others p) set → size set ≤ count + most
  few_more zero set all =
      let small = few set (λ p there. sym (no_topic (eq_by_cmp text_cmp p.topic id) (is_of_topics others p) p.index) ∙ all p there) in omega (arith, small)
  few_more (suc k) set all =
      let last : Partition = record { topic = id; index = pos k } in
      let left : Partitions = without set last in
      let small : size left ≤ k + most = few_more k left (λ p there.
      not_last (eq_by_cmp text_cmp p.topic id) (is_eq (int_cmp p.index (pos k))) (is_index p.index k) (is_of_topics others p) (has set p)
      (ap (λ b. not b && has set p) (sym (both_equal (text_cmp p.topic id) (int_cmp p.index (pos k)))) ∙ sym (has-without partition_cmp_total set last p) ∙ there)
      (λ was. ap (λ b. eq_by_cmp text_cmp p.topic id && b || is_of_topics others p) (sym (is_index-suc p.index k)) ∙ all p was)) in
      omega (arith, small, size-before set last)

few_of_topics : (topics : List (Text × Topic)) (set : Partitions) → AllPass (is_of_topics topics) set → size set ≤ sum_by (λ e. e.1.count) topics
few_of_topics [] set all = omega (arith, size-none set all)
few_of_topics (e ∷ es) set all =
    let small = few_more es (sum_by (λ (x : Text × Topic). x.1.count) es) (few_of_topics es) e.1.id e.1.count set all in
    omega (arith, small, sum_by-cons (λ (x : Text × Topic). x.1.count) e es)

-- ---- what is subscribed is of the view

or_true : (a : Bool) → (a || true) ≡ true
or_true true = refl
or_true false = refl

-- what a key finds passes a test, and then some entry does
entry_passes : (test : Topic → Bool) (k : Text) (v : Topic) (es : List (Text × Topic)) → finite.find text_cmp k es ≡ Some v → test v ≡ true → list_any (λ e. test e.1) es ≡ true
entry_passes test k v [] is so = absurd (cc)
entry_passes test k v (e ∷ es) is so =
    elim (eq_by_cmp text_cmp k e.0) as (λ b. cond b (Some e.1) (finite.find text_cmp k es) ≡ Some v → list_any (λ e. test e.1) (e ∷ es) ≡ true) [
      | true ↦ λ here. let same : e.1 ≡ v = cc in ap (λ x. test x || list_any (λ e. test e.1) es) same ∙ ap (λ b. b || list_any (λ e. test e.1) es) so
      | false ↦ λ there. ap (λ b. test e.1 || b) (entry_passes test k v es there so) ∙ or_true (test e.1)
    ] is

is_one_of_view : (view : Topics) (p : Partition) → IsOfView view p → is_of_topics (finite.entries view) p ≡ true
is_one_of_view view p of =
    entry_passes (λ t. is_of_topic t.id t.count p) of.name of.topic (finite.entries view) (sym (finite.get-entries view of.name) ∙ of.is_topic)
    ((λ i. eq_by_cmp text_cmp (of.same_id i) of.topic.id && of.index i) ∙ ap (λ b. b && true) ((eq_by_cmp_equiv text_cmp_total).refl of.topic.id))

-- an owner subscribes its partition
pub owner_subscribes : (view : Topics) (subs : List Subscriber) (spread : Spread) → IsLawful view subs spread → (p : Partition) (id : Text) → finite.get spread p ≡ Some id → IsSubscriber view subs p id
owner_subscribes view subs spread lawful p id is = subst (λ o. MatchOption o ((id : Text) → ¬ IsSubscriber view subs p id) (IsSubscriber view subs p)) is (lawful p)

-- what a member owns is of the view
pub share_of_view : (view : Topics) (owners : Spread) (id : Text) → AreOfView owners view → (p : Partition) → has (share_of owners id) p ≡ true → IsOfView view p
share_of_view view owners id of p there = of p id ((owns-get owners id p).0 (sym (has-share_of owners id p) ∙ there))

-- of what is of the view there is no more than an image may have
pub few_shown : (view : Topics) (owners : Spread) (id : Text) (held : Partitions) → AreImageTopics view → AreOfView owners view → size (common held (share_of owners id)) ≤ MOST_PARTITIONS
few_shown view owners id held image of =
    let few = few_of_topics (finite.entries view) (common held (share_of owners id)) (λ p there.
    is_one_of_view view p (share_of_view view owners id of p (second_so (has held p) _ (sym (has-common partition_cmp_total held (share_of owners id) p) ∙ there)))) in
    omega (arith, few, image.few_partitions)
