-- The orders of partitions and of texts are total, and only equal keys tie in them.
use Rattle.std.proofs.Common.{◌≡◌, true, ap, refl, subst, sym, true≢false, ◌&&◌}
use Rattle.std.specs.Bool.{Decides}
use Rattle.std.specs.Str.{bytes_eq}
use Rattle.std.proofs.lemmas.Bool.Decides.{Decides-int_eq, same_from_decides}
use Rattle.std.proofs.lemmas.Slice.Eq.{bytes_eq-Decides}
use Rattle.std.specs.Cmp.{Equal-is, first_so, second_so}
use Rattle.std.specs.declared.cmp.Ordering.{Ordering}
use Rattle.std.specs.declared.cmp.Ordering.TheVariants.{Less, Equal, Greater}
use Rattle.std.specs.Ordering.{eq_by_cmp, int_cmp, int_eq, is_lt}
use Rattle.std.specs.Cmp.{IsTotalOrder, int_cmp_total, on_total, then_total, tied_itself}
use Rattle.std.specs.Cmp.Lexicographic.{nat_list_cmp_total}
use Rattle.std.specs.FinMap.{IsAntisymmetric, int_cmp-IsAntisymmetric, nat_cmp-IsAntisymmetric, slice_cmp-IsAntisymmetric}
use Rattle.std.proofs.lemmas.Map.Lookups.{exact_pairs}
use Rattle.group_types.specs.declared.partition.Partition.{Partition}
use Rattle.group_types.specs.Text.{Text, text_cmp}
use Rattle.group_types.specs.Partition.{partition_cmp}

pub text_cmp_total : IsTotalOrder text_cmp
text_cmp_total = nat_list_cmp_total

pub text_cmp-IsAntisymmetric : IsAntisymmetric text_cmp
text_cmp-IsAntisymmetric = slice_cmp-IsAntisymmetric nat_cmp-IsAntisymmetric

pub partition_cmp_total : IsTotalOrder partition_cmp
partition_cmp_total = then_total (on_total (λ p. p.topic) nat_list_cmp_total) (on_total (λ p. p.index) int_cmp_total)

pub partition_cmp-IsAntisymmetric : IsAntisymmetric partition_cmp
partition_cmp-IsAntisymmetric p q tie =
    let pairs : (p.topic, p.index) ≡ (q.topic, q.index) =
    exact_pairs text_cmp int_cmp text_cmp-IsAntisymmetric int_cmp-IsAntisymmetric (p.topic, p.index) (q.topic, q.index) tie in
    ap (λ c. record { topic = c.0; index = c.1 }) pairs

-- partitions are equal where their topics and their indexes are
pub partition_eq-Decides : (p q : Partition) → Decides (bytes_eq p.topic q.topic && int_eq p.index q.index) (p ≡ q)
partition_eq-Decides p q =
    let topics = bytes_eq-Decides p.topic q.topic in
    let indexes = Decides-int_eq p.index q.index in (
      λ so. let t = topics.0 (first_so _ _ so) in let k = indexes.0 (second_so (bytes_eq p.topic q.topic) _ so) in λ i. record { topic = t i; index = k i },
      λ is. λ i. topics.1 (ap (λ x. x.topic) is) i && indexes.1 (ap (λ x. x.index) is) i,
    )

pub partition_cmp-itself : (p : Partition) → partition_cmp p p ≡ Equal
partition_cmp-itself p = tied_itself partition_cmp_total p

pub text_cmp-itself : (text : Text) → text_cmp text text ≡ Equal
text_cmp-itself text = tied_itself text_cmp_total text

-- the test of equality answers as the order does
pub partition_eq-ties : (p q : Partition) → (bytes_eq p.topic q.topic && int_eq p.index q.index) ≡ eq_by_cmp partition_cmp p q
partition_eq-ties p q =
    let ties = Equal-is (partition_cmp p q) in
    same_from_decides _ _ (partition_eq-Decides p q) (
      λ so. partition_cmp-IsAntisymmetric p q (ties.0 so),
      λ is. ties.1 (subst (λ r. partition_cmp p r ≡ Equal) is (partition_cmp-itself p)),
    )

pub Less-is_lt : (o : Ordering) → is_lt o ≡ true → o ≡ Less
Less-is_lt Less is = refl
Less-is_lt Equal is = absurd (true≢false (sym is))
Less-is_lt Greater is = absurd (true≢false (sym is))
