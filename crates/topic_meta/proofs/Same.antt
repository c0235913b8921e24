-- What the tests of two slices of topics, and of two trees, say.
use Rattle.std.proofs.Common.{◌≡◌, Bool, true, false, ◌&&◌, List, [], ◌∷◌, map, length, zip, refl, sym, ap, ◌∙◌, arith, string_bytes, String, bytes_eq, ◌==◌, true≢false}
use Rattle.std.specs.Bool.{Decides}
use Rattle.std.specs.List.{list_all}
use Rattle.std.proofs.lemmas.Bool.Decides.{Decides-eqb}
use Rattle.std.proofs.lemmas.Slice.Eq.{bytes_eq-Decides}
use Rattle.std.proofs.Math.ListN.{length-map}
use Rattle.topic_meta.specs.Views.{named, all_named, is_same, are_same}
use Rattle.topic_meta.specs.declared.view_topic.ViewTopic.{ViewTopic}
use Rattle.std.specs.declared.alloc.Global.{Global}
use Rattle.std.specs.Cmp.Lexicographic.{pointwise}
use Rattle.std.specs.FinMap as finite
use Rattle.std.specs.List.Sorted.{IsStrictlySortedBy}
use Rattle.std.specs.Map.{keys_of}
use Rattle.std.specs.String.{string_cmp}
use Rattle.group_types.specs.Text.{Text}
use Rattle.group_types.specs.Topics.{Topic}
use Rattle.topic_meta.specs.Stored.{shown_topic, topics_in}
use Rattle.topic_meta.specs.declared.topic.StoredTopic.{StoredTopic}
use Rattle.topic_meta.proofs.Shown.{entries-topics_in}

both : (a b : Bool) → a ≡ true → b ≡ true → (a && b) ≡ true
both true b p q = q
both false b p q = absurd (true≢false (sym p))

parts : (a b : Bool) → (a && b) ≡ true → (a ≡ true) × (b ≡ true)
parts true b h = (refl, h)
parts false b h = absurd (true≢false (sym h))

is_same-says : (a b : ViewTopic) → Decides (is_same a b) (named a ≡ named b)
is_same-says a b =
    let names = bytes_eq-Decides (string_bytes a.name) (string_bytes b.name) in
    let ids = bytes_eq-Decides a.id b.id in
    let counts = Decides-eqb a.count b.count in (
      λ so. let outer = parts _ _ so in let inner = parts _ _ outer.0 in
          λ i. (names.0 inner.0 i, record { id = ids.0 inner.1 i; count = counts.0 outer.1 i }),
      λ is. both _ _ (both _ _ (names.1 (ap (λ e. e.0) is)) (ids.1 (ap (λ e. e.1.id) is))) (counts.1 (ap (λ e. e.1.count) is)),
    )

all_same : (some others : List ViewTopic) → length some ≡ length others → list_all (λ p. is_same p.0 p.1) (zip some others) ≡ true → all_named some ≡ all_named others
all_same [] [] alike so = refl
all_same [] (b ∷ others) alike so = absurd (omega arith)
all_same (a ∷ some) [] alike so = absurd (omega arith)
all_same (a ∷ some) (b ∷ others) alike so =
    let here = parts (is_same a b) (list_all (λ p. is_same p.0 p.1) (zip some others)) so in
    let rest = all_same some others (omega arith) here.1 in
    λ i. (is_same-says a b).0 here.0 i ∷ rest i

same_all : (some others : List ViewTopic) → all_named some ≡ all_named others → list_all (λ p. is_same p.0 p.1) (zip some others) ≡ true
same_all [] others is = refl
same_all (a ∷ some) [] is = refl
same_all (a ∷ some) (b ∷ others) is =
    let head : named a ≡ named b = cc in
    let tail : all_named some ≡ all_named others = cc in
    both (is_same a b) _ ((is_same-says a b).1 head) (same_all some others tail)

pub are_same-says : (some others : List ViewTopic) → Decides (are_same some others) (all_named some ≡ all_named others)
are_same-says some others =
    let lengths = Decides-eqb (length some) (length others) in (
      λ so. let both_so = parts _ _ so in all_same some others (lengths.0 both_so.0) both_so.1,
      λ is. both _ _ (lengths.1 (sym (length-map some named) ∙ ap length is ∙ length-map others named)) (same_all some others is),
    )

-- ---- two trees

-- what a test of two lists says, where the test of two elements says that they are shown as one
pointwise-says : {A B : Type 0} (f : A → B) (E : A → A → Bool) → ((x y : A) → Decides (E x y) (f x ≡ f y))
    → (xs ys : List A) → Decides (pointwise E xs ys) (map f xs ≡ map f ys)
pointwise-says f E says [] [] = (λ _. refl, λ _. refl)
pointwise-says f E says [] (y ∷ ys) = (λ so. absurd (true≢false (sym so)), λ is. absurd (true≢false cc))
pointwise-says f E says (x ∷ xs) [] = (λ so. absurd (true≢false (sym so)), λ is. absurd (true≢false cc))
pointwise-says f E says (x ∷ xs) (y ∷ ys) =
    let rest = pointwise-says f E says xs ys in (
      λ so. let here = parts (E x y) (pointwise E xs ys) so in
          let head = (says x y).0 here.0 in
          let tail = rest.0 here.1 in
          λ i. head i ∷ tail i,
      λ is.
          let head : f x ≡ f y = cc in
          let tail : map f xs ≡ map f ys = cc in
          both _ _ ((says x y).1 head) (rest.1 tail),
    )

abbrev pub pair_of : String Global × StoredTopic → Text × Topic
pair_of e = (string_bytes e.0, shown_topic e.1)

pair_of-says : (p q : String Global × StoredTopic)
    → Decides (bytes_eq (string_bytes p.0) (string_bytes q.0) && (bytes_eq p.1.id q.1.id && p.1.count == q.1.count)) (pair_of p ≡ pair_of q)
pair_of-says p q =
    let names = bytes_eq-Decides (string_bytes p.0) (string_bytes q.0) in
    let ids = bytes_eq-Decides p.1.id q.1.id in
    let counts = Decides-eqb p.1.count q.1.count in (
      λ so. let outer = parts _ _ so in let inner = parts _ _ outer.1 in
          λ i. (names.0 outer.0 i, record { id = ids.0 inner.0 i; count = counts.0 inner.1 i }),
      λ is. both _ _ (names.1 (ap (λ e. e.0) is)) (both _ _ (ids.1 (ap (λ e. e.1.id) is)) (counts.1 (ap (λ e. e.1.count) is))),
    )

-- what the test of the entries of two trees in order says
pub same_trees-says : (es fs : List (String Global × StoredTopic)) → IsStrictlySortedBy string_cmp (keys_of es) → IsStrictlySortedBy string_cmp (keys_of fs)
    → Decides (pointwise (λ p q. bytes_eq (string_bytes p.0) (string_bytes q.0) && (bytes_eq p.1.id q.1.id && p.1.count == q.1.count)) es fs) (topics_in es ≡ topics_in fs)
same_trees-says es fs rising_e rising_f =
    let says = pointwise-says pair_of _ pair_of-says es fs in (
      λ so. ap finite.from_entries (says.0 so),
      λ is. says.1 (sym (entries-topics_in es rising_e) ∙ ap finite.entries is ∙ entries-topics_in fs rising_f),
    )
