-- Sets of names that are kept as texts.
use Rattle.std.proofs.Common.{◌≡◌, ℕ, Bool, true, cond, ◌==◌, List, map, length, sym, ◌∙◌, String}
use Rattle.std.specs.Bool.{Decides}
use Rattle.std.specs.BTreeSet.{BTreeSet, UpdatesBy}
use Rattle.std.specs.List.{list_any}
use Rattle.std.specs.List.Sorted.{IsStrictlySortedBy}
use Rattle.std.specs.Ordering.{eq_by_cmp, is_eq, nat_cmp}
use Rattle.std.specs.Cmp.Lexicographic.{pointwise, slice_cmp}
use Rattle.std.specs.String.{string_bytes, string_cmp, string_eq}
use Rattle.std.proofs.lemmas.Map.Text.{btree_set_updates_text, is_eq-slice_cmp}
use Rattle.std.proofs.lemmas.Slice.Eq.{bytes_eq-Decides, slice_eq-Decides}
use Rattle.std.proofs.lemmas.List.{length-map}
use Rattle.group_types.specs.Text.{Text, text_cmp}
use Rattle.group_types.specs.Sets.{has, in_order, nothing, of_list, size, with_one}
use Rattle.group_types.proofs.Orders.{text_cmp_total, text_cmp-IsAntisymmetric}
use Rattle.group_types.proofs.ListLemmas.{lengths_differ, list_any-map, pointwise-map, sorted-map}
use Rattle.group_types.proofs.ListSets.{in_order-of_list, of_list-nothing, same_lists, size-of_list, with_one-of_list}
use Rattle.group_types.proofs.SetLemmas.{has-of_list}

module _ {Y : Type 0} where
  -- the texts of the strings
  abbrev pub texts_of : List (String Y) → List Text
  texts_of ks = map string_bytes ks

  any_text : (ks : List (String Y)) (q : Text) → list_any (eq_by_cmp text_cmp q) (texts_of ks) ≡ list_any (λ k. is_eq (slice_cmp nat_cmp q (string_bytes k))) ks
  any_text ks q = list_any-map string_bytes (eq_by_cmp text_cmp q) ks

  pub has-texts : (ks : List (String Y)) (q : Text) → has (of_list {R = text_cmp} (texts_of ks)) q ≡ list_any (λ k. is_eq (slice_cmp nat_cmp q (string_bytes k))) ks
  has-texts ks q = has-of_list text_cmp_total (texts_of ks) q ∙ any_text ks q

  pub with_one-texts : (bs : Text) (s n : BTreeSet (String Y)) → UpdatesBy string_cmp (λ k. slice_cmp nat_cmp bs (string_bytes k)) s n true → of_list {R = text_cmp} (texts_of n.keys) ≡ with_one (of_list (texts_of s.keys)) bs
  with_one-texts bs s n updates = with_one-of_list text_cmp_total text_cmp-IsAntisymmetric (texts_of s.keys) (texts_of n.keys) bs (λ q.
      any_text n.keys q ∙ btree_set_updates_text bs s n true updates q
      ∙ (λ i. cond (sym (is_eq-slice_cmp bs q) i) true (sym (any_text s.keys q) i)))

  module _ (ks : List (String Y)) (sorted : IsStrictlySortedBy string_cmp ks) where
    texts_sorted : IsStrictlySortedBy text_cmp (texts_of ks)
    texts_sorted = sorted-map string_bytes text_cmp ks sorted

    pub in_order-texts : in_order (of_list {R = text_cmp} (texts_of ks)) ≡ texts_of ks
    in_order-texts = in_order-of_list text_cmp_total (texts_of ks) texts_sorted

    pub size-texts : size (of_list {R = text_cmp} (texts_of ks)) ≡ length ks
    size-texts = size-of_list text_cmp_total (texts_of ks) texts_sorted ∙ length-map ks string_bytes

  pub texts-nothing : (ks : List (String Y)) (r : Bool) → Decides r (length ks ≡ 0) → Decides r (of_list {R = text_cmp} (texts_of ks) ≡ nothing)
  texts-nothing ks r says =
      let long = length-map ks string_bytes in
      of_list-nothing text_cmp_total (texts_of ks) r (λ so. long ∙ says.0 so, λ none. says.1 (sym long ∙ none))

  -- strings are compared by their texts
  pub texts_eq-Decides : (ks ls : List (String Y)) (r : Bool) → r ≡ pointwise string_eq ks ls → Decides r (texts_of ks ≡ texts_of ls)
  texts_eq-Decides ks ls r is = slice_eq-Decides bytes_eq-Decides (texts_of ks) (texts_of ls) r (is ∙ pointwise-map string_bytes _ ks ls)

  pub same_texts : (ks ls : List (String Y)) → IsStrictlySortedBy string_cmp ks → IsStrictlySortedBy string_cmp ls → (r : Bool) → Decides r (texts_of ks ≡ texts_of ls) → Decides r (of_list {R = text_cmp} (texts_of ks) ≡ of_list (texts_of ls))
  same_texts ks ls a b r says = same_lists text_cmp_total (texts_of ks) (texts_of ls) (texts_sorted ks a) (texts_sorted ls b) r says

  pub texts_differ : (ks ls : List (String Y)) (m n : ℕ) → m ≡ length ks → n ≡ length ls → (m ≡ n → ⊥) → Decides (m == n) (texts_of ks ≡ texts_of ls)
  texts_differ ks ls m n p q differ =
      lengths_differ (texts_of ks) (texts_of ls) m n (p ∙ sym (length-map ks string_bytes)) (q ∙ sym (length-map ls string_bytes)) differ
