-- What is committed once offsets went in.
use Rattle.std.proofs.Common.{◌≡◌, ℤ, Bool, true, false, cond, ◌&&◌, Some, None, refl, sym, ap, ◌∙◌}
use Rattle.std.specs.FinMap as finite
use Rattle.std.specs.Prelude.{OnErr, Result, Ok, Err}
use Rattle.std.specs.Cmp.{int_cmp_total}
use Rattle.std.specs.Cmp.Lexicographic.{nat_list_eq_equiv}
use Rattle.std.specs.HashMap.{UpdatesBy}
use Rattle.std.specs.Ordering.{eq_by_cmp, int_cmp}
use Rattle.std.specs.Str.{bytes_eq}
use Rattle.std.specs.String.{string_bytes, string_eq}
use Rattle.std.proofs.lemmas.Map.Text.{hash_map_updates_text}
use Rattle.std.proofs.lemmas.Slice.Eq.{bytes_eq-Decides}
use Rattle.indexmap.specs.IndexMap.{get_by_text}
use Rattle.group_types.specs.Text.{Text}
use Rattle.group_types.specs.Group.{Committed, place_cmp}
use Rattle.offset_guard.specs.Topics.{IndexOffsets, TopicState, TopicTable, offset_in, offset_at, offsets_in, KeepsOffsets}
use Rattle.group_types.proofs.OffsetLemmas.{eq-place, eq-name, place_cmp_total, place_cmp-IsAntisymmetric}
use Rattle.offset_guard.proofs.Places.{offset_in-cond, get-offsets_in}

-- the new table has the topic's entry, and the other entries of the old one
abbrev pub SetsTopic : TopicTable → TopicTable → Text → TopicState → Type 0
SetsTopic m n name t = (other : Text) → get_by_text n other ≡ cond (bytes_eq name other) (Some t) (get_by_text m other)

pub sets_topic : (m n : TopicTable) (name : Text) (t : TopicState) → UpdatesBy string_eq (λ k. bytes_eq name (string_bytes k)) m n (Some t) → SetsTopic m n name t
sets_topic m n name t updates other = hash_map_updates_text name m n (Some t) updates other

pub same_entry : (x y : TopicState) → Some x ≡ Some y → x ≡ y
same_entry x y is = cc

pub none_not : (t : TopicState) → None ≡ Some t → ⊥
none_not t is = cc

module _ (m n : TopicTable) (name : Text) (t : TopicState) (sets : SetsTopic m n name t) where
  at_set : (place : Text × ℤ) → offset_at n place ≡ cond (bytes_eq name place.0) (finite.get t.offsets place.1) (offset_at m place)
  at_set place = ap (λ o. offset_in o place.1) (sets place.0) ∙ offset_in-cond (bytes_eq name place.0) t (get_by_text m place.0) place.1

  pub at_other : (other : Text) → bytes_eq name other ≡ false → get_by_text n other ≡ get_by_text m other
  at_other other apart = sets other ∙ ap (λ b. cond b (Some t) (get_by_text m other)) apart

  pub at_name : get_by_text n name ≡ Some t
  at_name = sets name ∙ ap (λ b. cond b (Some t) (get_by_text m name)) (nat_list_eq_equiv.refl name)

  module _ (o : IndexOffsets) (was : (i : ℤ) → offset_at m (name, i) ≡ finite.get o i) where
    was_at : (place : Text × ℤ) → bytes_eq name place.0 ≡ true → offset_at m place ≡ finite.get o place.1
    was_at place here = ap (λ other. offset_at m (other, place.1)) (sym ((bytes_eq-Decides name place.0).0 here)) ∙ was place.1

    -- an offset went in
    pub at_put : (index : ℤ) (c : Committed) → t.offsets ≡ finite.insert o index c
        → (place : Text × ℤ) → offset_at n place ≡ cond (eq_by_cmp place_cmp place (name, index)) (Some c) (offset_at m place)
    at_put index c is place =
        at_set place
        ∙ by (bytes_eq name place.0) refl
        ∙ ap (λ b. cond (b && eq_by_cmp int_cmp place.1 index) (Some c) (offset_at m place)) (sym (eq-name name place.0))
        ∙ ap (λ b. cond b (Some c) (offset_at m place)) (sym (eq-place place (name, index)))
      where
        by : (b : Bool) → bytes_eq name place.0 ≡ b
            → cond b (finite.get t.offsets place.1) (offset_at m place) ≡ cond (b && eq_by_cmp int_cmp place.1 index) (Some c) (offset_at m place)
        by true here =
            ap (λ s. finite.get s place.1) is ∙ finite.get-insert int_cmp_total o index c place.1
            ∙ ap (cond (eq_by_cmp int_cmp place.1 index) (Some c)) (sym (was_at place here))
        by false apart = refl

    -- the topic's offsets stayed
    pub offsets_kept : t.offsets ≡ o → KeepsOffsets m n
    offsets_kept is place = at_set place ∙ by (bytes_eq name place.0) refl
      where
        by : (b : Bool) → bytes_eq name place.0 ≡ b → cond b (finite.get t.offsets place.1) (offset_at m place) ≡ offset_at m place
        by true here = ap (λ s. finite.get s place.1) is ∙ sym (was_at place here)
        by false apart = refl

-- an offset went in under a name that had no entry
pub at_new : (before m n : TopicTable) (key name : Text) (t : TopicState) (index : ℤ) (c : Committed)
    → before ≡ m → key ≡ name → get_by_text m name ≡ None → SetsTopic before n key t → t.offsets ≡ finite.insert finite.empty index c
    → (place : Text × ℤ) → offset_at n place ≡ cond (eq_by_cmp place_cmp place (name, index)) (Some c) (offset_at m place)
at_new before m n key name t index c same is none sets stored =
    at_put m n name t (λ other. sets other ∙ (λ j. cond (bytes_eq (is j) other) (Some t) (get_by_text (same j) other)))
    finite.empty (λ i. ap (λ o. offset_in o i) none ∙ sym (finite.get-empty int_cmp i)) index c stored

-- ---- as a finite map

pub offsets_put : (m n : TopicTable) (place : Text × ℤ) (c : Committed)
    → ((q : Text × ℤ) → offset_at n q ≡ cond (eq_by_cmp place_cmp q place) (Some c) (offset_at m q))
    → offsets_in n.entries ≡ finite.insert (offsets_in m.entries) place c
offsets_put m n place c puts =
    finite.same_map place_cmp_total place_cmp-IsAntisymmetric _ _
    (λ q. get-offsets_in n.entries q ∙ puts q
    ∙ ap (cond (eq_by_cmp place_cmp q place) (Some c)) (sym (get-offsets_in m.entries q))
    ∙ sym (finite.get-insert place_cmp_total (offsets_in m.entries) place c q))

pub offsets_same : (m n : TopicTable) → KeepsOffsets m n → offsets_in n.entries ≡ offsets_in m.entries
offsets_same m n keeps =
    finite.same_map place_cmp_total place_cmp-IsAntisymmetric _ _
    (λ q. get-offsets_in n.entries q ∙ keeps q ∙ sym (get-offsets_in m.entries q))

pub any_err : {T E P : Type 0} (r : Result T E) → P → OnErr r P
any_err (Ok x) h = tt
any_err (Err e) h = h
