-- Which topics have the same takers, list by list.
use Rattle.std.proofs.Common.{◌≡◌, ◌⊎◌, ℕ, zero, suc, ◌<◌, ◌+◌, List, [], ◌∷◌, ◌++◌, length, sym, ap, subst, ◌∙◌, arith, inl, inr, Some}
use Rattle.std.specs.Global.{Vec}
use Rattle.std.specs.List.{slice_get}
use Rattle.std.proofs.lemmas.Bool.{cases_lt}
use Rattle.std.proofs.lemmas.List.{length_push}
use Rattle.std.proofs.lemmas.Option.{same_Some, slice_get_within}
use Rattle.group_types.specs.Assignors.{Subscriber}
use Rattle.group_types.specs.Text.{Text}
use Rattle.group_types.specs.Topics.{Topic}
use Rattle.uniform_assign.specs.Boards.{AllRise, AreClassTakers, AreClasses, AreTakers, AreTakersOf, IsListAt, Rises}
use Rattle.uniform_assign.proofs.Lists.{pushed_at, slice_get-append_cases, slice_get-append_left, some_at}

-- the first n lists have their classes
pub record AreClassesTo (lists : List (Vec ℕ)) (n : ℕ) (classes : List ℕ) (takers : List (Vec ℕ)) : Type 0 where
  pub as_many : length classes ≡ n
  pub there : (t : ℕ) (list : Vec ℕ) → t < n → slice_get lists t ≡ Some list → (c : ℕ) × (slice_get classes t ≡ Some c) × IsListAt takers list.items c
  pub each : (c : ℕ) (v : Vec ℕ) → slice_get takers c ≡ Some v → (t : ℕ) × IsListAt lists v.items t

-- a list was added, or none
abbrev pub IsOneMore : List (Vec ℕ) → List (Vec ℕ) → List ℕ → Type 0
IsOneMore old new list = (new ≡ old) ⊎ ((one : Vec ℕ) × (one.items ≡ list) × (new ≡ old ++ one ∷ []))

module _ (lists : List (Vec ℕ)) where
  pub AreClassesTo-none : (classes : List ℕ) (takers : List (Vec ℕ)) → classes ≡ [] → takers ≡ [] → AreClassesTo lists 0 classes takers
  AreClassesTo-none classes takers none nothing = record {
    as_many = ap length none;
    there = λ t list low. absurd (omega arith);
    each = λ c v is. absurd (nowhere c v (ap (λ xs. slice_get xs c) (sym nothing) ∙ is));
  }
    where
      nowhere : (c : ℕ) (v : Vec ℕ) → slice_get [] c ≡ Some v → ⊥
      nowhere c v is = cc

  module _ (n : ℕ) (classes : List ℕ) (old new : List (Vec ℕ)) (list : Vec ℕ) (class : ℕ) (before : AreClassesTo lists n classes old) (is_list : slice_get lists n ≡ Some list)
      (is_class : IsListAt new list.items class) (more : IsOneMore old new list.items) where
    kept : (c : ℕ) (v : Vec ℕ) → slice_get old c ≡ Some v → slice_get new c ≡ Some v
    kept c v is = elim more [
      | inl same ↦ ap (λ xs. slice_get xs c) same ∙ is
      | inr (one, items, pushed) ↦ ap (λ xs. slice_get xs c) pushed ∙ slice_get-append_left old (one ∷ []) c v is
    ]

    last : (one v : Vec ℕ) (j : ℕ) → slice_get (one ∷ []) j ≡ Some v → one ≡ v
    last one v zero is = same_Some one v is
    last one v (suc j) is = cc

    pub AreClassesTo-more : AreClassesTo lists (n + 1) (classes ++ class ∷ []) new
    AreClassesTo-more = record {
      as_many = length_push classes class ∙ ap (λ k. k + 1) before.as_many;
      there = λ t other low is_other. elim (cases_lt t n) [
        | inl below ↦
            let (d, is_d, (v, is_v, items)) = before.there t other below is_other in
            (d, slice_get-append_left classes (class ∷ []) t d is_d, (v, kept d v is_v, items))
        | inr above ↦
            let end : n ≡ t = omega arith in
            let same : list ≡ other = same_Some list other (sym is_list ∙ ap (slice_get lists) end ∙ is_other) in (
              class,
              ap (slice_get (classes ++ class ∷ [])) (sym (before.as_many ∙ end)) ∙ pushed_at classes class,
              subst (λ (v : Vec ℕ). IsListAt new v.items class) same is_class,
            )
      ];
      each = λ c v is. elim more [
        | inl same ↦ before.each c v (ap (λ xs. slice_get xs c) (sym same) ∙ is)
        | inr (one, items, pushed) ↦ elim (slice_get-append_cases old (one ∷ []) c v (ap (λ xs. slice_get xs c) (sym pushed) ∙ is)) [
          | inl there ↦ before.each c v there
          | inr (j, at, end) ↦ (n, (list, is_list, sym items ∙ ap (λ (w : Vec ℕ). w.items) (last one v j end)))
        ]
      ];
    }

pub AreClassesTo-all : (lists : List (Vec ℕ)) (n : ℕ) (classes : List ℕ) (takers : List (Vec ℕ)) → n ≡ length lists → AreClassesTo lists n classes takers → AreClasses lists classes takers
AreClassesTo-all lists n classes takers all are = record {
  as_many = are.as_many ∙ all;
  there = λ t list is. let low = slice_get_within lists t list is in are.there t list (omega arith) is;
  each = are.each;
}

-- ---- the takers of the classes

pub AreClassTakers-of : (topics : List (Text × Topic)) (subs : List Subscriber) (lists : List (Vec ℕ)) (classes : List ℕ) (takers : List (Vec ℕ)) → AreTakers topics subs lists → AreClasses lists classes takers
    → AreClassTakers topics subs classes takers
AreClassTakers-of topics subs lists classes takers are found = record {
  as_many = found.as_many ∙ are.as_many;
  there = λ t topic is.
      let (w, is_w, of) = are.there t topic is in
      let (c, is_c, (v, is_v, items)) = found.there t w is_w in
      (c, v, is_c, is_v, subst (AreTakersOf subs topic.0) (sym items) of);
  each = λ c v is.
      let (t, (w, is_w, items)) = found.each c v is in
      let (topic, is_topic) = some_at topics t (let low = slice_get_within lists t w is_w in let many = are.as_many in omega arith) in
      let (u, is_u, of) = are.there t topic is_topic in
      let same : u ≡ w = same_Some u w (sym is_u ∙ is_w) in
      (topic, subst (AreTakersOf subs topic.0) (ap (λ (x : Vec ℕ). x.items) same ∙ items) of);
}

pub AllRise-classes : (lists : List (Vec ℕ)) (classes : List ℕ) (takers : List (Vec ℕ)) → AllRise lists → AreClasses lists classes takers → AllRise takers
AllRise-classes lists classes takers rise found c v is = let (t, (w, is_w, items)) = found.each c v is in subst Rises items (rise t w is_w)
