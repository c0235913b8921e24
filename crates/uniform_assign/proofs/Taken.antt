-- How the takers of the topics are found, member by member.
use Rattle.std.proofs.Common.{◌≡◌, ℕ, zero, suc, ◌<◌, ◌≤◌, ◌+◌, Bool, true, false, cond, List, [], ◌∷◌, ◌++◌, length, get_or, map, take, set as set_at, refl, sym, ap, subst, ◌∙◌, arith, inl, inr, Some}
use Rattle.std.specs.Global.{Vec}
use Rattle.std.specs.List.{All, slice_get}
use Rattle.std.proofs.lemmas.Bool.{cases_lt}
use Rattle.std.proofs.lemmas.List.{append-nil, length-set, take_all}
use Rattle.std.proofs.lemmas.Option.{get_or_from_slice_get, same_Some, slice_get_within}
use Rattle.group_types.specs.Assignors.{Subscriber, subscribers_of}
use Rattle.group_types.specs.Sets.{has}
use Rattle.group_types.specs.Text.{Text}
use Rattle.group_types.specs.Topics.{Topic}
use Rattle.uniform_assign.specs.Boards.{AddsTaker, AllRise, AreTakers, Rises}
use Rattle.uniform_assign.proofs.Kept.{slice_get-set_other, slice_get-set_same}
use Rattle.uniform_assign.proofs.Lists.{slice_get-append_cases, some_at}
use Rattle.uniform_assign.proofs.Made.{AreTakersOf-next, AreTakersOf-skip}

-- ---- a member is added

-- the member at a place was added to the takers of the marked ones of the first n topics
pub record AddsTakerTo (marks : List Bool) (member n : ℕ) (old new : List (Vec ℕ)) : Type 0 where
  pub as_many : length new ≡ length old
  pub added : (t : ℕ) (v : Vec ℕ) → t < n → slice_get old t ≡ Some v → (w : Vec ℕ) × (slice_get new t ≡ Some w) × (w.items ≡ v.items ++ cond (get_or marks t false) (member ∷ []) [])
  pub kept : (t : ℕ) (v : Vec ℕ) → n ≤ t → slice_get old t ≡ Some v → slice_get new t ≡ Some v

module _ (marks : List Bool) (member : ℕ) (old : List (Vec ℕ)) where
  pub AddsTakerTo-none : AddsTakerTo marks member 0 old old
  AddsTakerTo-none = record { as_many = refl; added = λ t v low is. absurd (omega arith); kept = λ t v low is. is }

  module _ (n : ℕ) (new : List (Vec ℕ)) (before : AddsTakerTo marks member n old new) where
    pub AddsTakerTo-skip : get_or marks n false ≡ false → AddsTakerTo marks member (n + 1) old new
    AddsTakerTo-skip away = record {
      as_many = before.as_many;
      added = λ t v low is. elim (cases_lt t n) [
        | inl below ↦ before.added t v below is
        | inr above ↦
            let same : n ≡ t = omega arith in
            let none : get_or marks t false ≡ false = ap (λ k. get_or marks k false) (sym same) ∙ away in
            (v, before.kept t v above is, sym (ap (λ b. v.items ++ cond b (member ∷ []) []) none ∙ append-nil v.items))
      ];
      kept = λ t v low is. before.kept t v (omega arith) is;
    }

    pub AddsTakerTo-push : (v w : Vec ℕ) → slice_get new n ≡ Some v → w.items ≡ v.items ++ member ∷ [] → get_or marks n false ≡ true → AddsTakerTo marks member (n + 1) old (set_at new n w)
    AddsTakerTo-push v w here pushed there = record {
      as_many = length-set new n w ∙ before.as_many;
      added = λ t x low is. elim (cases_lt t n) [
        | inl below ↦
            let (y, at, items) = before.added t x below is in
            (y, slice_get-set_other new n t w (omega arith) ∙ at, items)
        | inr above ↦
            let same : n ≡ t = omega arith in
            let mark : get_or marks t false ≡ true = ap (λ k. get_or marks k false) (sym same) ∙ there in
            let was : v ≡ x = same_Some v x (sym here ∙ ap (slice_get new) same ∙ before.kept t x above is) in (
              w,
              ap (slice_get (set_at new n w)) (sym same) ∙ slice_get-set_same new n w (slice_get_within new n v here),
              pushed ∙ ap (λ (u : Vec ℕ). u.items ++ member ∷ []) was ∙ ap (λ b. x.items ++ cond b (member ∷ []) []) (sym mark),
            )
      ];
      kept = λ t x low is. slice_get-set_other new n t w (omega arith) ∙ before.kept t x (omega arith) is;
    }

  pub AddsTaker-all : (n : ℕ) (new : List (Vec ℕ)) → length old ≤ n → AddsTakerTo marks member n old new → AddsTaker marks member old new
  AddsTaker-all n new all adds = record {
    as_many = adds.as_many;
    added = λ t v is. let low = slice_get_within old t v is in adds.added t v (omega arith) is;
  }

-- ---- numbers that rise

last_is : (n k x : ℕ) → slice_get (n ∷ []) k ≡ Some x → n ≡ x
last_is n zero x end = same_Some n x end
last_is n (suc k) x end = cc

-- a place after all of them is added
Rises-push : (xs : List ℕ) (n : ℕ) → Rises xs → ((i x : ℕ) → slice_get xs i ≡ Some x → x < n) → Rises (xs ++ n ∷ [])
Rises-push xs n rise low i j x y early is_x is_y = elim (slice_get-append_cases xs (n ∷ []) j y is_y) [
  | inl there ↦ elim (slice_get-append_cases xs (n ∷ []) i x is_x) [
    | inl here ↦ rise i j x y early here there
    | inr (k, at, end) ↦ let within = slice_get_within xs j y there in absurd (omega arith)
  ]
  | inr (k, at, end) ↦ elim (slice_get-append_cases xs (n ∷ []) i x is_x) [
    | inl here ↦ let below = low i x here in let same = last_is n k y end in omega arith
    | inr (l, at_l, end_l) ↦ let one = slice_get_within (n ∷ []) k y end in absurd (omega arith)
  ]
]

below-push : (xs : List ℕ) (n : ℕ) → ((i x : ℕ) → slice_get xs i ≡ Some x → x < n) → (i x : ℕ) → slice_get (xs ++ n ∷ []) i ≡ Some x → x < n + 1
below-push xs n low i x is = elim (slice_get-append_cases xs (n ∷ []) i x is) [
  | inl here ↦ let below = low i x here in omega arith
  | inr (k, at, end) ↦ let same = last_is n k x end in omega arith
]

-- ---- the takers among the first members

-- the places are those of the subscribers among the first n members
pub record IsTakersTo (subs : List Subscriber) (name : Text) (n : ℕ) (takers : List ℕ) : Type 0 where
  pub taken : map (slice_get subs) takers ≡ map Some (subscribers_of (take n subs) name)
  pub rise : Rises takers
  pub below : (i x : ℕ) → slice_get takers i ≡ Some x → x < n

-- for each topic
pub record AreTakersTo (topics : List (Text × Topic)) (subs : List Subscriber) (n : ℕ) (takers : List (Vec ℕ)) : Type 0 where
  pub as_many : length takers ≡ length topics
  pub each : (t : ℕ) (v : Vec ℕ) (topic : Text × Topic) → slice_get takers t ≡ Some v → slice_get topics t ≡ Some topic → IsTakersTo subs topic.0 n v.items

nothing_at : (xs : List ℕ) → xs ≡ [] → (i x : ℕ) → slice_get xs i ≡ Some x → ⊥
nothing_at xs none i x is = let no : slice_get [] i ≡ Some x = ap (λ ys. slice_get ys i) (sym none) ∙ is in cc

module _ (topics : List (Text × Topic)) (subs : List Subscriber) where
  pub AreTakersTo-none : (takers : List (Vec ℕ)) → length takers ≡ length topics → All (λ (v : Vec ℕ). v.items ≡ []) takers → AreTakersTo topics subs 0 takers
  AreTakersTo-none takers many empty = record {
    as_many = many;
    each = λ t v topic is is_topic.
        let none : v.items ≡ [] = ap (λ (w : Vec ℕ). w.items) (sym (get_or_from_slice_get takers t v v is)) ∙ empty t v (slice_get_within takers t v is) in
        record {
          taken = ap (map (slice_get subs)) none;
          rise = λ i j x y early is_x is_y. absurd (nothing_at v.items none i x is_x);
          below = λ i x is_x. absurd (nothing_at v.items none i x is_x);
        };
  }

  next : (n : ℕ) (m : Subscriber) (name : Text) (old new : List ℕ) (marked : Bool) → slice_get subs n ≡ Some m → has m.names name ≡ marked → new ≡ old ++ cond marked (n ∷ []) []
      → IsTakersTo subs name n old → IsTakersTo subs name (n + 1) new
  next n m name old new true here is same before = record {
    taken = ap (map (slice_get subs)) same ∙ AreTakersOf-next subs n m name old here is before.taken;
    rise = subst Rises (sym same) (Rises-push old n before.rise before.below);
    below = subst (λ (xs : List ℕ). (i x : ℕ) → slice_get xs i ≡ Some x → x < n + 1) (sym same) (below-push old n before.below);
  }
  next n m name old new false here is same before =
      let kept : new ≡ old = same ∙ append-nil old in
      record {
        taken = ap (map (slice_get subs)) kept ∙ AreTakersOf-skip subs n m name old here is before.taken;
        rise = subst Rises (sym kept) before.rise;
        below = λ i x is_x. let low = before.below i x (ap (λ xs. slice_get xs i) (sym kept) ∙ is_x) in omega (arith, low);
      }

  pub AreTakersTo-more : (n : ℕ) (m : Subscriber) (marks : List Bool) (old new : List (Vec ℕ)) → slice_get subs n ≡ Some m
      → ((t : ℕ) (topic : Text × Topic) → slice_get topics t ≡ Some topic → get_or marks t false ≡ has m.names topic.0)
      → AddsTaker marks n old new → AreTakersTo topics subs n old → AreTakersTo topics subs (n + 1) new
  AreTakersTo-more n m marks old new here marked adds before = record {
    as_many = adds.as_many ∙ before.as_many;
    each = λ t w topic is is_topic.
        let (v, is_v) = some_at old t (let low = slice_get_within new t w is in let many = adds.as_many in omega arith) in
        let (u, is_u, items) = adds.added t v is_v in
        let same : u ≡ w = same_Some u w (sym is_u ∙ is) in
        next n m topic.0 v.items w.items (get_or marks t false) here (sym (marked t topic is_topic)) (ap (λ (x : Vec ℕ). x.items) (sym same) ∙ items) (before.each t v topic is_v is_topic);
  }

  module _ (n : ℕ) (takers : List (Vec ℕ)) (all : length subs ≤ n) (are : AreTakersTo topics subs n takers) where
    pub AreTakers-all : AreTakers topics subs takers
    AreTakers-all = record {
      as_many = are.as_many;
      there = λ t topic is.
          let (v, is_v) = some_at takers t (let low = slice_get_within topics t topic is in let many = are.as_many in omega arith) in
          (v, is_v, (are.each t v topic is_v is).taken ∙ ap (λ xs. map Some (subscribers_of xs topic.0)) (take_all n subs all));
    }

    pub AllRise-all : AllRise takers
    AllRise-all = λ t v is.
        let (topic, is_topic) = some_at topics t (let low = slice_get_within takers t v is in let many = are.as_many in omega arith) in
        (are.each t v topic is is_topic).rise
