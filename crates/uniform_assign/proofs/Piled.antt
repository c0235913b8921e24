-- The piles of a hand, where one of them is written or added.
use Rattle.std.proofs.Common.{◌≡◌, ◌⊎◌, ◌↔◌, ℕ, zero, suc, ◌<◌, ◌+◌, List, [], ◌∷◌, ◌++◌, length, slice_get, set as set_at, refl, sym, ap, subst, ◌∙◌, arith, inl, inr, Some, length-set}
use Rattle.std.proofs.lemmas.Bool.{cases_order}
use Rattle.std.specs.List.{All}
use Rattle.std.proofs.lemmas.Option.{get_or_from_slice_get, same_Some, slice_get_within}
use Rattle.uniform_assign.specs.declared.pile.Pile.{Pile}
use Rattle.uniform_assign.specs.declared.board.Board.{Board}
use Rattle.uniform_assign.specs.declared.draft.Draft.{Draft}
use Rattle.uniform_assign.specs.declared.piles.Owned.{Owned}
use Rattle.uniform_assign.specs.Boards.{IsOfClass}
use Rattle.uniform_assign.specs.Piles.{AreHeld, AreListed, AreOfClass, Hand, IsHand, IsHeld, IsIn, IsInHand, IsInClass, IsListedIn, Listed}
use Rattle.uniform_assign.proofs.Counts.{cases_equal}
use Rattle.uniform_assign.proofs.Kept.{slice_get-set_other, slice_get-set_same}
use Rattle.uniform_assign.proofs.Lists.{pushed_at, slice_get-append_cases, slice_get-append_left}

-- a pile was written
module _ (hand : List Pile) (at : ℕ) (old new : Pile) (is_old : slice_get hand at ≡ Some old) (class : new.class ≡ old.class) where
  here : slice_get (set_at hand at new) at ≡ Some new
  here = slice_get-set_same hand at new (slice_get_within hand at old is_old)

  -- nothing else than before
  pub InClass-fewer : ((k : ℕ) → IsIn k new → IsIn k old) → (t k : ℕ) → IsInClass (set_at hand at new) t k → IsInClass hand t k
  InClass-fewer fewer t k (i, pile, is_pile, of_class, is) = elim (cases_equal i at) [
    | inl same ↦
        let equal : new ≡ pile = same_Some new pile (sym here ∙ ap (slice_get (set_at hand at new)) (sym same) ∙ is_pile) in
        (at, old, is_old, sym class ∙ ap (λ (p : Pile). p.class) equal ∙ of_class, fewer k (subst (IsIn k) (sym equal) is))
    | inr apart ↦ (i, pile, sym (slice_get-set_other hand at i new apart) ∙ is_pile, of_class, is)
  ]

  pub InClass-kept : (t k : ℕ) → (IsIn k old → IsIn k new) → IsInClass hand t k → IsInClass (set_at hand at new) t k
  InClass-kept t k kept (i, pile, is_pile, of_class, is) = elim (cases_equal i at) [
    | inl same ↦
        let equal : old ≡ pile = same_Some old pile (sym is_old ∙ ap (slice_get hand) (sym same) ∙ is_pile) in
        (at, new, here, class ∙ ap (λ (p : Pile). p.class) equal ∙ of_class, kept (subst (IsIn k) (sym equal) is))
    | inr apart ↦ (i, pile, slice_get-set_other hand at i new apart ∙ is_pile, of_class, is)
  ]

  module _ (place : ℕ) (added : (k : ℕ) → IsIn k new ↔ (IsIn k old ⊎ (k ≡ place))) where
    pub InHand-written : IsInHand (set_at hand at new) place
    InHand-written = (new.class, (at, new, here, refl, (added place).1 (inr refl)))

    pub InHand-kept : (k : ℕ) → IsInHand hand k → IsInHand (set_at hand at new) k
    InHand-kept k (t, is) = (t, InClass-kept t k (λ there. (added k).1 (inl there)) is)

    pub InClass-written : (t k : ℕ) → IsInClass (set_at hand at new) t k → IsInClass hand t k ⊎ ((t ≡ old.class) × (k ≡ place))
    InClass-written t k (i, pile, is_pile, of_class, is) = elim (cases_equal i at) [
      | inl same ↦
          let equal : new ≡ pile = same_Some new pile (sym here ∙ ap (slice_get (set_at hand at new)) (sym same) ∙ is_pile) in
          let of_old : old.class ≡ t = sym class ∙ ap (λ (p : Pile). p.class) equal ∙ of_class in
          elim ((added k).0 (subst (IsIn k) (sym equal) is)) [
            | inl there ↦ inl (at, old, is_old, of_old, there)
            | inr this ↦ inr (sym of_old, this)
          ]
      | inr apart ↦ inl (i, pile, sym (slice_get-set_other hand at i new apart) ∙ is_pile, of_class, is)
    ]

-- a pile was added
module _ (hand : List Pile) (new : Pile) (place : ℕ) (alone : (k : ℕ) → IsIn k new ↔ (k ≡ place)) where
  pub InHand-pushed : IsInHand (hand ++ new ∷ []) place
  InHand-pushed = (new.class, (length hand, new, pushed_at hand new, refl, (alone place).1 refl))

  pub InHand-left : (k : ℕ) → IsInHand hand k → IsInHand (hand ++ new ∷ []) k
  InHand-left k (t, (i, pile, is_pile, of_class, is)) = (t, (i, pile, slice_get-append_left hand (new ∷ []) i pile is_pile, of_class, is))

  pub InClass-pushed : (t k : ℕ) → IsInClass (hand ++ new ∷ []) t k → IsInClass hand t k ⊎ ((t ≡ new.class) × (k ≡ place))
  InClass-pushed t k (i, pile, is_pile, of_class, is) = elim (slice_get-append_cases hand (new ∷ []) i pile is_pile) [
    | inl before ↦ inl (i, pile, before, of_class, is)
    | inr (j, at, end) ↦ last j end
  ]
    where
      last : (j : ℕ) → slice_get (new ∷ []) j ≡ Some pile → IsInClass hand t k ⊎ ((t ≡ new.class) × (k ≡ place))
      last zero end =
          let same : new ≡ pile = same_Some new pile end in
          inr (sym of_class ∙ ap (λ (p : Pile). p.class) (sym same), (alone k).0 (subst (IsIn k) (sym same) is))
      last (suc j) end = cc

-- one of the first n piles has the place
abbrev pub IsInBelow : List Pile → ℕ → ℕ → Type 0
IsInBelow hand n k = (i : ℕ) × (pile : Pile) × (i < n) × (slice_get hand i ≡ Some pile) × IsIn k pile

-- the pile after the first n was searched
module _ (board : Board) (draft : Draft) (from : ℕ) (hand : List Pile) (at : ℕ) (old new : Pile) (is_old : slice_get hand at ≡ Some old) (class : new.class ≡ old.class)
    (fewer : (k : ℕ) → IsIn k new → IsIn k old) (kept : (k : ℕ) → IsIn k old → slice_get draft.owners.items k ≡ Some (Some from) → IsIn k new) where
  pub IsHand-searched : IsHand board draft from hand → IsHand board draft from (set_at hand at new)
  IsHand-searched is = record {
    of_classes = λ t k there. is.of_classes t k (InClass-fewer hand at old new is_old class fewer t k there);
    all = λ k owns. let (t, there) = is.all k owns in (t, InClass-kept hand at old new is_old class t k (λ was. kept k was owns) there);
  }

  pub IsInBelow-either : (k : ℕ) → IsInBelow (set_at hand at new) (at + 1) k → IsInBelow hand at k ⊎ IsIn k new
  IsInBelow-either k (i, pile, low, is_pile, is) = elim (cases_equal i at) [
    | inl same ↦
        let there : slice_get (set_at hand at new) at ≡ Some new = slice_get-set_same hand at new (slice_get_within hand at old is_old) in
        let equal : new ≡ pile = same_Some new pile (sym there ∙ ap (slice_get (set_at hand at new)) (sym same) ∙ is_pile) in
        inr (subst (IsIn k) (sym equal) is)
    | inr apart ↦
        let below = elim (cases_order i at) as (λ _. i < at) [ inl same ↦ absurd (apart same) | inr other ↦ elim other [ inl less ↦ less | inr more ↦ absurd (omega arith) ] ] in
        inl (i, pile, below, sym (slice_get-set_other hand at i new apart) ∙ is_pile, is)
  ]

-- what a pile of a hand has is of the pile's class
pub IsHand-pile : (board : Board) (draft : Draft) (m at : ℕ) (hand : List Pile) (pile : Pile) → IsHand board draft m hand → slice_get hand at ≡ Some pile → AreOfClass board pile
IsHand-pile board draft m at hand pile is is_pile k is_k = is.of_classes pile.class k (at, pile, is_pile, refl, is_k)

-- one of several was written
pub written : {X : Type 0} (xs : List X) (m j : ℕ) (new x : X) → m < length xs → (P : ℕ → X → Type 0) → P m new → slice_get (set_at xs m new) j ≡ Some x
    → (((j ≡ m) → ⊥) → slice_get xs j ≡ Some x → P j x) → P j x
written xs m j new x low P here is there = elim (cases_equal j m) [
  | inl same ↦
      let equal : new ≡ x = same_Some new x (sym (slice_get-set_same xs m new low) ∙ ap (slice_get (set_at xs m new)) (sym same) ∙ is) in
      subst (λ i. P i x) (sym same) (subst (P m) equal here)
  | inr apart ↦ there apart (sym (slice_get-set_other xs m j new apart) ∙ is)
]

-- ---- lists

module _ (list : List Owned) (one : Owned) where
  IsListedIn-left : (t k : ℕ) → IsListedIn list t k → IsListedIn (list ++ one ∷ []) t k
  IsListedIn-left t k (i, it, is_it, of_class, at) = (i, it, slice_get-append_left list (one ∷ []) i it is_it, of_class, at)

  IsListedIn-last : IsListedIn (list ++ one ∷ []) one.class one.place
  IsListedIn-last = (length list, one, pushed_at list one, refl, refl)

  IsListedIn-pushed : (t k : ℕ) → IsListedIn (list ++ one ∷ []) t k → IsListedIn list t k ⊎ ((one.class ≡ t) × (one.place ≡ k))
  IsListedIn-pushed t k (i, it, is_it, of_class, at) = elim (slice_get-append_cases list (one ∷ []) i it is_it) [
    | inl before ↦ inl (i, it, before, of_class, at)
    | inr (j, there, end) ↦ inr (last j end)
  ]
    where
      last : (j : ℕ) → slice_get (one ∷ []) j ≡ Some it → (one.class ≡ t) × (one.place ≡ k)
      last zero end = let same : one ≡ it = same_Some one it end in (ap (λ (o : Owned). o.class) same ∙ of_class, ap (λ (o : Owned). o.place) same ∙ at)
      last (suc j) end = cc

nothing_listed : (list : List Owned) (t k : ℕ) → list ≡ [] → IsListedIn list t k → ⊥
nothing_listed list t k none (i, one, is_one, of_class, at) = let there : slice_get [] i ≡ Some one = ap (λ xs. slice_get xs i) (sym none) ∙ is_one in cc

nothing_in_hand : (hand : List Pile) (t k : ℕ) → hand ≡ [] → IsInClass hand t k → ⊥
nothing_in_hand hand t k none (i, pile, is_pile, of_class, is) = let there : slice_get [] i ≡ Some pile = ap (λ xs. slice_get xs i) (sym none) ∙ is_pile in cc

-- one of several empty ones
pub empty_at : {X : Type 0} (xs : List X) (items : X → Type 0) (m : ℕ) (x : X) → All items xs → slice_get xs m ≡ Some x → items x
empty_at xs items m x empty is = subst items (get_or_from_slice_get xs m x x is) (empty m x (slice_get_within xs m x is))

module _ (board : Board) (draft : Draft) where
  pub AreListed-none : (lists : List Listed) → length lists ≡ length draft.counts.items → All (λ (list : Listed). list.items ≡ []) lists → AreListed board draft 0 lists
  AreListed-none lists many empty = record {
    as_many = many;
    of_classes = λ m t k list is_list listed. absurd (nothing_listed list.items t k (empty_at lists (λ (l : Listed). l.items ≡ []) m list empty is_list) listed);
    all = λ m k list low. absurd (omega arith);
  }

  module _ (n : ℕ) (lists : List Listed) (are : AreListed board draft n lists) where
    -- nobody owns the partition that follows
    pub AreListed-skip : ((m : ℕ) → ¬ (slice_get draft.owners.items n ≡ Some (Some m))) → AreListed board draft (n + 1) lists
    AreListed-skip nobody = record {
      as_many = are.as_many;
      of_classes = are.of_classes;
      all = λ m k list low is_list owns. elim (cases_order k n) [
        | inl same ↦ absurd (nobody m (ap (slice_get draft.owners.items) (sym same) ∙ owns))
        | inr apart ↦ elim apart [ inl less ↦ are.all m k list less is_list owns | inr more ↦ absurd (omega arith) ]
      ];
    }

    -- it was added to its owner's list
    pub AreListed-added : (m : ℕ) (old new : Listed) (one : Owned) → slice_get draft.owners.items n ≡ Some (Some m)
        → slice_get lists m ≡ Some old → new.items ≡ old.items ++ one ∷ [] → IsOfClass board n one.class → one.place ≡ n → AreListed board draft (n + 1) (set_at lists m new)
    AreListed-added m old new one owned is_old pushed class at = record {
      as_many = length-set lists m new ∙ are.as_many;
      of_classes = λ j t k list is_list. written lists m j new list low
          (λ i (l : Listed). IsListedIn l.items t k → IsOfClass board k t)
          (λ listed. elim (IsListedIn-pushed old.items one t k (subst (λ xs. IsListedIn xs t k) pushed listed)) [
            | inl before ↦ are.of_classes m t k old is_old before
            | inr (of_class, there) ↦ subst (λ i. IsOfClass board i t) (sym at ∙ there) (subst (IsOfClass board n) of_class class)
          ])
          is_list
          (λ apart was. are.of_classes j t k list was);
      all = λ j k list within is_list owns. written lists m j new list low
          (λ i (l : Listed). (slice_get draft.owners.items k ≡ Some (Some i)) → (t : ℕ) × IsListedIn l.items t k)
          (λ mine. elim (cases_order k n) [
            | inl same ↦ (one.class, subst (λ i. IsListedIn new.items one.class i) (at ∙ sym same) (subst (λ xs. IsListedIn xs one.class one.place) (sym pushed) (IsListedIn-last old.items one)))
            | inr other ↦ elim other [
              | inl less ↦ let (t, listed) = are.all m k old less is_old mine in (t, subst (λ xs. IsListedIn xs t k) (sym pushed) (IsListedIn-left old.items one t k listed))
              | inr more ↦ absurd (omega arith)
            ]
          ])
          is_list
          (λ apart was his. elim (cases_order k n) [
            | inl same ↦
                let there : slice_get draft.owners.items n ≡ Some (Some j) = ap (slice_get draft.owners.items) (sym same) ∙ his in
                absurd (apart (sym (same_Some m j (same_Some (Some m) (Some j) (sym owned ∙ there)))))
            | inr other ↦ elim other [ inl less ↦ are.all j k list less was his | inr more ↦ absurd (omega arith) ]
          ])
          owns;
    }
      where
        low : m < length lists
        low = slice_get_within lists m old is_old

-- ---- all members

-- no pile is made
pub AreHeld-none : (board : Board) (draft : Draft) (hands : List Hand) (lists : List Listed) → length draft.owners.items ≡ length board.places.items → length hands ≡ length draft.counts.items
    → All (λ (hand : Hand). hand.items ≡ []) hands → AreListed board draft (length board.places.items) lists → AreHeld board draft hands lists
AreHeld-none board draft hands lists owners many empty are = record {
  as_many = many;
  as_many_lists = are.as_many;
  held = λ m hand list is_hand is_list. record {
    of_classes = λ t k there. absurd (nothing_in_hand hand.items t k (empty_at hands (λ (h : Hand). h.items ≡ []) m hand empty is_hand) there);
    listed_classes = λ t k listed. are.of_classes m t k list is_list listed;
    all = λ k owns. let low = slice_get_within draft.owners.items k (Some m) owns in inr (are.all m k list (omega arith) is_list owns);
  };
}

module _ (board : Board) (draft : Draft) (hands : List Hand) (lists : List Listed) (are : AreHeld board draft hands lists) (m : ℕ) (old : Hand) (is_old : slice_get hands m ≡ Some old) where
  low_hand : m < length hands
  low_hand = slice_get_within hands m old is_old

  -- the hand of a member was searched
  pub AreHeld-searched : (new : Hand) → IsHand board draft m new.items → AreHeld board draft (set_at hands m new) lists
  AreHeld-searched new is = record {
    as_many = length-set hands m new ∙ are.as_many;
    as_many_lists = are.as_many_lists;
    held = λ j hand list is_hand is_list. written hands m j new hand low_hand (λ i (h : Hand). slice_get lists i ≡ Some list → IsHeld board draft i h.items list.items)
        (λ is_mine. let held = are.held m old list is_old is_mine in record { of_classes = is.of_classes; listed_classes = held.listed_classes; all = λ k owns. inl (is.all k owns) })
        is_hand
        (λ apart was. are.held j hand list was)
        is_list;
  }

  -- a member has everything in its piles once nothing is listed
  pub IsHand-drawn : (list : Listed) → slice_get lists m ≡ Some list → list.items ≡ [] → IsHand board draft m old.items
  IsHand-drawn list is_list none =
      let held = are.held m old list is_old is_list in
      record {
        of_classes = held.of_classes;
        all = λ k owns. elim (held.all k owns) [ inl there ↦ there | inr (t, listed) ↦ absurd (nothing_listed list.items t k none listed) ];
      }

  -- what was listed is in the piles
  pub AreHeld-drawn : (new : Hand) (list empty : Listed) → slice_get lists m ≡ Some list → empty.items ≡ [] → ((t k : ℕ) → IsListedIn list.items t k → IsInHand new.items k)
      → ((k : ℕ) → IsInHand old.items k → IsInHand new.items k) → ((t k : ℕ) → IsInClass new.items t k → IsInClass old.items t k ⊎ IsListedIn list.items t k)
      → AreHeld board draft (set_at hands m new) (set_at lists m empty)
  AreHeld-drawn new list empty is_list none drawn kept classes = record {
    as_many = length-set hands m new ∙ are.as_many;
    as_many_lists = length-set lists m empty ∙ are.as_many_lists;
    held = λ j hand other is_hand is_other. written hands m j new hand low_hand (λ i (h : Hand). slice_get (set_at lists m empty) i ≡ Some other → IsHeld board draft i h.items other.items)
        (λ is_mine.
        let here : empty ≡ other = same_Some empty other (sym (slice_get-set_same lists m empty (slice_get_within lists m list is_list)) ∙ is_mine) in
        let nothing : other.items ≡ [] = ap (λ (l : Listed). l.items) (sym here) ∙ none in
        record {
          of_classes = λ t k there. elim (classes t k there) [ inl was ↦ held.of_classes t k was | inr listed ↦ held.listed_classes t k listed ];
          listed_classes = λ t k listed. absurd (nothing_listed other.items t k nothing listed);
          all = λ k owns. inl (elim (held.all k owns) [ inl was ↦ kept k was | inr (t, listed) ↦ drawn t k listed ]);
        })
        is_hand
        (λ apart was is_his. are.held j hand other was (sym (slice_get-set_other lists m j empty apart) ∙ is_his))
        is_other;
  }
    where
      held : IsHeld board draft m old.items list.items
      held = are.held m old list is_old is_list

-- a partition was given to a member
pub AreHeld-gained : (board : Board) (old new : Draft) (hands : List Hand) (lists : List Listed) → AreHeld board old hands lists → (m k class : ℕ) (hand more : Hand)
    → slice_get hands m ≡ Some hand → IsOfClass board k class → length new.counts.items ≡ length old.counts.items → new.owners.items ≡ set_at old.owners.items k (Some m)
    → IsInHand more.items k → ((i : ℕ) → IsInHand hand.items i → IsInHand more.items i) → ((t i : ℕ) → IsInClass more.items t i → IsInClass hand.items t i ⊎ ((t ≡ class) × (i ≡ k)))
    → AreHeld board new (set_at hands m more) lists
AreHeld-gained board old new hands lists are m k class hand more is_hand is_class many given added kept classes = record {
  as_many = length-set hands m more ∙ are.as_many ∙ sym many;
  as_many_lists = are.as_many_lists ∙ sym many;
  held = λ j h list there is_list. written hands m j more h (slice_get_within hands m hand is_hand) (λ i (x : Hand). slice_get lists i ≡ Some list → IsHeld board new i x.items list.items)
      (λ is_mine. let is = are.held m hand list is_hand is_mine in record {
        of_classes = λ t i inside. elim (classes t i inside) [
          | inl was ↦ is.of_classes t i was
          | inr (of_class, this) ↦ subst (IsOfClass board i) (sym of_class) (subst (λ j. IsOfClass board j class) (sym this) is_class)
        ];
        listed_classes = is.listed_classes;
        all = λ i owns. elim (before i m owns) [
          | inl was ↦ elim (is.all i was) [ inl inside ↦ inl (kept i inside) | inr listed ↦ inr listed ]
          | inr this ↦ inl (subst (IsInHand more.items) (sym this.0) added)
        ];
      })
      there
      (λ apart was is_his. let is = are.held j h list was is_his in record {
        of_classes = is.of_classes;
        listed_classes = is.listed_classes;
        all = λ i owns. elim (before i j owns) [ inl his ↦ is.all i his | inr this ↦ absurd (apart this.1) ];
      })
      is_list;
}
  where
    before : (i j : ℕ) → slice_get new.owners.items i ≡ Some (Some j) → (slice_get old.owners.items i ≡ Some (Some j)) ⊎ ((i ≡ k) × (j ≡ m))
    before i j owns =
        let shown : slice_get (set_at old.owners.items k (Some m)) i ≡ Some (Some j) = ap (λ xs. slice_get xs i) (sym given) ∙ owns in
        elim (cases_equal i k) [
          | inl same ↦
              let within = slice_get_within (set_at old.owners.items k (Some m)) i (Some j) shown in
              let long = length-set old.owners.items k (Some m) in
              let here = slice_get-set_same old.owners.items k (Some m) (omega arith) in
              let owner : Some m ≡ Some j = same_Some (Some m) (Some j) (sym here ∙ ap (slice_get (set_at old.owners.items k (Some m))) (sym same) ∙ shown) in
              inr (same, sym (same_Some m j owner))
          | inr apart ↦ inl (sym (slice_get-set_other old.owners.items k i (Some m) apart) ∙ shown)
        ]
