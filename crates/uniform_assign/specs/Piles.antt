-- The piles of partitions that members own.
use Rattle.std.specs.Prelude.{◌≡◌, ◌⊎◌, ℕ, ◌+◌, ◌<◌, ◌≤◌, List, [], length, Option, Some, slice_get, MatchOption}
use Rattle.std.specs.List.{Contains}
use Rattle.std.specs.Option.{option_len}
use Rattle.std.specs.BinaryHeap.{heap_items, heap_len}
use Rattle.std.specs.declared.cmp.Reverse.{Reverse}
use Rattle.std.specs.Global.{Vec}
use Rattle.uniform_assign.specs.declared.board.Board.{Board}
use Rattle.uniform_assign.specs.declared.draft.Draft.{Draft}
use Rattle.uniform_assign.specs.declared.pile.Pile.{Pile}
use Rattle.uniform_assign.specs.declared.piles.Piles.{Piles}
use Rattle.uniform_assign.specs.declared.piles.Owned.{Owned}
use Rattle.uniform_assign.specs.Boards.{IsOfClass}

-- the place is in the pile
abbrev pub IsIn : ℕ → Pile → Type 0
IsIn k pile = (pile.one ≡ Some k) ⊎ ((r : Reverse ℕ) × Contains (heap_items pile.places) r × (r.0 ≡ k))

-- the first place of the pile, if it has any
abbrev pub IsFirstIn : Pile → Option ℕ → Type 0
IsFirstIn pile o = MatchOption o ((k : ℕ) → ¬ IsIn k pile) (λ first. IsIn first pile × ((k : ℕ) → IsIn k pile → first ≤ k))

-- how many places the pile has
abbrev pub how_many : Pile → ℕ
how_many pile = option_len pile.one + heap_len pile.places

-- a member's piles, one a class
abbrev pub Hand : Type 0
Hand = Vec Pile

-- one of the piles is of the class and has the place
abbrev pub IsInClass : List Pile → ℕ → ℕ → Type 0
IsInClass hand t k = (i : ℕ) × (pile : Pile) × (slice_get hand i ≡ Some pile) × (pile.class ≡ t) × IsIn k pile

-- one of the piles has the place
abbrev pub IsInHand : List Pile → ℕ → Type 0
IsInHand hand k = (t : ℕ) × IsInClass hand t k

-- the pile at a place is of the class
abbrev pub IsPileOf : List Pile → ℕ → ℕ → Type 0
IsPileOf hand class i = (pile : Pile) × (slice_get hand i ≡ Some pile) × (pile.class ≡ class)

-- the first place of the pile is one that the member owns, or the pile is empty
abbrev pub IsFirstOwned : List (Option ℕ) → ℕ → Pile → Option ℕ → Type 0
IsFirstOwned owners member pile o =
    MatchOption o ((k : ℕ) → ¬ IsIn k pile) (λ first. IsIn first pile × (slice_get owners first ≡ Some (Some member)) × ((k : ℕ) → IsIn k pile → first ≤ k))

-- what the pile has is of its class
abbrev pub AreOfClass : Board → Pile → Type 0
AreOfClass board pile = (k : ℕ) → IsIn k pile → IsOfClass board k pile.class

-- what the piles of a hand have is of their classes
abbrev pub AreOfClasses : Board → List Pile → Type 0
AreOfClasses board hand = (t k : ℕ) → IsInClass hand t k → IsOfClass board k t

-- the hand has the partitions that the member owns
pub record IsHand (board : Board) (draft : Draft) (m : ℕ) (hand : List Pile) : Type 0 where
  pub of_classes : AreOfClasses board hand
  pub all : (k : ℕ) → slice_get draft.owners.items k ≡ Some (Some m) → IsInHand hand k

-- what a member owned, in partition order
abbrev pub Listed : Type 0
Listed = Vec Owned

-- the place is in the list, with the class
abbrev pub IsListedIn : List Owned → ℕ → ℕ → Type 0
IsListedIn list t k = (i : ℕ) × (one : Owned) × (slice_get list i ≡ Some one) × (one.class ≡ t) × (one.place ≡ k)

-- of the first n places each member's list has those that it owns, with their classes
pub record AreListed (board : Board) (draft : Draft) (n : ℕ) (lists : List Listed) : Type 0 where
  pub as_many : length lists ≡ length draft.counts.items
  pub of_classes : (m t k : ℕ) (list : Listed) → slice_get lists m ≡ Some list → IsListedIn list.items t k → IsOfClass board k t
  pub all : (m k : ℕ) (list : Listed) → k < n → slice_get lists m ≡ Some list → slice_get draft.owners.items k ≡ Some (Some m)
      → (t : ℕ) × IsListedIn list.items t k

-- each of a member's partitions is in one of its piles or in its list, and what these have is of their classes
pub record IsHeld (board : Board) (draft : Draft) (m : ℕ) (hand : List Pile) (list : List Owned) : Type 0 where
  pub of_classes : AreOfClasses board hand
  pub listed_classes : (t k : ℕ) → IsListedIn list t k → IsOfClass board k t
  pub all : (k : ℕ) → slice_get draft.owners.items k ≡ Some (Some m) → IsInHand hand k ⊎ ((t : ℕ) × IsListedIn list t k)

-- so is each member's
pub record AreHeld (board : Board) (draft : Draft) (hands : List Hand) (lists : List Listed) : Type 0 where
  pub as_many : length hands ≡ length draft.counts.items
  pub as_many_lists : length lists ≡ length draft.counts.items
  pub held : (m : ℕ) (hand : Hand) (list : Listed) → slice_get hands m ≡ Some hand → slice_get lists m ≡ Some list → IsHeld board draft m hand.items list.items

abbrev pub ArePiles : Board → Draft → Piles → Type 0
ArePiles board draft piles = AreHeld board draft piles.hands.items piles.listed.items

-- nothing is listed of the member
abbrev pub IsDrawn : Piles → ℕ → Type 0
IsDrawn piles m = (list : Listed) × (slice_get piles.listed.items m ≡ Some list) × (list.items ≡ [])
