-- The topics that members are known to subscribe.
use Rattle.std.proofs.Common.{◌≡◌, ℕ, ◌<◌, true, List, length, replicate, set as set_at, sym, ap, ◌∙◌, arith, inl, inr, Option, Some, None}
use Rattle.std.specs.FinMap as finite
use Rattle.std.specs.List.{slice_get}
use Rattle.std.proofs.lemmas.List.{length-replicate, length-set}
use Rattle.std.proofs.lemmas.Option.{same_Some}
use Rattle.group_types.specs.Assignors.{Subscriber}
use Rattle.group_types.specs.Sets.{has}
use Rattle.group_types.specs.Text.{Text}
use Rattle.group_types.specs.Topics.{Topic}
use Rattle.uniform_assign.specs.declared.board.Board.{Board}
use Rattle.uniform_assign.specs.Boards.{AreKnown, members_on}
use Rattle.uniform_assign.proofs.Counts.{cases_equal}
use Rattle.uniform_assign.proofs.Kept.{no_owner_at, slice_get-set_other, slice_get-set_same}

module _ (board : Board) where
  pub AreKnown-none : (known : List (Option ℕ)) (n : ℕ) → known ≡ replicate n None → n ≡ length (members_on board) → AreKnown board known
  AreKnown-none known n none many = record {
    as_many = ap length none ∙ length-replicate n None ∙ many;
    subscribe = λ m t member topic is _ _. absurd (no_owner_at n m t (ap (λ xs. slice_get xs m) (sym none) ∙ is));
  }

  pub AreKnown-set : (known : List (Option ℕ)) (m t : ℕ) → AreKnown board known → m < length (members_on board)
      → ((member : Subscriber) (topic : Text × Topic) → slice_get (members_on board) m ≡ Some member → slice_get (finite.entries board.view.now) t ≡ Some topic → has member.names topic.0 ≡ true)
      → AreKnown board (set_at known m (Some t))
  AreKnown-set known m t are within takes = record {
    as_many = length-set known m (Some t) ∙ are.as_many;
    subscribe = λ n u member topic is is_member is_topic. elim (cases_equal n m) [
      | inl same ↦
          let long = are.as_many in
          let here : Some t ≡ Some u = same_Some (Some t) (Some u) (sym (slice_get-set_same known m (Some t) (omega (arith, within, long))) ∙ ap (slice_get (set_at known m (Some t))) (sym same) ∙ is) in
          takes member topic (ap (slice_get (members_on board)) (sym same) ∙ is_member) (ap (slice_get (finite.entries board.view.now)) (same_Some t u here) ∙ is_topic)
      | inr apart ↦ are.subscribe n u member topic (sym (slice_get-set_other known m n (Some t) apart) ∙ is) is_member is_topic
    ];
  }
