-- The rule has one result.
use Rattle.std.proofs.Common.{◌≡◌, List, [], ◌∷◌, sym, ap, subst, ◌∙◌, arith, inl, inr, Some, None}
use Rattle.std.specs.FinMap as finite
use Rattle.std.specs.List.{slice_get}
use Rattle.std.specs.Option.{MatchOption}
use Rattle.std.proofs.lemmas.Bool.{cases_order}
use Rattle.std.proofs.lemmas.Option.{same_Some}
use Rattle.group_types.specs.declared.partition.Partition.{Partition}
use Rattle.group_types.specs.Text.{Text}
use Rattle.group_types.specs.Topics.{Topics}
use Rattle.group_types.specs.Assignors.{Subscriber, subscribers_of}
use Rattle.group_types.specs.Owners.{Spread}
use Rattle.group_types.specs.Uniform.{AreFilled, AreMoves, CanMove, Fills, GoesTo, IsFewest, IsLevel, IsNextMove, in_partition_order}
use Rattle.uniform_assign.specs.Laws.{UniformIsOneSpread}
use Rattle.uniform_assign.proofs.Owners.{same_spread}

-- one member owns the fewest
one_fewest : (spread : Spread) (members : List Subscriber) (m n : Subscriber) → IsFewest spread members m → IsFewest spread members n → m ≡ n
one_fewest spread members m n one two =
    elim (cases_order one.place two.place) [
      | inl same ↦ same_Some m n (sym one.is_there ∙ ap (slice_get members) same ∙ two.is_there)
      | inr other ↦ elim other [
        | inl before ↦
            let less = two.first one.place m before one.is_there in
            let most = one.fewest two.place n two.is_there in
            absurd (omega arith)
        | inr after ↦
            let less = one.first two.place n after two.is_there in
            let most = two.fewest one.place m one.is_there in
            absurd (omega arith)
      ]
    ]

one_goes : (spread one two : Spread) (takers : List Subscriber) (p : Partition) → GoesTo spread takers p one → GoesTo spread takers p two → one ≡ two
one_goes spread one two [] p first second = first ∙ sym second
one_goes spread one two (x ∷ xs) p (m, fewest_m, is_m) (n, fewest_n, is_n) =
    is_m ∙ ap (λ s. finite.insert spread p s.id) (one_fewest spread (x ∷ xs) m n fewest_m fewest_n) ∙ sym is_n

one_fill : (subs : List Subscriber) (spread one two : Spread) (x : Text × Partition) → Fills subs spread x one → Fills subs spread x two → one ≡ two
one_fill subs spread one two x =
    elim (finite.get spread x.1) as (λ o. MatchOption o (GoesTo spread (subscribers_of subs x.0) x.1 one) (λ _. one ≡ spread) → MatchOption o (GoesTo spread (subscribers_of subs x.0) x.1 two) (λ _. two ≡ spread) → one ≡ two) [
      | None ↦ λ first second. one_goes spread one two (subscribers_of subs x.0) x.1 first second
      | Some id ↦ λ first second. first ∙ sym second
    ]

one_filled : (subs : List Subscriber) (spread one two : Spread) (xs : List (Text × Partition)) → AreFilled subs spread xs one → AreFilled subs spread xs two → one ≡ two
one_filled subs spread one two [] first second = first ∙ sym second
one_filled subs spread one two (x ∷ xs) (next, fills, filled) (other, other_fills, other_filled) =
    let same = one_fill subs spread other next x other_fills fills in
    one_filled subs next one two xs filled (subst (λ s. AreFilled subs s xs two) same other_filled)

module _ (view : Topics) (subs : List Subscriber) where
  one_move : (spread one two : Spread) → IsNextMove view subs spread one → IsNextMove view subs spread two → one ≡ two
  one_move spread one two first second =
      let up = first.most second.from second.place second.move in
      let down = second.most first.from first.place first.move in
      let from : first.from ≡ second.from = elim (cases_order first.from second.from) [
        | inl same ↦ same
        | inr other ↦ elim other [
          | inl before ↦ let less = second.first_member first.from first.place first.move before in absurd (omega arith)
          | inr after ↦ let less = first.first_member second.from second.place second.move after in absurd (omega arith)
        ]
      ] in
      let low = first.first_partition second.place (subst (λ from. CanMove view subs spread from second.place) (sym from) second.move) in
      let high = second.first_partition first.place (subst (λ from. CanMove view subs spread from first.place) from first.move) in
      let place : first.place ≡ second.place = omega arith in
      let moved : first.move.moved ≡ second.move.moved =
      same_Some first.move.moved second.move.moved (sym first.move.is_partition ∙ ap (slice_get (in_partition_order view)) place ∙ second.move.is_partition) in
      let to : first.to ≡ second.to =
      one_fewest spread (subscribers_of subs second.move.moved.0) first.to second.to
      (subst (λ x. IsFewest spread (subscribers_of subs x.0) first.to) moved first.is_fewest) second.is_fewest in
      first.is_new ∙ (λ i. finite.insert spread (moved i).1 (to i).id) ∙ sym second.is_new

  one_end : (spread one two : Spread) (steps others : List Spread) → IsLevel view subs one → IsLevel view subs two → AreMoves view subs spread steps one → AreMoves view subs spread others two → one ≡ two
  one_end spread one two [] [] level_one level_two first second = first ∙ sym second
  one_end spread one two [] (next ∷ later) level_one level_two first (move, moves) =
      let here = subst (IsLevel view subs) first level_one in absurd (here move.from move.place move.move)
  one_end spread one two (next ∷ later) [] level_one level_two (move, moves) second =
      let here = subst (IsLevel view subs) second level_two in absurd (here move.from move.place move.move)
  one_end spread one two (next ∷ later) (other ∷ others) level_one level_two (move, moves) (other_move, other_moves) =
      let same = one_move spread other next other_move move in
      one_end next one two later others level_one level_two moves (subst (λ s. AreMoves view subs s others two) same other_moves)

pub uniform_is_one_spread : UniformIsOneSpread
uniform_is_one_spread view subs former one other first second =
    let kept : second.kept ≡ first.kept =
    same_spread second.kept first.kept (λ p id. (λ is. (first.is_kept p id).1 ((second.is_kept p id).0 is), λ is. (second.is_kept p id).1 ((first.is_kept p id).0 is))) in
    let filled : second.filled ≡ first.filled =
    one_filled subs first.kept second.filled first.filled (in_partition_order view)
    (subst (λ s. AreFilled subs s (in_partition_order view) second.filled) kept second.are_filled) first.are_filled in
    one_end view subs first.filled one other first.steps second.steps first.is_level second.is_level first.are_moves
    (subst (λ s. AreMoves view subs s second.steps other) filled second.are_moves)
