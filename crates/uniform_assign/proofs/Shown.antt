-- What a draft shows: its counts and its owners.
use Rattle.std.proofs.Common.{◌≡◌, ℕ, List, get_or, refl, sym, ap, ◌∙◌, arith, Option, Some, None}
use Rattle.std.specs.List.{slice_get}
use Rattle.std.specs.Option.{option_and_then}
use Rattle.std.proofs.lemmas.Option.{slice_get_within}
use Rattle.group_types.specs.declared.partition.Partition.{Partition}
use Rattle.group_types.specs.Text.{Text}
use Rattle.group_types.specs.Assignors.{Subscriber}
use Rattle.group_types.specs.Owners.{Spread}
use Rattle.group_types.specs.Uniform.{count, in_partition_order}
use Rattle.uniform_assign.specs.declared.board.Board.{Board}
use Rattle.uniform_assign.specs.declared.draft.Draft.{Draft}
use Rattle.uniform_assign.specs.Boards.{IsBare, members_on}
use Rattle.uniform_assign.specs.Drafts.{IsDraft, drawn_on}
use Rattle.uniform_assign.specs.Moves.{CanGive}
use Rattle.uniform_assign.proofs.Boards.{as_many_places, parts_are_apart}
use Rattle.uniform_assign.proofs.Counted.{count-drawn}
use Rattle.uniform_assign.proofs.Drawn.{drawn-at}
use Rattle.uniform_assign.proofs.Lists.{option_map-from, some_at}

-- the member that an owner is
owner-from : (subs : List Subscriber) (o : Option ℕ) (s : Subscriber) → option_and_then (slice_get subs) o ≡ Some s → (m : ℕ) × (o ≡ Some m) × (slice_get subs m ≡ Some s)
owner-from subs None s is = cc
owner-from subs (Some m) s is = (m, refl, is)

module _ (board : Board) (draft : Draft) (is : IsBare board) (are : IsDraft board draft) where
  abbrev parts : List (Text × Partition)
  parts = in_partition_order board.view.now

  abbrev subs : List Subscriber
  subs = members_on board

  abbrev spread : Spread
  spread = drawn_on board draft.owners.items

  -- the counts are those of the spread
  pub count-shown : (m : ℕ) (s : Subscriber) → slice_get subs m ≡ Some s → get_or draft.counts.items m 0 ≡ count spread s.id
  count-shown m s is_s =
      let within = slice_get_within subs m s is_s in
      let many = are.as_many_counts in
      let owners = are.as_many_owners in
      let places = as_many_places board is in
      are.counts.counted m (omega arith)
      ∙ sym (count-drawn parts subs draft.owners.items m s (parts_are_apart board is) is.apart (omega arith) (λ k n is_n. let low = are.counts.within k n is_n in omega arith) is_s)

  pub owner-at : (k m : ℕ) → slice_get draft.owners.items k ≡ Some (Some m) → (s : Subscriber) × (slice_get subs m ≡ Some s)
  owner-at k m is_m = let low = are.counts.within k m is_m in let many = are.as_many_counts in some_at subs m (omega arith)

  -- who can give a partition away owns it
  pub can_give-owns : (from k : ℕ) → CanGive board draft from k → slice_get draft.owners.items k ≡ Some (Some from)
  can_give-owns from k can =
      let owners = are.as_many_owners in
      let places = as_many_places board is in
      let in_parts = slice_get_within parts k can.moved can.is_partition in
      let (o, is_o) = some_at draft.owners.items k (omega arith) in
      let shown = drawn-at subs parts draft.owners.items k can.moved o (parts_are_apart board is) can.is_partition is_o in
      let (s, is_s, same_id) = option_map-from (λ (m : Subscriber). m.id) (option_and_then (slice_get subs) o) can.owner.id (sym shown ∙ can.owns) in
      let (m, is_m, there) = owner-from subs o s is_s in
      is_o ∙ ap Some is_m ∙ ap (λ n. Some (Some n)) (is.apart m from s can.owner there can.is_member same_id)
