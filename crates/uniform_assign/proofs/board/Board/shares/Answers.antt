use Rattle.std.proofs.Common.{◌≡◌, ◌<◌, ◌+◌, filter, length, slice_set, refl, sym, ap, subst, ◌∙◌, arith, Some}
use Rattle.std.specs.List.{slice_get}
use Rattle.std.specs.Global.{Vec as HeapVec}
use Rattle.std.specs.Option.{option_map}
use Rattle.std.proofs.lemmas.List.{length-map, map-set}
use Rattle.std.proofs.lemmas.Result.{IfOk-weaker}
use Rattle.std.proofs.lemmas.Option.{slice_get-map, slice_get_read}
use Rattle.group_types.specs.declared.partition.Partition.{Partition}
use Rattle.group_types.specs.Sets.{of_list, with_one}
use Rattle.group_types.proofs.Orders.{partition_cmp_total, partition_cmp-IsAntisymmetric}
use Rattle.group_types.proofs.RisingLists.{of_list-push}
use Rattle.group_types.specs.Text.{Text}
use Rattle.group_types.specs.Uniform.{in_partition_order}
use Rattle.range_assign.specs.Shares.{AreShares, shares_in, spread_of}
use Rattle.uniform_assign.specs.declared.shares.Hand.{Hand}
use Rattle.uniform_assign.specs.Drafts.{drawn_on}
use Rattle.uniform_assign.specs.Hands.{hand_in, hands_in, has_parts}
use Rattle.uniform_assign.proofs.Hands.{AreShares-full, spread_of-full}
use Rattle.uniform_assign.proofs.Boards.{as_many_places, part_at, parts_are_apart, place_here}
use Rattle.uniform_assign.proofs.Dealt.{AreDealtTo, AreDealtTo-none, AreDealtTo-skip, AreDealtTo-take, AreShares-dealt, spread_of-dealt}
use Rattle.uniform_assign.proofs.board.Board.shares.Goals as goal
use Rattle.uniform_assign.proofs.board.Board.shares.Goals.{in-Some+in_ok-push, in_default}
use Rattle.uniform_assign.specs.Boards.{members_on}

pub loop-at-init : goal.loop-at-init
loop-at-init c =
    AreDealtTo-none (in_partition_order c.args.self.now.view.now) (members_on c.args.self.now) c.args.draft.now.owners.items (hands_in c.in_ok-hands.hands.items)
    c.in_ok-hands.ensures

pub loop-at-preserved : goal.loop-at-preserved
loop-at-preserved c =
    let board = c.args.self.now in
    let subs = members_on board in
    let parts = in_partition_order board.view.now in
    let owners = c.args.draft.now.owners.items in
    let n = c.loop-at.at in
    let place = c.place-item.result in
    let at = part_at board c.requires.board n place (place_here c.deref-place-items.result.now board.places.items n place c.deref-place-items.ensures.value c.loop-at-test.true c.place-item.is) in
    let low = c.loop-at-test.true in
    let within : n < length owners = let places = ap length c.deref-place-items.ensures.value in let many = c.requires.draft.as_many_owners in omega arith in
    let owner : slice_get owners n ≡ Some c.index.result.now = slice_get_read owners (length owners) n c.index.result.now refl within c.index.ensures in
    let x : Text × Partition = (at.topic.0, place.partition) in
    let shares = c.loop-at.hands.items in
    elim c.match-index.branch [
      | in-Some+in_ok-push w ↦
          let m = w.in-Some.owner in
          let old : Hand = w.index_mut.result.now in
          let new : Hand = record { id = old.id; parts = w.push.new.self } in
          let is_owner = owner ∙ ap Some w.in-Some.is in
          let in_counts = c.requires.draft.counts.within n m is_owner in
          let many = c.requires.draft.as_many_counts in
          let as_many = c.loop-at.invariant.as_many in
          let long = length-map shares hand_in in
          let in_shares : m < length shares = omega arith in
          let there = slice_get-map hand_in shares m ∙ ap (option_map hand_in) (slice_get_read shares (length shares) m old refl in_shares w.index_mut.ensures.value) in
          let made : hands_in c.match-index.hands.items ≡ slice_set (hands_in shares) m (old.id.now, with_one (of_list old.parts.items) place.partition) =
          ap (λ (v : HeapVec Hand). hands_in v.items) w.hands-is ∙ map-set hand_in shares m new ∙ ap (λ set. slice_set (hands_in shares) m (old.id.now, set)) (ap of_list w.in_ok-push.ensures.items ∙ of_list-push partition_cmp_total partition_cmp-IsAntisymmetric old.parts.items place.partition) in
          subst (AreDealtTo parts subs owners (n + 1)) (sym made) (AreDealtTo-take parts subs owners n m x (hands_in shares) old.id.now (of_list old.parts.items) at.is_part is_owner there c.loop-at.invariant)
      | in_default w ↦
          subst (λ (v : HeapVec Hand). AreDealtTo parts subs owners (n + 1) (hands_in v.items)) (sym w.hands-is)
          (AreDealtTo-skip parts subs owners n x (hands_in shares) at.is_part (owner ∙ ap Some w.in_default.is) c.loop-at.invariant)
    ]

pub returns : goal.returns
returns c =
    let board = c.args.self.now in
    let parts = in_partition_order board.view.now in
    let owners = c.args.draft.now.owners.items in
    let hands = hands_in c.loop-at.hands.items in
    let apart = parts_are_apart board c.requires.board in
    let places = ap length c.deref-place-items.ensures.value in
    let many = as_many_places board c.requires.board in
    let last = c.loop-at-test.false in
    let dealt = AreShares-dealt parts (members_on board) owners apart c.requires.board.apart c.loop-at.at hands c.loop-at.invariant in
    let drawn = spread_of-dealt parts (members_on board) owners apart c.requires.board.apart c.loop-at.at hands c.loop-at.invariant (omega arith) in
    let full = hands_in (filter has_parts c.loop-at.hands.items) in
    record {
      shares = IfOk-weaker c.shares_of.result (λ s. shares_in s.items ≡ full) (λ s. AreShares (shares_in s.items)) (λ s is. subst AreShares (sym is) (AreShares-full c.loop-at.hands.items dealt)) c.shares_of.ensures;
      drawn = IfOk-weaker c.shares_of.result (λ s. shares_in s.items ≡ full) (λ s. spread_of (shares_in s.items) ≡ drawn_on board owners) (λ s is. ap spread_of is ∙ spread_of-full c.loop-at.hands.items ∙ drawn) c.shares_of.ensures;
    }
