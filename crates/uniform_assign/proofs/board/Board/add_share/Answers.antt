use Rattle.std.proofs.Common.{◌≡◌, cond, None, Some, get_or, set as set_at, slice_get, refl, sym, ap, ◌∙◌, arith, length-set, get_or-set_other, get_or-set_same, inl, inr}
use Rattle.std.specs.Slice.Iter.{iter_rest}
use Rattle.std.specs.Ordering.{eq_by_cmp}
use Rattle.std.proofs.lemmas.List.{nil_from_length}
use Rattle.std.proofs.lemmas.Option.{same_Some, slice_get_within}
use Rattle.group_types.specs.Partition.{partition_cmp}
use Rattle.uniform_assign.specs.declared.board.Place.{Place}
use Rattle.uniform_assign.proofs.Counts.{cases_equal}
use Rattle.uniform_assign.proofs.FormerOwners.{one_partition, two_partitions, with_keys, with_keys-all, with_keys-next}
use Rattle.uniform_assign.proofs.Located.{places-apart}
use Rattle.uniform_assign.proofs.board.Board.add_share.Goals as goal

pub loop-partition-init : goal.loop-partition-init
loop-partition-init c = (
  refl,
  λ k place is_place.
      ap (λ keys. with_keys (get_or c.args.owners.now.items k None) keys c.args.member place.partition) (ap iter_rest c.into_iter-partition-iterator.ensures.into_iter_gives ∙ c.iter-partition-items.ensures.rest)
      ∙ with_keys-all (get_or c.args.owners.now.items k None) c.args.set.now c.args.member place.partition,
)

pub loop-partition-preserved : goal.loop-partition-preserved
loop-partition-preserved c = (
  c.loop-partition.invariant.0,
  λ k place is_place.
      let o = get_or c.loop-partition.owners.items k None in
      let key = c.in-Some.partition.now in
      let away = two_partitions place.partition key (c.in_default.ensures k place is_place) in
      with_keys-next o o key (iter_rest c.next.new.self) c.args.member place.partition (ap (λ b. cond b (Some c.args.member) o) (sym away))
      ∙ ap (λ keys. with_keys o keys c.args.member place.partition) (sym c.in-Some.ensures.steps)
      ∙ c.loop-partition.invariant.1 k place is_place,
)

pub returns : goal.returns
returns c = record {
  as_many = c.loop-partition.invariant.0;
  shared = λ k place is_place.
      ap (λ keys. with_keys (get_or c.loop-partition.owners.items k None) keys c.args.member place.partition) (sym (nil_from_length (iter_rest c.loop-partition.partition-iterator) c.in-None.ensures.steps.0))
      ∙ c.loop-partition.invariant.1 k place is_place;
}

pub loop-partition-preserved-in-Some-place_near : goal.loop-partition-preserved-in-Some-place_near
loop-partition-preserved-in-Some-place_near c =
    let owners = c.loop-partition.owners.items in
    let at = c.in-Some-place_near.at in
    let m = c.args.member in
    let key = c.in-Some.partition.now in
    let (spot, is_spot, is_key) = c.in-Some-place_near.ensures in
    let long = length-set owners at (Some m) in
    let many = c.loop-partition.invariant.0 in
    let as_many = c.requires.as_many in
    let low = slice_get_within c.args.self.now.places.items at spot is_spot in (
      long ∙ many,
      λ k place is_place.
          let o = get_or owners k None in
          let new = get_or (set_at owners at (Some m)) k None in
          let value : new ≡ cond (eq_by_cmp partition_cmp place.partition key) (Some m) o = elim (cases_equal k at) [
            | inl same ↦
                let one : place ≡ spot = same_Some place spot (sym is_place ∙ ap (slice_get c.args.self.now.places.items) same ∙ is_spot) in
                ap (λ j. get_or (set_at owners at (Some m)) j None) same ∙ get_or-set_same owners at (Some m) None (omega arith)
                ∙ sym (ap (λ b. cond b (Some m) o) (one_partition place.partition key (ap (λ (p : Place). p.partition) one ∙ is_key)))
            | inr apart ↦
                get_or-set_other owners at k (Some m) None apart
                ∙ sym (ap (λ b. cond b (Some m) o) (two_partitions place.partition key (λ equal. apart (places-apart c.args.self.now c.requires.board k at place spot is_place is_spot (equal ∙ sym is_key)))))
          ] in
          with_keys-next o new key (iter_rest c.next.new.self) m place.partition value
          ∙ ap (λ keys. with_keys o keys m place.partition) (sym c.in-Some.ensures.steps)
          ∙ c.loop-partition.invariant.1 k place is_place,
    )
