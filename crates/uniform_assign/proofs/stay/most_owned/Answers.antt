use Rattle.std.proofs.Common.{◌≡◌, Some, length, slice_get, refl, sym, ap, ◌∙◌, arith, inl, inr}
use Rattle.std.proofs.lemmas.Bool.{cases_lt}
use Rattle.std.proofs.lemmas.List.{length-map}
use Rattle.std.proofs.lemmas.Option.{same_Some, slice_get_read, slice_get_within}
use Rattle.group_types.specs.Partition.{Partitions}
use Rattle.group_types.specs.Sets.{size}
use Rattle.group_types.specs.Text.{Text}
use Rattle.range_assign.specs.Shares.{share_in, shares_in}
use Rattle.uniform_assign.proofs.Lists.{slice_get-map_at}
use Rattle.uniform_assign.proofs.stay.most_owned.Goals as goal

pub loop-share-preserved : goal.loop-share-preserved
loop-share-preserved c = λ k s low is.
    let shares = c.args.shares.now in
    let n = c.loop-share.share-index in
    let x = c.share-item.result in
    let most = c.greater_of_two-most.result in
    elim (cases_lt k n) [
      | inl below ↦
          let before = c.loop-share.invariant k s below is in
          let up = c.greater_of_two-most.ensures.first in
          omega arith
      | inr above ↦
          let same : k ≡ n = omega arith in
          let here : slice_get (shares_in shares) n ≡ Some (share_in x) =
          slice_get-map_at share_in shares n x (slice_get_read shares (length shares) n x refl c.loop-share-test.true c.share-item.is) in
          let one : share_in x ≡ s = same_Some (share_in x) s (sym here ∙ ap (slice_get (shares_in shares)) (sym same) ∙ is) in
          let long : c.len.result ≡ size s.1 = c.len.ensures ∙ ap (λ (y : Text × Partitions). size y.1) one in
          let up = c.greater_of_two-most.ensures.second in
          omega (arith, long)
    ]

pub returns : goal.returns
returns c = λ k s is.
    let within = slice_get_within (shares_in c.args.shares.now) k s is in
    let long = length-map c.args.shares.now share_in in
    let last = c.loop-share-test.false in
    c.loop-share.invariant k s (omega arith) is
