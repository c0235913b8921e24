use Rattle.std.proofs.Common.{◌≡◌, ℕ, None, Some, Option, List, length, slice_get, slice_set, ◌+◌, ◌-◌, refl, sym, ap, subst, ◌∙◌, arith, get_or}
use Rattle.std.proofs.lemmas.List.{get_or_read}
use Rattle.std.proofs.lemmas.Option.{slice_get_read}
use Rattle.uniform_assign.specs.declared.draft.Draft.{Draft}
use Rattle.uniform_assign.specs.Drafts.{AreCounts}
use Rattle.uniform_assign.proofs.Counts.{give-counts, give-moved, less-le, owner-counted}
use Rattle.uniform_assign.proofs.draft.Draft.give.Goals as goal
use Rattle.uniform_assign.proofs.draft.Draft.give.Goals.{in-Some, in_default}

pub overflow_sub-index_mut : goal.overflow_sub-index_mut
overflow_sub-index_mut c =
    let owners = c.args.self.now.owners.items in
    let counts = c.args.self.now.counts.items in
    let here : slice_get owners c.args.partition ≡ Some (Some c.in-Some.owner) = slice_get_read owners (length owners) c.args.partition c.index.result.now refl c.requires.partition_in c.index.ensures ∙ ap Some c.in-Some.is in
    let some = owner-counted owners counts c.args.partition c.in-Some.owner c.requires.counts here in
    let value = get_or_read counts c.in-Some.owner c.index_mut.result.now (c.requires.counts.within c.args.partition c.in-Some.owner here) c.index_mut.ensures.value 0 in
    omega arith

-- what the owner's count became
less : (owners : List (Option ℕ)) (counts : List ℕ) (k owner x : ℕ) → AreCounts owners counts → slice_get owners k ≡ Some (Some owner) → x ≡ get_or counts owner x
    → slice_set counts owner (x - 1) ≡ slice_set counts owner (get_or counts owner 0 - 1)
less owners counts k owner x are here read = ap (λ n. slice_set counts owner (n - 1)) (get_or_read counts owner x (are.within k owner here) read 0)

pub overflow_add-index_mut : goal.overflow_add-index_mut
overflow_add-index_mut c =
    let owners = c.args.self.now.owners.items in
    let counts = c.args.self.now.counts.items in
    let at = slice_get_read owners (length owners) c.args.partition c.index.result.now refl c.requires.partition_in c.index.ensures in
    let small = c.args.self.now.owners.small in
    elim c.match-index.branch [
      | in-Some w ↦
          let here : slice_get owners c.args.partition ≡ Some (Some w.in-Some.owner) = at ∙ ap Some w.in-Some.is in
          let fewer = ap (λ (d : Draft). d.counts.items) w.self-is ∙ less owners counts c.args.partition w.in-Some.owner w.index_mut.result.now c.requires.counts here w.index_mut.ensures.value in
          let low = less-le owners counts c.match-index.self.counts.items c.args.partition c.args.member c.index_mut-3.result.now c.requires.counts c.requires.member_in (Some w.in-Some.owner) fewer c.index_mut-3.ensures.value in
          let ok = c.args.self.now.owners.ok in
          omega arith
      | in_default w ↦
          let here : slice_get owners c.args.partition ≡ Some None = at ∙ ap Some w.in_default.is in
          let low = less-le owners counts c.match-index.self.counts.items c.args.partition c.args.member c.index_mut-3.result.now c.requires.counts c.requires.member_in None (ap (λ (d : Draft). d.counts.items) w.self-is) c.index_mut-3.ensures.value in
          let ok = c.args.self.now.owners.ok in
          omega arith
    ]

pub returns-clause-counts : goal.returns-clause-counts
returns-clause-counts c =
    let owners = c.args.self.now.owners.items in
    let counts = c.args.self.now.counts.items in
    let at = slice_get_read owners (length owners) c.args.partition c.index.result.now refl c.requires.partition_in c.index.ensures in
    elim c.match-index.branch [
      | in-Some w ↦
          let here : slice_get owners c.args.partition ≡ Some (Some w.in-Some.owner) = at ∙ ap Some w.in-Some.is in
          let fewer = ap (λ (d : Draft). d.counts.items) w.self-is ∙ less owners counts c.args.partition w.in-Some.owner w.index_mut.result.now c.requires.counts here w.index_mut.ensures.value in
          subst (λ os. AreCounts (slice_set os c.args.partition (Some c.args.member)) (slice_set c.match-index.self.counts.items c.args.member (c.index_mut-3.result.now + 1)))
          (sym (ap (λ (d : Draft). d.owners.items) w.self-is))
          (give-counts owners counts c.match-index.self.counts.items c.args.partition c.args.member c.index_mut-3.result.now c.requires.counts c.requires.member_in (Some w.in-Some.owner) fewer c.index_mut-3.ensures.value here)
      | in_default w ↦
          let here : slice_get owners c.args.partition ≡ Some None = at ∙ ap Some w.in_default.is in
          subst (λ os. AreCounts (slice_set os c.args.partition (Some c.args.member)) (slice_set c.match-index.self.counts.items c.args.member (c.index_mut-3.result.now + 1)))
          (sym (ap (λ (d : Draft). d.owners.items) w.self-is))
          (give-counts owners counts c.match-index.self.counts.items c.args.partition c.args.member c.index_mut-3.result.now c.requires.counts c.requires.member_in None (ap (λ (d : Draft). d.counts.items) w.self-is) c.index_mut-3.ensures.value here)
    ]

pub returns-clause-moved : goal.returns-clause-moved
returns-clause-moved c = λ owner owns.
    let owners = c.args.self.now.owners.items in
    let counts = c.args.self.now.counts.items in
    let at = slice_get_read owners (length owners) c.args.partition c.index.result.now refl c.requires.partition_in c.index.ensures in
    elim c.match-index.branch [
      | in-Some w ↦
          let here : slice_get owners c.args.partition ≡ Some (Some w.in-Some.owner) = at ∙ ap Some w.in-Some.is in
          let fewer = ap (λ (d : Draft). d.counts.items) w.self-is ∙ less owners counts c.args.partition w.in-Some.owner w.index_mut.result.now c.requires.counts here w.index_mut.ensures.value in
          give-moved owners counts c.match-index.self.counts.items c.args.partition c.args.member c.index_mut-3.result.now c.requires.counts c.requires.member_in (Some w.in-Some.owner) fewer c.index_mut-3.ensures.value here owner owns
      | in_default w ↦
          let here : slice_get owners c.args.partition ≡ Some None = at ∙ ap Some w.in_default.is in
          cc
    ]
