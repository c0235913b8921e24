use Rattle.std.proofs.Common.{◌≡◌, ◌+◌, ◌++◌, ◌∷◌, [], List, get_or, refl, sym, subst, arith}
use Rattle.std.proofs.lemmas.Option.{slice_get-get_or}
use Rattle.uniform_assign.specs.declared.count_set.Rank.{Rank}
use Rattle.uniform_assign.proofs.Ranked.{AreRanksTo, AreRanksTo-all, AreRanksTo-more}
use Rattle.uniform_assign.proofs.count_set.ranks_of.Goals as goal

pub loop-place-init : goal.loop-place-init
loop-place-init c =
    let ok = c.in_ok-nodes.nodes.ok in
    let long = c.in_ok-nodes.ensures.len in
    record { as_many = omega arith; ranks = λ k t low. absurd (omega arith) }

pub loop-place-preserved : goal.loop-place-preserved
loop-place-preserved c =
    let counts = c.args.counts.now in
    let takers = c.args.takers.now in
    let n = c.loop-place.place in
    let low = c.loop-place-test.true in
    let t = get_or takers n 0 in
    let pushed : c.push.new.self.items ≡ c.loop-place.nodes.items ++ record { count = get_or counts t 0; place = n } ∷ [] = c.in_ok-push.ensures.items in
    subst (AreRanksTo counts takers (n + 1)) (sym {A = List Rank} pushed)
    (AreRanksTo-more counts takers n t c.loop-place.nodes.items (record { count = get_or counts t 0; place = n }) c.loop-place.invariant (slice_get-get_or takers n 0 low) refl refl)

pub returns : goal.returns
returns c =
    let last = c.loop-place-test.false in
    let end = c.loop-place.auto.place-end in
    AreRanksTo-all c.args.counts.now c.args.takers.now c.loop-place.place c.loop-place.nodes.items c.loop-place.invariant (omega arith)
