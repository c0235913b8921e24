use Rattle.std.proofs.Common.{◌≡◌, ℕ, List, get_or, length, refl, sym, subst, ap, ◌∙◌, arith, inl, inr}
use Rattle.std.proofs.lemmas.Bool.{cases_lt}
use Rattle.std.specs.List.{slice_get}
use Rattle.std.proofs.lemmas.List.{length-map}
use Rattle.std.proofs.lemmas.Option.{get_or_from_slice_get, slice_get_read, slice_get_within}
use Rattle.uniform_assign.specs.CountSets.{IsFirstRank, counts_of}
use Rattle.uniform_assign.proofs.Lists.{slice_get-map_at}
use Rattle.uniform_assign.proofs.givers.givers_limit.Goals as goal
use Rattle.uniform_assign.proofs.givers.givers_limit.Goals.{in-Some, in_default}

pub loop-set-init : goal.loop-set-init
loop-set-init c = λ board counts are k j m takers low. absurd (omega arith)

pub returns : goal.returns
returns c = λ board counts are k j m takers is_takers is_m.
    let last = c.loop-set-test.false in
    let low = slice_get_within board.takers.items k takers is_takers in
    let many = are.as_many in
    c.loop-set.invariant board counts are k j m takers (omega arith) is_takers is_m

pub loop-set-preserved : goal.loop-set-preserved
loop-set-preserved c = λ board counts are k j m takers low is_takers is_m.
    let sets = c.args.sets.now in
    let n = c.loop-set.set-index in
    let set = c.set-item.result in
    let is_set = slice_get_read sets (length sets) n set refl c.loop-set-test.true c.set-item.is in
    elim c.match-first.branch [
      | in-Some w ↦
          let less = w.least_of_two-limit.ensures.first in
          let more = w.least_of_two-limit.ensures.second in
          let sum = w.saturating_add.ensures in
          let is = w.limit-is in
          elim (cases_lt k n) [
            | inl below ↦ let before = c.loop-set.invariant board counts are k j m takers below is_takers is_m in omega arith
            | inr above ↦
                let end : k ≡ n = omega arith in
                let ranked = are.each k takers set is_takers (ap (slice_get sets) end ∙ is_set) in
                let first = subst (λ (xs : List ℕ). IsFirstRank xs w.in-Some.first) ranked w.in-Some.ensures in
                let inside = slice_get_within takers.items j m is_m in
                let long = length-map takers.items (λ t. get_or counts t 0) in
                let least = first.least.least j (omega arith) in
                let value = get_or_from_slice_get (counts_of counts takers.items) j (get_or counts m 0) 0 (slice_get-map_at (λ t. get_or counts t 0) takers.items j m is_m) in
                let count = first.count in
                omega arith
          ]
      | in_default w ↦
          let is = w.limit-is in
          elim (cases_lt k n) [
            | inl below ↦ let before = c.loop-set.invariant board counts are k j m takers below is_takers is_m in omega arith
            | inr above ↦
                let end : k ≡ n = omega arith in
                let ranked = are.each k takers set is_takers (ap (slice_get sets) end ∙ is_set) in
                let none = ap length (sym ranked ∙ w.in_default.ensures) in
                let inside = slice_get_within takers.items j m is_m in
                let long = length-map takers.items (λ t. get_or counts t 0) in
                absurd (omega arith)
          ]
    ]
