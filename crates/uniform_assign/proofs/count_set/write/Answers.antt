use Rattle.std.proofs.Common.{◌≡◌, ◌==◌, ◌&&◌, ◌⊎◌, ◌<◌, ◌+◌, ◌/◌, ℕ, true, length, set as set_at, length-set, sym, ap, subst, ◌∙◌, arith, inl, inr}
use Rattle.std.proofs.lemmas.Bool.{cases_lt}
use Rattle.std.proofs.lemmas.List.{set-get_or}
use Rattle.std.proofs.lemmas.Option.{same_Some}
use Rattle.std.specs.List.{slice_get}
use Rattle.uniform_assign.specs.declared.count_set.Rank.{Rank}
use Rattle.uniform_assign.specs.CountSets.{AreRanks, IsMatch}
use Rattle.uniform_assign.proofs.Ranked.{AreMatchesBut, AreMatchesBut-played, AreMatchesBut-set, AreRanks-played, AreRanks-set}
use Rattle.uniform_assign.proofs.Counts.{cases_equal}
use Rattle.uniform_assign.proofs.Kept.{slice_get-set_same}
use Rattle.uniform_assign.proofs.count_set.write.Goals as goal

-- the node that was written is below the last
pub carry-rank-requires : goal.carry-rank-requires
carry-rank-requires c =
    let (long, positive, low, here, keeps) = c.loop-node.invariant in
    record { above = c.loop-node-test.true; below = low; rank = here }

halves : (node : ℕ) → (node / 2 + node / 2 ≡ node) ⊎ (node / 2 + node / 2 + 1 ≡ node)
halves node = elim (cases_lt (node / 2 + node / 2) node) [ inl less ↦ inr (omega arith) | inr low ↦ inl (omega arith) ]

pub loop-node-init : goal.loop-node-init
loop-node-init c =
    let nodes = c.args.nodes.now.items in
    let place = c.args.place in
    let rank : Rank = record { count = c.args.count; place = place } in
    let half = c.len.result / 2 in
    let low = c.requires in
    let shown = c.len.ensures in
    let ok = c.args.nodes.now.ok in
    let long = length-set nodes (half + place) rank in
    let whole : c.len.result ≡ length (set_at nodes (half + place) rank) = omega arith in
    let same_half = ap (λ n. n / 2) whole in (
      long,
      omega arith,
      omega arith,
      slice_get-set_same nodes (half + place) rank (omega arith),
      λ counts is.
          let many = is.are_ranks.as_many in
          let at : length counts ≡ half = omega arith in (
            subst (λ n. AreRanks (set_at counts place c.args.count) (set_at nodes (n + place) rank)) at (AreRanks-set counts nodes place c.args.count (omega arith) is.are_ranks),
            subst (λ n. AreMatchesBut (n + place) (length counts) (set_at nodes (n + place) rank)) at (AreMatchesBut-set counts nodes place rank is),
          ),
    )

pub loop-node-preserved : goal.loop-node-preserved
loop-node-preserved c =
    let old = c.loop-node.nodes.items in
    let new = c.carry-rank.new.nodes.items in
    let node = c.loop-node.node in
    let p = node / 2 in
    let (long, positive, low, here, keeps) = c.loop-node.invariant in
    let more = c.loop-node-test.true in
    let is = c.carry-rank.ensures.played in
    let same : length new ≡ length old = ap length is.is_new ∙ length-set old p is.first in
    let halved = ap (λ n. n / 2) same in (
      same ∙ long,
      omega arith,
      omega arith,
      c.carry-rank.ensures.first,
      λ counts set.
          let (are, matches) = keeps counts set in
          let many = set.are_ranks.as_many in
          let set_long = length-set counts c.args.place c.args.count in
          let inside : p < length counts = omega arith in (
            AreRanks-played old new p is (set_at counts c.args.place c.args.count) (omega arith) are,
            subst (λ n. AreMatchesBut p n new) set_long
                (AreMatchesBut-played (set_at counts c.args.place c.args.count) old new node p are (omega arith) (omega arith) (halves node) (subst (λ n. AreMatchesBut node n old) (sym set_long) matches) is),
          ),
    )

pub returns : goal.returns
returns c = λ counts set.
    let (long, positive, low, here, keeps) = c.loop-node.invariant in
    let (are, matches) = keeps counts set in
    let last = c.loop-node-test.false in
    let set_long = length-set counts c.args.place c.args.count in
    record { are_ranks = are; matches = λ i some within. matches i some (omega arith) (λ same. omega arith) (λ same. omega arith) }

same_rank : (a b : Rank) → true ≡ ((a.count == b.count) && (a.place == b.place)) → a ≡ b
same_rank a b both =
    let counts : a.count ≡ b.count = grind (arith) in
    let places : a.place ≡ b.place = grind (arith) in
    λ i. record { count = counts i; place = places i }

-- the node above is as it was, so the nodes above it are right
pub returns-then-eq : goal.returns-then-eq
returns-then-eq c = λ counts set.
    let old = c.loop-node.nodes.items in
    let new = c.carry-rank.new.nodes.items in
    let node = c.loop-node.node in
    let p = node / 2 in
    let (long, positive, low, here, keeps) = c.loop-node.invariant in
    let (are, matches) = keeps counts set in
    let more = c.loop-node-test.true in
    let is = c.carry-rank.ensures.played in
    let many = set.are_ranks.as_many in
    let set_long = length-set counts c.args.place c.args.count in
    let first : is.first ≡ c.carry-rank.result =
    same_Some is.first c.carry-rank.result (sym (ap (λ xs. slice_get xs p) is.is_new ∙ slice_get-set_same old p is.first (omega arith)) ∙ c.carry-rank.ensures.first) in
    let same : new ≡ old = is.is_new ∙ ap (set_at old p) (first ∙ same_rank c.carry-rank.result c.index.result.now c.if-eq.ensures ∙ c.index.ensures) ∙ set-get_or old p c.index.result.now in
    let played = AreMatchesBut-played (set_at counts c.args.place c.args.count) old new node p are (omega arith) (omega arith) (halves node) (subst (λ n. AreMatchesBut node n old) (sym set_long) matches) is in
    record {
      are_ranks = AreRanks-played old new p is (set_at counts c.args.place c.args.count) (omega arith) are;
      matches = λ i some within. elim (cases_equal i p) [
        | inl this ↦ played i some within (λ same. omega arith) (λ same. omega arith)
        | inr apart ↦ subst (λ xs. IsMatch xs i) (sym same) (matches i some (omega arith) (λ same. apart (omega arith)) (λ same. apart (omega arith)))
      ];
    }
