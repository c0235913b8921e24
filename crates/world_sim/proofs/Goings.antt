-- While three rounds are being made, each client can ask when its turn comes.
use Rattle.std.proofs.Common.{◌≡◌, ℕ, zero, suc, ◌+◌, ◌-◌, ◌<◌, ◌≤◌, true, false, not, ◌&&◌, List, length, Some, refl, sym, ap, subst, ◌∙◌, arith}
use Rattle.std.proofs.lemmas.Bool.{lt-ltb}
use Rattle.kip_msgs.specs.Laws.{OneRequestABody, OneReplyABody}
use Rattle.group_types.specs.Laws.{EveryGroupIsSound}
use Rattle.group_types.proofs.Lookups.{not_none}
use Rattle.coord_node.specs.Steps.{Step}
use Rattle.coord_node.specs.Laws.{StepsAreSound}
use Rattle.member_core.specs.Limits.{GREATEST_NUMBER}
use Rattle.member_core.specs.Client.{Client, Inside}
use Rattle.member_core.specs.Asking.{Beat, Full, may_ask, may_ask_at}
use Rattle.world_sim.specs.World.{World, numbered}
use Rattle.world_sim.specs.Invariant.{Keeps}
use Rattle.world_sim.specs.Rounds.{HasTurn, Round, Rounds, TurnsFrom}
use Rattle.world_sim.specs.Convergence.{CanSettle}
use Rattle.world_sim.specs.Underway.{RoundsGo, RoundsKeepClients, TurnGoes}
use Rattle.world_sim.proofs.Numbered.{Place, at, elsewhere, place}
use Rattle.world_sim.proofs.RoundTurns.{IsReadyFor, Back, it, another, answered, back, it_has_turned, its_number, others_stay, ready_after, taken}
use Rattle.world_sim.proofs.SceneLemmas.{some_at}
use Rattle.world_sim.proofs.ThreeRounds.{begins, numbered_below}

-- Of `count` clients those before client `n` have `left` numbers left, and the others one more.
pub record IsGoing (count left n : ℕ) (w : World) : Type 0 where
  pub ready : IsReadyFor w
  pub there : (k : ℕ) → 0 < k → k < 1 + count → (c : Client) × (numbered w.clients k ≡ Some c)
  pub below : (k : ℕ) (c : Client) → numbered w.clients k ≡ Some c → k < 1 + count
  pub still : (k : ℕ) (c : Client) → numbered w.clients k ≡ Some c → (c.place ≡ Inside) × (c.waits ≡ false)
  pub before : (k : ℕ) (c : Client) → numbered w.clients k ≡ Some c → k < n → c.number + left ≤ GREATEST_NUMBER
  pub after : (k : ℕ) (c : Client) → numbered w.clients k ≡ Some c → n ≤ k → c.number + suc left ≤ GREATEST_NUMBER

numbered_there : {X : Type 0} (xs : List X) (k : ℕ) → 0 < k → k < 1 + length xs → (x : X) × (numbered xs k ≡ Some x)
numbered_there xs zero above below = absurd (omega (arith, above))
numbered_there xs (suc k) above below = some_at xs k (omega (arith, below))

above_zero : {X : Type 0} (xs : List X) (k : ℕ) (x : X) → numbered xs k ≡ Some x → 0 < k
above_zero xs zero x is = absurd (not_none x is)
above_zero xs (suc k) x is = omega arith

-- as many as have numbers
counted : (count : ℕ) (xs : List Client) → ((k : ℕ) → 0 < k → k < 1 + count → (c : Client) × (numbered xs k ≡ Some c)) → ((k : ℕ) (c : Client) → numbered xs k ≡ Some c → k < 1 + count) → length xs ≡ count
counted count xs there below = both (least count there) (most (length xs) refl)
  where
    least : (n : ℕ) → ((k : ℕ) → 0 < k → k < 1 + n → (c : Client) × (numbered xs k ≡ Some c)) → n ≤ length xs
    least zero there = omega arith
    least (suc n) there = let last = there (suc n) (omega arith) (omega arith) in let is = numbered_below xs (suc n) last.0 last.1 in omega (arith, is)

    most : (n : ℕ) → length xs ≡ n → n ≤ count
    most zero is = omega arith
    most (suc n) is = let last = numbered_there xs (suc n) (omega arith) (omega (arith, is)) in let so = below (suc n) last.0 last.1 in omega (arith, so)

    both : count ≤ length xs → length xs ≤ count → length xs ≡ count
    both a b = omega arith

module _ (one_request : OneRequestABody) (one_reply : OneReplyABody) (steps_sound : StepsAreSound Step) (every : EveryGroupIsSound) where
  module _ (count left n : ℕ) (w new : World) (going : IsGoing count left n w) (turn : HasTurn w n new) (c : Client) (there : numbered w.clients n ≡ Some c) where
    it_turned : (x : Client) → numbered new.clients n ≡ Some x → (x.place ≡ Inside) × (x.waits ≡ false) × (x.number ≡ suc c.number)
    it_turned = it_has_turned one_request one_reply steps_sound every w n c there going.ready new turn

    was : (k : ℕ) (x : Client) → numbered new.clients k ≡ Some x → Back one_request one_reply steps_sound every w n c there going.ready new turn k x
    was = back one_request one_reply steps_sound every w n c there going.ready new turn

    on : IsGoing count left (suc n) new
    on =
        record {
          ready = ready_after one_request one_reply steps_sound every w n c there going.ready new turn;
          there = λ k above so. still_there k (going.there k above so) (place k n);
          below = λ k x is. below k x (was k x is);
          still = λ k x is. still k x is (was k x is);
          before = λ k x is so. before k x is so (was k x is);
          after = λ k x is so. after k x so (was k x is);
        }
      where
        still_there : (k : ℕ) → (x : Client) × (numbered w.clients k ≡ Some x) → Place k n → (x : Client) × (numbered new.clients k ≡ Some x)
        still_there k x (at same) =
            let mine = its_number one_request one_reply steps_sound every w n c there going.ready new turn in
            (mine.0, ap (numbered new.clients) same ∙ mine.1)
        still_there k x (elsewhere other) = (x.0, others_stay one_request one_reply steps_sound every w n c there going.ready new turn k other ∙ x.1)

        below : (k : ℕ) (x : Client) → Back one_request one_reply steps_sound every w n c there going.ready new turn k x → k < 1 + count
        below k x (it same) = let so = going.below n c there in omega (arith, so, same)
        below k x (another other had) = going.below k x had

        still : (k : ℕ) (x : Client) → numbered new.clients k ≡ Some x → Back one_request one_reply steps_sound every w n c there going.ready new turn k x → (x.place ≡ Inside) × (x.waits ≡ false)
        still k x is (it same) = let done = it_turned x (ap (numbered new.clients) (sym same) ∙ is) in (done.0, done.1)
        still k x is (another other had) = going.still k x had

        before : (k : ℕ) (x : Client) → numbered new.clients k ≡ Some x → k < suc n → Back one_request one_reply steps_sound every w n c there going.ready new turn k x → x.number + left ≤ GREATEST_NUMBER
        before k x is so (it same) =
            let done = (it_turned x (ap (numbered new.clients) (sym same) ∙ is)).2 in
            let most = going.after n c there (omega arith) in
            omega (arith, done, most)
        before k x is so (another other had) = going.before k x had (omega (arith, so, other))

        after : (k : ℕ) (x : Client) → suc n ≤ k → Back one_request one_reply steps_sound every w n c there going.ready new turn k x → x.number + suc left ≤ GREATEST_NUMBER
        after k x so (it same) = absurd (omega (arith, so, same))
        after k x so (another other had) = going.after k x had (omega (arith, so))

  turns_go : (turns count left n last : ℕ) (w new : World) → last ≡ n + turns → last < 2 + count → 0 < n → IsGoing count left n w → TurnsFrom n turns w new → IsGoing count left last new
  turns_go zero count left n last w new is_last few above going is =
      subst (λ (v : World). IsGoing count left last v) (sym is) (subst (λ k. IsGoing count left k w) (omega (arith, is_last)) going)
  turns_go (suc turns) count left n last w new is_last few above going (middle, turn, later) =
      let who = going.there n above (omega (arith, is_last, few)) in
      turns_go turns count left (suc n) last middle new (omega (arith, is_last)) few (omega arith) (on count left n w middle going turn who.0 who.1) later

  -- after a whole round
  again : (count left : ℕ) (w : World) → IsGoing count (suc left) (1 + count) w → IsGoing count left 1 w
  again count left w going =
      record {
        ready = going.ready;
        there = going.there;
        below = going.below;
        still = going.still;
        before = λ k c is so. absurd (let above = above_zero w.clients k c is in omega (arith, above, so));
        after = λ k c is so. let below = going.below k c is in going.before k c is below;
      }

  round_goes : (count left : ℕ) (w new : World) → IsGoing count (suc left) 1 w → Round w new → IsGoing count left 1 new
  round_goes count left w new going round =
      let all : length w.clients ≡ count = counted count w.clients going.there going.below in
      again count left new (turns_go (length w.clients) count (suc left) 1 (1 + count) w new (omega (arith, all)) (omega arith) (omega arith) going round)

  rounds_go : (rounds count left : ℕ) (w new : World) → IsGoing count (rounds + left) 1 w → Rounds rounds w new → IsGoing count left 1 new
  rounds_go zero count left w new going is = subst (λ (v : World). IsGoing count left 1 v) (sym is) (subst (λ k. IsGoing count k 1 w) (omega arith) going)
  rounds_go (suc rounds) count left w new going (middle, round, later) =
      rounds_go rounds count left middle new (round_goes count (rounds + left) w middle (subst (λ k. IsGoing count k 1 w) (omega arith) going) round) later

  first_goes : (w : World) → Keeps w → CanSettle w → IsGoing (length w.clients) 2 1 w
  first_goes w keeps can =
      record {
        ready = begins one_request one_reply steps_sound every w keeps can;
        there = numbered_there w.clients;
        below = numbered_below w.clients;
        still = λ k c is. let ready = can.ready k c is in (ready.place, ready.still);
        before = λ k c is so. absurd (let above = above_zero w.clients k c is in omega (arith, above, so));
        after = λ k c is so. (can.ready k c is).numbers;
      }

  pub rounds_keep_clients : (w : World) → Keeps w → RoundsKeepClients w
  rounds_keep_clients w keeps can rounds now few made =
      let begun : IsGoing (length w.clients) (rounds + (2 - rounds)) 1 w = subst (λ k. IsGoing (length w.clients) k 1 w) (omega (arith, few)) (first_goes w keeps can) in
      let going = rounds_go rounds (length w.clients) (2 - rounds) w now begun made in
      counted (length w.clients) now.clients going.there going.below

  may_now : (c : Client) → c.place ≡ Inside → c.waits ≡ false → c.number < GREATEST_NUMBER → may_ask c (Beat Full) ≡ true
  may_now c inside still few = λ i. not (still i) && lt-ltb c.number GREATEST_NUMBER few i && may_ask_at (inside i) (Beat Full) c.settings.instance

  pub rounds_go_on : (w : World) → Keeps w → RoundsGo w
  rounds_go_on w keeps can n now comes =
      let count = length w.clients in
      let two : IsGoing count (comes.rounds + (2 - comes.rounds)) 1 w = let below = comes.below in subst (λ k. IsGoing count k 1 w) (omega (arith, below)) (first_goes w keeps can) in
      let round = rounds_go comes.rounds count (2 - comes.rounds) w comes.round two comes.made in
      let is_client = comes.is_client in
      let going : IsGoing count (2 - comes.rounds) (1 + comes.turns) now = turns_go comes.turns count (2 - comes.rounds) 1 (1 + comes.turns) comes.round now refl (omega (arith, is_client)) (omega arith) round comes.turned in
      let is_n : 1 + comes.turns ≡ n = let is = comes.client in omega (arith, is) in
      goes n (2 - comes.rounds) count now (subst (λ k. IsGoing count (2 - comes.rounds) k now) is_n going) (omega (arith, is_n)) (omega (arith, is_n, is_client))
    where
      goes : (n left count : ℕ) (now : World) → IsGoing count left n now → 0 < n → n < 1 + count → TurnGoes now n
      goes n left count now going above below =
          let who = going.there n above below in
          let still = going.still n who.0 who.1 in
          let most = going.after n who.0 who.1 (omega arith) in
          record {
            client = who.0;
            is_client = who.1;
            may = may_now who.0 still.0 still.1 (omega (arith, most));
            answered = answered one_request one_reply steps_sound every now n who.0 who.1 going.ready;
            taken = λ heard told outcome is taking. taken one_request one_reply steps_sound every now n who.0 who.1 going.ready heard is outcome told taking;
          }
