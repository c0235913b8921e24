-- Where three rounds can be made and their heartbeats fit, they are made.
use Rattle.std.proofs.Common.{◌≡◌, ℕ, zero, suc, ◌<◌, ◌≤◌, Bool, true, false, List, [], ◌∷◌, length, map, Option, refl, sym, subst, arith}
use Rattle.group_types.specs.declared.partition.Partition.{Partition}
use Rattle.group_types.specs.Sets.{in_order}
use Rattle.member_core.specs.Client.{Client, to_release}
use Rattle.member_core.specs.Asking.{Beat, Full, request_for}
use Rattle.member_core.specs.Refusing.{is_too_large}
use Rattle.world_sim.specs.World.{World, new_world}
use Rattle.world_sim.specs.Acts.{Act, Asks, Deliver, Take, Release, Outcome, IsSent, ActStep, AsksIf, AsksStep, SendsIf, Run}
use Rattle.world_sim.specs.Acting.{IsTooLarge}
use Rattle.world_sim.specs.Exclusivity.{Always}
use Rattle.world_sim.specs.Existence.{ActsHaveAnOutcome, ActsLeaveLiveWorlds, BeatsFit, IsLive, SettlingEnds}
use Rattle.world_sim.specs.Rounds.{ComesTo, HasTurn, IsHeard, IsTold, Round, Rounds, TurnsFrom}
use Rattle.world_sim.specs.Convergence.{Convergence}
use Rattle.world_sim.specs.Underway.{RoundsGo, RoundsKeepClients, TurnGoes}
use Rattle.world_sim.proofs.NewWorlds.{new_worlds_are_live}
use Rattle.world_sim.proofs.Turning.{one_more_round, one_more_turn, told_there}

module _ (have : ActsHaveAnOutcome) (leave : ActsLeaveLiveWorlds) where
  live_after : (acts : List Act) (outcomes : List Outcome) (w new : World) → IsLive w → Run w acts outcomes new → IsLive new
  live_after [] [] w new live is = subst IsLive (sym is) live
  live_after [] (outcome ∷ outcomes) w new live never = absurd never
  live_after (act ∷ acts) [] w new live never = absurd never
  live_after (act ∷ acts) (outcome ∷ outcomes) w new live (middle, step, later) =
      live_after acts outcomes middle new (leave w act outcome middle step live) later

  releases : (n : ℕ) (ps : List Partition) (w : World) → IsLive w → (states : List Outcome) × (new : World) × Run w (map (Release n) ps) states new
  releases n [] w live = ([], w, refl)
  releases n (p ∷ ps) w live =
      let (state, middle, step) = have w (Release n p) live tt in
      let (later, new, rest) = releases n ps middle (leave w (Release n p) state middle step live) in
      (state ∷ later, new, (middle, step, rest))

  -- ---- a turn

  module _ (w : World) (n : ℕ) (live : IsLive w) (goes : TurnGoes w n) where
    -- it is told, and then it releases
    released : (told : World) → IsLive told → IsTold w n told → (new : World) × HasTurn w n new × IsLive new
    released told told_lives is_told =
        let (client, there) = told_there w n goes told is_told in
        let (states, new, run) = releases n (in_order (to_release client)) told told_lives in (
          new,
          record { told = told; is_told = is_told; client = client; is_client = there; states = states; releases = run },
          live_after (map (Release n) (in_order (to_release client))) states told new told_lives run,
        )

    -- it takes the reply
    took : (heard : World) → IsLive heard → IsHeard w n heard → (new : World) × HasTurn w n new × IsLive new
    took heard heard_lives is_heard =
        let (outcome, told, step) = have heard (Take is_heard.reply) heard_lives tt in
        let (state, is) = goes.taken heard told outcome is_heard step in
        released told (leave heard (Take is_heard.reply) outcome told step heard_lives)
        (record { heard = heard; is_heard = is_heard; state = state; takes = subst (λ (o : Outcome). ActStep heard (Take is_heard.reply) o told) is step })

    -- its beat, which was sent, is answered
    answered : (sent : World) (request : ℕ) → IsLive sent → ActStep w (Asks n (Beat Full)) (IsSent request) sent → (new : World) × HasTurn w n new × IsLive new
    answered sent request sent_lives sends =
        let (outcome, heard, step) = have sent (Deliver request) sent_lives tt in
        let (reply, said, is) = goes.answered request sent heard outcome sends step in
        took heard (leave sent (Deliver request) outcome heard step sent_lives)
        (record { sent = sent; request = request; sends = sends; reply = reply; said = said; delivers = subst (λ (o : Outcome). ActStep sent (Deliver request) o heard) is step })

    beats : (large : Bool) (outcome : Outcome) (sent : World) → is_too_large (request_for goes.client (Beat Full)) ≡ large → ¬ IsTooLarge w (Asks n (Beat Full))
        → ActStep w (Asks n (Beat Full)) outcome sent → SendsIf large goes.client w n (Beat Full) outcome sent → (new : World) × HasTurn w n new × IsLive new
    beats true outcome sent large fits step sends = absurd (fits (goes.client, goes.is_client, goes.may, large))
    beats false outcome sent small fits step (body, after, asks, comes) =
        answered sent (suc (length w.requests)) (leave w (Asks n (Beat Full)) outcome sent step live) (subst (λ (o : Outcome). ActStep w (Asks n (Beat Full)) o sent) comes.0 step)

    turns : ¬ IsTooLarge w (Asks n (Beat Full)) → (new : World) × HasTurn w n new × IsLive new
    turns fits =
        let (outcome, sent, step) = have w (Asks n (Beat Full)) live tt in
        let by_client = subst (λ (o : Option Client). AsksStep o w n (Beat Full) outcome sent) goes.is_client step in
        let sends = subst (λ b. AsksIf b goes.client w n (Beat Full) outcome sent) goes.may by_client in
        beats (is_too_large (request_for goes.client (Beat Full))) outcome sent refl fits step sends

  -- ---- three rounds

  module _ (first : World) (live : IsLive first) (go : (n : ℕ) (w : World) → ComesTo first n w → TurnGoes w n)
      (keep : (rounds : ℕ) (w : World) → rounds < 3 → Rounds rounds first w → length w.clients ≡ length first.clients) (fit : BeatsFit first) where
    module _ (rounds : ℕ) (below : rounds < 3) (round : World) (made : Rounds rounds first round) (begins : IsLive round) where
      some_turns : (turns : ℕ) → turns ≤ length round.clients → (w : World) × TurnsFrom 1 turns round w × IsLive w
      some_turns zero most = (round, refl, begins)
      some_turns (suc count) most =
          let (w, turned, lives) = some_turns count (omega (arith, most)) in
          let same = keep rounds round below made in
          let comes : ComesTo first (suc count) w =
          record { rounds = rounds; below = below; round = round; made = made; turns = count; client = refl; is_client = omega (arith, most, same); turned = turned } in
          let (new, turn, lives_on) = turns w (suc count) lives (go (suc count) w comes) (fit (suc count) w comes) in
          (new, one_more_turn count 1 round w new turned (subst (λ k. HasTurn w k new) (omega arith) turn), lives_on)

      a_round : (w : World) × Round round w × IsLive w
      a_round = some_turns (length round.clients) (omega arith)

    some_rounds : (rounds : ℕ) → rounds ≤ 3 → (w : World) × Rounds rounds first w × IsLive w
    some_rounds zero most = (first, refl, live)
    some_rounds (suc rounds) most =
        let (w, made, lives) = some_rounds rounds (omega (arith, most)) in
        let (new, round, lives_on) = a_round rounds (omega (arith, most)) w made lives in
        (new, one_more_round rounds first w new made round, lives_on)

pub settling_ends : ActsHaveAnOutcome → ActsLeaveLiveWorlds → Always RoundsGo → Always RoundsKeepClients → Convergence → SettlingEnds
settling_ends have leave go keep settles salt clients acts outcomes w said run can fit =
    let live = live_after have leave acts outcomes (new_world salt clients) w (new_worlds_are_live salt clients said) run in
    let (new, made, lives) = some_rounds have leave w live (go salt clients acts outcomes w run can) (keep salt clients acts outcomes w run can) fit 3 (omega arith) in
    (new, made, settles salt clients acts outcomes w run new can made)
