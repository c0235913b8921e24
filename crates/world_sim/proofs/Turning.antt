-- What comes of the acts of a turn in which nothing is refused.
use Rattle.std.proofs.Common.{◌≡◌, ℕ, zero, suc, ◌+◌, ◌<◌, Bool, true, false, List, [], ◌∷◌, ◌++◌, length, map, set, slice_get, Option, Some, None, Ok, Err, Result, inl, inr, refl, sym, ap, subst, ◌∙◌, true≢false, arith, length-append}
use Rattle.group_types.proofs.Lookups.{some_is}
use Rattle.kip_msgs.specs.Values.{HeartbeatReplyValue}
use Rattle.coord_node.specs.Coordinator.{Coordinator, Answer, Replied, Closes, Done}
use Rattle.member_core.specs.Client.{Client, State, state_of}
use Rattle.member_core.specs.Asking.{Beat, Full, after_giving_up, after_sending, request_for}
use Rattle.member_core.specs.Refusing.{is_too_large}
use Rattle.world_sim.specs.declared.fault.WorldFault.{WorldFault}
use Rattle.world_sim.specs.declared.fault.WorldFault.TheVariants as faults
use Rattle.world_sim.specs.declared.shown.Shown.{Shown}
use Rattle.world_sim.specs.declared.shown.Shown.TheVariants as shows
use Rattle.world_sim.specs.World.{World, Request, Reply, numbered, renumbered, with_client, with_coordinator, with_request}
use Rattle.world_sim.specs.Acts.{Asks, Deliver, GivesUp, Take, Release, Fault, NoSuchClient, NoSuchMessage, WrongState, TooLarge, Forgotten, Outcome, IsRefused, IsSent, IsReplied, Is, ActStep, AsksIf, AsksStep, DeliversIf, DeliverStep, Pools, TakeBy, TakeStep, SendsIf, stamp_of}
use Rattle.world_sim.specs.Acting.{Acted, IsShown, IsTooLarge}
use Rattle.world_sim.specs.Places.{ChangedAt}
use Rattle.world_sim.specs.declared.state.ClientState.{ClientState}
use Rattle.world_sim.specs.Reached.{IsReached}
use Rattle.world_sim.specs.Rounds.{ComesTo, HasTurn, IsHeard, IsTold, LeavesTurn, BeforeSending, BeforeDelivery, BeforeTaking, BeforeReleasing, Round, Rounds, TurnsFrom}
use Rattle.world_sim.specs.Settling.{HasExchanged, HasRound, HasTurned, IsSettling, IsToldBy}
use Rattle.world_sim.specs.Convergence.{CanSettle}
use Rattle.world_sim.specs.Exclusivity.{Always}
use Rattle.world_sim.specs.Underway.{HasBegun, IsBetween, IsUnderway, RoundsGo, TurnGoes}
use Rattle.world_sim.proofs.Numbered.{Place, at, elsewhere, numbered_itself, numbered_other, place}
use Rattle.world_sim.proofs.Performs as performs
use Rattle.world_sim.proofs.Reaching.{always, reached_by, run_reaches}

-- ---- what a turn leads to is reached

pub heard_reaches : (w new : World) (n : ℕ) → IsReached w → IsHeard w n new → IsReached new
heard_reaches w new n reached heard =
    reached_by heard.sent new (Deliver heard.request) (IsReplied heard.reply heard.said)
    (reached_by w heard.sent (Asks n (Beat Full)) (IsSent heard.request) reached heard.sends) heard.delivers

pub told_reaches : (w new : World) (n : ℕ) → IsReached w → IsTold w n new → IsReached new
told_reaches w new n reached told = reached_by told.heard new (Take told.is_heard.reply) (Is told.state) (heard_reaches w told.heard n reached told.is_heard) told.takes

pub turn_reaches : (w new : World) (n : ℕ) → IsReached w → HasTurn w n new → IsReached new
turn_reaches w new n reached turn = run_reaches (map (Release n) _) turn.states turn.told new (told_reaches w turn.told n reached turn.is_told) turn.releases

pub leaving_reaches : (w new : World) (n : ℕ) → IsReached w → LeavesTurn w n new → IsReached new
leaving_reaches w new n reached (BeforeSending is) = subst IsReached (sym is) reached
leaving_reaches w new n reached (BeforeDelivery request sent state sends gives) =
    reached_by sent new (GivesUp n) (Is state) (reached_by w sent (Asks n (Beat Full)) (IsSent request) reached sends) gives
leaving_reaches w new n reached (BeforeTaking heard state is_heard gives) = reached_by heard new (GivesUp n) (Is state) (heard_reaches w heard n reached is_heard) gives
leaving_reaches w new n reached (BeforeReleasing told) = told_reaches w new n reached told

-- ---- one more turn, and one more round

pub one_more_turn : (turns n : ℕ) (w middle new : World) → TurnsFrom n turns w middle → HasTurn middle (n + turns) new → TurnsFrom n (suc turns) w new
one_more_turn zero n w middle new is turn = (new, subst (λ (x : World). HasTurn x n new) is (subst (λ k. HasTurn middle k new) (omega arith) turn), refl)
one_more_turn (suc turns) n w middle new (first, one, later) turn = (first, one, one_more_turn turns (suc n) first middle new later (subst (λ k. HasTurn middle k new) (omega arith) turn))

pub one_more_round : (rounds : ℕ) (w middle new : World) → Rounds rounds w middle → Round middle new → Rounds (suc rounds) w new
one_more_round zero w middle new is round = (new, subst (λ (x : World). Round x new) is round, refl)
one_more_round (suc rounds) w middle new (first, one, later) round = (first, one, one_more_round rounds first middle new later round)

-- ---- outcomes

never_shown : (shown : Shown) (fault : Fault) → IsShown shown (IsRefused fault) → ⊥
never_shown (shows.Sent request) fault is = cc
never_shown (shows.Replied reply) fault (v, is) = cc
never_shown shows.Closed fault is = cc
never_shown (shows.Is state) fault is = cc
never_shown shows.Ignored fault is = cc
never_shown (shows.Committed commit) fault is = cc
never_shown (shows.Answered reply) fault (header, v, spells, is) = cc
never_shown (shows.Removed members) fault is = cc
never_shown shows.Done fault is = cc

one_longer : {X : Type 0} (xs ys : List X) (x : X) → ys ≡ xs ++ x ∷ [] → suc (length xs) ≡ length ys
one_longer xs ys x is = let more = ap length is in let sum = length-append xs (x ∷ []) in omega (arith, more, sum)

-- ---- the client asks

-- what comes of it
pub data Sending (w : World) (n : ℕ) (c : Client) (outcome : Outcome) (new : World) : Type 0 where
  it_sends : (q : Request) → outcome ≡ IsSent (length new.requests) → new ≡ with_request (with_client w n (after_sending c)) q → Sending w n c outcome new
  too_large : outcome ≡ IsRefused TooLarge → Sending w n c outcome new

module _ (w : World) (n : ℕ) (goes : TurnGoes w n) where
  sends_if : (large : Bool) (outcome : Outcome) (new : World) → SendsIf large goes.client w n (Beat Full) outcome new → Sending w n goes.client outcome new
  sends_if false outcome new (body, after, asks, comes) =
      let q : Request = record { sender = n; stamp = stamp_of n after; body = body } in
      let world : new ≡ with_request (with_client w n (after_sending goes.client)) q = comes.1 ∙ ap (λ (x : Client). with_request (with_client w n x) q) asks.after in
      it_sends q (comes.0 ∙ ap IsSent (one_longer w.requests new.requests q (ap (λ (x : World). x.requests) world))) world
  sends_if true outcome new comes = too_large comes.0

  pub asked : (outcome : Outcome) (new : World) → ActStep w (Asks n (Beat Full)) outcome new → Sending w n goes.client outcome new
  asked outcome new step =
      let by_client : AsksStep (Some goes.client) w n (Beat Full) outcome new = subst (λ (o : Option Client). AsksStep o w n (Beat Full) outcome new) goes.is_client step in
      let sends : AsksIf true goes.client w n (Beat Full) outcome new = subst (λ b. AsksIf b goes.client w n (Beat Full) outcome new) goes.may by_client in
      sends_if (is_too_large (request_for goes.client (Beat Full))) outcome new sends

  -- it isn't refused but for the size
  only_too_large : (fault : Fault) → ActStep w (Asks n (Beat Full)) (IsRefused fault) w → fault ≡ TooLarge
  only_too_large fault step = by (asked (IsRefused fault) w step)
    where
      by : Sending w n goes.client (IsRefused fault) w → fault ≡ TooLarge
      by (it_sends q is world) = absurd (cc)
      by (too_large is) = cc

  pub not_asked : (fault : WorldFault) (new : World) → Acted w (Asks n (Beat Full)) (Err fault) new → IsToldBy w n (Err fault) new
  not_asked faults.NoSuchClient new (step, is) = let so = only_too_large NoSuchClient step in cc
  not_asked faults.NoSuchMessage new (step, is) = let so = only_too_large NoSuchMessage step in cc
  not_asked faults.WrongState new (step, is) = let so = only_too_large WrongState step in cc
  not_asked faults.NoMemory new (step, is) = BeforeSending is
  not_asked faults.TooLarge new (step, is) = (step, is)
  not_asked faults.Forgotten new (step, is) = let so = only_too_large Forgotten step in cc

  -- it was sent
  pub record HasAsked (new : World) : Type 0 where
    pub sends : ActStep w (Asks n (Beat Full)) (IsSent (length new.requests)) new
    pub client : Client
    pub is_client : numbered new.clients n ≡ Some client
    pub waits : client.waits ≡ true

  pub has_asked : (shown : Shown) (new : World) → Acted w (Asks n (Beat Full)) (Ok shown) new → HasAsked new
  has_asked shown new (outcome, step, is_shown) = by (asked outcome new step)
    where
      by : Sending w n goes.client outcome new → HasAsked new
      by (it_sends q is world) =
          record {
            sends = subst (λ (o : Outcome). ActStep w (Asks n (Beat Full)) o new) is step;
            client = after_sending goes.client;
            is_client = ap (λ (x : World). numbered x.clients n) world ∙ numbered_itself w.clients n (after_sending goes.client) goes.client goes.is_client;
            waits = refl;
          }
      by (too_large is) = absurd (never_shown shown TooLarge (subst (λ (o : Outcome). IsShown shown o) is is_shown))

  -- ---- its request is delivered

  module _ (sent : World) (sends : ActStep w (Asks n (Beat Full)) (IsSent (length sent.requests)) sent) where
    abbrev last : ℕ
    last = length sent.requests

    is_reply : (outcome : Outcome) (new : World) → ActStep sent (Deliver last) outcome new → (k : ℕ) × (said : HeartbeatReplyValue) × (outcome ≡ IsReplied k said)
    is_reply outcome new step = goes.answered last sent new outcome sends step

    pub not_delivered : (fault : WorldFault) (new : World) → Acted sent (Deliver last) (Err fault) new → HasExchanged sent (Err fault) new
    not_delivered faults.NoSuchClient new (step, is) = let so = is_reply (IsRefused NoSuchClient) sent step in let never = so.2 in cc
    not_delivered faults.NoSuchMessage new (step, is) = let so = is_reply (IsRefused NoSuchMessage) sent step in let never = so.2 in cc
    not_delivered faults.WrongState new (step, is) = let so = is_reply (IsRefused WrongState) sent step in let never = so.2 in cc
    not_delivered faults.NoMemory new (step, is) = inl is
    not_delivered faults.TooLarge new (step, is) = step
    not_delivered faults.Forgotten new (step, is) = let so = is_reply (IsRefused Forgotten) sent step in let never = so.2 in cc

    -- it is the last of the pool's, and the clients are as they were
    pub record HasHeard (new : World) : Type 0 where
      pub said : HeartbeatReplyValue
      pub delivers : ActStep sent (Deliver last) (IsReplied (length new.replies) said) new
      pub clients : new.clients ≡ sent.clients

    pools : (q : Request) (after : Coordinator) (answer : Answer) (k : ℕ) (said : HeartbeatReplyValue) (new : World) → Pools (with_coordinator sent after) q answer (IsReplied k said) new
        → (k ≡ length new.replies) × (new.clients ≡ sent.clients)
    pools q after (Replied frame) k said new (body, header, reply, framed, spells, comes) =
        let is : IsReplied k said ≡ IsReplied (suc (length sent.replies)) reply = comes.0 in
        let same : k ≡ suc (length sent.replies) = cc in
        (same ∙ one_longer sent.replies new.replies (record { request = q; body = body }) (ap (λ (x : World). x.replies) comes.1), ap (λ (x : World). x.clients) comes.1)
    pools q after Closes k said new (is, world) = absurd (cc)
    pools q after (Done removed) k said new never = absurd never

    delivers_if : (b : Bool) (q : Request) (k : ℕ) (said : HeartbeatReplyValue) (new : World) → DeliversIf b sent q (IsReplied k said) new → (k ≡ length new.replies) × (new.clients ≡ sent.clients)
    delivers_if true q k said new (is, world) = absurd (cc)
    delivers_if false q k said new (answer, after, step, is) = pools q after answer k said new is

    deliver_step : (o : Option Request) (k : ℕ) (said : HeartbeatReplyValue) (new : World) → DeliverStep o sent (IsReplied k said) new → (k ≡ length new.replies) × (new.clients ≡ sent.clients)
    deliver_step None k said new (is, world) = absurd (cc)
    deliver_step (Some q) k said new is = delivers_if _ q k said new is.3

    pub has_heard : (shown : Shown) (new : World) → Acted sent (Deliver last) (Ok shown) new → HasHeard new
    has_heard shown new (outcome, step, is_shown) =
        let so = is_reply outcome new step in
        let replied : ActStep sent (Deliver last) (IsReplied so.0 so.1) new = subst (λ (o : Outcome). ActStep sent (Deliver last) o new) so.2 step in
        let is = deliver_step (numbered sent.requests last) so.0 so.1 new replied in
        record { said = so.1; delivers = subst (λ k. ActStep sent (Deliver last) (IsReplied k so.1) new) is.0 replied; clients = is.1 }

    -- ---- it takes the reply

    module _ (heard : World) (hears : HasHeard heard) where
      abbrev newest : ℕ
      newest = length heard.replies

      pub is_heard : IsHeard w n heard
      is_heard = record { sent = sent; request = last; sends = sends; reply = newest; said = hears.said; delivers = hears.delivers }

      is_state : (outcome : Outcome) (new : World) → ActStep heard (Take newest) outcome new → (s : State) × (outcome ≡ Is s)
      is_state outcome new step = goes.taken heard new outcome (record { sent = sent; request = last; sends = sends; reply = newest; said = hears.said; delivers = hears.delivers }) step

      pub not_taken : (fault : WorldFault) (new : World) → Acted heard (Take newest) (Err fault) new → HasExchanged sent (Err fault) new
      not_taken faults.NoSuchClient new (step, is) = let so = is_state (IsRefused NoSuchClient) heard step in let never = so.1 in cc
      not_taken faults.NoSuchMessage new (step, is) = let so = is_state (IsRefused NoSuchMessage) heard step in let never = so.1 in cc
      not_taken faults.WrongState new (step, is) = let so = is_state (IsRefused WrongState) heard step in let never = so.1 in cc
      not_taken faults.NoMemory new (step, is) = inr (newest, hears.said, subst (λ (x : World). ActStep sent (Deliver last) (IsReplied newest hears.said) x) (sym is) hears.delivers)
      not_taken faults.TooLarge new (step, is) = step
      not_taken faults.Forgotten new (step, is) = let so = is_state (IsRefused Forgotten) heard step in let never = so.1 in cc

      pub exchanged : (shown : Shown) (new : World) → Acted heard (Take newest) (Ok shown) new → HasExchanged sent (Ok tt) new
      exchanged shown new (outcome, step, is_shown) =
          let so = is_state outcome new step in
          (newest, hears.said, heard, so.0, hears.delivers, subst (λ (o : Outcome). ActStep heard (Take newest) o new) so.1 step)

    pub told : (new : World) → HasExchanged sent (Ok tt) new → IsTold w n new
    told new (reply, said, heard, state, delivers, takes) =
        record { heard = heard; is_heard = record { sent = sent; request = last; sends = sends; reply = reply; said = said; delivers = delivers }; state = state; takes = takes }

    -- where memory ran out it has given up
    module _ (c : Client) (there : numbered sent.clients n ≡ Some c) (waits : c.waits ≡ true) where
      gives : (middle : World) → middle.clients ≡ sent.clients → ActStep middle (GivesUp n) (Is (state_of (after_giving_up c))) (with_client middle n (after_giving_up c))
      gives middle same = performs.gives_up middle n c (ap (λ (xs : List Client). numbered xs n) same ∙ there) true waits

      pub given_up : (fault : WorldFault) (middle : World) → HasExchanged sent (Err fault) middle → IsToldBy w n (Err fault) (with_client middle n (after_giving_up c))
      given_up faults.NoSuchClient middle never = absurd never
      given_up faults.NoSuchMessage middle never = absurd never
      given_up faults.WrongState middle never = absurd never
      given_up faults.NoMemory middle (inl same) =
          BeforeDelivery last sent (state_of (after_giving_up c)) sends
          (subst (λ (x : World). ActStep x (GivesUp n) (Is (state_of (after_giving_up c))) (with_client middle n (after_giving_up c))) same (gives middle (ap (λ (x : World). x.clients) same)))
      given_up faults.NoMemory middle (inr (reply, said, delivers)) =
          BeforeTaking middle (state_of (after_giving_up c)) (record { sent = sent; request = last; sends = sends; reply = reply; said = said; delivers = delivers })
          (gives middle (deliver_step (numbered sent.requests last) reply said middle delivers).1)
      given_up faults.TooLarge middle never = absurd never
      given_up faults.Forgotten middle never = absurd never

      -- the clients are as they were
      pub still_there : (fault : WorldFault) (middle : World) → HasExchanged sent (Err fault) middle → middle.clients ≡ sent.clients
      still_there faults.NoSuchClient middle never = absurd never
      still_there faults.NoSuchMessage middle never = absurd never
      still_there faults.WrongState middle never = absurd never
      still_there faults.NoMemory middle (inl same) = ap (λ (x : World). x.clients) same
      still_there faults.NoMemory middle (inr (reply, said, delivers)) = (deliver_step (numbered sent.requests last) reply said middle delivers).1
      still_there faults.TooLarge middle never = absurd never
      still_there faults.Forgotten middle never = absurd never

-- ---- who is there

taken_there : (heard new : World) (j n : ℕ) (state : State) (c : Client) → numbered heard.clients n ≡ Some c → ActStep heard (Take j) (Is state) new → (x : Client) × (numbered new.clients n ≡ Some x)
taken_there heard new j n state c there step = by (numbered heard.replies j) step
  where
    put : (k : ℕ) (after d : Client) → numbered heard.clients k ≡ Some d → Place n k → (x : Client) × (numbered (renumbered heard.clients k after) n ≡ Some x)
    put k after d is (at same) = (after, ap (numbered (renumbered heard.clients k after)) same ∙ numbered_itself heard.clients k after d is)
    put k after d is (elsewhere other) = (c, numbered_other heard.clients k n after other ∙ there)

    by_client : (r : Reply) (o : Option Client) → numbered heard.clients r.request.sender ≡ o → TakeBy o r heard (Is state) new → (x : Client) × (numbered new.clients n ≡ Some x)
    by_client r None none step = absurd step
    by_client r (Some d) is (true, after, takes, comes) =
        let one = put r.request.sender after d is (place n r.request.sender) in
        (one.0, ap (λ (v : World). numbered v.clients n) comes.1 ∙ one.1)
    by_client r (Some d) is (false, after, takes, comes) = absurd (let never = comes.0 in cc)

    by : (o : Option Reply) → TakeStep o heard (Is state) new → (x : Client) × (numbered new.clients n ≡ Some x)
    by None comes = absurd (let never = comes.0 in cc)
    by (Some r) step = by_client r (numbered heard.clients r.request.sender) refl step

module _ (w : World) (n : ℕ) (goes : TurnGoes w n) where
  pub told_there : (new : World) → IsTold w n new → (x : Client) × (numbered new.clients n ≡ Some x)
  told_there new told = by (asked w n goes (IsSent told.is_heard.request) told.is_heard.sent told.is_heard.sends)
    where
      by : Sending w n goes.client (IsSent told.is_heard.request) told.is_heard.sent → (x : Client) × (numbered new.clients n ≡ Some x)
      by (it_sends q is world) =
          let step : ActStep w (Asks n (Beat Full)) (IsSent (length told.is_heard.sent.requests)) told.is_heard.sent = subst (λ (o : Outcome). ActStep w (Asks n (Beat Full)) o told.is_heard.sent) is told.is_heard.sends in
          let same : told.is_heard.request ≡ length told.is_heard.sent.requests = let sames = is in cc in
          let delivers = subst (λ k. ActStep told.is_heard.sent (Deliver k) (IsReplied told.is_heard.reply told.is_heard.said) told.heard) same told.is_heard.delivers in
          let clients = (deliver_step w n goes told.is_heard.sent step (numbered told.is_heard.sent.requests (length told.is_heard.sent.requests)) told.is_heard.reply told.is_heard.said told.heard delivers).1 in
          taken_there told.heard new told.is_heard.reply n told.state (after_sending goes.client)
          (ap (λ (xs : List Client). numbered xs n) clients ∙ ap (λ (x : World). numbered x.clients n) world ∙ numbered_itself w.clients n (after_sending goes.client) goes.client goes.is_client)
          told.takes
      by (too_large is) = absurd (let never = is in cc)

-- ---- rounds

turns_reach : (turns n : ℕ) (w new : World) → IsReached w → TurnsFrom n turns w new → IsReached new
turns_reach zero n w new reached is = subst IsReached (sym is) reached
turns_reach (suc turns) n w new reached (middle, turn, later) = turns_reach turns (suc n) middle new (turn_reaches w middle n reached turn) later

rounds_reach : (rounds : ℕ) (w new : World) → IsReached w → Rounds rounds w new → IsReached new
rounds_reach zero w new reached is = subst IsReached (sym is) reached
rounds_reach (suc rounds) w new reached (middle, round, later) = rounds_reach rounds middle new (turns_reach (length w.clients) 1 w middle reached round) later

comes_reach : (w new : World) (n : ℕ) → IsReached w → ComesTo w n new → IsReached new
comes_reach w new n reached comes = turns_reach comes.turns 1 comes.round new (rounds_reach comes.rounds w comes.round reached comes.made) comes.turned

pub round_reaches : (w new : World) → IsReached w → Round w new → IsReached new
round_reaches w new reached round = turns_reach (length w.clients) 1 w new reached round

pub settling_reaches : (w new : World) (result : Result (Unit {0}) WorldFault) → IsReached w → IsSettling w result new → IsReached new
settling_reaches w new (Ok done) reached (can, settles) = rounds_reach 3 w new reached settles
settling_reaches w new (Err faults.NoSuchClient) reached never = absurd never
settling_reaches w new (Err faults.NoSuchMessage) reached never = absurd never
settling_reaches w new (Err faults.WrongState) reached (cannot, same) = subst IsReached (sym same) reached
settling_reaches w new (Err faults.NoMemory) reached (can, stops) = leaving_reaches stops.at new stops.client (comes_reach w stops.at stops.client reached stops.comes) stops.leaves
settling_reaches w new (Err faults.TooLarge) reached (can, stops) = comes_reach w new stops.client reached stops.comes
settling_reaches w new (Err faults.Forgotten) reached never = absurd never

-- the turn that comes next
pub underway : (w now : World) (place : ℕ) → (between : IsBetween w) → length w.clients ≡ length between.first.clients → TurnsFrom 1 place w now → IsReached now → place < length w.clients → IsUnderway now (place + 1)
underway w now place between same turned reached below =
    record {
      first = between.first;
      reached = between.reached;
      can = between.can;
      comes = record { rounds = between.rounds; below = between.below; round = w; made = between.made; turns = place; client = omega arith; is_client = omega (arith, same, below); turned = turned };
      now = reached;
    }

-- ---- the worlds of a turn

pub turn_goes : Always RoundsGo → (w : World) (n : ℕ) → IsUnderway w n → TurnGoes w n
turn_goes law w n is = always RoundsGo law is.first is.reached is.can n w is.comes

pub begun_reached : (sent : World) (n : ℕ) → HasBegun sent n → IsReached sent
begun_reached sent n has = reached_by has.before sent (Asks n (Beat Full)) (IsSent (length sent.requests)) has.underway.now has.sends

pub heard_is_reached : (sent : World) (n : ℕ) (has : HasBegun sent n) (goes : TurnGoes has.before n) (heard : World) → HasHeard has.before n goes sent has.sends heard → IsReached heard
heard_is_reached sent n has goes heard hears = reached_by sent heard (Deliver (length sent.requests)) (IsReplied (length heard.replies) hears.said) (begun_reached sent n has) hears.delivers

-- a fault of its beat is one of its turn
pub turned_not : (w new : World) (n : ℕ) (fault : WorldFault) → IsToldBy w n (Err fault) new → HasTurned w n (Err fault) new
turned_not w new n faults.NoSuchClient never = absurd never
turned_not w new n faults.NoSuchMessage never = absurd never
turned_not w new n faults.WrongState never = absurd never
turned_not w new n faults.NoMemory leaves = leaves
turned_not w new n faults.TooLarge is = is
turned_not w new n faults.Forgotten never = absurd never

-- the client at a place waited, and has given up
pub gave : (xs : List Client) (place : ℕ) (c : Client) → slice_get xs place ≡ Some c → c.waits ≡ true → (o : Option ClientState) (ys : List Client) → ChangedAt (λ x. x.waits) after_giving_up xs place o ys
    → ys ≡ set xs place (after_giving_up c)
gave xs place c there waits (Some state) ys (x, at_place, may, shown, is) = is ∙ ap (λ (y : Client). set xs place (after_giving_up y)) (some_is x c (sym at_place ∙ there))
gave xs place c there waits None ys (x, at_place, may, is) = absurd (true≢false (sym waits ∙ ap (λ (y : Client). y.waits) (sym (some_is x c (sym at_place ∙ there))) ∙ may))

-- ---- a round that a fault stops

-- in the turn of the client at a place
pub stops_round : (w now new : World) (place : ℕ) (fault : WorldFault) → place < length w.clients → TurnsFrom 1 place w now → HasTurned now (place + 1) (Err fault) new → HasRound w (Err fault) new
stops_round w now new place faults.NoSuchClient below turned never = absurd never
stops_round w now new place faults.NoSuchMessage below turned never = absurd never
stops_round w now new place faults.WrongState below turned never = absurd never
stops_round w now new place faults.NoMemory below turned leaves =
    let next : place + 1 ≡ suc place = omega arith in
    (place, now, below, turned, subst (λ k. LeavesTurn now k new) next leaves)
stops_round w now new place faults.TooLarge below turned (refused, same) =
    let next : place + 1 ≡ suc place = omega arith in (
      place,
      below,
      subst (λ (x : World). TurnsFrom 1 place w x) (sym same) turned,
      subst (λ (x : World). IsTooLarge x (Asks (suc place) (Beat Full))) (sym same) (subst (λ k. IsTooLarge now (Asks k (Beat Full))) next refused),
    )
stops_round w now new place faults.Forgotten below turned never = absurd never

-- after a number of rounds
pub stops_settling : (w now new : World) (rounds : ℕ) (fault : WorldFault) → CanSettle w → rounds < 3 → length now.clients ≡ length w.clients → Rounds rounds w now → HasRound now (Err fault) new → IsSettling w (Err fault) new
stops_settling w now new rounds faults.NoSuchClient can few same made never = absurd never
stops_settling w now new rounds faults.NoSuchMessage can few same made never = absurd never
stops_settling w now new rounds faults.WrongState can few same made never = absurd never
stops_settling w now new rounds faults.NoMemory can few same made (turns, middle, below, turned, leaves) = (
  can,
  record {
    client = suc turns;
    at = middle;
    comes = record { rounds = rounds; below = few; round = now; made = made; turns = turns; client = refl; is_client = subst (λ k. turns < k) same below; turned = turned };
    leaves = leaves;
  },
)
stops_settling w now new rounds faults.TooLarge can few same made (turns, below, turned, refused) = (
  can,
  record {
    client = suc turns;
    comes = record { rounds = rounds; below = few; round = now; made = made; turns = turns; client = refl; is_client = subst (λ k. turns < k) same below; turned = turned };
    refused = refused;
  },
)
stops_settling w now new rounds faults.Forgotten can few same made never = absurd never
