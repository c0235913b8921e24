-- Three rounds, turn by turn: after the first each client owns nothing beside its target, after the second none is granted
-- anything beside it, and after the third each owns all of it.
use Rattle.std.proofs.Common.{◌≡◌, ◌⊎◌, ℕ, zero, suc, ◌<◌, ◌+◌, List, [], ◌∷◌, length, slice_get, Option, Some, None, refl, sym, ap, subst, ◌∙◌, inl, inr, true≢false, arith}
use Rattle.kip_msgs.specs.Laws.{OneRequestABody, OneReplyABody}
use Rattle.group_types.specs.declared.epoch.Epoch.{Epoch}
use Rattle.group_types.specs.declared.epoch.Epoch.TheVariants.{At, Away}
use Rattle.group_types.specs.Laws.{EveryGroupIsSound}
use Rattle.group_types.proofs.Lookups.{not_none}
use Rattle.coord_node.specs.Steps.{Step}
use Rattle.coord_node.specs.Laws.{StepsAreSound}
use Rattle.member_core.specs.Client.{Client}
use Rattle.member_core.specs.Asking.{Beat, Full}
use Rattle.world_sim.specs.World.{World, numbered}
use Rattle.world_sim.specs.Acts.{AsksStep, IsSent}
use Rattle.world_sim.specs.Convergence.{CanSettle, IsSettled, SettlingSettles}
use Rattle.world_sim.specs.Invariant.{Keeps}
use Rattle.world_sim.specs.Rounds.{HasTurn, Round, TurnsFrom}
use Rattle.world_sim.proofs.FullTurns.{is_sent}
use Rattle.world_sim.proofs.Numbered.{Place, at, elsewhere, place}
use Rattle.world_sim.proofs.RoundTurns.{IsHere, IsReadyFor, Stage, IsAt, Every, OwnsWithin, HoldsWithin, OwnsAll, above_zero, back, ready_after, other_stays, first_stage, second_stage, third_stage, Back, it, another}

-- ---- who has a number

get_below : {X : Type 0} (xs : List X) (k : ℕ) (x : X) → slice_get xs k ≡ Some x → k < length xs
get_below [] k x is = absurd (not_none x is)
get_below (y ∷ xs) zero x is = omega arith
get_below (y ∷ xs) (suc k) x is = let rest = get_below xs k x is in omega (arith, rest)

pub numbered_below : {X : Type 0} (xs : List X) (k : ℕ) (x : X) → numbered xs k ≡ Some x → k < 1 + length xs
numbered_below xs zero x is = absurd (not_none x is)
numbered_below xs (suc k) x is = let below = get_below xs k x is in omega (arith, below)

-- a turn is a client's
pub turns_client : (w new : World) (n : ℕ) → HasTurn w n new → (c : Client) × (numbered w.clients n ≡ Some c)
turns_client w new n turn = by (numbered w.clients n) refl turn.is_told.is_heard.sends
  where
    by : (o : Option Client) → numbered w.clients n ≡ o → AsksStep o w n (Beat Full) (IsSent turn.is_told.is_heard.request) turn.is_told.is_heard.sent → (c : Client) × (numbered w.clients n ≡ Some c)
    by None none is = absurd (true≢false (ap is_sent is.0))
    by (Some c) there is = (c, there)

-- the clients before a number are at a stage
abbrev Before : Stage → ℕ → World → Type 0
Before S n w = (k : ℕ) (x : Client) → k < n → numbered w.clients k ≡ Some x → IsAt S w x

-- who is granted nothing beside its target owns nothing beside it
only_own : (w : World) (c : Client) → IsAt HoldsWithin w c → IsAt OwnsWithin w c
only_own w c is = record { id = is.id; is_id = is.is_id; group = is.group; of_group = is.of_group; steady = is.steady; stage = is.stage.0 }

module _ (one_request : OneRequestABody) (one_reply : OneReplyABody) (steps_sound : StepsAreSound Step) (every : EveryGroupIsSound) where
  -- what a turn does to what is known of all clients, and to its own
  module _ (Known : World → Type 0) (S : Stage)
      (still : (w new : World) (n : ℕ) (c : Client) → numbered w.clients n ≡ Some c → IsReadyFor w → Known w → HasTurn w n new → Known new)
      (nearer : (w new : World) (n : ℕ) (c : Client) → numbered w.clients n ≡ Some c → IsReadyFor w → Known w → HasTurn w n new
      → (x : Client) → numbered new.clients n ≡ Some x → IsAt S new x) where
    record AfterTurns (w : World) (last : ℕ) (new : World) : Type 0 where
      ready : IsReadyFor new
      known : Known new
      before : Before S last new
      clients : (k : ℕ) (x : Client) → numbered new.clients k ≡ Some x → (y : Client) × (numbered w.clients k ≡ Some y)

    turns : (count n last : ℕ) (w new : World) → last ≡ n + count → IsReadyFor w → Known w → Before S n w → TurnsFrom n count w new → AfterTurns w last new
    turns zero n last w new is_last ready known before is =
        subst (λ (v : World). AfterTurns w last v) (sym is)
        (record { ready = ready; known = known; before = λ k x below. before k x (omega (arith, below, is_last)); clients = λ k x there. (x, there) })
    turns (suc count) n last w new is_last ready known before (middle, turn, later) =
        let who = turns_client w middle n turn in
        let c = who.0 in
        let rest : AfterTurns middle last new =
        turns count (suc n) last middle new (omega (arith, is_last))
        (ready_after one_request one_reply steps_sound every w n c who.1 ready middle turn)
        (still w middle n c who.1 ready known turn)
        (λ k x below there. by_place c who.1 k x below there (place k n)) later in
        record {
          ready = rest.ready;
          known = rest.known;
          before = rest.before;
          clients = λ k x there. let y = rest.clients k x there in had c who.1 k y.0 (back one_request one_reply steps_sound every w n c who.1 ready middle turn k y.0 y.1);
        }
      where
        had : (c : Client) (there : numbered w.clients n ≡ Some c) (k : ℕ) (x : Client) → Back one_request one_reply steps_sound every w n c there ready middle turn k x
            → (y : Client) × (numbered w.clients k ≡ Some y)
        had c there k x (it same) = (c, ap (numbered w.clients) same ∙ there)
        had c there k x (another other is) = (x, is)

        by_place : (c : Client) (there : numbered w.clients n ≡ Some c) (k : ℕ) (x : Client) → k < suc n → numbered middle.clients k ≡ Some x → Place k n → IsAt S middle x
        by_place c there k x below is (at same) = nearer w middle n c there ready known turn x (ap (numbered middle.clients) (sym same) ∙ is)
        by_place c there k x below is (elsewhere other) = by_back (back one_request one_reply steps_sound every w n c there ready middle turn k x is)
          where
            by_back : Back one_request one_reply steps_sound every w n c there ready middle turn k x → IsAt S middle x
            by_back (it same) = absurd (other same)
            by_back (another _ was) = other_stays one_request one_reply steps_sound every w n c there ready middle turn S k x other was (before k x (omega (arith, below, other)) was)

    whole : (w new : World) → IsReadyFor w → Known w → Round w new → IsReadyFor new × Every S new
    whole w new ready known round =
        let done = turns (length w.clients) 1 (1 + length w.clients) w new refl ready known (λ k x below is. absurd (nobody k x below is)) round in (
          done.ready,
          λ k x is. let was = done.clients k x is in done.before k x (numbered_below w.clients k was.0 was.1) is,
        )
      where
        nobody : (k : ℕ) (x : Client) → k < 1 → numbered w.clients k ≡ Some x → ⊥
        nobody zero x below is = not_none x is
        nobody (suc k) x below is = omega (arith, below)

  -- a stage that a turn's client reaches, and from which the others don't fall
  module _ (S : Stage)
      (nearer : (w new : World) (n : ℕ) (c : Client) (there : numbered w.clients n ≡ Some c) (ready : IsReadyFor w) → Every S w → (turn : HasTurn w n new)
      → (x : Client) → numbered new.clients n ≡ Some x → IsAt S new x) where
    all_still : (w new : World) (n : ℕ) (c : Client) → numbered w.clients n ≡ Some c → IsReadyFor w → Every S w → HasTurn w n new → Every S new
    all_still w new n c there ready all turn k x is = by (back one_request one_reply steps_sound every w n c there ready new turn k x is)
      where
        by : Back one_request one_reply steps_sound every w n c there ready new turn k x → IsAt S new x
        by (it same) = nearer w new n c there ready all turn x (ap (numbered new.clients) (sym same) ∙ is)
        by (another other was) = other_stays one_request one_reply steps_sound every w n c there ready new turn S k x other was (all k x was)

  -- ---- the client of a turn comes a stage nearer

  to_first : (w new : World) (n : ℕ) (c : Client) (there : numbered w.clients n ≡ Some c) (ready : IsReadyFor w) (turn : HasTurn w n new) (x : Client) → numbered new.clients n ≡ Some x → IsAt OwnsWithin new x
  to_first w new n c there ready turn = first_stage one_request one_reply steps_sound every w n c there ready new turn

  to_second : (w new : World) (n : ℕ) (c : Client) (there : numbered w.clients n ≡ Some c) (ready : IsReadyFor w) → Every OwnsWithin w → (turn : HasTurn w n new) (x : Client) → numbered new.clients n ≡ Some x → IsAt HoldsWithin new x
  to_second w new n c there ready all turn = second_stage one_request one_reply steps_sound every w n c there ready new turn (all n c there)

  to_third : (w new : World) (n : ℕ) (c : Client) (there : numbered w.clients n ≡ Some c) (ready : IsReadyFor w) → Every HoldsWithin w → (turn : HasTurn w n new) (x : Client) → numbered new.clients n ≡ Some x → IsAt OwnsAll new x
  to_third w new n c there ready all turn = third_stage one_request one_reply steps_sound every w n c there ready new turn (only_own w c (all n c there)) all

  -- ---- from a world that can settle

  pub begins : (w : World) → Keeps w → CanSettle w → IsReadyFor w
  begins w keeps can =
      record {
        keeps = keeps;
        here = here;
        has_client = can.has_client;
        room = λ name g of. let below = can.below name g of in inl (omega (arith, below));
      }
    where
      here : (n : ℕ) (c : Client) → numbered w.clients n ≡ Some c → IsHere w c
      here n c there =
          let ready = can.ready n c there in
          let above = above_zero c.epoch ((keeps.clients n c there).inside ready.place).2 in
          let present = can.present c.settings.group ready.group ready.id ready.kept ready.of_group ready.is_kept in
          record {
            id = ready.id;
            is_id = ready.is_id;
            below = above.0;
            is_epoch = above.1;
            group = ready.group;
            of_group = ready.of_group;
            kept = ready.kept;
            is_kept = ready.is_kept;
            epoch = present.0;
            at_epoch = present.1;
            current = current ready.kept.epoch present.0 above.0 present.1 above.1 ready.epoch;
          }
        where
          current : {previous : ℕ} (e : Epoch) (number below : ℕ) → e ≡ At number → c.epoch ≡ suc below → (e ≡ At c.epoch) ⊎ (previous ≡ c.epoch) → (number ≡ suc below) ⊎ (previous ≡ suc below)
          current e number below is above (inl same) = inl (ap (λ (x : Epoch). elim x [ At k ↦ k | Away ↦ 0 ]) (sym is ∙ same) ∙ above)
          current e number below is above (inr same) = inr (same ∙ above)

  settled_at : (w : World) → Every OwnsAll w → IsSettled w
  settled_at w all n c there =
      let is = all n c there in
      record { id = is.id; is_id = is.is_id; group = is.group; of_group = is.of_group; own = is.stage.1; epoch = is.stage.2 }

  pub settling_settles : (w : World) → Keeps w → SettlingSettles w
  settling_settles w keeps new can (first, round, (second, other, (third, last, is))) =
      let ready = begins w keeps can in
      let one = whole (λ v. Unit {0}) OwnsWithin (λ a b n c there ready known turn. tt) (λ a b n c there ready known turn. to_first a b n c there ready turn) w first ready tt round in
      let two = whole (Every OwnsWithin) HoldsWithin (all_still OwnsWithin (λ a b n c there ready all turn. to_first a b n c there ready turn)) to_second first second one.0 one.1 other in
      let three = whole (Every HoldsWithin) OwnsAll (all_still HoldsWithin (λ a b n c there ready all turn. to_second a b n c there ready (λ k y is. only_own a y (all k y is)) turn)) to_third second third two.0 two.1 last in
      subst IsSettled (sym is) (settled_at third three.1)
