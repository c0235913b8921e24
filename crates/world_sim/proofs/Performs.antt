-- That an act's step is made, from what the code's parts did.
use Rattle.std.proofs.Common.{◌≡◌, ℕ, suc, Bool, true, false, List, length, Option, Some, None, refl, sym, subst, if◌then◌else◌}
use Rattle.group_types.specs.declared.partition.Partition.{Partition}
use Rattle.kip_msgs.specs.Values.{CommitRequestTopicValue}
use Rattle.member_core.specs.Client.{Client, state_of}
use Rattle.member_core.specs.Asking.{Ask, request_for, after_giving_up, may_ask}
use Rattle.member_core.specs.Taking as taking
use Rattle.member_core.specs.Releasing.{may_release, after_release}
use Rattle.world_sim.specs.declared.fault.WorldFault.{WorldFault}
use Rattle.world_sim.specs.declared.fault.WorldFault.TheVariants as faults
use Rattle.world_sim.specs.World.{World, Request, Reply, Commit, numbered, with_client, with_request}
use Rattle.world_sim.specs.Acts.{Asks, GivesUp, Deliver, Take, Release, Commits, Bring, NoSuchClient, NoSuchMessage, WrongState, Outcome, IsRefused, IsSent, Is, IsIgnored, ActStep, AsksStep, AsksIf, SendsIf, GivesUpStep, ReleaseStep, ChangesIf, TakeStep, TakeBy, CommitsStep, DeliverStep, BringStep, stamp_of, with_sent}
use Rattle.world_sim.specs.Standing.{CannotAsk}
use Rattle.world_sim.specs.Clients.{AsksWithin}
use Rattle.world_sim.specs.Acting.{IsRefusedFor}
use Rattle.world_sim.proofs.RequestSizes.{small_if_within}

-- ---- nobody, and nothing, there

module _ (w : World) (n : ℕ) where
  module _ (none : numbered w.clients n ≡ None) where
    pub nobody_asks : (ask : Ask) → ActStep w (Asks n ask) (IsRefused NoSuchClient) w
    nobody_asks ask = subst (λ (o : Option Client). AsksStep o w n ask (IsRefused NoSuchClient) w) (sym none) (refl, refl)

    pub nobody_gives_up : ActStep w (GivesUp n) (IsRefused NoSuchClient) w
    nobody_gives_up = subst (λ (o : Option Client). GivesUpStep o w n (IsRefused NoSuchClient) w) (sym none) (refl, refl)

    pub nobody_releases : (p : Partition) → ActStep w (Release n p) (IsRefused NoSuchClient) w
    nobody_releases p = subst (λ (o : Option Client). ReleaseStep o w n p (IsRefused NoSuchClient) w) (sym none) (refl, refl)

    pub nobody_commits : (topics : List CommitRequestTopicValue) → ActStep w (Commits n topics) (IsRefused NoSuchClient) w
    nobody_commits topics = subst (λ (o : Option Client). CommitsStep o w topics (IsRefused NoSuchClient) w) (sym none) (refl, refl)

  pub no_request : numbered w.requests n ≡ None → ActStep w (Deliver n) (IsRefused NoSuchMessage) w
  no_request none = subst (λ (o : Option Request). DeliverStep o w (IsRefused NoSuchMessage) w) (sym none) (refl, refl)

  pub no_reply : numbered w.replies n ≡ None → ActStep w (Take n) (IsRefused NoSuchMessage) w
  no_reply none = subst (λ (o : Option Reply). TakeStep o w (IsRefused NoSuchMessage) w) (sym none) (refl, refl)

  pub no_commit : numbered w.commits n ≡ None → ActStep w (Bring n) (IsRefused NoSuchMessage) w
  no_commit none = subst (λ (o : Option Commit). BringStep o w (IsRefused NoSuchMessage) w) (sym none) (refl, refl)

-- ---- a client's acts

module _ (w : World) (n : ℕ) (c : Client) (there : numbered w.clients n ≡ Some c) where
  pub asks : (ask : Ask) (body : List ℕ) (new : Client) → AsksWithin c ask body new
      → ActStep w (Asks n ask) (IsSent (suc (length w.requests))) (with_request (with_client w n new) (record { sender = n; stamp = stamp_of n new; body = body }))
  asks ask body new within =
      subst (λ (o : Option Client). AsksStep o w n ask out after) (sym there)
      (subst (λ b. AsksIf b c w n ask out after) (sym within.asks.may)
      (subst (λ b. SendsIf b c w n ask out after) (sym (small_if_within (request_for c ask) body within.asks.spells.bytes within.limit)) (body, new, within.asks, (refl, refl))))
    where
      out : Outcome
      out = IsSent (suc (length w.requests))

      after : World
      after = with_sent w n new body

  pub may_not_ask : (ask : Ask) → may_ask c ask ≡ false → ActStep w (Asks n ask) (IsRefused WrongState) w
  may_not_ask ask may =
      subst (λ (o : Option Client). AsksStep o w n ask (IsRefused WrongState) w) (sym there)
      (subst (λ b. AsksIf b c w n ask (IsRefused WrongState) w) (sym may) (refl, refl))

  -- a client that may ask, and doesn't
  pub asks_not : (ask : Ask) (fault : WorldFault) → may_ask c ask ≡ true → CannotAsk c ask fault → IsRefusedFor fault w (Asks n ask)
  asks_not ask faults.NoSuchClient may never = absurd never
  asks_not ask faults.NoSuchMessage may never = absurd never
  asks_not ask faults.WrongState may may_not = may_not_ask ask may_not
  asks_not ask faults.NoMemory may is = (c, there, may)
  asks_not ask faults.TooLarge may is = (c, there, is.0, is.1)
  asks_not ask faults.Forgotten may never = absurd never

  pub gives_up : (waits : Bool) → c.waits ≡ waits
      → ActStep w (GivesUp n) (if waits then Is (state_of (after_giving_up c)) else IsRefused WrongState) (if waits then with_client w n (after_giving_up c) else w)
  gives_up true waits =
      subst (λ (o : Option Client). GivesUpStep o w n (Is (state_of (after_giving_up c))) (with_client w n (after_giving_up c))) (sym there)
      (subst (λ b. ChangesIf b (after_giving_up c) w n (Is (state_of (after_giving_up c))) (with_client w n (after_giving_up c))) (sym waits) (refl, refl))
  gives_up false waits =
      subst (λ (o : Option Client). GivesUpStep o w n (IsRefused WrongState) w) (sym there)
      (subst (λ b. ChangesIf b (after_giving_up c) w n (IsRefused WrongState) w) (sym waits) (refl, refl))

  pub releases : (p : Partition) (may : Bool) → may_release c ≡ may
      → ActStep w (Release n p) (if may then Is (state_of (after_release c p)) else IsRefused WrongState) (if may then with_client w n (after_release c p) else w)
  releases p true may =
      subst (λ (o : Option Client). ReleaseStep o w n p (Is (state_of (after_release c p))) (with_client w n (after_release c p))) (sym there)
      (subst (λ b. ChangesIf b (after_release c p) w n (Is (state_of (after_release c p))) (with_client w n (after_release c p))) (sym may) (refl, refl))
  releases p false may =
      subst (λ (o : Option Client). ReleaseStep o w n p (IsRefused WrongState) w) (sym there)
      (subst (λ b. ChangesIf b (after_release c p) w n (IsRefused WrongState) w) (sym may) (refl, refl))

-- a reply that is there, of a client that is there
pub takes : (w : World) (n : ℕ) (r : Reply) (c new : Client) (taken : Bool) → numbered w.replies n ≡ Some r → numbered w.clients r.request.sender ≡ Some c
    → taking.Takes c r.body taken new
    → ActStep w (Take n) (if taken then Is (state_of new) else IsIgnored) (if taken then with_client w r.request.sender new else w)
takes w n r c new true pooled there taken =
    subst (λ (o : Option Reply). TakeStep o w (Is (state_of new)) (with_client w r.request.sender new)) (sym pooled)
    (subst (λ (o : Option Client). TakeBy o r w (Is (state_of new)) (with_client w r.request.sender new)) (sym there) (true, new, taken, (refl, refl)))
takes w n r c new false pooled there taken =
    subst (λ (o : Option Reply). TakeStep o w IsIgnored w) (sym pooled)
    (subst (λ (o : Option Client). TakeBy o r w IsIgnored w) (sym there) (false, new, taken, (refl, refl)))
