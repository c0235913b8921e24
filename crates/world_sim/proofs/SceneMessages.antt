-- That a scene's deliveries and commits are the world's.
use Rattle.std.proofs.Common.{◌≡◌, ℕ, suc, ◌<◌, ◌≤◌, Bool, true, false, ◌&&◌, nat_le, List, length, Option, Some, Ok, IsTrue, refl, sym, ap, ap₂, subst, ◌∙◌, arith}
use Rattle.std.proofs.lemmas.Bool.{le-leb, leb-true}
use Rattle.kip_msgs.specs.Values.{CommitRequestTopicValue}
use Rattle.group_types.specs.Limits.{LARGEST_BODY}
use Rattle.member_core.specs.Limits.{GREATEST_NUMBER}
use Rattle.member_core.specs.Client.{Client}
use Rattle.member_core.specs.Asking.{header_of, heartbeat_value}
use Rattle.member_core.specs.Committing.{may_commit_at, commit_for}
use Rattle.member_core.specs.Refusing.{is_too_large}
use Rattle.member_core.specs.Writing.{are_few}
use Rattle.world_sim.specs.declared.shown.Shown.{Shown}
use Rattle.world_sim.specs.declared.shown.Shown.TheVariants as shows
use Rattle.world_sim.specs.declared.fault.WorldFault.{WorldFault}
use Rattle.world_sim.specs.declared.fault.WorldFault.TheVariants as faults
use Rattle.world_sim.specs.World.{World, Request, Commit, numbered, cut, with_commit}
use Rattle.world_sim.specs.Acts.{Commits, Deliver, Outcome, IsCommitted, IsRefused, WrongState, Forgotten, ActStep, CommitsBy, CommitsIf, CommitsStep, DeliversIf, DeliverStep, commit_by, is_forgotten, may_commit}
use Rattle.world_sim.specs.Invariant.{Keeps}
use Rattle.world_sim.specs.Acting.{Acted, IsRefusedFor}
use Rattle.world_sim.specs.Clients.{IsCommitOf}
use Rattle.world_sim.specs.Stands.{CannotCommit}
use Rattle.world_sim.proofs.Delivered.{AnswersOne, IsHeartbeat}
use Rattle.world_sim.proofs.Numbered.{numbered_in}
use Rattle.world_sim.proofs.RequestSizes.{few_if_within}

pub above_false : (a b : ℕ) → b < a → nat_le a b ≡ false
above_false a b above =
    elim (nat_le a b) as (λ t. nat_le a b ≡ t → t ≡ false) [
      | true ↦ λ so. let below = leb-true a b so in absurd (omega (arith, below, above))
      | false ↦ λ so. refl
    ] refl

-- ---- deliveries

module _ (w : World) (n : ℕ) (q : Request) (pooled : numbered w.requests n ≡ Some q) where
  pub is_heartbeat : Keeps w → IsHeartbeat q
  is_heartbeat keeps =
      let says = keeps.requests q (numbered_in w.requests n q pooled) in
      (header_of q.stamp.frame, heartbeat_value says.heartbeat, says.spells)

  delivers : (b : Bool) (spelled : IsHeartbeat q) (outcome : Outcome) (new : World) → is_forgotten w.coordinator spelled.1 ≡ b → DeliversIf b w q outcome new
      → ActStep w (Deliver n) outcome new
  delivers b (header, v, spells) outcome new is step =
      subst (λ (o : Option Request). DeliverStep o w outcome new) (sym pooled)
      (header, v, spells, subst (λ t. DeliversIf t w q outcome new) (sym is) step)

  pub forgets : (spelled : IsHeartbeat q) → is_forgotten w.coordinator spelled.1 ≡ true → ActStep w (Deliver n) (IsRefused Forgotten) w
  forgets spelled is = delivers true spelled (IsRefused Forgotten) w is (refl, refl)

  pub delivered : (spelled : IsHeartbeat q) (shown : Shown) (new : World) → is_forgotten w.coordinator spelled.1 ≡ false → AnswersOne q w shown new
      → Acted w (Deliver n) (Ok shown) new
  delivered spelled shown new is (outcome, step, shows_it) = (outcome, delivers false spelled outcome new is step, shows_it)

-- ---- commits

module _ (w : World) (n : ℕ) (c : Client) (there : numbered w.clients n ≡ Some c) (topics : List CommitRequestTopicValue) where
  may_both : (number : ℕ) → may_commit_at c.place ≡ true → number ≤ GREATEST_NUMBER → may_commit c number ≡ true
  may_both number may below = ap₂ (λ a b. a && b) may (le-leb number GREATEST_NUMBER below)

  pub commits : (number : ℕ) (k : Commit) → number ≡ suc (length w.commits) → number ≤ GREATEST_NUMBER → IsCommitOf c number topics k
      → Acted w (Commits n topics) (Ok (shows.Committed number)) (with_commit w (cut w.coordinator k))
  commits number k is below made =
      (IsCommitted (suc (length w.commits)), subst (λ (o : Option Client). CommitsStep o w topics out after) (sym there) inside, ap IsCommitted (sym is))
    where
      out : Outcome
      out = IsCommitted (suc (length w.commits))

      after : World
      after = with_commit w (cut w.coordinator k)

      made_so : IsCommitOf c (suc (length w.commits)) topics k
      made_so = subst (λ j. IsCommitOf c j topics k) is made

      by_size : CommitsBy (nat_le (length k.body) LARGEST_BODY) w (commit_by c k.body) out after
      by_size = subst (λ b. CommitsBy b w (commit_by c k.body) out after) (sym (le-leb (length k.body) LARGEST_BODY made.limit)) (refl, ap (λ (x : Commit). with_commit w (cut w.coordinator x)) made.is)

      inside : CommitsIf (may_commit c (suc (length w.commits))) c w topics out after
      inside = subst (λ b. CommitsIf b c w topics out after) (sym (may_both (suc (length w.commits)) made.may (subst (λ j. j ≤ GREATEST_NUMBER) is below))) (k.body, made_so.spells, by_size)

  and_false : (a : Bool) → (a && false) ≡ false
  and_false true = refl
  and_false false = refl

  refused : may_commit c (suc (length w.commits)) ≡ false → ActStep w (Commits n topics) (IsRefused WrongState) w
  refused may =
      subst (λ (o : Option Client). CommitsStep o w topics (IsRefused WrongState) w) (sym there)
      (subst (λ b. CommitsIf b c w topics (IsRefused WrongState) w) (sym may) (refl, refl))

  pub past_the_numbers : nat_le (suc (length w.commits)) GREATEST_NUMBER ≡ false → ActStep w (Commits n topics) (IsRefused WrongState) w
  past_the_numbers past = refused (ap (λ b. may_commit_at c.place && b) past ∙ and_false (may_commit_at c.place))

  pub commits_not : (number : ℕ) (fault : WorldFault) → number ≡ suc (length w.commits) → number ≤ GREATEST_NUMBER → CannotCommit c number topics fault → IsRefusedFor fault w (Commits n topics)
  commits_not number faults.NoSuchClient is below never = absurd never
  commits_not number faults.NoSuchMessage is below never = absurd never
  commits_not number faults.WrongState is below may = refused (ap (λ b. b && nat_le (suc (length w.commits)) GREATEST_NUMBER) may)
  commits_not number faults.NoMemory is below (may, few) =
      (c, there, may_both (suc (length w.commits)) may (subst (λ j. j ≤ GREATEST_NUMBER) is below), subst (λ j. are_few (commit_for c j topics) ≡ true) is few)
  commits_not number faults.TooLarge is below (may, large) =
      (c, there, may_both (suc (length w.commits)) may (subst (λ j. j ≤ GREATEST_NUMBER) is below), subst (λ j. IsTrue (is_too_large (commit_for c j topics))) is large)
  commits_not number faults.Forgotten is below never = absurd never

  -- there is no memory to keep it
  pub commits_short : (number : ℕ) (k : Commit) → number ≡ suc (length w.commits) → number ≤ GREATEST_NUMBER → IsCommitOf c number topics k → IsRefusedFor faults.NoMemory w (Commits n topics)
  commits_short number k is below made =
      commits_not number faults.NoMemory is below (made.may, few_if_within (commit_for c number topics) k.body made.spells.bytes made.limit)
