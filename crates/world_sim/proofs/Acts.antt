-- A member with a record has acted: what it holds, and at which epoch it is.
use Rattle.std.proofs.Common.{◌≡◌, ◌⊎◌, ℕ, ◌<◌, ◌≤◌, ◌==◌, Bool, true, false, Option, Some, refl, sym, ap, subst, ◌∙◌, inl, inr, true≢false, arith}
use Rattle.std.specs.List.{Contains}
use Rattle.std.specs.Ordering.{eq_by_cmp}
use Rattle.std.specs.FinMap as finite
use Rattle.std.proofs.lemmas.Bool.Decides.{Decides-eqb}
use Rattle.group_types.specs.declared.epoch.Epoch.TheVariants.{At}
use Rattle.group_types.specs.declared.partition.Partition.{Partition}
use Rattle.group_types.specs.declared.stamp.Stamp.{Stamp}
use Rattle.group_types.specs.Text.{Text, text_cmp}
use Rattle.group_types.specs.Sets.{has, minus}
use Rattle.group_types.specs.Partition.{Partitions}
use Rattle.group_types.specs.Group.{Record, Group, wanted, held}
use Rattle.group_types.specs.Settle.{moved, may_move, may_settle, arrived, asked}
use Rattle.group_types.specs.Leave.{last_epoch}
use Rattle.group_types.specs.Sound.{IsSound}
use Rattle.world_sim.specs.Turn.{Holds, IsFreeFor, IsReported}
use Rattle.group_types.proofs.SpreadLemmas.{has-share_of, owns-get}
use Rattle.group_types.proofs.GrantLemmas.{has-held}
use Rattle.world_sim.proofs.Settling.{moved_other, moved_kept, moved_gets, may_keep}
use Rattle.world_sim.proofs.Stages.{IsAtEpoch, arrives, asked_at, IsRenewed, HasSettled}

-- who owns a partition of a target wants it
wants_it : (g : Group) (m : Text) (p : Partition) → finite.get g.target p ≡ Some m → has (wanted g.target m) p ≡ true
wants_it g m p owns = has-share_of g.target m p ∙ (owns-get g.target m p).1 owns

-- The draft: the group with the member's record in it, and perhaps its change.
pub record IsDrafted (g : Group) (m : Text) (after : Record) (c : Group) : Type 0 where
  pub records : c.records ≡ finite.insert g.records m after
  pub grants : c.grants ≡ g.grants
  pub target : c.target ≡ g.target
  pub target_epoch : c.target_epoch ≡ g.target_epoch
  pub salt : c.salt ≡ g.salt
  pub epoch : c.target_epoch ≤ c.epoch
  pub serial : g.serial ≤ c.serial
  pub past : (k : Text) (s : Stamp) → Contains c.past (k, s) → Contains g.past (k, s)

-- what comes of a member that was at the epoch e, and reported these
pub record Acts (g : Group) (m : Text) (e : ℕ) (owned : Option Partitions) (stamp : Stamp) (instance : Option Text) (r : Record) (s : Group) : Type 0 where
  pub epoch : ℕ
  pub is : IsAtEpoch r stamp instance epoch
  pub rises : (e < epoch) ⊎ ((epoch ≡ e) × ((p : Partition) → Holds g.grants m p → Holds s.grants m p))
  pub reported : (p : Partition) → IsReported owned p → Holds g.grants m p → Holds s.grants m p
  pub gets : (p : Partition) → Holds s.grants m p → IsFreeFor g.grants m p
  pub others : (n : Text) (p : Partition) → eq_by_cmp text_cmp n m ≡ false → has s.grants (n, p) ≡ has g.grants (n, p)

pub acts : (g : Group) → IsSound g → (m : Text) (r after : Record) (e : ℕ) (c n s : Group) (owned : Option Partitions)
    → finite.get g.records m ≡ Some r → last_epoch r ≡ e → after.epoch ≡ At e → IsDrafted g m after c → IsRenewed c n
    → (settles : HasSettled n m after owned s) → Acts g m e owned after.stamp after.instance settles.after s
acts g sound m r after e c n s owned was last at drafted renewed settles = by_moves settles.moves
  where
    same_grants : n.grants ≡ g.grants
    same_grants = renewed.grants ∙ drafted.grants

    below : e ≤ g.target_epoch
    below = subst (λ x. x ≤ g.target_epoch) last (sound.epochs m r was)

    by_moves : ((may_settle n.grants m (wanted n.target m) owned ≡ true) × (s.grants ≡ moved n.grants m (wanted n.target m)) × (settles.after ≡ arrived after after.epoch n.target_epoch))
        ⊎ ((may_settle n.grants m (wanted n.target m) owned ≡ false) × (s.grants ≡ n.grants) × ((now : ℕ) × (settles.after ≡ asked after after.release_deadline now)))
        → Acts g m e owned after.stamp after.instance settles.after s
    by_moves (inr stays) =
        let same : s.grants ≡ g.grants = stays.1 ∙ same_grants in
        record {
          epoch = e;
          is = subst (λ (x : Record). IsAtEpoch x after.stamp after.instance e) (sym stays.2.1) (asked_at after after.release_deadline stays.2.0 e at);
          rises = inr (refl, λ p holds. ap (λ x. has x (m, p)) same ∙ holds);
          reported = λ p reported holds. ap (λ x. has x (m, p)) same ∙ holds;
          gets = λ p there k holds. sound.one_holder k m p holds (ap (λ x. has x (m, p)) (sym same) ∙ there);
          others = λ k p apart. ap (λ x. has x (k, p)) same;
        }
    by_moves (inl moves) =
        let target = wanted n.target m in
        let same : s.grants ≡ moved g.grants m target = moves.1 ∙ ap (λ x. moved x m (wanted n.target m)) same_grants in
        let may : may_move (minus (held g.grants m) target) owned ≡ true = ap (λ x. may_move (minus (held x m) (wanted n.target m)) owned) (sym same_grants) ∙ moves.0 in
        let keeps : (p : Partition) → Holds g.grants m p → has target p ≡ true → Holds s.grants m p =
        λ p holds wants. ap (λ x. has x (m, p)) same ∙ moved_kept g.grants m target p holds wants in
        record {
          epoch = n.target_epoch;
          is = subst (λ (x : Record). IsAtEpoch x after.stamp after.instance n.target_epoch) (sym moves.2) (arrives after e n.target_epoch at);
          rises = by_target renewed.target keeps;
          reported = λ p reported holds. keeps p holds (may_keep (held g.grants m) target owned may p (has-held g.grants m p ∙ holds) reported);
          gets = λ p there. moved_gets g.grants m sound.one_holder target p (ap (λ x. has x (m, p)) (sym same) ∙ there);
          others = λ k p apart. ap (λ x. has x (k, p)) same ∙ moved_other g.grants m target k p apart;
        }
      where
        at_target : n.target_epoch ≡ c.target_epoch → n.target ≡ c.target → ((p : Partition) → Holds g.grants m p → has (wanted n.target m) p ≡ true → Holds s.grants m p)
            → (b : Bool) → (e == g.target_epoch) ≡ b
            → (e < n.target_epoch) ⊎ ((n.target_epoch ≡ e) × ((p : Partition) → Holds g.grants m p → Holds s.grants m p))
        at_target epoch target keeps true so =
            let arrived : e ≡ g.target_epoch = (Decides-eqb e g.target_epoch).0 so in
            inr (
              epoch ∙ drafted.target_epoch ∙ sym arrived,
              λ p holds. keeps p holds (
                  ap (λ x. has (wanted x m) p) (target ∙ drafted.target)
                  ∙ wants_it g m p (sound.settled m r p was (last ∙ arrived) holds)),
            )
        at_target epoch target keeps false so =
            let apart : e ≡ g.target_epoch → ⊥ = λ same. true≢false (sym ((Decides-eqb e g.target_epoch).1 same) ∙ so) in
            inl (omega (arith, below, apart, epoch, drafted.target_epoch))

        by_target : (c.target_epoch < n.target_epoch) ⊎ ((n.target_epoch ≡ c.target_epoch) × (n.target ≡ c.target))
            → ((p : Partition) → Holds g.grants m p → has (wanted n.target m) p ≡ true → Holds s.grants m p)
            → (e < n.target_epoch) ⊎ ((n.target_epoch ≡ e) × ((p : Partition) → Holds g.grants m p → Holds s.grants m p))
        by_target (inl risen) keeps = inl (omega (arith, below, risen, drafted.target_epoch))
        by_target (inr (epoch, target)) keeps = at_target epoch target keeps (e == g.target_epoch) refl
