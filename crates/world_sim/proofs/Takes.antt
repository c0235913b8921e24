-- A client that takes a reply still reads only what its id holds.
use Rattle.std.proofs.Common.{◌≡◌, ◌≢◌, ◌⊎◌, ℕ, ◌<◌, ◌≤◌, Bool, true, false, ◌||◌, Option, Some, None, IsTrue, refl, sym, ap, subst, ◌∙◌, inl, inr, true≢false, le_of_eq}
use Rattle.std.specs.FinMap as finite
use Rattle.group_types.specs.declared.partition.Partition.{Partition}
use Rattle.group_types.specs.declared.stamp.Stamp.{Stamp}
use Rattle.group_types.specs.Text.{Text}
use Rattle.group_types.specs.Sets.{has}
use Rattle.group_types.specs.Partition.{Partitions}
use Rattle.group_types.specs.Group.{Record, Group}
use Rattle.group_types.proofs.Orders.{partition_cmp_total}
use Rattle.group_types.proofs.SetLemmas.{has-union, has-nothing}
use Rattle.group_types.specs.Partition.{partition_cmp}
use Rattle.member_core.specs.Client.{Client, Place, Outside, Inside, Gone}
use Rattle.member_core.specs.Taking.{Accepts, after_news, showing}
use Rattle.world_sim.specs.Turn.{Holds}
use Rattle.world_sim.specs.Invariant.{IsOf, ClientKeeps, TakerKeeps, ReplyKeeps, Clients, Lags}
use Rattle.group_types.proofs.Lookups.{some_is}

either : (a b : Bool) → (a || b) ≡ true → (a ≡ true) ⊎ (b ≡ true)
either true b so = inl refl
either false b so = inr so

abbrev is_outside : Place → Bool
is_outside Outside = true
is_outside Inside = false
is_outside Gone = false

module _ (g : Group) (clients : Clients) (n : ℕ) (c : Client) (is : clients n c) (keeps : ClientKeeps g clients n c) (waits : c.waits ≡ true) where
  module _ (m : Text) (epoch : ℕ) (shown : Option Partitions) (positive : 0 < epoch) (reply : ReplyKeeps g clients n c.number m epoch shown) where
    taker : TakerKeeps g n c m epoch shown
    taker = reply.taker c is waits refl

    -- what it read before is held by its id, which is the reply's
    before : (o : Option Text) → c.id ≡ o → (r : Record) (p : Partition) → finite.get g.records m ≡ Some r → IsTrue (has c.own p) → Holds g.grants m p
    before None none r p there owns = absurd (true≢false (sym owns ∙ ap (λ s. has s p) (keeps.empty (not_inside none)) ∙ has-nothing partition_cmp p))
      where
        not_inside : c.id ≡ None → c.place ≢ Inside
        not_inside none inside =
            let named = keeps.inside inside in
            true≢false (sym (ap (λ (o : Option Text). elim o [ None ↦ false | Some x ↦ true ]) (sym none ∙ named.1)))
    before (Some id) is_id r p there owns =
        let same = taker.same id is_id in
        ap (λ x. has g.grants (x, p)) same ∙ keeps.holds id r p is_id (ap (finite.get g.records) (sym same) ∙ there) owns

    holds : (o : Option Partitions) → shown ≡ o → (r : Record) (p : Partition) → finite.get g.records m ≡ Some r → IsTrue (has (showing c o).own p) → Holds g.grants m p
    holds None none r p there owns = before c.id refl r p there owns
    holds (Some set) some r p there owns = by_part (either (has c.own p) (has set p) (sym (has-union partition_cmp_total c.own set p) ∙ owns))
      where
        by_part : (has c.own p ≡ true) ⊎ (has set p ≡ true) → Holds g.grants m p
        by_part (inl old) = before c.id refl r p there old
        by_part (inr new) = taker.shows set r p some there new

    pub told_keeps : ClientKeeps g clients n (after_news c (Accepts m epoch shown))
    told_keeps =
        record {
          its = λ k is_k. subst (λ x. IsOf g x n (showing c shown).number) (some_is m k is_k)
              (record { made = reply.made; owner = reply.owner; latest = λ s seen. subst (λ x. s.frame ≤ x) (number shown) (le_of_eq (ap (λ (x : Stamp). x.frame) (taker.answers s seen))) });
          holds = λ k r p is_k there owns.
              ap (λ x. has g.grants (x, p)) (sym (some_is m k is_k)) ∙ holds shown refl r p (ap (finite.get g.records) (some_is m k is_k) ∙ there) owns;
          behind = λ k r is_k there. taker.behind r (ap (finite.get g.records) (some_is m k is_k) ∙ there);
          below = reply.below;
          lags = λ k is_k. subst (λ x. Lags g clients x epoch) (some_is m k is_k) reply.lags;
          inside = λ inside. (m, refl, positive);
          empty = λ out. absurd (out refl);
          outside = λ out. absurd (true≢false (sym (ap is_outside out)));
          gone = λ gone. refl;
        }
      where
        number : (o : Option Partitions) → c.number ≡ (showing c o).number
        number None = refl
        number (Some set) = refl
