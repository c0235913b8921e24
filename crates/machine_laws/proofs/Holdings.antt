-- What a member may read after a join or a beat.
use Rattle.std.proofs.Common.{◌≡◌, ◌≢◌, ℕ, ◌==◌, pos, Bool, true, false, not, ◌&&◌, ◌||◌, max, List, [], ◌∷◌, length, Option, Some, None, IsTrue, is_eq, refl, sym, ap, subst, ◌∙◌, true≢false}
use Rattle.std.specs.List.{list_any}
use Rattle.std.specs.Ordering.{eq_by_cmp}
use Rattle.std.specs.Cmp.{Equal-is, eq_by_cmp_equiv, first_so, second_so}
use Rattle.std.specs.FinMap as finite
use Rattle.group_types.specs.declared.partition.Partition.{Partition}
use Rattle.group_types.specs.Text.{Text, text_cmp}
use Rattle.group_types.specs.Sets.{common, has, in_order, is_nothing, minus}
use Rattle.group_types.specs.Partition.{Partitions, partition_cmp}
use Rattle.group_types.specs.Request.{reported}
use Rattle.group_types.specs.Group.{Grant, Grants, Group, Record, grant_cmp, held, wanted}
use Rattle.group_types.specs.Settle.{grants_after, is_free_for, may_move}
use Rattle.group_types.specs.HeartbeatStep.{Answer, Arrival, Draft}
use Rattle.group_types.specs.Fencing.{IsAcceptedAs}
use Rattle.group_types.proofs.Accepted.{Came, unchanged, has_left, went_away, taken_in, came, nobody, Drafting, Made, Stages, may, of_beat, of_rejoin, of_newcomer, of_heir}
use Rattle.group_types.proofs.Afterwards.{accepted_is, grants_are, target_is, there}
use Rattle.group_types.proofs.Consistent.{IsConsistent, consistent}
use Rattle.group_types.proofs.GrantLemmas.{grant_cmp_total, has-held}
use Rattle.group_types.proofs.Lookups.{not_none, some_is, text_ties}
use Rattle.group_types.proofs.Orders.{partition_cmp-IsAntisymmetric, partition_cmp-itself, partition_cmp_total}
use Rattle.group_types.proofs.SetLemmas.{apart_of_common, has-common, has-in_order, has-minus, has-nothing, is_nothing-Decides}
use Rattle.group_types.proofs.Settlings.{moved_gets, moved_own, moved_within}
use Rattle.group_types.proofs.SpreadLemmas.{has-share_of, owns-get}
use Rattle.machine_laws.specs.Holdings.{HasGivenUp, HoldsWhatItMay, MembersHoldWhatIsFree, OwnsStill, all_that_is_free, as_before}

-- ---- sets

some_partition : (s : Partitions) → is_nothing s ≡ false → (p : Partition) × (has s p ≡ true)
some_partition s some = by (in_order s) refl some
  where
    by : (ps : List Partition) → in_order s ≡ ps → (length ps == 0) ≡ false → (p : Partition) × (has s p ≡ true)
    by [] is never = absurd (true≢false never)
    by (p ∷ ps) is more =
        (p, has-in_order s p ∙ ap (list_any (eq_by_cmp partition_cmp p)) is ∙ ap (λ o. is_eq o || list_any (eq_by_cmp partition_cmp p) ps) (partition_cmp-itself p))

not_nothing : (s : Partitions) (p : Partition) → has s p ≡ true → is_nothing s ≡ true → ⊥
not_nothing s p there none = true≢false (sym there ∙ ap (λ x. has x p) ((is_nothing-Decides s).0 none) ∙ has-nothing partition_cmp p)

either : (a b : Bool) → (a || b) ≡ true → (a ≡ false) → b ≡ true
either true b so never = absurd (true≢false never)
either false b so is = so

first_fails : (a b : Bool) → (a || b) ≡ false → a ≡ false
first_fails true b never = never
first_fails false b is = refl

second_fails : (a b : Bool) → (a || b) ≡ false → b ≡ false
second_fails true b never = absurd (true≢false never)
second_fails false b is = is

false_of : (b : Bool) → (b ≡ true → ⊥) → b ≡ false
false_of true never = absurd (never refl)
false_of false never = refl

not_so : (b : Bool) → not b ≡ true → b ≡ false
not_so true never = sym never
not_so false is = refl

-- ---- a partition is free for whom nobody else holds it

any_of : (f : Grant → Bool) (gs : List Grant) → list_any f gs ≡ true → (x : Grant) × (f x ≡ true) × (list_any (eq_by_cmp grant_cmp x) gs ≡ true)
any_of f [] never = absurd (true≢false (sym never))
any_of f (e ∷ gs) so = by (any_of f gs) (f e) refl so
  where
    otherwise : (b : Bool) → list_any (eq_by_cmp grant_cmp e) gs ≡ true → (b || list_any (eq_by_cmp grant_cmp e) gs) ≡ true
    otherwise true is = refl
    otherwise false is = is

    later : (x : Grant) → list_any (eq_by_cmp grant_cmp x) gs ≡ true → (b : Bool) → (b || list_any (eq_by_cmp grant_cmp x) gs) ≡ true
    later x is true = refl
    later x is false = is

    by : (list_any f gs ≡ true → (x : Grant) × (f x ≡ true) × (list_any (eq_by_cmp grant_cmp x) gs ≡ true)) → (b : Bool) → f e ≡ b → (b || list_any f gs) ≡ true
        → (x : Grant) × (f x ≡ true) × (list_any (eq_by_cmp grant_cmp x) (e ∷ gs) ≡ true)
    by rest true is so = (e, is, ap (λ b. b || list_any (eq_by_cmp grant_cmp e) gs) ((eq_by_cmp_equiv grant_cmp_total).refl e))
    by rest false is so = let found = rest so in (found.0, found.1, later found.0 found.2 (eq_by_cmp grant_cmp found.0 e))

free_so : (grants : Grants) (m : Text) (p : Partition) → ((k : Text) → IsTrue (has grants (k, p)) → k ≡ m) → is_free_for grants m p ≡ true
free_so grants m p only = by (list_any (λ (g : Grant). eq_by_cmp partition_cmp p g.1 && not (eq_by_cmp text_cmp m g.0)) (in_order grants)) refl
  where
    other : (x : Grant) → (eq_by_cmp partition_cmp p x.1 && not (eq_by_cmp text_cmp m x.0)) ≡ true → list_any (eq_by_cmp grant_cmp x) (in_order grants) ≡ true → ⊥
    other x so there =
        let here : p ≡ x.1 = partition_cmp-IsAntisymmetric p x.1 ((Equal-is (partition_cmp p x.1)).0 (first_so (eq_by_cmp partition_cmp p x.1) _ so)) in
        let holds : has grants (x.0, p) ≡ true = ap (λ q. has grants (x.0, q)) here ∙ has-in_order grants x ∙ there in
        true≢false
        (sym (text_ties m) ∙ ap (eq_by_cmp text_cmp m) (sym (only x.0 holds)) ∙ not_so (eq_by_cmp text_cmp m x.0) (second_so (eq_by_cmp partition_cmp p x.1) _ so))

    by : (b : Bool) → list_any (λ (g : Grant). eq_by_cmp partition_cmp p g.1 && not (eq_by_cmp text_cmp m g.0)) (in_order grants) ≡ b → not b ≡ true
    by true some = let found = any_of (λ (g : Grant). eq_by_cmp partition_cmp p g.1 && not (eq_by_cmp text_cmp m g.0)) (in_order grants) some in absurd (other found.0 found.1 found.2)
    by false none = refl

-- ---- the member's

module _ (g : Group) (sound : IsConsistent g) (a : Arrival) (answer : Answer) (new : Group) (d : Draft) (drafting : Drafting g a d) (stages : Stages d a.heartbeat answer new)
    (base_is : drafting.base ≡ g) where
  abbrev R : Group
  R = stages.renewed

  abbrev Wanted : Partitions
  Wanted = wanted R.target d.id

  abbrev Rest : Partitions
  Rest = minus (held R.grants d.id) Wanted

  held_before : (k : Text) (p : Partition) → has R.grants (k, p) ≡ has g.grants (k, p)
  held_before k p = ap (λ (x : Grants). has x (k, p)) (stages.grants ∙ drafting.grants ∙ ap (λ (x : Group). x.grants) base_is)

  same_target : (p : Partition) → finite.get new.target p ≡ finite.get R.target p
  same_target p = ap (λ t. finite.get t p) (target_is g a answer new d drafting stages)

  granted : (b : Bool) → may R d a.heartbeat ≡ b → (p : Partition) → has new.grants (d.id, p) ≡ has (grants_after b R.grants d.id Wanted) (d.id, p)
  granted b so p =
      ap (λ (x : Grants). has x (d.id, p)) (grants_are g a answer new d drafting stages) ∙ ap (λ b. has (grants_after b R.grants d.id Wanted) (d.id, p)) so

  is_wanted : (p : Partition) → finite.get new.target p ≡ Some d.id → has Wanted p ≡ true
  is_wanted p is = has-share_of R.target d.id p ∙ (owns-get R.target d.id p).1 (sym (same_target p) ∙ is)

  not_wanted : (p : Partition) → finite.get new.target p ≢ Some d.id → has Wanted p ≡ false
  not_wanted p other = false_of (has Wanted p) (λ so. other (same_target p ∙ (owns-get R.target d.id p).0 (sym (has-share_of R.target d.id p) ∙ so)))

  in_rest : (p : Partition) → has Rest p ≡ (has g.grants (d.id, p) && not (has Wanted p))
  in_rest p = has-minus partition_cmp_total (held R.grants d.id) Wanted p ∙ ap (λ b. b && not (has Wanted p)) (has-held R.grants d.id p ∙ held_before d.id p)

  -- a partition of the rest was held and is lost
  was_held : (p : Partition) → has Rest p ≡ true → has g.grants (d.id, p) ≡ true
  was_held p so = first_so (has g.grants (d.id, p)) _ (sym (in_rest p) ∙ so)

  is_lost : (p : Partition) → has Rest p ≡ true → finite.get new.target p ≢ Some d.id
  is_lost p so is =
      true≢false (sym (is_wanted p is) ∙ not_so (has Wanted p) (second_so (has g.grants (d.id, p)) _ (sym (in_rest p) ∙ so)))

  moves : may R d a.heartbeat ≡ true → HoldsWhatItMay g a d.id new
  moves so = all_that_is_free given_up (λ p. (forth p, back p))
    where
      rest_so : (p : Partition) → IsTrue (has g.grants (d.id, p)) → finite.get new.target p ≢ Some d.id → has Rest p ≡ true
      rest_so p holds lost = in_rest p ∙ (λ i. holds i && not (not_wanted p lost i))

      by_report : (o : Option Partitions) → reported a.heartbeat ≡ o → may_move Rest o ≡ true → (p : Partition) → has Rest p ≡ true
          → (owned : Partitions) × (reported a.heartbeat ≡ Some owned) × (has owned p ≡ false)
      by_report None is none p found = absurd (not_nothing Rest p found none)
      by_report (Some owned) is some p found =
          let none = either (is_nothing Rest) (is_nothing (common owned Rest)) some (false_of (is_nothing Rest) (not_nothing Rest p found)) in (
            owned,
            is,
            false_of (has owned p) (λ owns.
                true≢false (sym found ∙ apart_of_common partition_cmp_total partition_cmp-IsAntisymmetric owned Rest ((is_nothing-Decides (common owned Rest)).0 none) p owns)),
          )

      given_up : HasGivenUp g a d.id new
      given_up p holds lost = by_report (reported a.heartbeat) refl so p (rest_so p holds lost)

      forth : (p : Partition) → IsTrue (has new.grants (d.id, p)) → (finite.get new.target p ≡ Some d.id) × ((k : Text) → IsTrue (has g.grants (k, p)) → k ≡ d.id)
      forth p holds =
          let then = sym (granted true so p) ∙ holds in (
            same_target p ∙ moved_within R stages.sound d.id d.after (there g a answer new d drafting stages) p then,
            λ k holds_it. moved_gets R stages.sound d.id d.after (there g a answer new d drafting stages) p then k (held_before k p ∙ holds_it),
          )

      either_so : (b : Bool) → (b || true) ≡ true
      either_so true = refl
      either_so false = refl

      back : (p : Partition) → (finite.get new.target p ≡ Some d.id) × ((k : Text) → IsTrue (has g.grants (k, p)) → k ≡ d.id) → IsTrue (has new.grants (d.id, p))
      back p (is, only) =
          granted true so p ∙ moved_own R stages.sound d.id d.after (there g a answer new d drafting stages) p
          ∙ (λ i. is_wanted p is i && (has R.grants (d.id, p) || free_so R.grants d.id p (λ k holds. only k (sym (held_before k p) ∙ holds)) i))
          ∙ either_so (has R.grants (d.id, p))

  stays : may R d a.heartbeat ≡ false → HoldsWhatItMay g a d.id new
  stays so = as_before (by_report (reported a.heartbeat) refl so) (λ p. granted false so p ∙ held_before d.id p)
    where
      by_report : (o : Option Partitions) → reported a.heartbeat ≡ o → may_move Rest o ≡ false → OwnsStill g a d.id new
      by_report None is some =
          let it = some_partition Rest some in
          record {
            partition = it.0;
            held = was_held it.0 it.1;
            lost = is_lost it.0 it.1;
            owns = λ owned never. absurd (not_none owned (sym is ∙ never));
          }
      by_report (Some reports) is some =
          let it = some_partition (common reports Rest) (second_fails (is_nothing Rest) (is_nothing (common reports Rest)) some) in
          let both : (has reports it.0 && has Rest it.0) ≡ true = sym (has-common partition_cmp_total reports Rest it.0) ∙ it.1 in
          let in_it = second_so (has reports it.0) _ both in
          record {
            partition = it.0;
            held = was_held it.0 in_it;
            lost = is_lost it.0 in_it;
            owns = λ owned same. ap (λ (s : Partitions). has s it.0) (some_is owned reports (sym same ∙ is)) ∙ first_so (has reports it.0) _ both;
          }

  holds : HoldsWhatItMay g a d.id new
  holds = by (may R d a.heartbeat) refl
    where
      by : (b : Bool) → may R d a.heartbeat ≡ b → HoldsWhatItMay g a d.id new
      by true so = moves so
      by false so = stays so

module _ (g : Group) (sound : IsConsistent g) (a : Arrival) (m : Text) (answer : Answer) (new : Group) (n : ℕ) (at : a.heartbeat.epoch ≡ pos n) (accepted : IsAcceptedAs m answer)
    (before : Record) (was : finite.get g.records m ≡ Some before) where
  base : (d : Draft) (drafting : Drafting g a d) → m ≡ d.id → Made g drafting.base a (max g.clock a.moment) d → drafting.base ≡ g
  base d drafting id (of_beat k r epoch kept is base_is was_it) = base_is
  base d drafting id (of_rejoin r epoch kept is base_is was_it) = base_is
  base d drafting id (of_newcomer epoch none is base_is was_it) = absurd (not_none before (sym none ∙ ap (finite.get g.records) (sym id) ∙ was))
  base d drafting id (of_heir old i epoch none kept asks has_it is base_is was_it) = absurd (not_none before (sym none ∙ ap (finite.get g.records) (sym id) ∙ was))

  held_then : Came g a answer new → HoldsWhatItMay g a m new
  held_then (unchanged same fails) = absurd (nobody answer fails m accepted)
  held_then (has_left r epoch there later answers is) = absurd cc
  held_then (went_away r epoch there later answers is) = absurd cc
  held_then (taken_in d drafting stages takes) =
      let id = accepted_is g a answer new d drafting stages m accepted in
      subst (λ k. HoldsWhatItMay g a k new) (sym id) (holds g sound a answer new d drafting stages (base d drafting id drafting.made))

pub members_hold_what_is_free : MembersHoldWhatIsFree
members_hold_what_is_free g a m answer new n before sound step at accepted was =
    held_then g (consistent g sound) a m answer new n at accepted before was (came g (consistent g sound) a answer new step)
