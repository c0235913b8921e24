-- What a heartbeat leaves to the other members.
use Rattle.std.proofs.Common.{◌≡◌, ◌≢◌, Bool, true, false, not, ◌&&◌, Some, refl, sym, ap, ◌∙◌}
use Rattle.std.specs.FinMap as finite
use Rattle.group_types.specs.declared.partition.Partition.{Partition}
use Rattle.group_types.specs.Text.{Text}
use Rattle.group_types.specs.Sets.{has}
use Rattle.group_types.specs.Group.{Record, Group, wanted}
use Rattle.group_types.specs.Settle.{grants_after, grants_of_others}
use Rattle.group_types.specs.HeartbeatStep.{Answer, Arrival, Draft}
use Rattle.group_types.proofs.Consistent.{IsConsistent, consistent}
use Rattle.group_types.proofs.GrantLemmas.{has-others}
use Rattle.group_types.proofs.Lookups.{no_tie, not_none}
use Rattle.group_types.proofs.Settlings.{moved_other}
use Rattle.group_types.proofs.Accepted.{Came, unchanged, has_left, went_away, taken_in, came, Drafting, Stages, Whose, its_own, newcomer, takes_over, may}
use Rattle.group_types.proofs.Afterwards.{grants_are, handed, taken_from, there}
use Rattle.machine_laws.specs.OtherMembers.{OthersKeepTheirGrants}

module _ (g : Group) (sound : IsConsistent g) (a : Arrival) (answer : Answer) (new : Group) (n : Text) (before after : Record) (p : Partition)
    (other : n ≢ a.heartbeat.member) (was : finite.get g.records n ≡ Some before) (is_now : finite.get new.records n ≡ Some after) where
  without : (m : Text) → m ≢ n → has (grants_of_others g.grants m) (n, p) ≡ has g.grants (n, p)
  without m apart = has-others g.grants m n p ∙ ap (λ b. not b && has g.grants (n, p)) (no_tie m n apart)

  not_sender : a.heartbeat.member ≢ n
  not_sender same = other (sym same)

  module _ (d : Draft) (drafting : Drafting g a d) (stages : Stages d a.heartbeat answer new) where
    apart : Whose g drafting.base a.heartbeat d → n ≢ d.id
    apart (its_own r base_is id there_was epoch sent release) same = other (same ∙ id)
    apart (newcomer base_is absent reports full) same = not_none before (sym absent ∙ ap (finite.get g.records) (sym same) ∙ was)
    apart (takes_over old base_is there_was absent away instance reports full) same = not_none before (sym absent ∙ ap (finite.get g.records) (sym same) ∙ was)

    in_base : n ≢ d.id → Whose g drafting.base a.heartbeat d → has drafting.base.grants (n, p) ≡ has g.grants (n, p)
    in_base differs (its_own r base_is id there_was epoch sent release) = ap (λ (x : Group). has x.grants (n, p)) base_is
    in_base differs (newcomer base_is absent reports full) = ap (λ (x : Group). has x.grants (n, p)) base_is
    in_base differs (takes_over old base_is there_was absent away instance reports full) =
        (handed g a answer new d drafting stages sound old base_is there_was absent).other_grants n differs p
        ∙ without old.id
        (λ same. not_none after (sym (taken_from g a answer new d drafting stages sound old base_is there_was absent) ∙ ap (finite.get new.records) same ∙ is_now))

    settled : n ≢ d.id → (b : Bool) → has (grants_after b stages.renewed.grants d.id (wanted stages.renewed.target d.id)) (n, p) ≡ has stages.renewed.grants (n, p)
    settled differs true = moved_other stages.renewed stages.sound d.id d.after (there g a answer new d drafting stages) n p (no_tie n d.id differs)
    settled differs false = refl

    kept : has new.grants (n, p) ≡ has g.grants (n, p)
    kept =
        let differs = apart drafting.whose in
        ap (λ x. has x (n, p)) (grants_are g a answer new d drafting stages) ∙ settled differs (may stages.renewed d a.heartbeat)
        ∙ ap (λ x. has x (n, p)) (stages.grants ∙ drafting.grants) ∙ in_base differs drafting.whose

  by : Came g a answer new → has new.grants (n, p) ≡ has g.grants (n, p)
  by (unchanged same fails) = ap (λ (x : Group). has x.grants (n, p)) same
  by (has_left r epoch there_was later answers is) = ap (λ (x : Group). has x.grants (n, p)) is ∙ without a.heartbeat.member not_sender
  by (went_away r epoch there_was later answers is) = ap (λ (x : Group). has x.grants (n, p)) is
  by (taken_in d drafting stages takes) = kept d drafting stages

pub others_keep_their_grants : OthersKeepTheirGrants
others_keep_their_grants g a answer new n before after p sound step other was is_now =
    let held = consistent g sound in by g held a answer new n before after p other was is_now (came g held a answer new step)
