-- What a reply shows, and when it shows nothing.
use Rattle.std.proofs.Common.{◌≡◌, ℕ, pos, negsuc, ℤ, Bool, true, false, not, ◌&&◌, ◌||◌, Option, Some, None, IsTrue, refl, sym, ap, subst, ◌∙◌, true≢false}
use Rattle.std.specs.Cmp.{first_so, second_so}
use Rattle.std.specs.FinMap as finite
use Rattle.group_types.specs.declared.partition.Partition.{Partition}
use Rattle.group_types.specs.Text.{Text}
use Rattle.group_types.specs.Sets.{are_same, has}
use Rattle.group_types.specs.Partition.{Partitions}
use Rattle.group_types.specs.Owners.{owns}
use Rattle.group_types.specs.Request.{is_full}
use Rattle.group_types.specs.Group.{Record, Group, held, wanted}
use Rattle.group_types.specs.HeartbeatStep.{Answer, Reply, Arrival, Draft, acceptance, assignment_of, is_news, sent_after, shown}
use Rattle.group_types.proofs.Consistent.{consistent}
use Rattle.group_types.specs.Fencing.{IsAcceptedAs}
use Rattle.group_types.specs.Assignments.{AssignmentsAreNews, IsShown, ShowsNews, WasSent}
use Rattle.group_types.proofs.Orders.{partition_cmp_total, partition_cmp-IsAntisymmetric}
use Rattle.group_types.proofs.SetLemmas.{are_same-Decides, has-common, same_set}
use Rattle.group_types.proofs.SpreadLemmas.{has-share_of, owns-get, same_truth}
use Rattle.group_types.proofs.GrantLemmas.{has-held}
use Rattle.group_types.proofs.Lookups.{not_none, some_is}
use Rattle.group_types.proofs.Accepted.{Came, unchanged, has_left, went_away, taken_in, came, nobody, Drafting, Stages, Whose, its_own, newcomer, takes_over, may}
use Rattle.group_types.proofs.Afterwards.{Last, Offered, Settled, accepted_is, answered_as, grants_are, has_record, settled_same, target_is}

-- ---- whether an assignment stands

gives : (b : Bool) (set given : Partitions) → assignment_of b set ≡ Some given → given ≡ set
gives true set given is = sym (some_is set given is)
gives false set given never = absurd (not_none given never)

gives_none : (full news : Bool) (set : Partitions) → assignment_of (full || news) set ≡ None → (full ≡ false) × (news ≡ false)
gives_none true news set never = absurd (not_none set (sym never))
gives_none false true set never = absurd (not_none set (sym never))
gives_none false false set is = (refl, refl)

old_news : (o : Option Partitions) (set : Partitions) → is_news o set ≡ false → o ≡ Some set
old_news None set never = absurd (true≢false never)
old_news (Some sent) set so = ap Some ((are_same-Decides partition_cmp_total partition_cmp-IsAntisymmetric sent set).0 (unnot (are_same sent set) so))
  where
    unnot : (b : Bool) → not b ≡ false → b ≡ true
    unnot true so = refl
    unnot false so = absurd (true≢false so)

no_news_of : (set : Partitions) → is_news (Some set) set ≡ false
no_news_of set = ap not ((are_same-Decides partition_cmp_total partition_cmp-IsAntisymmetric set set).1 refl)

-- ---- what is shown

module _ (g : Group) (a : Arrival) (answer : Answer) (new : Group) (d : Draft) (drafting : Drafting g a d) (stages : Stages d a.heartbeat answer new) where
  abbrev Shown : Partitions
  Shown = shown (Offered g a answer new d drafting stages) d.id

  abbrev Sent : Option Partitions
  Sent = (Settled g a answer new d drafting stages).sent

  shown_is : (p : Partition) → has Shown p ≡ (has new.grants (d.id, p) && owns (Offered g a answer new d drafting stages).target d.id p)
  shown_is p =
      let s = Offered g a answer new d drafting stages in
      has-common partition_cmp_total (held s.grants d.id) (wanted s.target d.id) p
      ∙ (λ i. (has-held s.grants d.id p ∙ sym (ap (λ x. has x (d.id, p)) (grants_are g a answer new d drafting stages))) i && has-share_of s.target d.id p i)

  owner_same : (p : Partition) → finite.get new.target p ≡ finite.get (Offered g a answer new d drafting stages).target p
  owner_same p = ap (λ t. finite.get t p) (target_is g a answer new d drafting stages)

  is_shown : IsShown new d.id Shown
  is_shown p = (
    λ there.
        let both = sym (shown_is p) ∙ there in (
          first_so (has new.grants (d.id, p)) _ both,
          owner_same p ∙ (owns-get (Offered g a answer new d drafting stages).target d.id p).0 (second_so (has new.grants (d.id, p)) _ both),
        ),
    λ is.
        shown_is p
        ∙ (λ i. is.0 i && (owns-get (Offered g a answer new d drafting stages).target d.id p).1 (sym (owner_same p) ∙ is.1) i),
  )

  -- no other set is
  only_shown : (set : Partitions) → IsShown new d.id set → set ≡ Shown
  only_shown set is =
      same_set partition_cmp_total partition_cmp-IsAntisymmetric set Shown
      (λ p. same_truth (has set p) (has Shown p) (IsTrue (has new.grants (d.id, p)) × (finite.get new.target p ≡ Some d.id)) (is p) (is_shown p))

  -- ---- no news

  sent_is : Sent ≡ d.after.sent
  sent_is = (settled_same (may stages.renewed d a.heartbeat) d.after stages.renewed.target_epoch stages.renewed.clock).sent

  was_sent : is_full a.heartbeat ≡ false → is_news Sent Shown ≡ false → Whose g drafting.base a.heartbeat d → WasSent g new d.id
  was_sent partial old (its_own r base_is id_is there same_epoch sent same_release) =
      record {
        kept = r;
        is_kept = there;
        set = Shown;
        is_set = sym (sent partial) ∙ sym sent_is ∙ old_news Sent Shown old;
        shown = is_shown;
      }
  was_sent partial old (newcomer base_is absent reports full) = absurd (true≢false (sym full ∙ partial))
  was_sent partial old (takes_over member base_is was_there absent gone instance reports full) = absurd (true≢false (sym full ∙ partial))

  old_set : is_full a.heartbeat ≡ false → WasSent g new d.id → Whose g drafting.base a.heartbeat d → is_news Sent Shown ≡ false
  old_set partial was (its_own r base_is id_is there same_epoch sent same_release) =
      let same : was.kept ≡ r = some_is was.kept r (sym was.is_kept ∙ there) in
      let shows : Sent ≡ Some Shown =
      sent_is ∙ sent partial ∙ sym (ap (λ (x : Record). x.sent) same) ∙ was.is_set ∙ ap Some (only_shown was.set was.shown) in
      ap (λ o. is_news o Shown) shows ∙ no_news_of Shown
  old_set partial was (newcomer base_is absent reports full) = absurd (true≢false (sym full ∙ partial))
  old_set partial was (takes_over member base_is was_there absent gone instance reports full) = absurd (true≢false (sym full ∙ partial))

  abbrev Stands : Bool
  Stands = is_full a.heartbeat || is_news Sent Shown

  abbrev Said : Reply
  Said = acceptance d.id (Settled g a answer new d drafting stages) (assignment_of Stands Shown)

  last_sent : (o : Option Partitions) → assignment_of Stands Shown ≡ o → (after : Record) → finite.get new.records d.id ≡ Some after
      → after.sent ≡ (sent_after (Settled g a answer new d drafting stages) o).sent
  last_sent o is after there =
      ap (λ (x : Record). x.sent) (some_is after (Last g a answer new d drafting stages) (sym there ∙ has_record g a answer new d drafting stages))
      ∙ ap (λ o. (sent_after (Settled g a answer new d drafting stages) o).sent) is

  unsent : is_full a.heartbeat ≡ false → (before : Record) → finite.get g.records d.id ≡ Some before → Whose g drafting.base a.heartbeat d → Sent ≡ before.sent
  unsent partial before was (its_own r base_is id_is there same_epoch sent same_release) =
      let same : r ≡ before = some_is r before (sym there ∙ was) in
      sent_is ∙ sent partial ∙ ap (λ (x : Record). x.sent) same
  unsent partial before was (newcomer base_is absent reports full) = absurd (true≢false (sym full ∙ partial))
  unsent partial before was (takes_over member base_is was_there absent gone instance reports full) = absurd (true≢false (sym full ∙ partial))

  said_shows_news : ShowsNews g a d.id Said new
  said_shows_news =
      record {
        shows = λ set is. subst (IsShown new d.id) (sym (gives Stands Shown set is)) is_shown;
        no_news = (
          λ none. let so = gives_none (is_full a.heartbeat) (is_news Sent Shown) Shown none in (so.0, was_sent so.0 so.1 drafting.whose),
          λ is. λ i. assignment_of (is.0 i || old_set is.0 is.1 drafting.whose i) Shown,
        );
        sent = λ set after is there. last_sent (Some set) is after there;
        unsent = λ before after none was there.
            last_sent None none after there ∙ unsent (gives_none (is_full a.heartbeat) (is_news Sent Shown) Shown none).0 before was drafting.whose;
      }

  shows_news : (m : Text) (accepted : IsAcceptedAs m answer) → ShowsNews g a m accepted.reply new
  shows_news m accepted =
      subst (λ (r : Reply). ShowsNews g a m r new) (answered_as m answer Said stages.answers accepted)
      (subst (λ (k : Text). ShowsNews g a k Said new) (sym (accepted_is g a answer new d drafting stages m accepted)) said_shows_news)

abbrev is_negative : ℤ → Bool
is_negative (pos n) = false
is_negative (negsuc n) = true

pub never_negative : (z : ℤ) (n k : ℕ) → z ≡ pos n → z ≡ negsuc k → ⊥
never_negative z n k is other = true≢false (sym (ap is_negative other) ∙ ap is_negative is)

pub assignments_are_news : AssignmentsAreNews
assignments_are_news g a m answer new epoch sound step is_epoch accepted = by (came g (consistent g sound) a answer new step)
  where
    by : Came g a answer new → ShowsNews g a m accepted.reply new
    by (unchanged same fails) = absurd (nobody answer fails m accepted)
    by (has_left r leaves there later answers is) = absurd (never_negative a.heartbeat.epoch epoch 0 is_epoch leaves)
    by (went_away r goes there later answers is) = absurd (never_negative a.heartbeat.epoch epoch 1 is_epoch goes)
    by (taken_in d drafting stages takes) = shows_news g a answer new d drafting stages m accepted
