-- The stages of a draft are the machine's, once its target was renewed.
use Rattle.std.proofs.Common.{◌≡◌, ℕ, ◌||◌, Option, Some, None, refl, sym, ap, ◌∙◌}
use Rattle.std.specs.FinMap as finite
use Rattle.std.specs.Option.{IfSome}
use Rattle.group_types.specs.Topics.{Topics}
use Rattle.group_types.specs.Partition.{Partitions}
use Rattle.group_types.specs.Request.{Heartbeat, is_full, reported}
use Rattle.group_types.specs.Group.{Group, Record, Records}
use Rattle.group_types.specs.Renewal.{Renews, view_for}
use Rattle.group_types.specs.Settle.{settled, settled_by}
use Rattle.group_types.specs.Members.{past_stamp, remembering, without_past}
use Rattle.group_types.specs.HeartbeatStep.{Replied, acceptance, assignment_of, is_news, sent_after}
use Rattle.group_core.specs.CodeOrder.{Heir, LateStages, renamed_last, heir_or}
use Rattle.group_types.proofs.Lookups.{get-inserted}
use Rattle.group_types.proofs.Orders.{text_cmp_total, text_cmp-IsAntisymmetric}
use Rattle.group_core.specs.declared.state.State.{State}
use Rattle.group_core.specs.declared.draft.Draft.{Draft as Drafted}
use Rattle.group_core.specs.declared.change.Renewal.{Renewal}
use Rattle.group_core.specs.GroupView.{group_of}
use Rattle.group_core.specs.Outcome.{IsCurrent}
use Rattle.group_core.specs.Stages.{carried, draft_in, grants_then, group_then, heir_in, moves, record_then, renewed_by, shown_then, stored_in}
use Rattle.group_core.proofs.Kept.{settled_names, settled_sent, sent_names}
use Rattle.group_core.proofs.HandOvers.{remove-inserted, view_for-heir}
use Rattle.group_core.proofs.SteadyBeats.{kept_past}
use Rattle.group_core.proofs.Single.{insert-insert}
use Rattle.group_core.proofs.Views.{view_for-either}

module _ (s : State) (d : Drafted) (now : ℕ) (r : Renewal) (q : Heartbeat) where
  abbrev Owned : Option Partitions
  Owned = reported q

  abbrev Before : Records
  Before = finite.insert s.records.records d.member.id d.member.record

  abbrev After : Record
  After = record_then s d r Owned now

  abbrev Renewed : Group
  Renewed = renewed_by s d now r

  abbrev Settled : Group
  Settled = record Renewed { grants = grants_then s d r Owned; records = finite.insert Before d.member.id After }

  settles : settled Renewed d.member.id Owned now ≡ Settled
  settles = ap (λ o. settled_by (moves s d r Owned) Renewed d.member.id o now) (get-inserted s.records.records d.member.id d.member.record)

  abbrev Shown : Partitions
  Shown = shown_then s d r Owned

  abbrev Assigned : Option Partitions
  Assigned = assignment_of (is_full q || is_news d.member.record.sent Shown) Shown

  -- all but the record
  abbrev Granted : Group
  Granted = record (carried s d now r) { grants = grants_then s d r Owned }

  stored : (o : Option Heir) → IfSome o (λ h. past_stamp s.records.past d.member.id ≡ None) → (last : Record) → stored_in Granted d.member.id last o ≡ renamed_last Settled d.member.id last o
  stored None fresh last = ap (λ (rs : Records). record Settled { records = rs })
      (sym (insert-insert text_cmp_total text_cmp-IsAntisymmetric Before d.member.id After last
      ∙ insert-insert text_cmp_total text_cmp-IsAntisymmetric s.records.records d.member.id d.member.record last))
  stored (Some h) fresh last =
      let without : finite.remove Settled.records d.member.id ≡ finite.remove s.records.records d.member.id =
      remove-inserted Before d.member.id After ∙ remove-inserted s.records.records d.member.id d.member.record in
      λ i. record (renamed_last Settled d.member.id last (Some h)) {
        records = finite.insert (sym without i) h.id last;
        past = remembering (without_past (sym (kept_past s.records.past d.member.id fresh) i) h.id) d.member.id h.last;
      }

  pub stages : IfSome (heir_in s d) (λ h. past_stamp s.records.past d.member.id ≡ None) → (changed : Group) → Renews changed Renewed
      → LateStages changed (draft_in (group_of s) d now) q (Replied (acceptance (heir_or d.member.id (heir_in s d)) After Assigned)) (group_then s d now r Owned Assigned)
  stages fresh changed renews =
      record {
        renewed = Renewed;
        renews = renews;
        settled = Settled;
        settles = sym settles;
        kept = After;
        is_kept = get-inserted Before d.member.id After;
        told = Assigned;
        tells = ap (λ o. assignment_of (is_full q || is_news o Shown) Shown) (sym (settled_sent (moves s d r Owned) d.member.record _ now));
        answers = refl;
        leaves = stored (heir_in s d) fresh (sent_after After Assigned);
      }

  -- the view is that of the image still
  pub current_then : IfSome (heir_in s d) (λ h. finite.get s.records.records h.id ≡ None) → (image : Topics) (owned sent : Option Partitions) → r.view ≡ view_for image Before
      → IsCurrent (group_then s d now r owned sent) image
  current_then absent image owned sent is = by (heir_in s d) absent
    where
      last : Record
      last = sent_after (record_then s d r owned now) sent

      names : last.names ≡ d.member.record.names
      names = sent_names (record_then s d r owned now) sent ∙ settled_names (moves s d r owned) d.member.record _ now

      by : (o : Option Heir) → IfSome o (λ h. finite.get s.records.records h.id ≡ None) → IsCurrent (stored_in (record (carried s d now r) { grants = grants_then s d r owned }) d.member.id last o) image
      by None tt = is ∙ sym (view_for-either image s.records.records d.member.id last d.member.record names)
      by (Some h) none = is ∙ sym (view_for-heir image s.records.records d.member.id h.id d.member.record last none names)
