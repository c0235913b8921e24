-- The change and the renewal of a draft are the machine's.
use Rattle.std.proofs.Common.{◌≡◌, ◌==◌, ℕ, ◌≤◌, Bool, true, false, Option, Some, None, MatchOption, unwrap_or, is_some, IsTrue, refl, sym, ap, subst, ◌∙◌, arith, true≢false}
use Rattle.std.specs.FinMap as finite
use Rattle.std.proofs.lemmas.Bool.Decides.{Decides-eqb}
use Rattle.group_types.specs.Topics.{Topics}
use Rattle.group_types.specs.Group.{Group, Record, Records}
use Rattle.group_types.specs.Renewal.{IsChange, IsTarget, Renews, RenewsWhere, changed_if}
use Rattle.group_types.specs.Sound.{IsSound}
use Rattle.group_types.specs.declared.partition.Partition.{Partition}
use Rattle.group_types.specs.Text.{Text}
use Rattle.group_types.proofs.Lookups.{Tie, ties, differs, tie, get-inserted, get-insert_other}
use Rattle.group_types.proofs.TargetOwners.{target_owners}
use Rattle.group_target.specs.TargetState.{TargetState}
use Rattle.group_core.specs.declared.state.State.{State}
use Rattle.group_core.specs.declared.draft.Draft.{Draft as Drafted}
use Rattle.group_core.specs.declared.change.Renewal.{Renewal}
use Rattle.group_core.specs.GroupView.{group_of}
use Rattle.group_core.specs.Stages.{AreOfView, draft_in, epoch_if, renewed_by, target_then}

still_there : (records : Records) (m : Text) (r : Record) (n : Text) → IsTrue (finite.contains_key records n) → IsTrue (finite.contains_key (finite.insert records m r) n)
still_there records m r n there = by (tie n m)
  where
    by : Tie n m → IsTrue (finite.contains_key (finite.insert records m r) n)
    by (ties same) = ap (λ k. is_some (finite.get (finite.insert records m r) k)) same ∙ ap is_some (get-inserted records m r)
    by (differs _ apart) = ap is_some (get-insert_other records m r n apart) ∙ there

-- without a change the view is the stored one
view_stays : (o : Option Record) (after : Record) (stored view : Topics) → IsChange false o after stored view → stored ≡ view
view_stays None after stored view is = absurd (true≢false (sym is))
view_stays (Some before) after stored view is = is.view

module _ (s : State) (d : Drafted) (now : ℕ) (r : Renewal) where
  abbrev Former : Option Record
  Former = finite.get s.records.records d.member.id

  abbrev The : Group
  The = (draft_in (group_of s) d now).group

  abbrev Changed : Group
  Changed = record The { epoch = r.epoch; view = r.view }

  -- what the code found of the target
  abbrev pub IsRenewed : Option TargetState → Type 0
  IsRenewed renewed =
      MatchOption renewed (r.epoch ≡ s.target.epoch) (λ t. (¬ (r.epoch ≡ s.target.epoch)) × (t.epoch ≡ r.epoch) × IsTarget The.records r.view s.target.owners t.owners)

  changes : (change : Bool) → IsChange change Former d.member.record s.view r.view → r.epoch ≡ epoch_if change s.epoch → changed_if change The r.view ≡ Changed
  changes true is rises = λ i. record The { epoch = sym rises i; view = r.view }
  changes false is stays = λ i. record The { epoch = sym stays i; view = view_stays Former d.member.record s.view r.view is i }

  abbrev With : Option TargetState → Group
  With renewed =
      let target = unwrap_or renewed s.target in
      record The { epoch = r.epoch; view = r.view; target = target.owners; target_epoch = target.epoch }

  renewed_with : (renewed : Option TargetState) → IsRenewed renewed → Renews Changed (With renewed)
  renewed_with None is = subst (λ b. RenewsWhere b Changed (With None)) (sym ((Decides-eqb r.epoch s.target.epoch).1 is)) refl
  renewed_with (Some t) is =
      let there : RenewsWhere false Changed (With (Some t)) = (t.owners, is.2, λ i. record The { epoch = r.epoch; view = r.view; target = t.owners; target_epoch = is.1 i }) in
      subst (λ b. RenewsWhere b Changed (With (Some t))) (sym (apart (r.epoch == s.target.epoch) (λ so. is.0 ((Decides-eqb r.epoch s.target.epoch).0 so)))) there
    where
      apart : (b : Bool) → (b ≡ true → ⊥) → b ≡ false
      apart true never = absurd (never refl)
      apart false never = refl

  pub renews : (change : Bool) → IsChange change Former d.member.record s.view r.view → r.epoch ≡ epoch_if change s.epoch → IsRenewed r.target
      → Renews (changed_if change The r.view) (renewed_by s d now r)
  renews change is epoch renewed = subst (λ (g : Group). Renews g (renewed_by s d now r)) (sym (changes change is epoch)) (renewed_with r.target renewed)

  -- the target's partitions are of the view
  pub renewed_of_view : IsSound (group_of s) → (change : Bool) → IsChange change Former d.member.record s.view r.view → r.epoch ≡ epoch_if change s.epoch → IsRenewed r.target
      → AreOfView (target_then s r).owners r.view
  renewed_of_view sound change is epoch renewed = by r.target renewed
    where
      stored : (change : Bool) → IsChange change Former d.member.record s.view r.view → r.epoch ≡ epoch_if change s.epoch → r.epoch ≡ s.target.epoch → AreOfView s.target.owners r.view
      stored true is rises same = absurd (let most : s.target.epoch ≤ s.epoch = sound.target_epoch in omega (arith, most, rises, same))
      stored false is stays same = subst (AreOfView s.target.owners) (view_stays Former d.member.record s.view r.view is) (λ p m owns. sound.owned m p owns)

      by : (o : Option TargetState) → IsRenewed o → AreOfView (unwrap_or o s.target).owners r.view
      by None same = stored change is epoch same
      by (Some t) is = λ p m owns. (target_owners The.records r.view s.target.owners t.owners is.2 p m owns).1

  -- who owns a partition has a record, the draft's or one before it
  pub owner_is_member : IsSound (group_of s) → IsRenewed r.target → (p : Partition) (m : Text) → finite.get (target_then s r).owners p ≡ Some m → IsTrue (finite.contains_key The.records m)
  owner_is_member sound renewed p m = by r.target renewed
    where
      by : (o : Option TargetState) → IsRenewed o → finite.get (unwrap_or o s.target).owners p ≡ Some m → IsTrue (finite.contains_key The.records m)
      by None same owns = still_there s.records.records d.member.id d.member.record m (sound.owners m p owns)
      by (Some t) is owns = (target_owners The.records r.view s.target.owners t.owners is.2 p m owns).0
