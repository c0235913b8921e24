-- The first join of a group that nobody has joined, in one closed form.
use Rattle.std.proofs.Common.{◌≡◌, ℕ, suc, pos, negsuc, max, true, false, cond, not, ◌||◌, ◌&&◌, ◌==◌, is_some, [], map, refl, sym, ap, subst, ◌∙◌, Some, None, arith, ne_eqb}
use Rattle.std.specs.List.{list_any}
use Rattle.std.specs.FinMap as finite
use lib.Dec.{eqb-zero-suc}
use Rattle.group_types.specs.declared.epoch.Epoch.TheVariants.{At}
use Rattle.std.specs.Ordering.{int_eq}
use Rattle.group_types.specs.Text.{Text, text_cmp}
use Rattle.group_types.specs.Sets.{nothing, has, in_order, is_nothing, minus, common}
use Rattle.group_types.specs.Partition.{partition_cmp, Partitions}
use Rattle.group_types.specs.Topics.{Topics, view_of}
use Rattle.group_types.specs.MemberId.{made_id}
use Rattle.group_types.specs.Request.{Heartbeat, kind_of, is_full, reported, reported_at}
use Rattle.group_types.specs.Group.{Record, Target, Group, starting_group, wanted}
use Rattle.group_types.specs.Settle.{granting, moved, settled, settled_by, arrived, may_settle, may_move}
use Rattle.group_types.specs.Renewal.{view_for, changed_if, IsTarget, Renews, RenewsWhere}
use Rattle.group_types.specs.Join.{record_of_join}
use Rattle.group_types.specs.HeartbeatStep.{Answer, Replied, Arrival, Draft, Stages, acceptance, assignment_of, is_news, shown}
use Rattle.group_types.proofs.BoolLemmas.{or_none}
use Rattle.group_types.proofs.Orders.{text_cmp_total, text_cmp-IsAntisymmetric, partition_cmp_total, partition_cmp-IsAntisymmetric}
use Rattle.group_types.proofs.SetLemmas.{is_nothing-Decides}
use Rattle.group_target.specs.TargetState.{TargetState}
use Rattle.group_core.specs.FirstMember.{JoinsFirst, at_epoch, one_record, group_of_one}
use Rattle.group_core.proofs.Single.{entries-single, get-inserted, insert-insert, retain_keys-empty}
use Rattle.group_core.proofs.GrantLemmas.{held-nothing, moved-nothing, held-granting, common-itself}

-- the member's record once it is settled
abbrev pub first_settled : Record → ℕ → Record
first_settled r epoch = record r { previous_epoch = 0; epoch = At epoch; release_deadline = None }

-- a sole member's names are the group's
pub view_for-single : (image : Topics) (m : Text) (r : Record) → view_for image (one_record m r) ≡ view_of image r.names
view_for-single image m r =
    ap (λ es. finite.retain_keys image (λ name. list_any (λ x. has x.names name) (map (λ e. e.1) es))) (entries-single text_cmp_total m r)
    ∙ (λ i. finite.retain_keys image (λ name. or_none (has r.names name) i))

nothing_is : is_nothing (nothing {R = partition_cmp}) ≡ true
nothing_is = (is_nothing-Decides nothing).1 refl

-- who holds nothing may move
nothing_rests : (target : Target) (m : Text) → may_settle nothing m (wanted target m) (Some nothing) ≡ true
nothing_rests target m =
    ap (λ h. may_move (minus h (wanted target m)) (Some nothing)) (held-nothing m)
    ∙ ap (λ s. is_nothing s || is_nothing (common nothing s)) (retain_keys-empty partition_cmp_total partition_cmp-IsAntisymmetric _)
    ∙ ap (λ b. b || is_nothing (common (nothing {R = partition_cmp}) (nothing {R = partition_cmp}))) nothing_is

-- the draft of a group with a first member m
abbrev group_of_draft : ℕ → ℕ → Text → Record → ℕ → Group
group_of_draft salt epoch m r now =
    record {
      salt = salt;
      epoch = epoch;
      target_epoch = epoch;
      records = one_record m r;
      target = finite.empty;
      grants = nothing;
      offsets = finite.empty;
      view = finite.empty;
      clock = now;
      serial = 2;
      past = [];
    }

-- once its target is renewed
abbrev renewed_of : ℕ → ℕ → Text → Record → Target → Topics → ℕ → Group
renewed_of salt epoch m r target view now =
    record (group_of_draft salt epoch m r now) { epoch = suc epoch; target_epoch = suc epoch; target = target; view = view }

-- once it is settled, the member holds its target
abbrev settled_of : ℕ → ℕ → Text → Record → Target → Topics → ℕ → Group
settled_of salt epoch m r target view now =
    record (renewed_of salt epoch m (first_settled r (suc epoch)) target view now) { grants = granting nothing m (in_order (wanted target m)) }

abbrev first_draft_of : ℕ → ℕ → Text → Record → ℕ → Draft
first_draft_of salt epoch m r now =
    record { group = group_of_draft salt epoch m r now; id = m; before = None; after = r }

-- the target of the next epoch
abbrev next_target : ℕ → Target → TargetState
next_target epoch target = record { owners = target; epoch = suc epoch }

-- the next epoch is another
pub rises : (epoch : ℕ) → (suc epoch == epoch) ≡ false
rises epoch = ne_eqb (suc epoch) epoch (λ same. omega arith)

arrives : (r : Record) (epoch : ℕ) → arrived r (At 0) (suc epoch) ≡ first_settled r (suc epoch)
arrives r epoch = ap (λ b. cond b (record r { release_deadline = None }) (first_settled r (suc epoch))) (eqb-zero-suc epoch)

module _ (salt epoch : ℕ) (m : Text) (r : Record) (target : Target) (view : Topics) (now : ℕ) (starts : r.epoch ≡ At 0) where
  may : may_settle nothing m (wanted target m) (Some nothing) ≡ true
  may = nothing_rests target m

  has_record : finite.get (one_record m r) m ≡ Some r
  has_record = get-inserted text_cmp_total finite.empty m r

  grants_then : moved nothing m (wanted target m) ≡ granting nothing m (in_order (wanted target m))
  grants_then = moved-nothing m (wanted target m)

  records_then : finite.insert (one_record m r) m (arrived r r.epoch (suc epoch)) ≡ one_record m (first_settled r (suc epoch))
  records_then =
      insert-insert text_cmp_total text_cmp-IsAntisymmetric finite.empty m r _
      ∙ ap (λ e. one_record m (arrived r e (suc epoch))) starts
      ∙ ap (one_record m) (arrives r epoch)

  settles : settled (renewed_of salt epoch m r target view now) m (Some nothing) now ≡ settled_of salt epoch m r target view now
  settles =
      (λ i. settled_by (may i) (renewed_of salt epoch m r target view now) m (has_record i) now)
      ∙ (λ i. record (renewed_of salt epoch m r target view now) { grants = grants_then i; records = records_then i })

  shows : shown (settled_of salt epoch m r target view now) m ≡ wanted target m
  shows = ap (λ h. common h (wanted target m)) (held-granting m (wanted target m)) ∙ common-itself (wanted target m)

  renews : IsTarget (one_record m r) view finite.empty target → Renews (record (group_of_draft salt epoch m r now) { epoch = suc epoch; view = view }) (renewed_of salt epoch m r target view now)
  renews is =
      let after : Group = record (group_of_draft salt epoch m r now) { epoch = suc epoch; view = view } in
      subst (λ b. RenewsWhere b after (renewed_of salt epoch m r target view now)) (sym (rises epoch)) (target, is, refl)

is_full-join : (q : Heartbeat) → q.epoch ≡ pos 0 → is_full q ≡ true
is_full-join q joins = ap (λ e. int_eq e (pos 0) || (not (int_eq q.rebalance_timeout (negsuc 0)) && is_some q.names && is_some q.owned)) joins

-- what a heartbeat that joins as r is answered, and the group then
abbrev accepts : Text → Record → ℕ → Partitions → Answer
accepts m r epoch set = Replied (acceptance m (first_settled r epoch) (Some set))

abbrev group_then : ℕ → ℕ → Text → Record → Target → Topics → ℕ → Group
group_then salt epoch m r target view now =
    group_of_one salt m (at_epoch (first_settled r (suc epoch)) (suc epoch) (wanted target m)) (next_target epoch target) view now

module _ (salt epoch : ℕ) (m : Text) (r : Record) (q : Heartbeat) (target : Target) (view : Topics) (now : ℕ) (starts : r.epoch ≡ At 0) (joins : q.epoch ≡ pos 0) where
  abbrev the_group : Group
  the_group = settled_of salt epoch m r target view now

  abbrev the_record : Record
  the_record = first_settled r (suc epoch)

  stored : group_then salt epoch m r target view now ≡ record the_group { records = finite.insert (one_record m the_record) m (at_epoch the_record (suc epoch) (wanted target m)) }
  stored = ap (λ (records : finite.FinMap text_cmp Record). record the_group { records = records })
      (sym (insert-insert text_cmp_total text_cmp-IsAntisymmetric finite.empty m the_record (at_epoch the_record (suc epoch) (wanted target m))))

  abbrev the_draft : Draft
  the_draft = first_draft_of salt epoch m r now

  abbrev the_answer : Answer
  the_answer = accepts m r (suc epoch) (wanted target m)

  abbrev the_group_then : Group
  the_group_then = group_then salt epoch m r target view now

  tells : Some (wanted target m) ≡ assignment_of (is_full q || is_news the_record.sent (shown the_group m)) (shown the_group m)
  tells =
      ap Some (sym (shows salt epoch m r target view now starts))
      ∙ ap (λ b. assignment_of (b || is_news the_record.sent (shown the_group m)) (shown the_group m)) (sym (is_full-join q joins))

-- a join reports that it owns nothing
reported-join : (q : Heartbeat) → q.epoch ≡ pos 0 → reported q ≡ Some nothing
reported-join q joins = ap (λ e. reported_at (kind_of e) q.owned) joins

goes_on : (salt epoch : ℕ) (m : Text) (r : Record) (q : Heartbeat) (target : Target) (image : Topics) (now : ℕ) → r.epoch ≡ At 0 → q.epoch ≡ pos 0
    → IsTarget (one_record m r) (view_of image r.names) finite.empty target
    → Stages (changed_if true (group_of_draft salt epoch m r now) (view_for image (one_record m r))) (first_draft_of salt epoch m r now) q
    (accepts m r (suc epoch) (wanted target m)) (group_then salt epoch m r target (view_of image r.names) now)
goes_on salt epoch m r q target image now starts joins is =
    let view : Topics = view_for image (one_record m r) in
    let d : Draft = first_draft_of salt epoch m r now in
    let answer : Answer = accepts m r (suc epoch) (wanted target m) in
    let GoingOn : Topics → Type 0 = λ v. Stages (changed_if true (group_of_draft salt epoch m r now) view) d q answer (group_then salt epoch m r target v now) in
    let is_then : IsTarget (one_record m r) view finite.empty target = subst (λ v. IsTarget (one_record m r) v finite.empty target) (sym (view_for-single image m r)) is in
    let on : GoingOn view =
    record {
      renewed = renewed_of salt epoch m r target view now;
      renews = renews salt epoch m r target view now starts is_then;
      settled = settled_of salt epoch m r target view now;
      settles = sym (ap (λ o. settled (renewed_of salt epoch m r target view now) m o now) (reported-join q joins) ∙ settles salt epoch m r target view now starts);
      kept = first_settled r (suc epoch);
      is_kept = get-inserted text_cmp_total finite.empty m (first_settled r (suc epoch));
      told = Some (wanted target m);
      tells = tells salt epoch m r q target view now starts joins;
      answers = refl;
      leaves = stored salt epoch m r q target view now starts joins;
    } in
    subst GoingOn (view_for-single image m r) on

-- the whole of an accepted first join: the answer is the acceptance, and the group has the one member
pub joins_first : (salt epoch : ℕ) (m : Text) (h : Arrival) (now : ℕ) (target : Target)
    → made_id salt 1 ≡ m → max 0 h.moment ≡ now → h.heartbeat.epoch ≡ pos 0
    → (let r = record_of_join None h.heartbeat h.stamp now in
    IsTarget (one_record m r) (view_of h.image r.names) finite.empty target
    → JoinsFirst (starting_group salt epoch) h (accepts m r (suc epoch) (wanted target m))
    (group_of_one salt m (at_epoch r (suc epoch) (wanted target m)) (next_target epoch target) (view_of h.image r.names) now))
joins_first salt epoch m h now target named clocked joins = λ is.
    let r : Record = record_of_join None h.heartbeat h.stamp now in
    let answer : Answer = accepts m r (suc epoch) (wanted target m) in
    let new : Group = group_of_one salt m (at_epoch r (suc epoch) (wanted target m)) (next_target epoch target) (view_of h.image r.names) now in
    let Goes : Text → ℕ → Type 0 = λ id clock.
    let after = record_of_join None h.heartbeat h.stamp clock in
    Stages (changed_if true (group_of_draft salt epoch id after clock) (view_for h.image (one_record id after))) (first_draft_of salt epoch id after clock) h.heartbeat answer new in
    let here : Goes m now = goes_on salt epoch m r h.heartbeat target h.image now refl joins is in
    let there : Goes (made_id salt 1) now = subst (λ id. Goes id now) (sym named) here in
    subst (Goes (made_id salt 1)) (sym clocked) there
