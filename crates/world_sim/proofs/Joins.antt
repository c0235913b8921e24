-- A join of a new member, and one that takes over from a member that is away, are turns of the group.
use Rattle.std.proofs.Common.{◌≡◌, ◌≢◌, ◌⊎◌, ℕ, ◌<◌, ◌≤◌, pos, Bool, true, false, not, ◌&&◌, ◌||◌, Option, Some, None, is_some, refl, sym, ap, subst, subst₂, ◌∙◌, inl, inr, ⊎_elim, true≢false, arith}
use Rattle.std.specs.List.{Contains, list_any}
use Rattle.std.specs.Ordering.{eq_by_cmp}
use Rattle.std.specs.FinMap as finite
use Rattle.std.specs.Cmp.{eq_by_cmp_equiv}
use Rattle.group_types.specs.declared.epoch.Epoch.TheVariants.{At, Away}
use Rattle.group_types.specs.declared.partition.Partition.{Partition}
use Rattle.group_types.specs.declared.stamp.Stamp.{Stamp}
use Rattle.group_types.specs.Text.{Text, text_cmp}
use Rattle.group_types.specs.Sets.{has, common, minus, is_nothing, in_order}
use Rattle.group_types.specs.Partition.{partition_cmp, Partitions}
use Rattle.group_types.specs.Request.{Heartbeat, reported}
use Rattle.group_types.specs.Group.{Record, Records, Past, Group, wanted, held}
use Rattle.group_types.specs.Members.{without_past}
use Rattle.group_types.specs.Settle.{granting, grants_of_others, moved, may_move, may_settle, arrived, asked}
use Rattle.group_types.proofs.Orders.{text_cmp_total, partition_cmp_total, partition_cmp-IsAntisymmetric}
use Rattle.group_types.proofs.SetLemmas.{has-in_order, has-nothing, has-minus, same_set, is_nothing-Decides}
use Rattle.group_types.specs.HeartbeatStep.{Answer, Replied, Reply, shown, assignment_of, sent_after, epoch_number, acceptance}
use Rattle.group_core.specs.CodeOrder.{renamed_last}
use Rattle.group_types.specs.Leave.{last_epoch, last_epoch_at}
use Rattle.group_types.specs.Sound.{IsSound}
use Rattle.world_sim.specs.Turn.{Holds, Seen, IsLater, IsNamedBy, GivesFirst, IsNew, HasTakenOver, Came, Kept, New, TookOver, Promises, Went, WasPast, WasAway, Turn}
use Rattle.group_types.proofs.GrantLemmas.{has-held, has-others, has-granting}
use Rattle.group_types.proofs.Lookups.{found, Found, this, another, get-inserted, get-insert_other, found_without, removed_is_none, text_ties, tie, Tie, ties, differs}
use Rattle.world_sim.proofs.Stages.{shows_held, IsAtEpoch, sent_at, IsRenewed, HasSettled, settled_same, first_same}
use Rattle.world_sim.proofs.Stages.{arrives}
use Rattle.world_sim.proofs.Settling.{moved_other, moved_gets}
use Rattle.world_sim.proofs.Acts.{IsDrafted, Acts, acts}
use Rattle.world_sim.proofs.Turns.{replied_is}
use Rattle.world_sim.proofs.Verdicts.{remembers, without_past-contains}

-- who has no record holds nothing
holds_nothing : (g : Group) → IsSound g → (m : Text) → finite.get g.records m ≡ None → (p : Partition) → has g.grants (m, p) ≡ false
holds_nothing g sound m absent p = by_test (has g.grants (m, p)) refl
  where
    by_test : (b : Bool) → has g.grants (m, p) ≡ b → b ≡ false
    by_test true holds = absurd (true≢false (sym (sound.holders m p holds) ∙ ap is_some absent))
    by_test false none = refl

-- ---- a take-over

pub record IsHeir (g : Group) (q : Heartbeat) (stamp : Stamp) (old : Text) (r after : Record) (heir : Text) : Type 0 where
  pub joins : q.epoch ≡ pos 0
  pub absent : finite.get g.records heir ≡ None
  pub later : (s : Stamp) → Seen g heir s → IsLater stamp s
  pub was : finite.get g.records old ≡ Some r
  pub away : r.epoch ≡ Away
  pub given : Text
  pub same_instance : (r.instance ≡ Some given) × (q.instance ≡ Some given)
  pub stamped : after.stamp ≡ stamp
  pub at : after.epoch ≡ At (last_epoch r)
  pub instance : after.instance ≡ q.instance
  pub settings : GivesFirst q after

module _ (g : Group) (sound : IsSound g) (q : Heartbeat) (stamp : Stamp) (old : Text) (r after : Record) (heir : Text) (is_heir : IsHeir g q stamp old r after heir) where
  module _ (c n s : Group) (drafted : IsDrafted g old after c) (renewed : IsRenewed c n) (settles : HasSettled n old after (reported q) s) where
    abbrev x : Record
    x = settles.after

    act : Acts g old (last_epoch r) (reported q) after.stamp after.instance x s
    act = acts g sound old r after (last_epoch r) c n s (reported q) is_heir.was refl is_heir.at drafted renewed settles

    apart : old ≢ heir
    apart is = true≢false (ap is_some (sym is_heir.was ∙ ap (finite.get g.records) is ∙ is_heir.absent))

    heir_old : eq_by_cmp text_cmp heir old ≡ false
    heir_old = by_tie (tie heir old)
      where
        by_tie : Tie heir old → eq_by_cmp text_cmp heir old ≡ false
        by_tie (ties same) = absurd (apart (sym same))
        by_tie (differs other is) = is

    -- the others hold what they held, and the heir what the old id held
    holds_other : (k : Text) (p : Partition) → eq_by_cmp text_cmp k heir ≡ false → eq_by_cmp text_cmp k old ≡ false
        → has (granting (grants_of_others s.grants old) heir (in_order (held s.grants old))) (k, p) ≡ has g.grants (k, p)
    holds_other k p not_heir not_old =
        has-granting (grants_of_others s.grants old) heir (in_order (held s.grants old)) k p
        ∙ ap (λ b. (b && list_any (eq_by_cmp partition_cmp p) (in_order (held s.grants old))) || has (grants_of_others s.grants old) (k, p)) not_heir
        ∙ has-others s.grants old k p
        ∙ ap (λ b. not b && has s.grants (k, p)) ((eq_by_cmp_equiv text_cmp_total).symm old k ∙ not_old)
        ∙ act.others k p not_old

    first_or : (a b c : Bool) → b ≡ false → ((true && a) || b) ≡ a
    first_or true b c is = refl
    first_or false b c is = is

    holds_heir : (p : Partition) → has (granting (grants_of_others s.grants old) heir (in_order (held s.grants old))) (heir, p) ≡ has s.grants (old, p)
    holds_heir p =
        has-granting (grants_of_others s.grants old) heir (in_order (held s.grants old)) heir p
        ∙ ap (λ b. (b && list_any (eq_by_cmp partition_cmp p) (in_order (held s.grants old))) || has (grants_of_others s.grants old) (heir, p)) (text_ties heir)
        ∙ first_or (list_any (eq_by_cmp partition_cmp p) (in_order (held s.grants old))) (has (grants_of_others s.grants old) (heir, p)) true
        (has-others s.grants old heir p
        ∙ ap (λ b. not b && has s.grants (heir, p)) ((eq_by_cmp_equiv text_cmp_total).symm old heir ∙ heir_old)
        ∙ act.others heir p heir_old
        ∙ holds_nothing g sound heir is_heir.absent p)
        ∙ sym (has-in_order (held s.grants old) p)
        ∙ has-held s.grants old p

    abbrev new_of : Record → Group
    new_of z = renamed_last s old z (Some (record { id = heir; last = r.stamp }))

    abbrev sent : Bool → Record
    sent b = sent_after x (assignment_of b (shown s old))

    said : (b : Bool) → IsAtEpoch (sent b) after.stamp after.instance act.epoch
    said b = sent_at x (assignment_of b (shown s old)) after.stamp after.instance act.epoch act.is

    risen : last_epoch r ≤ act.epoch
    risen = by_rise act.rises
      where
        by_rise : ((last_epoch r < act.epoch) ⊎ ((act.epoch ≡ last_epoch r) × ((p : Partition) → Holds g.grants old p → Holds s.grants old p))) → last_epoch r ≤ act.epoch
        by_rise (inl less) = omega (arith, less)
        by_rise (inr same) = omega (arith, same.0)

    module _ (b : Bool) (new : Group) (is : new ≡ new_of (sent b)) (named : IsNamedBy g q new heir) where
      same : new.grants ≡ granting (grants_of_others s.grants old) heir (in_order (held s.grants old))
      same = ap (λ (t : Group). t.grants) is

      taken_over : HasTakenOver g q stamp new heir (sent b)
      taken_over =
          let z = sent b in
          let at = said b in
          let last : last_epoch z ≡ act.epoch = ap (λ e. last_epoch_at e z) at.at in
          record {
            joins = is_heir.joins;
            named = named;
            absent = is_heir.absent;
            later = is_heir.later;
            stamped = at.stamped ∙ is_heir.stamped;
            old = old;
            before = r;
            was = is_heir.was;
            away = is_heir.away;
            given = is_heir.given;
            same_instance = is_heir.same_instance;
            instance = at.instanced ∙ is_heir.instance;
            settings = first_same q after z is_heir.settings (settled_same n old after (reported q) s settles (assignment_of b (shown s old)));
            epoch = omega (arith, last, risen);
            gets = λ p there. act.gets p (sym (holds_heir p) ∙ ap (λ t. has t (heir, p)) (sym same) ∙ there);
            present = at.at ∙ ap At (sym last);
          }

      came : (k : Text) (y : Record) → finite.get new.records k ≡ Some y → Came g q stamp new k y
      came k y there =
          by_found (found (finite.remove s.records old) heir (sent b) k y (ap (λ (t : Group). finite.get t.records k) (sym is) ∙ there))
        where
          by_tie : eq_by_cmp text_cmp k heir ≡ false → finite.get (finite.remove s.records old) k ≡ Some y → Tie k old → Came g q stamp new k y
          by_tie not_heir there (ties is_old) =
              absurd (true≢false (sym (ap is_some there) ∙ ap is_some (ap (finite.get (finite.remove s.records old)) is_old ∙ removed_is_none s.records old)))
          by_tie not_heir there (differs other not_old) =
              Kept (record {
                before =
                    sym (get-insert_other g.records old after k not_old)
                    ∙ ap (λ (t : Records). finite.get t k) (sym (renewed.records ∙ drafted.records))
                    ∙ sym (get-insert_other n.records old x k not_old)
                    ∙ ap (λ (t : Records). finite.get t k) (sym settles.records)
                    ∙ (found_without s.records old k y there).0;
                holds = λ p. ap (λ t. has t (k, p)) same ∙ holds_other k p not_heir not_old;
              })

          by_found : Found (finite.remove s.records old) heir (sent b) k y → Came g q stamp new k y
          by_found (this is_heir_k is_z) = TookOver (subst₂ (λ (a : Text) (z : Record). HasTakenOver g q stamp new a z) (sym is_heir_k) (sym is_z) taken_over)
          by_found (another other not_heir there) = by_tie not_heir there (tie k old)

      went : (k : Text) (t : Stamp) → Contains new.past (k, t) → Went g q stamp k t
      went k t there = by_part (remembers (without_past s.past heir) old k r.stamp t (subst (λ (y : Group). Contains y.past (k, t)) is there))
        where
          by_part : Contains (without_past s.past heir) (k, t) ⊎ ((old ≡ k) × (r.stamp ≡ t)) → Went g q stamp k t
          by_part (inl kept) = WasPast (drafted.past k t (subst (λ (l : Past). Contains l (k, t)) (settles.past ∙ renewed.past) (without_past-contains s.past heir (k, t) kept)))
          by_part (inr (same, last)) = WasAway r (ap (finite.get g.records) (sym same) ∙ is_heir.was) is_heir.away last

      promises : Promises q stamp new (acceptance heir x (assignment_of b (shown s old)))
      promises =
          let at = said b in
          record {
            id = heir;
            is_id = refl;
            named = λ given. ⊎_elim (λ names. sym names.0) (λ made. absurd (given made.0)) named;
            after = sent b;
            has_record = ap (λ (t : Group). finite.get t.records heir) is ∙ get-inserted (finite.remove s.records old) heir (sent b);
            stamped = at.stamped ∙ is_heir.stamped;
            number = act.epoch;
            at = at.at;
            said = ap epoch_number act.is.at;
            shows = λ set p there has_p. ap (λ t. has t (heir, p)) same ∙ holds_heir p ∙ shows_held s old b set p there has_p;
          }

      pub takes_over : (answer : Answer) → answer ≡ Replied (acceptance heir x (assignment_of b (shown s old))) → Turn g q stamp answer new
      takes_over answer answers =
          record {
            salt = ap (λ (t : Group). t.salt) is ∙ settles.salt ∙ renewed.salt ∙ drafted.salt;
            serial = subst (λ t. g.serial ≤ t) (sym (ap (λ (t : Group). t.serial) is ∙ settles.serial ∙ renewed.serial)) drafted.serial;
            target_epoch = rising renewed.target (ap (λ (t : Group). t.target_epoch) is ∙ settles.target_epoch);
            came = came;
            went = went;
            replies = λ reply said success join.
                subst (λ (t : Reply). Promises q stamp new t) (replied_is (acceptance heir x (assignment_of b (shown s old))) reply (sym answers ∙ said)) promises;
          }
        where
          rising : (c.target_epoch < n.target_epoch) ⊎ ((n.target_epoch ≡ c.target_epoch) × (n.target ≡ c.target)) → new.target_epoch ≡ n.target_epoch → g.target_epoch ≤ new.target_epoch
          rising (inl more) epoch = omega (arith, more, epoch, drafted.target_epoch)
          rising (inr same) epoch = omega (arith, same.0, epoch, drafted.target_epoch)

-- ---- a new member

-- who holds nothing beside its target may move, whatever it reports
may_any : (rest : Partitions) (owned : Option Partitions) → is_nothing rest ≡ true → may_move rest owned ≡ true
may_any rest None none = none
may_any rest (Some owned) none = ap (λ b. b || is_nothing (common owned rest)) none

pub record IsFresh (g : Group) (q : Heartbeat) (stamp : Stamp) (m : Text) (after : Record) : Type 0 where
  pub joins : q.epoch ≡ pos 0
  pub absent : finite.get g.records m ≡ None
  pub later : (s : Stamp) → Seen g m s → IsLater stamp s
  pub stamped : after.stamp ≡ stamp
  pub at : after.epoch ≡ At 0
  pub instance : after.instance ≡ q.instance
  pub settings : GivesFirst q after

module _ (g : Group) (sound : IsSound g) (q : Heartbeat) (stamp : Stamp) (m : Text) (after : Record) (fresh : IsFresh g q stamp m after)
    (c n s : Group) (drafted : IsDrafted g m after c) (renewed : IsRenewed c n) (risen : c.target_epoch < n.target_epoch) (settles : HasSettled n m after (reported q) s) where
  grants_are : n.grants ≡ g.grants
  grants_are = renewed.grants ∙ drafted.grants

  nothing_held : (p : Partition) → has (held n.grants m) p ≡ false
  nothing_held p = has-held n.grants m p ∙ ap (λ x. has x (m, p)) grants_are ∙ holds_nothing g sound m fresh.absent p

  may : is_nothing (minus (held n.grants m) (wanted n.target m)) ≡ true
  may = (is_nothing-Decides (minus (held n.grants m) (wanted n.target m))).1 (same_set partition_cmp_total partition_cmp-IsAntisymmetric _ _ (λ p.
      has-minus partition_cmp_total (held n.grants m) (wanted n.target m) p
      ∙ ap (λ b. b && not (has (wanted n.target m) p)) (nothing_held p) ∙ sym (has-nothing partition_cmp p)))

  -- it is settled at once, on the new target
  moves : (s.grants ≡ moved g.grants m (wanted n.target m)) × (settles.after ≡ arrived after after.epoch n.target_epoch)
  moves = by_moves settles.moves
    where
      by_moves : ((may_settle n.grants m (wanted n.target m) (reported q) ≡ true) × (s.grants ≡ moved n.grants m (wanted n.target m)) × (settles.after ≡ arrived after after.epoch n.target_epoch))
          ⊎ ((may_settle n.grants m (wanted n.target m) (reported q) ≡ false) × (s.grants ≡ n.grants) × ((now : ℕ) × (settles.after ≡ asked after after.release_deadline now)))
          → (s.grants ≡ moved g.grants m (wanted n.target m)) × (settles.after ≡ arrived after after.epoch n.target_epoch)
      by_moves (inl yes_moves) = (yes_moves.1 ∙ ap (λ x. moved x m (wanted n.target m)) grants_are, yes_moves.2)
      by_moves (inr stays) =
          absurd (true≢false (sym (may_any (minus (held n.grants m) (wanted n.target m)) (reported q) may) ∙ stays.0))

  pub is_at : IsAtEpoch settles.after after.stamp after.instance n.target_epoch
  is_at = subst (λ (x : Record). IsAtEpoch x after.stamp after.instance n.target_epoch) (sym moves.1) (arrives after 0 n.target_epoch fresh.at)

  module _ (b : Bool) (new : Group) (is : new ≡ record s { records = finite.insert s.records m (sent_after settles.after (assignment_of b (shown s m))) }) (named : IsNamedBy g q new m) where
    z_at : IsAtEpoch (sent_after settles.after (assignment_of b (shown s m))) after.stamp after.instance n.target_epoch
    z_at = sent_at settles.after (assignment_of b (shown s m)) after.stamp after.instance n.target_epoch is_at

    same_new : new.grants ≡ moved g.grants m (wanted n.target m)
    same_new = ap (λ (t : Group). t.grants) is ∙ moves.0

    is_new : IsNew g q stamp new m (sent_after settles.after (assignment_of b (shown s m)))
    is_new =
        let z = sent_after settles.after (assignment_of b (shown s m)) in
        let last : last_epoch z ≡ n.target_epoch = ap (λ e. last_epoch_at e z) z_at.at in
        record {
          joins = fresh.joins;
          named = named;
          absent = fresh.absent;
          later = fresh.later;
          stamped = z_at.stamped ∙ fresh.stamped;
          epoch = omega (arith, last, risen, drafted.target_epoch);
          gets = λ p there k holds.
              let is_m : k ≡ m = moved_gets g.grants m sound.one_holder (wanted n.target m) p (ap (λ t. has t (m, p)) (sym same_new) ∙ there) k holds in
              true≢false (sym (ap (λ t. has g.grants (t, p)) (sym is_m) ∙ holds) ∙ holds_nothing g sound m fresh.absent p);
          instance = z_at.instanced ∙ fresh.instance;
          settings = first_same q after z fresh.settings (settled_same n m after (reported q) s settles (assignment_of b (shown s m)));
          present = z_at.at ∙ ap At (sym last);
        }

    pub came_new : (k : Text) (y : Record) → finite.get new.records k ≡ Some y → Came g q stamp new k y
    came_new k y there = by_found (found s.records m (sent_after settles.after (assignment_of b (shown s m))) k y (ap (λ (t : Group). finite.get t.records k) (sym is) ∙ there))
      where
        by_found : Found s.records m (sent_after settles.after (assignment_of b (shown s m))) k y → Came g q stamp new k y
        by_found (this is_m is_z) = New (subst₂ (λ (a : Text) (r : Record). IsNew g q stamp new a r) (sym is_m) (sym is_z) is_new)
        by_found (another other apart there) =
            Kept (record {
              before =
                  sym (get-insert_other g.records m after k apart)
                  ∙ ap (λ (t : Records). finite.get t k) (sym (renewed.records ∙ drafted.records))
                  ∙ sym (get-insert_other n.records m settles.after k apart)
                  ∙ ap (λ (t : Records). finite.get t k) (sym settles.records)
                  ∙ there;
              holds = λ p. ap (λ t. has t (k, p)) same_new ∙ moved_other g.grants m (wanted n.target m) k p apart;
            })
