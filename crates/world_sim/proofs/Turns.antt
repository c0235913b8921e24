-- A heartbeat of a member with a record is a turn of its group: a beat, and a join under its own id.
use Rattle.std.proofs.Common.{◌≡◌, ◌⊎◌, ℕ, ◌<◌, ◌≤◌, ◌==◌, pos, Bool, true, false, ◌&&◌, ◌||◌, if◌then◌else◌, List, Option, Some, refl, sym, ap, subst, subst₂, ◌∙◌, inl, inr, true≢false, arith, le_refl, nat_le}
use Rattle.std.specs.List.{Contains}
use Rattle.std.specs.FinMap as finite
use Rattle.group_types.specs.declared.code.Code.{Code}
use Rattle.group_types.specs.declared.code.Code.TheVariants as codes
use Rattle.group_types.specs.declared.epoch.Epoch.{Epoch}
use Rattle.group_types.specs.declared.epoch.Epoch.TheVariants.{At, Away}
use Rattle.group_types.specs.declared.partition.Partition.{Partition}
use Rattle.group_types.specs.declared.stamp.Stamp.{Stamp}
use Rattle.group_types.specs.Text.{Text}
use Rattle.group_types.specs.Sets.{has}
use Rattle.group_types.specs.Partition.{Partitions}
use Rattle.group_types.specs.Topics.{Topics}
use Rattle.group_types.specs.Request.{Heartbeat, is_full, reported}
use Rattle.group_types.specs.Group.{Record, Records, Group}
use Rattle.group_types.specs.Settle.{settled}
use Rattle.group_types.specs.Checks.{Accepted, Refused, is_away}
use Rattle.group_types.specs.HeartbeatStep.{Answer, Replied, Closes, Reply, refusal, Draft, shown, is_news, assignment_of, sent_after, epoch_number, acceptance, Stages, ByVerdict, TakesIn}
use Rattle.group_types.specs.Renewal.{changed_if, view_for}
use Rattle.group_types.specs.Limits.{GREATEST_EPOCH}
use Rattle.group_types.specs.Leave.{last_epoch, last_epoch_at}
use Rattle.group_types.specs.Sound.{IsSound}
use Rattle.world_sim.specs.Turn.{Names, Holds, IsLater, IsGiven, HasActed, Came, Kept, Acted, Promises, WasPast, Turn}
use Rattle.group_types.proofs.Lookups.{found, Found, this, another, get-inserted, get-insert_other}
use Rattle.world_sim.proofs.Stages.{shows_held, IsAtEpoch, sent_at, settled_same, given_same, IsRenewed, renewed_by, HasSettled, has_settled, told_by}
use Rattle.world_sim.proofs.Acts.{IsDrafted, Acts, acts}

-- ---- a heartbeat that is refused, or overtaken

abbrev pub NoSuccess : Answer → Type 0
NoSuccess answer = (reply : Reply) → answer ≡ Replied reply → reply.code ≡ codes.NoError → ⊥

pub unchanged : (g : Group) (q : Heartbeat) (stamp : Stamp) (answer : Answer) (new : Group) → new ≡ g → NoSuccess answer → Turn g q stamp answer new
unchanged g q stamp answer new same fails =
    record {
      salt = ap (λ x. x.salt) same;
      serial = subst (λ (x : Group). g.serial ≤ x.serial) (sym same) (le_refl g.serial);
      target_epoch = subst (λ (x : Group). g.target_epoch ≤ x.target_epoch) (sym same) (le_refl g.target_epoch);
      came = λ m r is. Kept (record {
        before = ap (λ (x : Group). finite.get x.records m) (sym same) ∙ is;
        holds = λ p. ap (λ (x : Group). has x.grants (m, p)) same;
      });
      went = λ m s there. WasPast (subst (λ (x : Group). Contains x.past (m, s)) same there);
      replies = λ reply is success join. absurd (fails reply is success);
    }

reply_of : Answer → Reply → Reply
reply_of (Replied reply) other = reply
reply_of Closes other = other

pub replied_is : (a b : Reply) → Replied a ≡ Replied b → a ≡ b
unfolding reply_of
replied_is a b is = ap (λ (x : Answer). reply_of x a) is

abbrev is_unavailable : Code → Bool
is_unavailable codes.CoordinatorNotAvailable = true
is_unavailable _ = false

pub unavailable : (answer : Answer) → answer ≡ Replied (refusal codes.CoordinatorNotAvailable) → NoSuccess answer
unavailable answer is reply said success =
    let same : refusal codes.CoordinatorNotAvailable ≡ reply = replied_is (refusal codes.CoordinatorNotAvailable) reply (sym is ∙ said) in
    true≢false (ap (λ (x : Reply). is_unavailable x.code) same ∙ ap is_unavailable success)

-- ---- the draft of a member that has a record

abbrev pub own_draft : Group → Text → Record → Record → Draft
own_draft c m r after = record { group = c; id = m; before = Some r; after = after }

not_away : (e : Epoch) (n : ℕ) → e ≡ At n → e ≡ Away → ⊥
not_away e n at away = true≢false (sym (ap is_away (sym at ∙ away)))

-- what is known of the member, its heartbeat and its draft
pub record IsOwn (g : Group) (q : Heartbeat) (stamp : Stamp) (m : Text) (r after : Record) (e : ℕ) : Type 0 where
  pub named : Names q m
  pub was : finite.get g.records m ≡ Some r
  pub later : IsLater stamp r.stamp
  pub stamped : after.stamp ≡ stamp
  pub last : last_epoch r ≡ e
  pub at : after.epoch ≡ At e
  pub instance : (after.instance ≡ r.instance) ⊎ ((q.epoch ≡ pos 0) × (after.instance ≡ q.instance))
  pub settings : IsGiven q r.names r.assignor after

module _ (g : Group) (sound : IsSound g) (q : Heartbeat) (stamp : Stamp) (m : Text) (r after : Record) (e : ℕ) (own : IsOwn g q stamp m r after e) where
  -- the reply is given, and the assignment that it has is remembered
  module _ (c n s : Group) (drafted : IsDrafted g m after c) (renewed : IsRenewed c n) (settles : HasSettled n m after (reported q) s) where
    abbrev x : Record
    x = settles.after

    act : Acts g m e (reported q) after.stamp after.instance x s
    act = acts g sound m r after e c n s (reported q) own.was own.last own.at drafted renewed settles

    said : (assignment : Option Partitions) → IsAtEpoch (sent_after x assignment) after.stamp after.instance act.epoch
    said assignment = sent_at x assignment after.stamp after.instance act.epoch act.is

    has_acted : (assignment : Option Partitions) (new : Group) → new.grants ≡ s.grants → HasActed g q stamp new m (sent_after x assignment)
    has_acted assignment new same =
        let z = sent_after x assignment in
        let is = said assignment in
        let last : last_epoch z ≡ act.epoch = ap (λ e. last_epoch_at e z) is.at in
        record {
          named = own.named;
          before = r;
          was = own.was;
          later = own.later;
          stamped = is.stamped ∙ own.stamped;
          epoch = by_rise act.rises last;
          rises = rises act.rises last;
          keeps = λ p reports holds. ap (λ y. has y (m, p)) same ∙ act.reported p reports holds;
          gets = λ p there. act.gets p (ap (λ y. has y (m, p)) (sym same) ∙ there);
          instance = by_instance is.instanced own.instance;
          settings = inl (given_same q r.names r.assignor after z own.settings (settled_same n m after (reported q) s settles assignment));
          away = λ away. absurd (not_away z.epoch act.epoch is.at away);
        }
      where
        by_rise : ((e < act.epoch) ⊎ ((act.epoch ≡ e) × ((p : Partition) → Holds g.grants m p → Holds s.grants m p)))
            → last_epoch (sent_after x assignment) ≡ act.epoch → last_epoch r ≤ last_epoch (sent_after x assignment)
        by_rise (inl risen) last = omega (arith, risen, last, own.last)
        by_rise (inr kept) last = omega (arith, kept.0, last, own.last)

        rises : ((e < act.epoch) ⊎ ((act.epoch ≡ e) × ((p : Partition) → Holds g.grants m p → Holds s.grants m p)))
            → last_epoch (sent_after x assignment) ≡ act.epoch
            → (last_epoch r < last_epoch (sent_after x assignment)) ⊎ ((p : Partition) → Holds g.grants m p → Holds new.grants m p)
        rises (inl risen) last = inl (omega (arith, risen, last, own.last))
        rises (inr kept) last = inr (λ p holds. ap (λ y. has y (m, p)) same ∙ kept.1 p holds)

        by_instance : (sent_after x assignment).instance ≡ after.instance → ((after.instance ≡ r.instance) ⊎ ((q.epoch ≡ pos 0) × (after.instance ≡ q.instance)))
            → ((sent_after x assignment).instance ≡ r.instance) ⊎ ((q.epoch ≡ pos 0) × ((sent_after x assignment).instance ≡ q.instance))
        by_instance is (inl kept) = inl (is ∙ kept)
        by_instance is (inr joins) = inr (joins.0, is ∙ joins.1)

    came : (assignment : Option Partitions) (new : Group) → new.grants ≡ s.grants → new.records ≡ finite.insert s.records m (sent_after x assignment)
        → (k : Text) (y : Record) → finite.get new.records k ≡ Some y → Came g q stamp new k y
    came assignment new same records k y is = by_found (found s.records m (sent_after x assignment) k y (ap (λ (t : Records). finite.get t k) (sym records) ∙ is))
      where
        by_found : Found s.records m (sent_after x assignment) k y → Came g q stamp new k y
        by_found (this is_m is_z) =
            Acted (subst₂ (λ (a : Text) (b : Record). HasActed g q stamp new a b) (sym is_m) (sym is_z) (has_acted assignment new same))
        by_found (another other apart there) =
            Kept (record {
              before =
                  sym (get-insert_other g.records m after k apart)
                  ∙ ap (λ (t : Records). finite.get t k) (sym (renewed.records ∙ drafted.records))
                  ∙ sym (get-insert_other n.records m x k apart)
                  ∙ ap (λ (t : Records). finite.get t k) (sym settles.records)
                  ∙ there;
              holds = λ p. ap (λ t. has t (k, p)) same ∙ act.others k p apart;
            })

    promises : (b : Bool) (new : Group) → new.grants ≡ s.grants → new.records ≡ finite.insert s.records m (sent_after x (assignment_of b (shown s m)))
        → Promises q stamp new (acceptance m x (assignment_of b (shown s m)))
    promises b new same records =
        let assignment = assignment_of b (shown s m) in
        let is = said assignment in
        record {
          id = m;
          is_id = refl;
          named = λ given. sym own.named.0;
          after = sent_after x assignment;
          has_record = ap (λ (t : Records). finite.get t m) records ∙ get-inserted s.records m (sent_after x assignment);
          stamped = is.stamped ∙ own.stamped;
          number = act.epoch;
          at = is.at;
          said = ap epoch_number act.is.at;
          shows = λ set p there has_p. ap (λ t. has t (m, p)) same ∙ shows_held s m b set p there has_p;
        }

    abbrev sent_to : Bool → Group
    sent_to b = record s { records = finite.insert s.records m (sent_after x (assignment_of b (shown s m))) }

    replied : (b : Bool) (answer : Answer) (new : Group) → answer ≡ Replied (acceptance m x (assignment_of b (shown s m))) → new ≡ sent_to b → Turn g q stamp answer new
    replied b answer new answers is =
        let same : new.grants ≡ s.grants = ap (λ (t : Group). t.grants) is in
        let records : new.records ≡ finite.insert s.records m (sent_after x (assignment_of b (shown s m))) = ap (λ (t : Group). t.records) is in
        record {
          salt = ap (λ (t : Group). t.salt) is ∙ settles.salt ∙ renewed.salt ∙ drafted.salt;
          serial = subst (λ t. g.serial ≤ t) (sym (ap (λ (t : Group). t.serial) is ∙ settles.serial ∙ renewed.serial)) drafted.serial;
          target_epoch = rising renewed.target (ap (λ (t : Group). t.target_epoch) is ∙ settles.target_epoch);
          came = came (assignment_of b (shown s m)) new same records;
          went = λ k t there. WasPast (drafted.past k t (subst (λ (l : List (Text × Stamp)). Contains l (k, t)) (ap (λ (t : Group). t.past) is ∙ settles.past ∙ renewed.past) there));
          replies = λ reply said success join.
              subst (λ (t : Reply). Promises q stamp new t) (replied_is (acceptance m x (assignment_of b (shown s m))) reply (sym answers ∙ said)) (promises b new same records);
        }
      where
        rising : (c.target_epoch < n.target_epoch) ⊎ ((n.target_epoch ≡ c.target_epoch) × (n.target ≡ c.target)) → new.target_epoch ≡ n.target_epoch → g.target_epoch ≤ new.target_epoch
        rising (inl risen) epoch = omega (arith, risen, epoch, drafted.target_epoch)
        rising (inr same) epoch = omega (arith, same.0, epoch, drafted.target_epoch)

  goes_on : (c d : Group) (answer : Answer) (new : Group) → IsDrafted g m after c → Stages c (own_draft d m r after) q answer new → Turn g q stamp answer new
  goes_on c d answer new drafted on =
      let n = on.renewed in
      let renewed = renewed_by (c.epoch == c.target_epoch) c n drafted.epoch refl on.renews in
      let there : finite.get n.records m ≡ Some after = ap (λ (t : Records). finite.get t m) (renewed.records ∙ drafted.records) ∙ get-inserted g.records m after in
      let s : Group = settled n m (reported q) n.clock in
      let settles = has_settled n m after (reported q) n.clock there in
      let told = told_by c (own_draft d m r after) q answer new on settles.after (ap (λ (t : Records). finite.get t m) settles.records ∙ get-inserted n.records m settles.after) in
      replied c n s drafted renewed settles (is_full q || is_news settles.after.sent (shown s m)) answer new told.answers told.leaves

  by_verdict : (b : Bool) (c d : Group) (answer : Answer) (new : Group) → IsDrafted g m after c
      → ByVerdict (if b then Refused codes.CoordinatorNotAvailable else Accepted) (Stages c (own_draft d m r after) q) g answer new → Turn g q stamp answer new
  by_verdict true c d answer new drafted step = unchanged g q stamp answer new step.1 (unavailable answer step.0)
  by_verdict false c d answer new drafted step = goes_on c d answer new drafted step

  drafted_if : (change : Bool) (c : Group) (view : Topics) → IsDrafted g m after c → IsDrafted g m after (changed_if change c view)
  drafted_if true c view is =
      record { records = is.records; grants = is.grants; target = is.target; target_epoch = is.target_epoch; salt = is.salt; epoch = omega (arith, is.epoch); serial = is.serial; past = is.past }
  drafted_if false c view is = is

  -- whatever the change and the renewal are, it is a turn
  pub takes_in : (d : Group) (image : Topics) (answer : Answer) (new : Group) → IsDrafted g m after d → TakesIn g (own_draft d m r after) q image answer new → Turn g q stamp answer new
  takes_in d image answer new drafted takes =
      by_verdict (takes.change && nat_le GREATEST_EPOCH g.epoch) (changed_if takes.change d (view_for image d.records)) d answer new (drafted_if takes.change d (view_for image d.records) drafted) takes.step
