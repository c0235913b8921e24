-- What an accepted heartbeat's checks have shown, and the turn of a beat and of a join under one's own id.
use Rattle.std.proofs.Common.{◌≡◌, ◌≢◌, ◌⊎◌, ℕ, ◌≤◌, ℤ, pos, Bool, true, false, cond, not, ◌&&◌, if◌then◌else◌, List, [], ◌∷◌, ◌++◌, Option, Some, None, refl, sym, ap, subst, ◌∙◌, inl, inr, true≢false, le_refl, max, int_le, is_some, subst₂}
use Rattle.std.specs.List.{Contains, list_all}
use Rattle.std.specs.Ordering.{eq_by_cmp}
use Rattle.std.specs.FinMap as finite
use Rattle.std.specs.Cmp.{eq_by_cmp_equiv}
use Rattle.group_types.specs.declared.epoch.Epoch.{Epoch}
use Rattle.group_types.specs.declared.epoch.Epoch.TheVariants.{At, Away}
use Rattle.group_types.specs.declared.stamp.Stamp.{Stamp}
use Rattle.group_types.specs.Text.{Text, text_cmp}
use Rattle.group_types.specs.Sets.{has}
use Rattle.group_types.specs.Topics.{Topics}
use Rattle.group_types.specs.Request.{Heartbeat, LEAVES_AT, GOES_AWAY_AT}
use Rattle.group_types.specs.Group.{Record, Past, Group}
use Rattle.group_types.specs.Join.{record_of_beat, record_of_join, returned_epoch}
use Rattle.group_types.specs.Members.{remembering, without_past}
use Rattle.group_types.proofs.Orders.{text_cmp_total}
use Rattle.group_types.specs.Checks.{Verdict, Accepted, Refused, Overtaken, Member, first_of, is_current, is_fenced}
use Rattle.group_types.specs.HeartbeatStep.{Answer, Replied, Reply, farewell, draft_of_beat, draft_of_join, with_record_at, TakesIn}
use Rattle.group_types.specs.Leave.{last_epoch, last_epoch_at}
use Rattle.group_types.specs.Sound.{IsSound}
use Rattle.world_sim.specs.Turn.{HasActed, Came, Kept, Acted, IsLater, Went, WasPast, Left, Turn}
use Rattle.world_sim.proofs.Lists.{to_in, from_in, in_filter, in_append, in_drop, In}
use Rattle.group_types.specs.Leave.{left, gone_away, away}
use Rattle.group_types.proofs.Lookups.{found, Found, this, another, text_ties, tie, Tie, ties, differs}
use Rattle.group_types.proofs.GrantLemmas.{has-others}
use Rattle.world_sim.proofs.Acts.{IsDrafted}
use Rattle.world_sim.proofs.Turns.{takes_in, replied_is}

-- ---- checks that were passed

abbrev pub is_accepted : Verdict → Bool
is_accepted Accepted = true
is_accepted (Refused code) = false
is_accepted Overtaken = false

-- the first check of a list that was passed whole doesn't apply, and the others were passed
pub passed : (check : Bool × Verdict) (checks : List (Bool × Verdict)) → is_accepted check.1 ≡ false → first_of (check ∷ checks) ≡ Accepted → (check.0 ≡ false) × (first_of checks ≡ Accepted)
passed check checks stops accepted = by_test check.0 refl accepted
  where
    by_test : (b : Bool) → check.0 ≡ b → (if b then check.1 else first_of checks) ≡ Accepted → (check.0 ≡ false) × (first_of checks ≡ Accepted)
    by_test true is accepted = absurd (true≢false (sym (ap is_accepted accepted) ∙ stops))
    by_test false is accepted = (is, accepted)

-- no check of a list applies
abbrev pub NoneApplies : List (Bool × Verdict) → Type 0
NoneApplies [] = Unit {0}
NoneApplies (check ∷ checks) = (check.0 ≡ false) × NoneApplies checks

pub none_applies : (checks : List (Bool × Verdict)) → list_all (λ c. not (is_accepted c.1)) checks ≡ true → first_of checks ≡ Accepted → NoneApplies checks
none_applies [] stops accepted = tt
none_applies (check ∷ checks) stops accepted =
    let both = two (is_accepted check.1) (list_all (λ c. not (is_accepted c.1)) checks) stops in
    let first = passed check checks both.0 accepted in
    (first.0, none_applies checks both.1 first.1)
  where
    two : (a b : Bool) → (not a && b) ≡ true → (a ≡ false) × (b ≡ true)
    two true b so = absurd (true≢false (sym so))
    two false b so = (refl, so)

-- a member that is current isn't away
pub current_at : (n : ℕ) (e : Epoch) (previous : ℕ) (granted : Bool) → is_current n e previous granted ≡ true → (k : ℕ) × (e ≡ At k)
current_at n Away previous granted is = absurd (true≢false (sym is))
current_at n (At k) previous granted is = (k, refl)

pub fenced_at : (n : ℕ) (r : Record) (granted : Bool) → is_fenced n (Some r) granted ≡ false → (k : ℕ) × (r.epoch ≡ At k)
fenced_at n r granted is = current_at n r.epoch r.previous_epoch granted (positive (is_current n r.epoch r.previous_epoch granted) is)
  where
    positive : (b : Bool) → not b ≡ false → b ≡ true
    positive true is = refl
    positive false is = sym is

-- ---- the past

pub without_past-contains : (past : Past) (m : Text) (e : Text × Stamp) → Contains (without_past past m) e → Contains past e
without_past-contains past m e there =
    from_in past e ((in_filter (λ (x : Text × Stamp). not (eq_by_cmp text_cmp m x.0)) past e (to_in (without_past past m) e there)).0)

-- the past after one more id is remembered
pub remembers : (past : Past) (m k : Text) (last s : Stamp) → Contains (remembering past m last) (k, s) → Contains past (k, s) ⊎ ((m ≡ k) × (last ≡ s))
remembers past m k last s there =
    by_part (in_append past ((m, last) ∷ []) (k, s) (in_drop _ (past ++ (m, last) ∷ []) (k, s) (to_in (remembering past m last) (k, s) there)))
  where
    by_part : In past (k, s) ⊎ In {X = Text × Stamp} ((m, last) ∷ []) (k, s) → Contains past (k, s) ⊎ ((m ≡ k) × (last ≡ s))
    by_part (inl old) = inl (from_in past (k, s) old)
    by_part (inr (inl is)) = inr (ap (λ e. e.0) is, ap (λ e. e.1) is)
    by_part (inr (inr never)) = absurd never

-- ---- a draft: the record is put in, and perhaps a serial is used up

pub drafted_at : (g : Group) → g.target_epoch ≤ g.epoch → (serial : ℕ) → g.serial ≤ serial → (now : ℕ) (m : Text) (after : Record)
    → IsDrafted g m after (with_record_at (record g { serial = serial }) now m after)
drafted_at g below serial rising now m after =
    record {
      records = refl;
      grants = refl;
      target = refl;
      target_epoch = refl;
      salt = refl;
      epoch = below;
      serial = rising;
      past = λ k s there. without_past-contains g.past m (k, s) there;
    }

-- ---- a member that was away

pub at_again : (r : Record) (e : Epoch) → returned_epoch e r.previous_epoch ≡ At (last_epoch_at e r)
at_again r (At k) = refl
at_again r Away = refl

-- a farewell at a negative epoch says no epoch of 0 or more
negative : (m : Text) (epoch : ℤ) (reply : Reply) → int_le (pos 0) epoch ≡ false → farewell m epoch ≡ reply → int_le (pos 0) reply.epoch ≡ true → ⊥
negative m epoch reply below same join = true≢false (sym join ∙ ap (λ (x : Reply). int_le (pos 0) x.epoch) (sym same) ∙ below)

-- ---- a beat

module _ (g : Group) (sound : IsSound g) (q : Heartbeat) (stamp : Stamp) (given : q.member ≢ []) where
  pub beats : (now n k : ℕ) (r : Record) (image : Topics) (answer : Answer) (new : Group) → finite.get g.records q.member ≡ Some r → IsLater stamp r.stamp → r.epoch ≡ At k
      → TakesIn g (draft_of_beat g now r q stamp) q image answer new → Turn g q stamp answer new
  beats now n k r image answer new was later at takes =
      let after = record_of_beat r q stamp now in
      takes_in g sound q stamp q.member r after k
      (record {
        named = (refl, given);
        was = was;
        later = later;
        stamped = refl;
        last = ap (λ e. last_epoch_at e r) at;
        at = at;
        instance = inl refl;
        settings = record { names = refl; assignor = refl };
      })
      (with_record_at g now q.member after) image answer new
      (drafted_at g sound.target_epoch g.serial (le_refl g.serial) now q.member after)
      takes

  -- ---- a join under an id with a record

  pub rejoins : (serial now : ℕ) (r : Record) (other : Option Member) (image : Topics) (answer : Answer) (new : Group) → q.epoch ≡ pos 0
      → g.serial ≤ serial → finite.get g.records q.member ≡ Some r → IsLater stamp r.stamp
      → TakesIn g (draft_of_join (record g { serial = serial }) now q.member (Some r) other q stamp) q image answer new → Turn g q stamp answer new
  rejoins serial now r other image answer new joins rising was later takes =
      let after = record_of_join (Some r) q stamp now in
      takes_in g sound q stamp q.member r after (last_epoch r)
      (record {
        named = (refl, given);
        was = was;
        later = later;
        stamped = refl;
        last = refl;
        at = at_again r r.epoch;
        instance = inr (joins, refl);
        settings = record { names = refl; assignor = refl };
      })
      (with_record_at (record g { serial = serial }) now q.member after) image answer new
      (drafted_at g sound.target_epoch serial rising now q.member after)
      takes

  -- ---- a member that leaves, and one that goes away for a while

  pub leaves : (moment : ℕ) (r : Record) (answer : Answer) (new : Group) → q.epoch ≡ LEAVES_AT
      → finite.get g.records q.member ≡ Some r → IsLater stamp r.stamp
      → (answer ≡ Replied (farewell q.member LEAVES_AT)) × (new ≡ left g q.member stamp moment) → Turn g q stamp answer new
  leaves moment r answer new goes was later (answers, is) =
      record {
        salt = ap (λ (x : Group). x.salt) is;
        serial = subst (λ (x : Group). g.serial ≤ x.serial) (sym is) (le_refl g.serial);
        target_epoch = subst (λ (x : Group). g.target_epoch ≤ x.target_epoch) (sym is) (le_refl g.target_epoch);
        came = λ k x there. by_tie k x (ap (λ (y : Group). finite.get y.records k) (sym is) ∙ there) (tie k q.member);
        went = λ k s there. by_past k s (remembers g.past q.member k stamp s (subst (λ (y : Group). Contains y.past (k, s)) is there));
        replies = λ reply said success join. absurd (negative q.member LEAVES_AT reply refl (replied_is (farewell q.member LEAVES_AT) reply (sym answers ∙ said)) join);
      }
    where
      by_past : (k : Text) (s : Stamp) → Contains g.past (k, s) ⊎ ((q.member ≡ k) × (stamp ≡ s)) → Went g q stamp k s
      by_past k s (inl old) = WasPast old
      by_past k s (inr (same, last)) = Left goes (same, given) (sym last) r (ap (finite.get g.records) (sym same) ∙ was) later

      by_tie : (k : Text) (x : Record) → finite.get (finite.remove g.records q.member) k ≡ Some x → Tie k q.member → Came g q stamp new k x
      by_tie k x there (ties same) =
          absurd (true≢false (sym (ap is_some there) ∙ ap is_some (finite.get-remove text_cmp_total g.records q.member k ∙ ap (λ b. cond b None (finite.get g.records k)) (ap (λ y. eq_by_cmp text_cmp y q.member) same ∙ text_ties q.member))))
      by_tie k x there (differs other apart) =
          Kept (record {
            before = sym (finite.get-remove text_cmp_total g.records q.member k ∙ ap (λ b. cond b None (finite.get g.records k)) apart) ∙ there;
            holds = λ p.
                ap (λ (y : Group). has y.grants (k, p)) is ∙ has-others g.grants q.member k p
                ∙ ap (λ b. not b && has g.grants (k, p)) ((eq_by_cmp_equiv text_cmp_total).symm q.member k ∙ apart);
          })

  pub goes_away : (moment : ℕ) (r : Record) (answer : Answer) (new : Group) → q.epoch ≡ GOES_AWAY_AT
      → finite.get g.records q.member ≡ Some r → IsLater stamp r.stamp
      → (answer ≡ Replied (farewell q.member GOES_AWAY_AT)) × (new ≡ gone_away g q.member r stamp moment) → Turn g q stamp answer new
  goes_away moment r answer new goes was later (answers, is) =
      let now = max g.clock moment in
      record {
        salt = ap (λ (x : Group). x.salt) is;
        serial = subst (λ (x : Group). g.serial ≤ x.serial) (sym is) (le_refl g.serial);
        target_epoch = subst (λ (x : Group). g.target_epoch ≤ x.target_epoch) (sym is) (le_refl g.target_epoch);
        came = λ k x there. by_found k x (found g.records q.member (away r stamp now) k x (ap (λ (y : Group). finite.get y.records k) (sym is) ∙ there));
        went = λ k s there. WasPast (subst (λ (y : Group). Contains y.past (k, s)) is there);
        replies = λ reply said success join. absurd (negative q.member GOES_AWAY_AT reply refl (replied_is (farewell q.member GOES_AWAY_AT) reply (sym answers ∙ said)) join);
      }
    where
      same : new.grants ≡ g.grants
      same = ap (λ (y : Group). y.grants) is

      acted : HasActed g q stamp new q.member (away r stamp (max g.clock moment))
      acted =
          record {
            named = (refl, given);
            before = r;
            was = was;
            later = later;
            stamped = refl;
            epoch = le_refl (last_epoch r);
            rises = inr (λ p holds. ap (λ y. has y (q.member, p)) same ∙ holds);
            keeps = λ p reported holds. ap (λ y. has y (q.member, p)) same ∙ holds;
            gets = λ p there n holds. sound.one_holder n q.member p holds (ap (λ y. has y (q.member, p)) (sym same) ∙ there);
            instance = inl refl;
            settings = inr (refl, refl);
            away = λ away. goes;
          }

      by_found : (k : Text) (x : Record) → Found g.records q.member (away r stamp (max g.clock moment)) k x → Came g q stamp new k x
      by_found k x (this is_m is_z) = Acted (subst₂ (λ (a : Text) (b : Record). HasActed g q stamp new a b) (sym is_m) (sym is_z) acted)
      by_found k x (another other apart there) = Kept (record { before = there; holds = λ p. ap (λ y. has y (k, p)) same })
