-- A whole heartbeat is a turn, whatever its checks come to.
use Rattle.std.proofs.Common.{◌≡◌, ◌≢◌, ℕ, zero, suc, ◌≤◌, ℤ, pos, negsuc, Bool, true, false, not, ◌&&◌, ◌||◌, if◌then◌else◌, List, [], ◌∷◌, Option, Some, None, is_none, refl, sym, ap, subst, ◌∙◌, inl, inr, true≢false, max, arith}
use Rattle.std.specs.FinMap as finite
use Rattle.std.specs.List.{Contains, list_all, list_any}
use Rattle.std.specs.Option.{MatchOption, option_map}
use Rattle.std.specs.Ordering.{eq_by_cmp}
use Rattle.group_types.specs.declared.code.Code.{Code}
use Rattle.group_types.specs.declared.code.Code.TheVariants as codes
use Rattle.group_types.specs.declared.stamp.Stamp.{Stamp}
use Rattle.group_types.specs.Text.{Text, text_cmp}
use Rattle.group_types.specs.MemberId.{made_id}
use Rattle.group_types.specs.Join.{IsNamed, IsSerial, Name, name_of_serial, record_of_join}
use Rattle.group_types.proofs.Lookups.{not_none, some_is, text_ties}
use Rattle.group_types.proofs.Senders.{named_fresh, named_own, other_is, own_is}
use Rattle.group_types.specs.Request.{Heartbeat, Joins, Beats, Leaves, GoesAway, LEAVES_AT, GOES_AWAY_AT, is_invalid, is_unsupported, kind_of}
use Rattle.group_types.specs.Sets.{nothing}
use Rattle.group_types.specs.declared.epoch.Epoch.{Epoch}
use Rattle.group_types.specs.declared.epoch.Epoch.TheVariants.{At, Away}
use Rattle.group_types.specs.Group.{Past, Record, Records, Group}
use Rattle.group_types.specs.Checks.{Verdict, Accepted, Refused, Overtaken, Member, Sender, sender_of, first_of, checks_of, record_under, other_with, verdict_on, is_away, is_late, is_of_past, is_fenced, is_overtaken, is_unreleased, are_granted}
use Rattle.group_types.specs.HeartbeatStep.{Answer, Arrival, Replied, Closes, Reply, refusal, draft_of_join, draft_under, with_record_at, BeatsWith, ByVerdict, GoesAwayWith, HeartbeatStep, IsRefused, StepOf, StepBy, TakesIn}
use Rattle.group_types.specs.Sound.{IsSound}
use Rattle.world_sim.specs.Turn.{IsLater, IsNamedBy, Seen, Turn}
use Rattle.world_sim.proofs.Turns.{NoSuccess, unavailable, unchanged, replied_is}
use Rattle.world_sim.proofs.Verdicts.{at_again, drafted_at, none_applies, fenced_at, beats, leaves, goes_away, rejoins}
use Rattle.world_sim.proofs.Lists.{In, to_in}
use Rattle.group_core.proofs.Renamings.{instance_given, same_taken_over}
use Rattle.world_sim.proofs.JoinSteps.{takes_heir, takes_new}

-- ---- refusals are no successes

abbrev is_failure : Code → Bool
is_failure codes.NoError = false
is_failure _ = true

abbrev fails : Verdict → Bool
fails Accepted = true
fails (Refused code) = is_failure code
fails Overtaken = true

fails_first : (checks : List (Bool × Verdict)) → list_all (λ c. fails c.1) checks ≡ true → fails (first_of checks) ≡ true
fails_first [] all = refl
fails_first (check ∷ checks) all = by_test (fails_first checks) check.0 (two (fails check.1) (list_all (λ c. fails c.1) checks) all)
  where
    two : (a b : Bool) → (a && b) ≡ true → (a ≡ true) × (b ≡ true)
    two true b so = (refl, so)
    two false b so = absurd (true≢false (sym so))

    by_test : (list_all (λ c. fails c.1) checks ≡ true → fails (first_of checks) ≡ true) → (b : Bool) → (fails check.1 ≡ true) × (list_all (λ c. fails c.1) checks ≡ true)
        → fails (if b then check.1 else first_of checks) ≡ true
    by_test others true both = both.0
    by_test others false both = others both.1

closes : (answer : Answer) → answer ≡ Closes → NoSuccess answer
closes answer is reply said success = true≢false (ap (λ (a : Answer). elim a [ Replied r ↦ true | Closes ↦ false ]) (sym said ∙ is))

refused : (answer : Answer) (code : Code) → is_failure code ≡ true → answer ≡ Replied (refusal code) → NoSuccess answer
refused answer code failure is reply said success =
    let same : refusal code ≡ reply = replied_is (refusal code) reply (sym is ∙ said) in
    true≢false (sym failure ∙ ap (λ (x : Reply). is_failure x.code) same ∙ ap is_failure success)

-- what isn't accepted changes nothing, and what is goes on
by_verdict : (v : Verdict) (Accepts : Answer → Group → Type 0) (g : Group) (q : Heartbeat) (stamp : Stamp) (answer : Answer) (new : Group)
    → fails v ≡ true → (v ≡ Accepted → Accepts answer new → Turn g q stamp answer new) → ByVerdict v Accepts g answer new → Turn g q stamp answer new
by_verdict Accepted Accepts g q stamp answer new failure on step = on refl step
by_verdict (Refused code) Accepts g q stamp answer new failure on step = unchanged g q stamp answer new step.1 (refused answer code failure step.0)
by_verdict Overtaken Accepts g q stamp answer new failure on step = unchanged g q stamp answer new step.1 (closes answer step.0)

abbrev is_given : Text → Bool
is_given [] = false
is_given (c ∷ m) = true

given_of : (records : Records) (m : Text) (r : Record) → record_under records m ≡ Some r → m ≢ []
given_of records [] r is = absurd (not_none r is)
given_of records (c ∷ m) r is = λ empty. true≢false (ap is_given empty)

-- ---- what the past has

or_false : (a b : Bool) → (a || b) ≡ false → (a ≡ false) × (b ≡ false)
or_false true b never = absurd (true≢false never)
or_false false b none = (refl, none)

any_none : {X : Type 0} (test : X → Bool) (xs : List X) (y : X) → list_any test xs ≡ false → In xs y → test y ≡ false
any_none test [] y none there = absurd there
any_none test (x ∷ xs) y none (inl is) = ap test (sym is) ∙ (or_false (test x) (list_any test xs) none).0
any_none test (x ∷ xs) y none (inr there) = any_none test xs y (or_false (test x) (list_any test xs) none).1 there

-- what comes after the stamp of a former member
after_past : (past : Past) (m : Text) (stamp s : Stamp) → is_of_past past m stamp ≡ false → Contains past (m, s) → IsLater stamp s
after_past past m stamp s none there =
    sym (ap (λ b. b && is_late stamp s) (text_ties m))
    ∙ any_none (λ (e : Text × Stamp). eq_by_cmp text_cmp m e.0 && is_late stamp e.1) past (m, s) none (to_in past (m, s) there)

never_past : (past : Past) (m : Text) (s : Stamp) → list_any (λ (e : Text × Stamp). eq_by_cmp text_cmp m e.0) past ≡ false → Contains past (m, s) → ⊥
never_past past m s none there =
    true≢false (sym (text_ties m) ∙ any_none (λ (e : Text × Stamp). eq_by_cmp text_cmp m e.0) past (m, s) none (to_in past (m, s) there))

-- ---- the id of a join

module _ (g : Group) (q : Heartbeat) (stamp : Stamp) where
  named_by : (member : Text) → q.member ≡ member → (name : Name) → IsNamed g member (Some name) → (new : Group) → new.serial ≡ name.next_serial → IsNamedBy g q new name.id
  named_by [] empty name (serial, is_serial, named) new next = by serial is_serial named
    where
      by : (o : Option ℕ) → IsSerial g o → Some name ≡ option_map (name_of_serial g) o → IsNamedBy g q new name.id
      by None none is = absurd (not_none name (sym is))
      by (Some n) is_next is =
          let same : name ≡ name_of_serial g n = some_is name (name_of_serial g n) is in
          inr (
            empty,
            n,
            record {
              made = ap (λ (x : Name). x.id) same;
              from = is_next.from;
              fits = is_next.below;
              next = next ∙ ap (λ (x : Name). x.next_serial) same;
            },
          )
  named_by (c ∷ m) given name named new next =
      let same : name ≡ record { id = c ∷ m; next_serial = g.serial } = some_is name (record { id = c ∷ m; next_serial = g.serial }) named in
      inl (given ∙ sym (ap (λ (x : Name). x.id) same), λ empty. true≢false (ap is_given (sym given ∙ empty)))

  -- serials rise
  next_serial : (member : Text) (name : Name) → IsNamed g member (Some name) → g.serial ≤ name.next_serial
  next_serial [] name (serial, is_serial, named) = by serial is_serial named
    where
      by : (o : Option ℕ) → IsSerial g o → Some name ≡ option_map (name_of_serial g) o → g.serial ≤ name.next_serial
      by None none is = absurd (not_none name (sym is))
      by (Some n) is_next is =
          let same : name.next_serial ≡ suc n = ap (λ (x : Name). x.next_serial) (some_is name (name_of_serial g n) is) in
          let from = is_next.from in
          omega (arith, same, from)
  next_serial (c ∷ m) name named =
      let same : name.next_serial ≡ g.serial = ap (λ (x : Name). x.next_serial) (some_is name (record { id = c ∷ m; next_serial = g.serial }) named) in
      omega (arith, same)

  -- the join comes after all that was seen of its id
  after_former : (member : Text) (name : Name) → IsNamed g member (Some name) → is_of_past g.past member stamp ≡ false
      → (s : Stamp) → Contains g.past (name.id, s) → IsLater stamp s
  after_former [] name (serial, is_serial, named) in_time s past = by serial is_serial named
    where
      by : (o : Option ℕ) → IsSerial g o → Some name ≡ option_map (name_of_serial g) o → IsLater stamp s
      by None none is = absurd (not_none name (sym is))
      by (Some n) is_next is =
          let same : name.id ≡ made_id g.salt n = ap (λ (x : Name). x.id) (some_is name (name_of_serial g n) is) in
          absurd (never_past g.past (made_id g.salt n) s (or_false (finite.contains_key g.records (made_id g.salt n)) _ is_next.fresh).1 (subst (λ (m : Text). Contains g.past (m, s)) same past))
  after_former (c ∷ m) name named in_time s past =
      let same : name.id ≡ c ∷ m = ap (λ (x : Name). x.id) (some_is name (record { id = c ∷ m; next_serial = g.serial }) named) in
      after_past g.past (c ∷ m) stamp s in_time (subst (λ (k : Text). Contains g.past (k, s)) same past)

  comes_after : (member : Text) (name : Name) → IsNamed g member (Some name) → is_of_past g.past member stamp ≡ false → finite.get g.records name.id ≡ None
      → (s : Stamp) → Seen g name.id s → IsLater stamp s
  comes_after member name named in_time absent s (inl (r, there, is)) = absurd (not_none r (sym absent ∙ there))
  comes_after member name named in_time absent s (inr past) = after_former member name named in_time s past

-- an instance that another member has is a given one
away_of : (e : Epoch) → not (is_away e) ≡ false → e ≡ Away
away_of (At e) never = absurd (true≢false never)
away_of Away is = refl

module _ (g : Group) (sound : IsSound g) (a : Arrival) (answer : Answer) (new : Group) where
  abbrev q : Heartbeat
  q = a.heartbeat

  abbrev now : ℕ
  now = max g.clock a.moment

  abbrev TheSender : Sender
  TheSender = sender_of g.records a.heartbeat

  -- ---- a join

  by_sender : q.epoch ≡ pos 0 → (name : Name) → IsNamed g q.member (Some name) → (own : Option Record) (other : Option Member)
      → record_under g.records q.member ≡ own → other_with g.records q.member q.instance ≡ other
      → is_invalid q ≡ false → is_unsupported q ≡ false
      → is_overtaken a.stamp own ≡ false → is_of_past g.past q.member a.stamp ≡ false → is_unreleased own other ≡ false
      → TakesIn g (draft_of_join (record g { serial = name.next_serial }) now name.id own other q a.stamp) q a.image answer new → Turn g q a.stamp answer new
  by_sender joins name named None None none alone valid supported in_time past released takes =
      let fresh = named_fresh g q.member name named none in
      let after = record_of_join None q a.stamp now in
      takes_new g sound q a.stamp name.id after
      (record {
        joins = joins;
        absent = fresh.0;
        later = comes_after g q a.stamp q.member name named past fresh.0;
        stamped = refl;
        at = refl;
        instance = refl;
        settings = record { valid = valid; supported = supported; stored_names = nothing; stored_assignor = None; given = record { names = refl; assignor = refl } };
      })
      (with_record_at (record g { serial = name.next_serial }) now name.id after) a.image answer new
      (drafted_at g sound.target_epoch name.next_serial (next_serial g q a.stamp q.member name named) now name.id after)
      sound.target_epoch (λ n next. named_by g q a.stamp q.member refl name named n next) takes
  by_sender joins name named None (Some old) none is valid supported in_time past released takes =
      let fresh = named_fresh g q.member name named none in
      let there = other_is g.records q.member q.instance old is in
      let given = instance_given g.records q.member q.instance old is in
      let after = record_of_join (Some old.kept) q a.stamp now in
      takes_heir g sound q a.stamp old.id old.kept after name.id
      (record {
        joins = joins;
        absent = fresh.0;
        later = comes_after g q a.stamp q.member name named past fresh.0;
        was = there.0;
        away = away_of old.kept.epoch released;
        given = given.0;
        same_instance = (there.1 ∙ given.1, given.1);
        stamped = refl;
        at = at_again old.kept old.kept.epoch;
        instance = refl;
        settings = record { valid = valid; supported = supported; stored_names = old.kept.names; stored_assignor = old.kept.assignor; given = record { names = refl; assignor = refl } };
      })
      (with_record_at (record g { serial = name.next_serial }) now old.id after) a.image answer new
      (drafted_at g sound.target_epoch name.next_serial (next_serial g q a.stamp q.member name named) now old.id after)
      (λ n next. named_by g q a.stamp q.member refl name named n next)
      ((same_taken_over g sound old name.id there.0 fresh.0 fresh.1 given.0 (there.1 ∙ given.1) after (sym there.1) now name.next_serial q (Some old.kept) answer new a.image).0 takes)
  by_sender joins name named (Some r) other own is valid supported in_time past released takes =
      rejoins g sound q a.stamp (given_of g.records q.member r own) name.next_serial now r other a.image answer new joins
      (next_serial g q a.stamp q.member name named) (own_is g.records q.member r own) in_time
      (subst (λ (m : Text). TakesIn g (draft_of_join (record g { serial = name.next_serial }) now m (Some r) other q a.stamp) q a.image answer new) (named_own g q.member name r named own) takes)

  joins_under : q.epoch ≡ pos 0 → verdict_on Joins TheSender g q a.stamp ≡ Accepted → (name : Option Name) → IsNamed g q.member name
      → MatchOption name (IsRefused codes.CoordinatorNotAvailable g answer new) (λ n. TakesIn g (draft_under n TheSender g a) q a.image answer new) → Turn g q a.stamp answer new
  joins_under joins verdict None named step = unchanged g q a.stamp answer new step.1 (unavailable answer step.0)
  joins_under joins verdict (Some name) named step =
      let (valid, (supported, (on_time, (released, _)))) = none_applies (checks_of Joins TheSender g q a.stamp) refl verdict in
      let (in_time, past) = or_false (is_overtaken a.stamp TheSender.own) (is_of_past g.past q.member a.stamp) on_time in
      by_sender joins name named TheSender.own TheSender.other refl refl valid supported in_time past released step

  join_step : q.epoch ≡ pos 0 → StepBy Joins TheSender g a answer new → Turn g q a.stamp answer new
  join_step joins step =
      by_verdict (verdict_on Joins TheSender g q a.stamp) (StepOf Joins TheSender g a) g q a.stamp answer new
      (fails_first (checks_of Joins TheSender g q a.stamp) refl)
      (λ verdict is. joins_under joins verdict is.name is.is_named is.joins) step

  -- ---- a beat

  beat_step : (n : ℕ) → StepBy (Beats n) TheSender g a answer new → Turn g q a.stamp answer new
  beat_step n step =
      by_verdict (verdict_on (Beats n) TheSender g q a.stamp) (StepOf (Beats n) TheSender g a) g q a.stamp answer new
      (fails_first (checks_of (Beats n) TheSender g q a.stamp) refl)
      (λ verdict is.
      let (_, (_, (_, (in_time, (current, _))))) = none_applies (checks_of (Beats n) TheSender g q a.stamp) refl verdict in
      accepted TheSender.own refl in_time current is) step
    where
      accepted : (own : Option Record) → record_under g.records q.member ≡ own → is_overtaken a.stamp own ≡ false → is_fenced n own (are_granted g.grants q.member q.owned) ≡ false
          → BeatsWith own g a answer new → Turn g q a.stamp answer new
      accepted None is in_time current step = absurd step
      accepted (Some r) is in_time current step =
          let at = fenced_at n r (are_granted g.grants q.member q.owned) current in
          beats g sound q a.stamp (given_of g.records q.member r is) now n at.0 r a.image answer new (own_is g.records q.member r is) in_time at.1 step

  -- ---- one that leaves

  leave_step : q.epoch ≡ LEAVES_AT → StepBy Leaves TheSender g a answer new → Turn g q a.stamp answer new
  leave_step goes step =
      by_verdict (verdict_on Leaves TheSender g q a.stamp) (StepOf Leaves TheSender g a) g q a.stamp answer new
      (fails_first (checks_of Leaves TheSender g q a.stamp) refl)
      (λ verdict is.
      let (_, (there, (in_time, _))) = none_applies (checks_of Leaves TheSender g q a.stamp) refl verdict in
      accepted TheSender.own refl there in_time is) step
    where
      accepted : (own : Option Record) → record_under g.records q.member ≡ own → is_none own ≡ false → is_overtaken a.stamp own ≡ false
          → StepOf Leaves TheSender g a answer new → Turn g q a.stamp answer new
      accepted None is there in_time step = absurd (true≢false there)
      accepted (Some r) is there in_time step =
          leaves g sound q a.stamp (given_of g.records q.member r is) a.moment r answer new goes (own_is g.records q.member r is) in_time step

  -- ---- one that goes away

  away_step : q.epoch ≡ GOES_AWAY_AT → StepBy GoesAway TheSender g a answer new → Turn g q a.stamp answer new
  away_step goes step =
      by_verdict (verdict_on GoesAway TheSender g q a.stamp) (StepOf GoesAway TheSender g a) g q a.stamp answer new
      (fails_first (checks_of GoesAway TheSender g q a.stamp) refl)
      (λ verdict is.
      let (_, (_, (in_time, _))) = none_applies (checks_of GoesAway TheSender g q a.stamp) refl verdict in
      accepted TheSender.own refl in_time is) step
    where
      accepted : (own : Option Record) → record_under g.records q.member ≡ own → is_overtaken a.stamp own ≡ false
          → GoesAwayWith own g a answer new → Turn g q a.stamp answer new
      accepted None is in_time step = absurd step
      accepted (Some r) is in_time step =
          goes_away g sound q a.stamp (given_of g.records q.member r is) a.moment r answer new goes (own_is g.records q.member r is) in_time step

  -- ---- any heartbeat

  at_kind : (e : ℤ) → q.epoch ≡ e → StepBy (kind_of e) TheSender g a answer new → Turn g q a.stamp answer new
  at_kind (pos zero) is step = join_step is step
  at_kind (pos (suc n)) is step = beat_step (suc n) step
  at_kind (negsuc zero) is step = leave_step is step
  at_kind (negsuc (suc zero)) is step = away_step is step
  at_kind (negsuc (suc (suc n))) is step = unchanged g q a.stamp answer new step.1 (refused answer codes.InvalidRequest refl step.0)

  pub heartbeat_turns : HeartbeatStep g a answer new → Turn g a.heartbeat a.stamp answer new
  heartbeat_turns step = at_kind a.heartbeat.epoch refl step
