-- How long a former member is remembered.
use Rattle.std.proofs.Common.{◌≡◌, ◌≢◌, ℕ, zero, suc, ◌+◌, ◌≤◌, Bool, true, false, cond, not, List, [], ◌∷◌, ◌++◌, length, drop, Some, None, refl, sym, ap, subst, ◌∙◌, arith, length-append, true≢false}
use Rattle.std.specs.Ordering.{eq_by_cmp}
use Rattle.std.specs.FinMap as finite
use Rattle.std.proofs.lemmas.List.{drop-append-le}
use Rattle.group_types.specs.Limits.{MOST_PAST_MEMBERS}
use Rattle.group_types.specs.declared.stamp.Stamp.{Stamp}
use Rattle.group_types.specs.Text.{Text, text_cmp}
use Rattle.group_types.specs.Group.{Past, Record, Records, Group}
use Rattle.group_types.specs.Leave.{risen, without_member}
use Rattle.group_types.specs.Members.{past_stamp, remembering, without_past}
use Rattle.group_types.specs.Request.{Heartbeat}
use Rattle.group_types.specs.Sound.{IsPast, IsSound}
use Rattle.group_types.specs.Tick.{at_moment, due, expired, without_members}
use Rattle.group_types.specs.HeartbeatStep.{Answer, Arrival, HeartbeatStep, handed_over, sent_after}
use Rattle.group_types.proofs.Consistent.{consistent}
use Rattle.group_types.proofs.Lookups.{Tie, ties, differs, tie, text_ties, no_tie, not_none, get-inserted}
use Rattle.group_types.proofs.PastLemmas.{few_without, first_differs, stamp_without}
use Rattle.group_types.proofs.Remembered.{Stays, is_remembered_now, remembers_more, stamp_without_other}
use Rattle.group_types.proofs.Accepted.{Came, unchanged, has_left, went_away, taken_in, came, Whose, its_own, newcomer, takes_over, after, news, offered}
use Rattle.machine_laws.specs.Former.{FormerMembersStay, HasLeft}

none_dropped : (i : ℕ) (past : Past) (m : Text) → past_stamp past m ≡ None → past_stamp (drop i past) m ≡ None
none_dropped zero past m none = none
none_dropped (suc i) [] m none = none
none_dropped (suc i) (e ∷ past) m none = none_dropped i past m (first_differs past e m none).1

-- ---- the id in the list

module _ (m : Text) (last : Stamp) (since : Past) where
  abbrev Listed : Past → Past
  Listed earlier = earlier ++ (m, last) ∷ since

  is_found : (earlier : Past) → past_stamp earlier m ≡ None → past_stamp (Listed earlier) m ≡ Some last
  is_found [] none = ap (λ b. cond b (Some last) (past_stamp since m)) (text_ties m)
  is_found (e ∷ earlier) none =
      let there = first_differs earlier e m none in
      ap (λ b. cond b (Some e.1) (past_stamp (Listed earlier) m)) there.0 ∙ is_found earlier there.1

  is_there : (earlier : Past) → past_stamp (Listed earlier) m ≢ None
  is_there [] never = true≢false (sym (text_ties m) ∙ (first_differs since (m, last) m never).0)
  is_there (e ∷ earlier) never = is_there earlier (first_differs (Listed earlier) e m never).1

  stands_once : (records : Records) (earlier : Past) → IsPast records (Listed earlier) → past_stamp earlier m ≡ None
  stands_once records [] is = refl
  stands_once records (e ∷ earlier) is = by (stands_once records earlier is.3) (tie m e.0)
    where
      by : past_stamp earlier m ≡ None → Tie m e.0 → past_stamp (e ∷ earlier) m ≡ None
      by rest (ties same) = absurd (is_there earlier (ap (past_stamp (Listed earlier)) same ∙ is.2))
      by rest (differs other apart) = ap (λ b. cond b (Some e.1) (past_stamp earlier m)) apart ∙ rest

  stays : (earlier : Past) → past_stamp earlier m ≡ None → Stays (Listed earlier) m last (suc (length since))
  stays earlier none =
      let long = length-append earlier ((m, last) ∷ since) in
      record {
        enough = omega (arith, long);
        found = λ j few.
            ap (λ past. past_stamp past m) (drop-append-le j earlier ((m, last) ∷ since) (omega (arith, long, few)))
            ∙ is_found (drop j earlier) (none_dropped j earlier m none);
      }

-- another id is taken out of the list
without_other : (m k : Text) (last : Stamp) (earlier since : Past) → m ≢ k
    → without_past (earlier ++ (m, last) ∷ since) k ≡ without_past earlier k ++ (m, last) ∷ without_past since k
without_other m k last [] since other =
    ap (λ b. cond (not b) ((m, last) ∷ without_past since k) (without_past since k)) (no_tie k m (λ same. other (sym same)))
without_other m k last (e ∷ earlier) since other = by (without_other m k last earlier since other) (eq_by_cmp text_cmp k e.0)
  where
    by : without_past (earlier ++ (m, last) ∷ since) k ≡ without_past earlier k ++ (m, last) ∷ without_past since k → (b : Bool)
        → cond (not b) (e ∷ without_past (earlier ++ (m, last) ∷ since) k) (without_past (earlier ++ (m, last) ∷ since) k)
        ≡ cond (not b) (e ∷ without_past earlier k) (without_past earlier k) ++ (m, last) ∷ without_past since k
    by rest true = rest
    by rest false = ap (λ past. e ∷ past) rest

-- ---- a heartbeat

module _ (g : Group) (a : Arrival) (m : Text) (last : Stamp) (since earlier : Past)
    (is_past : g.past ≡ earlier ++ (m, last) ∷ since) (once : past_stamp earlier m ≡ None) (room : length since + 2 ≤ 4096) where
  stays_now : Stays g.past m last (suc (length since))
  stays_now = subst (λ past. Stays past m last (suc (length since))) (sym is_past) (stays m last since earlier once)

  still : past_stamp g.past m ≡ Some last
  still = is_remembered_now g.past m last (suc (length since)) stays_now

  -- behind whoever leaves now
  still_behind : (past younger : Past) (k : Text) (t : Stamp) → Stays past m last (suc (length younger)) → length younger ≤ length since
      → past_stamp (remembering past k t) m ≡ Some last
  still_behind past younger k t is few =
      is_remembered_now (remembering past k t) m last (suc (suc (length younger)))
      (remembers_more past m last (suc (length younger)) k t (omega (arith, room, few)) is)

  in_base : (d : _) (base : Group) → m ≢ Rattle.group_types.specs.HeartbeatStep.Draft.id d → Whose g base a.heartbeat d → past_stamp base.past m ≡ Some last
  in_base d base other (its_own r same id there epoch sent release) = ap (λ (x : Group). past_stamp x.past m) same ∙ still
  in_base d base other (newcomer same absent reports full) = ap (λ (x : Group). past_stamp x.past m) same ∙ still
  in_base d base other (takes_over old same there absent away instance reports full) =
      ap (λ (x : Group). past_stamp x.past m) same
      ∙ ap (λ past. past_stamp (remembering past old.id old.kept.stamp) m) (ap (λ past. without_past past d.id) is_past ∙ without_other m d.id last earlier since other)
      ∙ still_behind (without_past earlier d.id ++ (m, last) ∷ without_past since d.id) (without_past since d.id) old.id old.kept.stamp
      (stays m last (without_past since d.id) (without_past earlier d.id) (stamp_without earlier d.id m once))
      (few_without since d.id)

  heartbeat : (answer : Answer) (new : Group) → Came g a answer new → finite.get new.records m ≡ None → past_stamp new.past m ≡ Some last
  heartbeat answer new (unchanged same fails) gone = ap (λ (x : Group). past_stamp x.past m) same ∙ still
  heartbeat answer new (has_left r epoch there later answers is) gone =
      ap (λ (x : Group). past_stamp x.past m) is ∙ still_behind g.past since a.heartbeat.member a.stamp stays_now (omega arith)
  heartbeat answer new (went_away r epoch there later answers is) gone = ap (λ (x : Group). past_stamp x.past m) is ∙ still
  heartbeat answer new (taken_in d drafting stages takes) gone =
      let q : Heartbeat = a.heartbeat in
      let kept : Record = sent_after (after stages.renewed d q) (news stages.renewed d q) in
      let other : m ≢ d.id = λ same.
      not_none kept
      (sym gone ∙ ap (finite.get new.records) same ∙ ap (λ (x : Group). finite.get x.records d.id) stages.is_new
      ∙ get-inserted (offered stages.renewed d q).records d.id kept) in
      ap (λ (x : Group). past_stamp x.past m) stages.is_new ∙ ap (λ past. past_stamp past m) (stages.past ∙ drafting.past)
      ∙ stamp_without_other drafting.base.past d.id m other ∙ in_base d drafting.base other drafting.whose

-- ---- a tick

through : (m : Text) (last : Stamp) (ms : List (Text × Record)) (g : Group) (n : ℕ) → Stays g.past m last n → n + length ms ≤ MOST_PAST_MEMBERS
    → past_stamp (without_members g ms).past m ≡ Some last
through m last [] g n is room = is_remembered_now g.past m last n is
through m last (x ∷ ms) g n is room =
    through m last ms (without_member g x.0 x.1.stamp) (suc n) (remembers_more g.past m last n x.0 x.1.stamp (omega (arith, room)) is) (omega (arith, room))

through_expiry : (m : Text) (last : Stamp) (ms : List (Text × Record)) (g : Group) (n : ℕ) → Stays g.past m last n → n + length ms ≤ MOST_PAST_MEMBERS
    → past_stamp (expired g ms).past m ≡ Some last
through_expiry m last [] g n is room = is_remembered_now g.past m last n is
through_expiry m last (x ∷ ms) g n is room = through m last (x ∷ ms) (record g { epoch = risen g.epoch }) n is room

-- ---- both

pub former_members_stay : FormerMembersStay
former_members_stay =
    record {
      heartbeats = λ g a answer new m last since sound step left room gone.
          heartbeat g a m last since left.earlier left.is_past (once g sound m last since left) room answer new
          (came g (consistent g sound) a answer new step) gone;
      ticks = λ g moment m last since sound left room.
          let now = at_moment g moment in
          let once = once g sound m last since left in
          through_expiry m last (due now) now (suc (length since))
          (subst (λ past. Stays past m last (suc (length since))) (sym left.is_past) (stays m last since left.earlier once))
          (omega (arith, room));
    }
  where
    once : (g : Group) → IsSound g → (m : Text) (last : Stamp) (since : Past) → (left : HasLeft g m last since) → past_stamp left.earlier m ≡ None
    once g sound m last since left = stands_once m last since g.records left.earlier (subst (IsPast g.records) left.is_past sound.past)
