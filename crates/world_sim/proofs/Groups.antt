-- The groups of a coordinator after an event: each passes, or one of them has a turn.
use Rattle.std.proofs.Common.{◌≡◌, ◌≢◌, ℕ, pos, Bool, true, false, cond, not, ◌&&◌, ◌||◌, List, [], ◌∷◌, map, Option, Some, None, is_some, refl, sym, ap, subst, ◌∙◌, inl, inr, true≢false, length, ◌==◌, suc, arith}
use Rattle.std.specs.List.{filter, list_any}
use Rattle.std.specs.Option.{option_map, option_map_or, unwrap_or}
use Rattle.std.specs.Ordering.{eq_by_cmp, int_eq}
use Rattle.std.specs.FinMap as finite
use Rattle.std.specs.FinMap.{find}
use Rattle.std.proofs.lemmas.Bool.Decides.{Decides-eqb, Decides-int_eq}
use Rattle.group_types.specs.declared.code.Code.TheVariants as codes
use Rattle.group_types.specs.declared.stamp.Stamp.{Stamp}
use Rattle.group_types.specs.Text.{Text, text_cmp}
use Rattle.group_types.specs.Sets.{nothing, of_list}
use Rattle.group_types.specs.Request.{Heartbeat, is_empty}
use Rattle.group_types.specs.Group.{Group, Grant, Past, Record, grant_cmp, held, new_group}
use Rattle.group_types.specs.Members.{is_remembered, members_of}
use Rattle.group_types.specs.Tick.{ticked}
use Rattle.group_types.specs.Commit.{Commit, CommitReply}
use Rattle.group_types.specs.HeartbeatStep.{Arrival}
use Rattle.group_types.specs.HeartbeatStep as group
use Rattle.group_types.specs.Sound.{IsSound}
use Rattle.group_types.proofs.Lookups.{Tie, ties, differs, tie, get-inserted, get-insert_other}
use Rattle.group_types.proofs.Orders.{text_cmp_total}
use Rattle.group_types.proofs.SetLemmas.{entries-nothing}
use Rattle.coord_node.specs.Coordinator.{Coordinator, Groups}
use Rattle.coord_node.specs.Steps.{is_success, has_room, all_ticked, Makes, MakesBy, HeartbeatAt, CommitAt, with_group}
use Rattle.coord_node.specs.Laws.{HasSoundGroups}
use Rattle.world_sim.specs.World.{granted}
use Rattle.world_sim.specs.Acts.{is_unremembered}
use Rattle.world_sim.specs.Turn.{Pass, Seen, Turn}
use Rattle.world_sim.specs.Invariant.{group_at}
use Rattle.world_sim.proofs.Lists.{In, from_in}
use Rattle.world_sim.proofs.Turns.{NoSuccess, unchanged, replied_is}
use Rattle.world_sim.proofs.Heartbeats.{heartbeat_turns}
use Rattle.world_sim.proofs.Ticks.{same_passes, ticked_passes, committed_passes}

-- ---- the group under a name

pub group_is : (c : Coordinator) (name : Text) (g : Group) → finite.get c.groups name ≡ Some g → group_at c name ≡ g
group_is c name g is = ap (λ (o : Option Group). unwrap_or o (new_group c.salt)) is

pub group_none : (c : Coordinator) (name : Text) → finite.get c.groups name ≡ None → group_at c name ≡ new_group c.salt
group_none c name is = ap (λ (o : Option Group). unwrap_or o (new_group c.salt)) is

pub put_here : (c : Coordinator) (name : Text) (g : Group) → group_at (with_group c name g) name ≡ g
put_here c name g = ap (λ (o : Option Group). unwrap_or o (new_group c.salt)) (get-inserted c.groups name g)

pub put_other : (c : Coordinator) (name : Text) (g : Group) (other : Text) → eq_by_cmp text_cmp other name ≡ false → group_at (with_group c name g) other ≡ group_at c other
put_other c name g other apart = ap (λ (o : Option Group). unwrap_or o (new_group c.salt)) (get-insert_other c.groups name g other apart)

-- each group under a name is sound
pub all_sound : (c : Coordinator) → IsSound (new_group c.salt) → HasSoundGroups c → (name : Text) → IsSound (group_at c name)
all_sound c new sound name = by (finite.get c.groups name) refl
  where
    by : (o : Option Group) → finite.get c.groups name ≡ o → IsSound (group_at c name)
    by None none = subst IsSound (sym (group_none c name none)) new
    by (Some g) there = subst IsSound (sym (group_is c name g there)) (sound name g there)

pub sound_groups : (c : Coordinator) → ((name : Text) → IsSound (group_at c name)) → HasSoundGroups c
sound_groups c sound name g there = subst IsSound (group_is c name g there) (sound name)

-- ---- what a new group has

held_nothing : (m : Text) → held nothing m ≡ nothing
held_nothing m =
    ap (λ (es : List (Grant × Unit {0})). of_list (map (λ (g : Grant). g.1) (filter (λ (g : Grant). eq_by_cmp text_cmp m g.0) (map (λ (e : Grant × Unit {0}). e.0) es)))) (entries-nothing grant_cmp)

-- what an id is granted is what it holds in its group
pub granted_at : (c : Coordinator) (name m : Text) → granted c name m ≡ held (group_at c name).grants m
granted_at c name m = by (finite.get c.groups name) refl
  where
    by : (o : Option Group) → finite.get c.groups name ≡ o → granted c name m ≡ held (group_at c name).grants m
    by None none =
        ap (λ (o : Option Group). option_map_or (λ g. held g.grants m) o nothing) none
        ∙ sym (held_nothing m) ∙ ap (λ (g : Group). held g.grants m) (sym (group_none c name none))
    by (Some g) there =
        ap (λ (o : Option Group). option_map_or (λ x. held x.grants m) o nothing) there
        ∙ ap (λ (x : Group). held x.grants m) (sym (group_is c name g there))

-- ---- all groups pass

abbrev pub AllPass : Coordinator → Coordinator → Type 0
AllPass c new = (name : Text) → Pass (group_at c name) (group_at new name)

pub pass_itself : (g : Group) → Pass g g
pass_itself g = same_passes g g refl refl refl refl refl refl

-- the others stay where one group is put
put_passes : (c : Coordinator) (name : Text) (g : Group) → Pass (group_at c name) g → AllPass c (with_group c name g)
put_passes c name g pass other = by (tie other name)
  where
    by : Tie other name → Pass (group_at c other) (group_at (with_group c name g) other)
    by (ties same) =
        subst (λ (k : Text). Pass (group_at c k) (group_at (with_group c name g) k)) (sym same)
        (subst (λ (x : Group). Pass (group_at c name) x) (sym (put_here c name g)) pass)
    by (differs _ apart) = subst (λ (x : Group). Pass (group_at c other) x) (sym (put_other c name g other apart)) (pass_itself (group_at c other))

pub same_all_pass : (c new : Coordinator) → new ≡ c → AllPass c new
same_all_pass c new same name = subst (λ (x : Coordinator). Pass (group_at c name) (group_at x name)) (sym same) (pass_itself (group_at c name))

-- ---- a commit

pub committed_all : (there : Option Group) (c : Coordinator) (r : Commit) → finite.get c.groups r.group ≡ there → (reply : CommitReply) (new : Coordinator) → CommitAt there c r reply new → AllPass c new
committed_all None c r none reply new is = same_all_pass c new is.1
committed_all (Some g) c r there reply new is =
    subst (λ (x : Coordinator). AllPass c x) (sym is.2)
    (put_passes c r.group is.0 (subst (λ (x : Group). Pass x is.0) (sym (group_is c r.group g there)) (committed_passes g r c.image reply is.0 is.1)))

-- ---- a tick

find_mapped : (f : Group → Group) (es : List (Text × Group)) (name : Text) → find text_cmp name (map (λ e. (e.0, f e.1)) es) ≡ option_map f (find text_cmp name es)
find_mapped f [] name = refl
find_mapped f (e ∷ es) name =
    elim (eq_by_cmp text_cmp name e.0) as (λ b. cond b (Some (f e.1)) (find text_cmp name (map (λ e. (e.0, f e.1)) es)) ≡ option_map f (cond b (Some e.1) (find text_cmp name es))) [
      | true ↦ refl
      | false ↦ find_mapped f es name
    ]

pub get_ticked : (groups : Groups) (moment : ℕ) (name : Text) → finite.get (all_ticked groups moment) name ≡ option_map (λ g. ticked g moment) (finite.get groups name)
get_ticked groups moment name =
    finite.get-from_entries text_cmp_total (map (λ e. (e.0, ticked e.1 moment)) (finite.entries groups)) name
    ∙ find_mapped (λ g. ticked g moment) (finite.entries groups) name
    ∙ ap (option_map (λ g. ticked g moment)) (sym (finite.get-entries groups name))

abbrev pub after_tick : Coordinator → ℕ → Coordinator
after_tick c moment = record c { groups = all_ticked c.groups moment }

pub ticked_all : (c : Coordinator) (moment : ℕ) → AllPass c (record c { groups = all_ticked c.groups moment })
ticked_all c moment name = by (finite.get c.groups name) refl
  where
    by : (o : Option Group) → finite.get c.groups name ≡ o → Pass (group_at c name) (group_at (after_tick c moment) name)
    by None none =
        let gone : group_at (after_tick c moment) name ≡ new_group c.salt = group_none (after_tick c moment) name (get_ticked c.groups moment name ∙ ap (option_map (λ g. ticked g moment)) none) in
        subst (λ (x : Group). Pass (group_at c name) x) (group_none c name none ∙ sym gone) (pass_itself (group_at c name))
    by (Some g) there =
        let is : group_at (after_tick c moment) name ≡ ticked g moment = group_is (after_tick c moment) name (ticked g moment) (get_ticked c.groups moment name ∙ ap (option_map (λ g. ticked g moment)) there) in
        subst (λ (x : Group). Pass (group_at c name) x) (sym is) (subst (λ (x : Group). Pass x (ticked g moment)) (sym (group_is c name g there)) (ticked_passes g moment))

-- ---- a heartbeat

-- One group has a turn, and the others are as they were. What a reply of success told is what the group answered.
pub record HasTurned (c : Coordinator) (q : Heartbeat) (stamp : Stamp) (answer : group.Answer) (new : Coordinator) : Type 0 where
  pub turn : Turn (group_at c q.group) q stamp answer (group_at new q.group)
  pub others : (other : Text) → other ≢ q.group → group_at new other ≡ group_at c other

put_turned : (c : Coordinator) (q : Heartbeat) (stamp : Stamp) (answer : group.Answer) (g : Group) → Turn (group_at c q.group) q stamp answer g → HasTurned c q stamp answer (with_group c q.group g)
put_turned c q stamp answer g turn =
    record {
      turn = subst (λ (x : Group). Turn (group_at c q.group) q stamp answer x) (sym (put_here c q.group g)) turn;
      others = λ other apart. other_at other apart (tie other q.group);
    }
  where
    other_at : (other : Text) → other ≢ q.group → Tie other q.group → group_at (with_group c q.group g) other ≡ group_at c other
    other_at other apart (ties same) = absurd (apart same)
    other_at other apart (differs _ is) = put_other c q.group g other is

stays : (c : Coordinator) (q : Heartbeat) (stamp : Stamp) (answer : group.Answer) (new : Coordinator) → new ≡ c → NoSuccess answer → HasTurned c q stamp answer new
stays c q stamp answer new same fails =
    record {
      turn = unchanged (group_at c q.group) q stamp answer (group_at new q.group) (ap (λ (x : Coordinator). group_at x q.group) same) fails;
      others = λ other apart. ap (λ (x : Coordinator). group_at x other) same;
    }

closes_fails : (answer : group.Answer) → answer ≡ group.Closes → NoSuccess answer
closes_fails answer is reply said success = true≢false (ap (λ (a : group.Answer). elim a [ group.Replied r ↦ true | group.Closes ↦ false ]) (sym said ∙ is))

fails_as : (answer : group.Answer) (reply : group.Reply) → answer ≡ group.Replied reply → is_success reply.code ≡ false → NoSuccess answer
fails_as answer reply is fails other said success =
    true≢false (ap is_success (sym success) ∙ ap (λ (r : group.Reply). is_success r.code) (sym (replied_is reply other (sym is ∙ said))) ∙ fails)

made_turns : (success room : Bool) (c : Coordinator) (q : Heartbeat) (stamp : Stamp) (g : Group) (reply : group.Reply) → is_success reply.code ≡ success
    → Turn (group_at c q.group) q stamp (group.Replied reply) g → (answer : group.Answer) (new : Coordinator) → Makes success room c (record { name = q.group; left = g; reply = reply }) answer new → HasTurned c q stamp answer new
made_turns true true c q stamp g reply success turn answer new is =
    subst (λ (x : Coordinator). HasTurned c q stamp answer x) (sym is.1)
    (put_turned c q stamp answer g (subst (λ (x : group.Answer). Turn (group_at c q.group) q stamp x g) (sym is.0) turn))
made_turns true false c q stamp g reply success turn answer new is =
    stays c q stamp answer new is.1 (fails_as answer (group.refusal codes.CoordinatorNotAvailable) is.0 refl)
made_turns false room c q stamp g reply success turn answer new is =
    stays c q stamp answer new is.1 (fails_as answer reply is.0 success)

made_by_turns : (given : group.Answer) (c : Coordinator) (q : Heartbeat) (stamp : Stamp) (g : Group)
    → Turn (group_at c q.group) q stamp given g → (answer : group.Answer) (new : Coordinator) → MakesBy given c q.group g answer new → HasTurned c q stamp answer new
made_by_turns (group.Replied reply) c q stamp g turn answer new is = made_turns (is_success reply.code) (has_room c) c q stamp g reply refl turn answer new is
made_by_turns group.Closes c q stamp g turn answer new is = stays c q stamp answer new is.1 (closes_fails answer is.0)

pub beaten_turns : (c : Coordinator) (a : Arrival) → IsSound (group_at c a.heartbeat.group) → (there : Option Group) → finite.get c.groups a.heartbeat.group ≡ there
    → (answer : group.Answer) (new : Coordinator) → HeartbeatAt there c a answer new → HasTurned c a.heartbeat a.stamp answer new
beaten_turns c a sound None none answer new is =
    let absent : group_at c a.heartbeat.group ≡ new_group c.salt = group_none c a.heartbeat.group none in
    let turn : Turn (new_group c.salt) a.heartbeat a.stamp is.0 is.1 = heartbeat_turns (new_group c.salt) (subst IsSound absent sound) a is.0 is.1 is.2 in
    made_by_turns is.0 c a.heartbeat a.stamp is.1 (subst (λ (x : Group). Turn x a.heartbeat a.stamp is.0 is.1) (sym absent) turn) answer new is.3
beaten_turns c a sound (Some g) there answer new is =
    let present : group_at c a.heartbeat.group ≡ g = group_is c a.heartbeat.group g there in
    let turn : Turn g a.heartbeat a.stamp answer is.0 = heartbeat_turns g (subst IsSound present sound) a answer is.0 is.1 in
    subst (λ (x : Coordinator). HasTurned c a.heartbeat a.stamp answer x) (sym is.2)
    (put_turned c a.heartbeat a.stamp answer is.0 (subst (λ (x : Group). Turn x a.heartbeat a.stamp answer is.0) (sym present) turn))

-- ---- what is remembered is seen

third_of : (a b c : Bool) → (a && b && c) ≡ false → a ≡ true → b ≡ true → c ≡ false
third_of true true c none first second = none
third_of true false c none first second = absurd (true≢false (sym second))
third_of false b c none first second = absurd (true≢false (sym first))

pub given_some : (m : Text) → m ≢ [] → not (is_empty m) ≡ true
given_some [] some = absurd (some refl)
given_some (c ∷ m) some =
    elim (length (c ∷ m) == 0) as (λ b. (length (c ∷ m) == 0) ≡ b → not b ≡ true) [
      | true ↦ λ none. let never : suc (length m) ≡ 0 = (Decides-eqb (length (c ∷ m)) 0).0 none in absurd (omega (arith, never))
      | false ↦ λ one. refl
    ] refl

past_has : (past : Past) (m : Text) → list_any (λ (e : Text × Stamp). eq_by_cmp text_cmp m e.0) past ≡ true → (s : Stamp) × In past (m, s)
past_has [] m never = absurd (true≢false (sym never))
past_has (e ∷ past) m is = by (past_has past m) (tie m e.0)
  where
    further : (s : Stamp) × In past (m, s) → (s : Stamp) × In (e ∷ past) (m, s)
    further (s, there) = (s, inr there)

    by : (list_any (λ (e : Text × Stamp). eq_by_cmp text_cmp m e.0) past ≡ true → (s : Stamp) × In past (m, s)) → Tie m e.0 → (s : Stamp) × In (e ∷ past) (m, s)
    by rest (ties same) = (e.1, inl (ap (λ (k : Text). (k, e.1)) (sym same)))
    by rest (differs _ apart) = further (rest (sym (ap (λ b. b || list_any (λ (e : Text × Stamp). eq_by_cmp text_cmp m e.0) past) apart) ∙ is))

seen_in : (g : Group) (m : Text) → is_remembered (members_of g) m ≡ true → (s : Stamp) × Seen g m s
seen_in g m is = by (finite.get g.records m) refl is
  where
    by : (o : Option Record) → finite.get g.records m ≡ o → (is_some (finite.get g.records m) || list_any (λ (e : Text × Stamp). eq_by_cmp text_cmp m e.0) g.past) ≡ true → (s : Stamp) × Seen g m s
    by (Some r) there is = (r.stamp, inl (r, there, refl))
    by None none is =
        let found = past_has g.past m (sym (ap (λ (o : Option Record). is_some o || list_any (λ (e : Text × Stamp). eq_by_cmp text_cmp m e.0) g.past) none) ∙ is) in
        (found.0, inr (from_in g.past (m, found.0) found.1))

-- a join that isn't forgotten names an id that is seen
pub join_seen : (c : Coordinator) (q : Heartbeat) → (int_eq q.epoch (pos 0) && not (is_empty q.member) && is_unremembered (finite.get c.groups q.group) q.member) ≡ false
    → q.epoch ≡ pos 0 → q.member ≢ [] → (s : Stamp) × Seen (group_at c q.group) q.member s
join_seen c q not_forgotten joins given =
    by (finite.get c.groups q.group) refl
    (third_of (int_eq q.epoch (pos 0)) (not (is_empty q.member)) (is_unremembered (finite.get c.groups q.group) q.member) not_forgotten
    ((Decides-int_eq q.epoch (pos 0)).1 joins) (given_some q.member given))
  where
    positive : (b : Bool) → not b ≡ false → b ≡ true
    positive true is = refl
    positive false is = sym is

    by : (o : Option Group) → finite.get c.groups q.group ≡ o → is_unremembered (finite.get c.groups q.group) q.member ≡ false → (s : Stamp) × Seen (group_at c q.group) q.member s
    by None none is = absurd (true≢false (sym (ap (λ (o : Option Group). is_unremembered o q.member) none) ∙ is))
    by (Some g) there is =
        let known = seen_in g q.member (positive (is_remembered (members_of g) q.member) (sym (ap (λ (o : Option Group). is_unremembered o q.member) there) ∙ is)) in
        (known.0, subst (λ (x : Group). Seen x q.member known.0) (sym (group_is c q.group g there)) known.1)
