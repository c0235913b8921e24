-- Worlds of two clients: both topics are seen, one client after the other joins and takes the reply, so each holds a
-- partition. The first of them commits.
use Rattle.std.proofs.Common.{◌≡◌, ◌≢◌, ◌⊎◌, ℕ, zero, suc, pos, true, false, ◌||◌, List, [], ◌∷◌, nat_lt, is_some, Option, Some, inl, inr, refl, sym, ap, subst, ◌∙◌, arith}
use Rattle.std.specs.Cmp.{eq_by_cmp_equiv}
use Rattle.std.specs.FinMap as finite
use Rattle.std.specs.Option.{option_map_or}
use Rattle.std.specs.Str.{bytes_eq}
use Rattle.std.proofs.lemmas.Bool.{or_right}
use Rattle.uuid.specs.Text.{by_index}
use Rattle.flex_wire.specs.Spelling.{signed, varint, varint_groups, compact_string, compact_nullable_string, nullable_string, tagged_fields, array_count, nullable_array_count}
use Rattle.kip_msgs.specs.Spelling.{SpellsRequest, request_body, request_header_fields, commit_request_fields}
use Rattle.group_types.specs.declared.epoch.Epoch.TheVariants.{At}
use Rattle.group_types.specs.Limits.{MOST_GROUPS}
use Rattle.group_types.specs.Text.{Text, text_cmp}
use Rattle.group_types.specs.Sets.{has, nothing, union}
use Rattle.group_types.specs.Partition.{partition_cmp}
use Rattle.group_types.specs.Topics.{Topics}
use Rattle.group_types.specs.Group.{Group, Record, Target, wanted}
use Rattle.group_types.specs.Commit.{refusal_of_member}
use Rattle.group_types.specs.HeartbeatStep as group
use Rattle.group_types.proofs.Lookups.{Found, this, another, found, not_none, some_is}
use Rattle.group_types.proofs.Orders.{text_cmp_total, partition_cmp_total}
use Rattle.group_types.proofs.SetLemmas.{has-of_list, has-union}
use Rattle.group_types.proofs.SpreadLemmas.{has-share_of}
use Rattle.group_core.proofs.Single.{get-inserted}
use Rattle.coord_node.specs.Coordinator.{Coordinator, opening}
use Rattle.coord_node.specs.Steps.{HeartbeatAt, Makes, has_room, with_group}
use Rattle.member_core.specs.Client.{Client, state_of}
use Rattle.member_core.specs.Asking.{Join}
use Rattle.member_core.specs.Committing.{commit_for}
use Rattle.world_sim.specs.World.{World, Commit, cut, new_world, numbered, with_commit, with_coordinator}
use Rattle.world_sim.specs.Acts.{Asks, Deliver, Take, Sees, Commits, Is, IsDone, IsReplied, IsSent, IsCommitted, ActStep, CommitsBy, commit_by, fits_frame}
use Rattle.world_sim.specs.Exclusivity.{target_epoch_of}
use Rattle.world_sim.specs.Holding.{HasRecord, IsTaken, IsTakenIn}
use Rattle.world_sim.specs.Convergence.{CanSettle, IsReady}
use Rattle.world_sim.specs.Reached.{IsReached}
use Rattle.world_sim.specs.Examples.{Holder, SomebodyHolds, TwoHold, SomeReplyShows, SomeCommitIsTaken, SomeTargetIsRenewed, SomeWorldCanSettle, SomeRoundsMove}
use Rattle.world_sim.proofs.Lists.{from_in}
use Rattle.world_sim.proofs.Newcomers.{client_of, GROUP, Newcomer, arrival_of, id_of, kept_of, partition_of, reply_to, settings_of, shown_to}
use Rattle.world_sim.proofs.MovingRounds.{Begin, End, rounds}
use Rattle.world_sim.proofs.NewcomerTurns.{has_set, inside_is, insider, world_of}
use Rattle.world_sim.proofs.NewcomerMessages.{answering, asked_by, asking, asks, delivers, id_fits, inside_of, join_in, no_tags, none, pooled_in, takes, taking, tells, value_in}
use Rattle.world_sim.proofs.Reaching.{reached_by}
use Rattle.world_sim.proofs.TwoNewcomers.{AfterOne, AfterTwo, One, OneTopic, Two, TwoTopics, ids_differ, one_is_images, one_joins, one_kept, one_spelled, two_are_images, two_joins, two_joins_later, two_kept, two_spelled}

-- ---- the worlds

abbrev First : World
First = new_world 0 (settings_of One ∷ settings_of Two ∷ [])

abbrev Seeing : Coordinator
Seeing = record (opening 0) { image = TwoTopics }

abbrev Seen : World
Seen = with_coordinator First Seeing

-- the first client joins
abbrev OneAsks : World
OneAsks = asking One (join_in One) (asked_by One) Seen

abbrev pub OneIn : Coordinator
OneIn = with_group Seeing GROUP AfterOne

abbrev OneIsAnswered : World
OneIsAnswered = answering One (join_in One) (asked_by One) OneAsks OneIn

abbrev pub OneInside : World
OneInside = taking One (join_in One) (asked_by One) OneIsAnswered

-- the second one joins, over an image
abbrev Later : Topics → World
Later image = with_coordinator OneInside (record OneIn { image = image })

abbrev BothIn : Topics → Topics → Target → Coordinator
BothIn image view target = with_group (record OneIn { image = image }) GROUP (AfterTwo view target)

abbrev TwoAsks : Topics → World
TwoAsks image = asking Two (join_in Two) (asked_by Two) (Later image)

abbrev TwoIsAnswered : Topics → Topics → Target → World
TwoIsAnswered image view target = answering Two (join_in Two) (asked_by Two) (TwoAsks image) (BothIn image view target)

abbrev BothInside : Topics → Topics → Target → World
BothInside image view target = taking Two (join_in Two) (asked_by Two) (TwoIsAnswered image view target)

-- ---- the commit

abbrev CommitBody : List ℕ
CommitBody = request_body (commit_for (inside_of One) 1 [])

abbrev TheCommit : Commit
TheCommit = cut OneIn (commit_by (inside_of One) CommitBody)

abbrev Committing : World
Committing = with_commit OneInside TheCommit

commit_spells : SpellsRequest (commit_for (inside_of One) 1 []) CommitBody
unfolding lib.Utf8.encode
commit_spells =
    record {
      fits = (
        record { correlation_id = record { sfits = omega arith }; client_id = tt; tags = no_tags },
        record {
          group_id = record { length = omega arith; utf8 = (GROUP, (refl, refl)) };
          generation_id_or_member_epoch = record { sfits = omega arith };
          member_id = id_fits One;
          group_instance_id = tt;
          topics = (omega arith, none _);
          tags = no_tags;
        },
      );
      bytes = refl;
    }

commit_fits : fits_frame CommitBody ≡ true
unfolding request_body request_header_fields commit_request_fields signed varint varint_groups compact_string compact_nullable_string nullable_string tagged_fields array_count nullable_array_count by_index
commit_fits = refl

-- ---- the coordinator's steps

room : has_room Seeing ≡ true
room = ap (λ n. nat_lt n MOST_GROUPS) (finite.len-empty text_cmp Group)

makes : Makes true (has_room Seeing) Seeing (record { name = GROUP; left = AfterOne; reply = reply_to One }) (group.Replied (reply_to One)) OneIn
makes = subst (λ b. Makes true b Seeing (record { name = GROUP; left = AfterOne; reply = reply_to One }) (group.Replied (reply_to One)) OneIn) (sym room) (refl, refl)

one_comes : HeartbeatAt (finite.get Seeing.groups GROUP) Seeing (arrival_of One TwoTopics) (group.Replied (reply_to One)) OneIn
one_comes =
    subst (λ (o : Option Group). HeartbeatAt o Seeing (arrival_of One TwoTopics) (group.Replied (reply_to One)) OneIn) (sym (finite.get-empty text_cmp GROUP))
    (group.Replied (reply_to One), AfterOne, one_joins, makes)

pub of_one : finite.get OneIn.groups GROUP ≡ Some AfterOne
of_one = get-inserted text_cmp_total Seeing.groups GROUP AfterOne

-- ---- the first four acts

first : IsReached First
first = record { salt = 0; clients = settings_of One ∷ settings_of Two ∷ []; acts = []; outcomes = []; run = refl }

seen : IsReached Seen
seen = reached_by First Seen (Sees TwoTopics) IsDone first (Seeing, (refl, refl, two_are_images), (refl, refl))

one_asks : IsReached OneAsks
one_asks = reached_by Seen OneAsks (Asks 1 Join) (IsSent 1) seen (asks One (join_in One) one_spelled Seen (client_of One) Join refl refl refl)

one_answers : ActStep OneAsks (Deliver 1) (IsReplied 1 (value_in One (join_in One))) OneIsAnswered
one_answers = delivers One (join_in One) one_spelled OneAsks (asked_by One) OneIn one_comes 1 refl refl

one_is_answered : IsReached OneIsAnswered
one_is_answered = reached_by OneAsks OneIsAnswered (Deliver 1) (IsReplied 1 (value_in One (join_in One))) one_asks one_answers

pub one_inside : IsReached OneInside
one_inside =
    reached_by OneIsAnswered OneInside (Take 1) (Is (state_of (inside_of One))) one_is_answered (takes One (join_in One) one_spelled OneIsAnswered (asked_by One) 1 refl refl refl refl)

committing : IsReached Committing
committing =
    reached_by OneInside Committing (Commits 1 []) (IsCommitted 1) one_inside
    (CommitBody, commit_spells, subst (λ b. CommitsBy b OneInside (commit_by (inside_of One) CommitBody) (IsCommitted 1) Committing) (sym commit_fits) (refl, refl))

-- ---- what is there in them

one_has_record : HasRecord OneIn GROUP (id_of One)
one_has_record =
    record { group = AfterOne; of_group = of_one; has_record = ap is_some (get-inserted text_cmp_total finite.empty (id_of One) (kept_of One)) }

is_shown : (x : Newcomer) → has (shown_to x) (partition_of x) ≡ true
is_shown x = has-of_list partition_cmp_total (partition_of x ∷ []) (partition_of x) ∙ ap (λ b. b || false) ((eq_by_cmp_equiv partition_cmp_total).refl (partition_of x))

pub owns : (x : Newcomer) → has {R = partition_cmp} (union nothing (shown_to x)) (partition_of x) ≡ true
owns x =
    has-union partition_cmp_total nothing (shown_to x) (partition_of x)
    ∙ or_right (has (nothing {R = partition_cmp}) (partition_of x)) (has (shown_to x) (partition_of x)) (is_shown x)

pub somebody_holds : SomebodyHolds
somebody_holds =
    record {
      world = OneInside;
      reached = one_inside;
      holder = record {
        number = 1;
        client = inside_of One;
        id = id_of One;
        member = record { client = refl; is_id = refl; member = one_has_record };
        partition = partition_of One;
        holds = owns One;
      };
    }

pub some_reply_shows : SomeReplyShows
some_reply_shows =
    record {
      world = OneIsAnswered;
      reached = one_is_answered;
      reply = pooled_in One (join_in One) (asked_by One);
      client = asked_by One;
      id = id_of One;
      epoch = 1;
      shown = shown_to One;
      takeable = record { pooled = from_in (pooled_in One (join_in One) (asked_by One) ∷ []) (pooled_in One (join_in One) (asked_by One)) (inl refl); client = refl; waits = refl; tells = tells One (join_in One) one_spelled; member = one_has_record };
      partition = partition_of One;
      shows = is_shown One;
    }

is_taken : IsTaken OneIn TheCommit
is_taken =
    subst (λ (o : Option Group). IsTakenIn o TheCommit) (sym of_one)
    (ap (λ (o : Option Record). refusal_of_member o (pos 1)) (get-inserted text_cmp_total finite.empty (id_of One) (kept_of One)))

pub some_commit_is_taken : SomeCommitIsTaken
some_commit_is_taken =
    record {
      world = Committing;
      reached = committing;
      commit = TheCommit;
      pooled = from_in (TheCommit ∷ []) TheCommit (inl refl);
      taken = is_taken;
      partition = partition_of One;
      held = owns One;
    }

pub some_target_is_renewed : SomeTargetIsRenewed
some_target_is_renewed =
    record {
      world = OneAsks;
      reached = one_asks;
      act = Deliver 1;
      outcome = IsReplied 1 (value_in One (join_in One));
      new = OneIsAnswered;
      step = one_answers;
      name = GROUP;
      group = AfterOne;
      of_group = of_one;
      renewed = λ same.
          let never : 0 ≡ 1 = ap target_epoch_of (sym (finite.get-empty text_cmp GROUP)) ∙ same in
          absurd (omega (arith, never));
    }

-- ---- the second client joins

module _ (image view : Topics) (target : Target) where
  both_of : finite.get (BothIn image view target).groups GROUP ≡ Some (AfterTwo view target)
  both_of = get-inserted text_cmp_total OneIn.groups GROUP (AfterTwo view target)

  two_come : group.HeartbeatStep AfterOne (arrival_of Two image) (group.Replied (reply_to Two)) (AfterTwo view target)
      → HeartbeatAt (finite.get OneIn.groups GROUP) (record OneIn { image = image }) (arrival_of Two image) (group.Replied (reply_to Two)) (BothIn image view target)
  two_come step =
      subst (λ (o : Option Group). HeartbeatAt o (record OneIn { image = image }) (arrival_of Two image) (group.Replied (reply_to Two)) (BothIn image view target)) (sym of_one)
      (AfterTwo view target, step, refl)

  both_inside : IsReached (Later image) → group.HeartbeatStep AfterOne (arrival_of Two image) (group.Replied (reply_to Two)) (AfterTwo view target)
      → IsReached (BothInside image view target)
  both_inside later step =
      reached_by (TwoIsAnswered image view target) (BothInside image view target) (Take 2) (Is (state_of (inside_of Two)))
      (reached_by (TwoAsks image) (TwoIsAnswered image view target) (Deliver 2) (IsReplied 2 (value_in Two (join_in Two)))
      (reached_by (Later image) (TwoAsks image) (Asks 2 Join) (IsSent 2) later (asks Two (join_in Two) two_spelled (Later image) (client_of Two) Join refl refl refl))
      (delivers Two (join_in Two) two_spelled (TwoAsks image) (asked_by Two) (BothIn image view target) (two_come step) 2 refl refl))
      (takes Two (join_in Two) two_spelled (TwoIsAnswered image view target) (asked_by Two) 2 refl refl refl refl)

  abbrev one_holds : Holder (BothInside image view target)
  one_holds =
      record {
        number = 1;
        client = inside_of One;
        id = id_of One;
        member = record { client = refl; is_id = refl; member = record { group = AfterTwo view target; of_group = both_of; has_record = ap is_some (one_kept view target) } };
        partition = partition_of One;
        holds = owns One;
      }

  abbrev two_holds : Holder (BothInside image view target)
  two_holds =
      record {
        number = 2;
        client = inside_of Two;
        id = id_of Two;
        member = record { client = refl; is_id = refl; member = record { group = AfterTwo view target; of_group = both_of; has_record = ap is_some (two_kept view target) } };
        partition = partition_of Two;
        holds = owns Two;
      }

  -- ---- three rounds can be made

  is_ready : (x : Newcomer) (n : ℕ) → finite.get (AfterTwo view target).records (id_of x) ≡ Some (kept_of x) → IsReady (BothInside image view target) n (inside_of x)
  is_ready x n is_kept =
      record {
        place = refl;
        still = refl;
        id = id_of x;
        is_id = refl;
        group = AfterTwo view target;
        of_group = both_of;
        kept = kept_of x;
        is_kept = is_kept;
        epoch = inl refl;
        numbers = omega arith;
      }

  ready : (n : ℕ) (c : Client) → numbered (BothInside image view target).clients n ≡ Some c → IsReady (BothInside image view target) n c
  ready zero c is = absurd (not_none c is)
  ready (suc zero) c is = subst (λ (x : Client). IsReady (BothInside image view target) 1 x) (some_is (inside_of One) c is) (is_ready One 1 (one_kept view target))
  ready (suc (suc zero)) c is = subst (λ (x : Client). IsReady (BothInside image view target) 2 x) (some_is (inside_of Two) c is) (is_ready Two 2 (two_kept view target))
  ready (suc (suc (suc n))) c is = absurd (not_none c is)

  the_group : (name : Text) (g : Group) → finite.get (BothIn image view target).groups name ≡ Some g → (name ≡ GROUP) × (g ≡ AfterTwo view target)
  the_group name g there = by (found OneIn.groups GROUP (AfterTwo view target) name g there)
    where
      earlier : name ≢ GROUP → Found finite.empty GROUP AfterOne name g → ⊥
      earlier other (this same _) = other same
      earlier other (another _ _ never) = not_none g (sym (finite.get-empty text_cmp name) ∙ never)

      by : Found OneIn.groups GROUP (AfterTwo view target) name g → (name ≡ GROUP) × (g ≡ AfterTwo view target)
      by (this same is) = (same, is)
      by (another other _ before) = absurd (earlier other (found finite.empty GROUP AfterOne name g before))

  -- whose record it is
  record Whose (x : Newcomer) (m : Text) (r : Record) : Type 0 where
    same : m ≡ id_of x
    kept : r ≡ kept_of x

  the_member : (name : Text) (g : Group) (m : Text) (r : Record) → finite.get (BothIn image view target).groups name ≡ Some g → finite.get g.records m ≡ Some r
      → Whose One m r ⊎ Whose Two m r
  the_member name g m r there kept = by (found AfterOne.records (id_of Two) (kept_of Two) m r (ap (λ (x : Group). finite.get x.records m) (sym (the_group name g there).1) ∙ kept))
    where
      earlier : Found finite.empty (id_of One) (kept_of One) m r → Whose One m r ⊎ Whose Two m r
      earlier (this same is) = inl (record { same = same; kept = is })
      earlier (another _ _ never) = absurd (not_none r (sym (finite.get-empty text_cmp m) ∙ never))

      by : Found AfterOne.records (id_of Two) (kept_of Two) m r → Whose One m r ⊎ Whose Two m r
      by (this same is) = inr (record { same = same; kept = is })
      by (another _ _ before) = earlier (found finite.empty (id_of One) (kept_of One) m r before)

  has_client : (name : Text) (g : Group) (m : Text) (r : Record) → finite.get (BothIn image view target).groups name ≡ Some g → finite.get g.records m ≡ Some r
      → (n : ℕ) × (c : Client) × (numbered (BothInside image view target).clients n ≡ Some c) × (c.settings.group ≡ name) × (c.id ≡ Some m)
  has_client name g m r there kept = by (the_member name g m r there kept)
    where
      by : Whose One m r ⊎ Whose Two m r → (n : ℕ) × (c : Client) × (numbered (BothInside image view target).clients n ≡ Some c) × (c.settings.group ≡ name) × (c.id ≡ Some m)
      by (inl is) = (1, inside_of One, refl, sym (the_group name g there).0, ap Some (sym is.same))
      by (inr is) = (2, inside_of Two, refl, sym (the_group name g there).0, ap Some (sym is.same))

  present : (name : Text) (g : Group) (m : Text) (r : Record) → finite.get (BothIn image view target).groups name ≡ Some g → finite.get g.records m ≡ Some r
      → (epoch : ℕ) × (r.epoch ≡ At epoch)
  present name g m r there kept = by (the_member name g m r there kept)
    where
      by : Whose One m r ⊎ Whose Two m r → (epoch : ℕ) × (r.epoch ≡ At epoch)
      by (inl is) = (1, ap (λ (x : Record). x.epoch) is.kept)
      by (inr is) = (2, ap (λ (x : Record). x.epoch) is.kept)

  can_settle : CanSettle (BothInside image view target)
  can_settle =
      record {
        ready = ready;
        has_client = has_client;
        present = present;
        below = λ name g there. let second : g.epoch ≡ 2 = ap (λ (x : Group). x.epoch) (the_group name g there).1 in omega (arith, second);
      }

-- ---- while both topics are there

together : IsReached (BothInside TwoTopics AfterOne.view AfterOne.target)
together = both_inside TwoTopics AfterOne.view AfterOne.target one_inside two_joins

pub two_hold : TwoHold
two_hold =
    record {
      world = BothInside TwoTopics AfterOne.view AfterOne.target;
      reached = together;
      one = one_holds TwoTopics AfterOne.view AfterOne.target;
      other = two_holds TwoTopics AfterOne.view AfterOne.target;
      one_group = refl;
      two_clients = λ same. absurd (omega (arith, same));
      two_ids = ids_differ;
    }

pub some_world_can_settle : SomeWorldCanSettle
some_world_can_settle =
    record {
      world = BothInside TwoTopics AfterOne.view AfterOne.target;
      reached = together;
      number = 1;
      client = inside_of One;
      id = id_of One;
      member = (one_holds TwoTopics AfterOne.view AfterOne.target).member;
      can = can_settle TwoTopics AfterOne.view AfterOne.target;
    }

-- ---- where the first one's topic is gone before the second one joins

gone : IsReached (Later OneTopic)
gone = reached_by OneInside (Later OneTopic) (Sees OneTopic) IsDone one_inside (record OneIn { image = OneTopic }, (refl, refl, one_is_images), (refl, refl))

apart : IsReached (BothInside OneTopic finite.empty finite.empty)
apart = both_inside OneTopic finite.empty finite.empty gone two_joins_later

abbrev Apart : World
Apart = BothInside OneTopic finite.empty finite.empty

abbrev Beginning : World
Beginning = Begin Apart.coordinator.groups Apart.requests Apart.replies (both_of OneTopic finite.empty finite.empty)

abbrev Ending : World
Ending = End Apart.coordinator.groups Apart.requests Apart.replies (both_of OneTopic finite.empty finite.empty)

-- what the first one holds isn't its target any more
unwanted : has (wanted (AfterTwo finite.empty finite.empty).target (id_of One)) (partition_of One) ≡ false
unwanted =
    has-share_of (AfterTwo finite.empty finite.empty).target (id_of One) (partition_of One)
    ∙ ap (λ (o : Option Text). option_map_or (λ owner. bytes_eq owner (id_of One)) o false)
    (finite.get-insert partition_cmp_total finite.empty (partition_of Two) (id_of Two) (partition_of One) ∙ finite.get-empty partition_cmp (partition_of One))

-- with what each of the two owns as a set of its own
the_same : BothInside OneTopic finite.empty finite.empty ≡ Beginning
the_same =
    λ i. world_of Beginning.coordinator.groups (inside_is One i ∷ inside_is Two i ∷ []) Beginning.requests Beginning.replies

pub some_rounds_move : SomeRoundsMove
some_rounds_move =
    record {
      world = Beginning;
      reached = subst IsReached the_same apart;
      can = subst CanSettle the_same (can_settle OneTopic finite.empty finite.empty);
      holder = record {
        number = 1;
        client = insider One 1 1 true true;
        id = id_of One;
        member = record {
          client = refl;
          is_id = refl;
          member = record { group = AfterTwo finite.empty finite.empty; of_group = both_of OneTopic finite.empty finite.empty; has_record = ap is_some (one_kept finite.empty finite.empty) };
        };
        partition = partition_of One;
        holds = is_shown One;
      };
      group = AfterTwo finite.empty finite.empty;
      of_group = both_of OneTopic finite.empty finite.empty;
      unwanted = unwanted;
      new = Ending;
      settles = rounds Beginning.coordinator.groups Beginning.requests Beginning.replies (both_of OneTopic finite.empty finite.empty);
      after = insider One 4 2 false false;
      is_after = refl;
      given_up = has_set One false (partition_of One);
    }
