-- Three rounds of the two newcomers, after the first one's topic has gone: the first one gives up its partition in its first
-- turn, and goes on to the target's epoch in its second one. The second one's turns change nothing for it.
use Rattle.std.proofs.Common.{◌≡◌, ℕ, ◌<◌, Bool, true, false, List, [], ◌∷◌, ◌++◌, Some, None, refl, arith}
use Rattle.std.specs.FinMap as finite
use Rattle.uuid.specs.Text.{by_index}
use Rattle.flex_wire.specs.Spelling.{FitsText, FitsUuid, signed, varint, varint_groups, compact_string, compact_nullable_string, nullable_string, tagged_fields, array_count, nullable_array_count}
use Rattle.kip_msgs.specs.Spelling.{request_body, reply_body, request_header_fields, response_header_fields, heartbeat_request_fields, heartbeat_reply_fields, assignment_fields, topic_partitions_fields, nullable_struct}
use Rattle.group_types.specs.Group.{Grants, Group, Record, Records}
use Rattle.group_types.specs.Settle.{moved}
use Rattle.group_types.specs.HeartbeatStep.{Arrival, Replied, HeartbeatStep}
use Rattle.group_types.proofs.Orders.{text_cmp_total}
use Rattle.group_core.proofs.Single.{get-inserted}
use Rattle.coord_node.specs.Coordinator.{Groups}
use Rattle.member_core.specs.Client.{Client}
use Rattle.member_core.specs.Asking.{after_sending}
use Rattle.world_sim.specs.World.{World, Request, Reply}
use Rattle.world_sim.specs.Rounds.{HasTurn, Settles}
use Rattle.world_sim.proofs.Newcomers.{GROUP, Newcomer, id_of, kept_of, set_of, stamp_at}
use Rattle.world_sim.proofs.NewcomerMessages.{Exchange, IsSized, IsSpelled, heartbeat_in, id_fits, pooled_in, reply_in, sent_in}
use Rattle.world_sim.proofs.NewcomerTurns.{beat_in, insider, releases, turns, world_of}
use Rattle.world_sim.proofs.QuietBeats.{beats, in_rounds, told}
use Rattle.world_sim.proofs.RoundStates.{FIRST_GRANTS, FIRST_RECORDS, OneWanted, Stands, TwoWanted, one_can, one_changes, one_may, one_may_not, one_moves, stands_first, two_can, two_changes, two_moves}
use Rattle.world_sim.proofs.TwoNewcomers.{One, OneTopic, Two, name_fits}

-- ---- what is said

-- the first one's beats: it reports its partition once, and is told the target's epoch from then on
abbrev pub OneFirst : Exchange
OneFirst = beat_in One 2 1 true 0 false

abbrev pub OneSecond : Exchange
OneSecond = beat_in One 3 1 false 1 false

abbrev OneThird : Exchange
OneThird = beat_in One 4 2 false 1 false

-- the second one's
abbrev pub TwoAt : ℕ → Exchange
TwoAt number = beat_in Two number 2 true 1 true

beats_fit : IsSized One OneFirst × IsSized One OneSecond × IsSized One OneThird × IsSized Two (TwoAt 2) × IsSized Two (TwoAt 3) × IsSized Two (TwoAt 4)
unfolding request_body request_header_fields heartbeat_request_fields reply_body response_header_fields heartbeat_reply_fields signed varint varint_groups compact_string compact_nullable_string nullable_string tagged_fields array_count nullable_array_count nullable_struct assignment_fields topic_partitions_fields by_index
beats_fit = (
  record { some_bytes = refl; request_fits = refl; reply_fits = refl },
  record { some_bytes = refl; request_fits = refl; reply_fits = refl },
  record { some_bytes = refl; request_fits = refl; reply_fits = refl },
  record { some_bytes = refl; request_fits = refl; reply_fits = refl },
  record { some_bytes = refl; request_fits = refl; reply_fits = refl },
  record { some_bytes = refl; request_fits = refl; reply_fits = refl },
)

says : (x : Newcomer) (number epoch : ℕ) (owns : Bool) (below : ℕ) (shows : Bool) → FitsText x.name → FitsUuid x.topic → number < 5 → epoch < 5 → below < 5
    → IsSized x (beat_in x number epoch owns below shows) → IsSpelled x (beat_in x number epoch owns below shows)
says x number epoch owns below shows name topic few early low sized =
    record {
      name = name;
      topic = topic;
      member = id_fits x;
      number = omega (arith, few);
      epoch = omega (arith, early);
      below = omega (arith, low);
      sized = sized;
    }

one_says : (number epoch : ℕ) (owns : Bool) (below : ℕ) → number < 5 → epoch < 5 → below < 5 → IsSized One (beat_in One number epoch owns below false)
    → IsSpelled One (beat_in One number epoch owns below false)
one_says number epoch owns below few early low sized = says One number epoch owns below false name_fits.0 refl few early low sized

two_says : (number : ℕ) → number < 5 → IsSized Two (TwoAt number) → IsSpelled Two (TwoAt number)
two_says number few sized = says Two number 2 true 1 true name_fits.1 refl few (omega arith) (omega arith) sized

-- ---- the group

-- what is kept of the first one: asked to release, at the target's epoch, and still there
abbrev pub OneAsked : Record
OneAsked = told One 2 1 0 (Some 60000) (set_of One false)

abbrev pub OneArrived : Record
OneArrived = told One 3 2 1 None (set_of One false)

abbrev OneStays : Record
OneStays = told One 4 2 1 None (set_of One false)

abbrev TwoStays : ℕ → Record
TwoStays frame = told Two frame 2 0 None (set_of Two true)

-- the records and the grants after a number of beats, in which each name ends
abbrev pub Records1 : Records
Records1 = finite.insert FIRST_RECORDS (id_of One) OneAsked

abbrev pub Records2 : Records
Records2 = finite.insert Records1 (id_of Two) (TwoStays 2)

abbrev pub Records3 : Records
Records3 = finite.insert Records2 (id_of One) OneArrived

abbrev Records4 : Records
Records4 = finite.insert Records3 (id_of Two) (TwoStays 3)

abbrev Records5 : Records
Records5 = finite.insert Records4 (id_of One) OneStays

abbrev Records6 : Records
Records6 = finite.insert Records5 (id_of Two) (TwoStays 4)

abbrev by_one : Grants → Grants
by_one grants = moved grants (id_of One) OneWanted

abbrev by_two : Grants → Grants
by_two grants = moved grants (id_of Two) TwoWanted

abbrev pub Grants2 : Grants
Grants2 = by_two FIRST_GRANTS

abbrev pub Grants3 : Grants
Grants3 = by_one Grants2

abbrev Grants4 : Grants
Grants4 = by_two Grants3

abbrev Grants5 : Grants
Grants5 = by_one Grants4

abbrev Grants6 : Grants
Grants6 = by_two Grants5

pub stands1 : Stands Records1 FIRST_GRANTS OneAsked (kept_of Two)
stands1 = one_changes FIRST_RECORDS FIRST_GRANTS FIRST_GRANTS (kept_of One) (kept_of Two) OneAsked stands_first refl stands_first.twos

pub stands2 : Stands Records2 Grants2 OneAsked (TwoStays 2)
stands2 = two_changes Records1 FIRST_GRANTS Grants2 OneAsked (kept_of Two) (TwoStays 2) stands1 refl (two_moves FIRST_GRANTS stands1.twos)

pub stands3 : Stands Records3 Grants3 OneArrived (TwoStays 2)
stands3 = one_changes Records2 Grants2 Grants3 OneAsked (TwoStays 2) OneArrived stands2 refl (one_moves Grants2 stands2.twos)

stands4 : Stands Records4 Grants4 OneArrived (TwoStays 3)
stands4 = two_changes Records3 Grants3 Grants4 OneArrived (TwoStays 2) (TwoStays 3) stands3 refl (two_moves Grants3 stands3.twos)

stands5 : Stands Records5 Grants5 OneStays (TwoStays 3)
stands5 = one_changes Records4 Grants4 Grants5 OneArrived (TwoStays 3) OneStays stands4 refl (one_moves Grants4 stands4.twos)

abbrev pub arriving : Newcomer → Exchange → Arrival
arriving x e = record { heartbeat = heartbeat_in x e; stamp = stamp_at x e.number; moment = 0; image = OneTopic }

pub step1 : HeartbeatStep (in_rounds FIRST_RECORDS FIRST_GRANTS) (arriving One OneFirst) (Replied (reply_in One OneFirst)) (in_rounds Records1 FIRST_GRANTS)
step1 =
    beats One FIRST_RECORDS FIRST_GRANTS 1 0 0 None (set_of One true) true false false
    (one_can FIRST_RECORDS FIRST_GRANTS (kept_of Two) 1 0 0 None (set_of One true) true false stands_first refl one_may_not)

pub step2 : HeartbeatStep (in_rounds Records1 FIRST_GRANTS) (arriving Two (TwoAt 2)) (Replied (reply_in Two (TwoAt 2))) (in_rounds Records2 Grants2)
step2 = beats Two Records1 FIRST_GRANTS 1 1 0 None (set_of Two true) true true true (two_can Records1 FIRST_GRANTS OneAsked 1 stands1 refl)

pub step3 : HeartbeatStep (in_rounds Records2 Grants2) (arriving One OneSecond) (Replied (reply_in One OneSecond)) (in_rounds Records3 Grants3)
step3 =
    beats One Records2 Grants2 2 0 0 (Some 60000) (set_of One false) false true false
    (one_can Records2 Grants2 (TwoStays 2) 2 0 0 (Some 60000) (set_of One false) false true stands2 refl (one_may Grants2))

step4 : HeartbeatStep (in_rounds Records3 Grants3) (arriving Two (TwoAt 3)) (Replied (reply_in Two (TwoAt 3))) (in_rounds Records4 Grants4)
step4 = beats Two Records3 Grants3 2 1 0 None (set_of Two true) true true true (two_can Records3 Grants3 OneArrived 2 stands3 refl)

step5 : HeartbeatStep (in_rounds Records4 Grants4) (arriving One OneThird) (Replied (reply_in One OneThird)) (in_rounds Records5 Grants5)
step5 =
    beats One Records4 Grants4 3 1 1 None (set_of One false) false true false
    (one_can Records4 Grants4 (TwoStays 3) 3 1 1 None (set_of One false) false true stands4 refl (one_may Grants4))

step6 : HeartbeatStep (in_rounds Records5 Grants5) (arriving Two (TwoAt 4)) (Replied (reply_in Two (TwoAt 4))) (in_rounds Records6 Grants6)
step6 = beats Two Records5 Grants5 3 1 0 None (set_of Two true) true true true (two_can Records5 Grants5 OneStays 3 stands5 refl)

-- ---- the worlds

-- after a beat: the group, the clients, and two messages more
abbrev after_beat : Newcomer → Exchange → Client → Group → List Client → World → World
after_beat x e was g clients w =
    world_of (finite.insert w.coordinator.groups GROUP g) clients (w.requests ++ sent_in x e (after_sending was) ∷ []) (w.replies ++ pooled_in x e (after_sending was) ∷ [])

module _ (groups : Groups) (requests : List Request) (replies : List Reply) (start : finite.get groups GROUP ≡ Some (in_rounds FIRST_RECORDS FIRST_GRANTS)) where
  abbrev pub Begin : World
  Begin = world_of groups (insider One 1 1 true true ∷ insider Two 1 2 true true ∷ []) requests replies

  abbrev World1 : World
  World1 = after_beat One OneFirst (insider One 1 1 true true) (in_rounds Records1 FIRST_GRANTS) (insider One 2 1 false false ∷ insider Two 1 2 true true ∷ []) Begin

  abbrev World2 : World
  World2 = after_beat Two (TwoAt 2) (insider Two 1 2 true true) (in_rounds Records2 Grants2) (insider One 2 1 false false ∷ insider Two 2 2 true true ∷ []) World1

  abbrev World3 : World
  World3 = after_beat One OneSecond (insider One 2 1 false false) (in_rounds Records3 Grants3) (insider One 3 2 false false ∷ insider Two 2 2 true true ∷ []) World2

  abbrev World4 : World
  World4 = after_beat Two (TwoAt 3) (insider Two 2 2 true true) (in_rounds Records4 Grants4) (insider One 3 2 false false ∷ insider Two 3 2 true true ∷ []) World3

  abbrev World5 : World
  World5 = after_beat One OneThird (insider One 3 2 false false) (in_rounds Records5 Grants5) (insider One 4 2 false false ∷ insider Two 3 2 true true ∷ []) World4

  abbrev pub End : World
  End = after_beat Two (TwoAt 4) (insider Two 3 2 true true) (in_rounds Records6 Grants6) (insider One 4 2 false false ∷ insider Two 4 2 true true ∷ []) World5

  turn1 : HasTurn Begin 1 World1
  turn1 =
      releases One 1 0 0 true true false (one_says 2 1 true 0 (omega arith) (omega arith) (omega arith) beats_fit.0) refl refl groups Begin.clients (insider One 2 1 true false ∷ insider Two 1 2 true true ∷ []) requests replies
      (in_rounds FIRST_RECORDS FIRST_GRANTS) (in_rounds Records1 FIRST_GRANTS) refl refl start step1 refl refl refl

  turn2 : HasTurn World1 2 World2
  turn2 =
      turns Two 1 1 1 true true true (two_says 2 (omega arith) beats_fit.3) refl refl World1.coordinator.groups World1.clients World2.clients World1.requests World1.replies
      (in_rounds Records1 FIRST_GRANTS) (in_rounds Records2 Grants2) refl refl (get-inserted text_cmp_total groups GROUP (in_rounds Records1 FIRST_GRANTS)) step2 refl refl

  turn3 : HasTurn World2 1 World3
  turn3 =
      turns One 2 0 1 false false false (one_says 3 1 false 1 (omega arith) (omega arith) (omega arith) beats_fit.1) refl refl World2.coordinator.groups World2.clients World3.clients World2.requests World2.replies
      (in_rounds Records2 Grants2) (in_rounds Records3 Grants3) refl refl (get-inserted text_cmp_total World1.coordinator.groups GROUP (in_rounds Records2 Grants2)) step3 refl refl

  turn4 : HasTurn World3 2 World4
  turn4 =
      turns Two 2 1 1 true true true (two_says 3 (omega arith) beats_fit.4) refl refl World3.coordinator.groups World3.clients World4.clients World3.requests World3.replies
      (in_rounds Records3 Grants3) (in_rounds Records4 Grants4) refl refl (get-inserted text_cmp_total World2.coordinator.groups GROUP (in_rounds Records3 Grants3)) step4 refl refl

  turn5 : HasTurn World4 1 World5
  turn5 =
      turns One 3 1 1 false false false (one_says 4 2 false 1 (omega arith) (omega arith) (omega arith) beats_fit.2) refl refl World4.coordinator.groups World4.clients World5.clients World4.requests World4.replies
      (in_rounds Records4 Grants4) (in_rounds Records5 Grants5) refl refl (get-inserted text_cmp_total World3.coordinator.groups GROUP (in_rounds Records4 Grants4)) step5 refl refl

  turn6 : HasTurn World5 2 End
  turn6 =
      turns Two 3 1 1 true true true (two_says 4 (omega arith) beats_fit.5) refl refl World5.coordinator.groups World5.clients End.clients World5.requests World5.replies
      (in_rounds Records5 Grants5) (in_rounds Records6 Grants6) refl refl (get-inserted text_cmp_total World4.coordinator.groups GROUP (in_rounds Records5 Grants5)) step6 refl refl

  pub rounds : Settles Begin End
  rounds = (World2, (World1, turn1, (World2, turn2, refl)), (World4, (World3, turn3, (World4, turn4, refl)), (End, (World5, turn5, (End, turn6, refl)), refl)))
