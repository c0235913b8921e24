-- Every log has an end, to which every replica comes.
use Rattle.std.proofs.Common.{◌≡◌, ◌≢◌, ℕ, ◌+◌, Bool, true, false, ◌||◌, List, [], ◌∷◌, ◌++◌, length, Option, option_map, Some, None, Ok, Err, refl, sym, subst, ◌∙◌, append_assoc, append-nil, true≢false, nat_lt, arith}
use Rattle.std.specs.Prelude.{pos, if◌then◌else◌}
use Rattle.std.specs.List.{AllByRecursion}
use Rattle.std.specs.Option.{option_or}
use Rattle.std.proofs.lemmas.Bool.{ltb-false}
use Rattle.std.proofs.lemmas.List.Elements.{recursion_from_All}
use Rattle.flex_wire.specs.Laws.{AreBytes}
use Rattle.flex_wire.specs.Spelling.{FitsUuid, int16, int32, int64}
use Rattle.flex_wire.proofs.Fields.{AreBytes-rest}
use Rattle.group_types.specs.Images.{AreImageTopics}
use Rattle.group_types.specs.Limits.{MOST_PARTITIONS, MOST_TOPICS}
use Rattle.topic_meta.specs.declared.image_fault.ImageFault.{ImageFault}
use Rattle.topic_meta.specs.declared.image_fault.ImageFault.TheVariants.{TooMany}
use Rattle.topic_meta.specs.Images.{Entry, fault_of, first_fault, first_fault_after, is_too_many, partitions_in, topics_of}
use Rattle.topic_meta.proofs.Sound as topics
use Rattle.coord_node.specs.Coordinator.{Answer, Coordinator, Event}
use Rattle.coord_node.specs.Existence.{EventsAreAnswered, IsComing}
use Rattle.coord_node.specs.Laws.{IsServing, OneAnswer}
use Rattle.replica_entries.specs.declared.fault.EntryFault.TheVariants as entry
use Rattle.replica_entries.specs.Kinds.{VERSION, kind_number}
use Rattle.replica_entries.specs.Reading.{entry_at}
use Rattle.replica_entries.specs.Spelling.{FitsTopic, FitsTopics, SpellsEntry, content_fields, entry_fields, frame_fields}
use Rattle.replica_entries.specs.Values.{ContentValue, EntryValue, FrameValue, frame, image, kind_of, leads, tick}
use Rattle.replica_entries.proofs.EntryLaws.{entry_parts}
use Rattle.replica_entries.proofs.SpellingLaws.{fault_is_true, read_spells}
use Rattle.coord_replica.specs.declared.fault.ReplicaFault.{ReplicaFault}
use Rattle.coord_replica.specs.Applying.{Applies, EventStep, Fate, LogRun, Logged, PassedOver, Taken, moment_after, read_log, refusal_of, refusal_of_read, topics_fault}
use Rattle.coord_replica.specs.Entries.{event_of, event_under}
use Rattle.coord_replica.specs.Faults.{fault_of_entry, fault_of_topics}
use Rattle.coord_replica.specs.Laws.{EveryReplicaCatchesUp, IsOfKnownVersion}
use Rattle.coord_replica.specs.Replicas.{LogState}
use Rattle.coord_replica.proofs.Refusals.{IsDue-from_refusal_of}
use Rattle.coord_replica.proofs.Runs.{applied_of}
use Rattle.coord_replica.proofs.Same.{same_run}

-- ---- topics without a fault are an image's

none_of : (o p : Option ImageFault) → option_or o p ≡ None → (o ≡ None) × (p ≡ None)
none_of None p is = (refl, is)
none_of (Some fault) p is = cc

abbrev HasUuid : Entry → Type 0
HasUuid e = FitsUuid e.id

sound_after : (earlier entries : List Entry) → topics.IsSound earlier → first_fault_after earlier entries ≡ None → AllByRecursion HasUuid entries
    → topics.IsSound (earlier ++ entries)
sound_after earlier [] sound none uuids = subst topics.IsSound (sym (append-nil earlier)) sound
sound_after earlier (e ∷ entries) sound none uuids =
    let parts = none_of (fault_of earlier e) (first_fault_after (earlier ++ e ∷ []) entries) none in
    subst topics.IsSound (append_assoc earlier (e ∷ []) entries)
    (sound_after (earlier ++ e ∷ []) entries (topics.sound-push earlier e sound parts.0 uuids.0) parts.1 uuids.1)

either_false : (a b : Bool) → (a || b) ≡ false → (a ≡ false) × (b ≡ false)
either_false true b h = absurd (true≢false h)
either_false false b h = (refl, h)

are_image : (entries : List Entry) → first_fault entries ≡ None → AllByRecursion HasUuid entries → AreImageTopics (topics_of entries)
are_image entries none uuids = by (is_too_many entries) refl none
  where
    by : (b : Bool) → is_too_many entries ≡ b → (if b then Some TooMany else first_fault_after [] entries) ≡ None → AreImageTopics (topics_of entries)
    by true many none = cc
    by false few none =
        let parts = either_false (nat_lt MOST_TOPICS (length entries)) (nat_lt MOST_PARTITIONS (partitions_in entries)) few in
        topics.topics_of-AreImageTopics entries (sound_after [] entries topics.sound-nil none uuids) (ltb-false MOST_TOPICS (length entries) parts.0)
        (ltb-false MOST_PARTITIONS (partitions_in entries) parts.1)

no_fault : (o : Option ImageFault) → option_map fault_of_topics o ≡ None → o ≡ None
no_fault None is = refl
no_fault (Some fault) is = cc

uuids_of : (entries : List Entry) → AllByRecursion FitsTopic entries → AllByRecursion HasUuid entries
uuids_of [] all = tt
uuids_of (e ∷ entries) all = (all.0.id, uuids_of entries all.1)

-- ---- a frame's body is of bytes

body_rest : (f : FrameValue) → AreBytes (frame_fields f) → AreBytes f.body
unfolding frame_fields
body_rest f are =
    subst AreBytes (append-nil f.body)
    (AreBytes-rest (int64 (pos f.moment)) (f.body ++ []) (AreBytes-rest (int64 (pos f.number)) (int64 (pos f.moment) ++ (f.body ++ []))
    (AreBytes-rest (int32 (pos f.connection)) (int64 (pos f.number) ++ (int64 (pos f.moment) ++ (f.body ++ []))) are)))

content_rest : (e : EntryValue) (bytes : List ℕ) → AreBytes bytes → bytes ≡ entry_fields e → AreBytes (content_fields e.content)
content_rest e bytes are is =
    let content : List ℕ = content_fields e.content ++ [] in
    let behind : List ℕ = int32 (pos e.leadership) ++ content in
    let parts : bytes ≡ int16 VERSION ++ (int16 (kind_number (kind_of e.content)) ++ behind) =
    is ∙ sym (append-nil (entry_fields e)) ∙ entry_parts e.leadership e.content [] in
    subst AreBytes (append-nil (content_fields e.content))
    (AreBytes-rest (int32 (pos e.leadership)) content (AreBytes-rest (int16 (kind_number (kind_of e.content))) behind
    (AreBytes-rest (int16 VERSION) (int16 (kind_number (kind_of e.content)) ++ behind) (subst AreBytes parts are))))

body_of : (f : FrameValue) → AreBytes (content_fields (frame f)) → AreBytes f.body
unfolding content_fields
body_of f are = body_rest f are

-- ---- one place more

-- what comes to the coordinator, if anything does
abbrev Comes : Option Event → Type 0
Comes None = Unit {0}
Comes (Some event) = IsComing event

comes : (e : EntryValue) (bytes : List ℕ) → AreBytes bytes → SpellsEntry e bytes → topics_fault e.content ≡ None → Comes (event_of e)
comes e bytes are spells none = by e.content (content_rest e bytes are spells.bytes) spells.fits.topics none
  where
    by : (content : ContentValue) → AreBytes (content_fields content) → FitsTopics content → topics_fault content ≡ None → Comes (event_under e.leadership content)
    by (frame f) are fits none = body_of f are
    by (tick moment) are fits none = tt
    by (image list) are fits none = are_image list (no_fault (first_fault list) none) (uuids_of list (recursion_from_All FitsTopic list fits.1))
    by leads are fits none = tt

record Next (s : LogState) (at : Logged) : Type 0 where
  pub fate : Fate
  pub new : LogState
  pub applies : Applies s at fate new
  pub serves : IsServing new.coordinator

record Answers (c : Coordinator) (event : Option Event) : Type 0 where
  pub answer : Option Answer
  pub new : Coordinator
  pub step : EventStep c event answer new
  pub serves : IsServing new

module _ (one_answer : OneAnswer) (answered : EventsAreAnswered) where
  answers : (c : Coordinator) (event : Option Event) → IsServing c → Comes event → Answers c event
  answers c None serving comes = record { answer = None; new = c; step = (refl, refl); serves = serving }
  answers c (Some event) serving comes =
      let it = answered c event serving comes in record { answer = Some it.0; new = it.1; step = it.2; serves = it.3 }

  -- an entry that isn't refused is taken
  taken : (s : LogState) (e : EntryValue) → IsServing s.coordinator → (topics_fault e.content ≡ None → Comes (event_of e)) → refusal_of s e ≡ None → Next s (Ok e)
  taken s e serving comes none =
      let it = answers s.coordinator (event_of e) serving (comes (IsDue-from_refusal_of s e none).topics) in
      record {
        fate = Taken it.answer;
        new = record { coordinator = it.new; applied = s.applied + 1; leadership = e.leadership; moment = moment_after s.moment e.content };
        applies = record { taken = none; step = it.step; applied = refl; leadership = refl; moment = refl };
        serves = it.serves;
      }

  -- .. and whatever else is of a version that is read is passed over
  passed : (s : LogState) (at : Logged) (fault : ReplicaFault) → IsServing s.coordinator → at ≢ Err entry.UnknownVersion → refusal_of_read s at ≡ Some fault → Next s at
  passed s at fault serving known refused =
      record {
        fate = PassedOver fault;
        new = record s { applied = s.applied + 1 };
        applies = record { refused = refused; known = known; becomes = refl };
        serves = serving;
      }

  next : (s : LogState) (bytes : List ℕ) → IsServing s.coordinator → IsOfKnownVersion bytes → Next s (entry_at bytes)
  next s bytes serving is = by (entry_at bytes) refl
    where
      read : (e : EntryValue) → entry_at bytes ≡ Ok e → (o : Option ReplicaFault) → refusal_of s e ≡ o → Next s (Ok e)
      read e same None none = taken s e serving (comes e bytes is.are (read_spells bytes e is.are same)) none
      read e same (Some fault) refused = passed s (Ok e) fault serving (λ never. cc) refused

      by : (at : Logged) → entry_at bytes ≡ at → Next s at
      by (Ok e) same = read e same (refusal_of s e) refl
      by (Err fault) same =
          passed s (Err fault) (fault_of_entry fault) serving (λ later. is.known (fault_is_true bytes entry.UnknownVersion is.are (same ∙ later))) refl

  record Ends (s : LogState) (log : List (List ℕ)) : Type 0 where
    fates : List Fate
    end : LogState
    run : LogRun s (read_log log) fates end

  ends : (s : LogState) (log : List (List ℕ)) → IsServing s.coordinator → AllByRecursion IsOfKnownVersion log → Ends s log
  ends s [] serving all = record { fates = []; end = s; run = refl }
  ends s (bytes ∷ log) serving all =
      let first = next s bytes serving all.0 in
      let rest = ends first.new log first.serves all.1 in
      record { fates = first.fate ∷ rest.fates; end = rest.end; run = (first.new, first.applies, rest.run) }

  read_length : (log : List (List ℕ)) → length (read_log log) ≡ length log
  read_length [] = refl
  read_length (bytes ∷ log) = let rest = read_length log in omega arith

  pub every_replica_catches_up : EveryReplicaCatchesUp
  every_replica_catches_up s log serving all =
      let it = ends s log serving (recursion_from_All IsOfKnownVersion log all) in
      record {
        fates = it.fates;
        end = it.end;
        run = it.run;
        applied = let long : it.end.applied ≡ s.applied + length (read_log log) = applied_of s it.end (read_log log) it.fates it.run in
            let same = read_length log in omega arith;
        only = λ others other run. (same_run one_answer s (read_log log) others it.fates other it.end run it.run).1;
      }
