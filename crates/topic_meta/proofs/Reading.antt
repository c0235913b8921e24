-- A list as it is read entry by entry.
use Rattle.std.proofs.lemmas.List.{nil_from_length}
use Rattle.std.proofs.Common.{◌≡◌, ◌≤◌, Bool, true, false, ◌||◌, List, [], ◌∷◌, ◌++◌, length, refl, sym, ap, subst, ◌∙◌, arith, Some, None, append_assoc, true≢false, nat_lt}
use Rattle.std.specs.Option.{option_or}
use Rattle.std.proofs.lemmas.List.{map-append, append-nil}
use Rattle.std.proofs.lemmas.Bool.{ltb-false}
use Rattle.std.proofs.Math.ListN.{length-append}
use Rattle.flex_wire.specs.Spelling.{FitsUuid}
use Rattle.group_types.specs.Limits.{MOST_TOPICS, MOST_PARTITIONS}
use Rattle.group_types.specs.Images.{AreImageTopics}
use Rattle.topic_meta.specs.declared.draft.Draft.{Draft}
use Rattle.topic_meta.specs.declared.image_fault.ImageFault.{ImageFault}
use Rattle.topic_meta.specs.declared.topic.TopicEntry.{TopicEntry}
use Rattle.topic_meta.specs.Drafts.{IsDraftOf}
use Rattle.topic_meta.specs.Images.{Entry, entry_of, entries_of, topics_of, fault_of, first_fault_after, first_fault, is_too_many, partitions_in}
use Rattle.topic_meta.specs.Stored.{topics_in}
use Rattle.topic_meta.proofs.Sound.{IsSound, sound-nil, sound-push, topics_of-AreImageTopics}

-- of `all`, the entries of `done` were read into the draft without a fault, and those of `rest` are to come
pub record IsReading (all done rest : List TopicEntry) (draft : Draft) : Type 0 where
  pub parts : all ≡ done ++ rest
  pub drafted : IsDraftOf (entries_of done) draft
  pub sound : IsSound (entries_of done)
  pub clear : first_fault_after [] (entries_of all) ≡ first_fault_after (entries_of done) (entries_of rest)

pub reading-start : (all rest : List TopicEntry) (draft : Draft) → rest ≡ all → IsDraftOf [] draft → IsReading all [] rest draft
reading-start all rest draft same is = record {
  parts = sym same;
  drafted = is;
  sound = sound-nil;
  clear = ap (λ list. first_fault_after [] (entries_of list)) (sym same);
}

module _ (all done rest left : List TopicEntry) (old : Draft) (x : TopicEntry) (taken : rest ≡ x ∷ left) (reading : IsReading all done rest old) where
  -- the first fault of the list, where that of this entry comes first
  next_fault : first_fault_after [] (entries_of all) ≡ option_or (fault_of (entries_of done) (entry_of x)) (first_fault_after (entries_of done ++ entry_of x ∷ []) (entries_of left))
  next_fault = reading.clear ∙ ap (λ list. first_fault_after (entries_of done) (entries_of list)) taken

  pub reading-fault : (fault : ImageFault) → fault_of (entries_of done) (entry_of x) ≡ Some fault → first_fault_after [] (entries_of all) ≡ Some fault
  reading-fault fault is = next_fault ∙ ap (λ f. option_or f (first_fault_after (entries_of done ++ entry_of x ∷ []) (entries_of left))) is

  pub reading-more : (new : Draft) → fault_of (entries_of done) (entry_of x) ≡ None → FitsUuid (entry_of x).id
      → IsDraftOf (entries_of done ++ entry_of x ∷ []) new → IsReading all (done ++ x ∷ []) left new
  reading-more new none uuid is =
      let longer : entries_of done ++ entry_of x ∷ [] ≡ entries_of (done ++ x ∷ []) = sym (map-append entry_of done (x ∷ [])) in
      record {
        parts = reading.parts ∙ ap (λ list. done ++ list) taken ∙ sym (append_assoc done (x ∷ []) left);
        drafted = subst (λ entries. IsDraftOf entries new) longer is;
        sound = subst IsSound longer (sound-push (entries_of done) (entry_of x) reading.sound none uuid);
        clear = next_fault
            ∙ ap (λ f. option_or f (first_fault_after (entries_of done ++ entry_of x ∷ []) (entries_of left))) none
            ∙ ap (λ entries. first_fault_after entries (entries_of left)) longer;
      }

-- where as many were read as there are, none is to come
pub nothing_to_come : {A : Type 0} (all done rest : List A) → all ≡ done ++ rest → length done ≡ length all → rest ≡ []
nothing_to_come all done rest parts same =
    nil_from_length rest (let sum = ap length parts ∙ length-append done rest in omega arith)

either_false : (a b : Bool) → (a || b) ≡ false → (a ≡ false) × (b ≡ false)
either_false true b h = absurd (true≢false h)
either_false false b h = (refl, h)

pub first_fault-of_short : (entries : List Entry) → is_too_many entries ≡ false → first_fault entries ≡ first_fault_after [] entries
first_fault-of_short entries short = rw short refl

short_of : (entries : List Entry) → is_too_many entries ≡ false → length entries ≤ MOST_TOPICS
short_of entries short = ltb-false MOST_TOPICS (length entries) (either_false (nat_lt MOST_TOPICS (length entries)) (nat_lt MOST_PARTITIONS (partitions_in entries)) short).0

small_of : (entries : List Entry) → is_too_many entries ≡ false → partitions_in entries ≤ MOST_PARTITIONS
small_of entries short = ltb-false MOST_PARTITIONS (partitions_in entries) (either_false (nat_lt MOST_TOPICS (length entries)) (nat_lt MOST_PARTITIONS (partitions_in entries)) short).1

module _ (all done rest : List TopicEntry) (draft : Draft) (short : is_too_many (entries_of all) ≡ false) (ended : rest ≡ []) (reading : IsReading all done rest draft) where
  whole : done ≡ all
  whole = sym (append-nil done) ∙ sym (reading.parts ∙ ap (λ list. done ++ list) ended)

  pub reading-no_fault : first_fault (entries_of all) ≡ None
  reading-no_fault = first_fault-of_short (entries_of all) short ∙ reading.clear ∙ ap (λ list. first_fault_after (entries_of done) (entries_of list)) ended

  pub reading-topics : topics_in draft.topics.entries ≡ topics_of (entries_of all)
  reading-topics = reading.drafted.topics ∙ ap (λ list. topics_of (entries_of list)) whole

  pub reading-AreImageTopics : AreImageTopics (topics_in draft.topics.entries)
  reading-AreImageTopics =
      subst AreImageTopics (sym reading-topics)
      (topics_of-AreImageTopics (entries_of all) (subst (λ list. IsSound (entries_of list)) whole reading.sound) (short_of (entries_of all) short) (small_of (entries_of all) short))
