-- What words spell can be said in requests.
use Rattle.std.proofs.Common.{inl, inr, ℕ, List, [], All, Option, Some, None, sym, subst, arith}
use Rattle.std.proofs.lemmas.List.Elements.{All-nil, All-cons}
use Rattle.group_types.specs.Text.{Text}
use Rattle.kip_msgs.specs.Values.{CommitRequestPartitionValue, CommitRequestTopicValue}
use Rattle.kip_msgs.specs.Writable.{IsShort, IsShortIfAny, IsWritableCommitRequestPartition}
use Rattle.coord_node.proofs.ReplyLemmas.{FitsTaggedFields-nil}
use Rattle.member_core.specs.Settings.{Settings}
use Rattle.member_core.specs.Views.{HasShortTexts}
use Rattle.member_core.specs.Writing.{HasShortTopic}
use Rattle.world_sim.specs.Acts.{Act, Asks, GivesUp, Deliver, Take, Release, Commits, Bring, Clock, Passes, Sees}
use Rattle.world_sim.specs.Acting.{HasShortTopics}
use Rattle.scenario_lines.specs.declared.verb.Verb.{Verb}
use Rattle.scenario_lines.specs.declared.verb.Verb.TheVariants as verbs
use Rattle.scenario_lines.specs.Scripts.{SpellsNameIfAny, SpellsNames, SpellSettings, SpellsAct, NamesOffset}

short_name : (word : List ℕ) (name : Option Text) → SpellsNameIfAny word name → IsShortIfAny name
short_name word None is = tt
short_name word (Some name) is = subst IsShort (sym is.1) is.0.short

short_names : (word : List ℕ) (names : List Text) → SpellsNames word names → All IsShort names
short_names word names (inl none) = subst (All IsShort) (sym none.1) (All-nil IsShort)
short_names word names (inr some) = λ k d below. (some.1 k d below).0.short

pub short_settings : (words : List (List ℕ)) (s : Settings) → SpellSettings words s → HasShortTexts s
short_settings words s spell =
    record {
      group = spell.group.short;
      instance = short_name spell.instance s.instance spell.instance_is;
      rack = subst IsShortIfAny (sym spell.no_rack) tt;
      rebalance_timeout = omega (arith, spell.rebalance_is.below);
      names = short_names spell.topics s.names spell.topics_are;
      assignor = short_name spell.assignor s.assignor spell.assignor_is;
    }

short_topics : (cast : List Text) (words : List (List ℕ)) (client : ℕ) (topics : List CommitRequestTopicValue) → NamesOffset cast words client topics → All HasShortTopic topics
short_topics cast words client topics names =
    let P : CommitRequestPartitionValue → Type 0 = IsWritableCommitRequestPartition in
    subst (All HasShortTopic) (sym names.is_commit)
    (All-cons HasShortTopic _ []
    (record {
      name = names.is_topic.short;
      partitions = All-cons P _ [] (record { committed_metadata = tt; tags = FitsTaggedFields-nil }) (All-nil P);
      tags = FitsTaggedFields-nil;
    })
    (All-nil HasShortTopic))

-- each act that words ask for can be said
pub short_act : (cast : List Text) (verb : Verb) (words : List (List ℕ)) (act : Act) → SpellsAct cast verb words act → HasShortTopics act
short_act cast verb words (Asks client ask) spell = tt
short_act cast verb words (GivesUp client) spell = tt
short_act cast verb words (Deliver request) spell = tt
short_act cast verb words (Take reply) spell = tt
short_act cast verb words (Release client partition) spell = tt
short_act cast verbs.Commit words (Commits client topics) spell = short_topics cast words client topics spell
short_act cast verb words (Commits client topics) spell = absurd spell
short_act cast verb words (Bring commit) spell = tt
short_act cast verb words (Clock moment) spell = tt
short_act cast verb words (Passes moment) spell = tt
short_act cast verb words (Sees image) spell = tt
