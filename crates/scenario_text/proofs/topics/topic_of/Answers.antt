use Rattle.std.proofs.Common.{rules, Some, sym, ◌≡◌, ◌<◌, ℕ, ◌^◌, decimal, pos, to_z, of_z, w32, arith}
use borrow.Author.Tests.{ltb-true, ltb-false}
use Rattle.uuid.specs.Text.{parsed}
use Rattle.topic_meta.specs.Images.{entry_of}
use Rattle.scenario_text.specs.Words.{IsName}
use Rattle.scenario_text.proofs.TopicWords.{kept_ok, mapped_is, topic_is_three, topic_of_three, three_spell, not_found, found_is, word_at}
use Rattle.scenario_text.proofs.topics.topic_of.Goals as goal
use Rattle.scenario_text.proofs.topics.topic_of.Goals.{in_default-via-then-words-lt3, in_default-via-else-words-lt3+else-words-lt4}

pub returns-in_default-clause-refused : goal.returns-in_default-clause-refused
returns-in_default-clause-refused c = λ _ entry one.
    let three = topic_is_three c.args.words.now entry one in
    elim c.in_default.branch [
      | in_default-via-then-words-lt3 w ↦ omega (arith, ltb-true)
      | in_default-via-else-words-lt3+else-words-lt4 w ↦ omega (arith, ltb-true, ltb-false)
    ]

pub returns-in_err-id-clause-refused : goal.returns-in_err-id-clause-refused
returns-in_err-id-clause-refused c = λ _ entry one.
    let topic = topic_of_three c.args.words.now entry c.in-len3.len_at_least c.in-len3.len_below one in
    kept_ok c.parse_str.result c.map_err.result _ c.in_err-id.was c.map_err.ensures.variant (c.parse_str.ensures.ok.1 (entry.id, topic.identified))

pub returns-in_err-count-clause-refused : goal.returns-in_err-count-clause-refused
returns-in_err-count-clause-refused c = λ _ entry one.
    let topic = topic_of_three c.args.words.now entry c.in-len3.len_at_least c.in-len3.len_below one in
    not_found c.count_of.result _ _ _ c.in_err-count.ensures.value c.count_of.ensures.none topic.number topic.small topic.spelled

pub returns-clause-topic : goal.returns-clause-topic
returns-clause-topic c =
    let words = c.args.words.now in
    let count : to_z w32 (of_z w32 c.in_ok-count.count) ≡ c.in_ok-count.count = search rules in
    let counted = found_is c.count_of.result _ c.in_ok-count.count (λ n. (number : ℕ) × (number < 2 ^ 31) × (n ≡ pos number) × (word_at words 2 ≡ decimal number))
    c.in_ok-count.ensures.value c.count_of.ensures.some in
    let is_name : IsName (word_at words 0) = search rules in
    rw count
    (three_spell words (entry_of (record { name = c.in_ok-name.name; id = c.in_ok-id.id; count = c.in_ok-count.count })) c.in-len3.len_at_least c.in-len3.len_below
    (record {
      is_name = is_name;
      named = c.in_ok-name.ensures.ok;
      identified = sym (mapped_is c.parse_str.result c.map_err.result c.in_ok-id.id (λ u. Some u ≡ parsed (word_at words 1)) _ c.in_ok-id.was c.map_err.ensures.variant c.map_err.ensures.cases c.parse_str.ensures.bytes);
      number = counted.0;
      small = counted.1;
      counted = counted.2;
      spelled = counted.3;
    }))
