use Rattle.std.proofs.Common.{rules, ◌≡◌, ℕ, ◌<◌, ◌^◌, pos, decimal, ap, ◌∙◌, arith, to_z, of_z, w32, w64}
use borrow.Author.Tests.{ltb-true, ltb-false}
use Rattle.scenario_text.specs.Numbers.{SpellsOffset}
use Rattle.scenario_lines.specs.Scripts.{offset_of_one}
use Rattle.scenario_text.specs.Words.{IsName}
use Rattle.scenario_text.proofs.TopicWords.{texts, word_at, not_found, found_is}
use Rattle.scenario_text.proofs.GivenWords.{not_both}
use Rattle.scenario_lines.proofs.Described.{four_words}
use Rattle.scenario_lines.proofs.Asked.{no_commit, named_four, length-are}
use Rattle.scenario_lines.proofs.act.commit.Goals as goal
use Rattle.scenario_lines.proofs.act.commit.Goals.{in_default-via-then-arguments-lt4, in_default-via-else-arguments-lt4+else-arguments-lt5}

pub returns-in_default-clause-refused : goal.returns-in_default-clause-refused
returns-in_default-clause-refused c = λ bad deed spelled.
    no_commit c.args.cast.now (texts c.args.arguments.now) deed
    (λ client topics n.
    let size = length-are c.args.arguments.now _ n.are in
    elim c.in_default.branch [
      | in_default-via-then-arguments-lt4 w ↦ omega (arith, ltb-true, size)
      | in_default-via-else-arguments-lt4+else-arguments-lt5 w ↦ omega (arith, ltb-true, ltb-false, size)
    ])
    spelled

pub returns-in_err-client-clause-refused : goal.returns-in_err-client-clause-refused
returns-in_err-client-clause-refused c = λ bad deed spelled.
    no_commit c.args.cast.now (texts c.args.arguments.now) deed
    (λ client topics n.
    let all = named_four c.args.cast.now (texts c.args.arguments.now) (word_at c.args.arguments.now 0) (word_at c.args.arguments.now 1) (word_at c.args.arguments.now 2) (word_at c.args.arguments.now 3) client topics (four_words c.args.arguments.now c.in-len4.len_at_least c.in-len4.len_below) n in
    c.in_err-client.ensures.refused all.0)
    spelled

pub returns-then-not-is_name-clause-refused : goal.returns-then-not-is_name-clause-refused
returns-then-not-is_name-clause-refused c = λ bad deed spelled.
    no_commit c.args.cast.now (texts c.args.arguments.now) deed
    (λ client topics n.
    let all = named_four c.args.cast.now (texts c.args.arguments.now) (word_at c.args.arguments.now 0) (word_at c.args.arguments.now 1) (word_at c.args.arguments.now 2) (word_at c.args.arguments.now 3) client topics (four_words c.args.arguments.now c.in-len4.len_at_least c.in-len4.len_below) n in
    not_both c.is_name.result (c.is_name.ensures.1 all.1) c.if-not-is_name.true)
    spelled

pub returns-in_err-index-clause-refused : goal.returns-in_err-index-clause-refused
returns-in_err-index-clause-refused c = λ bad deed spelled.
    no_commit c.args.cast.now (texts c.args.arguments.now) deed
    (λ client topics n.
    let all = named_four c.args.cast.now (texts c.args.arguments.now) (word_at c.args.arguments.now 0) (word_at c.args.arguments.now 1) (word_at c.args.arguments.now 2) (word_at c.args.arguments.now 3) client topics (four_words c.args.arguments.now c.in-len4.len_at_least c.in-len4.len_below) n in
    not_found c.count_of.result _ _ _ c.in_err-index.ensures.value c.count_of.ensures.none n.number all.2.below all.2.spelled)
    spelled

pub returns-in_err-offset-clause-refused : goal.returns-in_err-offset-clause-refused
returns-in_err-offset-clause-refused c = λ bad deed spelled.
    no_commit c.args.cast.now (texts c.args.arguments.now) deed
    (λ client topics n.
    let all = named_four c.args.cast.now (texts c.args.arguments.now) (word_at c.args.arguments.now 0) (word_at c.args.arguments.now 1) (word_at c.args.arguments.now 2) (word_at c.args.arguments.now 3) client topics (four_words c.args.arguments.now c.in-len4.len_at_least c.in-len4.len_below) n in
    not_found c.offset_of.result _ _ _ c.in_err-offset.ensures.value c.offset_of.ensures.none n.committed all.3)
    spelled

pub returns-clause-asked : goal.returns-clause-asked
returns-clause-asked c =
    let words = c.args.arguments.now in
    let counted = found_is c.count_of.result _ c.in_ok-index.index (λ n. (number : ℕ) × (number < 2 ^ 31) × (n ≡ pos number) × (word_at words 2 ≡ decimal number))
    c.in_ok-index.ensures.value c.count_of.ensures.some in
    let committed = found_is c.offset_of.result _ c.in_ok-offset.offset (SpellsOffset (word_at words 3)) c.in_ok-offset.ensures.value c.offset_of.ensures.some in
    let is_topic : IsName (word_at words 1) = search rules in
    let index : to_z w32 (of_z w32 c.in_ok-index.index) ≡ c.in_ok-index.index = search rules in
    let offset : to_z w64 (of_z w64 c.in_ok-offset.offset) ≡ c.in_ok-offset.offset = search rules in
    record {
      name = word_at words 0;
      topic = word_at words 1;
      index = word_at words 2;
      offset = word_at words 3;
      number = counted.0;
      committed = c.in_ok-offset.offset;
      is_client = c.in_ok-client.ensures.client;
      is_topic = is_topic;
      is_index = record { below = counted.1; spelled = counted.3 };
      is_offset = committed;
      is_commit = c.in_ok-topics.ensures counted.0 (index ∙ counted.2) ∙ ap (offset_of_one (word_at words 1) counted.0) offset;
      are = four_words words c.in-len4.len_at_least c.in-len4.len_below;
    }
