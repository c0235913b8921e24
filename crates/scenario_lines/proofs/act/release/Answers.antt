use Rattle.std.proofs.Common.{rules, ◌≡◌, ℕ, ◌<◌, ◌^◌, pos, decimal, Some, sym, arith, to_z, of_z, w32}
use borrow.Author.Tests.{ltb-true, ltb-false}
use Rattle.uuid.specs.Text.{parsed}
use Rattle.scenario_text.proofs.TopicWords.{texts, three_words, word_at, kept_ok, mapped_is, not_found, found_is}
use Rattle.scenario_lines.proofs.Asked.{on_err, no_release, named_three, length-are}
use Rattle.scenario_lines.proofs.act.release.Goals as goal
use Rattle.scenario_lines.proofs.act.release.Goals.{in_default-via-then-arguments-lt3, in_default-via-else-arguments-lt3+else-arguments-lt4}

pub returns-in_default-clause-refused : goal.returns-in_default-clause-refused
returns-in_default-clause-refused c = λ deed spelled.
    no_release c.args.cast.now (texts c.args.arguments.now) deed
    (λ client p n.
    let size = length-are c.args.arguments.now _ n.are in
    elim c.in_default.branch [
      | in_default-via-then-arguments-lt3 w ↦ omega (arith, ltb-true, size)
      | in_default-via-else-arguments-lt3+else-arguments-lt4 w ↦ omega (arith, ltb-true, ltb-false, size)
    ])
    spelled

pub returns-in_err-client-clause-refused : goal.returns-in_err-client-clause-refused
returns-in_err-client-clause-refused c =
    on_err c.from_residual.result _ (λ deed spelled.
    no_release c.args.cast.now (texts c.args.arguments.now) deed
    (λ client p n.
    let all = named_three c.args.cast.now (texts c.args.arguments.now) (word_at c.args.arguments.now 0) (word_at c.args.arguments.now 1) (word_at c.args.arguments.now 2) client p (three_words c.args.arguments.now c.in-len3.len_at_least c.in-len3.len_below) n in
    c.in_err-client.ensures.refused all.0)
    spelled)

pub returns-in_err-topic-clause-refused : goal.returns-in_err-topic-clause-refused
returns-in_err-topic-clause-refused c =
    on_err c.from_residual-in_err-topic.result _ (λ deed spelled.
    no_release c.args.cast.now (texts c.args.arguments.now) deed
    (λ client p n.
    let all = named_three c.args.cast.now (texts c.args.arguments.now) (word_at c.args.arguments.now 0) (word_at c.args.arguments.now 1) (word_at c.args.arguments.now 2) client p (three_words c.args.arguments.now c.in-len3.len_at_least c.in-len3.len_below) n in
    kept_ok c.parse_str.result c.map_err.result _ c.in_err-topic.was c.map_err.ensures.variant (c.parse_str.ensures.ok.1 (p.topic, all.1)))
    spelled)

pub returns-in_err-index-clause-refused : goal.returns-in_err-index-clause-refused
returns-in_err-index-clause-refused c =
    on_err c.from_residual-in_err-index.result _ (λ deed spelled.
    no_release c.args.cast.now (texts c.args.arguments.now) deed
    (λ client p n.
    let all = named_three c.args.cast.now (texts c.args.arguments.now) (word_at c.args.arguments.now 0) (word_at c.args.arguments.now 1) (word_at c.args.arguments.now 2) client p (three_words c.args.arguments.now c.in-len3.len_at_least c.in-len3.len_below) n in
    not_found c.count_of.result _ _ _ c.in_err-index.ensures.value c.count_of.ensures.none n.number all.2.below all.2.spelled)
    spelled)

pub returns-clause-asked : goal.returns-clause-asked
returns-clause-asked c =
    let words = c.args.arguments.now in
    let counted = found_is c.count_of.result _ c.in_ok-index.index (λ n. (number : ℕ) × (number < 2 ^ 31) × (n ≡ pos number) × (word_at words 2 ≡ decimal number))
    c.in_ok-index.ensures.value c.count_of.ensures.some in
    let index : to_z w32 (of_z w32 c.in_ok-index.index) ≡ c.in_ok-index.index = search rules in
    rw index (record {
      name = word_at words 0;
      topic = word_at words 1;
      index = word_at words 2;
      number = counted.0;
      is_client = c.in_ok-client.ensures.client;
      is_topic = sym (mapped_is c.parse_str.result c.map_err.result c.in_ok-topic.topic (λ u. Some u ≡ parsed (word_at words 1)) _ c.in_ok-topic.was c.map_err.ensures.variant c.map_err.ensures.cases c.parse_str.ensures.bytes);
      is_index = record { below = counted.1; spelled = counted.3 };
      is_number = counted.2;
      are = three_words words c.in-len3.len_at_least c.in-len3.len_below;
    })
