use Rattle.std.proofs.Common.{rules, subst, ◌≡◌, [], ◌∷◌, Err, sym, refl, ap, ◌∙◌, arith}
use Rattle.std.specs.Prelude.{string_bytes}
use borrow.Author.Tests.{ltb-true, ltb-false}
use Rattle.scenario_text.specs.declared.fault.LineFault.TheVariants.{BadLine}
use Rattle.scenario_text.specs.Words.{IsName}
use Rattle.scenario_text.proofs.TopicWords.{texts, word_at}
use Rattle.scenario_text.proofs.GivenWords.{not_both}
use Rattle.scenario_lines.proofs.Described.{five_words, said_five}
use Rattle.scenario_lines.proofs.Asked.{length-are}
use Rattle.scenario_lines.proofs.settings.settings_of.Goals as goal
use Rattle.scenario_lines.proofs.settings.settings_of.Goals.{in_default-via-then-words-lt5, in_default-via-else-words-lt5+else-words-lt6}

pub returns-in_default-clause-refused : goal.returns-in_default-clause-refused
returns-in_default-clause-refused c = λ bad s spelled.
    let size = length-are c.args.words.now _ spelled.are in
    elim c.in_default.branch [
      | in_default-via-then-words-lt5 w ↦ omega (arith, ltb-true, size)
      | in_default-via-else-words-lt5+else-words-lt6 w ↦ omega (arith, ltb-true, ltb-false, size)
    ]

pub returns-then-not-is_name-clause-refused : goal.returns-then-not-is_name-clause-refused
returns-then-not-is_name-clause-refused c = λ bad s spelled.
    let says = said_five (texts c.args.words.now) (word_at c.args.words.now 0) (word_at c.args.words.now 1) (word_at c.args.words.now 2) (word_at c.args.words.now 3) (word_at c.args.words.now 4) s (five_words c.args.words.now c.in-len5.len_at_least c.in-len5.len_below) spelled in
    not_both c.is_name.result (c.is_name.ensures.1 says.group) c.if-not-is_name.true

pub returns-in_err-rebalance_timeout-clause-refused : goal.returns-in_err-rebalance_timeout-clause-refused
returns-in_err-rebalance_timeout-clause-refused c = λ bad s spelled.
    let says = said_five (texts c.args.words.now) (word_at c.args.words.now 0) (word_at c.args.words.now 1) (word_at c.args.words.now 2) (word_at c.args.words.now 3) (word_at c.args.words.now 4) s (five_words c.args.words.now c.in-len5.len_at_least c.in-len5.len_below) spelled in
    c.in_err-rebalance_timeout.ensures.refused s.rebalance_timeout says.rebalance

pub returns-in_err-instance-clause-refused : goal.returns-in_err-instance-clause-refused
returns-in_err-instance-clause-refused c = λ bad s spelled.
    let says = said_five (texts c.args.words.now) (word_at c.args.words.now 0) (word_at c.args.words.now 1) (word_at c.args.words.now 2) (word_at c.args.words.now 3) (word_at c.args.words.now 4) s (five_words c.args.words.now c.in-len5.len_at_least c.in-len5.len_below) spelled in
    let is_bad : c.names_or_none.result ≡ Err BadLine = search rules in
    c.names_or_none.ensures.refused is_bad s.instance s.assignor says.instance says.assignor

pub returns-in_err-names-clause-refused : goal.returns-in_err-names-clause-refused
returns-in_err-names-clause-refused c = λ bad s spelled.
    let says = said_five (texts c.args.words.now) (word_at c.args.words.now 0) (word_at c.args.words.now 1) (word_at c.args.words.now 2) (word_at c.args.words.now 3) (word_at c.args.words.now 4) s (five_words c.args.words.now c.in-len5.len_at_least c.in-len5.len_below) spelled in
    let is_bad : c.names_of.result ≡ Err BadLine = search rules in
    c.names_of.ensures.refused is_bad s.names says.topics

pub returns-clause-settings : goal.returns-clause-settings
returns-clause-settings c =
    let words = c.args.words.now in
    let is_group : IsName (word_at words 0) = search rules in
    let same : word_at words 0 ≡ string_bytes c.in_ok-group.group = sym c.in_ok-group.ensures.ok in
    record {
      instance = word_at words 1;
      assignor = word_at words 2;
      rebalance = word_at words 3;
      topics = word_at words 4;
      are = five_words words c.in-len5.len_at_least c.in-len5.len_below ∙ ap (λ w. w ∷ word_at words 1 ∷ word_at words 2 ∷ word_at words 3 ∷ word_at words 4 ∷ []) same;
      group = subst IsName same is_group;
      instance_is = c.in_ok-instance.ensures.one;
      assignor_is = c.in_ok-instance.ensures.other;
      rebalance_is = c.in_ok-rebalance_timeout.ensures.timeout;
      topics_are = c.in_ok-names.ensures.names;
      no_rack = refl;
    }
