use Rattle.std.proofs.Common.{refl, ◌∙◌}
use Rattle.regex.specs.Names.{names_of}
use Rattle.topic_expressions.proofs.pattern.pattern_of.Goals as goal

pub returns-clause-read : goal.returns-clause-read
returns-clause-read c =
    let alone = c.in_ok-alone.alone.pattern in
    record {
      alone = (
        alone.program.hir,
        names_of alone.names.items,
        rw (c.in_ok-alone.ensures.config, c.in_ok-alone.ensures.source) at c.in_ok-alone.ensures.read,
      );
      regex = c.in_ok-regex.regex;
      source = c.in_ok-regex.ensures.source ∙ c.as_str.ensures.value ∙ c.in_ok-text.ensures;
      config = c.in_ok-regex.ensures.config;
      read = c.in_ok-regex.ensures.read;
      small = c.in_ok-regex.ensures.small;
      pattern = refl;
    }
