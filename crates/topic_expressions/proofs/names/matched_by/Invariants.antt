use Rattle.std.proofs.Common.{◌≡◌, take}
use Rattle.regex.specs.Strings.{regex_pattern, matcher_pattern}
use Rattle.topic_expressions.specs.Expressions.{texts, matched}
use Rattle.topic_expressions.proofs.names.matched_by.Given as goal

-- those of the names that were looked at are found
abbrev pub invariant-loop-name : goal.invariant-loop-name
invariant-loop-name l =
    (matcher_pattern l.matcher ≡ regex_pattern l.regex)
    × (texts l.found.items ≡ matched (regex_pattern l.regex) (texts (take l.name-index l.names)))
