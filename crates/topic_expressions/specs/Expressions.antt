-- Regular expressions over topic names (KIP-848, "SubscribedTopicRegex"): which names one stands for.
use Rattle.std.specs.Prelude.{◌≡◌, ◌≢◌, ◌⊎◌, ◌<◌, ◌≤◌, ◌+◌, ℕ, Bool, List, ◌++◌, length, map, is_some, codes}
use Rattle.std.specs.Borrow.{Bor}
use Rattle.std.specs.List.{filter}
use Rattle.regex.specs.Patterns.{Re, find_str, default_config}
use Rattle.regex.specs.Failures.{IsPattern}
use Rattle.regex.specs.Strings.{IsDefaultFailure, regex_pattern, regex_source, regex_config, regex_size, IsReadFromSource}
use Rattle.regex.specs.declared.string.regex.Regex.{Regex}
use Rattle.regex.specs.declared.error.Error.{Error}
use Rattle.regex.specs.declared.error.Error.TheVariants.{OutOfMemory}
use Rattle.topic_expressions.specs.declared.limits.TheConstants.{LARGEST_PATTERN, LONGEST_EXPRESSION}

-- texts as the lists of their bytes
abbrev pub texts : List (Bor (List ℕ)) → List (List ℕ)
texts names = map (λ name. name.now) names

-- The text of the pattern that matches as a whole what the expression matches.
abbrev pub whole : List ℕ → List ℕ
whole expression = codes "^(?:" ++ expression ++ codes ")$"

-- The tables of its compiled form take no more bytes than the limit, and 24 of their own (ours).
abbrev pub IsSmall : Regex → Type 0
IsSmall regex = regex_size regex ≤ LARGEST_PATTERN + 24

-- What an expression matches names by: it is a pattern by itself, and this is how the text above is read.
pub record IsReadAs (expression : List ℕ) (re : Re) : Type 0 where
  pub alone : IsPattern default_config expression
  pub regex : Regex
  pub source : regex_source regex ≡ whole expression
  pub config : regex_config regex ≡ default_config
  pub read : IsReadFromSource regex
  pub small : IsSmall regex
  pub pattern : re ≡ regex_pattern regex

-- whether it matches a name
abbrev pub is_matched : Re → List ℕ → Bool
is_matched re name = is_some (find_str re name 0)

-- the names that it matches
abbrev pub matched : Re → List (List ℕ) → List (List ℕ)
matched re names = filter (is_matched re) names

-- Why an expression is refused: it has more than 1,000 bytes (ours), or it is no regular expression, or one whose compiled form is too big.
abbrev pub IsRefused : List ℕ → Type 0
IsRefused expression =
    (LONGEST_EXPRESSION < length expression)
    ⊎ ((error : Error) × (error ≢ OutOfMemory) × (IsDefaultFailure expression error ⊎ IsDefaultFailure (whole expression) error))
