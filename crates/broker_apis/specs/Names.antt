-- The names of topics.
use Rattle.std.specs.Prelude.{ℕ, List, map, string_bytes}
use Rattle.broker_topics.specs.declared.topics.Topic.{Topic}

abbrev pub names_of : List Topic → List (List ℕ)
names_of topics = map (λ topic. string_bytes topic.name) topics
