-- Which of a list's topics are among names.
use Rattle.std.specs.Prelude.{◌≡◌, ℕ, Bool, List, map, Option, MatchOption, AllPairs, Some, slice_get, string_bytes}
use Rattle.std.specs.declared.cmp.Ordering.TheVariants.{Less}
use Rattle.group_types.specs.Sets.{has}
use Rattle.group_types.specs.Text.{Text, text_cmp}
use Rattle.group_types.specs.Topics.{Names}
use Rattle.topic_meta.specs.declared.view_topic.ViewTopic.{ViewTopic}

-- each topic's name is before those of the topics after it
abbrev pub NamesRise : List ViewTopic → Type 0
NamesRise topics = AllPairs (λ s t. text_cmp (string_bytes s.name) (string_bytes t.name) ≡ Less) topics

-- the topic at the place has the name
abbrev pub IsNamedAt : List ViewTopic → Text → ℕ → Type 0
IsNamedAt topics name k = (topic : ViewTopic) × (slice_get topics k ≡ Some topic) × (string_bytes topic.name ≡ name)

-- the place of the topic with the name, if there is one
abbrev pub IsPlaceNamed : List ViewTopic → Text → Option ℕ → Type 0
IsPlaceNamed topics name o = MatchOption o ((k : ℕ) → ¬ IsNamedAt topics name k) (IsNamedAt topics name)

-- for each topic whether its name is among the names
abbrev pub marks_in : List ViewTopic → Names → List Bool
marks_in topics names = map (λ t. has names (string_bytes t.name)) topics
