-- How the topics of a view are shown in a slice.
use Rattle.std.specs.Prelude.{Bool, ◌&&◌, ◌==◌, List, map, length, zip, bytes_eq, string_bytes, IsTrue}
use Rattle.std.specs.List.{list_all}
use Rattle.std.specs.FinMap as finite
use Rattle.group_types.specs.Text.{Text, text_cmp}
use Rattle.group_types.specs.Topics.{Topic, Topics}
use Rattle.group_types.specs.Images.{AreImageTopics}
use Rattle.topic_meta.specs.declared.view_topic.ViewTopic.{ViewTopic}

-- a topic with its name
abbrev pub named : ViewTopic → Text × Topic
named t = (string_bytes t.name, record { id = t.id; count = t.count })

-- the topics of a slice with their names, in their order
abbrev pub all_named : List ViewTopic → List (Text × Topic)
all_named ts = map named ts

-- the topics of a list that is in name order
abbrev pub shown : List (Text × Topic) → Topics
shown es = finite.from_sorted es

-- a list that a view may show: in name order, and each topic as an image has it
pub record IsView (es : List (Text × Topic)) : Type 0 where
  pub rising : IsTrue (finite.is_sorted text_cmp es)
  pub sound : AreImageTopics (shown es)

-- whether two topics have one name, one id and one count
abbrev pub is_same : ViewTopic → ViewTopic → Bool
is_same a b = bytes_eq (string_bytes a.name) (string_bytes b.name) && bytes_eq a.id b.id && a.count == b.count

-- whether two lists have the same topics in the same order
abbrev pub are_same : List ViewTopic → List ViewTopic → Bool
are_same some others = length some == length others && list_all (λ p. is_same p.0 p.1) (zip some others)
