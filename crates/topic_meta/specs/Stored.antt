-- How the fields of an image are seen as its topics.
use Rattle.std.specs.Prelude.{ℕ, List, map, refl, string_bytes, String}
use Rattle.std.specs.Coded.{Coded, code_by, coded×, coded_ℕ, coded_list}
use Rattle.std.specs.declared.alloc.Global.{Global}
use Rattle.std.specs.FinMap as finite
use Rattle.group_types.specs.Text.{Text}
use Rattle.group_types.specs.Topics.{Topic, Topics}
use Rattle.topic_meta.specs.declared.topic.StoredTopic.{StoredTopic}

-- the topics of an image as data
abbrev pub topics_code : Coded Topics
topics_code =
    finite.code (coded_list coded_ℕ)
    (code_by (List ℕ × ℕ) (coded× (coded_list coded_ℕ) coded_ℕ) (λ t. (t.id, t.count)) (λ p. record { id = p.0; count = p.1 }) (λ _. refl))

-- a stored topic as its id and its count
abbrev pub shown_topic : StoredTopic → Topic
shown_topic t = record { id = t.id; count = t.count }

-- the topics of a tree, by the bytes of their names
abbrev pub topics_in : List (String Global × StoredTopic) → Topics
topics_in es = finite.from_entries (map (λ e. (string_bytes e.0, shown_topic e.1)) es)

-- a stored topic with the bytes of its name
abbrev pub shown_entry : String Global × StoredTopic → Text × Topic
shown_entry e = (string_bytes e.0, shown_topic e.1)

-- the entries of a tree, in their order
abbrev pub shown_entries : List (String Global × StoredTopic) → List (Text × Topic)
shown_entries es = map shown_entry es
