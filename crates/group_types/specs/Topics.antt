-- Images and views: what a coordinator knows of the topics.
use Rattle.std.specs.Prelude.{ℕ, List}
use Rattle.std.specs.FinMap as map
use Rattle.group_types.specs.Text.{text_cmp}
use Rattle.group_types.specs.Sets.{FinSet, has}

-- a topic's id, sixteen bytes, and the number of its partitions
pub record Topic : Type 0 where
  pub id : List ℕ
  pub count : ℕ

-- the topics of an image or of a view, by name
abbrev pub Topics : Type 0
Topics = map.FinMap text_cmp Topic

abbrev pub Names : Type 0
Names = FinSet text_cmp

-- KIP-848, "Group Metadata": of the image, the topics that are among the names
abbrev pub view_of : Topics → Names → Topics
view_of image names = map.retain_keys image (has names)
