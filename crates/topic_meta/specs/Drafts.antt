-- What the part of a list that was read so far has become.
use Rattle.std.specs.Prelude.{◌≡◌, ℕ, List, map, bytes_eq}
use Rattle.std.specs.BTreeSet.{contains}
use Rattle.std.specs.Set.{is_member}
use Rattle.group_types.specs.Text.{text_cmp}
use Rattle.topic_meta.specs.declared.draft.Draft.{Draft}
use Rattle.topic_meta.specs.Images.{Entry, topics_of}
use Rattle.topic_meta.specs.Stored.{topics_in}

-- a draft has the topics of these entries, and their ids
pub record IsDraftOf (entries : List Entry) (draft : Draft) : Type 0 where
  pub topics : topics_in draft.topics.entries ≡ topics_of entries
  pub ids : (q : List ℕ) → contains text_cmp draft.ids q ≡ is_member bytes_eq (map (λ e. e.id) entries) q
