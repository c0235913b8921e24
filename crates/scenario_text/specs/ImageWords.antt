-- The words of topics, and of an image. Their forms are this program's own.
use Rattle.std.specs.Prelude.{◌≡◌, ℕ, pos, ◌^◌, ◌<◌, List, [], ◌∷◌, Some, None, decimal}
use Rattle.uuid.specs.Text.{parsed}
use Rattle.group_types.specs.Topics.{Topics}
use Rattle.topic_meta.specs.Images.{Entry, first_fault, topics_of}
use Rattle.scenario_text.specs.Words.{IsName}

-- three words are a topic: its name, its id in a form that `uuid` reads, and how many partitions it has
pub record SpellsTopic (name id count : List ℕ) (e : Entry) : Type 0 where
  pub is_name : IsName name
  pub named : e.name ≡ name
  pub identified : parsed id ≡ Some e.id
  pub number : ℕ
  pub small : number < 2 ^ 31
  pub counted : e.count ≡ pos number
  pub spelled : count ≡ decimal number

-- words are topics, three words each
abbrev pub SpellTopics : List (List ℕ) → List Entry → Type 0
SpellTopics [] [] = Unit {0}
SpellTopics [] (e ∷ es) = ⊥
SpellTopics (name ∷ []) es = ⊥
SpellTopics (name ∷ id ∷ []) es = ⊥
SpellTopics (name ∷ id ∷ count ∷ words) [] = ⊥
SpellTopics (name ∷ id ∷ count ∷ words) (e ∷ es) = SpellsTopic name id count e × SpellTopics words es

-- words are the topics of an image
pub record SpellImage (words : List (List ℕ)) (list : List Entry) : Type 0 where
  pub topics : SpellTopics words list
  pub sound : first_fault list ≡ None

-- words are the topics of this image
abbrev pub IsImage : List (List ℕ) → Topics → Type 0
IsImage words image = (list : List Entry) × SpellImage words list × (image ≡ topics_of list)
