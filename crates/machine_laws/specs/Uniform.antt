-- KIP-848, "Server Side Assignors": what uniform gives of one topic, worked out by hand (the rule of uniform is ours).
use Rattle.std.specs.Prelude.{◌≡◌, ℕ, suc, pos, List, [], ◌∷◌, map, None, codes}
use Rattle.std.specs.FinMap as finite
use Rattle.group_types.specs.declared.partition.Partition.{Partition}
use Rattle.group_types.specs.Text.{Text}
use Rattle.group_types.specs.Sets.{nothing, with_one}
use Rattle.group_types.specs.Topics.{Topics}
use Rattle.group_types.specs.Assignors.{Subscriber}
use Rattle.group_types.specs.Owners.{Spread}
use Rattle.group_types.specs.Uniform.{IsUniform}

-- one topic, and a number of partitions
abbrev pub one_topic : ℕ → Topics
one_topic count = finite.insert finite.empty (codes "t") (record { id = codes "0123456789abcdef"; count = count })

-- a member with an id of one letter, that subscribes the topic
abbrev pub lettered : ℕ → Subscriber
lettered letter = record { id = letter ∷ []; instance = None; names = with_one nothing (codes "t"); assignor = None }

-- a member for each letter
abbrev pub members : Text → List Subscriber
members letters = map lettered letters

abbrev pub partition : ℕ → Partition
partition index = record { topic = codes "0123456789abcdef"; index = pos index }

-- from an index on a partition for each letter, owned by the member of that letter
abbrev pub owned_from : ℕ → Text → List (Partition × Text)
owned_from index [] = []
owned_from index (letter ∷ letters) = (partition index, letter ∷ []) ∷ owned_from (suc index) letters

abbrev pub owners : Text → Spread
owners letters = finite.from_entries (owned_from 0 letters)

-- Of members with these letters and these former owners, uniform gives so many partitions these owners.
abbrev pub UniformGives : Text → Text → ℕ → Text → Type 0
UniformGives letters former count after =
    (spread : Spread) → IsUniform (one_topic count) (members letters) (owners former) spread → spread ≡ owners after

-- Partitions without an owner go one by one to the member with the fewest, and of several such to the first. A member with too many gives its first
-- one away: of several with as many the first member does, and of several with the fewest the first takes it.
pub record UniformByHand : Type 0 where
  pub in_turn : UniformGives (codes "ab") [] 3 (codes "aba")
  pub to_the_fewest : UniformGives (codes "ab") (codes "aa") 4 (codes "aabb")
  pub from_the_first : UniformGives (codes "abc") (codes "aabb") 4 (codes "cabb")
  pub to_the_first : UniformGives (codes "abc") (codes "aaaa") 4 (codes "bcaa")
