-- How many members subscribe each name.
use Rattle.std.specs.Prelude.{◌≡◌, ℕ, Bool, true, ◌||◌, ◌<◌, nat_lt, if◌then◌else◌, List, [], ◌∷◌, Option, Some, None, String, string_bytes, count_by, unwrap_or}
use Rattle.std.specs.FinMap as finite
use Rattle.std.specs.Ordering.{eq_by_cmp}
use Rattle.indexmap.specs.IndexMap.{IndexMap, get_by_text}
use Rattle.group_types.specs.Text.{Text, text_cmp}
use Rattle.group_types.specs.Sets.{has, with_one}
use Rattle.group_types.specs.Topics.{Names, Topics}
use Rattle.group_types.specs.Group.{Record, Records}

-- how many members subscribe the name
abbrev pub subscribers : Records → Text → ℕ
subscribers records name = count_by (λ r. has r.names name) (finite.values records)

-- how often a name stands in a list
abbrev pub times : Text → List Text → ℕ
times name names = count_by (eq_by_cmp text_cmp name) names

-- one where the set has the name
abbrev pub once : Names → Text → ℕ
once names name = if has names name then 1 else 0

-- how many of a name's subscribers the record is, if there is one
abbrev pub own_share : Option Record → Text → ℕ
own_share None name = 0
own_share (Some r) name = once r.names name

module _ {Y : Type 0} where
  -- the count that stands beside a name; where none does, 0
  abbrev pub count_of : {S : Type 0} → IndexMap (String Y) ℕ S → Text → ℕ
  count_of counts name = unwrap_or (get_by_text counts name) 0

  -- the names, and those that are counted for others than the record
  abbrev pub with_counted : Option Record → Names → List (String Y × ℕ) → Names
  with_counted former names [] = names
  with_counted former names (row ∷ rows) =
      with_counted former (if nat_lt (own_share former (string_bytes row.0)) row.1 then with_one names (string_bytes row.0) else names) rows

  -- whether a name is among the names, or is counted for others than the record
  abbrev pub is_asked : {S : Type 0} → Option Record → Names → IndexMap (String Y) ℕ S → Text → Bool
  is_asked former names counts name = has names name || nat_lt (own_share former name) (count_of counts name)

  -- the set, and of a list of names those that are asked for
  abbrev pub with_asked : {S : Type 0} → Option Record → Names → IndexMap (String Y) ℕ S → Names → List Text → Names
  with_asked former names counts found [] = found
  with_asked former names counts found (name ∷ rest) =
      with_asked former names counts (if is_asked former names counts name then with_one found name else found) rest

  -- the set has of the image's topics those that are asked for
  abbrev pub AreAsked : {S : Type 0} → Topics → Option Record → Names → IndexMap (String Y) ℕ S → Names → Type 0
  AreAsked image former names counts asked =
      (name : Text) → finite.contains_key image name ≡ true → has asked name ≡ is_asked former names counts name

-- no name is counted that nobody subscribes
abbrev pub AreSome : {Y S : Type 0} → IndexMap (String Y) ℕ S → Type 0
AreSome counts = (name : Text) (count : ℕ) → get_by_text counts name ≡ Some count → 0 < count

-- the counts are those of the members' names
abbrev pub AreCounts : {Y S : Type 0} → Records → IndexMap (String Y) ℕ S → Type 0
AreCounts records counts = (name : Text) → count_of counts name ≡ subscribers records name
