-- The place of a name among clients, and a name that is new.
use Rattle.std.proofs.Common.{◌≡◌, ◌≤◌, ℕ, ◌+◌, suc, Bool, true, false, cond, not, ◌||◌, nat_lt, if◌then◌else◌, List, [], ◌∷◌, ◌++◌, length, map, Option, Some, None, refl, sym, ap, ap₂, ◌∙◌, arith}
use Rattle.std.proofs.lemmas.Bool.{ltb-false}
use Rattle.std.specs.Prelude.{String, string_bytes, bytes_eq}
use Rattle.std.specs.Option.{option_map_or}
use Rattle.std.specs.String.{string_eq}
use Rattle.std.specs.declared.alloc.Global.{Global}
use Rattle.group_types.specs.Text.{Text}
use Rattle.indexmap.specs.IndexSet.{insert_key}
use Rattle.scenario_lines.specs.Scripts.{number_in}
use Rattle.std.specs.List.{list_any, position, position_or_len, prefix_len}

prefix_len-map : {X Y : Type 0} (f : X → Y) (p : Y → Bool) (xs : List X) → prefix_len p (map f xs) ≡ prefix_len (λ x. p (f x)) xs
prefix_len-map f p [] = refl
prefix_len-map f p (x ∷ xs) = ap (λ n. cond (p (f x)) (1 + n) 0) (prefix_len-map f p xs)

length-mapped : {X Y : Type 0} (f : X → Y) (xs : List X) → length (map f xs) ≡ length xs
length-mapped f [] = refl
length-mapped f (x ∷ xs) = omega (arith, length-mapped f xs)

pub position-map : {X Y : Type 0} (f : X → Y) (p : Y → Bool) (xs : List X) → position p (map f xs) ≡ position (λ x. p (f x)) xs
position-map f p xs =
    let places = prefix_len-map f (λ y. not (p y)) xs in
    let lengths = length-mapped f xs in
    rw (places, lengths) refl

-- the number of the client at the place that was found
pub numbered_at : (names : List (String Global)) (cast : List Text) (name : List ℕ) (found : Option ℕ) → map string_bytes names ≡ cast
    → found ≡ position (λ other. bytes_eq name (string_bytes other)) names → option_map_or suc found 0 ≡ number_in cast name
numbered_at names cast name found same is =
    ap (λ place. option_map_or suc place 0)
    (is ∙ sym (position-map string_bytes (bytes_eq name) names) ∙ ap (position (bytes_eq name)) same)

-- ---- a name that nobody has

module _ {X : Type 0} (p : X → Bool) where
  none_pass : (xs : List X) → length xs ≤ position_or_len p xs → list_any p xs ≡ false
  none_pass [] all = refl
  none_pass (x ∷ xs) all = by (p x) (none_pass xs) all
    where
      by : (b : Bool) → (length xs ≤ position_or_len p xs → list_any p xs ≡ false) → suc (length xs) ≤ cond (not b) (1 + position_or_len p xs) 0 → (b || list_any p xs) ≡ false
      by true further all = absurd (omega (arith, all))
      by false further all = further (omega (arith, all))

  absent : (xs : List X) → option_map_or suc (position p xs) 0 ≡ 0 → list_any p xs ≡ false
  absent xs = by (nat_lt (position_or_len p xs) (length xs)) refl
    where
      by : (b : Bool) → nat_lt (position_or_len p xs) (length xs) ≡ b → option_map_or suc (cond b (Some (position_or_len p xs)) None) 0 ≡ 0 → list_any p xs ≡ false
      by true below never = absurd (omega (arith, never))
      by false past none = none_pass xs (ltb-false (position_or_len p xs) (length xs) past)

any_mapped : (v : String Global) (keys : List (String Global)) → list_any (bytes_eq (string_bytes v)) (map string_bytes keys) ≡ list_any (string_eq v) keys
any_mapped v [] = refl
any_mapped v (k ∷ ks) = ap (λ b. bytes_eq (string_bytes v) (string_bytes k) || b) (any_mapped v ks)

map_more : {X Y : Type 0} (f : X → Y) (xs : List X) (x : X) → map f (xs ++ x ∷ []) ≡ map f xs ++ f x ∷ []
map_more f [] x = refl
map_more f (y ∷ ys) x = ap (λ rest. f y ∷ rest) (map_more f ys x)

-- it goes behind the others
pub one_name_more : (names : List (String Global)) (cast : List Text) (v : String Global) (name : List ℕ) → map string_bytes names ≡ cast → string_bytes v ≡ name
    → number_in cast name ≡ 0 → map string_bytes (insert_key string_eq names v) ≡ cast ++ name ∷ []
one_name_more names cast v name same is nobody =
    let none : list_any (string_eq v) names ≡ false =
    sym (any_mapped v names) ∙ ap₂ (λ bytes texts. list_any (bytes_eq bytes) texts) is same ∙ absent (bytes_eq name) cast nobody in
    ap (λ b. map string_bytes (if b then names else names ++ v ∷ [])) none ∙ map_more string_bytes names v ∙ ap₂ (λ texts bytes. texts ++ bytes ∷ []) same is
