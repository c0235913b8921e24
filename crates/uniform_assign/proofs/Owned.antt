-- How many partitions a member owns, told from its set.
use Rattle.std.proofs.Common.{◌≡◌, ◌↔◌, Bool, true, false, cond, ◌||◌, List, [], ◌∷◌, map, refl, sym, ap, ◌∙◌, Option, Some, None, true≢false}
use Rattle.std.specs.Cmp.{Equal-is}
use Rattle.std.specs.FinMap as finite
use Rattle.std.specs.FinMap.{entries}
use Rattle.std.specs.FinMap.Entries.{below_all, find, is_sorted}
use Rattle.std.specs.List.{AllByRecursion, filter, list_any}
use Rattle.std.specs.List.Sorted.{IsStrictlySortedBy}
use Rattle.std.specs.Option.{option_map_or}
use Rattle.std.specs.Ordering.{eq_by_cmp, is_eq, is_lt}
use Rattle.std.specs.declared.cmp.Ordering.TheVariants.{Less}
use Rattle.std.proofs.lemmas.List.{length-map}
use lib.Dec.{T}
use Rattle.group_types.specs.declared.partition.Partition.{Partition}
use Rattle.group_types.specs.Text.{Text, text_cmp}
use Rattle.group_types.specs.Partition.{Partitions, partition_cmp}
use Rattle.group_types.specs.Owners.{IsShare, Spread}
use Rattle.group_types.specs.Sets.{has, nothing, of_list, size}
use Rattle.group_types.specs.Uniform.{count}
use Rattle.group_types.proofs.Entries.{first_part, second_part}
use Rattle.group_types.proofs.ListSets.{size-of_list}
use Rattle.group_types.proofs.Orders.{Less-is_lt, partition_cmp_total, partition_cmp-IsAntisymmetric, text_cmp-IsAntisymmetric, text_cmp-itself}
use Rattle.group_types.proofs.SetLemmas.{has-nothing, has-of_list, same_set, size-nothing}

true_of : (b : Bool) → T b → b ≡ true
true_of true h = refl
true_of false h = absurd h

is_less : (p q : Partition) → T (is_lt (partition_cmp p q)) → partition_cmp p q ≡ Less
is_less p q h = Less-is_lt (partition_cmp p q) (true_of (is_lt (partition_cmp p q)) h)

-- a partition before all of them is none of theirs
nowhere : (p : Partition) (es : List (Partition × Text)) → T (below_all partition_cmp p es) → find partition_cmp p es ≡ None
nowhere p [] below = refl
nowhere p (e ∷ es) below =
    ap (λ b. cond b (Some e.1) (find partition_cmp p es)) (ap is_eq (is_less p e.0 (first_part _ _ below))) ∙ nowhere p es (second_part _ _ below)

-- whether the owner is the member with the id
abbrev is_of : Text → Option Text → Bool
is_of id o = option_map_or (λ owner. eq_by_cmp text_cmp id owner) o false

-- the partitions of the entries whose owner is the member
abbrev owned_by : Text → List (Partition × Text) → List Partition
owned_by id es = map (λ e. e.0) (filter (λ e. eq_by_cmp text_cmp id e.1) es)

owned_above : (id : Text) (p : Partition) (es : List (Partition × Text)) → T (below_all partition_cmp p es) → AllByRecursion (λ q. partition_cmp p q ≡ Less) (owned_by id es)
owned_above id p [] below = tt
owned_above id p (e ∷ es) below =
    let rest = owned_above id p es (second_part _ _ below) in
    elim (eq_by_cmp text_cmp id e.1) as (λ b. AllByRecursion (λ q. partition_cmp p q ≡ Less) (map (λ e. e.0) (cond b (e ∷ filter (λ e. eq_by_cmp text_cmp id e.1) es) (filter (λ e. eq_by_cmp text_cmp id e.1) es)))) [
      | true ↦ (is_less p e.0 (first_part _ _ below), rest)
      | false ↦ rest
    ]

owned_rise : (id : Text) (es : List (Partition × Text)) → T (is_sorted partition_cmp es) → IsStrictlySortedBy partition_cmp (owned_by id es)
unfolding IsStrictlySortedBy
owned_rise id [] sorted = tt
owned_rise id (e ∷ es) sorted =
    let rest = owned_rise id es (second_part _ _ sorted) in
    let above = owned_above id e.0 es (first_part _ _ sorted) in
    elim (eq_by_cmp text_cmp id e.1) as (λ b. IsStrictlySortedBy partition_cmp (map (λ e. e.0) (cond b (e ∷ filter (λ e. eq_by_cmp text_cmp id e.1) es) (filter (λ e. eq_by_cmp text_cmp id e.1) es)))) [
      | true ↦ (above, rest)
      | false ↦ rest
    ]

-- a partition is among them where its owner is the member
owned_has : (id : Text) (es : List (Partition × Text)) (q : Partition) → T (is_sorted partition_cmp es) → list_any (eq_by_cmp partition_cmp q) (owned_by id es) ≡ is_of id (find partition_cmp q es)
owned_has id [] q sorted = refl
owned_has id (e ∷ es) q sorted =
    let rest = owned_has id es q (second_part _ _ sorted) in
    let later = filter (λ e. eq_by_cmp text_cmp id e.1) es in
    elim (eq_by_cmp partition_cmp q e.0) as (λ t. eq_by_cmp partition_cmp q e.0 ≡ t
    → list_any (eq_by_cmp partition_cmp q) (map (λ e. e.0) (cond (eq_by_cmp text_cmp id e.1) (e ∷ later) later)) ≡ is_of id (cond t (Some e.1) (find partition_cmp q es))) [
      | true ↦ λ tie.
          let same : q ≡ e.0 = partition_cmp-IsAntisymmetric q e.0 ((Equal-is (partition_cmp q e.0)).0 tie) in
          let none = ap (λ p. find partition_cmp p es) same ∙ nowhere e.0 es (first_part _ _ sorted) in
          elim (eq_by_cmp text_cmp id e.1) as (λ b. list_any (eq_by_cmp partition_cmp q) (map (λ e. e.0) (cond b (e ∷ later) later)) ≡ b) [
            | true ↦ ap (λ b. b || list_any (eq_by_cmp partition_cmp q) (map (λ e. e.0) later)) tie
            | false ↦ rest ∙ ap (is_of id) none
          ]
      | false ↦ λ away.
          elim (eq_by_cmp text_cmp id e.1) as (λ b. list_any (eq_by_cmp partition_cmp q) (map (λ e. e.0) (cond b (e ∷ later) later)) ≡ is_of id (find partition_cmp q es)) [
            | true ↦ ap (λ b. b || list_any (eq_by_cmp partition_cmp q) (map (λ e. e.0) later)) away ∙ rest
            | false ↦ rest
          ]
    ] refl

same_test : (b : Bool) (o : Option Text) (id : Text) → (b ≡ true) ↔ (o ≡ Some id) → b ≡ is_of id o
same_test true o id (to, from) = sym (ap (is_of id) (to refl) ∙ (Equal-is (text_cmp id id)).1 (text_cmp-itself id))
same_test false None id (to, from) = refl
same_test false (Some owner) id (to, from) =
    elim (eq_by_cmp text_cmp id owner) as (λ b. eq_by_cmp text_cmp id owner ≡ b → false ≡ b) [
      | true ↦ λ tie. from (ap Some (sym (text_cmp-IsAntisymmetric id owner ((Equal-is (text_cmp id owner)).0 tie))))
      | false ↦ λ away. refl
    ] refl

-- a member owns as many partitions as its set has
pub count-share : (spread : Spread) (id : Text) (set : Partitions) → IsShare spread id set → size set ≡ count spread id
count-share spread id set share =
    let es = entries spread in
    let sorted = finite.entries_sorted spread in
    let same : of_list (owned_by id es) ≡ set = same_set partition_cmp_total partition_cmp-IsAntisymmetric (of_list (owned_by id es)) set (λ q.
    has-of_list partition_cmp_total (owned_by id es) q
    ∙ owned_has id es q sorted
    ∙ ap (is_of id) (sym (finite.get-entries spread q))
    ∙ sym (same_test (has set q) (finite.get spread q) id (share q))) in
    ap size (sym same)
    ∙ size-of_list partition_cmp_total (owned_by id es) (owned_rise id es sorted)
    ∙ length-map (filter (λ e. eq_by_cmp text_cmp id e.1) es) (λ e. e.0)

-- who owns no partition owns 0
pub count-none : (spread : Spread) (id : Text) → ((p : Partition) → ¬ (finite.get spread p ≡ Some id)) → count spread id ≡ 0
count-none spread id none =
    sym (count-share spread id nothing (λ p. (λ there. absurd (true≢false (sym there ∙ has-nothing partition_cmp p)), λ is. absurd (none p is))))
    ∙ size-nothing partition_cmp
