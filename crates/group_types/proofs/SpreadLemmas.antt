-- What a member owns, as a set.
use Rattle.std.proofs.Common.{◌≡◌, ◌↔◌, Bool, true, false, cond, IsTrue, Option, Some, None, MatchOption, List, [], ◌∷◌, map, refl, sym, ap, ◌∙◌, true≢false}
use Rattle.std.specs.Option.{is_some, option_map, option_map_or, unwrap_or}
use Rattle.std.specs.Ordering.{eq_by_cmp}
use Rattle.std.specs.Str.{bytes_eq}
use Rattle.std.specs.FinMap as finite
use Rattle.std.specs.FinMap.Entries.{find}
use Rattle.std.proofs.lemmas.Slice.Eq.{bytes_eq-Decides}
use Rattle.group_types.specs.declared.partition.Partition.{Partition}
use Rattle.group_types.specs.Text.{Text}
use Rattle.group_types.specs.Sets.{nothing, has}
use Rattle.group_types.specs.Partition.{partition_cmp, Partitions}
use Rattle.group_types.specs.Owners.{Spread, IsShare, owns, renamed, renamed_id, share_of}
use Rattle.group_types.proofs.Orders.{partition_cmp_total, partition_cmp-IsAntisymmetric}
use Rattle.group_types.proofs.SetLemmas.{has-of_list, has-nothing, same_set}

owned : (f : Text → Bool) (o : Option Text) → is_some (cond (option_map_or f o false) o None) ≡ option_map_or f o false
owned f None = refl
owned f (Some owner) =
    elim (f owner) as (λ b. is_some (cond b (Some owner) None) ≡ b) [ true ↦ refl | false ↦ refl ]

-- a member's share has what it owns
pub has-share_of : (spread : Spread) (id : Text) (p : Partition) → has (share_of spread id) p ≡ owns spread id p
has-share_of spread id p =
    has-of_list partition_cmp_total (finite.keys (finite.retain_keys spread (owns spread id))) p
    ∙ sym (finite.contains_key-keys (finite.retain_keys spread (owns spread id)) p)
    ∙ ap is_some (finite.get-retain_keys spread (owns spread id) p (λ q tie. ap (λ o. option_map_or (λ owner. bytes_eq owner id) o false) (finite.get_tied partition_cmp_total spread p q tie)))
    ∙ owned (λ owner. bytes_eq owner id) (finite.get spread p)

-- it owns a partition where it is the owner
pub owns-get : (spread : Spread) (id : Text) (p : Partition) → IsTrue (owns spread id p) ↔ (finite.get spread p ≡ Some id)
owns-get spread id p = by_owner (finite.get spread p)
  where
    by_owner : (o : Option Text) → IsTrue (option_map_or (λ owner. bytes_eq owner id) o false) ↔ (o ≡ Some id)
    by_owner None = (λ never. absurd (true≢false (sym never)), λ never. absurd (true≢false (sym (ap is_some never))))
    by_owner (Some owner) =
        (λ same. ap Some ((bytes_eq-Decides owner id).0 same), λ is. (bytes_eq-Decides owner id).1 (ap (λ o. unwrap_or o owner) is))

-- nothing is true
no_truth : (b : Bool) → ¬ IsTrue b → b ≡ false
no_truth true never = absurd (never refl)
no_truth false never = refl

-- two answers that say the same are one
pub same_truth : (a b : Bool) (P : Type 0) → IsTrue a ↔ P → IsTrue b ↔ P → a ≡ b
same_truth true b P (to, from) (back, forth) = sym (forth (to refl))
same_truth false true P (to, from) (back, forth) = from (back refl)
same_truth false false P first second = refl

-- what has just the partitions that the member owns is its share
pub share-is : {A : Type 0} (set_of : A → Partitions) (spread : Spread) (id : Text) (o : Option A)
    → MatchOption o ((p : Partition) → ¬ (finite.get spread p ≡ Some id)) (λ a. IsShare spread id (set_of a))
    → unwrap_or (option_map set_of o) nothing ≡ share_of spread id
share-is set_of spread id None none =
    same_set partition_cmp_total partition_cmp-IsAntisymmetric nothing (share_of spread id)
    (λ q. has-nothing partition_cmp q ∙ sym (has-share_of spread id q ∙ no_truth (owns spread id q) (λ there. none q ((owns-get spread id q).0 there))))
share-is set_of spread id (Some a) is =
    same_set partition_cmp_total partition_cmp-IsAntisymmetric (set_of a) (share_of spread id)
    (λ q. same_truth (has (set_of a) q) (owns spread id q) (finite.get spread q ≡ Some id) (is q) (owns-get spread id q) ∙ sym (has-share_of spread id q))

-- ---- the owners once one of them has another id

find-renamed : (f : Text → Text) (es : List (Partition × Text)) (p : Partition) → find partition_cmp p (map (λ e. (e.0, f e.1)) es) ≡ option_map f (find partition_cmp p es)
find-renamed f [] p = refl
find-renamed f (e ∷ es) p =
    elim (eq_by_cmp partition_cmp p e.0) as (λ b. cond b (Some (f e.1)) (find partition_cmp p (map (λ e. (e.0, f e.1)) es)) ≡ option_map f (cond b (Some e.1) (find partition_cmp p es))) [
      | true ↦ refl
      | false ↦ find-renamed f es p
    ]

pub get-renamed : (spread : Spread) (old new : Text) (p : Partition) → finite.get (renamed spread old new) p ≡ option_map (renamed_id old new) (finite.get spread p)
get-renamed spread old new p =
    finite.get-from_entries partition_cmp_total _ p
    ∙ find-renamed (renamed_id old new) (finite.entries spread) p
    ∙ ap (option_map (renamed_id old new)) (sym (finite.get-entries spread p))
