-- A map with each value changed, under the map's own operations.
use Rattle.std.proofs.Common.{◌≡◌, Bool, true, false, cond, ◌&&◌, List, [], ◌∷◌, map, length, Option, Some, None, is_some, is_lt, T, refl, sym, ap, subst, ◌∙◌}
use Rattle.std.specs.List.{filter}
use Rattle.std.specs.Option.{option_map}
use Rattle.std.specs.Ordering.{eq_by_cmp}
use Rattle.std.specs.FinMap as finite
use Rattle.std.specs.FinMap.{find, is_sorted}
use Rattle.std.specs.FinMap.Entries.{below_all}
use Rattle.std.proofs.lemmas.List.{length-map}
use Rattle.group_types.specs.Text.{Text, text_cmp}
use Rattle.group_types.proofs.Orders.{text_cmp_total, text_cmp-IsAntisymmetric}
use Rattle.replica_worlds.specs.Restamped.{with_values}

pub is_some_mapped : {X Y : Type 0} (h : X → Y) (o : Option X) → is_some (option_map h o) ≡ is_some o
is_some_mapped h None = refl
is_some_mapped h (Some x) = refl

module _ {X : Type 0} (f : X → X) where
  abbrev pub changed : Text × X → Text × X
  changed e = (e.0, f e.1)

  pub pushed : (b : Bool) (x y : X) → f (cond b x y) ≡ cond b (f x) (f y)
  pushed true x y = refl
  pushed false x y = refl

  pushed_option : (b : Bool) (x y : Option X) → option_map f (cond b x y) ≡ cond b (option_map f x) (option_map f y)
  pushed_option true x y = refl
  pushed_option false x y = refl

  find_changed : (es : List (Text × X)) (q : Text) → find text_cmp q (map changed es) ≡ option_map f (find text_cmp q es)
  find_changed [] q = refl
  find_changed (e ∷ es) q =
      elim (eq_by_cmp text_cmp q e.0) as (λ b. cond b (Some (f e.1)) (find text_cmp q (map changed es)) ≡ option_map f (cond b (Some e.1) (find text_cmp q es))) [ true ↦ refl | false ↦ find_changed es q ]

  pub get_changed : (m : finite.FinMap text_cmp X) (q : Text) → finite.get (with_values f m) q ≡ option_map f (finite.get m q)
  get_changed m q =
      finite.get-from_entries text_cmp_total (map changed (finite.entries m)) q ∙ find_changed (finite.entries m) q
      ∙ ap (option_map f) (sym (finite.get-entries m q))

  below_changed : (x : Text) (es : List (Text × X)) → below_all text_cmp x (map changed es) ≡ below_all text_cmp x es
  below_changed x [] = refl
  below_changed x (e ∷ es) = ap (λ b. is_lt (text_cmp x e.0) && b) (below_changed x es)

  sorted_changed : (es : List (Text × X)) → is_sorted text_cmp (map changed es) ≡ is_sorted text_cmp es
  sorted_changed [] = refl
  sorted_changed (e ∷ es) = λ i. below_changed e.0 es i && sorted_changed es i

  pub entries_changed : (m : finite.FinMap text_cmp X) → finite.entries (with_values f m) ≡ map changed (finite.entries m)
  entries_changed m =
      let rises : T (is_sorted text_cmp (map changed (finite.entries m))) = subst T (sym (sorted_changed (finite.entries m))) (finite.entries_sorted m) in
      ap finite.entries (finite.same_map text_cmp_total text_cmp-IsAntisymmetric (with_values f m) (finite.from_sorted (map changed (finite.entries m)))
      (λ q. finite.get-from_entries text_cmp_total (map changed (finite.entries m)) q ∙ sym (finite.get-from_sorted text_cmp (map changed (finite.entries m)) q rises)))
      ∙ finite.entries-from_sorted text_cmp (map changed (finite.entries m)) rises

  pub insert_changed : (m : finite.FinMap text_cmp X) (k : Text) (v : X) → with_values f (finite.insert m k v) ≡ finite.insert (with_values f m) k (f v)
  insert_changed m k v =
      finite.same_map text_cmp_total text_cmp-IsAntisymmetric (with_values f (finite.insert m k v)) (finite.insert (with_values f m) k (f v)) (λ q.
      get_changed (finite.insert m k v) q ∙ ap (option_map f) (finite.get-insert text_cmp_total m k v q)
      ∙ pushed_option (eq_by_cmp text_cmp q k) (Some v) (finite.get m q)
      ∙ ap (cond (eq_by_cmp text_cmp q k) (Some (f v))) (sym (get_changed m q))
      ∙ sym (finite.get-insert text_cmp_total (with_values f m) k (f v) q))

  pub remove_changed : (m : finite.FinMap text_cmp X) (k : Text) → with_values f (finite.remove m k) ≡ finite.remove (with_values f m) k
  remove_changed m k =
      finite.same_map text_cmp_total text_cmp-IsAntisymmetric (with_values f (finite.remove m k)) (finite.remove (with_values f m) k) (λ q.
      get_changed (finite.remove m k) q ∙ ap (option_map f) (finite.get-remove text_cmp_total m k q)
      ∙ pushed_option (eq_by_cmp text_cmp q k) None (finite.get m q)
      ∙ ap (cond (eq_by_cmp text_cmp q k) None) (sym (get_changed m q))
      ∙ sym (finite.get-remove text_cmp_total (with_values f m) k q))

  pub empty_changed : with_values f finite.empty ≡ finite.empty
  empty_changed =
      finite.same_map text_cmp_total text_cmp-IsAntisymmetric (with_values f finite.empty) finite.empty (λ q.
      get_changed finite.empty q ∙ ap (option_map f) (finite.get-empty text_cmp q) ∙ sym (finite.get-empty text_cmp q))

  pub len_changed : (m : finite.FinMap text_cmp X) → finite.len (with_values f m) ≡ finite.len m
  len_changed m = finite.len-entries (with_values f m) ∙ ap length (entries_changed m) ∙ length-map (finite.entries m) changed ∙ sym (finite.len-entries m)

  pub has_changed : (m : finite.FinMap text_cmp X) (k : Text) → finite.contains_key (with_values f m) k ≡ finite.contains_key m k
  has_changed m k = ap is_some (get_changed m k) ∙ is_some_mapped f (finite.get m k)

  -- ---- lists of entries

  pub map_changed : {Y : Type 0} (h : Text × X → Y) → ((e : Text × X) → h (changed e) ≡ h e) → (es : List (Text × X)) → map h (map changed es) ≡ map h es
  map_changed h same [] = refl
  map_changed h same (e ∷ es) = λ i. same e i ∷ map_changed h same es i

  pub filter_changed : (p : Text × X → Bool) → ((e : Text × X) → p (changed e) ≡ p e) → (es : List (Text × X)) → filter p (map changed es) ≡ map changed (filter p es)
  filter_changed p same [] = refl
  filter_changed p same (e ∷ es) =
      ap (λ b. cond b (changed e ∷ filter p (map changed es)) (filter p (map changed es))) (same e)
      ∙ elim (p e) as (λ b. cond b (changed e ∷ filter p (map changed es)) (filter p (map changed es)) ≡ map changed (cond b (e ∷ filter p es) (filter p es))) [
        | true ↦ ap (λ (xs : List (Text × X)). changed e ∷ xs) (filter_changed p same es)
        | false ↦ filter_changed p same es
      ]

  pub keys_changed : (m : finite.FinMap text_cmp X) → finite.keys (with_values f m) ≡ finite.keys m
  keys_changed m = ap (map (λ e. e.0)) (entries_changed m) ∙ map_changed (λ e. e.0) (λ e. refl) (finite.entries m)

  values_mapped : (es : List (Text × X)) → map (λ e. e.1) (map changed es) ≡ map f (map (λ e. e.1) es)
  values_mapped [] = refl
  values_mapped (e ∷ es) = ap (λ (xs : List X). f e.1 ∷ xs) (values_mapped es)

  pub values_changed : (m : finite.FinMap text_cmp X) → finite.values (with_values f m) ≡ map f (finite.values m)
  values_changed m = ap (map (λ e. e.1)) (entries_changed m) ∙ values_mapped (finite.entries m)

-- ---- one change after another

mapped_twice : {X : Type 0} (f h : X → X) (o : Option X) → option_map f (option_map h o) ≡ option_map (λ x. f (h x)) o
mapped_twice f h None = refl
mapped_twice f h (Some x) = refl

pub changed_twice : {X : Type 0} (f h : X → X) (m : finite.FinMap text_cmp X) → with_values f (with_values h m) ≡ with_values (λ x. f (h x)) m
changed_twice f h m =
    finite.same_map text_cmp_total text_cmp-IsAntisymmetric (with_values f (with_values h m)) (with_values (λ x. f (h x)) m) (λ q.
    get_changed f (with_values h m) q ∙ ap (option_map f) (get_changed h m q) ∙ mapped_twice f h (finite.get m q)
    ∙ sym (get_changed (λ x. f (h x)) m q))
