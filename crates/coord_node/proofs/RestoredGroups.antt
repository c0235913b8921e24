-- A group that was restored, among those of a node.
use Rattle.std.proofs.Common.{◌≡◌, ℕ, zero, suc, ◌+◌, Bool, true, false, not, List, [], ◌∷◌, ◌++◌, map, take, option_map, Option, Some, None, is_some, Result, Ok, Err, IfOk, OnErr, String, Global, refl, sym, ap, subst, ◌∙◌, arith, true≢false}
use Rattle.std.specs.Prelude.{◌↔◌, IsTrue, slice_get}
use Rattle.std.specs.FinMap as finite
use Rattle.std.proofs.lemmas.List.{map-append}
use Rattle.group_types.proofs.Lookups.{not_none, some_is}
use Rattle.group_types.specs.Text.{Text}
use Rattle.coord_node.specs.declared.kept.Kept.{Kept}
use Rattle.coord_node.specs.Nodes.{Named, NodeValue, held_of}
use Rattle.coord_node.specs.NodeView.{Entries, IsOneMore, groups_of, named_in}
use Rattle.coord_node.specs.Restored.{listed_named, with_named_if}
use Rattle.coord_node.specs.declared.restored.NamedGroup.{NamedGroup}
use Rattle.coord_node.proofs.GroupLemmas.{OfEach, OfEach-push, entry_at, get-as_map}

-- ---- a name among those that are there

some_mapped : {X Y : Type 0} (f : X → Y) (o : Option X) → is_some (option_map f o) ≡ is_some o
some_mapped f None = refl
some_mapped f (Some x) = refl

none_of : {X : Type 0} (o : Option X) → is_some o ≡ false → o ≡ None
none_of None is = refl
none_of (Some x) is = absurd (true≢false is)

name_there : (es : Entries) (name : Text) (b : Bool) → b ≡ is_some (entry_at (λ (k : Kept). k.group.state) es name) → is_some (finite.get (groups_of es) name) ≡ b
name_there es name b is =
    ap is_some (get-as_map (λ (k : Kept). k.group.state) es name) ∙ some_mapped (λ (k : Kept). k.group.state) (entry_at (λ (k : Kept). k.group.state) es name) ∙ sym is

pub name_free : (es : Entries) (name : Text) (b : Bool) → b ≡ is_some (entry_at (λ (k : Kept). k.group.state) es name) → IsTrue (not b) ↔ (finite.get (groups_of es) name ≡ None)
name_free es name b is = by b (name_there es name b is)
  where
    by : (b : Bool) → is_some (finite.get (groups_of es) name) ≡ b → IsTrue (not b) ↔ (finite.get (groups_of es) name ≡ None)
    by true there = (λ so. absurd (true≢false (sym so)), λ none. absurd (true≢false (sym there ∙ ap is_some none)))
    by false there = (λ _. none_of (finite.get (groups_of es) name) there, λ _. refl)

-- ---- the groups as a list

take_one : {X : Type 0} (xs : List X) (i : ℕ) (x : X) → slice_get xs i ≡ Some x → take (suc i) xs ≡ take i xs ++ x ∷ []
take_one [] i x at = absurd (not_none x at)
take_one (y ∷ ys) zero x at = ap (λ z. z ∷ []) (some_is y x at)
take_one (y ∷ ys) (suc i) x at = ap (λ zs. y ∷ zs) (take_one ys i x at)

-- one more of them is listed
pub one_listed : (list new : List NamedGroup) (es : Entries) (i : ℕ) (x : NamedGroup) (e : String Global × Kept) → map listed_named list ≡ map named_in (take i es)
    → slice_get es i ≡ Some e → listed_named x ≡ named_in e → new ≡ list ++ x ∷ [] → map listed_named new ≡ map named_in (take (i + 1) es)
one_listed list new es i x e before at same pushed =
    let next : suc i ≡ i + 1 = omega arith in
    ap (map listed_named) pushed ∙ map-append listed_named list (x ∷ []) ∙ ap (λ done. done ++ listed_named x ∷ []) before
    ∙ ap (λ last. map named_in (take i es) ++ last ∷ []) same
    ∙ sym (ap (map named_in) (take_one es i e at) ∙ map-append named_in (take i es) (e ∷ [])) ∙ ap (λ n. map named_in (take n es)) next

-- ---- one group more

module _ {E : Type 0} (old new : Entries) (name : Text) (k : Kept) where
  -- what holds of each group still does
  pub each_still : (P : Kept → Type 0) (r : Result Bool E) → OfEach P old → P k → IfOk r (λ yes. IsTrue yes → IsOneMore old name k new)
      → IfOk r (λ yes. yes ≡ false → new ≡ old) → OnErr r (new ≡ old) → OfEach P new
  each_still P (Ok true) each here more same err = let it = more refl in subst (OfEach P) (sym it.entries) (OfEach-push P old it.key k each here)
  each_still P (Ok false) each here more same err = subst (OfEach P) (sym (same refl)) each
  each_still P (Err e) each here more same err = subst (OfEach P) (sym err) each

  module _ (n : NodeValue) (same_groups : map named_in old ≡ n.groups) where
    -- the node with the groups that there are now
    pub group_added : (r : Result Bool E) → IfOk r (λ yes. IsTrue yes → IsOneMore old name k new) → IfOk r (λ yes. yes ≡ false → new ≡ old)
        → IfOk r (λ yes. (record n { groups = map named_in new }) ≡ with_named_if yes n (name, held_of k.group))
    group_added (Ok true) more same =
        let it = more refl in
        let now : map named_in new ≡ n.groups ++ (name, held_of k.group) ∷ [] =
        ap (map named_in) it.entries ∙ map-append named_in old ((it.key, k) ∷ []) ∙ ap (λ (t : Text). map named_in old ++ (t, held_of k.group) ∷ []) it.named
        ∙ ap (λ (groups : List Named). groups ++ (name, held_of k.group) ∷ []) same_groups in
        λ i. record n { groups = now i }
    group_added (Ok false) more same = λ i. record n { groups = (ap (map named_in) (same refl) ∙ same_groups) i }
    group_added (Err e) more same = tt
