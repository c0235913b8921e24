-- The view of the members' names, where a record is stored anew.
use Rattle.std.proofs.Common.{◌≡◌, Bool, true, false, cond, ◌||◌, List, [], ◌∷◌, map, refl, sym, ap, ◌∙◌, Some}
use Rattle.std.specs.declared.cmp.Ordering.TheVariants.{Less, Equal, Greater}
use Rattle.std.specs.List.{list_any}
use Rattle.std.specs.Ordering.{is_eq}
use Rattle.std.specs.FinMap as finite
use Rattle.std.specs.FinMap.{find, put}
use Rattle.group_types.specs.Text.{Text, text_cmp}
use Rattle.group_types.specs.Sets.{has}
use Rattle.group_types.specs.Topics.{Topics}
use Rattle.group_types.specs.Group.{Record, Records}
use Rattle.group_types.specs.Renewal.{is_subscribed, view_for}
use Rattle.group_types.proofs.BoolLemmas.{or_known}
use Rattle.group_types.proofs.Orders.{text_cmp_total}

abbrev values_of : List (Text × Record) → List Record
values_of es = map (λ e. e.1) es

either : (b : Bool) → (b || true) ≡ true
either true = refl
either false = refl

-- a record that a look-up finds is among the values
any-find : (f : Record → Bool) (k : Text) (b : Record) (es : List (Text × Record)) → find text_cmp k es ≡ Some b → f b ≡ true → list_any f (values_of es) ≡ true
any-find f k b [] is so = cc
any-find f k b (e ∷ es) is so = at (λ rest. any-find f k b es rest so) (is_eq (text_cmp k e.0)) is
  where
    at : (find text_cmp k es ≡ Some b → list_any f (values_of es) ≡ true) → (t : Bool) → cond t (Some e.1) (find text_cmp k es) ≡ Some b → (f e.1 || list_any f (values_of es)) ≡ true
    at rest true is = let same : e.1 ≡ b = cc in ap (λ x. x || list_any f (values_of es)) (ap f same ∙ so)
    at rest false is = ap (λ x. f e.1 || x) (rest is) ∙ either (f e.1)

any-put : (f : Record → Bool) (k : Text) (b a : Record) → f b ≡ f a → (es : List (Text × Record)) → find text_cmp k es ≡ Some b
    → list_any f (values_of (put text_cmp k a es)) ≡ list_any f (values_of es)
any-put f k b a same [] is = cc
any-put f k b a same (e ∷ es) is =
    elim (text_cmp k e.0) as (λ r. text_cmp k e.0 ≡ r → list_any f (values_of (finite.Entries.by_order r ((k, a) ∷ e ∷ es) ((e.0, a) ∷ es) (e ∷ put text_cmp k a es))) ≡ list_any f (values_of (e ∷ es))) [
      | Less ↦ λ r. or_known (f a) (list_any f (values_of (e ∷ es))) (λ so. any-find f k b (e ∷ es) is (same ∙ so))
      | Equal ↦ λ r. let here : e.1 ≡ b = at r in ap (λ x. x || list_any f (values_of es)) (sym same ∙ ap f (sym here))
      | Greater ↦ λ r. ap (λ x. f e.1 || x) (any-put f k b a same es (past r))
    ] refl
  where
    at : text_cmp k e.0 ≡ Equal → e.1 ≡ b
    at r = let found : cond true (Some e.1) (find text_cmp k es) ≡ Some b = ap (λ o. cond (is_eq o) (Some e.1) (find text_cmp k es)) (sym r) ∙ is in cc

    past : text_cmp k e.0 ≡ Greater → find text_cmp k es ≡ Some b
    past r = ap (λ o. cond (is_eq o) (Some e.1) (find text_cmp k es)) (sym r) ∙ is

-- a record with the names of the one before it leaves the view
pub view_for-insert : (image : Topics) (records : Records) (m : Text) (before after : Record) → finite.get records m ≡ Some before → after.names ≡ before.names
    → view_for image (finite.insert records m after) ≡ view_for image records
view_for-insert image records m before after is same =
    ap (finite.retain_keys image) (λ i name. subscribed name i)
  where
    subscribed : (name : Text) → is_subscribed (finite.insert records m after) name ≡ is_subscribed records name
    subscribed name =
        ap (λ es. list_any (λ r. has r.names name) (map (λ e. e.1) es)) (finite.entries-insert text_cmp_total records m after)
        ∙ any-put (λ r. has r.names name) m before after (ap (λ ns. has ns name) (sym same)) (finite.entries records) (sym (finite.get-entries records m) ∙ is)
