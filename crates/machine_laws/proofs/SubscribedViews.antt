-- Which topics a view has.
use Rattle.std.proofs.Common.{◌≡◌, Bool, true, false, cond, ◌||◌, List, [], ◌∷◌, map, Some, None, refl, sym, ap, ◌∙◌, true≢false}
use Rattle.std.specs.List.{AllByRecursion, list_any}
use Rattle.std.specs.Ordering.{eq_by_cmp}
use Rattle.std.specs.FinMap as finite
use Rattle.std.specs.FinMap.{find}
use Rattle.group_types.specs.Text.{Text, text_cmp}
use Rattle.group_types.specs.Sets.{has}
use Rattle.group_types.specs.Topics.{Topic, Topics}
use Rattle.group_types.specs.Group.{Record, Records}
use Rattle.group_types.specs.Renewal.{is_subscribed, view_for}
use Rattle.group_types.proofs.Entries.{entries_found}
use Rattle.group_types.proofs.Lookups.{not_none, some_is}
use Rattle.group_types.proofs.Orders.{text_cmp-IsAntisymmetric}
use Rattle.machine_laws.specs.Views.{SomebodySubscribes, ViewsAreOfTheSubscribed}

abbrev values_of : List (Text × Record) → List Record
values_of es = map (λ e. e.1) es

module _ (records : Records) (name : Text) where
  -- one of the entries passes
  one_of : (es : List (Text × Record)) → AllByRecursion (λ e. finite.get records e.0 ≡ Some e.1) es → list_any (λ r. has r.names name) (values_of es) ≡ true
      → SomebodySubscribes records name
  one_of [] all never = absurd (true≢false (sym never))
  one_of (e ∷ es) (here, others) is = by (one_of es others) (has e.1.names name) refl is
    where
      by : (list_any (λ r. has r.names name) (values_of es) ≡ true → SomebodySubscribes records name) → (b : Bool) → has e.1.names name ≡ b
          → (b || list_any (λ r. has r.names name) (values_of es)) ≡ true → SomebodySubscribes records name
      by rest true so is = record { member = e.0; kept = e.1; is_kept = here; subscribes = so }
      by rest false so is = rest is

  -- an entry that is found is one of them
  is_one : (m : Text) (r : Record) → has r.names name ≡ true → (es : List (Text × Record)) → find text_cmp m es ≡ Some r → list_any (λ s. has s.names name) (values_of es) ≡ true
  is_one m r so [] never = absurd (not_none r never)
  is_one m r so (e ∷ es) is = by (is_one m r so es) (eq_by_cmp text_cmp m e.0) is
    where
      either : (b : Bool) → list_any (λ s. has s.names name) (values_of es) ≡ true → (b || list_any (λ s. has s.names name) (values_of es)) ≡ true
      either true there = refl
      either false there = there

      by : (find text_cmp m es ≡ Some r → list_any (λ s. has s.names name) (values_of es) ≡ true) → (b : Bool) → cond b (Some e.1) (find text_cmp m es) ≡ Some r
          → (has e.1.names name || list_any (λ s. has s.names name) (values_of es)) ≡ true
      by rest true here = ap (λ b. b || list_any (λ s. has s.names name) (values_of es)) (ap (λ (s : Record). has s.names name) (some_is e.1 r here) ∙ so)
      by rest false there = either (has e.1.names name) (rest there)

module _ (image : Topics) (records : Records) (name : Text) (topic : Topic) where
  looked : finite.get (view_for image records) name ≡ cond (is_subscribed records name) (finite.get image name) None
  looked = finite.get-retain_keys image (is_subscribed records) name (λ other ties. ap (is_subscribed records) (sym (text_cmp-IsAntisymmetric name other ties)))

  has_both : (b : Bool) → is_subscribed records name ≡ b → cond b (finite.get image name) None ≡ Some topic → (finite.get image name ≡ Some topic) × SomebodySubscribes records name
  has_both true so is = (is, one_of records name (finite.entries records) (entries_found records) so)
  has_both false so never = absurd (not_none topic never)

  seen : SomebodySubscribes records name → is_subscribed records name ≡ true
  seen who = is_one records name who.member who.kept who.subscribes (finite.entries records) (sym (finite.get-entries records who.member) ∙ who.is_kept)

pub views_are_of_the_subscribed : ViewsAreOfTheSubscribed
views_are_of_the_subscribed image records name topic = (
  λ is. has_both image records name topic (is_subscribed records name) refl (sym (looked image records name topic) ∙ is),
  λ both. looked image records name topic ∙ ap (λ b. cond b (finite.get image name) None) (seen image records name topic both.1) ∙ both.0,
)
