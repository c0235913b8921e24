-- The topics that an image has of a list of names, and that they are the view of the names.
use Rattle.std.proofs.Common.{◌≡◌, Bool, true, false, cond, ◌||◌, T, List, [], ◌∷◌, ◌++◌, map, refl, sym, ap, subst, ◌∙◌, Option, Some, None, append_assoc, String}
use Rattle.std.specs.declared.alloc.Global.{Global}
use Rattle.std.specs.Cmp.{Equal-is}
use Rattle.std.specs.List.{filter_map, cons_option, list_any}
use Rattle.std.specs.Option.{option_map}
use Rattle.std.specs.Ordering.{eq_by_cmp}
use Rattle.std.specs.BTreeMap.{BTreeMap, get_by_text}
use Rattle.std.specs.FinMap as finite
use Rattle.std.specs.FinMap.{get, entries, find, is_sorted}
use Rattle.std.specs.FinMap.Entries.{below_all}
use Rattle.std.proofs.lemmas.List.{append-nil}
use Rattle.group_types.specs.Text.{Text, text_cmp}
use Rattle.group_types.specs.Topics.{Topic, Topics, Names, view_of}
use Rattle.group_types.specs.Sets.{has, in_order}
use Rattle.group_types.specs.Images.{AreImageTopics}
use Rattle.group_types.proofs.Images.{get-retained, retained-AreImageTopics}
use Rattle.group_types.proofs.Orders.{text_cmp_total, text_cmp-IsAntisymmetric}
use Rattle.topic_meta.proofs.Truths.{first, second, both}
use Rattle.topic_meta.specs.Stored.{shown_topic, topics_in}
use Rattle.topic_meta.specs.Views.{shown, IsView}
use Rattle.topic_meta.specs.declared.topic.StoredTopic.{StoredTopic}
use Rattle.topic_meta.proofs.Lookups.{get-topics_in}

-- a name with its topic
abbrev paired : Topics → Text → Option (Text × Topic)
paired image n = option_map (λ t. (n, t)) (get image n)

-- the topics that an image has of these names, in their order
abbrev pub found : Topics → List Text → List (Text × Topic)
found image ns = filter_map (paired image) ns

-- ---- one name more

pub found-more : (image : Topics) (so_far all : List (Text × Topic)) (n : Text) (ns : List Text) (t : Topic) → get image n ≡ Some t
    → so_far ++ found image (n ∷ ns) ≡ all → (so_far ++ (n, t) ∷ []) ++ found image ns ≡ all
found-more image so_far all n ns t is h =
    append_assoc so_far ((n, t) ∷ []) (found image ns)
    ∙ ap (λ o. so_far ++ cons_option (option_map (λ t. (n, t)) o) (found image ns)) (sym is)
    ∙ h

pub found-skip : (image : Topics) (so_far all : List (Text × Topic)) (n : Text) (ns : List Text) → get image n ≡ None
    → so_far ++ found image (n ∷ ns) ≡ all → so_far ++ found image ns ≡ all
found-skip image so_far all n ns is h =
    ap (λ o. so_far ++ cons_option (option_map (λ t. (n, t)) o) (found image ns)) (sym is) ∙ h

-- what a tree of topics has by the bytes of a name, an image has
pub got : (m : BTreeMap (String Global) StoredTopic) (image : Topics) (q : Text) → topics_in m.entries ≡ image
    → get image q ≡ option_map shown_topic (get_by_text m q)
got m image q is = ap (λ topics. get topics q) (sym is) ∙ get-topics_in m q

-- ---- in order

abbrev keyed : List (Text × Unit {0}) → List Text
keyed es = map (λ e. e.0) es

below-found : (image : Topics) (x : Text) (es : List (Text × Unit {0})) → T (below_all text_cmp x es) → T (below_all text_cmp x (found image (keyed es)))
below-found image x [] h = tt
below-found image x (e ∷ es) h =
    let rest = below-found image x es (second _ _ h) in
    elim (get image e.0) as (λ o. T (below_all text_cmp x (cons_option (option_map (λ t. (e.0, t)) o) (found image (keyed es))))) [
      | None ↦ rest
      | Some t ↦ both _ _ (first _ _ h) rest
    ]

rising-found : (image : Topics) (es : List (Text × Unit {0})) → T (is_sorted text_cmp es) → T (is_sorted text_cmp (found image (keyed es)))
rising-found image [] h = tt
rising-found image (e ∷ es) h =
    let rest = rising-found image es (second _ _ h) in
    elim (get image e.0) as (λ o. T (is_sorted text_cmp (cons_option (option_map (λ t. (e.0, t)) o) (found image (keyed es))))) [
      | None ↦ rest
      | Some t ↦ both _ _ (below-found image e.0 es (first _ _ h)) rest
    ]

-- ---- what is found

cond_same : {A : Type 0} (b : Bool) (x : A) → x ≡ cond b x x
cond_same true x = refl
cond_same false x = refl

find-found : (image : Topics) (q : Text) (ns : List Text) → find text_cmp q (found image ns) ≡ cond (list_any (eq_by_cmp text_cmp q) ns) (get image q) None
find-found image q [] = refl
find-found image q (n ∷ ns) =
    let rest = find-found image q ns in
    elim (eq_by_cmp text_cmp q n) as (λ b. eq_by_cmp text_cmp q n ≡ b → find text_cmp q (cons_option (paired image n) (found image ns)) ≡ cond (b || list_any (eq_by_cmp text_cmp q) ns) (get image q) None) [
      | true ↦ λ tie.
          let same : get image n ≡ get image q = finite.get_tied text_cmp_total image q n ((Equal-is (text_cmp q n)).0 tie) in
          elim (get image n) as (λ o. o ≡ get image q → find text_cmp q (cons_option (option_map (λ t. (n, t)) o) (found image ns)) ≡ get image q) [
            | None ↦ λ none. rest ∙ ap (λ o. cond (list_any (eq_by_cmp text_cmp q) ns) o None) (sym none) ∙ sym (cond_same (list_any (eq_by_cmp text_cmp q) ns) None) ∙ none
            | Some t ↦ λ some. ap (λ b. cond b (Some t) (find text_cmp q (found image ns))) tie ∙ some
          ] same
      | false ↦ λ apart.
          elim (get image n) as (λ o. find text_cmp q (cons_option (option_map (λ t. (n, t)) o) (found image ns)) ≡ cond (list_any (eq_by_cmp text_cmp q) ns) (get image q) None) [
            | None ↦ rest
            | Some t ↦ ap (λ b. cond b (Some t) (find text_cmp q (found image ns))) apart ∙ rest
          ]
    ] refl

pub get-view_of : (image : Topics) (names : Names) (q : Text) → get (view_of image names) q ≡ cond (has names q) (get image q) None
get-view_of image names q = get-retained image (has names) q

-- what is found of the names of a set is the view of the set
pub shown-found : (image : Topics) (names : Names) → shown (found image (in_order names)) ≡ view_of image names
shown-found image names =
    finite.same_map text_cmp_total text_cmp-IsAntisymmetric _ _ (λ q.
    finite.get-from_sorted text_cmp _ q (rising-found image (entries names) (finite.entries_sorted names))
    ∙ find-found image q (in_order names)
    ∙ ap (λ b. cond b (get image q) None) (sym (finite.contains_key-keys names q))
    ∙ sym (get-view_of image names q))

-- ---- a view has what an image has

true_from_T : (b : Bool) → T b → b ≡ true
true_from_T true h = refl
true_from_T false h = absurd h

pub found-IsView : (image : Topics) (names : Names) → AreImageTopics image → IsView (found image (in_order names))
found-IsView image names are = record {
  rising = true_from_T _ (rising-found image (entries names) (finite.entries_sorted names));
  sound = subst AreImageTopics (sym (shown-found image names)) (retained-AreImageTopics image (has names) are);
}

-- once no name is left, what was found is all
pub found-end : (image : Topics) (so_far : List (Text × Topic)) (names : Names) (rest : List Text) → rest ≡ []
    → so_far ++ found image rest ≡ found image (in_order names) → so_far ≡ found image (in_order names)
found-end image so_far names rest none h = sym (append-nil so_far) ∙ ap (λ ns. so_far ++ found image ns) (sym none) ∙ h

-- ---- a view of all that an image has

pub shown-entries : (topics : Topics) → shown (entries topics) ≡ topics
shown-entries topics =
    finite.same_map text_cmp_total text_cmp-IsAntisymmetric _ _
    (λ q. finite.get-from_sorted text_cmp (entries topics) q (finite.entries_sorted topics) ∙ sym (finite.get-entries topics q))

pub IsView-entries : (topics : Topics) → AreImageTopics topics → IsView (entries topics)
IsView-entries topics are = record {
  rising = true_from_T _ (finite.entries_sorted topics);
  sound = subst AreImageTopics (sym (shown-entries topics)) are;
}
