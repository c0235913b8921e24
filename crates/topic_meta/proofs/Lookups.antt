-- What a look-up by name finds among the topics of a list, of a tree and of a view.
use Rattle.std.proofs.Common.{◌≡◌, Bool, true, false, cond, ◌||◌, List, [], ◌∷◌, map, refl, ap, ◌∙◌, Option, Some, string_bytes, String, is_some, bytes_eq}
use Rattle.std.specs.declared.alloc.Global.{Global}
use Rattle.std.specs.Ordering.{is_eq, nat_cmp}
use Rattle.std.specs.Option.{option_map}
use Rattle.std.specs.Cmp.Lexicographic.{slice_cmp}
use Rattle.std.specs.Map.{lookup}
use Rattle.std.specs.BTreeMap.{BTreeMap, get_by_text, is_at}
use Rattle.std.specs.Set.{is_member}
use Rattle.std.specs.FinMap as finite
use Rattle.std.specs.FinMap.{find}
use Rattle.std.proofs.lemmas.Map.Text.{is_eq-slice_cmp}
use Rattle.group_types.specs.Text.{Text, text_cmp}
use Rattle.group_types.proofs.Orders.{text_cmp_total}
use Rattle.topic_meta.specs.declared.topic.StoredTopic.{StoredTopic}
use Rattle.topic_meta.specs.Images.{Entry, topic_of, topics_of}
use Rattle.topic_meta.specs.Stored.{shown_topic, topics_in}

find_shown : (q : Text) (es : List (String Global × StoredTopic))
    → find text_cmp q (map (λ e. (string_bytes e.0, shown_topic e.1)) es) ≡ option_map shown_topic (lookup (is_at (λ k. slice_cmp nat_cmp q (string_bytes k))) es)
find_shown q [] = refl
find_shown q (e ∷ es) =
    elim (is_eq (slice_cmp nat_cmp q (string_bytes e.0))) as (λ b. cond b (Some (shown_topic e.1)) (find text_cmp q (map (λ e. (string_bytes e.0, shown_topic e.1)) es)) ≡ option_map shown_topic (cond b (Some e.1) (lookup (is_at (λ k. slice_cmp nat_cmp q (string_bytes k))) es))) [
      | true ↦ refl
      | false ↦ find_shown q es
    ]

-- the topics in a tree are those that it finds by the bytes of a name
pub get-topics_in : (m : BTreeMap (String Global) StoredTopic) (q : Text)
    → finite.get (topics_in m.entries) q ≡ option_map shown_topic (get_by_text m q)
get-topics_in m q = finite.get-from_entries text_cmp_total _ q ∙ find_shown q m.entries

some_cond : {A : Type 0} (b : Bool) (x : A) (o : Option A) → is_some (cond b (Some x) o) ≡ (b || is_some o)
some_cond true x o = refl
some_cond false x o = refl

pub is_some-find_named : (q : Text) (es : List Entry)
    → is_some (find text_cmp q (map (λ e. (e.name, topic_of e)) es)) ≡ is_member bytes_eq (map (λ e. e.name) es) q
is_some-find_named q [] = refl
is_some-find_named q (e ∷ es) =
    some_cond (is_eq (text_cmp q e.name)) (topic_of e) _
    ∙ ap (λ b. b || is_some (find text_cmp q (map (λ e. (e.name, topic_of e)) es))) (is_eq-slice_cmp q e.name)
    ∙ ap (λ b. bytes_eq q e.name || b) (is_some-find_named q es)

-- a name is among the topics of a list where it is among the names of the list
pub is_some-get-topics_of : (es : List Entry) (q : Text)
    → is_some (finite.get (topics_of es) q) ≡ is_member bytes_eq (map (λ e. e.name) es) q
is_some-get-topics_of es q = ap is_some (finite.get-from_entries text_cmp_total _ q) ∙ is_some-find_named q es
