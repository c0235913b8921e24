use Rattle.std.proofs.Common.{◌≡◌, [], ◌∷◌, ◌++◌, map, sym, ap, subst, ◌∙◌, string_bytes, Some, None}
use Rattle.std.specs.BTreeMap.{get_by_text}
use Rattle.std.specs.FinMap.{get}
use Rattle.std.specs.Option.{option_map}
use Rattle.std.proofs.lemmas.List.{map-append}
use Rattle.group_types.specs.Sets.{has}
use Rattle.group_types.specs.Images.{AreImageTopics}
use Rattle.group_types.proofs.Images.{retained-AreImageTopics}
use Rattle.topic_meta.specs.Stored.{shown_topic}
use Rattle.topic_meta.specs.Views.{named, all_named, shown, IsView}
use Rattle.topic_meta.proofs.Found.{found, found-more, found-skip, got, shown-found, found-IsView, found-end}
use Rattle.topic_meta.proofs.image.Image.view.Goals as goal

pub loop-name-init : goal.loop-name-init
loop-name-init c =
    ap (λ ts. all_named ts ++ found c.args.self.now (map string_bytes c.into_iter-name-iterator.result)) c.new-topics.ensures.items
    ∙ ap (found c.args.self.now) (ap (map string_bytes) c.into_iter-name-iterator.ensures.into_iter_gives ∙ c.iter-name-items.ensures.rest)

pub loop-name-preserved-in_ok-push : goal.loop-name-preserved-in_ok-push
loop-name-preserved-in_ok-push c =
    let image = c.args.self.now in
    let so_far = c.loop-name.topics.items in
    let left = map string_bytes c.next.new.self in
    let name = string_bytes c.in-Some.name.now in
    let topic = shown_topic c.in-Some-get.topic.now in
    let is : get image name ≡ Some topic =
    got c.self.inside.topics image name c.self.view_is
    ∙ ap (option_map shown_topic) (ap (get_by_text c.self.inside.topics) (sym c.as_str.ensures.value) ∙ sym c.in-Some-get.ensures.value) in
    let before = ap (λ it. all_named so_far ++ found image (map string_bytes it)) (sym c.in-Some.ensures.steps) ∙ c.loop-name.invariant in
    ap (λ ts. all_named ts ++ found image left) c.in_ok-push.ensures.items
    ∙ ap (λ es. es ++ found image left) (map-append named so_far _ ∙ ap (λ n. all_named so_far ++ (n, topic) ∷ []) c.in_ok-clone.ensures.cases)
    ∙ found-more image (all_named so_far) _ name left topic is before

pub loop-name-preserved : goal.loop-name-preserved
loop-name-preserved c =
    let image = c.args.self.now in
    let name = string_bytes c.in-Some.name.now in
    let is : get image name ≡ None =
    got c.self.inside.topics image name c.self.view_is
    ∙ ap (option_map shown_topic) (ap (get_by_text c.self.inside.topics) (sym c.as_str.ensures.value) ∙ sym c.in_default.ensures.value) in
    found-skip image (all_named c.loop-name.topics.items) _ name (map string_bytes c.next.new.self) is
    (ap (λ it. all_named c.loop-name.topics.items ++ found image (map string_bytes it)) (sym c.in-Some.ensures.steps) ∙ c.loop-name.invariant)

pub in_order-requires : goal.in_order-requires
in_order-requires c =
    let ended = found-end c.args.self.now (all_named c.loop-name.topics.items) c.args.names.now (map string_bytes c.loop-name.name-iterator)
    (ap (map string_bytes) c.in-None.ensures.steps.0) c.loop-name.invariant in
    subst IsView (sym ended) (found-IsView c.args.self.now c.args.names.now (subst AreImageTopics c.self.view_is c.self.invariant))

pub returns : goal.returns
returns c =
    let ended = found-end c.args.self.now (all_named c.loop-name.topics.items) c.args.names.now (map string_bytes c.loop-name.name-iterator)
    (ap (map string_bytes) c.in-None.ensures.steps.0) c.loop-name.invariant in
    let value = c.in_order.ensures ∙ ap shown ended ∙ shown-found c.args.self.now c.args.names.now in
    record {
      value = value;
      sound = subst AreImageTopics (sym value) (retained-AreImageTopics c.args.self.now (has c.args.names.now) (subst AreImageTopics c.self.view_is c.self.invariant));
    }
