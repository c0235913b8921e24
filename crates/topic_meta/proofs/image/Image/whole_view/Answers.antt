use Rattle.std.proofs.Common.{◌≡◌, [], ◌∷◌, ◌++◌, sym, ap, subst, ◌∙◌, append_assoc}
use Rattle.std.specs.FinMap.{entries}
use Rattle.std.proofs.lemmas.List.{append-nil, map-append}
use Rattle.topic_meta.specs.Stored.{shown_entries, shown_topic}
use Rattle.topic_meta.specs.Views.{named, all_named, shown, IsView}
use Rattle.topic_meta.proofs.Found.{IsView-entries, shown-entries}
use Rattle.topic_meta.proofs.image.Image.whole_view.Goals as goal

pub loop-name-init : goal.loop-name-init
loop-name-init c =
    ap (λ ts. all_named ts ++ shown_entries c.into_iter-name-iterator.result) c.in_ok-topics.ensures.items
    ∙ ap shown_entries c.into_iter-name-iterator.ensures.into_iter_gives
    ∙ c.topics-name-items.ensures.rest

pub loop-name-preserved : goal.loop-name-preserved
loop-name-preserved c =
    let so_far = all_named c.loop-name.topics.items in
    let left = shown_entries c.next.new.self in
    let topic = shown_topic c.in-Some.topic.now in
    ap (λ ts. all_named ts ++ left) c.in_ok-push.ensures.items
    ∙ ap (λ es. es ++ left) (map-append named c.loop-name.topics.items _ ∙ ap (λ n. so_far ++ (n, topic) ∷ []) c.in_ok-clone.ensures.cases)
    ∙ append_assoc so_far _ left
    ∙ ap (λ it. so_far ++ shown_entries it) (sym c.in-Some.ensures.steps)
    ∙ c.loop-name.invariant

pub in_order-requires : goal.in_order-requires
in_order-requires c =
    let ended : all_named c.loop-name.topics.items ≡ entries c.args.self.now =
    sym (append-nil (all_named c.loop-name.topics.items))
    ∙ ap (λ it. all_named c.loop-name.topics.items ++ shown_entries it) (sym c.in-None.ensures.steps.0)
    ∙ c.loop-name.invariant in
    subst IsView (sym ended) (IsView-entries c.args.self.now c.len.ensures.sound)

pub returns : goal.returns
returns c =
    let ended : all_named c.loop-name.topics.items ≡ entries c.args.self.now =
    sym (append-nil (all_named c.loop-name.topics.items))
    ∙ ap (λ it. all_named c.loop-name.topics.items ++ shown_entries it) (sym c.in-None.ensures.steps.0)
    ∙ c.loop-name.invariant in
    c.in_order.ensures ∙ ap shown ended ∙ shown-entries c.args.self.now
