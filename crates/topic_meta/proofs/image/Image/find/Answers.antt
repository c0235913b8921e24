use Rattle.std.proofs.Common.{◌≡◌, sym, ap, subst, ◌∙◌, arith, Some, pos}
use Rattle.std.specs.FinMap.{get}
use Rattle.std.specs.Int.{w32}
use Rattle.std.specs.Option.{option_map}
use Rattle.std.proofs.lemmas.Int.{ints, to_z_pos}
use Rattle.group_types.specs.Images.{AreImageTopics}
use Rattle.topic_meta.specs.Stored.{shown_topic}
use Rattle.topic_meta.proofs.Found.{got}
use Rattle.topic_meta.proofs.image.Image.find.Goals as goal

pub overflow_cast-result : goal.overflow_cast-result
overflow_cast-result c =
    let is : get c.args.self.now c.args.name.now ≡ Some (shown_topic c.in-Some.topic.now) =
    got c.self.inside.topics c.args.self.now c.args.name.now c.self.view_is ∙ ap (option_map shown_topic) (sym c.in-Some.ensures.value) in
    let sound : AreImageTopics c.args.self.now = subst AreImageTopics c.self.view_is c.self.invariant in
    let bound = sound.counts c.args.name.now (shown_topic c.in-Some.topic.now) is in
    omega (arith, ints, bound.1)

pub returns : goal.returns
returns c =
    let is : get c.args.self.now c.args.name.now ≡ Some (shown_topic c.in-Some.topic.now) =
    got c.self.inside.topics c.args.self.now c.args.name.now c.self.view_is ∙ ap (option_map shown_topic) (sym c.in-Some.ensures.value) in
    let sound : AreImageTopics c.args.self.now = subst AreImageTopics c.self.view_is c.self.invariant in
    let bound = sound.counts c.args.name.now (shown_topic c.in-Some.topic.now) is in
    ap (λ n. Some (c.in-Some.topic.now.id, n)) (to_z_pos w32 c.in-Some.topic.now.count (omega (arith, bound.1))) ∙ ap (option_map (λ t. (t.id, pos t.count))) (sym is)

pub returns-in_default : goal.returns-in_default
returns-in_default c =
    ap (option_map (λ t. (t.id, pos t.count))) (sym (got c.self.inside.topics c.args.self.now c.args.name.now c.self.view_is ∙ ap (option_map shown_topic) (sym c.in_default.ensures.value)))
