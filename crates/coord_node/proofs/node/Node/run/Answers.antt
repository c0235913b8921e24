use Rattle.std.proofs.Common.{◌≡◌, ◌<◌, ℕ, List, ◌∷◌, length, refl, sym, ap, subst, ◌∙◌, append-nil}
use Rattle.coord_node.specs.declared.event.NodeEvent.{NodeEvent}
use Rattle.coord_node.specs.declared.event.NodeEvent.TheVariants as events
use Rattle.coord_node.specs.Coordinator.{Done, Frame}
use Rattle.coord_node.specs.Nodes.{coordinator_of}
use Rattle.coord_node.specs.Steps.{Step}
use Rattle.coord_node.specs.Events.{Runs, event_value}
use Rattle.coord_node.proofs.RunLemmas.{Runs-start, Runs-step, Runs-front}
use Rattle.coord_node.proofs.node.Node.run.Goals as goal

pub loop-event-init : goal.loop-event-init
loop-event-init c = Runs-start (coordinator_of c.args.self.now) c.args.events.now.items c.args.out.now.items

pub loop-event-preserved-in_ok-answer-in-Frame : goal.loop-event-preserved-in_ok-answer-in-Frame
loop-event-preserved-in_ok-answer-in-Frame c =
    let answers = c.in_ok-answer-in-Frame.ensures.step in
    let some : 0 < length c.loop-event.events.items = c.in-Some.ensures.item.3.0 in
    let step : Step (coordinator_of c.loop-event.self) (event_value c.in-Some.event.now) answers.answer (coordinator_of c.answer.new.self) =
    subst (λ (e : NodeEvent). Step (coordinator_of c.loop-event.self) (event_value e) answers.answer (coordinator_of c.answer.new.self)) (sym c.in-Frame.is)
    (subst (λ (bytes : List ℕ). Step (coordinator_of c.loop-event.self) (Frame bytes c.in-Frame.stamp c.in-Frame.moment) answers.answer (coordinator_of c.answer.new.self)) c.as_slice.ensures.value answers.step) in
    Runs-front (coordinator_of c.args.self.now) (coordinator_of c.loop-event.self) (coordinator_of c.answer.new.self) c.args.events.now.items c.loop-event.events.items c.pop_front.new.self.items
    c.in-Some.event.now answers.answer c.args.out.now.items c.loop-event.out.items c.answer.new.out.items
    c.loop-event.invariant some c.in-Some.ensures.lookup c.pop_front.ensures.rest step answers.bytes

pub loop-event-preserved : goal.loop-event-preserved
loop-event-preserved c =
    let image = c.in-Some-Image.image in
    let front : c.loop-event.events.items ≡ events.Image image ∷ c.pop_front-in-Image.new.self.items =
    c.in-Some-Image.ensures.items ∙ ap (λ (e : NodeEvent). e ∷ c.pop_front-in-Image.new.self.items) c.in-Some-Image.field-0-is in
    let runs : Runs (coordinator_of c.args.self.now) c.args.events.now.items (coordinator_of c.loop-event.self) (events.Image image ∷ c.pop_front-in-Image.new.self.items) c.args.out.now.items c.loop-event.out.items =
    subst (λ (items : List NodeEvent). Runs (coordinator_of c.args.self.now) c.args.events.now.items (coordinator_of c.loop-event.self) items c.args.out.now.items c.loop-event.out.items) front c.loop-event.invariant in
    Runs-step (coordinator_of c.args.self.now) (coordinator_of c.loop-event.self) (coordinator_of c.set_image.new.self) c.args.events.now.items c.pop_front-in-Image.new.self.items
    (events.Image image) (Done 0) c.args.out.now.items c.loop-event.out.items c.loop-event.out.items
    runs (refl, ap coordinator_of c.set_image.ensures.value, c.set_image.ensures.sound) (sym (append-nil c.loop-event.out.items))

pub loop-event-preserved-in-Tick-3 : goal.loop-event-preserved-in-Tick-3
loop-event-preserved-in-Tick-3 c =
    let some : 0 < length c.loop-event.events.items = c.in-Some.ensures.item.3.0 in
    let step : Step (coordinator_of c.loop-event.self) (event_value c.in-Some.event.now) (Done c.tick.result) (coordinator_of c.tick.new.self) =
    subst (λ (e : NodeEvent). Step (coordinator_of c.loop-event.self) (event_value e) (Done c.tick.result) (coordinator_of c.tick.new.self)) (sym c.in-Tick.is) c.tick.ensures in
    Runs-front (coordinator_of c.args.self.now) (coordinator_of c.loop-event.self) (coordinator_of c.tick.new.self) c.args.events.now.items c.loop-event.events.items c.pop_front-in-Tick.new.self.items
    c.in-Some.event.now (Done c.tick.result) c.args.out.now.items c.loop-event.out.items c.loop-event.out.items
    c.loop-event.invariant some c.in-Some.ensures.lookup c.pop_front-in-Tick.ensures.rest step (sym (append-nil c.loop-event.out.items))
