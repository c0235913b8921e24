use Rattle.std.proofs.Common.{◌∙◌, map, ap}
use Rattle.std.proofs.lemmas.Iterator.Adapters.{YieldsList-from_vec}
use Rattle.std.proofs.lemmas.Iterator.Consumers.{YieldsList-end}
use Rattle.member_core.specs.Client.{new_client}
use Rattle.member_core.specs.Views.{settings_value, HasShortTexts}
use Rattle.world_sim.proofs.Reaching.{further, middle, no_more, one_more_made}
use Rattle.world_sim.proofs.world.clients_of.Goals as goal

pub loop-settings-preserved : goal.loop-settings-preserved
loop-settings-preserved c =
    record {
      parts = further _ _ _ _ _ c.loop-settings.invariant.parts c.in-Some.ensures.steps.0;
      made = one_more_made (λ s. new_client (settings_value s)) c.loop-settings.yielded _ c.loop-settings.clients.items _ c.push.new.self.items c.loop-settings.invariant.made c.in_ok-new.ensures c.in_ok-push.ensures.items;
    }

pub new-requires : goal.new-requires
new-requires c = middle (λ s. HasShortTexts (settings_value s)) _ _ _ _ _ c.requires c.loop-settings.invariant.parts c.in-Some.ensures.steps.0

pub returns : goal.returns
returns c =
    let gives = c.into_iter-settings-iterator.ensures.into_iter_gives in
    let ended = YieldsList-end (YieldsList-from_vec c.args.each.items gives.0 (gives.1 ∙ c.args.each.ok.0)) c.loop-settings.yielded c.loop-settings.settings-iterator c.loop-settings.yielded_by c.next.result c.next.new.self c.in-None.is c.next.ensures.steps in
    c.loop-settings.invariant.made ∙ ap (map (λ s. new_client (settings_value s))) (no_more _ _ _ c.loop-settings.invariant.parts ended.1)
