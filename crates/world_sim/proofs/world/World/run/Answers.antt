use Rattle.std.proofs.Common.{◌∙◌, ◌<◌, ◌≤◌, ◌++◌, ◌∷◌, [], List, length, map, refl, sym, subst, arith, length-append}
use Rattle.std.proofs.lemmas.Iterator.Adapters.{YieldsList-from_vec}
use Rattle.std.proofs.lemmas.Iterator.Consumers.{YieldsList-end}
use Rattle.world_sim.specs.declared.act.Act as code
use Rattle.world_sim.specs.Acts.{Act}
use Rattle.world_sim.specs.Acting.{act_value, HasShortTopics}
use Rattle.world_sim.specs.Running.{AllActed, Answers}
use Rattle.world_sim.proofs.MailLemmas.{map_more}
use Rattle.world_sim.proofs.Reaching.{further, is_before, middle, no_more, one_more_acted}
use Rattle.world_sim.proofs.world.World.run.Goals as goal

pub act-answer-requires : goal.act-answer-requires
act-answer-requires c = middle (λ (act : code.Act). HasShortTopics (act_value act)) _ _ _ _ _ c.requires c.loop-act.invariant.parts c.in-Some.ensures.steps.0

pub push_reserved-requires : goal.push_reserved-requires
push_reserved-requires c =
    let before : length c.loop-act.yielded < length c.args.acts.items = is_before _ _ _ _ _ c.loop-act.invariant.parts c.in-Some.ensures.steps.0 in
    omega (arith, before)

pub loop-act-preserved : goal.loop-act-preserved
loop-act-preserved c =
    record {
      parts = further _ _ _ _ _ c.loop-act.invariant.parts c.in-Some.ensures.steps.0;
      steps =
          subst (λ (acts : List Act). AllActed c.args.self.now acts c.push_reserved.new.self.items c.act-answer.new.self) (sym (map_more act_value c.loop-act.yielded c.in-Some.act))
          (subst (λ (answers : Answers). AllActed c.args.self.now (map act_value c.loop-act.yielded ++ act_value c.in-Some.act ∷ []) answers c.act-answer.new.self) (sym c.push_reserved.ensures.items)
          (one_more_acted (map act_value c.loop-act.yielded) c.loop-act.answers.items c.args.self.now c.loop-act.self c.act-answer.new.self (act_value c.in-Some.act) c.act-answer.result c.loop-act.invariant.steps c.act-answer.ensures.step));
      count = let more = length-append c.loop-act.yielded (c.in-Some.act ∷ []) in omega (arith, more, c.push_reserved.ensures.len);
      room = subst (λ k. length c.args.acts.items ≤ k) (sym c.push_reserved.ensures.capacity) c.loop-act.invariant.room;
    }

pub returns-clause-steps : goal.returns-clause-steps
returns-clause-steps c =
    let gives = c.into_iter-act-iterator.ensures.into_iter_gives in
    let ended = YieldsList-end (YieldsList-from_vec c.args.acts.items gives.0 (gives.1 ∙ c.args.acts.ok.0)) c.loop-act.yielded c.loop-act.act-iterator c.loop-act.yielded_by c.next.result c.next.new.self c.in-None.is c.next.ensures.steps in
    subst (λ (acts : List code.Act). AllActed c.args.self.now (map act_value acts) c.loop-act.answers.items c.loop-act.self) (no_more _ _ _ c.loop-act.invariant.parts ended.1) c.loop-act.invariant.steps

pub returns-in_err-answers-clause-brought_first : goal.returns-in_err-answers-clause-brought_first
returns-in_err-answers-clause-brought_first c = (c.hold_on.ensures.all [] [] c.args.self.now refl).brought

pub returns-clause-brought_first : goal.returns-clause-brought_first
returns-clause-brought_first c = (c.hold_on.ensures.all [] [] c.args.self.now refl).brought
