use Rattle.scenario_text.proofs.Written.{Grows-trans}
use Rattle.scenario_text.proofs.explain.Reasons.tell.Goals as goal

pub returns-then-self-clause-told : goal.returns-then-self-clause-told
returns-then-self-clause-told g c =
    Grows-trans (g.E.Write.contents c.args.faults.now) (g.E.Write.contents c.write_whole.new.writer) (g.E.Write.contents c.write_whole-then-self.new.writer)
    (record { bytes = c.write_whole.ensures.part.written; appends = c.write_whole.ensures.part.appends })
    (record { bytes = c.write_whole-then-self.ensures.part.written; appends = c.write_whole-then-self.ensures.part.appends })
