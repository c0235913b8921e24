use Rattle.std.proofs.Common.{ap, subst, ◌∙◌, sym, List}
use Rattle.topic_logs.specs.Log.{Batch, batch_of, batches_of, retained, size_of, AreConsecutive}
use Rattle.topic_logs.proofs.KeptLemmas.{AreConsecutive-push, AreConsecutive-retained, batches_of-push, size_of-push}
use Rattle.topic_logs.proofs.kept.push_retaining.Goals as goal

pub drop_oldest-requires : goal.drop_oldest-requires
drop_oldest-requires c =
    c.requires.size
    ∙ (sym (size_of-push (batches_of c.args.batches.now.items) (batch_of c.args.kept))
    ∙ (ap size_of (sym (batches_of-push c.args.batches.now.items c.args.kept)) ∙ ap (λ xs. size_of (batches_of xs)) (sym c.push_back_reserved.ensures.items)))

pub returns-clause-batches : goal.returns-clause-batches
returns-clause-batches c =
    c.drop_oldest.ensures.batches
    ∙ (ap (λ xs. retained c.args.retain (batches_of xs)) c.push_back_reserved.ensures.items
    ∙ ap (retained c.args.retain) (batches_of-push c.args.batches.now.items c.args.kept))

pub returns-clause-consecutive : goal.returns-clause-consecutive
returns-clause-consecutive c =
    let pushed = AreConsecutive-push (batches_of c.args.batches.now.items) (batch_of c.args.kept) c.requires.follows c.requires.some in
    let P : List Batch → Type 0 = λ bs. AreConsecutive bs c.args.kept.next in
    subst P (sym (returns-clause-batches c)) (AreConsecutive-retained c.args.retain _ c.args.kept.next pushed)
