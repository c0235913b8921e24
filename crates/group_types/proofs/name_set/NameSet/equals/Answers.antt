use Rattle.std.proofs.lemmas.Bool.Decides.{same_from_decides}
use Rattle.group_types.specs.Sets.{are_same}
use Rattle.group_types.proofs.Orders.{text_cmp_total, text_cmp-IsAntisymmetric}
use Rattle.group_types.proofs.NameLemmas.{same_texts, texts_differ, texts_eq-Decides}
use Rattle.group_types.proofs.SetLemmas.{are_same-Decides}
use Rattle.group_types.proofs.name_set.NameSet.equals.Goals as goal

pub returns-then-len-clause-same : goal.returns-then-len-clause-same
returns-then-len-clause-same c =
    rw (← c.self.view_is, ← c.other.view_is) (same_texts c.self.inside.names.keys c.other.inside.names.keys c.len.ensures.ordered c.len-2.ensures.ordered c.eq.result
    (texts_eq-Decides c.self.inside.names.keys c.other.inside.names.keys c.eq.result c.eq.ensures))

pub returns-else-len-clause-same : goal.returns-else-len-clause-same
returns-else-len-clause-same c =
    rw (← c.self.view_is, ← c.other.view_is) (same_texts c.self.inside.names.keys c.other.inside.names.keys c.len.ensures.ordered c.len-2.ensures.ordered _
    (texts_differ c.self.inside.names.keys c.other.inside.names.keys c.len.result c.len-2.result c.len.ensures.len c.len-2.ensures.len c.if-len.false))

pub returns-then-len-clause-value : goal.returns-then-len-clause-value
returns-then-len-clause-value c =
    same_from_decides _ (are_same c.args.self.now c.args.other.now) (returns-then-len-clause-same c) (are_same-Decides text_cmp_total text_cmp-IsAntisymmetric c.args.self.now c.args.other.now)

pub returns-else-len-clause-value : goal.returns-else-len-clause-value
returns-else-len-clause-value c =
    same_from_decides _ (are_same c.args.self.now c.args.other.now) (returns-else-len-clause-same c) (are_same-Decides text_cmp_total text_cmp-IsAntisymmetric c.args.self.now c.args.other.now)
