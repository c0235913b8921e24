use Rattle.std.proofs.Common.{◌∷◌, sym, ap, ◌∙◌}
use Rattle.std.proofs.lemmas.Result.{err_from_is_err_and}
use Rattle.group_types.specs.Text.{Text}
use Rattle.group_types.proofs.NameLemmas.{texts_of}
use Rattle.replica_snapshots.proofs.Puts.{all_left, one_less, one_stopped, none_left}
use Rattle.replica_snapshots.proofs.fields.put_each_name.Goals as goal

pub loop-name-init : goal.loop-name-init
loop-name-init c = all_left (ap texts_of c.into_iter-name-iterator.ensures.into_iter_gives ∙ c.iter-name-items.ensures.rest)

pub loop-name-preserved : goal.loop-name-preserved
loop-name-preserved c =
    one_less c.loop-name.invariant
    (ap texts_of c.in-Some.ensures.steps ∙ ap (λ (t : Text). t ∷ texts_of c.next.new.self) (sym c.as_str.ensures.value))
    c.in_ok-put_text.ensures

pub returns-in_err-put_text : goal.returns-in_err-put_text
returns-in_err-put_text c =
    let p = err_from_is_err_and c.from_residual.result c.from_residual.ensures.1 in
    one_stopped c.from_residual.result c.loop-name.invariant
    (ap texts_of c.in-Some.ensures.steps ∙ ap (λ (t : Text). t ∷ texts_of c.next.new.self) (sym c.as_str.ensures.value))
    c.in_err-put_text.ensures p.1 p.2

pub returns : goal.returns
returns c = none_left c.loop-name.invariant (ap texts_of c.in-None.ensures.steps.0)
