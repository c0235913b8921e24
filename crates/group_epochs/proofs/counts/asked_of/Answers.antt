use Rattle.std.proofs.Common.{ap, ◌∙◌, IfOk, Result, Ok, Err}
use Rattle.std.specs.Option.{option_copied}
use Rattle.group_types.specs.Sets.{has}
use Rattle.group_types.specs.Topics.{Names}
use Rattle.group_epochs.specs.Counts.{with_counted}
use Rattle.group_epochs.proofs.Counted.{found-AreAsked, has-with_counted}
use Rattle.group_epochs.proofs.counts.asked_of.Goals as goal

if_ok : {T E : Type 0} {P Q : T → Type 0} (r : Result T E) → ((x : T) → P x → Q x) → IfOk r P → IfOk r Q
if_ok (Ok x) so it = so x it
if_ok (Err e) so it = it

pub returns-then-len : goal.returns-then-len
returns-then-len c =
    let image = c.args.image.now in
    let former = option_copied c.args.former in
    let names = c.args.names.now in
    let counts = c.args.counts.now in
    if_ok c.found_of.result
    (λ found is q there. ap (λ (s : Names). has s q) is ∙ found-AreAsked image former names counts q there)
    c.found_of.ensures

pub returns : goal.returns
returns c = λ q there.
    let former = option_copied c.args.former in
    let rows = c.args.counts.now.entries in
    ap (λ (s : Names). has s q) (c.in_ok-add_counted.ensures.added ∙ ap (λ (s : Names). with_counted former s rows) c.in_ok-asked.ensures)
    ∙ has-with_counted former c.args.names.now rows q c.in_ok-add_counted.ensures.unique
