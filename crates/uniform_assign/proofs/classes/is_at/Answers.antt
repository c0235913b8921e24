use Rattle.std.proofs.Common.{length, refl, sym, ◌∙◌}
use Rattle.std.proofs.lemmas.Bool.Decides.{Decides-eqb}
use Rattle.std.proofs.lemmas.Option.{slice_get_read}
use Rattle.std.proofs.lemmas.Slice.Eq.{slice_eq-Decides}
use Rattle.uniform_assign.proofs.Staying.{where_true}
use Rattle.uniform_assign.proofs.classes.is_at.Goals as goal

pub returns-then-place-lists : goal.returns-then-place-lists
returns-then-place-lists c =
    let lists = c.args.lists.now in
    let v = c.index-lists-place.result in
    let is = slice_get_read lists (length lists) c.args.place v refl c.if-place-lists.true c.index-lists-place.is in
    where_true c.eq.result (λ so. (v, is, sym c.as_slice.ensures.value ∙ (slice_eq-Decides Decides-eqb c.as_slice.result.now c.args.list.now c.eq.result c.eq.ensures).0 so))
