use Rattle.std.proofs.Common.{◌++◌, ◌∷◌, [], ap, is_some, subst, sym, ◌∙◌}
use Rattle.std.specs.Prelude.{string_bytes}
use Rattle.std.specs.Map.{lookup}
use Rattle.std.specs.Str.{bytes_eq}
use Rattle.group_types.specs.Places.{IsOrder}
use Rattle.group_epochs.specs.Table.{IsIdOrder, key_cmp, keys_in, no_key, texts_in}
use Rattle.group_epochs.proofs.Keys.{keys_behind}
use Rattle.group_epochs.proofs.Rows.{texts_behind, texts_hold}
use Rattle.group_epochs.proofs.table.add.Goals as goal

pub add_place-requires-clause-absent : goal.add_place-requires-clause-absent
add_place-requires-clause-absent c =
    let rows = c.args.members.now.entries in
    texts_hold rows c.as_str.result.now ∙ ap (λ t. is_some (lookup (λ k. bytes_eq t (string_bytes k)) rows)) c.as_str.ensures.value ∙ ap is_some c.requires.absent

pub add_rank-requires-clause-absent : goal.add_rank-requires-clause-absent
add_rank-requires-clause-absent c =
    let rows = c.args.members.now.entries in
    texts_hold rows c.as_str-2.result.now ∙ ap (λ t. is_some (lookup (λ k. bytes_eq t (string_bytes k)) rows)) c.as_str-2.ensures.value ∙ ap is_some c.requires.absent

pub returns-clause-member_order : goal.returns-clause-member_order
returns-clause-member_order c =
    let rows = c.args.members.now.entries in
    subst (λ keys. IsOrder key_cmp no_key keys c.add_place.new.places.items)
    ((λ i. keys_in rows ++ (c.instance.ensures i, c.as_str.ensures.value i) ∷ []) ∙ sym (keys_behind rows c.add_row.new.members.entries (c.args.text, c.args.entry) c.add_row.ensures.rows)) c.add_place.ensures

pub returns-clause-order : goal.returns-clause-order
returns-clause-order c =
    let rows = c.args.members.now.entries in
    subst (λ texts. IsIdOrder texts c.add_rank.new.by_id.items)
    ((λ i. texts_in rows ++ c.as_str-2.ensures.value i ∷ []) ∙ sym (texts_behind rows c.add_row.new.members.entries c.args.text c.args.entry c.add_row.ensures.rows)) c.add_rank.ensures
