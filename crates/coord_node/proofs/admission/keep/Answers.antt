use Rattle.std.proofs.Common.{◌∷◌, [], ◌++◌, length, ap, ◌∙◌, arith, length-append}
use Rattle.coord_node.specs.NodeView.{Entries}
use Rattle.coord_node.proofs.admission.keep.Goals as goal

pub returns-in-Ok-clause-kept : goal.returns-in-Ok-clause-kept
returns-in-Ok-clause-kept c =
    record {
      key = c.in-Ok.key;
      named = c.in-Ok.ensures.key.0;
      entries = c.insert.ensures ∙ ap (λ (es : Entries). es ++ (c.in-Ok.key, c.args.kept) ∷ []) c.in-Ok.ensures.entries;
    }

pub returns-in-Ok-clause-room : goal.returns-in-Ok-clause-room
returns-in-Ok-clause-room c = (
  c.in-Ok.ensures.room.0,
  omega (arith, c.in-Ok.ensures.room.1, ap length c.insert.ensures, ap length c.in-Ok.ensures.entries, length-append c.key_for.new.groups.entries ((c.in-Ok.key, c.args.kept) ∷ [])),
)
