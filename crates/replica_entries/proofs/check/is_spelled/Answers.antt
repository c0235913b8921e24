use Rattle.std.proofs.Common.{rules}
use Rattle.std.proofs.lemmas.Bool.{leb-true, le-leb}
use Rattle.replica_entries.proofs.check.is_spelled.Goals as goal

pub returns : goal.returns
returns c = (
  (λ test. record {
    name = record {
      length = rw (← c.as_str-name.ensures.value) (leb-true _ _ test);
      utf8 = rw (← c.as_str-name.ensures.value) c.as_str-name.utf8;
    };
    id = search rules;
    count = search rules;
  }),
  (λ fits. le-leb _ _ (rw c.as_str-name.ensures.value fits.name.length)),
)
