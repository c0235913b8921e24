use Rattle.std.proofs.Common.{arith, ℕ, List, ◌++◌, ap, ◌∙◌, append_assoc}
use Rattle.flex_wire.specs.Spelling.{array_count, compact_string}
use Rattle.replica_snapshots.proofs.fields.put_text.Goals as goal

pub returns : goal.returns
unfolding compact_string array_count
returns c =
    let text = c.args.text.now in
    let size = c.in_ok-put_size.ensures in
    let put = rw c.as_bytes.ensures.value at c.in_ok-extend_from_slice.ensures.items in
    record {
      ok = put ∙ (ap (λ (l : List ℕ). l ++ text) size.ok ∙ append_assoc c.args.out.now.items _ text);
      fits = record { length = omega (arith, c.if-text-gt-LONGEST_STRING.false); utf8 = c.utf8.text };
      err = tt;
      fitting = λ f. tt;
    }
