use Rattle.std.proofs.Common.{arith, ℕ, List, ◌+◌, ◌++◌, sym, ap, ◌∙◌}
use Rattle.flex_wire.specs.Spelling.{array_count}
use Rattle.flex_wire.proofs.VarintLaws.{varint-of_one}
use Rattle.replica_snapshots.proofs.fields.put_size.Goals as goal

pub returns-then-size-lt127 : goal.returns-then-size-lt127
unfolding array_count
returns-then-size-lt127 c =
    let spelled = varint-of_one (c.args.size + 1) (omega (arith, c.if-size-lt127.true)) in
    record {
      ok = c.in_ok-push.ensures.items ∙ ap (λ (l : List ℕ). c.args.out.now.items ++ l) (sym spelled);
      fits = omega (arith, c.if-size-lt127.true);
      err = tt;
      fitting = λ f. tt;
    }
