use Rattle.std.proofs.Common.{◌≡◌, ◌≤◌, ◌++◌, ◌-◌, ℕ, length, take, pos, ap, ◌∙◌, sym, arith}
use Rattle.std.proofs.Math.Seq.{take-append_seam}
use Rattle.std.proofs.lemmas.Int.{ints}
use Rattle.topic_logs.specs.Format.{int32_at}
use Rattle.topic_logs.proofs.Fields.{BeginsWith, BeginsWith-append, int32_at-append}
use Rattle.topic_logs.proofs.batch.split_at_end.Goals as goal

pub returns-clause-size : goal.returns-clause-size
returns-clause-size c =
    let header : 61 ≤ length c.split_at.result.0.now = grind (arith, ints) in
    record {
      header = header;
      size =
          sym (int32_at-append 8 c.split_at.result.0.now c.split_at.result.1.now (omega arith))
          ∙ (ap (int32_at 8) (sym c.split_at.ensures.by_index.0) ∙ (sym c.i32_at-length.ensures ∙ grind (arith, ints)));
    }

pub returns-then-length-lt-SMALLEST_LENGTH-clause-only : goal.returns-then-length-lt-SMALLEST_LENGTH-clause-only
returns-then-length-lt-SMALLEST_LENGTH-clause-only c = λ batch rest sized is.
    let begins : BeginsWith c.args.bytes.now batch = BeginsWith-append c.args.bytes.now batch rest sized is in
    let says : c.i32_at-length.result ≡ pos (length batch - 12) = c.i32_at-length.ensures ∙ begins.length_is in
    let header : 61 ≤ length batch = begins.header in
    grind (arith, ints)

pub returns-then-bytes-size-clause-only : goal.returns-then-bytes-size-clause-only
returns-then-bytes-size-clause-only c = λ batch rest sized is.
    let begins : BeginsWith c.args.bytes.now batch = BeginsWith-append c.args.bytes.now batch rest sized is in
    let says : c.i32_at-length.result ≡ pos (length batch - 12) = c.i32_at-length.ensures ∙ begins.length_is in
    let header : 61 ≤ length batch = begins.header in
    let within : length batch ≤ length c.args.bytes.now = begins.within in
    grind (arith, ints)

pub returns-clause-only : goal.returns-clause-only
returns-clause-only c = λ batch rest sized is.
    let begins : BeginsWith c.args.bytes.now batch = BeginsWith-append c.args.bytes.now batch rest sized is in
    let says : c.i32_at-length.result ≡ pos (length batch - 12) = c.i32_at-length.ensures ∙ begins.length_is in
    let header : 61 ≤ length batch = begins.header in
    let long : length c.split_at.result.0.now ≡ length batch = grind (arith, ints) in
    sym (take-append_seam c.split_at.result.0.now c.split_at.result.1.now)
    ∙ (ap (λ (n : ℕ). take n (c.split_at.result.0.now ++ c.split_at.result.1.now)) long
    ∙ (ap (take (length batch)) (sym c.split_at.ensures.by_index.0) ∙ begins.front))
