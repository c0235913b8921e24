use Rattle.std.proofs.Common.{◌≡◌, ℕ, ◌-◌, List, length, take, drop, ap, ◌∙◌, sym, rules, length-drop}
use Rattle.std.proofs.Math.Seq.{take-length}
use Rattle.topic_logs.specs.Checksum.{crc32c_of}
use Rattle.topic_logs.specs.Format.{checksum, covered}
use Rattle.topic_logs.proofs.batch.RecordBatch.read.Goals as goal

to_end : (n : ℕ) (xs : List ℕ) → take (length xs - n) (drop n xs) ≡ drop n xs
to_end n xs = ap (λ (k : ℕ). take k (drop n xs)) (sym (length-drop n xs)) ∙ take-length (drop n xs)

pub invariant_of-result : goal.invariant_of-result
invariant_of-result c = record {
  valid = record {
    size = c.in_ok-batch.ensures.size;
    version = c.in_ok-batch.ensures.version ∙ c.if-bytes-ne2.false;
    undamaged = sym c.u32_at.ensures ∙ (c.if-u32_at-crc32c.false ∙ (c.crc32c.ensures ∙ ap crc32c_of (to_end 21 c.in_ok-batch.batch.now)));
    counts = search (rules, c.if-not-has_counts.ensures);
  };
}

pub returns-then-u32_at-crc32c-clause-only : goal.returns-then-u32_at-crc32c-clause-only
returns-then-u32_at-crc32c-clause-only c = λ batch rest whole is.
    let same : c.in_ok-batch.batch.now ≡ batch = c.in_ok-batch.ensures.only batch rest whole.size is in
    c.if-u32_at-crc32c.true
    (c.u32_at.ensures
    ∙ (ap checksum same
    ∙ (whole.undamaged
    ∙ (ap (λ (b : List ℕ). crc32c_of (covered b)) (sym same)
    ∙ (ap crc32c_of (sym (to_end 21 c.in_ok-batch.batch.now)) ∙ sym c.crc32c.ensures)))))
