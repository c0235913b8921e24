use Rattle.std.proofs.Common.{◌≡◌, ◌<◌, ◌-◌, ℕ, List, length, take, Ok, Err, sym, ap, subst, ◌∙◌, arith}
use Rattle.std.specs.Prelude.{slice_get}
use Rattle.replica_snapshots.specs.Nodes.{FitsSection, Section, section_fields, sections_of}
use Rattle.replica_snapshots.specs.Views.{listed_node}
use Rattle.replica_snapshots.specs.Puttable.{CanPutSection}
use Rattle.replica_snapshots.specs.Writing.{PutsSections, PutsUpToWhere}
use Rattle.replica_snapshots.proofs.Listed.{said_there, some_there}
use Rattle.replica_snapshots.proofs.SectionLaws.{one_put, stopped_put}
use Rattle.replica_snapshots.proofs.node.Sections.put.Goals.{else-from-next-via-then-from-next+else-size-len, else-from-next-via-else-from-next}
use Rattle.replica_snapshots.proofs.node.Sections.put.Goals as goal

pub returns-in-Err : goal.returns-in-Err
returns-in-Err c =
    let sections = sections_of (listed_node c.args.self.now) in
    let old = c.args.out.now.items in
    let bytes = c.put_section.new.out.items in
    let within : c.loop-next.next < length sections = omega (arith, c.loop-next-test.true, c.count-count.ensures) in
    let there = some_there sections c.loop-next.next within in
    let one =
    said_there (λ (section : Section). PutsUpToWhere (Err c.in-Err.fault) c.loop-next.out.items bytes (CanPutSection section) (FitsSection section) (section_fields section))
    (slice_get sections c.loop-next.next) there.0 there.1 c.in-Err.ensures in
    let size : c.len-before.result ≡ length old = omega (arith, c.len-before.ensures, c.args.out.now.ok.0) in
    let cut : c.truncate.new.self.items ≡ take (length old) bytes = c.truncate.ensures.items ∙ ap (λ n. take n bytes) size in
    subst (λ (l : List ℕ). PutsSections (Err c.in-Err.fault) old l sections c.args.from c.args.size) (sym cut)
    (stopped_put sections c.args.from c.args.size c.loop-next.next there.0 there.1 c.loop-next.invariant one)

-- a further section is put because there are too few bytes
few_bytes : (c : goal.In_default) → c.args.from < c.loop-next.next
    → length c.loop-next.out.items - length c.args.out.now.items < c.args.size
few_bytes c behind = elim c.else-from-next.branch [
  | else-from-next-via-then-from-next+else-size-len w ↦
      omega (arith, w.if-size-len, w.len.ensures, c.len-before.ensures, c.args.out.now.ok.0)
  | else-from-next-via-else-from-next w ↦ absurd (omega (arith, w.if-from-next, behind))
]

pub loop-next-preserved : goal.loop-next-preserved
loop-next-preserved c =
    let sections = sections_of (listed_node c.args.self.now) in
    let within : c.loop-next.next < length sections = omega (arith, c.loop-next-test.true, c.count-count.ensures) in
    let there = some_there sections c.loop-next.next within in
    let one =
    said_there
    (λ (section : Section). PutsUpToWhere (Ok tt) c.loop-next.out.items c.put_section.new.out.items (CanPutSection section) (FitsSection section) (section_fields section))
    (slice_get sections c.loop-next.next) there.0 there.1 c.in_default.ensures in
    one_put sections c.args.from c.args.size c.loop-next.next there.0 c.loop-next.auto.next there.1 (few_bytes c) c.loop-next.invariant one
