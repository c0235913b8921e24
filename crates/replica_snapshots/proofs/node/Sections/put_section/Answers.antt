use Rattle.std.proofs.Common.{◌≡◌, ◌+◌, List, None, Some, Ok, length, refl, sym, ap, ◌∙◌, arith}
use Rattle.std.specs.Prelude.{slice_get}
use Rattle.std.proofs.lemmas.Option.{slice_get_past, slice_get_read}
use Rattle.coord_node.specs.declared.restored.NamedGroup.{NamedGroup}
use Rattle.coord_node.specs.Restored.{listed_named}
use Rattle.replica_snapshots.specs.Nodes.{FitsSection, OneGroup, Section, section_fields, sections_of}
use Rattle.replica_snapshots.specs.Views.{listed_node}
use Rattle.replica_snapshots.specs.Puttable.{CanPutSection}
use Rattle.replica_snapshots.specs.Writing.{PutsUpToWhere}
use Rattle.replica_snapshots.proofs.Listed.{group_behind, known_none, known_some, none_behind, up_to}
use Rattle.replica_snapshots.proofs.node.Sections.put_section.Goals as goal

pub returns-in-Some-get : goal.returns-in-Some-get
returns-in-Some-get c =
    let s = c.args.self.now in
    let list = c.deref.result.now in
    let place = c.in-Some.place in
    let found = c.in-Some-get.ensures.lookup in
    let behind : c.args.number ≡ place + 1 = omega (arith, c.in-Some.ensures.0, c.in-Some.ensures.1) in
    let at : slice_get s.groups.items place ≡ Some c.in-Some-get.it.now =
    ap (λ (l : List NamedGroup). slice_get l place) (sym c.deref.ensures.value) ∙ slice_get_read list (length list) place _ refl found.3.0 found.1 in
    known_some
    (λ (section : Section). PutsUpToWhere c.put_group.result c.args.out.now.items c.put_group.new.out.items (CanPutSection section) (FitsSection section) (section_fields section))
    (slice_get (sections_of (listed_node s)) c.args.number) (OneGroup (listed_named c.in-Some-get.it.now))
    (group_behind s c.args.number place c.in-Some-get.it.now behind at) (up_to c.put_group.result c.put_group.ensures)

pub returns-in-None-get : goal.returns-in-None-get
returns-in-None-get c =
    let s = c.args.self.now in
    let place = c.in-Some.place in
    let behind : c.args.number ≡ place + 1 = omega (arith, c.in-Some.ensures.0, c.in-Some.ensures.1) in
    let at : slice_get s.groups.items place ≡ None =
    ap (λ (l : List NamedGroup). slice_get l place) (sym c.deref.ensures.value) ∙ slice_get_past c.deref.result.now place c.in-None-get.ensures.lookup.3 in
    known_none (λ (section : Section). PutsUpToWhere (Ok tt) c.args.out.now.items c.args.out.now.items (CanPutSection section) (FitsSection section) (section_fields section))
    (slice_get (sections_of (listed_node s)) c.args.number) (none_behind s c.args.number place behind at)
