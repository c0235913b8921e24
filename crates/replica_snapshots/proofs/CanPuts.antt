-- What has a spelling can be written.
use Rattle.std.proofs.lemmas.List.Elements.{All-weaker}
use Rattle.coord_node.specs.Nodes.{Named}
use Rattle.replica_snapshots.specs.Groups.{FitsNamed, parts_of}
use Rattle.replica_snapshots.specs.Nodes.{FitsSection, Head, OneGroup, Section}
use Rattle.replica_snapshots.specs.Parts.{MemberPart}
use Rattle.replica_snapshots.specs.Puttable.{CanPutGrant, CanPutMember, CanPutNamed, CanPutSection}
use Rattle.replica_snapshots.specs.Spelling.{FitsGrant, FitsMember}

member_can : (m : MemberPart) → FitsMember m → CanPutMember m
member_can m fits = record {
  id = fits.id;
  kept = fits.kept;
  grants = (fits.grants.0, All-weaker FitsGrant CanPutGrant (λ g f. f.partition) m.grants fits.grants.1);
  target = fits.target;
}

pub named_can : (g : Named) → FitsNamed g → CanPutNamed g
named_can g fits =
    let lists = fits.group.parts.lists in
    record {
      name = fits.name;
      parts = λ _. record {
        numbers = fits.group.parts.numbers;
        lists = record {
          view = lists.view;
          past = lists.past;
          members = (lists.members.0, All-weaker FitsMember CanPutMember member_can (parts_of g.1).members lists.members.1);
          offsets = lists.offsets;
        };
      };
    }

pub section_can : (x : Section) → FitsSection x → CanPutSection x
section_can (Head h) fits = fits
section_can (OneGroup g) fits = named_can g fits
