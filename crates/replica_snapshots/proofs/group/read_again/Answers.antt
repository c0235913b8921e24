use Rattle.std.proofs.Common.{◌≡◌, ℕ, List, ◌++◌, ap, sym, subst, ◌∙◌, append_assoc}
use Rattle.std.proofs.lemmas.Result.{err_from_is_err_and}
use Rattle.flex_wire.specs.Spelling.{compact_string}
use Rattle.coord_node.specs.Nodes.{Named, held_of}
use Rattle.replica_snapshots.specs.Groups.{FitsNamed, group_fields, named_fields}
use Rattle.replica_snapshots.specs.Views.{unread}
use Rattle.replica_snapshots.proofs.ReadingLaws.{stopped, taken, text_is_read}
use Rattle.replica_snapshots.proofs.group.read_again.Goals as goal

pub returns-in_err-name-clause-whole : goal.returns-in_err-name-clause-whole
returns-in_err-name-clause-whole c =
    let p = err_from_is_err_and c.from_residual.result c.from_residual.ensures.1 in
    rw (p.1, p.2) (λ (g : Named) (rest : List ℕ) fits is.
    stopped text_is_read (unread c.new-cursor.result) _ c.in_err-name.ensures.exact g.0 (group_fields g.1 ++ rest) fits.name
    (c.new-cursor.ensures ∙ (is ∙ append_assoc (compact_string g.0) (group_fields g.1) rest)))

pub returns-in_err-group-clause-whole : goal.returns-in_err-group-clause-whole
returns-in_err-group-clause-whole c =
    let p = err_from_is_err_and c.from_residual-in_err-group.result c.from_residual-in_err-group.ensures.1 in
    rw (p.1, p.2) (λ (g : Named) (rest : List ℕ) fits is.
    let name =
    taken text_is_read (unread c.new-cursor.result) c.in_ok-name.name.now _ c.in_ok-name.ensures.exact g.0 (group_fields g.1 ++ rest) fits.name
    (c.new-cursor.ensures ∙ (is ∙ append_assoc (compact_string g.0) (group_fields g.1) rest)) in
    c.in_err-group.ensures g.1 rest fits.group name.1)

pub returns-in_err-again-clause-whole : goal.returns-in_err-again-clause-whole
returns-in_err-again-clause-whole c =
    let p = err_from_is_err_and c.from_residual-in_err-again.result c.from_residual-in_err-again.ensures.1 in
    rw (p.1, p.2) (λ (g : Named) (rest : List ℕ) fits is.
    let name =
    taken text_is_read (unread c.new-cursor.result) c.in_ok-name.name.now _ c.in_ok-name.ensures.exact g.0 (group_fields g.1 ++ rest) fits.name
    (c.new-cursor.ensures ∙ (is ∙ append_assoc (compact_string g.0) (group_fields g.1) rest)) in
    let group = c.in_ok-group.ensures g.1 rest fits.group name.1 in
    let same : ◌≡◌ {A = Named} (c.in_ok-name.name.now, held_of c.in_ok-group.group) g = λ i. (name.0 i, group.0 i) in
    c.in_err-again.ensures.fitting (subst FitsNamed (sym same) fits))

pub returns-clause-whole : goal.returns-clause-whole
returns-clause-whole c = λ g rest fits is.
    let name =
    taken text_is_read (unread c.new-cursor.result) c.in_ok-name.name.now _ c.in_ok-name.ensures.exact g.0 (group_fields g.1 ++ rest) fits.name
    (c.new-cursor.ensures ∙ (is ∙ append_assoc (compact_string g.0) (group_fields g.1) rest)) in
    let group = c.in_ok-group.ensures g.1 rest fits.group name.1 in
    let same : ◌≡◌ {A = Named} (c.in_ok-name.name.now, held_of c.in_ok-group.group) g = λ i. (name.0 i, group.0 i) in
    let fields = ap named_fields same in
    let spelled = c.in_ok-again.ensures.ok.1 in
    let no = c.in-Err.ensures.whole rest cc in
    absurd cc
