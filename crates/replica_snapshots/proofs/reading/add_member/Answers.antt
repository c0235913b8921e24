use Rattle.std.proofs.Common.{◌≡◌, ℕ, List, ◌++◌, true≢false, sym, ap, subst, ◌∙◌}
use Rattle.std.proofs.lemmas.Result.{err_from_is_err_and}
use Rattle.flex_wire.specs.Composed.{array}
use Rattle.group_types.specs.Group.{Record}
use Rattle.group_types.specs.Partition.{Partitions}
use Rattle.group_types.specs.Text.{Text}
use Rattle.range_assign.specs.Shares.{shares_in}
use Rattle.group_core.specs.Group.{GroupValue}
use Rattle.group_core.specs.Restoring.{CanBeMember, changed_if, with_member}
use Rattle.replica_snapshots.specs.Building.{CanAddGrant, CanEach, with_each, with_grant, with_share}
use Rattle.replica_snapshots.specs.Parts.{MemberPart}
use Rattle.replica_snapshots.specs.Spelling.{grant_fields, partitions_field, record_fields}
use Rattle.replica_snapshots.specs.Views.{unread}
use Rattle.replica_snapshots.proofs.ReadingLaws.{stopped, taken, text_is_read}
use Rattle.replica_snapshots.proofs.RecordReads.{member_parts, partitions_are_read, record_is_read}
use Rattle.replica_snapshots.proofs.reading.add_member.Goals as goal

-- the bytes behind the grants, behind the record, and behind the id
abbrev last : MemberPart → List ℕ → List ℕ
last m rest = partitions_field m.target ++ rest

abbrev later : MemberPart → List ℕ → List ℕ
later m rest = array grant_fields m.grants ++ last m rest

abbrev behind_id : MemberPart → List ℕ → List ℕ
behind_id m rest = record_fields m.kept ++ later m rest

pub returns-in_err-id : goal.returns-in_err-id
returns-in_err-id c =
    let p = err_from_is_err_and c.from_residual.result c.from_residual.ensures.1 in
    rw (p.1, p.2) (λ (m : MemberPart) (rest : List ℕ) fits can is.
    stopped text_is_read (unread c.args.cursor.now) _ c.in_err-id.ensures m.id (behind_id m rest) fits.id (is ∙ member_parts m rest))

pub returns-in_err-kept : goal.returns-in_err-kept
returns-in_err-kept c =
    let p = err_from_is_err_and c.from_residual-in_err-kept.result c.from_residual-in_err-kept.ensures.1 in
    rw (p.1, p.2) (λ (m : MemberPart) (rest : List ℕ) fits can is.
    let id = taken text_is_read (unread c.args.cursor.now) c.in_ok-id.id _ c.in_ok-id.ensures m.id (behind_id m rest) fits.id (is ∙ member_parts m rest) in
    stopped record_is_read _ _ c.in_err-kept.ensures m.kept (later m rest) fits.kept id.1)

pub returns-in_err-sound : goal.returns-in_err-sound
returns-in_err-sound c = λ m rest fits can is.
    let old = c.args.group.now in
    let id = taken text_is_read (unread c.args.cursor.now) c.in_ok-id.id _ c.in_ok-id.ensures m.id (behind_id m rest) fits.id (is ∙ member_parts m rest) in
    let kept = taken record_is_read _ c.in_ok-kept.kept _ c.in_ok-kept.ensures m.kept (later m rest) fits.kept id.1 in
    let both : ◌≡◌ {A = Text × Record} (c.in_ok-id.id, c.in_ok-kept.kept) (m.id, m.kept) = λ i. (id.0 i, kept.0 i) in
    let so = c.in_ok-is_taken.ensures.can.1 (subst (λ (x : Text × Record). CanBeMember old.state x.0 x.1) (sym both) can.0) in
    absurd (true≢false (sym (c.in_err-sound.ensures so)))

pub returns-in_err-add_grants : goal.returns-in_err-add_grants
returns-in_err-add_grants c =
    let p = err_from_is_err_and c.from_residual-in_err-add_grants.result c.from_residual-in_err-add_grants.ensures.1 in
    rw (p.1, p.2) (λ (m : MemberPart) (rest : List ℕ) fits can is.
    let old = c.args.group.now in
    let id = taken text_is_read (unread c.args.cursor.now) c.in_ok-id.id _ c.in_ok-id.ensures m.id (behind_id m rest) fits.id (is ∙ member_parts m rest) in
    let kept = taken record_is_read _ c.in_ok-kept.kept _ c.in_ok-kept.ensures m.kept (later m rest) fits.kept id.1 in
    let both : ◌≡◌ {A = Text × Record} (c.in_ok-id.id, c.in_ok-kept.kept) (m.id, m.kept) = λ i. (id.0 i, kept.0 i) in
    let so = c.in_ok-is_taken.ensures.can.1 (subst (λ (x : Text × Record). CanBeMember old.state x.0 x.1) (sym both) can.0) in
    let group : c.restore_member.new.self ≡ with_member old m.id m.kept =
    c.in_ok-is_taken.ensures.added
    ∙ (ap (λ b. changed_if b (with_member old c.in_ok-id.id c.in_ok-kept.kept) old) so ∙ ap (λ (x : Text × Record). with_member old x.0 x.1) both) in
    let start : ◌≡◌ {A = Text × GroupValue} (c.in_ok-id.id, c.restore_member.new.self) (m.id, with_member old m.id m.kept) = λ i. (id.0 i, group i) in
    c.in_err-add_grants.ensures m.grants (last m rest) fits.grants
    (subst (λ (x : Text × GroupValue). CanEach (CanAddGrant x.0) (with_grant x.0) x.1 m.grants) (sym start) can.1) kept.1)

pub returns-in_err-set : goal.returns-in_err-set
returns-in_err-set c =
    let p = err_from_is_err_and c.from_residual-in_err-set.result c.from_residual-in_err-set.ensures.1 in
    rw (p.1, p.2) (λ (m : MemberPart) (rest : List ℕ) fits can is.
    let old = c.args.group.now in
    let id = taken text_is_read (unread c.args.cursor.now) c.in_ok-id.id _ c.in_ok-id.ensures m.id (behind_id m rest) fits.id (is ∙ member_parts m rest) in
    let kept = taken record_is_read _ c.in_ok-kept.kept _ c.in_ok-kept.ensures m.kept (later m rest) fits.kept id.1 in
    let both : ◌≡◌ {A = Text × Record} (c.in_ok-id.id, c.in_ok-kept.kept) (m.id, m.kept) = λ i. (id.0 i, kept.0 i) in
    let so = c.in_ok-is_taken.ensures.can.1 (subst (λ (x : Text × Record). CanBeMember old.state x.0 x.1) (sym both) can.0) in
    let group : c.restore_member.new.self ≡ with_member old m.id m.kept =
    c.in_ok-is_taken.ensures.added
    ∙ (ap (λ b. changed_if b (with_member old c.in_ok-id.id c.in_ok-kept.kept) old) so ∙ ap (λ (x : Text × Record). with_member old x.0 x.1) both) in
    let start : ◌≡◌ {A = Text × GroupValue} (c.in_ok-id.id, c.restore_member.new.self) (m.id, with_member old m.id m.kept) = λ i. (id.0 i, group i) in
    let grants = c.in_ok-add_grants.ensures m.grants (last m rest) fits.grants
    (subst (λ (x : Text × GroupValue). CanEach (CanAddGrant x.0) (with_grant x.0) x.1 m.grants) (sym start) can.1) kept.1 in
    stopped partitions_are_read _ _ c.in_err-set.ensures m.target rest fits.target grants.1)

pub returns : goal.returns
returns c = λ m rest fits can is.
    let old = c.args.group.now in
    let id = taken text_is_read (unread c.args.cursor.now) c.in_ok-id.id _ c.in_ok-id.ensures m.id (behind_id m rest) fits.id (is ∙ member_parts m rest) in
    let kept = taken record_is_read _ c.in_ok-kept.kept _ c.in_ok-kept.ensures m.kept (later m rest) fits.kept id.1 in
    let both : ◌≡◌ {A = Text × Record} (c.in_ok-id.id, c.in_ok-kept.kept) (m.id, m.kept) = λ i. (id.0 i, kept.0 i) in
    let so = c.in_ok-is_taken.ensures.can.1 (subst (λ (x : Text × Record). CanBeMember old.state x.0 x.1) (sym both) can.0) in
    let group : c.restore_member.new.self ≡ with_member old m.id m.kept =
    c.in_ok-is_taken.ensures.added
    ∙ (ap (λ b. changed_if b (with_member old c.in_ok-id.id c.in_ok-kept.kept) old) so ∙ ap (λ (x : Text × Record). with_member old x.0 x.1) both) in
    let start : ◌≡◌ {A = Text × GroupValue} (c.in_ok-id.id, c.restore_member.new.self) (m.id, with_member old m.id m.kept) = λ i. (id.0 i, group i) in
    let grants = c.in_ok-add_grants.ensures m.grants (last m rest) fits.grants
    (subst (λ (x : Text × GroupValue). CanEach (CanAddGrant x.0) (with_grant x.0) x.1 m.grants) (sym start) can.1) kept.1 in
    let set = taken partitions_are_read _ c.in_ok-set.set _ c.in_ok-set.ensures m.target rest fits.target grants.1 in
    let share : ◌≡◌ {A = Text × Partitions} (c.in_ok-id.id, c.in_ok-set.set) (m.id, m.target) = λ i. (id.0 i, set.0 i) in
    let built = grants.0 ∙ ap (λ (x : Text × GroupValue). with_each (with_grant x.0) x.1 m.grants) start in
    let shares = c.in_ok-add_share.ensures ∙ ap (λ (s : Text × Partitions). with_share (shares_in c.args.shares.now.items) s) share in
    ((λ i. (built i, shares i)), set.1)
