-- The view of the members' names, where a record is stored anew.
use Rattle.std.proofs.Common.{◌≡◌, sym, ap, ◌∙◌}
use Rattle.std.specs.FinMap as finite
use Rattle.group_types.specs.Text.{Text}
use Rattle.group_types.specs.Topics.{Topics}
use Rattle.group_types.specs.Group.{Record, Records}
use Rattle.group_types.specs.Renewal.{view_for}
use Rattle.group_types.proofs.Lookups.{get-inserted}
use Rattle.group_types.proofs.Orders.{text_cmp_total, text_cmp-IsAntisymmetric}
use Rattle.group_types.proofs.ViewsFor.{view_for-insert}
use Rattle.group_core.proofs.Single.{insert-insert}

-- two records with the same names in one place leave the same view
pub view_for-either : (image : Topics) (records : Records) (m : Text) (some other : Record) → some.names ≡ other.names
    → view_for image (finite.insert records m some) ≡ view_for image (finite.insert records m other)
view_for-either image records m some other same =
    ap (view_for image) (sym (insert-insert text_cmp_total text_cmp-IsAntisymmetric records m other some))
    ∙ view_for-insert image (finite.insert records m other) m other some (get-inserted records m other) same
