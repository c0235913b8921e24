use Rattle.std.proofs.Common.{◌≡◌, false, ap, ◌∙◌, Option, Some, None, refl}
use Rattle.std.specs.Option.{option_map, option_map_or}
use Rattle.std.specs.Ordering.{eq_by_cmp}
use Rattle.std.specs.FinMap as finite
use Rattle.group_types.specs.Text.{Text, text_cmp}
use Rattle.group_reconcile.specs.Holders.{Held}
use Rattle.group_reconcile.proofs.Granted.{bytes_eq-ties}
use Rattle.group_reconcile.proofs.grants.Grants.holds.Goals as goal

of_holder : (m : Text) (o : Option Held) → option_map_or (eq_by_cmp text_cmp m) (option_map (λ d. d.member) o) false ≡ option_map_or (λ d. eq_by_cmp text_cmp m d.member) o false
of_holder m None = refl
of_holder m (Some d) = refl

pub returns-in-Some : goal.returns-in-Some
returns-in-Some c =
    let m = c.args.member.now in
    c.eq.ensures ∙ bytes_eq-ties c.in-Some.id.now m
    ∙ ap (λ o. option_map_or (eq_by_cmp text_cmp m) o false) c.in-Some.ensures
    ∙ of_holder m (finite.get c.args.self.now c.args.p.now)
