-- Stamps of later leaderships.
use Rattle.std.proofs.Common.{◌≡◌, ℕ, ◌+◌, ◌*◌, ◌^◌, ◌<◌, refl, arith}
use Rattle.std.specs.declared.cmp.Ordering.{Ordering}
use Rattle.std.specs.declared.cmp.Ordering.TheVariants.{Less}
use Rattle.std.specs.Ordering.{nat_cmp, ordering_then}
use Rattle.std.specs.Cmp.{nat_cmp_is}
use Rattle.group_types.specs.Stamp.{stamp_cmp}
use Rattle.coord_replica.specs.Entries.{stamp_under}

below : (e l c d : ℕ) → e < l → c < 2147483648 → e * 4294967296 + c < l * 4294967296 + d
below e l c d earlier fits = omega arith

then_less : (o p : Ordering) → Less ≡ o → ordering_then o p ≡ Less
then_less o p is = rw (← is) refl

pub stamps_rise : (leadership connection number earlier c n : ℕ) → earlier < leadership → c < 2 ^ 31
    → stamp_cmp (stamp_under earlier c n) (stamp_under leadership connection number) ≡ Less
stamps_rise leadership connection number earlier c n before fits =
    then_less (nat_cmp (earlier * 2 ^ 32 + c) (leadership * 2 ^ 32 + connection)) (nat_cmp n number)
    (nat_cmp_is (earlier * 2 ^ 32 + c) (leadership * 2 ^ 32 + connection) Less (below earlier leadership c connection before fits))
