-- Whether a request is too large, by its body.
use Rattle.std.proofs.Common.{◌≡◌, ℕ, ◌≤◌, true, false, List, length, arith}
use Rattle.std.proofs.lemmas.Bool.Decides.{nat_tests}
use Rattle.group_types.specs.Limits.{LARGEST_BODY}
use Rattle.kip_msgs.specs.Values.{RequestValue}
use Rattle.kip_msgs.specs.Spelling.{request_body}
use Rattle.member_core.specs.Refusing.{is_too_large}
use Rattle.member_core.specs.Writing.{are_few}
use Rattle.member_core.proofs.Sizes.{few_within}

pub small_if_within : (v : RequestValue) (body : List ℕ) → body ≡ request_body v → length body ≤ LARGEST_BODY → is_too_large v ≡ false
small_if_within v body is within = grind (arith, nat_tests)

pub within_if_small : (v : RequestValue) (body : List ℕ) → body ≡ request_body v → is_too_large v ≡ false → length body ≤ LARGEST_BODY
within_if_small v body is small = grind (arith, nat_tests)

-- one that isn't too large has few elements
pub few_if_within : (v : RequestValue) (body : List ℕ) → body ≡ request_body v → length body ≤ LARGEST_BODY → are_few v ≡ true
few_if_within v body is within = few_within v (small_if_within v body is within)
