-- A client that takes nothing is as it was.
use Rattle.std.proofs.Common.{◌≡◌, Bool, true, false, List, ℕ}
use Rattle.member_core.specs.Client.{Client}
use Rattle.member_core.specs.Taking.{Takes, TakesIf}

pub untaken : (c new : Client) (body : List ℕ) → Takes c body false new → new ≡ c
untaken c new body takes = by c.waits takes
  where
    by : (waits : Bool) → TakesIf waits c body false new → new ≡ c
    by true is = is.1
    by false is = is.1
