-- What a plan asks for.
use Rattle.std.specs.Prelude.{◌≡◌, ℕ, Bool, true, false}
use Rattle.coord_server.specs.declared.plan.Plan.{Plan}

-- how many expiry workers run: one, or none
abbrev pub expiry_worker_count : Bool → ℕ
expiry_worker_count true = 1
expiry_worker_count false = 0

-- there are as many workers and expiry workers as a plan asks for
pub record IsPlanned (plan : Plan) (workers expiry_workers : ℕ) : Type 0 where
  pub workers_are : workers ≡ plan.workers
  pub expiry_workers_are : expiry_workers ≡ expiry_worker_count plan.expires
