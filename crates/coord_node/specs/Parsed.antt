-- What a frame's body is: a request, and its group (ours).
use Rattle.std.specs.Prelude.{◌≡◌, ℕ, List, Option, Some, None}
use Rattle.kip_msgs.specs.Values.{RequestValue, heartbeat_request, commit_request}
use Rattle.coord_node.specs.Steps.{IsRequest}

-- the request that a body is, or none where it is no request
abbrev pub IsRequestOf : List ℕ → Option RequestValue → Type 0
IsRequestOf body (Some v) = IsRequest v body
IsRequestOf body None = (v : RequestValue) → ¬ IsRequest v body

-- the group that a request is for
abbrev pub group_named : RequestValue → List ℕ
group_named (heartbeat_request header v) = v.group_id
group_named (commit_request header v) = v.group_id

-- the group of the request that a body is, or none where it is no request
abbrev pub IsGroupOf : List ℕ → Option (List ℕ) → Type 0
IsGroupOf body (Some group) = (v : RequestValue) × IsRequest v body × (group ≡ group_named v)
IsGroupOf body None = (v : RequestValue) → ¬ IsRequest v body
