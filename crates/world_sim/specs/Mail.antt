-- What the code's requests and replies are as the world's.
use Rattle.std.specs.Prelude.{◌<◌, ◌≤◌, List, [], length, map, slice_get, unwrap_or}
use Rattle.std.specs.List.{Contains}
use Rattle.world_sim.specs.declared.mail.Request as mail
use Rattle.world_sim.specs.declared.mail.Reply as answer
use Rattle.group_types.specs.Limits.{LARGEST_BODY}
use Rattle.world_sim.specs.World.{Request, Reply, Commit}
use Rattle.world_sim.specs.Acts.{no_stamp}

abbrev pub request_value : mail.Request → Request
request_value q = record { sender = q.stamp.connection; stamp = q.stamp; body = q.frame }

abbrev pub requests_of : List mail.Request → List Request
requests_of requests = map request_value requests

-- what stands for a request that isn't there
abbrev no_request : Request
no_request = record { sender = 0; stamp = no_stamp; body = [] }

-- a reply names its request by its place
abbrev pub reply_value : List mail.Request → answer.Reply → Reply
reply_value requests r =
    record { request = unwrap_or (slice_get (requests_of requests) r.request) no_request; body = r.frame }

abbrev pub replies_of : List mail.Request → List answer.Reply → List Reply
replies_of requests replies = map (reply_value requests) replies

-- each reply's request is there
abbrev pub AreNamed : List mail.Request → List answer.Reply → Type 0
AreNamed requests replies = (r : answer.Reply) → Contains replies r → r.request < length requests

-- each commit's body fits a frame
abbrev pub AreSmall : List Commit → Type 0
AreSmall commits = (k : Commit) → Contains commits k → length k.body ≤ LARGEST_BODY
