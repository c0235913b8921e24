-- A commit under any correlation id.
use Rattle.std.specs.Prelude.{ℤ, List, [], None, unwrap_or}
use Rattle.kip_msgs.specs.Values.{CommitRequestTopicValue, RequestValue, commit_request}
use Rattle.member_core.specs.Client.{Client}
use Rattle.member_core.specs.Committing.{commit_value}

-- of a request's number it is `commit_for` at that number
abbrev pub commit_under : Client → ℤ → List CommitRequestTopicValue → RequestValue
commit_under c correlation topics =
    commit_request (record { correlation_id = correlation; client_id = None; tags = [] }) (commit_value c.settings.group (unwrap_or c.id []) c.epoch topics)
