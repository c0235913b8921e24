-- The lines that are put for replies.
use Rattle.std.proofs.Common.{◌≡◌, ℕ, List, [], ◌++◌, subst, ap, ◌∙◌}
use Rattle.kip_msgs.specs.declared.header.ResponseHeader.{ResponseHeader}
use Rattle.kip_msgs.specs.declared.heartbeat.HeartbeatReply.{HeartbeatReply}
use Rattle.kip_msgs.specs.declared.commit.CommitReply.{CommitReply}
use Rattle.kip_msgs.specs.declared.message.Reply.{Reply}
use Rattle.kip_msgs.specs.declared.message.Reply.TheVariants as replies
use Rattle.kip_msgs.specs.Spelling.{SpellsReply}
use Rattle.kip_msgs.specs.Views.{reply_value, response_header_value, heartbeat_reply_value, commit_reply_value}
use Rattle.world_sim.specs.World.{World}
use Rattle.world_sim.specs.Viewing.{IsReplyBody}
use Rattle.scenario_text.specs.Lines.{fed}
use Rattle.scenario_lines.specs.Shows.{IsReplyText, IsCodesText, reply_line, codes_line}

-- the line of a reply to a heartbeat, on an empty page
pub reply_put : (w : World) (number : ℕ) (body before after : List ℕ) (reply : Reply) (header : ResponseHeader) (said : HeartbeatReply)
    → IsReplyBody w number body → SpellsReply (reply_value reply) body → reply ≡ replies.Heartbeat header said → before ≡ []
    → after ≡ before ++ fed (reply_line number (heartbeat_reply_value said)) → IsReplyText w number after
reply_put w number body before after reply header said pooled spells is none put =
    record {
      body = body;
      is_body = record {
        reply = pooled.reply;
        is_reply = pooled.is_reply;
        same = pooled.same;
        header = response_header_value header;
        said = heartbeat_reply_value said;
        spells = subst (λ r. SpellsReply (reply_value r) body) is spells;
      };
      is_line = put ∙ ap (λ b. b ++ fed (reply_line number (heartbeat_reply_value said))) none;
    }

-- the line of a reply to a commit, on an empty page
pub codes_put : (body before after : List ℕ) (reply : Reply) (header : ResponseHeader) (said : CommitReply)
    → SpellsReply (reply_value reply) body → reply ≡ replies.Commit header said → before ≡ []
    → after ≡ before ++ fed (codes_line (commit_reply_value said)) → IsCodesText body after
codes_put body before after reply header said spells is none put =
    record {
      header = response_header_value header;
      said = commit_reply_value said;
      spells = subst (λ r. SpellsReply (reply_value r) body) is spells;
      is_line = put ∙ ap (λ b. b ++ fed (codes_line (commit_reply_value said))) none;
    }
