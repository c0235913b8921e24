-- A client's heartbeat and the reply to it, in bytes, and the acts in which they are sent, delivered and taken.
use Rattle.std.proofs.Common.{◌≡◌, ℕ, suc, ◌^◌, pos, true, false, List, [], ◌++◌, length, nat_le, nat_lt, Option, Some, inl, refl, sym, ap, subst, ltb-true}
use Rattle.std.proofs.lemmas.Bool.{leb-true}
use Rattle.std.specs.FinMap as finite
use Rattle.flex_wire.specs.Spelling.{int32}
use Rattle.kip_msgs.specs.Values.{HeartbeatReplyValue, RequestValue, ResponseHeaderValue, heartbeat_reply}
use Rattle.kip_msgs.specs.Spelling.{SpellsRequest, SpellsReply, request_body, reply_body}
use Rattle.group_types.specs.Frames.{IsFrame}
use Rattle.group_types.specs.Limits.{LARGEST_BODY}
use Rattle.group_types.specs.Request.{Heartbeat}
use Rattle.group_types.specs.HeartbeatStep as group
use Rattle.group_epochs.specs.Request.{heartbeat_of}
use Rattle.coord_node.specs.Coordinator.{Coordinator, Replied}
use Rattle.coord_node.specs.Replies.{heartbeat_reply_value}
use Rattle.coord_node.specs.Steps.{HeartbeatAt, RequestStep}
use Rattle.member_core.specs.Client.{Client, state_of}
use Rattle.member_core.specs.Asking.{Ask, after_asking, header_of, heartbeat_value, may_ask, request_for, request_value}
use Rattle.member_core.specs.Refusing.{is_too_large}
use Rattle.member_core.specs.Taking.{News, TakesIf, Tells, after_news, news_of}
use Rattle.world_sim.specs.World.{World, Request, Reply, numbered, with_client, with_coordinator, with_reply, with_request}
use Rattle.world_sim.specs.Acts.{Asks, Deliver, Take, Is, IsReplied, IsSent, ActStep, AsksIf, AsksStep, DeliversIf, DeliverStep, SendsIf, TakeBy, TakeStep, fits_frame, is_forgotten, stamp_of}
use Rattle.world_sim.proofs.RequestSizes.{small_if_within}

-- the number of the client, of its request, what it says, what is answered, and how that is said
pub record Exchange : Type 0 where
  pub sender : ℕ
  pub number : ℕ
  pub said : Heartbeat
  pub reply : group.Reply
  pub value : HeartbeatReplyValue

abbrev pub request_in : Exchange → RequestValue
request_in e = request_value e.number e.said

abbrev pub request_bytes : Exchange → List ℕ
request_bytes e = request_body (request_in e)

abbrev pub header_in : Exchange → ResponseHeaderValue
header_in e = record { correlation_id = pos e.number; tags = [] }

abbrev pub reply_bytes : Exchange → List ℕ
reply_bytes e = reply_body (heartbeat_reply (header_in e) e.value)

-- both fit in frames
pub record IsSized (e : Exchange) : Type 0 where
  pub some_bytes : nat_le 1 (length (request_bytes e)) ≡ true
  pub request_fits : fits_frame (request_bytes e) ≡ true
  pub reply_fits : nat_lt (length (reply_bytes e)) (2 ^ 31) ≡ true

-- .. and are spelled
pub record IsSpelled (e : Exchange) : Type 0 where
  pub request : SpellsRequest (request_in e) (request_bytes e)
  pub reply : SpellsReply (heartbeat_reply (header_in e) e.value) (reply_bytes e)
  pub read : heartbeat_of (heartbeat_value e.said) ≡ e.said
  pub value : e.value ≡ heartbeat_reply_value e.reply
  pub sized : IsSized e

-- ---- what comes of them

abbrev pub sent_in : Exchange → Client → Request
sent_in e after = record { sender = e.sender; stamp = stamp_of e.sender after; body = request_bytes e }

abbrev pub pooled_in : Exchange → Client → Reply
pooled_in e after = record { request = sent_in e after; body = reply_bytes e }

-- the world once the client has asked, once it is answered, and once it has taken the reply
abbrev pub asking : Exchange → Client → World → World
asking e after w = with_request (with_client w e.sender after) (sent_in e after)

abbrev pub answering : Exchange → Client → World → Coordinator → World
answering e after w c = with_reply (with_coordinator w c) (pooled_in e after)

abbrev pub taking : Exchange → Client → News → World → World
taking e after news w = with_client w e.sender (after_news after news)

module _ (e : Exchange) (is : IsSpelled e) where
  framed : IsFrame (reply_bytes e) (int32 (pos (length (reply_bytes e))) ++ reply_bytes e)
  framed = record { size = record { sfits = ltb-true (length (reply_bytes e)) (2 ^ 31) is.sized.reply_fits }; bytes = refl }

  pub asks : (w : World) (c : Client) (ask : Ask) → numbered w.clients e.sender ≡ Some c → may_ask c ask ≡ true → request_for c ask ≡ request_in e
      → ActStep w (Asks e.sender ask) (IsSent (suc (length w.requests))) (asking e (after_asking c ask) w)
  asks w c ask there may says =
      subst (λ (o : Option Client). AsksStep o w e.sender ask (IsSent (suc (length w.requests))) (asking e (after_asking c ask) w)) (sym there)
      (subst (λ b. AsksIf b c w e.sender ask (IsSent (suc (length w.requests))) (asking e (after_asking c ask) w)) (sym may)
      (subst (λ b. SendsIf b c w e.sender ask (IsSent (suc (length w.requests))) (asking e (after_asking c ask) w)) (sym small) (
        request_bytes e,
        after_asking c ask,
        record { may = may; spells = subst (λ (v : RequestValue). SpellsRequest v (request_bytes e)) (sym says) is.request; after = refl },
        (refl, refl),
      )))
    where
      small : is_too_large (request_for c ask) ≡ false
      small = small_if_within (request_for c ask) (request_bytes e) (sym (ap request_body says)) (leb-true (length (request_bytes e)) LARGEST_BODY is.sized.request_fits)

  module _ (w : World) (after : Client) (c : Coordinator)
      (beats : HeartbeatAt (finite.get w.coordinator.groups e.said.group) w.coordinator
      (record { heartbeat = e.said; stamp = stamp_of e.sender after; moment = w.clock; image = w.coordinator.image }) (group.Replied e.reply) c) where
    requested : RequestStep w.coordinator (request_in e) (stamp_of e.sender after) w.clock (Replied (int32 (pos (length (reply_bytes e))) ++ reply_bytes e)) c
    requested = (
      group.Replied e.reply,
      subst (λ (q : Heartbeat). HeartbeatAt (finite.get w.coordinator.groups e.said.group) w.coordinator
          (record { heartbeat = q; stamp = stamp_of e.sender after; moment = w.clock; image = w.coordinator.image }) (group.Replied e.reply) c) (sym is.read) beats,
      record {
        body = reply_bytes e;
        spells = subst (λ (v : HeartbeatReplyValue). SpellsReply (heartbeat_reply (header_in e) v) (reply_bytes e)) is.value is.reply;
        framed = framed;
      },
    )

    pub delivers : (request : ℕ) → numbered w.requests request ≡ Some (sent_in e after) → is_forgotten w.coordinator (heartbeat_value e.said) ≡ false
        → ActStep w (Deliver request) (IsReplied (suc (length w.replies)) e.value) (answering e after w c)
    delivers request there known =
        subst (λ (o : Option Request). DeliverStep o w (IsReplied (suc (length w.replies)) e.value) (answering e after w c)) (sym there) (
          header_of e.number,
          heartbeat_value e.said,
          is.request,
          subst (λ b. DeliversIf b w (sent_in e after) (IsReplied (suc (length w.replies)) e.value) (answering e after w c)) (sym known) (
            Replied (int32 (pos (length (reply_bytes e))) ++ reply_bytes e),
            c,
            inl (request_in e, record { is_body = (leb-true 1 (length (request_bytes e)) is.sized.some_bytes, leb-true (length (request_bytes e)) LARGEST_BODY is.sized.request_fits); spells = is.request }, requested),
            (reply_bytes e, header_in e, e.value, framed, is.reply, (refl, refl)),
          ),
        )

  pub takes : (w : World) (after : Client) (news : News) (reply : ℕ) → numbered w.replies reply ≡ Some (pooled_in e after) → numbered w.clients e.sender ≡ Some after
      → after.waits ≡ true → after.number ≡ e.number → news_of e.value ≡ Some news → ActStep w (Take reply) (Is (state_of (after_news after news))) (taking e after news w)
  takes w after news reply there taker waits same tells =
      subst (λ (o : Option Reply). TakeStep o w (Is (state_of (after_news after news))) (taking e after news w)) (sym there)
      (subst (λ (o : Option Client). TakeBy o (pooled_in e after) w (Is (state_of (after_news after news))) (taking e after news w)) (sym taker) (
        true,
        after_news after news,
        subst (λ b. TakesIf b after (reply_bytes e) true (after_news after news)) (sym waits) (
          news,
          subst (λ number. Tells number (reply_bytes e) news) (sym same) (record { header = header_in e; reply = e.value; spells = is.reply; answers = refl; tells = tells }),
          refl,
        ),
        (refl, refl),
      ))
