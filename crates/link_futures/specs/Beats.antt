-- What a beat does: it writes a member's request, and reads and takes the one reply.
use Rattle.std.specs.Prelude.{◌≡◌, ◌⊎◌, ℕ, ◌<◌, ◌≤◌, List, [], ◌++◌, length, drop, Result, Ok, Err}
use Rattle.tokio.specs.Io.Moved.{Passes}
use Rattle.member_core.specs.Client.{Client}
use Rattle.member_core.specs.Asking.{Ask, after_giving_up}
use Rattle.member_core.specs.Refusing.{Sends}
use Rattle.member_core.specs.Next.{IsNext}
use Rattle.member_core.specs.declared.member.Member.{Member}
use Rattle.member_core.specs.declared.member.taking.Next.{Next}
use Rattle.link_futures.specs.declared.end.End.{End}
use Rattle.link_futures.specs.declared.end.End.TheVariants.{Finished, CutShort, Closed, ReadFault, WriteFault, NoMemory}
use Rattle.link_futures.specs.declared.limits.TheConstants.{LARGEST_READ}
use Rattle.link_futures.specs.declared.call.Call.{Call}
use Rattle.link_futures.specs.declared.beat.AfterBeat.{AfterBeat}
use Rattle.link_futures.specs.Replies.{IsReplyOf, BeginsWithRefusedReply, LacksOfReply}

-- the bytes are the frame of the request whose reply the client waits for
pub record IsRequestOf (c : Client) (frame : List ℕ) : Type 0 where
  pub before : Client
  pub ask : Ask
  pub sends : Sends before ask frame c

-- The member takes what stands after the size of the reply; or it gives up, for this end.
abbrev pub Finishes : {S : Type 0} → Result (Unit {0}) End → Client → List ℕ → Result (Next S) (Member S × End) → Type 0
Finishes (Ok done) c reply (Ok next) = IsNext c (drop 4 reply) next
Finishes (Ok done) c reply (Err failed) = ⊥
Finishes (Err end) c reply (Ok next) = ⊥
Finishes (Err end) c reply (Err failed) = (failed.0 ≡ after_giving_up c) × (failed.1 ≡ end)

module _ {R W S : Type 0} where
  -- the bytes of the request that aren't written
  abbrev pub unwritten : Call R W S → List ℕ
  unwritten call = call.request.items

  -- the bytes of the reply that were read
  abbrev pub heard : Call R W S → List ℕ
  heard call = call.reply.items

  -- some bytes of the reply are missing, and at least as many as the call knows of
  pub record IsUnderWay (call : Call R W S) : Type 0 where
    pub some : 0 < call.missing
    pub lacks : LacksOfReply call.missing (heard call)

  -- nothing of the request is written, and nothing of the reply is read
  pub record IsNewCall (call : Call R W S) (reader : R) (writer : W) (member : Client) (request : List ℕ) : Type 0 where
    pub reads : call.reader ≡ reader
    pub writes : call.writer ≡ writer
    pub waits : call.member ≡ member
    pub unwritten : unwritten call ≡ request
    pub heard : heard call ≡ []

  -- the sources that a call waits for: the writer's while its request isn't written, and then the reader's
  abbrev pub CallNeeds : (R → ℕ → Type 0) → (W → ℕ → Type 0) → Call R W S → ℕ → Type 0
  CallNeeds read write call source =
      ((0 < length (unwritten call)) × write call.writer source) ⊎ ((unwritten call ≡ []) × read call.reader source)

  module _ (reads : Passes R) (writes : Passes W) where
    -- The request is written, and then the reply is read. No byte is lost or made between, and the member stays.
    pub record Exchanges (old new : Call R W S) : Type 0 where
      pub written : List ℕ
      pub read : List ℕ
      pub writing : writes old.writer written new.writer
      pub reading : reads old.reader read new.reader
      pub request : unwritten old ≡ written ++ unwritten new
      pub reply : heard new ≡ heard old ++ read
      pub first : 0 < length read → unwritten new ≡ []
      pub member : new.member ≡ old.member

    -- The same of one poll, which writes or reads, and reads at most 65,536 bytes.
    pub record Polls (old new : Call R W S) : Type 0 where
      pub exchanges : Exchanges old new
      pub once : (exchanges.written ≡ []) ⊎ (exchanges.read ≡ [])
      pub short : length exchanges.read ≤ LARGEST_READ

  module _ (read_faults : R → ℕ) (write_faults : W → ℕ) (stalls : W → ℕ) where
    -- no poll failed or took nothing
    pub record CallMetNoFault (old new : Call R W S) : Type 0 where
      pub reader : read_faults new.reader ≡ read_faults old.reader
      pub writer : write_faults new.writer ≡ write_faults old.writer
      pub taken : stalls new.writer ≡ stalls old.writer

    -- Why a call may fail. Finished and CutShort: the reader ended before the reply, or within it. Closed: a size that no
    -- reply may have. ReadFault: a poll of the reader failed. WriteFault: a poll of the writer failed, or took no byte.
    abbrev pub FailsAs : (R → Type 0) → End → Call R W S → Call R W S → Type 0
    FailsAs is_at_end Finished old new = is_at_end new.reader × (unwritten new ≡ []) × (heard new ≡ [])
    FailsAs is_at_end CutShort old new =
        is_at_end new.reader × (unwritten new ≡ []) × (0 < length (heard new)) × LacksOfReply 1 (heard new)
    FailsAs is_at_end Closed old new = (unwritten new ≡ []) × BeginsWithRefusedReply (heard new)
    FailsAs is_at_end ReadFault old new = (unwritten new ≡ []) × (read_faults old.reader < read_faults new.reader)
    FailsAs is_at_end WriteFault old new =
        (write_faults old.writer < write_faults new.writer) ⊎ (stalls old.writer < stalls new.writer)
    FailsAs is_at_end NoMemory old new = Unit {0}

    -- How a call ends: the request is written and the reply is whole, or why it fails.
    abbrev pub EndsCall : (R → Type 0) → Result (Unit {0}) End → Call R W S → Call R W S → Type 0
    EndsCall is_at_end (Ok done) old new = (unwritten new ≡ []) × ((body : List ℕ) × IsReplyOf body (heard new))
    EndsCall is_at_end (Err end) old new = FailsAs is_at_end end old new

    -- What becomes of the member: what it takes from the body of the reply, which is the one that was read after the whole
    -- request; or it has given up, and the end says why.
    abbrev pub Leaves : (R → Type 0) → Result (Next S) (Member S × End) → Call R W S → Call R W S → Type 0
    Leaves is_at_end (Ok next) old new =
        (unwritten new ≡ []) × ((body : List ℕ) × IsReplyOf body (heard new) × IsNext new.member body next)
    Leaves is_at_end (Err failed) old new = (failed.0 ≡ after_giving_up new.member) × FailsAs is_at_end failed.1 old new

    -- the reader, the writer and the member come back
    pub record ComesBack (is_at_end : R → Type 0) (old new : Call R W S) (after : AfterBeat R W S) : Type 0 where
      pub reader : after.reader ≡ new.reader
      pub writer : after.writer ≡ new.writer
      pub member : Leaves is_at_end after.member old new

  module _ (reads : Passes R) (is_at_end : R → Type 0) (read_faults : R → ℕ) (writes : Passes W) (write_faults : W → ℕ) (stalls : W → ℕ) where
    -- what a call may give, after any number of polls
    pub record CallGives (call : Call R W S) (after : AfterBeat R W S) : Type 0 where
      pub last : Call R W S
      pub exchanges : Exchanges reads writes call last
      pub back : ComesBack read_faults write_faults stalls is_at_end call last after

-- What a beat comes to, from its request on: it has written the request, which is one frame, and read one reply, and the
-- member makes of its body what it makes of it. Or it has written a front part of the request, and the member has given up.
abbrev pub BeatComesTo : {R W S : Type 0} → Passes R → Passes W → R → W → Client → List ℕ → R → W → Result (Next S) (Member S × End) → Type 0
BeatComesTo reads writes reader writer c request after_read after_written (Ok next) =
    writes writer request after_written × ((body : List ℕ) × (reply : List ℕ) × IsReplyOf body reply × reads reader reply after_read × IsNext c body next)
BeatComesTo reads writes reader writer c request after_read after_written (Err failed) =
    (failed.0 ≡ after_giving_up c) × ((written : List ℕ) × (left : List ℕ) × (request ≡ written ++ left) × writes writer written after_written)
