-- What each part of a line's turn does.
use Rattle.std.specs.Prelude.{◌≡◌, ◌⊎◌, ℕ, ◌-◌, ◌^◌, ◌<◌, ◌≤◌, true, false, List, [], ◌++◌, length, All}
use Rattle.tokio.specs.Io.Moved.{Passes}
use Rattle.link_futures.specs.declared.end.End.{End}
use Rattle.link_futures.specs.declared.end.End.TheVariants.{Finished, CutShort, Closed, ReadFault, WriteFault, NoMemory}
use Rattle.link_futures.specs.declared.line.Line.{Line}
use Rattle.link_futures.specs.declared.limits.TheConstants.{LARGEST_READ}
use Rattle.group_types.specs.Frames.{IsBody}
use Rattle.link_futures.specs.Next.{IsFront, IsNext}
use Rattle.link_futures.specs.declared.inbox.Next.TheVariants.{Partial}
use Rattle.link_futures.specs.Desks.{Answering, Exchange, Goes}
use Rattle.link_futures.specs.Stream.{unanswered, unsent, HasRoom, place_of, frames_of, replies_of, IsFinished, IsCutShort, IsClosed}

module _ {R W : Type 0} where
  -- a line on which nothing has come to pass
  pub record IsNewLine (line : Line R W) (connection : ℕ) (reader : R) (writer : W) : Type 0 where
    pub reads : line.reader ≡ reader
    pub writes : line.writer ≡ writer
    pub unanswered : unanswered line ≡ []
    pub unsent : unsent line ≡ []
    pub place : place_of line ≡ record { connection = connection; answered = 0; is_closed = false }
    pub not_over : line.is_over ≡ false

  -- the frame at the front may be answered, and its body has `len` bytes
  pub record IsAnswerable (line : Line R W) (len : ℕ) : Type 0 where
    pub front : IsFront line.inbox len
    pub room : HasRoom line
    pub still_open : line.is_closed ≡ false
    pub numbered : line.answered < 2 ^ 64 - 1

  -- some bytes were read
  pub record ReadsOn (reads : Passes R) (is_at_end : R → Type 0) (old new : Line R W) : Type 0 where
    pub read : List ℕ
    pub short : length read ≤ LARGEST_READ
    pub wanted : 0 < length read → IsNext Partial old.inbox
    pub reading : reads old.reader read new.reader
    pub appended : new.inbox ≡ old.inbox ++ read
    pub ends : new.is_over ≡ true → (old.is_over ≡ true) ⊎ is_at_end new.reader
    pub stays : old.is_over ≡ true → (new.is_over ≡ true) × (new.reader ≡ old.reader)
    pub others : new ≡ record old { reader = new.reader; inbox = new.inbox; is_over = new.is_over }

  -- at most one frame was answered
  pub record AnswersOn {D : Type 0} (answers : Answering D) (old : Line R W) (d : D) (new : Line R W) (e : D) : Type 0 where
    pub exchanges : List Exchange
    pub few : length exchanges ≤ 1
    pub room : 0 < length exchanges → HasRoom old
    pub each : All (λ x. IsBody x.body) exchanges
    pub framing : old.inbox ≡ frames_of exchanges ++ new.inbox
    pub replies : unsent new ≡ unsent old ++ replies_of exchanges
    pub desk : Goes answers (place_of old) d exchanges (place_of new) e
    pub others : new ≡ record old { inbox = new.inbox; outbox = new.outbox; answered = new.answered; is_closed = new.is_closed }

  -- some bytes were written
  pub record WritesOn (writes : Passes W) (old new : Line R W) : Type 0 where
    pub written : List ℕ
    pub writing : writes old.writer written new.writer
    pub taken : unsent old ≡ written ++ unsent new
    pub others : new ≡ record old { writer = new.writer; outbox = new.outbox; is_held = new.is_held }

  -- an end that no fault makes
  abbrev pub EndsQuietly : End → Line R W → Type 0
  EndsQuietly Finished line = IsFinished line
  EndsQuietly CutShort line = IsCutShort line
  EndsQuietly Closed line = IsClosed line
  EndsQuietly ReadFault line = ⊥
  EndsQuietly WriteFault line = ⊥
  EndsQuietly NoMemory line = ⊥
