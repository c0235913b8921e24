-- What polls of a line do: the bytes that it read and wrote, and the frames that were answered between.
use Rattle.std.specs.Prelude.{◌≡◌, ◌⊎◌, ℕ, ◌-◌, ◌^◌, ◌<◌, ◌≤◌, true, false, List, [], ◌++◌, length, All}
use Rattle.std.specs.List.{flat_map}
use Rattle.futures.specs.declared.task.Poll.{Poll}
use Rattle.futures.specs.declared.task.Poll.TheVariants.{Ready, Pending}
use Rattle.tokio.specs.Io.Moved.{Passes}
use Rattle.coord_node.specs.Coordinator.{bytes_of}
use Rattle.link_futures.specs.declared.end.End.{End}
use Rattle.link_futures.specs.declared.end.End.TheVariants.{Finished, CutShort, Closed, ReadFault, WriteFault, NoMemory}
use Rattle.link_futures.specs.declared.line.Line.{Line}
use Rattle.link_futures.specs.declared.session.Session.{Session}
use Rattle.group_types.specs.Frames.{frame_of, IsBody}
use Rattle.link_futures.specs.Framing.{BeginsWithRefusedSize, IsInsideFrame}
use Rattle.link_futures.specs.declared.inbox.Next.TheVariants.{Partial}
use Rattle.link_futures.specs.Next.{IsNext}
use Rattle.link_futures.specs.Parts.{AtMostOnce}
use Rattle.link_futures.specs.Desks.{Answering, Exchange, Place, Goes}
use Rattle.link_futures.specs.Buffers.{bytes_of_all}
use Rattle.link_futures.specs.declared.limits.TheConstants.{MOST_REPLIES, MOST_BYTES, LARGEST_READ}

module _ {R W : Type 0} where
  -- the bytes that were read and aren't answered
  abbrev pub unanswered : Line R W → List ℕ
  unanswered line = line.inbox

  -- the bytes of replies that aren't written
  abbrev pub unsent : Line R W → List ℕ
  unsent line = bytes_of_all line.outbox

  -- a further frame may be answered
  abbrev pub HasRoom : Line R W → Type 0
  HasRoom line = (length line.outbox < MOST_REPLIES) × (length (unsent line) ≤ MOST_BYTES)

  -- more bytes are wanted: the reader hasn't ended, the desk answers on, and no frame and no refused size is there
  pub record WantsBytes (line : Line R W) : Type 0 where
    pub not_over : line.is_over ≡ false
    pub answers_on : (line.is_closed ≡ false) × (line.answered < 2 ^ 64 - 1)
    pub partial : IsNext Partial (unanswered line)

  -- the sources that an unsent reply waits for: the desk's while it holds the reply, else the writer's
  abbrev pub SendNeeds : (W → ℕ → Type 0) → (ℕ → Type 0) → Line R W → ℕ → Type 0
  SendNeeds write desk line source =
      ((line.is_held ≡ false) × write line.writer source) ⊎ ((line.is_held ≡ true) × desk source)

  -- the sources that a line waits for: the reader's if it wants bytes, and those of the next reply if one is unsent
  abbrev pub LineNeeds : (R → ℕ → Type 0) → (W → ℕ → Type 0) → (ℕ → Type 0) → Line R W → ℕ → Type 0
  LineNeeds read write desk line source =
      (WantsBytes line × read line.reader source) ⊎ ((0 < length line.outbox) × SendNeeds write desk line source)

  abbrev pub place_of : Line R W → Place
  place_of line =
      record { connection = line.connection; answered = line.answered; is_closed = line.is_closed }

-- the frames of what was answered, and the bytes of the answers
abbrev pub frames_of : List Exchange → List ℕ
frames_of = flat_map (λ x. frame_of x.body)

abbrev pub replies_of : List Exchange → List ℕ
replies_of = flat_map (λ x. bytes_of x.answer)

module _ {R W D : Type 0} (reads : Passes R) (is_at_end : R → Type 0) (writes : Passes W) (answers : Answering D) where
  -- What was read is answered frame by frame, and the answers are written in order. No byte is lost or made between.
  pub record Talks (old new : Session R W D) : Type 0 where
    pub read : List ℕ
    pub exchanges : List Exchange
    pub written : List ℕ
    pub reading : reads old.line.reader read new.line.reader
    pub writing : writes old.line.writer written new.line.writer
    pub each : All (λ x. IsBody x.body) exchanges
    pub framing : unanswered old.line ++ read ≡ frames_of exchanges ++ unanswered new.line
    pub replies : unsent old.line ++ replies_of exchanges ≡ written ++ unsent new.line
    pub desk : Goes answers (place_of old.line) old.desk exchanges (place_of new.line) new.desk
    -- the reader's end was found, and then nothing more is read
    pub ends : new.line.is_over ≡ true → (old.line.is_over ≡ true) ⊎ is_at_end new.line.reader
    pub stays : old.line.is_over ≡ true → (new.line.is_over ≡ true) × (new.line.reader ≡ old.line.reader)

  module _ (read_polls : R → R → Type 0) (write_polls : W → W → Type 0) where
    -- The same of one turn: the reader is polled at most once, and so is the writer. At most 65,536 bytes are read, and none after a
    -- whole frame or a refused size. At most one frame is answered, and none if 64 replies or more than 8,388,608 bytes are unsent
    -- when the turn begins.
    pub record Turns (old new : Session R W D) : Type 0 where
      pub talks : Talks old new
      pub reads_once : AtMostOnce read_polls old.line.reader new.line.reader
      pub writes_once : AtMostOnce write_polls old.line.writer new.line.writer
      pub short : length talks.read ≤ LARGEST_READ
      pub wanted : 0 < length talks.read → IsNext Partial (unanswered old.line)
      pub few : length talks.exchanges ≤ 1
      pub room : 0 < length talks.exchanges → HasRoom old.line

module _ {R W : Type 0} where
  -- at the reader's end between frames, with all replies written
  pub record IsFinished (line : Line R W) : Type 0 where
    pub over : line.is_over ≡ true
    pub between : unanswered line ≡ []
    pub written : unsent line ≡ []

  -- at the reader's end inside a frame, with all replies written
  pub record IsCutShort (line : Line R W) : Type 0 where
    pub over : line.is_over ≡ true
    pub inside : IsInsideFrame (unanswered line)
    pub written : unsent line ≡ []

  -- at a refused size, after the desk closed, or after the last number of a frame, with all replies written
  pub record IsClosed (line : Line R W) : Type 0 where
    pub reason : BeginsWithRefusedSize (unanswered line) ⊎ ((line.is_closed ≡ true) ⊎ (line.answered ≡ 2 ^ 64 - 1))
    pub written : unsent line ≡ []

module _ {R W : Type 0} (read_faults : R → ℕ) (write_faults : W → ℕ) (stalls : W → ℕ) where
  -- How a line may end. ReadFault: a poll of the reader failed. WriteFault: a poll of the writer failed, or took no byte.
  abbrev pub EndsAs : End → Line R W → Line R W → Type 0
  EndsAs Finished old new = IsFinished new
  EndsAs CutShort old new = IsCutShort new
  EndsAs Closed old new = IsClosed new
  EndsAs ReadFault old new = read_faults old.reader < read_faults new.reader
  EndsAs WriteFault old new = (write_faults old.writer < write_faults new.writer) ⊎ (stalls old.writer < stalls new.writer)
  EndsAs NoMemory old new = Unit {0}

module _ {R W : Type 0} (read_faults : R → ℕ) (write_faults : W → ℕ) (stalls : W → ℕ) where
  -- no poll failed
  pub record MetNoFault (old new : Line R W) : Type 0 where
    pub reader : read_faults new.reader ≡ read_faults old.reader
    pub writer : write_faults new.writer ≡ write_faults old.writer
    pub taken : stalls new.writer ≡ stalls old.writer

-- Where the line ends for want of memory, the desk may have gone on by a refused answer.
abbrev pub LeavesDesk : {D : Type 0} → (D → D → Type 0) → Poll End → D → D → Type 0
LeavesDesk lacks (Ready NoMemory) last new = (new ≡ last) ⊎ lacks last new
LeavesDesk lacks (Ready Finished) last new = new ≡ last
LeavesDesk lacks (Ready CutShort) last new = new ≡ last
LeavesDesk lacks (Ready Closed) last new = new ≡ last
LeavesDesk lacks (Ready ReadFault) last new = new ≡ last
LeavesDesk lacks (Ready WriteFault) last new = new ≡ last
LeavesDesk lacks Pending last new = new ≡ last
