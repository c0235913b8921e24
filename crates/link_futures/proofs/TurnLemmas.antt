-- The parts of a turn, and turns in a row.
use Rattle.std.proofs.Common.{◌≡◌, ℕ, ◌+◌, Bool, true, false, List, [], ◌∷◌, ◌++◌, take, drop, inl, inr, ⊎_elim, refl, sym, ap, ◌∙◌, subst, arith, append_assoc, append-nil, length, ◌<◌, ◌≤◌, ◌⊎◌}
use Rattle.std.proofs.lemmas.List.Elements.{All-nil, All-cons, All-append}
use Rattle.std.proofs.lemmas.Grind.{flat_map-append}
use Rattle.futures.specs.declared.task.Poll.{Poll}
use Rattle.futures.specs.declared.task.Poll.TheVariants.{Ready, Pending}
use Rattle.futures.specs.declared.task.context.Context.{Context}
use Rattle.futures.specs.Task.{Covers, Keeps, Lasting}
use Rattle.tokio.specs.Io.Moved.{Passes, PassesNothing, PassesInOrder}
use Rattle.coord_node.specs.Coordinator.{Answer, Replied, Closes, Done, bytes_of}
use Rattle.coord_node.specs.Answers.{IsAnswered}
use Rattle.coord_node.specs.declared.event.Answered.{Answered}
use Rattle.coord_node.specs.declared.event.Answered.TheVariants as answered
use Rattle.coord_node.specs.contracts.event.Answered.{the_type}
use denote.Enum.Bare.{sameb}
use Rattle.link_futures.specs.declared.end.End.{End}
use Rattle.link_futures.specs.declared.end.End.TheVariants.{Finished, CutShort, Closed, ReadFault, WriteFault, NoMemory}
use Rattle.link_futures.specs.declared.limits.TheConstants.{MOST_REPLIES, MOST_BYTES}
use Rattle.link_futures.specs.declared.line.Line.{Line}
use Rattle.link_futures.specs.declared.session.Session.{Session}
use Rattle.group_types.specs.Frames.{frame_of, IsBody}
use Rattle.link_futures.specs.Next.{IsFront}
use Rattle.link_futures.specs.Parts.{AtMostOnce}
use Rattle.link_futures.specs.Desks.{Answering, Exchange, Place, next_stamp, closes, closes_by, place_after, Goes}
use Rattle.link_futures.specs.Buffers.{Waiting, bytes_of_all}
use Rattle.link_futures.specs.Stream.{unanswered, unsent, HasRoom, WantsBytes, SendNeeds, LineNeeds, place_of, frames_of, replies_of, Talks, Turns, EndsAs, MetNoFault, LeavesDesk}
use Rattle.link_futures.specs.Steps.{ReadsOn, AnswersOn, WritesOn}
use Rattle.link_futures.specs.declared.turned.Turned.{Turned}
use Rattle.link_futures.specs.Turned.{polled_of}

-- that an answer of this kind is a closing one, as code compares it
pub closes_same : (kind : Answered) → sameb the_type kind answered.Closes ≡ closes_by kind
closes_same answered.Replied = refl
closes_same answered.Closes = refl

closes_is : (kind : Answered) (answer : Answer) → IsAnswered kind answer → closes_by kind ≡ closes answer
closes_is answered.Replied (Replied bytes) is = refl
closes_is answered.Replied Closes is = absurd is
closes_is answered.Replied (Done removed) is = absurd is
closes_is answered.Closes (Replied bytes) is = absurd is
closes_is answered.Closes Closes is = refl
closes_is answered.Closes (Done removed) is = absurd is

module _ {R W : Type 0} where
  pub ReadsOn_nothing : (reads : Passes R) (is_at_end : R → Type 0) → PassesNothing reads → (old : Line R W) (reader : R) (inbox : List ℕ) → reader ≡ old.reader → inbox ≡ old.inbox
      → ReadsOn reads is_at_end old (record old { reader = reader; inbox = inbox })
  ReadsOn_nothing reads is_at_end nothing old reader inbox same_reader same_inbox =
      record {
        read = [];
        short = omega arith;
        wanted = λ some. absurd (omega arith);
        reading = subst (λ (r : R). reads old.reader [] r) (sym same_reader) (nothing old.reader);
        appended = same_inbox ∙ sym (append-nil old.inbox);
        ends = λ over. inl over;
        stays = λ over. (over, same_reader);
        others = refl;
      }

  pub AnswersOn_nothing : {D : Type 0} (answers : Answering D) (old : Line R W) (d : D) → AnswersOn answers old d old d
  AnswersOn_nothing answers old d =
      record {
        exchanges = [];
        few = omega arith;
        room = λ some. absurd (omega arith);
        each = All-nil (λ (x : Exchange). IsBody x.body);
        framing = refl;
        replies = sym (append-nil (unsent old));
        desk = (refl, refl);
        others = refl;
      }

  pub WritesOn_nothing : (writes : Passes W) → PassesNothing writes → (old : Line R W) → WritesOn writes old old
  WritesOn_nothing writes nothing old =
      record { written = []; writing = nothing old.writer; taken = refl; others = refl }

  -- nothing was written, and the line has asked whether it may
  pub WritesOn_same : (writes : Passes W) → PassesNothing writes → (old : Line R W) (held : Bool) (writer : W) (outbox : List Waiting) → writer ≡ old.writer → outbox ≡ old.outbox
      → WritesOn writes old (record old { writer = writer; outbox = outbox; is_held = held })
  WritesOn_same writes nothing old held writer outbox same_writer same_outbox =
      record {
        written = [];
        writing = subst (λ (w : W). writes old.writer [] w) (sym same_writer) (nothing old.writer);
        taken = ap bytes_of_all (sym same_outbox);
        others = refl;
      }

  -- the frame at the front was answered
  pub AnswersOn_one : {D : Type 0} (answers : Answering D) (old : Line R W) (d e : D) (len : ℕ) (kind : Answered) (closed : Bool) (inbox body : List ℕ) (outbox : List Waiting)
      → IsFront old.inbox len → HasRoom old → old.is_closed ≡ false → body ≡ take len (drop 4 old.inbox)
      → ((answer : Answer) × IsAnswered kind answer × answers d body (next_stamp (place_of old)) answer e × (bytes_of_all outbox ≡ bytes_of_all old.outbox ++ bytes_of answer))
      → inbox ≡ drop len (drop 4 old.inbox) → closed ≡ closes_by kind
      → AnswersOn answers old d (record old { inbox = inbox; outbox = outbox; answered = old.answered + 1; is_closed = closed }) e
  AnswersOn_one answers old d e len kind closed inbox body outbox front room not_closed is_front given rest closing =
      let answer = given.0 in
      let x : Exchange = record { body = body; answer = answer } in
      let same : closed ≡ closes answer = closing ∙ closes_is kind answer given.1 in
      record {
        exchanges = x ∷ [];
        few = omega arith;
        room = λ some. room;
        each = All-cons (λ (y : Exchange). IsBody y.body) x [] (subst IsBody (sym is_front) front.is_body) (All-nil (λ (y : Exchange). IsBody y.body));
        framing =
            front.whole ∙ ap (λ xs. frame_of xs ++ drop len (drop 4 old.inbox)) (sym is_front) ∙ ap (λ xs. frame_of body ++ xs) (sym rest)
            ∙ ap (λ xs. xs ++ inbox) (sym (append-nil (frame_of body)));
        replies = given.3 ∙ ap (λ xs. unsent old ++ xs) (sym (append-nil (bytes_of answer)));
        desk = (
          not_closed,
          (
            e,
            given.2,
            (
              ap (λ b. let p : Place = record { connection = old.connection; answered = old.answered + 1; is_closed = b } in p) same,
              refl,
            ),
          ),
        );
        others = refl;
      }

module _ {R W D : Type 0} (reads : Passes R) (is_at_end : R → Type 0) (writes : Passes W) (answers : Answering D) where
  talks_is : (a b c f : Line R W) (d e : D) → ReadsOn reads is_at_end a b → AnswersOn answers b d c e → WritesOn writes c f
      → Talks reads is_at_end writes answers (record { line = a; desk = d }) (record { line = f; desk = e })
  talks_is a b c f d e p q r =
      let reader : f.reader ≡ b.reader = ap (λ (l : Line R W). l.reader) r.others ∙ ap (λ (l : Line R W). l.reader) q.others in
      let over : f.is_over ≡ b.is_over = ap (λ (l : Line R W). l.is_over) r.others ∙ ap (λ (l : Line R W). l.is_over) q.others in
      let writer : c.writer ≡ a.writer = ap (λ (l : Line R W). l.writer) q.others ∙ ap (λ (l : Line R W). l.writer) p.others in
      let first : place_of b ≡ place_of a = ap place_of p.others in
      let last : place_of f ≡ place_of c = ap place_of r.others in
      let inbox : f.inbox ≡ c.inbox = ap (λ (l : Line R W). l.inbox) r.others in
      record {
        read = p.read;
        exchanges = q.exchanges;
        written = r.written;
        reading = subst (λ (x : R). reads a.reader p.read x) (sym reader) p.reading;
        writing = subst (λ (x : W). writes x r.written f.writer) writer r.writing;
        each = q.each;
        framing = sym p.appended ∙ q.framing ∙ ap (λ xs. frames_of q.exchanges ++ xs) (sym inbox);
        replies =
            ap (λ (l : Line R W). unsent l ++ replies_of q.exchanges) (sym p.others) ∙ sym q.replies ∙ r.taken;
        desk =
            subst (λ (x : Place). Goes answers x d q.exchanges (place_of f) e) first
            (subst (λ (x : Place). Goes answers (place_of b) d q.exchanges x e) (sym last) q.desk);
        ends = λ ended.
            ⊎_elim (λ (h : a.is_over ≡ true). inl h) (λ (h : is_at_end b.reader). inr (subst is_at_end (sym reader) h)) (p.ends (sym over ∙ ended));
        stays = λ was. (over ∙ (p.stays was).0, reader ∙ (p.stays was).1);
      }

  -- what comes to pass if nothing comes after a read
  pub talks_stops : PassesNothing writes → (a b : Line R W) (d : D) → ReadsOn reads is_at_end a b
      → Talks reads is_at_end writes answers (record { line = a; desk = d }) (record { line = b; desk = d })
  talks_stops nothing a b d p =
      talks_is a b b b d d p (AnswersOn_nothing answers b d) (WritesOn_nothing writes nothing b)

  module _ (read_polls : R → R → Type 0) (write_polls : W → W → Type 0) where
    -- a read, an answer and a write are a turn
    pub turn_is : (a b c f : Line R W) (d e : D) → ReadsOn reads is_at_end a b → AtMostOnce read_polls a.reader b.reader → AnswersOn answers b d c e
        → WritesOn writes c f → AtMostOnce write_polls c.writer f.writer
        → Turns reads is_at_end writes answers read_polls write_polls (record { line = a; desk = d }) (record { line = f; desk = e })
    unfolding talks_is
    turn_is a b c f d e p polled q r sent =
        let reader : f.reader ≡ b.reader = ap (λ (l : Line R W). l.reader) r.others ∙ ap (λ (l : Line R W). l.reader) q.others in
        let writer : c.writer ≡ a.writer = ap (λ (l : Line R W). l.writer) q.others ∙ ap (λ (l : Line R W). l.writer) p.others in
        let outbox : b.outbox ≡ a.outbox = ap (λ (l : Line R W). l.outbox) p.others in
        record {
          talks = talks_is a b c f d e p q r;
          reads_once = subst (λ (x : R). AtMostOnce read_polls a.reader x) (sym reader) polled;
          writes_once = subst (λ (x : W). AtMostOnce write_polls x f.writer) writer sent;
          short = p.short;
          wanted = p.wanted;
          few = q.few;
          room = λ some. subst (λ (o : List Waiting). (length o < MOST_REPLIES) × (length (bytes_of_all o) ≤ MOST_BYTES)) outbox (q.room some);
        }

    -- a turn that ends after its read
    pub turn_stops : PassesNothing writes → (a b c : Line R W) (d : D) → ReadsOn reads is_at_end a b → AtMostOnce read_polls a.reader b.reader → c ≡ b
        → Turns reads is_at_end writes answers read_polls write_polls (record { line = a; desk = d }) (record { line = c; desk = d })
    turn_stops nothing a b c d p polled same =
        subst (λ (l : Line R W). Turns reads is_at_end writes answers read_polls write_polls (record { line = a; desk = d }) (record { line = l; desk = d })) (sym same)
        (turn_is a b b b d d p polled (AnswersOn_nothing answers b d) (WritesOn_nothing writes nothing b) (inl refl))

  Goes_append : (xs ys : List Exchange) (p q r : Place) (d e f : D) → Goes answers p d xs q e → Goes answers q e ys r f → Goes answers p d (xs ++ ys) r f
  Goes_append [] ys p q r d e f one two =
      subst (λ (x : Place). Goes answers x d ys r f) one.0 (subst (λ (x : D). Goes answers q x ys r f) one.1 two)
  Goes_append (x ∷ xs) ys p q r d e f one two =
      (one.0, (one.1.0, one.1.1, Goes_append xs ys (place_after p x.answer) q r one.1.0 e f one.1.2 two))

  -- what comes to pass in two turns
  pub Talks_trans : PassesInOrder reads → PassesInOrder writes → (a b c : Session R W D) → Talks reads is_at_end writes answers a b → Talks reads is_at_end writes answers b c → Talks reads is_at_end writes answers a c
  Talks_trans read_order write_order a b c p q =
      let frames = flat_map-append (λ (x : Exchange). frame_of x.body) p.exchanges q.exchanges in
      let replies = flat_map-append (λ (x : Exchange). bytes_of x.answer) p.exchanges q.exchanges in
      record {
        read = p.read ++ q.read;
        exchanges = p.exchanges ++ q.exchanges;
        written = p.written ++ q.written;
        reading = read_order _ p.read _ q.read _ p.reading q.reading;
        writing = write_order _ p.written _ q.written _ p.writing q.writing;
        each = All-append (λ (x : Exchange). IsBody x.body) p.exchanges q.exchanges p.each q.each;
        framing =
            sym (append_assoc (unanswered a.line) p.read q.read) ∙ ap (λ xs. xs ++ q.read) p.framing
            ∙ append_assoc (frames_of p.exchanges) (unanswered b.line) q.read ∙ ap (λ xs. frames_of p.exchanges ++ xs) q.framing
            ∙ sym (append_assoc (frames_of p.exchanges) (frames_of q.exchanges) (unanswered c.line)) ∙ ap (λ xs. xs ++ unanswered c.line) (sym frames);
        replies =
            ap (λ xs. unsent a.line ++ xs) replies ∙ sym (append_assoc (unsent a.line) (replies_of p.exchanges) (replies_of q.exchanges))
            ∙ ap (λ xs. xs ++ replies_of q.exchanges) p.replies ∙ append_assoc p.written (unsent b.line) (replies_of q.exchanges)
            ∙ ap (λ xs. p.written ++ xs) q.replies ∙ sym (append_assoc p.written q.written (unsent c.line));
        desk = Goes_append p.exchanges q.exchanges _ _ _ _ _ _ p.desk q.desk;
        ends = λ ended.
            ⊎_elim
            (λ (h : b.line.is_over ≡ true). ⊎_elim (λ (k : a.line.is_over ≡ true). inl k) (λ (k : is_at_end b.line.reader). inr (subst is_at_end (sym (q.stays h).1) k)) (p.ends h))
            (λ (h : is_at_end c.line.reader). inr h) (q.ends ended);
        stays = λ was.
            let first = p.stays was in
            let second = q.stays first.0 in (second.0, second.1 ∙ first.1);
      }

-- the desk stays where it is
pub LeavesDesk_same : {D : Type 0} (lacks : D → D → Type 0) (end : End) (d : D) → LeavesDesk lacks (Ready end) d d
LeavesDesk_same lacks Finished d = refl
LeavesDesk_same lacks CutShort d = refl
LeavesDesk_same lacks Closed d = refl
LeavesDesk_same lacks ReadFault d = refl
LeavesDesk_same lacks WriteFault d = refl
LeavesDesk_same lacks NoMemory d = inl refl

pub LeavesDesk_rests : {D : Type 0} (lacks : D → D → Type 0) (r : Turned) (d : D) → polled_of r ≡ Pending → LeavesDesk lacks (polled_of r) d d
LeavesDesk_rests lacks r d is = subst (λ (x : Poll End). LeavesDesk lacks x d d) (sym is) refl

module _ {R W : Type 0} (read_faults : R → ℕ) (write_faults : W → ℕ) (stalls : W → ℕ) where
  -- an end behind a turn that met no fault
  pub EndsAs_earlier : (end : End) (a b c : Line R W) → MetNoFault read_faults write_faults stalls a b → EndsAs read_faults write_faults stalls end b c → EndsAs read_faults write_faults stalls end a c
  EndsAs_earlier Finished a b c none ends = ends
  EndsAs_earlier CutShort a b c none ends = ends
  EndsAs_earlier Closed a b c none ends = ends
  EndsAs_earlier ReadFault a b c none ends = omega (arith, none.reader, ends)
  EndsAs_earlier WriteFault a b c none (inl ends) = inl (omega (arith, none.writer, ends))
  EndsAs_earlier WriteFault a b c none (inr ends) = inr (omega (arith, none.taken, ends))
  EndsAs_earlier NoMemory a b c none ends = tt

-- what a poll has registered stays registered
pub Covers_kept : (a b : Context) (needs : ℕ → Type 0) → Covers a needs → Keeps a b → Covers b needs
Covers_kept a b needs covers keeps =
    (keeps Lasting.armed covers.0, λ s need. keeps (Lasting.hears s) (covers.1 s need))

-- the same for fewer sources
pub Covers_fewer : (cx : Context) (needs fewer : ℕ → Type 0) → ((s : ℕ) → fewer s → needs s) → Covers cx needs → Covers cx fewer
Covers_fewer cx needs fewer within covers =
    (covers.0, λ s need. covers.1 s (within s need))

-- a line that waits for its reader or to send, and for each that it needs
pub LineNeeds_covered : {R W : Type 0} (read : R → ℕ → Type 0) (write : W → ℕ → Type 0) (desk : ℕ → Type 0) (line : Line R W) (cx : Context) (reader_waits send_waits : Bool)
    → (reader_waits ≡ true → Covers cx (read line.reader)) → (send_waits ≡ true → Covers cx (SendNeeds write desk line))
    → ((reader_waits ≡ true) ⊎ (¬ WantsBytes line)) → ((send_waits ≡ true) ⊎ (length line.outbox ≡ 0))
    → ((reader_waits ≡ true) ⊎ (send_waits ≡ true)) → Covers cx (LineNeeds read write desk line)
LineNeeds_covered {R} {W} read write desk line cx reader_waits send_waits reader send reads sends waits = (
  ⊎_elim (λ (h : reader_waits ≡ true). (reader h).0) (λ (h : send_waits ≡ true). (send h).0) waits,
  λ source need.
      ⊎_elim
      (λ (h : WantsBytes line × read line.reader source). ⊎_elim (λ (w : reader_waits ≡ true). (reader w).1 source h.1) (λ (w : ¬ WantsBytes line). absurd (w h.0)) reads)
      (λ (h : (0 < length line.outbox) × SendNeeds write desk line source). ⊎_elim (λ (w : send_waits ≡ true). (send w).1 source h.1) (λ (w : length line.outbox ≡ 0). absurd (omega (arith, w, h.0))) sends)
      need,
)
