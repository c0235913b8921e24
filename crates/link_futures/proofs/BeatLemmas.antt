-- The polls of a beat, one and in a row, and what becomes of its member.
use Rattle.std.proofs.Common.{◌≡◌, ℕ, ◌<◌, ◌≤◌, List, [], ◌∷◌, ◌++◌, length, drop, Result, Ok, Err, inl, inr, ⊎_elim, refl, sym, ap, ◌∙◌, subst, arith, append_assoc, append-nil, length-append, drop_at, pos, OnOk}
use Rattle.futures.specs.declared.task.context.Context.{Context}
use Rattle.futures.specs.Task.{Covers}
use Rattle.tokio.specs.Io.Moved.{Passes, PassesNothing, PassesInOrder, AppendsRead, TakesWritten}
use Rattle.flex_wire.specs.Spelling.{int32}
use Rattle.member_core.specs.Client.{Client}
use Rattle.member_core.specs.Asking.{after_giving_up}
use Rattle.member_core.specs.Next.{IsNext}
use Rattle.member_core.specs.declared.member.Member.{Member}
use Rattle.member_core.specs.declared.member.taking.Next.{Next}
use Rattle.link_futures.specs.declared.end.End.{End}
use Rattle.link_futures.specs.declared.end.End.TheVariants.{Finished, CutShort, Closed, ReadFault, WriteFault, NoMemory}
use Rattle.link_futures.specs.declared.call.Call.{Call}
use Rattle.link_futures.specs.declared.beat.AfterBeat.{AfterBeat}
use Rattle.link_futures.specs.Replies.{IsReplyOf}
use Rattle.link_futures.specs.Beats.{unwritten, heard, CallNeeds, Exchanges, Polls, CallMetNoFault, FailsAs, EndsCall, Finishes, Leaves, IsNewCall, CallGives, BeatComesTo}
use Rattle.link_futures.proofs.FrontLemmas.{length-int32}

none_of : (xs : List ℕ) → length xs ≡ 0 → xs ≡ []
none_of [] none = refl
none_of (x ∷ xs) none = absurd (omega arith)

none_after : (xs ys : List ℕ) → [] ≡ xs ++ ys → ys ≡ []
none_after [] ys e = sym e
none_after (x ∷ xs) ys e = cc

module _ {R W S : Type 0} (reads : Passes R) (writes : Passes W) where
  -- a poll that writes
  pub Polls_written : PassesNothing reads → (old new : Call R W S) → new.reader ≡ old.reader → new.member ≡ old.member → heard new ≡ heard old
      → TakesWritten writes old.writer new.writer (unwritten old) (unwritten new) → Polls reads writes old new
  Polls_written nothing old new same_reader same_member same_reply moved =
      let exchanges : Exchanges reads writes old new = record {
        written = moved.0;
        read = [];
        writing = moved.1;
        reading = subst (λ (r : R). reads old.reader [] r) (sym same_reader) (nothing old.reader);
        request = moved.2;
        reply = same_reply ∙ sym (append-nil (heard old));
        first = λ some. absurd (omega arith);
        member = same_member;
      } in
      record { exchanges = exchanges; once = inr refl; short = omega arith }

  -- a poll that reads
  pub Polls_read : PassesNothing writes → (old mid new : Call R W S) (count : ℕ) → mid.writer ≡ old.writer → mid.member ≡ old.member → unwritten mid ≡ unwritten old
      → length (unwritten old) ≡ 0 → AppendsRead reads old.reader mid.reader (heard old) (heard mid) count → count ≤ 65536
      → new ≡ record mid { missing = new.missing } → Polls reads writes old new
  Polls_read nothing old mid new count same_writer same_member same_request none moved short others =
      let last : Call R W S = record mid { missing = new.missing } in
      let done : unwritten mid ≡ [] = same_request ∙ none_of (unwritten old) none in
      let exchanges : Exchanges reads writes old last = record {
        written = [];
        read = moved.0;
        writing = subst (λ (w : W). writes old.writer [] w) (sym same_writer) (nothing old.writer);
        reading = moved.1;
        request = sym same_request;
        reply = moved.2;
        first = λ some. done;
        member = same_member;
      } in
      let polls : Polls reads writes old last = record { exchanges = exchanges; once = inl refl; short = omega (arith, moved.3, short) } in
      subst (λ (c : Call R W S). Polls reads writes old c) (sym others) polls

  -- what is exchanged in two polls
  pub Exchanges_trans : PassesInOrder reads → PassesInOrder writes → (a b c : Call R W S) → Exchanges reads writes a b → Exchanges reads writes b c → Exchanges reads writes a c
  Exchanges_trans read_order write_order a b c p q =
      record {
        written = p.written ++ q.written;
        read = p.read ++ q.read;
        writing = write_order _ p.written _ q.written _ p.writing q.writing;
        reading = read_order _ p.read _ q.read _ p.reading q.reading;
        request = p.request ∙ ap (λ xs. p.written ++ xs) q.request ∙ sym (append_assoc p.written q.written (unwritten c));
        reply = q.reply ∙ ap (λ xs. xs ++ q.read) p.reply ∙ append_assoc (heard a) p.read q.read;
        first = first_of p.read q.read p.first q.first q.request;
        member = q.member ∙ p.member;
      }
    where
      first_of : (xs ys : List ℕ) → (0 < length xs → unwritten b ≡ []) → (0 < length ys → unwritten c ≡ []) → unwritten b ≡ q.written ++ unwritten c
          → 0 < length (xs ++ ys) → unwritten c ≡ []
      first_of [] ys one two next some = two some
      first_of (x ∷ xs) ys one two next some = none_after q.written (unwritten c) (sym (one (omega arith)) ∙ next)

-- a call that waits for its writer
pub CallNeeds_written : {R W S : Type 0} (read : R → ℕ → Type 0) (write : W → ℕ → Type 0) (call : Call R W S) (cx : Context) → 0 < length (unwritten call)
    → Covers cx (write call.writer) → Covers cx (CallNeeds read write call)
CallNeeds_written {R} {W} read write call cx some covers = (
  covers.0,
  λ source need.
      ⊎_elim
      (λ (h : (0 < length (unwritten call)) × write call.writer source). covers.1 source h.1)
      (λ (h : (unwritten call ≡ []) × read call.reader source). absurd (omega (arith, some, ap length h.0)))
      need,
)

-- what stands behind the size of a reply is its body
body_of : (body bytes : List ℕ) → IsReplyOf body bytes → drop 4 bytes ≡ body
body_of body bytes is = ap (drop 4) is.whole ∙ drop_at _ body 4 (length-int32 _)

module _ {R W S : Type 0} (read_faults : R → ℕ) (write_faults : W → ℕ) (stalls : W → ℕ) (is_at_end : R → Type 0) where
  -- a reply that is whole has a size
  pub long_enough : (end : Result (Unit {0}) End) (old new : Call R W S) → EndsCall read_faults write_faults stalls is_at_end end old new → OnOk end (4 ≤ length (heard new))
  long_enough (Ok done) old new ends =
      let body = ends.1.0 in
      omega (arith, ap length ends.1.1.whole, length-append (int32 (pos (length body))) body, length-int32 (pos (length body)))
  long_enough (Err end) old new ends = tt

  -- what becomes of the member at the end of a call
  pub Leaves_by : (end : Result (Unit {0}) End) (old new : Call R W S) (result : Result (Next S) (Member S × End))
      → EndsCall read_faults write_faults stalls is_at_end end old new → Finishes end new.member (heard new) result → Leaves read_faults write_faults stalls is_at_end result old new
  Leaves_by (Ok done) old new (Ok next) ends finishes =
      (ends.0, (ends.1.0, ends.1.1, subst (λ (body : List ℕ). IsNext new.member body next) (body_of ends.1.0 (heard new) ends.1.1) finishes))
  Leaves_by (Ok done) old new (Err failed) ends finishes = absurd finishes
  Leaves_by (Err end) old new (Ok next) ends finishes = absurd finishes
  Leaves_by (Err end) old new (Err failed) ends finishes =
      (finishes.0, subst (λ (e : End). FailsAs read_faults write_faults stalls is_at_end e old new) (sym finishes.1) ends)

  FailsAs_earlier : (end : End) (a b c : Call R W S) → CallMetNoFault read_faults write_faults stalls a b → FailsAs read_faults write_faults stalls is_at_end end b c → FailsAs read_faults write_faults stalls is_at_end end a c
  FailsAs_earlier Finished a b c none fails = fails
  FailsAs_earlier CutShort a b c none fails = fails
  FailsAs_earlier Closed a b c none fails = fails
  FailsAs_earlier ReadFault a b c none fails = (fails.0, omega (arith, none.reader, fails.1))
  FailsAs_earlier WriteFault a b c none (inl fails) = inl (omega (arith, none.writer, fails))
  FailsAs_earlier WriteFault a b c none (inr fails) = inr (omega (arith, none.taken, fails))
  FailsAs_earlier NoMemory a b c none fails = tt

  Leaves_earlier : (result : Result (Next S) (Member S × End)) (a b c : Call R W S) → CallMetNoFault read_faults write_faults stalls a b
      → Leaves read_faults write_faults stalls is_at_end result b c → Leaves read_faults write_faults stalls is_at_end result a c
  Leaves_earlier (Ok next) a b c none leaves = leaves
  Leaves_earlier (Err failed) a b c none leaves = (leaves.0, FailsAs_earlier failed.1 a b c none leaves.1)

  -- what a call gives behind a poll, it gives before it
  pub CallGives_earlier : (reads : Passes R) (writes : Passes W) → PassesInOrder reads → PassesInOrder writes → (a b : Call R W S) (after : AfterBeat R W S) → Polls reads writes a b
      → CallMetNoFault read_faults write_faults stalls a b → CallGives reads is_at_end read_faults writes write_faults stalls b after → CallGives reads is_at_end read_faults writes write_faults stalls a after
  CallGives_earlier reads writes read_order write_order a b after polls none gives =
      record {
        last = gives.last;
        exchanges = Exchanges_trans reads writes read_order write_order a b gives.last polls.exchanges gives.exchanges;
        back = record {
          reader = gives.back.reader;
          writer = gives.back.writer;
          member = Leaves_earlier after.member a b gives.last none gives.back.member;
        };
      }

  comes_to : (reads : Passes R) (writes : Passes W) (call last : Call R W S) (c : Client) (request : List ℕ) (result : Result (Next S) (Member S × End)) → call.member ≡ c
      → unwritten call ≡ request → heard call ≡ [] → Exchanges reads writes call last → Leaves read_faults write_faults stalls is_at_end result call last
      → BeatComesTo reads writes call.reader call.writer c request last.reader last.writer result
  comes_to reads writes call last c request (Ok next) asked asks none exchanges leaves =
      let all : exchanges.written ≡ request = sym (append-nil exchanges.written) ∙ ap (λ xs. exchanges.written ++ xs) (sym leaves.0) ∙ sym exchanges.request ∙ asks in
      let read : heard last ≡ exchanges.read = exchanges.reply ∙ ap (λ xs. xs ++ exchanges.read) none in
      let body = leaves.1.0 in (
        subst (λ (xs : List ℕ). writes call.writer xs last.writer) all exchanges.writing,
        (
          body,
          exchanges.read,
          subst (λ (xs : List ℕ). IsReplyOf body xs) read leaves.1.1,
          exchanges.reading,
          subst (λ (m : Client). IsNext m body next) (exchanges.member ∙ asked) leaves.1.2,
        ),
      )
  comes_to reads writes call last c request (Err failed) asked asks none exchanges leaves = (
    leaves.0 ∙ ap after_giving_up (exchanges.member ∙ asked),
    (exchanges.written, unwritten last, sym asks ∙ exchanges.request, exchanges.writing),
  )

  -- what a new beat comes to
  pub new_comes_to : (reads : Passes R) (writes : Passes W) (call : Call R W S) (reader : R) (writer : W) (c : Client) (request : List ℕ) (after : AfterBeat R W S)
      → IsNewCall call reader writer c request → CallGives reads is_at_end read_faults writes write_faults stalls call after
      → BeatComesTo reads writes reader writer c request after.reader after.writer after.member
  new_comes_to reads writes call reader writer c request after is gives =
      let came = comes_to reads writes call gives.last c request after.member is.waits is.unwritten is.heard gives.exchanges gives.back.member in
      subst (λ (r : R). BeatComesTo reads writes r writer c request after.reader after.writer after.member) is.reads
      (subst (λ (w : W). BeatComesTo reads writes call.reader w c request after.reader after.writer after.member) is.writes
      (subst (λ (r : R). BeatComesTo reads writes call.reader call.writer c request r after.writer after.member) (sym gives.back.reader)
      (subst (λ (w : W). BeatComesTo reads writes call.reader call.writer c request gives.last.reader w after.member) (sym gives.back.writer) came)))
