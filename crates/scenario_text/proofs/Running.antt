-- A run that goes on line by line.
use Rattle.std.proofs.Common.{◌≡◌, inl, inr, Result, Ok, Err, OnOk, ℕ, ◌+◌, List, [], ◌∷◌, ◌++◌, length, Option, Some, None, IfSome, unwrap_or, refl, sym, ap, ◌∙◌, subst, append_assoc, append-nil, arith, length-append}
use Rattle.std.specs.Prelude.{◌⊎◌, OnErr, IsErrAnd}
use Rattle.std.specs.Result.{result_err}
use Rattle.std.specs.Io.KnownBytes.{Appends, Keeps}
use Rattle.std.proofs.KnownBytes.{Appends-nil, Appends-trans, Keeps-refl}
use Rattle.scenario_text.specs.declared.command_line.Telling.{Telling}
use Rattle.scenario_text.specs.declared.command_line.Telling.TheVariants.{Numbers, Reasons}
use Rattle.scenario_text.specs.declared.fault.Fault.{Fault}
use Rattle.scenario_text.specs.declared.fault.Fault.TheVariants.{BadLine, Read, TooLong, Write, NoMemory}
use Rattle.scenario_text.specs.Inputs.{IsTooLong}
use Rattle.scenario_text.specs.Statuses.{status_of}
use Rattle.scenario_text.specs.Writing.{Grows, WritesPart}
use Rattle.scenario_text.specs.Runs.{Effect, Grammar, Closing, AreDone, WritesLines, WritesPartOfLines, Prints, IsOfReading, IsWrite, IsStatus, Ends, EndsOver, LineEnds, EndEnds, RunsScript}
use Rattle.scenario_text.proofs.Written.{Grows-trans}

-- the first lines are done, and of their text the front is written and the rest is held
pub record HasDone {State : Type 0} (does : Effect State) (lines left : List (List ℕ)) (count : ℕ) (old now : State) (held : List ℕ) (before after : Option (List ℕ)) : Type 0 where
  pub first : List (List ℕ)
  pub text : List ℕ
  pub written : List ℕ
  pub parts : lines ≡ first ++ left
  pub counted : count ≡ length first
  pub done : AreDone does first old now text
  pub appends : Appends before after written
  pub whole : text ≡ written ++ held

-- one line more is done
AreDone-more : {State : Type 0} (does : Effect State) (lines : List (List ℕ)) (old between new : State) (text : List ℕ) (line next : List ℕ)
    → AreDone does lines old between text → does between line new next → AreDone does (lines ++ line ∷ []) old new (text ++ next)
AreDone-more does [] old between new text line next done more =
    let step = subst (λ s. does s line new next) done.0 more in
    (new, next, [], step, (refl, refl), ap (λ t. t ++ next) done.1 ∙ sym (append-nil next))
AreDone-more does (first ∷ lines) old between new text line next done more = (
  done.0,
  done.1,
  done.2 ++ next,
  done.3,
  AreDone-more does lines done.0 between new done.2 line next done.4 more,
  ap (λ t. t ++ next) done.5 ∙ append_assoc done.1 done.2 next,
)

pub HasDone-none : {State : Type 0} (does : Effect State) (lines : List (List ℕ)) (old : State) (bytes : Option (List ℕ))
    → HasDone does lines lines 0 old old [] bytes bytes
HasDone-none does lines old bytes =
    record { first = []; text = []; written = []; parts = refl; counted = refl; done = (refl, refl); appends = Appends-nil bytes; whole = refl }

pub HasDone-more : {State : Type 0} (does : Effect State) (takes : Grammar State) (lines left : List (List ℕ)) (line : List ℕ) (number : ℕ) (count : ℕ)
    (old now new : State) (held held' : List ℕ) (before between after : Option (List ℕ))
    → HasDone does lines (line ∷ left) count old now held before between
    → LineEnds does takes now line number new held held' between after None
    → HasDone does lines left (count + 1) old new held' before after
HasDone-more does takes lines left line number count old now new held held' before between after h ends =
    record {
      first = h.first ++ line ∷ [];
      text = h.text ++ ends.0;
      written = h.written ++ ends.1;
      parts = h.parts ∙ sym (append_assoc h.first (line ∷ []) left);
      counted = omega (arith, h.counted, length-append h.first (line ∷ []));
      done = AreDone-more does h.first old now new h.text line ends.0 h.done ends.2;
      appends = Appends-trans before between after h.written ends.1 h.appends ends.3;
      whole = ap (λ t. t ++ ends.0) h.whole ∙ append_assoc h.written held ends.0 ∙ ap (λ t. h.written ++ t) ends.4 ∙ sym (append_assoc h.written ends.1 held');
    }

-- what is held is written too
all_written : {State : Type 0} (does : Effect State) (lines left : List (List ℕ)) (count : ℕ) (old now : State) (held : List ℕ) (before between after : Option (List ℕ))
    (h : HasDone does lines left count old now held before between) → Appends between after held → WritesLines does h.first old before after
all_written does lines left count old now held before between after h wrote =
    record {
      new = now;
      text = h.text;
      done = h.done;
      written = subst (Appends before after) (sym h.whole) (Appends-trans before between after h.written held h.appends wrote);
    }

-- and a part of it
part_written : {State : Type 0} (does : Effect State) (first : List (List ℕ)) (old now : State) (text front rest : List ℕ) (before between after : Option (List ℕ))
    → AreDone does first old now text → Appends before between front → text ≡ front ++ rest → WritesPart between after rest → WritesPartOfLines does first old before after
part_written does first old now text front rest before between after done appends whole part =
    record {
      new = now;
      text = text;
      done = done;
      written = record {
        written = front ++ part.written;
        left = part.left;
        parts = whole ∙ ap (λ t. front ++ t) part.parts ∙ sym (append_assoc front part.written part.left);
        appends = Appends-trans before between after front part.written appends part.appends;
      };
    }

-- the run ends at a line
pub Ends-at_line : {State : Type 0} (does : Effect State) (takes : Grammar State) (closes : Closing State) (lines left : List (List ℕ)) (line : List ℕ) (count : ℕ)
    (old now new : State) (held held' : List ℕ) (before between after : Option (List ℕ)) (fault : Fault)
    → HasDone does lines (line ∷ left) count old now held before between
    → LineEnds does takes now line (count + 1) new held held' between after (Some fault)
    → Ends does takes closes lines old before after (Some fault)
unfolding all_written
Ends-at_line does takes closes lines left line count old now new held held' before between after (BadLine number) h ends =
    record {
      first = h.first;
      bad = line;
      left = left;
      parts = h.parts;
      numbered = ends.0 ∙ ap (λ n. n + 1) h.counted;
      writes = all_written does lines (line ∷ left) count old now held before between after h ends.2;
      refused = ends.1;
    }
Ends-at_line does takes closes lines left line count old now new held held' before between after (Read error) h ends = absurd ends
Ends-at_line does takes closes lines left line count old now new held held' before between after TooLong h ends = absurd ends
Ends-at_line does takes closes lines left line count old now new held held' before between after (Write error) h ends =
    elim ends [
      | inl part ↦ inl (h.first, line ∷ left, h.parts, part_written does h.first old now h.text h.written held before between after h.done h.appends h.whole part)
      | inr more ↦ inl (
        h.first ++ line ∷ [],
        left,
        h.parts ∙ sym (append_assoc h.first (line ∷ []) left),
        part_written does (h.first ++ line ∷ []) old more.0 (h.text ++ more.1) h.written (held ++ more.1) before between after
            (AreDone-more does h.first old now more.0 h.text line more.1 h.done more.2) h.appends
            (ap (λ t. t ++ more.1) h.whole ∙ append_assoc h.written held more.1) more.3,
      )
    ]
Ends-at_line does takes closes lines left line count old now new held held' before between after NoMemory h ends =
    (h.first, line ∷ left, h.parts, all_written does lines (line ∷ left) count old now held before between after h ends)

-- all lines were done
all_done : {State : Type 0} (does : Effect State) (lines left : List (List ℕ)) (count : ℕ) (old now : State) (held : List ℕ) (before between : Option (List ℕ))
    (h : HasDone does lines left count old now held before between) → left ≡ [] → AreDone does lines old now h.text
all_done does lines left count old now held before between h none =
    let all : h.first ≡ lines = sym (h.parts ∙ ap (λ l. h.first ++ l) none ∙ append-nil h.first) in
    subst (λ l. AreDone does l old now h.text) all h.done

-- the run ends behind the last line
pub Ends-behind_lines : {State : Type 0} (does : Effect State) (takes : Grammar State) (closes : Closing State) (lines left : List (List ℕ)) (count : ℕ) (old now : State)
    (held : List ℕ) (before between after : Option (List ℕ)) (fault : Option Fault) → HasDone does lines left count old now held before between → left ≡ []
    → EndEnds closes now held between after fault → Ends does takes closes lines old before after fault
Ends-behind_lines does takes closes lines left count old now held before between after None h none ends =
    record {
      new = now;
      text = h.text;
      last = ends.0;
      done = all_done does lines left count old now held before between h none;
      closed = ends.1;
      written = subst (Appends before after) (sym (ap (λ t. t ++ ends.0) h.whole ∙ append_assoc h.written held ends.0))
          (Appends-trans before between after h.written (held ++ ends.0) h.appends ends.2);
    }
Ends-behind_lines does takes closes lines left count old now held before between after (Some (BadLine number)) h none ends = absurd ends
Ends-behind_lines does takes closes lines left count old now held before between after (Some (Read error)) h none ends = absurd ends
Ends-behind_lines does takes closes lines left count old now held before between after (Some TooLong) h none ends = absurd ends
Ends-behind_lines does takes closes lines left count old now held before between after (Some (Write error)) h none ends =
    elim ends [
      | inl part ↦ inl (h.first, left, h.parts, part_written does h.first old now h.text h.written held before between after h.done h.appends h.whole part)
      | inr more ↦ inr (record {
        new = now;
        text = h.text;
        last = more.0;
        done = all_done does lines left count old now held before between h none;
        closed = more.1;
        written = record {
          written = h.written ++ more.2.written;
          left = more.2.left;
          parts = ap (λ t. t ++ more.0) h.whole ∙ append_assoc h.written held more.0 ∙ ap (λ t. h.written ++ t) more.2.parts
              ∙ sym (append_assoc h.written more.2.written more.2.left);
          appends = Appends-trans before between after h.written more.2.written h.appends more.2.appends;
        };
      })
    ]
Ends-behind_lines does takes closes lines left count old now held before between after (Some NoMemory) h none ends =
    (h.first, left, h.parts, all_written does lines left count old now held before between after h ends)

-- the run ends before any line
pub Ends-before : {State : Type 0} (does : Effect State) (takes : Grammar State) (closes : Closing State) (lines : List (List ℕ)) (old : State) (bytes : Option (List ℕ)) (fault : Fault)
    → IsOfReading fault → Ends does takes closes lines old bytes bytes (Some fault)
Ends-before does takes closes lines old bytes (BadLine number) is = absurd is
Ends-before does takes closes lines old bytes (Read error) is = Keeps-refl bytes
Ends-before does takes closes lines old bytes TooLong is = Keeps-refl bytes
Ends-before does takes closes lines old bytes (Write error) is = absurd is
Ends-before does takes closes lines old bytes NoMemory is =
    ([], lines, refl, record { new = old; text = []; done = (refl, refl); written = Appends-nil bytes })

pub known_input : (known : Option (List ℕ)) → IfSome known (λ bytes. unwrap_or known [] ≡ bytes)
known_input None = tt
known_input (Some bytes) = refl

-- what stands behind the last line is printed, and all that is held is written
pub EndEnds-by_write : {State T U E : Type 0} (closes : Closing State) (old : State) (held printed : List ℕ) (before after : Option (List ℕ)) (ended : Result T E) (written : Result U Fault)
    (other : Fault) → OnOk ended (Prints (closes old) held printed) → OnErr ended (printed ≡ held) → written ≡ Err other → IsWrite other
    → WritesPart before after printed → EndEnds closes old held before after (Some other)
EndEnds-by_write closes old held printed before after ended written (BadLine number) prints kept was is part = absurd is
EndEnds-by_write closes old held printed before after ended written (Read error) prints kept was is part = absurd is
EndEnds-by_write closes old held printed before after ended written TooLong prints kept was is part = absurd is
EndEnds-by_write closes old held printed before after (Ok done) written (Write error) prints kept was is part =
    inr (prints.text, prints.is_text, subst (WritesPart before after) prints.printed part)
EndEnds-by_write closes old held printed before after (Err fault) written (Write error) prints kept was is part =
    inl (subst (WritesPart before after) kept part)
EndEnds-by_write closes old held printed before after ended written NoMemory prints kept was is part = absurd is

-- ---- a run with reasons

abbrev IsReasons : Telling → Type 0
IsReasons Numbers = ⊥
IsReasons Reasons = Unit {0}

-- a fault of reading ends with the status 1
status_is_one : {T : Type 0} (done : Result T Fault) (status : ℕ) → IsErrAnd done (λ fault. status_of fault ≡ 1) → IsStatus (result_err done) status → status ≡ 1
status_is_one (Ok x) status is_err is_status = absurd is_err
status_is_one (Err fault) status is_one (inl same) = same ∙ is_one
status_is_one (Err fault) status is_one (inr one) = one

last_is_one : (status last : ℕ) → status ≡ 1 → (last ≡ status) ⊎ (last ≡ 1) → last ≡ 1
last_is_one status last is_one (inl same) = same ∙ is_one
last_is_one status last is_one (inr one) = one

-- reasons come behind the fault, and memory may be out for them
pub RunsScript-told : {State T : Type 0} (does : Effect State) (takes : Grammar State) (closes : Closing State) (old : State) (input : Option (List ℕ))
    (before after errors between told : Option (List ℕ)) (done : Result T Fault) (status last : ℕ)
    → EndsOver does takes closes old input before after (result_err done)
    → (IsTooLong input → IsErrAnd done (λ fault. status_of fault ≡ 1) × Keeps before after)
    → IsStatus (result_err done) status → Grows errors between → (last ≡ status) ⊎ (last ≡ 1) → Grows between told
    → RunsScript does takes closes old Reasons input (before, after) (errors, told) last
RunsScript-told does takes closes old input before after errors between told done status last ends too_long is_status grown lasts more =
    record {
      fault = result_err done;
      ends = ends;
      is_status = elim lasts [ inl same ↦ inl (subst (IsStatus (result_err done)) (sym same) is_status) | inr one ↦ inr one ];
      too_long = λ is. (last_is_one status last (status_is_one done status (too_long is).0 is_status) lasts, (too_long is).1);
      told = Grows-trans errors between told grown more;
      quiet = λ is none. absurd (subst IsReasons is tt);
    }
