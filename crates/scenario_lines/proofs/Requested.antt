-- Which lines are requests.
use Rattle.std.proofs.Common.{◌≡◌, ◌≢◌, ℕ, suc, Bool, length, List, [], ◌∷◌, ◌++◌, All, None, true, Ok, codes, refl, sym, ap, ◌∙◌, subst, arith, append_assoc, take, drop, take-append-drop}
use Rattle.std.specs.Prelude.{◌==◌, IsErr}
use Rattle.std.specs.List.{join_with_byte}
use Rattle.std.proofs.lemmas.Bool.Decides.{nat_tests}
use Rattle.std.proofs.lemmas.List.Elements.{All-nil, All-cons, All-head, All-tail}
use Rattle.std.proofs.lemmas.List.Splits.{join_with_byte-slice_split}
use Rattle.std.proofs.lemmas.Slice.Eq.{bytes_eq-Decides}
use Rattle.std.specs.Str.{bytes_eq}
use Rattle.std.proofs.lemmas.Str.{IsUtf8-from_ascii}
use Rattle.std.proofs.lemmas.Str.Ascii.{IsAscii-cons}
use Rattle.hex.specs.Hex.{decode_of}
use Rattle.coord_node.specs.Nodes.{coordinator_of}
use Rattle.scenario_text.specs.Lines.{fed}
use Rattle.scenario_text.specs.Runs.{Prints}
use Rattle.scenario_text.specs.Words.{IsLine, words_of}
use Rattle.scenario_text.proofs.Digits.{digits_are_alone, digits_are_ascii, not_both_ways}
use Rattle.scenario_lines.specs.declared.interpreter.Interpreter.{Interpreter}
use Rattle.scenario_lines.specs.declared.stamps.Stamps.{Stamps}
use Rattle.scenario_lines.specs.Stamps.{stamp_of}
use Rattle.scenario_lines.proofs.Commanded.{first_byte}
use Rattle.scenario_lines.specs.Requests.{BytesStep, PrintsAnswer, text_of}
use Rattle.scenario_lines.specs.Commands.{BeginsRequest, DoesReplyLine, Image, IsCommand, IsReplyLine, Now, Request, Stamped, Tick, one_more}

abbrev IsGiven : List ℕ → Type 0
IsGiven word = word ≢ []

-- the digits behind `req` are the other word of a line
request_line : (line digits bytes : List ℕ) → line ≡ codes "req " ++ digits → digits ≢ [] → decode_of digits ≡ Ok bytes → IsLine line
request_line line digits bytes begins some spelled =
    let ascii = IsAscii-cons 114 (101 ∷ 113 ∷ 32 ∷ digits) (omega arith) (IsAscii-cons 101 (113 ∷ 32 ∷ digits) (omega arith)
    (IsAscii-cons 113 (32 ∷ digits) (omega arith) (IsAscii-cons 32 digits (omega arith) (digits_are_ascii digits bytes spelled)))) in
    let words : All IsGiven (codes "req" ∷ digits ∷ []) = All-cons IsGiven (codes "req") (digits ∷ []) (λ none. cc) (All-cons IsGiven digits [] some (All-nil _)) in
    record {
      text = rw begins (IsUtf8-from_ascii (codes "req " ++ digits) ascii);
      words = rw (begins) (subst (λ ws. All IsGiven (codes "req" ∷ ws)) (sym (digits_are_alone digits bytes spelled)) words);
    }

-- a request that is answered is a line that is done
pub request_done : (old new : Interpreter) (line digits before after : List ℕ) → line ≡ codes "req " ++ digits → digits ≢ []
    → PrintsAnswer (coordinator_of old.node) digits (stamp_of old.stamps.given new.stamps.requests) old.now (coordinator_of new.node) before after
    → new.stamps ≡ record { given = None; requests = one_more old.stamps.requests }
    → new ≡ record old { node = new.node; stamps = new.stamps }
    → Prints (DoesReplyLine old line new) before after
request_done old new line digits before after begins some prints counted kept =
    let cut : words_of line ≡ codes "req" ∷ digits ∷ [] =
    ap words_of begins ∙ ap (λ ws. codes "req" ∷ ws) (digits_are_alone digits prints.bytes prints.spelled) in
    record {
      text = fed (text_of prints.answer);
      is_text = record {
        is_line = request_line line digits prints.bytes begins some prints.spelled;
        does = record {
          command = Request prints.bytes;
          spelled = (digits, cut, prints.spelled);
          does = (
            prints.answer,
            subst (λ (s : Stamps). BytesStep (coordinator_of old.node) prints.bytes (stamp_of old.stamps.given s.requests) old.now prints.answer (coordinator_of new.node)) counted prints.step,
            kept ∙ ap (λ (s : Stamps). (let it : Interpreter = record old { node = new.node; stamps = s } in it)) counted,
            refl,
          );
        };
      };
      printed = prints.printed ∙ append_assoc before (text_of prints.answer) (10 ∷ []);
    }

no_bytes : (digits : List ℕ) → IsErr (decode_of digits) → IsCommand (codes "req" ∷ words_of digits) → ⊥
no_bytes digits bad (Image es, spelled) = absurd (omega (arith, ap first_byte spelled.1))
no_bytes digits bad (Now moment, spelled) = absurd (omega (arith, ap first_byte spelled.1))
no_bytes digits bad (Stamped stamp, spelled) = absurd (omega (arith, ap first_byte spelled.2))
no_bytes digits bad (Request bytes, spelled) =
    let alone : words_of digits ≡ spelled.0 ∷ [] = cc in
    let same : spelled.0 ≡ digits = sym (ap (join_with_byte 32) alone) ∙ join_with_byte-slice_split 32 digits in
    not_both_ways (decode_of digits) bytes (ap decode_of (sym same) ∙ spelled.2) bad
no_bytes digits bad (Tick, spelled) = absurd (omega (arith, ap first_byte spelled))

-- digits that spell no bytes make no line
pub no_request : (line digits : List ℕ) → line ≡ codes "req " ++ digits → IsErr (decode_of digits) → IsReplyLine line → ⊥
no_request line digits begins bad is =
    no_bytes digits bad (subst (λ l. IsCommand (words_of l)) begins is.is_command)

not_zero : (n : ℕ) → (suc n == 0) ≡ true → ⊥
not_zero n is = grind (arith, nat_tests)

pub no_digits : (digits : List ℕ) (answer : Bool) → answer ≡ (length digits == 0) → answer ≡ true → digits ≡ []
no_digits [] answer says is = refl
no_digits (d ∷ digits) answer says is = absurd (not_zero (length digits) (sym says ∙ is))

-- and none at all don't
pub no_empty_request : (line digits : List ℕ) → line ≡ codes "req " ++ digits → digits ≡ [] → IsReplyLine line → ⊥
no_empty_request line digits begins none is =
    let words : All IsGiven (codes "req" ∷ [] ∷ []) = subst (λ l. All IsGiven (words_of l)) (begins ∙ ap (λ d. codes "req " ++ d) none) is.is_line.words in
    All-head IsGiven [] [] (All-tail IsGiven (codes "req") ([] ∷ []) words) refl

-- what `req` begins and isn't a request's beginning is none
pub no_bare_request : (line : List ℕ) (words : List (List ℕ)) → words_of line ≡ codes "req" ∷ words → (BeginsRequest line → ⊥) → IsCommand (codes "req" ∷ words) → ⊥
no_bare_request line words cut none (Image es, spelled) = absurd (omega (arith, ap first_byte spelled.1))
no_bare_request line words cut none (Now moment, spelled) = absurd (omega (arith, ap first_byte spelled.1))
no_bare_request line words cut none (Stamped stamp, spelled) = absurd (omega (arith, ap first_byte spelled.2))
no_bare_request line words cut none (Request bytes, spelled) =
    none (spelled.0, sym (join_with_byte-slice_split 32 line) ∙ ap (join_with_byte 32) (cut ∙ spelled.1))
no_bare_request line words cut none (Tick, spelled) = absurd (omega (arith, ap first_byte spelled))

-- a line whose first bytes are those of `req ` is that and the others
pub is_begun : (line digits : List ℕ) → bytes_eq (take 4 line) (codes "req ") ≡ true → digits ≡ drop 4 line → line ≡ codes "req " ++ digits
is_begun line digits same rest =
    sym (take-append-drop 4 line) ∙ ap (λ l. l ++ drop 4 line) ((bytes_eq-Decides (take 4 line) (codes "req ")).0 same) ∙ ap (λ l. codes "req " ++ l) (sym rest)
