-- How much of a reply is missing, as its bytes come.
use Rattle.std.proofs.Common.{◌≡◌, ℕ, ◌+◌, ◌<◌, ◌≤◌, Bool, true, false, List, ◌++◌, length, Result, Ok, Err, inl, inr, refl, ap, ◌∙◌, arith, append_assoc, length-append, ℤ, pos, nat_lt}
use Rattle.std.specs.Prelude.{FitsSigned}
use Rattle.std.specs.Int.{w32}
use Rattle.std.proofs.lemmas.Bool.{ltb-true}
use Rattle.flex_wire.specs.Spelling.{int32}
use Rattle.flex_wire.specs.Reading.{signed_at, bytes_at}
use Rattle.flex_wire.specs.declared.fault.WireFault.{WireFault}
use Rattle.link_futures.specs.Replies.{IsReplySize, IsReplyOf, LacksOfReply}
use Rattle.link_futures.proofs.FrontLemmas.{length-int32}

short_by : (bytes : List ℕ) (is_short : Bool) (e : WireFault) → nat_lt (length bytes) 4 ≡ is_short → signed_at w32 bytes ≡ Err e → length bytes < 4
unfolding signed_at bytes_at
short_by bytes true e test read = ltb-true (length bytes) 4 test
short_by bytes false e test read = let h = rw test at read in cc

-- where no size can be read, one isn't whole
pub too_short : (bytes : List ℕ) (e : WireFault) → signed_at w32 bytes ≡ Err e → length bytes < 4
too_short bytes e read = short_by bytes (nat_lt (length bytes) 4) e refl read

-- some of the missing bytes have come
pub lacks_less : (bytes more : List ℕ) (missing left : ℕ) → LacksOfReply missing bytes → length more + left ≤ missing → LacksOfReply left (bytes ++ more)
lacks_less bytes more missing left (inl small) came = inl (omega (arith, length-append bytes more))
lacks_less bytes more missing left (inr body) came = inr (record {
  size = body.size;
  rest = body.rest ++ more;
  is_size = body.is_size;
  whole = ap (λ xs. xs ++ more) body.whole ∙ append_assoc (int32 (pos body.size)) body.rest more;
  lacks = omega (arith, length-append body.rest more, body.lacks);
})

-- a size, and no less than the body behind it, where no byte is one too many
pub whole_is : (bytes rest : List ℕ) (z : ℤ) (n : ℕ) → bytes ≡ int32 z ++ rest → z ≡ pos n → IsReplySize n → n ≤ length rest
    → ((w : ℤ) (r : List ℕ) → FitsSigned w32 w → bytes ≡ int32 w ++ r → ◌≡◌ {A = Result (ℤ × List ℕ) WireFault} (Ok (w, r)) (Ok (z, rest)))
    → LacksOfReply 0 bytes → (body : List ℕ) × IsReplyOf body bytes
whole_is bytes rest z n whole is size there only (inl small) =
    absurd (omega (arith, ap length whole, length-append (int32 z) rest, length-int32 z, size.0))
whole_is bytes rest z n whole is size there only (inr body) =
    let fits : FitsSigned w32 (pos body.size) = record { sfits = omega (arith, body.is_size.1) } in
    let found = only (pos body.size) body.rest fits body.whole in
    let pair : ◌≡◌ {A = ℤ × List ℕ} (pos body.size, body.rest) (z, rest) = cc in
    let sizes : pos body.size ≡ pos n = ap (λ (p : ℤ × List ℕ). p.0) pair ∙ is in
    let same : body.size ≡ n = cc in
    let rests : body.rest ≡ rest = ap (λ (p : ℤ × List ℕ). p.1) pair in
    let long : n ≡ length rest = omega (arith, ap length rests, body.lacks) in (
      rest,
      record {
        size = (omega (arith, size.0), omega (arith, size.1));
        whole = whole ∙ ap (λ (v : ℤ). int32 v ++ rest) is ∙ ap (λ (k : ℕ). int32 (pos k) ++ rest) long;
      },
    )
