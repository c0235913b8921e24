-- The ids that a coordinator makes: how long they are, and that the serial can be read back.
use Rattle.std.proofs.Common.{◌≡◌, ℕ, zero, suc, ◌/◌, ◌^◌, ◌<◌, List, [], ◌++◌, length, drop, Some, unwrap_or, All, arith, refl, sym, ap, ◌∙◌, inl}
use Rattle.std.specs.Int.{bytes_high_first, byte_at, to_be_bytes, from_be_bytes, w64}
use Rattle.std.proofs.lemmas.List.Elements.{All-append, All-cons, All-nil}
use Rattle.std.proofs.lemmas.Nat.{from_be_bytes-to_be_bytes_8, mod_below}
use Rattle.uuid.specs.Text.{lower, parsed_hyphenated}
use Rattle.uuid.proofs.RoundTrips.{parses_hyphenated_text}
use Rattle.uuid.proofs.TextLemmas.{by_index_length}
use Rattle.group_types.specs.MemberId.{MadeIdsDiffer, made_id}

pub length-made_id : (salt serial : ℕ) → length (made_id salt serial) ≡ 36
length-made_id salt serial = by_index_length 36 _

byte_fits : (k n : ℕ) → byte_at k n < 256
byte_fits zero n = mod_below n 256 (omega arith)
byte_fits (suc k) n = mod_below (n / 256 ^ suc k) 256 (omega arith)

bytes_fit : (k n : ℕ) → All (λ b. b < 256) (bytes_high_first k n)
bytes_fit zero n = All-nil _
bytes_fit (suc k) n = All-cons (λ b. b < 256) (byte_at k n) (bytes_high_first k n) (byte_fits k n) (bytes_fit k n)

-- the sixteen bytes of a made id
bytes_of : ℕ → ℕ → List ℕ
bytes_of salt serial = to_be_bytes w64 salt ++ to_be_bytes w64 serial

bytes_parsed : (salt serial : ℕ) → Some (bytes_of salt serial) ≡ parsed_hyphenated (made_id salt serial)
unfolding bytes_of
bytes_parsed salt serial =
    parses_hyphenated_text lower (bytes_of salt serial) (inl refl) refl (All-append (λ b. b < 256) (to_be_bytes w64 salt) (to_be_bytes w64 serial) (bytes_fit 8 salt) (bytes_fit 8 serial))

serial_bytes : (salt serial : ℕ) → drop 8 (bytes_of salt serial) ≡ to_be_bytes w64 serial
unfolding bytes_of
serial_bytes salt serial = refl

pub made_ids_differ : MadeIdsDiffer
made_ids_differ salt serial other fits other_fits same =
    let bytes : bytes_of salt serial ≡ bytes_of salt other =
    ap (λ o. unwrap_or o []) (bytes_parsed salt serial ∙ ap parsed_hyphenated same ∙ sym (bytes_parsed salt other)) in
    sym (from_be_bytes-to_be_bytes_8 serial fits)
    ∙ ap (from_be_bytes w64) (sym (serial_bytes salt serial) ∙ ap (drop 8) bytes ∙ serial_bytes salt other)
    ∙ from_be_bytes-to_be_bytes_8 other other_fits
