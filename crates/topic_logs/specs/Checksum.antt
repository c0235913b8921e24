-- CRC-32C (RFC 3720, "CRC32C"; Castagnoli's polynomial 0x1EDC6F41, here with its bits reversed).
use Rattle.std.specs.Prelude.{ℕ, zero, suc, ◌/◌, ◌%◌, ◌==◌, bit_xor, List, fold, if◌then◌else◌}

-- the register after a bit: shifted, and the polynomial added if the bit that left it is 1
abbrev pub after_bit : ℕ → ℕ
after_bit sum = if sum % 2 == 0 then sum / 2 else bit_xor (sum / 2) 0x82F63B78

-- the register after that many bits
abbrev pub after_bits : ℕ → ℕ → ℕ
after_bits zero sum = sum
after_bits (suc more) sum = after_bits more (after_bit sum)

-- what the low byte of a register adds to the register after it
unfoldable pub entry : ℕ → ℕ
entry low = after_bits 8 low

-- the register after a byte: the byte is added to the low one, whose eight bits leave
unfoldable pub after_byte : ℕ → ℕ → ℕ
after_byte sum byte = bit_xor (entry (bit_xor sum byte % 256)) (sum / 256)

-- the checksum: the register begins and ends inverted
unfoldable pub crc32c_of : List ℕ → ℕ
crc32c_of bytes = bit_xor (fold after_byte 0xFFFFFFFF bytes) 0xFFFFFFFF
