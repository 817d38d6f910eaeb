-- One group of a base64 text, by the bits of its digits.
use Rattle.std.specs.Prelude.{ℕ, ◌%◌, ◌==◌, ◌&&◌, Bool, true, false, List, [], ◌∷◌, slice_index, if◌then◌else◌}
use Rattle.base64.specs.Engines.{standard}
use Rattle.bt_text.specs.Bytes.{is_digit, is_padding, standard_digit}

-- the six bits of a digit of either alphabet, and 255 for any other byte
abbrev pub digit_bits : ℕ → ℕ
digit_bits c = slice_index standard.decode_table (standard_digit c)

-- the bits of one byte, and zeros
abbrev pub is_one_byte : ℕ → ℕ → Bool
is_one_byte a b = is_digit a && (digit_bits b % 16 == 0)

-- the bits of two bytes, and zeros
abbrev pub is_two_bytes : ℕ → ℕ → ℕ → Bool
is_two_bytes a b c = is_digit a && (is_digit b && (digit_bits c % 4 == 0))

-- four digits, or fewer and padding
abbrev pub is_whole_group : ℕ → ℕ → ℕ → ℕ → Bool
is_whole_group a b c d =
    if is_padding d then (if is_padding c then is_one_byte a b else is_two_bytes a b c)
    else (is_digit a && (is_digit b && (is_digit c && is_digit d)))

-- what stands behind groups of four digits
abbrev pub is_last_group : List ℕ → Bool
is_last_group [] = true
is_last_group (a ∷ []) = false
is_last_group (a ∷ b ∷ []) = is_one_byte a b
is_last_group (a ∷ b ∷ c ∷ []) = is_two_bytes a b c
is_last_group (a ∷ b ∷ c ∷ d ∷ []) = is_whole_group a b c d
is_last_group (a ∷ b ∷ c ∷ d ∷ e ∷ t) = false
