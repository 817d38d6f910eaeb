-- The standard encoding is read as it is, and decodes to what was encoded.
use Rattle.std.proofs.Common.{◌≡◌, ℕ, zero, suc, ◌+◌, ◌*◌, ◌/◌, ◌%◌, List, [], ◌∷◌, ◌++◌, length, replicate, slice_index, true, false, refl, ap, ◌∙◌, arith}
use Rattle.std.specs.List.{list_any}
use Rattle.std.specs.Result.{result_ok}
use Rattle.std.proofs.lemmas.Bool.{or_parts, and_from, not_from_false, eq-eqb}
use Rattle.std.proofs.lemmas.List.{length-append, length-replicate}
use Rattle.std.proofs.lemmas.List.Folds.{list_any-append}
use Rattle.base64.specs.Engines.{standard}
use Rattle.base64.specs.Rfc4648.{encode_group, encode_symbols, padding_len, unpadded_len}
use Rattle.base64.specs.GeneralPurpose.{decoded_of, encode_of}
use Rattle.base64.proofs.EngineFacts.{decode_of-encode_of}
use Rattle.base64.proofs.RoundTrip.{length-encode_symbols}
use Rattle.bt_text.specs.Bytes.{is_url_safe_digit, is_standard_text, PrintedBytesAreRead}
use Rattle.bt_text.proofs.StandardForms.{read_as_it_is}

-- a symbol of an alphabet without `-` and `_` is neither
symbol : (t : List ℕ) (i : ℕ) → list_any is_url_safe_digit t ≡ false → is_url_safe_digit (slice_index t i) ≡ false
symbol [] i h = refl
symbol (x ∷ t) zero h = (or_parts _ _ h).0
symbol (x ∷ t) (suc i) h = symbol t i (or_parts _ _ h).1

-- nor is any symbol of what it encodes
symbols : (t m : List ℕ) → list_any is_url_safe_digit t ≡ false → list_any is_url_safe_digit (encode_symbols t m) ≡ false
unfolding encode_symbols
symbols t [] h = refl
symbols t (a ∷ []) h = rw (symbol t (a / 4) h, symbol t (a % 4 * 16) h) refl
symbols t (a ∷ b ∷ []) h = rw (symbol t (a / 4) h, symbol t (a % 4 * 16 + b / 16) h, symbol t (b % 16 * 4) h) refl
symbols t (a ∷ b ∷ c ∷ m) h =
    rw (list_any-append is_url_safe_digit (encode_group t a b c) (encode_symbols t m), symbol t (a / 4) h, symbol t (a % 4 * 16 + b / 16) h, symbol t (b % 16 * 4 + c / 64) h, symbol t (c % 64) h) (symbols t m h)

-- nor any padding
padding : (n : ℕ) → list_any is_url_safe_digit (replicate n 61) ≡ false
padding zero = refl
padding (suc n) = padding n

-- an encoding with its padding is of whole groups
whole_groups : (n : ℕ) → (unpadded_len n + padding_len n) % 4 ≡ 0
whole_groups n = omega arith

whole : (t m : List ℕ) → length (encode_symbols t m ++ replicate (padding_len (length m)) 61) % 4 ≡ 0
whole t m = rw (length-append, length-encode_symbols t m, length-replicate) (whole_groups (length m))

standard_digits : (t m : List ℕ) → list_any is_url_safe_digit t ≡ false
    → list_any is_url_safe_digit (encode_symbols t m ++ replicate (padding_len (length m)) 61) ≡ false
standard_digits t m h =
    rw (list_any-append is_url_safe_digit (encode_symbols t m) (replicate (padding_len (length m)) 61), symbols t m h) (padding (padding_len (length m)))

is_standard_text-encoded : (t m : List ℕ) → list_any is_url_safe_digit t ≡ false
    → is_standard_text (encode_symbols t m ++ replicate (padding_len (length m)) 61) ≡ true
is_standard_text-encoded t m h = and_from _ _ (eq-eqb _ 0 (whole t m)) (not_from_false _ (standard_digits t m h))

pub printed_bytes_are_read : PrintedBytesAreRead
unfolding decoded_of
printed_bytes_are_read b bytes =
    read_as_it_is (encode_of standard b) (is_standard_text-encoded standard.encode_table b refl)
    ∙ ap result_ok (decode_of-encode_of standard b refl bytes)
