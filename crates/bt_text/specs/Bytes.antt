-- JSON fields of the type bytes: base64 of RFC 4648, as the protobuf documentation, "ProtoJSON Format", reads it.
use Rattle.std.specs.Prelude.{◌≡◌, ℕ, ◌-◌, ◌%◌, ◌==◌, ◌&&◌, ◌||◌, Bool, true, not, List, ◌++◌, length, map, replicate, if◌then◌else◌, Option, Some, option_and_then}
use Rattle.std.specs.Char.{is_ascii_alphanumeric}
use Rattle.std.specs.List.{list_any}
use Rattle.base64.specs.Engines.{standard}
use Rattle.base64.specs.GeneralPurpose.{IsBytes, decoded_of, encode_of}
use Rattle.serde_json.specs.Data.{Data, string}
use Rattle.serde_json.specs.Find.{as_str}

-- `-` or `_`: the URL-safe alphabet (RFC 4648, section 5) has them where the standard one (section 4) has `+` and `/`
abbrev pub is_url_safe_digit : ℕ → Bool
is_url_safe_digit c = (c == 45) || (c == 95)

-- `+` for `-`, `/` for `_`, and any other byte as it is
abbrev pub standard_digit : ℕ → ℕ
standard_digit c = if c == 45 then 43 else (if c == 95 then 47 else c)

-- a digit of either alphabet
abbrev pub is_digit : ℕ → Bool
is_digit c = is_ascii_alphanumeric c || (c == 43) || (c == 47) || (c == 45) || (c == 95)

-- `=`
abbrev pub is_padding : ℕ → Bool
is_padding c = c == 61

-- how many `=` a text lacks: where it has none, as many as bring it to a multiple of four
abbrev pub missing_padding : List ℕ → ℕ
missing_padding t = if list_any is_padding t then 0 else (4 - length t % 4) % 4

-- the text with the padding that it lacks
abbrev pub padded : List ℕ → List ℕ
padded t = t ++ replicate (missing_padding t) 61

-- the bytes whose base64 a text is: in either alphabet, with or without padding, and with zeros for the bits left over
unfoldable pub bytes_of_text : List ℕ → Option (List ℕ)
bytes_of_text t = decoded_of standard (padded (map standard_digit t))

-- the bytes of a string's text
abbrev pub bytes_in : Data → Option (List ℕ)
bytes_in d = option_and_then bytes_of_text (as_str d)

-- a text that is read as it is: whole groups of four, without `-` and `_`
abbrev pub is_standard_text : List ℕ → Bool
is_standard_text t = (length t % 4 == 0) && not (list_any is_url_safe_digit t)

-- the standard encoding of bytes, as a string, is those bytes
abbrev pub PrintedBytesAreRead : Type 0
PrintedBytesAreRead = (b : List ℕ) → IsBytes b → bytes_in (string (encode_of standard b)) ≡ Some b

-- a text of whole groups, without `-` and `_`, is decoded as it is
abbrev pub StandardTextIsDecodedAsItIs : Type 0
StandardTextIsDecodedAsItIs = (t : List ℕ) → is_standard_text t ≡ true → bytes_of_text t ≡ decoded_of standard t
