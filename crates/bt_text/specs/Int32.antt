-- JSON fields of the type int32, as the protobuf documentation, "ProtoJSON Format", reads them.
use Rattle.std.specs.Prelude.{◌^◌, nat_lt, if◌then◌else◌, Option, Some, None, ℤ, pos, negsuc}
use Rattle.serde_json.specs.Data.{Data}
use Rattle.bt_text.specs.Int64.{int64_in}
use Rattle.bt_text.specs.Numerals.{◌>>=◌}

-- the number itself, where it fits a signed word of 32 bits (`negsuc n` is -n - 1)
abbrev pub as_int32 : ℤ → Option ℤ
as_int32 (pos n) = if nat_lt n (2 ^ 31) then Some (pos n) else None
as_int32 (negsuc n) = if nat_lt n (2 ^ 31) then Some (negsuc n) else None

-- the forms of an int64, in the range of an int32
abbrev pub int32_in : Data → Option ℤ
int32_in d = int64_in d >>= as_int32
