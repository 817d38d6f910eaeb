-- Reading from left to right. A fault is the number of bytes that are left where the first bad field begins.
use Rattle.std.specs.Prelude.{◌≡◌, ℕ, zero, suc, ◌+◌, ◌-◌, Bool, List, [], ◌∷◌, length, take, drop, Result, Ok, Err, nat_lt, nat_le, ◌&&◌, if◌then◌else◌}
use Rattle.std.specs.Int.{Width, byte_len, from_be_bytes}
use Rattle.bt_codec.specs.declared.fault.Fault.{Fault}
use Rattle.bt_codec.specs.declared.fault.Fault.TheVariants as fault

infixl 10 ◌>>=◌
abbrev pub ◌>>=◌ : {A B : Type 0} → Result A ℕ → (A → Result B ℕ) → Result B ℕ
(Ok x) >>= f = f x
(Err left) >>= f = Err left

-- a field that was read, and the bytes behind it
abbrev pub Reads : Type 0 → Type 0
Reads A = Result (A × List ℕ) ℕ

abbrev pub number_at : Width → List ℕ → Reads ℕ
number_at w bytes = if nat_lt (length bytes) (byte_len w) then Err (length bytes) else Ok (from_be_bytes w (take (byte_len w) bytes), drop (byte_len w) bytes)

-- a number that passes a test
unfoldable pub number_with : Width → (ℕ → Bool) → List ℕ → Reads ℕ
number_with w passes bytes = do
  n ← number_at w bytes
  if passes n.0 then Ok n else Err (length bytes)

-- so many bytes
abbrev pub bytes_at : ℕ → List ℕ → Reads (List ℕ)
bytes_at n bytes = if nat_lt (length bytes) n then Err (length bytes) else Ok (take n bytes, drop n bytes)

-- a text whose length lies between least and most
unfoldable pub text_at : Width → ℕ → ℕ → List ℕ → Reads (List ℕ)
text_at w least most bytes = do
  n ← number_with w (λ n. nat_le least n && nat_le n most) bytes
  bytes_at n.0 n.1

-- such a text that passes a test, which is made at its bytes
unfoldable pub text_with : Width → ℕ → ℕ → (List ℕ → Bool) → List ℕ → Reads (List ℕ)
text_with w least most passes bytes = do
  t ← text_at w least most bytes
  if passes t.0 then Ok t else Err (length t.0 + length t.1)

-- so many items, one behind the other
unfoldable pub many_at : {S A : Type 0} → (S → List ℕ → Reads A) → (S → A → S) → S → ℕ → List ℕ → Reads (List A)
many_at read next s zero bytes = Ok ([], bytes)
many_at read next s (suc n) bytes = do
  first ← read s bytes
  others ← many_at read next (next s first.0) n first.1
  Ok (first.0 ∷ others.0, others.1)

-- items that fit wherever they stand
abbrev pub anywhere : {A : Type 0} → ℕ → A → ℕ
anywhere s x = s

-- a count that passes a test, and so many items
unfoldable pub counted_at : {A : Type 0} → Width → (ℕ → Bool) → (ℕ → List ℕ → Reads A) → List ℕ → Reads A
counted_at w passes items bytes = do
  count ← number_with w passes bytes
  items count.0 count.1

-- what a function returned, seen by view, is what reading gives, unless memory ran out
abbrev pub Gives : {X Y : Type 0} → (X → Y) → Result X Fault → Result Y ℕ → Type 0
Gives view (Ok x) read = read ≡ Ok (view x)
Gives view (Err (fault.Bad left)) read = read ≡ Err left
Gives view (Err fault.OutOfMemory) read = Unit {0}

-- a fault as its place in all of the bytes
abbrev pub placed : {A : Type 0} → List ℕ → Result A ℕ → Result A ℕ
placed bytes (Ok x) = Ok x
placed bytes (Err left) = Err (length bytes - left)
