-- What is written behind a closed gate before it is opened.
use Rattle.std.specs.Prelude.{◌≡◌, ◌<◌, ◌≤◌, ℕ, ◌-◌, List, [], ◌∷◌, ◌++◌, length, take, drop}
use Rattle.std.specs.Int.{w32, to_be_bytes}
use Rattle.bt_gate.specs.declared.log_fault.LogFault.{LogFault}
use Rattle.bt_gate.specs.declared.log_fault.LogFault.TheVariants as fault

-- a length, the bytes, and the closed gate behind them
abbrev pub staged : List ℕ → List ℕ
staged body = to_be_bytes w32 (length body) ++ (body ++ 0 ∷ [])

-- what stands between the length and the closed gate
abbrev pub body_of : List ℕ → List ℕ
body_of bytes = take (length bytes - 5) (drop 4 bytes)

-- why a record was not made: it is longer than the limit, or memory ran out
abbrev pub IsRecordFault : ℕ → ℕ → LogFault → Type 0
IsRecordFault limit n fault.DiskFailed = ⊥
IsRecordFault limit n (fault.Damaged file at) = ⊥
IsRecordFault limit n (fault.TooLarge m) = (limit < n) × (m ≡ n)
IsRecordFault limit n fault.OutOfMemory = n ≤ limit
