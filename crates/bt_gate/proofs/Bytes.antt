-- What a crash leaves behind a front in each write of an append.
use Rattle.std.proofs.Common.{◌≡◌, ◌≢◌, ◌<◌, ℕ, ◌+◌, List, [], ◌∷◌, ◌++◌, length, get_or, take, drop, sym, ◌∙◌, ap, arith, append_assoc, length-append, take-append-drop}
use Rattle.std.proofs.lemmas.List.{take_at, drop_at, drop_more}
use Rattle.bt_outside.specs.Disk.{Holds, Torn}
use Rattle.bt_gate.specs.Gate.{IsClosed}

-- a gate and some bytes stand behind the front
module _ (front more : List ℕ) (gate at : ℕ) (size : length front ≡ at) where
  with_gate : List ℕ
  with_gate = front ++ gate ∷ []

  abbrev all : List ℕ
  all = front ++ gate ∷ more

  gate_size : length (front ++ gate ∷ []) ≡ at + 1
  gate_size = omega (arith, size, length-append front (gate ∷ []))

  apart : front ++ gate ∷ more ≡ (front ++ gate ∷ []) ++ more
  apart = sym (append_assoc front (gate ∷ []) more)

  up_to_gate : take (at + 1) (front ++ gate ∷ more) ≡ front ++ gate ∷ []
  up_to_gate = ap (λ (l : List ℕ). take (at + 1) l) apart ∙ take_at (front ++ gate ∷ []) more (at + 1) gate_size

  behind_gate : drop (at + 1) (front ++ gate ∷ more) ≡ more
  behind_gate = ap (λ (l : List ℕ). drop (at + 1) l) apart ∙ drop_at (front ++ gate ∷ []) more (at + 1) gate_size

  up_to_front : take at (front ++ gate ∷ more) ≡ front
  up_to_front = take_at front (gate ∷ more) at size

  -- a torn write behind the gate leaves the gate
  pub torn_behind : (n : ℕ) (bytes : List ℕ) → gate ≢ 1 → Torn (at + 1) n (front ++ gate ∷ more) bytes → IsClosed front bytes
  torn_behind n bytes shut torn = record {
    gate = gate;
    rest = drop (at + 1) bytes;
    shut = shut;
    is =
        sym (take-append-drop (at + 1) bytes)
        ∙ ap (λ (l : List ℕ). l ++ drop (at + 1) bytes) (torn.before ∙ up_to_gate)
        ∙ append_assoc front (gate ∷ []) (drop (at + 1) bytes);
  }

  pub written_behind : (body bytes : List ℕ) → Holds (at + 1) body (front ++ gate ∷ more) bytes → bytes ≡ front ++ gate ∷ (body ++ drop (at + 1 + length body) (front ++ gate ∷ more))
  written_behind body bytes holds =
      holds
      ∙ ap (λ (l : List ℕ). l ++ body ++ drop (at + 1 + length body) (front ++ gate ∷ more)) up_to_gate
      ∙ append_assoc (front ++ gate ∷ []) body (drop (at + 1 + length body) (front ++ gate ∷ more))
      ∙ append_assoc front (gate ∷ []) (body ++ drop (at + 1 + length body) (front ++ gate ∷ more))

  -- a torn write of the gate leaves what stands behind it
  pub torn_gate : (bytes : List ℕ) → Torn at 1 (front ++ gate ∷ more) bytes → (bytes ≡ front ++ get_or bytes at 0 ∷ more)
  torn_gate bytes torn =
      let long : at < length bytes = omega (arith, torn.no_shorter, size, length-append front (gate ∷ more)) in
      let rest : drop at bytes ≡ get_or bytes at 0 ∷ more = drop_more bytes at 0 long ∙ ap (λ (l : List ℕ). get_or bytes at 0 ∷ l) (torn.after ∙ behind_gate) in
      sym (take-append-drop at bytes) ∙ ap (λ (l : List ℕ). l ++ drop at bytes) (torn.before ∙ up_to_front) ∙ ap (λ (l : List ℕ). front ++ l) rest

  pub written_gate : (new : ℕ) (bytes : List ℕ) → Holds at (new ∷ []) (front ++ gate ∷ more) bytes → bytes ≡ front ++ new ∷ more
  written_gate new bytes holds =
      holds
      ∙ ap (λ (l : List ℕ). l ++ (new ∷ []) ++ drop (at + 1) (front ++ gate ∷ more)) up_to_front
      ∙ ap (λ (l : List ℕ). front ++ (new ∷ []) ++ l) behind_gate
      ∙ append_assoc front (new ∷ []) more
