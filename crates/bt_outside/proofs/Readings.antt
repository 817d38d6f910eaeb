-- One reading more.
use Rattle.std.proofs.Common.{◌≡◌, ℕ, suc, ◌+◌, ◌-◌, min, List, [], ◌∷◌, ◌++◌, length, get_or, sym, ◌∙◌, ap, add-one}
use Rattle.bt_outside.specs.Clock.{readings_of}

pub told_next : (list : List ℕ) (n count place reading : ℕ) → count ≡ n + 1 → place ≡ min n (length list - 1) → reading ≡ get_or list place 0 → readings_of list count ≡ readings_of list n ++ reading ∷ []
told_next list n count place reading next at is =
    let one : count ≡ suc n = next ∙ add-one n in
    let same : get_or list (min n (length list - 1)) 0 ≡ reading = ap (λ (k : ℕ). get_or list k 0) (sym at) ∙ sym is in
    ap (readings_of list) one ∙ ap (λ (r : ℕ). readings_of list n ++ r ∷ []) same
