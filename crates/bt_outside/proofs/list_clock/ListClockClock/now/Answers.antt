use Rattle.std.proofs.Common.{◌≡◌, ◌+◌, ◌-◌, ◌++◌, [], ◌∷◌, length, min, get_or, arith, ap, subst, List, ℕ}
use Rattle.bt_outside.specs.Clock.{Ticks, readings_of}
use Rattle.bt_outside.proofs.Readings.{told_next}
use Rattle.bt_outside.proofs.list_clock.ListClockClock.now.Goals as goal

pub returns-clause-told : goal.returns-clause-told
returns-clause-told c = λ below.
    let list = c.self.inside.list in
    let n = c.self.inside.count in
    let r = get_or c.items-readings.result.now c.min.result 0 in
    let len : length c.items-readings.result.now ≡ length list = ap length c.items-readings.ensures in
    let next : c.saturating_add-self-inside.result ≡ n + 1 = omega (arith, below, c.saturating_add-self-inside.ensures) in
    let at : c.min.result ≡ min n (length list - 1) = omega (arith, c.min.ensures, len) in
    let read : r ≡ get_or list c.min.result 0 = ap (λ (l : List ℕ). get_or l c.min.result 0) c.items-readings.ensures in
    let told = told_next list n _ _ _ next at read in
    subst (λ (t : Ticks). readings_of list c.saturating_add-self-inside.result ≡ readings_of t.readings t.count ++ r ∷ []) c.self.view_is told
