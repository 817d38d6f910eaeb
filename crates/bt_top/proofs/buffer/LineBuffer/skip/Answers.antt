use Rattle.std.proofs.Common.{◌≡◌, ◌≤◌, ℕ, ◌+◌, ◌-◌, List, length, drop, slice_range, ap, ◌∙◌, arith}
use Rattle.bt_top.proofs.Buffers.{skipped, range_length}
use Rattle.bt_top.proofs.buffer.LineBuffer.skip.Goals as goal

pub returns-clause-text : goal.returns-clause-text
returns-clause-text c =
    let items = c.self.inside.bytes.items in
    let s = c.self.inside.start in
    let f = c.self.inside.filled in
    let text : slice_range items s f ≡ c.args.self.now.text = ap (λ v. v.text) c.self.view_is in
    let size : length (slice_range items s f) ≡ f - s = range_length items s f c.self.invariant.1 in
    let same : length (slice_range items s f) ≡ length c.args.self.now.text = ap length text in
    let fits : s + c.args.count ≤ f = omega (arith, size, same, c.requires, c.self.invariant.0) in
    skipped items s f c.args.count fits ∙ ap (λ (xs : List ℕ). drop c.args.count xs) text
