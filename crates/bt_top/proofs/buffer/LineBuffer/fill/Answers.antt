use Rattle.std.proofs.Common.{◌≡◌, ℕ, ◌+◌, List, ◌++◌, length, take, slice_range, ap, ◌∙◌, arith}
use Rattle.bt_top.specs.Steps.{Buffered}
use Rattle.bt_top.proofs.Buffers.{filled_more, written}
use Rattle.bt_top.proofs.Searches.{none_still}
use Rattle.bt_top.proofs.buffer.LineBuffer.fill.Goals as goal

pub invariant_of-self : goal.invariant_of-self
invariant_of-self g c =
    let b = c.self.inside in
    let size : length c.read_at.new.bytes ≡ b.bytes.len = c.read_at.ensures.length ∙ c.deref_mut.ensures.len in
    let front : take b.filled c.read_at.new.bytes ≡ take b.filled b.bytes.items = cc (c.read_at.ensures.front, c.deref_mut.ensures.value) in
    let whole = ap (λ (xs : List ℕ). length xs) (written b.bytes.len b.bytes.items c.read_at.new.bytes size) in
    let still = none_still b.bytes.len b.bytes.items c.read_at.new.bytes b.start b.filled b.filled b.searched size c.self.invariant.4 (omega arith) front c.self.invariant.5 in
    (c.self.invariant.0, omega (arith, whole, size, b.bytes.ok.0, c.self.invariant.1), omega (arith, whole, size, b.bytes.ok.0, c.self.invariant.2), c.self.invariant.3, c.self.invariant.4, still)

pub invariant_of-self-2 : goal.invariant_of-self-2
invariant_of-self-2 g c =
    let b = c.self.inside in
    let size : length c.read_at.new.bytes ≡ b.bytes.len = c.read_at.ensures.length ∙ c.deref_mut.ensures.len in
    let front : take b.filled c.read_at.new.bytes ≡ take b.filled b.bytes.items = cc (c.read_at.ensures.front, c.deref_mut.ensures.value) in
    let whole = ap (λ (xs : List ℕ). length xs) (written b.bytes.len b.bytes.items c.read_at.new.bytes size) in
    let still = none_still b.bytes.len b.bytes.items c.read_at.new.bytes b.start b.filled (b.filled + c.in_ok-n.n) b.searched size c.self.invariant.4 (omega arith) front c.self.invariant.5 in
    (omega (arith, c.self.invariant.0), omega (arith, whole, size, b.bytes.ok.0, c.self.invariant.1, c.in_ok-n.ensures.count, c.min-count.ensures, c.len.ensures), omega (arith, whole, size, b.bytes.ok.0, c.self.invariant.2), c.self.invariant.3, omega (arith, c.self.invariant.4), still)

pub returns-clause-bytes : goal.returns-clause-bytes
returns-clause-bytes g c tells =
    let b = c.self.inside in
    let size : length c.read_at.new.bytes ≡ b.bytes.len = c.read_at.ensures.length ∙ c.deref_mut.ensures.len in
    let read = c.in_ok-n.ensures.bytes tells in
    let front : take (b.filled + c.in_ok-n.n) c.read_at.new.bytes ≡ take b.filled b.bytes.items ++ read.0 = cc (read.5, c.deref_mut.ensures.value) in
    let more = filled_more b.bytes.items c.read_at.new.bytes read.0 b.start b.filled c.in_ok-n.n c.self.invariant.0 c.self.invariant.1 front in
    let text = ap (λ (v : Buffered). v.text ++ read.0) c.self.view_is ∙ ap (λ (xs : List ℕ). xs ++ read.0) c.make_ready.ensures.text in
    (read.0, read.1, read.2, read.3, read.4, ap (λ (xs : List ℕ). slice_range xs b.start (b.filled + c.in_ok-n.n)) (written b.bytes.len b.bytes.items c.read_at.new.bytes size) ∙ more ∙ text)
