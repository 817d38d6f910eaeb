use Rattle.std.proofs.Common.{◌≡◌, ◌+◌, ℕ, List, None, Some, sym, ap, ◌∙◌, arith, slice_range}
use Rattle.std.specs.List.{position}
use Rattle.bt_top.specs.Lines.{is_lf}
use Rattle.bt_top.specs.Steps.{Buffered}
use Rattle.bt_top.proofs.Searches.{found_from, none_from, none_in_all}
use Rattle.bt_top.proofs.buffer.LineBuffer.line_end.Goals as goal

pub returns-in-Some-clause-place : goal.returns-in-Some-clause-place
returns-in-Some-clause-place c =
    let b = c.self.inside in
    let found : position is_lf (slice_range b.bytes.items (b.start + b.searched) b.filled) ≡ Some c.in-Some.at =
    sym (c.lf_of.ensures ∙ ap (λ (xs : List ℕ). position is_lf (slice_range xs (b.start + b.searched) b.filled)) c.deref.ensures.value) ∙ c.in-Some.is in
    sym (found_from b.bytes.items b.start b.filled b.searched c.in-Some.at c.self.invariant.4 c.self.invariant.1 c.self.invariant.5 found) ∙ ap (λ (v : Buffered). position is_lf v.text) c.self.view_is

pub invariant_of-self : goal.invariant_of-self
invariant_of-self c =
    let b = c.self.inside in
    let none : position is_lf (slice_range b.bytes.items (b.start + b.searched) b.filled) ≡ None =
    sym (c.lf_of.ensures ∙ ap (λ (xs : List ℕ). position is_lf (slice_range xs (b.start + b.searched) b.filled)) c.deref.ensures.value) ∙ c.in-None.is in
    let all = none_from b.bytes.items b.start b.filled b.searched c.self.invariant.4 c.self.invariant.5 none in
    (c.self.invariant.0, c.self.invariant.1, c.self.invariant.2, c.self.invariant.3, omega (arith, c.self.invariant.0), none_in_all b.bytes.items b.start b.filled c.self.invariant.1 all)

pub returns-in-None-clause-place : goal.returns-in-None-clause-place
returns-in-None-clause-place c =
    let b = c.self.inside in
    let none : position is_lf (slice_range b.bytes.items (b.start + b.searched) b.filled) ≡ None =
    sym (c.lf_of.ensures ∙ ap (λ (xs : List ℕ). position is_lf (slice_range xs (b.start + b.searched) b.filled)) c.deref.ensures.value) ∙ c.in-None.is in
    sym (none_from b.bytes.items b.start b.filled b.searched c.self.invariant.4 c.self.invariant.5 none) ∙ ap (λ (v : Buffered). position is_lf v.text) c.self.view_is
