use Rattle.std.proofs.Common.{subst, ℕ, ◌≤◌, length, List}
use Rattle.std.specs.Int.{w32}
use Rattle.bt_codec.proofs.Codecs.{text_within}
use Rattle.bt_manifest.specs.Grammar.{most_body}
use Rattle.bt_manifest.proofs.slot.opened_at.Goals as goal

pub returns-clause-lawful : goal.returns-clause-lawful
returns-clause-lawful c =
    let found = c.in_ok-snapshot.ensures.found in
    record {
      grammar = found.0;
      body = subst (λ (l : List ℕ). length l ≤ most_body) found.1 (text_within w32 0 most_body _ _ _ c.in_ok-body.ensures).1;
      first = c.in_ok-generation.ensures.first;
      most = c.in_ok-generation.ensures.limit;
    }
