use Rattle.bt_chunks.proofs.Joins.{chunks_join}
use Rattle.bt_chunks.proofs.laws.chunks_join.Goals as goal

pub returns : goal.returns
returns c = chunks_join
