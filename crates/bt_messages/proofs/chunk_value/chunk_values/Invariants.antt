use Rattle.std.proofs.Common.{◌≡◌, ◌++◌, drop, map}
use Rattle.serde_json.specs.View.{view}
use Rattle.bt_messages.specs.Responses.{shown_chunk}
use Rattle.bt_messages.proofs.chunk_value.chunk_values.Given as goal

-- the values so far, and those of the chunks that are left
abbrev pub invariant-loop-chunk : goal.invariant-loop-chunk
invariant-loop-chunk l = map view l.items.items ++ map shown_chunk (drop l.chunk-index l.chunks) ≡ map shown_chunk l.chunks
