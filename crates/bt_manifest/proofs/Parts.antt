-- What the table of a loop has.
use Rattle.std.proofs.Common.{◌≡◌, ℕ, ◌<◌, ◌^◌, List, [], ◌∷◌, length, get_or}
use Rattle.std.specs.List.{AllByRecursion}
use Rattle.bt_codec.specs.Lists.{AllFrom}
use Rattle.bt_codec.proofs.Items.{at_item}
use Rattle.bt_manifest.specs.declared.snapshot.TableFiles.{TableFiles}
use Rattle.bt_manifest.specs.Grammar.{AreTables, IsTable, next_incarnation}

abbrev HasFew : TableFiles → Type 0
HasFew t = length t.files < 2 ^ 32

each : (least : ℕ) (ts : List TableFiles) → AllFrom next_incarnation IsTable least ts → AllByRecursion HasFew ts
each least [] all = tt
each least (t ∷ ts) all = (all.0.3.0, each (next_incarnation least t) ts all.1)

-- the table of a loop has no more files than its count can tell
pub few_files : (xs ys : List TableFiles) (i : ℕ) (x : TableFiles) → AreTables ys → xs ≡ ys → i < length xs → length (get_or xs i x).files < 2 ^ 32
few_files xs ys i x all same lt = at_item HasFew xs ys i x (each 0 ys all.1) same lt
