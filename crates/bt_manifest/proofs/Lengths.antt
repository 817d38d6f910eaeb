-- How long what is spelled is.
use Rattle.std.proofs.Common.{◌≡◌, refl, ℕ, ◌+◌, ◌*◌, ◌<◌, List, [], ◌∷◌, ◌++◌, length, get_or, take, sym, ap, ◌∙◌, arith}
use Rattle.std.specs.List.{flat_map}
use Rattle.std.specs.Int.{w32, to_be_bytes}
use Rattle.std.proofs.lemmas.List.{length-append, take_more}
use Rattle.std.proofs.lemmas.List.Concat.{flat_map-append}
use Rattle.bt_codec.specs.Spelling.{text, list}
use Rattle.bt_manifest.specs.declared.snapshot.TableFiles.{TableFiles}
use Rattle.bt_manifest.specs.declared.snapshot.Snapshot.{Snapshot}
use Rattle.bt_manifest.specs.Spelling.{number, segment, table, snapshot_bytes}

-- items of one length
each_long : {A : Type 0} (spell : A → List ℕ) (n : ℕ) → ((x : A) → length (spell x) ≡ n) → (xs : List A) → length (flat_map spell xs) ≡ n * length xs
each_long spell n each [] = omega arith
each_long spell n each (x ∷ xs) =
    let one = each x in
    let others = each_long spell n each xs in
    omega (arith, length-append (spell x) (flat_map spell xs))

pub table_long : (t : TableFiles) → length (table t) ≡ 20 + 8 * length t.files
table_long t =
    let files = each_long number 8 (λ n. refl) t.files in
    omega (arith, files, length-append (to_be_bytes w32 (length t.files)) (flat_map number t.files))

-- one more item
pub one_longer : {A : Type 0} (spell : A → List ℕ) (xs : List A) (i : ℕ) (x : A) → i < length xs → x ≡ get_or xs i x → length (flat_map spell (take (i + 1) xs)) ≡ length (flat_map spell (take i xs)) + length (spell x)
one_longer {A} spell xs i x lt is =
    let taken : take (i + 1) xs ≡ take i xs ++ x ∷ [] = take_more xs i x lt ∙ ap (λ (y : A). take i xs ++ y ∷ []) (sym is) in
    let spelled = flat_map-append spell (take i xs) (x ∷ []) in
    ap (λ (l : List A). length (flat_map spell l)) taken ∙ ap length spelled ∙ omega (arith, length-append (flat_map spell (take i xs)) (flat_map spell (x ∷ [])), length-append (spell x) [])

pub snapshot_long : (s : Snapshot) → length (snapshot_bytes s) ≡ 36 + 16 * length s.segments + length (flat_map table s.tables) + length s.schema
unfolding snapshot_bytes
snapshot_long s =
    let segments = each_long segment 16 (λ x. refl) s.segments in
    omega (arith, segments, length-append (list w32 segment s.segments) (list w32 table s.tables ++ text w32 s.schema), length-append (list w32 table s.tables) (text w32 s.schema), length-append (to_be_bytes w32 (length s.segments)) (flat_map segment s.segments), length-append (to_be_bytes w32 (length s.tables)) (flat_map table s.tables), length-append (to_be_bytes w32 (length s.schema)) s.schema)
