-- The two laws of numbers within limits, and of lists with any count.
use Rattle.std.proofs.Common.{ℕ, ◌^◌, ◌<◌, ◌≤◌, List, length, refl, arith}
use Rattle.std.specs.Prelude.{nat_le}
use Rattle.std.specs.Int.{w32, w64}
use Rattle.std.proofs.lemmas.Bool.{and_parts, and_from, leb-true, le-leb}
use Rattle.bt_codec.specs.Lists.{AllFrom}
use Rattle.bt_codec.specs.Spelling.{list}
use Rattle.bt_codec.specs.Reading.{Reads, many_at}
use Rattle.bt_codec.proofs.Codecs.{IsCodec, lies, wide32, wide64, tested_codec}
use Rattle.bt_codec.proofs.Many.{counted_codec}
use Rattle.bt_manifest.specs.Spelling.{number}
use Rattle.bt_manifest.specs.Reading.{bounded_at, any_count, list_at}

-- a number from least to most
pub bounded_codec : (least most : ℕ) → most < 2 ^ 64 → IsCodec (bounded_at least most) number (λ n. (least ≤ n) × (n ≤ most))
bounded_codec least most small =
    let c = tested_codec w64 (2 ^ 64) wide64 (lies least most) in
    record {
      takes = λ bytes n rest fits e.
          let t = c.takes bytes n rest fits e in
          let o = and_parts (nat_le least n) (nat_le n most) t.1.1 in
          (t.0, (leb-true _ _ o.0, leb-true _ _ o.1));
      again = λ n rest h. c.again n rest (omega (arith, h.1, small), and_from _ _ (le-leb _ _ h.0) (le-leb _ _ h.1));
    }

-- a count, and so many items
pub list_codec : {S A : Type 0} (read : S → List ℕ → Reads A) (next : S → A → S) (spell : A → List ℕ) (Fits : S → A → Type 0) → ((s : S) → IsCodec (read s) spell (Fits s)) → (s : S)
    → IsCodec (list_at (λ n bytes. many_at read next s n bytes)) (list w32 spell) (λ xs. (length xs < 2 ^ 32) × AllFrom next Fits s xs)
list_codec read next spell Fits codec s =
    let c = counted_codec w32 (2 ^ 32) wide32 any_count read next spell Fits codec s in
    record {
      takes = λ bytes xs rest fits e. let t = c.takes bytes xs rest fits e in (t.0, (t.1.0, t.1.2));
      again = λ xs rest h. c.again xs rest (h.0, refl, h.1);
    }
