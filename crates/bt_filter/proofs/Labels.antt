-- Labels are ASCII.
use Rattle.std.proofs.Common.{◌≡◌, ℕ, ◌<◌, Bool, true, false, List, length, refl, arith, inl, inr}
use Rattle.std.specs.Prelude.{◌&&◌, nat_lt, nat_le}
use Rattle.std.specs.List.{list_all}
use Rattle.std.specs.Str.{IsUtf8}
use Rattle.std.proofs.lemmas.Bool.{and_parts, cases_lt}
use Rattle.std.proofs.lemmas.Bool.Decides.{nat_tests}
use Rattle.std.proofs.lemmas.Str.{IsUtf8-from_ascii}
use Rattle.std.proofs.lemmas.List.{get_or_past}
use Rattle.std.proofs.lemmas.List.Elements.{All-get_or}
use Rattle.std.proofs.lemmas.List.Sums.{AllPass-from_list_all}
use Rattle.bt_types.specs.Grammar.{is_label, is_label_byte}

ascii : (c : ℕ) → is_label_byte c ≡ true → c < 128
ascii c h = grind (arith, nat_tests)

utf8 : (b : List ℕ) → is_label b ≡ true → IsUtf8 b
utf8 b h =
    let each = (and_parts (nat_lt 0 (length b) && nat_le (length b) 15) (list_all is_label_byte b) h).1 in
    IsUtf8-from_ascii b (λ i.
    elim (cases_lt i (length b)) [
      | inl lt ↦ ascii _ (All-get_or (λ c. is_label_byte c ≡ true) b i 0 lt (AllPass-from_list_all is_label_byte b each))
      | inr le ↦ rw (get_or_past b i 0 le) (omega arith)
    ])

fails : (b : List ℕ) (test : Bool) → (test ≡ true → IsUtf8 b) → ¬ (IsUtf8 b) → test ≡ false
fails b true means absent = absurd (absent (means refl))
fails b false means absent = refl

-- what is no UTF-8 is no label
pub is_no_label : (b : List ℕ) → ¬ (IsUtf8 b) → is_label b ≡ false
is_no_label b absent = fails b (is_label b) (utf8 b) absent
