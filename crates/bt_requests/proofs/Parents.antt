-- A parent is lawful exactly where a table in it has a lawful name.
use Rattle.std.proofs.Common.{◌≡◌, ℕ, ◌+◌, ◌-◌, ◌<◌, Bool, true, false, List, ◌∷◌, ◌++◌, length, take, drop, None, refl, ap, ◌∙◌, length-append, length-drop, append_assoc, arith, inl, inr, if◌then◌else◌}
use Rattle.std.specs.Prelude.{◌&&◌, nat_lt, nat_le, bytes_eq, codes, is_some}
use Rattle.std.specs.List.{list_all, position_or_len}
use Rattle.std.proofs.Math.Seq.{take-append_seam, drop-append-add, get_or-append_seam}
use Rattle.std.proofs.lemmas.Bool.{and_parts, and_from, ltb-true, cases_lt}
use Rattle.std.proofs.lemmas.Bool.Decides.{nat_tests}
use Rattle.std.proofs.lemmas.List.{get_or_append_left, take-append-le, drop-append-le, length-take}
use Rattle.std.proofs.lemmas.List.Elements.{All-get_or}
use Rattle.std.proofs.lemmas.List.Sums.{AllPass-from_list_all, fails_before_first, passes_at_first, position_or_len_is}
use Rattle.std.proofs.lemmas.Slice.Eq.{bytes_eq-Decides}
use Rattle.bt_types.specs.Grammar.{lawful, table_in, is_parent, is_table_id, is_table_name, is_instance, is_instance_table, is_table_part, is_project, is_project_byte, is_slash, first_part, later_parts}

-- what is put behind a list plays no part in its first part
record IsCut (b more : List ℕ) : Type 0 where
  pub first : first_part (b ++ more) ≡ first_part b
  pub later : later_parts (b ++ more) ≡ later_parts b ++ more

cut_behind : (b more : List ℕ) → 0 < length (later_parts b) → IsCut b more
cut_behind b more some =
    let at = position_or_len is_slash b in
    let within : at < length b = elim (cases_lt at (length b)) [
      | inl lt ↦ lt
      | inr le ↦ let none : length (later_parts b) ≡ length b - (at + 1) = length-drop (at + 1) b in absurd (omega (arith, none, some))
    ] in
    let same : position_or_len is_slash (b ++ more) ≡ at = position_or_len_is is_slash (b ++ more) at 0 (omega (arith, length-append b more))
    (λ k below. rw (get_or_append_left b more 0 k (omega (arith, below, within))) (fails_before_first is_slash b k 0 below))
    (λ h. rw (get_or_append_left b more 0 at within) (passes_at_first is_slash b 0 within)) in
    record {
      first = ap (λ n. take n (b ++ more)) same ∙ take-append-le at b more (omega (arith, within));
      later = ap (λ n. drop (n + 1) (b ++ more)) same ∙ drop-append-le (at + 1) b more (omega (arith, within));
    }

no_slash : (c : ℕ) → is_project_byte c ≡ true → is_slash c ≡ false
no_slash c h = grind (arith, nat_tests)

-- behind a project, a slash is the first one
cut_at_slash : (b more : List ℕ) → is_project b ≡ true → (first_part (b ++ 47 ∷ more) ≡ b) × (later_parts (b ++ 47 ∷ more) ≡ more)
cut_at_slash b more h =
    let bytes = and_parts (nat_lt 0 (length b) && nat_le (length b) 100) (list_all is_project_byte b) h in
    let at : position_or_len is_slash (b ++ 47 ∷ more) ≡ length b = position_or_len_is is_slash (b ++ 47 ∷ more) (length b) 0 (omega (arith, length-append b (47 ∷ more)))
    (λ k below. rw (get_or_append_left b (47 ∷ more) 0 k below) (no_slash _ (All-get_or (λ c. is_project_byte c ≡ true) b k 0 below (AllPass-from_list_all is_project_byte b bytes.1))))
    (λ h. rw (get_or-append_seam b 47 more 0) refl) in
    (ap (λ n. take n (b ++ 47 ∷ more)) at ∙ take-append_seam b (47 ∷ more), ap (λ n. drop (n + 1) (b ++ 47 ∷ more)) at ∙ drop-append-add b (47 ∷ more) 1)

project_len : (b : List ℕ) → is_project b ≡ true → 0 < length b
project_len b h =
    let bytes = and_parts (nat_lt 0 (length b) && nat_le (length b) 100) (list_all is_project_byte b) h in
    ltb-true 0 (length b) (and_parts (nat_lt 0 (length b)) (nat_le (length b) 100) bytes.0).0

first_len : (b : List ℕ) → 0 < length (first_part b) → 0 < length b
first_len b h = omega (arith, h, length-take (position_or_len is_slash b) b)

word_len : (b : List ℕ) → bytes_eq b (codes "instances") ≡ true → 0 < length b
word_len b h =
    let same : b ≡ codes "instances" = (bytes_eq-Decides b (codes "instances")).0 h in
    rw same (omega arith)

table_of_instance : (b : List ℕ) → is_instance b ≡ true → is_instance_table (b ++ codes "/tables/t") ≡ true
table_of_instance b h =
    let parts = and_parts (bytes_eq (first_part b) (codes "instances")) (is_project (later_parts b)) h in
    let outer = cut_behind b (codes "/tables/t") (project_len (later_parts b) parts.1) in
    let inner = cut_at_slash (later_parts b) (codes "tables/t") parts.1 in
    let word : bytes_eq (first_part (b ++ codes "/tables/t")) (codes "instances") ≡ true = rw outer.first parts.0 in
    let instance : is_project (first_part (later_parts (b ++ codes "/tables/t"))) ≡ true = rw (outer.later, inner.0) parts.1 in
    let table : is_table_part (later_parts (later_parts (b ++ codes "/tables/t"))) ≡ true = rw (outer.later, inner.1) refl in
    and_from _ _ (and_from _ _ word instance) table

table_of_parent : (b : List ℕ) → is_parent b ≡ true → is_table_name (b ++ codes "/tables/t") ≡ true
table_of_parent b h =
    let parts = and_parts (bytes_eq (first_part b) (codes "projects") && is_project (first_part (later_parts b))) (is_instance (later_parts (later_parts b))) h in
    let front = and_parts (bytes_eq (first_part b) (codes "projects")) (is_project (first_part (later_parts b))) parts.0 in
    let instance = and_parts (bytes_eq (first_part (later_parts (later_parts b))) (codes "instances")) (is_project (later_parts (later_parts (later_parts b)))) parts.1 in
    let outer = cut_behind b (codes "/tables/t") (first_len (later_parts b) (project_len (first_part (later_parts b)) front.1)) in
    let inner = cut_behind (later_parts b) (codes "/tables/t") (first_len (later_parts (later_parts b)) (word_len (first_part (later_parts (later_parts b))) instance.0)) in
    let word : bytes_eq (first_part (b ++ codes "/tables/t")) (codes "projects") ≡ true = rw outer.first front.0 in
    let project : is_project (first_part (later_parts (b ++ codes "/tables/t"))) ≡ true = rw (outer.later, inner.first) front.1 in
    let table : is_instance_table (later_parts (later_parts (b ++ codes "/tables/t"))) ≡ true = rw (outer.later, inner.later) (table_of_instance (later_parts (later_parts b)) parts.1) in
    and_from _ _ (and_from _ _ word project) table

has_table_if : (b : List ℕ) (test : Bool) → is_parent b ≡ test → is_some (if test && is_table_id (codes "t") then lawful is_table_name (b ++ codes "/tables/" ++ codes "t") else None) ≡ test
has_table_if b true h =
    let name : is_table_name (b ++ codes "/tables/" ++ codes "t") ≡ true = rw append_assoc (table_of_parent b h) in
    rw name refl
has_table_if b false h = refl

pub has_table : (b : List ℕ) → is_some (table_in b (codes "t")) ≡ is_parent b
has_table b = has_table_if b (is_parent b) refl
