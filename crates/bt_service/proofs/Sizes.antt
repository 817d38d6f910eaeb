-- Which records are too large.
use Rattle.std.proofs.Common.{◌≡◌, ◌⊎◌, ◌<◌, ℕ, suc, ◌+◌, Bool, true, false, ◌||◌, cond, List, [], ◌∷◌, ◌++◌, length, map, inl, inr, refl, sym, ap, ap₂, ◌∙◌, arith}
use Rattle.std.specs.Prelude.{nat_lt, ◌==◌}
use Rattle.std.specs.List.{flat_map}
use Rattle.std.specs.Int.{w32, to_be_bytes}
use Rattle.std.proofs.lemmas.Bool.{eq-eqb, ne_eqb}
use Rattle.std.proofs.lemmas.Bool.Decides.{Decides-ltb, Decides-or, eqb_tells}
use Rattle.std.proofs.lemmas.List.Concat.{flat_map-cons}
use Rattle.bt_entry.specs.declared.numbered.Numbered.{Numbered}
use Rattle.bt_entry.specs.Spelling as spellings
use Rattle.bt_messages.specs.Refusals.{refusal_line}
use Rattle.bt_messages.specs.declared.refusal.Refusal.TheVariants.{ChangeTooLarge}
use Rattle.bt_plans.specs.Replies.{Reply}
use Rattle.bt_service.specs.Turns.{fitting, is_too_large, record_body, unless_too_large}
use Rattle.bt_state.specs.State.{Event, Present, events_of, greatest_sequence, numbered}
use Rattle.bt_store.specs.Faults.{IsTooLarge}
use Rattle.bt_store.specs.Stands.{Seen}
use Rattle.bt_store.specs.declared.limits.Limits.{Limits}

either_true : (a b c d : ℕ) → (a < b) ⊎ (c < d) → (nat_lt a b || nat_lt c d) ≡ true
either_true a b c d h = (Decides-or (nat_lt a b) (nat_lt c d) (Decides-ltb a b) (Decides-ltb c d)).1 h

true_either : (a b c d : ℕ) → (nat_lt a b || nat_lt c d) ≡ true → (a < b) ⊎ (c < d)
true_either a b c d h = (Decides-or (nat_lt a b) (nat_lt c d) (Decides-ltb a b) (Decides-ltb c d)).0 h

count_same : (batch : List Numbered) → length (events_of batch) ≡ length batch
count_same [] = refl
count_same (n ∷ ns) = ap suc (count_same ns)

count_again : (events : List Event) → length (map (numbered 0) events) ≡ length events
count_again [] = refl
count_again (e ∷ es) = ap suc (count_again es)

-- sequences are not in the bytes
entries_same : (batch : List Numbered) → flat_map spellings.numbered (map (numbered 0) (events_of batch)) ≡ flat_map spellings.numbered batch
entries_same [] = refl
entries_same (n ∷ ns) =
    flat_map-cons spellings.numbered (record n { sequence = 0 }) (map (numbered 0) (events_of ns))
    ∙ ap (λ (bytes : List ℕ). spellings.numbered n ++ bytes) (entries_same ns)
    ∙ sym (flat_map-cons spellings.numbered n ns)

-- the body of a record of these entries
pub body_same : (batch : List Numbered) → record_body (events_of batch) ≡ spellings.spelling batch
body_same batch =
    ap₂ (λ (n : ℕ) (bytes : List ℕ). to_be_bytes w32 n ++ bytes) (count_again (events_of batch) ∙ count_same batch) (entries_same batch)

-- of a record the test says what a commit says
module _ (store : Seen) (batch : List Numbered) where
  same : is_too_large store.limits store.present.last (events_of batch)
      ≡ (nat_lt store.limits.body (length (spellings.spelling batch)) || nat_lt greatest_sequence (store.present.last + length batch))
  same =
      ap₂ (λ (n m : ℕ). nat_lt store.limits.body n || nat_lt greatest_sequence (store.present.last + m)) (ap length (body_same batch)) (count_same batch)

  pub large_true : IsTooLarge store batch → is_too_large store.limits store.present.last (events_of batch) ≡ true
  large_true h = same ∙ either_true store.limits.body (length (spellings.spelling batch)) greatest_sequence (store.present.last + length batch) h

  pub true_large : is_too_large store.limits store.present.last (events_of batch) ≡ true → IsTooLarge store batch
  true_large h = true_either store.limits.body (length (spellings.spelling batch)) greatest_sequence (store.present.last + length batch) (sym same ∙ h)

pub either : (b : Bool) → (b ≡ true) ⊎ (b ≡ false)
either true = inl refl
either false = inr refl

-- ---- the records before the first that is too large

module _ (limits : Limits) (last : ℕ) (r : List Event) (rs : List (List Event)) where
  pub fits_not : is_too_large limits last r ≡ true → fitting limits last (r ∷ rs) ≡ []
  fits_not large = ap (λ (b : Bool). cond b [] (r ∷ fitting limits (last + length r) rs)) large

  pub fits_first : is_too_large limits last r ≡ false → fitting limits last (r ∷ rs) ≡ r ∷ fitting limits (last + length r) rs
  fits_first small = ap (λ (b : Bool). cond b [] (r ∷ fitting limits (last + length r) rs)) small

-- they are all records, or fewer
pub fitting_all : (limits : Limits) (last : ℕ) (rs : List (List Event)) → length (fitting limits last rs) ≡ length rs → fitting limits last rs ≡ rs
fitting_all limits last [] same = refl
fitting_all limits last (r ∷ rs) same =
    elim (either (is_too_large limits last r)) as (λ _. fitting limits last (r ∷ rs) ≡ r ∷ rs) [
      | inl h ↦ absurd (omega (arith, same, ap length (fits_not limits last r rs h)))
      | inr h ↦
          let is = fits_first limits last r rs h in
          is ∙ ap (λ (l : List (List Event)). r ∷ l) (fitting_all limits (last + length r) rs (omega (arith, same, ap length is)))
    ]

module _ (limits : Limits) (p : Present) (r : Reply) where
  -- what is left of a reply of which not every record fits
  abbrev pub cut : Reply
  cut = record { responses = []; status = refusal_line ChangeTooLarge; records = fitting limits p.last r.records }

  by_test : (b : Bool) → (length (fitting limits p.last r.records) == length r.records) ≡ b → unless_too_large limits p r ≡ cond b r cut
  by_test b is = ap (λ (t : Bool). cond t r cut) is

  -- each record fits
  pub not_cut : fitting limits p.last r.records ≡ r.records → unless_too_large limits p r ≡ r
  not_cut all = by_test true (eq-eqb _ _ (ap length all))

  pub is_cut : length (fitting limits p.last r.records) < length r.records → unless_too_large limits p r ≡ cut
  is_cut fewer = by_test false (ne_eqb _ _ (λ same. omega (arith, fewer, same)))

  -- its records are those that fit
  pub cut_records : (unless_too_large limits p r).records ≡ fitting limits p.last r.records
  cut_records =
      elim (eqb_tells (length (fitting limits p.last r.records)) (length r.records)) as (λ _. (unless_too_large limits p r).records ≡ fitting limits p.last r.records) [
        | inl same ↦ ap (λ (q : Reply). q.records) (by_test true same.0) ∙ sym (fitting_all limits p.last r.records same.1)
        | inr apart ↦ ap (λ (q : Reply). q.records) (by_test false apart.0)
      ]
