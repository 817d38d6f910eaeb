-- An image file by file.
use Rattle.std.proofs.Common.{◌≡◌, ◌≢◌, ◌≤◌, length, get_or, take, append_assoc, ◌<◌, ◌+◌, inl, inr, ℕ, zero, suc, List, [], ◌∷◌, ◌++◌, refl, sym, ◌∙◌, ap, subst, arith}
use Rattle.std.specs.Prelude.{if◌then◌else◌, ◌==◌, Result, Ok, Err, IfOk, Option, Some, None, IfSome, is_some, true, Vec}
use Rattle.std.specs.declared.alloc.Global.{Global}
use Rattle.bt_outside.specs.History.{Images}
use Rattle.std.proofs.lemmas.Bool.{cases_eq}
use Rattle.std.proofs.lemmas.List.{append-nil, take_more, take_all}
use Rattle.bt_outside.specs.declared.image.FileBytes.{FileBytes}
use Rattle.bt_outside.specs.Model.{State, settled, IsBounded, MayBe, Chosen}
use Rattle.bt_outside.specs.FileStates.{OfFile, lookup, IsPlace}
use Rattle.bt_outside.specs.DiskImage.{files_of, start_of, IsImageOf}
use Rattle.bt_outside.proofs.Places.{if_same, if_other}

-- a choice of an image is an image
chosen_may_be : (choice : ℕ) (state : State) (bytes : List ℕ) → IsBounded state → Chosen choice state bytes → MayBe state bytes
chosen_may_be zero state bytes bounded is = inl (record { no_shorter = omega (arith, is.size); no_longer = omega (arith, is.size, bounded.no_shorter, bounded.no_longer); stays = λ i within stable untouched. is.stays i within stable })
chosen_may_be (suc zero) state bytes bounded is = inr is
chosen_may_be (suc (suc n)) state bytes bounded is = inl (record { no_shorter = omega (arith, is.size, bounded.no_shorter, bounded.no_longer); no_longer = omega (arith, is.size); stays = is.stays })

-- of a file with stable bytes alone these are left
chosen_settled : (choice : ℕ) (bytes : List ℕ) → Chosen choice (settled bytes) bytes
chosen_settled zero bytes = record { size = omega arith; stays = λ i within stable. refl }
chosen_settled (suc zero) bytes = refl
chosen_settled (suc (suc n)) bytes = record { size = refl; touched = λ i within touched. absurd touched; stays = λ i within stable untouched. refl }

-- an item of another number
pub files_skip : (xs ys : List FileBytes) (b : FileBytes) (n : ℕ) → n ≢ b.number → files_of (xs ++ b ∷ ys) n ≡ files_of (xs ++ ys) n
files_skip [] ys b n apart = if_other n b.number b.bytes (files_of ys n) apart
files_skip (x ∷ xs) ys b n apart = ap (λ (l : List ℕ). if n == x.number then x.bytes else l) (files_skip xs ys b n apart)

-- one file more
pub image_push : (choice : ℕ) (bs : List FileBytes) (xs : List OfFile) (b : FileBytes) (x : OfFile) → IsImageOf choice bs xs → b.number ≡ x.number → (IsBounded x.state → Chosen choice x.state b.bytes) → IsImageOf choice (bs ++ b ∷ []) (xs ++ x ∷ [])
image_push choice [] [] b x image number may = (number, may, tt)
image_push choice [] (y ∷ xs) b x image number may = absurd image
image_push choice (a ∷ bs) [] b x image number may = absurd image
image_push choice (a ∷ bs) (y ∷ xs) b x image number may = (image.0, image.1, image_push choice bs xs b x image.2 number may)

-- one file further among those that were not called on
module _ (files : List OfFile) (base rest : List FileBytes) (i : ℕ) (b : FileBytes) (within : i < length base) (read : b ≡ get_or base i b)
    (so_far : (n : ℕ) (more : List FileBytes) → ((k : ℕ) → IsPlace files n k → ⊥) → files_of (rest ++ more) n ≡ files_of (take i base ++ more) n) where
  next : (n : ℕ) (more : List FileBytes) → files_of (take (i + 1) base ++ more) n ≡ files_of (take i base ++ b ∷ more) n
  next n more =
      ap (λ (l : List FileBytes). files_of (l ++ more) n) (take_more base i b within ∙ ap (λ (x : FileBytes). take i base ++ x ∷ []) (sym read)) ∙ ap (λ (l : List FileBytes). files_of l n) (append_assoc (take i base) (b ∷ []) more)

  pub unchanged_put : (new : List FileBytes) (copy : FileBytes) → new ≡ rest ++ copy ∷ [] → copy ≡ b → (n : ℕ) (more : List FileBytes) → ((k : ℕ) → IsPlace files n k → ⊥) → files_of (new ++ more) n ≡ files_of (take (i + 1) base ++ more) n
  unchanged_put new copy pushed same n more none =
      ap (λ (l : List FileBytes). files_of (l ++ more) n) pushed ∙ ap (λ (l : List FileBytes). files_of l n) (append_assoc rest (copy ∷ []) more)
      ∙ ap (λ (x : FileBytes). files_of (rest ++ x ∷ more) n) same ∙ so_far n (b ∷ more) none ∙ sym (next n more)

  pub unchanged_skip : (r : Option ℕ) → IfSome r (λ k. IsPlace files b.number k) → is_some r ≡ true → (n : ℕ) (more : List FileBytes) → ((k : ℕ) → IsPlace files n k → ⊥) → files_of (rest ++ more) n ≡ files_of (take (i + 1) base ++ more) n
  unchanged_skip None found some n more none = cc
  unchanged_skip (Some k) found some n more none =
      so_far n more none ∙ sym (files_skip (take i base) more b n (λ e. none k (subst (λ (m : ℕ). IsPlace files m k) (sym e) found))) ∙ sym (next n more)

-- all of them
pub unchanged_all : (base rest : List FileBytes) (i n : ℕ) → length base ≤ i → files_of (rest ++ []) n ≡ files_of (take i base ++ []) n → files_of rest n ≡ files_of base n
unchanged_all base rest i n past so_far = ap (λ (l : List FileBytes). files_of l n) (sym (append-nil rest)) ∙ so_far ∙ ap (λ (l : List FileBytes). files_of l n) (append-nil (take i base) ∙ take_all i base past)

-- a number that is not there is not there one file further
none_further : (x : OfFile) (xs : List OfFile) (file : ℕ) → file ≢ x.number → ((k : ℕ) → IsPlace xs file k → ⊥) → (k : ℕ) → IsPlace (x ∷ xs) file k → ⊥
none_further x xs file apart none zero here = apart (sym here)
none_further x xs file apart none (suc k) there = none k there.1

module _ (choice : ℕ) (base rest : List FileBytes) (file : ℕ) where
  image_at : (bs : List FileBytes) (xs : List OfFile) → IsImageOf choice bs xs → IsBounded (lookup (start_of base) xs file) → (((k : ℕ) → IsPlace xs file k → ⊥) → files_of rest file ≡ files_of base file) → Chosen choice (lookup (start_of base) xs file) (files_of (bs ++ rest) file)
  image_at [] [] image bounded left = subst (λ (l : List ℕ). Chosen choice (start_of base file) l) (sym (left (λ k none. none))) (chosen_settled choice (files_of base file))
  image_at [] (y ∷ xs) image bounded left = absurd image
  image_at (a ∷ bs) [] image bounded left = absurd image
  image_at (b ∷ bs) (x ∷ xs) image bounded left = elim (cases_eq file x.number) [
    | inl same ↦
        let state : lookup (start_of base) (x ∷ xs) file ≡ x.state = if_same file x.number x.state (lookup (start_of base) xs file) same in
        let bytes : files_of (b ∷ bs ++ rest) file ≡ b.bytes = if_same file b.number b.bytes (files_of (bs ++ rest) file) (same ∙ sym image.0) in
        subst (λ (l : List ℕ). Chosen choice (lookup (start_of base) (x ∷ xs) file) l) (sym bytes) (subst (λ (s : State). Chosen choice s b.bytes) (sym state) (image.1 (subst IsBounded state bounded)))
    | inr apart ↦
        let state : lookup (start_of base) (x ∷ xs) file ≡ lookup (start_of base) xs file = if_other file x.number x.state (lookup (start_of base) xs file) apart in
        let bytes : files_of (b ∷ bs ++ rest) file ≡ files_of (bs ++ rest) file = if_other file b.number b.bytes (files_of (bs ++ rest) file) (λ e. apart (e ∙ image.0)) in
        subst (λ (l : List ℕ). Chosen choice (lookup (start_of base) (x ∷ xs) file) l) (sym bytes) (subst (λ (s : State). Chosen choice s (files_of (bs ++ rest) file)) (sym state)
        (image_at bs xs image.2 (subst IsBounded state bounded) (λ none. left (none_further x xs file apart none))))
  ]

-- the files that were called on, and then those that were not
pub image_whole : (choice : ℕ) (base rest bs image : List FileBytes) (files : List OfFile) → image ≡ bs ++ rest → IsImageOf choice bs files → ((n : ℕ) → ((k : ℕ) → IsPlace files n k → ⊥) → files_of rest n ≡ files_of base n)
    → ((n : ℕ) → IsBounded (lookup (start_of base) files n)) → (n : ℕ) → Chosen choice (lookup (start_of base) files n) (files_of image n)
image_whole choice base rest bs image files is image_is left bounded n =
    subst (λ (l : List FileBytes). Chosen choice (lookup (start_of base) files n) (files_of l n)) (sym is) (image_at choice base rest n bs files image_is (bounded n) (left n))

-- what was chosen may be left
pub image_possible : {E : Type 0} (choice : ℕ) (r : Result (Vec FileBytes Global) E) (states : ℕ → State) → ((n : ℕ) → IsBounded (states n)) → IfOk r (λ v. (n : ℕ) → Chosen choice (states n) (files_of v.items n)) → IfOk r (λ v. Images states (files_of v.items))
image_possible choice (Ok v) states bounded chosen = λ n. chosen_may_be choice (states n) (files_of v.items n) (bounded n) (chosen n)
image_possible choice (Err e) states bounded chosen = chosen
