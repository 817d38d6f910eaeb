-- A fault has no more bytes left than there were.
use Rattle.std.proofs.Common.{◌≡◌, ℕ, zero, suc, ◌+◌, ◌≤◌, Bool, true, false, cond, ltb, eqb, List, ◌∷◌, length, take, drop, length-take, length-drop, Result, Ok, Err, subst, arith}
use Rattle.std.specs.Prelude.{nat_le, ◌&&◌}
use Rattle.std.specs.Int.{Width, byte_len, from_be_bytes}
use Rattle.bt_codec.specs.Reading.{◌>>=◌, Reads, number_at, number_with, text_at, text_with, many_at, counted_at}

-- no more than m bytes are left, behind what was read or at the fault
abbrev pub Within : {A : Type 0} → ℕ → Reads A → Type 0
Within m (Ok x) = length x.1 ≤ m
Within m (Err left) = left ≤ m

pub then_in : {A B : Type 0} (m : ℕ) (r : Reads A) (f : A × List ℕ → Reads B) → Within m r → ((x : A × List ℕ) → length x.1 ≤ m → Within m (f x)) → Within m (r >>= f)
then_in m (Ok x) f w each = each x w
then_in m (Err left) f w each = w

pub test_in : {A : Type 0} (m : ℕ) (b : Bool) (r s : Reads A) → Within m r → Within m s → Within m (cond b r s)
test_in m true r s p q = p
test_in m false r s p q = q

-- a reader that keeps within what it is given
abbrev pub Keeps : {A : Type 0} → (List ℕ → Reads A) → Type 0
Keeps read = (m : ℕ) (bytes : List ℕ) → length bytes ≤ m → Within m (read bytes)

pub number_in : (w : Width) → Keeps (number_at w)
number_in w m bytes le = test_in m (ltb (length bytes) (byte_len w)) (Err (length bytes)) (Ok (from_be_bytes w (take (byte_len w) bytes), drop (byte_len w) bytes)) le (omega (arith, length-drop (byte_len w) bytes))

pub tested_in : (w : Width) (passes : ℕ → Bool) → Keeps (number_with w passes)
unfolding number_with
tested_in w passes m bytes le = then_in m (number_at w bytes) (λ n. cond (passes n.0) (Ok n) (Err (length bytes))) (number_in w m bytes le) (λ n k. test_in m (passes n.0) (Ok n) (Err (length bytes)) k le)

-- a text, and the bytes behind it
abbrev TextWithin : ℕ → Reads (List ℕ) → Type 0
TextWithin m (Ok t) = length t.0 + length t.1 ≤ m
TextWithin m (Err left) = left ≤ m

cut_in : (m n : ℕ) (b : Bool) (bytes : List ℕ) → length bytes ≤ m → TextWithin m (cond b (Err (length bytes)) (Ok (take n bytes, drop n bytes)))
cut_in m n true bytes le = le
cut_in m n false bytes le = omega (arith, length-take n bytes, length-drop n bytes)

text_of : (m : ℕ) (r : Reads ℕ) → Within m r → TextWithin m (r >>= λ n. cond (ltb (length n.1) n.0) (Err (length n.1)) (Ok (take n.0 n.1, drop n.0 n.1)))
text_of m (Ok n) w = cut_in m n.0 (ltb (length n.1) n.0) n.1 w
text_of m (Err left) w = w

parts_in : (w : Width) (least most m : ℕ) (bytes : List ℕ) → length bytes ≤ m → TextWithin m (text_at w least most bytes)
unfolding text_at
parts_in w least most m bytes le = text_of m (number_with w (λ n. nat_le least n && nat_le n most) bytes) (tested_in w (λ n. nat_le least n && nat_le n most) m bytes le)

whole_in : (m : ℕ) (r : Reads (List ℕ)) → TextWithin m r → Within m r
whole_in m (Ok t) w = omega (arith, w)
whole_in m (Err left) w = w

pub text_in : (w : Width) (least most : ℕ) → Keeps (text_at w least most)
text_in w least most m bytes le = whole_in m (text_at w least most bytes) (parts_in w least most m bytes le)

passed_in : (m : ℕ) (passes : List ℕ → Bool) (r : Reads (List ℕ)) → TextWithin m r → Within m (r >>= λ t. cond (passes t.0) (Ok t) (Err (length t.0 + length t.1)))
passed_in m passes (Ok t) w = test_in m (passes t.0) (Ok t) (Err (length t.0 + length t.1)) (omega (arith, w)) w
passed_in m passes (Err left) w = w

pub name_in : (w : Width) (least most : ℕ) (passes : List ℕ → Bool) → Keeps (text_with w least most passes)
unfolding text_with
name_in w least most passes m bytes le = passed_in m passes (text_at w least most bytes) (parts_in w least most m bytes le)

pub many_in : {S A : Type 0} (read : S → List ℕ → Reads A) (next : S → A → S) → ((s : S) → Keeps (read s)) → (n : ℕ) (s : S) → Keeps (many_at read next s n)
unfolding many_at
many_in read next each zero s m bytes le = le
many_in read next each (suc n) s m bytes le =
    then_in m (read s bytes) (λ x. many_at read next (next s x.0) n x.1 >>= λ y. Ok (x.0 ∷ y.0, y.1)) (each s m bytes le)
    (λ x k. then_in m (many_at read next (next s x.0) n x.1) (λ y. Ok (x.0 ∷ y.0, y.1)) (many_in read next each n (next s x.0) m x.1 k) (λ y j. j))

pub counted_in : {A : Type 0} (w : Width) (passes : ℕ → Bool) (items : ℕ → List ℕ → Reads A) → ((n : ℕ) → Keeps (items n)) → Keeps (counted_at w passes items)
unfolding counted_at
counted_in w passes items each m bytes le = then_in m (number_with w passes bytes) (λ n. items n.0 n.1) (tested_in w passes m bytes le) (λ n k. each n.0 m n.1 k)

abbrev fails : (A : Type 0) → ℕ → Result A ℕ
fails A left = Err left

left_is : {A : Type 0} (m l left : ℕ) → fails A l ≡ fails A left → l ≤ m → left ≤ m
left_is m l left e le = let same : l ≡ left = cc in subst (λ (k : ℕ). k ≤ m) same le

fault_in : {A : Type 0} (m : ℕ) (b : Bool) (x : A) (l left : ℕ) → l ≤ m → cond b (Ok x) (fails A l) ≡ fails A left → left ≤ m
fault_in m true x l left le e = absurd cc
fault_in m false x l left le e = left_is m l left e le

-- where nothing may stand behind what was read
pub last_in : {A : Type 0} (m : ℕ) (r : Reads A) (left : ℕ) → Within m r → (r >>= λ x. cond (eqb (length x.1) 0) (Ok x.0) (Err (length x.1))) ≡ fails A left → left ≤ m
last_in m (Ok x) left w e = fault_in m (eqb (length x.1) 0) x.0 (length x.1) left w e
last_in m (Err l) left w e = left_is m l left e w
