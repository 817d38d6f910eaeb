-- The lines of a read's reply, written one behind another.
use Rattle.std.proofs.Common.{◌≡◌, ◌⊎◌, ℕ, Bool, true, false, List, [], ◌∷◌, ◌++◌, length, take, map, refl, sym, ap, ◌∙◌, inl, inr, subst, append_assoc}
use Rattle.std.proofs.Math.Seq.{take-append_seam}
use Rattle.std.proofs.lemmas.List.{append-nil}
use Rattle.std.proofs.lemmas.Grind.{flat_map-append}
use Rattle.std.specs.Prelude.{Result, Ok, Err}
use Rattle.bt_chunks.specs.declared.chunk.Chunk.{Chunk}
use Rattle.bt_messages.specs.Lines.{ok_line}
use Rattle.bt_messages.specs.Refusals.{refusal_line}
use Rattle.bt_messages.specs.declared.refusal.Refusal.TheVariants.{OutOfMemory}
use Rattle.bt_outside.specs.Links.{Sent}
use Rattle.bt_send.specs.Reads.{ReadGoes, WroteSo, read_line, read_lines, together}
use Rattle.bt_send.specs.Writes.{Sends, Wrote}
use Rattle.bt_send.specs.declared.send_fault.SendFault.{SendFault}
use Rattle.bt_send.specs.declared.send_fault.SendFault.TheVariants as fault
use Rattle.bt_send.proofs.Sending.{sends_longer, sends_then, wrote_none, wrote_whole}

pub together-append : (xs ys : List (List ℕ)) → together (xs ++ ys) ≡ together xs ++ together ys
together-append xs ys = flat_map-append (λ (l : List ℕ). l) xs ys

-- the lines that were written, and those that are left
pub record SoFar (all left : List (List ℕ)) (m : ℕ) (old now : List Sent) : Type 0 where
  pub done : List (List ℕ)
  pub is : all ≡ done ++ left
  pub wrote : Wrote (together done) m old now

pub begins : (all : List (List ℕ)) (m : ℕ) (now : List Sent) → SoFar all all m now now
begins all m now = record { done = []; is = refl; wrote = wrote_none m now }

pub ends : (all left : List (List ℕ)) (m : ℕ) (old now : List Sent) → left ≡ [] → SoFar all left m old now → Wrote (together all) m old now
ends all left m old now none so =
    subst (λ (ls : List (List ℕ)). Wrote (together ls) m old now) (sym (so.is ∙ ap (λ (ls : List (List ℕ)). so.done ++ ls) none ∙ append-nil so.done)) so.wrote

pub stops : (all left : List (List ℕ)) (m : ℕ) (old now : List Sent) → SoFar all left m old now → (n : ℕ) × Wrote (together (take n all)) m old now
stops all left m old now so = (
  length so.done,
  subst (λ (ls : List (List ℕ)). Wrote (together ls) m old now) (sym (ap (take (length so.done)) so.is ∙ take-append_seam so.done left)) so.wrote,
)

module _ (all left : List (List ℕ)) (line : List ℕ) (m : ℕ) (old mid new : List Sent) (so : SoFar all (line ∷ left) m old mid) where
  behind : (out : List ℕ) → out ≡ line → together so.done ++ out ≡ together (so.done ++ line ∷ [])
  behind out is = ap (λ (l : List ℕ). together so.done ++ l) (is ∙ sym (append-nil line)) ∙ sym (together-append so.done (line ∷ []))

  pub goes_on : (is_cut : Bool) → is_cut ≡ false → Sends (λ out. out ≡ line) is_cut m mid new → SoFar all left m old new
  goes_on is_cut fine h = record {
    done = so.done ++ line ∷ [];
    is = so.is ∙ sym (append_assoc so.done (line ∷ []) left);
    wrote = wrote_whole is_cut (together (so.done ++ line ∷ [])) m old new fine
        (sends_then (λ out. out ≡ line) (λ out. out ≡ together (so.done ++ line ∷ [])) is_cut (together so.done) m old mid new behind so.wrote h);
  }

  pub is_lost : (is_cut : Bool) → is_cut ≡ true → Sends (λ out. out ≡ line) is_cut m mid new → Sends (λ out. out ≡ together all) is_cut m old new
  is_lost is_cut cut h =
      let whole : (out : List ℕ) → out ≡ together (so.done ++ line ∷ []) → out ++ together left ≡ together all =
      λ out is. ap (λ (l : List ℕ). l ++ together left) is ∙ sym (together-append (so.done ++ line ∷ []) left) ∙ ap together (append_assoc so.done (line ∷ []) left ∙ sym so.is)
      in
      sends_longer (λ out. out ≡ together (so.done ++ line ∷ [])) (λ out. out ≡ together all) is_cut (together left) m old new whole cut
      (sends_then (λ out. out ≡ line) (λ out. out ≡ together (so.done ++ line ∷ [])) is_cut (together so.done) m old mid new behind so.wrote h)

-- ---- the whole reply

module _ (lines : List (List ℕ)) (m : ℕ) (old mid new : List Sent) where
  pub read_whole : (is_cut : Bool) → Wrote (together lines) m old mid → Sends (λ out. out ≡ ok_line) is_cut m mid new → Sends (ReadGoes lines) is_cut m old new
  read_whole is_cut f g = sends_then (λ out. out ≡ ok_line) (ReadGoes lines) is_cut (together lines) m old mid new (λ out is. inl (ap (λ (l : List ℕ). together lines ++ l) is)) f g

  pub read_refused : (is_cut : Bool) → ((n : ℕ) × Wrote (together (take n lines)) m old mid) → Sends (λ out. out ≡ refusal_line OutOfMemory) is_cut m mid new → Sends (ReadGoes lines) is_cut m old new
  read_refused is_cut f g =
      sends_then (λ out. out ≡ refusal_line OutOfMemory) (ReadGoes lines) is_cut (together (take f.0 lines)) m old mid new (λ out is. inr (f.0, ap (λ (l : List ℕ). together (take f.0 lines) ++ l) is)) f.1 g

pub read_lost : (lines : List (List ℕ)) (m : ℕ) (old new : List Sent) → Sends (λ out. out ≡ together lines) true m old new → Sends (ReadGoes lines) true m old new
read_lost lines m old new h = sends_longer (λ out. out ≡ together lines) (ReadGoes lines) true ok_line m old new (λ out is. inl (ap (λ (l : List ℕ). l ++ ok_line) is)) refl h
