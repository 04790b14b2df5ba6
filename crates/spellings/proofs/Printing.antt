-- What is added to an output: bytes after bytes and words after words.
-- Assumes nothing.
use Prim.Native.Nat.{ℕ, ◌-◌}
use native.Mathlib.Omega.{arith}
use mathlib.Core.Path.{◌≡◌, refl, sym, ◌∙◌}
use lib.ListN.{length}
use mathlib.Core.List.{List, [], ◌∷◌, ◌++◌, append_assoc, append-nil}
use Rattle.answers.specs.Text.{Word, gap_after, text_of}
use Rattle.spellings.specs.declared.output.Output.{Output}
use Rattle.spellings.specs.Printed.{Written, WrittenBefore, Printed, PrintedBefore}
use Rattle.spellings.proofs.Outputs.{few_bytes, print_before, puts_none, puts_then, prints_none, prints_then, print_word}

module _ {o o₁ o₂ : Output} where
  pub written_then : {xs ys : List ℕ} → Written o xs o₁ → Written o₁ ys o₂ → Written o (xs ++ ys) o₂
  written_then p q = record { puts = puts_then p.puts q.puts; lent = q.lent ∙ p.lent }

  -- a word and what stands after it
  pub word_written : {w : Word} {gap : ℕ} → Written o w o₁ → Written o₁ (gap ∷ []) o₂ → gap_after w ≡ gap → Printed o (w ∷ []) o₂
  word_written p q e = record { prints = print_word p.puts q.puts e; lent = q.lent ∙ p.lent }

  pub printed_then : {a b : List Word} → Printed o a o₁ → Printed o₁ b o₂ → Printed o (a ++ b) o₂
  printed_then p q = record { prints = prints_then p.prints q.prints; lent = q.lent ∙ p.lent }

pub printed_none : {o : Output} → Printed o [] o
printed_none {o} = record { prints = prints_none o.bytes.now o.at; lent = refl }

-- the same words
pub as_words : {o o' : Output} {a b : List Word} → a ≡ b → Printed o a o' → Printed o b o'
as_words e p = rw (← e) p

-- the bytes of words
pub words_written : {o o' : Output} {ws : List Word} → Written o (text_of ws) o' → Printed o ws o'
words_written p = record { prints = record { puts = p.puts }; lent = p.lent }

pub printed_bytes : {o o' : Output} {ws : List Word} → Printed o ws o' → Written o (text_of ws) o'
printed_bytes p = record { puts = p.prints.puts; lent = p.lent }

-- ---- a loop that writes bytes: some are done, and those left make the whole

pub record Partly (o : Output) (whole : List ℕ) (o' : Output) (left : List ℕ) : Type 0 where
  pub done : List ℕ
  pub written : Written o done o'
  pub split : whole ≡ done ++ left

pub partly_none : {o : Output} (bs : List ℕ) → Partly o bs o bs
partly_none {o} bs = record { done = []; written = record { puts = puts_none o.bytes.now o.at; lent = refl }; split = refl }

pub partly_more : {o o₁ o₂ : Output} {whole left xs ys : List ℕ} → Partly o whole o₁ left → left ≡ xs ++ ys → Written o₁ xs o₂ → Partly o whole o₂ ys
partly_more {xs = xs} {ys = ys} p e q =
    record { done = p.done ++ xs; written = written_then p.written q; split = p.split ∙ rw e (sym (append_assoc p.done xs ys)) }

pub partly_all : {o o₁ : Output} {whole left : List ℕ} → Partly o whole o₁ left → left ≡ [] → Written o whole o₁
partly_all p e = rw (p.split, e, append-nil p.done) p.written

-- ---- from the end

-- bytes that are written from a place on, of which there are as many before the end
pub started_before : {o o₁ : Output} {start : ℕ} (bs : List ℕ) → start ≡ o.at - length bs → Written (record { bytes = o.bytes; at = start }) bs o₁
    → WrittenBefore o bs (record { bytes = o₁.bytes; at = start })
started_before {o} {start = start} bs e p =
    record { puts = record { fit = λ h l. (omega arith, p.puts.stored ∙ few_bytes o.bytes.now start bs (omega arith)) }; lent = p.lent }

pub words_before : {o o₁ : Output} {ws : List Word} → WrittenBefore o (text_of ws) o₁ → PrintedBefore o ws o₁
words_before p = record { prints = record { puts = p.puts }; lent = p.lent }

pub printed_before : {o o₁ o₂ : Output} {a b : List Word} → PrintedBefore o b o₁ → PrintedBefore o₁ a o₂ → PrintedBefore o (a ++ b) o₂
printed_before p q = record { prints = print_before p.prints q.prints; lent = q.lent ∙ p.lent }
