-- When reading agrees with what is expected.
-- Assumes nothing.
use Rattle.std.proofs.Common.{◌≡◌, ℕ, Bool, true, false, cond, List, length, sym, refl, ◌∙◌, arith}
use Rattle.answers.specs.WholeAnswer.{read_table, quick_check}
use Rattle.replies.specs.Replies.{Reply, read_reply}
use Rattle.trials.specs.Differences.{padded}
use Rattle.specimen.specs.declared.Expected.{Expected}
use Rattle.specimen.specs.Agreement.{reply_of, quick_of, Agrees}

-- the source s is read into a table of m numbers: a is the reply, `came` its values, and t the table afterwards
module _ {s t cells : List ℕ} {a : Reply} {came e : Expected} {m : ℕ} where
  pub agreement :
      (n : ℕ) → m ≡ n → length t ≡ n → a ≡ read_reply s m → t ≡ read_table s m → reply_of came ≡ a → reply_of came ≡ reply_of e
      → t ≡ padded cells (length t) → quick_check s ≡ quick_of e → Agrees s n e cells
  agreement n lent kept answer table values same laid quick =
      record {
        answer = rw (← lent) (sym answer ∙ (sym values ∙ same));
        table = rw (← lent) (sym table ∙ (laid ∙ rw (kept, lent) refl));
        quick = quick;
      }

module _ {s cells cells' : List ℕ} {n n' : ℕ} {e : Expected} where
  pub agrees_as : n ≡ n' → cells ≡ cells' → Agrees s n e cells → Agrees s n' e cells'
  agrees_as p q a = rw (← p, ← q) a

-- what counts as one that agreed did agree
pub one_agreed : (b : Bool) (n : ℕ) → n ≡ cond b 1 0 → n ≡ 1 → b ≡ true
one_agreed true n e h = refl
one_agreed false n e h = absurd (omega arith)
