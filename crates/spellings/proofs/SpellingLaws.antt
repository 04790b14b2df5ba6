-- The words of the classes, one by one.
-- Assumes nothing.
use Prim.Native.Nat.{ℕ, zero, suc, ◌+◌, ◌≤◌}
use native.Mathlib.Omega.{arith}
use mathlib.Core.Path.{◌≡◌, refl}
use mathlib.Core.List.{List, [], ◌∷◌}
use lib.ListN.{length, get_or, get_or-eq_default}
use mathlib.Core.Bool.{true}
use lib.Dec.{leb}
use borrow.Author.Tests.{leb-true}
use Rattle.spellings.proofs.DigitLaws.{up_to, below}
use Rattle.lexemes.specs.Words.{same}
use Rattle.lexemes.specs.Classes.{NAME}
use Rattle.lexemes.specs.Lexemes.{signs, reserved, lexemes}
use Rattle.lexemes.proofs.Lists.{either_less}
use Rattle.answers.specs.Text.{lexeme, text_of}

-- ---- the words: a class has one just where it comes before NAME

all_lexemes : length lexemes ≡ NAME
unfolding lexemes signs reserved
all_lexemes = refl

no_lexeme : (k : ℕ) → NAME ≤ k → get_or lexemes k [] ≡ []
no_lexeme k h = get_or-eq_default lexemes [] (omega (arith, all_lexemes))

-- the keys j, j + 1, .. are missed
abbrev pub MissesFrom : Type 0 → ℕ → ℕ → ℕ → Type 0
MissesFrom N j zero k = N
MissesFrom N j (suc m) k = MissesFrom (N × (k ≡ j → ⊥)) (suc j) m k

pub past_all : (N : Type 0) (j m k : ℕ) → MissesFrom N j m k → (N → j ≤ k) → j + m ≤ k
past_all N j zero k h f = omega (arith, f h)
past_all N j (suc m) k h f =
    let q = past_all (N × (k ≡ j → ⊥)) (suc j) m k h (λ p. let a = f p.0 in let b = p.1 in either_less j k (λ l. l) (λ l. absurd (b (omega arith)))) in
    omega arith

-- an arm of the spellings, that of the class k
pub spells : {class k : ℕ} {s : List ℕ} → class ≡ k → s ≡ text_of (lexeme k) → s ≡ text_of (lexeme class)
spells e same = rw e same

-- the text of a class that has no word
pub no_word : (k : ℕ) → NAME ≤ k → text_of (lexeme k) ≡ 32 ∷ []
unfolding text_of same
no_word k h = rw (no_lexeme k h)

-- no word has more bytes, with what stands after it
abbrev pub ROOM : ℕ
ROOM = 24

short_checked : up_to NAME (λ k. leb (length (text_of (lexeme k))) ROOM) ≡ true
unfolding text_of lexemes signs reserved same
short_checked = refl

pub lexeme_short : (k : ℕ) → length (text_of (lexeme k)) ≤ ROOM
unfolding text_of
lexeme_short k =
    either_less k NAME (λ l. leb-true _ _ (below (λ k. leb (length (text_of (lexeme k))) ROOM) NAME k short_checked l))
    (λ l. rw (no_lexeme k l) (omega arith))
