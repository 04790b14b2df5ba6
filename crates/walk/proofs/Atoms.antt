-- Atoms that hold no other: what they spell, and their rows.
-- Assumes nothing.
use Prim.Native.Nat.{ℕ, suc, ◌<◌}
use mathlib.Core.Path.{◌≡◌, refl, ◌∙◌}
use mathlib.Core.Bool.{true}
use mathlib.Core.List.{List, [], ◌∷◌}
use mathlib.Core.Option.{some}
use native.Mathlib.Omega.{arith}
use borrow.Author.Tests.{ne_eqb}
use Rattle.lexemes.specs.Classes as class
use Rattle.lexemes.specs.Classes.{close_paren, NAME, HEX, DECIMAL, BAD}
use Rattle.ll1.specs.Trees.{token, Trees, nil, leaf, node, alternative_of, Fits, fits_nil, fits_leaf, fits_node}
use Rattle.ll1.specs.ParseTable.{predict}
use Rattle.grammar.specs.Grammar.{rules}
use Rattle.grammar.specs.Notation.{t, r, plain}
use Rattle.grammar.specs.Lookahead.{lookahead}
use Rattle.grammar.specs.Rules.{<atom>, <large>, <id>, <name_or_number>}
use Rattle.grammar.specs.Parts.{place_at}
use Rattle.answers.specs.Expression.{Expression, number, constant, question_named, question_numbered, rule_named, Constant, true', false', zero', one', ones', undefined', constant_code, atom}
use Rattle.answers.specs.Rows.{Draft}
use Rattle.elements.specs.Entries.{node_entries, entries}
use Rattle.elements.specs.Symbols.{symbols_of, phrase_symbols, NUMBER, QUESTION_REF, RULE_REF}
use Rattle.fields.specs.Words.{word_codes, code_of}
use Rattle.fields.specs.Phrases.{marked_value, phrase_draft}
use Rattle.walk.specs.Meanings.{Rowed, Worded, kept_of, phrase_row, rows_for, OperandRows}
use Rattle.walk.specs.Starts.{constant_words, is_constant}
use Rattle.walk.proofs.Kept.{either_way}
use Rattle.walk.proofs.StartLaws.{one_of}

-- ---- TRUE FALSE ZERO ONE ONES UNDEFINED

-- the word k is a constant's
pub record ConstantWord (k : ℕ) : Type 0 where
  pub way : ℕ
  pub is : Constant
  pub known : k < BAD
  pub tells : predict lookahead <atom> k ≡ some way
  pub alternative : alternative_of rules <atom> way ≡ some (plain (t k ∷ []))
  pub spells : (c : Trees) (inner : Expression) → atom way c inner ≡ constant is (place_at 0 c)
  pub code : code_of k ≡ constant_code is

pub constant_word : (k : ℕ) → is_constant k ≡ true → ConstantWord k
unfolding rules lookahead word_codes code_of
constant_word k h =
    one_of ConstantWord k constant_words (
      record { way = 2; is = true'; known = omega arith; tells = refl; alternative = refl; spells = λ c e. refl; code = refl },
      (
        record { way = 3; is = false'; known = omega arith; tells = refl; alternative = refl; spells = λ c e. refl; code = refl },
        (
          record { way = 4; is = zero'; known = omega arith; tells = refl; alternative = refl; spells = λ c e. refl; code = refl },
          (
            record { way = 5; is = one'; known = omega arith; tells = refl; alternative = refl; spells = λ c e. refl; code = refl },
            (
              record { way = 6; is = ones'; known = omega arith; tells = refl; alternative = refl; spells = λ c e. refl; code = refl },
              (
                record { way = 7; is = undefined'; known = omega arith; tells = refl; alternative = refl; spells = λ c e. refl; code = refl },
                tt,
              ),
            ),
          ),
        ),
      ),
    )
    h

module _ (s : List ℕ) (parent : ℕ) where
  pub constant_node :
      {k at n : ℕ} {c : Trees} {ds : List Draft} {l : ℕ} (w : ConstantWord k)
      → Fits rules (t k ∷ []) c → Worded s parent at n c ds l → OperandRows s parent at n (node <atom> w.way c nil) ds l
  unfolding rows_for
  constant_node {k} w (fits_leaf {p = p} fits_nil) m =
      record {
        expr = constant w.is p;
        spells = λ left. w.spells (leaf (token k p) nil) left;
        rows = m.row ∙ rw w.code;
        no_rules = m.no_rules;
      }

  -- ---- N

  -- a phrase that is an atom
  phrase_node :
      {i at n : ℕ} {c : Trees} {ds : List Draft} {l : ℕ}
      → (e : Expression) → ((inner : Expression) → atom i c inner ≡ e) → phrase_row s parent c ∷ [] ≡ rows_for s parent e → Rowed s parent at n c ds l
      → OperandRows s parent at n (node <atom> i c nil) ds l
  phrase_node e a b m = record { expr = e; spells = λ left. a _; rows = m.row ∙ b; no_rules = m.no_rules }

  pub number_node :
      {at n : ℕ} {c : Trees} {ds : List Draft} {l : ℕ}
      → Fits rules (symbols_of NUMBER) c → Rowed s parent at n c ds l → OperandRows s parent at n (node <atom> 8 c nil) ds l
  unfolding symbols_of phrase_symbols rules kept_of phrase_row phrase_draft marked_value entries node_entries rows_for
  number_node {at} {n} {ds = ds} {l = l} (fits_node {i = i} {a = a} {c = d} e h fits_nil) m = either_way (λ i d. Rowed s parent at n (node <large> i d nil) ds l → OperandRows s parent at n (node <atom> 8 (node <large> i d nil) nil) ds l) refl decimal hex i a d e h m
    where
      decimal :
          (d : Trees) → Fits rules (t DECIMAL ∷ []) d → Rowed s parent at n (node <large> 0 d nil) ds l
          → OperandRows s parent at n (node <atom> 8 (node <large> 0 d nil) nil) ds l
      decimal d (fits_leaf {p = p} fits_nil) m = phrase_node (number p) (λ e. refl) refl m

      hex :
          (d : Trees) → Fits rules (t HEX ∷ []) d → Rowed s parent at n (node <large> 1 d nil) ds l
          → OperandRows s parent at n (node <atom> 8 (node <large> 1 d nil) nil) ds l
      hex d (fits_leaf {p = p} fits_nil) m = phrase_node (number p) (λ e. refl) refl m

  -- ---- ruleref ( NAME )

  pub rule_ref_node :
      {at n : ℕ} {c : Trees} {ds : List Draft} {l : ℕ}
      → Fits rules (symbols_of RULE_REF) c → Rowed s parent at n c ds l → OperandRows s parent at n (node <atom> 10 c nil) ds l
  unfolding symbols_of phrase_symbols kept_of phrase_row phrase_draft marked_value entries node_entries rows_for
  rule_ref_node (fits_leaf {p = p} (fits_leaf (fits_leaf {p = q} (fits_leaf fits_nil)))) m = phrase_node (rule_named p q) (λ e. refl) refl m

  -- ---- questionref ( NAME or N )

  pub question_ref_node :
      {at n : ℕ} {c : Trees} {ds : List Draft} {l : ℕ}
      → Fits rules (symbols_of QUESTION_REF) c → Rowed s parent at n c ds l → OperandRows s parent at n (node <atom> 9 c nil) ds l
  unfolding symbols_of phrase_symbols rules kept_of phrase_row phrase_draft marked_value entries node_entries rows_for
  question_ref_node {at} {n} {ds = ds} {l = l} (fits_leaf {p = p} (fits_leaf {p = p₁} (fits_node {i = i} {a = a} {c = d} e h (fits_leaf {p = p₃} fits_nil)))) m =
      either_way (λ i d. Rowed s parent at n (around i d) ds l → OperandRows s parent at n (node <atom> 9 (around i d) nil) ds l) refl named numbered i a d e h m
    where
      around : ℕ → Trees → Trees
      around i d = leaf (token class.«questionref» p) (leaf (token class.open_paren p₁) (node <name_or_number> i d (leaf (token close_paren p₃) nil)))

      named :
          (d : Trees) → Fits rules (t NAME ∷ []) d → Rowed s parent at n (around 0 d) ds l
          → OperandRows s parent at n (node <atom> 9 (around 0 d) nil) ds l
      named d (fits_leaf {p = q} fits_nil) m = phrase_node (question_named p q) (λ e. refl) (rw (ne_eqb (suc q) 0 (λ e. omega arith))) m

      numbered :
          (d : Trees) → Fits rules (r <id> ∷ []) d → Rowed s parent at n (around 1 d) ds l
          → OperandRows s parent at n (node <atom> 9 (around 1 d) nil) ds l
      numbered d (fits_node {i = j} {c = b} f k fits_nil) m = phrase_node (question_numbered p (place_at 0 b)) (λ e. refl) refl m
