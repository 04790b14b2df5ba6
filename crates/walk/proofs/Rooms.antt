-- What is left to read: there is a token for each row to come, and each turn of a loop leaves fewer.
-- Assumes nothing.
use Prim.Native.Nat.{ℕ, suc, ◌+◌, ◌≤◌, ◌<◌}
use mathlib.Core.Path.{◌≡◌, refl, sym, ap, ◌∙◌}
use mathlib.Core.Bool.{false, cond}
use mathlib.Core.List.{List, [], ◌∷◌}
use native.Mathlib.Omega.{arith}
use native.Mathlib.Decide.{ℕ_discrete}
use lib.Dec.{eqb}
use lib.ListN.{length, length-append}
use borrow.Author.Tests.{eq-eqb, ne_eqb}
use Rattle.lexemes.specs.Classes.{BAD}
use Rattle.ll1.specs.Trees.{Token, Trees, leaves, Symbol, Fits, Depth}
use Rattle.ll1.specs.Machine.{all_nullable}
use Rattle.ll1.proofs.Basics.{clash}
use Rattle.ll1.proofs.Unique.{no_leaf}
use Rattle.grammar.specs.Grammar.{rules}
use Rattle.grammar.specs.Lookahead.{lookahead}
use Rattle.answers.specs.Rows.{Draft}
use Rattle.grammar.proofs.Theorems.{grammar_ll1}
use Rattle.phrases.specs.Stream.{stream}
use Rattle.phrases.proofs.Streams.{stream_on, within_at}
use Rattle.walk.specs.Standing.{Standing}
use Rattle.walk.specs.Meanings.{Meaning, Counted}
use Rattle.walk.specs.Walked.{Room, Tree, Walked, passed}

-- the tokens of a tree are those that were passed
pub tokens_passed :
    {s : List ℕ} {α : List Symbol} {M : Meaning} {st r : Standing} {t t' : List ℕ} (x : Tree s α M st r t t')
    → length (leaves x.trees) + length (stream s r.token) ≡ length (stream s st.token)
tokens_passed {s} {r = r} x = sym (length-append (leaves x.trees) (stream s r.token)) ∙ ap length x.reads

pub room_by :
    {s : List ℕ} {d : Depth} {α : List Symbol} {M : Meaning} {st r : Standing} {t t' : List ℕ}
    → ((f : Trees) (ds : List Draft) (k : ℕ) → M st.rows st.rules f ds k → (length ds ≤ length (leaves f)) × (k ≤ length ds)) → Room s st
    → Walked s d α M st r t t' → Room s r
room_by {s} {st = st} {r = r} few m w =
    record {
      within = w.within m.within;
      rows = λ q.
          let x = w.got q in
          let a = m.rows x.before in
          let b = tokens_passed x in
          let c = few x.trees x.drafts x.count x.means in
          rw x.rows (omega arith);
      rules = λ q.
          let x = w.got q in
          let a = m.rules x.before in
          let c = few x.trees x.drafts x.count x.means in
          rw (x.rows, x.counted) (omega arith);
    }

pub room_after :
    {s : List ℕ} {d : Depth} {α : List Symbol} {M : Meaning} {st r : Standing} {t t' : List ℕ}
    → Room s st → Walked s d α (Counted M) st r t t' → Room s r
room_after m w = room_by (λ f ds k x. (x.few, x.fewer)) m w

pub room_passed : {s : List ℕ} {st : Standing} → Room s st → st.no ≡ 0 → st.token.class < BAD → Room s (passed s st)
room_passed {s} {st} m z l =
    record {
      within = within_at s st.token.end;
      rows = λ q.
          let a = m.rows z in
          let b = ap length (stream_on s st.token l) in
          omega arith;
      rules = m.rules;
    }

-- ---- the measure of a loop

-- what is left to read, and one more while nothing is refused
unfoldable pub ahead : List ℕ → Standing → ℕ
ahead s st = cond (eqb st.no 0) (suc (length (stream s st.token))) 0

pub some_leaf : {α : List Symbol} {f : Trees} → all_nullable rules α ≡ false → Fits rules α f → 0 < length (leaves f)
some_leaf {α} {f} n h = by (leaves f) refl
  where
    by : (l : List Token) → leaves f ≡ l → 0 < length l
    by [] q = clash (let z = no_leaf rules lookahead grammar_ll1 h q in cc)
    by (x ∷ l) q = omega arith

pub ahead_le :
    {s : List ℕ} {d : Depth} {α : List Symbol} {M : Meaning} {st r : Standing} {t t' : List ℕ}
    → Walked s d α M st r t t' → ahead s r ≤ ahead s st
unfolding ahead
ahead_le {s} {st = st} {r = r} w = by (ℕ_discrete r.no 0)
  where
    by : Dec (r.no ≡ 0) → cond (eqb r.no 0) (suc (length (stream s r.token))) 0 ≤ cond (eqb st.no 0) (suc (length (stream s st.token))) 0
    by (no q) = rw (ne_eqb _ _ q) (omega arith)
    by (yes q) =
        let x = w.got q in
        let a = tokens_passed x in
        rw (eq-eqb _ _ q, eq-eqb _ _ x.before) (omega arith)

pub ahead_passed : (s : List ℕ) (st : Standing) {p : Standing} → st.no ≡ 0 → st.token.class < BAD → p ≡ passed s st → ahead s p < ahead s st
unfolding ahead
ahead_passed s st z l e = let a = ap length (stream_on s st.token l) in rw (e, eq-eqb _ _ z) (omega arith)

pub ahead_less :
    {s : List ℕ} {d : Depth} {α : List Symbol} {M : Meaning} {st r : Standing} {t t' : List ℕ}
    → all_nullable rules α ≡ false → st.no ≡ 0 → Walked s d α M st r t t' → ahead s r < ahead s st
unfolding ahead
ahead_less {s} {st = st} {r = r} n z w = rw (eq-eqb _ _ z) (by (ℕ_discrete r.no 0))
  where
    by : Dec (r.no ≡ 0) → cond (eqb r.no 0) (suc (length (stream s r.token))) 0 < suc (length (stream s st.token))
    by (no q) = rw (ne_eqb _ _ q) (omega arith)
    by (yes q) =
        let x = w.got q in
        let a = tokens_passed x in
        let b = some_leaf n x.fits in
        rw (eq-eqb _ _ q) (omega arith)
