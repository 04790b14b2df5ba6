-- What is to hold of an expression's shape: it fits the grammar, it spells the text, and every tree over it means the expression.
-- Levels and atoms are so where their parts are.
-- Assumes nothing.
use mathlib.Core.Path.{◌≡◌, refl, ap, sym, ◌∙◌, subst}
use mathlib.Core.List.{List, [], ◌∷◌, ◌++◌, append-nil}
use mathlib.Core.Option.{some}
use mathlib.Core.Bool.{Bool, true, false}
use Prim.Native.Nat.{ℕ, zero, suc, ◌+◌, ◌≤◌, ◌<◌}
use native.Mathlib.Omega.{arith}
use lib.Dec.{leb}
use borrow.Author.Tests.{leb-true, leb-false}
use Rattle.ll1.specs.Trees.{Trees, Symbol, nonterminal, Alternative, alternative_of, depth, deeper}
use Rattle.grammar.specs.Rules.{<atom>}
use Rattle.grammar.specs.Grammar.{rules}
use Rattle.answers.specs.Expression.{Expression, Pending, nothing, joined, atom, spelled}
use Rattle.formulas.specs.Shapes.{Lexed, Shape, s_nil, s_node, flat, lexed, Over, over_nil, over_node}
use Rattle.formulas.specs.Fitted.{Fitted, f_nil, f_node}
use Rattle.formulas.specs.Formula.{Formula}
use Rattle.formulas.specs.Levels.{lv, tl}
use Rattle.formulas.specs.Tree.{raised, atomic, Rel}
use Rattle.formulas.proofs.Levels.{level_alternative, tail_alternative, level_no_atom, tail_no_atom}

module _ (t : List ℕ) where
  -- of a tree T over a shape with the shape f beside it: T reads as an expression of these values, and goes on with what is beside
  pub record Means (e : Formula) (f : Shape) (T : Trees) : Type 0 where
    pub beside : Trees
    pub over : Over t beside f
    pub expr : Expression
    pub rel : Rel t expr e
    pub is : (left : Expression) (pending : Pending) → spelled left pending T ≡ spelled (joined pending left expr) nothing beside

  -- the same where no operator waits
  pub record Starts (e : Formula) (f : Shape) (T : Trees) : Type 0 where
    pub beside : Trees
    pub over : Over t beside f
    pub expr : Expression
    pub rel : Rel t expr e
    pub is : (left : Expression) → spelled left nothing T ≡ spelled expr nothing beside

  -- of a whole tree
  pub record Whole (e : Formula) (T : Trees) : Type 0 where
    pub expr : Expression
    pub rel : Rel t expr e
    pub is : (left : Expression) → spelled left nothing T ≡ expr

  -- of the trees under an atom
  pub record Atom (i : ℕ) (e : Formula) (T : Trees) : Type 0 where
    pub expr : Expression
    pub rel : Rel t expr e
    pub is : (left : Expression) → atom i T (spelled left nothing T) ≡ expr

  -- what is to hold of a shape x: its height, how deep it goes, its words, its expression
  pub record Good (m k : ℕ) (w : List Lexed) (e : Formula) (x : Shape → Shape) : Type 0 where
    pub spells : (f : Shape) → lexed (x f) ≡ w ++ lexed f
    pub means : (f : Shape) (T : Trees) → Over t T (x f) → Means e f T
    pub fits : (c g : ℕ) → c ≤ 16 → g + k ≤ 32 → (σ : List Symbol) (f : Shape) → Fitted (depth c g) σ (flat f) → Fitted (depth c g) (nonterminal (lv m) ∷ σ) (flat (x f))

  -- the first operand of a level, with its tail
  pub record Chained (n k : ℕ) (w : List Lexed) (e : Formula) (x : Shape → Shape) : Type 0 where
    pub spells : (f : Shape) → lexed (x f) ≡ w ++ lexed f
    pub means : (f : Shape) (T : Trees) → Over t T (x f) → Starts e f T
    pub fits : (c g : ℕ) → c ≤ 16 → g + k ≤ 32 → (f : Shape) → Fitted (depth c g) (nonterminal (tl n) ∷ []) (flat f) → Fitted (depth c g) (nonterminal (lv n) ∷ nonterminal (tl n) ∷ []) (flat (x f))

  pub like : {m k : ℕ} {w : List Lexed} {e : Formula} {x y : Shape → Shape} → ((f : Shape) → y f ≡ x f) → Good m k w e x → Good m k w e y
  like {m} {e = e} q h =
      record {
        spells = λ f. ap lexed (q f) ∙ h.spells f;
        means = λ f T o. h.means f T (subst (λ z. Over t T z) (q f) o);
        fits = λ c g l b σ f u. subst (λ z. Fitted (depth c g) (nonterminal (lv m) ∷ σ) (flat z)) (sym (q f)) (h.fits c g l b σ f u);
      }

  pub like_chained : {n k : ℕ} {w : List Lexed} {e : Formula} {x y : Shape → Shape} → ((f : Shape) → y f ≡ x f) → Chained n k w e x → Chained n k w e y
  like_chained {n} q h =
      record {
        spells = λ f. ap lexed (q f) ∙ h.spells f;
        means = λ f T o. h.means f T (subst (λ z. Over t T z) (q f) o);
        fits = λ c g l b f u. subst (λ z. Fitted (depth c g) (nonterminal (lv n) ∷ nonterminal (tl n) ∷ []) (flat z)) (sym (q f)) (h.fits c g l b f u);
      }

  pub chained : {n k : ℕ} {w : List Lexed} {e : Formula} {x : Shape → Shape} → Good n k w e x → Chained n k w e x
  chained {e = e} h =
      record {
        spells = h.spells;
        means = λ f T o. let m = h.means f T o in record { beside = m.beside; over = m.over; expr = m.expr; rel = m.rel; is = λ left. m.is left nothing };
        fits = λ c g l b f u. h.fits c g l b _ f u;
      }

  -- ---- levels

  -- a level, by what stands under it
  pub level_good :
      {k : ℕ} {w : List Lexed} {e : Formula} (n : ℕ) (y : Shape) → n < 9 → lexed y ≡ w → ((T : Trees) → Over t T y → Whole e T)
      → ((c g : ℕ) → c ≤ 16 → g + k ≤ 32 → Fitted (depth c g) (nonterminal (lv n) ∷ nonterminal (tl n) ∷ []) (flat y))
      → Good (suc n) k w e (λ f. s_node (lv (suc n)) 0 y f)
  level_good {k} {w} {e} n y b s m u =
      record {
        spells = λ f. ap (λ l. l ++ lexed f) s;
        means = λ f T o. by f o;
        fits = λ c g l d σ f v. f_node (level_alternative n b) (u c g l d) v;
      }
    where
      by : (f : Shape) {T : Trees} → Over t T (s_node (lv (suc n)) 0 y f) → Means e f T
      by f (over_node {c = c} {f = g} o₁ o₂) =
          let q = m c o₁ in
          record { beside = g; over = o₂; expr = q.expr; rel = q.rel; is = λ left pending. rw (level_no_atom n b, q.is left) }

  -- nothing follows the first operand
  abbrev pub no_tail : ℕ → Shape
  no_tail n = s_node (tl n) 0 s_nil s_nil

  pub no_tail_lem : (n : ℕ) (e : Expression) {T : Trees} → n < 9 → Over t T (no_tail n) → spelled e nothing T ≡ e
  no_tail_lem n e b (over_node over_nil over_nil) = rw (tail_no_atom n b)

  pub no_tail_fits : (n c g : ℕ) → n < 9 → Fitted (depth c g) (nonterminal (tl n) ∷ []) (flat (no_tail n))
  no_tail_fits n c g b = f_node (tail_alternative n b) f_nil f_nil

  pub ended : {e : Formula} (n : ℕ) (T : Trees) → n < 9 → Starts e (no_tail n) T → Whole e T
  ended n T b m = record { expr = m.expr; rel = m.rel; is = λ left. m.is left ∙ no_tail_lem n m.expr b m.over }

  pub above : {n k : ℕ} {w : List Lexed} {e : Formula} {x : Shape → Shape} → n < 9 → Good n k w e x → Good (suc n) k w e (λ f. s_node (lv (suc n)) 0 (x (no_tail n)) f)
  above {n} {k} {w} {e} {x} b h =
      level_good n (x (no_tail n)) b (h.spells (no_tail n) ∙ append-nil w)
      (λ T o. ended n T b ((chained h).means (no_tail n) T o))
      (λ c g l d. h.fits c g l d _ (no_tail n) (no_tail_fits n c g b))

  pub raise : {m k : ℕ} {w : List Lexed} {e : Formula} {x : Shape → Shape} → Good m k w e x → (n : ℕ) → m ≤ n → n ≤ 9 → Good n k w e (raised m x n)
  raise {m} {k} {w} {e} {x} h zero l b = let z : m ≡ 0 = omega arith in record { spells = h.spells; means = h.means; fits = rw z at h.fits }
  raise {m} {k} {w} {e} {x} h (suc n) l b = by (leb m n) refl (λ i. raise h n i (omega arith))
    where
      by : (b' : Bool) → leb m n ≡ b' → (m ≤ n → Good n k w e (raised m x n)) → Good (suc n) k w e (raised m x (suc n))
      by true q r = like (λ f. rw (q, raised)) (above b (r (leb-true m n q)))
      by false q r = let z : m ≡ suc n = omega (arith, leb-false m n q) in subst (λ y. Good y k w e (raised m x (suc n))) z (like (λ f. rw (q, raised)) h)

  -- ---- atoms

  pub atom_good :
      {k : ℕ} {w : List Lexed} {e : Formula} (i : ℕ) (y : Shape) → lexed y ≡ w → ((T : Trees) → Over t T y → Atom i e T)
      → ((c g : ℕ) → c ≤ 16 → g + k ≤ 32 → (a : Alternative) × (alternative_of rules <atom> i ≡ some a) × Fitted (deeper (depth c g) a.opens) a.symbols (flat y))
      → (n : ℕ) → n ≤ 9 → Good n k w e (atomic i y n)
  atom_good {k} {w} {e} i y s m u n b =
      raise {x = λ f. s_node <atom> i y f} (record {
        spells = λ f. ap (λ l. l ++ lexed f) s;
        means = λ f T o. by f o;
        fits = λ c g l d σ f v. let z = u c g l d in f_node z.1 z.2 v;
      }) n (omega arith) b
    where
      by : (f : Shape) {T : Trees} → Over t T (s_node <atom> i y f) → Means e f T
      by f (over_node {c = c} {f = g} o₁ o₂) =
          let q = m c o₁ in
          record { beside = g; over = o₂; expr = q.expr; rel = q.rel; is = λ left pending. rw (q.is left) }
