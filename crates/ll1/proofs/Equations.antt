-- The verdict where symbols are due, an equation for each thing that a reader does. The proof of a reader uses the machine by these.
-- Assumes nothing.
use mathlib.Core.Path.{◌≡◌, refl, sym, ◌∙◌, subst}
use mathlib.Core.List.{List, [], ◌∷◌, ◌++◌, append_assoc}
use mathlib.Core.Option.{none, some}
use mathlib.Core.Bool.{Bool, true, false}
use mathlib.Core.Logic.{◌⊎◌, inl, inr}
use Prim.Native.Nat.{ℕ}
use lib.Dec.{eqb}
use lib.ListN.{length}
use Rattle.ll1.specs.Trees.{Token, token, Trees, leaves, Symbol, terminal, nonterminal, Alternative, Grammar, alternative_of, Fits, fits_nil, fits_leaf, fits_node, Depth, deeper, opening, depths}
use Rattle.ll1.specs.Verdict.{Verdict, accepted, ends_early, refused, Allowed}
use Rattle.ll1.specs.ParseTable.{ParseTable, predict, nullable}
use Rattle.ll1.specs.Machine.{Due, due, due_all, symbols_of, opened, all_nullable, Next, stuck, next, advance_in, advance, run}
use Rattle.ll1.proofs.Basics.{clash, same, not_true}
use Rattle.ll1.proofs.Ll1.{first, first_append, Separated, Ll1, separated_in}
use Rattle.ll1.proofs.Unique.{After, after_trees, first_leaf, no_leaf}
use Rattle.ll1.proofs.Leftmost.{symbols_due}
use Rattle.ll1.proofs.Steps.{advance_take, advance_miss, advance_past, advance_none, Step, enters, passes, advance_step, step_advance, step_first}
use Rattle.ll1.proofs.Verdicts.{run_next, run_next_deep, run_stuck, run_unfinished, nullable_append}

-- the next token, if there is one, tells alternative i of rule A or no alternative
abbrev pub Tells : ParseTable → ℕ → ℕ → List Token → Type 0
Tells P A i [] = Unit {0}
Tells P A i (token k p ∷ ts) = (predict P A k ≡ some i) ⊎ (predict P A k ≡ none)

-- leaves that are not too deep, in two parts
pub allowed_append : (too_deep : Depth → Bool) (a b : List Depth) → Allowed too_deep (a ++ b) → Allowed too_deep a × Allowed too_deep b
allowed_append too_deep [] b h = (tt, h)
allowed_append too_deep (d ∷ a) b h = let w = allowed_append too_deep a b h.1 in ((h.0, w.0), w.1)

module _ (too_deep : Depth → Bool) (G : Grammar) (P : ParseTable) where
  abbrev on : List Due → List Token → Verdict
  on σ ts = run too_deep G P σ ts

  abbrev within : List Due → ℕ → Next
  within = advance_in G P (length G)

  alike :
      (σ τ : List Due) (k p : ℕ) (ts : List Token)
      → advance G P σ k ≡ advance G P τ k → on σ (token k p ∷ ts) ≡ on τ (token k p ∷ ts)
  unfolding run
  alike σ τ k p ts e = rw (e, run)

  -- ---- nothing is due

  pub run_all : on [] [] ≡ accepted
  unfolding run
  run_all = refl

  pub run_extra : (k p : ℕ) (ts : List Token) → on [] (token k p ∷ ts) ≡ refused 3 p
  unfolding run
  run_extra k p ts = refl

  -- ---- a token is due

  module _ (d : Depth) (σ : List Due) where
    -- the token that is due
    pub run_take : (k p : ℕ) (ts : List Token) → too_deep d ≡ false → on (due d (terminal k) ∷ σ) (token k p ∷ ts) ≡ on σ ts
    run_take k p ts f =
        run_next too_deep G P (due d (terminal k) ∷ σ) σ k p ts d (advance_take G P within d σ k k (same k)) f

    -- the same, where it is too deep
    pub run_deep : (k p : ℕ) (ts : List Token) → too_deep d ≡ true → on (due d (terminal k) ∷ σ) (token k p ∷ ts) ≡ refused 4 p
    run_deep k p ts f =
        run_next_deep too_deep G P (due d (terminal k) ∷ σ) σ k p ts d (advance_take G P within d σ k k (same k)) f

    -- another token than the one that is due
    pub run_miss : (j k p : ℕ) (ts : List Token) → eqb j k ≡ false → on (due d (terminal j) ∷ σ) (token k p ∷ ts) ≡ refused 3 p
    run_miss j k p ts e = run_stuck too_deep G P (due d (terminal j) ∷ σ) k p ts (advance_miss G P within d σ k j e)

    -- the tokens end
    pub run_ends : (j : ℕ) → on (due d (terminal j) ∷ σ) [] ≡ ends_early
    unfolding run
    run_ends j = refl

  -- ---- a rule is due

  module _ (d : Depth) (A : ℕ) (σ : List Due) where
    -- no alternative starts with the token
    pub run_none :
        (k p : ℕ) (ts : List Token)
        → predict P A k ≡ none → nullable G A ≡ false → on (due d (nonterminal A) ∷ σ) (token k p ∷ ts) ≡ refused 3 p
    run_none k p ts e n = run_stuck too_deep G P (due d (nonterminal A) ∷ σ) k p ts (advance_none G P within d σ k A e n)

    -- the rule is absent here
    pub run_skip :
        (k p : ℕ) (ts : List Token)
        → predict P A k ≡ none → nullable G A ≡ true → on (due d (nonterminal A) ∷ σ) (token k p ∷ ts) ≡ on σ (token k p ∷ ts)
    run_skip k p ts e n = alike (due d (nonterminal A) ∷ σ) σ k p ts (advance_past G P within d σ k A e n)

    -- the tokens end, and the rule may be absent
    pub run_skip_end : nullable G A ≡ true → on (due d (nonterminal A) ∷ σ) [] ≡ on σ []
    unfolding run
    run_skip_end n = rw (n, run)

    -- the tokens end, and it may not
    pub run_ends_rule : nullable G A ≡ false → on (due d (nonterminal A) ∷ σ) [] ≡ ends_early
    unfolding run
    run_ends_rule n = rw (n, run)

  module _ (L : Ll1 G P) where
    step_back :
        {k A i : ℕ} {d b : Depth} {a : Alternative} {σ τ : List Due}
        → predict P A k ≡ some i → alternative_of G A i ≡ some a → Step G P k (due d (nonterminal A) ∷ σ) b τ
        → Step G P k (opened d a ++ σ) b τ
    step_back {k} {i = i} {d = d} {b = b} {a = a} {σ = σ} {τ = τ} p e (enters j {a = a'} p' e' s) =
        let q : j ≡ i = cc in
        let v : a' ≡ a = cc in
        subst (λ x. Step G P k (opened d x ++ σ) b τ) v s
    step_back p e (passes p' n s) = clash cc

    advance_opened :
        (d : Depth) (A i k : ℕ) (a : Alternative) (σ : List Due)
        → predict P A k ≡ some i → alternative_of G A i ≡ some a
        → advance G P (due d (nonterminal A) ∷ σ) k ≡ advance G P (opened d a ++ σ) k
    advance_opened d A i k a σ p e = by (advance G P (due d (nonterminal A) ∷ σ) k) (advance G P (opened d a ++ σ) k) refl refl
      where
        by :
            (x y : Next)
            → advance G P (due d (nonterminal A) ∷ σ) k ≡ x → advance G P (opened d a ++ σ) k ≡ y
            → advance G P (due d (nonterminal A) ∷ σ) k ≡ advance G P (opened d a ++ σ) k
        by stuck stuck s t = cc
        by stuck (next b τ) s t = let w = step_advance G P L (enters i p e (advance_step G P k (opened d a ++ σ) τ b t)) in cc
        by (next b τ) y s t = let w = step_advance G P L (step_back p e (advance_step G P k (due d (nonterminal A) ∷ σ) τ b s)) in cc

    -- the token tells an alternative
    pub run_in :
        (d : Depth) (A i : ℕ) (a : Alternative) (σ : List Due) (k p : ℕ) (ts : List Token)
        → predict P A k ≡ some i → alternative_of G A i ≡ some a
        → on (due d (nonterminal A) ∷ σ) (token k p ∷ ts) ≡ on (opened d a ++ σ) (token k p ∷ ts)
    run_in d A i a σ k p ts q e = alike (due d (nonterminal A) ∷ σ) (opened d a ++ σ) k p ts (advance_opened d A i k a σ q e)

    -- what is due cannot start with the token
    pub run_dead :
        (σ : List Due) (k p : ℕ) (ts : List Token)
        → first G P (symbols_of σ) k ≡ false → on σ (token k p ∷ ts) ≡ refused 3 p
    run_dead σ k p ts f = by (advance G P σ k) refl
      where
        by : (x : Next) → advance G P σ k ≡ x → on σ (token k p ∷ ts) ≡ refused 3 p
        by stuck e = run_stuck too_deep G P σ k p ts e
        by (next d τ) e = clash (let z = step_first G P L (advance_step G P k σ τ d e) in cc)

    -- a reader goes into alternative i where the next token tells it or no alternative: the refusal is the same
    pub run_enter :
        (d : Depth) (A i : ℕ) (a : Alternative) (σ : List Due) (ts : List Token)
        → nullable G A ≡ false → alternative_of G A i ≡ some a → Tells P A i ts
        → on (due d (nonterminal A) ∷ σ) ts ≡ on (opened d a ++ σ) ts
    run_enter d A i a σ ts n e t = by ts t
      where
        full : all_nullable G a.symbols ≡ false
        full = not_true (all_nullable G a.symbols) (λ q. clash (let z = (L.empty_only A i a e q).2 in cc))

        dead : (k : ℕ) → predict P A k ≡ none → first G P a.symbols k ≡ false
        dead k q = not_true (first G P a.symbols k) (λ f. clash (let z = L.first_tells A i k a e f in cc))

        by : (ts : List Token) → Tells P A i ts → on (due d (nonterminal A) ∷ σ) ts ≡ on (opened d a ++ σ) ts
        by [] u =
            let m : all_nullable G (a.symbols ++ symbols_of σ) ≡ false = nullable_append G a.symbols (symbols_of σ) ∙ rw full in
            run_ends_rule d A σ n ∙ sym (run_unfinished too_deep G P (opened d a ++ σ) (rw symbols_due m))
        by (token k p ∷ ts) (inl q) = run_in d A i a σ k p ts q e
        by (token k p ∷ ts) (inr q) =
            let m : first G P (a.symbols ++ symbols_of σ) k ≡ false = first_append G P a.symbols (symbols_of σ) k ∙ rw (dead k q, full) in
            run_none d A σ k p ts q n ∙ sym (run_dead (opened d a ++ σ) k p ts (rw symbols_due m))

    skips :
        (d : Depth) (A : ℕ) (σ : List Due) (y : List Token)
        → nullable G A ≡ true → Separated G P (nonterminal A ∷ symbols_of σ) → After G P (symbols_of σ) y
        → on (due d (nonterminal A) ∷ σ) y ≡ on σ y
    skips d A σ [] n o h = run_skip_end d A σ n
    skips d A σ (token k p ∷ y) n o h = run_skip d A σ k p y (L.follow_tells A k n (o.1 k h)) n

    -- trees of the symbols due, none of their leaves too deep, are read, and the rest stays
    pub run_past :
        {α : List Symbol} {f : Trees} (d : Depth) (σ : List Due) (x : List Token)
        → Fits G α f → Separated G P (α ++ symbols_of σ) → After G P (symbols_of σ) x → Allowed too_deep (depths G d f)
        → on (due_all d α ++ σ) (leaves f ++ x) ≡ on σ x
    run_past d σ x fits_nil o h b = refl
    run_past d σ x (fits_leaf {k = k} {p = p} {σ = τ} {f = f} r) o h b =
        run_take d (due_all d τ ++ σ) k p (leaves f ++ x) b.0 ∙ run_past d σ x r o h b.1
    run_past d σ x (fits_node {A = A} {i = i} {a = a} {σ = τ} {c = c} {f = f} e r₁ r₂) o h b =
        let w = allowed_append too_deep (depths G (deeper d (opening (alternative_of G A i))) c) (depths G d f) b in
        let z : After G P (symbols_of beside) rest = rw symbols_due (after_trees G P L (symbols_of σ) x r₂ h) in
        let s : Separated G P (nonterminal A ∷ symbols_of beside) = rw symbols_due o in
        let under = separated_in G P L A i a (symbols_of beside) e s in
        let m = run_past (deeper d a.opens) beside rest r₁ under z (rw e at w.0) in
        rw append_assoc (by (leaves c) refl s z m) ∙ run_past d σ x r₂ o.2 h w.1
      where
        beside : List Due
        beside = due_all d τ ++ σ

        rest : List Token
        rest = leaves f ++ x

        by :
            (l : List Token) → leaves c ≡ l → Separated G P (nonterminal A ∷ symbols_of beside) → After G P (symbols_of beside) rest
            → on (opened d a ++ beside) (leaves c ++ rest) ≡ on beside rest
            → on (due d (nonterminal A) ∷ beside) (leaves c ++ rest) ≡ on beside rest
        by [] q s z m = rw q (skips d A beside rest (L.empty_only A i a e (no_leaf G P L r₁ q)).2 s z)
        by (token k p ∷ l) q s z m =
            let told = L.first_tells A i k a e (first_leaf G P L k p l r₁ q) in
            let v : on (due d (nonterminal A) ∷ beside) (leaves c ++ rest) ≡ on (opened d a ++ beside) (leaves c ++ rest)
            = rw q (run_in d A i a beside k p (l ++ rest) told e) in
            v ∙ m
