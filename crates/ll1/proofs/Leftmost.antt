-- Leftmost derivations: which tokens the symbols due can become, one by one. They are the same as trees that fit.
-- Assumes nothing.
use mathlib.Core.Path.{◌≡◌, refl, ap, sym, ◌∙◌}
use mathlib.Core.List.{List, [], ◌∷◌, ◌++◌, append_assoc, append-nil}
use mathlib.Core.Option.{some}
use Prim.Native.Nat.{ℕ}
use Rattle.ll1.specs.Trees.{Token, token, Trees, nil, leaf, node, leaves, Symbol, terminal, nonterminal, Alternative, Grammar, alternative_of, Fits, fits_nil, fits_leaf, fits_node, Depth, depth, deeper, opening, depths}
use Rattle.ll1.specs.Verdict.{Derivation, leaf_depths}
use Rattle.ll1.specs.Machine.{Due, due, due_all, symbols_of, opened}

pub symbols_due : (d : Depth) (α : List Symbol) (σ : List Due) → symbols_of (due_all d α ++ σ) ≡ α ++ symbols_of σ
symbols_due d [] σ = refl
symbols_due d (x ∷ α) σ = ap (λ (l : List Symbol). x ∷ l) (symbols_due d α σ)

module _ (G : Grammar) where
  -- the symbols due become the tokens, of these depths
  pub data Becomes : List Due → List Token → List Depth → Type 0 where
    done : Becomes [] [] []
    shift :
        {d : Depth} {k p : ℕ} {σ : List Due} {ts : List Token} {ds : List Depth}
        → Becomes σ ts ds → Becomes (due d (terminal k) ∷ σ) (token k p ∷ ts) (d ∷ ds)
    expand :
        {d : Depth} {A : ℕ} (i : ℕ) {a : Alternative} {σ : List Due} {ts : List Token} {ds : List Depth}
        → alternative_of G A i ≡ some a → Becomes (opened d a ++ σ) ts ds → Becomes (due d (nonterminal A) ∷ σ) ts ds

  -- ---- from trees

  pub from_trees :
      {α : List Symbol} {c : Trees} {σ : List Due} {ts : List Token} {ds : List Depth} (d : Depth)
      → Fits G α c → Becomes σ ts ds → Becomes (due_all d α ++ σ) (leaves c ++ ts) (depths G d c ++ ds)
  from_trees d fits_nil r = r
  from_trees d (fits_leaf h) r = shift (from_trees d h r)
  from_trees d (fits_node {i = i} {a = a} e h₁ h₂) r =
      simp append_assoc (rw e (expand i e (from_trees (deeper d a.opens) h₁ (from_trees d h₂ r))))

  pub from_derivation :
      {ts : List Token} {tree : Trees}
      → Derivation G ts tree → Becomes (due (depth 0 0) (nonterminal 0) ∷ []) ts (leaf_depths G tree)
  from_derivation h = rw h.reads at (simp append-nil at (from_trees (depth 0 0) h.fits done))

  -- ---- to trees

  -- the depth of each leaf, where each tree stands as deep as its symbol is due
  abbrev depths_due : List Due → Trees → List Depth
  depths_due [] f = []
  depths_due (due d x ∷ σ) nil = []
  depths_due (due d x ∷ σ) (leaf t f) = d ∷ depths_due σ f
  depths_due (due d x ∷ σ) (node A i c f) = depths G (deeper d (opening (alternative_of G A i))) c ++ depths_due σ f

  -- trees of α and then of σ, parted
  record Parted (d : Depth) (α : List Symbol) (σ : List Due) (ts : List Token) (ds : List Depth) : Type 0 where
    front : Trees
    back : Trees
    fits_front : Fits G α front
    fits_back : Fits G (symbols_of σ) back
    reads : leaves front ++ leaves back ≡ ts
    deep : depths G d front ++ depths_due σ back ≡ ds

  part :
      (d : Depth) (α : List Symbol) {σ : List Due} {g : Trees}
      → Fits G (symbols_of (due_all d α ++ σ)) g → Parted d α σ (leaves g) (depths_due (due_all d α ++ σ) g)
  part d [] {g} h = record { front = nil; back = g; fits_front = fits_nil; fits_back = h; reads = refl; deep = refl }
  part d (terminal k ∷ α) (fits_leaf {p = p} h) =
      let r = part d α h in
      record {
        front = leaf (token k p) r.front;
        back = r.back;
        fits_front = fits_leaf r.fits_front;
        fits_back = r.fits_back;
        reads = ap (λ (l : List Token). token k p ∷ l) r.reads;
        deep = ap (λ (l : List Depth). d ∷ l) r.deep;
      }
  part d (nonterminal A ∷ α) (fits_node {i = i} {c = c} e h₁ h₂) =
      let r = part d α h₂ in
      let under = depths G (deeper d (opening (alternative_of G A i))) c in
      record {
        front = node A i c r.front;
        back = r.back;
        fits_front = fits_node e h₁ r.fits_front;
        fits_back = r.fits_back;
        reads = simp append_assoc (ap (λ (l : List Token). leaves c ++ l) r.reads);
        deep = simp append_assoc (ap (λ (l : List Depth). under ++ l) r.deep);
      }

  -- trees of the symbols due, with these leaves and depths
  record Grown (σ : List Due) (ts : List Token) (ds : List Depth) : Type 0 where
    trees : Trees
    fits : Fits G (symbols_of σ) trees
    reads : leaves trees ≡ ts
    deep : depths_due σ trees ≡ ds

  grow : {σ : List Due} {ts : List Token} {ds : List Depth} → Becomes σ ts ds → Grown σ ts ds
  grow done = record { trees = nil; fits = fits_nil; reads = refl; deep = refl }
  grow (shift {d = d} {k = k} {p = p} r) =
      let w = grow r in
      record {
        trees = leaf (token k p) w.trees;
        fits = fits_leaf w.fits;
        reads = ap (λ (l : List Token). token k p ∷ l) w.reads;
        deep = ap (λ (l : List Depth). d ∷ l) w.deep;
      }
  grow (expand {d = d} {A = A} i {a = a} e r) =
      let w = grow r in
      let u = part (deeper d a.opens) a.symbols w.fits in
      record {
        trees = node A i u.front u.back;
        fits = fits_node e u.fits_front u.fits_back;
        reads = u.reads ∙ w.reads;
        deep = rw e (u.deep ∙ w.deep);
      }

  -- a derivation of the tokens ts with the depths ds
  pub record Derived (ts : List Token) (ds : List Depth) : Type 0 where
    pub tree : Trees
    pub derives : Derivation G ts tree
    pub deep : leaf_depths G tree ≡ ds

  depths_whole :
      {A : ℕ} {f : Trees} (d : Depth)
      → Fits G (nonterminal A ∷ []) f → depths_due (due d (nonterminal A) ∷ []) f ≡ depths G d f
  depths_whole d (fits_node {A = A} {i = i} {c = c} e h fits_nil) = refl

  pub to_derivation : {ts : List Token} {ds : List Depth} → Becomes (due (depth 0 0) (nonterminal 0) ∷ []) ts ds → Derived ts ds
  to_derivation r =
      let w = grow r in
      record {
        tree = w.trees;
        derives = record { fits = w.fits; reads = w.reads };
        deep = sym (depths_whole (depth 0 0) w.fits) ∙ w.deep;
      }
