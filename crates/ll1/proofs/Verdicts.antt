-- The machine's verdict says what is so in terms of trees, and no other verdict does.
-- Assumes nothing.
use mathlib.Core.Path.{◌≡◌, refl, ap, sym, ◌∙◌, subst}
use mathlib.Core.List.{List, [], ◌∷◌, ◌++◌, append-nil}
use mathlib.Core.Bool.{Bool, true, false, ◌&&◌, and_assoc}
use Prim.Native.Nat.{ℕ, zero, suc}
use lib.ListN.{length, take, drop, get_or}
use Rattle.ll1.specs.Trees.{Token, token, leaves, Symbol, terminal, nonterminal, Grammar, Depth, depth, depths}
use Rattle.ll1.specs.Verdict.{Verdict, accepted, ends_early, refused, leaf_depths, Allowed, Starts, StartsTooDeep, Says, is_text, is_unfinished, no_text_starts_so, opens_too_many}
use Rattle.ll1.specs.ParseTable.{ParseTable, nullable}
use Rattle.ll1.specs.Machine.{Due, due, symbols_of, all_nullable, Next, stuck, next, advance, run, verdict}
use Rattle.ll1.proofs.Basics.{clash, both, not_true}
use Rattle.ll1.proofs.Ll1.{Separated, Ll1, separated_whole}
use Rattle.ll1.proofs.Leftmost.{symbols_due, Becomes, done, shift, expand, from_trees, from_derivation, to_derivation}
use Rattle.ll1.proofs.Steps.{advance_step, step_advance, step_separated, step_sound, Stepped, stepped, step_complete}

-- ---- the verdict, case by case

module _ (too_deep : Depth → Bool) (G : Grammar) (P : ParseTable) where
  pub run_next :
      (σ τ : List Due) (k p : ℕ) (ts : List Token) (d : Depth)
      → advance G P σ k ≡ next d τ → too_deep d ≡ false → run too_deep G P σ (token k p ∷ ts) ≡ run too_deep G P τ ts
  unfolding run
  run_next σ τ k p ts d e f = rw (e, f, run)

  pub run_next_deep :
      (σ τ : List Due) (k p : ℕ) (ts : List Token) (d : Depth)
      → advance G P σ k ≡ next d τ → too_deep d ≡ true → run too_deep G P σ (token k p ∷ ts) ≡ refused 4 p
  unfolding run
  run_next_deep σ τ k p ts d e f = rw (e, f, run)

  pub run_stuck :
      (σ : List Due) (k p : ℕ) (ts : List Token)
      → advance G P σ k ≡ stuck → run too_deep G P σ (token k p ∷ ts) ≡ refused 3 p
  unfolding run
  run_stuck σ k p ts e = rw (e, run)

  pub run_done : (σ : List Due) → all_nullable G (symbols_of σ) ≡ true → run too_deep G P σ [] ≡ accepted
  unfolding run
  run_done σ e = rw (e, run)

  pub run_unfinished : (σ : List Due) → all_nullable G (symbols_of σ) ≡ false → run too_deep G P σ [] ≡ ends_early
  unfolding run
  run_unfinished σ e = rw (e, run)

-- ---- lists

allowed_take : (too_deep : Depth → Bool) (n : ℕ) (ds : List Depth) → Allowed too_deep ds → Allowed too_deep (take n ds)
allowed_take too_deep zero ds h = tt
allowed_take too_deep (suc n) [] h = tt
allowed_take too_deep (suc n) (d ∷ ds) h = (h.0, allowed_take too_deep n ds h.1)

first_dropped : (n : ℕ) (ds : List Depth) (d : Depth) → get_or (drop n ds) 0 d ≡ get_or ds n d
first_dropped zero [] d = refl
first_dropped zero (e ∷ ds) d = refl
first_dropped (suc n) [] d = refl
first_dropped (suc n) (e ∷ ds) d = first_dropped n ds d

pub nullable_append : (G : Grammar) (α σ : List Symbol) → all_nullable G (α ++ σ) ≡ all_nullable G α && all_nullable G σ
nullable_append G [] σ = refl
nullable_append G (terminal k ∷ α) σ = refl
nullable_append G (nonterminal A ∷ α) σ = rw (nullable_append G α σ) (sym (and_assoc (nullable G A) (all_nullable G α) (all_nullable G σ)))

module _ (too_deep : Depth → Bool) (G : Grammar) (P : ParseTable) (L : Ll1 G P) where
  -- the verdict where σ is due
  abbrev on : List Due → List Token → Verdict
  on σ ts = run too_deep G P σ ts

  abbrev Apart : List Due → Type 0
  Apart σ = Separated G P (symbols_of σ)

  -- the stack can become the tokens u and more, and none of u is then too deep
  record Begins (σ : List Due) (u : List Token) : Type 0 where
    more : List Token
    ds : List Depth
    becomes : Becomes G σ (u ++ more) ds
    allowed : Allowed too_deep (take (length u) ds)

  -- what a verdict says of a stack
  data Answer (σ : List Due) : List Token → Verdict → Type 0 where
    accepts : {ts : List Token} {ds : List Depth} → Becomes G σ ts ds → Allowed too_deep ds → Answer σ ts accepted
    wants_more : {ts : List Token} → Begins σ ts → ((ds : List Depth) → Becomes G σ ts ds → ⊥) → Answer σ ts ends_early
    refuses :
        (u v : List Token) (k p : ℕ) {ts : List Token}
        → ts ≡ u ++ token k p ∷ v → Begins σ u → ((w : List Token) (ds : List Depth) → Becomes G σ (u ++ token k p ∷ w) ds → ⊥)
        → Answer σ ts (refused 3 p)
    is_too_deep :
        (u v w : List Token) (k p : ℕ) {ts : List Token} {ds : List Depth}
        → ts ≡ u ++ token k p ∷ v → Becomes G σ (u ++ token k p ∷ w) ds → Allowed too_deep (take (length u) ds)
        → too_deep (get_or ds (length u) (depth 0 0)) ≡ true → Answer σ ts (refused 4 p)

  -- ---- stacks and the empty text

  -- each stack can become some tokens
  complete : (σ : List Due) → Apart σ → Begins σ []
  complete [] o = record { more = []; ds = []; becomes = done; allowed = tt }
  complete (due d (terminal k) ∷ σ) o =
      let r = complete σ o in
      record { more = token k 0 ∷ r.more; ds = d ∷ r.ds; becomes = shift r.becomes; allowed = tt }
  complete (due d (nonterminal A) ∷ σ) o =
      let r = complete σ o.2 in
      let w = L.has_text A o.0 in
      record { more = leaves w.0 ++ r.more; ds = depths G d w.0 ++ r.ds; becomes = from_trees G d w.1 r.becomes; allowed = tt }

  to_nothing : (σ : List Due) → all_nullable G (symbols_of σ) ≡ true → Becomes G σ [] []
  to_nothing [] e = done
  to_nothing (due d (terminal k) ∷ σ) e = clash cc
  to_nothing (due d (nonterminal A) ∷ σ) e =
      let w = both (nullable G A) _ e in
      expand 0 (L.empty_first A w.0) (to_nothing σ w.1)

  from_nothing : {σ : List Due} {ds : List Depth} → Becomes G σ [] ds → all_nullable G (symbols_of σ) ≡ true
  from_nothing done = refl
  from_nothing (expand {A = A} i {a = a} {σ = σ} e r) =
      let h = sym (nullable_append G a.symbols (symbols_of σ)) ∙ rw symbols_due at (from_nothing r) in
      let w = both (all_nullable G a.symbols) (all_nullable G (symbols_of σ)) h in
      rw ((L.empty_only A i a e w.0).2, w.1)

  -- ---- a token back and a token on

  sound :
      {k p : ℕ} {σ τ : List Due} {d : Depth} {ts : List Token} {ds : List Depth}
      → advance G P σ k ≡ next d τ → Becomes G τ ts ds → Becomes G σ (token k p ∷ ts) (d ∷ ds)
  sound {k} {σ = σ} {τ = τ} {d = d} e r = step_sound G P L (advance_step G P k σ τ d e) r

  data Moved (k : ℕ) (σ : List Due) (ts : List Token) : List Depth → Type 0 where
    moved :
        {d : Depth} {τ : List Due} {ds : List Depth}
        → advance G P σ k ≡ next d τ → Apart τ → Becomes G τ ts ds → Moved k σ ts (d ∷ ds)

  moves : {k p : ℕ} {σ : List Due} {ts : List Token} {ds : List Depth} → Apart σ → Becomes G σ (token k p ∷ ts) ds → Moved k σ ts ds
  moves {k} {σ = σ} {ts = ts} o r = by (step_complete G P L r o)
    where
      by : {ds : List Depth} → Stepped G P L k σ ts ds → Moved k σ ts ds
      by (stepped s q) = moved (step_advance G P L s) (step_separated G P L s o) q

  -- a derivation goes on with the stack with which the machine goes on
  goes_on :
      {k p : ℕ} {σ τ : List Due} {d : Depth} {ts : List Token} {ds : List Depth}
      → Apart σ → advance G P σ k ≡ next d τ → Becomes G σ (token k p ∷ ts) ds → (es : List Depth) × Becomes G τ ts es
  goes_on {k} {σ = σ} {τ = τ} {ts = ts} o e r = by (moves o r)
    where
      by : {ds : List Depth} → Moved k σ ts ds → (es : List Depth) × Becomes G τ ts es
      by (moved {τ = ρ} {ds = es} q s b) = let v : ρ ≡ τ = cc in (es, subst (λ x. Becomes G x ts es) v b)

  stops :
      {k p : ℕ} {σ : List Due} {ts : List Token} {ds : List Depth}
      → Apart σ → advance G P σ k ≡ stuck → Becomes G σ (token k p ∷ ts) ds → ⊥
  stops {k} {σ = σ} {ts = ts} o e r = by (moves o r)
    where
      by : {ds : List Depth} → Moved k σ ts ds → ⊥
      by (moved q s b) = clash cc

  -- ---- the verdict is right

  begins :
      {k p : ℕ} {σ τ : List Due} {d : Depth} {u : List Token}
      → advance G P σ k ≡ next d τ → too_deep d ≡ false → Begins τ u → Begins σ (token k p ∷ u)
  begins {d = d} e f b = record { more = b.more; ds = d ∷ b.ds; becomes = sound e b.becomes; allowed = (f, b.allowed) }

  before :
      {k p : ℕ} {σ τ : List Due} {d : Depth} {ts : List Token} {v : Verdict}
      → Apart σ → advance G P σ k ≡ next d τ → too_deep d ≡ false → Answer τ ts v → Answer σ (token k p ∷ ts) v
  before o e f (accepts r g) = accepts (sound e r) (f, g)
  before o e f (wants_more b n) = wants_more (begins e f b) (λ ds r. let g = goes_on o e r in n g.0 g.1)
  before {k} {p} o e f (refuses u v j q s b n) =
      let t = ap (λ (l : List Token). token k p ∷ l) s in
      refuses (token k p ∷ u) v j q t (begins e f b) (λ w ds r. let g = goes_on o e r in n w g.0 g.1)
  before {k} {p} o e f (is_too_deep u v w j q s r g h) =
      is_too_deep (token k p ∷ u) v w j q (ap (λ (l : List Token). token k p ∷ l) s) (sound e r) (f, g) h

  answer : (σ : List Due) (ts : List Token) → Apart σ → Answer σ ts (on σ ts)
  answer σ [] o = by (all_nullable G (symbols_of σ)) refl
    where
      by : (b : Bool) → all_nullable G (symbols_of σ) ≡ b → Answer σ [] (on σ [])
      by true e = rw (run_done too_deep G P σ e) (accepts (to_nothing σ e) tt)
      by false e = rw (run_unfinished too_deep G P σ e) (wants_more (complete σ o) (λ ds r. clash (let z = from_nothing r in cc)))
  answer σ (token k p ∷ ts) o = by (λ τ q. answer τ ts q) (advance G P σ k) refl
    where
      deep :
          (d : Depth) (τ : List Due) (b : Bool)
          → Apart τ → Answer τ ts (on τ ts) → advance G P σ k ≡ next d τ → too_deep d ≡ b
          → Answer σ (token k p ∷ ts) (on σ (token k p ∷ ts))
      deep d τ true q r e f =
          let c = complete τ q in
          rw (run_next_deep too_deep G P σ τ k p ts d e f) (is_too_deep [] ts c.more k p refl (sound e c.becomes) tt f)
      deep d τ false q r e f = rw (run_next too_deep G P σ τ k p ts d e f) (before o e f r)

      by :
          ((τ : List Due) → Apart τ → Answer τ ts (on τ ts)) → (x : Next) → advance G P σ k ≡ x
          → Answer σ (token k p ∷ ts) (on σ (token k p ∷ ts))
      by ih stuck e = rw (run_stuck too_deep G P σ k p ts e) (refuses [] ts k p refl (complete σ o) (λ w ds r. stops o e r))
      by ih (next d τ) e =
          let q = step_separated G P L (advance_step G P k σ τ d e) o in
          deep d τ (too_deep d) q (ih τ q) e refl

  -- ---- and the only one

  -- the tokens u are read, and w is a way to go on: what is then due, the verdict there, and that each way on from there is one from σ
  record Along (σ : List Due) (u w : List Token) (ds : List Depth) : Type 0 where
    left : List Due
    separated : Apart left
    goes : Becomes G left w (drop (length u) ds)
    same_verdict : (x : List Token) → on σ (u ++ x) ≡ on left x
    back : (x : List Token) (es : List Depth) → Becomes G left x es → (cs : List Depth) × Becomes G σ (u ++ x) cs

  along :
      {σ : List Due} {ds : List Depth} (u w : List Token)
      → Apart σ → Becomes G σ (u ++ w) ds → Allowed too_deep (take (length u) ds) → Along σ u w ds
  along {σ} [] w o r f = record { left = σ; separated = o; goes = r; same_verdict = λ x. refl; back = λ x es b. (es, b) }
  along {σ} (token k p ∷ u) w o r f = by (λ τ es o' r' f'. along {σ = τ} {ds = es} u w o' r' f') (moves o r) f
    where
      by :
          ((τ : List Due) (es : List Depth) → Apart τ → Becomes G τ (u ++ w) es → Allowed too_deep (take (length u) es) → Along τ u w es)
          → {ds : List Depth} → Moved k σ (u ++ w) ds → Allowed too_deep (take (length (token k p ∷ u)) ds)
          → Along σ (token k p ∷ u) w ds
      by ih (moved {d = d} {τ = τ} {ds = es} e o' r') g =
          let a = ih τ es o' r' g.1 in
          record {
            left = a.left;
            separated = a.separated;
            goes = a.goes;
            same_verdict = λ x. run_next too_deep G P σ τ k p (u ++ x) d e g.0 ∙ a.same_verdict x;
            back = λ x cs b. let m = a.back x cs b in (d ∷ m.0, sound e m.1);
          }

  ends : {σ : List Due} {ts w : List Token} {ds : List Depth} (a : Along σ ts w ds) → on σ ts ≡ on a.left []
  ends {σ} {ts} a = ap (on σ) (sym (append-nil ts)) ∙ a.same_verdict []

  only_accepted :
      {σ : List Due} {ds : List Depth} (ts : List Token)
      → Apart σ → Becomes G σ ts ds → Allowed too_deep ds → on σ ts ≡ accepted
  only_accepted {σ} {ds} ts o r f =
      let a = along {σ = σ} {ds = ds} ts [] o (rw append-nil r) (allowed_take too_deep (length ts) ds f) in
      ends a ∙ run_done too_deep G P a.left (from_nothing a.goes)

  only_early :
      {σ : List Due} (ts : List Token)
      → Apart σ → Begins σ ts → ((es : List Depth) → Becomes G σ ts es → ⊥) → on σ ts ≡ ends_early
  only_early {σ} ts o b n =
      let a = along ts b.more o b.becomes b.allowed in
      let more_due : all_nullable G (symbols_of a.left) ≡ true → ⊥ = λ e. let m = a.back [] [] (to_nothing a.left e) in n m.0 (rw append-nil at m.1) in
      ends a ∙ run_unfinished too_deep G P a.left (not_true (all_nullable G (symbols_of a.left)) more_due)

  only_refused :
      {σ : List Due} (u v : List Token) (k p : ℕ)
      → Apart σ → Begins σ u → ((w : List Token) (es : List Depth) → Becomes G σ (u ++ token k p ∷ w) es → ⊥)
      → on σ (u ++ token k p ∷ v) ≡ refused 3 p
  only_refused {σ} u v k p o b n = a.same_verdict (token k p ∷ v) ∙ by (advance G P a.left k) refl
    where
      a : Along σ u b.more b.ds
      a = along u b.more o b.becomes b.allowed

      by : (x : Next) → advance G P a.left k ≡ x → on a.left (token k p ∷ v) ≡ refused 3 p
      by stuck e = run_stuck too_deep G P a.left k p v e
      by (next d τ) e =
          let c = complete τ (step_separated G P L (advance_step G P k a.left τ d e) a.separated) in
          let m = a.back (token k p ∷ c.more) (d ∷ c.ds) (sound e c.becomes) in
          absurd (n c.more m.0 m.1)

  only_too_deep :
      {σ : List Due} {ds : List Depth} (u v w : List Token) (k p : ℕ)
      → Apart σ → Becomes G σ (u ++ token k p ∷ w) ds → Allowed too_deep (take (length u) ds)
      → too_deep (get_or ds (length u) (depth 0 0)) ≡ true → on σ (u ++ token k p ∷ v) ≡ refused 4 p
  only_too_deep {σ} {ds} u v w k p o r f h = a.same_verdict (token k p ∷ v) ∙ by (moves a.separated a.goes) (rw first_dropped h)
    where
      a : Along σ u (token k p ∷ w) ds
      a = along u (token k p ∷ w) o r f

      by :
          {es : List Depth}
          → Moved k a.left w es → too_deep (get_or es 0 (depth 0 0)) ≡ true → on a.left (token k p ∷ v) ≡ refused 4 p
      by (moved {d = d} {τ = τ} e o' r') g = run_next_deep too_deep G P a.left τ k p v d e g

  only_answer : {σ : List Due} {ts : List Token} {v : Verdict} → Apart σ → Answer σ ts v → on σ ts ≡ v
  only_answer o (accepts {ts = ts} r f) = only_accepted ts o r f
  only_answer o (wants_more {ts = ts} b n) = only_early ts o b n
  only_answer {σ} o (refuses u v k p q b n) = ap (on σ) q ∙ only_refused u v k p o b n
  only_answer {σ} o (is_too_deep u v w k p q r g h) = ap (on σ) q ∙ only_too_deep u v w k p o r g h

  -- ---- in terms of trees

  abbrev start : List Due
  start = due (depth 0 0) (nonterminal 0) ∷ []

  starts : {u : List Token} → Begins start u → Starts too_deep G u
  starts b =
      let t = to_derivation G b.becomes in
      record { rest = b.more; tree = t.tree; derives = t.derives; allowed = rw t.deep b.allowed }

  begin : {u : List Token} → Starts too_deep G u → Begins start u
  begin s = record { more = s.rest; ds = leaf_depths G s.tree; becomes = from_derivation G s.derives; allowed = s.allowed }

  says : {ts : List Token} {v : Verdict} → Answer start ts v → Says too_deep G ts v
  says (accepts r f) = let t = to_derivation G r in is_text (record { tree = t.tree; derives = t.derives; allowed = rw t.deep f })
  says (wants_more b n) = is_unfinished (starts b) (λ tree d. n (leaf_depths G tree) (from_derivation G d))
  says (refuses u v k p q b n) = no_text_starts_so u v k p q (starts b) (λ w tree d. n w (leaf_depths G tree) (from_derivation G d))
  says (is_too_deep u v w k p q r g h) =
      let t = to_derivation G r in
      let s : StartsTooDeep too_deep G u (token k p) = record { rest = w; tree = t.tree; derives = t.derives; allowed = rw t.deep g; is_too_deep = rw t.deep h } in
      opens_too_many u v k p q s

  said : {ts : List Token} {v : Verdict} → Says too_deep G ts v → Answer start ts v
  said (is_text a) = accepts (from_derivation G a.derives) a.allowed
  said (is_unfinished b n) = wants_more (begin b) (λ ds r. let t = to_derivation G r in n t.tree t.derives)
  said (no_text_starts_so u v k p q b n) = refuses u v k p q (begin b) (λ w ds r. let t = to_derivation G r in n w t.tree t.derives)
  said (opens_too_many u v k p q s) = is_too_deep u v s.rest k p q (from_derivation G s.derives) s.allowed s.is_too_deep

  -- the verdict says what is so
  pub verdict_right : (ts : List Token) → Says too_deep G ts (verdict too_deep G P ts)
  verdict_right ts = says (answer start ts (separated_whole G P L))

  -- and no other verdict does
  pub verdict_only : (ts : List Token) (v : Verdict) → Says too_deep G ts v → verdict too_deep G P ts ≡ v
  verdict_only ts v h = only_answer (separated_whole G P L) (said h)
