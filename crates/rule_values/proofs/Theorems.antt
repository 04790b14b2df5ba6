-- The values that are found are the rules' values: those that solve their equations (document 02, W-202).
-- Assumes nothing.
use Prim.Native.Nat.{ℕ, zero, suc, ◌+◌, ◌≤◌, ◌<◌}
use mathlib.Core.Path.{◌≡◌, refl, sym, ap, ◌∙◌}
use mathlib.Core.Bool.{true}
use mathlib.Core.List.{List}
use native.Mathlib.Decide.{ℕ_discrete}
use native.Mathlib.Omega.{arith}
use lib.ListN.{length, get_or, take, drop}
use lib.Seq.{drop-length, get_or-take, length-take-le}
use Rattle.numbers.specs.Numbers.{mem}
use Rattle.circles.specs.Circles.{Step, leads}
use Rattle.ranks.specs.Ranks.{InOrder}
use Rattle.operators.specs.declared.Scalar.{Scalar}
use Rattle.stored.specs.Stored.{room, value_at, with_value}
use Rattle.stored.proofs.StoredLaws.{room_with, value_same, value_other}
use Rattle.saved_answers.specs.Search.{question_value}
use Rattle.formulas.specs.Formula.{Formula}
use Rattle.meaning.specs.References.{references}
use Rattle.meaning.specs.Rules.{rule_at, Solves}
use Rattle.meaning.proofs.Theorems.{meaning_named}
use Rattle.expression_rows.specs.Ends.{value_after}
use Rattle.expression_rows.proofs.Theorems.{after_spelled}
use Rattle.rule_values.specs.Values.{with_rule, with_rules}
use Rattle.rule_values.specs.Ready.{Placed, Ordered}
use Rattle.rule_values.proofs.ValueLaws.{rules_on}

module _ (rules : List Formula) (answers gotos checkboxes t : List ℕ) (count : ℕ) (places order : List ℕ)
    (placed : (i : ℕ) → i < length order → Placed rules t count places (get_or order i 0)) (ordered : Ordered rules order)
    (values : ℕ → Scalar) (solves : Solves rules (question_value answers gotos checkboxes) values) where
  -- the rules at the first i places have their values, and there is room for those of all
  record Found (i : ℕ) (found : List Scalar) : Type 0 where
    fits : (j : ℕ) → j < length order → get_or order j 0 < room found
    have : (j : ℕ) → j < i → value_at found (get_or order j 0) ≡ values (get_or order j 0)

  -- the rows of the next rule give its value
  gives : (i : ℕ) (found : List Scalar) → i < length order → Found i found
      → value_after answers gotos checkboxes found t count (get_or places (get_or order i 0) 0) ≡ values (get_or order i 0)
  gives i found h f =
      let k = get_or order i 0 in
      let p = placed i h in
      after_spelled answers gotos checkboxes found t count (get_or places k 0) p.end p.inside p.stretch p.spells p.small
      ∙ meaning_named (rule_at rules k) (λ n e. refl) (λ m e. earlier m (ordered i m h e))
      ∙ sym (solves.solved k)
    where
      earlier : (m : ℕ) → ((j : ℕ) × (j < i) × (get_or order j 0 ≡ m)) → value_at found m ≡ values m
      earlier m u = rw u.2 at (f.have u.0 u.1)

  next : (i : ℕ) (found : List Scalar) → i < length order → Found i found → Found (suc i) (with_rule answers gotos checkboxes t count places found (get_or order i 0))
  unfolding with_rule
  next i found h f =
      record {
        fits = λ j l. let e : room (with_value found k v) ≡ room found = room_with found k v in omega (arith, f.fits j l);
        have = λ j l. elim (ℕ_discrete (get_or order j 0) k) [ yes e ↦ own j e | no d ↦ value_other found k v (get_or order j 0) d ∙ f.have j (earlier j l d) ];
      }
    where
      k : ℕ
      k = get_or order i 0

      v : Scalar
      v = value_after answers gotos checkboxes found t count (get_or places k 0)

      own : (j : ℕ) → get_or order j 0 ≡ k → value_at (with_value found k v) (get_or order j 0) ≡ values (get_or order j 0)
      own j e = rw e (value_same found k v (f.fits i h) ∙ gives i found h f)

      earlier : (j : ℕ) → j < suc i → (get_or order j 0 ≡ k → ⊥) → j < i
      earlier j l d = elim (ℕ_discrete j i) [ yes e ↦ absurd (d (ap (λ (x : ℕ). get_or order x 0) e)) | no e ↦ omega arith ]

  all : (n i : ℕ) (found : List Scalar) → i + n ≡ length order → Found i found
      → Found (length order) (with_rules answers gotos checkboxes t count places found (drop i order))
  unfolding with_rules
  all zero i found e f = let z : i ≡ length order = omega arith in rw (z, drop-length order) (rw z at f)
  all (suc n) i found e f =
      rw (rules_on answers gotos checkboxes t count places order found i (omega arith))
      (all n (suc i) (with_rule answers gotos checkboxes t count places found (get_or order i 0)) (omega arith) (next i found (omega arith) f))

  -- every rule of the order has the value that solves the rules' equations
  pub values_found :
      (found : List Scalar) → ((j : ℕ) → j < length order → get_or order j 0 < room found)
      → (j : ℕ) → j < length order
      → value_at (with_rules answers gotos checkboxes t count places found order) (get_or order j 0) ≡ values (get_or order j 0)
  values_found found fits j h =
      (all (length order) 0 found (omega arith) (record { fits = fits; have = λ i l. absurd (omega arith) })).have j h

-- ---- rules in the order of `ranks`

-- an order of the rules 1 to n that follows steps l, among which are their references
module _ (rules : List Formula) {l : List Step} {n : ℕ} {order : List ℕ} (follows : InOrder l n order) (long : n ≤ length order)
    (refers : (a b : ℕ) → mem b (references (rule_at rules a)) ≡ true → leads l a b ≡ true) where
  at : (i : ℕ) → i < n → get_or (take n order) i 0 ≡ get_or order i 0
  at i h = get_or-take n order i 0 h

  size : length (take n order) ≡ n
  size = length-take-le n order long

  pub ranked_ordered : Ordered rules (take n order)
  ranked_ordered i m h e =
      let inside : i < n = omega (arith, size) in
      let u = follows.earlier i m inside (refers (get_or order i 0) m (rw (at i inside) at e)) in
      (u.0, u.1, at u.0 (omega (arith, u.1)) ∙ u.2)

  -- every rule 1 to n has the value that solves the rules' equations
  pub rule_values_found :
      (answers gotos checkboxes t : List ℕ) (count : ℕ) (places : List ℕ) (found : List Scalar) (values : ℕ → Scalar)
      → ((a : ℕ) → 0 < a → a ≤ n → Placed rules t count places a) → Solves rules (question_value answers gotos checkboxes) values → n < room found
      → (a : ℕ) → 0 < a → a ≤ n
      → value_at (with_rules answers gotos checkboxes t count places found (take n order)) a ≡ values a
  rule_values_found answers gotos checkboxes t count places found values placed solves fits a z h =
      let u = follows.place a z h in
      let is : get_or (take n order) u.0 0 ≡ a = at u.0 u.1 ∙ u.2 in
      rw is at (values_found rules answers gotos checkboxes t count places (take n order)
      (λ i l. let r = follows.rule i (omega (arith, size)) in rw (at i (omega (arith, size))) (placed (get_or order i 0) r.0 r.1))
      ranked_ordered values solves found
      (λ i l. rw (at i (omega (arith, size))) (omega (arith, (follows.rule i (omega (arith, size))).1)))
      u.0 (omega (arith, u.1, size)))
